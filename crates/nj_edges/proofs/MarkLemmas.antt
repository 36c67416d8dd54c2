-- Lemmas on files that are marked with the edges that have them as explicit or implicit inputs.
use Rattle.std.proofs.Common.{◌≡◌, ◌≢◌, ◌<◌, ◌≤◌, ◌+◌, ◌==◌, ◌||◌, ◌⊎◌, inl, inr, ℕ, zero, suc, Bool, true}
use Rattle.std.proofs.Common.{false, cond, if◌then◌else◌, List, [], ◌∷◌, ◌++◌, map, length, slice_get}
use Rattle.std.proofs.Common.{slice_index_or, set, replicate, Option, Some, None, unwrap_or, bytes_eq, refl}
use Rattle.std.proofs.Common.{sym, ap, subst, ◌∙◌, true≢false, arith, append-nil, append_assoc, length-append}
use Rattle.std.specs.List.{IsDistinct}
use Rattle.std.proofs.Math.Bool.{or-false, or-true}
use Rattle.std.proofs.lemmas.Bool.{cases_lt, ne_eqb}
use Rattle.std.proofs.lemmas.Bool.Decides.{eqb_tells}
use Rattle.std.proofs.lemmas.List.{get_or-set_other, get_or-set_same, get_or_append_left, get_or_past}
use Rattle.std.proofs.lemmas.List.{length-replicate, length-set}
use Rattle.std.proofs.lemmas.Option.{get_or_from_slice_get, unwrap_or-slice_get}
use Rattle.std.proofs.lemmas.List.Folds.{list_any-append}
use Rattle.std.proofs.lemmas.Map.Keys.{IsDistinct-push}
use Rattle.std.proofs.lemmas.Cmp.{nat_list_eq_equiv}
use Rattle.std.proofs.lemmas.Slice.Eq.{bytes_eq-Decides}
use Rattle.nj_names.proofs.ListLemmas.{among-get, get-last}
use Rattle.nj_names.specs.declared.files.FileNo.{FileNo}
use Rattle.nj_edges.specs.EdgeGraphs.{EdgeGraph}
use Rattle.nj_edges.specs.Edges.{counted_inputs_of, edge_at, is_among}
use Rattle.nj_edges.specs.Inside.EdgesHeld.{AreNumbers, has_number, is_edge, paths_at}
use Rattle.nj_names.specs.Files.{AreFiles, path_at}
use Rattle.nj_names.specs.NameTables.{with_name}
use Rattle.nj_edges.specs.Joining.{JoinTable, changed_at, is_joined, join_of, none_added, with_added_input}
use Rattle.nj_edges.specs.Joining.{with_joined}
use Rattle.nj_edges.specs.MoreInputs.{InputTable, inputs_so_far, with_new_input}
use Rattle.nj_edges.specs.Inside.MarksHeld.{AreMarked, MarksInputs, is_marked}
use Rattle.nj_edges.proofs.AddLemmas as add
use Rattle.nj_edges.proofs.EdgeLemmas.{get-path, has-among, same-number}

-- ---- lists

paths-are : (files : List (List ℕ)) (numbers : List FileNo) (paths : List (List ℕ))
    → AreFiles files numbers paths → paths_at files numbers ≡ paths
paths-are files numbers paths are =
    sym (map-map numbers) ∙ ap (map (λ (o : Option (List ℕ)). unwrap_or o [])) are ∙ back paths
  where
    map-map : (ns : List FileNo) → map (λ (o : Option (List ℕ)). unwrap_or o [])
        (map (λ (f : FileNo). slice_get files f.0) ns) ≡ paths_at files ns
    map-map [] = refl
    map-map (n ∷ ns) = ap (λ ps. path_at files n ∷ ps) (map-map ns)

    back : (ps : List (List ℕ)) → map (λ (o : Option (List ℕ)). unwrap_or o []) (map Some ps) ≡ ps
    back [] = refl
    back (p ∷ ps) = ap (λ qs. p ∷ qs) (back ps)

-- the path of a known file is among the paths
among-at : (files : List (List ℕ)) (f : FileNo) (path : List ℕ) → f.0 < length files
    → bytes_eq path (path_at files f) ≡ true → is_among files path ≡ true
among-at files f path below same =
    subst (λ p. is_among files p ≡ true) (sym ((bytes_eq-Decides path (path_at files f)).0 same))
    (among-get files f.0 (path_at files f) (get-path files f below))

among-known : (files : List (List ℕ)) (numbers : List FileNo) (path : List ℕ)
    → AreNumbers (length files) numbers → is_among (paths_at files numbers) path ≡ true
    → is_among files path ≡ true
among-known files [] path are h = absurd (true≢false (sym h))
among-known files (f ∷ ns) path are h =
    by (bytes_eq path (path_at files f)) refl h (among-known files ns path are.1)
  where
    by : (b : Bool) → bytes_eq path (path_at files f) ≡ b → (b || is_among (paths_at files ns) path) ≡ true
        → (is_among (paths_at files ns) path ≡ true → is_among files path ≡ true) → is_among files path ≡ true
    by true same h more = among-at files f path are.0 same
    by false apart h more = more h

changed-other : {A : Type 0} (f : A → A) (n m : ℕ) (xs : List A) (d : A) → m ≢ n
    → slice_index_or (changed_at f n xs) m d ≡ slice_index_or xs m d
unfolding changed_at
changed-other f n m [] d apart = refl
changed-other f zero zero (x ∷ xs) d apart = absurd (apart refl)
changed-other f zero (suc m) (x ∷ xs) d apart = refl
changed-other f (suc n) zero (x ∷ xs) d apart = refl
changed-other f (suc n) (suc m) (x ∷ xs) d apart = changed-other f n m xs d (λ same. apart (ap suc same))

pub no-option : {A : Type 0} (o : Option A) → ((x : A) → o ≡ Some x → ⊥) → o ≡ None
no-option None none = refl
no-option (Some x) none = absurd (none x refl)

-- a file keeps its number
pub added-number : (t : InputTable) (path : List ℕ) (n : ℕ) → slice_get t.table.files n ≡ Some path
    → slice_get (with_new_input t path).table.files n ≡ Some path
added-number t path n here = grind (arith, among-get)

-- ---- the next edge

module _ (table : JoinTable) (edge : ℕ) (old new : List (Option ℕ))
    (distinct : IsDistinct bytes_eq table.files) (count : length old ≡ length table.files)
    (none_open : table.«open» ≡ none_added)
    (none-yet : (n e : ℕ) → edge ≤ e → is_marked old n e ≡ false)
    (not_joined : (e : ℕ) → edge ≤ e → is_joined table e ≡ false) (marks : MarksInputs table edge old new)
  where
    abbrev stated : List (List ℕ)
    stated = counted_inputs_of (edge_at table.stated edge)

    so-far : inputs_so_far (record { table = table; edge = edge }) ≡ stated
    so-far = ap (λ o. stated ++ o.inputs) none_open ∙ append-nil stated

    by-numbers : paths_at table.files marks.files ≡ stated
    by-numbers = paths-are table.files marks.files stated marks.are

    marked-is : (n e : ℕ) → is_marked new n e
        ≡ is_edge (if has_number n marks.files then Some edge else slice_index_or old n None) e
    marked-is n e = ap (λ o. is_edge o e) (marks.marked.1 n)

    tells : (f : FileNo) → f.0 < length table.files
        → is_marked new f.0 edge ≡ is_among stated (path_at table.files f)
    tells f below =
        marked-is f.0 edge ∙ by (has_number f.0 marks.files)
        ∙ has-among table.files distinct f.0 (path_at table.files f) (get-path table.files f below)
        marks.files
        marks.known
        ∙ ap (λ ps. is_among ps (path_at table.files f)) by-numbers
      where
        by : (b : Bool) → is_edge (if b then Some edge else slice_index_or old f.0 None) edge ≡ b
        by true = add.same-number edge
        by false = none-yet f.0 edge (omega arith)

    pub marks-next : AreMarked (record { table = table; edge = edge }) new
    marks-next = record {
      distinct = distinct;
      count = marks.marked.0 ∙ count;
      tell = λ f below. tells f below ∙ ap (λ ps. is_among ps (path_at table.files f)) (sym so-far);
      known = λ path h. among-known table.files marks.files path marks.known
          (ap (λ ps. is_among ps path) (by-numbers ∙ sym so-far) ∙ h);
      later = λ n e more. marked-is n e ∙ later n e more (has_number n marks.files);
      not_joined = not_joined;
    }
      where
        later : (n e : ℕ) → edge < e → (b : Bool)
            → is_edge (if b then Some edge else slice_index_or old n None) e ≡ false
        later n e more true = ne_eqb edge e (λ same. omega (arith, same, more))
        later n e more false = none-yet n e (omega (arith, more))

-- no file is marked
abbrev no-mark : Option ℕ
no-mark = None

none-at : (k m : ℕ) → slice_index_or (replicate k no-mark) m no-mark ≡ no-mark
none-at zero m = refl
none-at (suc k) zero = refl
none-at (suc k) (suc m) = none-at k m

none-marked : (count n e : ℕ) → is_marked (replicate count no-mark) n e ≡ false
none-marked count n e = ap (λ o. is_edge o e) (none-at count n)

none-joined : {A : Type 0} (xs : List A) (n : ℕ) → slice_index_or (map (λ x. false) xs) n false ≡ false
none-joined [] n = refl
none-joined (x ∷ xs) zero = refl
none-joined (x ∷ xs) (suc n) = none-joined xs n

-- nothing was added to any edge of a graph
pub start-marks : (g : EdgeGraph) (old new : List (Option ℕ)) → IsDistinct bytes_eq g.files
    → old ≡ replicate (length g.files) None → MarksInputs (join_of g) 0 old new
    → AreMarked (record { table = join_of g; edge = 0 }) new
start-marks g old new distinct old_is marks =
    marks-next (join_of g) 0 old new distinct (ap length old_is ∙ length-replicate (length g.files) None) refl
    (λ n e least. ap (λ ms. is_marked ms n e) old_is ∙ none-marked (length g.files) n e)
    (λ e least. none-joined g.edges e) marks

module _ (t : InputTable) (marks : List (Option ℕ)) (are : AreMarked t marks) where
  -- the edge is ended
  pub next-marks : (table : JoinTable) (edge : ℕ) (new : List (Option ℕ)) → table ≡ with_joined t.table t.edge
      → edge ≡ t.edge + 1 → MarksInputs table edge marks new
      → AreMarked (record { table = table; edge = edge }) new
  next-marks table edge new table_is edge_is marked =
      marks-next table edge marks new (subst (λ (u : JoinTable). IsDistinct bytes_eq u.files) (sym table_is)
      are.distinct) (are.count ∙ ap (λ (u : JoinTable). length u.files) (sym table_is))
      (ap (λ (u : JoinTable). u.«open») table_is)
      (λ n e least. are.later n e (omega (arith, edge_is, least)))
      (λ e least. ap (λ (u : JoinTable). is_joined u e) table_is
      ∙ changed-other (λ was. true) t.edge e t.table.was_joined false
      (λ same. omega (arith, edge_is, same, least)) ∙ are.not_joined e (omega (arith, edge_is, least)))
      marked

  -- ---- an input that the edge has

  module _ (path : List ℕ) where
    among-more : (p : List ℕ) → is_among (inputs_so_far (record t { table = with_added_input t.table path }))
        p ≡ (is_among (inputs_so_far t) p || bytes_eq p path)
    among-more p =
        ap (λ ps. is_among ps p) (sym (append_assoc (counted_inputs_of (edge_at t.table.stated t.edge))
        t.table.«open».inputs (path ∷ [])))
        ∙ list_any-append (bytes_eq p) (inputs_so_far t) (path ∷ [])
        ∙ ap (λ b. is_among (inputs_so_far t) p || b) (or-false (bytes_eq p path))

    grown : is_among t.table.files path ≡ true → with_name t.table.files path ≡ t.table.files
    grown h = ap (λ b. cond b t.table.files (t.table.files ++ path ∷ [])) h

    longer : is_among t.table.files path ≡ false → with_name t.table.files path ≡ t.table.files ++ path ∷ []
    longer h = ap (λ b. cond b t.table.files (t.table.files ++ path ∷ [])) h

    -- ---- a file that is known

    module _ (g : FileNo) (below : g.0 < length t.table.files)
        (here : slice_get t.table.files g.0 ≡ Some path) where
      pub among-here : is_among t.table.files path ≡ true
      among-here = among-get t.table.files g.0 path here

      at-here : path_at t.table.files g ≡ path
      at-here = same-some (sym (get-path t.table.files g below) ∙ here)
        where
          same-some : {x y : List ℕ} → Some x ≡ Some y → x ≡ y
          same-some {x = x} h = ap (λ o. unwrap_or o x) h

      own-mark : is_marked (set marks g.0 (Some t.edge)) g.0 t.edge ≡ true
      own-mark = ap (λ o. is_edge o t.edge)
          (get_or-set_same marks g.0 (Some t.edge) None (subst (λ n. g.0 < n) (sym are.count) below))
          ∙ add.same-number t.edge

      other-mark : (n e : ℕ) → n ≢ g.0 → is_marked (set marks g.0 (Some t.edge)) n e ≡ is_marked marks n e
      other-mark n e apart = ap (λ o. is_edge o e) (get_or-set_other marks g.0 n (Some t.edge) None apart)

      tells-known : (f : FileNo) → f.0 < length t.table.files
          → is_marked (set marks g.0 (Some t.edge)) f.0 t.edge
          ≡ (is_among (inputs_so_far t) (path_at t.table.files f) || bytes_eq (path_at t.table.files f) path)
      tells-known f inside = by (eqb_tells f.0 g.0)
        where
          same : (f.0 == g.0) ≡ bytes_eq (path_at t.table.files f) path
          same = same-number t.table.files are.distinct f.0 (path_at t.table.files f)
              (get-path t.table.files f inside) g below ∙ ap (bytes_eq (path_at t.table.files f)) at-here

          by : ((f.0 == g.0) ≡ true × (f.0 ≡ g.0)) ⊎ ((f.0 == g.0) ≡ false × (f.0 ≢ g.0))
              → is_marked (set marks g.0 (Some t.edge)) f.0 t.edge
              ≡ (is_among (inputs_so_far t) (path_at t.table.files f)
              || bytes_eq (path_at t.table.files f) path)
          by (inl (same-no, is)) =
              ap (λ n. is_marked (set marks g.0 (Some t.edge)) n t.edge) is ∙ own-mark
              ∙ sym (ap (λ b. is_among (inputs_so_far t) (path_at t.table.files f) || b) (sym same ∙ same-no)
              ∙ or-true (is_among (inputs_so_far t) (path_at t.table.files f)))
          by (inr (other, apart)) =
              other-mark f.0 t.edge apart ∙ are.tell f inside
              ∙ sym (ap (λ b. is_among (inputs_so_far t) (path_at t.table.files f) || b) (sym same ∙ other)
              ∙ or-false (is_among (inputs_so_far t) (path_at t.table.files f)))

      pub marks-known : (table : JoinTable) → table ≡ with_added_input t.table path
          → AreMarked (record { table = table; edge = t.edge }) (set marks g.0 (Some t.edge))
      marks-known table is = subst (λ u. AreMarked (record { table = u; edge = t.edge })
          (set marks g.0 (Some t.edge))) (sym is)
          (subst (λ fs. AreMarked (record {
            table = record (with_added_input t.table path) { files = fs };
            edge = t.edge;
          }) (set marks g.0 (Some t.edge))) (sym (grown among-here)) marked)
        where
          later-mark : (n e : ℕ) → t.edge < e
              → ((n == g.0) ≡ true × (n ≡ g.0)) ⊎ ((n == g.0) ≡ false × (n ≢ g.0))
              → is_marked (set marks g.0 (Some t.edge)) n e ≡ false
          later-mark n e more (inl (same-no, is)) =
              ap (λ m. is_marked (set marks g.0 (Some t.edge)) m e) is
              ∙ ap (λ o. is_edge o e) (get_or-set_same marks g.0 (Some t.edge) None
              (subst (λ m. g.0 < m) (sym are.count) below))
              ∙ ne_eqb t.edge e (λ same. omega (arith, same, more))
          later-mark n e more (inr (other, apart)) = other-mark n e apart ∙ are.later n e more

          knows : (p : List ℕ) → (a b : Bool) → (a ≡ true → is_among t.table.files p ≡ true)
              → (b ≡ true → p ≡ path) → (a || b) ≡ true → is_among t.table.files p ≡ true
          knows p true b first last h = first refl
          knows p false true first last h = ap (is_among t.table.files) (last refl) ∙ among-here
          knows p false false first last h = absurd (true≢false (sym h))

          marked : AreMarked (record {
            table =
                record (with_added_input t.table path) { files = t.table.files };
            edge = t.edge;
          })
              (set marks g.0 (Some t.edge))
          marked = record {
            distinct = are.distinct;
            count = length-set marks g.0 (Some t.edge) ∙ are.count;
            tell = λ f inside. tells-known f inside ∙ sym (among-more (path_at t.table.files f));
            known = λ p h. knows p (is_among (inputs_so_far t) p) (bytes_eq p path) (are.known p)
                (bytes_eq-Decides p path).0 (sym (among-more p) ∙ h);
            later = λ n e more. later-mark n e more (eqb_tells n g.0);
            not_joined = are.not_joined;
          }

    -- ---- a file that is new

    module _ (absent : is_among t.table.files path ≡ false) where
      abbrev more-marks : List (Option ℕ)
      more-marks = marks ++ Some t.edge ∷ []

      abbrev more-files : List (List ℕ)
      more-files = t.table.files ++ path ∷ []

      last-mark : slice_index_or more-marks (length t.table.files) None ≡ Some t.edge
      last-mark = get_or_from_slice_get more-marks (length t.table.files) (Some t.edge) None
          (ap (slice_get more-marks) (sym are.count) ∙ get-last marks (Some t.edge))

      front-mark : (n : ℕ) → n < length t.table.files
          → slice_index_or more-marks n None ≡ slice_index_or marks n None
      front-mark n inside = get_or_append_left marks (Some t.edge ∷ []) None n
          (subst (λ m. n < m) (sym are.count) inside)

      front-path : (f : FileNo) → f.0 < length t.table.files → path_at more-files f ≡ path_at t.table.files f
      front-path f inside = unwrap_or-slice_get more-files f.0 []
          ∙ get_or_append_left t.table.files (path ∷ []) [] f.0 inside
          ∙ sym (unwrap_or-slice_get t.table.files f.0 [])

      last-path : (f : FileNo) → f.0 ≡ length t.table.files → path_at more-files f ≡ path
      last-path f is = ap (λ n. unwrap_or (slice_get more-files n) []) is
          ∙ ap (λ o. unwrap_or o []) (get-last t.table.files path)

      apart-path : (f : FileNo) → f.0 < length t.table.files → bytes_eq (path_at t.table.files f) path ≡ false
      apart-path f inside = by (bytes_eq (path_at t.table.files f) path)
          (bytes_eq-Decides (path_at t.table.files f) path).0
        where
          by : (b : Bool) → (b ≡ true → path_at t.table.files f ≡ path) → b ≡ false
          by true same = absurd (true≢false (sym
              (among-get t.table.files f.0 path (get-path t.table.files f inside ∙ ap Some (same refl)))
              ∙ absent))
          by false same = refl

      tells-new : (f : FileNo) → f.0 < length more-files
          → is_marked more-marks f.0 t.edge ≡ (is_among (inputs_so_far t) (path_at more-files f)
          || bytes_eq (path_at more-files f) path)
      tells-new f inside = by (eqb_tells f.0 (length t.table.files))
        where
          by : ((f.0 == length t.table.files) ≡ true × (f.0 ≡ length t.table.files))
              ⊎ ((f.0 == length t.table.files) ≡ false × (f.0 ≢ length t.table.files))
              → is_marked more-marks f.0 t.edge ≡ (is_among (inputs_so_far t) (path_at more-files f)
              || bytes_eq (path_at more-files f) path)
          by (inl (same-no, is)) =
              ap (λ n. is_marked more-marks n t.edge) is ∙ ap (λ o. is_edge o t.edge) last-mark
              ∙ add.same-number t.edge
              ∙ sym (ap (λ b. is_among (inputs_so_far t) (path_at more-files f) || b)
              ((bytes_eq-Decides (path_at more-files f) path).1 (last-path f is))
              ∙ or-true (is_among (inputs_so_far t) (path_at more-files f)))
          by (inr (other, apart)) =
              let front : f.0 < length t.table.files =
              omega (arith, apart, inside, length-append t.table.files (path ∷ [])) in
              ap (λ o. is_edge o t.edge) (front-mark f.0 front) ∙ are.tell f front
              ∙ sym (ap (λ p. is_among (inputs_so_far t) p || bytes_eq p path) (front-path f front)
              ∙ ap (λ b. is_among (inputs_so_far t) (path_at t.table.files f) || b) (apart-path f front)
              ∙ or-false (is_among (inputs_so_far t) (path_at t.table.files f)))

      pub marks-new : (table : JoinTable) → table ≡ with_added_input t.table path
          → AreMarked (record { table = table; edge = t.edge }) more-marks
      marks-new table is = subst (λ u. AreMarked (record { table = u; edge = t.edge }) more-marks) (sym is)
          (subst (λ fs. AreMarked (record {
            table = record (with_added_input t.table path) { files = fs };
            edge = t.edge;
          }) more-marks) (sym (longer absent)) marked)
        where
          later-mark : (n e : ℕ) → t.edge < e
              → ((n == length t.table.files) ≡ true × (n ≡ length t.table.files))
              ⊎ ((n == length t.table.files) ≡ false × (n ≢ length t.table.files))
              → is_marked more-marks n e ≡ false
          later-mark n e more (inl (same-no, is)) =
              ap (λ m. is_marked more-marks m e) is ∙ ap (λ o. is_edge o e) last-mark
              ∙ ne_eqb t.edge e (λ same. omega (arith, same, more))
          later-mark n e more (inr (other, apart)) = by (cases_lt n (length t.table.files))
            where
              by : (n < length t.table.files) ⊎ (length t.table.files ≤ n) → is_marked more-marks n e ≡ false
              by (inl front) = ap (λ o. is_edge o e) (front-mark n front) ∙ are.later n e more
              by (inr past) = ap (λ o. is_edge o e)
                  (get_or_past more-marks n None (omega
                  (arith, apart, past, are.count, length-append marks (Some t.edge ∷ []))))

          knows : (p : List ℕ) → (a b : Bool) → (a ≡ true → is_among t.table.files p ≡ true)
              → (b ≡ true → p ≡ path) → (a || b) ≡ true → (is_among t.table.files p || bytes_eq p path) ≡ true
          knows p true b first last h = ap (λ c. c || bytes_eq p path) (first refl)
          knows p false true first last h = ap (λ c. is_among t.table.files p || c)
              ((bytes_eq-Decides p path).1 (last refl)) ∙ or-true (is_among t.table.files p)
          knows p false false first last h = absurd (true≢false (sym h))

          marked : AreMarked (record {
            table = record (with_added_input t.table path) { files = more-files };
            edge = t.edge;
          }) more-marks
          marked = record {
            distinct = IsDistinct-push nat_list_eq_equiv t.table.files path are.distinct absent;
            count = length-append marks (Some t.edge ∷ []) ∙ ap (λ n. n + 1) are.count
                ∙ sym (length-append t.table.files (path ∷ []));
            tell = λ f inside. tells-new f inside ∙ sym (among-more (path_at more-files f));
            known = λ p h. list_any-append (bytes_eq p) t.table.files (path ∷ [])
                ∙ ap (λ b. is_among t.table.files p || b) (or-false (bytes_eq p path))
                ∙ knows p (is_among (inputs_so_far t) p) (bytes_eq p path) (are.known p)
                (bytes_eq-Decides p path).0 (sym (among-more p) ∙ h);
            later = λ n e more. later-mark n e more (eqb_tells n (length t.table.files));
            not_joined = are.not_joined;
          }
