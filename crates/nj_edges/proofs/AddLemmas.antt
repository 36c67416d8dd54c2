-- Lemmas on a file that is named for the edge that is being read.
use Rattle.std.proofs.lemmas.Grind.{common_steps}
use Rattle.std.proofs.Common.{◌≡◌, ◌≢◌, ◌<◌, ◌+◌, ◌-◌, ◌==◌, ◌||◌, ◌⊎◌, inl, inr, ℕ, Bool, true, false, cond}
use Rattle.std.proofs.Common.{List, [], ◌∷◌, ◌++◌, length, drop, slice_get, get_or, set, Option, Some}
use Rattle.std.proofs.Common.{None, is_some, bytes_eq, refl, sym, ap, subst, ◌∙◌, true≢false, arith}
use Rattle.std.proofs.Common.{length-append}
use Rattle.std.specs.List.{IsDistinct, list_any}
use Rattle.std.proofs.Math.Bool.{or-false, or-true}
use Rattle.std.proofs.Math.Seq.{drop-length}
use Rattle.std.proofs.lemmas.Bool.Decides.{eqb_tells}
use Rattle.std.proofs.lemmas.List.{drop-append-le, length-map}
use Rattle.std.proofs.lemmas.Option.{slice_get_within, get_or_from_slice_get}
use Rattle.nj_names.proofs.ListLemmas.{among-get}
use Rattle.nj_names.specs.declared.files.FileNo.{FileNo}
use Rattle.nj_edges.specs.declared.edges.EdgeRow.{EdgeRow}
use Rattle.nj_edges.specs.declared.edges.KindEnds.{KindEnds}
use Rattle.nj_edges.specs.Edges.{first_edge, is_among}
use Rattle.nj_edges.specs.Inside.EdgesHeld.{IsNamed}
use Rattle.nj_edges.specs.Inside.EdgesHeld.{Lists, within, table_of, with_maker, with_row, is_edge}
use Rattle.nj_edges.specs.Inside.EdgesHeld.{is_made_by}
use Rattle.nj_edges.specs.Inside.EdgesHeld.{has_number, AreNumbers, AreNamed, OpenAreNew, read_outputs}
use Rattle.nj_edges.specs.Inside.EdgesHeld.{output_rows, EdgesAreHeld, TableIsHeld}
use Rattle.nj_edges.specs.EdgeTables.{EdgeTable, naming, EndWithin, plus_output, plus_input, plus_validation}
use Rattle.nj_edges.specs.EdgeTables.{with_output, with_input, with_validation, is_made}
use Rattle.nj_names.specs.NameTables.{with_name}
use Rattle.nj_names.specs.Files.{path_at}
use Rattle.nj_edges.proofs.EdgeLemmas.{get-path, first-last, first-more, has-push, held-ended}
use Rattle.nj_edges.proofs.EdgeLemmas.{held-inputs, held-new, held-output, held-validations, IsNew, IsOld}
use Rattle.nj_edges.proofs.EdgeLemmas.{made-at, named-cases, none-front, open-among, read-same, table-input}
use Rattle.nj_edges.proofs.EdgeLemmas.{table-named, table-output, table-validation, unmade}
use Rattle.nj_edges.proofs.GraphLemmas.{first-below}

-- ---- tests

or-more-1 : (a b c d : Bool) → (a || b || c) ≡ true → ((a || d) || b || c) ≡ true
or-more-1 true b c d h = refl
or-more-1 false b c true h = refl
or-more-1 false b c false h = h

or-more-2 : (a b c d : Bool) → (a || b || c) ≡ true → (a || (b || d) || c) ≡ true
or-more-2 true b c d h = refl
or-more-2 false true c d h = refl
or-more-2 false false c true h = refl
or-more-2 false false c false h = h

or-more-3 : (a b c d : Bool) → (a || b || c) ≡ true → (a || b || (c || d)) ≡ true
or-more-3 true b c d h = refl
or-more-3 false true c d h = refl
or-more-3 false false c d h = ap (λ t. t || d) h

pub same-number : (n : ℕ) → (n == n) ≡ true
same-number n = grind (arith, common_steps)

has-last : (ns : List FileNo) (f : FileNo) → has_number f.0 (ns ++ f ∷ []) ≡ true
has-last ns f = has-push f.0 ns f ∙ ap (λ b. has_number f.0 ns || b) (same-number f.0)
    ∙ or-true (has_number f.0 ns)

-- ---- a row of the makers

last-edge : {E : Type 0} (test : E → Bool) (es : List E) (e : E) → (test e ≡ true → first_edge test es ≡ None)
    → is_edge (first_edge test (es ++ e ∷ [])) (length es) ≡ test e
last-edge test es e new = by (test e) refl
  where
    apart : (m : ℕ) → ((m == length es) ≡ true × (m ≡ length es))
        ⊎ ((m == length es) ≡ false × (m ≢ length es)) → m < length es → (m == length es) ≡ false
    apart m (inl same) less = let e' : m ≡ length es = same.1 in absurd (omega arith)
    apart m (inr differ) less = differ.0

    other : (o : Option ℕ) → ((m : ℕ) → o ≡ Some m → m < length es) → is_edge o (length es) ≡ false
    other None below = refl
    other (Some m) below = apart m (eqb_tells m (length es)) (below m refl)

    by : (b : Bool) → test e ≡ b → is_edge (first_edge test (es ++ e ∷ [])) (length es) ≡ b
    by true passes = ap (λ o. is_edge o (length es)) (first-last test es e (new passes) passes)
        ∙ same-number (length es)
    by false fails = ap (λ o. is_edge o (length es)) (first-more test es e fails)
        ∙ other (first_edge test es) (first-below test es)

-- a number among numbers of files is the number of a file
has-below : (count n : ℕ) (ns : List FileNo) → AreNumbers count ns → has_number n ns ≡ true → n < count
has-below count n [] are h = absurd (true≢false (sym h))
has-below count n (f ∷ ns) are h = grind (arith, common_steps, (has-below count n ns are.1))

-- ---- the list of makers

-- where the file's number is the number of the next maker, it is new
pub maker-then : (files : List (List ℕ)) (path : List ℕ) (makers : List (Option ℕ)) (n : ℕ)
    → length makers ≡ length files → slice_get (with_name files path) n ≡ Some path → n ≡ length makers
    → makers ++ None ∷ [] ≡ with_maker files path makers
maker-then files path makers n count here next = grind (arith, slice_get_within)

pub maker-else : (files : List (List ℕ)) (path : List ℕ) (makers : List (Option ℕ)) (n : ℕ)
    → length makers ≡ length files → slice_get (with_name files path) n ≡ Some path → (n ≡ length makers → ⊥)
    → makers ≡ with_maker files path makers
maker-else files path makers n count here apart = by (named-cases files path n here)
  where
    same : (b : Bool) → list_any (bytes_eq path) files ≡ b → (b ≡ false → ⊥)
        → makers ≡ cond (list_any (bytes_eq path) files) makers (makers ++ None ∷ [])
    same true e none = ap (λ b. cond b makers (makers ++ None ∷ [])) (sym e)
    same false e none = absurd (none refl)

    by : IsNew files path n ⊎ IsOld files path n → makers ≡ with_maker files path makers
    by (inl new) = absurd (apart (new.last ∙ sym count))
    by (inr old) = same (list_any (bytes_eq path) files) refl (λ absent.
        let grown : length files ≡ length files + 1 =
        ap length (sym old.same ∙ ap (λ b. cond b files (files ++ path ∷ [])) absent)
        ∙ length-append files (path ∷ []) in omega arith)

-- ---- the whole after a name

module _ (files : List (List ℕ)) (l : Lists) (held : TableIsHeld files l) (path : List ℕ)
    (fs : List (List ℕ)) (ms : List (Option ℕ)) (f : FileNo)
    (now : IsNamed files l.makers path fs ms f) (t : EdgeTable) (is : table_of files l ≡ t) where
  as-held : (b : Bool) → list_any (bytes_eq path) files ≡ b
      → (fs ≡ cond b files (files ++ path ∷ [])) × (ms ≡ cond b l.makers (l.makers ++ None ∷ []))
  as-held b e = grind (arith, common_steps)

  -- the lists with the makers that they have now
  abbrev named : Lists
  named = record l { makers = ms }

  held-name : EdgesAreHeld fs named
  held-name = by (list_any (bytes_eq path) files) refl
    where
      as-two : (xs : List (List ℕ)) (ys : List (Option ℕ)) → (fs ≡ xs) × (ms ≡ ys)
          → EdgesAreHeld xs (record l { makers = ys }) → EdgesAreHeld fs named
      as-two xs ys same h = rw (same.0, same.1) h

      by : (b : Bool) → list_any (bytes_eq path) files ≡ b → EdgesAreHeld fs named
      by true e = as-two files l.makers (as-held true e) held.edges_are
      by false e = as-two (files ++ path ∷ []) (l.makers ++ None ∷ []) (as-held false e)
          (held-new files l held.edges_are path
          (subst (IsDistinct bytes_eq) (as-held false e).0 now.distinct))

  table-name : table_of fs l ≡ naming t path
  table-name = grind (arith, table-named)

  cases : IsNew files path f.0 ⊎ IsOld files path f.0
  cases = named-cases files path f.0 (ap (λ xs. slice_get xs f.0) (sym now.files_are) ∙ now.number)

  within-files : f.0 < length fs
  within-files = slice_get_within fs f.0 path now.number

  pub within-all : f.0 < length ms
  within-all = subst (λ k. f.0 < k) (sym held-name.makers_count) within-files

  -- a file existed before, or it is the file that is named
  old-or-named : (m : ℕ) → m < length fs → (m < length files) ⊎ (m ≡ f.0)
  old-or-named m below = by cases
    where
      last : length fs ≡ length files + 1 → f.0 ≡ length files
          → ((m == f.0) ≡ true × (m ≡ f.0)) ⊎ ((m == f.0) ≡ false × (m ≢ f.0))
          → (m < length files) ⊎ (m ≡ f.0)
      last count end (inl same) = inr same.1
      last count end (inr apart) = let differ : m ≢ f.0 = apart.1 in inl (omega arith)

      by : IsNew files path f.0 ⊎ IsOld files path f.0 → (m < length files) ⊎ (m ≡ f.0)
      by (inl new) = last (ap length (now.files_are ∙ new.grown) ∙ length-append files (path ∷ [])) new.last
          (eqb_tells m f.0)
      by (inr old) = inl (subst (λ xs. m < length xs) (now.files_are ∙ old.same) below)

  -- whether an edge of the lists names a file
  abbrev names : (k : Lists) → (m : ℕ) → Bool
  names k m = has_number m k.outputs || has_number m k.inputs || has_number m k.validations

  named-more : (k : Lists) → ((m : ℕ) → names l m ≡ true → names k m ≡ true) → names k f.0 ≡ true
      → AreNamed (length fs) k
  named-more k keeps one m below = by (old-or-named m below)
    where
      by : (m < length files) ⊎ (m ≡ f.0) → names k m ≡ true
      by (inl old) = keeps m (held.named m old)
      by (inr same) = subst (λ n. names k n ≡ true) (sym same) one

  -- ---- an input

  abbrev with_inputs : Lists
  with_inputs = record named { inputs = l.inputs ++ f ∷ [] }

  pub input-table : table_of fs with_inputs ≡ with_input t path
  input-table = table-input fs named held-name f path now.number ∙ ap (λ u. plus_input u path) table-name

  pub input-held : TableIsHeld fs with_inputs
  input-held = record {
    edges_are = held-inputs fs named held-name (f ∷ []) (within-files, tt);
    open_are_new = held.open_are_new;
    named = named-more with_inputs
        (λ m h. ap (λ b. has_number m l.outputs || b || has_number m l.validations) (has-push m l.inputs f)
        ∙ or-more-2 (has_number m l.outputs) (has_number m l.inputs) (has_number m l.validations) (m == f.0)
        h)
        (ap (λ b. has_number f.0 l.outputs || b || has_number f.0 l.validations) (has-last l.inputs f)
        ∙ ap (λ b. b || has_number f.0 l.validations) (or-true (has_number f.0 l.outputs)));
  }

  -- ---- a validation

  abbrev with_validations : Lists
  with_validations = record named { validations = l.validations ++ f ∷ [] }

  pub validation-table : table_of fs with_validations ≡ with_validation t path
  validation-table = table-validation fs named held-name f path now.number
      ∙ ap (λ u. plus_validation u path) table-name

  pub validation-held : TableIsHeld fs with_validations
  validation-held = record {
    edges_are = held-validations fs named held-name (f ∷ []) (within-files, tt);
    open_are_new = held.open_are_new;
    named = named-more with_validations
        (λ m h. ap (λ b. has_number m l.outputs || has_number m l.inputs || b) (has-push m l.validations f)
        ∙ or-more-3 (has_number m l.outputs) (has_number m l.inputs) (has_number m l.validations) (m == f.0)
        h)
        (ap (λ b. has_number f.0 l.outputs || has_number f.0 l.inputs || b) (has-last l.validations f)
        ∙ or-true (has_number f.0 l.outputs || has_number f.0 l.inputs));
  }

  -- ---- a file that was there

  same-files : f.0 < length files → (fs ≡ files) × (ms ≡ l.makers)
  same-files below = by (list_any (bytes_eq path) files) refl cases
    where
      by : (b : Bool) → list_any (bytes_eq path) files ≡ b → IsNew files path f.0 ⊎ IsOld files path f.0
          → (fs ≡ files) × (ms ≡ l.makers)
      by true e known = as-held true e
      by false e (inl new) = let end : f.0 ≡ length files = new.last in absurd (omega arith)
      by false e (inr old) =
          let grown : length files ≡ length files + 1 =
          ap length (sym old.same ∙ ap (λ c. cond c files (files ++ path ∷ [])) e)
          ∙ length-append files (path ∷ []) in absurd (omega arith)

  -- a file with a maker was there
  made-before : (found : Option ℕ) → found ≡ get_or ms f.0 None → is_some found ≡ true → f.0 < length files
  made-before found found-is some = grind (arith, common_steps)

  same-table : f.0 < length files → TableIsHeld fs named × (table_of fs l ≡ t)
  same-table below = let same = same-files below in
      (rw (same.0, same.1) held, ap (λ xs. table_of xs l) same.0 ∙ is)

  -- a file with a maker: nothing changes
  pub made-table : (found : Option ℕ) → found ≡ get_or ms f.0 None → is_some found ≡ true
      → table_of fs l ≡ t
  made-table found found-is some = (same-table (made-before found found-is some)).1

  pub made-held : (found : Option ℕ) → found ≡ get_or ms f.0 None → is_some found ≡ true
      → TableIsHeld fs named
  made-held found found-is some = (same-table (made-before found found-is some)).0

  -- whether it has a maker
  pub made-is : (found : Option ℕ) → found ≡ get_or ms f.0 None → is_some found ≡ is_made t path
  made-is found found-is = made-at fs named held-name f.0 path now.number found
      found-is ∙ ap (λ u. is_made u path) table-name

  -- ---- an output

  module _ (found : Option ℕ) (found-is : found ≡ get_or ms f.0 None) (none : is_some found ≡ false) where
    unmade-now : first_edge (has_number f.0) (output_rows l) ≡ None
    unmade-now = unmade fs named held-name f within-files found found-is none

    abbrev with_outputs : Lists
    with_outputs = record l { makers = set ms f.0 (Some (length l.rows)); outputs = l.outputs ++ f ∷ [] }

    pub output-table : table_of fs with_outputs ≡ with_output t path
    output-table = table-output fs named held-name f path now.number ∙ ap (λ u. plus_output u path) table-name

    output-new : OpenAreNew with_outputs
    output-new m has = ap (first_edge (has_number m)) (read-same fs named held-name (f ∷ []))
        ∙ by (eqb_tells m f.0)
      where
        next : List FileNo
        next = drop l.starts.outputs l.outputs

        has' : (has_number m next || (m == f.0)) ≡ true
        has' = sym (ap (has_number m) (drop-append-le l.starts.outputs l.outputs (f ∷ [])
            held.edges_are.outputs.starts) ∙ has-push m next f) ∙ has

        by : ((m == f.0) ≡ true × (m ≡ f.0)) ⊎ ((m == f.0) ≡ false × (m ≢ f.0))
            → first_edge (has_number m) (read_outputs l) ≡ None
        by (inl same) = subst (λ k. first_edge (has_number k) (read_outputs l) ≡ None) (sym same.1)
            (none-front (has_number f.0) (read_outputs l) next unmade-now)
        by (inr apart) = held.open_are_new m (sym (or-false (has_number m next))
            ∙ sym (ap (λ b. has_number m next || b) apart.0) ∙ has')

    pub output-held : TableIsHeld fs with_outputs
    output-held = record {
      edges_are = held-output fs named held-name f within-files unmade-now;
      open_are_new = output-new;
      named = named-more with_outputs
          (λ m h. ap (λ b. b || has_number m l.inputs || has_number m l.validations) (has-push m l.outputs f)
          ∙ or-more-1 (has_number m l.outputs) (has_number m l.inputs) (has_number m l.validations) (m == f.0)
          h)
          (ap (λ b. b || has_number f.0 l.inputs || has_number f.0 l.validations) (has-last l.outputs f));
    }

  -- ---- a file that the edge makes itself

  pub own-number : is_made_by ms f.0 (length l.rows) ≡ has_number f.0 (drop l.starts.outputs l.outputs)
  own-number =
      ap (λ o. is_edge o (length l.rows)) (get_or_from_slice_get ms f.0
      (first_edge (has_number f.0) (output_rows l)) None
      (held-name.makers_are f.0 within-all))
      ∙ ap (is_edge (first_edge (has_number f.0) (output_rows l)))
      (sym (length-map l.rows (λ (row : EdgeRow). within l.outputs row.outputs)))
      ∙ last-edge (has_number f.0) (read_outputs l)
      (drop l.starts.outputs l.outputs) (held.open_are_new f.0)

  own-is : is_made_by ms f.0 (length l.rows) ≡ is_among t.«open».outputs path
  own-is = own-number ∙ open-among fs named held-name f.0 path now.number
      ∙ ap (λ u. is_among u.«open».outputs path) table-name

  own-before : is_made_by ms f.0 (length l.rows) ≡ true → f.0 < length files
  own-before own = grind (arith, common_steps)

  pub own-table : is_made_by ms f.0 (length l.rows) ≡ true
      → table_of fs l
      ≡ cond (is_among t.«open».outputs path) t (with_input t path)
  own-table own = (same-table (own-before own)).1 ∙ ap (λ b. cond b t (with_input t path)) (sym own ∙ own-is)

  pub own-held : is_made_by ms f.0 (length l.rows) ≡ true
      → TableIsHeld fs named
  own-held own = (same-table (own-before own)).0

  pub other-table : is_made_by ms f.0 (length l.rows) ≡ false
      → table_of fs with_inputs ≡ cond (is_among t.«open».outputs path) t (with_input t path)
  other-table other = input-table ∙ ap (λ b. cond b t (with_input t path)) (sym other ∙ own-is)

-- ---- an input whose file was there

module _ (files : List (List ℕ)) (l : Lists) (held : TableIsHeld files l) (f : FileNo) (t : EdgeTable)
    (is : table_of files l ≡ t) where
  abbrev more_inputs : Lists
  more_inputs = record l { inputs = l.inputs ++ f ∷ [] }

  module _ (path : List ℕ) (here' : slice_get t.files f.0 ≡ Some path) where
    stays : IsNamed files l.makers path files l.makers f
    stays =
        let here = ap (λ (u : EdgeTable). slice_get u.files f.0) is ∙ here' in
        let known : list_any (bytes_eq path) files ≡ true = among-get files f.0 path here in record {
          files_are = sym (ap (λ b. cond b files (files ++ path ∷ [])) known);
          makers_are = sym (ap (λ b. cond b l.makers (l.makers ++ None ∷ [])) known);
          distinct = held.edges_are.distinct;
          number = here;
        }

    pub known-table : table_of files more_inputs ≡ with_input t path
    known-table = input-table files l held path files l.makers f stays t is

    pub known-own-table : is_made_by l.makers f.0 (length l.rows) ≡ true
        → t ≡ cond (is_among t.«open».outputs path) t (with_input t path)
    known-own-table own = sym is ∙ own-table files l held path files l.makers f stays t is own

    pub known-other-table : is_made_by l.makers f.0 (length l.rows) ≡ false
        → table_of files more_inputs ≡ cond (is_among t.«open».outputs path) t (with_input t path)
    known-other-table other = other-table files l held path files l.makers f stays t is other

  pub known-within : f.0 < length t.files → f.0 < length l.makers
  known-within below = subst (λ k. f.0 < k) (sym held.edges_are.makers_count)
      (subst (λ (u : EdgeTable). f.0 < length u.files) (sym is) below)

  pub known-held : f.0 < length t.files → TableIsHeld files more_inputs
  known-held below =
      let path = path_at t.files f in
      let here' : slice_get t.files f.0 ≡ Some path = get-path t.files f below in
      input-held files l held path files l.makers f (stays path here') t is

-- ---- the end of an edge

pub ended-held : (files : List (List ℕ)) (l : Lists) → TableIsHeld files l → (kinds : KindEnds)
    (is_phony : Bool) → EndWithin kinds (length l.outputs - l.starts.outputs)
    (length l.inputs - l.starts.inputs)
    → TableIsHeld files (with_row l kinds is_phony)
ended-held files l held kinds is_phony fits = grind (arith, drop-length, held-ended, true≢false)
