-- Lemmas on edges that are held by the numbers of files.
use Rattle.std.proofs.lemmas.Grind.{common_steps}
use Rattle.std.proofs.Common.{◌≡◌, ◌≢◌, ◌<◌, ◌≤◌, ◌+◌, ◌-◌, ◌==◌, ◌||◌, ◌⊎◌, inl, inr, ℕ, zero, suc, Bool}
use Rattle.std.proofs.Common.{true, false, cond, List, [], ◌∷◌, ◌++◌, map, length, take, drop, slice_get}
use Rattle.std.proofs.Common.{get_or, Option, Some, None, is_some, option_map, unwrap_or}
use Rattle.std.proofs.Common.{bytes_eq, refl, sym, ap, subst, ◌∙◌, true≢false, arith, length-append}
use Rattle.std.proofs.Common.{length-drop, add-one, replicate, set}
use Rattle.std.specs.List.{AllByRecursion, IsDistinct, list_any, flat_map}
use Rattle.std.proofs.Math.Bool.{or-false, or-true}
use Rattle.std.proofs.lemmas.Bool.Decides.{eqb_tells}
use Rattle.std.proofs.lemmas.List.{map_push, drop-append-le, take-append-le, take-append-drop}
use Rattle.std.proofs.lemmas.List.{get_or-replicate, length-map, length-replicate, length-set}
use Rattle.std.proofs.lemmas.List.Folds.{list_any-append}
use Rattle.std.proofs.lemmas.Option.{slice_get_within, slice_get-get_or, unwrap_or-slice_get}
use Rattle.std.proofs.lemmas.Option.{get_or_from_slice_get}
use Rattle.std.proofs.lemmas.Slice.Eq.{bytes_eq-Decides}
use Rattle.nj_names.proofs.ListLemmas.{among-get, get-last, slice_range-append}
use Rattle.nj_names.specs.declared.files.FileNo.{FileNo}
use Rattle.nj_edges.specs.declared.edges.Span.{Span}
use Rattle.nj_edges.specs.declared.edges.EdgeRow.{EdgeRow}
use Rattle.nj_edges.specs.declared.edges.KindEnds.{KindEnds}
use Rattle.nj_edges.specs.Edges.{first_edge, maker_of, is_among, outputs_of}
use Rattle.nj_edges.specs.Inside.EdgesHeld.{Lists, paths_at, within, edge_of_row, edges_of, ends_of, table_of}
use Rattle.nj_edges.specs.Inside.EdgesHeld.{row_between, with_row, has_number, AreNumbers, IsWithin}
use Rattle.nj_edges.specs.Inside.EdgesHeld.{RowIsWithin, read_outputs, output_rows, HaveMakers, AreJoined}
use Rattle.nj_edges.specs.Inside.EdgesHeld.{EdgesAreHeld, PartsAreHeld, no_lists}
use Rattle.nj_edges.specs.EdgeTables.{edge_read, EdgeTable, naming, plus_output, plus_input, plus_validation}
use Rattle.nj_edges.specs.EdgeTables.{is_made, no_files, EndWithin}
use Rattle.nj_names.specs.NameTables.{with_name}
use Rattle.nj_names.specs.Files.{path_at}

-- ---- lists

pub get-append : {X : Type 0} (xs ys : List X) (i : ℕ) → i < length xs
    → slice_get (xs ++ ys) i ≡ slice_get xs i
get-append [] ys i below = absurd (omega arith)
get-append (x ∷ xs) ys zero below = refl
get-append (x ∷ xs) ys (suc i) below = get-append xs ys i (omega arith)

pub all-push : {X : Type 0} (P : X → Type 0) (xs : List X) (x : X) → AllByRecursion P xs → P x
    → AllByRecursion P (xs ++ x ∷ [])
all-push P [] x all one = (one, tt)
all-push P (y ∷ xs) x all one = (all.0, all-push P xs x all.1 one)

pub all-of : {X : Type 0} (P Q : X → Type 0) → ((x : X) → P x → Q x) → (xs : List X) → AllByRecursion P xs
    → AllByRecursion Q xs
all-of P Q step [] all = tt
all-of P Q step (x ∷ xs) all = (step x all.0, all-of P Q step xs all.1)

pub all-take : {X : Type 0} (P : X → Type 0) (n : ℕ) (xs : List X) → AllByRecursion P xs
    → AllByRecursion P (take n xs)
all-take P zero xs all = tt
all-take P (suc n) [] all = tt
all-take P (suc n) (x ∷ xs) all = (all.0, all-take P n xs all.1)

pub all-drop : {X : Type 0} (P : X → Type 0) (n : ℕ) (xs : List X) → AllByRecursion P xs
    → AllByRecursion P (drop n xs)
all-drop P zero xs all = all
all-drop P (suc n) [] all = tt
all-drop P (suc n) (x ∷ xs) all = all-drop P n xs all.1

pub all-append : {X : Type 0} (P : X → Type 0) (xs ys : List X) → AllByRecursion P xs → AllByRecursion P ys
    → AllByRecursion P (xs ++ ys)
all-append P [] ys these those = those
all-append P (x ∷ xs) ys these those = (these.0, all-append P xs ys these.1 those)

pub map-same : {X Y : Type 0} (P : X → Type 0) (f g : X → Y) → ((x : X) → P x → f x ≡ g x) → (xs : List X)
    → AllByRecursion P xs → map f xs ≡ map g xs
map-same P f g same [] all = refl
map-same P f g same (x ∷ xs) all = let first = same x all.0 in let more = map-same P f g same xs all.1 in cc

-- ---- more files

pub path_at-more : (files others : List (List ℕ)) (f : FileNo) → f.0 < length files
    → path_at (files ++ others) f ≡ path_at files f
path_at-more files others f below = ap (λ o. unwrap_or o []) (get-append files others f.0 below)

pub paths_at-more : (files others : List (List ℕ)) (ns : List FileNo) → AreNumbers (length files) ns
    → paths_at (files ++ others) ns ≡ paths_at files ns
paths_at-more files others ns are = map-same (λ f. f.0 < length files) (path_at (files ++ others))
    (path_at files) (path_at-more files others) ns are

pub within-numbers : (count : ℕ) (ns : List FileNo) (span : Span) → AreNumbers count ns
    → AreNumbers count (within ns span)
within-numbers count ns span are = all-take (λ f. f.0 < count) (span.end - span.start) (drop span.start ns)
    (all-drop (λ f. f.0 < count) span.start ns are)

pub AreNumbers-more : (n m : ℕ) (ns : List FileNo) → n ≤ m → AreNumbers n ns → AreNumbers m ns
AreNumbers-more n m ns le are = all-of (λ f. f.0 < n) (λ f. f.0 < m) (λ f below. omega arith) ns are

-- ---- more files of the edge that is being read

pub within-append : (ns others : List FileNo) (span : Span) (start : ℕ) → IsWithin span start
    → start ≤ length ns → within (ns ++ others) span ≡ within ns span
within-append ns others span start inside le = let rises = inside.rises in let ends = inside.ends in
    slice_range-append ns others span.start span.end rises (omega arith)

-- the paths of some files, and one more path
pub paths_at-push : (files : List (List ℕ)) (ns : List FileNo) (f : FileNo) (path : List ℕ)
    → slice_get files f.0 ≡ Some path → paths_at files (ns ++ f ∷ []) ≡ paths_at files ns ++ path ∷ []
paths_at-push files ns f path here = map_push (path_at files) ns f
    ∙ ap (λ p. paths_at files ns ++ p ∷ []) (ap (λ o. unwrap_or o []) here)

pub open-push : (files : List (List ℕ)) (ns : List FileNo) (start : ℕ) (f : FileNo) (path : List ℕ)
    → start ≤ length ns → slice_get files f.0 ≡ Some path
    → paths_at files (drop start (ns ++ f ∷ [])) ≡ paths_at files (drop start ns) ++ path ∷ []
open-push files ns start f path le here =
    rw (drop-append-le start ns (f ∷ []) le) (paths_at-push files (drop start ns) f path here)

-- ---- the parts of a list one after the other

parts-same : (ns others : List FileNo) (start : ℕ) → start ≤ length ns → (spans : List Span)
    → AllByRecursion (λ span. IsWithin span start) spans
    → flat_map (within (ns ++ others)) spans ≡ flat_map (within ns) spans
parts-same ns others start le [] all = refl
parts-same ns others start le (span ∷ spans) all =
    grind (arith, common_steps, (parts-same ns others start le spans all.1))

pub joined-more : (ns others : List FileNo) (start : ℕ) → start ≤ length ns → (spans : List Span)
    → AllByRecursion (λ span. IsWithin span start) spans → AreJoined spans start ns
    → AreJoined spans start (ns ++ others)
joined-more ns others start le spans all joined = parts-same ns others start le spans all ∙ joined
    ∙ sym (take-append-le start ns others le)

pub joined-end : (ns : List FileNo) (start : ℕ) → start ≤ length ns → (spans : List Span)
    → AreJoined spans start ns → AreJoined (spans ++ record { start = start; end = length ns } ∷ [])
    (length ns) ns
joined-end ns start le spans joined = grind (arith, common_steps)

pub all-map : {X Y : Type 0} (f : X → Y) (P : Y → Type 0) (xs : List X) → AllByRecursion (λ x. P (f x)) xs
    → AllByRecursion P (map f xs)
all-map f P [] all = tt
all-map f P (x ∷ xs) all = (all.0, all-map f P xs all.1)

-- ---- the files of one kind

parts-grown : (n m : ℕ) (spans : List Span) (start : ℕ) (ns : List FileNo) → n ≤ m
    → PartsAreHeld n spans start ns → PartsAreHeld m spans start ns
parts-grown n m spans start ns le held =
    record { are = AreNumbers-more n m ns le held.are; joined = held.joined; starts = held.starts }

parts-more : (count : ℕ) (spans : List Span) (start : ℕ) (ns others : List FileNo)
    → AllByRecursion (λ span. IsWithin span start) spans → AreNumbers count others
    → PartsAreHeld count spans start ns → PartsAreHeld count spans start (ns ++ others)
parts-more count spans start ns others all are held = grind (arith, all-append, joined-more, length-append)

parts-ended : (count : ℕ) (spans : List Span) (start : ℕ) (ns : List FileNo)
    → PartsAreHeld count spans start ns
    → PartsAreHeld count (spans ++ record { start = start; end = length ns } ∷ []) (length ns) ns
parts-ended count spans start ns held = grind (arith, common_steps)

-- each edge that was read stays
module _ (files : List (List ℕ)) (l : Lists) (held : EdgesAreHeld files l) (others : List FileNo) where
  abbrev more_outputs : Lists
  more_outputs = record l { outputs = l.outputs ++ others }

  abbrev more_inputs : Lists
  more_inputs = record l { inputs = l.inputs ++ others }

  abbrev more_validations : Lists
  more_validations = record l { validations = l.validations ++ others }

  edges-output : edges_of files more_outputs ≡ edges_of files l
  edges-output = grind (arith, map-same, within-append)

  pub edges-input : edges_of files more_inputs ≡ edges_of files l
  edges-input = grind (arith, map-same, within-append)

  pub edges-validation : edges_of files more_validations ≡ edges_of files l
  edges-validation = grind (arith, map-same, within-append)

  pub read-same : read_outputs more_outputs ≡ read_outputs l
  read-same = grind (arith, map-same, within-append)

-- ---- naming a file

-- an element of a list with one more element is the last element, or one of the others
pub get-push : {X : Type 0} (xs : List X) (x y : X) (n : ℕ) → slice_get (xs ++ x ∷ []) n ≡ Some y
    → (n ≡ length xs) ⊎ ((n < length xs) × (slice_get xs n ≡ Some y))
get-push [] x y zero h = inl refl
get-push [] x y (suc n) h = absurd (true≢false (sym (ap is_some h)))
get-push (z ∷ xs) x y zero h = inr (omega arith, h)
get-push (z ∷ xs) x y (suc n) h = grind (arith, common_steps, (get-push xs x y n h))

pub record IsNew (files : List (List ℕ)) (path : List ℕ) (n : ℕ) : Type 0 where
  pub last : n ≡ length files
  pub grown : with_name files path ≡ files ++ path ∷ []

pub record IsOld (files : List (List ℕ)) (path : List ℕ) (n : ℕ) : Type 0 where
  pub below : n < length files
  pub same : with_name files path ≡ files

-- the file that is named is new, or it was there
pub named-cases : (files : List (List ℕ)) (path : List ℕ) (n : ℕ)
    → slice_get (with_name files path) n ≡ Some path → IsNew files path n ⊎ IsOld files path n
named-cases files path n h = by (list_any (bytes_eq path) files) refl
  where
    late : list_any (bytes_eq path) files ≡ false → with_name files path ≡ files ++ path ∷ []
        → (n ≡ length files) ⊎ ((n < length files) × (slice_get files n ≡ Some path))
        → IsNew files path n ⊎ IsOld files path n
    late absent grown (inl e) = inl (record { last = e; grown = grown })
    late absent grown (inr both) = absurd (true≢false (sym (among-get files n path both.1) ∙ absent))

    by : (b : Bool) → list_any (bytes_eq path) files ≡ b → IsNew files path n ⊎ IsOld files path n
    by true e =
        let same : with_name files path ≡ files = ap (λ b. cond b files (files ++ path ∷ [])) e in
        inr (record {
          below = slice_get_within files n path (ap (λ fs. slice_get fs n) (sym same) ∙ h);
          same =
              same;
        })
    by false e =
        let grown : with_name files path ≡ files ++ path ∷ [] = ap (λ b. cond b files (files ++ path ∷ [])) e
        in
        late e grown (get-push files path path n (ap (λ fs. slice_get fs n) (sym grown) ∙ h))

-- ---- makers

-- a number that no file has is not among files
pub none-has : (n : ℕ) (ns : List FileNo) → AreNumbers n ns → has_number n ns ≡ false
none-has n [] are = refl
none-has n (f ∷ ns) are = grind (arith, common_steps, (none-has n ns are.1))

pub first-none : {E : Type 0} (test : E → Bool) (es : List E) → AllByRecursion (λ e. test e ≡ false) es
    → first_edge test es ≡ None
first-none test [] all = refl
first-none test (e ∷ es) all = grind (arith, common_steps, (first-none test es all.1))

-- a file more, without a maker
pub makers-push : (rows : List (List FileNo)) (makers : List (Option ℕ))
    → first_edge (has_number (length makers)) rows ≡ None → HaveMakers rows makers
    → HaveMakers rows (makers ++ None ∷ [])
makers-push rows makers none held n below = by (eqb_tells n (length makers))
  where
    by : ((n == length makers) ≡ true × (n ≡ length makers))
        ⊎ ((n == length makers) ≡ false × (n ≢ length makers))
        → slice_get (makers ++ None ∷ []) n ≡ Some (first_edge (has_number n) rows)
    by (inl same) = ap (slice_get (makers ++ None ∷ [])) same.1 ∙ get-last makers None ∙ ap Some (sym none)
        ∙ ap (λ m. Some (first_edge (has_number m) rows)) (sym same.1)
    by (inr apart) =
        let differ : n ≢ length makers = apart.1 in
        let small : n < length makers + 1 = simp length-append at below in
        let within : n < length makers = omega arith in
        get-append makers (None ∷ []) n within ∙ held n within

-- ---- the whole after a name

module _ (files : List (List ℕ)) (l : Lists) (held : EdgesAreHeld files l) (path : List ℕ) where
  stay : (ns : List FileNo) → AreNumbers (length files) ns
      → paths_at (files ++ path ∷ []) ns ≡ paths_at files ns
  stay ns are = paths_at-more files (path ∷ []) ns are

  open-stay : (start : ℕ) (ns : List FileNo) → AreNumbers (length files) ns
      → paths_at (files ++ path ∷ []) (drop start ns) ≡ paths_at files (drop start ns)
  open-stay start ns are = stay (drop start ns) (all-drop (λ f. f.0 < length files) start ns are)

  edge-stays : (row : EdgeRow) → edge_of_row (files ++ path ∷ []) l row ≡ edge_of_row files l row
  edge-stays row = grind (arith, stay, within-numbers)

  pub table-named : table_of (with_name files path) l ≡ naming (table_of files l) path
  table-named = grind (arith, edge-stays, open-stay)

  -- a number that no output has is that of no maker
  no-maker : (n : ℕ) → AreNumbers n l.outputs → first_edge (has_number n) (output_rows l) ≡ None
  no-maker n are = first-none (has_number n) (output_rows l)
      (all-of (AreNumbers n) (λ ns. has_number n ns ≡ false) (none-has n) (output_rows l)
      (all-push (AreNumbers n) (read_outputs l) (drop l.starts.outputs l.outputs)
      (all-map (λ (row : EdgeRow). within l.outputs row.outputs) (AreNumbers n) l.rows
      (all-of (RowIsWithin l.starts) (λ row. AreNumbers n (within l.outputs row.outputs))
      (λ row inside. within-numbers n l.outputs row.outputs are) l.rows held.rows_are))
      (all-drop (λ f. f.0 < n) l.starts.outputs l.outputs are)))

  pub held-new : IsDistinct bytes_eq (files ++ path ∷ [])
      → EdgesAreHeld (files ++ path ∷ []) (record l { makers = l.makers ++ None ∷ [] })
  held-new distinct =
      let count : length l.makers ≡ length files = held.makers_count in
      let more : length files ≤ length (files ++ path ∷ []) = simp length-append (omega arith) in
      record {
        distinct = distinct;
        makers_count = simp length-append (ap (λ n. n + 1) count);
        makers_are = makers-push (output_rows l) l.makers (no-maker (length l.makers)
            (subst (λ n. AreNumbers n l.outputs) (sym count) held.outputs.are)) held.makers_are;
        rows_are = held.rows_are;
        outputs = parts-grown _ _ _ _ _ more held.outputs;
        inputs = parts-grown _ _ _ _ _ more held.inputs;
        validations = parts-grown _ _ _ _ _ more held.validations;
      }

-- ---- a file of the edge that is being read

module _ (files : List (List ℕ)) (l : Lists) (held : EdgesAreHeld files l) (f : FileNo) (path : List ℕ)
    (here : slice_get files f.0 ≡ Some path) where
  pub table-output : table_of files (record l { outputs = l.outputs ++ f ∷ [] })
      ≡ plus_output (table_of files l) path
  table-output = grind (arith, edges-output, open-push)

  pub table-input : table_of files (record l { inputs = l.inputs ++ f ∷ [] })
      ≡ plus_input (table_of files l) path
  table-input = grind (arith, edges-input, open-push)

  pub table-validation : table_of files (record l { validations = l.validations ++ f ∷ [] })
      ≡ plus_validation (table_of files l) path
  table-validation = grind (arith, edges-validation, open-push)

-- ---- the end of an edge

pub first-more : {E : Type 0} (test : E → Bool) (es : List E) (e : E) → test e ≡ false
    → first_edge test (es ++ e ∷ []) ≡ first_edge test es
first-more test [] e fails = ap (λ b. cond b (Some 0) None) fails
first-more test (x ∷ es) e fails = grind (arith, common_steps, (first-more test es e fails))

-- the table where the edge that is being read ends
abbrev pub end-value : KindEnds → Bool → EdgeTable → EdgeTable
end-value kinds is_phony t = record {
  files = t.files;
  edges =
      t.edges ++ edge_read t.«open» kinds is_phony ∷ [];
  «open» = no_files;
}

module _ (files : List (List ℕ)) (l : Lists) (held : EdgesAreHeld files l) (kinds : KindEnds)
    (is_phony : Bool) where
  abbrev next_row : EdgeRow
  next_row = row_between l.starts (ends_of l) kinds is_phony

  pub table-ended : table_of files (with_row l kinds is_phony) ≡ end-value kinds is_phony (table_of files l)
  table-ended = grind (arith, common_steps)

  rows-ended : output_rows (with_row l kinds is_phony) ≡ output_rows l ++ [] ∷ []
  rows-ended = grind (arith, common_steps)

  larger : (row : EdgeRow) → RowIsWithin l.starts row → RowIsWithin (ends_of l) row
  larger row inside = grind (arith, common_steps)

  pub held-ended : EndWithin kinds (length l.outputs - l.starts.outputs) (length l.inputs - l.starts.inputs)
      → EdgesAreHeld files (with_row l kinds is_phony)
  held-ended fits = record {
    distinct = held.distinct;
    makers_count = held.makers_count;
    makers_are = λ n below. held.makers_are n below
        ∙ ap Some (sym (first-more (has_number n) (output_rows l) [] refl))
        ∙ ap (λ rs. Some (first_edge (has_number n) rs)) (sym rows-ended);
    rows_are = all-push (RowIsWithin (ends_of l)) l.rows next_row
        (all-of (RowIsWithin l.starts) (RowIsWithin (ends_of l)) larger l.rows held.rows_are)
        (record {
          outputs = record { rises = held.outputs.starts; ends = omega arith };
          inputs = record { rises = held.inputs.starts; ends = omega arith };
          validations = record { rises = held.validations.starts; ends = omega arith };
          kinds = fits;
        });
    outputs = rw (map_push (λ (row : EdgeRow). row.outputs) l.rows next_row)
        (parts-ended _ _ _ _ held.outputs);
    inputs = rw (map_push (λ (row : EdgeRow). row.inputs) l.rows next_row)
        (parts-ended _ _ _ _ held.inputs);
    validations = rw (map_push (λ (row : EdgeRow). row.validations) l.rows next_row)
        (parts-ended _ _ _ _ held.validations);
  }

-- ---- numbers and paths

pub all-get : {X : Type 0} (P : X → Type 0) (xs : List X) (i : ℕ) (x : X) → AllByRecursion P xs
    → slice_get xs i ≡ Some x → P x
all-get P [] i x all h = absurd (true≢false (sym (ap is_some h)))
all-get P (y ∷ xs) zero x all h = subst P (ap (λ o. unwrap_or o y) h) all.0
all-get P (y ∷ xs) (suc i) x all h = all-get P xs i x all.1 h

differ-back : (x y : List ℕ) → bytes_eq x y ≡ false → bytes_eq y x ≡ false
differ-back x y h = by (bytes_eq y x) (bytes_eq-Decides y x).0
  where
    by : (b : Bool) → (b ≡ true → y ≡ x) → b ≡ false
    by true same = absurd (true≢false (sym ((bytes_eq-Decides x y).1 (sym (same refl))) ∙ h))
    by false same = refl

-- two places of distinct paths have different paths
distinct-get : (files : List (List ℕ)) → IsDistinct bytes_eq files → (i j : ℕ) (x y : List ℕ)
    → slice_get files i ≡ Some x → slice_get files j ≡ Some y → i ≢ j → bytes_eq x y ≡ false
unfolding IsDistinct
distinct-get [] distinct i j x y a b apart = absurd (true≢false (sym (ap is_some a)))
distinct-get (p ∷ files) distinct zero zero x y a b apart = absurd (apart refl)
distinct-get (p ∷ files) distinct zero (suc j) x y a b apart =
    subst (λ q. bytes_eq q y ≡ false) (ap (λ o. unwrap_or o p) a)
    (all-get (λ q. bytes_eq p q ≡ false) files j y distinct.0 b)
distinct-get (p ∷ files) distinct (suc i) zero x y a b apart =
    differ-back y x (subst (λ q. bytes_eq q x ≡ false) (ap (λ o. unwrap_or o p) b)
    (all-get (λ q. bytes_eq p q ≡ false) files i x distinct.0 a))
distinct-get (p ∷ files) distinct (suc i) (suc j) x y a b apart =
    distinct-get files distinct.1 i j x y a b (λ e. apart (ap suc e))

pub get-path : (files : List (List ℕ)) (f : FileNo) → f.0 < length files
    → slice_get files f.0 ≡ Some (path_at files f)
get-path files f below = slice_get-get_or files f.0 [] below
    ∙ ap Some (sym (unwrap_or-slice_get files f.0 []))

pub same-number : (files : List (List ℕ)) → IsDistinct bytes_eq files → (n : ℕ) (path : List ℕ)
    → slice_get files n ≡ Some path → (f : FileNo) → f.0 < length files
    → (n == f.0) ≡ bytes_eq path (path_at files f)
same-number files distinct n path here f below = by (eqb_tells n f.0)
  where
    by : ((n == f.0) ≡ true × (n ≡ f.0)) ⊎ ((n == f.0) ≡ false × (n ≢ f.0))
        → (n == f.0) ≡ bytes_eq path (path_at files f)
    by (inl same) =
        let is : path ≡ path_at files f = ap (λ o. unwrap_or o []) (sym here ∙ ap (slice_get files) same.1) in
        same.0 ∙ sym ((bytes_eq-Decides path (path_at files f)).1 is)
    by (inr apart) = apart.0 ∙ sym (distinct-get files distinct n f.0 path (path_at files f) here
        (get-path files f below) apart.1)

pub has-among : (files : List (List ℕ)) → IsDistinct bytes_eq files → (n : ℕ) (path : List ℕ)
    → slice_get files n ≡ Some path → (ns : List FileNo) → AreNumbers (length files) ns
    → has_number n ns ≡ is_among (paths_at files ns) path
has-among files distinct n path here [] are = refl
has-among files distinct n path here (f ∷ ns) are =
    grind (arith, same-number, (has-among files distinct n path here ns are.1))

-- ---- which files are made

pub first-map : {E F : Type 0} (test : F → Bool) (f : E → F) (es : List E)
    → first_edge test (map f es) ≡ first_edge (λ e. test (f e)) es
first-map test f [] = refl
first-map test f (e ∷ es) = grind (arith, common_steps, (first-map test f es))

pub first-same : {E : Type 0} (t u : E → Bool) → ((e : E) → t e ≡ u e) → (es : List E)
    → first_edge t es ≡ first_edge u es
first-same t u same [] = refl
first-same t u same (e ∷ es) = let here = same e in let more = first-same t u same es in cc

pub some-in : {E : Type 0} (test : E → Bool) (es : List E) → is_some (first_edge test es) ≡ list_any test es
some-in test [] = refl
some-in test (e ∷ es) = grind (arith, common_steps, (some-in test es))

first-some : {E : Type 0} (test : E → Bool) (es : List E) (e : E)
    → is_some (first_edge test (es ++ e ∷ [])) ≡ (is_some (first_edge test es) || test e)
first-some test es e = some-in test (es ++ e ∷ []) ∙ list_any-append test es (e ∷ [])
    ∙ ap (λ b. list_any test es || b) (or-false (test e)) ∙ ap (λ b. b || test e) (sym (some-in test es))

module _ (files : List (List ℕ)) (l : Lists) (held : EdgesAreHeld files l) (n : ℕ) (path : List ℕ)
    (here : slice_get files n ≡ Some path) where
  row-among : (row : EdgeRow) → has_number n (within l.outputs row.outputs)
      ≡ is_among (outputs_of (edge_of_row files l row)) path
  row-among row = grind (arith, has-among, take-append-drop, within-numbers)

  -- the maker of a file among the edges that were read
  pub maker-read : first_edge (has_number n) (read_outputs l)
      ≡ maker_of (edges_of files l) path
  maker-read = grind (arith, first-map, first-same, row-among)

  pub open-among : has_number n (drop l.starts.outputs l.outputs)
      ≡ is_among (paths_at files (drop l.starts.outputs l.outputs)) path
  open-among = has-among files held.distinct n path here (drop l.starts.outputs l.outputs)
      (all-drop (λ f. f.0 < length files) l.starts.outputs l.outputs held.outputs.are)

  pub made-by : is_some (first_edge (has_number n) (output_rows l))
      ≡ is_made (table_of files l) path
  made-by = grind (arith, first-some, maker-read, open-among)

  pub within-makers : n < length l.makers
  within-makers = subst (λ m. n < m) (sym held.makers_count) (slice_get_within files n path here)

  -- the maker that the list has at the file
  pub made-at : (found : Option ℕ) → found ≡ get_or l.makers n None
      → is_some found ≡ is_made (table_of files l) path
  made-at found is = grind (arith, get_or_from_slice_get, made-by, within-makers)

-- ---- an output more

pub none-front : {E : Type 0} (test : E → Bool) (es : List E) (e : E) → first_edge test (es ++ e ∷ []) ≡ None
    → first_edge test es ≡ None
none-front test es e none = by (first_edge test es) (sym (first-some test es e) ∙ ap is_some none)
  where
    by : (o : Option ℕ) → (is_some o || test e) ≡ false → o ≡ None
    by None h = refl
    by (Some n) h = absurd (true≢false h)

pub no-more : (o : Option ℕ) → option_map (λ n. n + 1) o ≡ None → o ≡ None
no-more None h = refl
no-more (Some n) h = absurd (true≢false (ap is_some h))

pub first-last : {E : Type 0} (test : E → Bool) (es : List E) (e : E) → first_edge test es ≡ None
    → test e ≡ true → first_edge test (es ++ e ∷ []) ≡ Some (length es)
first-last test [] e none passes = ap (λ b. cond b (Some 0) None) passes
first-last test (x ∷ es) e none passes = by (test x) none (λ h. first-last test es e h passes)
  where
    by : (b : Bool) → cond b (Some 0) (option_map (λ n. n + 1) (first_edge test es)) ≡ None
        → (first_edge test es ≡ None → first_edge test (es ++ e ∷ []) ≡ Some (length es))
        → cond b (Some 0) (option_map (λ n. n + 1) (first_edge test (es ++ e ∷ []))) ≡ Some (suc (length es))
    by true h more = absurd (true≢false (ap is_some h))
    by false h more = ap (option_map (λ n. n + 1)) (more (no-more (first_edge test es) h))
        ∙ ap Some (add-one (length es))

-- another row at the end, for which the test has the same result
pub first-other : {E : Type 0} (test : E → Bool) (es : List E) (e e' : E) → test e ≡ test e'
    → first_edge test (es ++ e ∷ []) ≡ first_edge test (es ++ e' ∷ [])
first-other test [] e e' same = ap (λ b. cond b (Some 0) None) same
first-other test (x ∷ es) e e' same = grind (arith, common_steps, (first-other test es e e' same))

pub has-push : (n : ℕ) (ns : List FileNo) (f : FileNo)
    → has_number n (ns ++ f ∷ []) ≡ (has_number n ns || (n == f.0))
has-push n ns f = list_any-append (λ (g : FileNo). n == g.0) ns (f ∷ [])
    ∙ ap (λ b. has_number n ns || b) (or-false (n == f.0))

absent : {A : Type 0} (o : Option A) → is_some o ≡ false → o ≡ None
absent None h = refl
absent (Some x) h = absurd (true≢false h)

get-set_same : {X : Type 0} (xs : List X) (i : ℕ) (x : X) → i < length xs → slice_get (set xs i x) i ≡ Some x
get-set_same [] i x below = absurd (omega arith)
get-set_same (y ∷ xs) zero x below = refl
get-set_same (y ∷ xs) (suc i) x below = get-set_same xs i x (omega arith)

get-set_other : {X : Type 0} (xs : List X) (i : ℕ) (x : X) (j : ℕ) → j ≢ i
    → slice_get (set xs i x) j ≡ slice_get xs j
get-set_other [] i x j apart = refl
get-set_other (y ∷ xs) zero x zero apart = absurd (apart refl)
get-set_other (y ∷ xs) zero x (suc j) apart = refl
get-set_other (y ∷ xs) (suc i) x zero apart = refl
get-set_other (y ∷ xs) (suc i) x (suc j) apart = get-set_other xs i x j (λ e. apart (ap suc e))

-- a row at the front passes first
pub first-front : {E : Type 0} (test : E → Bool) (es : List E) (e : E) (n : ℕ) → first_edge test es ≡ Some n
    → first_edge test (es ++ e ∷ []) ≡ Some n
first-front test [] e n h = absurd (true≢false (sym (ap is_some h)))
first-front test (x ∷ es) e n h = grind (arith, common_steps, (first-front test es e))

-- another row at the end, which passes, where some row did
first-again : {E : Type 0} (test : E → Bool) (es : List E) (e e' : E)
    → is_some (first_edge test (es ++ e ∷ [])) ≡ true → test e' ≡ true
    → first_edge test (es ++ e ∷ []) ≡ first_edge test (es ++ e' ∷ [])
first-again test es e e' some passes = by (test e) refl
  where
    front : (o : Option ℕ) → first_edge test es ≡ o → is_some o ≡ true
        → first_edge test es ≡ first_edge test (es ++ e' ∷ [])
    front None is h = absurd (true≢false (sym h))
    front (Some n) is h = is ∙ sym (first-front test es e' n is)

    by : (b : Bool) → test e ≡ b → first_edge test (es ++ e ∷ []) ≡ first_edge test (es ++ e' ∷ [])
    by true is = first-other test es e e' (is ∙ sym passes)
    by false is = first-more test es e is ∙ front (first_edge test es) refl
        (ap is_some (sym (first-more test es e is)) ∙ some)

module _ (files : List (List ℕ)) (l : Lists) (held : EdgesAreHeld files l) (others : List FileNo)
    (are : AreNumbers (length files) others) where
  -- the parts of edges are before the files of the edge that is being read
  parts-inside : (part : EdgeRow → Span) (end : ℕ)
      → ((row : EdgeRow) → RowIsWithin l.starts row → IsWithin (part row) end)
      → AllByRecursion (λ span. IsWithin span end) (map part l.rows)
  parts-inside part end inside = all-map part (λ span. IsWithin span end) l.rows
      (all-of (RowIsWithin l.starts) (λ row. IsWithin (part row) end) inside l.rows held.rows_are)

  pub held-inputs : EdgesAreHeld files (record l { inputs = l.inputs ++ others })
  held-inputs = record {
    distinct = held.distinct;
    makers_count = held.makers_count;
    makers_are = held.makers_are;
    rows_are = held.rows_are;
    outputs = held.outputs;
    inputs = parts-more _ _ _ _ _ (parts-inside (λ row. row.inputs) l.starts.inputs (λ row h. h.inputs)) are
        held.inputs;
    validations = held.validations;
  }

  pub held-validations : EdgesAreHeld files (record l { validations = l.validations ++ others })
  held-validations = record {
    distinct = held.distinct;
    makers_count = held.makers_count;
    makers_are = held.makers_are;
    rows_are = held.rows_are;
    outputs = held.outputs;
    inputs = held.inputs;
    validations = parts-more _ _ _ _ _ (parts-inside (λ row. row.validations) l.starts.validations
        (λ row h. h.validations)) are held.validations;
  }

  -- whoever made the outputs
  held-outputs : (ms : List (Option ℕ)) → length ms ≡ length l.makers
      → HaveMakers (read_outputs l ++ (drop l.starts.outputs l.outputs ++ others) ∷ []) ms
      → EdgesAreHeld files (record l { makers = ms; outputs = l.outputs ++ others })
  held-outputs ms count made = record {
    distinct = held.distinct;
    makers_count = count ∙ held.makers_count;
    makers_are = subst (λ rs. HaveMakers rs ms) (sym rows-output) made;
    rows_are = held.rows_are;
    outputs = parts-more _ _ _ _ _ (parts-inside (λ row. row.outputs) l.starts.outputs (λ row h. h.outputs))
        are held.outputs;
    inputs = held.inputs;
    validations = held.validations;
  }
    where
      rows-output : output_rows (record l { outputs = l.outputs ++ others })
          ≡ read_outputs l ++ (drop l.starts.outputs l.outputs ++ others) ∷ []
      rows-output = rw (
        read-same files l held others,
        drop-append-le l.starts.outputs l.outputs others
            held.outputs.starts,
      ) refl

module _ (files : List (List ℕ)) (l : Lists) (held : EdgesAreHeld files l) (f : FileNo)
    (below : f.0 < length files) where
  abbrev next : List FileNo
  next = drop l.starts.outputs l.outputs

  abbrev Tells : (m : ℕ) → Type 0
  Tells m = ((m == f.0) ≡ true × (m ≡ f.0)) ⊎ ((m == f.0) ≡ false × (m ≢ f.0))

  has-now : (m : ℕ) → (m == f.0) ≡ true → has_number m (next ++ f ∷ []) ≡ true
  has-now m same = has-push m next f ∙ ap (λ b. has_number m next || b) same ∙ or-true (has_number m next)

  has-still : (m : ℕ) → (m == f.0) ≡ false → has_number m next ≡ has_number m (next ++ f ∷ [])
  has-still m apart = sym (has-push m next f ∙ ap (λ b. has_number m next || b) apart
      ∙ or-false (has_number m next))

  within-list : f.0 < length l.makers
  within-list = subst (λ n. f.0 < n) (sym held.makers_count) below

  pub held-output : first_edge (has_number f.0) (output_rows l) ≡ None
      → EdgesAreHeld files (record l {
        makers = set l.makers f.0 (Some (length l.rows));
        outputs = l.outputs ++ f ∷ [];
      })
  held-output none = held-outputs files l held (f ∷ []) (below, tt) ms
      (length-set l.makers f.0 (Some (length l.rows))) (λ m small. by m small (eqb_tells m f.0))
    where
      ms : List (Option ℕ)
      ms = set l.makers f.0 (Some (length l.rows))

      by : (m : ℕ) → m < length ms → Tells m
          → slice_get ms m ≡ Some (first_edge (has_number m) (read_outputs l ++ (next ++ f ∷ []) ∷ []))
      by m small (inl same) =
          let count = length-map l.rows (λ (row : EdgeRow). within l.outputs row.outputs) in
          let none' : first_edge (has_number m) (read_outputs l) ≡ None =
          none-front (has_number m) (read_outputs l) next
          (ap (λ k. first_edge (has_number k) (output_rows l)) same.1 ∙ none) in
          ap (slice_get ms) same.1 ∙ get-set_same l.makers f.0 (Some (length l.rows)) within-list
          ∙ ap Some (ap Some (sym count) ∙ sym
          (first-last (has_number m) (read_outputs l) (next ++ f ∷ []) none' (has-now m same.0)))
      by m small (inr apart) =
          let known : m < length l.makers = subst (λ k. m < k)
          (length-set l.makers f.0 (Some (length l.rows))) small in
          get-set_other l.makers f.0 (Some (length l.rows)) m apart.1 ∙ held.makers_are m known
          ∙ ap Some (first-other (has_number m) (read_outputs l) next (next ++ f ∷ []) (has-still m apart.0))

  -- a file with a maker keeps it
  pub held-again : is_some (get_or l.makers f.0 None) ≡ true
      → EdgesAreHeld files (record l { outputs = l.outputs ++ f ∷ [] })
  held-again made = held-outputs files l held (f ∷ []) (below, tt) l.makers refl
      (λ m small. held.makers_are m small ∙ ap Some (by m small (eqb_tells m f.0)))
    where
      by : (m : ℕ) → m < length l.makers → Tells m → first_edge (has_number m) (output_rows l)
          ≡ first_edge (has_number m) (read_outputs l ++ (next ++ f ∷ []) ∷ [])
      by m small (inl same) =
          let some : is_some (first_edge (has_number m) (output_rows l)) ≡ true =
          ap is_some (sym (get_or_from_slice_get l.makers m (first_edge (has_number m) (output_rows l)) None
          (held.makers_are m small))) ∙ ap (λ k. is_some (get_or l.makers k None)) same.1 ∙ made in
          first-again (has_number m) (read_outputs l) next (next ++ f ∷ []) some (has-now m same.0)
      by m small (inr apart) = first-other (has_number m) (read_outputs l) next (next ++ f ∷ [])
          (has-still m apart.0)

  -- a file whose maker is `None` is not made by any edge
  pub unmade : (found : Option ℕ) → found ≡ get_or l.makers f.0 None → is_some found ≡ false
      → first_edge (has_number f.0) (output_rows l) ≡ None
  unmade found is none = grind (arith, absent, get_or_from_slice_get, within-list)

-- how many files the edge that is being read has
pub length-open : (files : List (List ℕ)) (ns : List FileNo) (start : ℕ)
    → length (paths_at files (drop start ns)) ≡ length ns - start
length-open files ns start = length-map (drop start ns) (path_at files) ∙ length-drop start ns

pub ended-within : (files : List (List ℕ)) (l : Lists) (kinds : KindEnds) (t : EdgeTable)
    → table_of files l ≡ t → EndWithin kinds (length t.«open».outputs) (length t.«open».inputs)
    → EndWithin kinds (length l.outputs - l.starts.outputs) (length l.inputs - l.starts.inputs)
ended-within files l kinds t is fits = grind (arith, common_steps)

-- no edges, and files without makers
pub sources-held : (files : List (List ℕ)) (count : ℕ) → IsDistinct bytes_eq files → count ≡ length files
    → EdgesAreHeld files (no_lists (replicate count None))
sources-held files count distinct is = record {
  distinct = distinct;
  makers_count = length-replicate count None ∙ is;
  makers_are = λ n below. slice_get-get_or (replicate count None) n None below
      ∙ ap Some (get_or-replicate count n None None
      (subst (λ m. n < m) (length-replicate count None) below));
  rows_are = tt;
  outputs = record { are = tt; joined = refl; starts = omega arith };
  inputs = record { are = tt; joined = refl; starts = omega arith };
  validations = record { are = tt; joined = refl; starts = omega arith };
}
