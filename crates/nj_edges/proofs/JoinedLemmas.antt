-- Lemmas on the edges of a graph with the files that are added to them.
use Rattle.std.proofs.lemmas.Grind.{common_steps}
use Rattle.std.proofs.Common.{◌≡◌, ◌≤◌, ◌<◌, ◌+◌, ◌-◌, ◌⊎◌, inl, inr, ℕ, zero, suc, Bool, false, List}
use Rattle.std.proofs.Common.{[], ◌∷◌, ◌++◌, map, length, take, drop, slice_get, slice_range, get_or, Option}
use Rattle.std.proofs.Common.{Some, None, Result, Ok, Err, bytes_eq, refl, sym, ap, subst}
use Rattle.std.proofs.Common.{◌∙◌, true≢false, arith, length-append, length-take}
use Rattle.std.specs.Prelude.{OnOk}
use Rattle.std.specs.List.{AllByRecursion, list_any}
use Rattle.std.proofs.Math.Seq.{drop-append_seam}
use Rattle.std.proofs.lemmas.List.{drop-append-le, drop-map, length-map, map-append, take-append-drop}
use Rattle.std.proofs.lemmas.List.{take-map, take_all, take_more}
use Rattle.std.proofs.lemmas.Option.{get_or_from_slice_get, slice_get-get_or, slice_get_within}
use Rattle.nj_names.proofs.ListLemmas.{among-get}
use Rattle.nj_names.specs.declared.files.FileNo.{FileNo}
use Rattle.nj_names.specs.Files.{AreFiles, path_at}
use Rattle.nj_edges.specs.declared.edges.EdgeRow.{EdgeRow}
use Rattle.nj_edges.specs.declared.edges.KindEnds.{KindEnds}
use Rattle.nj_edges.specs.declared.edges.Span.{Span}
use Rattle.nj_edges.specs.declared.joined_edges.AddedSpans.{AddedSpans}
use Rattle.nj_edges.specs.Edges.{EdgePaths, edge_at, first_edge, is_among, maker_of}
use Rattle.nj_edges.specs.Edges.{outputs_of}
use Rattle.nj_edges.specs.EdgeTables.{EdgeTable, OpenEdge, edge_read, is_named_so_far, no_files, plus_output}
use Rattle.nj_edges.specs.Inside.EdgesHeld.{AreNumbers, EdgesAreHeld, HasFiles, IsWithin, Lists, RowIsWithin}
use Rattle.nj_edges.specs.Inside.EdgesHeld.{TableIsHeld, edge_of_row, edges_of, has_number, output_rows}
use Rattle.nj_edges.specs.Inside.EdgesHeld.{paths_at}
use Rattle.nj_edges.specs.Inside.EdgesHeld.{read_outputs, table_of, within}
use Rattle.nj_edges.specs.Inside.JoiningHeld.{JoinIsHeld, added_at, all_joined, input_spans, joined_by}
use Rattle.nj_edges.specs.Inside.JoiningHeld.{joined_edge, joined_up_to, output_spans, plus_inputs}
use Rattle.nj_edges.specs.Inside.JoiningHeld.{plus_outputs, plus_validations, spans_of, with_edge}
use Rattle.nj_edges.specs.Joining.{with_added}
use Rattle.nj_edges.proofs.EdgeLemmas.{all-get, edges-input, edges-validation, first-front}
use Rattle.nj_edges.proofs.EdgeLemmas.{first-last, first-more, first-none, get-path, maker-read, table-output}
use Rattle.nj_edges.proofs.EdgeLemmas.{within-numbers}
use Rattle.nj_edges.proofs.ChangeLemmas.{files-paths}
use Rattle.nj_edges.proofs.GraphLemmas.{files-numbers, first-below}
use Rattle.nj_edges.proofs.JoiningLemmas.{get-map, named-joined}
use Rattle.nj_edges.proofs.ListLemmas.{length-range}
use Rattle.nj_edges.proofs.NamedLemmas.{closed-named, named-number, none-among}
use Rattle.nj_edges.proofs.RootLemmas.{outputs-joined}

-- ---- the edges that were read

-- the first element that passes is not the last, or none of the others passes
abbrev AreParts : {E : Type 0} → (E → Bool) → List E → (found : Option ℕ) → Type 0
AreParts test es found =
    ((n : ℕ) × (found ≡ Some n) × (n < length es) × (first_edge test es ≡ Some n))
    ⊎ ((first_edge test es ≡ None) × ((n : ℕ) → found ≡ Some n → n ≡ length es))

first-parts : {E : Type 0} (test : E → Bool) (es : List E) (e : E) (found : Option ℕ)
    → found ≡ first_edge test (es ++ e ∷ []) → AreParts test es found
first-parts test es e found is = grind (arith, first-below, first-front, first-last, first-more, true≢false)

module _ (files : List (List ℕ)) (l : Lists) (held : EdgesAreHeld files l) (t : EdgeTable)
    (is : table_of files l ≡ t) where
  module _ (path : List ℕ) where
    none-make : list_any (bytes_eq path) files ≡ false → (rs : List EdgeRow)
        → AllByRecursion (λ (e : EdgePaths). is_among (outputs_of e) path ≡ false)
        (map (edge_of_row files l) rs)
    none-make absent [] = tt
    none-make absent (row ∷ rs) = (
      ap (λ ps. is_among ps path) (outputs-joined files l row)
          ∙ none-among files path absent (within l.outputs row.outputs)
          (within-numbers (length files) l.outputs row.outputs held.outputs.are),
      none-make absent rs,
    )

    -- a path without a file has no maker
    pub unmade-path : list_any (bytes_eq path) files ≡ false → maker_of t.edges path ≡ None
    unmade-path absent = ap (λ (u : EdgeTable). maker_of u.edges path) (sym is)
        ∙ first-none (λ e. is_among (outputs_of e) path) (edges_of files l) (none-make absent l.rows)

    module _ (n : ℕ) (here : slice_get files n ≡ Some path) (found : Option ℕ)
        (found-is : found ≡ get_or l.makers n None) where
      parts : AreParts (has_number n) (read_outputs l) found
      parts =
          let below : n < length l.makers = subst (λ k. n < k) (sym held.makers_count)
          (slice_get_within files n path here) in
          first-parts (has_number n) (read_outputs l) (drop l.starts.outputs l.outputs) found
          (found-is ∙ get_or_from_slice_get l.makers n (first_edge (has_number n) (output_rows l)) None
          (held.makers_are n below))

      maker-is : maker_of t.edges path ≡ first_edge (has_number n) (read_outputs l)
      maker-is = ap (λ (u : EdgeTable). maker_of u.edges path) (sym is)
          ∙ sym (maker-read files l held n path here)

      count : length (read_outputs l) ≡ length l.rows
      count = length-map l.rows (λ (row : EdgeRow). within l.outputs row.outputs)

      pub made-path : (e : ℕ) → found ≡ Some e → e < length l.rows → maker_of t.edges path ≡ Some e
      made-path e some below = maker-is ∙ by parts
        where
          by : AreParts (has_number n) (read_outputs l) found
              → first_edge (has_number n) (read_outputs l) ≡ Some e
          by (inl made) = made.3 ∙ sym made.1 ∙ some
          by (inr none) = let end = none.1 e some in let as-many = count in absurd (omega arith)

      pub none-path : ((e : ℕ) → found ≡ Some e → e < length l.rows → ⊥) → maker_of t.edges path ≡ None
      none-path above = maker-is ∙ by parts
        where
          by : AreParts (has_number n) (read_outputs l) found
              → first_edge (has_number n) (read_outputs l) ≡ None
          by (inl made) = absurd (above made.0 made.1 (subst (λ k. made.0 < k) count made.2))
          by (inr none) = none.0

-- the files of an edge
pub has-files : (files : List (List ℕ)) (l : Lists) → EdgesAreHeld files l → (edge : ℕ) (row : EdgeRow)
    → slice_get l.rows edge ≡ Some row
    → HasFiles files (edge_at (edges_of files l) edge) (within l.outputs row.outputs)
    (within l.inputs row.inputs) (within l.validations row.validations) row.kinds row.is_phony
has-files files l held edge row here =
    let inside : RowIsWithin l.starts row = all-get (RowIsWithin l.starts) l.rows edge row held.rows_are here
    in
    let oe = inside.outputs.ends in let ie = inside.inputs.ends in let os = held.outputs.starts in
    let is = held.inputs.starts in
    let o = length-range l.outputs row.outputs.start row.outputs.end inside.outputs.rises (omega arith) in
    let i = length-range l.inputs row.inputs.start row.inputs.end inside.inputs.rises (omega arith) in
    record {
      is = get_or_from_slice_get (edges_of files l) edge (edge_of_row files l row) (edge_at [] 0)
          (get-map (edge_of_row files l) l.rows edge row here);
      outputs_are = within-numbers (length files) l.outputs row.outputs held.outputs.are;
      inputs_are = within-numbers (length files) l.inputs row.inputs held.inputs.are;
      validations_are = within-numbers (length files) l.validations row.validations held.validations.are;
      kinds_end = rw (o, i) inside.kinds;
    }

-- ---- files of the edge that is being made

open-more : (files : List (List ℕ)) (ns others : List FileNo) (start : ℕ) → start ≤ length ns
    → paths_at files (drop start (ns ++ others)) ≡ paths_at files (drop start ns) ++ paths_at files others
open-more files ns others start le = rw (drop-append-le start ns others le)
    (map-append (path_at files) (drop start ns) others)

module _ (files : List (List ℕ)) (l : Lists) (held : EdgesAreHeld files l) (t : EdgeTable)
    (is : table_of files l ≡ t) where
  pub inputs-table : (others : List FileNo) → table_of files (record l { inputs = l.inputs ++ others })
      ≡ plus_inputs t (paths_at t.files others)
  inputs-table others = grind (arith, edges-input, open-more)

  pub validations-table : (others : List FileNo)
      → table_of files (record l { validations = l.validations ++ others })
      ≡ plus_validations t (paths_at t.files others)
  validations-table others = grind (arith, edges-validation, open-more)

  pub output-table : (f : FileNo) → f.0 < length t.files
      → table_of files (record l { outputs = l.outputs ++ f ∷ [] }) ≡ plus_output t (path_at t.files f)
  output-table f below = grind (arith, get-path, table-output)

-- ---- an edge with its additions

-- the kinds of inputs, with some more inputs before the last ones
module _ {X : Type 0} (first more last : List X) (end : ℕ) (inside : end ≤ length first) where
  take-more : take end ((first ++ more) ++ last) ≡ take end (first ++ last)
  take-more = grind (arith, common_steps)

  range-more : slice_range ((first ++ more) ++ last) end (length (first ++ more))
      ≡ slice_range (first ++ last) end (length first) ++ more
  range-more = grind (arith, common_steps)

  drop-more : drop (length (first ++ more)) ((first ++ more) ++ last) ≡ drop (length first) (first ++ last)
  drop-more = drop-append_seam (first ++ more) last ∙ sym (drop-append_seam first last)

-- an edge with the given paths
abbrev edge_with : (outputs inputs validations : List (List ℕ)) → KindEnds → Bool → EdgePaths
edge_with outputs inputs validations kinds is_phony = edge_read
    (record { outputs = outputs; inputs = inputs; validations = validations }) kinds is_phony

abbrev kinds_with : KindEnds → (implicit_inputs : ℕ) → KindEnds
kinds_with kinds implicit_inputs = record kinds { implicit_inputs = implicit_inputs }

edge-more : (outputs more_outputs first more last validations : List (List ℕ)) (kinds : KindEnds)
    (is_phony : Bool) → kinds.explicit_outputs ≤ length outputs → kinds.explicit_inputs ≤ length first
    → edge_with (outputs ++ more_outputs) ((first ++ more) ++ last) validations
    (kinds_with kinds (length (first ++ more))) is_phony
    ≡ with_added (record { outputs = more_outputs; inputs = more })
    (edge_with outputs (first ++ last) validations (kinds_with kinds (length first)) is_phony)
edge-more outputs more_outputs first more last validations kinds is_phony os is = grind (arith, common_steps)

-- a part of the files with the given paths
part-paths : (files : List (List ℕ)) (ns : List FileNo) (paths : List (List ℕ)) → AreFiles files ns paths
    → (span : Span) → paths_at files (within ns span) ≡ within paths span
part-paths files ns paths are span =
    sym (take-map (path_at files) (span.end - span.start) (drop span.start ns))
    ∙ ap (take (span.end - span.start)) (sym (drop-map (path_at files) span.start ns))
    ∙ ap (λ ps. within ps span) (files-paths files ns paths are)

pub part-numbers : (fs gs : List (List ℕ)) → fs ≡ gs → (ns : List FileNo) (paths : List (List ℕ))
    → AreFiles gs ns paths → (span : Span) → AreNumbers (length fs) (within ns span)
part-numbers fs gs same ns paths are span = subst (λ (hs : List (List ℕ)). AreNumbers (length hs)
    (within ns span)) (sym same) (within-numbers (length gs) ns span (files-numbers gs ns paths are))

module _ (files : List (List ℕ)) (e : EdgePaths) (outputs inputs validations : List FileNo) (kinds : KindEnds)
    (is_phony : Bool) (has : HasFiles files e outputs inputs validations kinds is_phony)
    (all : OpenEdge) (all_outputs all_inputs : List FileNo)
    (outputs-all : AreFiles files all_outputs all.outputs)
    (inputs-all : AreFiles files all_inputs all.inputs) (spans : AddedSpans) where
  abbrev first : List FileNo
  first = take kinds.implicit_inputs inputs

  abbrev more : List FileNo
  more = within all_inputs spans.inputs

  abbrev new_kinds : KindEnds
  new_kinds = kinds_with kinds (length first + length more)

  -- the edge that is read, with its additions
  abbrev read : OpenEdge
  read = record {
    outputs = paths_at files outputs ++ paths_at files (within all_outputs spans.outputs);
    inputs = (paths_at files first ++ paths_at files more) ++ paths_at files
        (drop kinds.implicit_inputs inputs);
    validations = paths_at files validations;
  }

  first-count : length first ≡ kinds.implicit_inputs
  first-count = let le = has.kinds_end.implicit_inputs in simp length-take (omega arith)

  pub edge-joined : edge_read read new_kinds is_phony ≡ joined_edge all spans e
  edge-joined =
      let o = part-paths files all_outputs all.outputs outputs-all spans.outputs in
      let i = part-paths files all_inputs all.inputs inputs-all spans.inputs in
      let fs = length-map first (path_at files) in let ms = length-map more
      (path_at files) in let os = length-map outputs (path_at files) in
      let count = first-count in let eo = has.kinds_end.explicit_outputs in
      let ei = has.kinds_end.explicit_inputs in
      let n : length first + length more ≡ length (paths_at files first ++ paths_at files more) = simp
      length-append (omega arith) in
      let k : length (paths_at files first) ≡ kinds.implicit_inputs = omega arith in
      let whole : paths_at files first ++ paths_at files (drop kinds.implicit_inputs inputs)
      ≡ paths_at files inputs = sym (map-append (path_at files) first (drop kinds.implicit_inputs inputs))
      ∙ ap (paths_at files) (take-append-drop kinds.implicit_inputs inputs) in
      ap (λ m. edge_read read (kinds_with kinds m) is_phony) n
      ∙ edge-more (paths_at files outputs) (paths_at files (within all_outputs spans.outputs))
      (paths_at files first) (paths_at files more) (paths_at files (drop kinds.implicit_inputs inputs))
      (paths_at files validations) kinds is_phony (omega arith) (omega arith)
      ∙ ap (λ a. with_added a (edge_with (paths_at files outputs)
      (paths_at files first ++ paths_at files (drop kinds.implicit_inputs inputs))
      (paths_at files validations) (kinds_with kinds (length (paths_at files first))) is_phony))
      (rw (o, i) refl)
      ∙ ap (λ ps. with_added (added_at all spans) (edge_with (paths_at files outputs) ps
      (paths_at files validations) (kinds_with kinds (length (paths_at files first))) is_phony)) whole
      ∙ ap (λ m. with_added (added_at all spans) (edge_with (paths_at files outputs) (paths_at files inputs)
      (paths_at files validations) (kinds_with kinds m) is_phony)) k
      ∙ ap (with_added (added_at all spans)) (sym has.is)

  -- the edge that is being made, step by step
  module _ (s0 s1 s2 s3 s4 s5 s6 : EdgeTable) (files-are : s0.files ≡ files) (closed : s0.«open» ≡ no_files)
      (is1 : s1 ≡ plus_outputs s0 (paths_at s0.files outputs))
      (is2 : s2 ≡ plus_outputs s1 (paths_at s1.files (within all_outputs spans.outputs)))
      (is3 : s3 ≡ plus_inputs s2 (paths_at s2.files first))
      (is4 : s4 ≡ plus_inputs s3 (paths_at s3.files more))
      (is5 : s5 ≡ plus_inputs s4 (paths_at s4.files (drop kinds.implicit_inputs inputs)))
      (is6 : s6 ≡ plus_validations s5 (paths_at s5.files validations)) where
    steps : s6 ≡ record { files = files; edges = s0.edges; «open» = read }
    steps =
        let start : s0 ≡ record { files = files; edges = s0.edges; «open» = no_files } =
        ap (λ fs. record { files = fs; edges = s0.edges; «open» = s0.«open» }) files-are
        ∙ ap (λ o. record { files = files; edges = s0.edges; «open» = o }) closed in
        is6 ∙ ap (λ (s : EdgeTable). plus_validations s (paths_at s.files validations))
        (is5 ∙ ap (λ (s : EdgeTable). plus_inputs s (paths_at s.files (drop kinds.implicit_inputs inputs)))
        (is4 ∙ ap (λ (s : EdgeTable). plus_inputs s (paths_at s.files more))
        (is3 ∙ ap (λ (s : EdgeTable). plus_inputs s (paths_at s.files first))
        (is2 ∙ ap (λ (s : EdgeTable). plus_outputs s (paths_at s.files (within all_outputs spans.outputs)))
        (is1 ∙ ap (λ (s : EdgeTable). plus_outputs s (paths_at s.files outputs)) start)))))

    pub pushed : (s7 : EdgeTable) {A E : Type 0} (r : Result A E)
        → OnOk r (s7 ≡ with_edge s6 (edge_read s6.«open» new_kinds is_phony))
        → OnOk r (s7 ≡ with_edge s0 (joined_edge all spans e))
    pushed s7 (Err e) is7 = tt
    pushed s7 (Ok a) is7 =
        is7 ∙ ap (λ (s : EdgeTable). with_edge s (edge_read s.«open» new_kinds is_phony)) steps
        ∙ ap (λ x. record { files = files; edges = s0.edges ++ x ∷ []; «open» = no_files }) edge-joined
        ∙ ap (λ fs. record {
          files = fs;
          edges = s0.edges ++ joined_edge all spans e ∷ [];
          «open» = no_files;
        }) (sym files-are)

-- one more output
module _ (t : EdgeTable) (ns : List FileNo) (i : ℕ) (f : FileNo) (below : i < length ns)
    (s new : EdgeTable) where
  pub outputs-next : s ≡ plus_outputs t (paths_at t.files (take i ns))
      → new ≡ plus_output s (path_at s.files (get_or ns i f))
      → new ≡ plus_outputs t (paths_at t.files (take (i + 1) ns))
  outputs-next s-is new-is = grind (arith, common_steps)

-- ---- all edges

module _ (t : EdgeTable) (added : List (Option AddedSpans))
    (held : JoinIsHeld t added (length t.«open».outputs) (length t.«open».inputs)) where
  joined-get : (edges : List EdgePaths) (found : List (Option AddedSpans)) → length found ≡ length edges
      → (i : ℕ) (d : Option AddedSpans) → i < length edges
      → slice_get (joined_by t.«open» edges found) i ≡ Some
      (joined_edge t.«open» (spans_of (get_or found i d)) (edge_at edges i))
  joined-get [] found count i d below = absurd (omega arith)
  joined-get (e ∷ edges) [] count i d below = absurd (omega arith)
  joined-get (e ∷ edges) (one ∷ found) count zero d below = refl
  joined-get (e ∷ edges) (one ∷ found) count (suc i) d below = joined-get edges found (omega arith) i d
      (omega arith)

  joined-count : (edges : List EdgePaths) (found : List (Option AddedSpans)) → length found ≡ length edges
      → length (joined_by t.«open» edges found) ≡ length edges
  joined-count [] found count = refl
  joined-count (e ∷ edges) [] count = absurd (omega arith)
  joined-count (e ∷ edges) (one ∷ found) count = let more = joined-count edges found
      (omega arith) in omega arith

  module _ (i : ℕ) (d : Option AddedSpans) (below : i < length t.edges) where
    here : slice_get added i ≡ Some (get_or added i d)
    here = let count = held.count in slice_get-get_or added i d (omega arith)

    pub outputs-inside : IsWithin (spans_of (get_or added i d)).outputs (length t.«open».outputs)
    outputs-inside = all-get (λ span. IsWithin span (length t.«open».outputs)) (output_spans added) i
        (spans_of (get_or added i d)).outputs held.outputs.spans_within
        (get-map (λ found. (spans_of found).outputs) added i (get_or added i d) here)

    pub inputs-inside : IsWithin (spans_of (get_or added i d)).inputs (length t.«open».inputs)
    inputs-inside = all-get (λ span. IsWithin span (length t.«open».inputs)) (input_spans added) i
        (spans_of (get_or added i d)).inputs held.inputs.spans_within
        (get-map (λ found. (spans_of found).inputs) added i (get_or added i d) here)

    pub joined-next : (s new : EdgeTable) → s ≡ joined_up_to t added i
        → new ≡ with_edge s (joined_edge t.«open» (spans_of (get_or added i d)) (edge_at t.edges i))
        → new ≡ joined_up_to t added (i + 1)
    joined-next s new s-is new-is =
        let e = joined_edge t.«open» (spans_of (get_or added i d)) (edge_at t.edges i) in
        let all = joined_by t.«open» t.edges added in
        let count = joined-count t.edges added held.count in
        let next : take (i + 1) all ≡ take i all ++ e ∷ [] = take_more all i e (omega arith)
        ∙ ap (λ x. take i all ++ x ∷ []) (get_or_from_slice_get all i e e
        (joined-get t.edges added held.count i d below)) in
        new-is ∙ ap (λ (u : EdgeTable). with_edge u e) s-is
        ∙ ap (λ es. record { files = t.files; edges = es; «open» = no_files }) (sym next)

  pub joined-all : (count : ℕ) → length t.edges ≤ count → joined_up_to t added count ≡ all_joined t added
  joined-all count above = grind (arith, count, joined-count, take_all)

  -- the lists of all edges make a table again
  module _ (files fs : List (List ℕ)) (l : Lists) (lists : EdgesAreHeld fs l)
      (is : table_of fs l ≡ all_joined t added) (files-are : files ≡ t.files)
      (named : (path : List ℕ) → list_any (bytes_eq path) t.files ≡ is_named_so_far t path) where
    same : fs ≡ files
    same = ap (λ (u : EdgeTable). u.files) is ∙ sym files-are

    no-files : (ns : List FileNo) → paths_at fs ns ≡ [] → (n : ℕ) → has_number n ns ≡ false
    no-files [] none n = refl
    no-files (f ∷ ns) none n = absurd (omega (arith, ap length none))

    pub all-table : table_of files l ≡ all_joined t added
    all-table = subst (λ xs. table_of xs l ≡ all_joined t added) same is

    pub all-held : TableIsHeld files l
    all-held = subst (λ xs. TableIsHeld xs l) same (record {
      edges_are = lists;
      open_are_new = λ n has. absurd (true≢false (sym has
          ∙ no-files (drop l.starts.outputs l.outputs) (ap (λ (u : EdgeTable). u.«open».outputs) is) n));
      named = λ n below.
          let path = get_or fs n [] in
          let here : slice_get fs n ≡ Some path = slice_get-get_or fs n [] below in
          named-number fs l lists path n here
          (ap (λ (u : EdgeTable). is_named_so_far u path) is ∙ closed-named (all_joined t added) path refl
          ∙ sym (named-joined t added (length t.«open».outputs)
          (length t.«open».inputs) held refl refl path)
          ∙ sym (named path) ∙ ap (λ xs. list_any (bytes_eq path) xs)
          (sym (ap (λ (u : EdgeTable). u.files) is)) ∙ among-get fs n path here);
    })
