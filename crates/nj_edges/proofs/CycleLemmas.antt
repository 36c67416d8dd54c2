-- Lemmas on an edge that lies on a cycle: it has an output.
use Rattle.std.proofs.Common.{◌≡◌, ◌<◌, ◌+◌, ℕ, suc, Bool, true, false, cond, List, [], ◌∷◌, length}
use Rattle.std.proofs.Common.{get_or, slice_get, unwrap_or, Option, Some, None, is_some}
use Rattle.std.proofs.Common.{option_map, refl, sym, ap, subst, ◌∙◌, true≢false, arith, add-one}
use Rattle.std.proofs.lemmas.List.{length-map}
use Rattle.std.proofs.lemmas.Option.{get_or_from_slice_get}
use Rattle.nj_cycles.specs.Cycles.{Chain, Needs, IsFirstOnCycle, IsLeastOnCycle}
use Rattle.nj_cycles.specs.Cycles.Chain.{one, more}
use Rattle.nj_names.specs.declared.files.FileNo.{FileNo}
use Rattle.nj_edges.specs.declared.edges.KindEnds.{KindEnds}
use Rattle.nj_edges.specs.Edges.{EdgePaths, edge_at, outputs_of, inputs_of, first_edge, maker_of, is_among}
use Rattle.nj_edges.specs.Inside.EdgesHeld.{Lists, paths_at, table_of, makers_in_rows, EdgesAreHeld, HasFiles}
use Rattle.nj_edges.specs.EdgeTables.{EdgeTable, no_files}
use Rattle.nj_edges.specs.Needs.{makers_of_inputs}
use Rattle.nj_edges.proofs.ChangeLemmas.{files-paths}
use Rattle.nj_edges.proofs.GraphLemmas.{first-table, made-of, on-edge, outputs-are}

-- the first edge that passes a test passes it
first-passes : {E : Type 0} (test : E → Bool) (es : List E) (n : ℕ) → first_edge test es ≡ Some n
    → (e : E) × (slice_get es n ≡ Some e) × (test e ≡ true)
first-passes test [] n h = absurd (true≢false (sym (ap is_some h)))
first-passes {E = E} test (e ∷ es) n h =
    by (test e) refl (first_edge test es) (λ m is. first-passes test es m is) h
  where
    number : (m : ℕ) → Some m ≡ Some n → m ≡ n
    number m same = cc

    by : (b : Bool) → test e ≡ b → (o : Option ℕ)
        → ((m : ℕ) → o ≡ Some m → (x : E) × (slice_get es m ≡ Some x) × (test x ≡ true))
        → cond b (Some 0) (option_map (λ m. m + 1) o) ≡ Some n
        → (x : E) × (slice_get (e ∷ es) n ≡ Some x) × (test x ≡ true)
    by true has o later found = (e, ap (slice_get (e ∷ es)) (sym (number 0 found)), has)
    by false fails None later found = absurd (true≢false (sym (ap is_some found)))
    by false fails (Some m) later found =
        let rest = later m refl in
        let next : n ≡ suc m = sym (number (m + 1) found) ∙ add-one m in
        (rest.0, ap (slice_get (e ∷ es)) next ∙ rest.1, rest.2)

among-some : (paths : List (List ℕ)) (path : List ℕ) → is_among paths path ≡ true → 0 < length paths
among-some [] path h = absurd (true≢false (sym h))
among-some (p ∷ paths) path h = omega arith

-- the last step of a chain
last-step : {step : ℕ → ℕ → Type 0} (e f : ℕ) → Chain step e f → (g : ℕ) × step g f
last-step e f (one s) = (e, s)
last-step e f (more {g = g} s c) = last-step g f c

-- an edge that makes something has an output
pub needed-output : (edges : List EdgePaths) (e f : ℕ) → Chain (Needs (makers_of_inputs edges)) e f
    → 0 < length (outputs_of (edge_at edges f))
needed-output edges e f chain =
    let last = last-step e f chain in
    let made = made-of (maker_of edges) (inputs_of (edge_at edges last.0)) f last.1 in
    let found = first-passes (λ edge. is_among (outputs_of edge) made.0) edges f made.1 in
    subst (λ edge. 0 < length (outputs_of edge))
    (sym (get_or_from_slice_get edges f found.0 (edge_at [] 0) found.1))
    (among-some (outputs_of found.0) made.0 found.2)

-- the first of some files
pub first-path : (files : List (List ℕ)) (ns : List FileNo) (d : FileNo) (path : List ℕ) → 0 < length ns
    → slice_get files (get_or ns 0 d).0 ≡ Some path → slice_get (paths_at files ns) 0 ≡ Some path
first-path files [] d path some is = absurd (omega arith)
first-path files (f ∷ ns) d path some is = ap (λ o. Some (unwrap_or o [])) is

-- an edge that is on a cycle has outputs
module _ (files : List (List ℕ)) (edges : List EdgePaths) (n : ℕ) (outputs inputs validations : List FileNo)
    (kinds : KindEnds) (is_phony : Bool)
    (has : HasFiles files (edge_at edges n) outputs inputs validations kinds is_phony) where
  outputs-paths : paths_at files outputs ≡ outputs_of (edge_at edges n)
  outputs-paths = files-paths files outputs (outputs_of (edge_at edges n))
      (outputs-are files (edge_at edges n) outputs inputs validations kinds is_phony has)

  pub some-output : IsLeastOnCycle (makers_of_inputs edges) n → 0 < length outputs
  some-output least = grind (arith, length-map, needed-output, outputs-paths)

  pub first-output : (fs : List (List ℕ)) → fs ≡ files → (path : List ℕ)
      → slice_get (paths_at fs outputs) 0 ≡ Some path
      → slice_get (outputs_of (edge_at edges n)) 0 ≡ Some path
  first-output fs same path h = ap (λ paths. slice_get paths 0) (sym outputs-paths
      ∙ ap (λ xs. paths_at xs outputs) (sym same)) ∙ h

-- the edge that the check finds
pub cycle-edge : (files : List (List ℕ)) (l : Lists) → EdgesAreHeld files l → (t : EdgeTable)
    → table_of files l ≡ t → t.«open» ≡ no_files → (edge : ℕ) (found : Option ℕ) → found ≡ Some edge
    → IsFirstOnCycle (makers_in_rows l) (length l.rows) found
    → (edge < length t.edges) × IsLeastOnCycle (makers_of_inputs t.edges) edge
cycle-edge files l held t is none edge found same first = on-edge t.edges edge
    (first-table files l held (ap (λ u. u.«open») is ∙ none) t is found (Some edge) same first)
