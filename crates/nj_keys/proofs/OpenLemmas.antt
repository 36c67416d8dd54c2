-- How the keys of edges that need each other are computed, without recursion.
use Rattle.std.proofs.Common.{◌≡◌, ◌≢◌, ◌<◌, ◌≤◌, ◌+◌, inl, inr, ℕ, zero, suc, Option, Some, None, List, []}
use Rattle.std.proofs.Common.{◌∷◌, ◌++◌, length, reverse, set, refl, sym, ap, ◌∙◌, subst, arith}
use Rattle.std.specs.Prelude.{slice_get}
use Rattle.std.proofs.lemmas.Bool.{cases_eq}
use Rattle.std.proofs.lemmas.List.{get_or-set_same, length-set, reverse-append}
use Rattle.std.proofs.lemmas.List.Sums.{sum_by-set}
use Rattle.std.proofs.lemmas.Option.{get_or_from_slice_get, slice_get-get_or, slice_get_within}
use Rattle.nj_graph.specs.ReadingList.{ReadStatement}
use Rattle.nj_graph.specs.Edges.{EdgePaths, edge_at, inputs_of}
use Rattle.nj_graph.specs.Graph.{GraphModel, edges_of}
use Rattle.nj_graph.specs.Handles.{GraphEdge, GraphFile, edge_in, edge_of, files_in}
use Rattle.nj_keys.specs.declared.keys.Frame.{Frame}
use Rattle.nj_keys.specs.Keys.{IsKey, Needs}
use Rattle.nj_keys.specs.Inside.Keeping.{inputs_in, missing, missing_one, AreOpen, BeganWith, IsMissing}
use Rattle.nj_keys.specs.Inside.Keeping.{IsKept, IsOpen, IsRank, KeepsKeys, MakesOne}
use Rattle.nj_keys.proofs.MakerLemmas.{kept-unless, makes-needed, needed-makes}

-- ---- lists in which one element is set

get-set_same : {X : Type 0} (xs : List X) (i : ℕ) (x : X) → i < length xs → slice_get (set xs i x) i ≡ Some x
get-set_same xs i x below =
    slice_get-get_or (set xs i x) i x (omega (arith, below, length-set xs i x))
    ∙ ap Some (get_or-set_same xs i x x below)

get-set_other : {X : Type 0} (xs : List X) (i j : ℕ) (x : X) → j ≢ i
    → slice_get (set xs i x) j ≡ slice_get xs j
get-set_other [] i j x other = refl
get-set_other (y ∷ xs) zero zero x other = absurd (other refl)
get-set_other (y ∷ xs) zero (suc j) x other = refl
get-set_other (y ∷ xs) (suc i) zero x other = refl
get-set_other (y ∷ xs) (suc i) (suc j) x other = get-set_other xs i j x (λ is. other (ap suc is))

pub reverse-last : {X : Type 0} (xs ys : List X) (x : X) → ys ≡ xs ++ x ∷ [] → reverse ys ≡ x ∷ reverse xs
reverse-last xs ys x is = ap reverse is ∙ reverse-append xs (x ∷ [])

module _ (keys : List (Option (List ℕ))) (e : ℕ) (key : List ℕ) where
  abbrev after : List (Option (List ℕ))
  after = set keys e (Some key)

  -- a key that is still missing was missing before
  pub still-missing : (f : ℕ) → IsMissing after f → IsMissing keys f
  still-missing f none = elim (cases_eq f e) [
    | inl same ↦
        let below : e < length keys = subst (λ n. n < length keys) same
        (omega (arith, slice_get_within after f None none, length-set keys e (Some key))) in
        let here : Some (Some key) ≡ Some None =
        sym (get-set_same keys e (Some key) below) ∙ ap (slice_get after) (sym same) ∙ none in
        absurd cc
    | inr apart ↦ sym (get-set_other keys e f (Some key) apart) ∙ none
  ]

  pub keys-set : (folders : List (List ℕ)) (edges : List EdgePaths) (entries : List ReadStatement)
      → IsKey folders edges entries e key → KeepsKeys folders edges entries keys
      → KeepsKeys folders edges entries after
  keys-set folders edges entries new kept f found is = elim (cases_eq f e) [
    | inl same ↦
        let below : e < length keys = subst (λ n. n < length keys) same
        (omega (arith, slice_get_within after f (Some found) is, length-set keys e (Some key))) in
        let here : Some (Some key) ≡ Some (Some found) =
        sym (get-set_same keys e (Some key) below) ∙ ap (slice_get after) (sym same) ∙ is in
        let key_is : key ≡ found = cc in
        subst (λ k. IsKey folders edges entries f k) key_is
        (subst (λ n. IsKey folders edges entries n key) (sym same) new)
    | inr apart ↦ kept f found (sym (get-set_other keys e f (Some key) apart) ∙ is)
  ]

  pub missing-set : slice_get keys e ≡ Some None → missing after + 1 ≡ missing keys
  missing-set none =
      let at = sum_by-set missing_one keys e (Some key) None (slice_get_within keys e None none) in
      omega (arith, at, ap missing_one (get_or_from_slice_get keys e None None none))

-- ---- open edges

module _ (g : GraphModel) (rank : ℕ → ℕ) (ranked : IsRank (edges_of g) rank) where
  open-less : (keys : List (Option (List ℕ))) (least less : ℕ) (frames : List Frame) → less ≤ least
      → AreOpen g keys rank least frames → AreOpen g keys rank less frames
  open-less keys least less [] under are = tt
  open-less keys least less (frame ∷ frames) under (is, are) = (
    record {
      graph = is.graph;
      above = omega (arith, under, is.above);
      missing = is.missing;
      needed = is.needed;
      left = is.left;
    },
    are,
  )

  -- at most as many edges are open as the graph has
  pub open-length : (keys : List (Option (List ℕ))) → length keys ≡ length (edges_of g)
      → (least : ℕ) (frames : List Frame) → least ≤ length (edges_of g)
      → AreOpen g keys rank least frames → least + length frames ≤ length (edges_of g)
  open-length keys count least [] within are = omega (arith, within)
  open-length keys count least (frame ∷ frames) within (is, are) =
      let edge = (edge_of frame.edge).number in
      let known = slice_get_within keys edge None is.missing in
      let bounded = ranked.bounded edge (omega (arith, known, count)) in
      omega (arith, is.above, open-length keys count (rank edge + 1) frames (omega (arith, bounded)) are)

  -- the key of an edge of a lesser rank is kept from now on
  open-set : (keys : List (Option (List ℕ))) (e : ℕ) (key : List ℕ) (least : ℕ) (frames : List Frame)
      → rank e < least
      → AreOpen g keys rank least frames → AreOpen g (set keys e (Some key)) rank least frames
  open-set keys e key least [] under are = tt
  open-set keys e key least (frame ∷ frames) under (is, are) =
      let edge = (edge_of frame.edge).number in
      let apart : edge ≢ e = λ same. absurd (omega (arith, under, is.above, ap rank same)) in (
        record {
          graph = is.graph;
          above = is.above;
          missing = get-set_other keys e edge (Some key) apart ∙ is.missing;
          needed = is.needed;
          left = λ f needs none. is.left f needs (still-missing keys e key f none);
        },
        open-set keys e key (rank edge + 1) frames (omega (arith, under, is.above)) are,
      )

  pub open-closed : (keys : List (Option (List ℕ))) (key : List ℕ) (frame : Frame) (frames : List Frame)
      → AreOpen g keys rank 0 (frame ∷ frames)
      → AreOpen g (set keys (edge_of frame.edge).number (Some key)) rank 0 frames
  open-closed keys key frame frames (is, are) =
      let e = (edge_of frame.edge).number in
      open-less (set keys e (Some key)) (rank e + 1) 0 frames (omega arith)
      (open-set keys e key (rank e + 1) frames (omega arith) are)

  -- an edge is opened with all its inputs
  pub is-opened : (keys : List (Option (List ℕ))) (least : ℕ) (edge : GraphEdge) → edge.graph ≡ g
      → least ≤ rank edge.number → IsMissing keys edge.number
      → IsOpen g keys rank least edge (inputs_in edge)
  is-opened keys least edge graph above none =
      let paths = inputs_of (edge_at (edges_of g) edge.number) in
      let inputs : inputs_in edge ≡ files_in g paths =
      ap (λ h. files_in h (inputs_of (edge_at (edges_of h) edge.number))) graph in
      record {
        graph = graph;
        above = above;
        missing = none;
        needed = λ maker makes. makes-needed g paths maker
            (subst (λ files. MakesOne files maker) inputs makes);
        left = λ maker needs none. subst (λ files. MakesOne files (edge_in g maker)) (sym inputs)
            (needed-makes g paths maker needs);
      }

  -- the first edge
  pub open-first : (keys : List (Option (List ℕ))) (frame : Frame) (edge : GraphEdge) → edge.graph ≡ g
      → IsMissing keys edge.number → edge_of frame.edge ≡ edge → frame.inputs ≡ inputs_in edge
      → AreOpen g keys rank 0 (frame ∷ [])
  open-first keys frame edge graph none is inputs = (
    subst (λ e. IsOpen g keys rank 0 e frame.inputs) (sym is)
        (subst (IsOpen g keys rank 0 edge) (sym inputs) (is-opened keys 0 edge graph (omega arith) none)),
    tt,
  )

  -- a maker of an input is opened
  pub open-next : (keys : List (Option (List ℕ))) (frame here next : Frame) (frames : List Frame)
      (maker : GraphEdge) → AreOpen g keys rank 0 (frame ∷ frames)
      → edge_of here.edge ≡ edge_of frame.edge
      → ((edge : GraphEdge) → MakesOne here.inputs edge → MakesOne frame.inputs edge)
      → ((edge : GraphEdge) → MakesOne frame.inputs edge → IsMissing keys edge.number
      → MakesOne here.inputs edge)
      → MakesOne frame.inputs maker → IsMissing keys maker.number
      → edge_of next.edge ≡ maker → next.inputs ≡ inputs_in maker
      → AreOpen g keys rank 0 (next ∷ here ∷ frames)
  open-next keys frame here next frames maker (is, are) same fewer left makes none next-is inputs =
      let user = edge_of frame.edge in
      let needs = is.needed maker makes in
      let stays : IsOpen g keys rank (rank maker.number + 1) user here.inputs = record {
        graph = is.graph;
        above = omega (arith, ranked.falls user.number maker.number needs.1);
        missing = is.missing;
        needed = λ f there. is.needed f (fewer f there);
        left = λ f needed missing. left (edge_in g f) (is.left f needed missing) missing;
      } in
      let first = open-first keys next maker needs.0 none next-is inputs in (
        first.0,
        (
          subst (λ n. IsOpen g keys rank (rank n + 1) (edge_of here.edge) here.inputs)
              (sym (ap (λ e. e.number) next-is))
              (subst (λ e. IsOpen g keys rank (rank maker.number + 1) e here.inputs) (sym same) stays),
          subst (λ e. AreOpen g keys rank (rank e.number + 1) frames) (sym same) are,
        ),
      )

  -- the keys of the makers of an edge's inputs are kept, if none of the makers that may lack a key lacks it
  pub makers-kept : (keys : List (Option (List ℕ))) → length keys ≡ length (edges_of g)
      → (least : ℕ) (edge : GraphEdge) (inputs : List GraphFile) → IsOpen g keys rank least edge inputs
      → ((maker : GraphEdge) → MakesOne inputs maker → IsMissing keys maker.number → ⊥)
      → (maker : ℕ) → Needs (edges_of edge.graph) edge.number maker → IsKept keys maker
  makers-kept keys count least edge inputs is never maker needs =
      let needed = subst (λ h. Needs (edges_of h) edge.number maker) is.graph needs in
      let within = ranked.within edge.number maker needed in
      kept-unless keys maker (omega (arith, within, count))
      (λ none. never (edge_in g maker) (is.left maker needed none) none)

-- ---- the edge that was opened first

began-any : (keys others : List (Option (List ℕ))) (edge : ℕ) (frame : Frame) (frames : List Frame)
    → BeganWith keys edge (frame ∷ frames) → BeganWith others edge (frame ∷ frames)
began-any keys others edge frame [] began = began
began-any keys others edge frame (next ∷ frames) began = began-any keys others edge next frames began

pub began-next : (keys : List (Option (List ℕ))) (edge : ℕ) (frame here next : Frame) (frames : List Frame)
    → edge_of here.edge ≡ edge_of frame.edge
    → BeganWith keys edge (frame ∷ frames) → BeganWith keys edge (next ∷ here ∷ frames)
began-next keys edge frame here next [] same began = ap (λ e. e.number) same ∙ began
began-next keys edge frame here next (other ∷ frames) same began = began

pub began-closed : (keys : List (Option (List ℕ))) (edge : ℕ) (key : List ℕ) (frame : Frame)
    (frames : List Frame) → (edge_of frame.edge).number < length keys
    → BeganWith keys edge (frame ∷ frames)
    → BeganWith (set keys (edge_of frame.edge).number (Some key)) edge frames
began-closed keys edge key frame [] below began = (
  key,
  subst (λ n. slice_get (set keys (edge_of frame.edge).number (Some key)) n ≡ Some (Some key)) began
      (get-set_same keys (edge_of frame.edge).number (Some key) below),
)
began-closed keys edge key frame (next ∷ frames) below began =
    began-any keys (set keys (edge_of frame.edge).number (Some key)) edge next frames began
