-- The turns of the walk over a list that grows, in a graph.
use Rattle.std.proofs.Common.{◌≡◌, ℕ, zero, suc, ◌+◌, ◌<◌, Bool, true, false, Option, Some, None, unwrap_or}
use Rattle.std.proofs.Common.{List, [], ◌∷◌, ◌++◌, length, get_or, set, map, refl, sym, ap, subst, ◌∙◌, arith}
use Rattle.std.specs.Prelude.{slice_get, slice_index_or, option_map, All}
use Rattle.std.specs.Option.{ForSome}
use Rattle.std.proofs.lemmas.List.{map-append}
use Rattle.std.proofs.lemmas.List.Elements.{All-append}
use Rattle.std.proofs.lemmas.Option.{same_Some}
use Rattle.nj_cycles.specs.Cycles.{IsAcyclic}
use Rattle.nj_names.specs.declared.files.FileNo.{FileNo}
use Rattle.nj_edges.specs.declared.edges.EdgeNo.{EdgeNo}
use Rattle.nj_edges.specs.EdgeGraphs.{EdgeGraph}
use Rattle.nj_edges.specs.Edges.{edge_at, maker_of}
use Rattle.nj_names.specs.Files.{path_at, AreFiles}
use Rattle.nj_edges.specs.Needs.{makers_of_inputs}
use Rattle.nj_needs.specs.Graphs.{row_of_paths, makers_of, count_of}
use Rattle.nj_needs.specs.Inside.Tops.{row_in}
use Rattle.nj_needs.specs.Growing.{grown_targets}
use Rattle.nj_needs.specs.Inside.Paths.{turns_left, IsLinked}
use Rattle.nj_needs.specs.Inside.Standing.{top_of}
use Rattle.nj_needs.specs.Inside.Tops.{IsTop}
use Rattle.nj_needs.specs.Walks.{number_of}
use Rattle.nj_needs.specs.declared.frame.Frame.{Frame}
use Rattle.nj_edges.proofs.GraphLemmas.{files-known}
use Rattle.nj_needs.proofs.Bridges.{AreWithin-paths, paths-at}
use Rattle.nj_needs.proofs.GrowingLaws.{grown-fixed, grown-least}
use Rattle.nj_needs.proofs.GrowingWalk.{IsGrowing, found-below, growing-pass, turns-pass, growing-open}
use Rattle.nj_needs.proofs.GrowingWalk.{turns-open, growing-end, closed-below, growing-close, turns-close}
use Rattle.nj_needs.proofs.GrowingWalk.{growing-start}
use Rattle.nj_needs.proofs.Members.{Among, Contains-from_Among}
use Rattle.nj_needs.proofs.TurnLemmas.{row-top, numbered}
use Rattle.nj_needs.proofs.Walking.{IsLinked-pop, top-within}

abbrev pub paths_of : EdgeGraph → List FileNo → List (List ℕ)
paths_of g files = map (path_at g.files) files

abbrev pub all_paths : EdgeGraph → List FileNo → List (List ℕ)
all_paths g targets = grown_targets g.edges (paths_of g targets)

pub record IsGrowingOver (g : EdgeGraph) (targets : List FileNo) (files : List FileNo) (path : List Frame)
    (place : ℕ) (flags : List Bool) : Type 0 where
  pub growing : IsGrowing (List ℕ) (makers_of_inputs g.edges) (length g.edges) (maker_of g.edges)
      (λ e. (edge_at g.edges e).validations) (paths_of g targets) (all_paths g targets) (paths_of g files)
      path place flags
  pub known : All (λ f. f.0 < length g.files) files

-- the files that are known have their paths
pub AreFiles-known : (files : List (List ℕ)) (ns : List FileNo) → All (λ f. f.0 < length files) ns
    → AreFiles files ns (map (path_at files) ns)
AreFiles-known files [] known = refl
AreFiles-known files (n ∷ ns) known =
    let here : slice_get files n.0 ≡ Some (path_at files n) =
    slice_get_known files n.0 (known 0 n (omega arith)) in
    let later : AreFiles files ns (map (path_at files) ns) =
    AreFiles-known files ns (λ k d lt. known (suc k) d (omega (arith, lt))) in
    cc
  where
    slice_get_known : (fs : List (List ℕ)) (k : ℕ) → k < length fs
        → slice_get fs k ≡ Some (unwrap_or (slice_get fs k) [])
    slice_get_known [] k lt = absurd (omega (arith, lt))
    slice_get_known (f ∷ fs) zero lt = refl
    slice_get_known (f ∷ fs) (suc k) lt = slice_get_known fs k (omega (arith, lt))

-- the result of a look-up is in the row on top
pub comes : (given g : EdgeGraph) (listed files : List FileNo) (opened path : List Frame)
    (edge : Option EdgeNo) (found : Option (Option EdgeNo)) (place : ℕ) → given ≡ g → listed ≡ files
    → opened ≡ path → IsTop opened edge
    → option_map number_of found ≡ slice_get (row_in given listed edge) place
    → slice_get (top_of g files path) place ≡ option_map number_of found
comes given g listed files opened path edge found place graph list same top is = grind (arith, row-top)

-- the flag of a maker that is done
pub done-flag : (given flags : List Bool) (maker : Option EdgeNo) → given ≡ flags
    → ForSome maker (λ e. slice_index_or given e.0 false ≡ true)
    → (m : ℕ) → number_of maker ≡ Some m → get_or flags m false ≡ true
done-flag given flags maker same done m is =
    let e = numbered maker m is in
    subst (λ n. get_or flags n false ≡ true) e.2
    (ap (λ (fs : List Bool). get_or fs e.0.0 false) (sym same) ∙ done e.0 e.1)

module _ (g : EdgeGraph) (targets : List FileNo) (acyclic : IsAcyclic (makers_of g) (count_of g)) where
  inside : (m : ℕ) → Among (row_of_paths g.edges (all_paths g targets)) m → m < count_of g
  inside m a = AreWithin-paths g.edges (all_paths g targets) m
      (Contains-from_Among (row_of_paths g.edges (all_paths g targets)) m a)

  abbrev left : List Frame → ℕ → ℕ
  left path place = turns_left (makers_of_inputs g.edges) (length g.edges)
      (row_of_paths g.edges (all_paths g targets)) path place

  abbrev checks : ℕ → List (List ℕ)
  checks e = (edge_at g.edges e).validations

  pub start : (flags : List Bool) → All (λ f. f.0 < length g.files) targets → length flags ≡ count_of g
      → ((e : ℕ) → e < count_of g → get_or flags e false ≡ false) → IsGrowingOver g targets targets [] 0 flags
  start flags known len clear = record {
    growing = growing-start (List ℕ) (makers_of_inputs g.edges) (length g.edges) acyclic.0 acyclic.1
        (maker_of g.edges) checks (paths_of g targets) (all_paths g targets) inside
        (grown-fixed g.edges (paths_of g targets)) flags len clear;
    known = known;
  }

  module _ (files : List FileNo) (path : List Frame) (place : ℕ) (flags : List Bool)
      (h : IsGrowingOver g targets files path place flags) where
    pub below : (m : ℕ) → slice_get (top_of g files path) place ≡ Some (Some m) → m < count_of g
    below = found-below (List ℕ) (makers_of_inputs g.edges) (length g.edges) acyclic.0 acyclic.1
        (maker_of g.edges) checks (paths_of g targets) (all_paths g targets) inside
        (grown-fixed g.edges (paths_of g targets)) (paths_of g files) path place flags h.growing

    -- the last open edge is an edge
    pub top-edge : (edge : Option EdgeNo) → IsTop path edge → (e : EdgeNo) → edge ≡ Some e
        → e.0 < count_of g
    top-edge None top e is = absurd cc
    top-edge (Some x) top e is =
        let row = row_of_paths g.edges (all_paths g targets) in
        let linked : IsLinked (makers_of g) row (top.0 ++ top.1 ∷ []) =
        subst (IsLinked (makers_of g) row) top.2 h.growing.standing.linked in
        let r = IsLinked-pop (makers_of g) row top.0 top.1 linked in
        let low : top.1.edge.0 < count_of g = top-within (makers_of g) (count_of g) acyclic.0 acyclic.1 row
        inside top.0 top.1.at top.1.edge.0 r.1 in
        subst (λ (y : EdgeNo). y.0 < count_of g) (top.3 ∙ same_Some x e is) low

    pub len-flags : length flags ≡ count_of g
    len-flags = h.growing.standing.flags_len

    module _ (x : Option ℕ) (at : slice_get (top_of g files path) place ≡ Some x)
        (flagged : (m : ℕ) → x ≡ Some m → get_or flags m false ≡ true) where
      pub pass : IsGrowingOver g targets files path (place + 1) flags
      pass = record {
        growing = growing-pass (List ℕ) (makers_of_inputs g.edges) (length g.edges) acyclic.0 acyclic.1
            (maker_of g.edges) checks (paths_of g targets) (all_paths g targets) inside
            (grown-fixed g.edges (paths_of g targets)) (paths_of g files) path place flags h.growing x at
            flagged;
        known = h.known;
      }

      pub pass-less : left path (place + 1) < left path place
      pass-less = omega (
        arith,
        turns-pass (List ℕ) (makers_of_inputs g.edges) (length g.edges) acyclic.0
            acyclic.1 (maker_of g.edges) checks (paths_of g targets) (all_paths g targets) inside
            (grown-fixed g.edges (paths_of g targets)) (paths_of g files) path place flags h.growing x at
            flagged,
      )

    module _ (f : Frame) (after : List Frame) (grown : after ≡ path ++ f ∷ []) (here : f.at ≡ place)
        (at : slice_get (top_of g files path) place ≡ Some (Some f.edge.0))
        (fresh : get_or flags f.edge.0 false ≡ false) where
      pub opened : IsGrowingOver g targets files after 0 flags
      opened = subst (λ (fs : List Frame). IsGrowingOver g targets files fs 0 flags) (sym grown) (record {
        growing = growing-open (List ℕ) (makers_of_inputs g.edges) (length g.edges) acyclic.0 acyclic.1
            (maker_of g.edges) checks (paths_of g targets) (all_paths g targets) inside
            (grown-fixed g.edges (paths_of g targets)) (paths_of g files) path place flags h.growing f here at
            fresh;
        known = h.known;
      })

      pub open-less : left after 0 < left path place
      open-less =
          let e = turns-open (List ℕ) (makers_of_inputs g.edges) (length g.edges) acyclic.0 acyclic.1
          (maker_of g.edges) checks (paths_of g targets) (all_paths g targets) inside
          (grown-fixed g.edges (paths_of g targets)) (paths_of g files) path place flags h.growing f here
          at fresh in
          let same : left after 0 ≡ left (path ++ f ∷ []) 0 = ap (λ (fs : List Frame). left fs 0) grown in
          omega (arith, e, same)

    pub ended : path ≡ [] → slice_get (top_of g files path) place ≡ None
        → AreFiles g.files files (all_paths g targets)
    ended empty past =
        let is : paths_of g files ≡ all_paths g targets =
        growing-end (List ℕ) (makers_of_inputs g.edges) (length g.edges) acyclic.0 acyclic.1
        (maker_of g.edges) checks (paths_of g targets) (all_paths g targets) inside
        (grown-fixed g.edges (paths_of g targets)) (paths_of g files) path place flags h.growing
        (grown-least g.edges (paths_of g targets)) empty past in
        subst (λ (paths : List (List ℕ)). AreFiles g.files files paths) is
        (AreFiles-known g.files files h.known)

    -- an edge is closed
    module _ (f : Frame) (after : List Frame) (shrunk : path ≡ after ++ f ∷ [])
        (past : slice_get (top_of g files path) place ≡ None) where
      stood : IsGrowing (List ℕ) (makers_of_inputs g.edges) (length g.edges) (maker_of g.edges) checks
          (paths_of g targets) (all_paths g targets) (paths_of g files) (after ++ f ∷ []) place flags
      stood = subst (λ (fs : List Frame). IsGrowing (List ℕ) (makers_of_inputs g.edges) (length g.edges)
          (maker_of g.edges) checks (paths_of g targets) (all_paths g targets) (paths_of g files) fs place
          flags) shrunk h.growing

      past-top : slice_get (top_of g files (after ++ f ∷ [])) place ≡ None
      past-top = ap (λ (fs : List Frame). slice_get (top_of g files fs) place) (sym shrunk) ∙ past

      pub close-below : f.edge.0 < count_of g
      close-below = closed-below (List ℕ) (makers_of_inputs g.edges) (length g.edges) acyclic.0 acyclic.1
          (maker_of g.edges) checks (paths_of g targets) (all_paths g targets) inside
          (grown-fixed g.edges (paths_of g targets)) (paths_of g files) after f place flags stood past-top

      pub closed : (more : List FileNo) → AreFiles g.files more (checks f.edge.0)
          → IsGrowingOver g targets (files ++ more) after (f.at + 1) (set flags f.edge.0 true)
      closed more are =
          let is : paths_of g (files ++ more) ≡ paths_of g files ++ checks f.edge.0 =
          map-append (path_at g.files) files more
          ∙ ap (λ (ps : List (List ℕ)). paths_of g files ++ ps)
          (paths-at g.files more (checks f.edge.0) are) in
          record {
            growing = subst (λ (ps : List (List ℕ)). IsGrowing (List ℕ) (makers_of_inputs g.edges)
                (length g.edges) (maker_of g.edges) checks (paths_of g targets) (all_paths g targets) ps after
                (f.at + 1) (set flags f.edge.0 true)) (sym is)
                (growing-close (List ℕ) (makers_of_inputs g.edges) (length g.edges) acyclic.0 acyclic.1
                (maker_of g.edges) checks (paths_of g targets) (all_paths g targets) inside
                (grown-fixed g.edges (paths_of g targets)) (paths_of g files) after f place flags stood
                past-top);
            known = All-append (λ (n : FileNo). n.0 < length g.files) files more h.known
                (files-known g.files more (checks f.edge.0) are);
          }

      pub close-less : left after (f.at + 1) < left path place
      close-less =
          let e = turns-close (List ℕ) (makers_of_inputs g.edges) (length g.edges) acyclic.0 acyclic.1
          (maker_of g.edges) checks (paths_of g targets) (all_paths g targets) inside
          (grown-fixed g.edges (paths_of g targets)) (paths_of g files) after f place flags stood past-top
          in
          let same : left path place ≡ left (after ++ f ∷ []) place =
          ap (λ (fs : List Frame). left fs place) shrunk in
          omega (arith, e, same)
