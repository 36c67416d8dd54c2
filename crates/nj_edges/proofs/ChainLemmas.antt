-- How a shortest chain is found.
use Rattle.std.proofs.lemmas.Grind.{common_steps}
use Rattle.std.proofs.Common.{◌≡◌, ◌≢◌, ◌<◌, ◌≤◌, ◌+◌, ◌-◌, ◌^◌, ◌==◌, inl, inr, ℕ, zero, suc, Bool, true}
use Rattle.std.proofs.Common.{false, cond, nat_lt, List, [], ◌∷◌, ◌++◌, map, length, take, get_or, Option}
use Rattle.std.proofs.Common.{Some, None, slice_get, bytes_eq, refl, sym, ap, subst, ◌∙◌, arith, eqb-true}
use Rattle.std.proofs.Common.{length-append, option_map, reverse, append-nil}
use Rattle.std.specs.Prelude.{Contains, IfSome, slice_index, slice_index_or}
use Rattle.std.specs.Global.{Vec}
use Rattle.std.specs.List.{All, IsDistinct}
use Rattle.std.proofs.lemmas.Bool.{cases_lt}
use Rattle.std.proofs.lemmas.Bool.Decides.{nat_tests}
use Rattle.std.proofs.lemmas.List.{get_or-append_right, get_or-map, get_or_append_left, get_or_past}
use Rattle.std.proofs.lemmas.List.{get_or_push, length-map, length_push, map_push, reverse-append, take_all}
use Rattle.std.proofs.lemmas.List.{take_more}
use Rattle.std.proofs.lemmas.List.Elements.{All-get_or}
use Rattle.std.proofs.lemmas.Option.{get_or_from_slice_get, slice_get-get_or, slice_get_within}
use Rattle.std.proofs.lemmas.Slice.Eq.{bytes_eq-Decides}
use Rattle.nj_names.specs.NumberSets.{NumberSetModel, has, with_number}
use Rattle.nj_cycles.proofs.Places.{at_left, contains_at, index_of}
use Rattle.nj_edges.specs.declared.chains.Arrival.{Arrival}
use Rattle.nj_edges.specs.declared.chains.ChainKinds.{ChainKinds}
use Rattle.nj_edges.specs.declared.chains.Step.{Step}
use Rattle.nj_edges.specs.declared.edges.EdgeNo.{EdgeNo}
use Rattle.nj_edges.specs.declared.edges.Kind.{Kind}
use Rattle.nj_names.specs.declared.files.FileNo.{FileNo}
use Rattle.nj_edges.specs.Chains.{inputs_of_kinds, inputs_with, IsChain, IsStep, Lead, PathIs}
use Rattle.nj_edges.specs.Edges.{EdgePaths, counted_inputs_of, edge_at, inputs_of, is_among, kind_at}
use Rattle.nj_edges.specs.Edges.{maker_of, outputs_of}
use Rattle.nj_edges.specs.EdgeGraphs.{EdgeGraph}
use Rattle.nj_names.specs.Files.{path_at, AreFiles}
use Rattle.nj_edges.specs.Inside.ChainsHeld.{AddsMakers, Arrives, ChainIs, ComeFromEarlier, HasInput}
use Rattle.nj_edges.specs.Inside.ChainsHeld.{IsArrival, IsReachedFrom, IsShortestFrom, IsStepAt, LeadFrom}
use Rattle.nj_edges.specs.Inside.ChainsHeld.{MakesInput, MakesInputBefore, SearchesChain, Traces}
use Rattle.nj_edges.specs.Inside.ChainsHeld.{with_arrival}
use Rattle.nj_edges.specs.Inside.ChainsHeld.Traces.{back, start}
use Rattle.nj_edges.specs.Inside.ChangesHeld.{FindsMore}
use Rattle.nj_edges.proofs.ChangeLemmas.{files-paths, finds-one}
use Rattle.nj_edges.proofs.EdgeLemmas.{get-path, same-number}
use Rattle.nj_edges.proofs.GraphLemmas.{first-below}
use Rattle.nj_edges.proofs.NeededLemmas.{finds-maker, finds-source}
use Rattle.nj_edges.proofs.SearchLemmas.{farther, farther-known, farther-new, found-all, found-nearer}
use Rattle.nj_edges.proofs.SearchLemmas.{search-begins, search-continues}

-- ---- files

-- no two files share a path
pub only-file : (files : List (List ℕ)) → IsDistinct bytes_eq files → (f h : FileNo) → f.0 < length files
    → h.0 < length files → path_at files f ≡ path_at files h → f ≡ h
only-file files distinct f h f_below h_below same =
    let tells : (f.0 == h.0) ≡ true = same-number files distinct f.0 (path_at files f)
    (get-path files f f_below) h h_below ∙ (bytes_eq-Decides (path_at files f) (path_at files h)).1 same
    in
    ap (λ n. record { 0 = n }) (eqb-true f.0 h.0 tells)

-- ---- steps

module _ (kinds : ChainKinds) (files : List (List ℕ)) (ns : List FileNo) (e : EdgePaths) where
  pub all-of-kinds : AreFiles files ns (inputs_of e) → kinds.order_only ≡ true
      → AreFiles files ns (inputs_of_kinds kinds e)
  all-of-kinds are count =
      subst (AreFiles files ns) (ap (λ b. counted_inputs_of e ++ cond b e.order_only_inputs []) (sym count))
      are

  pub counted-of-kinds : AreFiles files ns (counted_inputs_of e) → kinds.order_only ≡ false
      → AreFiles files ns (inputs_of_kinds kinds e)
  counted-of-kinds are count =
      subst (AreFiles files ns) (
      sym (append-nil (counted_inputs_of e))
      ∙ ap (λ b. counted_inputs_of e ++ cond b e.order_only_inputs []) (sym count)
      ) are

some-kind : (n count : ℕ) (k : Option Kind) → n < count → cond (nat_lt n count) k None ≡ k
some-kind n count k below = grind (arith, nat_tests)

no-kind : (n count : ℕ) (k : Option Kind) → count ≤ n → cond (nat_lt n count) k None ≡ None
no-kind n count k past = grind (arith, nat_tests)

module _ (g : EdgeGraph) (distinct : IsDistinct bytes_eq g.files) (kinds : ChainKinds) (edge : EdgeNo)
    (index : ℕ)
    (inputs : List FileNo) (are : AreFiles g.files inputs (inputs_of_kinds kinds (edge_at g.edges edge.0)))
  where
    abbrev e : EdgePaths
    e = edge_at g.edges edge.0

    abbrev validations : List (List ℕ)
    validations = cond kinds.validations (edge_at g.edges edge.0).validations []

    paths : map (path_at g.files) inputs ≡ inputs_of_kinds kinds (edge_at g.edges edge.0)
    paths = files-paths g.files inputs (inputs_of_kinds kinds (edge_at g.edges edge.0)) are

    pub inputs-count : length inputs ≡ length (inputs_of_kinds kinds (edge_at g.edges edge.0))
    inputs-count = sym (length-map inputs (path_at g.files)) ∙ ap length paths

    pub input-step : (d : FileNo) (kind : Kind) → All (λ file. file.0 < length g.files) inputs
        → index < length inputs → index + 1 < 2 ^ 64 → kind ≡ kind_at (edge_at g.edges edge.0) index
        → IsStepAt g kinds edge index (record {
          edge = edge;
          index = index;
          file = get_or inputs index d;
          kind =
              Some kind;
        })
    input-step d kind known below fits kind_is =
        let here : index < length (inputs_of_kinds kinds e) = omega (arith, below, inputs-count) in
        let file_known = All-get_or (λ (file : FileNo). file.0 < length g.files) inputs index d below known in
        record {
          edge_is = refl;
          index_is = refl;
          is_step = record {
            file = file_known;
            input =
                slice_get-get_or (inputs_of_kinds kinds e ++ validations) index []
                (omega (arith, here, length-append (inputs_of_kinds kinds e) validations))
                ∙ ap Some (get_or_append_left (inputs_of_kinds kinds e) validations [] index here
                ∙ ap (λ ps. get_or ps index []) (sym paths)
                ∙ get_or-map (path_at g.files) inputs index d [] below);
            kind = ap Some kind_is ∙ sym (some-kind index (length (inputs_of_kinds kinds e))
                (Some (kind_at e index)) here);
          };
          known = file_known;
          only = λ file below'. only-file g.files distinct (get_or inputs index d) file file_known below';
          fits = fits;
        }

    pub validation-step : (files : List FileNo) (file : FileNo)
        → AreFiles g.files files (edge_at g.edges edge.0).validations
        → All (λ file. file.0 < length g.files) files
        → kinds.validations ≡ true → length inputs ≤ index
        → slice_get files (index - length inputs) ≡ Some file
        → index + 1 < 2 ^ 64
        → IsStepAt g kinds edge index (record { edge = edge; index = index; file = file; kind = None })
    validation-step files file are' known with_them past got fits =
        let below = slice_get_within files (index - length inputs) file got in
        let is : get_or files (index - length inputs) file ≡ file =
        get_or_from_slice_get files (index - length inputs) file file got in
        let names = files-paths g.files files e.validations are' in
        let counted : validations ≡ e.validations = ap (λ b. cond b e.validations []) with_them in
        let count : length files ≡ length validations =
        sym (length-map files (path_at g.files)) ∙ ap length names ∙ ap length (sym counted) in
        let after : length (inputs_of_kinds kinds e) ≤ index = omega (arith, past, inputs-count) in
        let file_known = subst (λ (f : FileNo). f.0 < length g.files) is
        (All-get_or (λ (f : FileNo). f.0 < length g.files) files (index - length inputs) file below known)
        in
        record {
          edge_is = refl;
          index_is = refl;
          is_step = record {
            file = file_known;
            input =
                slice_get-get_or (inputs_of_kinds kinds e ++ validations) index []
                (omega (
                  arith,
                  below,
                  count,
                  inputs-count,
                  length-append (inputs_of_kinds kinds e) validations,
                ))
                ∙ ap Some (
                get_or-append_right (inputs_of_kinds kinds e) validations (length inputs) index []
                (sym inputs-count) past
                ∙ ap (λ ps. get_or ps (index - length inputs) []) (counted ∙ sym names)
                ∙ get_or-map (path_at g.files) files (index - length inputs) file [] below
                ∙ ap (path_at g.files) is
                );
            kind = sym (no-kind index (length (inputs_of_kinds kinds e)) (Some (kind_at e index)) after);
          };
          known = file_known;
          only = λ other below'. only-file g.files distinct file other file_known below';
          fits = fits;
        }

-- ---- files that chains reach

module _ (g : EdgeGraph) (kinds : ChainKinds) where
  abbrev inputs_at : (edge : ℕ) → List (List ℕ)
  inputs_at edge = inputs_with kinds (edge_at g.edges edge)

  pub step-has : (s : Step) → IsStep g kinds s → HasInput g kinds (path_at g.files s.file) s.edge.0
  step-has s step =
      let path = path_at g.files s.file in (
        s.index,
        slice_get_within (inputs_at s.edge.0) s.index path step.input,
        get_or_from_slice_get (inputs_at s.edge.0) s.index path path step.input,
      )

  pub step-makes : (s : Step) (maker : ℕ) → IsStep g kinds s
      → maker_of g.edges (path_at g.files s.file) ≡ Some maker
      → MakesInput g kinds s.edge.0 maker
  step-makes s maker step made =
      let has = step-has s step in
      let path = path_at g.files s.file in (
        has.0,
        omega (arith, has.1, length-map (inputs_at s.edge.0) (maker_of g.edges)),
        get_or-map (maker_of g.edges) (inputs_at s.edge.0) has.0 path (Some maker) has.1
            ∙ ap (maker_of g.edges) has.2 ∙ made,
      )

  pub record IsReachedBy (first steps : ℕ) (to : List ℕ) : Type 0 where
    pub edge : ℕ
    pub reached : IsReachedFrom g kinds first steps edge
    pub has : HasInput g kinds to edge

  lead-reaches : (n first : ℕ) (to : List ℕ) (s : Step) (steps : List Step)
      → IsReachedFrom g kinds first n s.edge.0 → IsStep g kinds s
      → Lead g kinds (path_at g.files s.file) steps to
      → IsReachedBy first (n + length steps) to
  lead-reaches n first to s [] reached step is =
      let same : n ≡ n + length {A = Step} [] = omega arith in
      subst (λ m. IsReachedBy first m to) same
      (record {
        edge = s.edge.0;
        reached = reached;
        has =
            subst (λ path. HasInput g kinds path s.edge.0) is (step-has s step);
      })
  lead-reaches n first to s (t ∷ steps) reached step (made, next, leads) =
      let same : suc n + length steps ≡ n + length (t ∷ steps) = omega arith in
      subst (λ m. IsReachedBy first m to) same
      (lead-reaches (suc n) first to t steps (s.edge.0, reached, step-makes s t.edge.0 step made) next
      leads)

  chain-reaches : (first : ℕ) (from to : List ℕ) → maker_of g.edges from ≡ Some first
      → (s : Step) (steps : List Step) → Lead g kinds from (s ∷ steps) to
      → IsReachedBy first (0 + length steps) to
  chain-reaches first from to maker s steps (made, step, leads) =
      let same : s.edge.0 ≡ first = some-same s.edge.0 first (sym made ∙ maker) in
      lead-reaches 0 first to s steps same step leads
    where
      some-same : (x y : ℕ) → Some x ≡ Some y → x ≡ y
      some-same x y is = cc

  pub path-none : (from to : FileNo) (first : ℕ) → maker_of g.edges (path_at g.files from) ≡ Some first
      → ChainIs g kinds first (path_at g.files to) None → PathIs g kinds from to None
  path-none from to first maker none = inr all
    where
      all : (steps : List Step) → IsChain g kinds (path_at g.files from) steps (path_at g.files to) → ⊥
      all [] none_is = none_is
      all (s ∷ steps) chain =
          let reached = chain-reaches first (path_at g.files from) (path_at g.files to) maker s steps chain in
          none (0 + length steps) reached.edge reached.reached reached.has

  pub path-some : (from to : FileNo) (first : ℕ) (steps : List Step) → from ≢ to
      → maker_of g.edges (path_at g.files from) ≡ Some first
      → ChainIs g kinds first (path_at g.files to) (Some steps) → PathIs g kinds from to (Some steps)
  path-some from to first steps apart maker (some, leftmost) = (
    apart,
    record {
      chain = some.leads (path_at g.files from) maker;
      shortest = all;
      leftmost = λ others. leftmost (path_at g.files from) others maker;
    },
  )
    where
      all : (others : List Step) → IsChain g kinds (path_at g.files from) others (path_at g.files to)
          → length steps ≤ length others
      all [] none_is = absurd none_is
      all (s ∷ others) chain =
          let reached = chain-reaches first (path_at g.files from) (path_at g.files to) maker s others chain
          in
          omega (arith, some.shortest (0 + length others) reached.edge reached.reached reached.has)

-- ---- back to the beginning

reverse-push : (steps : List Step) (s : Step) → reverse (steps ++ s ∷ []) ≡ s ∷ reverse steps
reverse-push steps s = reverse-append steps (s ∷ [])

pub traces-back : (arrivals : List (Option Arrival)) (place : ℕ) (arrival : Arrival) (steps : List Step)
    (pushed whole : List Step) → slice_index_or arrivals place None ≡ Some arrival
    → pushed ≡ steps ++ arrival.step ∷ [] → Traces arrivals arrival.place (reverse pushed) whole
    → Traces arrivals place (reverse steps) whole
traces-back arrivals place arrival steps pushed whole here are traced =
    back arrival here (subst (λ ss. Traces arrivals arrival.place ss whole)
    (ap reverse are ∙ reverse-push steps arrival.step) traced)

-- ---- how the search comes to edges

pub arrival-kept : (g : EdgeGraph) (kinds : ChainKinds) (numbers others : List ℕ) (i : ℕ) (arrival : Arrival)
    → i < length numbers → ((k : ℕ) → k < length numbers → slice_index others k ≡ slice_index numbers k)
    → IsArrival g kinds numbers i arrival → IsArrival g kinds others i arrival
arrival-kept g kinds numbers others i arrival below stays held = grind (arith, common_steps)

-- one more input, from an edge
module _ (g : EdgeGraph) (kinds : ChainKinds) (edge : EdgeNo) (index place : ℕ) (s : Step)
    (at : IsStepAt g kinds edge index s) (first old : NumberSetModel) (before after : List (Option Arrival))
    (place_below : place < length first.numbers) (edge_is : edge.0 ≡ slice_index first.numbers place)
    (held : AddsMakers g kinds (MakesInputBefore g kinds index (slice_index first.numbers place)) place first
    old
    before after) where
  abbrev user : ℕ
  user = slice_index first.numbers place

  abbrev files_of_user : List (List ℕ)
  files_of_user = inputs_with kinds (edge_at g.edges (slice_index first.numbers place))

  input-here : slice_get (inputs_with kinds (edge_at g.edges (slice_index first.numbers place))) index
      ≡ Some (path_at g.files s.file)
  input-here = grind (arith, common_steps)

  makers-more : map (maker_of g.edges) (take (index + 1)
      (inputs_with kinds (edge_at g.edges (slice_index first.numbers place))))
      ≡ map (maker_of g.edges) (take index (inputs_with kinds
      (edge_at g.edges (slice_index first.numbers place)))) ++ maker_of g.edges (path_at g.files s.file) ∷ []
  makers-more =
      ap (map (maker_of g.edges)) (
      take_more files_of_user index [] (slice_get_within files_of_user index (path_at g.files s.file)
      input-here)
      ∙ ap (λ path. take index files_of_user ++ path ∷ [])
      (get_or_from_slice_get files_of_user index (path_at g.files s.file) [] input-here)
      )
      ∙ map_push (maker_of g.edges) (take index files_of_user) (path_at g.files s.file)

  adds-source : maker_of g.edges (path_at g.files s.file) ≡ None
      → AddsMakers g kinds (MakesInputBefore g kinds (index + 1) (slice_index first.numbers place)) place
      first old
      before after
  adds-source unmade = record {
    finds =
        subst (λ os. FindsMore (λ e. Contains os (Some e)) first old)
        (sym (makers-more ∙ ap (λ o. map (maker_of g.edges) (take index files_of_user) ++ o ∷ []) unmade))
        (finds-source (map (maker_of g.edges) (take index files_of_user)) first old held.finds);
    count = held.count;
    stays = held.stays;
    added = held.added;
  }

  pub adds-source-as : maker_of g.edges (path_at g.files s.file) ≡ None
      → (new : NumberSetModel) (now : List (Option Arrival)) → new ≡ old → now ≡ after
      → AddsMakers g kinds (MakesInputBefore g kinds (index + 1) (slice_index first.numbers place)) place
      first new
      before now
  adds-source-as unmade new now is came = grind (arith, adds-source)

  module _ (maker : ℕ) (made : maker_of g.edges (path_at g.files s.file) ≡ Some maker) where
    abbrev arrival_here : Option Arrival
    arrival_here = Some (record { step = s; place = place })

    -- where the maker is new
    pushed-count : length after ≡ length old.numbers
        → length (after ++ arrival_here ∷ []) ≡ length (old.numbers ++ maker ∷ [])
    pushed-count count = omega (arith, count, length_push after arrival_here, length_push old.numbers maker)

    -- some way to the edge at a place
    abbrev AddedAt : (numbers : List ℕ) → List (Option Arrival) → (i : ℕ) → Type 0
    AddedAt numbers arrivals i = (arrival : Arrival) × (slice_index_or arrivals i None ≡ Some arrival)
        × (arrival.place ≡ place) × IsArrival g kinds numbers i arrival

    added-before : (i : ℕ) → i < length old.numbers → AddedAt old.numbers after i
        → AddedAt (old.numbers ++ maker ∷ []) (after ++ arrival_here ∷ []) i
    added-before i below (arrival, is, at_place, arrived) = (
      arrival,
      get_or_append_left after (arrival_here ∷ []) None i (omega (arith, below, held.count)) ∙ is,
      at_place,
      arrival-kept g kinds old.numbers (old.numbers ++ maker ∷ []) i arrival below
          (λ k within. at_left old.numbers maker k within) arrived,
    )

    added-last : (i : ℕ) → length old.numbers ≡ i
        → AddedAt (old.numbers ++ maker ∷ []) (after ++ arrival_here ∷ []) i
    added-last i here =
        let within : place < length old.numbers = omega (arith, place_below, held.finds.longer) in (
          record { step = s; place = place },
          get_or_push after arrival_here None i (held.count ∙ here),
          refl,
          record {
            earlier = omega (arith, within, here);
            from = ap (λ (x : EdgeNo). x.0) at.edge_is ∙ edge_is
                ∙ sym (at_left old.numbers maker place within ∙ held.finds.stays place place_below);
            is_step = at.is_step;
            made = made ∙ ap Some (sym (get_or_push old.numbers maker 0 i here));
          },
        )

    abbrev AddsBy : (new : NumberSetModel) → List (Option Arrival) → Type 0
    AddsBy new arrivals = AddsMakers g kinds (MakesInputBefore g kinds (index + 1)
        (slice_index first.numbers place)) place first new before arrivals

    more-found : FindsMore (MakesInputBefore g kinds (index + 1) (slice_index first.numbers place)) first
        (record old { numbers = with_number old.numbers maker })
    more-found =
        subst (λ os. FindsMore (λ e. Contains os (Some e)) first
        (record old { numbers = with_number old.numbers maker }))
        (sym (makers-more ∙ ap (λ o. map (maker_of g.edges) (take index files_of_user) ++ o ∷ []) made))
        (finds-maker (map (maker_of g.edges) (take index files_of_user)) first old
        (record old { numbers = with_number old.numbers maker }) held.finds maker (finds-one old maker))

    adds-by : (b : Bool) → FindsMore (MakesInputBefore g kinds (index + 1) (slice_index first.numbers place))
        first (record old { numbers = cond b old.numbers (old.numbers ++ maker ∷ []) })
        → AddsBy (record old { numbers = cond b old.numbers (old.numbers ++ maker ∷ []) })
        (with_arrival after b arrival_here)
    adds-by true finds = record { finds = finds; count = held.count; stays = held.stays; added = held.added }
    adds-by false finds = record {
      finds = finds;
      count = pushed-count held.count;
      stays = λ i below. get_or_append_left after (arrival_here ∷ []) None i
          (omega (arith, below, held.finds.longer, held.count)) ∙ held.stays i below;
      added = λ i past below. elim (cases_lt i (length old.numbers)) [
        | inl earlier ↦ added-before i earlier (held.added i past earlier)
        | inr last ↦ added-last i (omega (arith, last, below, length_push old.numbers maker))
      ];
    }

    adds-maker : AddsMakers g kinds (MakesInputBefore g kinds (index + 1) (slice_index first.numbers place))
        place
        first (record old { numbers = with_number old.numbers maker }) before
        (with_arrival after (has old.numbers maker) (Some (record { step = s; place = place })))
    adds-maker = adds-by (has old.numbers maker) more-found

    pub adds-maker-as : (new : NumberSetModel) (now : List (Option Arrival))
        → new ≡ record old { numbers = with_number old.numbers maker }
        → now ≡ with_arrival after (has old.numbers maker) (Some (record { step = s; place = place }))
        → AddsMakers g kinds (MakesInputBefore g kinds (index + 1) (slice_index first.numbers place)) place
        first
        new before now
    adds-maker-as new now is came =
        subst (λ f. AddsMakers g kinds (MakesInputBefore g kinds (index + 1)
        (slice_index first.numbers place))
        place first f before now) (sym is)
        (subst (λ arrivals. AddsMakers g kinds (MakesInputBefore g kinds (index + 1)
        (slice_index first.numbers place)) place first
        (record old { numbers = with_number old.numbers maker }) before arrivals) (sym came) adds-maker)

pub adds-all : (g : EdgeGraph) (kinds : ChainKinds) (user place index : ℕ) (old new : NumberSetModel)
    (before after : List (Option Arrival)) → length (inputs_with kinds (edge_at g.edges user)) ≤ index
    → AddsMakers g kinds (MakesInputBefore g kinds index user) place old new before after
    → AddsMakers g kinds (MakesInput g kinds user) place old new before after
adds-all g kinds user place index old new before after past held =
    subst (λ paths. AddsMakers g kinds (λ e. Contains (map (maker_of g.edges) paths) (Some e)) place old new
    before after) (take_all index (inputs_with kinds (edge_at g.edges user)) past) held

-- ---- turn by turn

module _ (g : EdgeGraph) (kinds : ChainKinds) (first : ℕ) (to : List ℕ) where
  abbrev Begins : ℕ → Type 0
  Begins e = e ≡ first

  pub chain-begins : (found : NumberSetModel) (arrivals : List (Option Arrival))
      → found ≡ record { limit = length g.edges; numbers = first ∷ [] } → arrivals ≡ None ∷ []
      → SearchesChain g kinds first to found arrivals 0
  chain-begins found arrivals is begun =
      subst (λ f. SearchesChain g kinds first to f arrivals 0) (sym is)
      (subst (λ came. SearchesChain g kinds first to
      (record { limit = length g.edges; numbers = first ∷ [] }) came 0) (sym begun) (record {
        limit = refl;
        distance = λ e. 0;
        searched =
            search-begins (λ e. e ≡ first) (MakesInput g kinds)
            (record { limit = length g.edges; numbers = [] })
            (record { limit = length g.edges; numbers = first ∷ [] }) refl
            (finds-one (record { limit = length g.edges; numbers = [] }) first);
        count = refl;
        arrive = arrive;
        missed = λ i below. absurd (omega (arith, below));
      }))
    where
      arrive : (i : ℕ) → i < length {A = ℕ} (first ∷ [])
          → Arrives g kinds first (λ e. 0) (first ∷ []) i (slice_index_or (None ∷ []) i None)
      arrive zero below = (refl, refl)
      arrive (suc i) below = absurd (omega (arith, below))

  module _ (old new : NumberSetModel) (before after : List (Option Arrival)) (place : ℕ)
      (below : place < length old.numbers) (held : SearchesChain g kinds first to old before place)
      (none : HasInput g kinds to (slice_index old.numbers place) → ⊥)
      (adds : AddsMakers g kinds (MakesInput g kinds (slice_index old.numbers place)) place old new before
      after) where
    abbrev from_here : ℕ
    from_here = slice_index old.numbers place

    abbrev later : ℕ → ℕ
    later = farther held.distance old.numbers (slice_index old.numbers place)

    later-at : (i : ℕ) → i < length old.numbers
        → later (slice_index new.numbers i) ≡ held.distance (slice_index old.numbers i)
    later-at i within =
        ap later (adds.finds.stays i within)
        ∙ farther-known held.distance old.numbers from_here (slice_index old.numbers i)
        (contains_at old.numbers i (slice_index old.numbers i) within refl)

    kept : (i : ℕ) (arrival : Option Arrival) → i < length old.numbers
        → Arrives g kinds first held.distance old.numbers i arrival
        → Arrives g kinds first later new.numbers i arrival
    kept i None within arrives = (adds.finds.stays i within ∙ arrives.0, later-at i within ∙ arrives.1)
    kept i (Some arrival) within arrives = (
      arrival-kept g kinds old.numbers new.numbers i arrival within adds.finds.stays arrives.0,
      later-at i within ∙ arrives.1 ∙ ap suc
          (sym (later-at arrival.place (omega (arith, arrives.0.earlier, within)))),
    )

    arrive-on : (i : ℕ) → i < length new.numbers
        → Arrives g kinds first later new.numbers i (slice_index_or after i None)
    arrive-on i within = elim (cases_lt i (length old.numbers)) [
      | inl earlier ↦ subst (Arrives g kinds first later new.numbers i) (sym (adds.stays i earlier))
          (kept i (slice_index_or before i None) earlier (held.arrive i earlier))
      | inr past ↦
          let more = adds.added i past within in
          let arrival = more.0 in
          subst (Arrives g kinds first later new.numbers i) (sym more.1) (
            more.3,
            farther-new held.distance old.numbers from_here (slice_index new.numbers i)
                (adds.finds.added i past within).0
                ∙ ap suc (sym (ap (λ p. later (slice_index new.numbers p)) more.2 ∙ later-at place below)),
          )
    ]

    pub chain-continues : SearchesChain g kinds first to new after (place + 1)
    chain-continues = record {
      limit = adds.finds.limit ∙ held.limit;
      distance = later;
      searched = search-continues (λ e. e ≡ first) (MakesInput g kinds) held.distance old new place below
          held.searched adds.finds;
      count = adds.count;
      arrive = arrive-on;
      missed = λ i within. elim (cases_lt i place) [
        | inl earlier ↦ λ has. held.missed i earlier
            (subst (HasInput g kinds to) (adds.finds.stays i (omega (arith, earlier, below))) has)
        | inr now ↦
            let here : i ≡ place = omega (arith, now, within) in
            λ has. none (subst (HasInput g kinds to)
            (ap (slice_index new.numbers) here ∙ adds.finds.stays place below) has)
      ];
    }

  -- ---- at the end

  module _ (found : NumberSetModel) (arrivals : List (Option Arrival)) (place : ℕ)
      (held : SearchesChain g kinds first to found arrivals place) where
    pub come-from-earlier : ComeFromEarlier arrivals
    come-from-earlier i arrival is = elim (cases_lt i (length arrivals)) [
      | inl within ↦ (subst (Arrives g kinds first held.distance found.numbers i) is
          (held.arrive i (omega (arith, within, held.count)))).0.earlier
      | inr past ↦ absurd (none-some arrival (sym (get_or_past arrivals i None past) ∙ is))
    ]
      where
        none-some : (arrival : Arrival) → None ≡ Some arrival → ⊥
        none-some arrival is = cc

    -- an edge that was found before the place
    not-before : (e : ℕ) → Contains found.numbers e
        → ((i : ℕ) → i < length found.numbers → slice_index found.numbers i ≡ e → i < place)
        → HasInput g kinds to e → ⊥
    not-before e known earlier has =
        let i = index_of found.numbers e known in
        held.missed i.0 (earlier i.0 i.1 i.2) (subst (HasInput g kinds to) (sym i.2) has)

    pub chain-none : length found.numbers ≤ place → ChainIs g kinds first to None
    chain-none past n e reached has =
        not-before e (found-all (λ e. e ≡ first) (MakesInput g kinds) held.distance found.numbers place
        held.searched past n e reached).0 (λ i within is. omega (arith, within, past)) has

    chain-lead : (from : List ℕ) (steps : List Step) → IsChain g kinds from steps to
        → Lead g kinds from steps to
    chain-lead from [] none_is = absurd none_is
    chain-lead from (s ∷ steps) chain = chain

    traces-lead : (p : ℕ) (steps whole : List Step) → p < length found.numbers → Traces arrivals p steps whole
        → LeadFrom g kinds (slice_index found.numbers p) steps to
        → LeadFrom g kinds first whole to × (length whole
        ≡ length steps + held.distance (slice_index found.numbers p))
    traces-lead p steps _ within (start none_came) leads =
        let arrives = subst (Arrives g kinds first held.distance found.numbers p) none_came
        (held.arrive p within) in
        (subst (λ e. LeadFrom g kinds e steps to) arrives.0 leads, omega (arith, arrives.1))
    traces-lead p steps whole within (back arrival came rest) leads =
        let arrives = subst (Arrives g kinds first held.distance found.numbers p) came (held.arrive p within)
        in
        let arrived = arrives.0 in
        let more = traces-lead arrival.place (arrival.step ∷ steps) whole
        (omega (arith, within, arrived.earlier)) rest
        (λ from maker. (
          maker ∙ ap Some (sym arrived.from),
          arrived.is_step,
          chain-lead (path_at g.files arrival.step.file) steps
              (leads (path_at g.files arrival.step.file) arrived.made),
        )) in
        (more.0, omega (arith, more.1, arrives.1))

    module _ (below : place < length found.numbers) (last : Step) (steps : List Step)
        (edge_is : last.edge.0 ≡ slice_index found.numbers place) (step : IsStep g kinds last)
        (ends : path_at g.files last.file ≡ to) (traced : Traces arrivals place (last ∷ []) steps) where
      pub lead : LeadFrom g kinds first steps to × (length steps
          ≡ length (last ∷ []) + held.distance (slice_index found.numbers place))
      lead = traces-lead place (last ∷ []) steps below traced
          (λ from maker. (maker ∙ ap Some (sym edge_is), step, ends))

      pub chain-found : IsShortestFrom g kinds first to steps
      chain-found = record {
        leads = lead.0;
        shortest = λ n e reached has. elim (cases_lt n (held.distance (slice_index found.numbers place))) [
          | inl nearer ↦
              let known = found-nearer (λ e. e ≡ first) (MakesInput g kinds) held.distance found.numbers place
              held.searched below n e (omega (arith, nearer)) reached in
              absurd (not-before e known.0 (λ i within is. elim (cases_lt i place) [
                | inl earlier ↦ earlier
                | inr past ↦ absurd (omega (
                  arith,
                  held.searched.rises place i past within,
                  ap held.distance is,
                  known.1,
                  nearer,
                ))
              ]) has)
          | inr farther_is ↦ omega (arith, lead.1, farther_is)
        ];
      }

-- ---- from file to file

pub path-is : (g : EdgeGraph) (kinds : ChainKinds) (from to : FileNo) (first : ℕ) (path : Option (List Step))
    → from ≢ to → maker_of g.edges (path_at g.files from) ≡ Some first
    → ChainIs g kinds first (path_at g.files to) path → PathIs g kinds from to path
path-is g kinds from to first None apart maker chain = path-none g kinds from to first maker chain
path-is g kinds from to first (Some steps) apart maker chain = grind (arith, path-some)

-- ---- the files that the steps of a chain name

module _ (g : EdgeGraph) (kinds : ChainKinds) where
  made-below : (path : List ℕ) (n : ℕ) → maker_of g.edges path ≡ Some n → n < length g.edges
  made-below path n made = first-below (λ e. is_among (outputs_of e) path) g.edges n made

  steps-known : (from : List ℕ) (steps : List Step) (to : List ℕ) → Lead g kinds from steps to
      → All (λ (s : Step). s.edge.0 < length g.edges) steps
      × All (λ (s : Step). s.file.0 < length g.files) steps
  steps-known from [] to leads = grind (arith, common_steps)
  steps-known from (s ∷ steps) to (made, step, leads) =
      grind (arith, common_steps, (steps-known (path_at g.files s.file) steps to leads))

  chain-known : (from : List ℕ) (steps : List Step) (to : List ℕ) → IsChain g kinds from steps to
      → All (λ (s : Step). s.edge.0 < length g.edges) steps
      × All (λ (s : Step). s.file.0 < length g.files) steps
  chain-known from [] to none_is = absurd none_is
  chain-known from (s ∷ steps) to leads = steps-known from (s ∷ steps) to leads

  pub path-edges : (from : List ℕ) (first : ℕ) (to : List ℕ) (path : Option (Vec Step))
      → maker_of g.edges from ≡ Some first
      → ChainIs g kinds first to (option_map (λ steps. steps.items) path)
      → IfSome path (λ steps. All (λ (s : Step). s.edge.0 < length g.edges) steps.items)
  path-edges from first to None maker chain = tt
  path-edges from first to (Some steps) maker chain = grind (arith, chain-known)

  pub path-files : (from : List ℕ) (first : ℕ) (to : List ℕ) (path : Option (Vec Step))
      → maker_of g.edges from ≡ Some first
      → ChainIs g kinds first to (option_map (λ steps. steps.items) path)
      → IfSome path (λ steps. All (λ (s : Step). s.file.0 < length g.files) steps.items)
  path-files from first to None maker chain = tt
  path-files from first to (Some steps) maker chain = grind (arith, chain-known)
