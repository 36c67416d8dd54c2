-- The edges that have a reason.
use Rattle.std.proofs.Common.{◌≡◌, ◌<◌, ℕ, Option, Some, None, List, [], ◌∷◌, ◌++◌, length}
use Rattle.std.proofs.Common.{refl}
use Rattle.std.proofs.Common.{sym, ap, ◌∙◌, subst}
use Rattle.std.specs.Prelude.{slice_get, slice_index, slice_index_or, option_to_list}
use Rattle.std.specs.List.{AllByRecursion, cons_option}
use Rattle.std.proofs.lemmas.List.{get_or_default}
use Rattle.std.proofs.lemmas.List.Elements.{filter_map-append}
use Rattle.std.proofs.lemmas.Option.{get_or_from_slice_get}
use Rattle.nj_edges.specs.EdgeGraphs.{EdgeGraph}
use Rattle.nj_edges.specs.Edges.{EdgePaths, edge_at}
use Rattle.nj_build_log.specs.Logs.{LineModel}
use Rattle.nj_stale.specs.declared.evidence.EdgeFacts.{EdgeFacts}
use Rattle.nj_stale.specs.declared.reason.Reason.{Reason}
use Rattle.nj_stale.specs.States.{Evidence, State, IsStateOf, lent_time}
use Rattle.nj_stale.specs.Numbered.{AreFound, AreLentBy, AreReasonsOf, IsOrderOfAll, evidence_of}
use Rattle.nj_state.specs.declared.commands.StaleEdge.{StaleEdge}
use Rattle.nj_state.specs.declared.judged.JudgedBuild.{JudgedBuild}
use Rattle.nj_state.specs.Judged.{IsJudged}
use Rattle.nj_state.specs.Stale.{stale_among, stale_edge}

-- ---- one more edge

pub known_more : (count : ℕ) (stale : List StaleEdge) (edge : ℕ) (found : Option StaleEdge)
    → AllByRecursion (λ (item : StaleEdge). item.edge.0 < count) stale → edge < count
    → ((item : StaleEdge) → found ≡ Some item → item.edge.0 ≡ edge)
    → AllByRecursion (λ (item : StaleEdge). item.edge.0 < count) (stale ++ option_to_list found)
known_more count [] edge None all lt same = tt
known_more count [] edge (Some item) all lt same = (subst (λ e. e < count) (sym (same item refl)) lt, tt)
known_more count (item ∷ stale) edge found all lt same =
    (all.0, known_more count stale edge found all.1 lt same)

one_found : (found : Option StaleEdge) → cons_option found [] ≡ option_to_list found
one_found None = refl
one_found (Some item) = refl

pub more_stale : (edges : List EdgePaths) (s : State) (numbers : List ℕ) (stale : List StaleEdge) (edge : ℕ)
    → stale ≡ stale_among edges s numbers
    → stale ++ option_to_list (stale_edge edges s edge) ≡ stale_among edges s (numbers ++ edge ∷ [])
more_stale edges s numbers stale edge so_far =
    ap (λ (xs : List StaleEdge). xs ++ option_to_list (stale_edge edges s edge)) so_far
    ∙ sym (filter_map-append (stale_edge edges s) numbers (edge ∷ [])
    ∙ ap (λ (xs : List StaleEdge). stale_among edges s numbers ++ xs)
    (one_found (stale_edge edges s edge)))

-- ---- all edges of an order

-- the reasons that are found for all edges are those of the state
pub reason_is : (known : Evidence) (order : List ℕ) (reasons : List (Option Reason))
    → IsOrderOfAll known.edges order
    → AreReasonsOf known order reasons → (s : State) → IsStateOf known s → (edge : ℕ)
    → edge < length known.edges
    → slice_index_or reasons edge None ≡ s.reason edge
reason_is known order reasons all are s fits edge lt =
    let turn = all.all edge lt in
    let at : slice_index order turn.0 ≡ edge = get_or_default order turn.0 0 edge turn.1 ∙ turn.2 in
    get_or_from_slice_get reasons edge (s.reason edge) None
    (subst (λ e. slice_get reasons e ≡ Some (s.reason e)) at (are s fits turn.0 turn.1))

-- and so are the times that they lend
pub lent_is : (known : Evidence) (order : List ℕ) (reasons : List (Option Reason)) (lent : List ℕ)
    → IsOrderOfAll known.edges order
    → AreFound known order reasons lent → (s : State) → IsStateOf known s → AreLentBy known.edges s lent
lent_is known order reasons lent all found s fits edge lt =
    let turn = all.all edge lt in
    let at : slice_index order turn.0 ≡ edge = get_or_default order turn.0 0 edge turn.1 ∙ turn.2 in
    subst (λ e. slice_index lent e ≡ lent_time s (edge_at known.edges e) e) at
    (found.lent_are s fits turn.0 turn.1)

pub all_judged : (g : EdgeGraph) (facts : List EdgeFacts) (lines : List LineModel) (order : List ℕ)
    (build : JudgedBuild)
    → IsOrderOfAll g.edges order
    → AreFound (evidence_of g facts build.times.items lines) order build.reasons.items build.lent.items
    → IsJudged g facts lines build
all_judged g facts lines order build all found = record {
  reasons_are = λ s fits. reason_is (evidence_of g facts build.times.items lines) order build.reasons.items
      all found.reasons_are s fits;
  lent_are = λ s fits. lent_is (evidence_of g facts build.times.items lines) order build.reasons.items
      build.lent.items all found s fits;
}
