use Rattle.std.proofs.Common.{◌∙◌, ℕ, List, [], ap, subst}
use Rattle.std.specs.Global.{Vec}
use Rattle.std.specs.Prelude.{Contains}
use Rattle.nj_edges.specs.Inside.ChangesHeld.{FindsMore}
use Rattle.nj_edges.specs.Inside.NeedsSearched.{IsSearched}
use Rattle.nj_edges.proofs.NeedsLemmas.{searched-starts}
use Rattle.nj_edges.proofs.search_state.SearchState.start_with_next.Goals as goal

pub returns : goal.returns
returns c = λ edges held. record {
  starts_are = ap (λ v. v.items) c.swap.ensures.y_after;
  searched = subst (λ (v : Vec ℕ). IsSearched edges v.items c.add_all.new.found 0) c.swap.ensures.y_after
      (searched-starts edges c.swap.new.y.items c.clear.new.self c.add_all.new.found
      (c.clear.ensures ∙ ap (λ n. record { limit = n; numbers = [] }) held.limit)
      (subst (λ (ss : List ℕ). FindsMore (Contains ss) c.clear.new.self c.add_all.new.found)
      c.deref-3.ensures.value c.in_ok-add_all.ensures));
}
