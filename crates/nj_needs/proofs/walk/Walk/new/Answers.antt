use Rattle.std.proofs.Common.{◌≡◌, ◌<◌, ◌≤◌, ℕ, false, get_or, length, ap, ◌∙◌, arith}
use Rattle.std.proofs.lemmas.Grind.{common_steps}
use Rattle.nj_needs.specs.Graphs.{count_of}
use Rattle.nj_needs.proofs.NeedsLemmas.{IsWalkAt-start}
use Rattle.nj_needs.proofs.walk.Walk.new.Goals as goal

pub returns-clause-walk : goal.returns-clause-walk
returns-clause-walk c =
    let g = c.args.turns.graph.now in
    let wide : count_of g ≤ c.new.result.capacity =
    omega (arith, c.edge_count-count.ensures.count, c.in_ok-path.ensures.capacity, c.new.ensures.capacity)
    in
    let len : length c.new-2.result.items ≡ count_of g =
    omega (
      arith,
      c.edge_count-count.ensures.count,
      c.in_ok-flags.ensures.len,
      ap length c.new-2.ensures.items,
    ) in
    let clear : (e : ℕ) → e < count_of g → get_or c.new-2.result.items e false ≡ false =
    λ e lt. rw c.new-2.ensures.items (grind (arith, common_steps)) in
    IsWalkAt-start g c.args.turns.targets.now c.args.turns.taken c.new.result c.new-2.result.items
    c.args.begun
    c.edge_count-count.ensures.acyclic c.edge_count-count.ensures.within c.requires
    (c.new.ensures.items ∙ c.in_ok-path.ensures.items) wide len clear
