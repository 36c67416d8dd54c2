use Rattle.std.proofs.Common.{◌≡◌, [], refl, ap, ◌∙◌}
use Rattle.nj_needs.specs.Inside.Standing.{left_of}
use Rattle.nj_needs.specs.Walks.{commands_of}
use Rattle.nj_needs.specs.declared.needs.beginning.turns.Turns.{Turns}
use Rattle.nj_needs.specs.declared.walk.Walk.{Walk}
use Rattle.nj_needs.proofs.Striking.{without-none}
use Rattle.nj_needs.proofs.needs.Needs.new.Goals as goal

-- all commands are left at the start
left_start : (w : Walk) → w.path.items ≡ [] → w.place ≡ 0
    → left_of w.turns.graph.now w.turns.targets.now w.path.items w.place
    ≡ commands_of w.turns.graph.now w.turns.targets.now
left_start w path place = rw (path, place) (without-none (commands_of w.turns.graph.now w.turns.targets.now))

pub returns-clause-commands : goal.returns-clause-commands
returns-clause-commands c =
    let e = c.in_ok-walk.ensures in
    let l = c.new-turns.ensures in
    left_start c.in_ok-walk.walk e.path e.place
    ∙ ap (λ (k : Turns). commands_of k.graph.now k.targets.now) e.turns
    ∙ rw (l.graph, l.targets) refl
