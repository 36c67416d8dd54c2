use Rattle.std.proofs.Common.{rules, ◌≢◌, Some}
use Rattle.nj_needs.proofs.PageWalkLemmas.{stops-at_none}
use Rattle.nj_needs.proofs.needs.Needs.mark_after_page.Goals as goal

pub returns-then-ne : goal.returns-then-ne
returns-then-ne c = λ begun limit edges so_far all.
    let some : c.args.room ≢ Some 0 = search rules in
    stops-at_none begun limit edges c.args.self.now c.args.room so_far all some
