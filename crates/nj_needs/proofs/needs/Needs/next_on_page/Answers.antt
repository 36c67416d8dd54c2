use Rattle.std.proofs.Common.{rules, ◌≢◌, Some, [], ◌∷◌, ◌++◌, sym, subst}
use Rattle.nj_needs.specs.PageWalks.{HasSoFar}
use Rattle.nj_needs.proofs.PageWalkLemmas.{page-next}
use Rattle.nj_needs.proofs.needs.Needs.next_on_page.Goals as goal

pub returns-clause-goes_on : goal.returns-clause-goes_on
returns-clause-goes_on c = λ begun limit edges so_far.
    let some : c.args.room.now ≢ Some 0 = search rules in
    let e = c.in_ok-edge.edge.0 in
    subst (HasSoFar begun limit (edges ++ e ∷ []) c.next.new.self) (sym c.one_fewer.ensures)
    (page-next begun limit edges c.args.self.now c.next.new.self c.args.room.now e some
    c.in_ok-edge.ensures.next c.in_ok-edge.ensures.same so_far)
