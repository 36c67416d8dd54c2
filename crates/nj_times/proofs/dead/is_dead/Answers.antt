use Rattle.std.proofs.Common.{◌∙◌, ap, sym}
use Rattle.std.specs.Prelude.{not}
use Rattle.nj_times.proofs.DeadLemmas.{made_lives, unmade_dead, unnamed_dead}
use Rattle.nj_times.proofs.dead.is_dead.Goals as goal

pub returns-then-is_none : goal.returns-then-is_none
returns-then-is_none c =
    let g = c.args.graph.now in
    let at = sym c.in-Some.ensures.index in
    c.is_empty.ensures
    ∙ unmade_dead g.edges g.files c.args.path.now c.in-Some.file c.maker.result at c.maker.ensures.maker
    c.users.result.now (c.is_none.ensures ∙ ap not c.if-is_none.true) c.users.ensures.users

pub returns-else-is_none : goal.returns-else-is_none
returns-else-is_none c =
    let g = c.args.graph.now in
    let at = sym c.in-Some.ensures.index in
    c.if-is_none.false
    ∙ made_lives g.edges g.files c.args.path.now c.in-Some.file c.maker.result at c.maker.ensures.maker
    (c.is_none.ensures ∙ ap not c.if-is_none.false)

pub returns-in-None : goal.returns-in-None
returns-in-None c =
    sym (unnamed_dead c.args.graph.now.edges c.args.path.now (sym c.in-None.ensures.named))
