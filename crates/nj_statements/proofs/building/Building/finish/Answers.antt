use Rattle.std.proofs.Common.{sym, subst}
use Rattle.nj_statements.specs.Answers.{HasEdges}
use Rattle.nj_statements.proofs.building.Building.finish.Goals as goal

pub returns-in-Ok : goal.returns-in-Ok
returns-in-Ok c = λ entries has'.
    let has = subst (λ b. HasEdges b entries) (sym c.self.view_is) has' in
    c.finish-in-Ok.ensures.comes c.self.inside.edges.files c.self.inside.edges.edges entries
    c.in-Ok.ensures has.built
