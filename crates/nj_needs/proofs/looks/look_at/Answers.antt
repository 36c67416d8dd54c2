use Rattle.std.proofs.Common.{Some, length, ap, sym, ◌∙◌}
use Rattle.std.specs.Prelude.{slice_get}
use Rattle.std.proofs.lemmas.Bool.{ltb-true}
use Rattle.nj_needs.specs.Inside.Tops.{row_in}
use Rattle.nj_needs.proofs.Bridges.{row-at}
use Rattle.nj_needs.proofs.looks.look_at.Goals as goal

pub returns-in_ok-get-in-None-clause-found : goal.returns-in_ok-get-in-None-clause-found
returns-in_ok-get-in-None-clause-found c =
    let g = c.args.graph.now in
    let targets = c.args.targets.now in
    let file = c.in_ok-get-in-None.field-0.now in
    let found = c.in_ok-get-in-None.ensures.lookup in
    ap Some c.maker.ensures.maker
    ∙ sym (row-at g targets c.args.place file (ltb-true c.args.place (length targets) (sym found.0))
    found.1)
    ∙ ap (λ edge. slice_get (row_in g targets edge) c.args.place) (sym c.in-None.is)
