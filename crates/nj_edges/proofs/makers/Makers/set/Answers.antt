use Rattle.std.proofs.Common.{Some, ap, set, ◌∙◌}
use Rattle.std.proofs.lemmas.List.{map-set}
use Rattle.nj_edges.specs.Inside.MakersHeld.{maker_held, makers_held}
use Rattle.nj_edges.proofs.makers.Makers.set.Goals as goal

pub returns : goal.returns
returns c =
    let numbers = c.self.inside.numbers.items in
    map-set maker_held numbers c.args.file.0 c.number_of.result
    ∙ ap (set (makers_held numbers) c.args.file.0) c.number_of.ensures
    ∙ ap (λ ms. set ms c.args.file.0 (Some c.args.edge)) c.self.view_is
