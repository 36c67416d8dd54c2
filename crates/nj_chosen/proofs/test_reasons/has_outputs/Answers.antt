use Rattle.std.proofs.Common.{rules, tests, ◌∙◌}
use Rattle.std.proofs.lemmas.Iterator.{YieldsList-from_slice}
use Rattle.std.proofs.lemmas.Iterator.Search.{any_from_yields_List}
use Rattle.nj_chosen.specs.Inside.Tables.{kinds_in}
use Rattle.nj_chosen.specs.Reasons.{is_of_outputs}
use Rattle.nj_chosen.proofs.NameLemmas.{any-map}
use Rattle.nj_chosen.proofs.test_reasons.has_outputs.Goals as goal

pub returns : goal.returns
returns c =
    let kinds = kinds_in c.args.tables.now in
    any_from_yields_List (λ name. is_of_outputs kinds name.items) _ _ _ c.any.ensures.ran
    (YieldsList-from_slice c.args.names.now cc) (λ x b q k. search (rules, tests))
    ∙ any-map (is_of_outputs kinds) (λ name. name.items) c.args.names.now
