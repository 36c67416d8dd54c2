use Rattle.std.proofs.Common.{rules, tests, ◌∙◌}
use Rattle.std.proofs.lemmas.Iterator.{YieldsList-from_slice}
use Rattle.std.proofs.lemmas.Iterator.Search.{any_from_yields_List}
use Rattle.nj_names.specs.NameTables.{is_among}
use Rattle.nj_changes.proofs.NameLemmas.{any-map}
use Rattle.nj_changes.proofs.full_paths.has_one.Goals as goal

pub returns : goal.returns
returns c =
    let names = c.args.names.now in
    any_from_yields_List (λ path. is_among names path.items) _ _ _ c.any.ensures.ran
    (YieldsList-from_slice c.args.paths.now cc) (λ x b q k. search (rules, tests))
    ∙ any-map (is_among names) (λ path. path.items) c.args.paths.now
