use Rattle.std.proofs.Common.{rules, tests, ◌∙◌, ap}
use Rattle.std.specs.Prelude.{not}
use Rattle.std.proofs.lemmas.Iterator.{YieldsList-from_slice}
use Rattle.std.proofs.lemmas.Iterator.Search.{any_from_yields_List}
use Rattle.nj_chosen.specs.Directories.{is_at_or_above}
use Rattle.nj_chosen.proofs.NameLemmas.{any-map}
use Rattle.nj_chosen.proofs.tables.is_telling.Goals as goal

pub returns : goal.returns
returns c =
    let path = c.args.path.now in
    ap not (any_from_yields_List (λ root. is_at_or_above path root.items) _ _ _ c.any.ensures.ran
    (YieldsList-from_slice c.args.roots.now cc) (λ x b q k. search (rules, tests))
    ∙ any-map (is_at_or_above path) (λ root. root.items) c.args.roots.now)
