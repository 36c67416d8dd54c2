use Rattle.std.proofs.Common.{◌==◌, ◌||◌, ap, not, rules, tests}
use Rattle.std.proofs.lemmas.Iterator.{YieldsList-from_slice}
use Rattle.std.proofs.lemmas.Iterator.Search.{any_from_yields_List}
use Rattle.nj_audit.proofs.word_names.is_bare.Goals as goal

pub returns : goal.returns
returns c =
    ap not
    (any_from_yields_List (λ b. b == 47 || b == 46) _ _ _ c.any.ensures.ran
    (YieldsList-from_slice c.args.name.now cc) (λ x b q k. search (rules, tests)))
