use Rattle.std.proofs.Common.{ap, bytes_eq, not, rules, tests}
use Rattle.std.proofs.lemmas.Iterator.{YieldsList-from_slice}
use Rattle.std.proofs.lemmas.Iterator.Search.{any_from_yields_List}
use Rattle.nj_audit.specs.Kinds.{all_kinds, name_of}
use Rattle.nj_audit.proofs.kinds.is_unknown.Goals as goal

pub returns : goal.returns
returns c =
    ap not
    (any_from_yields_List (λ kind. bytes_eq c.args.word.now (name_of kind)) _ _ _ c.any.ensures.ran
    (YieldsList-from_slice all_kinds cc)
    (λ x b q k. search (rules, tests)))
