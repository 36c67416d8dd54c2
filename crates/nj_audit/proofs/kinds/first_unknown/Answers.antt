use Rattle.std.proofs.Common.{rules, tests}
use Rattle.std.proofs.lemmas.Iterator.{YieldsList-from_slice}
use Rattle.std.proofs.lemmas.Iterator.Consumers.{YieldsList-from_chain, YieldsList-from_copied}
use Rattle.std.proofs.lemmas.Iterator.Search.{find_from_yields_List}
use Rattle.nj_audit.specs.Kinds.{is_unknown}
use Rattle.nj_audit.proofs.KindLemmas.{find-in-both}
use Rattle.nj_audit.proofs.kinds.first_unknown.Goals as goal

pub returns : goal.returns
returns c =
    find-in-both (λ word. word.now) is_unknown c.find.result c.args.only.now c.args.except.now
    (find_from_yields_List (λ word. is_unknown word.now) _ _ c.find.result c.find.ensures.ran
    (YieldsList-from_copied (YieldsList-from_chain (YieldsList-from_slice c.args.only.now cc)
    (YieldsList-from_slice c.args.except.now cc) (cc) (cc)))
    (λ x b q k. search (rules, tests)))
