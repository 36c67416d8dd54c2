use Rattle.std.proofs.Common.{rules, tests, not}
use Rattle.nj_text.specs.Calls.{is_empty}
use Rattle.std.proofs.lemmas.Iterator.Consumers.{map_from_collect, YieldsList-at, YieldsList-from_filter}
use Rattle.std.proofs.lemmas.Iterator.Splits.{YieldsList-from_slice_split}
use Rattle.nj_changes.proofs.PieceLemmas.{not-empty}
use Rattle.nj_changes.proofs.given.ended_by.Goals as goal

pub returns : goal.returns
returns c =
    map_from_collect _ c.collect.ensures.ran (YieldsList-from_filter _ (λ line. not (is_empty line))
    (YieldsList-at c.filter.ensures.source (YieldsList-from_slice_split _ _ c.args.text.now
    c.split.ensures.rest c.split.ensures.done
    c.split.ensures.closure (λ x r q k. search (rules, tests)))) c.filter.ensures.closure
    (λ line is q k. search (rules, tests, not-empty)))
