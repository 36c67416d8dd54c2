use Rattle.std.proofs.Common.{sym, ap, ◌∙◌}
use Rattle.std.specs.Prelude.{bytes_eq, codes, not}
use Rattle.nj_test_lists.proofs.PropertyLemmas.{first-available}
use Rattle.nj_test_lists.proofs.ctest_list.is_available.Goals as goal

pub returns-in-len1-up : goal.returns-in-len1-up
returns-in-len1-up c =
    c.ne.ensures ∙ ap (λ s. not (bytes_eq s (codes "NOT_AVAILABLE"))) c.as_str.ensures.value
    ∙ sym (first-available c.args.words.now c.program-item.result c.in-len1-up.len_at_least c.program-item.is)
