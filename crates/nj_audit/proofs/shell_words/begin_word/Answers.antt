use Rattle.std.proofs.Common.{◌++◌, take, drop, ap, ◌∙◌}
use Rattle.nj_audit.specs.declared.shell_words.Quoting.TheVariants.{Between, Bare}
use Rattle.nj_audit.specs.ShellWords.{read_text, tokens_after}
use Rattle.nj_audit.proofs.PlainLemmas.{begun, rest-is}
use Rattle.nj_audit.proofs.ShellLemmas.{tokens-begin}
use Rattle.nj_audit.proofs.shell_words.begin_word.Goals as goal

pub returns-then-count-eq0 : goal.returns-then-count-eq0
returns-then-count-eq0 c =
    ap (λ w. tokens_after w (read_text Between c.after_gap-text.result.now)) c.clear.ensures.items
    ∙ tokens-begin c.after_gap-text.result.now ∙ c.after_gap-text.ensures

pub returns : goal.returns
returns c =
    let text = c.after_gap-text.result.now in
    let count = c.plain_count-count.result in
    ap (λ t. tokens_after c.extend_from_slice.new.self.items (read_text Bare t)) (rest-is count text)
    ∙ ap (λ w. tokens_after w (read_text Bare (drop count text)))
    (c.in_ok-extend_from_slice.ensures.items ∙ ap (λ w. w ++ take count text) c.clear.ensures.items)
    ∙ ap (λ n. tokens_after (take n text) (read_text Bare (drop n text))) c.plain_count-count.ensures.count
    ∙ begun text (λ none. c.if-count-eq0.false (c.plain_count-count.ensures.count ∙ none))
    ∙ c.after_gap-text.ensures
