use Rattle.std.proofs.Common.{◌==◌, ◌∷◌, ◌++◌, [], length, sym, ap, ◌∙◌}
use Rattle.nj_audit.specs.ShellWords.{kept, read_text, tokens_after, tokens_of}
use Rattle.nj_audit.specs.ShellWords.TokenModel.{Word}
use Rattle.nj_audit.proofs.ShellLemmas.{gap-read, no-length, no-tokens, operator-read, with-none, with-some}
use Rattle.nj_audit.proofs.ShellLemmas.{word-ended, words-inside, words-last}
use Rattle.nj_audit.proofs.shell_words.take_token.Goals as goal

pub returns-then-not-is_empty : goal.returns-then-not-is_empty
returns-then-not-is_empty c =
    let quoting = c.bytes.quoting in
    let word = c.bytes.word.items in
    let after = c.in-Some.after.now in
    sym c.bytes.invariant
    ∙ ap (λ t. tokens_after word (read_text quoting t)) c.in-Some.ensures.cases.0
    ∙ word-ended quoting word c.in-Some.byte.now after (sym c.ends_at.ensures ∙ c.if-ends_at.true)
    (ap (λ t. length t == 0) (sym c.as_slice.ensures.value) ∙ sym c.is_empty.ensures
    ∙ c.if-not-is_empty.true)
    ∙ ap (λ t. Word word ∷ tokens_of t) (sym c.in-Some.ensures.cases.0)

pub returns-then-not-is_gap : goal.returns-then-not-is_gap
returns-then-not-is_gap c =
    let quoting = c.bytes.quoting in
    let word = c.bytes.word.items in
    sym c.bytes.invariant
    ∙ ap (λ t. tokens_after word (read_text quoting t)) c.in-Some.ensures.cases.0
    ∙ operator-read quoting word c.in-Some.byte.now c.in-Some.after.now
    (sym c.ends_at.ensures ∙ c.if-ends_at.true)
    (ap (λ t. length t == 0) (sym c.as_slice.ensures.value) ∙ sym c.is_empty.ensures
    ∙ c.if-not-is_empty.false)
    (sym c.is_gap.ensures ∙ c.if-not-is_gap.true)

pub bytes-preserved-then-ends_at : goal.bytes-preserved-then-ends_at
bytes-preserved-then-ends_at c =
    let quoting = c.bytes.quoting in
    let word = c.bytes.word.items in
    gap-read quoting word c.in-Some.byte.now c.in-Some.after.now
    (sym c.ends_at.ensures ∙ c.if-ends_at.true)
    (ap (λ t. length t == 0) (sym c.as_slice.ensures.value) ∙ sym c.is_empty.ensures
    ∙ c.if-not-is_empty.false)
    (sym c.is_gap.ensures ∙ c.if-not-is_gap.false)
    ∙ ap (λ t. tokens_after word (read_text quoting t)) (sym c.in-Some.ensures.cases.0)
    ∙ c.bytes.invariant

pub bytes-preserved : goal.bytes-preserved
bytes-preserved c =
    let quoting = c.bytes.quoting in
    let word = c.bytes.word.items in
    let byte = c.in-Some.byte.now in
    let after = c.in-Some.after.now in
    ap (λ w. tokens_after w (read_text c.next_quoting-quoting.result after)) c.in_ok-push_kept.ensures
    ∙ ap (λ q. tokens_after (word ++ kept quoting byte) (read_text q after)) c.next_quoting-quoting.ensures
    ∙ sym (words-inside quoting word byte after (sym c.ends_at.ensures ∙ c.if-ends_at.false))
    ∙ ap (λ t. tokens_after word (read_text quoting t)) (sym c.in-Some.ensures.cases.0)
    ∙ c.bytes.invariant

pub returns-then-is_empty : goal.returns-then-is_empty
returns-then-is_empty c =
    sym c.bytes.invariant
    ∙ ap (λ t. tokens_after c.bytes.word.items (read_text c.bytes.quoting t))
    (no-length c.bytes.rest.now c.in_default.ensures.cases)
    ∙ words-last c.bytes.quoting c.bytes.word.items
    ∙ with-none c.bytes.word.items [] (ap (λ t. length t == 0) (sym c.as_slice-2.ensures.value)
    ∙ sym c.is_empty-2.ensures ∙ c.if-is_empty.true)

pub returns : goal.returns
returns c =
    sym c.bytes.invariant
    ∙ ap (λ t. tokens_after c.bytes.word.items (read_text c.bytes.quoting t))
    (no-length c.bytes.rest.now c.in_default.ensures.cases)
    ∙ words-last c.bytes.quoting c.bytes.word.items
    ∙ with-some c.bytes.word.items [] (ap (λ t. length t == 0) (sym c.as_slice-2.ensures.value)
    ∙ sym c.is_empty-2.ensures ∙ c.if-is_empty.false)
    ∙ ap (λ ts. Word c.bytes.word.items ∷ ts) (sym no-tokens)
