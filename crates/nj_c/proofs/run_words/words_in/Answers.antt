use Rattle.std.proofs.Common.{◌≡◌, false, true, inl, inr, refl, rules}
use Rattle.std.specs.Str.{is_utf8}
use Rattle.std.proofs.lemmas.Result.{err_from_is_err_and}
use Rattle.std.proofs.lemmas.Str.{is_utf8-from_IsUtf8}
use Rattle.nj_c.proofs.run_words.words_in.Goals as goal

pub returns-in_default-clause-refused : goal.returns-in_default-clause-refused
unfolding is_utf8
returns-in_default-clause-refused c =
    let text : is_utf8 c.args.text.now ≡ false = search rules in
    inl (refl, text)

pub returns-in_err-split_words-clause-refused : goal.returns-in_err-split_words-clause-refused
returns-in_err-split_words-clause-refused c =
    let text : is_utf8 c.args.text.now ≡ true =
    is_utf8-from_IsUtf8 c.args.text.now c.in-Ok.ensures.cases.1 in
    let p = err_from_is_err_and c.from_residual.result c.from_residual.ensures.1 in
    rw (p.1, p.2) (inr (refl, text))

pub returns-clause-text : goal.returns-clause-text
returns-clause-text c = is_utf8-from_IsUtf8 c.args.text.now c.in-Ok.ensures.cases.1
