use Rattle.std.proofs.Common.{ap, ◌∙◌}
use Rattle.std.proofs.lemmas.Bool.{false_from_ne_true}
use Rattle.std.proofs.lemmas.Result.{on_ok_weaker}
use Rattle.std.proofs.lemmas.Str.{IsUtf8-from_is_utf8, is_utf8-from_IsUtf8}
use Rattle.nj_tools.specs.Inside.ObjectTexts.{and_string}
use Rattle.nj_tools.proofs.ObjectLemmas.{string-more, string-unheld}
use Rattle.nj_tools.proofs.object_text.ObjectText.put_string.Goals as goal

pub returns-in-Ok : goal.returns-in-Ok
returns-in-Ok c =
    let text = c.args.text.now in
    on_ok_weaker c.string.result (λ is.
    string-more c.self.inside.is_utf8 c.self.inside.writer.tokens c.string.new.self.tokens c.in-Ok.text.now
    text (is_utf8-from_IsUtf8 text c.in-Ok.ensures.cases.1) c.in-Ok.ensures.cases.0 is
    ∙ ap (λ o. and_string o text) c.self.view_is) c.string.ensures.ok

pub returns-in-Err : goal.returns-in-Err
returns-in-Err c = string-unheld c.args.self.now c.args.text.now
    (false_from_ne_true _ (λ e. c.in-Err.ensures.cases.0 (IsUtf8-from_is_utf8 _ e)))
