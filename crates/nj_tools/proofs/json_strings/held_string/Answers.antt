use Rattle.std.proofs.Common.{Some, None, sym, ap, ◌∙◌}
use Rattle.std.proofs.lemmas.Bool.{cond-true, cond-false, false_from_ne_true}
use Rattle.std.proofs.lemmas.Str.{IsUtf8-from_is_utf8, is_utf8-from_IsUtf8}
use Rattle.nj_tools.specs.Compdb.{json_string}
use Rattle.nj_tools.proofs.json_strings.held_string.Goals as goal

pub returns-in_ok-json_string-in-Ok : goal.returns-in_ok-json_string-in-Ok
returns-in_ok-json_string-in-Ok c =
    ap Some (c.in_ok-json_string-in-Ok.ensures ∙ ap json_string c.in-Ok.ensures.cases.0)
    ∙ sym (cond-true _ (Some (json_string c.args.text.now)) None
    (is_utf8-from_IsUtf8 _ c.in-Ok.ensures.cases.1))

pub returns-in-Err : goal.returns-in-Err
returns-in-Err c =
    sym (cond-false _ (Some (json_string c.args.text.now)) None
    (false_from_ne_true _ (λ e. c.in-Err.ensures.cases.0 (IsUtf8-from_is_utf8 _ e))))
