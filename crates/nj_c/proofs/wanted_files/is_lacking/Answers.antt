use Rattle.std.proofs.Common.{not, ◌&&◌, is_some, sym, ap, ◌∙◌}
use Rattle.std.proofs.lemmas.Bool.{false_from_ne_true}
use Rattle.std.proofs.lemmas.Str.{IsUtf8-from_is_utf8, is_utf8-from_IsUtf8}
use Rattle.nj_c.specs.SuppliedFiles.{supplied_for}
use Rattle.nj_c.proofs.wanted_files.is_lacking.Goals as goal

pub returns-in-Ok : goal.returns-in-Ok
returns-in-Ok c =
    ap not c.has.ensures
    ∙ sym (ap (λ b. b && not (is_some (supplied_for c.args.files.now c.args.path.now)))
    (is_utf8-from_IsUtf8 c.args.path.now c.in-Ok.ensures.cases.1))

pub returns-in-Err : goal.returns-in-Err
returns-in-Err c =
    sym (ap (λ b. b && not (is_some (supplied_for c.args.files.now c.args.path.now)))
    (false_from_ne_true _ (λ e. c.in-Err.ensures.cases.0 (IsUtf8-from_is_utf8 c.args.path.now e))))
