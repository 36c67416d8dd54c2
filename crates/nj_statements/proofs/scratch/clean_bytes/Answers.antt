use Rattle.std.proofs.Common.{refl, ap, ◌∙◌}
use Rattle.std.proofs.lemmas.List.{append-nil}
use Rattle.nj_text.specs.Calls.{is_empty}
use Rattle.nj_scope.specs.Scopes.{expanded}
use Rattle.nj_statements.proofs.Lists.{clean-not-empty}
use Rattle.nj_statements.proofs.scratch.clean_bytes.Goals as goal

pub returns-then-is_clean-clause-meant : goal.returns-then-is_clean-clause-meant
returns-then-is_clean-clause-meant c = λ values.
    ap (λ parts. is_empty (expanded values parts)) c.in_ok-bytes.ensures
    ∙ ap is_empty (append-nil c.in_ok-bytes.bytes.now)
    ∙ clean-not-empty c.in_ok-bytes.bytes.now (c.if-is_clean.ensures.0 refl)
