use Rattle.std.proofs.Common.{true≢false, sym, ◌∙◌}
use Rattle.std.proofs.lemmas.Result.{IfOk-weaker}
use Rattle.nj_audit.proofs.logged_inputs.is_named_unordered.Goals as goal

pub returns-then-branch-clause-named : goal.returns-then-branch-clause-named
returns-then-branch-clause-named c entries graph =
    let unordered = c.in_ok-is_unordered.ensures.unordered.0 c.if-branch.true in
    IfOk-weaker c.names_file.result _ _
    (λ names told. (λ is. record { named = told.0 is; is_unordered = unordered }, λ both. told.1 both.named))
    (c.names_file.ensures entries graph)

pub returns-clause-named : goal.returns-clause-named
returns-clause-named c entries graph = (
  λ is. absurd (true≢false (sym is)),
  λ both. absurd (true≢false (sym (c.in_ok-is_unordered.ensures.unordered.1 both.is_unordered)
      ∙ c.if-branch.false)),
)
