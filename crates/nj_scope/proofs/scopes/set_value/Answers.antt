use Rattle.std.proofs.Common.{cond, Some, ap, ◌∙◌, bytes_eq}
use Rattle.std.specs.Map.{lookup}
use Rattle.nj_scope.specs.Inside.ScopesHeld.{values_text}
use Rattle.nj_scope.proofs.ScopeLemmas.{lookup-inserted}
use Rattle.nj_scope.proofs.scopes.set_value.Goals as goal

pub returns-clause-set : goal.returns-clause-set
returns-clause-set c = λ x.
    ap (λ es. lookup (bytes_eq x) (values_text es)) c.in_ok-insert.ensures.entries
    ∙ lookup-inserted (λ v. v.items) c.args.values.now.entries c.in_ok-key.key c.args.value x
    ∙ ap (λ y. cond (bytes_eq x y) (Some c.args.value.items)
    (lookup (bytes_eq x) (values_text c.args.values.now.entries))) c.in_ok-key.ensures.items
