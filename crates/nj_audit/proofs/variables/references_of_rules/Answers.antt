use Rattle.std.proofs.Common.{[], ◌∷◌, ◌++◌, ◌+◌, take, sym, ap, subst, ◌∙◌}
use Rattle.std.specs.List.{AllZip}
use Rattle.std.proofs.lemmas.List.{take_all, take_more}
use Rattle.nj_audit.specs.Inside.References.{HasReferences}
use Rattle.nj_audit.proofs.MarkLemmas.{zip-push}
use Rattle.nj_audit.proofs.variables.references_of_rules.Goals as goal

pub rules-preserved : goal.rules-preserved
rules-preserved c =
    let rules = c.args.rules.now in
    let i = c.rules.rule-index in
    let rule = c.rule-item.result in
    subst (λ items. AllZip HasReferences items (take (i + 1) rules)) (sym c.in_ok-push.ensures.items)
    (subst (AllZip HasReferences (c.rules.references.items ++ c.in_ok-references_of.field-0 ∷ []))
    (ap (λ r. take i rules ++ r ∷ []) c.rule-item.is ∙ sym (take_more rules i rule c.rules-test.true))
    (zip-push HasReferences c.rules.references.items (take i rules) c.in_ok-references_of.field-0 rule
    c.rules.invariant c.in_ok-references_of.ensures))

pub returns : goal.returns
returns c = subst (AllZip HasReferences c.rules.references.items)
    (take_all c.rules.rule-index c.args.rules.now c.rules-test.false) c.rules.invariant
