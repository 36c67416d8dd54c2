use Rattle.std.proofs.Common.{[], ◌∷◌, ◌++◌, ap, ◌∙◌, Result, Ok, Err, OnErr, arith}
use Rattle.std.proofs.lemmas.Grind.{common_steps}
use Rattle.nj_scope.specs.Inside.LateHeld.{text_or_name, late_parts}
use Rattle.nj_scope.proofs.LateLemmas.{parts-longer, parts-counted}
use Rattle.nj_scope.proofs.deferred.LateValue.push_bytes.Goals as goal

always : {X Y P : Type 0} (r : Result X Y) → P → OnErr r P
always (Ok x) h = tt
always (Err y) h = h

-- src/late.rt:100:9
pub returns-in_err-push-clause-refused : goal.returns-in_err-push-clause-refused
returns-in_err-push-clause-refused c =
    always c.from_residual-in_err-push.result
    (ap (late_parts c.extend_from_slice.new.self.items) c.in_err-push.ensures.items
    ∙ ap (λ t. late_parts t c.self.inside.parts.items) c.in_ok-extend_from_slice.ensures.items
    ∙ parts-longer c.self.inside.text.items c.args.bytes.now c.self.inside.parts.items c.self.invariant
    ∙ c.self.view_is)

-- src/late.rt:93:5
pub returns-clause-pushed : goal.returns-clause-pushed
returns-clause-pushed c =
    parts-counted c.self.inside.text.items c.extend_from_slice.new.self.items c.args.bytes.now c.args.is_name
    c.self.inside.parts.items c.push.new.self.items c.len-start.result c.len-end.result
    c.self.invariant c.in_ok-extend_from_slice.ensures.items (grind (arith, common_steps))
    (grind (arith, common_steps)) c.in_ok-push.ensures.items
    ∙ ap (λ ps. ps ++ text_or_name c.args.is_name c.args.bytes.now ∷ []) c.self.view_is
