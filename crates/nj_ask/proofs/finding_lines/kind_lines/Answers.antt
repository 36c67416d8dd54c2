use Rattle.std.proofs.Common.{◌≡◌, ◌+◌, ◌<◌, ◌∷◌, ◌++◌, add-one, append_assoc, drop, drop-cons, get_or}
use Rattle.std.proofs.Common.{length, refl, sym, ap, ◌∙◌}
use Rattle.std.specs.List.{flat_map}
use Rattle.nj_audit.specs.Kinds.{all_kinds}
use Rattle.nj_audit.specs.declared.kinds.Kind.TheVariants.{UnusedOutput}
use Rattle.nj_ask.specs.Audits.{kind_line}
use Rattle.nj_ask.proofs.finding_lines.kind_lines.Goals as goal

pub all-preserved : goal.all-preserved
all-preserved c =
    let i = c.all.kind-index in
    let below : i < length all_kinds = c.all-test.true in
    let next : drop i all_kinds ≡ get_or all_kinds i UnusedOutput ∷ drop (i + 1) all_kinds =
    rw (add-one, drop-cons all_kinds i UnusedOutput) refl in
    ap (λ t. t ++ flat_map kind_line (drop (i + 1) all_kinds)) c.in_ok-push_kind.ensures
    ∙ append_assoc c.all.lines.items (kind_line (get_or all_kinds i UnusedOutput))
    (flat_map kind_line (drop (i + 1) all_kinds))
    ∙ ap (λ ks. c.all.lines.items ++ flat_map kind_line ks) (sym next) ∙ c.all.invariant
