use Rattle.std.proofs.Common.{◌≡◌, ◌+◌, ◌<◌, ◌∷◌, ◌++◌, add-one, append_assoc, drop, drop-cons, get_or}
use Rattle.std.proofs.Common.{length, refl, sym, ap, ◌∙◌}
use Rattle.std.specs.List.{flat_map}
use Rattle.nj_audit.specs.Kinds.{all_kinds}
use Rattle.nj_audit.specs.declared.kinds.Kind.TheVariants.{UnusedOutput}
use Rattle.nj_audit.specs.Inside.ByKind.{asked_of, findings_of}
use Rattle.nj_audit.proofs.auditing.find_all.Goals as goal

pub all-preserved : goal.all-preserved
all-preserved c entries graph =
    let each = asked_of c.args.kinds (findings_of c.args.graph.now entries c.args.missing.now
    c.args.serving.now
    c.args.undeclared.now) in
    let i = c.all.kind-index in
    let below : i < length all_kinds = c.all-test.true in
    let next : drop i all_kinds ≡ get_or all_kinds i UnusedOutput ∷ drop (i + 1) all_kinds =
    rw (add-one, drop-cons all_kinds i UnusedOutput) refl in
    ap (λ t. t ++ flat_map each (drop (i + 1) all_kinds)) (c.in_ok-find.ensures entries graph)
    ∙ append_assoc c.all.found (each (get_or all_kinds i UnusedOutput))
    (flat_map each (drop (i + 1) all_kinds))
    ∙ ap (λ ks. c.all.found ++ flat_map each ks) (sym next) ∙ c.all.invariant entries graph
