use Rattle.std.proofs.Common.{◌<◌, ◌-◌, ◌∷◌, ◌++◌, [], ap, sym, ◌∙◌, arith}
use Rattle.nj_keys.specs.Bases.{mapped_after}
use Rattle.nj_keys.specs.Inside.Folders.{may_begin_after, paths}
use Rattle.nj_keys.proofs.BaseLemmas.{may_begin-next, step-inside, step-outside}
use Rattle.nj_keys.proofs.bases.append_mapped.Goals as goal
use Rattle.nj_keys.proofs.bases.append_mapped.Goals.{then-left-eq0+in_ok-append_front, else-left-eq0}

pub bytes-preserved : goal.bytes-preserved
bytes-preserved c =
    let i = c.bytes.invariant in
    let folders = paths c.args.folders.now in
    let b = c.in-Some.byte.now in
    let after = c.in-Some.after.now in
    let rest = c.in-Some.ensures.cases.0 in
    record {
      before = i.before ++ b ∷ [];
      may_begin = c.may_begin_after-may_begin.ensures ∙ ap (λ may. may_begin_after may b) i.may_begin
          ∙ sym (may_begin-next i.before b);
      written = elim c.if-left-eq0.branch [
        | then-left-eq0+in_ok-append_front w ↦
            let size = w.counted-left.result in
            let is = ap (λ o. o.items) w.out-is ∙ w.in_ok-append_front.ensures in
            ap (λ n. c.if-left-eq0.out.items ++ mapped_after folders (i.before ++ b ∷ []) n after)
            (c.saturating_sub-left.ensures ∙ ap (λ n. n - 1) w.left-is)
            ∙ step-outside folders i.before b after c.bytes.rest.now rest c.bytes.out.items
            c.if-left-eq0.out.items c.bytes.may_begin size i.may_begin w.counted-left.ensures.longest is
            ∙ ap (λ n. c.bytes.out.items ++ mapped_after folders i.before n c.bytes.rest.now)
            (sym w.if-left-eq0.true) ∙ i.written
        | else-left-eq0 w ↦
            let some : 0 < c.bytes.left = omega (arith, w.if-left-eq0.false) in
            ap (λ n. c.if-left-eq0.out.items ++ mapped_after folders (i.before ++ b ∷ []) n after)
            (c.saturating_sub-left.ensures ∙ ap (λ n. n - 1) w.left-is)
            ∙ ap (λ o. o.items ++ mapped_after folders (i.before ++ b ∷ []) (c.bytes.left - 1) after) w.out-is
            ∙ ap (λ t. c.bytes.out.items ++ t) (step-inside folders i.before b after c.bytes.rest.now rest
            c.bytes.left some) ∙ i.written
      ];
    }
