use Rattle.std.proofs.Common.{[], map, refl, sym, ap, subst, ◌∙◌, true≢false}
use Rattle.nj_changes.specs.Ignored.{AreLeft}
use Rattle.nj_changes.specs.Ignored.AreLeft.{none}
use Rattle.nj_changes.proofs.GlobLemmas.{more-ignored, more-kept}
use Rattle.nj_changes.proofs.ignored.without_ignored.Goals as goal
use Rattle.nj_changes.proofs.ignored.without_ignored.Goals.{then-not-matches_one+in_ok-push}
use Rattle.nj_changes.proofs.ignored.without_ignored.Goals.{else-not-matches_one}

pub paths-init : goal.paths-init
paths-init c = record {
  same = refl;
  left = subst (λ items. AreLeft c.args.globs.now [] (map (λ path. path.now) items))
      (sym c.new-left.ensures.items)
      none;
}

pub paths-preserved : goal.paths-preserved
paths-preserved c =
    let same = c.matches_one.ensures.same in
    let tells = c.matches_one.ensures.one in
    record {
      same = same ∙ c.paths.invariant.same;
      left = elim c.if-not-matches_one.branch [
        | then-not-matches_one+in_ok-push w ↦
            more-kept c.paths.globs c.matches_one.new.globs same c.args.paths.now c.paths.left.items
            c.if-not-matches_one.left.items c.paths.path-index _ c.paths-test.true c.paths.invariant.left
            (λ one. true≢false (sym (tells.1 one) ∙ w.if-not-matches_one.true))
            (ap (λ v. v.items) w.left-is ∙ w.in_ok-push.ensures.items)
        | else-not-matches_one w ↦
            more-ignored c.paths.globs c.matches_one.new.globs same c.args.paths.now c.paths.left.items
            c.if-not-matches_one.left.items c.paths.path-index _ c.paths-test.true c.paths.invariant.left
            (tells.0 w.if-not-matches_one.false) (ap (λ v. v.items) w.left-is)
      ];
    }
