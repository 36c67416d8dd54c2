use Rattle.std.proofs.Common.{◌<◌, All, refl, sym, subst, ap, ◌∙◌}
use Rattle.std.proofs.lemmas.List.Elements.{All-push}
use Rattle.nj_edges.specs.declared.edges.EdgeNo.{EdgeNo}
use Rattle.nj_c.specs.Inside.PagesHeld.{numbers_of}
use Rattle.nj_c.proofs.DirtyLemmas.{set-more, set-same}
use Rattle.nj_c.proofs.dirty_edges.flagged.Goals as goal
use Rattle.nj_c.proofs.dirty_edges.flagged.Goals.{then-is_set+in_ok-push, else-is_set}

pub edges-preserved : goal.edges-preserved
edges-preserved c =
    let flags = c.args.flags.now in let n = c.edges.edge in let old = c.edges.edges.items in
    let e : EdgeNo = record { 0 = n } in
    let held = c.edges.invariant in
    elim c.if-is_set.branch [
      | then-is_set+in_ok-push w ↦
          let new = ap (λ v. v.items) w.edges-is ∙ w.in_ok-push.ensures.items in
          record {
            edges = set-more flags n old held.edges _ e refl (sym c.is_set.ensures ∙ w.if-is_set.true) new;
            below = subst (All (λ (x : EdgeNo). x.0 < c.args.count)) (sym new)
                (All-push (λ (x : EdgeNo). x.0 < c.args.count) old e held.below c.edges-test.true);
          }
      | else-is_set w ↦ record {
        edges = ap (λ v. numbers_of v.items) w.edges-is
            ∙ set-same flags n old held.edges (sym c.is_set.ensures ∙ w.if-is_set.false);
        below = subst (λ v. All (λ (x : EdgeNo). x.0 < c.args.count) v.items) (sym w.edges-is) held.below;
      }
    ]
