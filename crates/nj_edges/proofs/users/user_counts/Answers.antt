use Rattle.std.proofs.Common.{◌∙◌, ◌-◌, ap, arith, drop, length, subst}
use Rattle.nj_edges.specs.Inside.UsersHeld.{AreCounted, using_edges}
use Rattle.nj_edges.proofs.ListLemmas.{lent-back}
use Rattle.nj_edges.proofs.UserLemmas.{rows-next}
use Rattle.nj_edges.proofs.users.user_counts.Goals as goal

pub rows-preserved : goal.rows-preserved
rows-preserved c =
    let row = c.files_of-edge_files.ensures in
    let after = c.rows-test.true in
    let inside = c.rows.invariant.within in
    let counts-count = c.count_uses.auto.counts ∙ ap length c.deref_mut.ensures.value in
    let marks-count = c.count_uses.auto.marks ∙ ap length c.deref_mut-in-rows.ensures.value in
    let uses = using_edges c.args.files.now c.args.row_part c.rows.edge (drop c.rows.edge c.args.rows.now) in
    rw (
      lent-back c.rows.counts.len c.count_uses.new.counts c.rows.counts.items c.rows.counts.ok.0
          counts-count,
      lent-back c.rows.marks.len c.count_uses.new.marks c.rows.marks.items c.rows.marks.ok.0
          marks-count,
    ) (record {
      count = counts-count ∙ c.rows.invariant.count;
      marks = marks-count ∙ c.rows.invariant.marks;
      within = omega arith;
      counted = subst (AreCounted c.count_uses.new.counts c.count_uses.new.marks)
          (rows-next c.args.files.now c.args.row_part c.args.rows.now (c.rows.edge - 1) c.rows.edge row.0
          c.files_of-edge_files.result.now (omega arith) row.1 row.2)
          (c.in_ok-count_uses.ensures uses (rw (c.deref_mut.ensures.value, c.deref_mut-in-rows.ensures.value)
          c.rows.invariant.counted));
    })
