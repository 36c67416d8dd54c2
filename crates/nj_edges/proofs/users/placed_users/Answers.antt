use Rattle.std.proofs.Common.{◌≡◌, ◌∙◌, ◌-◌, ap, arith, drop, length, subst, sym}
use Rattle.nj_edges.specs.Inside.UsersHeld.{ArePlaced, HaveCapacity, using_edges}
use Rattle.nj_edges.proofs.ListLemmas.{lent-back}
use Rattle.nj_edges.proofs.UserLemmas.{placed-all, rows-next, rows-capacity}
use Rattle.nj_edges.proofs.users.placed_users.Goals as goal

pub place_uses-requires-clause-capacity : goal.place_uses-requires-clause-capacity
place_uses-requires-clause-capacity c =
    let all = using_edges c.args.files.now c.args.row_part 0 c.args.rows.now in
    let row = c.files_of-edge_files.ensures in
    let after = c.rows-test.true in
    let next = rows-next c.args.files.now c.args.row_part c.args.rows.now (c.rows.edge - 1) c.rows.edge row.0
    c.files_of-edge_files.result.now (omega arith) row.1 row.2 in (
      all,
      using_edges c.args.files.now c.args.row_part c.rows.edge (drop c.rows.edge c.args.rows.now),
      rw (c.deref_mut.ensures.value, c.deref_mut-in-rows.ensures.value) c.rows.invariant.placed,
      subst (HaveCapacity all) (sym next) (rows-capacity c.args.files.now c.args.row_part c.args.rows.now
          (c.rows.edge - 1)),
    )

pub rows-preserved : goal.rows-preserved
rows-preserved c =
    let all = using_edges c.args.files.now c.args.row_part 0 c.args.rows.now in
    let uses = using_edges c.args.files.now c.args.row_part c.rows.edge (drop c.rows.edge c.args.rows.now) in
    let row = c.files_of-edge_files.ensures in
    let after = c.rows-test.true in
    let inside = c.rows.invariant.within in
    let marks-count = c.place_uses.auto.marks ∙ ap length c.deref_mut.ensures.value in
    let next = rows-next c.args.files.now c.args.row_part c.args.rows.now (c.rows.edge - 1) c.rows.edge row.0
    c.files_of-edge_files.result.now (omega arith) row.1 row.2 in
    let edges-count = c.place_uses.auto.edges ∙ ap length c.deref_mut-in-rows.ensures.value in
    rw (
      lent-back c.rows.marks.len c.place_uses.new.marks c.rows.marks.items c.rows.marks.ok.0 marks-count,
      lent-back c.rows.edges.len c.place_uses.new.edges c.rows.edges.items c.rows.edges.ok.0 edges-count,
    )
    (record {
      marks = marks-count ∙ c.rows.invariant.marks;
      within = omega arith;
      placed = subst (λ us. ArePlaced all us c.place_uses.new.places c.place_uses.new.marks
          c.place_uses.new.edges) next
          (c.place_uses.ensures all uses (rw (c.deref_mut.ensures.value, c.deref_mut-in-rows.ensures.value)
          c.rows.invariant.placed)
          (subst (HaveCapacity all) (sym next)
          (rows-capacity c.args.files.now c.args.row_part c.args.rows.now (c.rows.edge - 1))));
    })

pub returns : goal.returns
returns c =
    let all = using_edges c.args.files.now c.args.row_part 0 c.args.rows.now in
    let past = c.rows-test.false in
    let none : c.rows.edge ≡ 0 = omega arith in
    placed-all all c.rows.places c.rows.marks.items c.rows.edges.items
    (subst (λ k. ArePlaced all (using_edges c.args.files.now c.args.row_part k (drop k c.args.rows.now))
    c.rows.places c.rows.marks.items c.rows.edges.items) none c.rows.invariant.placed)
