use Rattle.std.proofs.Common.{◌≡◌, ◌<◌, ◌-◌, false, Some, drop, length, sym, subst, ◌∙◌, arith}
use Rattle.std.specs.Prelude.{slice_index, slice_index_or}
use Rattle.std.proofs.lemmas.Bool.{both_ways}
use Rattle.std.proofs.lemmas.List.{get_or_read}
use Rattle.nj_cycles.specs.Cycles.{Needs}
use Rattle.nj_cycles.specs.Inside.Users.{HaveUsers}
use Rattle.nj_cycles.specs.Inside.Marks.{IsMarked, AreMarks, IsLeastOf}
use Rattle.nj_cycles.proofs.Ranks.{stepped, marked-on_cycle, on_cycle-marked, least_past, least_more}
use Rattle.nj_cycles.proofs.UserLemmas.{users_known}
use Rattle.nj_cycles.proofs.on_cycle.least_on_cycle.Goals as goal

pub mark_needing-requires-clause-known : goal.mark_needing-requires-clause-known
mark_needing-requires-clause-known g c =
    λ m e user. users_known c.args.users.now (Needs (g.I.EdgeInputs.makers c.args.inputs.now))
    (g.I.EdgeInputs.count c.args.inputs.now) c.requires.users
    (λ e m needs. (c.edge_count.ensures.known e m needs).0) m e user

pub edges-preserved-then-index : goal.edges-preserved-then-index
edges-preserved-then-index g c =
    let makers = g.I.EdgeInputs.makers c.args.inputs.now in
    let count = g.I.EdgeInputs.count c.args.inputs.now in
    let order = c.args.order.now in
    let index = c.edges.index in
    let e = slice_index order (index - 1) in
    let flags = c.mark_needing.new.self.flags.items in
    let step = stepped order index (omega arith) (omega arith) in
    let lt : e < length flags = omega (
      arith,
      c.requires.walked.within (index - 1) (omega arith),
      c.in_ok-mark_needing.ensures.len_after,
      c.requires.users.len,
      c.mark_needing.new.self.flags.ok.0,
    ) in
    let marks = subst (λ es. AreMarks makers es flags) (sym step)
    (c.in_ok-mark_needing.ensures.marks makers (drop index order)
    (subst (λ n. HaveUsers n (Needs makers) c.args.users.now) (sym c.requires.users.len) c.requires.users)
    c.edges.invariant.marks) in
    let marked : IsMarked flags e = sym (get_or_read flags e c.index.result.now lt c.index.ensures false)
    ∙ c.if-index.true in
    record {
      len = c.in_ok-mark_needing.ensures.len_after;
      pending = c.in_ok-mark_needing.ensures.pending_after;
      marks = marks;
      least = subst (λ es. IsLeastOf makers es (Some c.lesser.result)) (sym step)
          (least_more makers (drop index order) e c.lesser.result c.edges.least
          (marked-on_cycle makers count order c.requires.walked (index - 1) flags (omega arith) marks
          marked) c.lesser.ensures c.edges.invariant.least);
    }

pub edges-preserved : goal.edges-preserved
edges-preserved g c =
    let makers = g.I.EdgeInputs.makers c.args.inputs.now in
    let count = g.I.EdgeInputs.count c.args.inputs.now in
    let order = c.args.order.now in
    let index = c.edges.index in
    let e = slice_index order (index - 1) in
    let flags = c.mark_needing.new.self.flags.items in
    let step = stepped order index (omega arith) (omega arith) in
    let lt : e < length flags = omega (
      arith,
      c.requires.walked.within (index - 1) (omega arith),
      c.in_ok-mark_needing.ensures.len_after,
      c.requires.users.len,
      c.mark_needing.new.self.flags.ok.0,
    ) in
    let grown = c.in_ok-mark_needing.ensures.marks makers (drop index order)
    (subst (λ n. HaveUsers n (Needs makers) c.args.users.now) (sym c.requires.users.len) c.requires.users)
    c.edges.invariant.marks in
    let unmarked : slice_index_or flags e false ≡ false =
    sym (get_or_read flags e c.index.result.now lt c.index.ensures false) ∙ c.if-index.false in
    record {
      len = c.in_ok-mark_needing.ensures.len_after;
      pending = c.in_ok-mark_needing.ensures.pending_after;
      marks = subst (λ es. AreMarks makers es flags) (sym step) grown;
      least = subst (λ es. IsLeastOf makers es c.edges.least) (sym step)
          (least_past makers (drop index order) e c.edges.least
          (λ on. both_ways (slice_index_or flags e false) unmarked
          (on_cycle-marked makers count order c.requires.walked e (drop index order) flags grown on))
          c.edges.invariant.least);
    }
