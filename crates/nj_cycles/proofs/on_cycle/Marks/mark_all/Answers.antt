use Rattle.std.proofs.Common.{◌≡◌, refl, sym, subst, inl, inr, arith}
use Rattle.std.specs.Prelude.{Contains, slice_index}
use Rattle.std.proofs.lemmas.Bool.{cases_lt}
use Rattle.nj_cycles.specs.Inside.Marks.{IsMarked}
use Rattle.nj_cycles.proofs.Marking.{more_then}
use Rattle.nj_cycles.proofs.Places.{index_of, contains_at}
use Rattle.nj_cycles.proofs.on_cycle.Marks.mark_all.Goals as goal

pub edges-preserved : goal.edges-preserved
edges-preserved c =
    let edges = c.args.edges.now in
    let index = c.edges.edge-index in
    let x = slice_index edges index in
    let k = c.in_ok-mark.ensures in
    record {
      more = more_then (Contains edges) (λ e. e ≡ x) c.args.self.now c.edges.self c.mark.new.self
          (λ e is. subst (Contains edges) (sym is) (contains_at edges index x c.edges-test.true refl))
          c.edges.invariant.more k.more;
      marked = λ i below. elim (cases_lt i index) [
        | inl less ↦ k.more.kept (slice_index edges i) (c.edges.invariant.marked i less)
        | inr le ↦ let last : i ≡ index = omega (arith, below, le) in
            subst (λ j. IsMarked c.mark.new.self.flags.items (slice_index edges j)) (sym last) k.marked
      ];
    }

pub returns-clause-marked : goal.returns-clause-marked
returns-clause-marked c = λ e h. let k = index_of c.args.edges.now e h in
    subst (IsMarked c.edges.self.flags.items) k.2
    (c.edges.invariant.marked k.0 (omega (arith, k.1, c.edges-test.false)))
