use Rattle.std.proofs.Common.{◌≡◌, ◌≤◌, ℕ, true, List, length, sym, ◌∙◌, arith}
use Rattle.nj_cycles.specs.Cycles.{IsAcyclic}
use Rattle.nj_needs.specs.Graphs.{makers_of, count_of, row_of}
use Rattle.nj_needs.specs.Marks.{is_valid}
use Rattle.nj_needs.specs.Needs.{AreWithin}
use Rattle.nj_needs.specs.declared.needs.beginning.turns.Turns.{Turns}
use Rattle.nj_needs.proofs.Members.{Contains-from_Among}
use Rattle.nj_needs.proofs.ResumeLemmas.{valid-short}
use Rattle.nj_needs.proofs.Walking.{Below-targets}
use Rattle.nj_needs.proofs.needs.Needs.resume.Goals as goal

-- a valid mark is not longer than the number of edges
short : (l : Turns) (numbers : List ℕ) → IsAcyclic (makers_of l.graph.now) (count_of l.graph.now)
    → AreWithin (row_of l.graph.now l.targets.now) (count_of l.graph.now)
    → is_valid (makers_of l.graph.now) (row_of l.graph.now l.targets.now) numbers ≡ true
    → length numbers ≤ count_of l.graph.now
short l numbers acyclic inside valid =
    let g = l.graph.now in
    let row = row_of g l.targets.now in
    valid-short (makers_of g) (count_of g) acyclic.0 acyclic.1 (count_of g) row
    (Below-targets (makers_of g) (count_of g) acyclic.0 acyclic.1 row
    (λ m a. inside m (Contains-from_Among row m a))) numbers valid

pub new-requires-2 : goal.new-requires-2
new-requires-2 c =
    let e = c.edge_count-capacity.ensures in
    let len = short c.new-turns.result c.numbers-numbers.result.now e.acyclic e.within
    (sym c.leads.ensures.valid ∙ c.if-not-leads.false) in
    omega (arith, len, e.count)
