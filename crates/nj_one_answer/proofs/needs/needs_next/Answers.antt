use Rattle.std.proofs.Common.{◌≡◌, subst, sym}
use Rattle.nj_cycles.specs.Cycles.{IsAcyclic}
use Rattle.nj_needs.specs.Graphs.{count_of, makers_of}
use Rattle.nj_needs.specs.Walks.{number_of}
use Rattle.nj_agreement.specs.Walks.{SameWalk}
use Rattle.nj_agreement.proofs.NeedsAnswers.{same-edges, steps-agree}
use Rattle.nj_one_answer.proofs.needs.needs_next.Goals as goal

steps : (c : goal.After-next-2) → (number_of c.next.result ≡ number_of c.next-2.result)
    × SameWalk c.next.new.self c.next-2.new.self
steps c = steps-agree c.args.one.now c.args.other.now c.next.new.self c.next-2.new.self c.requires.same
    (subst (λ g. IsAcyclic (makers_of g) (count_of g)) (sym c.requires.graph) c.edge_count.ensures.acyclic)
    (number_of c.next.result) (number_of c.next-2.result) c.next.ensures.next c.next-2.ensures.next
    c.next.ensures.same c.next-2.ensures.same

pub returns-clause-edge : goal.returns-clause-edge
returns-clause-edge c = same-edges c.next.result c.next-2.result (steps c).0

pub returns-clause-walk : goal.returns-clause-walk
returns-clause-walk c = (steps c).1
