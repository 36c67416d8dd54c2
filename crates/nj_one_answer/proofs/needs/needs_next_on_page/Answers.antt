use Rattle.std.proofs.Common.{◌≡◌, [], subst, sym}
use Rattle.nj_cycles.specs.Cycles.{IsAcyclic}
use Rattle.nj_needs.specs.Graphs.{count_of, makers_of}
use Rattle.nj_needs.specs.Walks.{number_of}
use Rattle.nj_agreement.specs.Walks.{SameWalk, SameRoom}
use Rattle.nj_agreement.proofs.NeedsAnswers.{at-once, pages-agree, same-edges}
use Rattle.nj_one_answer.proofs.needs.needs_next_on_page.Goals as goal

pages : (c : goal.After-next_on_page-2)
    → (number_of c.next_on_page.result ≡ number_of c.next_on_page-2.result)
    × SameWalk c.next_on_page.new.self c.next_on_page-2.new.self
    × SameRoom c.next_on_page.new.self.left c.next_on_page.new.room c.next_on_page-2.new.room
pages c =
    let one = c.args.one.now in
    let other = c.args.other.now in
    pages-agree one other c.next_on_page.new.self c.next_on_page-2.new.self c.args.room.now
    c.args.other_room.now c.next_on_page.new.room c.next_on_page-2.new.room c.requires.same
    (subst (λ g. IsAcyclic (makers_of g) (count_of g)) (sym c.requires.graph) c.edge_count.ensures.acyclic)
    c.requires.room (number_of c.next_on_page.result) (number_of c.next_on_page-2.result)
    (c.next_on_page.ensures.goes_on one c.args.room.now [] (at-once one c.args.room.now))
    (c.next_on_page-2.ensures.goes_on other c.args.other_room.now [] (at-once other c.args.other_room.now))

pub returns-clause-edge : goal.returns-clause-edge
returns-clause-edge c = same-edges c.next_on_page.result c.next_on_page-2.result (pages c).0

pub returns-clause-walk : goal.returns-clause-walk
returns-clause-walk c = (pages c).1

pub returns-clause-room : goal.returns-clause-room
returns-clause-room c = (pages c).2
