use Rattle.std.proofs.Common.{subst, take}
use Rattle.std.proofs.lemmas.List.{take_all}
use Rattle.nj_edges.specs.Inside.UsersHeld.{ArePlaced, plus_uses}
use Rattle.nj_edges.proofs.UserLemmas.{plus-next, capacity-next}
use Rattle.nj_edges.proofs.users.place_uses.Goals as goal

pub place_use-requires-clause-capacity : goal.place_use-requires-clause-capacity
place_use-requires-clause-capacity c =
    let all = c.requires.capacity.0 in
    let uses = c.requires.capacity.1 in (
      all,
      plus_uses (take c.files.file-index c.args.files.now) c.args.edge uses,
      c.files.invariant all uses c.requires.capacity.2 c.requires.capacity.3,
      capacity-next all uses c.args.files.now c.files.file-index (record { 0 = 0 }) c.args.edge
          c.files-test.true c.requires.capacity.3,
    )

pub files-preserved : goal.files-preserved
files-preserved c all uses placed capacity =
    subst (λ us. ArePlaced all us c.place_use.new.places c.place_use.new.marks c.place_use.new.edges)
    (plus-next c.args.files.now c.files.file-index (record { 0 = 0 }) c.args.edge uses c.files-test.true)
    (c.place_use.ensures all (plus_uses (take c.files.file-index c.args.files.now) c.args.edge uses)
    (c.files.invariant all uses placed capacity)
    (capacity-next all uses c.args.files.now c.files.file-index (record { 0 = 0 }) c.args.edge
    c.files-test.true capacity))

pub returns : goal.returns
returns c all uses placed capacity =
    subst (λ fs. ArePlaced all (plus_uses fs c.args.edge uses) c.files.places c.files.marks c.files.edges)
    (take_all c.files.file-index c.args.files.now c.files-test.false)
    (c.files.invariant all uses placed capacity)
