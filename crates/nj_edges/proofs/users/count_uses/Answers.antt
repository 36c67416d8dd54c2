use Rattle.std.proofs.Common.{subst, take}
use Rattle.std.proofs.lemmas.List.{take_all}
use Rattle.nj_edges.specs.Inside.UsersHeld.{AreCounted, plus_uses}
use Rattle.nj_edges.proofs.UserLemmas.{plus-next}
use Rattle.nj_edges.proofs.users.count_uses.Goals as goal

pub files-preserved : goal.files-preserved
files-preserved c uses are =
    subst (AreCounted c.count_use.new.counts c.count_use.new.marks)
    (plus-next c.args.files.now c.files.file-index (record { 0 = 0 }) c.args.edge uses c.files-test.true)
    (c.in_ok-count_use.ensures (plus_uses (take c.files.file-index c.args.files.now) c.args.edge uses)
    (c.files.invariant uses are))

pub returns : goal.returns
returns c uses are = subst (λ fs. AreCounted c.files.counts c.files.marks (plus_uses fs c.args.edge uses))
    (take_all c.files.file-index c.args.files.now c.files-test.false) (c.files.invariant uses are)
