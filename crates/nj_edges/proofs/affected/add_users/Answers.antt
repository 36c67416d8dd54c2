use Rattle.std.proofs.Common.{refl}
use Rattle.nj_edges.specs.Edges.{inputs_of}
use Rattle.nj_edges.proofs.ChangeLemmas.{finds-users}
use Rattle.nj_edges.proofs.affected.add_users.Goals as goal

pub files-preserved : goal.files-preserved
files-preserved c =
    finds-users inputs_of refl c.args.graph.now.edges c.args.graph.now.files c.args.found.now c.files.found
    c.add_all.new.found c.args.files.now c.files.file-index (record { 0 = 0 }) c.users.result.now
    c.files-test.true c.users.ensures.users c.files.invariant c.in_ok-add_all.ensures
