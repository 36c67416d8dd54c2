use Rattle.std.proofs.Common.{rules, w32, length, sym, ◌∙◌}
use mir.Val.{SFits}
use Rattle.nj_cycles.specs.Cycles.{IsAcyclic}
use Rattle.nj_edges.specs.Needs.{makers_of_inputs}
use Rattle.nj_graph.specs.Graph.{edges_of}
use Rattle.nj_c.proofs.OneAnswerChanges.{if-stated, of-graph, same-change}
use Rattle.nj_c.proofs.OneAnswerLemmas.{passed}
use Rattle.nj_c.proofs.OneAnswerStale.{stale-agree}
use Rattle.nj_c.specs.OneAnswer.{Equal, IfStated, SameChange}
use Rattle.nj_c.specs.StaleEdges.{ListsStale}
use Rattle.nj_c.proofs.one_answer.stale_edges.stale_twice.Goals as goal

pub returns : goal.returns
returns c =
    let fits : SFits w32 c.nx_stale.result = search rules in
    let fits2 : SFits w32 c.nx_stale-2.result = search rules in
    let known = c.graph_is_sound.ensures in
    let before = c.graph_is_sound.new.session.kept in
    let after = c.nx_stale.new.session.kept in
    let after2 = c.nx_stale-2.new.session.kept in
    let r = c.nx_stale.result in
    let s = c.nx_stale-2.result in
    let log = c.args.log.now in
    let times = c.args.times.now in
    let targets = c.args.targets.now in
    passed (λ r s. IfStated c.args.one.now.kept (SameChange Equal Equal r s c.nx_stale.new.session.kept
    c.nx_stale-2.new.session.kept)) fits fits2
    (if-stated c.args.one.now.kept (SameChange Equal Equal r s after after2)
    (λ has. same-change Equal Equal before
    c.args.other.now.kept after after2 r s (known.kept ∙ c.requires)
    (λ kept new. ListsStale kept new log times targets)
    (λ kept new. ListsStale kept new log times targets)
    (λ kept new new2 status status2 at memory memory2 is also. stale-agree c.some_state_fits.ensures kept log
    times
    targets (λ g there. has kept g (sym known.kept ∙ at) there)
    (λ g there. of-graph before kept g (λ h. IsAcyclic (makers_of_inputs (edges_of h)) (length (edges_of h)))
    at there known.edges) new new2 status status2 memory memory2 is also) c.nx_stale.ensures
    c.nx_stale-2.ensures))
