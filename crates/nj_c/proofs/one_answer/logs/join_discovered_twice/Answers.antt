use Rattle.std.proofs.Common.{◌≡◌, rules, subst, w32, ℕ, List, bytes_eq, ◌∙◌}
use Rattle.std.specs.List.{list_any}
use mir.Val.{SFits}
use Rattle.nj_edges.specs.Edges.{is_named}
use Rattle.nj_graph.specs.Graph.{edges_of, files_of}
use Rattle.nj_agreement.specs.Graphs.{SameGraph}
use Rattle.nj_c.proofs.OneAnswerChanges.{if-stated, of-graph, same-change}
use Rattle.nj_c.proofs.OneAnswerDiscovered.{discovered-agree}
use Rattle.nj_c.proofs.OneAnswerLemmas.{passed}
use Rattle.nj_c.specs.DiscoveredInputs.{JoinsDiscovered}
use Rattle.nj_c.specs.OneAnswer.{Equal, IfStated, SameChange}
use Rattle.nj_c.proofs.one_answer.logs.join_discovered_twice.Goals as goal

pub returns : goal.returns
returns c =
    let fits : SFits w32 c.nx_join_discovered.result = search rules in
    let fits2 : SFits w32 c.nx_join_discovered-2.result = search rules in
    let before = c.graph_is_sound.new.session.kept in
    let after = c.nx_join_discovered.new.session.kept in
    let after2 = c.nx_join_discovered-2.new.session.kept in
    let r = c.nx_join_discovered.result in
    let s = c.nx_join_discovered-2.result in
    let log = c.args.log.now in
    let times = c.args.times.now in
    passed (λ r s. IfStated c.args.one.now.kept (SameChange SameGraph Equal r s
    c.nx_join_discovered.new.session.kept c.nx_join_discovered-2.new.session.kept)) fits fits2
    (subst (λ k. IfStated k (SameChange SameGraph Equal r s after after2)) c.graph_is_sound.ensures.kept
    (if-stated before (SameChange SameGraph Equal r s after after2) (λ has. same-change SameGraph Equal before
    c.args.other.now.kept after after2 r s (c.graph_is_sound.ensures.kept ∙ c.requires)
    (λ kept new. JoinsDiscovered kept new log times) (λ kept new. JoinsDiscovered kept new log times)
    (λ kept new new2 status status2 at memory memory2 is also. discovered-agree log times kept new new2
    (λ g there. has kept g at there)
    (λ g there. of-graph before kept g (λ h. (path : List ℕ) → list_any (bytes_eq path) (files_of h)
    ≡ is_named (edges_of h) path) at there c.graph_is_sound.ensures.named) status status2 memory memory2 is
    also) c.nx_join_discovered.ensures c.nx_join_discovered-2.ensures)))
