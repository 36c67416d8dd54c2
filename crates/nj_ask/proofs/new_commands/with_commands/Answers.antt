use Rattle.std.proofs.Common.{◌<◌, ◌++◌, All, List, length, ap, sym, subst, ◌∙◌}
use Rattle.std.proofs.lemmas.List.Elements.{All-append}
use Rattle.std.proofs.lemmas.Result.{IfOk-weaker}
use Rattle.nj_graph.specs.declared.EdgeNo.{EdgeNo}
use Rattle.nj_graph.specs.Graph.{edges_of}
use Rattle.nj_ask.specs.DiscoveredGraphs.{IsTouched}
use Rattle.nj_ask.specs.Inside.Flags.{AreFlags, flagged_numbers}
use Rattle.nj_ask.specs.Inside.Reached.{edge_numbers, AreAllTouched}
use Rattle.nj_ask.proofs.NewCommandLemmas.{either-touched}
use Rattle.nj_ask.proofs.new_commands.with_commands.Goals as goal

pub edge_flags-requires : goal.edge_flags-requires
edge_flags-requires c =
    let g = c.args.known.now.graph in
    let edges = c.args.edges.now in
    let commands = c.args.commands.now in
    let count = rw c.deref.ensures at c.edge_count.ensures.count in
    let all = c.deref-2.ensures.value ∙ c.in_ok-extend_from_slice.ensures.items
    ∙ ap (λ (es : List EdgeNo). es ++ commands) c.in_ok-all.ensures.items in
    subst (All (λ (e : EdgeNo). e.0 < c.edge_count.result)) (sym all)
    (subst (λ n. All (λ (e : EdgeNo). e.0 < n) (edges ++ commands)) (sym count)
    (All-append (λ (e : EdgeNo). e.0 < length (edges_of g)) edges commands c.requires.edges
    c.requires.commands))

pub returns : goal.returns
returns c paths are =
    let known = c.args.known.now in
    let edges = c.args.edges.now in
    let commands = c.args.commands.now in
    let count = rw c.deref.ensures at c.edge_count.ensures.count in
    let all = c.deref-2.ensures.value ∙ c.in_ok-extend_from_slice.ensures.items
    ∙ ap (λ (es : List EdgeNo). es ++ commands) c.in_ok-all.ensures.items in
    let flags = subst (λ n. AreFlags n (edge_numbers (edges ++ commands)) c.in_ok-flags.flags.items) count
    (subst (λ es. AreFlags c.edge_count.result (edge_numbers es) c.in_ok-flags.flags.items) all
    c.in_ok-flags.ensures) in
    IfOk-weaker c.flagged.result _ (λ all. AreAllTouched known paths commands all.items) (λ all listed.
    either-touched known (IsTouched known paths) edges commands c.in_ok-flags.flags.items flags are
    c.requires.commands all.items (listed ∙ ap flagged_numbers c.deref-3.ensures.value))
    c.flagged.ensures
