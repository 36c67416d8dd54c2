use Rattle.std.proofs.Common.{[], length, map, ap, subst, sym, ◌∙◌}
use Rattle.std.proofs.lemmas.Result.{IfOk-weaker}
use Rattle.nj_graph.specs.Graph.{edges_of}
use Rattle.nj_keys.specs.Keys.{HaveKeys, all_commands, edges_stated}
use Rattle.nj_tools.specs.declared.EdgeDiscovery.{EdgeDiscovery}
use Rattle.nj_ask.specs.Answers.{manifest_edges}
use Rattle.nj_ask.specs.Inside.Reached.{edge_numbers, AreEdgesOf}
use Rattle.nj_ask.specs.Since.{new_edges, AreNewCommands}
use Rattle.nj_ask.proofs.SinceLemmas.{new-known}
use Rattle.nj_ask.proofs.since.new_commands.Goals as goal

pub returns-clause-known : goal.returns-clause-known
returns-clause-known c =
    let g = c.args.known.now.graph in
    let old = c.args.old.now in
    IfOk-weaker c.unknown_among.result _ (λ commands. AreEdgesOf g commands.items) (λ edges is.
    subst (AreEdgesOf g) (sym (is ∙ ap (new_edges old) c.deref-3.ensures.value))
    (new-known (length (edges_of g)) old c.in_ok-keys.keys.items c.in_ok-keys.ensures.known))
    c.unknown_among.ensures

pub returns-clause-new : goal.returns-clause-new
returns-clause-new c entries graph =
    let known = c.args.known.now in
    let g = known.graph in
    let old = c.args.old.now in
    let bases = c.args.bases.now in
    let keys = c.in_ok-keys.keys.items in
    let counts = c.deref-2.ensures.value ∙ c.in_ok-counts.ensures
    ∙ ap (map (λ (discovery : EdgeDiscovery). discovery.stated_inputs)) c.deref.ensures.value in
    IfOk-weaker c.unknown_among.result _ (λ commands. AreNewCommands g (manifest_edges known) entries bases
    old
    (edge_numbers commands.items)) (λ edges is. record {
      keys = keys;
      have = subst (λ ns. HaveKeys [] bases (edges_stated ns (edges_of g)) entries (all_commands g) keys)
          counts
          (c.in_ok-keys.ensures.keys entries graph);
      new = ap edge_numbers (is ∙ ap (new_edges old) c.deref-3.ensures.value);
    }) c.unknown_among.ensures
