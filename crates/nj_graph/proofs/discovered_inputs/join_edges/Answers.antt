use Rattle.std.proofs.Common.{◌∙◌, ◌+◌, ◌<◌, ◌++◌, ap, arith, drop, fold, length, map, subst, sym, take}
use Rattle.std.proofs.lemmas.List.{length-map}
use Rattle.nj_names.specs.NameTables.{name_at}
use Rattle.nj_discovered.specs.Discoveries.{found_at}
use Rattle.nj_edges.specs.MoreInputs.{InputTable, at_next_edge, with_new_input}
use Rattle.nj_graph.specs.Inside.InputSteps.{AreFilesOf, inputs_found, paths_found}
use Rattle.nj_graph.proofs.FoundInputLemmas.{found-named, written-back}
use Rattle.nj_graph.proofs.InputLemmas.{after-edge, after-stated, one-more}
use Rattle.nj_graph.proofs.discovered_inputs.join_edges.Goals as goal

pub end_edge-requires : goal.end_edge-requires
end_edge-requires c =
    let paths = map (name_at c.args.found.now.names) c.inputs.result.now in
    let same = after-edge paths c.edges.joining c.add_paths.new.joining c.in_ok-add_paths.ensures.added in
    let stated = after-stated paths c.edges.joining c.add_paths.new.joining c.in_ok-add_paths.ensures.added in
    omega (
      arith,
      same,
      stated,
      c.edges.invariant.edge,
      c.edges.invariant.stated,
      c.requires.count,
      c.edge_count-edge-end.ensures,
      c.edges-test.true,
    )

pub edges-preserved : goal.edges-preserved
edges-preserved c =
    let d = c.args.found.now in
    let edge = c.edges.edge in
    let t = c.edges.joining in
    let paths = paths_found d (found_at d edge) in
    let added = c.in_ok-add_paths.ensures.added
    ∙ ap (λ numbers. fold with_new_input t (map (name_at d.names) numbers)) c.inputs.ensures.inputs in
    let below : edge < length (inputs_found d) = let count = length-map d.edges (paths_found d) in
    omega (arith, count, c.edge_count-edge-end.ensures, c.edges-test.true) in
    record {
      joins = one-more (inputs_found d) edge paths t c.end_edge.new.self (found-named d edge below)
          (c.end_edge.ensures ∙ ap at_next_edge added) ∙ c.edges.invariant.joins;
      edge = ap (λ (u : InputTable). u.edge) c.end_edge.ensures
          ∙ ap (λ n. n + 1) (after-edge paths t c.add_paths.new.joining added ∙ c.edges.invariant.edge);
      stated = ap (λ (u : InputTable). length u.table.stated) c.end_edge.ensures
          ∙ after-stated paths t c.add_paths.new.joining added ∙ c.edges.invariant.stated;
      files = subst (λ (u : InputTable). AreFilesOf d.names u.table.files
          (take c.edges.files.len (c.add_paths.new.files
          ++ drop (length c.add_paths.new.files) c.edges.files.items))) (sym c.end_edge.ensures)
          (subst (AreFilesOf d.names c.add_paths.new.joining.table.files)
          (sym (written-back c.edges.files.len c.add_paths.new.files c.edges.files.items
          (let now = c.in_ok-add_paths.ensures.files.count in
          omega (arith, now, c.edges.invariant.files.count))
          (let now = c.in_ok-add_paths.ensures.files.count in
          omega (arith, now, c.edges.invariant.files.count)))) c.in_ok-add_paths.ensures.files);
    }
