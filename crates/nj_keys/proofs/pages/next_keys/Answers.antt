use Rattle.std.proofs.Common.{◌<◌, [], ◌∷◌, ◌++◌, ◌∙◌, ap, length, map, refl, sym, subst, rules}
use Rattle.std.specs.Prelude.{All}
use Rattle.std.proofs.lemmas.List.Elements.{All-push}
use Rattle.nj_edges.specs.EdgeGraphs.{EdgeGraph}
use Rattle.nj_graph.specs.Graph.{edges_of}
use Rattle.nj_graph.specs.Handles.{GraphEdge, OfEdge, edge_of}
use Rattle.nj_keys.specs.Keys.{HaveKeys, edges_stated}
use Rattle.nj_keys.specs.Keys.HaveKeys.{none, last}
use Rattle.nj_keys.specs.Inside.Additions.{key_after}
use Rattle.nj_keys.specs.Inside.Keeping.{kept_key, IsAcyclic, IsKept, KeepsKeys}
use Rattle.nj_keys.specs.declared.pages.EdgeKey.{EdgeKey}
use Rattle.nj_keys.proofs.AdditionLaws.{with-additions}
use Rattle.nj_keys.proofs.MakerLemmas.{key-of-kept, no-keys, only-none}
use Rattle.nj_keys.proofs.pages.next_keys.Goals as goal

pub commands-init : goal.commands-init
commands-init c = record {
  numbers = [];
  page = search rules;
  kept = λ entries graph e key found.
      let none = c.in_ok-kept.ensures.items_if_clones_equal (only-none _ (λ key is. is)) in
      absurd (no-keys c.edge_count.result c.as_mut_slice-kept_keys.result.now
      (c.as_mut_slice-kept_keys.ensures.value ∙ none) e key found);
  keys = λ entries graph. subst (HaveKeys (map (λ text. text.now) c.args.additions.now) c.args.bases.now
      (edges_stated c.args.counts.now (edges_of c.args.graph.now)) entries [])
      (sym c.new-keys.ensures.items) none;
  known = subst (All (λ (next : EdgeKey). next.edge.0 < length (edges_of c.args.graph.now)))
      (sym c.new-keys.ensures.items) (search rules);
}

pub commands-preserved : goal.commands-preserved
commands-preserved c =
    let i = c.commands.invariant in
    let bases = c.args.bases.now in
    let counts = c.args.counts.now in
    let edges = edges_of c.args.graph.now in
    let stated = edges_stated counts edges in
    let additions = map (λ text. text.now) c.args.additions.now in
    let e = c.in-Some.edge.0 in
    let is = c.edge_at.ensures in
    let own = edge_of c.edge_at.result in
    let keeps = subst (λ (edge : GraphEdge). OfEdge edge (λ entries number.
    KeepsKeys bases (edges_stated counts (edges_of edge.graph)) entries c.commands.kept_keys
    → KeepsKeys bases (edges_stated counts (edges_of edge.graph)) entries c.keep_key.new.keys)) is
    c.in_ok-keep_key.ensures.keys in
    let kept = subst (λ (edge : GraphEdge). IsKept c.keep_key.new.keys edge.number) is
    c.in_ok-keep_key.ensures.kept in
    let next : EdgeKey = record { edge = c.in-Some.edge; key = c.in_ok-key.key } in
    let key_is = with-additions additions c.in_ok-added.added c.in_ok-added.ensures c.in_ok-key.key
    (kept_key c.keep_key.new.keys e)
    (c.in_ok-key.ensures ∙ ap (key_after c.in_ok-added.added) c.key_at.ensures) in
    record {
      numbers = i.numbers ++ e ∷ [];
      page = c.in-Some.ensures.goes_on c.args.needs.now c.args.take i.numbers i.page;
      kept = λ entries graph. keeps entries graph (i.kept entries graph);
      keys = λ entries graph.
          let key = key-of-kept bases stated entries c.keep_key.new.keys e kept
          (keeps entries graph (i.kept entries graph)) in
          subst (HaveKeys additions bases stated entries (i.numbers ++ e ∷ []))
          (sym c.in_ok-push.ensures.items)
          (last {next = next} (i.keys entries graph) key refl key_is);
      known = subst (All (λ (n : EdgeKey). n.edge.0 < length edges)) (sym c.in_ok-push.ensures.items)
          (All-push (λ (n : EdgeKey). n.edge.0 < length edges) c.commands.keys.items next i.known
          (subst (λ (g : EdgeGraph). e < length g.edges) (i.page.graph ∙ c.requires)
          c.in-Some.ensures.known));
    }

pub keep_key-requires-clause-acyclic : goal.keep_key-requires-clause-acyclic
keep_key-requires-clause-acyclic c =
    let acyclic = rw c.deref.ensures at c.edge_count.ensures.acyclic in
    let is : IsAcyclic (edges_of c.args.graph.now) = (
      acyclic.0,
      record {
        falls = acyclic.1.falls;
        bounded = acyclic.1.bounded;
        within =
            acyclic.1.within;
      },
    )
    in
    subst (λ (edge : GraphEdge). IsAcyclic (edges_of edge.graph)) (sym c.edge_at.ensures) is
