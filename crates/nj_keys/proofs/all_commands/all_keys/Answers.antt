use Rattle.std.proofs.Common.{◌≡◌, ◌<◌, ◌≤◌, [], ◌∷◌, ◌++◌, ◌∙◌, ap, length, map, refl}
use Rattle.std.proofs.Common.{sym, subst, rules}
use Rattle.std.specs.Prelude.{All, not}
use Rattle.std.proofs.lemmas.List.{take_all}
use Rattle.std.proofs.lemmas.List.Elements.{All-push}
use Rattle.nj_edges.specs.EdgeGraphs.{EdgeGraph}
use Rattle.nj_graph.specs.Edges.{edges_from}
use Rattle.nj_graph.specs.Graph.{edges_of}
use Rattle.nj_graph.specs.Handles.{GraphEdge, OfEdge, paths_of}
use Rattle.nj_keys.specs.Keys.{HaveKeys, edges_stated}
use Rattle.nj_keys.specs.Keys.HaveKeys.{none, last}
use Rattle.nj_keys.specs.Inside.Additions.{key_after}
use Rattle.nj_keys.specs.Inside.Keeping.{kept_key, IsAcyclic, IsKept, KeepsKeys}
use Rattle.nj_keys.specs.declared.pages.EdgeKey.{EdgeKey}
use Rattle.nj_keys.proofs.AdditionLaws.{with-additions}
use Rattle.nj_keys.proofs.CommandLemmas.{command-more, phony-more}
use Rattle.nj_keys.proofs.MakerLemmas.{key-of-kept, no-keys, only-none}
use Rattle.nj_keys.proofs.all_commands.all_keys.Goals as goal
use Rattle.nj_keys.proofs.all_commands.all_keys.Goals.{then-not-is_phony+in_ok-keep_key+in_ok-key+in_ok-push}
use Rattle.nj_keys.proofs.all_commands.all_keys.Goals.{else-not-is_phony}

pub edges-init : goal.edges-init
edges-init c = record {
  kept = λ entries graph e key found.
      let none = c.in_ok-kept.ensures.items_if_clones_equal (only-none _ (λ key is. is)) in
      absurd (no-keys c.edge_count.result c.as_mut_slice-kept_keys.result.now
      (c.as_mut_slice-kept_keys.ensures.value ∙ none) e key found);
  keys = λ entries graph. subst (HaveKeys (map (λ text. text.now) c.args.additions.now) c.args.bases.now
      (edges_stated c.args.counts.now (edges_of c.args.graph.now)) entries [])
      (sym c.new-keys.ensures.items) none;
  known = subst (All (λ (next : EdgeKey). next.edge.0 < length (edges_of c.args.graph.now)))
      (sym c.new-keys.ensures.items) (search rules);
}

pub edges-preserved : goal.edges-preserved
edges-preserved c =
    let i = c.edges.invariant in
    let bases = c.args.bases.now in
    let edges = edges_of c.args.graph.now in
    let counts = c.args.counts.now in
    let stated = edges_stated counts edges in
    let additions = map (λ text. text.now) c.args.additions.now in
    let n = c.edges.number in
    let below : n < length edges =
    subst (λ count. n < count)
    (c.edge_count-number-end.ensures.count ∙ ap (λ (g : EdgeGraph). length g.edges) c.deref-2.ensures)
    c.edges-test.true in
    let is = c.edge_at-edge.ensures in
    let phony = c.is_phony.ensures ∙ ap (λ (edge : GraphEdge). (paths_of edge).is_phony) is in
    elim c.if-not-is_phony.branch [
      | then-not-is_phony+in_ok-keep_key+in_ok-key+in_ok-push w ↦
          let keeps = subst (λ (edge : GraphEdge). OfEdge edge (λ entries number.
          KeepsKeys bases (edges_stated counts (edges_of edge.graph)) entries c.edges.kept_keys
          → KeepsKeys bases (edges_stated counts (edges_of edge.graph)) entries w.keep_key.new.keys)) is
          w.in_ok-keep_key.ensures.keys in
          let kept = subst (λ (edge : GraphEdge). IsKept w.keep_key.new.keys edge.number) is
          w.in_ok-keep_key.ensures.kept in
          let next : EdgeKey = record { edge = record { 0 = n }; key = w.in_ok-key.key } in
          let key_is = with-additions additions c.in_ok-added.added c.in_ok-added.ensures w.in_ok-key.key
          (kept_key w.keep_key.new.keys n)
          (w.in_ok-key.ensures ∙ ap (key_after c.in_ok-added.added) w.key_at.ensures) in
          let pushed = ap (λ v. v.items) w.keys-is ∙ w.in_ok-push.ensures.items in
          record {
            kept = λ entries graph. subst (KeepsKeys bases stated entries) (sym w.kept_keys-is)
                (keeps entries graph (i.kept entries graph));
            keys = λ entries graph.
                let key = key-of-kept bases stated entries w.keep_key.new.keys n kept
                (keeps entries graph (i.kept entries graph)) in
                subst (HaveKeys additions bases stated entries _) (sym pushed)
                (subst (λ ns. HaveKeys additions bases stated entries ns (c.edges.keys.items ++ next ∷ []))
                (sym (command-more edges n below (sym phony ∙ w.if-not-is_phony.true)))
                (last {next = next} (i.keys entries graph) key refl key_is));
            known = subst (All (λ (k : EdgeKey). k.edge.0 < length edges)) (sym pushed)
                (All-push (λ (k : EdgeKey). k.edge.0 < length edges) c.edges.keys.items next i.known below);
          }
      | else-not-is_phony w ↦
          let same = ap (λ v. v.items) w.keys-is in
          record {
            kept = λ entries graph. subst (KeepsKeys bases stated entries) (sym w.kept_keys-is)
                (i.kept entries graph);
            keys = λ entries graph. subst (HaveKeys additions bases stated entries _) (sym same)
                (subst (λ ns. HaveKeys additions bases stated entries ns c.edges.keys.items)
                (sym (phony-more edges n below (sym phony ∙ w.if-not-is_phony.false)))
                (i.keys entries graph));
            known = subst (All (λ (k : EdgeKey). k.edge.0 < length edges)) (sym same) i.known;
          }
    ]

pub keep_key-requires-clause-acyclic : goal.keep_key-requires-clause-acyclic
keep_key-requires-clause-acyclic c =
    let acyclic = rw c.deref.ensures at c.edge_count.ensures.acyclic in
    let is : IsAcyclic (edges_of c.args.graph.now) = (
      acyclic.0,
      record {
        falls = acyclic.1.falls;
        bounded = acyclic.1.bounded;
        within =
            acyclic.1.within;
      },
    )
    in
    subst (λ (edge : GraphEdge). IsAcyclic (edges_of edge.graph)) (sym c.edge_at-edge.ensures) is

pub returns-clause-keys : goal.returns-clause-keys
returns-clause-keys c entries graph =
    let edges = edges_of c.args.graph.now in
    let count : c.edge_count-number-end.result ≡ length edges =
    c.edge_count-number-end.ensures.count ∙ ap (λ (g : EdgeGraph). length g.edges) c.deref-2.ensures in
    subst (λ es. HaveKeys (map (λ text. text.now) c.args.additions.now) c.args.bases.now
    (edges_stated c.args.counts.now edges) entries (edges_from 0 (λ e. not e.is_phony) es) c.edges.keys.items)
    (take_all c.edges.number edges (subst (λ n. n ≤ c.edges.number) count c.edges-test.false))
    (c.edges.invariant.keys entries graph)

pub returns-clause-known : goal.returns-clause-known
returns-clause-known c = c.edges.invariant.known
