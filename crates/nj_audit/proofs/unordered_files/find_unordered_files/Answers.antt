use Rattle.std.proofs.Common.{◌≡◌, ◌+◌, [], ◌++◌, ◌∷◌, length, map, arith, sym, ap, subst, ◌∙◌}
use Rattle.nj_graph.specs.Graph.{GraphModel, IsGraphOf, edges_of}
use Rattle.nj_graph.specs.Handles.{GraphEdge, edge_of, file_of}
use Rattle.nj_audit.specs.Audit.{numbers}
use Rattle.nj_audit.specs.Inside.FileSets.{FileSetModel}
use Rattle.nj_audit.specs.Inside.RolesHeld.{HasRoles}
use Rattle.nj_audit.specs.Inside.UnorderedFound.{AddsUnordered}
use Rattle.nj_audit.specs.UnorderedFiles.{AreNamedUnordered, files_named}
use Rattle.nj_audit.specs.UnorderedFiles.AreNamedUnordered.{no_edges, one_more}
use Rattle.nj_audit.proofs.HandleLemmas.{all-from, next-from}
use Rattle.nj_audit.proofs.ListLemmas.{numbers-more}
use Rattle.nj_audit.proofs.unordered_files.find_unordered_files.Goals as goal

pub edges-init : goal.edges-init
edges-init c =
    let g = c.args.graph.now in
    let all = all-from g c.into_iter-edge-iterator.result
    (c.into_iter-edge-iterator.ensures.into_iter_gives ∙ c.edges-edge-items.ensures) in
    record {
      place = 0;
      of = all.1;
      count = omega (arith, all.0);
      seen = ap (λ (s : FileSetModel). s.graph) c.in_ok-seen.ensures;
      makers = rw c.deref.ensures at c.new-makers.ensures;
      users = rw c.deref-2.ensures at c.new-users.ensures;
      found = λ entries graph. subst (AreNamedUnordered g entries c.args.folder.now [])
          (sym c.new-found.ensures) no_edges;
    }

pub named_files-requires : goal.named_files-requires
named_files-requires c =
    let held = c.edges.invariant in
    let next = next-from c.args.graph.now (edge_of c.in-Some.edge) c.edges.edge-iterator c.next.new.self
    c.in-Some.ensures.steps held.place held.of in
    subst (λ (e : GraphEdge). HasRoles e.graph c.args.roles.now) (sym next.0) c.requires

pub push_unordered-requires-clause-roles : goal.push_unordered-requires-clause-roles
push_unordered-requires-clause-roles c =
    let held = c.edges.invariant in
    let next = next-from c.args.graph.now (edge_of c.in-Some.edge) c.edges.edge-iterator c.next.new.self
    c.in-Some.ensures.steps held.place held.of in
    subst (λ (e : GraphEdge). HasRoles e.graph c.args.roles.now) (sym next.0) c.requires

pub edges-preserved : goal.edges-preserved
edges-preserved c =
    let g = c.args.graph.now in
    let folder = c.args.folder.now in
    let held = c.edges.invariant in
    let next = next-from g (edge_of c.in-Some.edge) c.edges.edge-iterator c.next.new.self
    c.in-Some.ensures.steps
    held.place held.of in
    let found = c.in_ok-push_unordered.ensures in
    record {
      place = held.place + 1;
      of = next.1;
      count = omega (arith, held.count, ap length c.in-Some.ensures.steps);
      seen = found.seen ∙ held.seen;
      makers = found.makers ∙ held.makers;
      users = found.users ∙ held.users;
      found = λ entries graph.
          let edge = edge_of c.in-Some.edge in
          let this = subst (λ (h : GraphModel). IsGraphOf h entries)
          (ap (λ (e : GraphEdge). e.graph) (sym next.0))
          graph in
          let named = c.in_ok-files.ensures.named entries this in
          let adds = found.found (files_named edge.graph entries folder edge.number)
          (ap (map file_of) c.deref-in-edges.ensures.value ∙ named) in
          let here = subst (λ (e : GraphEdge). AddsUnordered e (files_named e.graph entries folder e.number)
          c.edges.found c.push_unordered.new.found) next.0 adds in
          subst (λ ns. AreNamedUnordered g entries folder ns c.push_unordered.new.found)
          (sym (numbers-more held.place))
          (subst (AreNamedUnordered g entries folder (numbers held.place ++ held.place ∷ [])) (sym here.found)
          (one_more (held.found entries graph) here.unordered));
    }

pub returns : goal.returns
returns c entries graph =
    let all : c.edges.invariant.place ≡ length (edges_of c.args.graph.now) =
    omega (arith, c.edges.invariant.count, ap length c.in-None.ensures.steps.0) in
    subst (λ n. AreNamedUnordered c.args.graph.now entries c.args.folder.now (numbers n) c.edges.found) all
    (c.edges.invariant.found entries graph)
