use Rattle.std.proofs.Common.{[], ◌∷◌, ◌++◌, length, sym, ap, subst, ◌∙◌, append_assoc}
use Rattle.nj_edges.specs.EdgeGraphs.{EdgeGraph}
use Rattle.nj_graph.specs.Graph.{edges_of}
use Rattle.nj_graph.specs.Handles.{commands_needed, edge_of}
use Rattle.nj_audit.specs.Audit.{defaults_of}
use Rattle.nj_audit.specs.Inside.RolesHeld.{HasNumbers}
use Rattle.nj_audit.proofs.HandleLemmas.{numbers_of}
use Rattle.nj_audit.proofs.RoleLemmas.{commands-are-of, more-has, none-has, others-of}
use Rattle.nj_audit.proofs.roles.built_by_default.Goals as goal

pub edges-init : goal.edges-init
edges-init c =
    let g = c.args.graph.now in
    let left = c.into_iter-edge-iterator.result in
    let is = c.into_iter-edge-iterator.ensures.into_iter_gives ∙ c.in_ok-edge-items.ensures
    ∙ ap commands_needed c.in_ok-targets.ensures in
    record {
      before = [];
      all = sym (ap numbers_of is);
      of = commands-are-of g (defaults_of g) left is;
      held = none-has (length (edges_of g)) c.edge_count.result c.in_ok-built.built c.in_ok-built.ensures
          (c.edge_count.ensures.count ∙ ap (λ (e : EdgeGraph). length e.edges) c.deref.ensures);
    }

pub edges-preserved : goal.edges-preserved
edges-preserved c =
    let g = c.args.graph.now in
    let held = c.edges.invariant in
    let edge = edge_of c.in-Some.edge in
    let left = c.next.new.self in
    let steps = c.in-Some.ensures.steps in
    record {
      before = held.before ++ edge.number ∷ [];
      all = held.all ∙ ap (λ es. held.before ++ numbers_of es) steps
          ∙ sym (append_assoc held.before (edge.number ∷ []) (numbers_of left));
      of = others-of g edge c.edges.edge-iterator left steps held.of;
      held = subst (λ n. HasNumbers (length (edges_of g)) (held.before ++ n ∷ []) c.insert.new.self)
          c.number.ensures.number
          (more-has (length (edges_of g)) held.before c.edges.built c.insert.new.self c.number.result.0
          c.in_ok-insert.ensures.added held.held);
    }
