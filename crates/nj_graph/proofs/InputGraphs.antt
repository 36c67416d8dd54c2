-- The result of joining inputs that are named for edges: the graph of the statements with the named inputs,
-- or a cycle.
use Rattle.std.proofs.Common.{◌≡◌, ℕ, Ok, List, length, sym, subst, ◌∙◌}
use Rattle.std.proofs.lemmas.List.{length-map}
use Rattle.nj_scope.specs.Readings.{IsPrefix}
use Rattle.nj_scope.specs.ReadingList.{ReadStatement}
use Rattle.nj_cycles.specs.Cycles.{IsAcyclic}
use Rattle.nj_edges.specs.EdgeGraphs.{EdgeGraph}
use Rattle.nj_edges.specs.declared.graph.Finished.{Finished}
use Rattle.nj_edges.specs.Graph.{FinishesAs}
use Rattle.nj_edges.specs.Joining.{join_of}
use Rattle.nj_edges.specs.MoreInputs.{InputTable}
use Rattle.nj_edges.specs.Needs.{makers_of_inputs}
use Rattle.nj_statements.specs.EdgeList.{edges_read, paths_of_edges}
use Rattle.nj_statements.specs.Built.{BuiltModel, ComesTo, IsBuiltOf}
use Rattle.nj_statements.specs.Records.{AreOfGraph, RecordsModel, with_graph}
use Rattle.nj_statements.proofs.DiscoverLemmas.{declared-same}
use Rattle.nj_statements.proofs.LoggedLemmas.{all-named, all_edges-named, as_read-named, built-named}
use Rattle.nj_statements.proofs.RecordLemmas.{are-longer, same-longer}
use Rattle.nj_graph.specs.DepsLogs.{with_named}
use Rattle.nj_graph.specs.Graph.{GraphModel, IsOpenScope, HasRule, IsGraphOf}
use Rattle.nj_graph.specs.Inside.InputSteps.{AreNamed, FinishesWith, edges_with, joined_edges}
use Rattle.nj_graph.specs.Origins.{main_of}
use Rattle.nj_graph.proofs.InputLemmas.{joined-graph, length-with, named-edges, news}
use Rattle.nj_graph.proofs.OriginLemmas.{origins-named}

module _ (inputs : List (List (List ℕ))) (graph : EdgeGraph) (records : RecordsModel)
    (fits : AreOfGraph graph records) (as_many : length inputs ≡ length graph.edges)
    (files : List (List ℕ)) (longer : IsPrefix graph.files files) where
  abbrev joined : EdgeGraph
  joined = record { files = files; edges = edges_with inputs graph.edges }

  pub joined-fits : AreOfGraph joined records
  joined-fits = are-longer graph joined records fits longer (length-with inputs graph.edges as_many)

  pub joined-built : (named : ℕ → List (List ℕ)) (stated : List ReadStatement)
      → IsBuiltOf (with_graph graph records) stated → AreNamed named inputs
      → IsBuiltOf (with_graph joined records) (with_named named stated)
  joined-built named stated is are = built-named (news named stated) (with_graph graph records)
      (with_graph joined records) stated is (named-edges named stated inputs graph.edges is.paths as_many are)
      (same-longer graph joined records fits longer)

-- ---- the finished graph

pub finishes : (inputs : List (List (List ℕ))) (graph : EdgeGraph) (t : InputTable) (finished : Finished)
    → t ≡ joined_edges inputs (record { table = join_of graph; edge = 0 })
    → length inputs ≡ length graph.edges
    → FinishesAs t.table.files t.table.joined finished → FinishesWith inputs graph finished
finishes inputs graph t finished is as_many done =
    let joined = joined-graph inputs graph t is as_many in
    record {
      files = t.table.files;
      longer = joined.2;
      finishes =
          subst (λ es. FinishesAs t.table.files es finished) joined.0 done;
    }

-- ---- the graph

module _ (named : ℕ → List (List ℕ)) (g : GraphModel) (stated : List ReadStatement) (is : IsGraphOf g stated)
    (built : BuiltModel) (comes : ComesTo (with_named named stated) (Ok built)) where
  pub named-graph : IsGraphOf (record { declarations = g.declarations; built = built; origins = g.origins })
      (with_named named stated)
  named-graph = record {
    declares = declared-same g.declarations stated (with_named named stated)
        (as_read-named (news named stated) stated) is.declares;
    scopes = all-named (λ e. IsOpenScope g.declarations.scopes e.scope e.around) (λ e d h. h)
        (news named stated) stated is.scopes;
    built = comes.0;
    rules = all_edges-named (news named stated) (HasRule g.declarations.rules)
        (λ e outs ins h. record { rule = h.rule; rule_is = h.rule_is; phony_is = h.phony_is }) stated
        is.rules;
    acyclic = subst (λ es. IsAcyclic (makers_of_inputs es) (length es)) (sym comes.0.paths)
        (subst (λ n. IsAcyclic (makers_of_inputs (paths_of_edges (edges_read (with_named named stated)))) n)
        (sym (length-map (edges_read (with_named named stated)) (λ e. e.paths))) comes.1);
    origins = is.origins ∙ sym (origins-named (main_of g.origins) (news named stated) stated);
  }
