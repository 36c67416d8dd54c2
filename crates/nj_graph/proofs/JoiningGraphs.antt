-- The result of joining dyndep files: the graph of the joined statements, a cycle, or where it
-- stops.
use Rattle.std.proofs.Common.{arith}
use Rattle.std.proofs.lemmas.Grind.{common_steps}
use Rattle.std.proofs.Common.{◌≡◌, ℕ, inl, inr, false, Result, Ok, Err, List, [], ◌∷◌, length, append-nil}
use Rattle.std.proofs.Common.{refl, sym, ap, subst, ◌∙◌, true≢false}
use Rattle.nj_graph.proofs.FirstTimes.{joins}
use Rattle.nj_graph.specs.Inside.PathsReached.{with_news, come_joined}
use Rattle.std.specs.List.{AllByRecursion}
use Rattle.std.proofs.lemmas.List.{length-map}
use Rattle.nj_scope.specs.Readings.{Reading, EachPathOnce, paths_of, IsPrefix}
use Rattle.nj_scope.specs.Declarations.{DeclaredBy}
use Rattle.nj_scope.specs.ReadingList.{Discovered, ReadStatement}
use Rattle.nj_scope.specs.Sources.{SourceState}
use Rattle.nj_cycles.specs.Cycles.{IsAcyclic}
use Rattle.nj_edges.specs.Needs.{makers_of_inputs}
use Rattle.nj_faults.specs.declared.fault.GraphFault.{GraphFault}
use Rattle.nj_faults.specs.Faults.{no_memory}
use Rattle.nj_statements.specs.EdgeList.{Pending, edges_read, paths_of_edges, pending_read}
use Rattle.nj_statements.specs.Built.{BuiltModel, ComesTo}
use Rattle.nj_statements.specs.Joining.{discover, dyndep_files}
use Rattle.nj_statements.specs.JoiningHeld.{JoiningModel, has_pending}
use Rattle.nj_statements.proofs.DiscoverLemmas.{declared-discover, all-discover}
use Rattle.nj_statements.proofs.DiscoverEdges.{all_edges-discover}
use Rattle.nj_graph.specs.Reading.{Whole}
use Rattle.nj_graph.specs.Origins.{origins_read, main_of}
use Rattle.nj_graph.specs.Graph.{GraphModel, IsOpenScope, HasRule, IsGraphOf}
use Rattle.nj_graph.specs.Inside.GraphHeld.{IsGraph}
use Rattle.nj_graph.specs.Runs.{ReachedModel}
use Rattle.nj_graph.specs.Loads.{LoadedModel, IsWhole, LoadsAfter}
use Rattle.nj_graph.specs.Joining.{files_joined, some_joined_after}
use Rattle.nj_graph.specs.Inside.JoiningContracts.{FilesJoined, FilesStop, JoinsBuilt}
use Rattle.nj_graph.specs.Inside.JoiningContracts.JoinsChosen.{joined}
use Rattle.nj_graph.proofs.Comes.{prefix-self}
use Rattle.nj_graph.proofs.Tables.{read-nothing}
use Rattle.nj_graph.proofs.OriginLemmas.{origins-discover}
use Rattle.nj_graph.proofs.JoiningPending.{kept-by-files}

-- ---- nothing is read

none-pending : (ps : List Pending) → has_pending ps ≡ false → ps ≡ []
none-pending [] h = refl
none-pending (p ∷ ps) h = absurd (true≢false h)

module _ (stated : List ReadStatement) (source : SourceState) (old : List Reading) (once : EachPathOnce old)
  where
    pub joins-nothing : (loaded : LoadedModel) (g : GraphModel) → loaded ≡ record { files = old; graph = g }
        → IsGraphOf g stated
        → LoadsAfter old source source (some_joined_after old stated []) (Ok loaded)
    unfolding files_joined
    joins-nothing loaded g same is = joins stated old [] source source (Ok loaded) (
      old,
      read-nothing source old once,
      record {
        files_are = ap (λ (l : LoadedModel). l.files) same;
        entries = stated;
        whole = record { read = refl; came_to = refl; failures = refl };
        graph_is = subst (λ (l : LoadedModel). IsGraphOf l.graph stated) (sym same) is;
      },
    )

    pub nothing-pending : (g : GraphModel) → IsGraphOf g stated → has_pending g.built.pending ≡ false
        → pending_read stated ≡ []
    nothing-pending g is none = sym is.built.pending ∙ none-pending g.built.pending none

    pub joins-memory : (fault : GraphFault) → fault ≡ no_memory → (chosen : List Pending)
        → LoadsAfter old source source (some_joined_after old stated chosen) (Err fault)
    joins-memory fault none chosen = grind (arith, common_steps)

module _ (chosen : List Pending) (stated : List ReadStatement) (before after : SourceState)
    (old : List Reading) where
  pub joins-stop : (fault : GraphFault) → FilesStop chosen stated before after old fault
      → LoadsAfter old before after (some_joined_after old stated chosen) (Err fault)
  joins-stop fault s = joins stated old chosen before after (Err fault) (s.files, s.reads, inl s.stops)

  -- ---- all is joined

  module _ (table : List Reading) (held : JoiningModel)
      (f : FilesJoined chosen stated before after old table held) where
    itself : IsPrefix f.files f.files
    itself = ([], sym (append-nil f.files))

    all-joined : files_joined f.files stated chosen stated
        ≡ record { read = record { entries = f.now; end = Whole }; paths = f.paths }
    all-joined = f.joins f.files itself

    whole : IsWhole before after f.files (come_joined old stated chosen) f.now
    whole = grind (arith, common_steps)

    -- properties that the statements keep
    stays : (P : List ReadStatement → Type 0)
        → ((edge : ℕ) (found : Discovered) (entries : List ReadStatement) → P entries
        → P (discover edge found entries)) → P stated → P f.now
    stays P keeps h = subst (λ (j : ReachedModel). P j.read.entries) all-joined
        (kept-by-files P keeps f.files stated chosen stated h)

    pub joins-fault : (fault : GraphFault) → ComesTo f.now (Err fault)
        → LoadsAfter old before after (some_joined_after old stated chosen) (Err fault)
    joins-fault fault (inl none) = joins stated old chosen before after (Err fault) (
      f.files,
      f.reads.reads,
      inl (inl (record {
        answered = none;
        failures = f.reads.failures;
        came_to = λ all ext. subst (λ ps. IsPrefix (paths_of f.files) ps)
            (sym (ap (λ (j : ReachedModel). with_news (paths_of old) j.paths) (f.joins all ext) ∙ f.came_to))
            (prefix-self (paths_of f.files));
      })),
    )
    joins-fault fault (inr cycle) =
        joins stated old chosen before after (Err fault)
        (f.files, f.reads.reads, inr (record { entries = f.now; whole = whole; cycle = cycle }))

    pub joins-built : (Chooses : (files chosen : List Pending) → Type 0)
        → Chooses (dyndep_files (pending_read stated)) chosen
        → (result : Result BuiltModel GraphFault) → ComesTo f.now result
        → JoinsBuilt Chooses stated before after old table result
    joins-built Chooses chooses (Ok built) comes = (chosen, chooses, (held, f, comes))
    joins-built Chooses chooses (Err fault) comes = joined chooses (joins-fault fault comes)

    -- ---- the graph

    module _ (g : GraphModel) (is : IsGraphOf g stated) (built : BuiltModel)
        (comes : ComesTo f.now (Ok built)) where
      has-rules : AllByRecursion (HasRule g.declarations.rules) (edges_read f.now)
      has-rules =
          stays (λ entries. AllByRecursion (HasRule g.declarations.rules) (edges_read entries))
          (all_edges-discover (HasRule g.declarations.rules)
          (λ e outs ins h. record { rule = h.rule; rule_is = h.rule_is; phony_is = h.phony_is })) is.rules

      pub joined-graph : IsGraphOf (record {
        declarations = g.declarations;
        built = built;
        origins =
            g.origins;
      }) f.now
      joined-graph = record {
        declares = stays (DeclaredBy g.declarations) (declared-discover g.declarations) is.declares;
        scopes = stays (AllByRecursion (λ e. IsOpenScope g.declarations.scopes e.scope e.around))
            (all-discover (λ e. IsOpenScope g.declarations.scopes e.scope e.around) (λ e was d h. h))
            is.scopes;
        built = comes.0;
        rules = has-rules;
        acyclic = subst (λ es. IsAcyclic (makers_of_inputs es) (length es)) (sym comes.0.paths)
            (subst (λ n. IsAcyclic (makers_of_inputs (paths_of_edges (edges_read f.now))) n)
            (sym (length-map (edges_read f.now) (λ e. e.paths))) comes.1);
        origins = stays (λ entries. g.origins ≡ origins_read (main_of g.origins) entries)
            (λ edge found entries same. same ∙ sym (origins-discover (main_of g.origins) edge found entries))
            is.origins;
      }

      pub joins-graph : (loaded : LoadedModel)
          → loaded ≡ record {
            files = table;
            graph =
                record { declarations = g.declarations; built = built; origins = g.origins };
          }
          → LoadsAfter old before after (some_joined_after old stated chosen) (Ok loaded)
      joins-graph loaded same = joins stated old chosen before after (Ok loaded) (
        f.files,
        f.reads.reads,
        record {
          files_are = ap (λ (l : LoadedModel). l.files) same ∙ f.reads.held_is;
          entries = f.now;
          whole = whole;
          graph_is = subst (λ (l : LoadedModel). IsGraphOf l.graph f.now) (sym same) joined-graph;
        },
      )

      details-same : built.details ≡ g.built.details
      details-same = comes.0.details ∙ sym f.has.details ∙ f.has.stated_details ∙ sym is.built.details

      -- and it has the properties of a graph
      pub joined-held : (numbers : List ℕ) → IsGraph g.declarations g.built numbers
          → IsGraph g.declarations built numbers
      joined-held numbers h = grind (arith, common_steps)
