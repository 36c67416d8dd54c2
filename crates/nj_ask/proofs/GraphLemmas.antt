-- Graphs that are read are graphs of statements, and are the graphs that questions are about.
use Rattle.std.proofs.Common.{◌≡◌, ◌<◌, ◌+◌, ℕ, zero, suc, Bool, true, false, nat_lt, Option, Some, Result}
use Rattle.std.proofs.Common.{Ok, Err, IfErr, List, [], ◌∷◌, ◌++◌, length, map}
use Rattle.std.proofs.Common.{refl, sym, ap, subst, ◌∙◌, arith}
use Rattle.std.specs.Global.{Vec}
use Rattle.std.specs.List.{cons_option}
use Rattle.std.proofs.lemmas.Bool.{lt-ltb}
use Rattle.std.proofs.lemmas.List.{length-append}
use Rattle.std.proofs.lemmas.List.Elements.{All-head, All-tail}
use Rattle.nj_names.specs.NameTables.{name_at}
use Rattle.nj_scope.specs.Readings.{Reading}
use Rattle.nj_scope.specs.ReadingList.{ReadStatement}
use Rattle.nj_scope.specs.Sources.{SourceState}
use Rattle.nj_discovered.specs.Times.{DeclaredTimes}
use Rattle.nj_graph.specs.declared.GraphFault.{GraphFault}
use Rattle.nj_graph.specs.Graph.{GraphModel, IsGraphOf, edges_of, files_of}
use Rattle.nj_graph.specs.Undeclared.{input_of_edge}
use Rattle.nj_graph.specs.declared.undeclared.UndeclaredInput.{UndeclaredInput}
use Rattle.nj_audit.specs.LoggedInputs.{input_in, inputs_in}
use Rattle.nj_graph.specs.Runs.{ReachedModel}
use Rattle.nj_graph.specs.Loads.{LoadedModel, Loads, LoadsAfter, main_reached}
use Rattle.nj_graph.specs.Joining.{Joins, JoinsPresent, joined_after, some_joined_after}
use Rattle.nj_questions.specs.Questions.{AskedGraph}
use Rattle.nj_ask.specs.declared.discovered.Discovered.{Discovered}
use Rattle.nj_ask.specs.declared.discovered.DiscoveredGraph.{DiscoveredGraph}
use Rattle.nj_ask.specs.DiscoveredGraphs.{JoinsDiscovered}
use Rattle.nj_ask.specs.DiscoveredGraphs.JoinsDiscovered.{joined as joins_found}
use Rattle.nj_deps.specs.Logs.{LogModel}
use Rattle.nj_ask.specs.declared.failure.Failure.{Failure}
use Rattle.nj_ask.specs.declared.status.Status.TheVariants.{Fault}
use Rattle.nj_ask.specs.Joined.{Follows}
use Rattle.nj_ask.specs.LogsRead.{ReadsLog}
use Rattle.nj_ask.specs.KnownGraphs.{AreStatedInputs, IsDeclared, IsDiscovered, Sources, KnowsGraph}
use Rattle.nj_ask.specs.KnownGraphs.{LacksGraph, ReadsManifest}
use Rattle.nj_ask.specs.KnownGraphs.{asks_discovered}
use Rattle.nj_ask.specs.KnownGraphs.ReadsManifest.{refused, plain, joined, joined_present}
use Rattle.nj_ask.specs.KnownGraphs.KnowsGraph.{declared, discovered}
use Rattle.nj_ask.specs.KnownGraphs.LacksGraph.{by_manifest, by_log, by_discovered}
use Rattle.nj_ask.specs.Inside.Failures.{FailsBy, SaysFault}
use Rattle.nj_ask.specs.Inside.GraphSteps.{AreInputsIn, KnowsByLog, LacksByLog, LacksMain, LacksManifest}
use Rattle.nj_ask.specs.Inside.GraphSteps.LacksByLog.{no_graph, no_log}
use Rattle.nj_ask.specs.KnownGraphs.{sources_of}
use Rattle.nj_ask.specs.Inside.GraphSteps.{HasStatements}
use Rattle.nj_ask.proofs.FailureLemmas.{err-as, fails-as}

-- ---- statements

-- a result that is a graph of statements, if it is any
abbrev pub IsStated : Result LoadedModel GraphFault → Type 0
IsStated (Ok loaded) = HasStatements loaded.graph
IsStated (Err fault) = Unit {0}

pub stated-after : (old : List Reading) (before after : SourceState) (reading : List Reading → ReachedModel)
    (result : Result LoadedModel GraphFault) → LoadsAfter old before after reading result → IsStated result
stated-after old before after reading (Ok loaded) loads = (loads.2.entries, loads.2.graph_is)
stated-after old before after reading (Err fault) loads = tt

pub stated-of : (asked : AskedGraph) (times : DeclaredTimes) (before after : SourceState)
    {result : Result LoadedModel GraphFault} → ReadsManifest asked times before after result → IsStated result
stated-of asked times before after (refused loads) = tt
stated-of asked times before after (plain {loaded} no_dyndep no_deps loads) =
    stated-after [] before after (main_reached asked.file) (Ok loaded) loads
stated-of asked times before after (joined {between} {loaded} {stated} {result} is loads graph joins) =
    stated-after loaded.files between after (joined_after loaded.files stated) result joins
stated-of asked times before after (joined_present {between} {loaded} {stated} {result} not_all is loads graph
    joins) =
    stated-after loaded.files between after (some_joined_after loaded.files stated joins.0) result joins.2

-- ---- the manifest

pub main-fails : (main : List ℕ) (before after : SourceState) (failure : Failure) (fault : GraphFault)
    → Loads main before after (Err fault) → FailsBy Fault (SaysFault fault) failure
    → FailsBy Fault (LacksMain main before after) failure
main-fails main before after failure fault loads fails =
    fails-as Fault (SaysFault fault) (LacksMain main before after) failure
    (λ said says. record { fault = fault; line_is = says.0; loads = loads }) fails

-- a main file that has no graph
pub main-lacks : (asked : AskedGraph) (times : DeclaredTimes) (main : List ℕ) (before after : SourceState)
    (failure : Failure)
    → main ≡ asked.file → FailsBy Fault (LacksMain main before after) failure
    → FailsBy Fault (LacksManifest asked times before after) failure
main-lacks asked times main before after failure is fails =
    fails-as Fault (LacksMain main before after) (LacksManifest asked times before after) failure
    (λ said lacking. record {
      fault = lacking.fault;
      line_is = lacking.line_is;
      reads = refused (subst (λ file. Loads file before after (Err lacking.fault)) is lacking.loads);
    }) fails

module _ (asked : AskedGraph) (times : DeclaredTimes) (before between after : SourceState) where
  -- dyndep files are joined to a main file that has a graph
  pub joins-all : (loaded : LoadedModel) (result : Result LoadedModel GraphFault) → asked.dyndep ≡ true
      → Loads asked.file before between (Ok loaded)
      → ((stated : List ReadStatement) → IsGraphOf loaded.graph stated
      → Joins stated loaded.files between after result)
      → ReadsManifest asked times before after result
  joins-all loaded result is loads joins =
      let stated = stated-after [] before between (main_reached asked.file) (Ok loaded) loads in
      joined is loads stated.1 (joins stated.0 stated.1)

  pub joins-some : (loaded : LoadedModel) (result : Result LoadedModel GraphFault) → asked.dyndep ≡ false
      → asks_discovered asked ≡ true → Loads asked.file before between (Ok loaded)
      → ((stated : List ReadStatement) → IsGraphOf loaded.graph stated
      → JoinsPresent times stated loaded.files between after result)
      → ReadsManifest asked times before after result
  joins-some loaded result not_all is loads joins =
      let stated = stated-after [] before between (main_reached asked.file) (Ok loaded) loads in
      joined_present not_all is loads stated.1 (joins stated.0 stated.1)

-- ---- with the counts of the inputs that the manifest itself has

declared-with : (graph : GraphModel) (known : DiscoveredGraph) (counts : Vec ℕ) → IsDeclared graph known
    → IsDeclared graph (record known { stated_inputs = counts })
declared-with graph known counts is = record {
  graph_is = is.graph_is;
  has_discovered = is.has_discovered;
  unknown = is.unknown;
  faults = is.faults;
  discoveries = is.discoveries;
  caveats = is.caveats;
  undeclared = is.undeclared;
}

discovered-with : (found : Discovered) (caveat : List ℕ) (known : DiscoveredGraph) (counts : Vec ℕ)
    → IsDiscovered found caveat known → IsDiscovered found caveat (record known { stated_inputs = counts })
discovered-with found caveat known counts is = record {
  graph_is = is.graph_is;
  has_discovered = is.has_discovered;
  unknown = is.unknown;
  faults = is.faults;
  discoveries = is.discoveries;
  caveats = is.caveats;
}

-- ---- with what builds discovered

module _ (asked : AskedGraph) (times : DeclaredTimes) (old new built after : SourceState) where
  -- a manifest without a graph
  pub lacks-manifest : (failure : Failure) → after ≡ built
      → FailsBy Fault (LacksManifest asked times old new) failure
      → FailsBy Fault (LacksGraph asked times (sources_of old built) (sources_of new after)) failure
  lacks-manifest failure same fails =
      fails-as Fault (LacksManifest asked times old new)
      (LacksGraph asked times (sources_of old built) (sources_of new after))
      failure
      (λ line lacking. subst (λ said. LacksGraph asked times (sources_of old built) (sources_of new after)
      said)
      (sym lacking.line_is) (by_manifest lacking.reads same))
      fails

  -- a graph of a manifest alone
  pub knows-declared : (undeclared : Bool) (loaded : LoadedModel) (graph : GraphModel)
      (known made : DiscoveredGraph) (counts : Vec ℕ)
      → graph ≡ loaded.graph
      → asks_discovered asked ≡ false → ReadsManifest asked times old new (Ok loaded)
      → AreStatedInputs asked old counts.items → after ≡ built
      → IsDeclared graph known → made ≡ record known { stated_inputs = counts }
      → KnowsGraph asked undeclared times (sources_of old built) (sources_of new after) made
  knows-declared undeclared loaded graph known made counts is asks reads are same alone with =
      subst (KnowsGraph asked undeclared times (sources_of old built) (sources_of new after)) (sym with)
      (declared asks reads are same (declared-with loaded.graph known counts
      (subst (λ g. IsDeclared g known) is alone)))

  module _ (loaded : LoadedModel) (graph : GraphModel) (named : Option (List ℕ)) (is : graph ≡ loaded.graph)
      (named_is : named ≡ asked.log) (asks : asks_discovered asked ≡ true)
      (reads : ReadsManifest asked times old new (Ok loaded)) where
    abbrev entries : List ReadStatement
    entries = (stated-of asked times old new reads).0

    of-loaded : IsGraphOf loaded.graph entries
    of-loaded = (stated-of asked times old new reads).1

    of-graph : IsGraphOf graph entries
    of-graph = subst (λ g. IsGraphOf g entries) (sym is) of-loaded

    -- a graph with what builds discovered
    pub knows-by-log : (undeclared : Bool) (known made : DiscoveredGraph) (counts : Vec ℕ)
        → AreStatedInputs asked old counts.items → made ≡ record known { stated_inputs = counts }
        → ((stated : List ReadStatement) → IsGraphOf graph stated
        → KnowsByLog named undeclared built after times stated known)
        → KnowsGraph asked undeclared times (sources_of old built) (sources_of new after) made
    knows-by-log undeclared known made counts are with knows =
        let by = knows entries of-graph in
        subst (KnowsGraph asked undeclared times (sources_of old built) (sources_of new after)) (sym with)
        (discovered asks reads are of-loaded
        (subst (λ path. ReadsLog path entries built by.between by.log by.caveat) named_is by.reads)
        by.discovers.joins
        (discovered-with by.discovers.found by.caveat known counts by.discovers.is_found)
        by.finds)

    lacks-line : (line : List ℕ) → LacksByLog asked.log built after times entries line
        → LacksGraph asked times (sources_of old built) (sources_of new after) line
    lacks-line line (no_log lacking) = by_log asks reads of-loaded lacking
    lacks-line line (no_graph log_reads lacking) =
        subst (LacksGraph asked times (sources_of old built) (sources_of new after))
        (sym lacking.line_is) (by_discovered asks reads of-loaded log_reads lacking.joins)

    -- why there is no graph
    pub lacks-by-log : (result : Result DiscoveredGraph Failure)
        → ((stated : List ReadStatement) → IsGraphOf graph stated
        → IfErr result (FailsBy Fault (LacksByLog named built after times stated)))
        → IfErr result (FailsBy Fault (LacksGraph asked times (sources_of old built) (sources_of new after)))
    lacks-by-log result lacks =
        err-as (FailsBy Fault (LacksByLog named built after times entries))
        (FailsBy Fault (LacksGraph asked times (sources_of old built) (sources_of new after))) result
        (λ failure fails. fails-as Fault (LacksByLog named built after times entries)
        (LacksGraph asked times (sources_of old built) (sources_of new after)) failure
        (λ line lacking. lacks-line line
        (subst (λ path. LacksByLog path built after times entries line) named_is lacking)) fails)
        (lacks entries of-graph)

-- ---- a graph that is known is one of statements

joined-stated : (before after : SourceState) (times : DeclaredTimes) (log : LogModel)
    (stated : List ReadStatement)
    (found : Discovered) → JoinsDiscovered before after times log stated (Ok found)
    → HasStatements found.graph
joined-stated before after times log stated found
    (joins_found are named unknown faulty texts lines discoveries) =
    (_, named)

pub knows-stated : (asked : AskedGraph) (undeclared : Bool) (times : DeclaredTimes) (old new : Sources)
    (known : DiscoveredGraph) → KnowsGraph asked undeclared times old new known → HasStatements known.graph
knows-stated asked undeclared times old new known (declared {loaded} asks reads counts same made) =
    subst HasStatements (sym made.graph_is) (stated-of asked times old.files new.files reads)
knows-stated asked undeclared times old new known
    (discovered {loaded} {stated} {between} {log} {caveat} {found} asks
    reads counts is read joins are finds) =
    subst HasStatements (sym are.graph_is) (joined-stated between new.built times log stated found joins)

-- ---- undeclared inputs

name-kept : (names more : List (List ℕ)) (n : ℕ) → n < length names
    → name_at (names ++ more) n ≡ name_at names n
name-kept [] more n within = absurd (omega (arith, within))
name-kept (x ∷ names) more zero within = refl
name-kept (x ∷ names) more (suc n) within = name-kept names more n (omega (arith, within))

module _ (g h : GraphModel) (follows : Follows g h) where
  abbrev HasEdge : UndeclaredInput → Type 0
  HasEdge input = input.edge.0 < length (edges_of g)

  abbrev HasFile : UndeclaredInput → Type 0
  HasFile input = input.file.0 < length (files_of g)

  input-kept : (input : UndeclaredInput) → HasEdge input → HasFile input
      → input_in h input ≡ Some (input_of_edge (files_of g) input)
  input-kept input edge file =
      let files = follows.files in
      let edge_there : nat_lt input.edge.0 (length (edges_of h)) ≡ true =
      lt-ltb input.edge.0 (length (edges_of h)) (omega (arith, edge, follows.edges)) in
      let longer : length (files_of h) ≡ length (files_of g) + length files.0 =
      ap length files.1 ∙ length-append (files_of g) files.0 in
      let file_there : nat_lt input.file.0 (length (files_of h)) ≡ true =
      lt-ltb input.file.0 (length (files_of h)) (omega (arith, file, longer)) in
      let path = ap (λ fs. name_at fs input.file.0) files.1 ∙ name-kept (files_of g) files.0 input.file.0 file
      in
      rw (edge_there, file_there) (ap (λ p. Some (record { edge = input.edge.0; path = p })) path)

  -- inputs of a graph keep their edges and paths in a graph that follows it
  pub inputs-kept : (inputs : List UndeclaredInput) → AreInputsIn g inputs
      → inputs_in h inputs ≡ map (input_of_edge (files_of g)) inputs
  inputs-kept [] are = refl
  inputs-kept (input ∷ inputs) are =
      let rest : AreInputsIn g inputs = (
        All-tail HasEdge input inputs are.0,
        All-tail HasFile input inputs are.1,
      ) in
      ap (λ o. cons_option o (inputs_in h inputs)) (input-kept input (All-head HasEdge input inputs are.0)
      (All-head HasFile input inputs are.1))
      ∙ ap (λ found. input_of_edge (files_of g) input ∷ found) (inputs-kept inputs rest)
