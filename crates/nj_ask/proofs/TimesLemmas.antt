-- The files that `times` is about, and its answers.
use Rattle.std.specs.Prelude.{◌≡◌, ℕ, Ok, List, [], map}
use Rattle.std.proofs.Common.{subst, sym}
use Rattle.nj_names.specs.Files.{AreFiles, path_at}
use Rattle.nj_edges.specs.EdgeGraphs.{EdgeGraph}
use Rattle.nj_build_log.specs.Logs.{BuildLogModel}
use Rattle.nj_graph.specs.ReadingList.{ReadStatement}
use Rattle.nj_graph.specs.declared.FileNo.{FileNo}
use Rattle.nj_graph.specs.Graph.{GraphModel, edges_of, files_of}
use Rattle.nj_needs.specs.Growing.{grown_targets}
use Rattle.nj_questions.specs.Questions.{TimesModel}
use Rattle.nj_ask.specs.declared.discovered.DiscoveredGraph.{DiscoveredGraph}
use Rattle.nj_ask.specs.declared.status.Status.TheVariants.{Fault}
use Rattle.nj_ask.specs.Answers.{HasDepfileFault, asked_targets}
use Rattle.nj_ask.specs.Endings.{refused}
use Rattle.nj_ask.specs.Times.{AnswersTimes, timed_files}
use Rattle.nj_ask.specs.Times.AnswersTimes.{no_target, no_depfile}
use Rattle.nj_ask.specs.Inside.AnswerParts.{SaysErr}
use Rattle.nj_ask.proofs.StaleLemmas.{asked-paths}

-- the files that are asked about, by their paths
pub timed-paths : (g : GraphModel) (view : EdgeGraph) (numbers files : List FileNo) (paths : List (List ℕ))
    → view ≡ g.built.graph → map (path_at (files_of g)) numbers ≡ paths
    → AreFiles view.files files (grown_targets view.edges (map (path_at view.files) numbers))
    → map (path_at (files_of g)) files ≡ timed_files g paths
timed-paths g view numbers files paths view-is targets are =
    asked-paths g files (timed_files g paths)
    (subst (λ ps. AreFiles (files_of g) files (grown_targets (edges_of g) ps)) targets
    (subst (λ (v : EdgeGraph). AreFiles v.files files (grown_targets v.edges (map (path_at v.files) numbers)))
    view-is are))

module _ (known : DiscoveredGraph) (entries : List ReadStatement) (log : BuildLogModel) (options : TimesModel)
  where
    pub times-no-target : (line : List ℕ) → SaysErr (asked_targets known.graph options.targets) line
        → AnswersTimes known entries log options [] (refused line Fault)
    times-no-target line says =
        subst (λ l. AnswersTimes known entries log options [] (refused l Fault)) (sym says.2)
        (no_target says.1)

    pub times-no-depfile : (paths : List (List ℕ)) → asked_targets known.graph options.targets ≡ Ok paths
        → (line : List ℕ) → HasDepfileFault known (timed_files known.graph paths) line
        → AnswersTimes known entries log options [] (refused line Fault)
    times-no-depfile paths are line has = no_depfile are has
