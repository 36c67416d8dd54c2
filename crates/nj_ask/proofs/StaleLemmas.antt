-- What is stale, by the files that are asked about, and the answers to `stale`.
use Rattle.std.specs.Prelude.{◌≡◌, ◌==◌, ◌++◌, ◌∷◌, ℕ, Bool, true, length, Option, Some, None, Result}
use Rattle.std.specs.Prelude.{Ok, Err}
use Rattle.std.specs.Global.{Vec}
use Rattle.std.specs.Prelude.{IfOk, List, [], map, option_map, bytes_eq, is_some, position, slice_get}
use Rattle.std.specs.Prelude.{unwrap_or}
use Rattle.std.specs.List.{cons_option}
use Rattle.std.proofs.lemmas.Bool.{eqb-true}
use Rattle.std.proofs.lemmas.Grind.{common_steps}
use Rattle.nj_text.specs.Calls.{is_empty}
use Rattle.std.proofs.Common.{arith, cond, refl, sym, ap, subst, ◌∙◌}
use Rattle.nj_names.specs.Files.{AreFiles, path_at}
use Rattle.nj_names.proofs.NameLemmas.{found-at}
use Rattle.nj_edges.specs.Edges.{is_named}
use Rattle.nj_edges.specs.EdgeGraphs.{EdgeGraph}
use Rattle.nj_build_log.specs.Logs.{BuildLogModel, LineModel}
use Rattle.nj_discovered.specs.Times.{DeclaredTimes}
use Rattle.nj_graph.specs.ReadingList.{ReadStatement}
use Rattle.nj_graph.specs.declared.EdgeNo.{EdgeNo}
use Rattle.nj_graph.specs.declared.FileNo.{FileNo}
use Rattle.nj_graph.specs.Graph.{GraphModel, edges_of, files_of}
use Rattle.nj_needs.specs.Growing.{grown_targets}
use Rattle.nj_needs.specs.Walks.{commands_of}
use Rattle.nj_stale.specs.Missing.{AreStated, IsFirstMissing}
use Rattle.nj_stale.specs.Numbered.{evidence_of}
use Rattle.nj_stale.specs.States.{Evidence, State, IsStateOf}
use Rattle.nj_stale.specs.Work.{HasReasons}
use Rattle.nj_stale.specs.declared.evidence.EdgeFacts.{EdgeFacts}
use Rattle.nj_stale.specs.declared.missing.MissingSource.{MissingSource}
use Rattle.nj_state.specs.Facts.{facts_of, hash_version}
use Rattle.nj_state.specs.Stale.{AreStaleBy, IsEvidence}
use Rattle.nj_state.specs.declared.commands.StaleEdge.{StaleEdge}
use Rattle.nj_state.specs.declared.judged.JudgedBuild.{JudgedBuild}
use Rattle.nj_questions.specs.Questions.{StaleModel}
use Rattle.nj_ask.specs.declared.answer.Answer.{Answer}
use Rattle.nj_ask.specs.declared.discovered.DiscoveredGraph.{DiscoveredGraph}
use Rattle.nj_ask.specs.declared.failure.Failure.{Failure}
use Rattle.nj_ask.specs.declared.failure.Failure.TheVariants.{Refused, Write, OutOfMemory}
use Rattle.nj_ask.specs.declared.status.Status.TheVariants.{Fault}
use Rattle.nj_ask.specs.Answers.{HasDepfileFault, IsClear, asked_targets}
use Rattle.nj_ask.specs.Endings.{refused}
use Rattle.nj_ask.specs.MissingSources.{IsStop, is_stated, required_files}
use Rattle.nj_ask.specs.Stales.{AnswersBuild, AnswersStale, AreStaleFor, IsCurrent, files_asked, if_named}
use Rattle.nj_ask.specs.StaleObjects.{stale_objects}
use Rattle.nj_ask.specs.Stales.{WritesStale, manifest_asked, manifest_needs, manifest_targets}
use Rattle.nj_ask.specs.Stales.WritesStale.{objects}
use Rattle.nj_ask.specs.Stales.AnswersBuild.{manifest_stops, remade, target_stops, listed}
use Rattle.nj_ask.specs.Stales.AnswersStale.{no_target, no_depfile, no_time, judged}
use Rattle.nj_ask.specs.Inside.AnswerParts.{SaysErr}
use Rattle.nj_ask.specs.Inside.Failures.{Gives}
use Rattle.nj_ask.specs.Inside.StaleParts.{IsJudgedBuild, IsManifestAnswer, LacksTime, ListsStale, StopsAt}
use Rattle.nj_ask.proofs.LineLemmas.{files-paths}

-- ---- the files that are asked about

-- the path of the file that is found at a path
pub named-path : (g : GraphModel) (path : List ℕ) (found : Option FileNo)
    → option_map (λ f. f.0) found ≡ position (bytes_eq path) (files_of g)
    → is_some found ≡ is_named (edges_of g) path
    → option_map (path_at (files_of g)) found ≡ if_named g path
named-path g path None at is = ap (λ b. cond b (Some path) None) is
named-path g path (Some file) at is =
    ap Some (ap (λ o. unwrap_or o []) (found-at path (files_of g) file.0 (sym at)))
    ∙ ap (λ b. cond b (Some path) None) is

-- the files that are asked about, by their paths
pub asked-files : (g : GraphModel) (options : StaleModel) (view : EdgeGraph) (manifest : Option FileNo)
    (numbers files : List FileNo) (paths : List (List ℕ)) → view ≡ g.built.graph
    → option_map (path_at (files_of g)) manifest ≡ manifest_asked g options
    → map (path_at (files_of g)) numbers ≡ paths
    → AreFiles view.files files (grown_targets view.edges
    (cons_option (option_map (path_at view.files) manifest) [])
    ++ grown_targets view.edges (map (path_at view.files) numbers))
    → AreFiles (files_of g) files (files_asked g options paths)
asked-files g options view manifest numbers files paths view-is first targets are =
    subst (λ ps. AreFiles (files_of g) files (manifest_needs g options ++ grown_targets (edges_of g) ps))
    targets
    (subst (λ m. AreFiles (files_of g) files (grown_targets (edges_of g) (cons_option m [])
    ++ grown_targets (edges_of g) (map (path_at (files_of g)) numbers))) first
    (subst (λ (v : EdgeGraph). AreFiles v.files files
    (grown_targets v.edges (cons_option (option_map (path_at v.files) manifest) [])
    ++ grown_targets v.edges (map (path_at v.files) numbers))) view-is are))

-- the paths of files
pub asked-paths : (g : GraphModel) (files : List FileNo) (paths : List (List ℕ))
    → AreFiles (files_of g) files paths
    → map (path_at (files_of g)) files ≡ paths
asked-paths g files paths are = files-paths (λ (f : FileNo). slice_get (files_of g) f.0) files paths are

-- a text without bytes
pub no-bytes : (text : List ℕ) → (length text == 0) ≡ true → text ≡ []
no-bytes [] none = refl
no-bytes (byte ∷ text) none = absurd (omega (arith, eqb-true (length (byte ∷ text)) 0 none))

-- ---- the judged build

module _ (known : DiscoveredGraph) (entries : List ReadStatement) (log : BuildLogModel)
    (times : DeclaredTimes) (build : JudgedBuild) (is : IsJudgedBuild known entries log times build) where
  abbrev graph : EdgeGraph
  graph = known.graph.built.graph

  abbrev facts : List EdgeFacts
  facts = facts_of entries (map (λ (edge : EdgeNo). edge.0) known.unknown.items) (hash_version log)
      (length graph.edges)

  abbrev evidence : Evidence
  evidence = evidence_of graph facts build.times.items log.lines

  pub evidence-is : IsEvidence graph entries (map (λ (edge : EdgeNo). edge.0) known.unknown.items) log times
      evidence
  evidence-is = record { times = build.times.items; times_are = is.times_are; known_is = refl }

  -- the stale edges that files need
  pub stale-for : (paths : List (List ℕ)) (files : List FileNo) (stale : List StaleEdge)
      → AreFiles graph.files files paths → AreStaleBy evidence (commands_of graph files) stale
      → AreStaleFor known entries log times paths stale
  stale-for paths files stale are by = record {
    files = files;
    are_files = are;
    are_stale = record { known = evidence; is = evidence-is; edges = by };
  }

  -- the missing source at which a build of targets stops
  pub stop-for : (targets : List (List ℕ)) (files : List FileNo) (flags : List Bool)
      (found : Option MissingSource)
      → map (path_at graph.files) files ≡ required_files graph.edges targets
      → AreStated graph.files (is_stated known) flags
      → ((facts : List EdgeFacts) (lines : List LineModel) (is_stated : List ℕ → Bool) (s : State)
      → HasReasons graph.edges s build.reasons.items → AreStated graph.files is_stated flags
      → IsFirstMissing graph.files (evidence_of graph facts build.times.items lines) is_stated s
      (map (path_at graph.files) files) found)
      → IsStop known entries log times targets found
  stop-for targets files flags found are stated missing = record {
    evidence = evidence;
    is = evidence-is;
    first = λ s of.
        subst (λ paths. IsFirstMissing graph.files evidence (is_stated known) s paths found) are
        (missing facts log.lines (is_stated known) s (is.judged.reasons_are s of) stated);
  }

  -- objects are written
  pub objects-written : {E : Type 0} (options : StaleModel) (stale : List StaleEdge)
      (result : Result (Vec ℕ) E) → options.json ≡ true
      → ((s : State) → IsStateOf evidence s
      → IfOk result (λ text. text.items ≡ stale_objects evidence s stale))
      → IfOk result (λ text. WritesStale known entries log times options stale text.items)
  objects-written options stale (Ok text) json made = objects {evidence = evidence} json evidence-is made
  objects-written options stale (Err e) json made = tt

-- a list without items is empty
pub empty-is : {A : Type 0} (xs : List A) → (length xs == 0) ≡ is_empty xs
empty-is [] = refl
empty-is (x ∷ xs) = grind (arith, common_steps)

-- the paths of a file, if any
pub listed-path : {X Y : Type 0} (f : X → Y) (o : Option X)
    → map f (cons_option o []) ≡ cons_option (option_map f o) []
listed-path f None = refl
listed-path f (Some x) = refl

-- ---- answers

module _ (known : DiscoveredGraph) (entries : List ReadStatement) (log : BuildLogModel)
    (times : DeclaredTimes) (options : StaleModel) where
  -- a missing source stops the build of the manifest
  pub manifest-stops : (targets : List (List ℕ)) (line : List ℕ)
      → StopsAt known entries log times (manifest_targets known.graph options) line
      → AnswersBuild known entries log times options targets [] (refused line Fault)
  manifest-stops targets line stops =
      subst (λ l. AnswersBuild known entries log times options targets [] (refused l Fault))
      (sym stops.line_is)
      (manifest_stops stops.stop)

  -- or that of the targets
  pub target-stops : (targets : List (List ℕ)) → IsCurrent known entries log times options
      → (line : List ℕ) → StopsAt known entries log times targets line
      → AnswersBuild known entries log times options targets [] (refused line Fault)
  target-stops targets current line stops =
      subst (λ l. AnswersBuild known entries log times options targets [] (refused l Fault))
      (sym stops.line_is)
      (target_stops current stops.stop)

  -- the manifest is stale
  pub manifest-answers : (targets : List (List ℕ)) (answer : Answer)
      → IsManifestAnswer known entries log times options answer
      → Gives (AnswersBuild known entries log times options targets) (Ok answer)
  manifest-answers targets answer is =
      rw (is.looks, is.warnings) (remade is.unstopped is.are_stale is.remade is.output)

  -- the stale edges are listed
  pub build-lists : (targets : List (List ℕ)) → IsCurrent known entries log times options
      → IsStop known entries log times targets None → (stale : List StaleEdge)
      → AreStaleFor known entries log times (files_asked known.graph options targets) stale
      → (answer : Answer) → ListsStale known entries log times options stale answer
      → Gives (AnswersBuild known entries log times options targets) (Ok answer)
  build-lists targets current unstopped stale are answer lists =
      rw (lists.looks, lists.warnings) (listed current unstopped are lists.output)

  abbrev Targets : (paths : List (List ℕ)) → Type 0
  Targets paths = asked_targets known.graph options.targets ≡ Ok paths

  abbrev Refuses : (line : List ℕ) → Type 0
  Refuses line = AnswersStale known entries log times options [] (refused line Fault)

  abbrev Clear : (paths : List (List ℕ)) → Type 0
  Clear paths = IsClear known (files_asked known.graph options paths)

  pub stale-no-target : (line : List ℕ) → SaysErr (asked_targets known.graph options.targets) line
      → Refuses line
  stale-no-target line says = subst Refuses (sym says.2) (no_target says.1)

  pub stale-no-depfile : (paths : List (List ℕ)) → Targets paths → (line : List ℕ)
      → HasDepfileFault known (files_asked known.graph options paths) line → Refuses line
  stale-no-depfile paths are line has = no_depfile are has

  pub stale-no-time : (paths : List (List ℕ)) → Targets paths → Clear paths → (line : List ℕ)
      → LacksTime times known.graph line → Refuses line
  stale-no-time paths are clear line lacks = subst Refuses (sym lacks.line_is) (no_time are clear lacks.first)

  -- the answer of a judged build
  pub stale-judged : (paths : List (List ℕ)) → Targets paths → Clear paths → (result : Result Answer Failure)
      → Gives (AnswersBuild known entries log times options paths) result
      → Gives (AnswersStale known entries log times options) result
  stale-judged paths are clear (Ok answer) gives = judged are clear gives
  stale-judged paths are clear (Err (Refused line status)) gives = judged are clear gives
  stale-judged paths are clear (Err Write) gives = gives
  stale-judged paths are clear (Err OutOfMemory) gives = tt
