-- Answers about two graphs with the same values.
use Rattle.std.proofs.Common.{◌≡◌, ◌⊎◌, inl, inr, ℕ, Bool, true, false, cond, Option, Some, None, List, []}
use Rattle.std.proofs.Common.{◌∷◌}
use Rattle.std.proofs.Common.{◌++◌, map, slice_get, refl, sym, ap, subst, ◌∙◌}
use Rattle.std.proofs.lemmas.Option.{same_Some}
use Rattle.std.specs.Prelude.{codes, find, not, unwrap_or, ◌||◌}
use Rattle.nj_text.specs.Calls.{is_empty}
use Rattle.nj_text.specs.Paths.{clean_path_of}
use Rattle.nj_scope.specs.ReadingList.{ReadStatement}
use Rattle.nj_build_log.specs.Logs.{BuildLogModel}
use Rattle.nj_discovered.specs.Times.{DeclaredTimes}
use Rattle.nj_graph.specs.declared.EdgeNo.{EdgeNo}
use Rattle.nj_graph.specs.declared.undeclared.UndeclaredInput.{UndeclaredInput}
use Rattle.nj_graph.specs.Graph.{GraphModel, edges_of, files_of}
use Rattle.nj_graph.specs.Handles.{GraphEdge, files_in}
use Rattle.nj_needs.specs.PageWalks.{written}
use Rattle.nj_keys.specs.Keys.{HaveKeys, all_commands, edges_stated}
use Rattle.nj_keys.specs.declared.pages.EdgeKey.{EdgeKey}
use Rattle.nj_keys.specs.Pages.{left_at}
use Rattle.nj_audit.specs.Audits.{IsAudit}
use Rattle.nj_tests.specs.Tests.{TestModel}
use Rattle.nj_audit.specs.LoggedInputs.{inputs_in}
use Rattle.nj_tools.specs.Compdb.{text_fault}
use Rattle.nj_tools.specs.EdgeObjects.{edge_lines, unwritable_edge}
use Rattle.nj_tools.specs.declared.EdgeDiscovery.{EdgeDiscovery}
use Rattle.nj_edges.specs.Edges.{is_named}
use Rattle.nj_stale.specs.Missing.{IsFirstMissing}
use Rattle.nj_stale.specs.declared.missing.MissingSource.{MissingSource}
use Rattle.nj_state.specs.Stale.{AreStaleEdges, IsEvidence}
use Rattle.nj_state.specs.declared.commands.StaleEdge.{StaleEdge}
use Rattle.nj_questions.specs.Questions.{AffectedModel, AuditModel, DrawModel, KeysModel, SubjectModel}
use Rattle.nj_questions.specs.Questions.{StaleModel, TestsModel, TimesModel, WhyModel}
use Rattle.nj_questions.specs.Questions.{affected, audit, draw, json, keys, stale, tests, timings, why}
use Rattle.nj_ask.specs.declared.discovered.DiscoveredGraph.{DiscoveredGraph}
use Rattle.nj_ask.specs.declared.doubts.EdgeFault.{EdgeFault}
use Rattle.nj_ask.specs.declared.status.Status.TheVariants.{Fault}
use Rattle.nj_ask.specs.Affected.{Asked}
use Rattle.nj_ask.specs.Answers.{AnswersAffected, AnswersAllKeys, AnswersDraw, AnswersJson, AnswersKeys}
use Rattle.nj_ask.specs.Answers.{AnswersTargetKeys, AnswersWhy, HasDepfileFault, HaveKeysAsked, IsClear}
use Rattle.nj_ask.specs.Answers.{asked_mark, files_at, key_lines, keys_text, kinds_asked}
use Rattle.nj_ask.specs.Answers.{manifest_edges, single_base}
use Rattle.nj_ask.specs.KeyObjects.{key_objects}
use Rattle.nj_ask.specs.Answers.AnswersAllKeys.{bad_depfile, every}
use Rattle.nj_ask.specs.Answers.AnswersAffected.{no_keys, no_path, no_rule, reported}
use Rattle.nj_ask.specs.Answers.AnswersDraw.{no_target as undrawn_target, no_depfile as undrawn_depfile}
use Rattle.nj_ask.specs.Answers.AnswersDraw.{drawing}
use Rattle.nj_ask.specs.Answers.AnswersJson.{all, not_text}
use Rattle.nj_ask.specs.OptionFiles.{NamedFiles}
use Rattle.nj_ask.specs.Answers.AnswersKeys.{of_all, of_targets}
use Rattle.nj_ask.specs.Answers.AnswersTargetKeys.{no_target as no_keyed_target}
use Rattle.nj_ask.specs.Answers.AnswersTargetKeys.{no_depfile as no_keyed_depfile, out_of_range, page}
use Rattle.nj_ask.specs.Answers.AnswersWhy.{no_start, no_end, no_depfile as unlinked_depfile, chain, no_chain}
use Rattle.nj_ask.specs.Asks.{Answers}
use Rattle.nj_ask.specs.Audits.{AnswersAudit, lookup_lines}
use Rattle.nj_ask.specs.Chains.{HasChain}
use Rattle.nj_ask.specs.ChosenTests.{AnswersTests, Reaches, WritesTests}
use Rattle.nj_ask.specs.ChosenTests.AnswersTests.{chosen, no_folder, no_keys as no_test_keys}
use Rattle.nj_ask.specs.DiscoveredGraphs.{IsTouched, TouchedBy}
use Rattle.nj_ask.specs.Drawings.{IsDrawing, ListsEdges, drawing_text}
use Rattle.nj_ask.specs.Drawings.ListsEdges.{needed, touched}
use Rattle.nj_ask.specs.DrawnNodes.{drawn_nodes}
use Rattle.nj_ask.specs.Endings.{Ending, answered, fault_line, program_line, refused}
use Rattle.nj_ask.specs.Manifest.{is_one_of, opened_files}
use Rattle.nj_ask.specs.Pages.{mark_line}
use Rattle.nj_ask.specs.Reports.{HasCaveats, ChangeModel, IsReport, IsTouchedBy, changed_numbers}
use Rattle.nj_ask.specs.Reports.{new_paths, remade_files}
use Rattle.nj_ask.specs.Settled.{IsSettledEdge, Settles, has_value, runs_anew}
use Rattle.nj_ask.specs.Settled.AreSettled.{settled, unsettled}
use Rattle.nj_ask.specs.Settled.IsSettledEdge.{by_times, phony, unclear}
use Rattle.nj_ask.specs.Since.{AreNewCommands, IsNewSince, NewModel, keys_in, lines_in}
use Rattle.nj_ask.specs.Since.IsNewSince.{none as nothing_compared, some as compared}
use Rattle.nj_ask.specs.Shape.{caveat_text, dyndep_text, shape_text}
use Rattle.nj_ask.specs.MissingSources.{IsStop, required_files, stated_edges}
use Rattle.nj_ask.specs.Stales.{AnswersBuild, AnswersStale, AreStaleFor, IsCurrent, WritesStale, files_asked}
use Rattle.nj_ask.specs.Stales.{manifest_asked, manifest_needs, manifest_targets, manifest_text}
use Rattle.nj_ask.specs.Stales.{numbers_of_stale}
use Rattle.nj_ask.specs.Stales.{stale_caveats}
use Rattle.nj_ask.specs.Stales.AnswersBuild.{manifest_stops, remade, target_stops, listed}
use Rattle.nj_ask.specs.Stales.AnswersStale.{no_target as unjudged_target, no_depfile as unjudged_depfile}
use Rattle.nj_ask.specs.Stales.AnswersStale.{no_time, judged}
use Rattle.nj_ask.specs.Stales.WritesStale.{lines as plain_lines, objects as json_objects}
use Rattle.nj_ask.specs.Times.{AnswersTimes, AnswersTimings}
use Rattle.nj_ask.specs.Times.AnswersTimes.{no_target as untimed_target, no_depfile as untimed_depfile}
use Rattle.nj_ask.specs.Times.AnswersTimes.{reported as timed}
use Rattle.nj_one_answer.specs.Answers.{SameKnown, SameKnownHaveSameAnswers}

-- ---- faults of depfiles

abbrev number_of : EdgeFault → ℕ
number_of fault = fault.edge.0

abbrev text_of : EdgeFault → List ℕ
text_of fault = fault.text.items

none-left : (faults : List EdgeFault) → [] ≡ map number_of faults → faults ≡ []
none-left [] is = refl
none-left (f ∷ faults) is = absurd cc

module _ (test : ℕ → Bool) where
  abbrev first : List EdgeFault → Option EdgeFault
  first faults = find (λ (fault : EdgeFault). test fault.edge.0) faults

  none-moves : (one other : List EdgeFault) → map number_of one ≡ map number_of other → None ≡ first one
      → None ≡ first other
  none-moves [] [] are is = refl
  none-moves [] (g ∷ other) are is = absurd cc
  none-moves (f ∷ one) [] are is = absurd cc
  none-moves (f ∷ one) (g ∷ other) are is =
      let here : f.edge.0 ≡ g.edge.0 = cc in
      let rest : map number_of one ≡ map number_of other = cc in
      by (test f.edge.0) (test g.edge.0) (ap test here) (none-moves one other rest) is
    where
      by : (b c : Bool) → b ≡ c → (None ≡ first one → None ≡ first other) → None ≡ cond b (Some f) (first one)
          → None ≡ cond c (Some g) (first other)
      by true c same later is = absurd cc
      by false true same later is = absurd cc
      by false false same later is = later is

  some-moves : (one other : List EdgeFault) → map number_of one ≡ map number_of other
      → map text_of one ≡ map text_of other → (fault : EdgeFault) → Some fault ≡ first one
      → (more : EdgeFault) × (Some more ≡ first other) × (text_of fault ≡ text_of more)
  some-moves [] other are texts fault is = absurd cc
  some-moves (f ∷ one) [] are texts fault is = absurd cc
  some-moves (f ∷ one) (g ∷ other) are texts fault is =
      let here : f.edge.0 ≡ g.edge.0 = cc in
      let rest : map number_of one ≡ map number_of other = cc in
      let text : text_of f ≡ text_of g = cc in
      let others : map text_of one ≡ map text_of other = cc in
      by (test f.edge.0) (test g.edge.0) (ap test here) text
      (λ found. some-moves one other rest others fault found) is
    where
      by : (b c : Bool) → b ≡ c → text_of f ≡ text_of g
          → (Some fault ≡ first one → (more : EdgeFault) × (Some more ≡ first other)
          × (text_of fault ≡ text_of more))
          → Some fault ≡ cond b (Some f) (first one)
          → (more : EdgeFault) × (Some more ≡ cond c (Some g) (first other)) × (text_of fault ≡ text_of more)
      by true true same text later is = let it : fault ≡ f = cc in (g, refl, ap text_of it ∙ text)
      by true false same text later is = absurd cc
      by false true same text later is = absurd cc
      by false false same text later is = later is

-- the first fault of a list, by its text
head-moves : (one other : List EdgeFault) → map text_of one ≡ map text_of other → (fault : EdgeFault)
    → slice_get one 0 ≡ Some fault
    → (more : EdgeFault) × (slice_get other 0 ≡ Some more) × (text_of fault ≡ text_of more)
head-moves [] other texts fault is = absurd (let no : None ≡ Some fault = is in cc)
head-moves (f ∷ one) [] texts fault is = absurd cc
head-moves (f ∷ one) (g ∷ other) texts fault is =
    let it : f ≡ fault = same_Some f fault is in
    let text : text_of f ≡ text_of g = cc in
    (g, refl, sym (ap text_of it) ∙ text)

-- the inputs of an edge are not all known, by the edges of which they are not
abbrev hides_by : (has_discovered : Bool) → List ReadStatement → (edge : ℕ) → List EdgeNo → Bool
hides_by has_discovered entries edge unknown =
    cond has_discovered (is_one_of (map (λ (e : EdgeNo). e.0) unknown) edge)
    (has_value entries edge (codes "depfile") || has_value entries edge (codes "deps"))

-- ---- a graph in which what lies in memory is another's

module _ (one other : DiscoveredGraph) (same : SameKnown one other) where
  abbrev mid : DiscoveredGraph
  mid = record other { graph = one.graph; has_discovered = one.has_discovered }

  mid-is : mid ≡ other
  mid-is =
      ap (λ (k : GraphModel). let d : DiscoveredGraph =
      record other { graph = k; has_discovered = one.has_discovered } in d)
      same.graph
      ∙ ap (λ (b : Bool). let d : DiscoveredGraph = record other { graph = other.graph; has_discovered = b }
      in d)
      same.has_discovered

  caveats : (entries : List ReadStatement) → caveat_text mid entries ≡ caveat_text one entries
  caveats entries =
      ap (λ (c : List ℕ). c ++ cond one.has_discovered (dyndep_text one.graph entries [] []) [])
      (sym same.caveats)

  abbrev by_unknown : (files : List (List ℕ)) (edge : ℕ) → List EdgeNo → Type 0
  by_unknown files edge unknown =
      TouchedBy one.has_discovered (edges_of one.graph) files (map (λ (e : EdgeNo). e.0) unknown) edge

  touches : (files : List (List ℕ)) (edge : ℕ) → IsTouched one files edge → IsTouched mid files edge
  touches files edge = subst (by_unknown files edge) same.unknown

  touches-back : (files : List (List ℕ)) (edge : ℕ) → IsTouched mid files edge → IsTouched one files edge
  touches-back files edge = subst (by_unknown files edge) (sym same.unknown)

  touches-by : (q : ChangeModel) (edge : ℕ) → IsTouchedBy one q edge → IsTouchedBy mid q edge
  touches-by q edge (inl new) = inl new
  touches-by q edge (inr it) = inr (touches (new_paths one.graph q) edge it)

  touches-by-back : (q : ChangeModel) (edge : ℕ) → IsTouchedBy mid q edge → IsTouchedBy one q edge
  touches-by-back q edge (inl new) = inl new
  touches-by-back q edge (inr it) = inr (touches-back (new_paths one.graph q) edge it)

  faulty : (files : List (List ℕ)) (line : List ℕ) → HasDepfileFault one files line
      → HasDepfileFault mid files line
  faulty files line has =
      let m = some-moves (is_one_of has.first.needed) one.faults.items other.faults.items same.faulty
      same.texts
      has.fault has.first.first in
      record {
        fault = m.0;
        first = record { needed = has.first.needed; are_needed = has.first.are_needed; first = m.1 };
        line_is = has.line_is ∙ ap program_line m.2;
      }

  clear : (files : List (List ℕ)) → IsClear one files → IsClear mid files
  clear files (inl none) = inl (none-left other.faults.items (sym (ap (map number_of) none) ∙ same.faulty))
  clear files (inr is) = inr (record {
    needed = is.needed;
    are_needed = is.are_needed;
    first = none-moves (is_one_of is.needed) one.faults.items other.faults.items same.faulty is.first;
  })

  caveats-move : (entries : List ReadStatement) (q : ChangeModel) (edges text : List ℕ)
      → HasCaveats one entries q edges text → HasCaveats mid entries q edges text
  caveats-move entries q edges text is = record {
    about = is.about;
    warns = is.warns;
    all = is.all ∙ ap (λ (c : List ℕ). c ++ is.about
        ++ shape_text one entries (remade_files one.graph q) (changed_numbers one.graph q)
        edges) same.caveats;
  }

  reach-moves : (entries : List ReadStatement) (q : ChangeModel) (edges text : List ℕ)
      → Reaches one entries q edges text → Reaches mid entries q edges text
  reach-moves entries q edges text is = record {
    touched = λ e. (
      (λ has. touches-by q e ((is.touched e).0 has)),
      (λ it. (is.touched e).1 (touches-by-back q e it)),
    );
    rises = is.rises;
    are_caveats = caveats-move entries q edges text is.are_caveats;
  }

  report : (entries : List ReadStatement) (q : ChangeModel) (asked : Asked) (outputs warnings : List ℕ)
      → IsReport one entries q asked outputs warnings → IsReport mid entries q asked outputs warnings
  report entries q asked outputs warnings is = record {
    lists = record {
      edges = is.lists.edges;
      touched = λ e. (
        (λ has. touches-by q e ((is.lists.touched e).0 has)),
        (λ it. (is.lists.touched e).1 (touches-by-back q e it)),
      );
      rises = is.lists.rises;
      lines = is.lists.lines;
    };
    caveats = caveats-move entries q is.lists.edges warnings is.caveats;
  }

  edge-moves : (entries : List ReadStatement) (times : DeclaredTimes) (commands : List ℕ) (edge : ℕ)
      (is : Bool) → IsSettledEdge one entries times commands edge is
      → IsSettledEdge mid entries times commands edge is
  edge-moves entries times commands edge _ (phony is) = phony is
  edge-moves entries times commands edge _ (unclear not_phony hides) =
      unclear not_phony (subst (λ (es : List EdgeNo). runs_anew entries commands edge
      || hides_by one.has_discovered entries edge es ≡ true) same.unknown hides)
  edge-moves entries times commands edge is (by_times not_phony clear by) =
      by_times not_phony (subst (λ (es : List EdgeNo). runs_anew entries commands edge
      || hides_by one.has_discovered entries edge es ≡ false) same.unknown clear) by

  settles-moves : (opened : List ℕ) (entries : List ReadStatement) (times : DeclaredTimes)
      (commands : List ℕ) (is : Bool) → Settles one opened entries times commands is
      → Settles mid opened entries times commands is
  settles-moves opened entries times commands _ (settled every_edge) =
      settled (λ edge asked. edge-moves entries times commands edge true (every_edge edge asked))
  settles-moves opened entries times commands _ (unsettled {edge = e} asked is) =
      unsettled asked (edge-moves entries times commands e false is)

  new-moves : (entries : List ReadStatement) (times : DeclaredTimes) (folder : List ℕ)
      (bases : List (List ℕ)) (since : Option (List ℕ)) (new : NewModel)
      → IsNewSince one (manifest_edges one) entries times folder bases since new
      → IsNewSince mid (manifest_edges mid) entries times folder bases since new
  new-moves entries times folder bases _ _ nothing_compared = nothing_compared
  new-moves entries times folder bases _ new (compared {text = t} right are settles) =
      compared right
      (subst (λ (ds : List EdgeDiscovery). AreNewCommands one.graph
      (edges_stated (map (λ (d : EdgeDiscovery). d.stated_inputs) ds) (edges_of one.graph)) entries
      (map clean_path_of bases) (keys_in (lines_in t)) new.commands) same.discoveries are)
      (settles-moves (opened_files one.graph folder) entries times new.commands new.is_settled settles)

  affected-moves : (entries : List ReadStatement) (times : DeclaredTimes) (folder : List ℕ)
      (options : AffectedModel)
      (since : Option (List ℕ)) (input output : List ℕ) (ending : Ending)
      → AnswersAffected one entries times folder options since input output ending
      → AnswersAffected mid entries times folder options since input output ending
  affected-moves entries times folder options since input _ _ (no_rule is) = no_rule is
  affected-moves entries times folder options since input _ _ (no_path none empty asks) =
      no_path none empty asks
  affected-moves entries times folder options since input _ _ (no_keys none some lacks) =
      no_keys none some lacks
  affected-moves entries times folder options since input _ _
      (reported {new = n} {outputs = o} {warnings = w} none some new leaves is) =
      reported none some (new-moves entries times folder options.bases since n new) leaves
      (report entries _ _ o w is)

  writes-move : (entries : List ReadStatement) (q : ChangeModel) (edges : List ℕ) (options : TestsModel)
      (list : List TestModel) (whole : Bool) (text : List ℕ)
      → WritesTests one entries q edges options list whole text
      → WritesTests mid entries q edges options list whole text
  writes-move entries q edges options list whole text is = record {
    sought = is.sought;
    are_sought = is.are_sought;
    change = is.change;
    is_change = is.is_change;
    chosen = is.chosen;
    are_chosen = is.are_chosen;
    text_is = is.text_is;
  }

  tests-move : (entries : List ReadStatement) (times : DeclaredTimes) (folder : List ℕ) (options : TestsModel)
      (list : List TestModel) (since : Option (List ℕ)) (input output : List ℕ) (ending : Ending)
      → AnswersTests one entries times folder options list since input output ending
      → AnswersTests mid entries times folder options list since input output ending
  tests-move entries times folder options list since input _ _ (no_folder is) = no_folder is
  tests-move entries times folder options list since input _ _ (no_test_keys some lacks) =
      no_test_keys some lacks
  tests-move entries times folder options list since input _ _
      (chosen {new = n} {edges = es} {caveats = c} {output = o} some new leaves reaches said writes) =
      chosen some (new-moves entries times folder options.change.bases since n new) leaves
      (reach-moves entries _ es c reaches) said (writes-move entries _ es options list _ o writes)

  why-moves : (entries : List ReadStatement) (options : WhyModel) (output : List ℕ) (ending : Ending)
      → AnswersWhy one entries options output ending → AnswersWhy mid entries options output ending
  why-moves entries options _ _ (no_start bad) = no_start bad
  why-moves entries options _ _ (no_end from bad) = no_end from bad
  why-moves entries options _ _ (unlinked_depfile {line = line} from to has) =
      unlinked_depfile from to (faulty _ line has)
  why-moves entries options _ _ (chain {start = a} {end = b} {lines = t} from to fine is) =
      subst (λ (c : List ℕ). AnswersWhy mid entries options t (answered false c)) (caveats entries)
      (chain from to (clear _ fine)
      (subst (λ (ds : List EdgeDiscovery). HasChain one.graph ds (kinds_asked options) a b t) same.discoveries
      is))
  why-moves entries options _ _ (no_chain from to fine none) =
      subst (λ (c : List ℕ). AnswersWhy mid entries options [] (answered true c)) (caveats entries)
      (no_chain from to (clear _ fine) none)

  keys-move : (entries : List ReadStatement) (options : KeysModel) (contents : List (List ℕ))
      (numbers : List ℕ) (ks : List EdgeKey) → HaveKeysAsked one entries options contents numbers ks
      → HaveKeysAsked mid entries options contents numbers ks
  keys-move entries options contents numbers ks has =
      subst (λ (ds : List EdgeDiscovery). HaveKeys (options.additions ++ contents)
      (map clean_path_of options.bases)
      (edges_stated (map (λ (d : EdgeDiscovery). d.stated_inputs) ds) (edges_of one.graph)) entries
      numbers ks) same.discoveries has

  text-moves : (entries : List ReadStatement) (options : KeysModel) (ks : List EdgeKey)
      → keys_text one entries options ks ≡ keys_text mid entries options ks
  text-moves entries options ks =
      ap (λ (ds : List EdgeDiscovery). cond options.json
      (key_objects one.graph entries ds (map single_base options.bases) ks) (key_lines one.graph ks))
      same.discoveries

  target-keys-moves : (entries : List ReadStatement) (options : KeysModel) (contents : List (List ℕ))
      (mark output : List ℕ) (ending : Ending)
      → AnswersTargetKeys one entries options contents mark output ending
      → AnswersTargetKeys mid entries options contents mark output ending
  target-keys-moves entries options contents mark _ _ (no_keyed_target bad) = no_keyed_target bad
  target-keys-moves entries options contents mark _ _
      (no_keyed_depfile {paths = ps} {line = line} at has) =
      no_keyed_depfile at (faulty ps line has)
  target-keys-moves entries options contents mark _ _ (out_of_range {paths = ps} at fine bad) =
      out_of_range at (clear ps fine) bad
  target-keys-moves entries options contents mark _ _
      (page {paths = ps} {keys = ks} rest at fine valid has begins stops) =
      subst (λ (c : List ℕ). AnswersTargetKeys mid entries options contents mark
      (keys_text one entries options ks) (answered false (mark_line rest ++ c)))
      (caveats entries) (subst (λ (t : List ℕ). AnswersTargetKeys mid entries options contents mark t
      (answered false (mark_line rest ++ caveat_text mid entries))) (sym (text-moves entries options ks))
      (page rest at (clear ps fine) valid
      (keys-move entries options contents (written options.take (left_at (files_at one.graph ps) mark)) ks
      has) begins stops))

  all-keys-moves : (entries : List ReadStatement) (options : KeysModel) (contents : List (List ℕ))
      (output : List ℕ) (ending : Ending)
      → AnswersAllKeys one entries options contents output ending
      → AnswersAllKeys mid entries options contents output ending
  all-keys-moves entries options contents _ _ (bad_depfile {fault = fault} is) =
      let m = head-moves one.faults.items other.faults.items same.texts fault is in
      subst (λ (t : List ℕ). AnswersAllKeys mid entries options contents [] (refused (program_line t) Fault))
      (sym m.2) (bad_depfile m.1)
  all-keys-moves entries options contents _ _ (every {keys = ks} none has) =
      subst (λ (c : List ℕ). AnswersAllKeys mid entries options contents (keys_text one entries options ks)
      (answered false c)) (caveats entries)
      (subst (λ (t : List ℕ). AnswersAllKeys mid entries options contents t
      (answered false (caveat_text mid entries))) (sym (text-moves entries options ks))
      (every (none-left other.faults.items (sym (ap (map number_of) none) ∙ same.faulty))
      (keys-move entries options contents (all_commands one.graph) ks has)))

  keys-moves : (entries : List ReadStatement) (options : KeysModel) (contents : List (List ℕ))
      (mark output : List ℕ) (ending : Ending)
      → AnswersKeys one entries options contents mark output ending
      → AnswersKeys mid entries options contents mark output ending
  keys-moves entries options contents mark output ending (of_targets is answers) =
      of_targets is (target-keys-moves entries options contents mark output ending answers)
  keys-moves entries options contents mark output ending (of_all is answers) =
      of_all is (all-keys-moves entries options contents output ending answers)

  json-moves : (entries : List ReadStatement) (output : List ℕ) (ending : Ending)
      → AnswersJson one entries output ending → AnswersJson mid entries output ending
  json-moves entries _ _ (all none) =
      subst (λ (ds : List EdgeDiscovery). AnswersJson mid entries (edge_lines entries ds)
      (answered false (caveat_text one entries))) (sym same.discoveries)
      (subst (λ (c : List ℕ). AnswersJson mid entries (edge_lines entries other.discoveries.items)
      (answered false c))
      (caveats entries)
      (all (subst (λ (ds : List EdgeDiscovery). unwritable_edge entries ds ≡ None) same.discoveries none)))
  json-moves entries _ _ (not_text {edge = e} is) =
      subst (λ (ds : List EdgeDiscovery). AnswersJson mid entries (edge_lines entries ds)
      (refused (fault_line (text_fault entries e)) Fault)) (sym same.discoveries)
      (not_text (subst (λ (ds : List EdgeDiscovery). unwritable_edge entries ds ≡ Some e) same.discoveries
      is))

  lists-move : (files : List (List ℕ)) (affected : Bool) (edges : List GraphEdge)
      → ListsEdges one files affected edges → ListsEdges mid files affected edges
  lists-move files _ _ (needed is) = needed is
  lists-move files _ _ (touched numbers are up) =
      touched numbers (λ e. (
        (λ has. touches files e ((are e).0 has)),
        (λ it. (are e).1 (touches-back files e it)),
      )) up

  drawing-moves : (options : DrawModel) (files : List (List ℕ)) (text : List ℕ)
      → IsDrawing one options files text
      → IsDrawing mid options files text
  drawing-moves options files text is = record {
    edges = is.edges;
    lists = lists-move files options.affected is.edges is.lists;
    text_is = is.text_is ∙ ap (λ (ds : List EdgeDiscovery). drawing_text ds options.fold
        (drawn_nodes options (files_in one.graph files) is.edges) is.edges) same.discoveries;
  }

  fine-moves : (on : Bool) (files : List (List ℕ)) → (on ≡ true) ⊎ IsClear one files
      → (on ≡ true) ⊎ IsClear mid files
  fine-moves on files (inl is) = inl is
  fine-moves on files (inr fine) = inr (clear files fine)

  draw-moves : (entries : List ReadStatement) (options : DrawModel) (output : List ℕ) (ending : Ending)
      → AnswersDraw one entries options output ending → AnswersDraw mid entries options output ending
  draw-moves entries options _ _ (undrawn_target bad) = undrawn_target bad
  draw-moves entries options _ _ (undrawn_depfile {paths = ps} {line = line} at off has) =
      undrawn_depfile at off (faulty ps line has)
  draw-moves entries options _ _ (drawing {paths = ps} {text = t} at fine is) =
      subst (λ (c : List ℕ). AnswersDraw mid entries options t (answered false c)) (caveats entries)
      (drawing at (fine-moves options.affected ps fine) (drawing-moves options ps t is))

  audit-moves : (entries : List ReadStatement) (times : DeclaredTimes) (folder : List ℕ)
      (options : AuditModel)
      (output : List ℕ) (ending : Ending) → AnswersAudit one entries times folder options output ending
      → AnswersAudit mid entries times folder options output ending
  audit-moves entries times folder options output ending is = record {
    kinds = is.kinds;
    asked = is.asked;
    missing = is.missing;
    unknown = is.unknown;
    look_up = is.look_up;
    found = is.found;
    finds = subst (λ (ns : List UndeclaredInput). IsAudit one.graph entries is.missing folder
        (inputs_in one.graph ns)
        is.kinds is.found) same.undeclared is.finds;
    lookups = is.lookups;
    would_be_missing = is.would_be_missing;
    output_is = is.output_is;
    ending_is = is.ending_is
        ∙ ap (λ (c : List ℕ). answered (not (is_empty is.found)) (lookup_lines is.lookups ++ c))
        (sym (caveats entries));
  }

  stale-for : (entries : List ReadStatement) (log : BuildLogModel) (times : DeclaredTimes)
      (paths : List (List ℕ)) (edges : List StaleEdge) → AreStaleFor one entries log times paths edges
      → AreStaleFor mid entries log times paths edges
  stale-for entries log times paths edges is = record {
    files = is.files;
    are_files = is.are_files;
    are_stale = subst (λ (ns : List EdgeNo). AreStaleEdges one.graph.built.graph entries
        (map (λ (e : EdgeNo). e.0) ns) log times is.files edges) same.unknown is.are_stale;
  }

  stale-said : (entries : List ReadStatement) (edges : List StaleEdge)
      → stale_caveats mid entries edges ≡ stale_caveats one entries edges
  stale-said entries edges =
      ap (λ (c : List ℕ). c ++ dyndep_text one.graph entries [] (numbers_of_stale edges)) (sym same.caveats)

  stop-for : (entries : List ReadStatement) (log : BuildLogModel) (times : DeclaredTimes)
      (targets : List (List ℕ)) (source : Option MissingSource) → IsStop one entries log times targets source
      → IsStop mid entries log times targets source
  stop-for entries log times targets source is = record {
    evidence = is.evidence;
    is = subst (λ (ns : List EdgeNo). IsEvidence one.graph.built.graph entries
        (map (λ (e : EdgeNo). e.0) ns) log times is.evidence) same.unknown is.is;
    first = λ s of. subst (λ (counts : List ℕ). IsFirstMissing (files_of one.graph) is.evidence
        (is_named (stated_edges (edges_of one.graph) counts)) s (required_files (edges_of one.graph) targets)
        source)
        same.stated_inputs (is.first s of);
  }

  writes-for : (entries : List ReadStatement) (log : BuildLogModel) (times : DeclaredTimes)
      (options : StaleModel) (edges : List StaleEdge) (output : List ℕ)
      → WritesStale one entries log times options edges output
      → WritesStale mid entries log times options edges output
  writes-for entries log times options edges _ (plain_lines plain) = plain_lines plain
  writes-for entries log times options edges _ (json_objects {evidence = e} asked is text) =
      json_objects {evidence = e} asked (subst (λ (ns : List EdgeNo). IsEvidence one.graph.built.graph entries
      (map (λ (e : EdgeNo). e.0) ns) log times e) same.unknown is) text

  current-for : (entries : List ReadStatement) (log : BuildLogModel) (times : DeclaredTimes)
      (options : StaleModel) → IsCurrent one entries log times options
      → IsCurrent mid entries log times options
  current-for entries log times options is = record {
    unstopped = stop-for entries log times (manifest_targets one.graph options) None is.unstopped;
    stale = is.stale;
    are_stale = stale-for entries log times (manifest_needs one.graph options) is.stale is.are_stale;
    current = is.current;
  }

  build-moves : (entries : List ReadStatement) (log : BuildLogModel) (times : DeclaredTimes)
      (options : StaleModel) (targets : List (List ℕ)) (output : List ℕ) (ending : Ending)
      → AnswersBuild one entries log times options targets output ending
      → AnswersBuild mid entries log times options targets output ending
  build-moves entries log times options targets _ _ (manifest_stops {source = a} stop) =
      manifest_stops (stop-for entries log times (manifest_targets one.graph options) (Some a) stop)
  build-moves entries log times options targets _ _ (remade {stale = s} {output = o} none are some writes) =
      subst (λ (c : List ℕ). AnswersBuild mid entries log times options targets o
      (answered (not (is_empty s)) (c ++ manifest_text one.graph s (manifest_asked one.graph options))))
      (stale-said entries s)
      (remade (stop-for entries log times (manifest_targets one.graph options) None none)
      (stale-for entries log times (manifest_needs one.graph options) s are) some
      (writes-for entries log times options s o writes))
  build-moves entries log times options targets _ _ (target_stops {source = a} current stop) =
      target_stops (current-for entries log times options current)
      (stop-for entries log times targets (Some a) stop)
  build-moves entries log times options targets _ _
      (listed {stale = s} {output = o} current none are writes) =
      subst (λ (c : List ℕ). AnswersBuild mid entries log times options targets o
      (answered (not (is_empty s)) c)) (stale-said entries s)
      (listed (current-for entries log times options current) (stop-for entries log times targets None none)
      (stale-for entries log times (files_asked one.graph options targets) s are)
      (writes-for entries log times options s o writes))

  stale-moves : (entries : List ReadStatement) (log : BuildLogModel) (times : DeclaredTimes)
      (options : StaleModel) (output : List ℕ) (ending : Ending)
      → AnswersStale one entries log times options output ending
      → AnswersStale mid entries log times options output ending
  stale-moves entries log times options _ _ (unjudged_target bad) = unjudged_target bad
  stale-moves entries log times options _ _ (unjudged_depfile {line = line} at has) =
      unjudged_depfile at (faulty _ line has)
  stale-moves entries log times options _ _ (no_time at fine first) = no_time at (clear _ fine) first
  stale-moves entries log times options _ _ (judged {targets = ps} {output = o} {ending = e} at fine is) =
      judged at (clear _ fine) (build-moves entries log times options ps o e is)

  times-move : (entries : List ReadStatement) (log : BuildLogModel) (options : TimesModel) (output : List ℕ)
      (ending : Ending) → AnswersTimes one entries log options output ending
      → AnswersTimes mid entries log options output ending
  times-move entries log options _ _ (untimed_target bad) = untimed_target bad
  times-move entries log options _ _ (untimed_depfile {line = line} at has) =
      untimed_depfile at (faulty _ line has)
  times-move entries log options output _ (timed at fine is) =
      subst (λ (c : List ℕ). AnswersTimes mid entries log options output (answered false c)) (caveats entries)
      (timed at (clear _ fine) is)

  timings-move : (dead : Bool) (entries : List ReadStatement) (log : BuildLogModel) (times : DeclaredTimes)
      (options : TimesModel) (output : List ℕ) (ending : Ending)
      → AnswersTimings dead one entries log times options output ending
      → AnswersTimings dead mid entries log times options output ending
  timings-move false entries log times options output ending is =
      times-move entries log options output ending is
  timings-move true entries log times options output ending is = record {
    warnings = is.warnings;
    lists = is.lists;
    ending_is = is.ending_is ∙ ap (λ (c : List ℕ). answered false (is.warnings ++ c)) (sym (caveats entries));
  }

  moves : (entries : List ReadStatement) (log : BuildLogModel) (times : DeclaredTimes) (folder : List ℕ)
      (subject : SubjectModel)
      (named : NamedFiles) (input output : List ℕ) (ending : Ending)
      → Answers one entries log times folder subject named input output ending
      → Answers mid entries log times folder subject named input output ending
  moves entries log times folder (affected options) named input output ending is =
      affected-moves entries times folder options named.since input output ending is
  moves entries log times folder (audit options) named input output ending is =
      audit-moves entries times folder options output ending is
  moves entries log times folder (draw options) named input output ending is =
      draw-moves entries options output ending is
  moves entries log times folder json named input output ending is = json-moves entries output ending is
  moves entries log times folder (keys options) named input output ending is =
      keys-moves entries options named.additions (unwrap_or (asked_mark options) []) output ending is
  moves entries log times folder (stale options) named input output ending is =
      stale-moves entries log times options output ending is
  moves entries log times folder (tests options) named input output ending is =
      tests-move entries times folder options named.tests named.since input output ending is
  moves entries log times folder (timings options) named input output ending is =
      timings-move options.dead entries log times options output ending is
  moves entries log times folder (why options) named input output ending is =
      why-moves entries options output ending is

pub same-answers : SameKnownHaveSameAnswers
same-answers one other same entries log times folder subject named input output ending is =
    subst (λ (known : DiscoveredGraph). Answers known entries log times folder subject named input output
    ending)
    (mid-is one other same)
    (moves one other same entries log times folder subject named input output ending is)

pub same-back : (one other : DiscoveredGraph) → SameKnown one other → SameKnown other one
same-back one other same = record {
  graph = sym same.graph;
  has_discovered = sym same.has_discovered;
  unknown = sym same.unknown;
  faulty = sym same.faulty;
  texts = sym same.texts;
  discoveries = sym same.discoveries;
  stated_inputs = sym same.stated_inputs;
  caveats = sym same.caveats;
  undeclared = sym same.undeclared;
}
