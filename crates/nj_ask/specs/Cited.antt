-- What the contracts of this crate cite: each name comes from the module in its line.
pub use Rattle.nj_ask.specs.Answers.{AnswersAffected, change_asked, outputs_asked, HasDepfileFault, IsClear, AnswersDraw, AnswersJson}
pub use Rattle.nj_ask.specs.Answers.{AnswersAllKeys, AnswersKeys, AnswersTargetKeys, all_misuse, keys_text, single_base, asked_mark}
pub use Rattle.nj_ask.specs.Answers.{asked_targets, keys_misuse, mark_misuse, manifest_edges, AnswersWhy, needed_from}
pub use Rattle.nj_ask.specs.Inside.Asking.{AreGlobsAsked, named_files, LeavesAnswer, AnswersTask, IsGiven, IsTask, AreTestsAsked}
pub use Rattle.nj_ask.specs.Inside.Failures.{Gives, Delivers, WritesAnswer, ConcludesTold, FailsBy, SaysFault, Returns, Stops}
pub use Rattle.nj_ask.specs.Inside.Findings.{HasEdges, AreFindingsOf, text_if_faulty, if_doubtful, if_faulty}
pub use Rattle.nj_graph.specs.Graph.{OfStatements, files_of, edges_of, IsGraphOf, late_text_of, rule_name}
pub use Rattle.nj_questions.specs.Questions.{affected_model, SubjectModel, question_model, subject_model, audit_model, tests_model}
pub use Rattle.nj_questions.specs.Questions.{draw_model, asked_graph, keys_model, stale_model, times_model, why_model}
pub use Rattle.nj_ask.specs.Inside.Lent.{asked_of, change_model, new_model, texts}
pub use Rattle.nj_ask.specs.Reports.{no_path_line, changed_numbers, made_from_line, HasCaveats, HasWarnings, IsReport, IsTouchedBy}
pub use Rattle.nj_ask.specs.Reports.{remade_files}
pub use Rattle.nj_ask.specs.declared.status.Status.TheVariants.{Fault, Usage}
pub use Rattle.nj_ask.specs.Endings.{Concludes, Reported, answered, memory_line, program_line, Ends, ReportsError}
pub use Rattle.nj_ask.specs.Drawings.{stated_count, End, arrow_line, arrows_from, arrows_to, drawn_ends, edge_arrows, end_at, ends}
pub use Rattle.nj_ask.specs.Drawings.{ends_after, ends_before, node_arrows, count_line, drawing_text, IsDrawing, label, node_line}
pub use Rattle.nj_ask.specs.Drawings.{edge_look, ellipse_look, left_out, more_text, node_look, node_name, point_look}
pub use Rattle.std.specs.List.{flat_map, list_any, fold, filter_map, range_with_len, cons_option}
pub use Rattle.nj_graph.specs.Handles.{edge_of, file_of, GraphEdge, paths_of, OfEdge, edges_in, files_in, detail_of_edge}
pub use Rattle.nj_ask.specs.Inside.NodeLists.{node_model, is_full, AreFlagsWithin, SameFlags, SetsFlag, UnsetsFlag}
pub use Rattle.nj_ask.specs.DrawnNodes.{of_edge, drawn_nodes, has_node, mention, mention_edge, node_of, is_folded}
pub use Rattle.nj_ask.specs.BuildLogs.{LacksBuildLog, ReadsBuildLog, bad_log_line, built_path}
pub use Rattle.nj_ask.specs.Asks.{TakesBuildLog, no_lines, takes_build_log, LacksFiles, ReadsFiles, listed, seeks_undeclared, IsText}
pub use Rattle.nj_ask.specs.Asks.{around, Misuses, sinks_of, Refuses}
pub use Rattle.nj_ask.specs.Inside.GraphSteps.{HasStatements, AreInputsIn, KnowsByLog, LacksByLog, Discovers, LacksDiscovered, LacksMain}
pub use Rattle.nj_ask.specs.Inside.GraphSteps.{LacksManifest}
pub use Rattle.nj_ask.specs.KnownGraphs.{sources_of, AreStatedInputs, implicit_counts, FindsUndeclared, undeclared_in, IsDeclared}
pub use Rattle.nj_ask.specs.KnownGraphs.{IsDiscovered, KnowsGraph, LacksGraph, ReadsManifest, asks_discovered, discovered_line}
pub use Rattle.nj_ask.specs.Audits.{kind_lines, selection_in, AnswersAudit, WouldBeMissing, unknown_kind_line, finding_line, finding_lines}
pub use Rattle.nj_ask.specs.Audits.{finding_object, kind_line, line_about, lookup_lines, LookUp, LookUpIf, LooksUp}
pub use Rattle.nj_ask.specs.AskedWords.{AsksWith, ended_status, AsksWords}
pub use Rattle.nj_audit.specs.Kinds.{AskFor, first_unknown, contains}
pub use Rattle.nj_ask.specs.AuditLaws.{AuditListsFindings, DoneFindsNothing}
pub use Rattle.nj_ask.specs.Inside.AuditParts.{AreWarnings, HasServing, SaysUnknown}
pub use Rattle.nj_scope.specs.ReadingList.{value_if_bound}
pub use Rattle.nj_ask.specs.Inside.BuildLogSteps.{IsNoBuildLog, LacksBuildLogAt, ReadsBuildLogAt}
pub use Rattle.nj_build_log.specs.Logs.{build_log_of, BuildLogModel, LineModel, entry_of}
pub use Rattle.nj_ask.specs.Chains.{is_discovered, kind_end, kind_word, place_text}
pub use Rattle.nj_ask.specs.Inside.ChainTexts.{step_line, IsChainText}
pub use Rattle.nj_ask.specs.Inside.Reached.{AreAt, AreFilesOf, AreFullPaths, numbers_of, IsReach, edge_numbers, AreFeeding, CanTellAll}
pub use Rattle.nj_ask.specs.Inside.Reached.{AreAllTouched, AreEdgesOf, AreTouched, warning_by, AreFilesAt, AreTables, HaveAffected}
pub use Rattle.nj_ask.specs.SameFiles.{full_path_of}
pub use Rattle.nj_graph.specs.Edges.{is_among, first_output, edge_at, outputs_of, inputs_of, maker_of}
pub use Rattle.nj_ask.specs.ChosenTests.{AnswersTests, WritesTests, no_path_remark, no_test_remark, remarks, roots_of, test_files}
pub use Rattle.nj_ask.specs.ChosenTests.{MisusesTests, asks_format, format_misuse, list_misuse, program_misuse, style_asked, style_misuse}
pub use Rattle.nj_ask.specs.ChosenTests.{unnamed_misuse, word_misuse}
pub use Rattle.nj_changes.specs.Tables.{SameNames}
pub use Rattle.nj_text.specs.Calls.{is_empty}
pub use Rattle.nj_tests.specs.Tests.{test_model}
pub use Rattle.nj_ask.specs.DeadAnswers.{AnswersDead, ListsDead, dead_line, unread_line}
pub use Rattle.nj_discovered.specs.Times.{DeclaredTimes}
pub use Rattle.serde_json.specs.Written.{compact_text, comma_if}
pub use Rattle.nj_times.specs.Dead.{dead_outputs}
pub use Rattle.serde_json.specs.Data.{string, array, boolean, number, unsigned}
pub use Rattle.std.specs.Str.Lossy.{utf8_lossy}
pub use Rattle.nj_graph.specs.Files.{path_at}
pub use Rattle.nj_scope.specs.Sources.{outcome_bytes, SourceState}
pub use Rattle.nj_deps.specs.Logs.{IsLogFault, IsLogOf, opening, LogModel}
pub use Rattle.nj_ask.specs.Affected.{line, is_asked_for, is_of_rules, line_of_output, lines_of_outputs, rule_names, unknown_rule}
pub use Rattle.nj_ask.specs.LogsRead.{LacksLog, ReadsBytes, ReadsLog, cut_line, log_path, own_path}
pub use Rattle.nj_ask.specs.Inside.LogSteps.{IsUnreadable, LacksAt, ReadsAt}
pub use Rattle.nj_graph.specs.Discovering.{AreDiscovered}
pub use Rattle.nj_ask.specs.DiscoveredGraphs.{JoinsDiscovered, depfile_text, doubt_line, doubt_lines, fault_texts, no_time_line}
pub use Rattle.nj_ask.specs.DiscoveredGraphs.{doubtful_edges, edge_discoveries, faulty_edges, state_of, IsTouched}
pub use Rattle.nj_ask.specs.Joined.{Follows, HasDoubtfulEdges}
pub use Rattle.nj_ask.specs.DrawingLaws.{EndsAreDrawn, NeededAreDrawn, NodesAreDistinct, NodesAreLimited}
pub use Rattle.nj_audit.specs.Findings.{finding_model}
pub use Rattle.nj_ask.specs.Given.{change_misuse, folder_misuse, since_misuse, given_paths, pattern_line, MisusesAffected, base_misuse}
pub use Rattle.nj_ask.specs.Inside.AnswerParts.{SaysPattern, IsPageOf, SaysErr}
pub use Rattle.nj_graph.specs.Loads.{Loads}
pub use Rattle.nj_graph.specs.Undeclared.{input_of_edge}
pub use Rattle.nj_ask.specs.Shape.{caveat_text, shape_text, dyndep_files, dyndep_of, dyndep_text, line_if_changes, lines_of_changing}
pub use Rattle.nj_ask.specs.Shape.{may_change, remade_text, unjoined_files}
pub use Rattle.nj_ask.specs.Inside.JsonTexts.{AddsItem, AddsMember, AddsValue, BeginsMember, AddsInputs, AddsFiles, AddsKey, AddsTexts}
pub use Rattle.nj_ask.specs.KeyObjects.{path_items, text_value, KeyInput, input_value, inputs_among, key_inputs, kind_name}
pub use Rattle.nj_ask.specs.KeyObjects.{discovered_value, key_object, key_objects, bases_named, is_named_base, key_texts, names_base}
pub use Rattle.nj_ask.specs.KeyObjects.{number_items}
pub use Rattle.nj_state.specs.Judged.{HasCounts, IsJudged}
pub use Rattle.nj_ask.specs.Inside.StaleParts.{IsJudgedBuild, IsJudgedGraph, LacksTime, StopsAt, AnswersManifest, ListsStale, named_paths}
pub use Rattle.nj_names.specs.NameTables.{name_at, with_name}
pub use Rattle.nj_ask.specs.Inside.FilesFound.{paths_found}
pub use Rattle.nj_ask.specs.MissingSources.{stated_edge, IsStop, missing_line, required_files, stated_edges}
pub use Rattle.nj_ask.specs.LookedThrough.{with_led, behind, phony_inputs, WalkFindsAllThatIsLedTo}
pub use Rattle.nj_keys.specs.Keys.{content_of, edges_stated}
pub use Rattle.nj_text.specs.Paths.{clean_path_of, is_absolute}
pub use Rattle.nj_needs.specs.MarkTexts.{given_mark}
pub use Rattle.nj_keys.specs.Pages.{leads}
pub use Rattle.nj_ask.specs.Pages.{mark_line}
pub use Rattle.nj_ask.specs.Inside.FileLines.{output_lines, path_lines}
pub use Rattle.nj_ask.specs.MadeFrom.{TellMadeFrom}
pub use Rattle.nj_ask.specs.Manifest.{makers_of_opened, makes_manifest, FeedsManifest, opened_paths, opened_files, is_one_of}
pub use Rattle.nj_ask.specs.Inside.Flags.{AreFeeds, AreFlags, flagged_numbers, is_made_flag, AreMarks}
pub use Rattle.nj_names.specs.Files.{AreFiles}
pub use Rattle.nj_ask.specs.NeededFaults.{IsFirstFault}
pub use Rattle.nj_reached.specs.GraphChanges.{outputs_at}
pub use Rattle.std.specs.Fmt.{decimal}
pub use Rattle.nj_ask.specs.Quotes.{quoted, escaped, escapes}
pub use Rattle.nj_ask.specs.OptionFiles.{LacksAdditions, LacksContent, LacksNamedFiles, LacksNamedText, ReadsAdditionAt, ReadsAdditions}
pub use Rattle.nj_ask.specs.OptionFiles.{ReadsContents, ReadsNamedFiles, ReadsText, since_path}
pub use Rattle.nj_ask.specs.TestLists.{LacksText, LacksList, LacksLists, LacksMeson, LacksNamed, LacksTests, ReadsList, ReadsLists}
pub use Rattle.nj_ask.specs.TestLists.{ReadsMeson, ReadsNamed, ReadsTests, faulty_path, info_path, is_of_targets, list_line, list_path}
pub use Rattle.nj_graph.specs.Changes.{IsAffected}
pub use Rattle.nj_ask.specs.Laws.{DoneMissesNothing, DoneMissesNoTest, ListedHaveReasons, WarningsAreUnique, OtherCommandsAreOld}
pub use Rattle.nj_ask.specs.Settled.{AreSettled, HasCurrentOutputs, IsSettledEdge, Settles, are_current, hides_inputs, later, runs_anew}
pub use Rattle.nj_ask.specs.Inside.TimesAt.{AreTimesAt, are_current_if}
pub use Rattle.nj_edges.specs.Edges.{counted_inputs_of, is_named}
pub use Rattle.nj_ask.specs.Since.{AreNewCommands, IsNewSince, IsWrongLine, LacksKeys, first_wrong, has_output, is_wrong, key_of, keys_in}
pub use Rattle.nj_ask.specs.Since.{lines_in, new_edges, wrong_line}
pub use Rattle.nj_audit.specs.declared.kinds.Kind.TheVariants.{MissingSource}
pub use Rattle.nj_ask.specs.Stales.{AnswersBuild, AnswersStale, AreStaleFor, IsCurrent, WritesStale, files_asked, if_named, is_stale_maker}
pub use Rattle.nj_ask.specs.Stales.{main_path, manifest_asked, manifest_targets, manifest_text, stale_misuse}
pub use Rattle.nj_needs.specs.Growing.{grown_targets}
pub use Rattle.nj_stale.specs.declared.evidence.EdgeFacts.{EdgeFacts}
pub use Rattle.nj_stale.specs.States.{IsStateOf, State}
pub use Rattle.nj_stale.specs.Numbered.{evidence_of, time_of}
pub use Rattle.nj_ask.specs.StaleObjects.{input_word, integer, newer_time, newest_file, number_value, older_time, path_value, reason_file}
pub use Rattle.nj_ask.specs.StaleObjects.{reason_word, stale_object, stale_objects}
pub use Rattle.nj_stale.specs.Inside.Held.{time_by}
pub use Rattle.nj_stale.specs.Missing.{AreStated}
pub use Rattle.nj_ask.specs.Statuses.{exit_code}
pub use Rattle.std.specs.IoError.{error_kind}
pub use Rattle.nj_ask.specs.Times.{AnswersTimes, AnswersTimings, IsReportBy, edge_rules, times_misuse}
pub use Rattle.nj_times.specs.Rules.{IsRuleReport}
pub use Rattle.nj_graph.specs.Targets.{picked}
