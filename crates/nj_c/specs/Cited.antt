-- What the contracts of this crate cite: each name comes from the module in its line.
pub use Rattle.nj_c.specs.Asking.{GivesText, KeptUnlessDone, AtEdge, AtFile, AtGraph, bool_code, GivesItem, IfLoaded, IfOpen, IfNumber}
pub use Rattle.nj_c.specs.Asking.{GivesFile, kind_code, GivesTextOrNot, OfFault, OfPlace, step_kind_code, GivesTextAt, GivesMark}
pub use Rattle.nj_c.specs.Asking.{GivesValue}
pub use Rattle.nj_c.specs.Statuses.{code_of}
pub use Rattle.nj_edges.specs.Edges.{edge_at, inputs_of, outputs_of, users_of, kind_at, maker_of, validation_users_of, is_named, roots_of}
pub use Rattle.nj_names.specs.Files.{path_at, AreFiles}
pub use Rattle.nj_graph.specs.Graph.{edges_of, files_of, main_rules, GraphModel, IsGraphOf, rule_name_at, OfStatements}
pub use Rattle.nj_c.specs.declared.status.Status.TheVariants.{Done, Nothing, OutOfMemory}
pub use Rattle.nj_c.specs.Buffers.{filled, kinds_of, GivesFiles, GivesNumbers}
pub use Rattle.nj_c.specs.JoinedLogs.{read_of, JoinsDeps}
pub use Rattle.nj_c.specs.Loading.{Changes, graph_loaded, unread, GivesGraph, KeepsNothing, LeavesNothing, LoadsKept, SameRun, IsEmpty}
pub use Rattle.nj_c.specs.Loading.{Opens, TakesFile, TakesPath, dyndeps_of, is_lacking, lacking_dyndeps, paths_or, paths_to_load}
pub use Rattle.nj_c.specs.Inside.LogsJoined.{JoinsKnown, KeepsJoined}
pub use Rattle.nj_c.specs.DirtyEdges.{flagged, AreDirty, ListsDirty}
pub use Rattle.nj_c.specs.Inside.PagesHeld.{numbers_of, FindsEdges, MarkRefused, KeepsPage, mark_status}
pub use Rattle.nj_c.specs.Pages.{AreRefused, AreKnown, AreReached, AreNeeded, end_text, mark_of, numbered, IsPageOf, ListsNeeded, ListsPage}
pub use Rattle.nj_c.specs.Pages.{ListsReached, IsPage, IsNoMark, IsPageAfter, PageRefused}
pub use Rattle.nj_deps.specs.Logs.{IsLogOf, IsLogFault}
pub use Rattle.nj_scope.specs.ReadingList.{ReadStatement}
pub use Rattle.nj_graph.specs.Discovering.{AreDiscovered}
pub use Rattle.nj_c.specs.DiscoveredInputs.{given_read, lacking_depfiles, log_bytes, times_of, unknown_of, ForgetsGraph, JoinsDiscovered}
pub use Rattle.nj_c.specs.DiscoveredInputs.{JoinsFound, maker_at, time_found, depfile_at}
pub use Rattle.nj_c.specs.SuppliedFiles.{supplied_state, SameFiles, wanted_paths, supplied_for, ReadsAsSupplied, SetsFile}
pub use Rattle.nj_c.specs.Inside.DiscoveredHeld.{FindsOr, JoinsTo, KeepsFound, IsAnswer}
pub use Rattle.nj_statements.specs.Built.{detail_at, defaults_in_force}
pub use Rattle.nj_c.specs.FaultKinds.{kind_of, kind_of_syntax}
pub use Rattle.nj_faults.specs.FaultLines.{bare_line}
pub use Rattle.nj_c.specs.StaleEdges.{disk_time, ListsStale, given_times, reason_code, reason_place}
pub use Rattle.nj_c.specs.Runs.{AllWordsCanBeGiven, OutputsNeverFail, LeavesRun, RunsKept, SameLoad, given_words}
pub use Rattle.nj_faults.specs.Faults.{no_memory}
pub use Rattle.nj_c.specs.Inside.Results.{FinishesLoad, KeepsFault, KeepsLoad, KeepsResult, AreStatements}
pub use Rattle.nj_ask.specs.MadeFrom.{TellMadeFrom}
pub use Rattle.nj_c.specs.MadeFrom.{FlagsKeptUnlessDone, GivesMadeFrom}
pub use Rattle.nj_c.specs.OneAnswer.{SameAnswer, graph_of, Equal, SameChange, SameNeeded, IfStated, SameBuffer, InMemory, OfAnyGraph}
pub use Rattle.nj_c.specs.OneAnswer.{SameContents, SameOptions, UnlessReported}
pub use Rattle.std.specs.List.{list_any, IsDistinct, flat_map, filter}
pub use Rattle.nj_edges.specs.Needs.{makers_of_inputs}
pub use Rattle.nj_cycles.specs.Cycles.{IsAcyclic}
pub use Rattle.nj_agreement.specs.Graphs.{SameGraph}
pub use Rattle.nj_needs.specs.Graphs.{makers_of, row_of}
pub use Rattle.nj_needs.specs.Marks.{is_valid}
pub use Rattle.nj_c.specs.Paths.{numbered_step, GivesPath, StepsKeptUnlessDone}
pub use Rattle.nj_c.specs.Targets.{PicksFile}
pub use Rattle.nj_c.specs.Inside.RunsHeld.{empty_memory, FinishesRun, KeepsRun, NoFailures, NoRun, Ran, WordsRefused}
pub use Rattle.std.specs.Str.{is_utf8}
pub use Rattle.nj_scope.specs.Sources.{outcome_bytes}
pub use Rattle.nj_state.specs.Stale.{AreStaleEdges}
pub use Rattle.nj_c.specs.Inside.StaleHeld.{FindsStale, LogRefused, TimesRefused}
pub use Rattle.nj_build_log.specs.Logs.{build_log_of}
pub use Rattle.nj_c.specs.Inside.SuppliedHeld.{read_bytes, wanted_of}
pub use Rattle.nj_c.specs.UndeclaredInputs.{numbered_input, GivesInputs, GivesUndeclared, InputsKeptUnlessDone}
pub use Rattle.nj_names.specs.NameTables.{with_name}
pub use Rattle.nj_edges.specs.Repeats.{each_once}
