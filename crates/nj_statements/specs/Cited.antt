-- What the contracts of this crate cite: each name comes from the module in its line.
pub use Rattle.std.specs.Option.{option_or}
pub use Rattle.nj_manifest.specs.Contents.{words_model, outputs_model, used_rule, inputs_model, lines_model, build_model}
pub use Rattle.nj_manifest.specs.Statements.{DefaultModel}
pub use Rattle.nj_scope.specs.Readings.{IsPrefix}
pub use Rattle.nj_scope.specs.Scopes.{IsScope, parent_at, first_given, part_expanded, expanded}
pub use Rattle.nj_scope.specs.Declarations.{DeclaredBy}
pub use Rattle.nj_scope.specs.ReadingList.{ReadStatement, rule_in_force, rules_read, pools, value_after}
pub use Rattle.nj_edges.specs.EdgeTables.{no_files, EndWithin, edge_read}
pub use Rattle.nj_statements.specs.EdgeList.{Values, paths_given, line_values, edge_of_build, edges_read, paths_of_edges, assigned_at}
pub use Rattle.nj_statements.specs.EdgeList.{restat_at, path_given, file_given, name_given, edge_given, assigned_given, assigned_read}
pub use Rattle.nj_statements.specs.EdgeList.{block_of, names_bound, stated_paths, loses_own, edge_paths}
pub use Rattle.nj_statements.specs.BuildFaults.{paths_fault, late_fault, target_fault, build_fault, default_fault, empty_path}
pub use Rattle.nj_statements.specs.BuildFaults.{outputs_fault, variable_cycle_fault, unknown_pool, dyndep_not_input, inputs_fault}
pub use Rattle.nj_statements.specs.Answers.{Checks, HasEdges, AddsNothing, ReadsStatement, entry_at_place}
pub use Rattle.nj_statements.specs.Built.{ComesTo, defaults_in_force, detail_at, IsBuiltOf}
pub use Rattle.nj_statements.specs.Inside.EdgeSteps.{SeesNames, AddsTargets, with_dyndep, AreNumbersOf, SeesLate, IsFileGiven, assigned_by}
pub use Rattle.nj_statements.specs.Inside.EdgeSteps.{names_fault, IsDetailOf, AreClean, KeepsClean, bound_by, Grows, AddsInputs, AddsEdge}
pub use Rattle.nj_statements.specs.Inside.EdgeSteps.{names_read, with_outputs, with_input_unless, with_inputs, with_validations}
pub use Rattle.nj_names.specs.Files.{AreFiles, path_at}
pub use Rattle.nj_statements.specs.Records.{AreOfGraph, with_graph, numbered, spot_of, numbered_at, IsNumbered}
pub use Rattle.std.specs.List.{AllByRecursion, IsDistinct}
pub use Rattle.nj_text.specs.Words.{word_model, part_model, Text}
pub use Rattle.nj_manifest.specs.DyndepParsers.{entry_model}
pub use Rattle.nj_edges.specs.Edges.{edge_at, first_output, first_edge, maker_of, EdgePaths}
pub use Rattle.nj_edges.specs.Joining.{join_of, none_added, is_joined}
pub use Rattle.nj_faults.specs.Faults.{IsFault, fault_at}
pub use Rattle.nj_statements.specs.Joining.{no_values, entry_fault, with_entry, lacking_fault}
pub use Rattle.nj_statements.specs.JoiningHeld.{HasJoined, JoinsEntry, JoinsNothing, KeepsEdges, has_pending, still_pending, unless_joined}
pub use Rattle.nj_statements.specs.Inside.JoiningSteps.{IsMeant, fault_of_pending, bind_all, first_edges, count_bound, AreByNumber}
pub use Rattle.nj_statements.specs.Inside.JoiningSteps.{edges_in, is_bound_to, if_bound, maker_fault, edge_bound, with_added_outputs}
pub use Rattle.nj_statements.specs.Inside.JoiningSteps.{with_added_inputs, with_restat}
pub use Rattle.nj_edge_env.specs.LateStrings.{LateNames, asked_text}
pub use Rattle.nj_edge_env.specs.ReferencesHeld.{TellsCycles}
pub use Rattle.nj_scope.specs.Laws.{IsInReadingOrder}
pub use Rattle.nj_statements.specs.Logged.{NamedInputsAreAdded}
pub use Rattle.nj_statements.specs.Laws.{AddsToOneEdge, OthersArePendingAsBefore, NamesStay, EntriesAddToTheirEdges}
pub use Rattle.nj_statements.specs.Laws.{EdgesMakeWhatIsDiscovered, NoFileGetsTwoMakers, PendingEdgesRise, DyndepFilesComeOnce}
pub use Rattle.nj_text.specs.Paths.{clean_path_of}
pub use Rattle.nj_edges.specs.Graph.{FinishesAs}
pub use Rattle.nj_names.specs.NameTables.{name_at}
pub use Rattle.nj_text.specs.Calls.{is_empty}
pub use Rattle.nj_text.specs.declared.paths.TextFault.TheVariants.{EmptyPath}
pub use Rattle.nj_edge_env.specs.Blocks.{bound_in, names_in}
pub use Rattle.nj_edge_env.specs.LateEdges.{late_names}
pub use Rattle.nj_statements.specs.Inside.StatedEdge.{edge_fault, names_meant, paths_meant}
