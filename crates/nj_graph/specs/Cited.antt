-- What the contracts of this crate cite: each name comes from the module in its line.
pub use Rattle.std.specs.Iterator.{YieldsFirstBy, item_count}
pub use Rattle.std.specs.List.{IsDistinct, range_with_len, AllByRecursion, Contains}
pub use Rattle.nj_graph.specs.Graph.{edges_of, files_of, OfStatements, IsGraphOf, rule_name_at, is_dyndep_restat, late_text_of, main_rules}
pub use Rattle.nj_graph.specs.Graph.{main_rule_at, rule_name, description, has_description, description_text, NamesRise, ListsMainRules}
pub use Rattle.nj_graph.specs.Graph.{GraphModel, rule_number_at, scope_number_at}
pub use Rattle.nj_graph.specs.Handles.{edge_of, edges_in, file_of, files_in, OfEdge, paths_of, detail_of_edge, edge_in, number_of, file_in}
pub use Rattle.nj_graph.specs.Handles.{commands_needed, ListsAffected, ListsNeeded}
pub use Rattle.nj_statements.specs.EdgeList.{block_at, block_names_at, edges_read, assigned_at, assigned_read}
pub use Rattle.nj_manifest.specs.Contents.{words_model, build_model, rule_model, pool_model, lines_model, placed_model}
pub use Rattle.nj_manifest.specs.Statements.{DefaultModel, BindingModel}
pub use Rattle.nj_graph.specs.Reading.{entry_at, depth_fault, expanded_in, path_fault, opened_in, text_read, statement_read, main_read}
pub use Rattle.nj_graph.specs.Inside.ReaderContracts.{InFile, ScopesGrow, Declares, InScope, Checks, site_scope, Has, IsOpenIn, site_of}
pub use Rattle.nj_graph.specs.Inside.ReaderContracts.{place_in, named_item, named_site, EntersScope, ReturnsText, OpensOrStops, GivesPath}
pub use Rattle.nj_graph.specs.Inside.ReaderContracts.{OpensPath, FinishesReading, IsNew, ReadsItem, ReadsOrStops, NextIs}
pub use Rattle.nj_text.specs.Words.{word_model, WordModel}
pub use Rattle.nj_graph.specs.Origins.{depth_of, rule_place_given, pool_detail_given, opening_given, main_of, opening_model, openings_read}
pub use Rattle.nj_graph.specs.Origins.{place_text, rule_place_at, origins_read, pool_details, rule_places}
pub use Rattle.nj_text.specs.Paths.{clean_path_of}
pub use Rattle.nj_names.specs.NameTables.{name_at, is_among}
pub use Rattle.nj_scope.specs.ReadingList.{ReadStatement, gathered, files_opened, pools, rules_read, scope_of, scopes_opened}
pub use Rattle.nj_scope.specs.ReadingList.{value_if_bound}
pub use Rattle.nj_scope.specs.Readings.{IsPrefix}
pub use Rattle.nj_edges.specs.Edges.{edge_at, first_output, inputs_of, outputs_of, maker_of, users_of, validation_users_of, is_named}
pub use Rattle.nj_edges.specs.Edges.{roots_of}
pub use Rattle.nj_edges.specs.MoreInputs.{with_new_input}
pub use Rattle.nj_graph.specs.DepsLogs.{JoinsLog, inputs_logged, number_logged, JoinsNamed, SameLogChangesNothing}
pub use Rattle.nj_graph.specs.Inside.InputSteps.{joined_edges, AreFilesOf, inputs_found}
pub use Rattle.nj_graph.specs.Inside.LogSteps.{AreNumbersLogged, inputs_by_numbers, numbers_if_any}
pub use Rattle.nj_deps.specs.Logs.{numbers_of}
pub use Rattle.nj_discovered.specs.Discoveries.{discovery_at}
pub use Rattle.nj_discovered.specs.Discovered.{IsLater}
pub use Rattle.nj_graph.specs.Discovering.{AreDiscovered}
pub use Rattle.nj_graph.specs.ResponseFiles.{command_with_rsp_of, first_position, sign_position, on_one_line, with_content}
pub use Rattle.nj_graph.specs.Errors.{TakesFault, error_of_text, error_text}
pub use Rattle.nj_graph.specs.declared.error.Error.TheVariants.{OutOfMemory}
pub use Rattle.nj_names.specs.Files.{path_at, AreFiles}
pub use Rattle.nj_text.specs.declared.spot.Spot.{Spot}
pub use Rattle.nj_scope.specs.Declarations.{DeclaredBy}
pub use Rattle.nj_edges.specs.EdgeGraphs.{EdgeGraph}
pub use Rattle.nj_edges.specs.Repeats.{each_once}
pub use Rattle.nj_graph.specs.Undeclared.{AreThose, InputOfEdge, IsUndeclared, input_of_edge, inputs_of_edge, AreUndeclared}
pub use Rattle.nj_graph.specs.Undeclared.{paths_of_output}
pub use Rattle.nj_graph.specs.Inside.UndeclaredFound.{AddsFile, AreMade, FindsAt, IsFound, IsKnownIfAny, MadeIs, inputs_by_number}
pub use Rattle.nj_graph.specs.Inside.GraphHeld.{HasMainRules}
pub use Rattle.nj_statements.specs.Built.{defaults_in_force, detail_at}
pub use Rattle.nj_text.specs.Calls.{is_empty}
pub use Rattle.nj_scope.specs.Laws.{IsInReadingOrder}
pub use Rattle.nj_graph.specs.Joining.{JoinedStaysJoined}
pub use Rattle.nj_graph.specs.Laws.{ReadIsFaultless, OpenFilesAreBounded, OpeningsAreBounded, OthersAreNotRead, MainRulesRise}
pub use Rattle.nj_graph.specs.Laws.{LaterBindingsCount, LaterBindingsChangeNoEdge, StatementsAreFoundInTurn, EntriesAreFoundInTurn}
pub use Rattle.nj_graph.specs.Laws.{FirstPositionIsFirst, SignIsBeforeTheFirst, WordsMeanPaths, EmptyWordMeansNothing, Faultless}
pub use Rattle.nj_scope.specs.Scopes.{parent_at, IsScope}
pub use Rattle.nj_graph.specs.Loads.{Loads}
pub use Rattle.nj_graph.specs.Inside.OriginsHeld.{place_held}
pub use Rattle.nj_faults.specs.Faults.{IsFault, fault_at}
pub use Rattle.nj_graph.specs.Targets.{target, first_made_of, made_target, clean_target, picked, targets_named, targets_or, Picks}
pub use Rattle.nj_graph.specs.Targets.{PicksFile, PicksFiles, PicksTargets}
pub use Rattle.nj_names.specs.NumberSets.{has}
