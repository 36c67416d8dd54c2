-- What the contracts of this crate cite: each name comes from the module in its line.
pub use Rattle.nj_tools.specs.Compdb.{is_chosen, text_fault, has_object, compilation_of, compdb_text, unheld_edge, WritesCompdb}
pub use Rattle.nj_tools.specs.Compdb.{json_string}
pub use Rattle.nj_graph.specs.Graph.{OfStatements, edges_of, files_of, IsGraphOf, GraphModel}
pub use Rattle.nj_graph.specs.Handles.{OfEdge, edge_in, edge_of, file_of, files_in, paths_of}
pub use Rattle.nj_needs.specs.PageWalks.{written, StopsAt}
pub use Rattle.nj_tools.specs.CommandStrings.{command_lines, own_commands}
pub use Rattle.nj_tools.specs.Inside.Commands.{command_line}
pub use Rattle.nj_needs.specs.Order.{made_by}
pub use Rattle.nj_tools.specs.Inside.Seen.{single, AreSeen, makers_of_file, new_command}
pub use Rattle.nj_tools.specs.Texts.{WritesText}
pub use Rattle.nj_scope.specs.ReadingList.{ReadStatement}
pub use Rattle.nj_tools.specs.Inside.CompdbHeld.{Refuses, command_text, first_path, held_compilation, list_text, object_of_strings}
pub use Rattle.nj_tools.specs.Inside.CompdbHeld.{held_string}
pub use Rattle.nj_statements.specs.EdgeList.{edges_read}
pub use Rattle.nj_tools.specs.Inside.Outputs.{IsSame, PutsText}
pub use Rattle.std.specs.List.{fold}
pub use Rattle.json.specs.Print.{print}
pub use Rattle.nj_tools.specs.EdgeObjects.{discovery_word, edge_lines, edge_object, file_members, head_members, stated_count}
pub use Rattle.nj_tools.specs.EdgeObjects.{unwritable_edge, value_member, value_members, place_object}
pub use Rattle.nj_tools.specs.Inside.ObjectTexts.{and_member, held_text, and_string, and_token, no_members_yet}
pub use Rattle.nj_graph.specs.Errors.{error_of_text}
pub use Rattle.nj_tools.specs.Errors.{TakesGraphFault, error_of_graph, error_of_mark, error_of_tool, error_text, fault_text}
pub use Rattle.nj_names.specs.NameTables.{with_name, is_among}
pub use Rattle.nj_tools.specs.Inside.Collections.{with_paths, HasExactly, inputs_of_all, new_path, new_paths, sources_among}
pub use Rattle.nj_names.specs.Files.{path_at}
pub use Rattle.nj_tools.specs.Listings.{each_once, sorted, printed, printed_strings, terminated, inputs_text, LinesRise, ListedHaveLines}
pub use Rattle.nj_tools.specs.Listings.{SortedInputsRise, PrintedStringsDiffer, ListedArePrinted, PlainInputsAreSortedQuotes, made_line}
pub use Rattle.nj_tools.specs.Listings.{outputs_of_rule, sources_in, outputs_text, targets_text, file_line, indent, inputs_of_maker}
pub use Rattle.nj_tools.specs.Listings.{levels_of, trees_text}
pub use Rattle.nj_tools.specs.Inside.Pieces.{printed_text, output_lines, query_of_file, validated_lines, validation_lines, lines_of_rule}
pub use Rattle.nj_tools.specs.Inside.Pieces.{made_lines, path_lines}
pub use Rattle.nj_tools.specs.CompdbJson.{CompdbIsJson}
pub use Rattle.nj_tools.specs.Laws.{DepthZeroShowsAll}
pub use Rattle.nj_tools.specs.EdgeJson.{EdgeLinesAreJson}
pub use Rattle.std.specs.Option.{ForSome}
pub use Rattle.std.specs.Fmt.{decimal}
pub use Rattle.json.specs.Json.{array, boolean, number, string}
pub use Rattle.json.specs.Token.{begin_array, begin_object, end_array, end_object, key}
pub use Rattle.nj_tools.specs.JsonObjects.{strings}
pub use Rattle.nj_tools.specs.Queries.{inputs_by_kind, maker_text, query_text}
pub use Rattle.nj_tools.specs.Lines.{line, lines}
pub use Rattle.nj_edges.specs.Edges.{maker_of}
pub use Rattle.nj_tools.specs.RuleLists.{rules_text}
pub use Rattle.nj_text.specs.Quotes.{quoted}
pub use Rattle.nj_tools.specs.Inside.QuotesHeld.{quote_strings, precedes_plain}
pub use Rattle.nj_tools.specs.Inside.Trees.{rows_left}
pub use Rattle.nj_tools.specs.Sinks.{Writes}
