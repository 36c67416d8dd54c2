-- What the contracts of this crate cite: each name comes from the module in its line.
pub use Rattle.nj_keys.specs.Keys.{additions_text, content_addition, field, number, all_commands, edges_stated, HaveKeys, bars, fields_of}
pub use Rattle.nj_keys.specs.Keys.{fields_text, input_text, inputs_with_keys, maker_key, response_of, variable_of, IsKey, Needs}
pub use Rattle.nj_keys.specs.Keys.{AdditionsTell, AdditionsTellContents, DiscoveriesChangeNoKey, EdgesHaveKeys, KeysAreUnique}
pub use Rattle.nj_keys.specs.Keys.{LinesAreUnique, ListsOfKeysAreUnique, PagesOfLinesJoin, TextsTellFields, TextsTellEdges, TextsTellMapped}
pub use Rattle.nj_keys.specs.Keys.{KeysTellFields, line, ListsKeys}
pub use Rattle.nj_keys.specs.Inside.Additions.{digest_of_additions, key_after}
pub use Rattle.std.specs.List.{flat_map}
pub use Rattle.sha2.specs.Sha256.{sha256}
pub use Rattle.nj_graph.specs.Graph.{edges_of, OfStatements}
pub use Rattle.nj_text.specs.Paths.{clean_path_of, is_absolute}
pub use Rattle.nj_keys.specs.Bases.{is_quote, is_separator, is_path_byte, ends_before, begins_with_quote, stands_at, longest_at}
pub use Rattle.nj_keys.specs.Bases.{front_mapped, mapped, MappedTells}
pub use Rattle.nj_keys.specs.Inside.Folders.{may_begin_after, paths}
pub use Rattle.nj_graph.specs.Handles.{OfEdge, edge_of, file_of, files_in, paths_of, GraphEdge}
pub use Rattle.nj_graph.specs.Edges.{edge_at, outputs_of, maker_of, first_output}
pub use Rattle.nj_keys.specs.Inside.Keeping.{kept_key, inputs_in, made_by, IsAcyclic, IsKept, IsMissing, KeepsKeys, MakesOne}
pub use Rattle.nj_keys.specs.Inside.FileTexts.{input_texts, path_texts}
pub use Rattle.nj_keys.specs.Pages.{PagesAreAll, PagesLeaveTheRest, StartLeavesAll, leads, left_at, BeginsAfter}
pub use Rattle.hex.specs.Hex.{encode_lower}
pub use Rattle.nj_needs.specs.Walks.{WalkState}
pub use Rattle.nj_needs.specs.PageWalks.{written, StopsAt}
