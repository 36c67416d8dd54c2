-- What the contracts of this crate cite: each name comes from the module in its line.
pub use Rattle.nj_changes.specs.Tables.{HasMore}
pub use Rattle.nj_graph.specs.Handles.{edge_of, paths_of, OfEdge, file_of}
pub use Rattle.nj_graph.specs.Graph.{edges_of, OfStatements, files_of}
pub use Rattle.std.specs.List.{flat_map, filter}
pub use Rattle.nj_reached.specs.Inside.Handles.{full_outputs, full_paths_in, full_unused}
pub use Rattle.nj_changes.specs.FullPaths.{full_path}
pub use Rattle.nj_reached.specs.GraphChanges.{full_paths, outputs_made, has_deps, is_compiled, noticed_outputs, IsChangeOf, outputs_at}
pub use Rattle.nj_graph.specs.Edges.{outputs_of}
pub use Rattle.nj_reached.specs.Laws.{GraphsNoticeTheChange}
pub use Rattle.nj_names.specs.Files.{path_at}
pub use Rattle.nj_chosen.specs.Reasons.{without}
pub use Rattle.nj_reached.specs.Inside.Filling.{Fills, IsUnfilled}
pub use Rattle.nj_graph.specs.Changes.{IsAffected}
pub use Rattle.nj_chosen.specs.ChangedPaths.{change_by}
