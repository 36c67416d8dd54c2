-- What the contracts of this crate cite: each name comes from the module in its line.
pub use Rattle.std.specs.List.Sorted.{IsStrictlyIncreasing}
pub use Rattle.nj_edges.specs.Changes.{IsAffected, AffectedEdgesNeedTheFiles, IsOrNeeds}
pub use Rattle.nj_edges.specs.Edges.{edges_from, edge_at, counted_inputs_of, outputs_of, maker_of, is_among, is_named, inputs_of, kind_at}
pub use Rattle.nj_edges.specs.Edges.{roots_of, users_of, validation_users_of, EdgePaths}
pub use Rattle.nj_names.specs.Files.{path_at, AreFiles}
pub use Rattle.nj_edges.specs.Inside.ChangesHeld.{FindsMore, HasInputOf}
pub use Rattle.nj_edges.specs.Inside.UsersHeld.{numbers_of, HaveUsers, HaveUsersIfAny, using_edges, AreCounted, AreCounts, AreEnds}
pub use Rattle.nj_edges.specs.Inside.UsersHeld.{AreMarks, AreParts, ArePlaced, HaveCapacity, plus_use, plus_uses, span_of, starts_with}
pub use Rattle.nj_edges.specs.Inside.UsersHeld.{users_before}
pub use Rattle.nj_edges.specs.Inside.ChainsHeld.{AddsInOrder, AddsMakers, ChainIs, ComeFromEarlier, MakesInput, StepIs, StepToIs, Traces}
pub use Rattle.nj_edges.specs.Inside.ChainsHeld.{with_arrival}
pub use Rattle.nj_edges.specs.Chains.{inputs_with, OnePathIsRight, PathIs, inputs_of_kinds}
pub use Rattle.nj_names.specs.NumberSets.{has, with_number}
pub use Rattle.std.specs.List.{IsDistinct, list_any, filter, AllByRecursion}
pub use Rattle.nj_edges.specs.Dirty.{IsDirty, OtherEdgesAreUntouched}
pub use Rattle.nj_edges.specs.Inside.DirtyHeld.{HasOneIn, HaveUsersIn}
pub use Rattle.nj_edges.specs.EdgeTables.{no_files, EndWithin, with_output, with_input, with_validation, is_made, is_named_so_far}
pub use Rattle.nj_edges.specs.EdgeTables.{edge_read, plus_output}
pub use Rattle.nj_edges.specs.Inside.EdgesHeld.{AreNumbers, HasFiles, EdgesAreHeld, edges_of, lists_of, no_lists, with_row, row_between}
pub use Rattle.nj_edges.specs.Inside.EdgesHeld.{has_number, is_made_by, paths_at, IsWithin, IsNamed, within}
pub use Rattle.nj_edges.specs.Graph.{FinishesAs, IsFirstCycle}
pub use Rattle.nj_edges.specs.Joining.{none_added, join_of, with_added_output, with_added_input, with_joined, is_made_so_far, is_joined}
pub use Rattle.nj_cycles.specs.Cycles.{IsAcyclic}
pub use Rattle.nj_edges.specs.Needs.{makers_of_inputs}
pub use Rattle.nj_edges.specs.Inside.JoiningHeld.{JoinIsHeld, all_joined, joined_edge, plus_inputs, plus_outputs, plus_validations}
pub use Rattle.nj_edges.specs.Inside.JoiningHeld.{spans_of, with_edge}
pub use Rattle.nj_edges.specs.Inside.MakersHeld.{maker_held}
pub use Rattle.nj_edges.specs.Inside.MarksHeld.{MarksFiles, MarksInputs, is_marked}
pub use Rattle.nj_edges.specs.MoreInputs.{at_next_edge, with_new_input}
pub use Rattle.nj_edges.specs.Distances.{AreNearestFirst, IsNeeded, MakesOneOf}
pub use Rattle.nj_edges.specs.Inside.NeedsSearched.{IsSearch, AreMakers, Finds, IsSearchAt, IsSearched, StartsWith, Tells}
pub use Rattle.nj_edges.specs.Inside.RootsHeld.{AreFlags}
pub use Rattle.nj_edges.specs.Inside.RowsHeld.{wide_row, wide_span}
