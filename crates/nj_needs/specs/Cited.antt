-- What the contracts of this crate cite: each name comes from the module in its line.
pub use Rattle.std.specs.Option.{ForSome, option_copied}
pub use Rattle.nj_edges.specs.Edges.{edge_at}
pub use Rattle.nj_names.specs.Files.{path_at, AreFiles}
pub use Rattle.nj_needs.specs.Growing.{grown_targets, RoundsAppend, GrownTargetsStay, GrownTargetsReachTheFollowed}
pub use Rattle.nj_needs.specs.Laws.{FuelIsEnough, EdgesComeAfterMakers, CommandsAreTheReached, CommandsComeOnce, CommandsComeAfterNeeds}
pub use Rattle.nj_needs.specs.Laws.{FirstPlacesAreOne}
pub use Rattle.nj_needs.specs.Pages.{MarkKeepsTheRest, PagesJoin, RestIsSuffix}
pub use Rattle.nj_needs.specs.Graphs.{count_of, makers_of, row_of}
pub use Rattle.nj_needs.specs.Inside.Tops.{row_in, IsTop}
pub use Rattle.nj_needs.specs.declared.mark_fault.MarkFault.TheVariants.{OutOfMemory}
pub use Rattle.nj_needs.specs.MarkFaults.{fault_text, IsReadFault}
pub use Rattle.nj_needs.specs.MarkLaws.{WrittenMarksAreGiven, GivenMarksAreWritten}
pub use Rattle.std.specs.List.{slice_split}
pub use Rattle.nj_needs.specs.MarkTexts.{numbers_in, mark_text, given_mark, ReadsBack}
pub use Rattle.nj_needs.specs.Inside.MarkScanning.{has_plain_front, is_dot, parts_left}
pub use Rattle.std.specs.Str.{bytes_eq}
pub use Rattle.nj_needs.specs.Resuming.{ResumeIs}
pub use Rattle.nj_needs.specs.Walks.{BeginsAt, commands_of, IsSound, IsSameWalk, NextIs, ReturnsNext, WalkState, rest_of}
pub use Rattle.std.specs.Iterator.{item_count}
pub use Rattle.nj_needs.specs.Counts.{saturated}
pub use Rattle.nj_needs.specs.Inside.Standing.{turns_left_of, IsWalk, left_of, top_of, TurnIs}
pub use Rattle.nj_needs.specs.Inside.Views.{state_of, IsNeeds}
pub use Rattle.nj_needs.specs.PageWalks.{written, GoesOn, HasSoFar, StopsAt}
pub use Rattle.nj_needs.specs.Inside.Paths.{places}
pub use Rattle.nj_needs.specs.Inside.Saved.{KeepsFront}
pub use Rattle.std.specs.Bool.{OnTrue}
pub use Rattle.nj_cycles.specs.Cycles.{IsAcyclic}
pub use Rattle.nj_needs.specs.Inside.Heading.{IsHeading}
pub use Rattle.nj_needs.specs.Marks.{is_valid}
pub use Rattle.nj_needs.specs.Needs.{AreWithin}
