-- What the contracts of this crate cite: each name comes from the module in its line.
pub use Rattle.nj_changes.specs.Tables.{HasMore, SameNames}
pub use Rattle.nj_changes.specs.FullPaths.{all_sought, full_path, has_one, path_below, sought}
pub use Rattle.nj_text.specs.Paths.{clean_path_of, is_absolute}
pub use Rattle.nj_names.specs.NameTables.{is_among}
pub use Rattle.nj_text.specs.Calls.{is_empty}
pub use Rattle.std.specs.List.{filter}
pub use Rattle.nj_changes.specs.Given.{ended_by, lines_of, zero_ended}
pub use Rattle.std.specs.Str.Lines.{strip_carriage_return}
pub use Rattle.nj_changes.specs.Ignored.{AreGlobsOf, AreLeft, IsFirstWrong, IsPatternFault, MatchesOne}
pub use Rattle.nj_changes.specs.declared.ignored.PatternFault.TheVariants.{OutOfMemory}
pub use Rattle.nj_changes.specs.Laws.{LinesAreRead, SpellingsAreOne, ZeroEndedPathsAreRead}
