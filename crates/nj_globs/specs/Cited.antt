-- What the contracts of this crate cite: each name comes from the module in its line.
pub use Rattle.nj_globs.specs.Inside.Fits.{AreFits, fit_with, after_slash_with, part_model, parts_model, takes, may_be_empty}
pub use Rattle.nj_globs.specs.Globs.{Matches, is_in_ranges}
pub use Rattle.nj_globs.specs.Patterns.{ArePartsOf, IsGlobFault, is_sign, letters_from, is_lone, begins_after, has_mark, HaveRanges}
pub use Rattle.nj_globs.specs.declared.glob_fault.GlobFault.TheVariants.{OutOfMemory}
pub use Rattle.nj_globs.specs.Faults.{fault_text}
pub use Rattle.nj_globs.specs.Laws.{LettersWriteThePattern, OneReading, GoodPatternsAreRead, OneFault, DoubleStarMatchesAll}
pub use Rattle.nj_globs.specs.Laws.{PlainPatternsMatchThemselves}
pub use Rattle.std.specs.List.{list_any}
pub use Rattle.nj_globs.specs.Inside.Readings.{AreAllParts, read_part, read_set, read_stars, without_mark, split_set, range_end}
pub use Rattle.nj_globs.specs.Inside.Readings.{IsRangeFault, Gives, FailsBy}
