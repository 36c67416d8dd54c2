-- What the contracts of this crate cite: each name comes from the module in its line.
pub use Rattle.std.specs.List.{flat_map, filter, list_any}
pub use Rattle.nj_chosen.specs.Reasons.{without, programs_of, counted, is_of_outputs, kinds_of, link_of, first_named, reason_by, why_of}
pub use Rattle.nj_chosen.specs.Reasons.{without_link}
pub use Rattle.nj_changes.specs.Tables.{HasMore, SameNames}
pub use Rattle.nj_chosen.specs.Inside.Folders.{folders_of, AreFoldersOf}
pub use Rattle.nj_chosen.specs.Laws.{ChosenAreLeast, OthersNameNothing, OwnProgramsChooseAnyway}
pub use Rattle.nj_names.specs.NameTables.{is_among}
pub use Rattle.nj_tests.specs.Tests.{test_model}
pub use Rattle.nj_chosen.specs.TestPaths.{named_by_tests, first_word, has_lost_bytes, is_lost, is_unknown, names_of_test}
pub use Rattle.nj_chosen.specs.Inside.Numbers.{row_at, set_row}
pub use Rattle.nj_chosen.specs.Directories.{is_at_or_above, is_below, is_telling}
pub use Rattle.nj_chosen.specs.ChangedPaths.{change_by}
pub use Rattle.nj_chosen.specs.Inside.Tables.{kinds_in}
pub use Rattle.nj_text.specs.Paths.{is_absolute}
pub use Rattle.nj_tests.specs.Words.{names_of}
