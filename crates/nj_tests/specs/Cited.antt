-- What the contracts of this crate cite: each name comes from the module in its line.
pub use Rattle.nj_tests.specs.WordLaws.{SpellingsNameTheSame, AbsolutePathsNameTheSame, WayRoundNamesTheSame, WordsArePieces}
pub use Rattle.nj_tests.specs.WordLaws.{RestsArePieces, PiecesBetweenSigns, PiecesBetweenCuts}
pub use Rattle.nj_tests.specs.Words.{is_sign, is_cut, rests_of, stretches_of, attached_to, pieces_in, pieces_of, path_in, folder_of}
pub use Rattle.nj_tests.specs.Words.{path_of, names_of}
pub use Rattle.nj_text.specs.Paths.{clean_path_of}
pub use Rattle.std.specs.List.{slice_split, list_any}
pub use Rattle.nj_tests.specs.Inside.Pieces.{filled}
