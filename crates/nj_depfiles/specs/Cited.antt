-- What the contracts of this crate cite: each name comes from the module in its line.
pub use Rattle.nj_depfiles.specs.Depfiles.{depfile_of, ends_in_colon, name_in}
pub use Rattle.nj_depfiles.specs.declared.depfile_fault.DepfileFault.TheVariants.{OutOfMemory}
pub use Rattle.nj_depfiles.specs.Faults.{fault_text}
pub use Rattle.nj_depfiles.specs.Pieces.{after_backslashes, backslashes, byte_at, ends_targets, first_piece, is_dollar, line_end_at}
pub use Rattle.nj_depfiles.specs.Pieces.{literals, pieces, plain_piece, sign_piece, stands_for_itself}
pub use Rattle.nj_depfiles.specs.Inside.PiecesCut.{IsCutAs, piece_of}
pub use Rattle.nj_depfiles.specs.Inside.Readings.{Answers, GoesOn, at_start, before_word, piece_read, told, then_read, with_name_read}
pub use Rattle.nj_depfiles.specs.Inside.Readings.{word_ended}
