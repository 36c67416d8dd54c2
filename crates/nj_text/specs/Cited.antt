-- What the contracts of this crate cite: each name comes from the module in its line.
pub use Rattle.nj_text.specs.Bytes.{drop_while, is_line_feed, is_digit, begins_with}
pub use Rattle.nj_text.specs.Inside.Scans.{units_within, begins_with_space_byte, line_end_length, dollar_found, LandsIn, advance, is_first}
pub use Rattle.nj_text.specs.Inside.Scans.{sign_length, NextUnitIs, unit_length, HasLength}
pub use Rattle.nj_text.specs.Words.{is_blank, word_model, opens_word, next_fault, plain_model}
pub use Rattle.std.specs.List.{list_any, slice_split, after_first, AllByRecursion, prefix_len, list_all, flat_map, take_while}
pub use Rattle.nj_text.specs.Paths.{is_slash, is_absolute, clean_path_of, IsName}
pub use Rattle.nj_text.specs.Inside.Cleaning.{Kept, component_of, with_component, text_with_component, nothing_kept, kept_after, text_kept}
pub use Rattle.nj_text.specs.Inside.Cleaning.{IsWritten, BeginsWith, DropsName, components_left, all_stay, is_here, any, begins_name}
pub use Rattle.nj_text.specs.Inside.Cleaning.{ends_with_slash, is_suspect, suspects, stays_clean}
pub use Rattle.std.specs.Option.{option_copied, option_map}
pub use Rattle.nj_text.specs.Units.{after_dollar, in_braces, opens_comment}
pub use Rattle.nj_text.specs.Calls.{fault_spot, unit_of, Answers, ReturnsOrLacksMemory, at_front, start_line_of, ident_of, sign_of}
pub use Rattle.nj_text.specs.Calls.{path_word_of, value_of, spot_of, skip_blanks_of, TakesPlainWord, TakesBinding, Failed, without_comments}
pub use Rattle.nj_text.specs.Calls.{after_blanks, ident_at, word_at, value_at, Between, sign_at}
pub use Rattle.nj_text.specs.Faults.{lex_line, lex_text, path_fault_text, spot_text}
pub use Rattle.std.specs.Simd.Lanes.{mask_l, chunk, zip2}
pub use Rattle.nj_text.specs.Inside.Runs.{in_run, lane_run}
pub use Rattle.nj_text.specs.Laws.{UnitsAreTheText, UnitsComeInPlace, LinesAreTheUnits, PartsComeInOrder}
pub use Rattle.nj_text.specs.Inside.States.{FinishesValue, lines_at, BegunIs, BegunAfterSpaces, Steps, StepsOrLacksMemory, unless_bad}
pub use Rattle.nj_text.specs.Inside.States.{line_at, other_lines_at, inside, lines_within, EndsLine, SignIs}
pub use Rattle.std.specs.Fmt.{WritesOnOk}
pub use Rattle.std.specs.Str.Lossy.{utf8_lossy}
pub use Rattle.nj_text.specs.Inside.Chunks.{replaced}
pub use Rattle.nj_text.specs.Numbers.{greatest, leading_number_of, version_pair_of}
pub use Rattle.nj_text.specs.Inside.Gathering.{run_of, Gathers, NextPartIs, TakesRun, NoneInRun, IsShorter}
pub use Rattle.std.specs.Bool.{OnTrue}
pub use Rattle.nj_text.specs.PathLaws.{CleanedPathsAreClean, CleanPathsStay, CleaningIsIdempotent}
pub use Rattle.nj_text.specs.declared.paths.TextFault.TheVariants.{EmptyPath}
pub use Rattle.nj_text.specs.Quotes.{is_plain_byte, within_quotes, in_quotes, quoted}
pub use Rattle.nj_text.specs.Inside.PlainWords.{no_word_begins, word_ends}
pub use Rattle.nj_text.specs.QuoteLaws.{ShellTakesThePath}
pub use Rattle.nj_text.specs.Inside.Quoting.{after_run}
