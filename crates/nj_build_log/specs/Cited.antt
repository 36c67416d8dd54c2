-- What the contracts of this crate cite: each name comes from the module in its line.
pub use Rattle.nj_build_log.specs.Logs.{build_log_of, entry_of, line_model, outputs_of, line_of, lines_of, counted_part, is_line_feed}
pub use Rattle.nj_build_log.specs.Logs.{is_decimal_digit, is_number, known_version, logged_lines, version_number}
pub use Rattle.nj_build_log.specs.declared.build_log_fault.BuildLogFault.TheVariants.{OutOfMemory}
pub use Rattle.std.specs.List.{IsDistinct, before_first, after_first, list_all}
pub use Rattle.nj_build_log.specs.Faults.{fault_text}
pub use Rattle.nj_build_log.specs.CommandHashes.{hashed_text, command_hash}
pub use Rattle.nj_build_log.specs.Murmur.{word, multiplied, folded, murmur_of, with_block, with_blocks, with_rest}
pub use Rattle.nj_build_log.specs.Laws.{LastLineCounts, UnendedLineChangesNothing, FewTabsChangeNothing, WrittenLinesAreRead}
pub use Rattle.nj_names.specs.NameTables.{with_name}
pub use Rattle.nj_build_log.specs.Inside.LinesHeld.{SetsEntry, split_at_first}
pub use Rattle.nj_build_log.specs.Numbers.{is_blank, without_blanks, leading_value, long_of, int_of, without_prefix, hash_of}
pub use Rattle.std.specs.Str.Parse.{starts_with_minus, without_leading_sign}
pub use Rattle.std.specs.Iterator.{YieldsFirstRef, item_count}
pub use Rattle.nj_build_log.specs.Rapid.{rapid_of, with_states, states_after, low_half, high_half, mix, started, mixed_in, joined}
pub use Rattle.nj_build_log.specs.Rapid.{with_left, of_three, of_fours, short_ends, ends, state_of, finished}
