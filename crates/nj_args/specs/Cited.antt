-- What the contracts of this crate cite: each name comes from the module in its line.
pub use Rattle.clap.specs.Words.{app_of, rule_of, with_rule, first_of, matches_of}
pub use Rattle.nj_args.specs.CommandLine.{command, nothing_yet, flag}
pub use Rattle.nj_args.specs.Inside.Held.{option_at, option_in, with_letter, with_name, all_words, rows_in, word_strings, is_refused}
pub use Rattle.nj_args.specs.Inside.Held.{refusal, begins_with_plus, depth_of, inputs_of, targets_of, query_of, rules_of, compdb_of}
pub use Rattle.nj_args.specs.Inside.Held.{given_request, wordless, goes_with, first_foreign}
pub use Rattle.std.specs.Option.{option_copied}
pub use Rattle.nj_args.specs.Fields.{is_on, words_in}
pub use Rattle.nj_args.specs.declared.usage_fault.UsageFault.TheVariants.{Unparsed, OutOfMemory}
pub use Rattle.nj_args.specs.FirstFaults.{FirstFaultIsReported, FaultlessWordsAreRequests}
pub use Rattle.nj_args.specs.RunMarks.{RunMarksAreApart, given_run_mark}
pub use Rattle.nj_args.specs.Numbers.{given_number, given_depth}
pub use Rattle.nj_needs.specs.MarkTexts.{given_mark}
pub use Rattle.nj_args.specs.Requests.{request_of, request_in, action_of, asked_of, commands_of, take_of, start_of, style_of, view_of}
pub use Rattle.nj_requests.specs.Actions.{action_model, request_model}
pub use Rattle.nj_args.specs.Tools.{tool_named, is_given, is_foreign}
pub use Rattle.nj_args.specs.FaultLines.{fault_text, option_text, fault_line}
