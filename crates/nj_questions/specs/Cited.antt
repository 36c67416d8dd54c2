-- What the contracts of this crate cite: each name comes from the module in its line.
pub use Rattle.clap.specs.Words.{app_of, with_rule, with_subcommand, new_app, first_of, rule_of, kind_of, subcommand_rows_of, fault_of}
pub use Rattle.clap.specs.Words.{subcommand_of}
pub use Rattle.nj_questions.specs.CommandLine.{command, subcommand, affected_options, audit_options, draw_options, keys_options}
pub use Rattle.nj_questions.specs.CommandLine.{stale_options, tests_options, times_options, why_options, flag, short_flag, short_option}
pub use Rattle.nj_questions.specs.CommandLine.{long_option, repeated, number, word, words}
pub use Rattle.nj_questions.specs.Inside.Held.{rule_at, without_subcommands, subcommand_in, rows_in, word_strings, rule_in, is_question}
pub use Rattle.nj_questions.specs.Fields.{is_on, text_or, values_in, number_in, given_number}
pub use Rattle.nj_questions.specs.QuestionOf.{folder_second, folder_word_count, has_old_option, is_old_option, question_of, refusal_model}
pub use Rattle.nj_questions.specs.QuestionOf.{asked, refused_by, question_in, subject_in, graph_in, takes_deps, affected_in, audit_in}
pub use Rattle.nj_questions.specs.QuestionOf.{draw_in, keys_in, stale_in, tests_in, times_in, why_in}
pub use Rattle.nj_questions.specs.ReadingLaws.{SubcommandIsRequired, TakenIsQuestion, FilesAfterDashes, KeysKeepOrder, FolderMayComeFirst}
pub use Rattle.nj_questions.specs.Questions.{question_model, asked_graph, subject_model, entered_folder, reads_nothing, takes_folder}
pub use Rattle.nj_questions.specs.Questions.{takes_input, affected_model, audit_model, draw_model, keys_model, stale_model, tests_model}
pub use Rattle.nj_questions.specs.Questions.{times_model, why_model}
pub use Rattle.nj_questions.specs.declared.refusals.Refusal.TheVariants.{OutOfMemory}
