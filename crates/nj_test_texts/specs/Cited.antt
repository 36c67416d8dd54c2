-- What the contracts of this crate cite: each name comes from the module in its line.
pub use Rattle.nj_test_texts.specs.TestTexts.{glob_of, glob_part, is_glob_sign, is_regex_sign, regex_of, regex_part, link_word, own_path}
pub use Rattle.nj_test_texts.specs.TestTexts.{own_word, reason_path, reason_word, entry_of, line, named_test, reason_line, spaced}
pub use Rattle.nj_test_texts.specs.TestTexts.{test_object, written, body_of, enclosed, tests_text, written_from}
pub use Rattle.nj_chosen.specs.Choices.{choice_model}
pub use Rattle.nj_chosen.specs.Reasons.{why_of}
pub use Rattle.serde_json.specs.Written.{compact_text}
pub use Rattle.std.specs.List.{flat_map}
pub use Rattle.serde_json.specs.Data.{string}
pub use Rattle.std.specs.Str.Lossy.{utf8_lossy}
pub use Rattle.nj_tests.specs.Tests.{test_model}
