-- What the contracts of this crate cite: each name comes from the module in its line.
pub use Rattle.nj_text.specs.Words.{word_model, part_model}
pub use Rattle.nj_manifest.specs.Inside.ParserContracts.{TakesStep, ParsesFrom, Wholes, LeadsTo, name_model, outs_model, head_model}
pub use Rattle.nj_manifest.specs.Inside.ParserContracts.{ParsesAt, ParsesNext, IsBetweenStatements, FindsOpening}
pub use Rattle.nj_manifest.specs.Statements.{allows, equals_value, line_next, block, gives, outputs_next, targets_next, file_next}
pub use Rattle.nj_manifest.specs.Statements.{next_statement}
pub use Rattle.nj_manifest.specs.Inside.Heads.{names, whole_rule, whole_pool, name_alone, as_head, build_head, head_after, head_next}
pub use Rattle.nj_manifest.specs.Inside.Heads.{with_block, statement_here}
pub use Rattle.nj_manifest.specs.Contents.{line_model, lines_model, words_model, statement_model, placed_model}
pub use Rattle.std.specs.Str.Lossy.{utf8_lossy}
pub use Rattle.nj_manifest.specs.Faults.{named_by, syntax_text, wanted_text, fault_text, place_of, shown_fault, syntax_cause}
pub use Rattle.nj_manifest.specs.Expansion.{expanded, no_values}
pub use Rattle.nj_manifest.specs.Dyndeps.{version_line, word_of_form, no_path, no_section, output_next, added_inputs, entry_line, has_text}
pub use Rattle.nj_manifest.specs.Dyndeps.{restat_block}
pub use Rattle.nj_manifest.specs.DyndepParsers.{entry_model}
pub use Rattle.nj_manifest.specs.Grammar.{RuleHead, PoolHead}
pub use Rattle.nj_manifest.specs.Laws.{StatementsAreTheForms, MissingLinesAreLacking}
pub use Rattle.nj_manifest.specs.DyndepForms.{EntriesAreTheForms, NextEntriesAreTheForms}
pub use Rattle.nj_manifest.specs.Leftmost.{FaultsAreLeftmost}
pub use Rattle.nj_manifest.specs.DyndepVersions.{VersionsAreTheForms}
pub use Rattle.nj_manifest.specs.DyndepLeftmost.{DyndepFaultsAreLeftmost, UnitsOfStringsAreApart}
pub use Rattle.nj_text.specs.declared.fault.LexFault.TheVariants.{OutOfMemory}
pub use Rattle.nj_manifest.specs.declared.parse_fault.ParseFault.TheVariants.{Lex}
pub use Rattle.nj_manifest.specs.LineSteps.{name_next, expect_sign, words_next, section_next}
