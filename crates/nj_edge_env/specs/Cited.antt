-- What the contracts of this crate cite: each name comes from the module in its line.
pub use Rattle.nj_edge_env.specs.Blocks.{bound_in, names_in}
pub use Rattle.nj_edge_env.specs.Inside.BlocksHeld.{blocks_of, bounds_of, BlocksAreHeld, IsFirstAt, IsNumberOf, values_of, AreRising}
pub use Rattle.nj_edge_env.specs.Inside.BlocksHeld.{IsPart, BoundsAreHeld, IsBoundTo, BeginsWith, with_bound, ends_at, bound_of, list_at}
pub use Rattle.nj_edge_env.specs.Inside.BlocksHeld.{lists_of, AreStarts}
pub use Rattle.nj_scope.specs.Declarations.{is_pool_or_dyndep, DeclaredBy}
pub use Rattle.nj_scope.specs.Readings.{IsPrefix}
pub use Rattle.nj_text.specs.Quotes.{quoted}
pub use Rattle.nj_names.specs.Files.{path_at}
pub use Rattle.nj_edge_env.specs.LateStrings.{paths_text, rule_value, refers, refers_in, value_given, file_value, asked_text, names_paths}
pub use Rattle.nj_edge_env.specs.LateStrings.{is_of_command, is_quoted}
pub use Rattle.nj_cycles.specs.Cycles.{IsFirstOnCycle}
pub use Rattle.nj_scope.specs.Rules.{RuleLineModel}
pub use Rattle.nj_edge_env.specs.VariableCycles.{variable_cycle_of}
pub use Rattle.nj_edge_env.specs.ReferencesHeld.{AreReferences, NeverCycles, TellsCycles, name_at, row_at, refers_unbound, unbound}
pub use Rattle.nj_edge_env.specs.Inside.CyclesHeld.{makers_counted, AreSortedKeys, key_held, referring_key}
pub use Rattle.nj_edge_env.specs.Inside.StringsHeld.{text_known, taller, with_text, AreKeyStrings, AppendsLate, AppendsParts, AppendsPlain}
pub use Rattle.nj_text.specs.Words.{part_model}
pub use Rattle.nj_scope.specs.ReadingList.{ReadStatement, value_after}
pub use Rattle.nj_scope.specs.RulesHeld.{IsNumber}
pub use Rattle.nj_scope.specs.Scopes.{IsScope, parent_at}
pub use Rattle.nj_edge_env.specs.LateEdges.{late_names}
pub use Rattle.nj_edge_env.specs.Laws.{LateTextIsGiven, OneTextIsGiven, CycleGivesNothing, BlockWins, RuleWins, FileIsLast}
pub use Rattle.nj_edge_env.specs.Laws.{ComputedCycleIsFound}
pub use Rattle.std.specs.List.{AllByRecursion}
pub use Rattle.std.specs.Map.{lookup}
