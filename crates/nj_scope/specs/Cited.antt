-- What the contracts of this crate cite: each name comes from the module in its line.
pub use Rattle.nj_text.specs.declared.spot.Spot.{Spot}
pub use Rattle.nj_text.specs.Words.{WordModel, word_model, part_model}
pub use Rattle.nj_manifest.specs.Contents.{lines_model, line_model}
pub use Rattle.nj_manifest.specs.Statements.{LineModel, BindingModel, RuleModel, PoolModel, SubninjaModel}
pub use Rattle.nj_scope.specs.Scopes.{IsScope, expanded, parent_at, rule_at, first_given, value_in, bound_at}
pub use Rattle.nj_scope.specs.Pools.{is_pool}
pub use Rattle.nj_scope.specs.Declarations.{DeclaredBy, TakesIn, Keeps, SameScopes, is_pool_or_dyndep}
pub use Rattle.nj_scope.specs.ReadingList.{ReadStatement, value_after, value_if_bound, is_declared, rule_in_force, gathered, rule_given}
pub use Rattle.nj_scope.specs.ReadingList.{pool_given, scope_given, path_named}
pub use Rattle.nj_scope.specs.Late.{part_written, parts_written}
pub use Rattle.nj_scope.specs.Inside.LateHeld.{text_or_name}
pub use Rattle.nj_scope.specs.Laws.{LastBindingCounts, OthersAreInherited, OthersKeepTheirs, InForceIsDeclared, IsInReadingOrder}
pub use Rattle.nj_scope.specs.Memory.{bytes_added}
pub use Rattle.nj_scope.specs.Sources.{outcome_bytes}
pub use Rattle.nj_scope.specs.Limits.{is_depth}
pub use Rattle.nj_scope.specs.Rules.{line_kept, given}
pub use Rattle.nj_scope.specs.RulesHeld.{last_lines, key_count, key_at, IsNumber, KeysAreNumbered, NumbersDiffer}
pub use Rattle.nj_scope.specs.Inside.KeysHeld.{line_held, AreIndexes, HasKeyAt}
pub use Rattle.std.specs.Map.{lookup}
pub use Rattle.nj_scope.specs.Inside.ScopesHeld.{values_text}
pub use Rattle.nj_scope.specs.Opening.{OpensFile, shared_bytes}
pub use Rattle.nj_scope.specs.Readings.{EachPathOnce, paths_of, reading_of, is_read, bytes_in}
