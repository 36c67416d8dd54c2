-- How the check for cycles sees the keys of a rule: as a graph in which a key needs the keys to which its value
-- refers.
use Rattle.std.specs.Prelude.{◌≡◌, ℕ, ◌<◌, Bool, false, not, ◌&&◌, if◌then◌else◌, Option, Some, None, is_some, List, map, length, slice_index_or, Contains}
use Rattle.std.specs.Borrow.{Bor}
use Rattle.std.specs.List.{range_with_len}
use Rattle.std.specs.Ordering.{nat_cmp, is_lt}
use Rattle.std.specs.Cmp.Lexicographic.{slice_cmp}
use Rattle.std.specs.List.Sorted.{IsSortedBy}
use Rattle.nj_text.specs.Words.{PartModel}
use Rattle.nj_scope.specs.Rules.{RuleLineModel, given}
use Rattle.nj_edge_env.specs.declared.key_references.ReferringKey.{ReferringKey}
use Rattle.nj_edge_env.specs.ReferencesHeld.{ReferringKeyModel, name_at, row_at, refers_unbound}

abbrev pub key_held : ReferringKey → ReferringKeyModel
key_held k = record { name = k.name.items; refers = k.refers.items }

-- ---- how references are found

-- the keys of the rule with the given lines, in byte order
pub record AreSortedKeys (lines : List RuleLineModel) (names : List (Bor (List ℕ))) : Type 0 where
  pub rise : IsSortedBy (λ name other. is_lt (slice_cmp nat_cmp name.now other.now)) names
  pub all : (key : List ℕ) (value : List PartModel) → given lines key ≡ Some value → Contains (map (λ name. name.now) names) key

-- the key with the given name, with its row
abbrev pub referring_key : List RuleLineModel → (names : List (Bor (List ℕ))) → (name : List ℕ) → ReferringKeyModel
referring_key lines names name = record { name = name; refers = map (λ other. refers_unbound lines name other.now) names }

-- ---- the graph of the keys

-- the keys that count are the keys that the block does not bind
abbrev pub AreCounted : (block : List ℕ → Option (List ℕ)) → List ReferringKeyModel → (counts : List Bool) → Type 0
AreCounted block keys counts =
    (number : ℕ) → number < length keys → slice_index_or counts number false ≡ not (is_some (block (name_at keys number)))

-- whether a key counts and its value refers to the other
abbrev pub refers_counted : List ReferringKeyModel → (counts : List Bool) → (key other : ℕ) → Bool
refers_counted keys counts key other = slice_index_or counts key false && slice_index_or (row_at keys key) other false

-- for each key, whether the given key needs it
abbrev pub makers_counted : List ReferringKeyModel → (counts : List Bool) → (key : ℕ) → List (Option ℕ)
makers_counted keys counts key =
    map (λ other. if refers_counted keys counts key other then Some other else None) (range_with_len 0 (length keys))
