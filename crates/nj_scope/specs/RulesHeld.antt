-- How a rule is held: its lines, and for each key, where its last line is.
use Rattle.std.specs.Prelude.{◌≡◌, ℕ, ◌<◌, Bool, if◌then◌else◌, Some, option_map, unwrap_or, List, [], ◌∷◌, ◌++◌, length, slice_get, bytes_eq}
use Rattle.std.specs.List.{list_any}
use Rattle.nj_text.specs.Words.{PartModel}
use Rattle.nj_scope.specs.Rules.{RuleLineModel, given}

-- whether a line has the key
abbrev pub has_key : List RuleLineModel → (key : List ℕ) → Bool
has_key lines key = list_any (λ l. bytes_eq key l.key) lines

-- the last line of each key, from the end
unfoldable pub last_lines : List RuleLineModel → List RuleLineModel
last_lines [] = []
last_lines (l ∷ lines) = if has_key lines l.key then last_lines lines else last_lines lines ++ l ∷ []

-- ---- the keys of a rule, without duplicates, by number

-- how many keys a rule has
abbrev pub key_count : List RuleLineModel → ℕ
key_count lines = length (last_lines lines)

-- the key with the given number
abbrev pub key_at : List RuleLineModel → (number : ℕ) → List ℕ
key_at lines number = unwrap_or (option_map (λ l. l.key) (slice_get (last_lines lines) number)) []

-- a key that is given has a number
abbrev pub KeysAreNumbered : List RuleLineModel → Type 0
KeysAreNumbered lines = (key : List ℕ) (value : List PartModel) → given lines key ≡ Some value
    → (number : ℕ) × (number < key_count lines) × (key_at lines number ≡ key)

-- and only one number
abbrev pub NumbersDiffer : List RuleLineModel → Type 0
NumbersDiffer lines = (m n : ℕ) → m < key_count lines → n < key_count lines → key_at lines m ≡ key_at lines n → m ≡ n

-- the number of a key
pub record IsNumber (lines : List RuleLineModel) (key : List ℕ) (number : ℕ) : Type 0 where
  pub within : number < key_count lines
  pub is : key_at lines number ≡ key
