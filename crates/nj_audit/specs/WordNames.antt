-- The names in a word: texts that may name files.
use Rattle.std.specs.Prelude.{ℕ, ◌+◌, ◌==◌, Bool, nat_eq, ◌||◌, not, if◌then◌else◌, Option, Some, None, option_map, List, [], ◌∷◌, ◌++◌, codes, drop, position}
use Rattle.std.specs.List.{cons_option, flat_map, list_any, slice_split, starts_with}

-- `=`, `:`, `,` and `;`: the signs between an option or a variable and its value, and between the values of a list
abbrev pub is_sign : ℕ → Bool
is_sign b = b == 61 || b == 58 || b == 44 || b == 59

-- the text after the first `=` of a word
abbrev pub after_sign : (word : List ℕ) → Option (List ℕ)
after_sign word = option_map (λ index. drop (index + 1) word) (position (λ b. b == 61) word)

-- the value that is attached to an option of one letter, as in `-Idata`, or to an `@`
abbrev pub attached_to : (text : List ℕ) → Option (List ℕ)
attached_to text =
    if starts_with nat_eq text (codes "-") then Some (drop 2 text)
    else (if starts_with nat_eq text (codes "@") then Some (drop 1 text) else None)

-- a text as a name, and the value that is attached in it
abbrev pub names_in_text : (text : List ℕ) → List (List ℕ)
names_in_text text = text ∷ cons_option (attached_to text) []

-- the names in the parts of a word between two signs; the ends of the word count as signs
abbrev pub names_in_parts : (word : List ℕ) → List (List ℕ)
names_in_parts word = flat_map names_in_text (slice_split is_sign word)

-- The names in a word: those of the whole word and, if it has a sign, the text after its first `=`, and those of its parts.
abbrev pub word_names : (word : List ℕ) → List (List ℕ)
word_names word =
    names_in_text word
    ++ (if list_any is_sign word then cons_option (after_sign word) [] ++ names_in_parts word else [])

-- a name without `/` and `.`, as `clean` in `ninja clean`
abbrev pub is_bare : (name : List ℕ) → Bool
is_bare name = not (list_any (λ b. b == 47 || b == 46) name)
