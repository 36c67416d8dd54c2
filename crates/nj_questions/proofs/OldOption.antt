-- The old option among arguments, one after another.
use Rattle.std.proofs.Common.{◌≡◌, ◌<◌, ◌+◌, ◌∙◌, ℕ, true, false, List, ◌∷◌, map, drop, length}
use Rattle.std.proofs.Common.{slice_index_or, refl, sym, ap}
use Rattle.std.proofs.Common.{String, Global}
use Rattle.std.specs.Prelude.{codes, string_bytes}
use Rattle.std.specs.Str.{bytes_eq}
use Rattle.std.proofs.lemmas.List.{at_drop_more}
use Rattle.nj_questions.specs.QuestionOf.{has_old_option, is_old_option}

skipped : (word : List ℕ) (words : List (List ℕ)) → bytes_eq word (codes "--") ≡ false
    → is_old_option word ≡ false → has_old_option (word ∷ words) ≡ has_old_option words
skipped word words ends is = rw (ends, is) refl

met : (word : List ℕ) (words : List (List ℕ)) → bytes_eq word (codes "--") ≡ false
    → is_old_option word ≡ true → has_old_option (word ∷ words) ≡ true
met word words ends is = rw (ends, is) refl

abbrev left : List (String Global) → List (List ℕ)
left words = map string_bytes words

-- the arguments from one on
from : (words : List (String Global)) (i : ℕ) (word : String Global) → i < length words
    → word ≡ slice_index_or words i word
    → has_old_option (left (drop i words)) ≡ has_old_option (string_bytes word ∷ left (drop (i + 1) words))
from words i word below is = at_drop_more (λ rest. has_old_option (left rest)) words i word below
    ∙ ap (λ (w : String Global). has_old_option (string_bytes w ∷ left (drop (i + 1) words))) (sym is)

pub next-skipped : (words : List (String Global)) (i : ℕ) (word : String Global) → i < length words
    → word ≡ slice_index_or words i word
    → bytes_eq (string_bytes word) (codes "--") ≡ false
    → is_old_option (string_bytes word) ≡ false
    → has_old_option (left words) ≡ has_old_option (left (drop i words))
    → has_old_option (left words) ≡ has_old_option (left (drop (i + 1) words))
next-skipped words i word below is ends old so_far =
    so_far ∙ from words i word below is ∙ skipped (string_bytes word) (left (drop (i + 1) words)) ends old

pub next-met : (words : List (String Global)) (i : ℕ) (word : String Global) → i < length words
    → word ≡ slice_index_or words i word
    → bytes_eq (string_bytes word) (codes "--") ≡ false
    → is_old_option (string_bytes word) ≡ true
    → has_old_option (left words) ≡ has_old_option (left (drop i words))
    → true ≡ has_old_option (left words)
next-met words i word below is ends old so_far =
    sym (so_far ∙ from words i word below is ∙ met (string_bytes word) (left (drop (i + 1) words)) ends old)
