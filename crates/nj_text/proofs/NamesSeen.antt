-- Where no slash comes before a slash or a dot, and the ends are the ends of names, each component is a name.
use Rattle.std.proofs.Common.{◌≡◌, ℕ, suc, Bool, true, false, not, List, [], ◌∷◌, drop, refl, sym, ap, ◌∙◌}
use Rattle.std.proofs.Common.{arith, get_or, length, ◌<◌, ◌-◌}
use Rattle.std.specs.Prelude.{◌||◌, ◌&&◌, ◌==◌}
use Rattle.std.specs.Bool.{OnTrue}
use Rattle.std.specs.List.{slice_split, onto_first, list_any, AllByRecursion}
use Rattle.std.proofs.lemmas.List.Splits.{slice_split-cons_yes, slice_split-cons_no}
use Rattle.nj_text.specs.Paths.{is_slash, IsName}
use Rattle.nj_text.specs.Inside.Cleaning.{is_suspect, suspects, any, ends_with_slash, begins_name}
use Rattle.nj_text.proofs.SlashComponents.{or_false}
use Rattle.nj_text.proofs.CleanStrings.{AllWhole, whole-components}

-- a byte that begins a name
abbrev BeginsName : ℕ → Type 0
BeginsName b = is_slash b || b == 46 ≡ false

name_begun : (b : ℕ) (p : List ℕ) → BeginsName b → list_any is_slash (b ∷ p) ≡ false → IsName (b ∷ p)
name_begun b p begins whole = grind arith

-- all components but the first are names
abbrev Continues : List ℕ → Type 0
Continues text = AllByRecursion IsName (drop 1 (slice_split is_slash text))

onto_name : (b : ℕ) (ps : List (List ℕ)) → BeginsName b → AllWhole (onto_first b ps)
    → AllByRecursion IsName (drop 1 (onto_first b ps)) → AllByRecursion IsName (onto_first b ps)
onto_name b ps begins whole rest = grind arith

-- and the first too, where its first byte begins a name
names_begun : (b : ℕ) (bs : List ℕ) → BeginsName b → Continues (b ∷ bs)
    → AllByRecursion IsName (slice_split is_slash (b ∷ bs))
names_begun b bs begins rest = grind (arith, slice_split-cons_no, or_false, onto_name, whole-components, drop)

drop_onto : (b : ℕ) (ps : List (List ℕ)) → AllByRecursion IsName (drop 1 ps)
    → AllByRecursion IsName (drop 1 (onto_first b ps))
drop_onto b ps h = grind arith

continues : (text : List ℕ) → any (suspects text) ≡ false → ends_with_slash text ≡ false → Continues text
continues [] none end = tt
continues (b ∷ []) none end = rw (slice_split-cons_no is_slash b [] end) tt
continues (b ∷ c ∷ bs) none end =
    let each = or_false (is_suspect b c) (any (suspects (c ∷ bs))) none in
    by_test (is_slash b) refl each.0 (continues (c ∷ bs) each.1 end)
  where
    by_test : (t : Bool) → is_slash b ≡ t → is_suspect b c ≡ false → Continues (c ∷ bs)
        → Continues (b ∷ c ∷ bs)
    by_test false e fine rest = rw (slice_split-cons_no is_slash b (c ∷ bs) e)
        (drop_onto b (slice_split is_slash (c ∷ bs)) rest)
    by_test true e fine rest = rw (slice_split-cons_yes is_slash b (c ∷ bs) e)
        (names_begun c bs (sym (ap (λ t. t && (is_slash c || c == 46)) e) ∙ fine) rest)

begun_if : (t : Bool) → not t ≡ true → t ≡ false
begun_if t e = grind arith

names_if : (text : List ℕ) → begins_name text ≡ true → ends_with_slash text ≡ false
    → any (suspects text) ≡ false → AllByRecursion IsName (slice_split is_slash text)
names_if text begins end none = grind (arith, names_begun, begun_if, continues)

pub names_seen : (text : List ℕ) (suspect : Bool) → suspect ≡ any (suspects text) → begins_name text ≡ true
    → ends_with_slash text ≡ false → OnTrue (not suspect) (AllByRecursion IsName (slice_split is_slash text))
names_seen text suspect e begins end = grind (arith, names_if)

pub ends_at_last : (text : List ℕ) → 0 < length text
    → ends_with_slash text ≡ is_slash (get_or text (length text - 1) 0)
ends_at_last [] some = absurd (omega arith)
ends_at_last (b ∷ []) some = refl
ends_at_last (b ∷ c ∷ bs) some =
    let next : suc (length (c ∷ bs) - 1) ≡ length (b ∷ c ∷ bs) - 1 = omega arith in
    ends_at_last (c ∷ bs) (omega arith) ∙ ap (λ k. is_slash (get_or (b ∷ c ∷ bs) k 0)) next
