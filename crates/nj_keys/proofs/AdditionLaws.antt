-- Additions are part of every key.
use Rattle.std.proofs.Common.{◌≡◌, ◌⊎◌, ℕ, Option, List, [], ◌∷◌, ◌++◌, length, take, drop}
use Rattle.std.proofs.Common.{refl, sym, ap, ◌∙◌, inl, inr, append_assoc, append-nil, bytes_eq, arith}
use Rattle.std.specs.Prelude.{decimal}
use Rattle.std.specs.List.{flat_map}
use Rattle.std.proofs.lemmas.Bool.{both_ways, cases_Bool}
use Rattle.std.proofs.lemmas.Fmt.{decimal_nonempty, digits_decimal}
use Rattle.std.proofs.lemmas.Slice.Eq.{bytes_eq-Decides}
use Rattle.std.proofs.Math.Seq.{drop-append_seam, take-append_seam}
use Rattle.sha2.specs.Sha256.{sha256}
use Rattle.sha2.proofs.Facts256.{length-sha256}
use Rattle.nj_keys.specs.Keys.{additions_text, field, fields_text, key_with, number}
use Rattle.nj_keys.specs.Keys.{AdditionsTell, AreShort, AreShortAdditions, Fields, HasConfusion}
use Rattle.nj_keys.specs.Inside.Additions.{digest_of_additions, key_after}
use Rattle.nj_keys.proofs.EdgeLaws.{key-is}
use Rattle.nj_keys.proofs.FieldLaws.{after_command, cut, in-parts, one-number, own, same-fields}

-- ---- the digest that is computed once

after-is : (additions : List (List ℕ)) (key : List ℕ)
    → key_after (digest_of_additions additions) key ≡ key_with additions key
after-is [] key = refl
after-is (text ∷ additions) key = refl

pub with-additions : (additions : List (List ℕ)) (digest : Option (List ℕ))
    → digest ≡ digest_of_additions additions
    → (added key : List ℕ) → added ≡ key_after digest key → added ≡ key_with additions key
with-additions additions digest is added key added_is =
    added_is ∙ ap (λ d. key_after d key) is ∙ after-is additions key

-- ---- texts with the same digest

-- they are the same, unless SHA-256 confuses them
pub told : (one other : List ℕ) → sha256 one ≡ sha256 other → (one ≡ other) ⊎ HasConfusion
told one other same =
    let decides = bytes_eq-Decides one other in
    elim (cases_Bool (bytes_eq one other)) [
      | inl is ↦ inl (decides.0 is)
      | inr differ ↦ inr (
        one,
        other,
        record {
          differ = λ is. both_ways (bytes_eq one other) differ (decides.1 is);
          same = same;
        },
      )
    ]

-- the front of a text, and what is left
front-same : (a b x y : List ℕ) → length a ≡ length b → a ++ x ≡ b ++ y → (a ≡ b) × (x ≡ y)
front-same a b x y len is = (
  sym (take-append_seam a x) ∙ ap (take (length a)) is ∙ ap (λ n. take n (b ++ y)) len
      ∙ take-append_seam b y,
  sym (drop-append_seam a x) ∙ ap (drop (length a)) is ∙ ap (λ n. drop n (b ++ y)) len
      ∙ drop-append_seam b y,
)

same-additions : (cs bs : List (List ℕ)) → AreShortAdditions cs → AreShortAdditions bs
    → additions_text cs ≡ additions_text bs → cs ≡ bs
same-additions cs bs short small is =
    let count = one-number (length cs) (length bs) (flat_map field cs) (flat_map field bs) short.count
    small.count is in
    (same-fields cs bs [] [] count.0 short.lengths small.lengths
    (append-nil (flat_map field cs) ∙ count.1 ∙ sym (append-nil (flat_map field bs)))).0

-- ---- no text of fields begins with a colon

no-colon : (f : Fields) (rest : List ℕ) → AreShort f → fields_text f ≡ 58 ∷ rest → ⊥
no-colon f rest short is =
    let n = length f.command in
    let left = f.command ++ after_command f in
    let whole : decimal n ++ 58 ∷ left ≡ [] ++ 58 ∷ rest =
    sym (append_assoc (decimal n) (58 ∷ []) left) ∙ sym (append_assoc (number n) f.command (after_command f))
    ∙ sym (in-parts f) ∙ is in
    let none = (cut (decimal n) [] left rest (digits_decimal own n short.command) refl whole).0 in
    absurd (omega (arith, ap length none, decimal_nonempty n short.command))

confused : (key : List ℕ) (f : Fields) (rest : List ℕ) → AreShort f → key ≡ sha256 (fields_text f)
    → key ≡ sha256 (58 ∷ rest) → HasConfusion
confused key f rest short is also = (
  fields_text f,
  58 ∷ rest,
  record { differ = no-colon f rest short; same = sym is ∙ also },
)

-- ---- keys with additions

pub tell : AdditionsTell
tell [] [] folders bases e f key other one two few none is also are more short small same = inl (refl, same)
tell [] (b ∷ bs) folders bases e f key other one two few none is also are more short small same =
    inr (confused key one (sha256 (additions_text (b ∷ bs)) ++ other) short (key-is folders e key one is are)
    same)
tell (a ∷ cs) [] folders bases e f key other one two few none is also are more short small same =
    inr (confused other two (sha256 (additions_text (a ∷ cs)) ++ key) small
    (key-is bases f other two also more)
    (sym same))
tell (a ∷ cs) (b ∷ bs) folders bases e f key other one two few none is also are more short small same =
    let mine = additions_text (a ∷ cs) in
    let theirs = additions_text (b ∷ bs) in
    elim (told (58 ∷ sha256 mine ++ key) (58 ∷ sha256 theirs ++ other) same) [
      | inr confusion ↦ inr confusion
      | inl texts ↦
          let tails : sha256 mine ++ key ≡ sha256 theirs ++ other = ap (drop 1) texts in
          let parts = front-same (sha256 mine) (sha256 theirs) key other
          (length-sha256 mine ∙ sym (length-sha256 theirs)) tails in
          elim (told mine theirs parts.0) [
            | inr confusion ↦ inr confusion
            | inl additions ↦ inl (same-additions (a ∷ cs) (b ∷ bs) few none additions, parts.1)
          ]
    ]
