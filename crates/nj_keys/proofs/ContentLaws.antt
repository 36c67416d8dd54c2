-- Contents of files are additions of their own.
use Rattle.std.proofs.Common.{◌≡◌, ◌⊎◌, ℕ, suc, List, [], ◌∷◌, map, drop}
use Rattle.std.proofs.Common.{refl, sym, ap, ap₂, subst, inl, inr, arith}
use Rattle.std.specs.Prelude.{All, slice_index_or}
use Rattle.sha2.specs.Sha256.{sha256}
use Rattle.nj_keys.specs.Bases.{HasNoZero}
use Rattle.nj_keys.specs.Keys.{AdditionsTellContents, HasConfusion, content_addition}
use Rattle.nj_keys.proofs.AdditionLaws.{told}

-- a text without a zero byte is no content
no-content : (text digest : List ℕ) → HasNoZero text → text ≡ 0 ∷ digest → ⊥
no-content text digest none is = subst HasNoZero is none 0 0 (omega arith) refl

all-after : (text : List ℕ) (texts : List (List ℕ)) → All HasNoZero (text ∷ texts) → All HasNoZero texts
all-after text texts all k d less = all (suc k) d (omega (arith, less))

first : {one other : List ℕ} {more others : List (List ℕ)} → one ∷ more ≡ other ∷ others → one ≡ other
first is = ap (λ texts. slice_index_or texts 0 []) is

rest : {one other : List ℕ} {more others : List (List ℕ)} → one ∷ more ≡ other ∷ others → more ≡ others
rest is = ap (drop 1) is

same-contents : (contents more : List (List ℕ)) → map content_addition contents ≡ map content_addition more
    → (contents ≡ more) ⊎ HasConfusion
same-contents [] [] is = inl refl
same-contents [] (other ∷ more) is = absurd cc
same-contents (one ∷ contents) [] is = absurd cc
same-contents (one ∷ contents) (other ∷ more) is =
    let digests : sha256 one ≡ sha256 other = ap (drop 1) (first is) in
    elim (told one other digests) [
      | inr confusion ↦ inr confusion
      | inl same ↦
          elim (same-contents contents more (rest is)) [
            | inr confusion ↦ inr confusion
            | inl same_rest ↦ inl (ap₂ (λ c cs. c ∷ cs) same same_rest)
          ]
    ]

pub tell-contents : AdditionsTellContents
tell-contents [] [] contents more none also is =
    elim (same-contents contents more is) [
      | inr confusion ↦ inr confusion
      | inl same ↦ inl (refl, same)
    ]
tell-contents [] (other ∷ others) [] more none also is = absurd cc
tell-contents [] (other ∷ others) (one ∷ contents) more none also is =
    absurd (no-content other (sha256 one) (also 0 [] (omega arith)) (sym (first is)))
tell-contents (one ∷ texts) [] contents [] none also is = absurd cc
tell-contents (one ∷ texts) [] contents (other ∷ more) none also is =
    absurd (no-content one (sha256 other) (none 0 [] (omega arith)) (first is))
tell-contents (one ∷ texts) (other ∷ others) contents more none also is =
    elim (tell-contents texts others contents more (all-after one texts none) (all-after other others also)
    (rest is)) [
      | inr confusion ↦ inr confusion
      | inl same ↦ inl (ap₂ (λ t ts. t ∷ ts) (first is) same.0, same.1)
    ]
