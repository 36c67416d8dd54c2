-- Matching of a path with one more byte in front.
use Rattle.std.proofs.Common.{◌≡◌, ◌⊎◌, inl, inr, ℕ, Bool, true, false, not, ◌||◌, List, [], ◌∷◌, ◌++◌}
use Rattle.std.proofs.Common.{refl, sym, ap, subst, ◌∙◌, append_assoc}
use Rattle.std.specs.List.{list_any}
use Rattle.std.proofs.lemmas.Bool.{eq-eqb, eqb-true}
use Rattle.nj_globs.specs.Globs.{GlobPart, is_slash, IsOne, Matches}
use Rattle.nj_globs.specs.Globs.GlobPart.{star, double_star, directories}
use Rattle.nj_globs.specs.Inside.Fits.{MatchesAfterSlash}

-- ---- a byte in front

-- a run at the front has no bytes, or begins with that byte
pub split_at_front : (front rest path : List ℕ) (byte : ℕ) → byte ∷ path ≡ front ++ rest
    → ((front ≡ []) × (rest ≡ byte ∷ path))
    ⊎ ((more : List ℕ) × (front ≡ byte ∷ more) × (path ≡ more ++ rest))
split_at_front [] rest path byte cut = inl (refl, sym cut)
split_at_front (b ∷ more) rest path byte cut = inr (
  more,
  (let same : b ≡ byte = cc in ap (λ x. x ∷ more) same),
  (cc),
)

-- no bytes are two empty runs
pub split_of_none : (front rest : List ℕ) → [] ≡ front ++ rest → (front ≡ []) × (rest ≡ [])
split_of_none [] rest cut = (refl, sym cut)
split_of_none (b ∷ more) rest cut = absurd (cc)

-- ---- parts of one byte

-- one byte that passes a test, and then a path that matches
abbrev pub MatchesOne : (test : ℕ → Bool) → List GlobPart → (path : List ℕ) → Type 0
MatchesOne test parts path = (front rest : List ℕ) × (path ≡ front ++ rest) × IsOne test front
    × Matches parts rest

pub one-forth : (test : ℕ → Bool) (parts : List GlobPart) (byte : ℕ) (path : List ℕ)
    → MatchesOne test parts (byte ∷ path) → (test byte ≡ true) × Matches parts path
one-forth test parts byte path (front, rest, cut, (b, is, passes), matches) =
    let whole : byte ∷ path ≡ b ∷ rest = cut ∙ ap (λ f. f ++ rest) is in
    let same : b ≡ byte = cc in
    let others : rest ≡ path = cc in
    (subst (λ x. test x ≡ true) same passes, subst (Matches parts) others matches)

pub one-back : (test : ℕ → Bool) (parts : List GlobPart) (byte : ℕ) (path : List ℕ)
    → (test byte ≡ true) × Matches parts path → MatchesOne test parts (byte ∷ path)
one-back test parts byte path (passes, matches) =
    (byte ∷ [], path, refl, (byte, refl, passes), matches)

pub one-none : (test : ℕ → Bool) (parts : List GlobPart) → MatchesOne test parts [] → ⊥
one-none test parts (front, rest, cut, (b, is, passes), matches) =
    let whole : [] ≡ b ∷ rest = cut ∙ ap (λ f. f ++ rest) is in
    cc

-- ---- parts that may stand for no bytes

pub star-here : (parts : List GlobPart) (path : List ℕ) → Matches parts path → Matches (star ∷ parts) path
star-here parts path matches = ([], path, refl, refl, matches)

pub star-forth : (parts : List GlobPart) (byte : ℕ) (path : List ℕ) → Matches (star ∷ parts) (byte ∷ path)
    → Matches parts (byte ∷ path) ⊎ ((not (is_slash byte) ≡ true) × Matches (star ∷ parts) path)
star-forth parts byte path (front, rest, cut, free, matches) = by (split_at_front front rest path byte cut)
  where
    none : (b : Bool) (x : Bool) → (b || x) ≡ false → (not b ≡ true) × (x ≡ false)
    none true x e = absurd (cc)
    none false x e = (refl, e)

    by : ((front ≡ []) × (rest ≡ byte ∷ path))
        ⊎ ((more : List ℕ) × (front ≡ byte ∷ more) × (path ≡ more ++ rest))
        → Matches parts (byte ∷ path) ⊎ ((not (is_slash byte) ≡ true) × Matches (star ∷ parts) path)
    by (inl here) = inl (subst (Matches parts) here.1 matches)
    by (inr (more, is, others)) =
        let apart = none (is_slash byte) (list_any is_slash more)
        (subst (λ f. list_any is_slash f ≡ false) is free) in
        inr (apart.0, (more, rest, others, apart.1, matches))

pub star-back : (parts : List GlobPart) (byte : ℕ) (path : List ℕ)
    → (not (is_slash byte) ≡ true) × Matches (star ∷ parts) path → Matches (star ∷ parts) (byte ∷ path)
star-back parts byte path (apart, (front, rest, cut, free, matches)) =
    (byte ∷ front, rest, ap (λ p. byte ∷ p) cut, both (is_slash byte) apart, matches)
  where
    both : (b : Bool) → not b ≡ true → (b || list_any is_slash front) ≡ false
    both true e = absurd (cc)
    both false e = free

pub double_star-here : (parts : List GlobPart) (path : List ℕ) → Matches parts path
    → Matches (double_star ∷ parts) path
double_star-here parts path matches = ([], path, refl, tt, matches)

pub double_star-forth : (parts : List GlobPart) (byte : ℕ) (path : List ℕ)
    → Matches (double_star ∷ parts) (byte ∷ path)
    → Matches parts (byte ∷ path) ⊎ Matches (double_star ∷ parts) path
double_star-forth parts byte path (front, rest, cut, any, matches) =
    by (split_at_front front rest path byte cut)
  where
    by : ((front ≡ []) × (rest ≡ byte ∷ path))
        ⊎ ((more : List ℕ) × (front ≡ byte ∷ more) × (path ≡ more ++ rest))
        → Matches parts (byte ∷ path) ⊎ Matches (double_star ∷ parts) path
    by (inl here) = inl (subst (Matches parts) here.1 matches)
    by (inr (more, is, others)) = inr (more, rest, others, tt, matches)

pub double_star-back : (parts : List GlobPart) (byte : ℕ) (path : List ℕ)
    → Matches (double_star ∷ parts) path → Matches (double_star ∷ parts) (byte ∷ path)
double_star-back parts byte path (front, rest, cut, any, matches) =
    (byte ∷ front, rest, ap (λ p. byte ∷ p) cut, tt, matches)

-- on a path of no bytes, a `*` stands for no bytes
pub star-none : (parts : List GlobPart) → Matches (star ∷ parts) [] → Matches parts []
star-none parts (front, rest, cut, free, matches) =
    subst (Matches parts) (split_of_none front rest cut).1 matches

pub double_star-none : (parts : List GlobPart) → Matches (double_star ∷ parts) [] → Matches parts []
double_star-none parts (front, rest, cut, any, matches) =
    subst (Matches parts) (split_of_none front rest cut).1 matches

-- ---- directories

pub directories-here : (parts : List GlobPart) (path : List ℕ) → Matches parts path
    → Matches (directories ∷ parts) path
directories-here parts path matches = ([], path, refl, inl refl, matches)

pub directories-forth : (parts : List GlobPart) (path : List ℕ) → Matches (directories ∷ parts) path
    → Matches parts path ⊎ MatchesAfterSlash parts path
directories-forth parts path (front, rest, cut, inl none, matches) =
    let same : path ≡ rest = cut ∙ ap (λ f. f ++ rest) none in
    inl (subst (Matches parts) (sym same) matches)
directories-forth parts path (front, rest, cut, inr (before, is), matches) =
    inr (before, rest, cut ∙ ap (λ f. f ++ rest) is ∙ append_assoc before (47 ∷ []) rest, matches)

pub directories-back : (parts : List GlobPart) (path : List ℕ) → MatchesAfterSlash parts path
    → Matches (directories ∷ parts) path
directories-back parts path (front, rest, cut, matches) =
    (front ++ 47 ∷ [], rest, cut ∙ sym (append_assoc front (47 ∷ []) rest), inr (front, refl), matches)

-- ---- after a slash

pub after_slash-forth : (parts : List GlobPart) (byte : ℕ) (path : List ℕ)
    → MatchesAfterSlash parts (byte ∷ path)
    → MatchesAfterSlash parts path ⊎ ((is_slash byte ≡ true) × Matches parts path)
after_slash-forth parts byte path (front, rest, cut, matches) =
    by (split_at_front front (47 ∷ rest) path byte cut)
  where
    by : ((front ≡ []) × (47 ∷ rest ≡ byte ∷ path))
        ⊎ ((more : List ℕ) × (front ≡ byte ∷ more) × (path ≡ more ++ 47 ∷ rest))
        → MatchesAfterSlash parts path ⊎ ((is_slash byte ≡ true) × Matches parts path)
    by (inl (none, here)) =
        let slash : byte ≡ 47 = cc in
        let others : rest ≡ path = cc in
        inr (eq-eqb byte 47 slash, subst (Matches parts) others matches)
    by (inr (more, is, others)) = inl (more, rest, others, matches)

pub after_slash-more : (parts : List GlobPart) (byte : ℕ) (path : List ℕ) → MatchesAfterSlash parts path
    → MatchesAfterSlash parts (byte ∷ path)
after_slash-more parts byte path (front, rest, cut, matches) =
    (byte ∷ front, rest, ap (λ p. byte ∷ p) cut, matches)

pub after_slash-here : (parts : List GlobPart) (byte : ℕ) (path : List ℕ)
    → (is_slash byte ≡ true) × Matches parts path → MatchesAfterSlash parts (byte ∷ path)
after_slash-here parts byte path (slash, matches) =
    ([], path, ap (λ b. b ∷ path) (eqb-true byte 47 slash), matches)

pub after_slash-none : (parts : List GlobPart) → MatchesAfterSlash parts [] → ⊥
after_slash-none parts (front, rest, cut, matches) =
    let none : 47 ∷ rest ≡ [] = (split_of_none front (47 ∷ rest) cut).1 in
    cc
