-- Lists cut at the longest front that passes.
use Rattle.std.proofs.Common.{◌≡◌, suc, Bool, true, false, cond, List, [], ◌∷◌, ◌++◌, length, drop, refl, ap}
use Rattle.std.proofs.Common.{◌∙◌}
use Rattle.std.proofs.Math.Numerals.{one-add}
use Rattle.std.specs.List.{prefix_len, take_while}
use Rattle.std.proofs.lemmas.List.Sums.{take_while-cons, prefix_len-le-length}
use Rattle.std.proofs.lemmas.List.{length-take-le}
use Rattle.nj_text.specs.Bytes.{drop_while}

-- each element passes
abbrev pub AllIn : {X : Type 0} → (X → Bool) → List X → Type 0
AllIn p [] = Unit {0}
AllIn p (x ∷ xs) = (p x ≡ true) × AllIn p xs

pub AllIn-take_while : {X : Type 0} (p : X → Bool) (xs : List X) → AllIn p (take_while p xs)
AllIn-take_while p [] = tt
AllIn-take_while p (x ∷ xs) = rw take_while-cons (by_test (p x) refl (AllIn-take_while p xs))
  where
    by_test : (b : Bool) → p x ≡ b → AllIn p (take_while p xs) → AllIn p (cond b (x ∷ take_while p xs) [])
    by_test true e rest = (e, rest)
    by_test false e rest = tt

pub AllIn-weaker : {X : Type 0} (p q : X → Bool) (xs : List X) → ((x : X) → p x ≡ true → q x ≡ true)
    → AllIn p xs → AllIn q xs
AllIn-weaker p q [] f h = tt
AllIn-weaker p q (x ∷ xs) f h = (f x h.0, AllIn-weaker p q xs f h.1)

pub prefix_len-cons_yes : {X : Type 0} (p : X → Bool) (x : X) (xs : List X) → p x ≡ true
    → prefix_len p (x ∷ xs) ≡ suc (prefix_len p xs)
prefix_len-cons_yes p x xs e = rw (e, one-add) refl

pub prefix_len-cons_no : {X : Type 0} (p : X → Bool) (x : X) (xs : List X) → p x ≡ false
    → prefix_len p (x ∷ xs) ≡ 0
prefix_len-cons_no p x xs e = rw e refl

pub drop-prefix_len : {X : Type 0} (p : X → Bool) (xs : List X) → drop (prefix_len p xs) xs ≡ drop_while p xs
drop-prefix_len p [] = refl
drop-prefix_len p (x ∷ xs) = by_test (p x) refl (drop-prefix_len p xs)
  where
    by_test : (b : Bool) → p x ≡ b → drop (prefix_len p xs) xs ≡ drop_while p xs
        → drop (prefix_len p (x ∷ xs)) (x ∷ xs) ≡ cond b (drop_while p xs) (x ∷ xs)
    by_test true e rest = rw (prefix_len-cons_yes p x xs e) rest
    by_test false e rest = rw (prefix_len-cons_no p x xs e) refl

pub length-take_while : {X : Type 0} (p : X → Bool) (xs : List X) → length (take_while p xs) ≡ prefix_len p xs
length-take_while p xs = length-take-le (prefix_len p xs) xs (prefix_len-le-length p xs)

pub drop_while-cons_yes : {X : Type 0} (p : X → Bool) (x : X) (xs : List X) → p x ≡ true
    → drop_while p (x ∷ xs) ≡ drop_while p xs
drop_while-cons_yes p x xs e = rw e refl

pub drop_while-cons_no : {X : Type 0} (p : X → Bool) (x : X) (xs : List X) → p x ≡ false
    → drop_while p (x ∷ xs) ≡ x ∷ xs
drop_while-cons_no p x xs e = rw e refl

pub take_while-cons_yes : {X : Type 0} (p : X → Bool) (x : X) (xs : List X) → p x ≡ true
    → take_while p (x ∷ xs) ≡ x ∷ take_while p xs
take_while-cons_yes p x xs e = take_while-cons p x xs ∙ rw e refl

pub take_while-cons_no : {X : Type 0} (p : X → Bool) (x : X) (xs : List X) → p x ≡ false
    → take_while p (x ∷ xs) ≡ []
take_while-cons_no p x xs e = take_while-cons p x xs ∙ rw e refl

-- a front that passes is passed over
pub drop_while-append : {X : Type 0} (p : X → Bool) (xs ys : List X) → AllIn p xs
    → drop_while p (xs ++ ys) ≡ drop_while p ys
drop_while-append p [] ys h = refl
drop_while-append p (x ∷ xs) ys h = drop_while-cons_yes p x (xs ++ ys) h.0 ∙ drop_while-append p xs ys h.1

pub take_while-append : {X : Type 0} (p : X → Bool) (xs ys : List X) → AllIn p xs
    → take_while p (xs ++ ys) ≡ xs ++ take_while p ys
take_while-append p [] ys h = refl
take_while-append p (x ∷ xs) ys h = take_while-cons_yes p x (xs ++ ys) h.0
    ∙ ap (λ zs. x ∷ zs) (take_while-append p xs ys h.1)
