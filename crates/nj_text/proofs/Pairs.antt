-- Pairs taken out of a list of components.
use Rattle.std.proofs.Common.{◌≡◌, ℕ, zero, suc, ◌+◌, ◌≤◌, Bool, true, false, List, [], ◌∷◌, ◌++◌}
use Rattle.std.proofs.Common.{length, replicate, refl, sym, ap, ◌∙◌, ◌⊎◌, inl, inr, arith, length-append}
use Rattle.std.specs.Fn.{iterate}
use Rattle.nj_text.specs.Paths.{is_up, is_pair, without_leftmost_pair, without_pairs}

-- no component but `..` comes directly before a `..`
abbrev pub HasNoPair : List (List ℕ) → Type 0
HasNoPair [] = Unit {0}
HasNoPair (a ∷ []) = Unit {0}
HasNoPair (a ∷ b ∷ ps) = (is_pair a b ≡ false) × HasNoPair (b ∷ ps)

pub leftmost-cons_pair : (a b : List ℕ) (ps : List (List ℕ)) → is_pair a b ≡ true
    → without_leftmost_pair (a ∷ b ∷ ps) ≡ ps
unfolding without_leftmost_pair
leftmost-cons_pair a b ps e = rw e refl

pub leftmost-cons : (a b : List ℕ) (ps : List (List ℕ)) → is_pair a b ≡ false
    → without_leftmost_pair (a ∷ b ∷ ps) ≡ a ∷ without_leftmost_pair (b ∷ ps)
unfolding without_leftmost_pair
leftmost-cons a b ps e = rw e refl

leftmost-nil : without_leftmost_pair [] ≡ []
unfolding without_leftmost_pair
leftmost-nil = refl

leftmost-one : (a : List ℕ) → without_leftmost_pair (a ∷ []) ≡ a ∷ []
unfolding without_leftmost_pair
leftmost-one a = refl

-- where there is no pair, all components stay
pub leftmost-none : (ps : List (List ℕ)) → HasNoPair ps → without_leftmost_pair ps ≡ ps
leftmost-none [] h = leftmost-nil
leftmost-none (a ∷ []) h = leftmost-one a
leftmost-none (a ∷ b ∷ ps) h = leftmost-cons a b ps h.0 ∙ ap (λ qs. a ∷ qs) (leftmost-none (b ∷ ps) h.1)

-- the leftmost pair is taken out, and the components before and after it stay
pub leftmost-at : (front : List (List ℕ)) (a b : List ℕ) (ps : List (List ℕ)) → HasNoPair (front ++ a ∷ [])
    → is_pair a b ≡ true → without_leftmost_pair (front ++ a ∷ b ∷ ps) ≡ front ++ ps
leftmost-at [] a b ps h e = leftmost-cons_pair a b ps e
leftmost-at (x ∷ []) a b ps h e = grind (arith, leftmost-cons x a (b ∷ ps) h.0, leftmost-cons_pair a b ps e)
leftmost-at (x ∷ y ∷ front) a b ps h e =
    leftmost-cons x y (front ++ a ∷ b ∷ ps) h.0 ∙ ap (λ qs. x ∷ qs) (leftmost-at (y ∷ front) a b ps h.1 e)

-- a turn changes nothing, or takes out two components
leftmost-or : (ps : List (List ℕ)) → (without_leftmost_pair ps ≡ ps)
    ⊎ (length (without_leftmost_pair ps) + 2 ≡ length ps)
leftmost-or [] = inl leftmost-nil
leftmost-or (a ∷ []) = inl (leftmost-one a)
leftmost-or (a ∷ b ∷ ps) = by_test (is_pair a b) refl (leftmost-or (b ∷ ps))
  where
    more : without_leftmost_pair (a ∷ b ∷ ps) ≡ a ∷ without_leftmost_pair (b ∷ ps)
        → (without_leftmost_pair (b ∷ ps) ≡ b ∷ ps)
        ⊎ (length (without_leftmost_pair (b ∷ ps)) + 2 ≡ length (b ∷ ps))
        → (without_leftmost_pair (a ∷ b ∷ ps) ≡ a ∷ b ∷ ps)
        ⊎ (length (without_leftmost_pair (a ∷ b ∷ ps)) + 2 ≡ length (a ∷ b ∷ ps))
    more step (inl same) = inl (step ∙ ap (λ qs. a ∷ qs) same)
    more step (inr fewer) = let l : length (without_leftmost_pair (a ∷ b ∷ ps))
        ≡ suc (length (without_leftmost_pair (b ∷ ps))) = ap length step in inr (omega (arith, l, fewer))

    by_test : (t : Bool) → is_pair a b ≡ t
        → (without_leftmost_pair (b ∷ ps) ≡ b ∷ ps)
        ⊎ (length (without_leftmost_pair (b ∷ ps)) + 2 ≡ length (b ∷ ps))
        → (without_leftmost_pair (a ∷ b ∷ ps) ≡ a ∷ b ∷ ps)
        ⊎ (length (without_leftmost_pair (a ∷ b ∷ ps)) + 2 ≡ length (a ∷ b ∷ ps))
    by_test true e rest = let l : length (without_leftmost_pair (a ∷ b ∷ ps)) ≡ length ps =
        ap length (leftmost-cons_pair a b ps e) in inr (omega (arith, l))
    by_test false e rest = more (leftmost-cons a b ps e) rest

iterate-same : (n : ℕ) (ps : List (List ℕ)) → without_leftmost_pair ps ≡ ps
    → iterate without_leftmost_pair n ps ≡ ps
iterate-same zero ps e = refl
iterate-same (suc n) ps e = ap (iterate without_leftmost_pair n) e ∙ iterate-same n ps e

-- as many turns as there are components are enough, and more change nothing
enough : (n m : ℕ) (ps : List (List ℕ)) → length ps ≤ n → length ps ≤ m
    → iterate without_leftmost_pair n ps ≡ iterate without_leftmost_pair m ps
enough zero m [] h k = sym (iterate-same m [] leftmost-nil)
enough zero m (p ∷ ps) h k = absurd (omega arith)
enough (suc n) zero [] h k = iterate-same (suc n) [] leftmost-nil
enough (suc n) zero (p ∷ ps) h k = absurd (omega arith)
enough (suc n) (suc m) ps h k = by_turn (leftmost-or ps) (enough n m (without_leftmost_pair ps))
  where
    by_turn : (without_leftmost_pair ps ≡ ps) ⊎ (length (without_leftmost_pair ps) + 2 ≡ length ps)
        → (length (without_leftmost_pair ps) ≤ n → length (without_leftmost_pair ps) ≤ m
        → iterate without_leftmost_pair n (without_leftmost_pair ps)
        ≡ iterate without_leftmost_pair m (without_leftmost_pair ps))
        → iterate without_leftmost_pair (suc n) ps ≡ iterate without_leftmost_pair (suc m) ps
    by_turn (inl same) rest = iterate-same (suc n) ps same ∙ sym (iterate-same (suc m) ps same)
    by_turn (inr fewer) rest = rest (omega arith) (omega arith)

pub pairs-none : (ps : List (List ℕ)) → HasNoPair ps → without_pairs ps ≡ ps
pairs-none ps h = iterate-same (length ps) ps (leftmost-none ps h)

-- the leftmost pair makes no difference
pub pairs-at : (front : List (List ℕ)) (a b : List ℕ) (ps : List (List ℕ)) → HasNoPair (front ++ a ∷ [])
    → is_pair a b ≡ true → without_pairs (front ++ a ∷ b ∷ ps) ≡ without_pairs (front ++ ps)
pairs-at front a b ps h e = grind (arith, length, length-append, leftmost-at, enough)

-- one more component, other than `..`
pub no_pair-push : (ps : List (List ℕ)) (b : List ℕ) → HasNoPair ps → is_up b ≡ false
    → HasNoPair (ps ++ b ∷ [])
no_pair-push [] b h e = tt
no_pair-push (a ∷ []) b h e = grind arith
no_pair-push (a ∷ c ∷ ps) b h e = (h.0, no_pair-push (c ∷ ps) b h.1 e)

pub no_pair-replicate : (n : ℕ) → HasNoPair (replicate n (46 ∷ 46 ∷ []))
no_pair-replicate zero = tt
no_pair-replicate (suc zero) = tt
no_pair-replicate (suc (suc n)) = (refl, no_pair-replicate (suc n))
