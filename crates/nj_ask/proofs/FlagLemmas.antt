-- Flags of numbers.
use Rattle.std.proofs.Common.{◌≡◌, ◌≢◌, ◌<◌, ℕ, ◌==◌, ◌||◌, ◌&&◌, ◌⊎◌, inl, inr, Bool, true, false, cond}
use Rattle.std.proofs.Common.{List, [], ◌∷◌, ◌++◌, map, length, get_or, set}
use Rattle.std.proofs.Common.{refl, sym, ap, ◌∙◌, arith, eq-eqb}
use Rattle.std.specs.Prelude.{Contains}
use Rattle.std.specs.List.{filter, list_any}
use Rattle.std.proofs.lemmas.Bool.{eqb-true}
use Rattle.std.proofs.lemmas.Bool.Decides.{eqb_tells}
use Rattle.std.proofs.lemmas.Grind.{common_steps}
use Rattle.std.proofs.lemmas.List.{length-set}
use Rattle.std.proofs.lemmas.List.Folds.{list_any-append, list_any-from_Any}
use Rattle.std.proofs.lemmas.Map.Views.{Contains-from_any}
use Rattle.nj_ask.specs.Manifest.{is_one_of}
use Rattle.nj_ask.specs.Inside.Flags.{AreFlags}

-- a flag after one was set
set-one : (flags : List Bool) (b : Bool) (m n : ℕ) → m < length flags → get_or flags n false ≡ b
    → get_or (set flags m true) n false ≡ (b || (n == m || false))
set-one flags b m n below is = grind (arith, common_steps, is)

-- one more number
pub flags-more : (count : ℕ) (numbers : List ℕ) (flags : List Bool) (m : ℕ) → m < count
    → AreFlags count numbers flags → AreFlags count (numbers ++ m ∷ []) (set flags m true)
flags-more count numbers flags m below held = record {
  count_is = length-set flags m true ∙ held.count_is;
  are = λ n within.
      let counted = held.count_is in
      set-one flags (is_one_of numbers n) m n (omega (arith, counted)) (held.are n within)
      ∙ sym (list_any-append (λ other. n == other) numbers (m ∷ []));
}

-- a test of the values of items
pub any-map : {X Y : Type 0} (p : Y → Bool) (f : X → Y) (xs : List X)
    → list_any (λ x. p (f x)) xs ≡ list_any p (map f xs)
any-map p f [] = refl
any-map p f (x ∷ xs) = ap (λ b. p (f x) || b) (any-map p f xs)

-- a number in a list is one of its numbers
pub is-there : (numbers : List ℕ) (n : ℕ) → Contains numbers n → is_one_of numbers n ≡ true
is-there numbers n has = list_any-from_Any (λ other. n == other) numbers
    (has.0, n, has.1, has.2, eq-eqb n n refl)

and-none : (b : Bool) → (b && false) ≡ false
and-none true = refl
and-none false = refl

-- the numbers that pass a test
among-filter : (p : ℕ → Bool) (numbers : List ℕ) (n : ℕ)
    → is_one_of (filter p numbers) n ≡ (is_one_of numbers n && p n)
among-filter p [] n = refl
among-filter p (m ∷ ms) n = by (p m) refl (eqb_tells n m) (among-filter p ms n)
  where
    by : (b : Bool) → p m ≡ b → ((n == m) ≡ true × (n ≡ m)) ⊎ ((n == m) ≡ false × (n ≢ m))
        → is_one_of (filter p ms) n ≡ (is_one_of ms n && p n)
        → is_one_of (cond b (m ∷ filter p ms) (filter p ms)) n ≡ ((n == m || is_one_of ms n) && p n)
    by true passes (inl same) rest =
        ap (λ b. b || is_one_of (filter p ms) n) same.0
        ∙ sym (ap (λ b. (b || is_one_of ms n) && p n) same.0 ∙ ap p same.1 ∙ passes)
    by true passes (inr other) rest = ap (λ b. b || is_one_of (filter p ms) n) other.0 ∙ rest
        ∙ sym (ap (λ b. (b || is_one_of ms n) && p n) other.0)
    by false fails (inl same) rest =
        let none : p n ≡ false = ap p same.1 ∙ fails in
        rest ∙ ap (λ b. is_one_of ms n && b) none ∙ and-none (is_one_of ms n)
        ∙ sym (ap (λ b. (n == m || is_one_of ms n) && b) none ∙ and-none (n == m || is_one_of ms n))
    by false fails (inr other) rest = rest ∙ sym (ap (λ b. (b || is_one_of ms n) && p n) other.0)

pub and-both : (a b : Bool) → (a && b) ≡ true → (a ≡ true) × (b ≡ true)
and-both true b is = (refl, is)
and-both false b is = absurd cc

-- one of the numbers of a list is in it
pub one-there : (numbers : List ℕ) (n : ℕ) → is_one_of numbers n ≡ true → Contains numbers n
one-there numbers n is = Contains-from_any eqb-true n numbers is

-- a number in a list that passes a test is among the passing numbers
pub passes-there : (p : ℕ → Bool) (numbers : List ℕ) (n : ℕ) → Contains numbers n → p n ≡ true
    → Contains (filter p numbers) n
passes-there p numbers n has passes =
    one-there (filter p numbers) n (among-filter p numbers n ∙ ap (λ b. b && p n) (is-there numbers n has)
    ∙ passes)

-- a number among the passing numbers is in the list and passes the test
pub there-passes : (p : ℕ → Bool) (numbers : List ℕ) (n : ℕ) → Contains (filter p numbers) n
    → Contains numbers n × (p n ≡ true)
there-passes p numbers n has =
    let both = and-both (is_one_of numbers n) (p n)
    (sym (among-filter p numbers n) ∙ is-there (filter p numbers) n has) in
    (one-there numbers n both.0, both.1)
