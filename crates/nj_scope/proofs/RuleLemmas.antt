-- Lemmas on rules and pools.
use Rattle.std.proofs.lemmas.Grind.{common_steps}
use Rattle.std.proofs.Common.{arith, ◌≡◌, ℕ, Bool, false, ◌||◌, List, [], ◌∷◌, ◌++◌, map}
use Rattle.std.proofs.Common.{bytes_eq, refl, ap, codes}
use Rattle.std.specs.List.{list_any}
use Rattle.std.specs.Global.{Vec}
use Rattle.indexmap.specs.IndexSet.{insert_key}
use Rattle.nj_scope.specs.Pools.{is_pool}

-- ---- keys, seen as lists

pub among-text : (keys : List (Vec ℕ)) (name : List ℕ)
    → list_any (bytes_eq name) (map (λ k. k.items) keys) ≡ list_any (λ k. bytes_eq name k.items) keys
among-text [] name = refl
among-text (k ∷ keys) name = ap (λ b. bytes_eq name k.items || b) (among-text keys name)

pub key-pushed : (keys after : List (Vec ℕ)) (k : Vec ℕ)
    → list_any (λ q. bytes_eq k.items q.items) keys ≡ false
    → after ≡ insert_key (λ x y. bytes_eq x.items y.items) keys k
    → map (λ q. q.items) after ≡ map (λ q. q.items) keys ++ k.items ∷ []
key-pushed keys after k absent is = grind (arith, common_steps)

pub or_false : (a b : Bool) → (a || b) ≡ false → b ≡ false
or_false a b h = grind arith

-- a name without a pool is not among the declared names
pub none-declared : (keys : List (Vec ℕ)) (declared : List (List ℕ)) (name key : List ℕ)
    → map (λ k. k.items) keys ≡ declared → key ≡ name → is_pool declared name ≡ false
    → list_any (λ k. bytes_eq key k.items) keys ≡ false
none-declared keys declared name key held same none = grind (arith, among-text, bytes_eq, or_false, codes)
