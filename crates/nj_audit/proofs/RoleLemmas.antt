-- The roles of edges, one by one.
use Rattle.std.proofs.Common.{◌≡◌, ◌∷◌, ◌++◌, ◌||◌, ℕ, Bool, true, false, cond, List, [], refl, sym, ap}
use Rattle.std.proofs.Common.{subst, ◌∙◌, inl, inr}
use Rattle.std.specs.Prelude.{nat_eq}
use Rattle.std.proofs.lemmas.Bool.Decides.{eqb_tells}
use Rattle.nj_names.specs.NumberSets.{NumberSetModel, has, with_number}
use Rattle.nj_graph.specs.Graph.{GraphModel}
use Rattle.nj_graph.specs.Handles.{GraphEdge, commands_needed, edge_in, edges_in}
use Rattle.nj_audit.specs.Inside.RolesHeld.{HasNumbers}
use Rattle.nj_audit.proofs.HandleLemmas.{AreOf, numbers_of, numbers_there}

-- ---- one more number

has-append : (xs ys : List ℕ) (n : ℕ) → has (xs ++ ys) n ≡ (has xs n || has ys n)
has-append [] ys n = refl
has-append (x ∷ xs) ys n = by (nat_eq n x) (has-append xs ys n)
  where
    by : (b : Bool) → has (xs ++ ys) n ≡ (has xs n || has ys n)
        → (b || has (xs ++ ys) n) ≡ ((b || has xs n) || has ys n)
    by true rest = refl
    by false rest = rest

-- a number that is already in the list
has-again : (xs : List ℕ) (x n : ℕ) → has xs x ≡ true → has xs n ≡ has (xs ++ x ∷ []) n
has-again xs x n known = sym (has-append xs (x ∷ []) n ∙ elim (eqb_tells n x) [
  | inl same ↦
      let there : has xs n ≡ true = ap (has xs) same.1 ∙ known in
      ap (λ b. b || has (x ∷ []) n) there ∙ sym there
  | inr other ↦ ap (λ b. has xs n || (b || false)) other.0 ∙ or-none (has xs n)
])
  where
    or-none : (b : Bool) → (b || false) ≡ b
    or-none true = refl
    or-none false = refl

with-has : (xs : List ℕ) (x n : ℕ) → has (with_number xs x) n ≡ has (xs ++ x ∷ []) n
with-has xs x n = by (has xs x) refl
  where
    by : (b : Bool) → has xs x ≡ b → has (cond b xs (xs ++ x ∷ [])) n ≡ has (xs ++ x ∷ []) n
    by true known = has-again xs x n known
    by false known = refl

pub none-has : (count limit : ℕ) (set : NumberSetModel) → set ≡ record { limit = limit; numbers = [] }
    → limit ≡ count → HasNumbers count [] set
none-has count limit set is same = record {
  limit = ap (λ (s : NumberSetModel). s.limit) is ∙ same;
  numbers = λ n. ap (λ (s : NumberSetModel). has s.numbers n) is;
}

pub more-has : (count : ℕ) (all : List ℕ) (old new : NumberSetModel) (number : ℕ)
    → new ≡ record old { numbers = with_number old.numbers number } → HasNumbers count all old
    → HasNumbers count (all ++ number ∷ []) new
more-has count all old new number is held = record {
  limit = ap (λ (s : NumberSetModel). s.limit) is ∙ held.limit;
  numbers = λ n.
      ap (λ (s : NumberSetModel). has s.numbers n) is ∙ with-has old.numbers number n
      ∙ has-append old.numbers (number ∷ []) n
      ∙ ap (λ b. b || has (number ∷ []) n) (held.numbers n)
      ∙ sym (has-append all (number ∷ []) n);
}

-- ---- the edges that are left

edges-are-of : (g : GraphModel) (numbers : List ℕ) (edges : List GraphEdge) → edges ≡ edges_in g numbers
    → AreOf g edges
edges-are-of g numbers edges is =
    is ∙ ap (edges_in g) (sym (ap numbers_of is ∙ numbers_there g numbers))

pub others-of : (g : GraphModel) (edge : GraphEdge) (left others : List GraphEdge) → left ≡ edge ∷ others
    → AreOf g left → AreOf g others
others-of g edge left others is of =
    let both : edge ∷ others ≡ edge_in g edge.number ∷ edges_in g (numbers_of others) =
    subst (λ es. es ≡ edges_in g (numbers_of es)) is of in cc

pub commands-are-of : (g : GraphModel) (paths : List (List ℕ)) (edges : List GraphEdge)
    → edges ≡ commands_needed (record { graph = g; paths = paths }) → AreOf g edges
commands-are-of g paths edges is = edges-are-of g _ edges is
