-- Scopes that were opened stay opened.
use Rattle.std.proofs.lemmas.Grind.{common_steps}
use Rattle.std.proofs.Common.{◌≡◌, ℕ, ◌<◌, ◌≤◌, Option, List, [], ◌∷◌, length, arith, refl, ◌∙◌}
use Rattle.std.specs.List.{AllByRecursion}
use Rattle.nj_scope.specs.Scopes.{IsScope, outermost, child, ScopeModel, parent_at}
use Rattle.nj_scope.specs.ReadingList.{ReadStatement}
use Rattle.nj_graph.specs.Graph.{IsOpenScope}
use Rattle.nj_graph.specs.Inside.ReaderContracts.{Grows}

pub grows-self : (scopes : List ScopeModel) → Grows scopes scopes
grows-self scopes = record { count = omega arith; parents = λ n h. refl }

pub grows-then : (before mid after : List ScopeModel) → Grows before mid → Grows mid after
    → Grows before after
grows-then before mid after p q = grind (arith, common_steps)

scope-kept : (parent later : ℕ → Option ℕ) (count : ℕ) → ((n : ℕ) → n < count → later n ≡ parent n)
    → (s : ℕ) (scope : List ℕ) → IsScope parent s scope → AllByRecursion (λ n. n < count) scope
    → IsScope later s scope
scope-kept parent later count same s scope (outermost h) there = outermost (same s there.0 ∙ h)
scope-kept parent later count same s scope (child h inner) there =
    child (same s there.0 ∙ h) (scope-kept parent later count same _ _ inner there.1)

still-there : (before after : ℕ) → before ≤ after → (ns : List ℕ) → AllByRecursion (λ n. n < before) ns
    → AllByRecursion (λ n. n < after) ns
still-there before after more [] there = tt
still-there before after more (n ∷ ns) there =
    (omega (arith, more, there.0), still-there before after more ns there.1)

pub open-grown : (before after : List ScopeModel) (number : ℕ) (around : List ℕ) → Grows before after
    → IsOpenScope before number around → IsOpenScope after number around
open-grown before after number around grows comes = record {
  within = scope-kept (parent_at before) (parent_at after) (length before) grows.parents number
      (number ∷ around) comes.within comes.there;
  there = still-there (length before) (length after) grows.count (number ∷ around) comes.there;
}

-- the scopes of statements
abbrev pub AreOpen : List ScopeModel → List ReadStatement → Type 0
AreOpen scopes entries = AllByRecursion (λ e. IsOpenScope scopes e.scope e.around) entries

all-grown : (before after : List ScopeModel) → Grows before after → (entries : List ReadStatement)
    → AreOpen before entries → AreOpen after entries
all-grown before after grows [] opened = tt
all-grown before after grows (e ∷ entries) opened =
    (open-grown before after e.scope e.around grows opened.0, all-grown before after grows entries opened.1)

pub open-next : (before after : List ScopeModel) (e : ReadStatement) (entries : List ReadStatement)
    → Grows before after → IsOpenScope before e.scope e.around → AreOpen before entries
    → AreOpen after (e ∷ entries)
open-next before after e entries grows inside opened =
    all-grown before after grows (e ∷ entries) (inside, opened)
