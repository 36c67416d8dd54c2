-- Laws of the order of the needed commands.
use Rattle.std.specs.Prelude.{◌≡◌, ℕ, ◌<◌, ◌≤◌, ◌↔◌, Bool, false, Option, List, [], ◌∷◌, ◌++◌, Some, slice_get, Contains, nat_eq}
use Rattle.std.specs.List.{IsDistinct}
use Rattle.nj_cycles.specs.Cycles.{IsAcyclic, NeedsByChain}
use Rattle.nj_needs.specs.Needs.{AreWithin, Reached}
use Rattle.nj_needs.specs.Order.{unfolded, unfolded_row, needed_commands}
use Rattle.nj_needs.specs.Marks.{IsFirstPlace}

-- the fuel of the unfolded order is enough: with any more of it the order is the same
abbrev pub FuelIsEnough : Type 0
FuelIsEnough = (makers : ℕ → List (Option ℕ)) (count fuel : ℕ) (row : List (Option ℕ)) → IsAcyclic makers count → AreWithin row count
    → count ≤ fuel → unfolded_row makers fuel row ≡ unfolded_row makers count row

-- so, without fuel: an edge unfolds to the unfolded order of each of its makers, in turn, and then the edge
abbrev pub EdgesComeAfterMakers : Type 0
EdgesComeAfterMakers = (makers : ℕ → List (Option ℕ)) (count e : ℕ) → IsAcyclic makers count → e < count
    → unfolded makers count e ≡ unfolded_row makers count (makers e) ++ e ∷ []

-- f comes in the list before an occurrence of e
abbrev pub ComesBefore : List ℕ → ℕ → ℕ → Type 0
ComesBefore es f e = (i : ℕ) × (j : ℕ) × (i < j) × (slice_get es i ≡ Some f) × (slice_get es j ≡ Some e)

-- the commands are exactly those of the edges without which the targets cannot be made; a phony edge has no command
abbrev pub CommandsAreTheReached : Type 0
CommandsAreTheReached = (makers : ℕ → List (Option ℕ)) (count : ℕ) (phony : ℕ → Bool) (targets : List (Option ℕ))
    → IsAcyclic makers count → AreWithin targets count
    → (e : ℕ) → Contains (needed_commands makers count phony targets) e ↔ (Reached makers targets e × (phony e ≡ false))

-- no command is repeated
abbrev pub CommandsComeOnce : Type 0
CommandsComeOnce = (makers : ℕ → List (Option ℕ)) (count : ℕ) (phony : ℕ → Bool) (targets : List (Option ℕ))
    → IsDistinct nat_eq (needed_commands makers count phony targets)

-- each command comes after all others that its edge needs, directly or through any edges
abbrev pub CommandsComeAfterNeeds : Type 0
CommandsComeAfterNeeds = (makers : ℕ → List (Option ℕ)) (count : ℕ) (phony : ℕ → Bool) (targets : List (Option ℕ))
    → IsAcyclic makers count → AreWithin targets count
    → (e f : ℕ) → Contains (needed_commands makers count phony targets) e → NeedsByChain makers e f → phony f ≡ false
    → ComesBefore (needed_commands makers count phony targets) f e

-- an edge has exactly one first place
abbrev pub FirstPlacesAreOne : Type 0
FirstPlacesAreOne = (makers : ℕ → List (Option ℕ)) (count : ℕ) (targets : List (Option ℕ))
    → IsAcyclic makers count → AreWithin targets count
    → (mark other : List ℕ) (e : ℕ) → IsFirstPlace makers count targets mark e → IsFirstPlace makers count targets other e → mark ≡ other
