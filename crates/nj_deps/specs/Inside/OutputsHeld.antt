-- How outputs are held. Nothing here has to be believed.
use Rattle.std.specs.Prelude.{◌≡◌, ℕ, zero, suc, ◌<◌, ◌≤◌, Bool, true, false, if◌then◌else◌, nat_eq, List, [], ◌∷◌, map, length, slice_range, slice_index_or}
use Rattle.std.specs.List.{AllByRecursion}
use Rattle.nj_deps.specs.declared.logged_outputs.HeldOutput.{HeldOutput}
use Rattle.nj_deps.specs.LogRecords.{words}
use Rattle.nj_deps.specs.Logs.{OutputModel, IsOfPaths, with_output}

-- ---- their inputs

abbrev pub logged : (inputs : List ℕ) → HeldOutput → OutputModel
logged inputs held = record {
  output = held.output;
  time = held.time;
  inputs = slice_range inputs held.start held.end;
}

abbrev pub all_logged : (inputs : List ℕ) → List HeldOutput → List OutputModel
all_logged inputs outputs = map (logged inputs) outputs

-- an output with the given path, with a part of the inputs
pub record IsHeld (size count : ℕ) (held : HeldOutput) : Type 0 where
  pub output : held.output < count
  pub rises : held.start ≤ held.end
  pub ends : held.end ≤ size

-- ---- their places

abbrev pub later_place : ℕ → ℕ
later_place zero = 0
later_place (suc place) = suc (suc place)

-- the place of the output with the given number, counted from 1, or 0
abbrev pub place_of : List HeldOutput → (number : ℕ) → ℕ
place_of [] number = 0
place_of (held ∷ outputs) number =
    if nat_eq held.output number then 1 else later_place (place_of outputs number)

-- each place is kept
abbrev pub ArePlaces : List HeldOutput → (places : List ℕ) → Type 0
ArePlaces outputs places = (number : ℕ) → number < length places
    → slice_index_or places number 0 ≡ place_of outputs number

-- in place of the output of the same number, or at the end
abbrev pub with_held : List HeldOutput → HeldOutput → List HeldOutput
with_held [] held = held ∷ []
with_held (other ∷ outputs) held =
    if nat_eq other.output held.output then held ∷ outputs else other ∷ with_held outputs held

-- ---- all together

pub record OutputsModel : Type 0 where
  -- how many paths there are
  pub count : ℕ
  pub outputs : List OutputModel

pub record AreOutputsHeld (inputs : List ℕ) (outputs : List HeldOutput) (places : List ℕ)
    : Type 0 where
  pub held : AllByRecursion (IsHeld (length inputs) (length places)) outputs
  pub are_places : ArePlaces outputs places
  pub of_paths : AllByRecursion (IsOfPaths (length places)) (all_logged inputs outputs)

-- The dependencies of an output are kept, if the numbers are numbers of paths. The bytes are those of the inputs.
abbrev pub Keeps : (output time : ℕ) → (bytes : List ℕ) → (old new : OutputsModel) → Bool → Type 0
Keeps output time bytes old new true = (inputs : List ℕ) × (bytes ≡ words inputs)
    × (output < old.count) × AllByRecursion (λ n. n < old.count) inputs
    × (new ≡ record {
      count = old.count;
      outputs = with_output old.outputs (record { output = output; time = time; inputs = inputs });
    })
Keeps output time bytes old new false = ((inputs : List ℕ) → bytes ≡ words inputs
    → output < old.count → AllByRecursion (λ n. n < old.count) inputs → ⊥)
    × (new ≡ old)
