-- How the code cleans a path: one component after another, with the components kept so far. Nothing here has to be
-- believed.
use Rattle.std.specs.Prelude.{◌≡◌, ℕ, suc, ◌+◌, ◌≤◌, ◌⊎◌, nat_lt, Bool, true, false, not, ◌&&◌, ◌||◌, ◌==◌, drop, if◌then◌else◌, Option, Some, None, List, [], ◌∷◌, ◌++◌, length, replicate}
use Rattle.std.specs.List.{slice_split, join_with_byte, list_any, AllByRecursion}
use Rattle.std.specs.Simd.Lanes.{zip2}
use Rattle.nj_text.specs.declared.components.Component.{Component}
use Rattle.nj_text.specs.declared.components.Component.TheVariants.{Nowhere, Up, Name}
use Rattle.nj_text.specs.Paths.{is_slash, is_up, leads_nowhere, is_absolute, IsName}

-- the meaning of a component between two slashes
abbrev pub component_of : List ℕ → Component
component_of component = if leads_nowhere component then Nowhere else if is_up component then Up else Name

-- the components of the rest of a path
abbrev pub components_left : Option (List ℕ) → List (List ℕ)
components_left None = []
components_left (Some text) = slice_split is_slash text

-- the components that are kept so far: how many `..`, and the names after them, the last one first
pub record Kept : Type 0 where
  pub ups : ℕ
  pub names : List (List ℕ)

abbrev pub nothing_kept : Kept
nothing_kept = record { ups = 0; names = [] }

abbrev pub one_up : ℕ → List (List ℕ) → Kept
one_up ups [] = record { ups = suc ups; names = [] }
one_up ups (name ∷ names) = record { ups = ups; names = names }

-- the path's names so far, with one more component
abbrev pub with_component : Component → List ℕ → Kept → Kept
with_component Nowhere component kept = kept
with_component Up component kept = one_up kept.ups kept.names
with_component Name component kept = record { ups = kept.ups; names = component ∷ kept.names }

abbrev pub kept_after : Kept → List (List ℕ) → Kept
kept_after kept [] = kept
kept_after kept (component ∷ components) = kept_after (with_component (component_of component) component kept) components

-- the components in their order
abbrev pub components_kept : ℕ → List (List ℕ) → List (List ℕ)
components_kept ups [] = replicate ups (46 ∷ 46 ∷ [])
components_kept ups (name ∷ names) = components_kept ups names ++ name ∷ []

-- an absolute path loses its leading `..`
abbrev pub ups_seen : Bool → ℕ → ℕ
ups_seen true ups = 0
ups_seen false ups = ups

abbrev pub text_kept : Bool → Kept → List ℕ
text_kept absolute kept = join_with_byte 47 (components_kept (ups_seen absolute kept.ups) kept.names)

-- after the base, from `front` on, come the components so far, and the names among them from `floor` on
pub record IsWritten (absolute : Bool) (base : List ℕ) (kept : Kept) (front floor : ℕ) (out : List ℕ) : Type 0 where
  pub text_is : out ≡ base ++ text_kept absolute kept
  pub front_is : front ≡ length base
  pub floor_is : floor ≡ length base + length (join_with_byte 47 (components_kept (ups_seen absolute kept.ups) []))
  pub are_names : AllByRecursion IsName kept.names

abbrev pub BeginsWith : List ℕ → List ℕ → Type 0
BeginsWith front whole = (rest : List ℕ) × (whole ≡ front ++ rest)

-- some bytes with one more component, of those from `front` on: after a slash, unless it is the first
abbrev pub text_with_component : ℕ → List ℕ → List ℕ → List ℕ
text_with_component front out component = if nat_lt front (length out) then out ++ 47 ∷ component else out ++ component

-- the last name is gone, with the slash before it if that is above the floor
abbrev pub DropsName : ℕ → List ℕ → List ℕ → Type 0
DropsName floor old new =
    (name : List ℕ) × (list_any is_slash name ≡ false)
    × (((floor ≤ length new) × (old ≡ new ++ 47 ∷ name)) ⊎ ((floor ≡ length new) × (old ≡ new ++ name)))

-- ---- a path that is clean already

-- whether a component is in the clean path unchanged, where a name comes before it or not
abbrev pub stays : Bool → Component → Bool
stays named Nowhere = false
stays named Up = not named
stays named Name = true

abbrev pub named_after : Bool → Component → Bool
named_after named Nowhere = named
named_after named Up = named
named_after named Name = true

abbrev pub all_stay : Bool → List (List ℕ) → Bool
all_stay named [] = true
all_stay named (component ∷ components) =
    stays named (component_of component) && all_stay (named_after named (component_of component)) components

abbrev pub is_here : List ℕ → Bool
is_here [] = false
is_here (b ∷ bs) = leads_nowhere (b ∷ bs)

-- whether the path is clean already
abbrev pub stays_clean : List ℕ → Bool
stays_clean path =
    if is_absolute path then length (drop 1 path) == 0 || all_stay true (slice_split is_slash (drop 1 path))
    else is_here path || all_stay false (slice_split is_slash path)

-- ---- names that are seen sixteen bytes at a time

-- a slash before a slash or a dot: the component after it may be no name
abbrev pub is_suspect : ℕ → ℕ → Bool
is_suspect byte next = is_slash byte && (is_slash next || next == 46)

-- for each byte but the last, whether it is suspect before the next one
abbrev pub suspects : List ℕ → List Bool
suspects text = zip2 is_suspect text (drop 1 text)

abbrev pub any : List Bool → Bool
any tests = list_any (λ test. test) tests

-- whether the last byte is a slash
abbrev pub ends_with_slash : List ℕ → Bool
ends_with_slash [] = false
ends_with_slash (b ∷ []) = is_slash b
ends_with_slash (b ∷ bs) = ends_with_slash bs

-- whether the first byte begins a name: it is neither a slash nor a dot
abbrev pub begins_name : List ℕ → Bool
begins_name [] = false
begins_name (b ∷ bs) = not (is_slash b || b == 46)
