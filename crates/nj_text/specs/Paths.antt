-- The clean path of a path.
use Rattle.std.specs.Prelude.{◌≡◌, ℕ, ◌==◌, Bool, false, not, ◌&&◌, ◌||◌, if◌then◌else◌, List, [], ◌∷◌, length, codes}
use Rattle.std.specs.List.{filter, slice_split, join_with_byte, list_any}
use Rattle.std.specs.Str.{bytes_eq}
use Rattle.std.specs.Fn.{iterate}
use Rattle.nj_text.specs.Bytes.{drop_while, begins_with}

-- a slash
abbrev pub is_slash : ℕ → Bool
is_slash b = b == 47

-- `..`, the parent directory
abbrev pub is_up : List ℕ → Bool
is_up component = bytes_eq component (codes "..")

-- an empty component or `.`: it stays in the same directory
abbrev pub leads_nowhere : List ℕ → Bool
leads_nowhere component = bytes_eq component [] || bytes_eq component (codes ".")

-- a component that leads into a directory or to a file: neither empty nor `.` nor `..`, and without a slash
pub record IsName (component : List ℕ) : Type 0 where
  pub leads_somewhere : leads_nowhere component ≡ false
  pub leads_down : is_up component ≡ false
  pub has_no_slash : list_any is_slash component ≡ false

-- the components between the slashes of a path, without empty ones and `.`
abbrev pub components_of_path : List ℕ → List (List ℕ)
components_of_path path = filter (λ component. not (leads_nowhere component)) (slice_split is_slash path)

-- the first is a component other than `..`, the second is `..`
abbrev pub is_pair : List ℕ → List ℕ → Bool
is_pair component next = not (is_up component) && is_up next

-- the components without their leftmost pair: a component other than `..` directly before a `..`
unfoldable pub without_leftmost_pair : List (List ℕ) → List (List ℕ)
without_leftmost_pair [] = []
without_leftmost_pair (component ∷ []) = component ∷ []
without_leftmost_pair (component ∷ next ∷ components) =
    if is_pair component next then components else component ∷ without_leftmost_pair (next ∷ components)

-- the components with the leftmost pair taken out until no pair is left: at most as often as there are components
abbrev pub without_pairs : List (List ℕ) → List (List ℕ)
without_pairs components = iterate without_leftmost_pair (length components) components

-- the path begins with a slash
abbrev pub is_absolute : List ℕ → Bool
is_absolute path = begins_with is_slash path

-- the text of a relative path: its components, joined by slashes, or `.` without components
abbrev pub relative_text : List (List ℕ) → List ℕ
relative_text [] = 46 ∷ []
relative_text (component ∷ components) = join_with_byte 47 (component ∷ components)

-- the text of an absolute path: a slash, and its components, joined by slashes
abbrev pub absolute_text : List (List ℕ) → List ℕ
absolute_text components = 47 ∷ join_with_byte 47 components

-- the clean path of a path that is not empty; an absolute path loses all leading `..`
unfoldable pub clean_path_of : List ℕ → List ℕ
clean_path_of path =
    if is_absolute path then absolute_text (drop_while is_up (without_pairs (components_of_path path)))
    else relative_text (without_pairs (components_of_path path))
