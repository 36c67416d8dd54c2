-- How lists of tests read JSON values. Of members with the same name the last one is used, as in CMake and in Python.
use Rattle.std.specs.Prelude.{◌≡◌, ℕ, Option, Some, None, option_map, option_and_then, List, [], ◌∷◌, ◌++◌, IsUtf8}
use Rattle.serde_json.specs.Data.{Data, null, boolean, number, string, array, object, Items, no_items, item}
use Rattle.serde_json.specs.Read.{read}
use Rattle.serde_json.specs.Find.{get, as_str, as_array}

-- a text is JSON, with this value
pub record IsJson (text : List ℕ) (value : Data) : Type 0 where
  pub utf8 : IsUtf8 text
  pub reads : read text ≡ Some value

-- ---- lists

-- the results for all items; `None` if an item has no result
abbrev pub each : {A B : Type 0} → (A → Option B) → List A → Option (List B)
each f [] = Some []
each f (x ∷ xs) = option_and_then (λ y. option_map (λ ys. y ∷ ys) (each f xs)) (f x)

-- the lists for all items, one after another; `None` if an item has no list
abbrev pub joined : {A B : Type 0} → (A → Option (List B)) → List A → Option (List B)
joined f [] = Some []
joined f (x ∷ xs) = option_and_then (λ ys. option_map (λ zs. ys ++ zs) (joined f xs)) (f x)

-- ---- arrays, and strings in them

-- the items, as a list
abbrev pub listed : Items → List Data
listed no_items = []
listed (item value values) = value ∷ listed values

-- the items of an array
abbrev pub items : Data → Option (List Data)
items value = option_map listed (as_array value)

-- the strings of an array of strings
abbrev pub strings : Data → Option (List (List ℕ))
strings value = option_and_then (each as_str) (items value)

-- ---- members

-- the string that an object has at the given name
abbrev pub string_at : (name : List ℕ) → Data → Option (List ℕ)
string_at name value = option_and_then as_str (get name value)

-- the items of the array at the given name
abbrev pub items_at : (name : List ℕ) → Data → Option (List Data)
items_at name value = option_and_then items (get name value)

-- the strings of the array of strings at the given name
abbrev pub strings_at : (name : List ℕ) → Data → Option (List (List ℕ))
strings_at name value = option_and_then strings (get name value)

-- `null` stands for a member that is left out
abbrev not_null : Data → Option Data
not_null null = None
not_null (boolean b) = Some (boolean b)
not_null (number n) = Some (number n)
not_null (string s) = Some (string s)
not_null (array values) = Some (array values)
not_null (object members) = Some (object members)

-- the value at the given name, if it is not `null`
abbrev pub given : (name : List ℕ) → Data → Option Data
given name value = option_and_then not_null (get name value)

-- the value of a member that may be left out: `Some None` if it is left out, and `None` if it is of another type
abbrev pub optional : {A : Type 0} → (Data → Option A) → Option Data → Option (Option A)
optional f None = Some None
optional f (Some value) = option_map Some (f value)
