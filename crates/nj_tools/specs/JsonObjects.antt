-- Objects of JSON whose strings are bytes, and their lines.
use Rattle.std.specs.Prelude.{ℕ, Bool, true, ◌&&◌, List, [], ◌∷◌}
use Rattle.std.specs.Str.{is_utf8}
use Rattle.json.specs.Json.{Json, null, boolean, number, string, array, object, Items, no_items, item, Members, no_members, member}
use Rattle.json.specs.Print.{print}
use Rattle.json.specs.Tree.{json_tokens}
use Rattle.nj_tools.specs.Lines.{line}

-- all strings of a value are UTF-8, so that JSON can contain it; keys need not be
abbrev mutual
  pub strings_are_utf8 : Json → Bool
  strings_are_utf8 null = true
  strings_are_utf8 (boolean b) = true
  strings_are_utf8 (number s) = true
  strings_are_utf8 (string s) = is_utf8 s
  strings_are_utf8 (array js) = items_are_utf8 js
  strings_are_utf8 (object ms) = members_are_utf8 ms

  pub items_are_utf8 : Items → Bool
  items_are_utf8 no_items = true
  items_are_utf8 (item j js) = strings_are_utf8 j && items_are_utf8 js

  pub members_are_utf8 : Members → Bool
  members_are_utf8 no_members = true
  members_are_utf8 (member k j ms) = strings_are_utf8 j && members_are_utf8 ms

-- a list of strings
abbrev pub strings : List (List ℕ) → Items
strings [] = no_items
strings (s ∷ ss) = item (string s) (strings ss)

-- the members with the given keys and values, in their order
abbrev pub members_of : List (List ℕ × Json) → Members
members_of [] = no_members
members_of (m ∷ ms) = member m.0 m.1 (members_of ms)

-- its text without blanks, as a line
abbrev pub json_line : Json → List ℕ
json_line j = line (print (json_tokens j))
