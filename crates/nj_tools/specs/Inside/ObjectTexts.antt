-- How an object of JSON is written, member by member.
use Rattle.std.specs.Prelude.{ℕ, Bool, if◌then◌else◌, Option, Some, None, option_map, List, [], ◌∷◌, ◌++◌}
use Rattle.json.specs.Json.{Json, string}
use Rattle.json.specs.Token.{Token, begin_object, key}
use Rattle.json.specs.Tree.{json_tokens}
use Rattle.nj_tools.specs.JsonObjects.{strings_are_utf8}

-- the tokens so far; `None` if a string was not UTF-8
abbrev pub held_tokens : (is_utf8 : Bool) → List Token → Option (List Token)
held_tokens is_utf8 tokens = if is_utf8 then Some tokens else None

-- an object without members
abbrev pub no_members_yet : Option (List Token)
no_members_yet = Some (begin_object ∷ [])

abbrev pub and_token : Option (List Token) → Token → Option (List Token)
and_token written t = option_map (λ ts. ts ++ t ∷ []) written

abbrev pub and_string : Option (List Token) → List ℕ → Option (List Token)
and_string written s = if strings_are_utf8 (string s) then option_map (λ ts. ts ++ json_tokens (string s)) written else None

abbrev pub and_member : Option (List Token) → List ℕ × Json → Option (List Token)
and_member written m = if strings_are_utf8 m.1 then option_map (λ ts. ts ++ key m.0 ∷ json_tokens m.1) written else None

-- the text of a whole value, if JSON can contain it
abbrev pub held_text : Json → Option (List Token)
held_text j = if strings_are_utf8 j then Some (json_tokens j) else None
