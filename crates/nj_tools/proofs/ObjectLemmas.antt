-- How an object is written, member by member.
use Rattle.std.proofs.Common.{◌≡◌, ℕ, Bool, true, false, ◌&&◌, cond, Option, Some, None, option_map, List, []}
use Rattle.std.proofs.Common.{◌∷◌, ◌++◌, refl, sym, ap, ◌∙◌, append_assoc, codes}
use Rattle.std.specs.List.{fold}
use Rattle.std.specs.Fmt.{decimal}
use Rattle.std.specs.Str.{is_utf8}
use Rattle.json.specs.Json.{Json, array, number, object, string}
use Rattle.nj_text.specs.declared.spot.Spot.{Spot}
use Rattle.json.specs.Token as token
use Rattle.json.specs.Token.{Token}
use Rattle.json.specs.Tree.{json_tokens, items_tokens, members_tokens}
use Rattle.nj_tools.specs.EdgeObjects.{place_object}
use Rattle.nj_tools.specs.JsonObjects.{items_are_utf8, members_are_utf8, members_of, strings}
use Rattle.nj_tools.specs.JsonObjects.{strings_are_utf8}
use Rattle.nj_tools.specs.Inside.ObjectTexts.{and_member, and_string, and_token, held_text, held_tokens}
use Rattle.nj_tools.specs.Inside.ObjectTexts.{no_members_yet}

-- a token more
pub token-more : (b : Bool) (ts new : List Token) (t : Token) → new ≡ ts ++ t ∷ []
    → held_tokens b new ≡ and_token (held_tokens b ts) t
token-more true ts new t is = ap Some is
token-more false ts new t is = refl

-- a string more
pub string-more : (b : Bool) (ts new : List Token) (s text : List ℕ) → is_utf8 text ≡ true → s ≡ text
    → new ≡ ts ++ token.string s ∷ []
    → held_tokens b new ≡ and_string (held_tokens b ts) text
string-more b ts new s text held same is =
    by b ∙ sym (ap (λ c. cond c (option_map (λ us. us ++ token.string text ∷ []) (held_tokens b ts)) None)
    held)
  where
    by : (c : Bool) → held_tokens c new ≡ option_map (λ us. us ++ token.string text ∷ []) (held_tokens c ts)
    by true = ap Some (is ∙ ap (λ u. ts ++ token.string u ∷ []) same)
    by false = refl

pub string-unheld : (o : Option (List Token)) (text : List ℕ) → is_utf8 text ≡ false
    → None ≡ and_string o text
string-unheld o text not = sym (ap (λ c. cond c (option_map (λ us. us ++ token.string text ∷ []) o) None) not)

and-two : (o : Option (List Token)) (us vs : List Token)
    → option_map (λ ts. ts ++ vs) (option_map (λ ts. ts ++ us) o) ≡ option_map (λ ts. ts ++ (us ++ vs)) o
and-two None us vs = refl
and-two (Some ts) us vs = ap Some (append_assoc ts us vs)

-- strings, and the end of their array
strings-close : (o : Option (List Token)) (texts : List (List ℕ))
    → and_token (fold and_string o texts) token.end_array
    ≡ cond (items_are_utf8 (strings texts)) (option_map (λ ts. ts ++ items_tokens (strings texts)) o) None
strings-close o [] = refl
strings-close o (text ∷ texts) = strings-close (and_string o text) texts
    ∙ by (is_utf8 text) (items_are_utf8 (strings texts))
  where
    by : (b c : Bool) → cond c (option_map (λ ts. ts ++ items_tokens (strings texts))
        (cond b (option_map (λ ts. ts ++ token.string text ∷ []) o) None)) None
        ≡ cond (b && c) (option_map (λ ts. ts ++ (token.string text ∷ items_tokens (strings texts))) o) None
    by true true = and-two o (token.string text ∷ []) (items_tokens (strings texts))
    by true false = refl
    by false true = refl
    by false false = refl

pub strings-are : (o : Option (List Token)) (name : List ℕ) (texts : List (List ℕ))
    → and_token (fold and_string (and_token (and_token o (token.key name)) token.begin_array) texts)
    token.end_array ≡ and_member o (name, array (strings texts))
strings-are o name texts = strings-close (and_token (and_token o (token.key name)) token.begin_array) texts
    ∙ by (items_are_utf8 (strings texts))
  where
    by : (b : Bool) → cond b (option_map (λ ts. ts ++ items_tokens (strings texts))
        (and_token (and_token o (token.key name)) token.begin_array)) None
        ≡ cond b (option_map (λ ts. ts ++ (token.key name ∷ token.begin_array ∷ items_tokens (strings texts)))
        o) None
    by true = ap (option_map (λ ts. ts ++ items_tokens (strings texts)))
        (and-two o (token.key name ∷ []) (token.begin_array ∷ []))
        ∙ and-two o (token.key name ∷ token.begin_array ∷ []) (items_tokens (strings texts))
    by false = refl

-- a place, member by member
pub place-is : (o : Option (List Token)) (name file : List ℕ) (spot : Spot)
    → and_token (and_member (and_member (and_member
    (and_token (and_token o (token.key name)) token.begin_object) (codes "file", string file))
    (codes "line", number (decimal spot.line))) (codes "column", number (decimal spot.column)))
    token.end_object
    ≡ and_member o (name, place_object file spot)
place-is o name file spot = by o (is_utf8 file)
  where
    by : (p : Option (List Token)) (b : Bool)
        → and_token (and_member (and_member (cond b
        (option_map (λ ts. ts ++ (token.key (codes "file") ∷ token.string file ∷ []))
        (and_token (and_token p (token.key name)) token.begin_object)) None)
        (codes "line", number (decimal spot.line))) (codes "column", number (decimal spot.column)))
        token.end_object
        ≡ cond (b && true) (option_map (λ ts. ts ++ (token.key name ∷ json_tokens (place_object file spot)))
        p) None
    by None true = refl
    by None false = refl
    by (Some ts) true = ap Some (simp append_assoc)
    by (Some ts) false = refl

-- the members of an object, and its end
pub members-close : (o : Option (List Token)) (ps : List (List ℕ × Json))
    → and_token (fold and_member o ps) token.end_object
    ≡ cond (members_are_utf8 (members_of ps)) (option_map (λ ts. ts ++ members_tokens (members_of ps)) o) None
members-close o [] = refl
members-close o (p ∷ ps) = members-close (and_member o p) ps
    ∙ by (strings_are_utf8 p.1) (members_are_utf8 (members_of ps))
  where
    by : (b c : Bool) → cond c (option_map (λ ts. ts ++ members_tokens (members_of ps))
        (cond b (option_map (λ ts. ts ++ (token.key p.0 ∷ json_tokens p.1)) o) None)) None
        ≡ cond (b && c) (option_map (λ ts. ts
        ++ (token.key p.0 ∷ (json_tokens p.1 ++ members_tokens (members_of ps)))) o) None
    by true true = and-two o (token.key p.0 ∷ json_tokens p.1) (members_tokens (members_of ps))
    by true false = refl
    by false true = refl
    by false false = refl

-- a place, as the code adds it
pub place-made : (o begun with_file with_line with_column ended : Option (List Token)) (name file : List ℕ)
    (spot : Spot)
    → begun ≡ and_token (and_token o (token.key name)) token.begin_object
    → with_file ≡ and_member begun (codes "file", string file)
    → with_line ≡ and_member with_file (codes "line", number (decimal spot.line))
    → with_column ≡ and_member with_line (codes "column", number (decimal spot.column))
    → ended ≡ and_token with_column token.end_object
    → ended ≡ and_member o (name, place_object file spot)
place-made o begun with_file with_line with_column ended name file spot b f l c e =
    e
    ∙ ap (λ s. and_token s token.end_object)
    (c ∙ ap (λ s. and_member s (codes "column", number (decimal spot.column)))
    (l ∙ ap (λ s. and_member s (codes "line", number (decimal spot.line)))
    (f ∙ ap (λ s. and_member s (codes "file", string file)) b)))
    ∙ place-is o name file spot

-- strings, as the code adds them
pub strings-made : (o begun filled ended : Option (List Token)) (name : List ℕ) (texts : List (List ℕ))
    → begun ≡ and_token (and_token o (token.key name)) token.begin_array
    → filled ≡ fold and_string begun texts
    → ended ≡ and_token filled token.end_array
    → ended ≡ and_member o (name, array (strings texts))
strings-made o begun filled ended name texts b f e =
    e ∙ ap (λ s. and_token s token.end_array) (f ∙ ap (λ s. fold and_string s texts) b)
    ∙ strings-are o name texts

-- ---- the whole object

pub object-is : (ms : List (List ℕ × Json))
    → and_token (fold and_member no_members_yet ms) token.end_object ≡ held_text (object (members_of ms))
object-is ms = members-close no_members_yet ms
