-- Objects and arrays in JSON that are written part by part.
use Rattle.std.specs.Prelude.{◌≡◌, ℕ, Bool, true, false, List, ◌∷◌, ◌++◌, codes}
use Rattle.hex.specs.Hex.{encode_lower}
use Rattle.serde_json.specs.Data.{Data, Items, Members, item, member, string}
use Rattle.serde_json.specs.Written.{compact_text, items_text, members_text}
use Rattle.nj_graph.specs.Edges.{EdgePaths}
use Rattle.nj_ask.specs.KeyObjects.{KeyInput, KeyTexts, file_members, input_items, text_members}

-- a text has one more member, whatever members follow
abbrev pub AddsMember : (later : Bool) → (name : List ℕ) → Data → (old new : List ℕ) → Type 0
AddsMember later name value old new =
    (rest : Members) → new ++ members_text true rest ≡ old ++ members_text later (member name value rest)

-- a text has the name of one more member, whatever its value is
abbrev pub BeginsMember : (later : Bool) → (name : List ℕ) → (old new : List ℕ) → Type 0
BeginsMember later name old new = (value : Data) (rest : Members)
    → new ++ (compact_text value ++ members_text true rest) ≡ old ++ members_text later (member name value rest)

-- a text has one more item, whatever items follow
abbrev pub AddsItem : (later : Bool) → Data → (old new : List ℕ) → Type 0
AddsItem later value old new = (rest : Items) → new ++ items_text true rest ≡ old ++ items_text later (item value rest)

-- a text has a value more
abbrev pub AddsValue : Data → (old new : List ℕ) → Type 0
AddsValue value old new = new ≡ old ++ compact_text value

-- a text has more inputs, whatever items follow; `later` and `after` say whether an item is before and after them
abbrev pub AddsInputs : (later : Bool) → List KeyInput → (old new : List ℕ) → (after : Bool) → Type 0
AddsInputs later inputs old new after =
    (rest : Items) → new ++ items_text after rest ≡ old ++ items_text later (input_items inputs rest)

-- a text has an object more, so far with its first member, a key
abbrev pub AddsKey : (key : List ℕ) → (old new : List ℕ) → Type 0
AddsKey key old new = (rest : Members)
    → new ++ members_text true rest ≡ old ++ 123 ∷ members_text false (member (codes "key") (string (encode_lower key)) rest)

-- a text has the members with files more, whatever members follow
abbrev pub AddsFiles : List EdgePaths → (turns : ℕ) → EdgePaths → (old new : List ℕ) → Type 0
AddsFiles edges turns e old new =
    (rest : Members) → new ++ members_text true rest ≡ old ++ members_text true (file_members edges turns e rest)

-- a text has the members with texts more
abbrev pub AddsTexts : KeyTexts → (old new : List ℕ) → Type 0
AddsTexts texts old new = (rest : Members) → new ++ members_text true rest ≡ old ++ members_text true (text_members texts rest)
