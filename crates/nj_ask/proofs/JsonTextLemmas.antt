-- Objects and arrays in JSON that are written part by part.
use Rattle.std.proofs.Common.{◌≡◌, ◌++◌, ◌∙◌, ℕ, Bool, true, false, List, [], ◌∷◌, codes, drop, length, refl}
use Rattle.std.proofs.Common.{sym, ap}
use Rattle.std.proofs.Common.{Result, Ok, Err, IfOk, OnOk}
use Rattle.std.proofs.lemmas.List.{append_assoc}
use Rattle.serde_json.proofs.OnLiterals.{serde_json_on_literals}
use Rattle.serde_json.specs.Data.{Data, Items, array, boolean, item, member, no_items, no_members, object}
use Rattle.serde_json.specs.Data.{string}
use Rattle.serde_json.specs.Written.{comma_if, compact_text, items_text, members_text}
use Rattle.nj_graph.specs.declared.Kind.{Kind}
use Rattle.nj_graph.specs.declared.Kind.TheVariants.{Explicit, Implicit, OrderOnly}
use Rattle.nj_graph.specs.Edges.{EdgePaths}
use Rattle.nj_ask.specs.KeyObjects.{KeyInput, KeyTexts, file_members, input_items, input_value}
use Rattle.nj_ask.specs.KeyObjects.{inputs_among, key_inputs, kind_name, text_members, text_value}
use Rattle.nj_ask.specs.Affected.{line}
use Rattle.hex.specs.Hex.{encode_lower}
use Rattle.nj_ask.specs.LookedThrough.{with_led}
use Rattle.nj_ask.specs.Inside.JsonTexts.{AddsFiles, AddsKey, AddsTexts}
use Rattle.nj_ask.specs.Inside.JsonTexts.{AddsInputs, AddsItem, AddsMember, AddsValue, BeginsMember}

-- a member is its name and its value
pub adds-value : (later : Bool) (name : List ℕ) (value : Data) (old mid new : List ℕ)
    → BeginsMember later name old mid → AddsValue value mid new → AddsMember later name value old new
adds-value later name value old mid new begins is = λ rest.
    ap (λ t. t ++ members_text true rest) is ∙ append_assoc mid (compact_text value) (members_text true rest)
    ∙ begins value rest

-- an item is a comma, where something stands before, and its value
pub adds-item : (later : Bool) (value : Data) (old mid new : List ℕ) → mid ≡ old ++ comma_if later
    → AddsValue value mid new → AddsItem later value old new
adds-item later value old mid new comma is = λ rest.
    let more = compact_text value ++ items_text true rest in
    ap (λ t. t ++ items_text true rest) is ∙ append_assoc mid (compact_text value) (items_text true rest)
    ∙ ap (λ t. t ++ more) comma ∙ append_assoc old (comma_if later) more

-- an array is a bracket, its items, and a bracket
pub adds-array : (inputs : List KeyInput) (old begun items new : List ℕ) (after : Bool)
    → begun ≡ old ++ 91 ∷ []
    → AddsInputs false inputs begun items after → new ≡ items ++ 93 ∷ []
    → AddsValue (array (input_items inputs no_items)) old new
adds-array inputs old begun items new after begins adds ends =
    ends ∙ adds no_items ∙ ap (λ t. t ++ items_text false (input_items inputs no_items)) begins
    ∙ append_assoc old (91 ∷ []) (items_text false (input_items inputs no_items))

-- ---- inputs

-- the text of an input
input-text : (kind : Kind) (path : List ℕ) → compact_text (input_value (record { kind = kind; path = path }))
    ≡ codes "{\"path\":" ++ (compact_text (text_value path) ++ (codes ",\"kind\":"
    ++ (compact_text (string (kind_name kind)) ++ codes "}")))
unfolding serde_json_on_literals
input-text kind path = refl

-- the parts of an input, which are appended one after another
pub adds-input : (later : Bool) (kind : Kind) (path old new : List ℕ)
    → new ≡ (((((old ++ comma_if later) ++ codes "{\"path\":") ++ compact_text (text_value path))
    ++ codes ",\"kind\":") ++ compact_text (string (kind_name kind))) ++ codes "}"
    → AddsItem later (input_value (record { kind = kind; path = path })) old new
adds-input later kind path old new is = λ rest.
    ap (λ t. t ++ items_text true rest) is
    ∙ parts old (comma_if later) (codes "{\"path\":") (compact_text (text_value path)) (codes ",\"kind\":")
    (compact_text (string (kind_name kind))) (codes "}") (items_text true rest)
    ∙ ap (λ t. old ++ (comma_if later ++ (t ++ items_text true rest))) (sym (input-text kind path))
  where
    parts : (old comma a path b kind c rest : List ℕ)
        → ((((((old ++ comma) ++ a) ++ path) ++ b) ++ kind) ++ c) ++ rest
        ≡ old ++ (comma ++ ((a ++ (path ++ (b ++ (kind ++ c)))) ++ rest))
    parts old comma a path b kind c rest = simp append_assoc

items-append : (xs ys : List KeyInput) (rest : Items)
    → input_items (xs ++ ys) rest ≡ input_items xs (input_items ys rest)
items-append [] ys rest = refl
items-append (x ∷ xs) ys rest = ap (item (input_value x)) (items-append xs ys rest)

-- inputs of three kinds, one after another
pub adds-three : (a b c : List KeyInput) (one two three four : List ℕ) (first second third fourth : Bool)
    → AddsInputs first a one two second → AddsInputs second b two three third
    → AddsInputs third c three four fourth
    → AddsInputs first (a ++ (b ++ c)) one four fourth
adds-three a b c one two three four first second third fourth adds more last = λ rest.
    last rest ∙ more (input_items c rest) ∙ adds (input_items b (input_items c rest))
    ∙ ap (λ items. one ++ items_text first items)
    (ap (input_items a) (sym (items-append b c rest)) ∙ sym (items-append a (b ++ c) rest))

-- they are the inputs of an edge
pub three-are : (edges : List EdgePaths) (turns : ℕ) (e : EdgePaths)
    (none explicit implicit all : List (List ℕ))
    → none ≡ [] → explicit ≡ with_led edges turns none e.explicit_inputs
    → implicit ≡ with_led edges turns explicit e.implicit_inputs
    → all ≡ with_led edges turns implicit e.order_only_inputs
    → inputs_among edges Explicit (drop (length none) explicit)
    ++ (inputs_among edges Implicit (drop (length explicit) implicit)
    ++ inputs_among edges OrderOnly (drop (length implicit) all))
    ≡ key_inputs edges turns e
three-are edges turns e none explicit implicit all n x i o = rw (o, i, x, n) refl

-- a value has a property, and where there is one, something holds
pub if-and-on : {X Y : Type 0} (r : Result X Y) (P : X → Type 0) (Q : Type 0) → IfOk r P → OnOk r Q
    → IfOk r (λ x. P x × Q)
if-and-on (Ok x) P Q is on = (is, on)
if-and-on (Err e) P Q is on = is

-- ---- objects

-- the texts of a command, one after another
pub adds-texts : (t : KeyTexts) (zero one two three four five six : List ℕ)
    → AddsMember true (codes "response_file") (text_value t.response_file) zero one
    → AddsMember true (codes "response") (text_value t.response) one two
    → AddsMember true (codes "command") (text_value t.command) two three
    → AddsMember true (codes "depfile") (text_value t.depfile) three four
    → AddsMember true (codes "generator") (boolean t.generator) four five
    → AddsMember true (codes "pool") (text_value t.pool) five six → AddsTexts t zero six
adds-texts t zero one two three four five six file response command depfile generator pool = λ rest.
    let pools = member (codes "pool") (text_value t.pool) rest in
    let generators = member (codes "generator") (boolean t.generator) pools in
    let depfiles = member (codes "depfile") (text_value t.depfile) generators in
    let commands = member (codes "command") (text_value t.command) depfiles in
    pool rest ∙ generator pools ∙ depfile generators ∙ command depfiles ∙ response commands
    ∙ file (member (codes "response") (text_value t.response) commands)

-- an object with all its members, as a line
pub adds-object : (key : List ℕ) (edges : List EdgePaths) (turns : ℕ) (e : EdgePaths) (t : KeyTexts)
    (found bases : Data) (zero one two three four five six : List ℕ) → AddsKey key zero one
    → AddsFiles edges turns e one two → AddsTexts t two three
    → AddsMember true (codes "discovered") found three four → AddsMember true (codes "bases") bases four five
    → six ≡ five ++ codes "}\n"
    → six ≡ zero ++ line (compact_text (object (member (codes "key") (string (encode_lower key))
    (file_members edges turns e (text_members t (member (codes "discovered") found
    (member (codes "bases") bases no_members)))))))
adds-object key edges turns e t found bases zero one two three four five six keys files texts more last ends =
    let b = member (codes "bases") bases no_members in
    let d = member (codes "discovered") found b in
    let all = member (codes "key") (string (encode_lower key)) (file_members edges turns e (text_members t d))
    in
    ends ∙ sym (append_assoc five (125 ∷ []) (10 ∷ []))
    ∙ ap (λ s. s ++ 10 ∷ []) (last no_members ∙ more b ∙ texts d ∙ files (text_members t d)
    ∙ keys (file_members edges turns e (text_members t d)))
    ∙ append_assoc zero (123 ∷ members_text false all) (10 ∷ [])
