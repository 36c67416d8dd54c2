-- The lines of edges, read by the grammar of JSON.
use Rattle.std.proofs.Common.{◌≡◌, ℕ, suc, ◌+◌, ◌<◌, ◌≤◌, ◌-◌, ◌/◌, ◌%◌, ◌^◌, Bool, true, false, not, cond}
use Rattle.std.proofs.Common.{◌&&◌, ◌||◌, ◌==◌, Some, None, inl, inr, ◌⊎◌, List, [], ◌∷◌, ◌++◌, length, take}
use Rattle.std.proofs.Common.{get_or, flat_map, map, refl, sym, ap, ◌∙◌, subst, append_assoc, arith}
use Rattle.std.proofs.lemmas.Bool.{or_cases, eqb-true, ltb-false, ne_eqb}
use Rattle.std.proofs.lemmas.Fmt.{decimal_is_IsNumeral}
use Rattle.std.proofs.lemmas.List.Elements.{All-from_recursion}
use Rattle.std.proofs.lemmas.List.Splits.{length-slice_split, slice_split_at}
use Rattle.std.proofs.lemmas.Str.Parse.{digit_at}
use Rattle.std.specs.Prelude.{⊤, find, nat_lt, slice_get, take_while}
use Rattle.std.specs.Char.{digit_char}
use Rattle.std.specs.Fmt.{decimal}
use Rattle.std.specs.List.{All, AllByRecursion, slice_split}
use Rattle.std.specs.Str.Lines.{lines as lines_of, lines_of_parts, strip_carriage_return}
use Rattle.json.specs.Json.{Json, null, boolean, number, string, array, object, Items, no_items, item}
use Rattle.json.specs.Json.{Members, no_members, member, document}
use Rattle.json.specs.Print.{begins, ends, escape, escape_byte, escape_letter, print, print_from, quoted}
use Rattle.json.specs.Print.{separator, token_text}
use Rattle.json.specs.Token.{Token}
use Rattle.json.specs.Tree.{json_tokens, items_tokens, members_tokens, depth, items_depth, members_depth}
use Rattle.json.specs.Tree.{HasNumbers, ItemsHaveNumbers, MembersHaveNumbers}
use Rattle.json.proofs.Printed.Decimals.{IsNumber-decimal}
use Rattle.json.proofs.Printed.Trees.{document-print}
use Rattle.nj_scope.specs.ReadingList.{ReadStatement}
use Rattle.nj_edges.specs.Edges.{edge_at}
use Rattle.nj_statements.specs.EdgeList.{edges_read, paths_of_edges}
use Rattle.nj_graph.specs.Graph.{detail_stated}
use Rattle.nj_tools.specs.declared.edge_objects.EdgeDiscovery.{EdgeDiscovery}
use Rattle.nj_tools.specs.EdgeObjects.{object_at, place_object, edge_numbers, head_members, file_members}
use Rattle.nj_tools.specs.EdgeObjects.{value_members}
use Rattle.nj_tools.specs.EdgeJson.{EdgeLinesAreJson, NumbersFit}
use Rattle.nj_tools.specs.JsonObjects.{json_line, members_of, strings, strings_are_utf8}
use Rattle.nj_tools.specs.Lines.{line}
use Rattle.nj_tools.proofs.HeldLemmas.{find-fails, find-passes, while-passes}

-- ---- texts without line ends

all-append : {X : Type 0} (P : X → Type 0) (xs ys : List X) → AllByRecursion P xs → AllByRecursion P ys
    → AllByRecursion P (xs ++ ys)
all-append P [] ys h k = k
all-append P (x ∷ xs) ys h k = (h.0, all-append P xs ys h.1 k)

-- no byte is a control character
abbrev IsShown : List ℕ → Type 0
IsShown = AllByRecursion (λ b. 32 ≤ b)

shown-append : (s t : List ℕ) → IsShown s → IsShown t → IsShown (s ++ t)
shown-append = all-append (λ b. 32 ≤ b)

module _ (text : List ℕ) (shown : IsShown text) where
  shown-at : (k d : ℕ) → k < length text → 32 ≤ get_or text k d
  shown-at k d within = All-from_recursion (λ b. 32 ≤ b) text shown k d within

  no-line_end : All (λ b. (b == 10) ≡ false) text
  no-line_end k d within = ne_eqb (get_or text k d) 10 (λ e. omega (arith, shown-at k d within))

no-return : (text : List ℕ) → IsShown text → strip_carriage_return text ≡ text
no-return [] shown = refl
no-return (b ∷ bs) shown =
    let last = suc (length bs) - 1 in
    ap (λ c. cond c (take last (b ∷ bs)) (b ∷ bs))
    (ne_eqb (get_or (b ∷ bs) last 0) 13 (λ e. omega (arith, shown-at (b ∷ bs) shown last 0 (omega arith))))

parts-cons : (part : List ℕ) (parts : List (List ℕ)) → 0 < length parts
    → lines_of_parts (part ∷ parts) ≡ strip_carriage_return part ∷ lines_of_parts parts
parts-cons part [] some = absurd (omega arith)
parts-cons part (next ∷ parts) some = refl

-- the first line
lines-line : (text rest : List ℕ) → IsShown text → lines_of (line text ++ rest) ≡ text ∷ lines_of rest
lines-line text rest shown =
    ap lines_of (append_assoc text (10 ∷ []) rest)
    ∙ ap lines_of_parts (slice_split_at (λ b. b == 10) text 10 rest (no-line_end text shown) refl)
    ∙ parts-cons text (slice_split (λ b. b == 10) rest)
    (omega (arith, length-slice_split (λ b. b == 10) rest))
    ∙ ap (λ t. t ∷ lines_of rest) (no-return text shown)

-- ---- printed strings

shown-digit : (d : ℕ) → 32 ≤ digit_char d
shown-digit d = by (nat_lt d 10)
  where
    by : (b : Bool) → 32 ≤ cond b (48 + d) (87 + d)
    by true = omega arith
    by false = omega arith

shown-letter : (x : ℕ) → nat_lt 0 (escape_letter x) ≡ true → 32 ≤ escape_letter x
shown-letter x =
    by ((x == 34) || (x == 92)) (x == 8) (x == 12) (x == 10) (x == 13) (x == 9) (λ e. mark (or_cases _ _ e))
  where
    mark : ((x == 34) ≡ true) ⊎ ((x == 92) ≡ true) → 32 ≤ x
    mark (inl e) = omega (arith, eqb-true x 34 e)
    mark (inr e) = omega (arith, eqb-true x 92 e)

    by : (a b c d e f : Bool) → (a ≡ true → 32 ≤ x)
        → nat_lt 0 (cond a x (cond b 98 (cond c 102 (cond d 110 (cond e 114 (cond f 116 0)))))) ≡ true
        → 32 ≤ cond a x (cond b 98 (cond c 102 (cond d 110 (cond e 114 (cond f 116 0)))))
    by true b c d e f is some = is refl
    by false true c d e f is some = omega arith
    by false false true d e f is some = omega arith
    by false false false true e f is some = omega arith
    by false false false false true f is some = omega arith
    by false false false false false true is some = omega arith
    by false false false false false false is some = absurd cc

shown-byte : (x : ℕ) → IsShown (escape_byte x)
unfolding escape_byte
shown-byte x = by (nat_lt 0 (escape_letter x)) (nat_lt x 32) (shown-letter x) (ltb-false x 32)
  where
    by : (b c : Bool) → (b ≡ true → 32 ≤ escape_letter x) → (c ≡ false → 32 ≤ x)
        → IsShown (cond b (92 ∷ escape_letter x ∷ [])
        (cond c (92 ∷ 117 ∷ 48 ∷ 48 ∷ digit_char (x / 16) ∷ digit_char (x % 16) ∷ []) (x ∷ [])))
    by true c letter plain = (omega arith, (letter refl, tt))
    by false true letter plain = (
      omega arith,
      (
        omega arith,
        (
          omega arith,
          (
            omega arith,
            (shown-digit (x / 16), (shown-digit (x % 16), tt)),
          ),
        ),
      ),
    )
    by false false letter plain = (plain refl, tt)

shown-escape : (s : List ℕ) → IsShown (escape s)
shown-escape [] = tt
shown-escape (x ∷ s) = shown-append (escape_byte x) (escape s) (shown-byte x) (shown-escape s)

shown-quoted : (s : List ℕ) → IsShown (quoted s)
shown-quoted s = (omega arith, shown-append (escape s) (34 ∷ []) (shown-escape s) (omega arith, tt))

shown-decimal : (n : ℕ) → n < 2 ^ 64 → IsShown (decimal n)
shown-decimal n fits =
    digits (decimal n) (λ k within. (digit_at (decimal n) k (decimal_is_IsNumeral n fits).0.1 within).0)
  where
    digits : (ds : List ℕ) → ((k : ℕ) → k < length ds → 48 ≤ get_or ds k 0) → IsShown ds
    digits [] h = tt
    digits (d ∷ ds) h = (omega (arith, h 0 (omega arith)), digits ds (λ k within. h (suc k) (omega arith)))

-- ---- printed values

-- each number is the decimal of a number of 64 bits
abbrev IsDecimal : List ℕ → Type 0
IsDecimal s = (n : ℕ) × (n < 2 ^ 64) × (s ≡ decimal n)

abbrev mutual
  HasDecimals : Json → Type 0
  HasDecimals null = ⊤
  HasDecimals (boolean b) = ⊤
  HasDecimals (number s) = IsDecimal s
  HasDecimals (string s) = ⊤
  HasDecimals (array js) = ItemsHaveDecimals js
  HasDecimals (object ms) = MembersHaveDecimals ms

  ItemsHaveDecimals : Items → Type 0
  ItemsHaveDecimals no_items = ⊤
  ItemsHaveDecimals (item j js) = HasDecimals j × ItemsHaveDecimals js

  MembersHaveDecimals : Members → Type 0
  MembersHaveDecimals no_members = ⊤
  MembersHaveDecimals (member k j ms) = HasDecimals j × MembersHaveDecimals ms

mutual
  has-numbers : (j : Json) → HasDecimals j → HasNumbers j
  has-numbers null h = tt
  has-numbers (boolean b) h = tt
  has-numbers (number s) h = subst (λ t. HasNumbers (number t)) (sym h.2) (IsNumber-decimal h.0 h.1)
  has-numbers (string s) h = tt
  has-numbers (array js) h = items-have_numbers js h
  has-numbers (object ms) h = members-have_numbers ms h

  items-have_numbers : (js : Items) → ItemsHaveDecimals js → ItemsHaveNumbers js
  items-have_numbers no_items h = tt
  items-have_numbers (item j js) h = (has-numbers j h.0, items-have_numbers js h.1)

  members-have_numbers : (ms : Members) → MembersHaveDecimals ms → MembersHaveNumbers ms
  members-have_numbers no_members h = tt
  members-have_numbers (member k j ms) h = (has-numbers j h.0, members-have_numbers ms h.1)

abbrev AreShown : List Token → Type 0
AreShown = AllByRecursion (λ t. IsShown (token_text t))

tokens-append : (ts us : List Token) → AreShown ts → AreShown us → AreShown (ts ++ us)
tokens-append = all-append (λ t. IsShown (token_text t))

mutual
  shown-value : (j : Json) → HasDecimals j → AreShown (json_tokens j)
  shown-value null h = ((omega arith, (omega arith, (omega arith, (omega arith, tt)))), tt)
  shown-value (boolean true) h = ((omega arith, (omega arith, (omega arith, (omega arith, tt)))), tt)
  shown-value (boolean false) h =
      ((omega arith, (omega arith, (omega arith, (omega arith, (omega arith, tt))))), tt)
  shown-value (number s) h = (subst IsShown (sym h.2) (shown-decimal h.0 h.1), tt)
  shown-value (string s) h = (shown-quoted s, tt)
  shown-value (array js) h = ((omega arith, tt), shown-items js h)
  shown-value (object ms) h = ((omega arith, tt), shown-members ms h)

  shown-items : (js : Items) → ItemsHaveDecimals js → AreShown (items_tokens js)
  shown-items no_items h = ((omega arith, tt), tt)
  shown-items (item j js) h =
      tokens-append (json_tokens j) (items_tokens js) (shown-value j h.0) (shown-items js h.1)

  shown-members : (ms : Members) → MembersHaveDecimals ms → AreShown (members_tokens ms)
  shown-members no_members h = ((omega arith, tt), tt)
  shown-members (member k j ms) h = (
    shown-append (quoted k) (58 ∷ []) (shown-quoted k) (omega arith, tt),
    tokens-append (json_tokens j) (members_tokens ms) (shown-value j h.0) (shown-members ms h.1),
  )

shown-print : (after_value : Bool) (ts : List Token) → AreShown ts → IsShown (print_from after_value ts)
unfolding print_from
shown-print after_value [] h = tt
shown-print after_value (t ∷ ts) h =
    shown-append (separator after_value t) (token_text t ++ print_from (ends t) ts)
    (comma (after_value && begins t))
    (shown-append (token_text t) (print_from (ends t) ts) h.0 (shown-print (ends t) ts h.1))
  where
    comma : (b : Bool) → IsShown (cond b (44 ∷ []) [])
    comma true = (omega arith, tt)
    comma false = tt

-- ---- objects of members

-- what a member can have as its value
abbrev IsValue : Json → Type 0
IsValue j = HasDecimals j × (depth j ≤ 2)

-- a string or a truth value
value-plain : ⊤ × (0 ≤ 2)
value-plain = (tt, omega arith)

value-number : (n : ℕ) → n < 2 ^ 64 → IsValue (number (decimal n))
value-number n fits = ((n, fits, refl), omega arith)

value-strings : (ss : List (List ℕ)) → IsValue (array (strings ss))
value-strings ss = (decimals ss, omega (arith, flat ss))
  where
    decimals : (ss : List (List ℕ)) → ItemsHaveDecimals (strings ss)
    decimals [] = tt
    decimals (s ∷ ss) = (tt, decimals ss)

    flat : (ss : List (List ℕ)) → items_depth (strings ss) ≤ 0
    flat [] = omega arith
    flat (s ∷ ss) = omega (arith, flat ss)

abbrev HaveValues : List (List ℕ × Json) → Type 0
HaveValues = AllByRecursion (λ m. IsValue m.1)

members-values : (ms : List (List ℕ × Json)) → HaveValues ms
    → MembersHaveDecimals (members_of ms) × (members_depth (members_of ms) ≤ 2)
members-values [] h = (tt, omega arith)
members-values (m ∷ ms) h =
    let rest = members-values ms h.1 in
    ((h.0.0, rest.0), omega (arith, h.0.1, rest.1))

-- the object on a line
line-object : (ms : List (List ℕ × Json)) (rest : List ℕ) → HaveValues ms
    → map document (lines_of (json_line (object (members_of ms)) ++ rest))
    ≡ Some (object (members_of ms)) ∷ map document (lines_of rest)
line-object ms rest h =
    let j = object (members_of ms) in
    let values = members-values ms h in
    ap (map document)
    (lines-line (print (json_tokens j)) rest (shown-print false (json_tokens j) (shown-value j values.0)))
    ∙ ap (λ o. o ∷ map document (lines_of rest))
    (document-print j (has-numbers j values.0) (omega (arith, values.1)))

-- ---- the lines of edges

while-all : {X : Type 0} (p : X → Bool) (xs : List X) → find (λ x. not (p x)) xs ≡ None → take_while p xs ≡ xs
while-all p [] none = refl
while-all {X} p (x ∷ xs) none = by (p x) refl (while-all p xs)
  where
    by : (b : Bool) → p x ≡ b → (find (λ y. not (p y)) xs ≡ None → take_while p xs ≡ xs)
        → take_while p (x ∷ xs) ≡ x ∷ xs
    by true is rest = while-passes p x xs is ∙ ap (λ ys. x ∷ ys) (rest (sym (find-passes p x xs is) ∙ none))
    by false is rest = let never : Some x ≡ None = sym (find-fails p x xs is) ∙ none in absurd cc

module _ (entries : List ReadStatement) (discoveries : List EdgeDiscovery) where
  abbrev files_at : (edge : ℕ) → List (List ℕ × Json)
  files_at edge =
      file_members (slice_get discoveries edge) (edge_at (paths_of_edges (edges_read entries)) edge)

  abbrev members_at : (edge : ℕ) → List (List ℕ × Json)
  members_at edge = head_members entries edge ++ files_at edge ++ value_members entries edge

  head-values : (edge : ℕ) → NumbersFit entries edge → HaveValues (head_members entries edge)
  head-values edge fits =
      let place : IsValue (place_object (detail_stated entries edge).file (detail_stated entries edge).spot) =
      ((tt, ((_, fits.1, refl), ((_, fits.2, refl), tt))), omega arith) in
      (value-number edge fits.0, (place, (value-plain, (value-plain, tt))))

  file-values : (edge : ℕ) → HaveValues (files_at edge)
  file-values edge = (
    value-strings _,
    (
      value-strings _,
      (
        value-strings _,
        (
          value-strings _,
          (value-strings _, (value-strings _, (value-strings _, (value-plain, tt)))),
        ),
      ),
    ),
  )

  variable-values : (edge : ℕ) → HaveValues (value_members entries edge)
  variable-values edge =
      let plain = value-plain in
      (plain, (plain, (plain, (plain, (plain, (plain, (plain, (plain, (plain, (plain, tt))))))))))

  edge-values : (edge : ℕ) → NumbersFit entries edge → HaveValues (members_at edge)
  edge-values edge fits =
      all-append (λ m. IsValue m.1) (head_members entries edge) (files_at edge ++ value_members entries edge)
      (head-values edge fits)
      (all-append (λ m. IsValue m.1) (files_at edge) (value_members entries edge)
      (file-values edge) (variable-values edge))

  lines-read : (edges : List ℕ) → AllByRecursion (NumbersFit entries) edges
      → map document (lines_of (flat_map (λ edge. json_line (object_at entries discoveries edge)) edges))
      ≡ map (λ edge. Some (object_at entries discoveries edge)) edges
  lines-read [] fit = refl
  lines-read (edge ∷ edges) fit =
      line-object (members_at edge) (flat_map (λ edge. json_line (object_at entries discoveries edge)) edges)
      (edge-values edge fit.0)
      ∙ ap (λ os. Some (object_at entries discoveries edge) ∷ os) (lines-read edges fit.1)

pub edge_lines-are_json : EdgeLinesAreJson
edge_lines-are_json entries discoveries fit none =
    let read = λ (edges : List ℕ).
    map document (lines_of (flat_map (λ edge. json_line (object_at entries discoveries edge)) edges)) in
    let held = λ (edge : ℕ). strings_are_utf8 (object_at entries discoveries edge) in
    ap read (while-all held (edge_numbers entries) none)
    ∙ lines-read entries discoveries (edge_numbers entries) fit
