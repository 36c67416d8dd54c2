-- How the quotes of paths are ordered: all in quotes before all others.
use Rattle.std.proofs.Common.{Less, Equal, Greater, ◌≡◌, ◌==◌, ◌<◌, ◌≤◌, ℕ, Bool, true, false, not}
use Rattle.std.proofs.Common.{if◌then◌else◌, true≢false, cond, List, [], ◌∷◌, ◌++◌}
use Rattle.std.proofs.Common.{refl, sym, ap, append_assoc, append-nil, ◌∙◌, arith}
use Rattle.std.specs.List.{list_all}
use Rattle.std.specs.Ordering.{is_lt, ordering_then, nat_cmp}
use Rattle.std.specs.Cmp.Lexicographic.{slice_cmp}
use Rattle.std.specs.Prelude.{filter}
use Rattle.std.proofs.lemmas.Bool.{leb-true, leb-false, lt-ltb}
use Rattle.nj_text.specs.Quotes.{is_plain_byte, in_quotes, quoted}
use Rattle.nj_graph.specs.Graph.{is_before}
use Rattle.nj_tools.specs.Inside.QuotesHeld.{precedes_plain}
use Rattle.nj_tools.specs.Listings.{sorted}
use Rattle.nj_tools.proofs.SortedLemmas.{by_text, sorted-parts}

precedes : (x y : List ℕ) → precedes_plain x ≡ true → precedes_plain y ≡ false → is_before x y ≡ true
precedes x [] h k = absurd (true≢false k)
precedes [] (c ∷ cs) h k = refl
precedes (b ∷ bs) (c ∷ cs) h k =
    let first : b ≤ 39 = leb-true b 39 h in
    let later : 39 < c = leb-false c 39 k in
    ap (λ t. is_lt (ordering_then (cond t Less (cond (b == c) Equal Greater)) (slice_cmp nat_cmp bs cs)))
    (lt-ltb b c (omega (arith, first, later)))

pub apart : (x y : List ℕ) → precedes_plain x ≡ true → precedes_plain y ≡ false
    → (is_before x y ≡ true) × (is_before y x ≡ false)
apart x y h k = let before = precedes x y h k in (before, (by_text (λ text. text)).one_way x y before)

-- strings, sorted in two parts
pub two-parts : (texts : List (List ℕ))
    → sorted (filter precedes_plain texts) ++ sorted (filter (λ text. not (precedes_plain text)) texts)
    ≡ sorted texts
two-parts texts = sorted-parts precedes_plain is_before apart texts

-- a text that begins with a byte after `'` is not in quotes
pub plain-quote : (path : List ℕ) → precedes_plain (quoted path) ≡ false → path ≡ quoted path
unfolding quoted
plain-quote path = by (list_all is_plain_byte path)
  where
    by : (b : Bool) → precedes_plain (if b then path else in_quotes path) ≡ false
        → path ≡ (if b then path else in_quotes path)
    by true h = refl
    by false h = absurd (true≢false h)

-- ---- one more text

-- one more of what is left
pub next-passing : (p : List ℕ → Bool) (b : Bool) (held left : List (List ℕ)) (text : List ℕ)
    {whole : List (List ℕ)} → p text ≡ b → held ++ filter p (text ∷ left) ≡ whole
    → (held ++ cond b (text ∷ []) []) ++ filter p left ≡ whole
next-passing p b held left text is so_far =
    by b ∙ ap (λ c. held ++ cond c (text ∷ filter p left) (filter p left))
    (sym is) ∙ so_far
  where
    by : (c : Bool) → (held ++ cond c (text ∷ []) []) ++ filter p left
        ≡ held ++ cond c (text ∷ filter p left) (filter p left)
    by true = append_assoc held (text ∷ []) (filter p left)
    by false = ap (λ ts. ts ++ filter p left) (append-nil held)
