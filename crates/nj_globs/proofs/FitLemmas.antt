-- Fits of a path with one more byte in front.
use Rattle.std.proofs.Common.{◌≡◌, ◌⊎◌, inl, inr, ℕ, Bool, true, false, not, ◌&&◌, ◌||◌, ◌==◌, List, [], ◌∷◌}
use Rattle.std.proofs.Common.{◌≢◌, ◌+◌, ◌-◌, ◌<◌, ◌≤◌, length, drop, set, get_or, refl, sym, ap, subst, ◌∙◌}
use Rattle.std.proofs.Common.{arith}
use Rattle.std.proofs.Common.{get_or-set_other, get_or-set_same}
use Rattle.std.proofs.lemmas.Bool.Decides.{eqb_tells}
use Rattle.std.proofs.lemmas.List.{get_or-map, length-map, drop_more, drop_all}
use Rattle.std.proofs.lemmas.Grind.{common_steps}
use Rattle.std.specs.Prelude.{Decides}
use Rattle.std.proofs.lemmas.Bool.Decides.{Decides-like, Decides-and, Decides-or}
use Rattle.nj_globs.specs.declared.fits.Fit.{Fit}
use Rattle.nj_globs.specs.declared.parts.Part.{Part}
use Rattle.nj_globs.specs.Globs.{GlobPart, is_slash, is_in_set, Matches}
use Rattle.nj_globs.specs.Globs.GlobPart.{one_byte, any_byte, star, double_star, directories, byte_set}
use Rattle.nj_globs.specs.Inside.Fits.{may_be_empty, MatchesAfterSlash, IsFit, after_slash_with, whole_with}
use Rattle.nj_globs.specs.Inside.Fits.{fit_with, no_fit, part_model, parts_model, AreFits, AreFitsFrom}
use Rattle.nj_globs.proofs.MatchLemmas.{MatchesOne, one-forth, one-back, one-none, star-here, star-forth}
use Rattle.nj_globs.proofs.MatchLemmas.{star-back, star-none}
use Rattle.nj_globs.proofs.MatchLemmas.{double_star-here, double_star-forth, double_star-back}
use Rattle.nj_globs.proofs.MatchLemmas.{double_star-none}
use Rattle.nj_globs.proofs.MatchLemmas.{directories-here, directories-forth, directories-back}
use Rattle.nj_globs.proofs.MatchLemmas.{after_slash-forth, after_slash-more, after_slash-here}
use Rattle.nj_globs.proofs.MatchLemmas.{after_slash-none}

-- ---- tests

itself : (b : Bool) → Decides b (b ≡ true)
itself b = (λ e. e, λ e. e)

either : (b c : Bool) (P Q R : Type 0) → Decides b P → Decides c Q → (R → P ⊎ Q) → (P → R) → (Q → R)
    → Decides (b || c) R
either b c P Q R one other forth here there =
    Decides-like (b || c) (λ s. elim s [ inl p ↦ here p | inr q ↦ there q ]) forth (Decides-or b c one other)

both : (b c : Bool) (Q R : Type 0) → Decides c Q → (R → (b ≡ true) × Q) → ((b ≡ true) × Q → R)
    → Decides (b && c) R
both b c Q R one forth back = Decides-like (b && c) back forth (Decides-and b c (itself b) one)

never : (R : Type 0) → (R → ⊥) → Decides false R
never R refused = (λ e. absurd (cc), λ r. absurd (refused r))

-- ---- one byte in front

after_slash : (parts : List GlobPart) (byte : ℕ) (path : List ℕ) (old : Fit) → IsFit parts path old
    → Decides (after_slash_with byte old) (MatchesAfterSlash parts (byte ∷ path))
after_slash parts byte path old fit =
    either old.after_slash (is_slash byte && old.whole) (MatchesAfterSlash parts path)
    ((is_slash byte ≡ true) × Matches parts path) (MatchesAfterSlash parts (byte ∷ path)) fit.after_slash
    (Decides-and (is_slash byte) old.whole (itself (is_slash byte)) fit.whole)
    (after_slash-forth parts byte path) (after_slash-more parts byte path) (after_slash-here parts byte path)

one : (test : ℕ → Bool) (parts : List GlobPart) (byte : ℕ) (path : List ℕ) (old_next : Fit)
    → IsFit parts path old_next → Decides (test byte && old_next.whole) (MatchesOne test parts (byte ∷ path))
one test parts byte path old_next fit = both (test byte) old_next.whole (Matches parts path)
    (MatchesOne test parts (byte ∷ path)) fit.whole (one-forth test parts byte path)
    (one-back test parts byte path)

whole : (part : GlobPart) (parts : List GlobPart) (byte : ℕ) (path : List ℕ) (old old_next next : Fit)
    → IsFit (part ∷ parts) path old → IsFit parts path old_next → IsFit parts (byte ∷ path) next
    → Decides (whole_with part byte old old_next next) (Matches (part ∷ parts) (byte ∷ path))
whole (one_byte other) parts byte path old old_next next is is_old_next is_next =
    one (λ b. b == other) parts byte path old_next is_old_next
whole any_byte parts byte path old old_next next is is_old_next is_next =
    one (λ b. not (is_slash b)) parts byte path old_next is_old_next
whole star parts byte path old old_next next is is_old_next is_next =
    either next.whole (not (is_slash byte) && old.whole) (Matches parts (byte ∷ path))
    ((not (is_slash byte) ≡ true) × Matches (star ∷ parts) path) (Matches (star ∷ parts) (byte ∷ path))
    is_next.whole (Decides-and (not (is_slash byte)) old.whole (itself (not (is_slash byte))) is.whole)
    (star-forth parts byte path) (star-here parts (byte ∷ path)) (star-back parts byte path)
whole double_star parts byte path old old_next next is is_old_next is_next =
    either next.whole old.whole (Matches parts (byte ∷ path)) (Matches (double_star ∷ parts) path)
    (Matches (double_star ∷ parts) (byte ∷ path)) is_next.whole is.whole
    (double_star-forth parts byte path) (double_star-here parts (byte ∷ path))
    (double_star-back parts byte path)
whole directories parts byte path old old_next next is is_old_next is_next =
    either next.whole next.after_slash (Matches parts (byte ∷ path)) (MatchesAfterSlash parts (byte ∷ path))
    (Matches (directories ∷ parts) (byte ∷ path)) is_next.whole is_next.after_slash
    (directories-forth parts (byte ∷ path)) (directories-here parts (byte ∷ path))
    (directories-back parts (byte ∷ path))
whole (byte_set is_negated ranges) parts byte path old old_next next is is_old_next is_next =
    one (is_in_set is_negated ranges) parts byte path old_next is_old_next

pub fit-with : (part : GlobPart) (parts : List GlobPart) (byte : ℕ) (path : List ℕ) (old old_next next : Fit)
    → IsFit (part ∷ parts) path old → IsFit parts path old_next → IsFit parts (byte ∷ path) next
    → IsFit (part ∷ parts) (byte ∷ path) (fit_with part byte old old_next next)
fit-with part parts byte path old old_next next is is_old_next is_next = record {
  whole = whole part parts byte path old old_next next is is_old_next is_next;
  after_slash = after_slash (part ∷ parts) byte path old is;
}

-- no parts at all do not match a path with a byte
pub fit_of_none : (byte : ℕ) (path : List ℕ) (old : Fit) → IsFit [] path old
    → IsFit [] (byte ∷ path) (record { whole = false; after_slash = after_slash_with byte old })
fit_of_none byte path old is = record {
  whole = never (byte ∷ path ≡ []) (λ e. cc);
  after_slash = after_slash [] byte path old is;
}

-- ---- no bytes

pub fit_at_end : IsFit [] [] (record { whole = true; after_slash = false })
fit_at_end = record {
  whole = (λ e. refl, λ e. refl);
  after_slash = never (MatchesAfterSlash [] []) (after_slash-none []);
}

empty : (part : GlobPart) (parts : List GlobPart) (next : Fit) → IsFit parts [] next
    → Decides (may_be_empty part && next.whole) (Matches (part ∷ parts) [])
empty (one_byte other) parts next is =
    never (Matches (one_byte other ∷ parts) []) (one-none (λ b. b == other) parts)
empty any_byte parts next is = never (Matches (any_byte ∷ parts) []) (one-none (λ b. not (is_slash b)) parts)
empty star parts next is = Decides-like next.whole (star-here parts []) (star-none parts) is.whole
empty double_star parts next is =
    Decides-like next.whole (double_star-here parts []) (double_star-none parts) is.whole
empty directories parts next is = Decides-like next.whole (directories-here parts [])
    (λ m. elim (directories-forth parts [] m) [
      | inl here ↦ here
      | inr after ↦ absurd (after_slash-none parts after)
    ]) is.whole
empty (byte_set is_negated ranges) parts next is =
    never (Matches (byte_set is_negated ranges ∷ parts) []) (one-none (is_in_set is_negated ranges) parts)

pub fit_of_empty : (part : GlobPart) (parts : List GlobPart) (next : Fit) → IsFit parts [] next
    → IsFit (part ∷ parts) [] (record { whole = may_be_empty part && next.whole; after_slash = false })
fit_of_empty part parts next is = record {
  whole = empty part parts next is;
  after_slash = never (MatchesAfterSlash (part ∷ parts) []) (after_slash-none (part ∷ parts));
}

-- ---- many

-- the parts from one on are that part and the others
part-at : (parts : List Part) (index next : ℕ) (part : Part) → next ≡ index + 1 → index < length parts
    → part ≡ get_or parts index part → drop index (parts_model parts)
    ≡ part_model part ∷ drop next (parts_model parts)
part-at parts index next part one within is =
    let long : index < length (parts_model parts) = omega (arith, length-map parts part_model) in
    let there : get_or (parts_model parts) index (part_model part) ≡ part_model part =
    get_or-map part_model parts index part (part_model part) within ∙ ap part_model (sym is) in
    drop_more (parts_model parts) index (part_model part) long
    ∙ ap (λ p. p ∷ drop (index + 1) (parts_model parts)) there
    ∙ ap (λ n. part_model part ∷ drop n (parts_model parts)) (sym one)

-- one more fit is set
fits-more : (parts : List GlobPart) (path : List ℕ) (fits : List Fit) (index next : ℕ) (fit : Fit)
    → next ≡ index + 1 → index < length fits → AreFitsFrom next parts path fits
    → IsFit (drop index parts) path fit → AreFitsFrom index parts path (set fits index fit)
fits-more parts path fits index next fit one within are is place from to = by (eqb_tells place index)
  where
    by : ((place == index ≡ true) × (place ≡ index)) ⊎ ((place == index ≡ false) × (place ≢ index))
        → IsFit (drop place parts) path (get_or (set fits index fit) place no_fit)
    by (inl same) = subst (λ p. IsFit (drop p parts) path (get_or (set fits index fit) p no_fit)) (sym same.1)
        (subst (IsFit (drop index parts) path) (sym (get_or-set_same fits index fit no_fit within)) is)
    by (inr other) =
        let apart : place ≢ index = other.1 in
        subst (IsFit (drop place parts) path) (sym (get_or-set_other fits index place fit no_fit apart))
        (are place (omega arith) to)

pub empty-more : (parts : List Part) (fits : List Fit) (index next : ℕ) (part : Part) (whole : Bool)
    → next ≡ index + 1 → index < length parts → length fits ≡ length parts + 1
    → part ≡ get_or parts index part → AreFitsFrom next (parts_model parts) [] fits
    → whole ≡ (may_be_empty (part_model part) && (get_or fits next no_fit).whole)
    → AreFitsFrom index (parts_model parts) []
    (set fits index (record { whole = whole; after_slash = false }))
empty-more parts fits index next part whole one within long is are value =
    let model = parts_model parts in
    let there = are next (omega arith) (omega (arith, length-map parts part_model)) in
    fits-more model [] fits index next (record { whole = whole; after_slash = false }) one (omega arith) are
    (subst (λ ps. IsFit ps [] (record { whole = whole; after_slash = false }))
    (sym (part-at parts index next part one within is))
    (subst (λ w. IsFit (part_model part ∷ drop next model) [] (record { whole = w; after_slash = false }))
    (sym value) (fit_of_empty (part_model part) (drop next model) (get_or fits next no_fit) there)))

pub front-more : (parts : List Part) (old fits : List Fit) (index next : ℕ) (part : Part) (fit old_next : Fit)
    (byte : ℕ) (path : List ℕ) → next ≡ index + 1 → index < length parts → length fits ≡ length parts + 1
    → part ≡ get_or parts index part → AreFits (parts_model parts) path old
    → get_or fits index no_fit ≡ get_or old index no_fit → old_next ≡ get_or old next no_fit
    → AreFitsFrom next (parts_model parts) (byte ∷ path) fits
    → fit ≡ fit_with (part_model part) byte (get_or fits index no_fit) old_next (get_or fits next no_fit)
    → AreFitsFrom index (parts_model parts) (byte ∷ path) (set fits index fit)
front-more parts old fits index next part fit old_next byte path one within long is were untouched was are
    value =
    let model = parts_model parts in
    let at = part-at parts index next part one within is in
    let below : next ≤ length model = omega (arith, length-map parts part_model) in
    let there = are next (omega arith) below in
    let was_there = subst (λ ps. IsFit ps path (get_or old index no_fit)) at
    (were index (omega arith) (omega arith)) in
    let was_next = were next (omega arith) below in
    fits-more model (byte ∷ path) fits index next fit one (omega arith) are
    (subst (λ ps. IsFit ps (byte ∷ path) fit) (sym at)
    (subst (IsFit (part_model part ∷ drop next model) (byte ∷ path)) (sym value)
    (fit-with (part_model part) (drop next model) byte path (get_or fits index no_fit) old_next
    (get_or fits next no_fit)
    (subst (IsFit (part_model part ∷ drop next model) path) (sym untouched) was_there)
    (subst (IsFit (drop next model) path) (sym was) was_next) there)))

-- the fit of no parts is set
last-set : (parts : List Part) (path : List ℕ) (fits : List Fit) (fit : Fit) → length fits ≡ length parts + 1
    → IsFit [] path fit → AreFitsFrom (length parts) (parts_model parts) path (set fits (length parts) fit)
last-set parts path fits fit long is place from to =
    let count = length-map parts part_model in
    let same : place ≡ length parts = omega arith in
    let none : drop place (parts_model parts) ≡ [] = drop_all place (parts_model parts) (omega arith) in
    let within : length parts < length fits = omega arith in
    subst (λ ps. IsFit ps path (get_or (set fits (length parts) fit) place no_fit)) (sym none)
    (subst (λ p. IsFit [] path (get_or (set fits (length parts) fit) p no_fit)) (sym same)
    (subst (IsFit [] path) (sym (get_or-set_same fits (length parts) fit no_fit within)) is))

pub empty-last : (parts : List Part) (fits : List Fit) → length fits ≡ length parts + 1
    → AreFitsFrom (length parts) (parts_model parts) []
    (set fits (length parts) (record { whole = true; after_slash = false }))
empty-last parts fits long = last-set parts [] fits (record { whole = true; after_slash = false }) long
    fit_at_end

pub front-last : (parts : List Part) (fits : List Fit) (byte : ℕ) (path : List ℕ) (after : Bool)
    → length fits ≡ length parts + 1 → AreFits (parts_model parts) path fits
    → after ≡ after_slash_with byte (get_or fits (length parts) no_fit)
    → AreFitsFrom (length parts) (parts_model parts) (byte ∷ path)
    (set fits (length parts) (record { whole = false; after_slash = after }))
front-last parts fits byte path after long are value =
    let count = length-map parts part_model in
    let none : drop (length parts) (parts_model parts) ≡ [] =
    drop_all (length parts) (parts_model parts) (omega arith) in
    let was = subst (λ ps. IsFit ps path (get_or fits (length parts) no_fit)) none
    (are (length parts) (omega arith) (omega arith)) in
    last-set parts (byte ∷ path) fits (record { whole = false; after_slash = after }) long
    (subst (λ a. IsFit [] (byte ∷ path) (record { whole = false; after_slash = a })) (sym value)
    (fit_of_none byte path (get_or fits (length parts) no_fit) was))

-- a byte of a path and the bytes after it
pub byte-more : (path : List ℕ) (index : ℕ) → 0 < index → index ≤ length path
    → drop (index - 1) path ≡ get_or path (index - 1) 0 ∷ drop index path
byte-more path index low high = grind (arith, common_steps)
