-- The words of a section, one by one: each takes at least a unit, so a limit that is large enough does not
-- matter.
use Rattle.std.proofs.Common.{◌≡◌, ℕ, zero, suc, ◌<◌, ◌≤◌, Bool, true, false, cond, Option, Some, None, Ok}
use Rattle.std.proofs.Common.{Err, List, [], ◌∷◌, ◌++◌, length, refl, sym, ap, ◌∙◌, append_assoc, arith}
use Rattle.std.proofs.lemmas.List.{append-nil}
use Rattle.nj_text.specs.declared.fault.UnitFault.{UnitFault}
use Rattle.nj_text.specs.Bytes.{drop_while, begins_with}
use Rattle.nj_text.specs.Units.{Meaning, Ordinary, Escape, Reference, Join, OpeningJoin, Comment, LeadingTab}
use Rattle.nj_text.specs.Units.{LineEnd, TextEnd, BadByte, BadEscape, TextUnit}
use Rattle.nj_text.specs.Lines.{Line, with_units}
use Rattle.nj_text.specs.Words.{is_blank, in_word, next_fault, WordModel, opens_word}
use Rattle.nj_text.specs.Inside.Meanings.{in_word_meaning, opens_word_meaning}
use Rattle.nj_text.specs.Calls.{State, Between, Inside, Failed, unless_fault, after_blanks, word_here}
use Rattle.nj_text.specs.Calls.{path_word_of}
use Rattle.nj_text.specs.Inside.States.{reply}
use Rattle.nj_manifest.specs.Faults.{Fault}
use Rattle.nj_manifest.specs.LineSteps.{Step, ◌>>=◌, called, words_within, words_next}
use Rattle.nj_manifest.proofs.Choices.{units_left, words_next-is, words_from}

drop_while_shortens : {X : Type 0} (p : X → Bool) (xs : List X) → length (drop_while p xs) ≤ length xs
drop_while_shortens p [] = omega arith
drop_while_shortens p (x ∷ xs) = by_test (p x) (drop_while_shortens p xs)
  where
    by_test : (t : Bool) → length (drop_while p xs) ≤ length xs
        → length (cond t (drop_while p xs) (x ∷ xs)) ≤ suc (length xs)
    by_test true h = omega arith
    by_test false h = omega arith

pub opening_is_within : (m : Meaning) → opens_word_meaning m ≡ true → in_word_meaning m ≡ true
opening_is_within Join h = refl
opening_is_within (Ordinary b) h = h
opening_is_within (Escape b) h = h
opening_is_within (Reference n) h = h
opening_is_within OpeningJoin h = h
opening_is_within Comment h = h
opening_is_within LeadingTab h = h
opening_is_within LineEnd h = h
opening_is_within TextEnd h = h
opening_is_within BadByte h = h
opening_is_within BadEscape h = h

word_takes : (us : List TextUnit) → begins_with opens_word us ≡ true
    → length (drop_while in_word us) < length us
word_takes [] h = absurd cc
word_takes (u ∷ us) h =
    let passes : drop_while in_word (u ∷ us) ≡ drop_while in_word us = rw (opening_is_within u.means h) refl
    in
    let short = drop_while_shortens in_word us in
    rw passes (omega arith)

-- the parts of a result
pub ok_parts : {A : Type 0} (x y : A) (s t : State) → ◌≡◌ {A = Step A} (Ok (x, s)) (Ok (y, t))
    → (x ≡ y) × (s ≡ t)
ok_parts {A} x y s t e =
    let same : ◌≡◌ {A = A × State} (x, s) (y, t) = cc in
    (ap (λ (r : A × State). r.0) same, ap (λ (r : A × State). r.1) same)

none_is_not_word : {w : WordModel} → ◌≡◌ {A = Option WordModel} None (Some w) → ⊥
none_is_not_word e = absurd cc

-- the rest after a call that returns a word
word_left : (l : Line) (ls : List Line) (w : WordModel) (after : State) (f g : Option UnitFault) (t : Bool)
    → begins_with opens_word l.units ≡ t
    → ◌≡◌ {A = Step (Option WordModel)} (called
    (unless_fault f (cond t (unless_fault g
    (reply (Some (word_here l)) (Inside (with_units (drop_while in_word l.units) l) ls)))
    (reply None (Inside l ls))))) (Ok (Some w, after))
    → units_left after < length l.units
word_left l ls w after (Some f) g t b e = absurd cc
word_left l ls w after None g false b e =
    absurd (none_is_not_word (ok_parts None (Some w) (Inside l ls) after e).0)
word_left l ls w after None (Some g) true b e = absurd cc
word_left l ls w after None None true b e =
    let same : length (drop_while in_word l.units) ≡ units_left after =
    ap units_left (ok_parts (Some (word_here l)) (Some w)
    (Inside (with_units (drop_while in_word l.units) l) ls) after e).1 in
    let takes = word_takes l.units b in
    omega arith

-- After a word fewer units are left.
pub units_left-word : (s : State) (w : WordModel) (after : State)
    → called (path_word_of s) ≡ Ok (Some w, after) → units_left after < units_left s
units_left-word (Between ls) w after h =
    absurd (none_is_not_word (ok_parts None (Some w) (Between ls) after h).0)
units_left-word (Failed f) w after h = absurd cc
units_left-word (Inside l ls) w after h =
    let b = after_blanks l in
    let short = drop_while_shortens is_blank l.units in
    let left = word_left b ls w after (next_fault b.units) (next_fault (drop_while in_word b.units))
    (begins_with opens_word b.units) refl h in
    omega arith

words_within-limits : (m n : ℕ) (s : State) → units_left s < m → units_left s < n
    → words_within m s ≡ words_within n s
unfolding words_within
words_within-limits zero n s h g = absurd (omega arith)
words_within-limits (suc m) zero s h g = absurd (omega arith)
words_within-limits (suc m) (suc n) s h g =
    by_word (called (path_word_of s)) refl (λ after low high. words_within-limits m n after low high)
  where
    by_word : (x : Step (Option WordModel)) → called (path_word_of s) ≡ x
        → ((after : State) → units_left after < m → units_left after < n
        → words_within m after ≡ words_within n after)
        → (x >>= (λ word. words_from word.0 word.1 (words_within m word.1)))
        ≡ (x >>= (λ word. words_from word.0 word.1 (words_within n word.1)))
    by_word (Err f) e rest = refl
    by_word (Ok (None, after)) e rest = refl
    by_word (Ok (Some w, after)) e rest =
        let shorter = units_left-word s w after e in
        ap (words_from (Some w) after) (rest after (omega arith) (omega arith))

pub words_next-fails : (s : State) (f : Fault) → called (path_word_of s) ≡ Err f → words_next s ≡ Err f
unfolding words_within
words_next-fails s f h = words_next-is s
    ∙ (let w : words_within (suc (units_left s)) s ≡ Err f = rw h refl in w)

pub words_next-ends : (s after : State) → called (path_word_of s) ≡ Ok (None, after)
    → words_next s ≡ Ok ([], after)
unfolding words_within
words_next-ends s after h = words_next-is s
    ∙ (let w : words_within (suc (units_left s)) s ≡ Ok ([], after) = rw h refl in w)

pub words_next-more : (s : State) (w : WordModel) (after : State)
    → called (path_word_of s) ≡ Ok (Some w, after)
    → words_next s ≡ words_from (Some w) after (words_next after)
unfolding words_within
words_next-more s w after h =
    let shorter = units_left-word s w after h in
    let first : words_within (suc (units_left s)) s
    ≡ words_from (Some w) after (words_within (units_left s) after) = rw h refl in
    words_next-is s ∙ (first ∙ ap (words_from (Some w) after)
    (words_within-limits (units_left s) (suc (units_left after)) after (omega arith) (omega arith)
    ∙ sym (words_next-is after)))

-- ---- turns of a loop

-- the words read before are put in front
abbrev pub in_front : List WordModel → Step (List WordModel) → Step (List WordModel)
in_front front others = others >>= λ o. Ok (front ++ o.0, o.1)

in_front-more : (front : List WordModel) (w : WordModel) (after : State) (others : Step (List WordModel))
    → in_front front (words_from (Some w) after others) ≡ in_front (front ++ w ∷ []) others
in_front-more front w after (Err f) = refl
in_front-more front w after (Ok o) = ap (λ (x : List WordModel). Ok (x, o.1))
    (sym (append_assoc front (w ∷ []) o.0))

pub words-turn : (whole : Step (List WordModel)) (front : List WordModel) (s : State) (w : WordModel)
    (after : State) → in_front front (words_next s) ≡ whole → called (path_word_of s) ≡ Ok (Some w, after)
    → in_front (front ++ w ∷ []) (words_next after) ≡ whole
words-turn whole front s w after h e = sym (in_front-more front w after (words_next after))
    ∙ sym (ap (in_front front) (words_next-more s w after e)) ∙ h

pub words-end : (whole : Step (List WordModel)) (front : List WordModel) (s after : State)
    → in_front front (words_next s) ≡ whole → called (path_word_of s) ≡ Ok (None, after)
    → whole ≡ Ok (front, after)
words-end whole front s after h e = sym h ∙ ap (in_front front) (words_next-ends s after e)
    ∙ ap (λ (x : List WordModel). Ok (x, after)) (append-nil front)

pub words-fail : (whole : Step (List WordModel)) (front : List WordModel) (s : State) (f : Fault)
    → in_front front (words_next s) ≡ whole → called (path_word_of s) ≡ Err f → whole ≡ Err f
words-fail whole front s f h e = sym h ∙ ap (in_front front) (words_next-fails s f e)
