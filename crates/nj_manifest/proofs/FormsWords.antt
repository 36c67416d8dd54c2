-- Words and sections: the readings within a line, and the forms of the grammar.
use Rattle.std.proofs.Common.{arith, ◌≡◌, Bool, true, false, cond, Option, Some, None, Ok, Err, List, [], ◌∷◌}
use Rattle.std.proofs.Common.{◌++◌}
use Rattle.std.proofs.Common.{refl, sym, ap, subst, ◌∙◌, append_assoc}
use Rattle.std.specs.List.{list_all, take_while}
use Rattle.nj_text.specs.declared.fault.UnitFault.{UnitFault}
use Rattle.nj_text.specs.declared.sign.Sign.{Sign}
use Rattle.nj_text.specs.declared.sign.Sign.TheVariants as sign
use Rattle.nj_text.specs.declared.spot.Spot.{Spot}
use Rattle.nj_text.specs.Bytes.{drop_while, begins_with}
use Rattle.nj_text.specs.Units.{Meaning}
use Rattle.nj_text.specs.Units.{LineEnd, TextUnit}
use Rattle.nj_text.specs.Lines.{Line, spot_of_first}
use Rattle.nj_text.specs.Words.{WordModel, in_word, opens_word, fault_of, next_fault, parts_of}
use Rattle.nj_text.specs.Inside.Meanings.{is_blank_meaning, opens_word_meaning}
use Rattle.nj_text.specs.Calls as calls
use Rattle.nj_text.specs.Inside.States.{reply}
use Rattle.nj_text.specs.Calls.{State, is_sign, sign_of, path_word_of}
use Rattle.nj_text.proofs.Lists.{take_while-cons_yes}
use Rattle.nj_manifest.specs.LineSteps.{Step, ◌>>=◌, called, words_next, section_next}
use Rattle.nj_manifest.specs.Grammar.{WordForm, WordsForm, none, more, SectionForm, left_out, there}
use Rattle.nj_manifest.proofs.Choices.{words_if, words_from}
use Rattle.nj_manifest.proofs.Framing.{bind-ok, after-is, value-is}
use Rattle.nj_manifest.proofs.WordLimits.{opening_is_within, words_next-fails, words_next-ends}
use Rattle.nj_manifest.proofs.WordLimits.{words_next-more}
use Rattle.nj_manifest.proofs.FormsGaps.{both_parts, front_passes, after_stops, run_passed, run_taken, skip}
use Rattle.nj_manifest.proofs.FormsGaps.{skip_gap, gap_of, gap_passes, gap_cut}
use Rattle.nj_manifest.proofs.FormsTokens.{within, passes_without_fault, sign-form}
use Rattle.nj_manifest.proofs.FormsTokens.{sign-left_out, sign-none, sign-read, sign_skips}

-- ---- tests on a unit

opens_without_fault : (u : TextUnit) → opens_word u ≡ true → fault_of u.means u.spot ≡ None
opens_without_fault u h = passes_without_fault opens_word_meaning refl refl refl u.means u.spot h

opening_no_blank : (m : Meaning) → opens_word_meaning m ≡ true → is_blank_meaning m ≡ false
opening_no_blank m h = grind arith

-- a blank is not a bad unit
pub fault_after_blanks : (us : List TextUnit) → next_fault (skip us) ≡ None → next_fault us ≡ None
fault_after_blanks us h = grind arith

-- ---- one word

-- the result of a call, by its parts
abbrev word_by : Line → List Line → (here remainder : Option UnitFault) → (opens : Bool)
    → (us run rest : List TextUnit) → Step (Option WordModel)
word_by l ls f g t us run rest =
    called (calls.unless_fault f (cond t (calls.unless_fault g
    (reply (Some (record { spot = spot_of_first us l.end; parts = parts_of run })) (within l ls rest)))
    (reply None (within l ls us))))

abbrev WordRead : Line → List Line → List TextUnit → Option WordModel → State → Type 0
WordRead l ls us None s = (begins_with opens_word us ≡ false) × (s ≡ within l ls us)
WordRead l ls us (Some word) s = (begins_with opens_word us ≡ true)
    × (word ≡ record { spot = spot_of_first us l.end; parts = parts_of (take_while in_word us) })
    × (s ≡ within l ls (drop_while in_word us))

word_by-read : (l : Line) (ls : List Line) (f g : Option UnitFault) (t : Bool) (us : List TextUnit)
    (found : Option WordModel) (s : State) → begins_with opens_word us ≡ t
    → word_by l ls f g t us (take_while in_word us) (drop_while in_word us) ≡ Ok (found, s)
    → WordRead l ls us found s
word_by-read l ls f g t us found s b h = grind arith

word-cases : (l : Line) (ls : List Line) (us : List TextUnit) (found : Option WordModel) (s : State)
    → called (path_word_of (within l ls us)) ≡ Ok (found, s) → WordRead l ls (skip us) found s
word-cases l ls us found s h = grind arith

form_of_word : (us vs : List TextUnit) (end : Spot) (word : WordModel) → skip us ≡ vs
    → begins_with opens_word vs ≡ true → word
    ≡ record { spot = spot_of_first vs end; parts = parts_of (take_while in_word vs) }
    → WordForm us word (drop_while in_word vs)
form_of_word us [] end word e b is = absurd cc
form_of_word us (u ∷ vs) end word e b is =
    let inside = opening_is_within u.means b in
    let run = take_while-cons_yes in_word u vs inside in
    let rest = drop_while in_word (u ∷ vs) in
    let whole : u ∷ vs ≡ (u ∷ take_while in_word vs) ++ rest =
    both_parts in_word (u ∷ vs) ∙ ap (λ (run : List TextUnit). run ++ rest) run in
    record {
      gap = gap_of us;
      first = u;
      others = take_while in_word vs;
      cut = gap_cut us ∙ ap (λ (vs : List TextUnit). gap_of us ++ vs) (e ∙ whole)
          ∙ sym (append_assoc (gap_of us) (u ∷ take_while in_word vs) rest);
      blanks = gap_passes us;
      opens = b;
      of_word = ap (list_all in_word) (sym run) ∙ front_passes in_word (u ∷ vs);
      longest = after_stops in_word (u ∷ vs);
      place = ap (λ (w : WordModel). w.spot) is;
      parts = ap (λ (w : WordModel). w.parts) is ∙ ap parts_of run;
    }

-- A word that is read has the form of a word.
pub word-form : (l : Line) (ls : List Line) (us : List TextUnit) (word : WordModel) (s : State)
    → called (path_word_of (within l ls us)) ≡ Ok (Some word, s)
    → (rest : List TextUnit) × WordForm us word rest × (s ≡ within l ls rest)
word-form l ls us word s h =
    let read : WordRead l ls (skip us) (Some word) s = word-cases l ls us (Some word) s h in
    (drop_while in_word (skip us), form_of_word us (skip us) l.end word refl read.0 read.1, read.2)

pub word-none : (l : Line) (ls : List Line) (us : List TextUnit) (s : State)
    → called (path_word_of (within l ls us)) ≡ Ok (None, s) → s ≡ within l ls (skip us)
word-none l ls us s h = let read : WordRead l ls (skip us) None s = word-cases l ls us None s h in read.1

word_next : {us rest : List TextUnit} {word : WordModel} → (f : WordForm us word rest)
    → skip us ≡ (f.first ∷ f.others) ++ rest
word_next {us} {rest} f = grind (arith, skip_gap, append_assoc, opening_no_blank)

pub word_without_fault : {us rest : List TextUnit} {word : WordModel} → WordForm us word rest
    → next_fault (skip us) ≡ None
word_without_fault {us} {rest} f = ap next_fault (word_next f) ∙ opens_without_fault f.first f.opens

same_word : (word : WordModel) (spot : Spot) (run : List TextUnit) → word.spot ≡ spot
    → word.parts ≡ parts_of run → record { spot = spot; parts = parts_of run } ≡ word
same_word word spot run s p = rw (← s, ← p) refl

word_by-gives : (l : Line) (ls : List Line) (f g : Option UnitFault) (t : Bool)
    (us taken left run rest : List TextUnit) (word : WordModel) → f ≡ None → t ≡ true → taken ≡ run
    → left ≡ rest → g ≡ None → word.spot ≡ spot_of_first us l.end → word.parts ≡ parts_of run
    → word_by l ls f g t us taken left ≡ Ok (Some word, within l ls rest)
word_by-gives l ls f g t us taken left run rest word a b c d e p q = grind arith

-- A word in its form is read, unless a bad unit ends it.
pub word-read : (l : Line) (ls : List Line) (us rest : List TextUnit) (word : WordModel)
    → WordForm us word rest → next_fault rest ≡ None
    → called (path_word_of (within l ls us)) ≡ Ok (Some word, within l ls rest)
word-read l ls us rest word f n =
    let run = f.first ∷ f.others in
    let next = word_next f in
    let left = run_passed in_word run rest f.of_word f.longest in
    ap (λ (vs : List TextUnit). word_by l ls (next_fault vs) (next_fault (drop_while in_word vs))
    (begins_with opens_word vs) vs (take_while in_word vs) (drop_while in_word vs)) next
    ∙ word_by-gives l ls (next_fault (run ++ rest)) (next_fault (drop_while in_word (run ++ rest)))
    (begins_with opens_word (run ++ rest)) (run ++ rest) (take_while in_word (run ++ rest))
    (drop_while in_word (run ++ rest)) run rest word
    (opens_without_fault f.first f.opens) f.opens (run_taken in_word run rest f.of_word f.longest) left
    (ap next_fault left ∙ n) f.place f.parts

pub no_word-read : (l : Line) (ls : List Line) (us : List TextUnit) → next_fault (skip us) ≡ None
    → begins_with opens_word (skip us) ≡ false
    → called (path_word_of (within l ls us)) ≡ Ok (None, within l ls (skip us))
no_word-read l ls us n b = grind arith

-- ---- words

-- the words that are read, and where the lexer is then
abbrev WordsRead : Line → List Line → List TextUnit → List WordModel → State → Type 0
WordsRead l ls us words s = (rest : List TextUnit) × WordsForm us words rest × (s ≡ within l ls (skip rest))

ok_nil : (ws : List WordModel) (a s : State) → ◌≡◌ {A = Step (List WordModel)} (Ok ([], a)) (Ok (ws, s))
    → ([] ≡ ws) × (a ≡ s)
ok_nil ws a s h = (value-is [] a (ws, s) h, after-is [] a (ws, s) h)

words_from-read : (w : WordModel) (after : State) (others : Step (List WordModel)) (ws : List WordModel)
    (s : State) → words_from (Some w) after others ≡ Ok (ws, s)
    → (more : List WordModel) × (others ≡ Ok (more, s)) × (w ∷ more ≡ ws)
words_from-read w after others ws s h = grind arith

-- Words that are read have the form of words.
pub words-form : (l : Line) (ls : List Line) (words : List WordModel) (us : List TextUnit) (s : State)
    → words_next (within l ls us) ≡ Ok (words, s)
    → (rest : List TextUnit) × WordsForm us words rest × (s ≡ within l ls (skip rest))
words-form l ls [] us s h = by_call (called (path_word_of (within l ls us))) refl
  where
    by_call : (x : Step (Option WordModel)) → called (path_word_of (within l ls us)) ≡ x
        → WordsRead l ls us [] s
    by_call (Err f) e = absurd (err_is_ok (sym (words_next-fails (within l ls us) f e) ∙ h))
      where
        err_is_ok : ◌≡◌ {A = Step (List WordModel)} (Err f) (Ok ([], s)) → ⊥
        err_is_ok g = absurd cc
    by_call (Ok (None, after)) e =
        let same = ok_nil [] after s (sym (words_next-ends (within l ls us) after e) ∙ h) in
        (us, none, sym same.1 ∙ word-none l ls us after e)
    by_call (Ok (Some w, after)) e =
        let more = words_from-read w after (words_next after) [] s
        (sym (words_next-more (within l ls us) w after e) ∙ h) in
        absurd (no_words more.2)
      where
        no_words : {ws : List WordModel} → w ∷ ws ≡ [] → ⊥
        no_words g = absurd cc
words-form l ls (word ∷ words) us s h =
    by_call (called (path_word_of (within l ls us))) refl (λ vs e. words-form l ls words vs s e)
  where
    by_call : (x : Step (Option WordModel)) → called (path_word_of (within l ls us)) ≡ x
        → ((vs : List TextUnit) → words_next (within l ls vs) ≡ Ok (words, s) → WordsRead l ls vs words s)
        → WordsRead l ls us (word ∷ words) s
    by_call (Err f) e others = absurd (err_is_ok (sym (words_next-fails (within l ls us) f e) ∙ h))
      where
        err_is_ok : ◌≡◌ {A = Step (List WordModel)} (Err f) (Ok (word ∷ words, s)) → ⊥
        err_is_ok g = absurd cc
    by_call (Ok (None, after)) e others = absurd
        (no_words (ok_nil (word ∷ words) after s (sym (words_next-ends (within l ls us) after e) ∙ h)).0)
      where
        no_words : ◌≡◌ {A = List WordModel} [] (word ∷ words) → ⊥
        no_words g = absurd cc
    by_call (Ok (Some w, after)) e others =
        let rest = words_from-read w after (words_next after) (word ∷ words) s
        (sym (words_next-more (within l ls us) w after e) ∙ h) in
        let first : w ≡ word = cc in
        let remainder : rest.0 ≡ words = cc in
        let here = word-form l ls us w after e in
        let last = others here.0 (ap words_next (sym here.2) ∙ rest.1
        ∙ ap (λ (ws : List WordModel). Ok (ws, s)) remainder) in
        (last.0, more (subst (λ (v : WordModel). WordForm us v here.0) first here.1) last.1, last.2)

words_without_fault : {us rest : List TextUnit} {words : List WordModel} → WordsForm us words rest
    → next_fault (skip rest) ≡ None → next_fault (skip us) ≡ None
words_without_fault none n = n
words_without_fault (more f fs) n = word_without_fault f

-- Words in their form are read, if neither a word nor a bad unit is next.
pub words-read : (l : Line) (ls : List Line) {us rest : List TextUnit} {words : List WordModel}
    → WordsForm us words rest → next_fault (skip rest) ≡ None → begins_with opens_word (skip rest) ≡ false
    → words_next (within l ls us) ≡ Ok (words, within l ls (skip rest))
words-read l ls {us = us} none n b = words_next-ends (within l ls us) (within l ls (skip us))
    (no_word-read l ls us n b)
words-read l ls {us = us} {rest = rest} (more {after = remainder} {word = word} f fs) n b =
    let first = word-read l ls us remainder word f (fault_after_blanks remainder (words_without_fault fs n))
    in
    words_next-more (within l ls us) word (within l ls remainder) first
    ∙ ap (words_from (Some word) (within l ls remainder)) (words-read l ls fs n b)

-- ---- sections

pub section_skips : (want : Sign) (l : Line) (ls : List Line) (us : List TextUnit)
    → section_next want (within l ls (skip us)) ≡ section_next want (within l ls us)
unfolding section_next
section_skips want l ls us = ap (λ (r : Step Bool). r >>= λ t. words_if t.0 t.1) (sign_skips want l ls us)

pub section-form : (want : Sign) (l : Line) (ls : List Line) (us : List TextUnit) (words : List WordModel)
    (s : State) → (want ≡ sign.LineEnd → ⊥) → section_next want (within l ls us) ≡ Ok (words, s)
    → (rest : List TextUnit) × SectionForm want us words rest × (s ≡ within l ls (skip rest))
unfolding section_next
section-form want l ls us words s n h =
    let b = bind-ok (called (sign_of want (within l ls us))) (λ t. words_if t.0 t.1) (words, s) h in
    by_test b.0.0 b.0.1 b.1 b.2
  where
    by_test : (t : Bool) (after : State) → called (sign_of want (within l ls us)) ≡ Ok (t, after)
        → words_if t after ≡ Ok (words, s) → (rest : List TextUnit) × SectionForm want us words rest
        × (s ≡ within l ls (skip rest))
    by_test true after e g =
        let it = sign-form want l ls us after n e in
        let read = words-form l ls words it.0 s (ap words_next (sym it.2) ∙ g) in
        (read.0, there it.1 read.1, read.2)
    by_test false after e g =
        let same = ok_nil words after s g in (
          us,
          subst (λ (ws : List WordModel). SectionForm want us ws us) same.0 left_out,
          sym same.1
              ∙ sign-left_out want l ls us after e,
        )

-- A section that is present is read, and an omitted section is not.
pub section-read : (want : Sign) (l : Line) (ls : List Line) {us rest : List TextUnit}
    {words : List WordModel} → (want ≡ sign.LineEnd → ⊥) → SectionForm want us words rest
    → next_fault (skip rest) ≡ None → begins_with opens_word (skip rest) ≡ false
    → is_sign want (skip rest) ≡ false → section_next want (within l ls us)
    ≡ Ok (words, within l ls (skip rest))
unfolding section_next
section-read want l ls {us = us} n left_out f b i = rw (sign-none want l ls us f i) refl
section-read want l ls {us = us} n (there {after = remainder} s ws) f b i =
    rw (sign-read want l ls us remainder n s) (words-read l ls ws f b)
