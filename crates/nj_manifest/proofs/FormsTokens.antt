-- Names and signs: the results of the lexer's calls within a line, and the forms of the grammar.
use Rattle.std.proofs.Common.{arith, ◌≡◌, ℕ, Bool, true, false, cond, ◌&&◌, not, eqb, Option, Some, None, Ok}
use Rattle.std.proofs.Common.{List}
use Rattle.std.proofs.Common.{[], ◌∷◌, ◌++◌, map, ◌⊎◌, inl, inr, refl, sym, ap, ◌∙◌, append_assoc}
use Rattle.std.specs.List.{list_all, take_while}
use Rattle.std.proofs.lemmas.Bool.{and_parts, not-true, false≢true}
use Rattle.nj_text.specs.declared.fault.UnitFault.{UnitFault}
use Rattle.nj_text.specs.declared.sign.Sign.{Sign}
use Rattle.nj_text.specs.declared.sign.Sign.TheVariants as sign
use Rattle.nj_text.specs.declared.spot.Spot.{Spot}
use Rattle.nj_text.specs.Bytes.{drop_while, is_space, is_identifier_byte, begins_with}
use Rattle.nj_text.specs.Units.{Meaning, Ordinary, LeadingTab}
use Rattle.nj_text.specs.Units.{LineEnd, BadByte, BadEscape, TextUnit, is_ordinary_in}
use Rattle.nj_text.specs.Lines.{Line, with_units, lines_after, spot_of_first}
use Rattle.nj_text.specs.Words.{is_blank, in_identifier, begins_with_byte, fault_of, next_fault, opens_word}
use Rattle.nj_text.specs.Inside.Meanings.{is_blank_meaning, opens_word_meaning}
use Rattle.nj_text.specs.Calls as calls
use Rattle.nj_text.specs.Inside.States.{reply, unless_bad}
use Rattle.nj_text.specs.Calls.{State, Between, Inside, bytes_of, some_bytes, is_empty, is_sign}
use Rattle.nj_text.specs.Calls.{state_after_sign, sign_of}
use Rattle.nj_manifest.specs.declared.cause.Wanted.{Wanted}
use Rattle.nj_manifest.specs.LineSteps.{Step, ◌>>=◌, called, NameModel, name_next, expect_sign}
use Rattle.nj_manifest.specs.Grammar.{AreBlanks, IdentifierForm, SignForm}
use Rattle.nj_manifest.proofs.Choices.{named, if_there}
use Rattle.nj_manifest.proofs.FormsGaps.{both_parts, front_passes, after_stops, run_passed, run_taken, skip}
use Rattle.nj_manifest.proofs.FormsGaps.{skip_again, skip_gap, gap_of, gap_passes, gap_cut, blanks_end}
use Rattle.nj_manifest.proofs.FormsGaps.{end_of_blanks}

-- the lexer within a line, before the given units
abbrev pub within : Line → List Line → List TextUnit → State
within l ls us = Inside (with_units us l) ls

-- ---- tests on a unit

-- a unit that passes a test that no bad unit passes has no fault
pub passes_without_fault : (q : Meaning → Bool) → q LeadingTab ≡ false → q BadByte ≡ false
    → q BadEscape ≡ false → (m : Meaning) (spot : Spot) → q m ≡ true → fault_of m spot ≡ None
passes_without_fault q a b c m spot h = grind arith

-- an ordinary byte of a kind that has no space
pub ordinary_no_blank : (p : ℕ → Bool) → p 32 ≡ false → (m : Meaning) → is_ordinary_in p m ≡ true
    → is_blank_meaning m ≡ false
ordinary_no_blank p e m h = grind arith

-- which byte it is
pub ordinary_is : (b : ℕ) (m : Meaning) → is_ordinary_in (λ c. eqb c b) m ≡ true → m ≡ Ordinary b
ordinary_is b m h = grind arith

identifier_without_fault : (u : TextUnit) → in_identifier u ≡ true → fault_of u.means u.spot ≡ None
identifier_without_fault u h = grind arith

identifier_no_blank : (u : TextUnit) → in_identifier u ≡ true → is_blank u ≡ false
identifier_no_blank u h = ordinary_no_blank is_identifier_byte refl u.means h

-- ---- names

-- the reading of a run of units that may be empty
abbrev name_of : Wanted → Option UnitFault → Spot → (run : List TextUnit) → State → Step NameModel
name_of want f spot run s = called (calls.unless_fault f (reply (some_bytes (bytes_of run)) s)) >>=
    λ n. named want spot n.0 n.1

-- the same after the blanks
abbrev name_here : Wanted → Line → List Line → List TextUnit → Step NameModel
name_here want l ls us = name_of want (next_fault us) (spot_of_first us l.end) (take_while in_identifier us)
    (within l ls (drop_while in_identifier us))

name_is_here : (want : Wanted) (l : Line) (ls : List Line) (us : List TextUnit)
    → name_next want (within l ls us) ≡ name_here want l ls (skip us)
unfolding name_next
name_is_here want l ls us = grind (arith, skip, skip_again)

-- blanks before a name do not matter
pub name_skips : (want : Wanted) (l : Line) (ls : List Line) (us : List TextUnit)
    → name_next want (within l ls (skip us)) ≡ name_next want (within l ls us)
name_skips want l ls us = grind (arith, name_is_here, skip, skip_again)

-- where bytes are wanted, there are some
some-bytes : (want : Wanted) (spot : Spot) (bs : List ℕ) (s : State) (y : NameModel × State)
    → named want spot (some_bytes bs) s ≡ Ok y
    → (is_empty bs ≡ false) × (y.0 ≡ record { spot = spot; name = bs }) × (s ≡ y.1)
some-bytes want spot bs s y h = grind arith

bytes-some : (bs : List ℕ) → is_empty bs ≡ false → some_bytes bs ≡ Some bs
bytes-some bs h = grind arith

-- a run that was read
name_of-read : (want : Wanted) (f : Option UnitFault) (spot : Spot) (run : List TextUnit) (s : State)
    (y : NameModel × State) → name_of want f spot run s ≡ Ok y
    → (is_empty (bytes_of run) ≡ false) × (y.0 ≡ record { spot = spot; name = bytes_of run }) × (s ≡ y.1)
name_of-read want f spot run s y h = grind arith

form_of_run : (us run rest : List TextUnit) (end : Spot) (name : NameModel) → skip us ≡ run ++ rest
    → list_all in_identifier run ≡ true → begins_with in_identifier rest ≡ false
    → is_empty (bytes_of run) ≡ false
    → name ≡ record { spot = spot_of_first (skip us) end; name = bytes_of run } → IdentifierForm us name rest
form_of_run us [] rest end name e all n some is = absurd cc
form_of_run us (u ∷ run) rest end name e all n some is = grind (
  arith,
  gap_of us,
  gap_cut us,
  append_assoc (gap_of us) (u ∷ run) rest,
  gap_passes us,
)

-- A name that is read is an identifier.
pub name-form : (want : Wanted) (l : Line) (ls : List Line) (us : List TextUnit) (y : NameModel × State)
    → name_next want (within l ls us) ≡ Ok y
    → (rest : List TextUnit) × IdentifierForm us y.0 rest × (y.1 ≡ within l ls rest)
name-form want l ls us y h =
    let run = take_while in_identifier (skip us) in
    let rest = drop_while in_identifier (skip us) in
    let read = name_of-read want (next_fault (skip us)) (spot_of_first (skip us) l.end) run (within l ls rest)
    y (sym (name_is_here want l ls us) ∙ h) in (
      rest,
      form_of_run us run rest l.end y.0 (both_parts in_identifier (skip us))
          (front_passes in_identifier (skip us)) (after_stops in_identifier (skip us)) read.0 read.1,
      sym read.2,
    )

same_name : (name : NameModel) (spot : Spot) (bs : List ℕ) → name.spot ≡ spot → name.name ≡ bs
    → record { spot = spot; name = bs } ≡ name
same_name name spot bs s b = rw (← s, ← b) refl

name_of-gives : (want : Wanted) (f : Option UnitFault) (run taken : List TextUnit) (spot : Spot) (s t : State)
    (name : NameModel) → f ≡ None → taken ≡ run → s ≡ t → name.spot ≡ spot → name.name ≡ bytes_of run
    → is_empty name.name ≡ false
    → name_of want f spot taken s ≡ Ok (name, t)
name_of-gives want f run taken spot s t name e r h p b some = grind arith

-- the units after the blanks before an identifier
identifier_next : {us rest : List TextUnit} {name : NameModel} → (f : IdentifierForm us name rest)
    → skip us ≡ (f.first ∷ f.others) ++ rest
identifier_next {us} {rest} f = grind (arith, skip_gap, append_assoc, identifier_no_blank, and_parts)

-- An identifier is read as a name.
pub name-read : (want : Wanted) (l : Line) (ls : List Line) (us rest : List TextUnit) (name : NameModel)
    → IdentifierForm us name rest → name_next want (within l ls us) ≡ Ok (name, within l ls rest)
name-read want l ls us rest name f =
    let run = f.first ∷ f.others in
    let next = identifier_next f in
    let sound = identifier_without_fault f.first
    (and_parts (in_identifier f.first) (list_all in_identifier f.others) f.of_name).0 in
    name_is_here want l ls us
    ∙ ap (name_here want l ls) next
    ∙ name_of-gives want (next_fault (run ++ rest)) run (take_while in_identifier (run ++ rest)) f.first.spot
    (within l ls (drop_while in_identifier (run ++ rest))) (within l ls rest) name
    sound (run_taken in_identifier run rest f.of_name f.longest)
    (ap (within l ls) (run_passed in_identifier run rest f.of_name f.longest)) f.place f.bytes f.some_byte

-- ---- signs

sign_at_units : Sign → Line → List Line → List TextUnit → Step Bool
sign_at_units want l ls us = called (unless_bad (calls.sign_at want) (with_units us l) ls)

-- blanks before a sign do not matter
pub sign_skips : (want : Sign) (l : Line) (ls : List Line) (us : List TextUnit)
    → called (sign_of want (within l ls (skip us))) ≡ called (sign_of want (within l ls us))
unfolding sign_at_units
sign_skips want l ls us = ap (sign_at_units want l ls) (skip_again us)

-- the lexer after a sign that comes next
abbrev after_it : Sign → Line → List Line → List TextUnit → State
after_it want l ls us = state_after_sign want (with_units us l) ls

-- the sign comes next, and the lexer after it
abbrev IsThere : Sign → Line → List Line → List TextUnit → Bool × State → Type 0
IsThere want l ls us y = (is_sign want us ≡ true) × (y.0 ≡ true) × (y.1 ≡ after_it want l ls us)

abbrev IsNotThere : Sign → Line → List Line → List TextUnit → Bool × State → Type 0
IsNotThere want l ls us y = (is_sign want us ≡ false) × (y.0 ≡ false) × (y.1 ≡ within l ls us)

sign-cases : (want : Sign) (l : Line) (ls : List Line) (us : List TextUnit) (y : Bool × State)
    → called (sign_of want (within l ls us)) ≡ Ok y
    → IsThere want l ls (skip us) y ⊎ IsNotThere want l ls (skip us) y
sign-cases want l ls us y h = grind arith

-- a sign of one byte, and one of two
one_byte : (b : ℕ) (us gap run rest : List TextUnit) → is_space b ≡ false → us ≡ gap ++ run ++ rest
    → AreBlanks gap → map (λ (u : TextUnit). u.means) run ≡ map Ordinary (b ∷ [])
    → (u : TextUnit) × (skip us ≡ u ∷ rest) × (u.means ≡ Ordinary b)
one_byte b us gap [] rest n e g m = absurd cc
one_byte b us gap (u ∷ v ∷ run) rest n e g m = absurd cc
one_byte b us gap (u ∷ []) rest n e g m =
    let means : u.means ≡ Ordinary b = cc in
    (u, skip_gap us gap (u ∷ rest) (e ∙ append_assoc gap (u ∷ []) rest) g (rw (means, n) refl), means)

two_bytes : (b c : ℕ) (us gap run rest : List TextUnit) → is_space b ≡ false → us ≡ gap ++ run ++ rest
    → AreBlanks gap → map (λ (u : TextUnit). u.means) run ≡ map Ordinary (b ∷ c ∷ [])
    → (u v : TextUnit) × (skip us ≡ u ∷ v ∷ rest) × (u.means ≡ Ordinary b) × (v.means ≡ Ordinary c)
two_bytes b c us gap [] rest n e g m = absurd cc
two_bytes b c us gap (u ∷ []) rest n e g m = absurd cc
two_bytes b c us gap (u ∷ v ∷ w ∷ run) rest n e g m = absurd cc
two_bytes b c us gap (u ∷ v ∷ []) rest n e g m =
    let first : u.means ≡ Ordinary b = cc in
    let second : v.means ≡ Ordinary c = cc in (
      u,
      v,
      skip_gap us gap (u ∷ v ∷ rest) (e ∙ append_assoc gap (u ∷ v ∷ []) rest) g (rw (first, n) refl),
      first,
      second,
    )

-- the next units, where they are not a word
pub record Stops (us : List TextUnit) (pipe pipe2 pipe_at : Bool) : Type 0 where
  pub no_fault : next_fault (skip us) ≡ None
  pub no_word : begins_with opens_word (skip us) ≡ false
  pub is_pipe : is_sign sign.Pipe (skip us) ≡ pipe
  pub is_pipe2 : is_sign sign.Pipe2 (skip us) ≡ pipe2
  pub is_pipe_at : is_sign sign.PipeAt (skip us) ≡ pipe_at

pub end_stops : (us : List TextUnit) → AreBlanks us → Stops us false false false
end_stops us h = grind (arith, blanks_end)

pub colon_stops : (us rest : List TextUnit) → SignForm sign.Colon us rest → Stops us false false false
colon_stops us rest f = grind (arith, one_byte 58 us f.gap f.run rest refl f.cut f.blanks f.of_sign)

pub pipe_stops : (us rest : List TextUnit) → SignForm sign.Pipe us rest → Stops us true false false
pipe_stops us rest f =
    let it = one_byte 124 us f.gap f.run rest refl f.cut f.blanks f.of_sign in
    let alone = and_parts (not (begins_with_byte 124 rest)) (not (begins_with_byte 64 rest)) f.longest in
    let one = not-true (begins_with_byte 124 rest) alone.0 in
    let other = not-true (begins_with_byte 64 rest) alone.1 in
    record {
      no_fault = rw (it.1, it.2) refl;
      no_word =
          ap (begins_with opens_word) it.1 ∙ ap opens_word_meaning it.2;
      is_pipe =
          rw (it.1, it.2, one, other) refl;
      is_pipe2 = rw (it.1, it.2, one) refl;
      is_pipe_at =
          rw (it.1, it.2, other) refl;
    }

pub pipe2_stops : (us rest : List TextUnit) → SignForm sign.Pipe2 us rest → Stops us false true false
pipe2_stops us rest f = grind (arith, two_bytes 124 124 us f.gap f.run rest refl f.cut f.blanks f.of_sign)

pub pipe_at_stops : (us rest : List TextUnit) → SignForm sign.PipeAt us rest → Stops us false false true
pipe_at_stops us rest f = grind (arith, two_bytes 124 64 us f.gap f.run rest refl f.cut f.blanks f.of_sign)

-- ---- a sign that is present

-- a run after the blanks
cut_here : (us run rest : List TextUnit) → skip us ≡ run ++ rest → us ≡ gap_of us ++ run ++ rest
cut_here us run rest e = grind (arith, gap_cut, gap_of, append_assoc)

-- a sign after the blanks, and the lexer after it
pub form_of_sign : (want : Sign) (l : Line) (ls : List Line) (us vs : List TextUnit)
    → (want ≡ sign.LineEnd → ⊥) → skip us ≡ vs → is_sign want vs ≡ true
    → (rest : List TextUnit) × SignForm want us rest × (after_it want l ls vs ≡ within l ls rest)
form_of_sign sign.LineEnd l ls us vs n e h = absurd (n refl)
form_of_sign sign.Colon l ls us [] n e h = absurd cc
form_of_sign sign.Colon l ls us (u ∷ vs) n e h = grind (
  arith,
  gap_of us,
  cut_here us (u ∷ []) vs e,
  gap_passes us,
  ordinary_is 58 u.means h,
)
form_of_sign sign.Equals l ls us [] n e h = absurd cc
form_of_sign sign.Equals l ls us (u ∷ vs) n e h = grind (
  arith,
  gap_of us,
  cut_here us (u ∷ []) vs e,
  gap_passes us,
  ordinary_is 61 u.means h,
)
form_of_sign sign.Pipe l ls us [] n e h = absurd cc
form_of_sign sign.Pipe l ls us (u ∷ vs) n e h =
    let both = and_parts (begins_with_byte 124 (u ∷ vs) && not (begins_with_byte 124 vs))
    (not (begins_with_byte 64 vs)) h in
    let first = and_parts (begins_with_byte 124 (u ∷ vs)) (not (begins_with_byte 124 vs)) both.0 in (
      vs,
      record {
        gap = gap_of us;
        run = u ∷ [];
        cut = cut_here us (u ∷ []) vs e;
        blanks = gap_passes us;
        of_sign = ap (λ (m : Meaning). m ∷ []) (ordinary_is 124 u.means first.0);
        longest =
            rw (first.1, both.1) refl;
      },
      refl,
    )
form_of_sign sign.Pipe2 l ls us [] n e h = absurd cc
form_of_sign sign.Pipe2 l ls us (u ∷ []) n e h = grind arith
form_of_sign sign.Pipe2 l ls us (u ∷ v ∷ vs) n e h =
    let both = and_parts (begins_with_byte 124 (u ∷ v ∷ vs)) (begins_with_byte 124 (v ∷ vs)) h in (
      vs,
      record {
        gap = gap_of us;
        run = u ∷ v ∷ [];
        cut = cut_here us (u ∷ v ∷ []) vs e;
        blanks =
            gap_passes us;
        of_sign = rw (ordinary_is 124 u.means both.0, ordinary_is 124 v.means both.1) refl;
        longest = refl;
      },
      refl,
    )
form_of_sign sign.PipeAt l ls us [] n e h = absurd cc
form_of_sign sign.PipeAt l ls us (u ∷ []) n e h = grind arith
form_of_sign sign.PipeAt l ls us (u ∷ v ∷ vs) n e h =
    let both = and_parts (begins_with_byte 124 (u ∷ v ∷ vs)) (begins_with_byte 64 (v ∷ vs)) h in (
      vs,
      record {
        gap = gap_of us;
        run = u ∷ v ∷ [];
        cut = cut_here us (u ∷ v ∷ []) vs e;
        blanks =
            gap_passes us;
        of_sign = rw (ordinary_is 124 u.means both.0, ordinary_is 64 v.means both.1) refl;
        longest = refl;
      },
      refl,
    )

-- A sign that is read is present.
pub sign-form : (want : Sign) (l : Line) (ls : List Line) (us : List TextUnit) (s : State)
    → (want ≡ sign.LineEnd → ⊥) → called (sign_of want (within l ls us)) ≡ Ok (true, s)
    → (rest : List TextUnit) × SignForm want us rest × (s ≡ within l ls rest)
sign-form want l ls us s n h = by_case (sign-cases want l ls us (true, s) h)
  where
    by_case : IsThere want l ls (skip us) (true, s) ⊎ IsNotThere want l ls (skip us) (true, s)
        → (rest : List TextUnit) × SignForm want us rest × (s ≡ within l ls rest)
    by_case (inl there) = let f = form_of_sign want l ls us (skip us) n refl there.0 in
        (f.0, f.1, there.2 ∙ f.2)
    by_case (inr not_there) = absurd (false≢true (sym not_there.1))

-- A sign that is not read leaves the lexer after the blanks.
pub sign-left_out : (want : Sign) (l : Line) (ls : List Line) (us : List TextUnit) (s : State)
    → called (sign_of want (within l ls us)) ≡ Ok (false, s) → s ≡ within l ls (skip us)
sign-left_out want l ls us s h = grind arith

sign_at-gives : (want : Sign) (l : Line) (ls : List Line) (us : List TextUnit) (f : Option UnitFault)
    (t : Bool) → f ≡ None → is_sign want us ≡ t
    → called (calls.unless_fault f (cond (is_sign want us) (reply true (after_it want l ls us))
    (reply false (within l ls us)))) ≡ called
    (cond t (reply true (after_it want l ls us)) (reply false (within l ls us)))
sign_at-gives want l ls us f t e h = rw (e, h) refl

pub sign-none : (want : Sign) (l : Line) (ls : List Line) (us : List TextUnit) → next_fault (skip us) ≡ None
    → is_sign want (skip us) ≡ false → called (sign_of want (within l ls us))
    ≡ Ok (false, within l ls (skip us))
sign-none want l ls us n h = sign_at-gives want l ls (skip us) (next_fault (skip us)) false n h

-- a sign that is present, after the blanks
pub record IsBetweenStatements (want : Sign) (l : Line) (ls : List Line) (us rest : List TextUnit) : Type 0
  where
    pub no_fault : next_fault (skip us) ≡ None
    pub is_there : is_sign want (skip us) ≡ true
    pub after_is : after_it want l ls (skip us) ≡ within l ls rest

pub sign_comes : (want : Sign) (l : Line) (ls : List Line) (us rest : List TextUnit)
    → (want ≡ sign.LineEnd → ⊥) → SignForm want us rest → IsBetweenStatements want l ls us rest
sign_comes sign.LineEnd l ls us rest n f = absurd (n refl)
sign_comes sign.Colon l ls us rest n f = grind (
  arith,
  one_byte 58 us f.gap f.run rest refl f.cut f.blanks f.of_sign,
)
sign_comes sign.Equals l ls us rest n f = grind (
  arith,
  one_byte 61 us f.gap f.run rest refl f.cut f.blanks f.of_sign,
)
sign_comes sign.Pipe l ls us rest n f = grind (
  arith,
  one_byte 124 us f.gap f.run rest refl f.cut f.blanks f.of_sign,
  pipe_stops us rest f,
)
sign_comes sign.Pipe2 l ls us rest n f = grind (
  arith,
  two_bytes 124 124 us f.gap f.run rest refl f.cut f.blanks f.of_sign,
)
sign_comes sign.PipeAt l ls us rest n f = grind (
  arith,
  two_bytes 124 64 us f.gap f.run rest refl f.cut f.blanks f.of_sign,
)

-- A sign that is present is read.
pub sign-read : (want : Sign) (l : Line) (ls : List Line) (us rest : List TextUnit)
    → (want ≡ sign.LineEnd → ⊥) → SignForm want us rest
    → called (sign_of want (within l ls us)) ≡ Ok (true, within l ls rest)
sign-read want l ls us rest n f =
    let it = sign_comes want l ls us rest n f in
    sign_at-gives want l ls (skip us) (next_fault (skip us)) true it.no_fault it.is_there
    ∙ ap (λ (s : State). Ok (true, s)) it.after_is

-- ---- signs that are required

pub after_skips : (want : Sign) (miss : Wanted) (l : Line) (ls : List Line) (us : List TextUnit)
    → expect_sign want miss (within l ls (skip us)) ≡ expect_sign want miss (within l ls us)
unfolding expect_sign
after_skips want miss l ls us = grind (arith, if_there, sign_skips)

if_there-ok : (miss : Wanted) (t : Bool) (s s' : State) → if_there miss t s ≡ Ok s' → (t ≡ true) × (s ≡ s')
if_there-ok miss t s h h1 = grind arith

after-called : (want : Sign) (miss : Wanted) (s s' : State) → expect_sign want miss s ≡ Ok s'
    → called (sign_of want s) ≡ Ok (true, s')
unfolding expect_sign
after-called want miss s h h1 = grind arith

called-after : (want : Sign) (miss : Wanted) (s s' : State) → called (sign_of want s) ≡ Ok (true, s')
    → expect_sign want miss s ≡ Ok s'
unfolding expect_sign
called-after want miss s s' h = rw h refl

pub after-form : (want : Sign) (miss : Wanted) (l : Line) (ls : List Line) (us : List TextUnit) (s : State)
    → (want ≡ sign.LineEnd → ⊥) → expect_sign want miss (within l ls us) ≡ Ok s
    → (rest : List TextUnit) × SignForm want us rest × (s ≡ within l ls rest)
after-form want miss l ls us s n h = sign-form want l ls us s n (after-called want miss (within l ls us) s h)

pub after-read : (want : Sign) (miss : Wanted) (l : Line) (ls : List Line) (us rest : List TextUnit)
    → (want ≡ sign.LineEnd → ⊥) → SignForm want us rest
    → expect_sign want miss (within l ls us) ≡ Ok (within l ls rest)
after-read want miss l ls us rest n f =
    called-after want miss (within l ls us) (within l ls rest) (sign-read want l ls us rest n f)

nothing_there : (us : List TextUnit) → is_empty us ≡ true → us ≡ []
nothing_there us h = grind arith

-- The end of a line is read if there are only blanks before it.
pub end-form : (miss : Wanted) (l : Line) (ls : List Line) (us : List TextUnit) (s : State)
    → expect_sign sign.LineEnd miss (within l ls us) ≡ Ok s → AreBlanks us × (s ≡ Between (lines_after l ls))
end-form miss l ls us s h = grind (
  arith,
  sign-cases,
  after-called,
  skip,
  end_of_blanks,
  nothing_there,
  false≢true,
)

pub end-read : (miss : Wanted) (l : Line) (ls : List Line) (us : List TextUnit) → AreBlanks us
    → expect_sign sign.LineEnd miss (within l ls us) ≡ Ok (Between (lines_after l ls))
end-read miss l ls us h =
    let e = blanks_end us h in
    called-after sign.LineEnd miss (within l ls us) (Between (lines_after l ls))
    (sign_at-gives sign.LineEnd l ls (skip us) (next_fault (skip us)) true (rw e refl) (rw e refl))
