-- Where a text first has a part, and where a command has the `@` directly before the name of its response
-- file.
use Rattle.std.proofs.lemmas.Grind.{common_steps}
use Rattle.std.proofs.Common.{if◌then◌else◌, ◌≡◌, ◌==◌, ℕ, zero, suc, ◌+◌, ◌<◌, ◌≤◌, Bool, true, false, List}
use Rattle.std.proofs.Common.{[], ◌∷◌, ◌++◌, Option, Some, None, option_map, take, drop, length}
use Rattle.std.proofs.Common.{slice_index, nat_eq, eqb-true, eq-eqb, refl, sym, ap, subst, ◌∙◌, arith}
use Rattle.std.proofs.Common.{true≢false, ⊎_elim}
use Rattle.std.specs.Prelude.{codes, option_and_then}
use Rattle.std.specs.List.{starts_with}
use Rattle.std.proofs.lemmas.Bool.{cases_lt}
use Rattle.std.proofs.lemmas.List.{length-append}
use Rattle.std.proofs.lemmas.List.{take-append-drop, take_at}
use Rattle.std.proofs.lemmas.Slice.Eq.{bytes_eq-Decides}
use Rattle.nj_graph.specs.Laws.{HasPart, FirstHasPart, Finds, FirstPositionIsFirst, HasSign}
use Rattle.nj_graph.specs.Laws.{SignIsBeforeTheFirst}
use Rattle.nj_graph.specs.ResponseFiles.{first_position, sign_before}

no-length : (xs : List ℕ) → 0 ≡ length xs → xs ≡ []
no-length [] h = refl
no-length (x ∷ xs) h = absurd (omega (arith, h))

module _ (part : List ℕ) where
  has-start : (text : List ℕ) → starts_with nat_eq text part ≡ true → HasPart text part 0
  has-start text h =
      let same : part ≡ take (length part) text = (bytes_eq-Decides part (take (length part) text)).0 h in
      record {
        before = [];
        after = drop (length part) text;
        text_is = sym (take-append-drop (length part) text)
            ∙ ap (λ p. p ++ drop (length part) text) (sym same);
        position_is = refl;
      }

  start-has : (text : List ℕ) → HasPart text part 0 → starts_with nat_eq text part ≡ true
  start-has text h =
      let text_is : text ≡ part ++ h.after =
      h.text_is ∙ ap (λ before. before ++ part ++ h.after) (no-length h.before h.position_is) in
      (bytes_eq-Decides part (take (length part) text)).1
      (sym (ap (take (length part)) text_is ∙ take_at part h.after (length part) refl))

  -- a byte more before the text
  has-later : (byte : ℕ) (text : List ℕ) (k : ℕ) → HasPart text part k → HasPart (byte ∷ text) part (suc k)
  has-later byte text k h = record {
    before = byte ∷ h.before;
    after = h.after;
    text_is = ap (λ t. byte ∷ t) h.text_is;
    position_is = ap suc h.position_is;
  }

  has-earlier : (byte : ℕ) (text : List ℕ) (k : ℕ) → HasPart (byte ∷ text) part (suc k) → HasPart text part k
  has-earlier byte text k h = by h.before h.text_is h.position_is
    where
      by : (before : List ℕ) → byte ∷ text ≡ before ++ part ++ h.after → suc k ≡ length before
          → HasPart text part k
      by [] text_is position_is = absurd (omega (arith, position_is))
      by (b ∷ before) text_is position_is = record {
        before = before;
        after = h.after;
        text_is = ap (λ t. drop 1 t) text_is;
        position_is = omega (arith, position_is);
      }

  at-start : (text : List ℕ) → starts_with nat_eq text part ≡ true → FirstHasPart text part 0
  at-start text h = record {
    here = has-start text h;
    not_earlier =
        λ earlier below has. omega (arith, below);
  }

  not-start : (text : List ℕ) → starts_with nat_eq text part ≡ false → HasPart text part 0 → ⊥
  not-start text h has = true≢false (sym (start-has text has) ∙ h)

  nowhere : starts_with nat_eq [] part ≡ false → (position : ℕ) → HasPart [] part position → ⊥
  nowhere h zero has = not-start [] h has
  nowhere h (suc position) has =
      let long : 0 ≡ length (has.before ++ part) + length has.after =
      ap length has.text_is ∙ length-append (has.before ++ part) has.after in
      omega (arith, long, length-append has.before part, has.position_is)

  nowhere-later : (byte : ℕ) (text : List ℕ) → starts_with nat_eq (byte ∷ text) part ≡ false → (least : ℕ)
      → ((earlier : ℕ) → earlier < least → HasPart text part earlier → ⊥) → (earlier : ℕ)
      → earlier < suc least → HasPart (byte ∷ text) part earlier → ⊥
  nowhere-later byte text h least none zero below has = not-start (byte ∷ text) h has
  nowhere-later byte text h least none (suc earlier) below has =
      none earlier (omega (arith, below)) (has-earlier byte text earlier has)

  none-later : (byte : ℕ) (text : List ℕ) → starts_with nat_eq (byte ∷ text) part ≡ false
      → ((position : ℕ) → FirstHasPart text part position → ⊥)
      → (position : ℕ) → FirstHasPart (byte ∷ text) part position → ⊥
  none-later byte text h none zero first = not-start (byte ∷ text) h first.here
  none-later byte text h none (suc position) first =
      none position (record {
        here = has-earlier byte text position first.here;
        not_earlier = λ earlier below has. first.not_earlier (suc earlier) (omega (arith, below))
            (has-later byte text earlier has);
      })

  first-later : (byte : ℕ) (text : List ℕ) → starts_with nat_eq (byte ∷ text) part ≡ false → (o : Option ℕ)
      → Finds (FirstHasPart text part) o → Finds (FirstHasPart (byte ∷ text) part) (option_map (λ n. n + 1) o)
  first-later byte text h None none = none-later byte text h none
  first-later byte text h (Some k) first =
      let next : suc k ≡ k + 1 = omega arith in
      subst (FirstHasPart (byte ∷ text) part) next (record {
        here = has-later byte text k first.here;
        not_earlier = nowhere-later byte text h k first.not_earlier;
      })

  pub first-is-first : (text : List ℕ) → Finds (FirstHasPart text part) (first_position part text)
  first-is-first [] = by (starts_with nat_eq [] part) refl
    where
      by : (b : Bool) → starts_with nat_eq [] part ≡ b
          → Finds (FirstHasPart [] part) (if b then Some 0 else None)
      by true h = at-start [] h
      by false h = λ position first. nowhere h position first.here
  first-is-first (byte ∷ text) = by (starts_with nat_eq (byte ∷ text) part) refl (first_position part text)
      (first-is-first text)
    where
      by : (b : Bool) → starts_with nat_eq (byte ∷ text) part ≡ b → (o : Option ℕ)
          → Finds (FirstHasPart text part) o
          → Finds (FirstHasPart (byte ∷ text) part) (if b then Some 0 else option_map (λ n. n + 1) o)
      by true h o first = at-start (byte ∷ text) h
      by false h o first = first-later byte text h o first

pub first_position_is_first : FirstPositionIsFirst
first_position_is_first part text = first-is-first part text

-- ---- the sign

least-of-first : (text part : List ℕ) (a b : ℕ) → FirstHasPart text part a → HasPart text part b → a ≤ b
least-of-first text part a b first has =
    ⊎_elim (λ below. absurd (first.not_earlier b below has)) (λ above. above) (cases_lt b a)

same-first : (text part : List ℕ) (a b : ℕ) → FirstHasPart text part a → FirstHasPart text part b → a ≡ b
same-first text part a b one other = omega
    (arith, least-of-first text part a b one other.here, least-of-first text part b a other one.here)

module _ (command file : List ℕ) where
  -- the byte before a part
  with-sign : (n : ℕ) → HasPart command file (suc n) → slice_index command n ≡ 64
      → HasPart command (codes "@" ++ file) n
  with-sign n h is = grind (arith, common_steps)

  sign-there : (n : ℕ) → HasPart command (codes "@" ++ file) n → slice_index command n ≡ 64
  sign-there n h = grind (arith, common_steps)

  sign-at : (position : ℕ) → FirstHasPart command file position
      → Finds (HasSign command file) (sign_before command position)
  sign-at zero first = λ sign has. has.first.not_earlier 0 (omega arith) first.here
  sign-at (suc n) first = by (slice_index command n == 64) refl
    where
      next : suc n ≡ n + 1
      next = omega arith

      by : (b : Bool) → (slice_index command n == 64) ≡ b
          → Finds (HasSign command file) (if b then Some n else None)
      by true h = record {
        here = with-sign n first.here (eqb-true (slice_index command n) 64 h);
        first = subst (FirstHasPart command file) next first;
      }
      by false h = λ sign has.
          let same : suc n ≡ sign + 1 = same-first command file (suc n) (sign + 1) first has.first in
          let at : sign ≡ n = omega (arith, same) in
          true≢false (sym (eq-eqb (slice_index command n) 64
          (ap (slice_index command) (sym at) ∙ sign-there sign has.here)) ∙ h)

  by-first : (o : Option ℕ) → Finds (FirstHasPart command file) o
      → Finds (HasSign command file) (option_and_then (sign_before command) o)
  by-first None none = λ sign has. none (sign + 1) has.first
  by-first (Some position) first = sign-at position first

pub sign_is_before_the_first : SignIsBeforeTheFirst
sign_is_before_the_first command file =
    by-first command file (first_position file command) (first-is-first file command)
