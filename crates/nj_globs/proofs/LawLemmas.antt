-- Lemmas for the laws of globs.
use Rattle.std.proofs.Common.{◌≡◌, ◌≢◌, ◌+◌, ℕ, Bool, true, false, cond, ◌||◌, ◌==◌, Option, Some, None}
use Rattle.std.proofs.Common.{Ok, Err, List, [], ◌∷◌, ◌++◌, map, refl, sym, ap, subst, ◌∙◌}
use Rattle.std.specs.Prelude.{codes, ◌↔◌}
use Rattle.std.specs.List.{find, flat_map, list_any}
use Rattle.std.proofs.lemmas.Bool.{eq-eqb, eqb-true}
use Rattle.std.proofs.lemmas.List.{append-nil}
use Rattle.nj_globs.specs.declared.letters.Letter.{Letter}
use Rattle.nj_globs.specs.declared.glob_fault.GlobFault.{GlobFault}
use Rattle.nj_globs.specs.declared.glob_fault.GlobFault.TheVariants.{UnclosedSet, BackslashAtEnd}
use Rattle.nj_globs.specs.declared.glob_fault.GlobFault.TheVariants.{ReversedRange, OutOfMemory}
use Rattle.nj_globs.specs.Globs.{GlobPart, is_slash, Matches}
use Rattle.nj_globs.specs.Globs.GlobPart.{one_byte, double_star}
use Rattle.nj_globs.specs.Patterns.{letter, letters_from, is_lone, BeginWith, BeginWrong, begins_after}
use Rattle.nj_globs.specs.Patterns.{AreParts}
use Rattle.nj_globs.specs.Patterns.{ArePartsOf, Fails, IsGlobFault}
use Rattle.nj_globs.specs.Inside.Readings.{Read, read_front}
use Rattle.nj_globs.proofs.FormLemmas.{begins-back, wrong-back}
use Rattle.nj_globs.specs.Laws.{letter_bytes, is_special_byte}

-- ---- letters

pub written : (at : ℕ) (pattern : List ℕ) → flat_map letter_bytes (letters_from at pattern) ≡ pattern
written at [] = refl
written at (byte ∷ []) = refl
written at (byte ∷ next ∷ bytes) = by (byte == 92) refl (written (at + 2) bytes)
    (written (at + 1) (next ∷ bytes))
  where
    by : (b : Bool) → (byte == 92) ≡ b → flat_map letter_bytes (letters_from (at + 2) bytes) ≡ bytes
        → flat_map letter_bytes (letters_from (at + 1) (next ∷ bytes)) ≡ next ∷ bytes
        → flat_map letter_bytes (cond b (letter next true at ∷ letters_from (at + 2) bytes)
        (letter byte false at ∷ letters_from (at + 1) (next ∷ bytes))) ≡ byte ∷ next ∷ bytes
    by true e two one = ap (λ bs. 92 ∷ next ∷ bs) two ∙ ap (λ b. b ∷ next ∷ bytes) (sym (eqb-true byte 92 e))
    by false e two one = ap (λ bs. byte ∷ bs) one

-- ---- one reading

ok-same : (p q : GlobPart) (a d : List Letter) → ◌≡◌ {A = Option Read} (Some (Ok (p, a))) (Some (Ok (q, d)))
    → (p ≡ q) × (a ≡ d)
ok-same p q a d same =
    let pair : ◌≡◌ {A = GlobPart × List Letter} (p, a) (q, d) = cc in
    (ap (λ (x : GlobPart × List Letter). x.0) pair, ap (λ (x : GlobPart × List Letter). x.1) pair)

-- no part is at the front of letters
EndAt : (begins : Bool) → (letters : List Letter) → Type 0
EndAt begins letters = (part : GlobPart) (after : List Letter) → BeginWith begins part letters after → ⊥

none-begins : (begins : Bool) → EndAt begins []
unfolding EndAt
none-begins begins part after is =
    let read : ◌≡◌ {A = Option Read} None (Some (Ok (part, after))) = begins-back begins part [] after is in
    cc

wrong-begins : (begins : Bool) (letters : List Letter) (fault : GlobFault) → BeginWrong letters fault
    → EndAt begins letters
unfolding EndAt
wrong-begins begins letters fault wrong part after is =
    let read : ◌≡◌ {A = Option Read} (Some (Err fault)) (Some (Ok (part, after))) =
    sym (wrong-back begins letters fault wrong) ∙ begins-back begins part letters after is in
    cc

-- two readings up to where no part begins are the same
record AreSame (one other : List GlobPart) (rest others : List Letter) : Type 0 where
  pub parts : one ≡ other
  pub rests : rest ≡ others

same-reading : (begins : Bool) (one other : List GlobPart) (letters rest others : List Letter) (b c : Bool)
    → AreParts begins one letters rest b → AreParts begins other letters others c → EndAt b rest
    → EndAt c others
    → AreSame one other rest others
unfolding EndAt
same-reading begins [] [] letters rest others b c (cut, is) (cut_other, is_other) ends ends_other =
    record { parts = refl; rests = sym cut ∙ cut_other }
same-reading begins [] (q ∷ other) letters rest others b c (cut, is) (a, begin, are) ends ends_other =
    absurd (ends q a (subst (λ x. BeginWith x q rest a) is (subst (λ ls. BeginWith begins q ls a) cut begin)))
same-reading begins (p ∷ one) [] letters rest others b c (a, begin, are) (cut, is) ends ends_other =
    absurd (ends_other p a
    (subst (λ x. BeginWith x p others a) is (subst (λ ls. BeginWith begins p ls a) cut begin)))
same-reading begins (p ∷ one) (q ∷ other) letters rest others b c (a, begin, are) (d, begin_other, are_other)
    ends ends_other =
    let (part, after) = ok-same p q a d
    (sym (begins-back begins p letters a begin) ∙ begins-back begins q letters d begin_other) in
    let more = same-reading (begins_after p) one other a rest others b c are
    (subst (λ x. AreParts (begins_after p) other x others c) (sym after)
    (subst (λ x. AreParts (begins_after x) other d others c) (sym part) are_other)) ends ends_other in
    record {
      parts = ap (λ x. x ∷ one) part ∙ ap (λ xs. q ∷ xs) more.parts;
      rests = more.rests;
    }

pub one_way : (pattern : List ℕ) (one other : List GlobPart) → ArePartsOf pattern one
    → ArePartsOf pattern other
    → one ≡ other
one_way pattern one other is is_other =
    (same-reading true one other (letters_from 0 pattern) [] [] is.begins_rest
    is_other.begins_rest is.are_parts is_other.are_parts (none-begins is.begins_rest)
    (none-begins is_other.begins_rest)).parts

-- ---- faults

find-any : (p : Letter → Bool) (xs : List Letter) (l : Letter) → find p xs ≡ Some l → list_any p xs ≡ true
find-any p [] l found = absurd (cc)
find-any p (x ∷ xs) l found = by (p x) found (find-any p xs l)
  where
    by : (b : Bool) → cond b (Some x) (find p xs) ≡ Some l → (find p xs ≡ Some l → list_any p xs ≡ true)
        → (b || list_any p xs) ≡ true
    by true e rest = refl
    by false e rest = rest e

not-lone : (letters : List Letter) (l : Letter) → list_any is_lone letters ≡ false
    → find is_lone letters ≡ Some l → ⊥
not-lone letters l none found =
    let any : list_any is_lone letters ≡ true = find-any is_lone letters l found in
    cc

not-both : (pattern : List ℕ) (parts : List GlobPart) (fault : GlobFault) → ArePartsOf pattern parts
    → Fails pattern fault → ⊥
not-both pattern parts fault is fails =
    let same = same-reading true parts fails.parts (letters_from 0 pattern) [] fails.rest is.begins_rest
    fails.begins_rest is.are_parts fails.before (none-begins is.begins_rest)
    (wrong-begins fails.begins_rest fails.rest fault fails.wrong) in
    let read : ◌≡◌ {A = Option Read} None (Some (Err fault)) = ap (read_front true) same.rests
    ∙ wrong-back true fails.rest fault fails.wrong in
    cc

pub read_unless_no_memory : (pattern : List ℕ) (parts : List GlobPart) (fault : GlobFault)
    → ArePartsOf pattern parts → IsGlobFault pattern fault → fault ≡ OutOfMemory
read_unless_no_memory pattern parts (UnclosedSet at) is fails =
    absurd (not-both pattern parts (UnclosedSet at) is fails)
read_unless_no_memory pattern parts (BackslashAtEnd at) is found =
    absurd (not-lone (letters_from 0 pattern) (letter 92 false at) is.whole found)
read_unless_no_memory pattern parts (ReversedRange at) is fails =
    absurd (not-both pattern parts (ReversedRange at) is fails)
read_unless_no_memory pattern parts OutOfMemory is fault = refl

fails-once : (pattern : List ℕ) (one other : GlobFault) → Fails pattern one → Fails pattern other
    → one ≡ other
fails-once pattern one other a b =
    let same = same-reading true a.parts b.parts (letters_from 0 pattern) a.rest b.rest a.begins_rest
    b.begins_rest
    a.before b.before (wrong-begins a.begins_rest a.rest one a.wrong)
    (wrong-begins b.begins_rest b.rest other b.wrong) in
    let both : ◌≡◌ {A = Option Read} (Some (Err one)) (Some (Err other)) =
    sym (wrong-back true a.rest one a.wrong) ∙ ap (read_front true) same.rests
    ∙ wrong-back true b.rest other b.wrong in
    cc

pub once : (pattern : List ℕ) (one other : GlobFault) → IsGlobFault pattern one → IsGlobFault pattern other
    → one ≢ OutOfMemory → other ≢ OutOfMemory → one ≡ other
once pattern OutOfMemory other a b some some_other = absurd (some refl)
once pattern one OutOfMemory a b some some_other = absurd (some_other refl)
once pattern (BackslashAtEnd m) (BackslashAtEnd n) a b some some_other =
    let both : Some (letter 92 false m) ≡ Some (letter 92 false n) = sym a ∙ b in
    let same : letter 92 false m ≡ letter 92 false n = cc in
    ap (λ (l : Letter). BackslashAtEnd l.at) same
once pattern (BackslashAtEnd m) (UnclosedSet n) a b some some_other =
    absurd (not-lone (letters_from 0 pattern) (letter 92 false m) b.whole a)
once pattern (BackslashAtEnd m) (ReversedRange n) a b some some_other =
    absurd (not-lone (letters_from 0 pattern) (letter 92 false m) b.whole a)
once pattern (UnclosedSet m) (BackslashAtEnd n) a b some some_other =
    absurd (not-lone (letters_from 0 pattern) (letter 92 false n) a.whole b)
once pattern (ReversedRange m) (BackslashAtEnd n) a b some some_other =
    absurd (not-lone (letters_from 0 pattern) (letter 92 false n) a.whole b)
once pattern (UnclosedSet m) (UnclosedSet n) a b some some_other =
    fails-once pattern (UnclosedSet m) (UnclosedSet n) a b
once pattern (UnclosedSet m) (ReversedRange n) a b some some_other =
    fails-once pattern (UnclosedSet m) (ReversedRange n) a b
once pattern (ReversedRange m) (UnclosedSet n) a b some some_other =
    fails-once pattern (ReversedRange m) (UnclosedSet n) a b
once pattern (ReversedRange m) (ReversedRange n) a b some some_other =
    fails-once pattern (ReversedRange m) (ReversedRange n) a b

-- ---- `**`

pub matches_all : (parts : List GlobPart) × ArePartsOf (codes "**") parts
    × ((path : List ℕ) → Matches parts path)
matches_all = (
  double_star ∷ [],
  record {
    whole = refl;
    begins_rest = false;
    are_parts = ([], (letter 42 false 0, letter 42 false 1, refl, refl, refl, refl), (refl, refl));
  },
  λ path. (path, [], sym (append-nil path), tt, refl),
)

-- ---- patterns without special bytes

neither : (a b : Bool) → (a || b) ≡ false → (a ≡ false) × (b ≡ false)
neither true b e = absurd (cc)
neither false b e = (refl, e)

-- a byte that is not special
record IsPlain (byte : ℕ) : Type 0 where
  pub no_star : (byte == 42) ≡ false
  pub no_question : (byte == 63) ≡ false
  pub no_set : (byte == 91) ≡ false
  pub no_backslash : (byte == 92) ≡ false

plain : (byte : ℕ) → is_special_byte byte ≡ false → IsPlain byte
plain byte none =
    let one = neither (byte == 42 || byte == 63 || byte == 91) (byte == 92) none in
    let two = neither (byte == 42 || byte == 63) (byte == 91) one.0 in
    let three = neither (byte == 42) (byte == 63) two.0 in
    record { no_star = three.0; no_question = three.1; no_set = two.1; no_backslash = one.1 }

plain-letter : (at byte : ℕ) (bytes : List ℕ) → IsPlain byte
    → letters_from at (byte ∷ bytes) ≡ letter byte false at ∷ letters_from (at + 1) bytes
plain-letter at byte [] is = refl
plain-letter at byte (next ∷ bytes) is =
    ap (λ b. cond b (letter next true at ∷ letters_from (at + 2) bytes)
    (letter byte false at ∷ letters_from (at + 1) (next ∷ bytes))) is.no_backslash

plain-part : (begins : Bool) (at byte : ℕ) (others : List Letter) → IsPlain byte
    → BeginWith begins (one_byte byte) (letter byte false at ∷ others) others
plain-part begins at byte others is = (
  letter byte false at,
  refl,
  refl,
  ap (λ b. b || byte == 63 || byte == 91) is.no_star ∙ ap (λ b. b || byte == 91) is.no_question ∙ is.no_set,
)

plain-parts : (begins : Bool) (at : ℕ) (pattern : List ℕ) → list_any is_special_byte pattern ≡ false
    → (b : Bool) × AreParts begins (map one_byte pattern) (letters_from at pattern) [] b
plain-parts begins at [] none = (begins, (refl, refl))
plain-parts begins at (byte ∷ bytes) none =
    let both = neither (is_special_byte byte) (list_any is_special_byte bytes) none in
    let is = plain byte both.0 in
    let others = letters_from (at + 1) bytes in
    let (b, are) = plain-parts (is_slash byte) (at + 1) bytes both.1 in (
      b,
      (
        others,
        subst (λ ls. BeginWith begins (one_byte byte) ls others) (sym (plain-letter at byte bytes is))
            (plain-part begins at byte others is),
        are,
      ),
    )

plain-whole : (at : ℕ) (pattern : List ℕ) → list_any is_special_byte pattern ≡ false
    → list_any is_lone (letters_from at pattern) ≡ false
plain-whole at [] none = refl
plain-whole at (byte ∷ bytes) none =
    let both = neither (is_special_byte byte) (list_any is_special_byte bytes) none in
    let is = plain byte both.0 in
    ap (list_any is_lone) (plain-letter at byte bytes is)
    ∙ ap (λ b. b || list_any is_lone (letters_from (at + 1) bytes)) is.no_backslash
    ∙ plain-whole (at + 1) bytes both.1

plain-forth : (pattern path : List ℕ) → Matches (map one_byte pattern) path → path ≡ pattern
plain-forth [] path matches = matches
plain-forth (byte ∷ bytes) path (front, rest, cut, (b, is, same), matches) =
    cut ∙ ap (λ f. f ++ rest) is ∙ ap (λ x. x ∷ rest) (eqb-true b byte same)
    ∙ ap (λ r. byte ∷ r) (plain-forth bytes rest matches)

plain-back : (pattern : List ℕ) → Matches (map one_byte pattern) pattern
plain-back [] = refl
plain-back (byte ∷ bytes) = (byte ∷ [], bytes, refl, (byte, refl, eq-eqb byte byte refl), plain-back bytes)

pub matches_itself : (pattern : List ℕ) → list_any is_special_byte pattern ≡ false
    → (parts : List GlobPart) × ArePartsOf pattern parts
    × ((path : List ℕ) → Matches parts path ↔ (path ≡ pattern))
matches_itself pattern none =
    let (b, are) = plain-parts true 0 pattern none in (
      map one_byte pattern,
      record { whole = plain-whole 0 pattern none; begins_rest = b; are_parts = are },
      λ path. (
        plain-forth pattern path,
        λ same. subst (Matches (map one_byte pattern)) (sym same) (plain-back pattern),
      ),
    )
