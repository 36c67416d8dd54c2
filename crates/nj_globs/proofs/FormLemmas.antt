-- What is read from the front of letters is what they begin with.
use Rattle.std.proofs.Common.{◌≡◌, ◌≢◌, ◌+◌, ◌<◌, ◌≤◌, ℕ, zero, suc, Bool, true, false, not, cond, ◌&&◌, ◌||◌}
use Rattle.std.proofs.Common.{◌==◌}
use Rattle.std.proofs.Common.{Option, Some, None, Ok, Err, List, [], ◌∷◌, ◌++◌, map, take, drop, length}
use Rattle.std.proofs.Common.{get_or, nat_lt}
use Rattle.std.proofs.Common.{refl, sym, ap, subst, ◌∙◌, arith, append_assoc, length-append}
use Rattle.std.proofs.Math.Seq.{take-append_seam, drop-append_seam}
use Rattle.std.specs.List.{find, list_any, position, position_or_len}
use Rattle.std.proofs.lemmas.Bool.{eqb-true}
use Rattle.std.proofs.lemmas.Bool.Decides.{Decides-ltb}
use Rattle.std.proofs.lemmas.List.Quantifiers.{position-Some}
use Rattle.std.proofs.lemmas.List.{take-append-drop, drop_more}
use Rattle.nj_globs.specs.declared.letters.Letter.{Letter}
use Rattle.nj_globs.specs.declared.glob_fault.GlobFault.{GlobFault}
use Rattle.nj_globs.specs.declared.glob_fault.GlobFault.TheVariants.{UnclosedSet, BackslashAtEnd}
use Rattle.nj_globs.specs.declared.glob_fault.GlobFault.TheVariants.{ReversedRange, OutOfMemory}
use Rattle.nj_globs.specs.Globs.{GlobPart}
use Rattle.nj_globs.specs.Globs.GlobPart.{one_byte, any_byte, star, double_star, directories, byte_set}
use Rattle.nj_globs.specs.Patterns.{letter, is_sign, begins_with, is_mark, has_mark, IsMarked, has_end, IsSet}
use Rattle.nj_globs.specs.Patterns.{ranges_of, is_reversed, byte_range, BeginWith, BeginWrong}
use Rattle.nj_globs.specs.Inside.Readings.{without_mark, split_at_end, split_set, Read, set_unless, set_of}
use Rattle.nj_globs.specs.Inside.Readings.{read_set}
use Rattle.nj_globs.specs.Inside.Readings.{read_stars, read_part, read_front}

-- ---- the end of a set

-- no letter before an index passes
none-before : (p : Letter → Bool) (xs : List Letter) (n : ℕ) (d : Letter)
    → ((k : ℕ) → k < n → p (get_or xs k d) ≡ false) → n ≤ length xs → list_any p (take n xs) ≡ false
none-before p xs zero d none within = refl
none-before p [] (suc n) d none within = refl
none-before p (x ∷ xs) (suc n) d none within =
    ap (λ b. b || list_any p (take n xs)) (none 0 (omega arith))
    ∙ none-before p xs n d (λ k below. none (suc k) (omega arith)) (omega arith)

-- a letter that closes, and what is before and after it
record IsSplit (letters inside after : List Letter) : Type 0 where
  pub close : Letter
  pub cut : letters ≡ inside ++ close ∷ after
  pub some : inside ≢ []
  pub no_end : has_end inside ≡ false
  pub closes : is_sign 93 close ≡ true

split-forth : (letters inside after : List Letter) → split_set letters ≡ Some (inside, after)
    → IsSplit letters inside after
split-forth [] inside after split = absurd (cc)
split-forth (first ∷ others) inside after split = by (position (is_sign 93) others) refl split
  where
    by : (o : Option ℕ) → position (is_sign 93) others ≡ o
        → split_at_end first others o ≡ Some (inside, after)
        → IsSplit (first ∷ others) inside after
    by None found e = absurd (cc)
    by (Some n) found e =
        let d = letter 0 false 0 in
        let at = position-Some (is_sign 93) others n d found in
        let pair : ◌≡◌ {A = List Letter × List Letter} (first ∷ take n others, drop (n + 1) others)
        (inside, after) =
        cc in
        let cut : others ≡ take n others ++ get_or others n d ∷ drop (n + 1) others =
        sym (take-append-drop n others) ∙ ap (λ xs. take n others ++ xs) (drop_more others n d at.0) in
        let whole : IsSplit (first ∷ others) (first ∷ take n others) (drop (n + 1) others) = record {
          close = get_or others n d;
          cut = ap (λ xs. first ∷ xs) cut;
          some = λ e2. cc;
          no_end = none-before (is_sign 93) others n d at.2 (omega arith);
          closes = at.1;
        } in
        subst (λ (x : List Letter × List Letter). IsSplit (first ∷ others) x.0 x.1) pair whole

first-place : (p : Letter → Bool) (xs : List Letter) (l : Letter) (more : List Letter)
    → list_any p xs ≡ false → p l ≡ true → position_or_len p (xs ++ l ∷ more) ≡ length xs
first-place p [] l more none passes =
    ap (λ b. cond b (1 + position_or_len p more) 0) (ap not passes)
first-place p (x ∷ xs) l more none passes =
    by (p x) none (λ e. first-place p xs l more e passes)
  where
    by : (b : Bool) → (b || list_any p xs) ≡ false
        → (list_any p xs ≡ false → position_or_len p (xs ++ l ∷ more) ≡ length xs)
        → cond (not b) (1 + position_or_len p (xs ++ l ∷ more)) 0 ≡ length (x ∷ xs)
    by true e rest = absurd (cc)
    by false e rest = (let h = rest e in omega arith)

split-back : (inside after : List Letter) (close : Letter) → inside ≢ [] → has_end inside ≡ false
    → is_sign 93 close ≡ true → split_set (inside ++ close ∷ after) ≡ Some (inside, after)
split-back [] after close some no_end closes = absurd (some refl)
split-back (i ∷ is) after close some no_end closes =
    let others = is ++ close ∷ after in
    let place = first-place (is_sign 93) is close after no_end closes in
    let long : length is < length others = omega (arith, length-append is (close ∷ after)) in
    let found : position (is_sign 93) others ≡ Some (length is) =
    ap (λ n. cond (nat_lt n (length others)) (Some n) None) place
    ∙ ap (λ b. cond b (Some (length is)) None) ((Decides-ltb (length is) (length others)).1 long) in
    let front : take (length is) others ≡ is = take-append_seam is (close ∷ after) in
    let size : length is + 1 ≡ length (is ++ close ∷ []) = omega (arith, length-append is (close ∷ [])) in
    let back : drop (length is + 1) others ≡ after = ap (λ n. drop n others) size
    ∙ ap (drop (length (is ++ close ∷ []))) (sym (append_assoc is (close ∷ []) after))
    ∙ drop-append_seam (is ++ close ∷ []) after in
    ap (split_at_end i others) found ∙ ap (λ xs. Some (i ∷ xs, drop (length is + 1) others)) front
    ∙ ap (λ xs. Some (i ∷ is, xs)) back

-- ---- sets

set-forth : (letters inside after : List Letter) → split_set (without_mark letters) ≡ Some (inside, after)
    → IsSet (has_mark letters) letters inside after
set-forth [] inside after split = absurd (cc)
set-forth (x ∷ xs) inside after split = by (is_mark x) refl split
  where
    other : (i : List Letter) → IsSplit (x ∷ xs) i after → is_mark x ≡ false → has_mark i ≡ false
    other [] is unmarked = absurd (is.some refl)
    other (i ∷ is) cut unmarked =
        let e : x ∷ xs ≡ i ∷ (is ++ cut.close ∷ after) = cut.cut in
        let same : i ≡ x = cc in
        ap is_mark same ∙ unmarked

    by : (b : Bool) → is_mark x ≡ b → split_set (cond b (drop 1 (x ∷ xs)) (x ∷ xs)) ≡ Some (inside, after)
        → IsSet (is_mark x) (x ∷ xs) inside after
    by true marked e =
        let is = split-forth xs inside after e in
        record {
          mark = x ∷ [];
          close = is.close;
          cut = ap (λ ys. x ∷ ys) is.cut;
          is_marked = subst (λ b. IsMarked b (x ∷ []) inside) (sym marked) (x, refl, marked);
          some = is.some;
          no_end = is.no_end;
          closes = is.closes;
        }
    by false unmarked e =
        let is = split-forth (x ∷ xs) inside after e in
        record {
          mark = [];
          close = is.close;
          cut = is.cut;
          is_marked = subst (λ b. IsMarked b [] inside) (sym unmarked) (refl, other inside is unmarked);
          some = is.some;
          no_end = is.no_end;
          closes = is.closes;
        }

set-back : (is_negated : Bool) (letters inside after : List Letter) → IsSet is_negated letters inside after
    → (has_mark letters ≡ is_negated) × (split_set (without_mark letters) ≡ Some (inside, after))
set-back true letters inside after is =
    let (l, one, marks) = is.is_marked in
    let rest = inside ++ is.close ∷ after in
    let cut : letters ≡ l ∷ rest = is.cut ∙ ap (λ m. m ++ rest) one in (
      ap has_mark cut ∙ marks,
      ap (λ ls. split_set (without_mark ls)) cut ∙ ap (λ b. split_set (cond b rest (l ∷ rest))) marks
          ∙ split-back inside after is.close is.some is.no_end is.closes,
    )
set-back false letters inside after is =
    let rest = inside ++ is.close ∷ after in
    let cut : letters ≡ rest = is.cut ∙ ap (λ m. m ++ rest) is.is_marked.0 in
    let unmarked = by inside is.some is.is_marked.1 in (
      ap has_mark cut ∙ unmarked,
      ap (λ ls. split_set (without_mark ls)) cut ∙ ap (λ b. split_set (cond b (drop 1 rest) rest)) unmarked
          ∙ split-back inside after is.close is.some is.no_end is.closes,
    )
  where
    by : (i : List Letter) → i ≢ [] → has_mark i ≡ false → has_mark (i ++ is.close ∷ after) ≡ false
    by [] some e = absurd (some refl)
    by (x ∷ xs) some e = e

-- ---- what is read

-- letters begin with what is read
Agrees : (begins : Bool) → (letters : List Letter) → Read → Type 0
Agrees begins letters (Ok read) = BeginWith begins read.0 letters read.1
Agrees begins letters (Err fault) = BeginWrong letters fault

stars-agree : (begins : Bool) (first : Letter) (others : List Letter) → is_sign 42 first ≡ true
    → BeginWith begins (read_stars begins others).0 (first ∷ others) (read_stars begins others).1
stars-agree begins first [] is = (first, refl, is, refl)
stars-agree begins first (m ∷ []) is = by (is_sign 42 m) refl
  where
    by : (b : Bool) → is_sign 42 m ≡ b
        → (let read = cond {A = GlobPart × List Letter} b (double_star, []) (star, m ∷ []) in
        BeginWith begins read.0 (first ∷ m ∷ []) read.1)
    by true e = (first, m, refl, is, e, none begins)
      where
        none : (b : Bool) → (b && false) ≡ false
        none true = refl
        none false = refl
    by false e = (first, refl, is, e)
stars-agree begins first (m ∷ n ∷ letters) is = by (is_sign 42 m) (begins && is_sign 47 n) refl refl
  where
    parts : (b c : Bool) → (b && c) ≡ true → (b ≡ true) × (c ≡ true)
    parts true c e = (refl, e)
    parts false c e = absurd (cc)

    by : (b c : Bool) → is_sign 42 m ≡ b → (begins && is_sign 47 n) ≡ c
        → (let read = cond {A = GlobPart × List Letter} b
        (cond {A = GlobPart × List Letter} c (directories, letters) (double_star, n ∷ letters))
        (star, m ∷ n ∷ letters) in
        BeginWith begins read.0 (first ∷ m ∷ n ∷ letters) read.1)
    by true true e f =
        let both = parts begins (is_sign 47 n) f in
        (first, m, n, refl, is, e, both.1, both.0)
    by true false e f = (first, m, refl, is, e, f)
    by false c e f = (first, refl, is, e)

set-agrees : (begins : Bool) (first : Letter) (others : List Letter) → is_sign 91 first ≡ true
    → Agrees begins (first ∷ others) (read_set first.at others)
unfolding Agrees
set-agrees begins first others is = by (split_set (without_mark others)) refl
  where
    ranges : (split : List Letter × List Letter) → split_set (without_mark others) ≡ Some split
        → (r : Option (Letter × Letter)) → find is_reversed (ranges_of split.0) ≡ r
        → Agrees begins (first ∷ others)
        (set_unless r (byte_set (has_mark others) (map byte_range (ranges_of split.0))) split.1)
    ranges split e (Some range) found = (
      first,
      others,
      split.0,
      split.1,
      has_mark others,
      range,
      refl,
      is,
      set-forth others split.0 split.1 e,
      found,
      refl,
    )
    ranges split e None found = (
      first,
      others,
      split.0,
      refl,
      is,
      set-forth others split.0 split.1 e,
      record { are = refl; fine = found },
    )

    by : (o : Option (List Letter × List Letter)) → split_set (without_mark others) ≡ o
        → Agrees begins (first ∷ others) (set_of first.at (has_mark others) o)
    by None e = (
      first,
      others,
      refl,
      is,
      refl,
      λ n inside after set. (let back = (set-back n others inside after set).1 in
          let wrong : None ≡ Some (inside, after) = sym e ∙ back in
          cc),
    )
    by (Some split) e = ranges split e (find is_reversed (ranges_of split.0)) refl

part-agrees : (begins : Bool) (first : Letter) (others : List Letter)
    → Agrees begins (first ∷ others) (read_part begins first others)
unfolding Agrees
part-agrees begins first others = by (is_sign 91 first) (is_sign 42 first) (is_sign 63 first) refl refl refl
  where
    by : (a b c : Bool) → is_sign 91 first ≡ a → is_sign 42 first ≡ b → is_sign 63 first ≡ c
        → Agrees begins (first ∷ others) (cond a (read_set first.at others)
        (cond b (Ok (read_stars begins others))
        (cond c (Ok (any_byte, others)) (Ok (one_byte first.byte, others)))))
    by true b c is e f = set-agrees begins first others is
    by false true c e is f = stars-agree begins first others is
    by false false true e f is = (first, refl, is)
    by false false false e f g = (
      first,
      refl,
      refl,
      ap (λ b. b || is_sign 63 first || is_sign 91 first) f
          ∙ ap (λ b. b || is_sign 91 first) g ∙ e,
    )

pub begins-forth : (begins : Bool) (first : Letter) (others after : List Letter) (part : GlobPart)
    → read_part begins first others ≡ Ok (part, after) → BeginWith begins part (first ∷ others) after
unfolding Agrees
begins-forth begins first others after part read =
    subst (Agrees begins (first ∷ others)) read (part-agrees begins first others)

pub wrong-forth : (begins : Bool) (first : Letter) (others : List Letter) (fault : GlobFault)
    → read_part begins first others ≡ Err fault → BeginWrong (first ∷ others) fault
unfolding Agrees
wrong-forth begins first others fault read =
    subst (Agrees begins (first ∷ others)) read (part-agrees begins first others)

-- ---- what letters begin with

-- a letter that is one sign is not another
no_other : (sign other : ℕ) (l : Letter) → (sign == other) ≡ false → is_sign sign l ≡ true
    → is_sign other l ≡ false
no_other sign other l apart is = by l.is_literal (l.byte == sign) refl is
  where
    apart_from : (b : Bool) → (b && false) ≡ false
    apart_from true = refl
    apart_from false = refl

    by : (b c : Bool) → (l.byte == sign) ≡ c → (not b && c) ≡ true → (not b && l.byte == other) ≡ false
    by true c e f = absurd (cc)
    by false true e f = ap (λ x. x == other) (eqb-true l.byte sign e) ∙ apart
    by false false e f = absurd (cc)

neither : (a b : Bool) → (a || b) ≡ false → (a ≡ false) × (b ≡ false)
neither true b e = absurd (cc)
neither false b e = (refl, e)

-- by what the first letter is
read-by : (begins : Bool) (first : Letter) (others : List Letter) (a b c : Bool) → is_sign 91 first ≡ a
    → is_sign 42 first ≡ b → is_sign 63 first ≡ c
    → read_part begins first others ≡ cond a (read_set first.at others)
    (cond b (Ok (read_stars begins others))
    (cond c (Ok (any_byte, others)) (Ok (one_byte first.byte, others))))
read-by begins first others a b c e f g =
    ap (λ x. cond x (read_set first.at others) (cond (is_sign 42 first) (Ok (read_stars begins others))
    (cond (is_sign 63 first) (Ok (any_byte, others)) (Ok (one_byte first.byte, others))))) e
    ∙ ap (λ x. cond a (read_set first.at others) (cond x (Ok (read_stars begins others))
    (cond (is_sign 63 first) (Ok (any_byte, others)) (Ok (one_byte first.byte, others))))) f
    ∙ ap (λ x. cond a (read_set first.at others) (cond b (Ok (read_stars begins others))
    (cond x (Ok (any_byte, others)) (Ok (one_byte first.byte, others))))) g

star-read : (begins : Bool) (after : List Letter) → begins_with 42 after ≡ false
    → read_stars begins after ≡ (star, after)
star-read begins [] other = refl
star-read begins (m ∷ []) other =
    ap (λ b. cond {A = GlobPart × List Letter} b (double_star, []) (star, m ∷ [])) other
star-read begins (m ∷ n ∷ letters) other =
    ap (λ b. cond {A = GlobPart × List Letter} b
    (cond {A = GlobPart × List Letter} (begins && is_sign 47 n) (directories, letters)
    (double_star, n ∷ letters))
    (star, m ∷ n ∷ letters)) other

double_star-read : (begins : Bool) (m : Letter) (after : List Letter) → is_sign 42 m ≡ true
    → (begins && begins_with 47 after) ≡ false → read_stars begins (m ∷ after) ≡ (double_star, after)
double_star-read begins m [] is other =
    ap (λ b. cond {A = GlobPart × List Letter} b (double_star, []) (star, m ∷ [])) is
double_star-read begins m (n ∷ letters) is other =
    ap (λ b. cond {A = GlobPart × List Letter} b
    (cond {A = GlobPart × List Letter} (begins && is_sign 47 n) (directories, letters)
    (double_star, n ∷ letters))
    (star, m ∷ n ∷ letters)) is
    ∙ ap (λ b. cond {A = GlobPart × List Letter} b (directories, letters) (double_star, n ∷ letters)) other

directories-read : (begins : Bool) (m n : Letter) (after : List Letter) → is_sign 42 m ≡ true
    → is_sign 47 n ≡ true → begins ≡ true → read_stars begins (m ∷ n ∷ after) ≡ (directories, after)
directories-read begins m n after is slash begin =
    ap (λ b. cond {A = GlobPart × List Letter} b
    (cond {A = GlobPart × List Letter} (begins && is_sign 47 n) (directories, after) (double_star, n ∷ after))
    (star, m ∷ n ∷ after)) is
    ∙ ap (λ b. cond {A = GlobPart × List Letter} (b && is_sign 47 n) (directories, after)
    (double_star, n ∷ after))
    begin
    ∙ ap (λ b. cond {A = GlobPart × List Letter} b (directories, after) (double_star, n ∷ after)) slash

stars-back : (begins : Bool) (l : Letter) (others after : List Letter) (part : GlobPart) → is_sign 42 l ≡ true
    → read_stars begins others ≡ (part, after) → read_front begins (l ∷ others) ≡ Some (Ok (part, after))
stars-back begins l others after part is read = ap Some
    (read-by begins l others false true (is_sign 63 l) (no_other 42 91 l refl is) is refl ∙ ap Ok read)

set-read-as : (begins : Bool) (l : Letter) (others inside after : List Letter) (is_negated : Bool)
    → is_sign 91 l ≡ true → IsSet is_negated others inside after
    → read_front begins (l ∷ others) ≡ Some (set_unless (find is_reversed (ranges_of inside))
    (byte_set is_negated (map byte_range (ranges_of inside))) after)
set-read-as begins l others inside after is_negated is set =
    let back = set-back is_negated others inside after set in
    ap Some
    (read-by begins l others true (is_sign 42 l) (is_sign 63 l) is refl refl
    ∙ ap (λ b. set_of l.at b (split_set (without_mark others))) back.0
    ∙ ap (set_of l.at is_negated) back.1)

pub begins-back : (begins : Bool) (part : GlobPart) (letters after : List Letter)
    → BeginWith begins part letters after → read_front begins letters ≡ Some (Ok (part, after))
begins-back begins (one_byte byte) letters after (l, cut, is, plain) =
    let one = neither (is_sign 42 l || is_sign 63 l) (is_sign 91 l) plain in
    let two = neither (is_sign 42 l) (is_sign 63 l) one.0 in
    ap (read_front begins) cut ∙ ap Some (read-by begins l after false false false one.1 two.0 two.1)
    ∙ ap (λ b. Some (Ok (one_byte b, after))) is
begins-back begins any_byte letters after (l, cut, is) =
    ap (read_front begins) cut
    ∙ ap Some (read-by begins l after false false true (no_other 63 91 l refl is) (no_other 63 42 l refl is)
    is)
begins-back begins star letters after (l, cut, is, other) =
    ap (read_front begins) cut ∙ stars-back begins l after after star is (star-read begins after other)
begins-back begins double_star letters after (l, m, cut, is, is_next, other) =
    ap (read_front begins) cut
    ∙ stars-back begins l (m ∷ after) after double_star is (double_star-read begins m after is_next other)
begins-back begins directories letters after (l, m, n, cut, is, is_next, slash, begin) =
    ap (read_front begins) cut
    ∙ stars-back begins l (m ∷ n ∷ after) after directories is
    (directories-read begins m n after is_next slash begin)
begins-back begins (byte_set is_negated ranges) letters after (l, others, inside, cut, is, set, have) =
    ap (read_front begins) cut ∙ set-read-as begins l others inside after is_negated is set
    ∙ ap (λ r. Some (set_unless r (byte_set is_negated (map byte_range (ranges_of inside))) after)) have.fine
    ∙ ap (λ rs. Some (Ok (byte_set is_negated rs, after))) (sym have.are)

pub wrong-back : (begins : Bool) (letters : List Letter) (fault : GlobFault) → BeginWrong letters fault
    → read_front begins letters ≡ Some (Err fault)
wrong-back begins letters (UnclosedSet at) (l, others, cut, is, there, none) =
    ap (read_front begins) cut
    ∙ ap Some (read-by begins l others true (is_sign 42 l) (is_sign 63 l) is refl refl
    ∙ by (split_set (without_mark others)) refl ∙ ap (λ n. Err (UnclosedSet n)) there)
  where
    by : (o : Option (List Letter × List Letter)) → split_set (without_mark others) ≡ o
        → set_of l.at (has_mark others) o ≡ Err (UnclosedSet l.at)
    by None e = refl
    by (Some split) e = absurd (none (has_mark others) split.0 split.1 (set-forth others split.0 split.1 e))
wrong-back begins letters (ReversedRange at)
    (l, others, inside, after, is_negated, range, cut, is, set, found, there) =
    ap (read_front begins) cut ∙ set-read-as begins l others inside after is_negated is set
    ∙ ap (λ r. Some (set_unless r (byte_set is_negated (map byte_range (ranges_of inside))) after)) found
    ∙ ap (λ n. Some (Err (ReversedRange n))) there
wrong-back begins letters (BackslashAtEnd at) none = absurd none
wrong-back begins letters OutOfMemory none = absurd none
