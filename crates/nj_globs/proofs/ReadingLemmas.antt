-- Ranges, sets and parts that are read from letters.
use Rattle.std.proofs.Common.{◌≡◌, inl, inr, ◌<◌, ◌≤◌, ℕ, Bool, true, false, cond, Some, None, Ok, Err}
use Rattle.std.proofs.Common.{List, [], ◌∷◌, ◌++◌, map, refl, sym, ap, subst, ◌∙◌, append_assoc, arith}
use Rattle.std.specs.List.{find}
use Rattle.std.specs.Option.{option_or}
use Rattle.std.proofs.lemmas.Bool.Decides.{nat_tests}
use Rattle.std.proofs.lemmas.List.{append-nil, map-append}
use Rattle.std.proofs.lemmas.List.Folds.{find-append}
use Rattle.nj_globs.specs.declared.letters.Letter.{Letter}
use Rattle.nj_globs.specs.declared.parts.ByteRange.{ByteRange}
use Rattle.nj_globs.specs.declared.glob_fault.GlobFault.{GlobFault}
use Rattle.nj_globs.specs.declared.glob_fault.GlobFault.TheVariants.{UnclosedSet}
use Rattle.nj_globs.specs.declared.glob_fault.GlobFault.TheVariants.{ReversedRange}
use Rattle.nj_globs.specs.Globs.{GlobPart}
use Rattle.nj_globs.specs.Globs.GlobPart.{byte_set}
use Rattle.nj_globs.specs.Patterns.{is_sign, has_mark, ranges_of, is_reversed, byte_range, HaveRanges}
use Rattle.nj_globs.specs.Patterns.{begins_after, AreParts, BeginWith, BeginWrong}
use Rattle.nj_globs.specs.Inside.Readings.{without_mark, split_set, range_end, IsRangeFault, AreRangesSoFar}
use Rattle.nj_globs.specs.Inside.Readings.{set_unless, set_of, read_set, read_part, Gives, FailsBy}
use Rattle.nj_globs.proofs.FormLemmas.{begins-forth, wrong-forth}

-- ---- ranges

ranges-step : (first : Letter) (others : List Letter) → ranges_of (first ∷ others)
    ≡ (first, (range_end first others).0) ∷ ranges_of (range_end first others).1
ranges-step first [] = refl
ranges-step first (second ∷ []) = refl
ranges-step first (second ∷ third ∷ letters) = by (is_sign 45 second)
  where
    by : (b : Bool) → cond b ((first, third) ∷ ranges_of letters)
        ((first, first) ∷ ranges_of (second ∷ third ∷ letters))
        ≡ (first, (cond {A = Letter × List Letter} b (third, letters) (first, second ∷ third ∷ letters)).0)
        ∷ ranges_of (cond {A = Letter × List Letter} b (third, letters) (first, second ∷ third ∷ letters)).1
    by true = refl
    by false = refl

one-range : (rest others after : List Letter) (first last : Letter) → rest ≡ first ∷ others
    → (last, after) ≡ range_end first others → ranges_of rest ≡ (first, last) ∷ ranges_of after
one-range rest others after first last front end =
    ap ranges_of front ∙ ranges-step first others
    ∙ ap (λ (e : Letter × List Letter). (first, e.0) ∷ ranges_of e.1) (sym end)

no_ranges : (letters : List Letter) → AreRangesSoFar letters letters []
no_ranges letters = record { before = []; cut = refl; are = refl; fine = refl }

pub ranges-more : (letters rest others after : List Letter) (ranges : List ByteRange) (first last : Letter)
    → AreRangesSoFar letters rest ranges → rest ≡ first ∷ others → (last, after) ≡ range_end first others
    → first.byte ≤ last.byte
    → AreRangesSoFar letters after (ranges ++ record { low = first.byte; high = last.byte } ∷ [])
ranges-more letters rest others after ranges first last so_far front end rises =
    let range : Letter × Letter = (first, last) in
    let before = so_far.before in
    let right : is_reversed range ≡ false = grind (arith, nat_tests) in
    record {
      before = before ++ range ∷ [];
      cut = so_far.cut ∙ ap (λ rs. before ++ rs) (one-range rest others after first last front end)
          ∙ sym (append_assoc before (range ∷ []) (ranges_of after));
      are = ap (λ rs. rs ++ byte_range range ∷ []) so_far.are
          ∙ sym (map-append byte_range before (range ∷ []));
      fine = find-append is_reversed before (range ∷ [])
          ∙ ap (λ o. option_or o (find is_reversed (range ∷ []))) so_far.fine
          ∙ ap (λ b. cond b (Some range) None) right;
    }

pub ranges-fail : (letters rest others after : List Letter) (ranges : List ByteRange) (first last : Letter)
    → AreRangesSoFar letters rest ranges → rest ≡ first ∷ others → (last, after) ≡ range_end first others
    → last.byte < first.byte → IsRangeFault letters (ReversedRange first.at)
ranges-fail letters rest others after ranges first last so_far front end falls =
    let range : Letter × Letter = (first, last) in
    let before = so_far.before in
    let wrong : is_reversed range ≡ true = grind (arith, nat_tests) in
    inr (
      range,
      ap (find is_reversed) (so_far.cut ∙ ap (λ rs. before ++ rs)
          (one-range rest others after first last front end))
          ∙ find-append is_reversed before (range ∷ ranges_of after)
          ∙ ap (λ o. option_or o (find is_reversed (range ∷ ranges_of after))) so_far.fine
          ∙ ap (λ b. cond b (Some range) (find is_reversed (ranges_of after))) wrong,
      refl,
    )

pub ranges-whole : (letters rest : List Letter) (ranges : List ByteRange) → AreRangesSoFar letters rest ranges
    → rest ≡ [] → HaveRanges letters ranges
ranges-whole letters rest ranges so_far none =
    let all : ranges_of letters ≡ so_far.before =
    so_far.cut ∙ ap (λ r. so_far.before ++ ranges_of r) none ∙ append-nil so_far.before in
    record {
      are = so_far.are ∙ ap (map byte_range) (sym all);
      fine = ap (find is_reversed) all ∙ so_far.fine;
    }

-- ---- sets

pub set-read : (at : ℕ) (letters unmarked inside after : List Letter) (is_negated : Bool)
    (ranges : List ByteRange) → is_negated ≡ has_mark letters → unmarked ≡ without_mark letters
    → Some (inside, after) ≡ split_set unmarked → HaveRanges inside ranges
    → read_set at letters ≡ Ok (byte_set is_negated ranges, after)
set-read at letters unmarked inside after is_negated ranges mark rest split have =
    ap (λ b. set_of at b (split_set (without_mark letters))) (sym mark)
    ∙ ap (λ u. set_of at is_negated (split_set u)) (sym rest)
    ∙ ap (set_of at is_negated) (sym split)
    ∙ ap (λ r. set_unless r (byte_set is_negated (map byte_range (ranges_of inside))) after) have.fine
    ∙ ap (λ rs. Ok (byte_set is_negated rs, after)) (sym have.are)

pub set-unclosed : (at : ℕ) (letters unmarked : List Letter) → unmarked ≡ without_mark letters
    → None ≡ split_set unmarked → read_set at letters ≡ Err (UnclosedSet at)
set-unclosed at letters unmarked rest split =
    ap (λ u. set_of at (has_mark letters) (split_set u)) (sym rest)
    ∙ ap (set_of at (has_mark letters)) (sym split)

pub set-reversed : (at : ℕ) (letters unmarked inside after : List Letter) (fault : GlobFault)
    → unmarked ≡ without_mark letters → Some (inside, after) ≡ split_set unmarked → IsRangeFault inside fault
    → Gives (read_set at letters) fault
set-reversed at letters unmarked inside after fault rest split (inl no_memory) = inl no_memory
set-reversed at letters unmarked inside after fault rest split (inr (range, found, is)) = inr (
    ap (λ u. set_of at (has_mark letters) (split_set u)) (sym rest)
    ∙ ap (set_of at (has_mark letters)) (sym split)
    ∙ ap (λ r. set_unless r (byte_set (has_mark letters) (map byte_range (ranges_of inside))) after) found
    ∙ ap Err (sym is)
    )

-- ---- parts

pub parts-more : (begins : Bool) (parts : List GlobPart) (letters rest : List Letter) (begins_rest : Bool)
    (part : GlobPart) (after : List Letter) → AreParts begins parts letters rest begins_rest
    → BeginWith begins_rest part rest after
    → AreParts begins (parts ++ part ∷ []) letters after (begins_after part)
parts-more begins [] letters rest begins_rest part after (same, is) with_part = (
  after,
  subst (λ b. BeginWith b part letters after) (sym is)
      (subst (λ ls. BeginWith begins_rest part ls after) (sym same) with_part),
  (refl, refl),
)
parts-more begins (p ∷ parts) letters rest begins_rest part after (a, begin, are) with_part =
    (a, begin, parts-more (begins_after p) parts a rest begins_rest part after are with_part)

pub read-more : (parts : List GlobPart) (letters rest : List Letter) (begins_rest : Bool) (first : Letter)
    (others after : List Letter) (part : GlobPart) → AreParts true parts letters rest begins_rest
    → rest ≡ first ∷ others → read_part begins_rest first others ≡ Ok (part, after)
    → AreParts true (parts ++ part ∷ []) letters after (begins_after part)
read-more parts letters rest begins_rest first others after part are front read =
    parts-more true parts letters rest begins_rest part after are
    (subst (λ ls. BeginWith begins_rest part ls after) (sym front)
    (begins-forth begins_rest first others after part read))

pub read-fails : (parts : List GlobPart) (letters rest : List Letter) (begins_rest : Bool) (first : Letter)
    (others : List Letter) (fault : GlobFault) → AreParts true parts letters rest begins_rest
    → rest ≡ first ∷ others → Gives (read_part begins_rest first others) fault → FailsBy letters fault
read-fails parts letters rest begins_rest first others fault are front (inl no_memory) = inl no_memory
read-fails parts letters rest begins_rest first others fault are front (inr read) = inr (
  parts,
  rest,
  begins_rest,
  are,
  subst (λ ls. BeginWrong ls fault) (sym front) (wrong-forth begins_rest first others fault read),
)
