-- Lemmas on values that are expanded later.
use Rattle.std.proofs.Common.{◌≡◌, ℕ, ◌+◌, ◌-◌, ◌≤◌, Bool, List, [], ◌∷◌, ◌++◌, length, take, slice_get}
use Rattle.std.proofs.Common.{Some, add-one, refl, sym, ap, ◌∙◌, arith}
use Rattle.std.specs.List.{slice_range}
use Rattle.std.proofs.lemmas.List.{map_push, length-append}
use Rattle.std.proofs.Math.Nat.{le_refl, le-add_right}
use Rattle.std.proofs.Math.Seq.{take-suc}
use Rattle.std.proofs.lemmas.Grind.{common_steps, flat_map-append}
use Rattle.std.proofs.lemmas.List.{append-nil}
use Rattle.std.proofs.lemmas.Option.{slice_get_within, get_or_from_slice_get}
use Rattle.nj_text.specs.Words.{PartModel}
use Rattle.nj_scope.specs.declared.deferred.LatePart.{LatePart}
use Rattle.nj_scope.specs.Late.{part_written, parts_written}
use Rattle.nj_scope.specs.Inside.LateHeld.{text_or_name, late_parts, AreWithin}

sub_smaller : (n m s : ℕ) → n ≤ m → n - s ≤ m - s
sub_smaller n m s h = omega arith

-- a range of the earlier elements
range-front : {X : Type 0} (xs more : List X) (s e : ℕ) → s ≤ e → e ≤ length xs
    → slice_range (xs ++ more) s e ≡ slice_range xs s e
range-front xs more s e h k = grind (arith, common_steps)

-- the range of the elements after them
range-back : {X : Type 0} (xs ys : List X) → slice_range (xs ++ ys) (length xs) (length (xs ++ ys)) ≡ ys
range-back xs ys = grind (arith, common_steps)

-- ---- parts of a longer text

pub parts-longer : (text more : List ℕ) (ps : List LatePart) → AreWithin text ps
    → late_parts (text ++ more) ps ≡ late_parts text ps
parts-longer text more [] within = refl
parts-longer text more (p ∷ ps) within = grind (
  arith,
  range-front text more p.start p.end within.0.0 within.0.1,
  parts-longer text more ps within.1,
)

longer : (text more : List ℕ) (n : ℕ) → n ≤ length text → n ≤ length (text ++ more)
longer text more n h = grind (arith, common_steps)

pub within-longer : (text more : List ℕ) (ps : List LatePart) → AreWithin text ps
    → AreWithin (text ++ more) ps
within-longer text more [] within = tt
within-longer text more (p ∷ ps) within =
    ((within.0.0, longer text more p.end within.0.1), within-longer text more ps within.1)

-- ---- one more part

abbrev pub part_after : (text bytes : List ℕ) → Bool → LatePart
part_after text bytes is_name = record {
  start = length text;
  end = length (text ++ bytes);
  is_name =
      is_name;
}

pub parts-pushed : (text bytes : List ℕ) (is_name : Bool) (ps : List LatePart) → AreWithin text ps
    → late_parts (text ++ bytes) (ps ++ part_after text bytes is_name ∷ [])
    ≡ late_parts text ps ++ text_or_name is_name bytes ∷ []
parts-pushed text bytes is_name ps within = grind (arith, map_push, parts-longer, range-back)

pub within-pushed : (text bytes : List ℕ) (is_name : Bool) (ps : List LatePart) → AreWithin text ps
    → AreWithin (text ++ bytes) (ps ++ part_after text bytes is_name ∷ [])
within-pushed text bytes is_name [] within = grind (
  arith,
  length text,
  length-append text bytes,
  le-add_right (length text) (length bytes),
  length bytes,
  le_refl (length (text ++ bytes)),
  length (text ++ bytes),
)
within-pushed text bytes is_name (p ∷ ps) within =
    ((within.0.0, longer text bytes p.end within.0.1), within-pushed text bytes is_name ps within.1)

-- the same of a part whose ends were counted
pub parts-counted : (text longer bytes : List ℕ) (is_name : Bool) (ps qs : List LatePart) (start end : ℕ)
    → AreWithin text ps → longer ≡ text ++ bytes → start ≡ length text → end ≡ length longer
    → qs ≡ ps ++ record { start = start; end = end; is_name = is_name } ∷ []
    → late_parts longer qs ≡ late_parts text ps ++ text_or_name is_name bytes ∷ []
parts-counted text longer bytes is_name ps qs start end within is from to pushed = grind (
  arith,
  longer,
  length,
  parts-pushed,
)

-- ---- a part written

pub written-turn : (parts : List PartModel) (i : ℕ) (p : PartModel) (before after : List ℕ)
    → slice_get parts i ≡ Some p → before ≡ parts_written (take i parts) → after ≡ before ++ part_written p
    → after ≡ parts_written (take (i + 1) parts)
written-turn parts i p before after here is more =
    more ∙ ap (λ bytes. bytes ++ part_written p) is
    ∙ sym (ap parts_written (ap (λ n. take n parts) (add-one i)
    ∙ take-suc parts i p (slice_get_within parts i p here)
    ∙ ap (λ q. take i parts ++ q ∷ []) (get_or_from_slice_get parts i p p here))
    ∙ flat_map-append part_written (take i parts) (p ∷ [])
    ∙ ap (λ bytes. parts_written (take i parts) ++ bytes) (append-nil (part_written p)))
