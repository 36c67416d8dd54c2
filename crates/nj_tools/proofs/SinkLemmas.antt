-- How the texts that a sink took, one call after another, join.
use Rattle.std.proofs.Common.{◌≡◌, ◌≢◌, ℕ, zero, suc, ◌-◌, Bool, not, ◌||◌, List, [], ◌∷◌, ◌++◌, length, take}
use Rattle.std.proofs.Common.{drop, Ok, refl, ap, ◌∙◌, arith, append_assoc, take-append-drop}
use Rattle.std.proofs.lemmas.List.{take_rest}
use Rattle.std.proofs.KnownBytes.{Appends-nil, Appends-trans}
use Rattle.nj_text.specs.Calls.{is_empty}
use Rattle.nj_tools.specs.Inside.Blocks.{IsUnderway}
use Rattle.nj_tools.specs.Sinks.{SinkState, Takes, FailsAfter, Puts}

-- at first nothing was taken
pub Takes-nil : (s : SinkState) → Takes s s []
Takes-nil s = record { taken = Appends-nil s.taken; failures = refl; took_since_failure = refl }

-- two parts together have bytes if one of them has bytes
some_bytes-append : (xs ys : List ℕ) (b : Bool)
    → (not (is_empty ys) || (not (is_empty xs) || b)) ≡ (not (is_empty (xs ++ ys)) || b)
some_bytes-append [] ys b = refl
some_bytes-append (x ∷ xs) [] b = refl
some_bytes-append (x ∷ xs) (y ∷ ys) b = refl

pub Takes-trans : (a b c : SinkState) (xs ys : List ℕ) → Takes a b xs → Takes b c ys → Takes a c (xs ++ ys)
Takes-trans a b c xs ys p q = record {
  taken = Appends-trans _ _ _ _ _ p.taken q.taken;
  failures = q.failures ∙ p.failures;
  took_since_failure =
      q.took_since_failure ∙ ap (λ t. not (is_empty ys) || t) p.took_since_failure
      ∙ some_bytes-append xs ys _;
}

-- a failure after bytes that were taken
pub FailsAfter-trans : (a b c : SinkState) (xs ys : List ℕ) → Takes a b xs → FailsAfter b c ys
    → FailsAfter a c (xs ++ ys)
FailsAfter-trans a b c xs ys p q = record {
  taken = Appends-trans _ _ _ _ _ p.taken q.taken;
  failures = rw p.failures at q.failures;
  took_since_failure = q.took_since_failure;
}

-- some bytes were taken, and are no longer left
pub IsUnderway-put : (old before after : SinkState) (text rest : List ℕ) (count : ℕ)
    → IsUnderway old before text rest → Puts before after rest (Ok count) → count ≢ 0
    → IsUnderway old after text (take (length rest - count) (drop count rest))
IsUnderway-put old before after text rest zero so_far put some = absurd (some refl)
IsUnderway-put old before after text [] (suc more) so_far put some = absurd (omega (arith, put.0))
IsUnderway-put old before after text (byte ∷ rest) (suc more) so_far put some =
    let (front, parts, taken) = so_far in
    let joined : (byte ∷ take more rest) ++ drop (suc more) (byte ∷ rest) ≡ byte ∷ rest =
    ap (λ l. byte ∷ l) (take-append-drop more rest) in (
      front ++ byte ∷ take more rest,
      rw (take_rest (byte ∷ rest) (suc more), append_assoc, joined) parts,
      Takes-trans _ _ _ _ _ taken put.1,
    )
