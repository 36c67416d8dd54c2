-- How far the first byte that ends a run is from the front.
use Rattle.std.proofs.Common.{◌≡◌, ℕ, Bool, true, not, List, Option, Some, None, length, sym, ap}
use Rattle.std.proofs.Common.{arith}
use Rattle.std.specs.Option.{unwrap_or}
use Rattle.std.specs.List.{prefix_len}
use Rattle.std.proofs.lemmas.List.Sums.{prefix_len_is}
use Rattle.memchr.specs.Find.{IsFirstByte, is_byte}
use Rattle.nj_text.specs.declared.runs.Run.TheVariants as run
use Rattle.nj_text.specs.Inside.Runs.{in_run}

passes : (b : Bool) → ¬ (b ≡ true) → not b ≡ true
passes b stops = grind arith

-- the run up to the first byte that ends it, or all bytes if none does
up_to_first : (stop : ℕ → Bool) (bytes : List ℕ) (r : Option ℕ) → IsFirstByte stop bytes r
    → unwrap_or r (length bytes) ≡ prefix_len (λ b. not (stop b)) bytes
up_to_first stop bytes None none =
    sym (prefix_len_is (λ b. not (stop b)) bytes (length bytes) 0 (omega arith)
    (λ k lt. passes _ (none k (omega arith) lt)) (λ lt. absurd (omega arith)))
up_to_first stop bytes (Some k) found =
    let high = found.0.high in
    sym (prefix_len_is (λ b. not (stop b)) bytes k 0 (omega arith)
    (λ j lt. passes _ (found.0.before j (omega arith) lt)) (λ lt. ap not found.1))

-- the run of a comment
pub up_to_line_feed : (bytes : List ℕ) (r : Option ℕ) → IsFirstByte (is_byte 10) bytes r
    → unwrap_or r (length bytes) ≡ prefix_len (in_run run.Comment) bytes
up_to_line_feed bytes r first = up_to_first (is_byte 10) bytes r first
