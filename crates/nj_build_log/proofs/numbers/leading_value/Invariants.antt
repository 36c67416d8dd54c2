use Rattle.std.proofs.Common.{◌≤◌, ◌^◌}
use Rattle.nj_build_log.proofs.DigitLemmas.{IsReadTo}
use Rattle.nj_build_log.proofs.numbers.leading_value.Given as goal

abbrev pub invariant-digits : goal.invariant-digits
invariant-digits l = record {
  fits : l.value ≤ 2 ^ 64;
  read : IsReadTo l.base l.text l.byte-index l.value;
}
