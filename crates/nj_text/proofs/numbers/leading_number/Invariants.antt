use Rattle.nj_text.proofs.Digits.{IsRead}
use Rattle.nj_text.proofs.numbers.leading_number.Given as goal

abbrev pub invariant-loop-byte : goal.invariant-loop-byte
invariant-loop-byte l = IsRead l.text l.byte-index l.number
