use Rattle.nj_build_log.proofs.TextLemmas.{IsReadFrom}
use Rattle.nj_build_log.proofs.hashed_text.HashedText.number_at.Given as goal

abbrev pub invariant-bytes : goal.invariant-bytes
invariant-bytes l = IsReadFrom l.self l.place l.count l.passed l.number
