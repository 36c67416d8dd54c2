use Rattle.std.proofs.Common.{rules, sym}
use Rattle.std.proofs.lemmas.Nat.{le_bytes_4}
use Rattle.nj_deps.specs.LogRecords.{word}
use Rattle.nj_deps.proofs.little_endian.number.Goals as goal

pub returns-clause-bytes : goal.returns-clause-bytes
unfolding word
returns-clause-bytes c = sym (le_bytes_4 c.args.bytes.now c.from_le_bytes.result (search rules) (search rules)
    c.from_le_bytes.ensures)
