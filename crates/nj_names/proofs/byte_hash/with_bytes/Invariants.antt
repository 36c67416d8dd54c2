use Rattle.std.proofs.Common.{◌≡◌, take, fold}
use Rattle.nj_names.specs.NameHash.{with_byte}
use Rattle.nj_names.proofs.byte_hash.with_bytes.Given as goal

abbrev pub invariant-bytes : goal.invariant-bytes
invariant-bytes l = l.number ≡ fold with_byte l.fn.number (take l.byte-index l.bytes)
