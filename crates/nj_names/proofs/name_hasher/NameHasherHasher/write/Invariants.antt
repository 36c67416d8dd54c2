use Rattle.std.proofs.Common.{◌≡◌, take, fold}
use Rattle.nj_names.specs.NameHash.{take_byte}
use Rattle.nj_names.proofs.name_hasher.NameHasherHasher.write.Given as goal

abbrev pub invariant-loop-byte : goal.invariant-loop-byte
invariant-loop-byte l = l.self ≡ fold take_byte l.initial.self (take l.byte-index l.bytes)
