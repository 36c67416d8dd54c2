use Rattle.std.proofs.Common.{◌≡◌, map, take}
use Rattle.std.specs.Prelude.{string_bytes}
use Rattle.nj_ask.proofs.keys.bytes_of.Given as goal

abbrev pub invariant-words : goal.invariant-words
invariant-words l = map (λ text. text.now) l.bytes.items ≡ map string_bytes (take l.word-index l.words)
