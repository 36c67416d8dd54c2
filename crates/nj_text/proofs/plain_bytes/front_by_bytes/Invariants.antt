use Rattle.std.proofs.Common.{◌≡◌, ◌+◌, drop}
use Rattle.std.specs.List.{prefix_len}
use Rattle.nj_text.specs.Quotes.{is_plain_byte}
use Rattle.nj_text.proofs.plain_bytes.front_by_bytes.Given as goal

abbrev pub invariant-loop-byte : goal.invariant-loop-byte
invariant-loop-byte l =
    (l.length ≡ l.byte-index) × (l.length + prefix_len is_plain_byte (drop l.byte-index l.path)
    ≡ prefix_len is_plain_byte l.path)
