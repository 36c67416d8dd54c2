use Rattle.std.proofs.Common.{◌≡◌, ◌+◌, drop}
use Rattle.std.specs.List.{prefix_len}
use Rattle.nj_text.specs.Inside.Runs.{in_run}
use Rattle.nj_text.proofs.runs.length_by_bytes.Given as goal

abbrev pub invariant-loop-byte : goal.invariant-loop-byte
invariant-loop-byte l =
    (l.length ≡ l.byte-index) × (l.length + prefix_len (in_run l.run) (drop l.byte-index l.bytes)
    ≡ prefix_len (in_run l.run) l.bytes)
