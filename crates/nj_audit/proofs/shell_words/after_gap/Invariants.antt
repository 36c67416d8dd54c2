use Rattle.std.proofs.Common.{◌≡◌, length}
use Rattle.nj_audit.specs.ShellWords.{tokens_of}
use Rattle.nj_audit.proofs.shell_words.after_gap.Given as goal

abbrev pub invariant-bytes : goal.invariant-bytes
invariant-bytes l = tokens_of l.rest ≡ tokens_of l.text

abbrev pub decreases-bytes : goal.decreases-bytes
decreases-bytes l = length l.rest
