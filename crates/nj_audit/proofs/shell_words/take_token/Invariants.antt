use Rattle.std.proofs.Common.{◌≡◌, length}
use Rattle.nj_audit.specs.ShellWords.{read_text, tokens_after, tokens_of}
use Rattle.nj_audit.proofs.shell_words.take_token.Given as goal

abbrev pub invariant-bytes : goal.invariant-bytes
invariant-bytes l = tokens_after l.word.items (read_text l.quoting l.rest) ≡ tokens_of l.text

abbrev pub decreases-bytes : goal.decreases-bytes
decreases-bytes l = length l.rest
