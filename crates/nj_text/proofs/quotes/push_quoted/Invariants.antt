use Rattle.std.specs.Option.{option_copied}
use Rattle.nj_text.proofs.QuotedStrings.{IsQuoting, bytes_left}
use Rattle.nj_text.proofs.quotes.push_quoted.Given as goal

abbrev pub invariant-runs : goal.invariant-runs
invariant-runs l = IsQuoting l.fn.out.items l.front l.fn.rest (option_copied l.left) l.out.items

abbrev pub decreases-runs : goal.decreases-runs
decreases-runs l = bytes_left (option_copied l.left)
