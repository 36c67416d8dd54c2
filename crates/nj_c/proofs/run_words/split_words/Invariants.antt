use Rattle.std.proofs.Common.{◌≡◌, ◌++◌, length, map}
use Rattle.std.specs.Prelude.{string_bytes}
use denote.Text.{Utf8}
use denote.Shadow.{shadow}
use Rattle.nj_c.specs.Runs.{given_words}
use Rattle.nj_c.proofs.run_words.split_words.Given as goal

abbrev pub invariant-words : goal.invariant-words
invariant-words l = (given_words l.text ≡ map string_bytes l.words.items ++ given_words l.rest)
    × shadow (Utf8 l.rest)

abbrev pub decreases-words : goal.decreases-words
decreases-words l = length l.rest
