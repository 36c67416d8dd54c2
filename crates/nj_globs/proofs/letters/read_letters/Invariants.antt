use Rattle.std.proofs.Common.{◌≡◌, ◌≤◌, ◌-◌, ◌++◌, false, length}
use Rattle.std.specs.List.{list_any}
use Rattle.nj_globs.specs.Patterns.{letters_from, is_lone}
use Rattle.nj_globs.proofs.letters.read_letters.Given as goal

abbrev pub invariant-letters : goal.invariant-letters
invariant-letters l = record {
  within : length l.rest ≤ length l.pattern;
  cut : letters_from 0 l.pattern ≡ l.letters.items ++ letters_from (length l.pattern - length l.rest) l.rest;
  fine : list_any is_lone l.letters.items ≡ false;
}

abbrev pub decreases-letters : goal.decreases-letters
decreases-letters l = length l.rest
