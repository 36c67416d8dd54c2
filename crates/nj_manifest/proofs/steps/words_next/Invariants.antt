use Rattle.std.proofs.Common.{◌≡◌, map}
use Rattle.nj_text.specs.Words.{word_model}
use Rattle.nj_manifest.specs.LineSteps.{words_next}
use Rattle.nj_manifest.proofs.Choices.{units_left}
use Rattle.nj_manifest.proofs.WordLimits.{in_front}
use Rattle.nj_manifest.proofs.steps.words_next.Given as goal

abbrev pub invariant-words : goal.invariant-words
invariant-words l = in_front (map word_model l.words.items) (words_next l.lexer) ≡ words_next l.fn.lexer

abbrev pub decreases-words : goal.decreases-words
decreases-words l = units_left l.lexer
