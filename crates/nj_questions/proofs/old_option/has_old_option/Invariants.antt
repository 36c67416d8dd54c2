use Rattle.std.proofs.Common.{◌≡◌, map, string_bytes, drop}
use Rattle.nj_questions.specs.QuestionOf.{has_old_option}
use Rattle.nj_questions.proofs.old_option.has_old_option.Given as goal

abbrev pub invariant-words : goal.invariant-words
invariant-words l = has_old_option (map string_bytes l.words)
    ≡ has_old_option (map string_bytes (drop l.word-index l.words))
