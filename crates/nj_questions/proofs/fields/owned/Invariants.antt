use Rattle.std.proofs.Common.{◌≡◌, map, string_bytes, take}
use Rattle.nj_questions.proofs.fields.owned.Given as goal

abbrev pub invariant-words : goal.invariant-words
invariant-words l = map string_bytes l.strings.items ≡ map (λ word. word.now) (take l.word-index l.words)
