use Rattle.std.proofs.Common.{◌≡◌, ◌++◌, map, string_bytes, take}
use Rattle.nj_questions.proofs.folder_first.push_all.Given as goal

abbrev pub invariant-words : goal.invariant-words
invariant-words l = map (λ word. word.now) l.moved.items
    ≡ map (λ word. word.now) l.initial.moved.items ++ map string_bytes (take l.word-index l.words)
