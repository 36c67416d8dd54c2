use Rattle.std.proofs.Common.{◌≡◌, ℕ, List, map, take, string_bytes}
use Rattle.nj_chosen.specs.Inside.Bringing.{AnswersOne, AreAnswers, FindsMore}
use Rattle.nj_chosen.specs.Inside.Numbers.{AreBelow}
use Rattle.nj_chosen.proofs.brought.take_each.Given as goal

abbrev pub invariant-names : goal.invariant-names
invariant-names l = record {
  limit : l.found.limit ≡ l.fn.found.limit;
  below : AreBelow l.fn.found.limit l.numbers;
  answers : (rows : List (List (List ℕ))) → AreAnswers rows l.fn.numbers l.fn.found.numbers
      → AreAnswers rows l.numbers l.found.numbers;
  found : (rows : List (List (List ℕ))) → AreAnswers rows l.fn.numbers l.fn.found.numbers
      → FindsMore (AnswersOne rows (map string_bytes (take l.name-index l.names))) l.fn.found l.found;
}
