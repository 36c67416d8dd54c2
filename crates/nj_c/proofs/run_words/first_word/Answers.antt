use Rattle.std.proofs.Common.{lit<}
use Rattle.std.proofs.lemmas.Str.Pattern.{split_once_first}
use Rattle.nj_c.proofs.WordLemmas.{first-word, last-word}
use Rattle.nj_c.proofs.run_words.first_word.Goals as goal

pub returns-in-Some-clause-words : goal.returns-in-Some-clause-words
returns-in-Some-clause-words c =
    let text = c.args.text.now in
    let first = rw c.in-Some.is at (split_once_first 0 text c.split_once.result c.split_once.ensures.cases
    (lit< tt)) in
    first-word text c.in-Some.word.now c.in-Some.after.now first.0 first.1 first.2

pub returns-in-None-clause-words : goal.returns-in-None-clause-words
returns-in-None-clause-words c =
    let first = rw c.in-None.is at (split_once_first 0 c.args.text.now c.split_once.result
    c.split_once.ensures.cases (lit< tt)) in
    last-word c.args.text.now c.requires first
