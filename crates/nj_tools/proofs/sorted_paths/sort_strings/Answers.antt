use Rattle.std.proofs.Common.{rules, ℕ, List, Vec, Global}
use Rattle.std.proofs.lemmas.Fn.{answers_by}
use Rattle.nj_tools.proofs.SortedLemmas.{comes_before, by_text, sorted-strings}
use Rattle.nj_tools.proofs.sorted_paths.sort_strings.Goals as goal

abbrev text_of : Vec ℕ Global → List ℕ
text_of text = text.items

pub returns : goal.returns
returns c =
    sorted-strings text_of c.args.strings.now.items c.sort_by.new.self.items
    (c.in_ok-sort_by.ensures.sorted (comes_before text_of) (by_text text_of)
    (answers_by _ _ (λ f. Unit {0}) (λ f a r g h same. (search rules, tt)) _ tt))
    (c.in_ok-sort_by.ensures.stable (comes_before text_of) (by_text text_of)
    (answers_by _ _ (λ f. Unit {0}) (λ f a r g h same. (search rules, tt)) _ tt))
