use Rattle.std.proofs.Common.{rules, ℕ, List, Bor}
use Rattle.std.proofs.lemmas.Fn.{answers_by}
use Rattle.nj_tools.proofs.SortedLemmas.{comes_before, by_text, sorted-strings}
use Rattle.nj_tools.proofs.sorted_paths.sort_slices.Goals as goal

abbrev text_of : Bor (List ℕ) → List ℕ
text_of slice = slice.now

pub returns : goal.returns
returns c =
    sorted-strings text_of c.args.slices.now.items c.sort_by.new.self.items
    (c.in_ok-sort_by.ensures.sorted (comes_before text_of) (by_text text_of)
    (answers_by _ _ (λ f. Unit {0}) (λ f a r g h same. (search rules, tt)) _ tt))
    (c.in_ok-sort_by.ensures.stable (comes_before text_of) (by_text text_of)
    (answers_by _ _ (λ f. Unit {0}) (λ f a r g h same. (search rules, tt)) _ tt))
