use Rattle.std.proofs.Common.{◌<◌, All, length, get_or, sym, subst, rules}
use Rattle.nj_graph.specs.Graph.{files_of}
use Rattle.nj_c.proofs.PageLemmas.{all-numbered, below-more, files-more}
use Rattle.nj_c.proofs.pages.known_files.Goals as goal

pub numbers-preserved : goal.numbers-preserved
numbers-preserved c =
    let i = c.numbers.number-index in let numbers = c.args.numbers.now in let held = c.numbers.invariant in
    let count = length (files_of c.args.graph.now) in
    let under : get_or numbers i 0 < count = search rules in
    record {
      files = files-more _ _ numbers i c.numbers-test.true held.files c.in_ok-push.ensures.items;
      below = below-more count numbers i c.numbers-test.true under held.below;
    }

pub returns-clause-below : goal.returns-clause-below
returns-clause-below c =
    let held = c.numbers.invariant in let count = length (files_of c.args.graph.now) in
    subst (λ fs. All (λ file. file.0 < count) fs) (sym held.files) (all-numbered count _ held.below)
