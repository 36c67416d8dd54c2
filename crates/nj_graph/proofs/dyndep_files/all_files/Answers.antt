use Rattle.std.proofs.Common.{◌<◌, ◌≤◌, ◌++◌, ◌∷◌, [], length, sym, ap, subst, ◌∙◌, arith}
use Rattle.std.specs.List.{AllByRecursion}
use Rattle.nj_graph.specs.Inside.JoiningContracts.{chosen_files}
use Rattle.nj_graph.proofs.ChoosingLemmas.{all-known, chosen-next, take-next, take-past}
use Rattle.nj_graph.proofs.JoiningTables.{drop-next}
use Rattle.nj_graph.proofs.dyndep_files.all_files.Goals as goal

pub files-preserved : goal.files-preserved
files-preserved c =
    let files = c.args.joining.now.dyndep_files in
    let index = c.files.index in
    let within : index < length files = subst (λ n. index < n) c.file_count-index-end.ensures
    c.files-test.true in
    let next = drop-next files index within in
    let held = c.files.indices.items in
    let items = c.in_ok-push.ensures.items in (
      omega (arith, within),
      ap (chosen_files files) items ∙ chosen-next files held index next.0 next.1
          ∙ ap (λ ps. ps ++ next.0 ∷ []) c.files.invariant.1 ∙ sym (take-next files index next.0 next.1),
      subst (AllByRecursion (λ i. i < length files)) (sym items)
          (all-known (length files) held index c.files.invariant.2 within),
    )

pub returns-clause-all : goal.returns-clause-all
returns-clause-all c =
    let files = c.args.joining.now.dyndep_files in
    c.files.invariant.1 ∙ take-past files c.files.index
    (subst (λ n. n ≤ c.files.index) c.file_count-index-end.ensures c.files-test.false)
