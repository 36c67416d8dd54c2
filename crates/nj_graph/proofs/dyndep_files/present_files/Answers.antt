use Rattle.std.proofs.Common.{◌≡◌, ◌<◌, ◌≤◌, ◌++◌, ◌∷◌, [], Some, length, slice_get, take, sym, ap, subst}
use Rattle.std.proofs.Common.{◌∙◌, arith}
use Rattle.std.specs.List.{AllByRecursion}
use Rattle.nj_statements.specs.EdgeList.{Pending}
use Rattle.nj_graph.specs.Joining.{ArePresent}
use Rattle.nj_graph.specs.Joining.ArePresent.{none}
use Rattle.nj_graph.specs.Inside.JoiningContracts.{chosen_files}
use Rattle.nj_graph.proofs.ChoosingLemmas.{absent-turn, all-known, chosen-next, present-turn, take-next}
use Rattle.nj_graph.proofs.ChoosingLemmas.{take-past}
use Rattle.nj_graph.proofs.dyndep_files.present_files.Goals as goal
use Rattle.nj_graph.proofs.dyndep_files.present_files.Goals.{then-branch+in_ok-push, else-branch}

pub files-init : goal.files-init
files-init g c =
    let files = c.args.joining.now.dyndep_files in
    let empty = sym c.new-indices.ensures.items in (
      omega arith,
      subst (λ indices. ArePresent (g.T.FileTimes.times c.args.times.now) [] (chosen_files files indices))
          empty none,
      subst (AllByRecursion (λ index. index < length files)) empty tt,
    )

pub files-preserved : goal.files-preserved
files-preserved g c =
    let times = g.T.FileTimes.times c.args.times.now in
    let files = c.args.joining.now.dyndep_files in
    let index = c.files.index in
    let held = c.files.indices.items in
    let within : index < length files = subst (λ n. index < n) c.file_count-index-end.ensures
    c.files-test.true in
    let p : Pending = record { edge = c.file.result.edge.0; file = c.file.result.path.now } in
    let at : slice_get files index ≡ Some p = c.file.ensures.is in
    let told = c.in_ok-is_there.ensures in
    let so_far = c.files.invariant.1 in
    let left = sym (take-next files index p at) in
    elim c.if-branch.branch [
      | then-branch+in_ok-push w ↦
          let items = ap (λ v. v.items) w.indices-is ∙ w.in_ok-push.ensures.items in
          let turn = present-turn times (take index files) (chosen_files files held) p so_far told.0 told.1
          (sym told.2 ∙ w.if-branch.true) in (
            omega (arith, within),
            subst (λ fs. ArePresent times fs (chosen_files files c.if-branch.indices.items)) left
                (subst (ArePresent times (take index files ++ p ∷ []))
                (sym (ap (chosen_files files) items ∙ chosen-next files held index p at)) turn),
            subst (AllByRecursion (λ i. i < length files)) (sym items)
                (all-known (length files) held index c.files.invariant.2 within),
          )
      | else-branch w ↦
          let items = ap (λ v. v.items) w.indices-is in
          let turn = absent-turn times (take index files) (chosen_files files held) p so_far told.0 told.1
          (sym told.2 ∙ w.if-branch.false) in (
            omega (arith, within),
            subst (λ fs. ArePresent times fs (chosen_files files c.if-branch.indices.items)) left
                (subst (λ indices. ArePresent times (take index files ++ p ∷ []) (chosen_files files indices))
                (sym items) turn),
            subst (AllByRecursion (λ i. i < length files)) (sym items) c.files.invariant.2,
          )
    ]

pub returns-clause-present : goal.returns-clause-present
returns-clause-present g c =
    let files = c.args.joining.now.dyndep_files in
    let past = subst (λ n. n ≤ c.files.index) c.file_count-index-end.ensures c.files-test.false in
    subst (λ fs. ArePresent (g.T.FileTimes.times c.args.times.now) fs
    (chosen_files files c.files.indices.items))
    (take-past files c.files.index past) c.files.invariant.1
