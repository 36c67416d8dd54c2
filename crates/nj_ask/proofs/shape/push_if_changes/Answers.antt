use Rattle.std.proofs.Common.{◌≡◌, ◌++◌, ◌&&◌, ℕ, List, true, false, cond, [], unwrap_or, slice_index_or, sym}
use Rattle.std.proofs.Common.{ap, subst, ◌∙◌, append-nil}
use Rattle.std.specs.Prelude.{OnOk}
use Rattle.nj_ask.specs.Affected.{line}
use Rattle.nj_ask.specs.Shape.{may_change}
use Rattle.nj_ask.specs.Manifest.{is_one_of}
use Rattle.nj_ask.specs.SameFiles.{path_of}
use Rattle.nj_ask.proofs.shape.push_if_changes.Goals as goal
use Rattle.nj_ask.proofs.shape.push_if_changes.Goals.{else-is_set-via-then-is_set+else-may_change}
use Rattle.nj_ask.proofs.shape.push_if_changes.Goals.{else-is_set-via-else-is_set}

pub returns-then-may_change : goal.returns-then-may_change
returns-then-may_change c files changed edges marks =
    let g = c.args.graph.now in
    let file = c.args.file.0 in
    let one : is_one_of files file ≡ true =
    sym (marks.are_some.are file c.requires)
    ∙ ap (λ fs. slice_index_or fs file false) (sym c.deref.ensures.value) ∙ sym c.is_set.ensures
    ∙ c.if-is_set.true
    in
    let said : List ℕ → List ℕ = λ path. line (path ++ c.args.what.now) in
    let two : may_change g changed edges file ≡ true =
    sym (c.may_change.ensures files changed edges marks) ∙ c.if-may_change.true in
    let path = ap (λ o. unwrap_or o []) (rw c.deref-then-may_change.ensures at c.path.ensures) in
    subst (λ text. OnOk c.push_changing.result
    (c.push_changing.new.lines.items ≡ c.args.lines.now.items ++ text))
    (ap said (sym path) ∙ sym (ap (λ b. cond (b && may_change g changed edges file) (said (path_of g file))
    []) one
    ∙ ap (λ b. cond b (said (path_of g file)) []) two))
    c.push_changing.ensures

pub returns : goal.returns
returns c files changed edges marks =
    let g = c.args.graph.now in
    let file = c.args.file.0 in
    let said = line (path_of g file ++ c.args.what.now) in
    let flagged = marks.are_some.are file c.requires in
    let set = ap (λ fs. slice_index_or fs file false) (sym c.deref.ensures.value) ∙ sym c.is_set.ensures in
    elim c.else-is_set.branch [
      | else-is_set-via-then-is_set+else-may_change w ↦
          let one = sym flagged ∙ set ∙ w.if-is_set.true in
          let two = sym (w.may_change.ensures files changed edges marks) ∙ w.if-may_change.false in
          sym (ap (λ t. c.args.lines.now.items ++ t)
          (ap (λ b. cond (b && may_change g changed edges file) said []) one
          ∙ ap (λ b. cond b said []) two)
          ∙ append-nil c.args.lines.now.items)
      | else-is_set-via-else-is_set w ↦
          let one = sym flagged ∙ set ∙ w.if-is_set.false in
          sym (ap (λ t. c.args.lines.now.items ++ t)
          (ap (λ b. cond (b && may_change g changed edges file) said []) one)
          ∙ append-nil c.args.lines.now.items)
    ]
