use Rattle.std.proofs.Common.{ℕ, false, ◌≡◌, length, arith, refl, ap, ◌∙◌}
use Rattle.std.specs.Prelude.{slice_index_or}
use Rattle.std.specs.List.{filter, range_with_len}
use Rattle.nj_ask.specs.Inside.Reached.{edge_numbers}
use Rattle.nj_ask.proofs.NewCommandLemmas.{edge-flagged, edge-unflagged}
use Rattle.nj_ask.proofs.new_commands.flagged.Goals as goal
use Rattle.nj_ask.proofs.new_commands.flagged.Goals.{then-flags-number+in_ok-push, else-flags-number}

pub numbers-preserved : goal.numbers-preserved
numbers-preserved c =
    let flag = λ (n : ℕ). slice_index_or c.args.flags.now n false in
    let n = c.numbers.number in
    let found = c.numbers.edges.items in
    elim c.if-flags-number.branch [
      | then-flags-number+in_ok-push w ↦
          edge-flagged flag n found c.numbers.invariant _ (record { 0 = n }) refl w.if-flags-number.true
          (ap (λ v. v.items) w.edges-is ∙ w.in_ok-push.ensures.items)
      | else-flags-number w ↦
          ap (λ v. edge_numbers v.items) w.edges-is
          ∙ edge-unflagged flag n found c.numbers.invariant w.if-flags-number.false
    ]

pub returns : goal.returns
returns c = c.numbers.invariant ∙ ap (λ n. filter (λ m. slice_index_or c.args.flags.now m false)
    (range_with_len 0 n)) (let over = c.numbers-test.false in let far = c.numbers.auto.number-end
    in let same : c.numbers.number ≡ length c.args.flags.now = omega (arith, over, far) in same)
