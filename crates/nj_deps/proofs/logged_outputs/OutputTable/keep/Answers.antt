use Rattle.std.proofs.Common.{◌∙◌, List, ℕ, length, ap, refl, sym}
use Rattle.nj_deps.specs.declared.logged_outputs.HeldOutput.{HeldOutput}
use Rattle.nj_deps.specs.declared.path_no.PathNo.{PathNo}
use Rattle.nj_deps.specs.Logs.{numbers_of}
use Rattle.nj_deps.proofs.NumberLemmas.{numbers-length}
use Rattle.nj_deps.proofs.OutputLemmas.{IsKept, held-now, is-kept, kept-held, not-kept}
use Rattle.nj_deps.proofs.logged_outputs.OutputTable.keep.Goals as goal

pub invariant_of-self : goal.invariant_of-self
invariant_of-self c =
    let held = c.self.inside in
    held-now (numbers_of held.inputs.items) (numbers_of c.push_numbers.new.numbers.items) held.outputs.items
    held.outputs.items
    held.places.items held.places.items
    c.self.invariant c.push_numbers.ensures.grown refl refl c.self.invariant.are_places

pub invariant_of-self-then-not-branch : goal.invariant_of-self-then-not-branch
invariant_of-self-then-not-branch c =
    let held = c.self.inside in
    held-now (numbers_of held.inputs.items) (numbers_of c.push_numbers.new.numbers.items) held.outputs.items
    held.outputs.items
    held.places.items held.places.items
    c.self.invariant c.push_numbers.ensures.grown refl refl c.self.invariant.are_places

pub invariant_of-self-in_err-short_number : goal.invariant_of-self-in_err-short_number
invariant_of-self-in_err-short_number c =
    let held = c.self.inside in
    held-now (numbers_of held.inputs.items) (numbers_of c.push_numbers.new.numbers.items) held.outputs.items
    held.outputs.items
    held.places.items held.places.items
    c.self.invariant c.push_numbers.ensures.grown refl refl c.self.invariant.are_places

pub invariant_of-self-in_err-set_output : goal.invariant_of-self-in_err-set_output
invariant_of-self-in_err-set_output c =
    let held = c.self.inside in
    held-now (numbers_of held.inputs.items) (numbers_of c.push_numbers.new.numbers.items) held.outputs.items
    c.set_output.new.outputs.items held.places.items c.set_output.new.places.items
    c.self.invariant c.push_numbers.ensures.grown c.in_err-set_output.ensures.refused
    c.set_output.ensures.count c.set_output.ensures.places

pub returns-then-not-branch-clause-kept : goal.returns-then-not-branch-clause-kept
returns-then-not-branch-clause-kept c =
    let old = c.self.inside in
    not-kept c.args.output c.args.time (length c.as_slice-count.result.now) c.args.inputs.now
    (numbers_of old.inputs.items)
    (numbers_of c.push_numbers.new.numbers.items) old.outputs.items old.places.items
    c.args.self.now c.in_ok-push_numbers.field-0 c.self.invariant c.self.view_is
    (ap (λ (xs : List ℕ). length xs) c.as_slice-count.ensures.value)
    c.push_numbers.ensures.grown c.in_ok-push_numbers.ensures.appended c.if-not-branch.true

pub invariant_of-self-2 : goal.invariant_of-self-2
invariant_of-self-2 c =
    let old = c.self.inside in
    let h : HeldOutput = record {
      output = c.args.output;
      start = c.in_ok-start.start;
      end =
          c.in_ok-short_number.field-0;
      time = c.args.time;
    } in
    let kept : IsKept c.args.output c.args.time (numbers_of old.inputs.items)
    (numbers_of c.push_numbers.new.numbers.items)
    old.outputs.items c.set_output.new.outputs.items old.places.items c.set_output.new.places.items h =
    record {
      is_output = refl;
      is_time = refl;
      starts = c.in_ok-start.ensures.short ∙ ap (λ (xs : List PathNo). length xs) c.as_slice.ensures.value
          ∙ sym (numbers-length old.inputs.items);
      ends = c.in_ok-short_number.ensures.short
          ∙ ap (λ (xs : List PathNo). length xs) c.as_slice-2.ensures.value
          ∙ sym (numbers-length c.push_numbers.new.numbers.items);
      set = c.in_ok-set_output.ensures.set;
      count = c.set_output.ensures.count;
      are = c.set_output.ensures.places;
    } in
    kept-held c.args.output c.args.time (length c.as_slice-count.result.now) c.args.inputs.now
    (numbers_of old.inputs.items) (numbers_of c.push_numbers.new.numbers.items) old.outputs.items
    c.set_output.new.outputs.items old.places.items c.set_output.new.places.items c.in_ok-push_numbers.field-0
    h c.self.invariant
    (ap (λ (xs : List ℕ). length xs) c.as_slice-count.ensures.value) c.in_ok-push_numbers.ensures.appended
    c.if-not-branch.false c.if-output-count.false kept

pub returns-clause-kept : goal.returns-clause-kept
returns-clause-kept c =
    let old = c.self.inside in
    let h : HeldOutput = record {
      output = c.args.output;
      start = c.in_ok-start.start;
      end =
          c.in_ok-short_number.field-0;
      time = c.args.time;
    } in
    let kept : IsKept c.args.output c.args.time (numbers_of old.inputs.items)
    (numbers_of c.push_numbers.new.numbers.items)
    old.outputs.items c.set_output.new.outputs.items old.places.items c.set_output.new.places.items h =
    record {
      is_output = refl;
      is_time = refl;
      starts = c.in_ok-start.ensures.short ∙ ap (λ (xs : List PathNo). length xs) c.as_slice.ensures.value
          ∙ sym (numbers-length old.inputs.items);
      ends = c.in_ok-short_number.ensures.short
          ∙ ap (λ (xs : List PathNo). length xs) c.as_slice-2.ensures.value
          ∙ sym (numbers-length c.push_numbers.new.numbers.items);
      set = c.in_ok-set_output.ensures.set;
      count = c.set_output.ensures.count;
      are = c.set_output.ensures.places;
    } in
    is-kept c.args.output c.args.time (length c.as_slice-count.result.now) c.args.inputs.now
    (numbers_of old.inputs.items)
    (numbers_of c.push_numbers.new.numbers.items) old.outputs.items
    c.set_output.new.outputs.items old.places.items c.set_output.new.places.items c.args.self.now
    c.in_ok-push_numbers.field-0 h c.self.invariant c.self.view_is
    (ap (λ (xs : List ℕ). length xs) c.as_slice-count.ensures.value) c.in_ok-push_numbers.ensures.appended
    c.if-not-branch.false c.if-output-count.false kept
