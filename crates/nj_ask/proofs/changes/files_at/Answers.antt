use Rattle.std.proofs.Common.{◌<◌, length, refl, ap, ◌∙◌, arith}
use Rattle.nj_graph.specs.Edges.{is_among}
use Rattle.nj_graph.specs.Graph.{files_of}
use Rattle.nj_graph.specs.declared.FileNo.{FileNo}
use Rattle.nj_ask.specs.SameFiles.{full_path_of}
use Rattle.nj_ask.proofs.LineLemmas.{known-pushed, number-pushed}
use Rattle.nj_ask.proofs.changes.files_at.Goals as goal

pub numbers-preserved : goal.numbers-preserved
numbers-preserved c =
    let g = c.args.graph.now in
    let working = c.args.working.now in
    let changed = c.args.changed.now in
    let opened = c.args.opened.now in
    let n = c.numbers.number in
    let file : FileNo = record { 0 = n } in
    let counted = rw c.deref.ensures at c.file_count-number-end.ensures.count in
    let test = c.numbers-test.true in
    let below : n < length (files_of g) = omega (arith, counted, test) in
    record {
      changed = number-pushed (λ m. is_among changed (full_path_of g working m)) n
          c.numbers.changed_files.items c.push_if_at.new.files.items file
          (is_among changed c.deref-in-numbers.result.now) refl
          (ap (is_among changed) (c.deref-in-numbers.ensures.value ∙ c.in_ok-full.ensures))
          c.in_ok-push_if_at.ensures c.numbers.invariant.changed;
      opened = number-pushed (λ m. is_among opened (full_path_of g working m)) n
          c.numbers.opened_files.items c.push_if_at-in-numbers.new.files.items file
          (is_among opened c.deref-in-numbers-2.result.now) refl
          (ap (is_among opened) (c.deref-in-numbers-2.ensures.value ∙ c.in_ok-full.ensures))
          c.in_ok-push_if_at-2.ensures c.numbers.invariant.opened;
      changed_known = known-pushed (λ (f : FileNo). f.0 < length (files_of g)) c.numbers.changed_files.items
          c.push_if_at.new.files.items file (is_among changed c.deref-in-numbers.result.now)
          c.in_ok-push_if_at.ensures c.numbers.invariant.changed_known below;
      opened_known = known-pushed (λ (f : FileNo). f.0 < length (files_of g)) c.numbers.opened_files.items
          c.push_if_at-in-numbers.new.files.items file (is_among opened c.deref-in-numbers-2.result.now)
          c.in_ok-push_if_at-2.ensures c.numbers.invariant.opened_known below;
    }
