use Rattle.std.proofs.Common.{◌∙◌, ap, length, slice_get, sym}
use Rattle.nj_edges.proofs.MakerLemmas.{named-then, named-else}
use Rattle.nj_edges.proofs.makers.name.Goals as goal

pub returns-then-file-as_slice-clause-named : goal.returns-then-file-as_slice-clause-named
returns-then-file-as_slice-clause-named c =
    let named = c.in_ok-file.ensures in
    let here = ap (λ xs. slice_get xs c.in_ok-file.file.0) (sym named.named) ∙ named.number in
    let next = c.if-file-as_slice.true ∙ ap length (c.as_slice.ensures.value ∙ c.in_ok-reserve.ensures.items)
    in
    record {
      files_are = named.named;
      makers_are = rw (c.push_reserved.ensures.items, c.in_ok-reserve.ensures.items)
          (named-then c.makers.inside.numbers.items c.args.makers.now c.makers.view_is c.args.files.now
          c.args.path.now c.in_ok-file.file.0 c.requires here next);
      distinct = named.each_path_once;
      number = named.number;
    }

pub returns-else-file-as_slice-clause-named : goal.returns-else-file-as_slice-clause-named
returns-else-file-as_slice-clause-named c =
    let named = c.in_ok-file.ensures in
    let here = ap (λ xs. slice_get xs c.in_ok-file.file.0) (sym named.named) ∙ named.number in
    record {
      files_are = named.named;
      makers_are = rw c.in_ok-reserve.ensures.items
          (named-else c.makers.inside.numbers.items c.args.makers.now c.makers.view_is c.args.files.now
          c.args.path.now c.in_ok-file.file.0 c.requires here
          (λ next. c.if-file-as_slice.false (next
          ∙ sym (ap length (c.as_slice.ensures.value ∙ c.in_ok-reserve.ensures.items)))));
      distinct = named.each_path_once;
      number = named.number;
    }
