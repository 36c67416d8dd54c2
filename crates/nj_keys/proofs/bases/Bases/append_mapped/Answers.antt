use Rattle.std.proofs.Common.{◌≡◌, ◌++◌, [], ap, sym, ◌∙◌}
use Rattle.nj_keys.specs.Inside.Folders.{paths}
use Rattle.nj_keys.proofs.BaseLemmas.{empty-list, mapped-without}
use Rattle.nj_keys.proofs.bases.Bases.append_mapped.Goals as goal

pub returns-then-is_empty : goal.returns-then-is_empty
returns-then-is_empty c =
    let none = c.as_slice.ensures.value in
    let empty : c.self.inside.folders.items ≡ [] =
    sym none ∙ empty-list c.as_slice.result.now (sym c.if-is_empty.ensures) in
    c.in_ok-extend_from_slice.ensures.items
    ∙ ap (λ t. c.args.out.now.items ++ t) (sym
    (mapped-without c.args.self.now c.args.text.now (sym c.self.view_is ∙ ap paths empty)))
