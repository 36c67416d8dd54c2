use Rattle.std.proofs.Common.{sym, ap, ◌∙◌, bytes_eq}
use Rattle.nj_keys.proofs.BaseLemmas.{number-here, number-later}
use Rattle.nj_keys.proofs.bases.number_of.Goals as goal

pub returns-then-eq : goal.returns-then-eq
returns-then-eq c =
    let path = c.args.path.now in
    number-here path c.args.folders.now c.folders.number c.index-folders-number.result c.folders-test.true
    c.folders.invariant
    (ap (bytes_eq path) (ap (λ f. f.items) (sym c.index-folders-number.is) ∙ sym c.as_slice.ensures.value)
    ∙ sym c.if-eq.ensures)

pub folders-preserved : goal.folders-preserved
folders-preserved c =
    let path = c.args.path.now in
    number-later path c.args.folders.now c.folders.number c.index-folders-number.result c.folders-test.true
    c.folders.invariant
    (ap (bytes_eq path) (ap (λ f. f.items) (sym c.index-folders-number.is) ∙ sym c.as_slice.ensures.value)
    ∙ sym c.if-eq.ensures)
