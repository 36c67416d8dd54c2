use Rattle.std.proofs.Common.{◌≡◌, ◌+◌, ◌-◌, ◌&&◌, sym, ap, ◌∙◌, arith}
use Rattle.std.proofs.lemmas.List.{length-set}
use Rattle.std.specs.Prelude.{slice_index_or}
use Rattle.nj_globs.specs.Inside.Fits.{no_fit, part_model, may_be_empty}
use Rattle.nj_globs.proofs.FitLemmas.{empty-more, empty-last}
use Rattle.nj_globs.proofs.fits.set_empty.Goals as goal
use Rattle.nj_globs.proofs.fits.set_empty.Goals.{then-may_be_empty, else-may_be_empty}

pub parts-init : goal.parts-init
parts-init c = empty-last c.args.parts.now c.args.fits.now c.requires

pub parts-preserved : goal.parts-preserved
parts-preserved c =
    let index = c.parts.index in
    let part = c.index-parts-index.result in
    let one : index ≡ index - 1 + 1 = omega arith in
    let next = slice_index_or c.parts.fits index no_fit in
    let value : c.if-may_be_empty.fits ≡ (may_be_empty (part_model part) && next.whole) =
    elim c.if-may_be_empty.branch [
      | then-may_be_empty w ↦ w.fits-is ∙ ap (λ n. (slice_index_or c.parts.fits n no_fit).whole) (sym one)
          ∙ ap (λ b. b && next.whole) (sym w.if-may_be_empty.true ∙ c.may_be_empty.ensures)
      | else-may_be_empty w ↦ w.fits-is ∙ w.if-may_be_empty.false
          ∙ ap (λ b. b && next.whole) (sym w.if-may_be_empty.false ∙ c.may_be_empty.ensures)
    ] in
    empty-more c.args.parts.now c.parts.fits (index - 1) index part c.if-may_be_empty.fits one (omega arith)
    (c.parts.auto.fits ∙ length-set _ _ _ ∙ c.requires) c.index-parts-index.is c.parts.invariant value
