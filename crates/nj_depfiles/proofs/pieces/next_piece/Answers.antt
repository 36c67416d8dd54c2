use Rattle.std.proofs.Common.{◌<◌, ◌∷◌, drop, length, subst, sym, ap, ap₂, ◌∙◌, arith, length-drop}
use Rattle.nj_depfiles.specs.Pieces.{first_piece, pieces}
use Rattle.nj_depfiles.proofs.CutLemmas.{cut-first}
use Rattle.nj_depfiles.proofs.pieces.next_piece.Goals as goal

pub returns : goal.returns
returns c =
    let text = c.args.text.now in
    let found = c.first_piece-size.ensures in
    let some : 0 < (first_piece text).1 = subst (λ n. 0 < n) found.size found.some in
    let after = c.split_at.ensures.back in (
      cut-first text (omega (arith, found.some, found.within)) some
          ∙ ap₂ (λ p t. p ∷ pieces t) (sym found.piece) (sym (after ∙ ap (λ n. drop n text) found.size)),
      (omega (
        arith,
        ap length after,
        length-drop c.first_piece-size.result.1 text,
        found.some,
        found.within,
      )),
    )
