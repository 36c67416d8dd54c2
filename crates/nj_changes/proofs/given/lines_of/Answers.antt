use Rattle.std.proofs.Common.{List, ℕ, map, not, sym, ap, ◌∙◌}
use Rattle.std.specs.Borrow.{Bor}
use Rattle.std.specs.List.{filter}
use Rattle.std.specs.Str.Lines.{strip_carriage_return}
use Rattle.std.proofs.lemmas.List.{take_all}
use Rattle.nj_text.specs.Calls.{is_empty}
use Rattle.nj_changes.proofs.PieceLemmas.{map-map}
use Rattle.nj_changes.proofs.given.lines_of.Goals as goal

pub returns : goal.returns
returns c =
    let keep = filter (λ (line : List ℕ). not (is_empty line)) in
    let bytes = λ (piece : Bor (List ℕ)). piece.now in
    let pieces = c.deref-piece-items.result.now in
    c.pieces.invariant
    ∙ ap (λ ps. keep (map (λ (piece : Bor (List ℕ)). strip_carriage_return piece.now) ps))
    (take_all c.pieces.piece-index pieces c.pieces-test.false)
    ∙ ap keep (sym (map-map strip_carriage_return bytes pieces))
    ∙ ap (λ lines. keep (map strip_carriage_return lines))
    (ap (map bytes) c.deref-piece-items.ensures.value ∙ c.in_ok-ended_by.ensures)
