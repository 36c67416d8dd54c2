use Rattle.std.proofs.Common.{◌≡◌, List, ℕ, map, not, take}
use Rattle.std.specs.Borrow.{Bor}
use Rattle.std.specs.List.{filter}
use Rattle.std.specs.Str.Lines.{strip_carriage_return}
use Rattle.nj_text.specs.Calls.{is_empty}
use Rattle.nj_changes.proofs.given.lines_of.Given as goal

abbrev pub invariant-pieces : goal.invariant-pieces
invariant-pieces l =
    map (λ line. line.now) l.lines.items
    ≡ filter (λ line. not (is_empty line)) (map (λ (piece : Bor (List ℕ)). strip_carriage_return piece.now)
    (take l.piece-index l.piece-items))
