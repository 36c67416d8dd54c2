use Rattle.std.proofs.Common.{◌≡◌, ◌∷◌, take}
use Rattle.std.specs.Prelude.{string_bytes}
use Rattle.nj_needs.specs.MarkTexts.{mark_text}
use Rattle.nj_needs.proofs.marks.address_text.Given as goal

abbrev pub invariant-loop-position : goal.invariant-loop-position
invariant-loop-position l = string_bytes l.text ≡ mark_text (l.target ∷ take l.position-index l.positions)
