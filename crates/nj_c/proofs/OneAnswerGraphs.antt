-- The parts of a session about which calls answer.
use Rattle.std.proofs.Common.{◌≡◌, ℕ, ℤ, Bool, List, Option, length, map, slice_get, option_and_then, ap}
use Rattle.nj_text.specs.declared.spot.Spot.{Spot}
use Rattle.nj_faults.specs.declared.fault.GraphFault.{GraphFault}
use Rattle.nj_faults.specs.declared.fault.Place.{Place}
use Rattle.nj_graph.specs.Graph.{GraphModel, edges_of, files_of}
use Rattle.nj_state.specs.declared.commands.StaleEdge.{StaleEdge}
use Rattle.nj_c.specs.declared.session_state.Kept.{Kept}
use Rattle.nj_c.specs.declared.session_state.LogRead.{LogRead}
use Rattle.nj_c.specs.OneAnswer.{SameAnswer}

abbrev pub graph_in : Kept → Option GraphModel
graph_in kept = kept.graph

abbrev pub edge_total : GraphModel → ℕ
edge_total g = length (edges_of g)

abbrev pub file_total : GraphModel → ℕ
file_total g = length (files_of g)

abbrev pub fault_in : Kept → Option GraphFault
fault_in kept = kept.fault

abbrev pub place_in : Kept → Option Place
place_in kept = option_and_then (λ (fault : GraphFault). fault.place) kept.fault

abbrev pub found_at : (index : ℕ) → Kept → Option ℕ
found_at index kept = slice_get (map (λ e. e.0) kept.found.items) index

abbrev pub stale_at : (index : ℕ) → Kept → Option StaleEdge
stale_at index kept = slice_get kept.stale.items index

abbrev pub wanted_at : (index : ℕ) → Kept → Option (List ℕ)
wanted_at index kept = slice_get (map (λ p. p.items) kept.wanted.items) index

abbrev pub mark_in : Kept → List ℕ
mark_in kept = kept.mark.items

abbrev pub output_in : Kept → List ℕ
output_in kept = kept.output.bytes

abbrev pub errors_in : Kept → List ℕ
errors_in kept = kept.errors.bytes

abbrev pub log_in : Kept → Option LogRead
log_in kept = kept.log

abbrev pub unknown_at : (edge : ℕ) → Kept → Option Bool
unknown_at edge kept = slice_get kept.unknown.items edge

abbrev pub spot : (line column : ℕ) → Spot
spot line column = record { line = line; column = column }

-- two places that are the same have the same numbers
pub spots-agree : (one other : ℤ) (line line2 column column2 : ℕ)
    → SameAnswer one other (spot line column ≡ spot line2 column2)
    → SameAnswer one other ((line ≡ line2) × (column ≡ column2))
spots-agree one other line line2 column column2 same = record {
  status = same.status;
  given = λ given. (ap (λ s. s.line) (same.given given), ap (λ s. s.column) (same.given given));
}
