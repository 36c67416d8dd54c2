-- How lists of edges are made.
use Rattle.std.specs.Prelude.{◌≡◌, ◌⊎◌, ℕ, List, map, Some, Result, Ok, Err}
use Rattle.nj_edges.specs.declared.edges.EdgeNo.{EdgeNo}
use Rattle.nj_needs.specs.declared.mark_fault.MarkFault.{MarkFault}
use Rattle.nj_needs.specs.declared.mark_fault.MarkFault.TheVariants as fault
use Rattle.nj_graph.specs.Graph.{GraphModel}
use Rattle.nj_c.specs.declared.pages.Page.{Page}
use Rattle.nj_c.specs.declared.session_state.Kept.{Kept}
use Rattle.nj_c.specs.declared.status.Status.{Status}
use Rattle.nj_c.specs.declared.status.Status.TheVariants.{Done, BadMark, OutOfMemory}
use Rattle.nj_c.specs.Pages.{AreKnown}

-- the numbers of edges
abbrev pub numbers_of : List EdgeNo → List ℕ
numbers_of edges = map (λ e. e.0) edges

-- edges of the graph of a session with the given property were found for files, with the mark after them; or a status says why not
abbrev pub FindsEdges : Kept → (files : List ℕ) → (are : GraphModel → (edges mark : List ℕ) → Type 0)
    → (refused : Status → Type 0) → Result Page Status → Type 0
FindsEdges kept files are refused (Ok page) =
    (g : GraphModel) × (kept.graph ≡ Some g) × AreKnown g files × are g (numbers_of page.edges.items) page.mark.items
FindsEdges kept files are refused (Err status) = refused status

-- they are kept
abbrev pub KeepsPage : (before after : Kept) → Result Page Status → Status → Type 0
KeepsPage before after (Ok page) status = (status ≡ Done) × (after ≡ record before { found = page.edges; mark = page.mark })
KeepsPage before after (Err why) status = (status ≡ why) × (after ≡ before)

-- the status of a fault of a mark
abbrev pub mark_status : MarkFault → Status
mark_status fault.MarkOutOfRange = BadMark
mark_status fault.OutOfMemory = OutOfMemory
mark_status fault.BadMark = BadMark

-- a mark is refused for the given reason, or an allocation failed
abbrev pub MarkRefused : (why : Type 0) → Status → Type 0
MarkRefused why status = (status ≡ OutOfMemory) ⊎ ((status ≡ BadMark) × why)
