-- How stale edges are found and kept.
use Rattle.std.specs.Prelude.{◌≡◌, ◌⊎◌, ℕ, List, Result, Ok, Err}
use Rattle.std.specs.Global.{Vec}
use Rattle.nj_graph.specs.Graph.{GraphModel}
use Rattle.nj_state.specs.declared.commands.StaleEdge.{StaleEdge}
use Rattle.nj_c.specs.declared.session_state.Kept.{Kept}
use Rattle.nj_c.specs.declared.status.Status.{Status}
use Rattle.nj_c.specs.declared.status.Status.TheVariants.{BadLog, NotUtf8, OutOfMemory}
use Rattle.nj_c.specs.StaleEdges.{AreStaleOf, HasPathNotUtf8, IsNoBuildLog, StaleRefused}

-- stale edges of a session, or the status that says why there is no list of them
abbrev pub FindsStale : Kept → (bytes times targets : List ℕ) → Result (Vec StaleEdge) Status → Type 0
FindsStale kept bytes times targets (Ok stale) = AreStaleOf kept bytes times targets stale.items
FindsStale kept bytes times targets (Err status) = StaleRefused kept.graph bytes times targets status

-- the status of bytes that are not read as a build log
abbrev pub LogRefused : (bytes : List ℕ) → Status → Type 0
LogRefused bytes status = (status ≡ OutOfMemory) ⊎ ((status ≡ BadLog) × IsNoBuildLog bytes)

-- the status of files whose times are not known
abbrev pub TimesRefused : GraphModel → Status → Type 0
TimesRefused g status = (status ≡ OutOfMemory) ⊎ ((status ≡ NotUtf8) × HasPathNotUtf8 g)
