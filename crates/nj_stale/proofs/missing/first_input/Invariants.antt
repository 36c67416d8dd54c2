use Rattle.std.proofs.Common.{◌≡◌, ◌<◌, ℕ, Bool, None, List}
use Rattle.nj_build_log.specs.Logs.{LineModel}
use Rattle.nj_stale.specs.Missing.{AreStated}
use Rattle.nj_stale.specs.Numbered.{evidence_of}
use Rattle.nj_stale.specs.Inside.MissingHeld.{stop_path}
use Rattle.nj_stale.specs.declared.evidence.EdgeFacts.{EdgeFacts}
use Rattle.nj_stale.proofs.missing.first_input.Given as goal

abbrev pub invariant-edges : goal.invariant-edges
invariant-edges l = (facts : List EdgeFacts) (lines : List LineModel) (is_stated : List ℕ → Bool)
    → AreStated l.graph.files is_stated l.stated → (lower : ℕ) → lower < l.number
    → stop_path (evidence_of l.graph facts l.times lines) is_stated l.works l.needed lower ≡ None
