-- The statements read from files, with the discoveries of dyndep files.
use Rattle.std.proofs.Common.{◌≡◌, inr, ℕ, Bool, true, false, Result, Ok, Err, List, [], subst}
use Rattle.nj_scope.specs.Readings.{Reading}
use Rattle.nj_scope.specs.Sources.{SourceState}
use Rattle.nj_scope.specs.ReadingList.{ReadStatement}
use Rattle.nj_faults.specs.declared.fault.GraphFault.{GraphFault}
use Rattle.nj_graph.specs.Joining.{joined_after, Joins}
use Rattle.nj_graph.specs.Loads.{LoadedModel, IsWhole, IsLoaded, LoadedOr, main_reached}
use Rattle.nj_graph.specs.Runs.{IsRead}
use Rattle.nj_graph.proofs.Tables.{reads-then}
use Rattle.nj_requests.specs.Actions.{RequestModel}
use Rattle.nj_cli.specs.Inside.RunSteps.{GraphOr, ReadsGraph}
use Rattle.nj_cli.specs.Runs.{ReadsMore, AreStatements, HaveFault}
use Rattle.nj_cli.proofs.ReturnLemmas.{NoEdgeNeedsItself-stated}

statements-joined : (main : List ℕ) (dyndep : Bool) (before after : SourceState) (files : List Reading)
    (entries : List ReadStatement) → dyndep ≡ true
    → (more : ReadsMore main before after files)
    → IsWhole more.between after files (joined_after more.read more.stated) entries
    → AreStatements main dyndep before after files entries
statements-joined main true before after files entries asked more joined = (more, joined)
statements-joined main false before after files entries asked more joined = absurd (cc)

joining-fault : (main : List ℕ) (dyndep : Bool) (before after : SourceState) (files : List Reading)
    (fault : GraphFault) → dyndep ≡ true
    → (more : ReadsMore main before after files)
    → LoadedOr more.between after files (joined_after more.read more.stated) (Err fault)
    → HaveFault main dyndep before after files fault
joining-fault main true before after files fault asked more refused = inr (more, refused)
joining-fault main false before after files fault asked more refused = absurd (cc)

module _ (request : RequestModel) (asked : request.dyndep ≡ true) (before after : SourceState)
    (files : List Reading)
    (more : ReadsMore request.file before after files) where
  graph-joined : (result : Result LoadedModel GraphFault)
      → LoadedOr more.between after files (joined_after more.read more.stated) result
      → GraphOr request before after files result
  graph-joined (Ok loaded) graph = (
    graph.entries,
    statements-joined request.file request.dyndep before after files graph.entries asked
        more graph.whole,
    graph.graph_is,
    graph.files_are,
  )
  graph-joined (Err fault) refused = joining-fault request.file request.dyndep before after files fault asked
      more refused

-- the files of a request whose dyndep files were joined
pub ReadsGraph-joined : (request : RequestModel) → request.dyndep ≡ true
    → (before between after : SourceState) (read : List Reading)
    (loaded : LoadedModel) (result : Result LoadedModel GraphFault) → IsRead before between [] read
    → (l : IsLoaded before between read (main_reached request.file) loaded)
    → Joins l.entries loaded.files between after result
    → ReadsGraph request before after result
ReadsGraph-joined request asked before between after read loaded result reads l joins =
    let of_read = subst (λ old. Joins l.entries old between after result) l.files_are joins in
    let files = of_read.0 in
    let more : ReadsMore request.file before after files = record {
      between = between;
      read = read;
      stated = l.entries;
      reads = reads;
      whole = l.whole;
      acyclic = NoEdgeNeedsItself-stated l.entries loaded.graph l.graph_is;
      adds = of_read.1;
    } in (
      files,
      reads-then before between after [] read files reads of_read.1,
      graph-joined request asked before after files more result of_read.2,
    )
