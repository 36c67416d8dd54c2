use Rattle.std.proofs.Common.{inr, refl, subst}
use Rattle.nj_graph.specs.Graph.{files_of}
use Rattle.nj_state.specs.FileTimesFound.{FaultsAt}
use Rattle.nj_c.specs.StaleEdges.{given_times}
use Rattle.nj_c.proofs.StaleLemmas.{no-time}
use Rattle.nj_c.proofs.stale_edges.stale_in.Goals as goal

pub returns-in-Err-NoTime-clause-refused : goal.returns-in-Err-NoTime-clause-refused
returns-in-Err-NoTime-clause-refused c =
    let g = c.args.graph.now in let times = c.args.times.now in inr (
      refl,
      no-time g times c.in-Err-NoTime.field-0-0 (subst (FaultsAt (given_times g times) (files_of g))
          c.in-Err-NoTime.field-0-is c.in-Err-NoTime.ensures.fault),
    )
