use Rattle.std.proofs.Common.{◌∙◌, ap, subst}
use Rattle.std.specs.Prelude.{IfOk}
use Rattle.nj_edges.specs.EdgeTables.{EdgeTable, no_files}
use Rattle.nj_edges.specs.Graph.{FinishesAs}
use Rattle.nj_edges.specs.Joining.{JoinTable}
use Rattle.nj_edges.proofs.JoiningLemmas.{all-added}
use Rattle.nj_edges.proofs.dyndep_edges.JoiningEdges.finish.Goals as goal

pub joined_edges-requires : goal.joined_edges-requires
joined_edges-requires c = rw c.deref.ensures.value (all-added _ _ _ _ c.self.invariant _ c.self.view_is
    c.requires)

pub returns : goal.returns
returns c =
    let added = rw c.deref.ensures.value at c.in_ok-joined.ensures in
    subst (λ (t : EdgeTable). IfOk c.finish.result (λ finished. FinishesAs t.files t.edges finished))
    (added ∙ ap (λ (t : JoinTable). record { files = t.files; edges = t.joined; «open» = no_files })
    c.self.view_is) c.finish.ensures
