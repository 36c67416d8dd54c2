use Rattle.std.proofs.Common.{◌≡◌, ◌<◌, Some, length, slice_get, subst, sym}
use Rattle.nj_names.specs.Files.{path_at}
use Rattle.nj_edges.specs.Joining.{JoinTable}
use Rattle.nj_edges.proofs.EdgeLemmas.{get-path}
use Rattle.nj_edges.proofs.JoiningLemmas.{input-held, input-table}
use Rattle.nj_edges.proofs.dyndep_edges.JoiningEdges.add_known_input.Goals as goal

pub invariant_of-self : goal.invariant_of-self
invariant_of-self c =
    let files = c.self.inside.edges.files in
    let below = subst (λ (t : JoinTable). c.args.file.0 < length t.files) (sym c.self.view_is) c.requires in
    input-held _ _ _ _ c.self.invariant _ (path_at files c.args.file) c.add_known_input.result
    (c.add_known_input.ensures.added (path_at files c.args.file) (get-path files c.args.file below))
    c.add_known_input.ensures.refused

pub returns-clause-added : goal.returns-clause-added
returns-clause-added c = λ path here.
    input-table _ _ _ _ c.self.invariant _ path _ c.self.view_is c.add_known_input.result
    (c.add_known_input.ensures.added path (subst (λ (t : JoinTable). slice_get t.files c.args.file.0
    ≡ Some path) (sym c.self.view_is) here))
