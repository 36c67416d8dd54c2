use Rattle.std.proofs.Common.{◌≡◌, Some, slice_get, sym, ap, subst, ◌∙◌}
use Rattle.nj_graph.specs.Edges.{is_among}
use Rattle.nj_graph.specs.Graph.{GraphModel, files_of}
use Rattle.nj_graph.specs.Handles.{file_of}
use Rattle.nj_audit.specs.Inside.FileSets.{FileSetModel}
use Rattle.nj_audit.proofs.FileSetLemmas.{has-is}
use Rattle.nj_audit.proofs.file_set.FileSet.has.Goals as goal

pub returns : goal.returns
returns c =
    let path = (file_of c.args.file).path in
    let same = c.requires ∙ sym (ap (λ (s : FileSetModel). s.graph) c.self.view_is) in
    let here = subst (λ (g : GraphModel). slice_get (files_of g) c.number.result.0 ≡ Some path) same
    c.number.ensures.number in
    c.contains.ensures
    ∙ has-is (files_of c.self.inside.graph.now) c.self.invariant.once c.number.result.0 path here
    c.self.inside.numbers.numbers c.self.invariant.known
    ∙ ap (λ (s : FileSetModel). is_among s.paths path) c.self.view_is
