use Rattle.std.proofs.Common.{◌≡◌, ℕ, List, map, not, Some, slice_get, sym, ap, subst, ◌∙◌}
use Rattle.std.proofs.lemmas.Result.{IfOk-weaker, on_ok_weaker}
use Rattle.nj_names.specs.NameTables.{name_at, with_name}
use Rattle.nj_names.specs.NumberSets.{NumberSetModel}
use Rattle.nj_graph.specs.Edges.{is_among}
use Rattle.nj_graph.specs.Graph.{GraphModel, files_of}
use Rattle.nj_graph.specs.Handles.{file_of}
use Rattle.nj_audit.specs.Inside.FileSets.{FileSetModel}
use Rattle.nj_audit.proofs.FileSetLemmas.{added-is, has-is}
use Rattle.nj_audit.proofs.file_set.FileSet.add.Goals as goal

abbrev files_set : GraphModel → List ℕ → FileSetModel
files_set g numbers = record { graph = g; paths = map (name_at (files_of g)) numbers }

pub returns-clause-new : goal.returns-clause-new
returns-clause-new c =
    let path = (file_of c.args.file).path in
    let same = c.requires ∙ sym (ap (λ (s : FileSetModel). s.graph) c.self.view_is) in
    let here = subst (λ (g : GraphModel). slice_get (files_of g) c.number.result.0 ≡ Some path) same
    c.number.ensures.number in
    IfOk-weaker c.insert.result _ _
    (λ new is. is ∙ ap not (has-is (files_of c.self.inside.graph.now) c.self.invariant.once c.number.result.0
    path
    here c.self.inside.numbers.numbers c.self.invariant.known
    ∙ ap (λ (s : FileSetModel). is_among s.paths path) c.self.view_is)) c.insert.ensures.is_new

pub returns-clause-paths : goal.returns-clause-paths
returns-clause-paths c =
    let inside = c.self.inside in
    let path = (file_of c.args.file).path in
    let same = c.requires ∙ sym (ap (λ (s : FileSetModel). s.graph) c.self.view_is) in
    let here = subst (λ (g : GraphModel). slice_get (files_of g) c.number.result.0 ≡ Some path) same
    c.number.ensures.number in
    on_ok_weaker c.insert.result
    (λ added. ap (λ (ns : NumberSetModel). files_set inside.graph.now ns.numbers) added
    ∙ ap (λ ps. record { graph = inside.graph.now; paths = ps }) (added-is (files_of inside.graph.now)
    c.self.invariant.once c.number.result.0 path here inside.numbers.numbers c.self.invariant.known)
    ∙ ap (λ (s : FileSetModel). record { graph = s.graph; paths = with_name s.paths path }) c.self.view_is)
    c.insert.ensures.added
