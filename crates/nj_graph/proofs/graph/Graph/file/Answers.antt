use Rattle.std.proofs.Common.{◌∙◌, [], ap, if◌then◌else◌, None, Some, sym, unwrap_or}
use Rattle.nj_names.proofs.NameLemmas.{found-at}
use Rattle.nj_graph.specs.Graph.{files_of}
use Rattle.nj_graph.specs.Handles.{file_in}
use Rattle.nj_graph.proofs.graph.Graph.file.Goals as goal

pub returns-in-Some : goal.returns-in-Some
returns-in-Some c =
    let graph = c.args.self.now in
    let path = c.args.path.now in
    let named = rw c.deref.ensures at c.in-Some.ensures.named in
    let index = rw c.deref.ensures at c.in-Some.ensures.index in
    let at = found-at path (files_of graph) c.in-Some.number.0 (sym index) in
    ap Some (c.file_at.ensures ∙ ap (λ name. file_in graph (unwrap_or name [])) at)
    ∙ ap (λ is_named. if is_named then Some (file_in graph path) else None) named
