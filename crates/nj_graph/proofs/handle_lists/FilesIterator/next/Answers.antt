use Rattle.std.proofs.Common.{◌<◌, All, length, subst}
use Rattle.std.proofs.lemmas.List.Elements.{All-tail}
use Rattle.nj_names.specs.declared.files.FileNo.{FileNo}
use Rattle.nj_graph.specs.Graph.{files_of}
use Rattle.nj_graph.proofs.handle_lists.FilesIterator.next.Goals as goal

pub invariant_of-self : goal.invariant_of-self
invariant_of-self c =
    let Known : FileNo → Type 0 = λ file. file.0 < length (files_of c.self.inside.graph.now) in
    All-tail Known c.in_ok-number.number.now c.in_ok-number.left.now
    (subst (All Known) c.in_ok-number.ensures.cases.0 c.self.invariant)
