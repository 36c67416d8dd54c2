use Rattle.std.proofs.Common.{sym, subst, ◌∙◌, bytes_eq}
use Rattle.std.specs.List.{IsDistinct}
use Rattle.nj_graph.specs.Graph.{files_of}
use Rattle.nj_agreement.proofs.FileNumbers.{same-by-paths}
use Rattle.nj_one_answer.proofs.graph.lists.file_list_numbers.Goals as goal

pub returns : goal.returns
returns c = same-by-paths (files_of c.args.list.now.graph)
    (subst (λ g. IsDistinct bytes_eq (files_of g)) c.graph.ensures c.files-files.ensures.each_path_once)
    c.numbers.result.now c.numbers-2.result.now c.numbers.ensures.known c.numbers-2.ensures.known
    (c.numbers.ensures.paths ∙ sym c.numbers-2.ensures.paths)
