use Rattle.nj_graph.specs.Handles.{file_of}
use Rattle.nj_tools.proofs.CompdbLemmas.{first_is, first_none}
use Rattle.nj_tools.proofs.compdb.first_path.Goals as goal

pub returns-in-Some : goal.returns-in-Some
returns-in-Some c graph paths are = rw c.path.ensures
    (first_is c.args.files (file_of c.in-Some.file) graph paths c.in-Some.ensures are)

pub returns-in-None : goal.returns-in-None
returns-in-None c graph paths are = first_none c.args.files graph paths c.in-None.ensures are
