use Rattle.nj_graph.specs.Handles.{edge_of, file_of}
use Rattle.nj_keys.proofs.MakerLemmas.{first-makes, none-makes}
use Rattle.nj_keys.proofs.keys.missing_maker.Goals as goal

pub returns-in-Some-maker_without_key-clause-found : goal.returns-in-Some-maker_without_key-clause-found
returns-in-Some-maker_without_key-clause-found c =
    let maker = edge_of c.in-Some-maker_without_key.maker in
    c.files.invariant.fewer maker (first-makes c.files.files (file_of c.in-Some.file) maker c.in-Some.ensures
    c.in-Some-maker_without_key.ensures.maker)

pub returns-clause-none : goal.returns-clause-none
returns-clause-none c edge makes missing =
    none-makes c.files.files edge c.in_default.ensures (c.files.invariant.left edge makes missing)
