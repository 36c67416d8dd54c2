use Rattle.std.proofs.Common.{◌<◌, length, subst, sym}
use Rattle.nj_names.specs.Files.{path_at}
use Rattle.nj_edges.specs.MoreInputs.{InputTable}
use Rattle.nj_edges.proofs.EdgeLemmas.{get-path}
use Rattle.nj_edges.proofs.MarkLemmas.{marks-known}
use Rattle.nj_edges.proofs.more_inputs.JoiningInputs.add_known_input.Goals as goal

pub invariant_of-self-2 : goal.invariant_of-self-2
invariant_of-self-2 c =
    let table : InputTable = record { table = c.self.inside.edges; edge = c.self.inside.edge } in
    let below : c.args.file.0 < length c.self.inside.edges.files =
    subst (λ (t : InputTable). c.args.file.0 < length t.table.files) (sym c.self.view_is) c.requires in
    let path = path_at c.self.inside.edges.files c.args.file in
    let here = get-path c.self.inside.edges.files c.args.file below in
    marks-known table c.self.inside.marks.items c.self.invariant path c.args.file below here
    c.add_known_input.new.self (c.in_ok-add_known_input.ensures.added path here)
