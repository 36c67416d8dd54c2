use Rattle.std.proofs.Common.{◌≡◌, ◌<◌, get_or, length, subst, sym}
use Rattle.std.proofs.lemmas.List.{take_all}
use Rattle.std.proofs.lemmas.Option.{slice_get-get_or}
use Rattle.nj_edges.specs.EdgeTables.{EdgeTable}
use Rattle.nj_edges.specs.Inside.EdgesHeld.{paths_at}
use Rattle.nj_edges.specs.Inside.JoiningHeld.{plus_outputs}
use Rattle.nj_edges.proofs.EdgeLemmas.{all-get}
use Rattle.nj_edges.proofs.JoinedLemmas.{outputs-next}
use Rattle.nj_edges.proofs.joined_edges.JoinedEdges.add_outputs.Goals as goal

pub add_output-requires : goal.add_output-requires
add_output-requires c =
    let files = c.args.files.now in let i = c.files.file-index in
    subst (λ (t : EdgeTable). (get_or files i (record { 0 = 0 })).0 < length t.files) (sym c.files.invariant)
    (all-get (λ f. f.0 < length c.args.self.now.files) files i (get_or files i (record { 0 = 0 })) c.requires
    (slice_get-get_or files i (record { 0 = 0 }) c.files-test.true))

pub files-preserved : goal.files-preserved
files-preserved c = outputs-next c.args.self.now c.args.files.now c.files.file-index
    (record { 0 = 0 }) c.files-test.true c.files.self c.add_output.new.self c.files.invariant
    c.in_ok-add_output.ensures

pub returns : goal.returns
returns c = subst (λ ns. c.files.self ≡ plus_outputs c.args.self.now (paths_at c.args.self.now.files ns))
    (take_all c.files.file-index c.args.files.now c.files-test.false) c.files.invariant
