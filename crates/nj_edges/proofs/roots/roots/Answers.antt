use Rattle.std.proofs.Common.{◌≡◌, ◌∙◌, not, false, slice_index_or, subst, sym}
use Rattle.std.specs.Global.{Vec}
use Rattle.std.specs.List.{filter}
use Rattle.std.proofs.lemmas.Result.{IfOk-weaker}
use Rattle.nj_names.specs.declared.files.FileNo.{FileNo}
use Rattle.nj_edges.specs.Inside.EdgesHeld.{has_number}
use Rattle.nj_edges.specs.Inside.RootsHeld.{AreFlags}
use Rattle.nj_edges.proofs.RootLemmas.{flags-roots}
use Rattle.nj_edges.proofs.roots.roots.Goals as goal

pub returns : goal.returns
returns c =
    let are = subst (AreFlags c.args.file_count c.args.inputs.now) (sym c.deref.ensures.value)
    c.in_ok-used.ensures in
    IfOk-weaker c.unflagged.result
    (λ (rest : Vec FileNo). rest.items ≡ filter (λ file. not (slice_index_or c.deref.result.now file.0 false))
    c.args.outputs.now)
    (λ (rest : Vec FileNo). rest.items ≡ filter (λ file. not (has_number file.0 c.args.inputs.now))
    c.args.outputs.now)
    (λ rest h. h ∙ flags-roots c.args.file_count c.args.outputs.now c.args.inputs.now c.deref.result.now are
    c.requires.outputs)
    c.unflagged.ensures
