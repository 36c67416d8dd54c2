use Rattle.std.proofs.Common.{map, string_bytes, subst, sym}
use Rattle.nj_names.specs.Files.{AreFiles}
use Rattle.nj_graph.specs.Graph.{files_of}
use Rattle.nj_requests.specs.Actions as ask
use Rattle.nj_tools.specs.Errors.{error_of_tool}
use Rattle.nj_cli.proofs.ReturnLemmas.{ReturnsFor-err, inputs-failed, inputs-answered}
use Rattle.nj_cli.proofs.perform.run_inputs.Goals as goal

pub returns-in_err-write_inputs : goal.returns-in_err-write_inputs
returns-in_err-write_inputs g c = λ entries is.
    let picked = c.in_ok-targets.ensures.picks entries is in
    let are = subst (λ ns. AreFiles (files_of c.args.graph.now) ns picked.0) (sym c.deref.ensures.value)
    picked.2 in
    ReturnsFor-err entries (ask.inputs (map string_bytes c.args.words.now) c.args.validations c.args.style)
    (g.O.Sink.state c.args.out.now) (g.O.Sink.state c.write_inputs.new.out)
    c.from_residual-in_err-write_inputs.result (error_of_tool c.in_err-write_inputs.field-0.0)
    c.from_residual-in_err-write_inputs.ensures.1
    (inputs-failed entries c.args.graph.now is picked.0 c.deref.result.now are
    (map string_bytes c.args.words.now) c.args.validations picked.1 c.args.style
    (g.O.Sink.state c.args.out.now) (g.O.Sink.state c.write_inputs.new.out)
    c.in_err-write_inputs.field-0.0 c.in_err-write_inputs.ensures)

pub returns : goal.returns
returns g c = λ entries is.
    let picked = c.in_ok-targets.ensures.picks entries is in
    let are = subst (λ ns. AreFiles (files_of c.args.graph.now) ns picked.0) (sym c.deref.ensures.value)
    picked.2 in
    inputs-answered entries c.args.graph.now is picked.0 c.deref.result.now are
    (map string_bytes c.args.words.now) c.args.validations picked.1 c.args.style
    (g.O.Sink.state c.args.out.now) (g.O.Sink.state c.write_inputs.new.out) c.in_ok-write_inputs.ensures
