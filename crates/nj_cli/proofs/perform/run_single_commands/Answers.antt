use Rattle.std.proofs.Common.{map, string_bytes, subst, sym}
use Rattle.nj_names.specs.Files.{AreFiles}
use Rattle.nj_graph.specs.Graph.{files_of}
use Rattle.nj_requests.specs.Actions.{single_commands}
use Rattle.nj_tools.specs.Errors.{error_of_tool}
use Rattle.nj_cli.proofs.ReturnLemmas.{ReturnsFor-err, singles-failed, singles-answered}
use Rattle.nj_cli.proofs.perform.run_single_commands.Goals as goal

pub returns-in_err-write_single_commands : goal.returns-in_err-write_single_commands
returns-in_err-write_single_commands g c = λ entries is.
    let picked = c.in_ok-targets.ensures.picks entries is in
    let are = subst (λ ns. AreFiles (files_of c.args.graph.now) ns picked.0) (sym c.deref.ensures.value)
    picked.2 in
    ReturnsFor-err entries (single_commands (map string_bytes c.args.words.now))
    (g.O.Sink.state c.args.out.now) (g.O.Sink.state c.write_single_commands.new.out)
    c.from_residual-in_err-write_single_commands.result
    (error_of_tool c.in_err-write_single_commands.field-0.0)
    c.from_residual-in_err-write_single_commands.ensures.1
    (singles-failed entries c.args.graph.now is picked.0 c.deref.result.now are
    (map string_bytes c.args.words.now) picked.1 (g.O.Sink.state c.args.out.now)
    (g.O.Sink.state c.write_single_commands.new.out) c.in_err-write_single_commands.field-0.0
    (c.in_err-write_single_commands.ensures entries is))

pub returns : goal.returns
returns g c = λ entries is.
    let picked = c.in_ok-targets.ensures.picks entries is in
    let are = subst (λ ns. AreFiles (files_of c.args.graph.now) ns picked.0) (sym c.deref.ensures.value)
    picked.2 in
    singles-answered entries c.args.graph.now is picked.0 c.deref.result.now are
    (map string_bytes c.args.words.now) picked.1 (g.O.Sink.state c.args.out.now)
    (g.O.Sink.state c.write_single_commands.new.out) (c.in_ok-write_single_commands.ensures entries is)
