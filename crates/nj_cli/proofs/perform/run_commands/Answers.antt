use Rattle.std.proofs.Common.{Ok, Err, map, string_bytes, subst, sym}
use Rattle.nj_names.specs.Files.{AreFiles}
use Rattle.nj_graph.specs.Graph.{files_of}
use Rattle.nj_needs.specs.Resuming.{ResumeIs}
use Rattle.nj_requests.specs.Actions.{commands}
use Rattle.nj_tools.specs.Errors.{error_of_mark, error_of_tool}
use Rattle.nj_cli.proofs.ReturnLemmas.{ReturnsFor-err, commands-not_resumed, commands-failed}
use Rattle.nj_cli.proofs.ReturnLemmas.{commands-answered}
use Rattle.nj_cli.proofs.perform.run_commands.Goals as goal

pub returns-in_err-needs : goal.returns-in_err-needs
returns-in_err-needs g c = λ entries is.
    let picked = c.in_ok-targets.ensures.picks entries is in
    let are = subst (λ ns. AreFiles (files_of c.args.graph.now) ns picked.0) (sym c.deref-2.ensures.value)
    picked.2 in
    let resumes = subst (λ h. ResumeIs h c.deref-2.result.now c.args.start.now (Err c.in_err-needs.field-0.0))
    c.deref.ensures c.in_err-needs.ensures in
    ReturnsFor-err entries (commands (map string_bytes c.args.words.now) c.args.validations c.args.take
    c.args.start.now) (g.O.Sink.state c.args.out.now) (g.O.Sink.state c.args.out.now)
    c.from_residual-in_err-needs.result (error_of_mark c.in_err-needs.field-0.0)
    c.from_residual-in_err-needs.ensures.1
    (commands-not_resumed entries c.args.graph.now is picked.0 c.deref-2.result.now are
    (map string_bytes c.args.words.now) c.args.validations picked.1 c.args.take c.args.start.now
    (g.O.Sink.state c.args.out.now) c.in_err-needs.field-0.0 resumes)

pub returns-in_err-mark : goal.returns-in_err-mark
returns-in_err-mark g c = λ entries is.
    let picked = c.in_ok-targets.ensures.picks entries is in
    let are = subst (λ ns. AreFiles (files_of c.args.graph.now) ns picked.0) (sym c.deref-2.ensures.value)
    picked.2 in
    let resumes = subst (λ h. ResumeIs h c.deref-2.result.now c.args.start.now (Ok c.in_ok-needs.needs))
    c.deref.ensures c.in_ok-needs.ensures in
    ReturnsFor-err entries (commands (map string_bytes c.args.words.now) c.args.validations c.args.take
    c.args.start.now) (g.O.Sink.state c.args.out.now) (g.O.Sink.state c.write_commands.new.out)
    c.from_residual-in_err-mark.result (error_of_tool c.in_err-mark.field-0.0)
    c.from_residual-in_err-mark.ensures.1
    (commands-failed entries c.args.graph.now is picked.0 c.deref-2.result.now are
    (map string_bytes c.args.words.now) c.args.validations picked.1 c.args.take c.args.start.now resumes.0
    c.in_ok-needs.needs resumes.1 (g.O.Sink.state c.args.out.now)
    (g.O.Sink.state c.write_commands.new.out) c.in_err-mark.field-0.0
    (c.in_err-mark.ensures.writes entries is))

pub returns : goal.returns
returns g c = λ entries is.
    let picked = c.in_ok-targets.ensures.picks entries is in
    let are = subst (λ ns. AreFiles (files_of c.args.graph.now) ns picked.0) (sym c.deref-2.ensures.value)
    picked.2 in
    let resumes = subst (λ h. ResumeIs h c.deref-2.result.now c.args.start.now (Ok c.in_ok-needs.needs))
    c.deref.ensures c.in_ok-needs.ensures in
    commands-answered entries c.args.graph.now is picked.0 c.deref-2.result.now are
    (map string_bytes c.args.words.now) c.args.validations picked.1 c.args.take c.args.start.now resumes.0
    c.in_ok-needs.needs resumes.1 (g.O.Sink.state c.args.out.now)
    (g.O.Sink.state c.write_commands.new.out) c.in_ok-mark.mark (c.in_ok-mark.ensures.writes entries is)
    c.in_ok-mark.ensures.mark
