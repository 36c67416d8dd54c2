use Rattle.std.proofs.Common.{refl, inl, subst, ◌∙◌}
use Rattle.nj_cli.specs.Reported.{Reported}
use Rattle.nj_cli.proofs.Reports.{ReportsMisuse-other}
use Rattle.nj_cli.proofs.report.report_misuse.Goals as goal

pub returns-in-Ok : goal.returns-in-Ok
returns-in-Ok g c =
    ReportsMisuse-other _ _ _ _ c.in_default.not-OutOfMemory
    (inl (
      subst (Reported (g.E.Sink.state c.args.err.now) (g.E.Sink.state c.report_line.new.err))
          (c.as_slice.ensures.value ∙ c.in-Ok.ensures) c.report_line.ensures,
      refl,
    ))
