use Rattle.std.proofs.Common.{map, ap, ◌∙◌}
use Rattle.std.specs.Prelude.{string_bytes}
use Rattle.nj_c.proofs.RunLemmas.{not-run, runs-kept}
use Rattle.nj_c.proofs.program_runs.run_text.Goals as goal

pub returns-in-Ok : goal.returns-in-Ok
returns-in-Ok c =
    let begun = c.forget_run.ensures in let over = c.run_over.ensures in
    runs-kept c.args.kept.now c.forget_run.new.kept c.run_over.new.kept c.args.text.now
    (map string_bytes c.deref.result.now) c.args.exit.now c.run_over.new.exit c.run_over.result
    c.in-Ok.ensures.text begun.files begun.load
    (ap (map string_bytes) c.deref.ensures.value ∙ c.in-Ok.ensures.words) over.files
    over.load over.ends

pub returns-in-Err : goal.returns-in-Err
returns-in-Err c =
    let begun = c.forget_run.ensures in
    not-run c.args.kept.now c.forget_run.new.kept c.args.text.now c.args.exit.now c.in-Err.status begun.files
    begun.load begun.run begun.wanted c.in-Err.ensures.refused
