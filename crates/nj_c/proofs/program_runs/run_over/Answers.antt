use Rattle.std.proofs.Common.{map, ap, ◌∙◌, rules}
use Rattle.std.specs.Prelude.{string_bytes}
use Rattle.nj_c.specs.SuppliedFiles.{supplied_for}
use Rattle.nj_c.proofs.RunLemmas.{ends-done, ends-other, same-load}
use Rattle.nj_c.proofs.program_runs.run_over.Goals as goal

pub returns-in-Done : goal.returns-in-Done
returns-in-Done c =
    let before = c.args.kept.now in let mid = c.run_program-ended.new.kept in let after =
    c.finish_run.new.kept in
    let ran = c.run_program-ended.ensures in
    record {
      files = λ path. ap (λ f. supplied_for f path) c.finish_run.ensures.files ∙ ran.files path;
      load = same-load before mid after ran.load c.finish_run.ensures.load;
      ends = ends-done (map string_bytes c.args.words.now) before.files mid after c.run_program-ended.result
          c.args.exit.now _ ran.runs c.finish_run.ensures.files (search rules)
          c.in-Done.ensures.finishes;
    }

pub returns-in_default : goal.returns-in_default
returns-in_default c =
    let before = c.args.kept.now in let mid = c.run_program-ended.new.kept in let after =
    c.finish_run.new.kept in
    let ran = c.run_program-ended.ensures in
    record {
      files = λ path. ap (λ f. supplied_for f path) c.finish_run.ensures.files ∙ ran.files path;
      load = same-load before mid after ran.load c.finish_run.ensures.load;
      ends = ends-other (map string_bytes c.args.words.now) before.files mid after c.run_program-ended.result
          c.args.exit.now c.finish_run.result ran.runs c.finish_run.ensures.files
          c.in_default.not-Done c.finish_run.ensures.finishes;
    }
