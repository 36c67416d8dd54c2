use Rattle.std.proofs.Common.{ap, ◌∙◌, drop}
use Rattle.nj_text.specs.Inside.Runs.{in_run}
use Rattle.nj_text.proofs.Lists.{drop-prefix_len}
use Rattle.nj_text.proofs.runs.split_run.Goals as goal

pub returns-clause-after : goal.returns-clause-after
returns-clause-after c =
    let bytes = c.args.bytes.now in
    c.split_at.ensures.back ∙ ap (λ n. drop n bytes) c.run_length.ensures.length
    ∙ drop-prefix_len (in_run c.args.run) bytes
