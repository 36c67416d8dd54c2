use Rattle.std.proofs.Common.{sym, ap, ◌∙◌}
use Rattle.nj_text.specs.Inside.Scans.{begins_with_space_byte}
use Rattle.nj_text.proofs.Passed.{no_space_after}
use Rattle.nj_text.proofs.LineStarts.{begun_after_spaces}
use Rattle.nj_text.proofs.line_start.begin_text_line.Goals as goal

pub begin_after_spaces-requires : goal.begin_after_spaces-requires
begin_after_spaces-requires c = ap begins_with_space_byte c.run.ensures.after
    ∙ no_space_after c.args.cursor.rest.now

pub returns : goal.returns
returns c =
    let run = c.run in
    begun_after_spaces c.args.cursor.spot c.args.cursor.rest.now run.result.0.now run.result.1
    c.begin_after_spaces.result run.ensures.whole run.ensures.run run.ensures.spot c.requires
    (sym c.is_empty.ensures ∙ c.if-is_empty.false) c.begin_after_spaces.ensures
