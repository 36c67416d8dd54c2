use Rattle.std.proofs.Common.{◌++◌, ◌∙◌, [], if◌then◌else◌, codes, ap}
use Rattle.std.proofs.lemmas.Result.{on_ok_weaker}
use Rattle.nj_tools.specs.Lines.{line}
use Rattle.nj_tools.specs.Inside.Pieces.{output_lines}
use Rattle.nj_tools.proofs.queries.append_validated.Goals as goal

pub returns : goal.returns
returns c = on_ok_weaker c.append_outputs.result (λ is.
    is ∙ ap (λ none. c.args.text.now.items
    ++ (if none then [] else line (codes "  validation for:") ++ output_lines c.args.users))
    c.if-is_empty.ensures) c.append_outputs.ensures
