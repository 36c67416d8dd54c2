use Rattle.std.proofs.Common.{◌++◌, [], if◌then◌else◌, codes, ap}
use Rattle.std.proofs.lemmas.Result.{on_ok_weaker}
use Rattle.nj_tools.specs.Lines.{line}
use Rattle.nj_tools.specs.Inside.Pieces.{path_lines}
use Rattle.nj_tools.proofs.TextLemmas.{added_is}
use Rattle.nj_tools.proofs.queries.append_validations.Goals as goal

pub returns : goal.returns
returns c = on_ok_weaker c.append_paths.result (λ is.
    added_is c.args.text.now.items _ _ c.in_ok-append_line.ensures is
    (ap (λ none. if none then [] else line (codes "  validations:") ++ path_lines (codes "    ") c.args.files)
    c.if-is_empty.ensures)) c.append_paths.ensures
