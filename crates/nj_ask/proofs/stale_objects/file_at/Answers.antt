use Rattle.std.proofs.Common.{option_map, ap, ◌∙◌}
use Rattle.nj_names.specs.Files.{path_at}
use Rattle.nj_ask.proofs.ObjectLemmas.{path-at-place}
use Rattle.nj_ask.proofs.stale_objects.file_at.Goals as goal

pub returns-clause-path : goal.returns-clause-path
returns-clause-path c = λ paths are.
    let g = c.args.graph.now in
    ap (option_map (path_at g.files)) c.number_at.ensures
    ∙ path-at-place g.files c.args.files.now paths c.args.place are
