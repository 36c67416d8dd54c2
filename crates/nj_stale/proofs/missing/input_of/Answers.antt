use Rattle.std.proofs.Common.{None, ap, sym, ◌∙◌}
use Rattle.std.specs.Prelude.{if◌then◌else◌, option_map}
use Rattle.nj_names.specs.Files.{path_at}
use Rattle.nj_edges.specs.Edges.{edge_at, inputs_of}
use Rattle.nj_stale.specs.Missing.{first_lost}
use Rattle.nj_stale.specs.Numbered.{evidence_of}
use Rattle.nj_stale.proofs.MissingLemmas.{found_lost}
use Rattle.nj_stale.proofs.missing.input_of.Goals as goal

pub returns-then-has_both : goal.returns-then-has_both
returns-then-has_both c = λ facts lines is_stated are.
    let g = c.args.graph.now in
    let times = c.args.times.now in
    let paths = inputs_of (edge_at g.edges c.args.edge.0) in
    ap (option_map (path_at g.files)) c.first_lost.ensures
    ∙ found_lost g facts times lines c.args.stated.now is_stated c.requires.distinct c.requires.times are
    c.inputs.result.now paths c.inputs.ensures.files
    ∙ sym (ap (λ b. if b then first_lost (evidence_of g facts times lines) is_stated paths else None)
    (sym c.has_both.ensures ∙ c.if-has_both.true))
