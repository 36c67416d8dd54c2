use Rattle.std.proofs.Common.{◌∙◌, ℕ, List, ap, bytes_eq, option_and_then, position, sym}
use Rattle.std.proofs.lemmas.Option.{same_Some}
use Rattle.nj_edges.specs.Edges.{edge_at, outputs_of}
use Rattle.nj_statements.proofs.JoiningLemmas.{file-first}
use Rattle.nj_graph.proofs.deps_logs.first_output_number.Goals as goal

pub returns : goal.returns
returns c =
    let paths = outputs_of (edge_at c.args.graph.now.edges c.args.edge.0) in
    let found = file-first c.args.graph.now.files c.outputs.result.now paths c.in_ok-output.output.now
    c.outputs.ensures.files (sym c.in_ok-output.ensures.value) in
    c.number.ensures ∙ ap (λ (p : List ℕ). position (bytes_eq p) c.args.log.now.paths)
    (same_Some c.path.result.now found.0 (sym c.path.ensures ∙ found.1))
    ∙ sym (ap (option_and_then (λ (p : List ℕ). position (bytes_eq p) c.args.log.now.paths)) found.2)
