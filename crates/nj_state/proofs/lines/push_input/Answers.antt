use Rattle.std.specs.Prelude.{OnOk}
use Rattle.std.proofs.Common.{◌≡◌, ◌++◌, List, ℕ, Option, ap, subst, sym, ◌∙◌}
use Rattle.std.proofs.lemmas.List.{append-nil}
use Rattle.nj_edges.specs.Edges.{edge_at, inputs_of}
use Rattle.nj_state.specs.StaleLines.{input_text}
use Rattle.nj_state.proofs.LineLemmas.{none_at_place, some_at_place}
use Rattle.nj_state.proofs.lines.push_input.Goals as goal

pub returns-in-Some : goal.returns-in-Some
returns-in-Some c =
    let g = c.args.graph.now in
    let paths = inputs_of (edge_at g.edges c.args.edge.0) in
    subst (λ (o : Option (List ℕ)). OnOk c.push_stale_file.result
    (c.push_stale_file.new.text.items ≡ c.args.text.now.items ++ input_text g.edges o))
    (some_at_place g.files c.inputs.result.now paths c.args.place c.in-Some.file c.inputs.ensures.files
    (sym c.file_in.ensures ∙ c.in-Some.is)) c.push_stale_file.ensures

pub returns-in-None : goal.returns-in-None
returns-in-None c =
    let g = c.args.graph.now in
    let paths = inputs_of (edge_at g.edges c.args.edge.0) in
    let text = c.args.text.now.items in
    sym (ap (λ (o : Option (List ℕ)). text ++ input_text g.edges o)
    (none_at_place g.files c.inputs.result.now paths c.args.place c.inputs.ensures.files
    (sym c.file_in.ensures ∙ c.in-None.is)) ∙ append-nil text)
