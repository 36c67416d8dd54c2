use Rattle.std.proofs.Common.{◌<◌, ℕ, List, [], unwrap_or, length, slice_get, sym, ap, subst, ◌∙◌}
use Rattle.std.proofs.lemmas.Option.{slice_get_within, same_Some}
use Rattle.nj_edges.specs.Edges.{edge_at, outputs_of}
use Rattle.nj_statements.proofs.JoiningLemmas.{file-first, no-first}
use Rattle.nj_statements.proofs.dyndep_entries.first_output.Goals as goal

pub path-requires : goal.path-requires
path-requires c =
    let files = c.args.edges.now.files in
    let paths = outputs_of (edge_at c.args.edges.now.stated c.args.edge.0) in
    let found = file-first files c.stated_outputs.result.now paths c.in-Some.output.now
    c.stated_outputs.ensures (sym c.in-Some.ensures.value) in
    subst (λ (fs : List (List ℕ)). c.in-Some.output.now.0 < length fs) (sym c.files.ensures.files)
    (slice_get_within files c.in-Some.output.now.0 found.0 found.1)

pub returns-in-Some : goal.returns-in-Some
returns-in-Some c =
    let files = c.args.edges.now.files in
    let paths = outputs_of (edge_at c.args.edges.now.stated c.args.edge.0) in
    let found = file-first files c.stated_outputs.result.now paths c.in-Some.output.now
    c.stated_outputs.ensures (sym c.in-Some.ensures.value) in
    same_Some c.path.result.now found.0 (sym c.path.ensures
    ∙ ap (λ (fs : List (List ℕ)). slice_get fs c.in-Some.output.now.0) c.files.ensures.files ∙ found.1)
    ∙ sym (ap (λ o. unwrap_or o []) found.2)

pub returns-in-None : goal.returns-in-None
returns-in-None c =
    let paths = outputs_of (edge_at c.args.edges.now.stated c.args.edge.0) in
    sym (ap (λ o. unwrap_or o []) (no-first c.args.edges.now.files c.stated_outputs.result.now paths
    c.stated_outputs.ensures (sym c.in-None.ensures.value)))
