use Rattle.std.proofs.Common.{◌≡◌, ◌↔◌, ◌∷◌, ◌++◌, [], cond, length, true, sym, ap, subst, ◌∙◌, append-nil}
use Rattle.std.specs.Prelude.{nat_lt}
use Rattle.nj_names.specs.Files.{path_at}
use Rattle.nj_graph.specs.Graph.{IsGraphOf, edges_of, files_of}
use Rattle.nj_graph.specs.Handles.{GraphEdge, GraphFile, edge_in, edge_of, file_in, file_of}
use Rattle.nj_graph.specs.Undeclared.{input_of_edge}
use Rattle.nj_audit.specs.LoggedInputs.{IsLoggedAlone, finding_of_input}
use Rattle.nj_audit.specs.declared.kinds.Kind.TheVariants.{UndeclaredInput}
use Rattle.nj_audit.specs.Inside.Handles.{finding_at, input_of}
use Rattle.nj_audit.proofs.LoggedLemmas.{both-there, edge-missing, file-missing, is-missing, is-there}
use Rattle.nj_audit.proofs.logged_inputs.push_input.Goals as goal

pub returns-in_default-clause-found : goal.returns-in_default-clause-found
returns-in_default-clause-found c entries graph =
    let g = c.args.graph.now in
    let input = c.args.input in
    let old = c.args.found.now in
    edge-missing g input entries c.args.folder.now old old
    (is-missing (nat_lt input.edge.0 (length (edges_of g))) (edge_in g input.edge.0) c.in_default.ensures)

pub returns-in_default-file_numbered-clause-found :
    goal.returns-in_default-file_numbered-clause-found
returns-in_default-file_numbered-clause-found c entries graph =
    let g = c.args.graph.now in
    let input = c.args.input in
    let old = c.args.found.now in
    let edge = is-there (nat_lt input.edge.0 (length (edges_of g))) (edge_in g input.edge.0)
    (edge_of c.in-Some.edge) c.in-Some.ensures in
    file-missing g input entries c.args.folder.now old old edge.0
    (is-missing (nat_lt input.file.0 (length (files_of g))) (file_in g (path_at (files_of g) input.file))
    c.in_default-file_numbered.ensures)

pub returns-in_ok-push_at-clause-found : goal.returns-in_ok-push_at-clause-found
returns-in_ok-push_at-clause-found c entries graph =
    let g = c.args.graph.now in
    let folder = c.args.folder.now in
    let input = c.args.input in
    let old = c.args.found.now in
    let edge = is-there (nat_lt input.edge.0 (length (edges_of g))) (edge_in g input.edge.0)
    (edge_of c.in-Some.edge) c.in-Some.ensures in
    let file = is-there (nat_lt input.file.0 (length (files_of g)))
    (file_in g (path_at (files_of g) input.file))
    (file_of c.in-Some-file_numbered.file) c.in-Some-file_numbered.ensures in
    let is_alone = c.in_ok-is_logged_alone.field-0 in
    let alone = subst (λ (f : GraphFile). (is_alone ≡ true)
    ↔ IsLoggedAlone g entries folder (input_of input.edge.0 f)) file.1
    (subst (λ (e : GraphEdge). IsGraphOf e.graph entries → (is_alone ≡ true)
    ↔ IsLoggedAlone e.graph entries folder (input_of e.number (file_of c.in-Some-file_numbered.file)))
    edge.1 (c.in_ok-is_logged_alone.ensures.alone entries) graph) in
    let finding = finding_of_input g (input_of_edge (files_of g) input) in
    both-there g input entries folder old c.push_at.new.self edge.0 file.0 is_alone alone
    (c.in_ok-push_at.ensures
    ∙ ap (λ (e : GraphEdge). old ++ finding_at e UndeclaredInput c.path.result.now ∷ []) edge.1
    ∙ ap (λ path. old ++ finding_at (edge_in g input.edge.0) UndeclaredInput path ∷ [])
    (c.path.ensures ∙ ap (λ (f : GraphFile). f.path) file.1)
    ∙ ap (λ b. old ++ cond b (finding ∷ []) []) (sym c.if-branch.true))

pub returns-else-branch-clause-found : goal.returns-else-branch-clause-found
returns-else-branch-clause-found c entries graph =
    let g = c.args.graph.now in
    let folder = c.args.folder.now in
    let input = c.args.input in
    let old = c.args.found.now in
    let edge = is-there (nat_lt input.edge.0 (length (edges_of g))) (edge_in g input.edge.0)
    (edge_of c.in-Some.edge) c.in-Some.ensures in
    let file = is-there (nat_lt input.file.0 (length (files_of g)))
    (file_in g (path_at (files_of g) input.file))
    (file_of c.in-Some-file_numbered.file) c.in-Some-file_numbered.ensures in
    let is_alone = c.in_ok-is_logged_alone.field-0 in
    let alone = subst (λ (f : GraphFile). (is_alone ≡ true)
    ↔ IsLoggedAlone g entries folder (input_of input.edge.0 f)) file.1
    (subst (λ (e : GraphEdge). IsGraphOf e.graph entries → (is_alone ≡ true)
    ↔ IsLoggedAlone e.graph entries folder (input_of e.number (file_of c.in-Some-file_numbered.file)))
    edge.1 (c.in_ok-is_logged_alone.ensures.alone entries) graph) in
    let finding = finding_of_input g (input_of_edge (files_of g) input) in
    both-there g input entries folder old old edge.0 file.0 is_alone alone
    (sym (append-nil old) ∙ ap (λ b. old ++ cond b (finding ∷ []) []) (sym c.if-branch.false))
