use Rattle.std.proofs.Common.{◌≡◌, ◌∷◌, [], ◌++◌, ℕ, Bool, true, false, find, is_some}
use Rattle.std.proofs.Common.{List, Option, option_map, slice_get, unwrap_or, refl, sym}
use Rattle.std.proofs.Common.{ap, ◌∙◌, append-nil}
use Rattle.std.specs.List.{cons_option}
use Rattle.std.proofs.lemmas.Result.{on_ok_weaker}
use Rattle.nj_graph.specs.Edges.{maker_of, users_of}
use Rattle.nj_graph.specs.Graph.{GraphModel, edges_of, files_of}
use Rattle.nj_graph.specs.Handles.{GraphFile, edge_in, edge_of, file_of, number_of}
use Rattle.nj_audit.specs.Audit.{is_set, path_of}
use Rattle.nj_audit.specs.Findings.{FindingModel, edge_finding}
use Rattle.nj_audit.specs.declared.kinds.Kind.TheVariants.{MissingSource}
use Rattle.nj_audit.specs.Inside.Handles.{missing_file}
use Rattle.nj_audit.proofs.HandleLemmas.{find-mapped, is-mapped, made-by, made-by-none}
use Rattle.nj_audit.proofs.sources.push_if_missing.Goals as goal
use Rattle.nj_audit.proofs.sources.push_if_missing.Goals.{After-first_set}

-- the finding about a missing source
abbrev found : (serving : List Bool) → GraphFile → Option FindingModel
found serving file = option_map (λ edge. edge_finding file.graph edge MissingSource file.path)
    (find (is_set serving) (users_of (edges_of file.graph) file.path))

missing-is : (missing serving : List Bool) (file : GraphFile) → is_set missing (number_of file) ≡ true
    → path_of file.graph (number_of file) ≡ file.path
    → is_some (maker_of (edges_of file.graph) file.path) ≡ false
    → missing_file missing serving file ≡ found serving file
missing-is missing serving file set named unmade = rw (set, named, unmade) refl

-- the first user that serves a command
abbrev user : (serving : List Bool) → GraphFile → Option ℕ
user serving file = find (is_set serving) (users_of (edges_of file.graph) file.path)

missing-here : (c : After-first_set) → missing_file c.args.missing.now c.args.serving.now
    (file_of c.args.file)
    ≡ found c.args.serving.now (file_of c.args.file)
missing-here c =
    let file = file_of c.args.file in
    let place = sym c.number.ensures.place in
    missing-is c.args.missing.now c.args.serving.now file
    (ap (is_set c.args.missing.now) place ∙ sym c.is_set.ensures ∙ c.if-not-is_set.false)
    (ap (λ o. unwrap_or o []) (ap (slice_get (files_of file.graph)) place ∙ c.number.ensures.number))
    (sym (is-mapped (edge_in file.graph) (maker_of (edges_of file.graph) file.path))
    ∙ ap is_some (sym c.maker.ensures) ∙ is-mapped edge_of c.maker.result ∙ sym c.is_some.ensures
    ∙ c.if-is_some.false)

user-here : (c : After-first_set) → option_map edge_of c.first_set.result
    ≡ option_map (edge_in c.args.file.graph.now) (user c.args.serving.now (file_of c.args.file))
user-here c =
    let file = file_of c.args.file in
    c.first_set.ensures ∙ ap (find (λ edge. is_set c.args.serving.now edge.number)) c.users.ensures
    ∙ find-mapped (edge_in file.graph) (λ edge. is_set c.args.serving.now edge.number)
    (users_of (edges_of file.graph) file.path)

pub returns-in-Some : goal.returns-in-Some
returns-in-Some c =
    let file = file_of c.args.file in
    let edge = edge_of c.in-Some.edge in
    let made = made-by file.graph (user c.args.serving.now file) edge
    (sym (ap (option_map edge_of) c.in-Some.is) ∙ user-here (goal.at.returns-in-Some c).After-first_set) in
    on_ok_weaker c.push_at.result
    (λ is. is ∙ ap (λ path. c.args.found.now ++ edge_finding edge.graph edge.number MissingSource path ∷ [])
    c.path.ensures ∙ ap (λ (g : GraphModel). c.args.found.now
    ++ edge_finding g edge.number MissingSource file.path ∷ []) made.0
    ∙ ap (λ o. c.args.found.now ++ cons_option (option_map (λ edge.
    edge_finding file.graph edge MissingSource file.path) o) []) (sym made.1)
    ∙ ap (λ o. c.args.found.now ++ cons_option o [])
    (sym (missing-here (goal.at.returns-in-Some c).After-first_set))) c.push_at.ensures

pub returns-in-None : goal.returns-in-None
returns-in-None c =
    let file = file_of c.args.file in
    let none = made-by-none file.graph (user c.args.serving.now file)
    (sym (ap (option_map edge_of) c.in-None.is) ∙ user-here (goal.at.returns-in-None c).After-first_set) in
    sym (append-nil c.args.found.now)
    ∙ ap (λ o. c.args.found.now ++ cons_option (option_map (λ edge.
    edge_finding file.graph edge MissingSource file.path) o) []) (sym none)
    ∙ ap (λ o. c.args.found.now ++ cons_option o [])
    (sym (missing-here (goal.at.returns-in-None c).After-first_set))
