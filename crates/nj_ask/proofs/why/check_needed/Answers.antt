use Rattle.std.proofs.Common.{◌≡◌, Bool, true, List, [], ◌∷◌, ℕ, Some, map, slice_get, ap, subst, ◌∙◌}
use Rattle.std.specs.Prelude.{IfErr, IfOk}
use Rattle.nj_graph.specs.declared.FileNo.{FileNo}
use Rattle.nj_graph.specs.Files.{path_at, AreFiles}
use Rattle.nj_graph.specs.Graph.{GraphModel, files_of}
use Rattle.nj_graph.specs.Handles.{file_of}
use Rattle.nj_edges.specs.EdgeGraphs.{EdgeGraph}
use Rattle.nj_needs.specs.Growing.{grown_targets}
use Rattle.nj_ask.specs.Answers.{HasDepfileFault, IsClear, needed_from}
use Rattle.nj_ask.specs.Inside.Failures.{FailsBy}
use Rattle.nj_ask.specs.declared.status.Status.TheVariants.{Fault}
use Rattle.nj_ask.proofs.WhyLemmas.{needed-grown}
use Rattle.nj_ask.proofs.why.check_needed.Goals as goal

-- the paths of the grown targets
with-validations : (g h : GraphModel) (view : EdgeGraph) (wide : Bool) (number : FileNo) (path : List ℕ)
    (found given : List FileNo) → view ≡ g.built.graph → h ≡ g → slice_get (files_of h) number.0 ≡ Some path
    → wide ≡ true → given ≡ found
    → AreFiles view.files found (grown_targets view.edges (map (path_at view.files) (number ∷ [])))
    → map (path_at (files_of g)) given ≡ needed_from g wide path
with-validations g h view wide number path found given view-is same at is lent are =
    ap (map (path_at (files_of g))) lent ∙ needed-grown g wide number path
    (subst (λ (x : GraphModel). slice_get (files_of x) number.0 ≡ Some path) same at) found is
    (subst (λ (v : EdgeGraph). AreFiles v.files found
    (grown_targets v.edges (map (path_at v.files) (number ∷ [])))) view-is are)

pub returns-then-validations-clause-clear : goal.returns-then-validations-clause-clear
returns-then-validations-clause-clear c =
    let known = c.args.known.now in
    let file = file_of c.args.file in
    let paths = with-validations known.graph file.graph c.deref.result.now c.args.validations c.number.result
    file.path c.in_ok-grown.grown.items c.deref-then-validations.result.now c.deref.ensures c.requires
    c.number.ensures.number c.if-validations.true c.deref-then-validations.ensures.value
    c.in_ok-grown.ensures.grown in
    subst (λ ps. IfOk c.check_depfiles.result (λ _. IsClear known ps)) paths c.check_depfiles.ensures.clear

pub returns-then-validations-clause-refused : goal.returns-then-validations-clause-refused
returns-then-validations-clause-refused c =
    let known = c.args.known.now in
    let file = file_of c.args.file in
    let paths = with-validations known.graph file.graph c.deref.result.now c.args.validations c.number.result
    file.path c.in_ok-grown.grown.items c.deref-then-validations.result.now c.deref.ensures c.requires
    c.number.ensures.number c.if-validations.true c.deref-then-validations.ensures.value
    c.in_ok-grown.ensures.grown in
    subst (λ ps. IfErr c.check_depfiles.result (FailsBy Fault (HasDepfileFault known ps))) paths
    c.check_depfiles.ensures.refused
