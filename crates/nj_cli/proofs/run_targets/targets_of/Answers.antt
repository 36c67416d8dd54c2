use Rattle.std.proofs.Common.{List, Bool, map, string_bytes, subst, sym}
use Rattle.nj_edges.specs.EdgeGraphs.{EdgeGraph}
use Rattle.nj_names.specs.Files.{AreFiles, path_at}
use Rattle.nj_names.specs.declared.files.FileNo.{FileNo}
use Rattle.nj_graph.specs.Graph.{edges_of, files_of}
use Rattle.nj_needs.specs.Growing.{grown_targets}
use Rattle.nj_cli.specs.Targets.{edges_by_path}
use Rattle.nj_cli.specs.Inside.RunSteps.{with_validations}
use Rattle.nj_cli.proofs.ReturnLemmas.{grown-are, targets-picked}
use Rattle.nj_cli.proofs.run_targets.targets_of.Goals as goal

pub returns-then-validations-clause-picks : goal.returns-then-validations-clause-picks
returns-then-validations-clause-picks c = λ entries is.
    let g = c.args.graph.now in
    let picked = c.in_ok-targets.ensures.picks in
    let items = c.in_ok-grow_targets.field-0.items in
    let of_graph = subst (λ (h : EdgeGraph). AreFiles h.files items
    (grown_targets h.edges (map (path_at h.files) c.deref-then-validations.result.now))) c.deref.ensures
    c.in_ok-grow_targets.ensures.grown in
    let grown = subst (λ (ns : List FileNo). AreFiles (files_of g) items
    (grown_targets (edges_of g) (map (path_at (files_of g)) ns))) c.deref-then-validations.ensures.value
    of_graph in
    let all = grown-are entries g is picked.0 c.in_ok-targets.targets.items items picked.2 grown in
    targets-picked entries g is c.args.validations (map string_bytes c.args.words.now) picked.0 items picked.1
    (subst (λ (b : Bool). AreFiles (files_of g) items (with_validations b (edges_by_path entries) picked.0))
    (sym c.if-validations.true) all)

pub returns-clause-picks : goal.returns-clause-picks
returns-clause-picks c = λ entries is.
    let g = c.args.graph.now in
    let picked = c.in_ok-targets.ensures.picks in
    let items = c.in_ok-targets.targets.items in
    targets-picked entries g is c.args.validations (map string_bytes c.args.words.now) picked.0 items picked.1
    (subst (λ (b : Bool). AreFiles (files_of g) items (with_validations b (edges_by_path entries) picked.0))
    (sym c.if-validations.false) picked.2)
