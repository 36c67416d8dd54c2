use Rattle.std.proofs.Common.{◌≡◌, ◌∙◌, map, sym, ap, subst}
use Rattle.std.proofs.lemmas.Result.{IfOk-weaker}
use Rattle.nj_graph.specs.declared.EdgeNo.{EdgeNo}
use Rattle.nj_graph.specs.Files.{path_at}
use Rattle.nj_graph.specs.Graph.{GraphModel, files_of}
use Rattle.nj_graph.specs.Handles.{edges_in}
use Rattle.nj_questions.specs.Questions.{draw_model}
use Rattle.nj_ask.specs.DiscoveredGraphs.{IsTouched}
use Rattle.nj_ask.specs.Drawings.{IsDrawing}
use Rattle.nj_ask.specs.Inside.Reached.{AreTouched}
use Rattle.nj_ask.proofs.DrawingLemmas.{needed-drawing, text_with, touched-drawing}
use Rattle.nj_ask.proofs.drawing.drawing_of.Goals as goal

pub returns-then-options : goal.returns-then-options
returns-then-options c =
    let known = c.args.known.now in
    let files = c.args.files.now in
    let options = draw_model c.args.options.now in
    let edges = c.deref-then-options.result.now in
    let paths = subst (λ (g : GraphModel). map (path_at (files_of g)) c.numbers-changed.result.now
    ≡ files.paths)
    c.requires.files c.numbers-changed.ensures.paths in
    let numbers = map (λ (e : EdgeNo). e.0) edges in
    let are = subst (λ ps. AreTouched known (IsTouched known ps) edges) paths
    (subst (AreTouched known _) (sym c.deref-then-options.ensures.value) c.in_ok-touched.ensures) in
    IfOk-weaker c.drawing_with.result
    (λ text. text.items ≡ text_with known options files c.requires.files files.graph
    (edges_in known.graph numbers))
    (λ text. IsDrawing known options files.paths text.items)
    (λ text written. touched-drawing known options files c.requires.files
    numbers are.touched are.rises c.if-options.true text.items written)
    c.drawing_with.ensures

pub returns : goal.returns
returns c =
    let known = c.args.known.now in
    let files = c.args.files.now in
    let options = draw_model c.args.options.now in
    let found = c.in_ok-needed.needed in
    let lists = c.in_ok-needed.ensures in
    let given = map (λ (e : EdgeNo). e.0) c.numbers.result.now in
    let numbers = c.numbers.ensures.numbers files.graph lists.numbers (c.edges.ensures ∙ lists.found_are) in
    IfOk-weaker c.drawing_with-2.result
    (λ text. text.items ≡ text_with known options files c.requires.files files.graph
    (edges_in known.graph given))
    (λ text. IsDrawing known options files.paths text.items)
    (λ text written. needed-drawing known options files c.requires.files found lists
    c.if-options.false (edges_in known.graph given)
    (lists.found_are ∙ ap (edges_in files.graph) (sym numbers)
    ∙ ap (λ g. edges_in g given) c.requires.files)
    text.items written)
    c.drawing_with-2.ensures
