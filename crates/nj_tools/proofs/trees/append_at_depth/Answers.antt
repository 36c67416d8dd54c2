use Rattle.std.proofs.Common.{◌++◌, ◌∙◌, [], ap, append_assoc, codes, subst, sym}
use Rattle.std.proofs.lemmas.Result.{on_ok_weaker}
use Rattle.nj_edges.specs.Edges.{maker_of}
use Rattle.nj_graph.specs.Graph.{IsGraphOf, edges_of}
use Rattle.nj_graph.specs.Handles.{edge_of, file_of}
use Rattle.nj_tools.specs.Lines.{line}
use Rattle.nj_tools.specs.Listings.{indent}
use Rattle.nj_tools.proofs.EdgeLists.{maker-none, maker-some}
use Rattle.nj_tools.proofs.TextLemmas.{added, added_is}
use Rattle.nj_tools.proofs.TreeLemmas.{made-line, source-line}
use Rattle.nj_tools.proofs.trees.append_at_depth.Goals as goal

pub returns-in-Some : goal.returns-in-Some
returns-in-Some c entries graph =
    let base = c.args.text.now.items in
    let g = c.args.file.graph.now in
    let path = (file_of c.args.file).path in
    let maker = maker_of (edges_of g) path in
    let edge = edge_of c.in-Some.edge in
    let made = maker-some g maker edge c.in-Some.ensures in
    let rule = c.rule_name.ensures entries (subst (λ h. IsGraphOf h entries) (sym made.1) graph) in
    on_ok_weaker c.append_line.result (λ is.
    added_is base _ _ (added base (indent c.args.depth) path c.in_ok-append_indent.ensures
    (c.in_ok-extend_from_slice.ensures.items ∙ ap (λ p. c.append_indent.new.text.items ++ p) c.path.ensures))
    is
    (append_assoc (indent c.args.depth) path (line (codes ": " ++ c.rule_name.result.now))
    ∙ ap (λ t. indent c.args.depth ++ t) (made-line entries maker edge.number path _ made.0 rule)))
    c.append_line.ensures

pub returns-in-None : goal.returns-in-None
returns-in-None c entries graph =
    let base = c.args.text.now.items in
    let g = c.args.file.graph.now in
    let path = (file_of c.args.file).path in
    let maker = maker_of (edges_of g) path in
    on_ok_weaker c.append_line-in-None.result (λ is.
    added_is base _ _ (added base (indent c.args.depth) path c.in_ok-append_indent.ensures
    (c.in_ok-extend_from_slice.ensures.items ∙ ap (λ p. c.append_indent.new.text.items ++ p) c.path.ensures))
    is
    (append_assoc (indent c.args.depth) path (line [])
    ∙ ap (λ t. indent c.args.depth ++ t) (source-line entries maker path
    (maker-none g maker c.in-None.ensures))))
    c.append_line-in-None.ensures
