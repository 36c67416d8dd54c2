use Rattle.std.proofs.Common.{◌≡◌, ◌<◌, ◌≤◌, ◌+◌, ◌*◌, ◌++◌, ◌∷◌, ◌∙◌, [], ap, arith, length, refl, rules}
use Rattle.std.proofs.Common.{subst, sym}
use Rattle.nj_graph.specs.Graph.{IsGraphOf, edges_of}
use Rattle.nj_graph.specs.Handles.{file_of}
use Rattle.nj_tools.specs.Inside.Trees.{AreIn, rows_lines, rows_of, rows_text}
use Rattle.nj_tools.proofs.OutputLemmas.{adds_block, leaves_all, leaves_next, leaves_none, leaves_same}
use Rattle.nj_tools.proofs.OutputLemmas.{stops-with, stops_block, stops_memory, stops_next}
use Rattle.nj_tools.proofs.TreeLemmas.{empty-is, few-after, first-in, first-rows, graph-is, in-after}
use Rattle.nj_tools.proofs.TreeLemmas.{in-empty}
use Rattle.nj_tools.proofs.TreeLemmas.{left-after, left-empty, left-none, smaller-after, smaller-empty}
use Rattle.nj_tools.proofs.trees.write_trees.Goals as goal

pub files-init : goal.files-init
files-init g c =
    let rows = c.push.new.self.items in
    let are = c.in_ok-push.ensures.items
    ∙ ap (λ rs. rs ++ c.root_files.result ∷ []) c.new-rows.ensures.items
    ∙ ap (λ row. row ∷ []) c.root_files.ensures in
    let count : length rows ≡ 1 = ap length are in
    record {
      same = search rules;
      left = λ entries graph.
          leaves_all _ _ _ (sym (first-rows entries c.args.graph.now (c.levels_below-below.result + 1)
          c.args.depth
          rows graph c.levels_below-below.ensures are));
      all = first-in c.args.graph.now rows _ are;
      levels = omega (arith, count);
    }

pub files-smaller-in_default-next : goal.files-smaller-in_default-next
files-smaller-in_default-next g c =
    smaller-empty c.args.graph.now (c.levels_below-below.result + 1) c.files.rows.items c.pop.new.self.items
    c.in-Some.row c.in-Some.ensures.items c.in_default-next.ensures.steps.0

pub files-preserved-in_default-next : goal.files-preserved-in_default-next
files-preserved-in_default-next g c =
    let levels = c.levels_below-below.result + 1 in
    let rows = c.files.rows.items in
    let rest = c.pop.new.self.items in
    let popped = c.in-Some.ensures.items in
    let none = c.in_default-next.ensures.steps.0 in
    let count : length rows ≡ length rest + 1 = search rules in
    record {
      same = search rules;
      left = λ entries graph.
          leaves_same _ (c.files.invariant.left entries graph)
          (left-empty c.args.graph.now levels rows rest c.in-Some.row popped none entries);
      all = in-empty c.args.graph.now levels rows rest c.in-Some.row popped none c.files.invariant.all;
      levels = omega (arith, count, c.files.invariant.levels);
    }

pub returns-in_err-append_at_depth-clause-text : goal.returns-in_err-append_at_depth-clause-text
returns-in_err-append_at_depth-clause-text g c entries graph =
    stops-with c.from_residual-in_err-append_at_depth.result c.from_residual-in_err-append_at_depth.ensures.1
    (stops_memory (c.files.invariant.left entries graph) _ refl)

pub returns-in_err-write_block-clause-text : goal.returns-in_err-write_block-clause-text
returns-in_err-write_block-clause-text g c entries graph =
    let h = c.args.graph.now in
    let levels = c.levels_below-below.result + 1 in
    let rows = c.files.rows.items in
    let rest = c.pop.new.self.items in
    let popped = c.in-Some.ensures.items in
    let count : length rows ≡ length rest + 1 = search rules in
    let below : length rest < levels = omega (arith, count, c.files.invariant.levels) in
    let file = file_of c.in-Some-next.file in
    let others = c.next.new.self in
    let first = c.in-Some-next.ensures.steps in
    let all = c.files.invariant.all in
    let depth : c.len.result ≡ length rest = search rules in
    let of_graph = subst (λ x. IsGraphOf x entries)
    (sym (graph-is h levels rows rest c.in-Some.row popped file others first all)) graph in
    stops-with c.from_residual-in_err-write_block.result c.from_residual-in_err-write_block.ensures.1
    (stops_next _ _ (c.files.invariant.left entries graph)
    (left-after h levels rows rest c.in-Some.row popped file others first all below entries c.len.result depth
    graph)
    (stops_block _ refl (c.in_ok-append_at_depth.ensures entries of_graph) c.in_err-write_block.ensures.text))

pub files-smaller : goal.files-smaller
files-smaller g c =
    let h = c.args.graph.now in
    let levels = c.levels_below-below.result + 1 in
    let rows = c.files.rows.items in
    let rest = c.pop.new.self.items in
    let popped = c.in-Some.ensures.items in
    let count : length rows ≡ length rest + 1 = search rules in
    let below : length rest < levels = omega (arith, count, c.files.invariant.levels) in
    let file = file_of c.in-Some-next.file in
    let others = c.next.new.self in
    let first = c.in-Some-next.ensures.steps in
    let all = c.files.invariant.all in
    subst (λ rs. 2 * rows_lines (edges_of h) levels 0 (rows_of rs) + length rs
    < 2 * rows_lines (edges_of h) levels 0 (rows_of rows) + length rows) (sym c.in_ok-push_rows.ensures)
    (smaller-after h levels rows rest c.in-Some.row popped file others first all below)

pub files-preserved : goal.files-preserved
files-preserved g c =
    let h = c.args.graph.now in
    let levels = c.levels_below-below.result + 1 in
    let rows = c.files.rows.items in
    let rest = c.pop.new.self.items in
    let popped = c.in-Some.ensures.items in
    let count : length rows ≡ length rest + 1 = search rules in
    let below : length rest < levels = omega (arith, count, c.files.invariant.levels) in
    let file = file_of c.in-Some-next.file in
    let others = c.next.new.self in
    let first = c.in-Some-next.ensures.steps in
    let all = c.files.invariant.all in
    record {
      same = search rules;
      left = λ entries graph.
          let depth : c.len.result ≡ length rest = search rules in
          let of_graph = subst (λ x. IsGraphOf x entries)
          (sym (graph-is h levels rows rest c.in-Some.row popped file others first all)) graph in
          leaves_same _ (leaves_next _ _ (c.files.invariant.left entries graph)
          (left-after h levels rows rest c.in-Some.row popped file others first all below entries c.len.result
          depth graph)
          (adds_block _ refl (c.in_ok-append_at_depth.ensures entries of_graph)
          c.in_ok-write_block.ensures.text))
          (ap (λ rs. rows_text entries levels 0 (rows_of rs)) (sym c.in_ok-push_rows.ensures));
      all = subst (AreIn h) (sym c.in_ok-push_rows.ensures)
          (in-after h levels rows rest c.in-Some.row popped file others first all);
      levels = subst (λ rs. length rs ≤ levels) (sym c.in_ok-push_rows.ensures)
          (few-after h levels rows rest c.in-Some.row popped file others first all below);
    }

pub returns-in_err-push_rows-clause-text : goal.returns-in_err-push_rows-clause-text
returns-in_err-push_rows-clause-text g c entries graph =
    let h = c.args.graph.now in
    let levels = c.levels_below-below.result + 1 in
    let rows = c.files.rows.items in
    let rest = c.pop.new.self.items in
    let popped = c.in-Some.ensures.items in
    let count : length rows ≡ length rest + 1 = search rules in
    let below : length rest < levels = omega (arith, count, c.files.invariant.levels) in
    let file = file_of c.in-Some-next.file in
    let others = c.next.new.self in
    let first = c.in-Some-next.ensures.steps in
    let all = c.files.invariant.all in
    let depth : c.len.result ≡ length rest = search rules in
    let of_graph = subst (λ x. IsGraphOf x entries)
    (sym (graph-is h levels rows rest c.in-Some.row popped file others first all)) graph in
    stops-with c.from_residual-in_err-push_rows.result c.from_residual-in_err-push_rows.ensures.1
    (stops_memory (leaves_next _ _ (c.files.invariant.left entries graph)
    (left-after h levels rows rest c.in-Some.row popped file others first all below entries c.len.result depth
    graph)
    (adds_block _ refl (c.in_ok-append_at_depth.ensures entries of_graph) c.in_ok-write_block.ensures.text)) _
    refl)

pub returns-clause-text : goal.returns-clause-text
returns-clause-text g c entries graph =
    let none : length c.files.rows.items ≡ 0 = search rules in
    leaves_none (c.files.invariant.left entries graph)
    (left-none entries (c.levels_below-below.result + 1) c.files.rows.items
    (empty-is c.files.rows.items (omega (arith, none))))
