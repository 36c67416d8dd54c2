use Rattle.std.proofs.Common.{◌≡◌, ◌++◌, ◌∙◌, [], None, Some, ap, codes, false, refl, rules, subst, sym, true}
use Rattle.std.proofs.Common.{unwrap_or}
use Rattle.nj_graph.specs.Graph.{IsGraphOf}
use Rattle.nj_graph.specs.Handles.{edge_of}
use Rattle.nj_tools.specs.Compdb.{compilation_of}
use Rattle.nj_tools.specs.Inside.CompdbHeld.{held_compilation}
use Rattle.nj_tools.proofs.CompdbLemmas.{left-ends, left-next, left-none, left-skips, list-all, list_left}
use Rattle.nj_tools.proofs.CompdbLemmas.{unheld-here, unheld-is, unheld-next, unheld-none, unheld-skips}
use Rattle.nj_tools.proofs.CompdbLemmas.{unheld_left}
use Rattle.nj_tools.proofs.EdgeLists.{edges-in}
use Rattle.nj_tools.proofs.OutputLemmas.{adds-pending, adds_block, leaves_all, leaves_next, leaves_none}
use Rattle.nj_tools.proofs.OutputLemmas.{leaves_same}
use Rattle.nj_tools.proofs.OutputLemmas.{stops-with, stops_block, stops_memory, stops_next}
use Rattle.nj_tools.proofs.compdb.write_list.Goals as goal

pub edges-init : goal.edges-init
edges-init g c =
    let h = c.args.graph.now in
    let is = c.into_iter-edge-iterator.ensures.into_iter_gives ∙ c.edges-edge-items.ensures in
    record {
      same = search rules;
      all = rw is (edges-in h _);
      first = true;
      separator = c.as_slice-separator.ensures;
      left = λ entries graph.
          leaves_next (codes "[") _ (leaves_all c.args.out.now _ _ refl)
          (sym (ap (λ es. codes "[" ++ list_left entries c.args.chosen.now c.args.expand c.args.directory.now
          true es) is
          ∙ list-all entries c.args.chosen.now c.args.expand c.args.directory.now h graph))
          (adds-pending (codes "[") refl c.in_ok-push.ensures.items);
      unheld = λ entries graph.
          ap (unheld_left entries c.args.chosen.now c.args.expand c.args.directory.now) is
          ∙ unheld-is entries c.args.chosen.now c.args.expand c.args.directory.now h graph;
    }

pub returns-in_err-strings-clause-text : goal.returns-in_err-strings-clause-text
returns-in_err-strings-clause-text g c entries graph =
    stops-with c.from_residual-in_err-strings.result c.from_residual-in_err-strings.ensures.1
    (stops_memory (c.edges.invariant.left entries graph) c.edges.out refl)

pub returns-in_default-clause-text : goal.returns-in_default-clause-text
returns-in_default-clause-text g c entries graph =
    let i = c.edges.invariant in
    let edge = edge_of c.in-Some.edge in
    let steps = c.in-Some.ensures.steps in
    let of_graph = subst (λ h. IsGraphOf h entries) (sym (rw steps at i.all).0) graph in
    let listed = sym (ap (λ o. unwrap_or o false)
    (ap Some (sym c.if-has_object.true) ∙ c.has_object.ensures entries of_graph)) in
    let given = c.in_ok-strings.ensures entries of_graph in
    let none : None ≡ held_compilation (compilation_of entries c.args.expand edge.number) = search rules in
    leaves_none (i.left entries graph) (left-ends entries c.args.chosen.now c.args.expand c.args.directory.now
    i.first _ edge c.next.new.self steps listed none)

pub returns-in_default-clause-unheld : goal.returns-in_default-clause-unheld
returns-in_default-clause-unheld g c entries graph =
    let i = c.edges.invariant in
    let edge = edge_of c.in-Some.edge in
    let steps = c.in-Some.ensures.steps in
    let of_graph = subst (λ h. IsGraphOf h entries) (sym (rw steps at i.all).0) graph in
    let listed = sym (ap (λ o. unwrap_or o false)
    (ap Some (sym c.if-has_object.true) ∙ c.has_object.ensures entries of_graph)) in
    let given = c.in_ok-strings.ensures entries of_graph in
    let none : None ≡ held_compilation (compilation_of entries c.args.expand edge.number) = search rules in
    sym (unheld-here entries c.args.chosen.now c.args.expand c.args.directory.now i.first _ edge
    c.next.new.self steps listed none) ∙ i.unheld entries graph

pub returns-in_err-append_object-clause-text : goal.returns-in_err-append_object-clause-text
returns-in_err-append_object-clause-text g c entries graph =
    stops-with c.from_residual-in_err-append_object.result c.from_residual-in_err-append_object.ensures.1
    (stops_memory (c.edges.invariant.left entries graph) _ refl)

pub returns-in_err-write_block-clause-text : goal.returns-in_err-write_block-clause-text
returns-in_err-write_block-clause-text g c entries graph =
    let i = c.edges.invariant in
    let edge = edge_of c.in-Some.edge in
    let steps = c.in-Some.ensures.steps in
    let of_graph = subst (λ h. IsGraphOf h entries) (sym (rw steps at i.all).0) graph in
    let listed = sym (ap (λ o. unwrap_or o false)
    (ap Some (sym c.if-has_object.true) ∙ c.has_object.ensures entries of_graph)) in
    let given = sym c.in-Some-2.is ∙ c.in_ok-strings.ensures entries of_graph in
    stops-with c.from_residual-in_err-write_block.result c.from_residual-in_err-write_block.ensures.1
    (stops_next _ _ (i.left entries graph)
    (left-next entries c.args.chosen.now c.args.expand c.args.directory.now i.first _ edge c.next.new.self
    steps listed _ given _ i.separator)
    (stops_block _ refl c.in_ok-append_object.ensures c.in_err-write_block.ensures.text))

pub edges-preserved-then-has_object : goal.edges-preserved-then-has_object
edges-preserved-then-has_object g c = record {
  same = search rules;
  all = (rw c.in-Some.ensures.steps at c.edges.invariant.all).1;
  first = false;
  separator = refl;
  left = λ entries graph.
      let i = c.edges.invariant in
      let edge = edge_of c.in-Some.edge in
      let steps = c.in-Some.ensures.steps in
      let of_graph = subst (λ h. IsGraphOf h entries) (sym (rw steps at i.all).0) graph in
      let listed = sym (ap (λ o. unwrap_or o false)
      (ap Some (sym c.if-has_object.true) ∙ c.has_object.ensures entries of_graph)) in
      let given = sym c.in-Some-2.is ∙ c.in_ok-strings.ensures entries of_graph in
      leaves_next _ _ (i.left entries graph)
      (left-next entries c.args.chosen.now c.args.expand c.args.directory.now i.first _ edge
      c.next.new.self steps listed _ given _ i.separator)
      (adds_block _ refl c.in_ok-append_object.ensures c.in_ok-write_block.ensures.text);
  unheld = λ entries graph.
      let i = c.edges.invariant in
      let edge = edge_of c.in-Some.edge in
      let steps = c.in-Some.ensures.steps in
      let of_graph = subst (λ h. IsGraphOf h entries) (sym (rw steps at i.all).0) graph in
      let listed = sym (ap (λ o. unwrap_or o false)
      (ap Some (sym c.if-has_object.true) ∙ c.has_object.ensures entries of_graph)) in
      let given = sym c.in-Some-2.is ∙ c.in_ok-strings.ensures entries of_graph in
      sym (unheld-next entries c.args.chosen.now c.args.expand c.args.directory.now i.first _ edge
      c.next.new.self steps listed _ given)
      ∙ i.unheld entries graph;
}

pub edges-preserved : goal.edges-preserved
edges-preserved g c = record {
  same = search rules;
  all = (rw c.in-Some.ensures.steps at c.edges.invariant.all).1;
  first = c.edges.invariant.first;
  separator = c.edges.invariant.separator;
  left = λ entries graph.
      let i = c.edges.invariant in
      let edge = edge_of c.in-Some.edge in
      let steps = c.in-Some.ensures.steps in
      let of_graph = subst (λ h. IsGraphOf h entries) (sym (rw steps at i.all).0) graph in
      let other = sym (ap (λ o. unwrap_or o false)
      (ap Some (sym c.if-has_object.false) ∙ c.has_object.ensures entries of_graph)) in
      leaves_same _ (i.left entries graph)
      (left-skips entries c.args.chosen.now c.args.expand c.args.directory.now i.first _ edge
      c.next.new.self steps other);
  unheld = λ entries graph.
      let i = c.edges.invariant in
      let edge = edge_of c.in-Some.edge in
      let steps = c.in-Some.ensures.steps in
      let of_graph = subst (λ h. IsGraphOf h entries) (sym (rw steps at i.all).0) graph in
      let other = sym (ap (λ o. unwrap_or o false)
      (ap Some (sym c.if-has_object.false) ∙ c.has_object.ensures entries of_graph)) in
      sym (unheld-skips entries c.args.chosen.now c.args.expand c.args.directory.now i.first _ edge
      c.next.new.self steps other) ∙ i.unheld entries graph;
}

pub returns-in_err-extend_from_slice-clause-text : goal.returns-in_err-extend_from_slice-clause-text
returns-in_err-extend_from_slice-clause-text g c entries graph =
    stops-with c.from_residual-in_err-extend_from_slice.result
    c.from_residual-in_err-extend_from_slice.ensures.1
    (stops_memory (c.edges.invariant.left entries graph) _ refl)

pub returns-clause-text : goal.returns-clause-text
returns-clause-text g c entries graph =
    let i = c.edges.invariant in
    leaves_none (leaves_next (codes "\n]\n") [] (i.left entries graph)
    (left-none entries c.args.chosen.now c.args.expand c.args.directory.now i.first _
    c.in-None.ensures.steps.0)
    (adds-pending (codes "\n]\n") refl c.in_ok-extend_from_slice.ensures.items)) refl

pub returns-clause-unheld : goal.returns-clause-unheld
returns-clause-unheld g c entries graph =
    sym (unheld-none entries c.args.chosen.now c.args.expand c.args.directory.now _ c.in-None.ensures.steps.0)
    ∙ c.edges.invariant.unheld entries graph
