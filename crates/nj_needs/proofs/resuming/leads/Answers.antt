use Rattle.std.proofs.Common.{◌≡◌, ◌+◌, ◌<◌, ℕ, true, false, Option, Some, None, List, drop, get_or, refl}
use Rattle.std.proofs.Common.{sym, ap, ◌∙◌, arith}
use Rattle.std.specs.Prelude.{slice_get, is_some, option_map}
use Rattle.std.proofs.lemmas.List.{get_or_default}
use Rattle.nj_cycles.specs.Cycles.{IsAcyclic}
use Rattle.nj_names.specs.declared.files.FileNo.{FileNo}
use Rattle.nj_edges.specs.declared.edges.EdgeNo.{EdgeNo}
use Rattle.nj_edges.specs.EdgeGraphs.{EdgeGraph}
use Rattle.nj_needs.specs.Counts.{saturated}
use Rattle.nj_needs.specs.Inside.Tops.{counted}
use Rattle.nj_needs.specs.Graphs.{makers_of, count_of, row_of}
use Rattle.nj_needs.specs.Inside.Tops.{row_in}
use Rattle.nj_needs.specs.Marks.{is_valid}
use Rattle.nj_needs.specs.Needs.{AreWithin}
use Rattle.nj_needs.specs.Walks.{number_of}
use Rattle.nj_needs.specs.declared.needs.beginning.turns.Turns.{Turns}
use Rattle.nj_needs.proofs.Members.{Among, Among-get, Contains-from_Among}
use Rattle.nj_needs.proofs.ResumeLemmas.{valid-none, valid-source, valid-maker}
use Rattle.nj_needs.proofs.resuming.leads.Goals as goal

none_of : (o : Option EdgeNo) → is_some o ≡ false → o ≡ None
none_of None h = refl
none_of (Some m) h = absurd cc

some_of : (o : Option EdgeNo) → is_some o ≡ true → (m : EdgeNo) × (o ≡ Some m)
some_of None h = absurd cc
some_of (Some m) h = (m, refl)

-- the edges of every row are edges of the graph
row_within : (g : EdgeGraph) (targets : List FileNo) → IsAcyclic (makers_of g) (count_of g)
    → AreWithin (row_of g targets) (count_of g) → (edge : Option EdgeNo) (m : ℕ)
    → Among (row_in g targets edge) m → m < count_of g
row_within g targets acyclic inside None m a = inside m (Contains-from_Among (row_of g targets) m a)
row_within g targets acyclic inside (Some e) m a =
    acyclic.1.within e.0 m (Contains-from_Among (makers_of g e.0) m a)

-- the result of a look, in the first row
found_in : (l m : Turns) (graph : l.graph ≡ m.graph) (targets : l.targets ≡ m.targets)
    (edge : Option EdgeNo) (p : ℕ) (o : Option (Option EdgeNo))
    → option_map number_of o ≡ slice_get (row_in l.graph.now l.targets.now edge) p
    → slice_get (row_in m.graph.now m.targets.now edge) p ≡ option_map number_of o
found_in l m graph targets edge p o is = rw (← graph, ← targets) (sym is)

pub returns-in_default-clause-valid : goal.returns-in_default-clause-valid
returns-in_default-clause-valid c =
    let l = c.args.turns.now in
    let i = c.steps.number-index in
    let numbers = c.args.numbers.now in
    let p = get_or numbers i 0 in
    let at = found_in c.steps.turns l c.steps.invariant.graph c.steps.invariant.targets c.steps.edge p None
    c.in_default.ensures.found in
    sym (valid-none (makers_of l.graph.now) (row_in l.graph.now l.targets.now c.steps.edge) numbers i p
    c.steps-test.true (get_or_default numbers i 0 p c.steps-test.true) at) ∙ c.steps.invariant.rest

pub returns-then-is_none-clause-valid : goal.returns-then-is_none-clause-valid
returns-then-is_none-clause-valid c =
    let l = c.args.turns.now in
    let i = c.steps.number-index in
    let numbers = c.args.numbers.now in
    let p = get_or numbers i 0 in
    let at = found_in c.steps.turns l c.steps.invariant.graph c.steps.invariant.targets c.steps.edge p
    (Some c.in-Some.found) c.in-Some.ensures.found in
    let none : c.in-Some.found ≡ None = none_of c.in-Some.found c.if-is_none.ensures in
    sym (valid-source (makers_of l.graph.now) (row_in l.graph.now l.targets.now c.steps.edge) numbers i p
    c.steps-test.true (get_or_default numbers i 0 p c.steps-test.true)
    (at ∙ ap (λ o. Some (number_of o)) none))
    ∙ c.steps.invariant.rest

counted_more : (n : ℕ) → counted (saturated n) ≡ saturated (n + 1)
counted_more n = omega arith

pub steps-preserved : goal.steps-preserved
steps-preserved c =
    let l = c.args.turns.now in
    let i = c.steps.number-index in
    let numbers = c.args.numbers.now in
    let p = get_or numbers i 0 in
    let row = row_in l.graph.now l.targets.now c.steps.edge in
    let at = found_in c.steps.turns l c.steps.invariant.graph c.steps.invariant.targets c.steps.edge p
    (Some c.in-Some.found) c.in-Some.ensures.found in
    let some = some_of c.in-Some.found c.if-is_none.ensures in
    let next = valid-maker (makers_of l.graph.now) row numbers i p c.steps-test.true
    (get_or_default numbers i 0 p c.steps-test.true) some.0.0 (at ∙ ap (λ o. Some (number_of o)) some.1) in
    record {
      edge_in = λ e is. row_within l.graph.now l.targets.now c.requires.acyclic c.requires.within c.steps.edge
          e.0 (Among-get row p e.0 (at ∙ ap (λ o. Some (number_of o)) is));
      rest = ap (λ (o : Option EdgeNo). is_valid (makers_of l.graph.now) (row_in l.graph.now l.targets.now o)
          (drop (i + 1) numbers)) some.1 ∙ sym next ∙ c.steps.invariant.rest;
      turns = c.in-Some.ensures.turn ∙ ap counted c.steps.invariant.turns ∙ counted_more i;
      graph = c.in-Some.ensures.graph ∙ c.steps.invariant.graph;
      targets = c.in-Some.ensures.targets ∙ c.steps.invariant.targets;
    }
