use Rattle.std.proofs.Common.{List, ◌++◌, map, sym, ap, subst, ◌∙◌}
use Rattle.std.specs.Prelude.{◌↔◌, Contains}
use Rattle.nj_graph.specs.declared.EdgeNo.{EdgeNo}
use Rattle.nj_graph.specs.Changes.{IsAffected}
use Rattle.nj_graph.specs.Files.{path_at}
use Rattle.nj_graph.specs.Graph.{edges_of, files_of}
use Rattle.nj_reached.specs.GraphChanges.{outputs_at}
use Rattle.nj_ask.specs.Inside.Lent.{change_model}
use Rattle.nj_ask.specs.Inside.Reached.{edge_numbers, AreAllTouched, AreEdgesOf, AreTouched}
use Rattle.nj_ask.specs.DiscoveredGraphs.{IsTouched}
use Rattle.nj_ask.specs.Reports.{changed_numbers, changed_paths, remade_files}
use Rattle.nj_ask.specs.Shape.{shape_text}
use Rattle.nj_ask.specs.SameFiles.{path_of}
use Rattle.nj_ask.proofs.MadeLemmas.{same-paths}
use Rattle.nj_ask.proofs.NewCommandLemmas.{affected-by-more}
use Rattle.nj_ask.proofs.report.reached_by.Goals as goal

pub warnings_of-requires-clause-affected : goal.warnings_of-requires-clause-affected
warnings_of-requires-clause-affected c edge is =
    let g = c.args.known.now.graph in
    let q = change_model c.args.change in
    let numbers = λ (edges : List EdgeNo). map (λ (e : EdgeNo). e.0) edges in
    let paths = ap (map (path_at (files_of g))) c.deref-3.ensures.value ∙ c.in_ok-new.ensures.paths
    ∙ ap (λ ps. ps ++ outputs_at (edges_of g) q.commands)
    (ap (map (path_at (files_of g))) c.deref.ensures.value ∙ same-paths g c.args.files.now.changed.items
    ∙ ap (map (path_of g)) c.requires.files.changed.numbers) in
    subst (λ edges. Contains (numbers edges) edge) (sym c.deref-4.ensures.value)
    ((rw c.deref-2.ensures at (c.in_ok-affected.ensures.affected edge)).1
    (subst (λ ps. IsAffected (edges_of g) ps edge) (sym paths)
    (affected-by-more (edges_of g) (changed_paths g q) (outputs_at (edges_of g) q.commands) edge is)))

pub touched_by-requires-clause-affected : goal.touched_by-requires-clause-affected
touched_by-requires-clause-affected c =
    let g = c.args.known.now.graph in
    let affected = c.in_ok-affected.affected.items in
    let same = c.deref-3.ensures.value ∙ sym c.deref-5.ensures.value in
    record {
      touched = λ edge.
          subst (λ files. Contains (map (λ (e : EdgeNo). e.0) affected) edge
          ↔ IsAffected (edges_of g) (map (path_at (files_of g)) files) edge) same
          (rw c.deref-2.ensures at (c.in_ok-affected.ensures.affected edge));
      rises = c.in_ok-affected.ensures.rises;
      below = rw c.deref-2.ensures at c.in_ok-affected.ensures.known;
    }

pub returns-clause-touched : goal.returns-clause-touched
returns-clause-touched c =
    let known = c.args.known.now in
    let g = known.graph in
    let q = change_model c.args.change in
    let paths = ap (map (path_at (files_of g))) c.deref-5.ensures.value ∙ c.in_ok-new.ensures.paths
    ∙ ap (λ ps. ps ++ outputs_at (edges_of g) q.commands)
    (ap (map (path_at (files_of g))) c.deref.ensures.value ∙ same-paths g c.args.files.now.changed.items
    ∙ ap (map (path_of g)) c.requires.files.changed.numbers) in
    subst (λ ps. AreAllTouched known ps c.args.change.commands.now c.in_ok-edges-2.edges.items) paths
    (c.in_ok-edges-2.ensures _
    (subst (AreTouched known (IsTouched known (map (path_at (files_of g)) c.deref-5.result.now)))
    (sym c.deref-6.ensures.value) c.in_ok-edges.ensures))

pub caveats_of-requires-clause-edges : goal.caveats_of-requires-clause-edges
caveats_of-requires-clause-edges c =
    let known = c.args.known.now in
    let g = known.graph in
    subst (AreEdgesOf g) (sym c.deref-8.ensures.value) (c.in_ok-edges-2.ensures _
    (subst (AreTouched known (IsTouched known (map (path_at (files_of g)) c.deref-5.result.now)))
    (sym c.deref-6.ensures.value) c.in_ok-edges.ensures)).below

pub returns-clause-caveats : goal.returns-clause-caveats
returns-clause-caveats c entries graph =
    let known = c.args.known.now in
    let q = change_model c.args.change in
    let changed = changed_numbers known.graph q in
    record {
      about = c.in_ok-about.about.items;
      warns = c.in_ok-about.ensures entries graph;
      all = c.in_ok-caveats.ensures entries graph
          ∙ ap (λ t. known.caveats.items ++ t ++ shape_text known entries (remade_files known.graph q) changed
          (edge_numbers c.deref-8.result.now)) c.deref-7.ensures.value
          ∙ ap (λ edges. known.caveats.items ++ c.in_ok-about.about.items
          ++ shape_text known entries (remade_files known.graph q) changed (edge_numbers edges))
          c.deref-8.ensures.value;
    }
