use Rattle.std.proofs.Common.{option_map, ap, sym, subst, ◌∙◌}
use Rattle.nj_edges.specs.Inside.ChangesHeld.{FindsMore}
use Rattle.nj_edges.proofs.NeededLemmas.{finds-made, finds-unmade}
use Rattle.nj_edges.proofs.needed.add_makers.Goals as goal
use Rattle.nj_edges.proofs.needed.add_makers.Goals.{in-Some+in_ok-add-in-Some, in-None}

pub files-preserved : goal.files-preserved
files-preserved c =
    let edges = c.args.graph.now.edges in
    let paths = c.args.graph.now.files in
    let i = c.files.file-index in
    elim c.match-maker.branch [
      | in-Some+in_ok-add-in-Some w ↦
          subst (FindsMore _ c.args.found.now) (sym w.found-is)
          (finds-made edges paths c.args.found.now c.files.found w.add.new.found c.args.files.now i
          (record { 0 = 0 }) c.files-test.true c.files.invariant w.in-Some.edge.0
          (sym c.maker.ensures.maker ∙ ap (option_map (λ e. e.0)) w.in-Some.is) w.in_ok-add-in-Some.ensures)
      | in-None w ↦
          subst (FindsMore _ c.args.found.now) (sym w.found-is)
          (finds-unmade edges paths c.args.found.now c.files.found c.files.found c.args.files.now i
          (record { 0 = 0 }) c.files-test.true c.files.invariant
          (sym c.maker.ensures.maker ∙ ap (option_map (λ e. e.0)) w.in-None.is))
    ]
