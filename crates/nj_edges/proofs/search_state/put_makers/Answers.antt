use Rattle.std.proofs.Common.{◌∙◌, ◌+◌, ℕ, ap, option_map, subst, sym, take}
use Rattle.std.specs.Global.{Vec}
use Rattle.nj_edges.specs.Inside.NeedsSearched.{AreMakers}
use Rattle.nj_edges.proofs.NeedsLemmas.{makers-none, makers-some}
use Rattle.nj_edges.proofs.search_state.put_makers.Goals as goal
use Rattle.nj_edges.proofs.search_state.put_makers.Goals.{in-Some+in_ok-push, in_default}

pub files-preserved : goal.files-preserved
files-preserved c =
    let g = c.args.graph.now in
    let files = c.args.files.now in
    let i = c.files.file-index in
    elim c.match-maker.branch [
      | in-Some+in_ok-push w ↦
          subst (AreMakers g (take (i + 1) files))
          (sym (ap (λ (v : Vec ℕ). v.items) w.edges-is ∙ w.in_ok-push.ensures.items))
          (makers-some g c.files.edges.items files i (record { 0 = 0 }) c.files-test.true c.files.invariant
          w.in-Some.edge.0
          (sym c.maker.ensures.maker ∙ ap (option_map (λ e. e.0)) w.in-Some.is) w.in-Some.ensures.known)
      | in_default w ↦
          subst (AreMakers g (take (i + 1) files)) (sym (ap (λ (v : Vec ℕ). v.items) w.edges-is))
          (makers-none g c.files.edges.items files i (record { 0 = 0 }) c.files-test.true c.files.invariant
          (sym c.maker.ensures.maker ∙ ap (option_map (λ e. e.0)) w.in_default.is))
    ]
