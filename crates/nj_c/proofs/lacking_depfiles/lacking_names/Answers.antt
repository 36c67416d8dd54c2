use Rattle.std.proofs.Common.{Some, option_map, sym, ap, ◌∙◌}
use Rattle.nj_c.proofs.DepfileLemmas.{named-more, named-same}
use Rattle.nj_c.proofs.lacking_depfiles.lacking_names.Goals as goal
use Rattle.nj_c.proofs.lacking_depfiles.lacking_names.Goals.{in-Some+in_ok-name_if_lacking-in-Some, in-None}

pub edges-preserved : goal.edges-preserved
edges-preserved c stated graph =
    let h = c.args.files.now in let n = c.edges.number in
    let at = sym (c.in_ok-depfile.ensures stated graph) in
    let held = c.edges.invariant stated graph in
    elim c.match-depfile.branch [
      | in-Some+in_ok-name_if_lacking-in-Some w ↦
          named-more h stated n c.edges.lacking c.match-depfile.lacking w.deref-in-Some.result.now
          (at ∙ ap (option_map (λ p. p.items)) w.in-Some.is ∙ ap Some (sym w.deref-in-Some.ensures.value))
          held
          (w.lacking-is ∙ w.in_ok-name_if_lacking-in-Some.ensures)
      | in-None w ↦ w.lacking-is ∙ named-same h stated n c.edges.lacking
          (at ∙ ap (option_map (λ p. p.items)) w.in-None.is) held
    ]
