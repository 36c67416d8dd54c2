use Rattle.std.proofs.Common.{◌≡◌, Bool, false, Some, None, List, [], length, get_or, refl, sym, ap}
use Rattle.std.proofs.Common.{subst, ◌∙◌, arith}
use Rattle.std.specs.Prelude.{slice_get}
use Rattle.std.proofs.lemmas.List.{append-nil, nil_from_length}
use Rattle.nj_needs.specs.Inside.Standing.{top_of}
use Rattle.nj_needs.specs.Inside.Tops.{IsTop}
use Rattle.nj_needs.specs.Walks.{number_of}
use Rattle.nj_needs.proofs.GrowingSteps.{comes, below, top-edge, len-flags, pass, pass-less, opened}
use Rattle.nj_needs.proofs.GrowingSteps.{open-less, ended, close-below, closed, close-less, done-flag}
use Rattle.nj_needs.proofs.growing.grow_targets.Goals as goal

pub look_at-found-requires-clause-edge_in : goal.look_at-found-requires-clause-edge_in
look_at-found-requires-clause-edge_in c =
    let g = c.args.graph.now in
    let ts = c.args.targets.now in
    let acyclic = c.edge_count.ensures.acyclic in
    let w = c.turns in
    let top : IsTop w.path.items c.top_edge.result =
    subst (λ p. IsTop p c.top_edge.result) c.deref-in-turns.ensures.value c.top_edge.ensures in
    top-edge g ts acyclic w.files.items w.path.items w.place w.flags.items w.invariant c.top_edge.result top

pub returns-in_default-pop-clause-grown : goal.returns-in_default-pop-clause-grown
returns-in_default-pop-clause-grown c =
    let g = c.args.graph.now in
    let ts = c.args.targets.now in
    let acyclic = c.edge_count.ensures.acyclic in
    let w = c.turns in
    let past : slice_get (top_of g w.files.items w.path.items) w.place ≡ None =
    comes g g c.deref.result.now w.files.items c.deref-in-turns.result.now w.path.items c.top_edge.result
    (None) w.place refl c.deref.ensures.value
    c.deref-in-turns.ensures.value c.top_edge.ensures c.in_default.ensures.found in
    let same : w.path.items ≡ c.pop.new.self.items =
    c.in_default-pop.ensures.items ∙ append-nil c.pop.new.self.items in
    let empty : w.path.items ≡ [] = same ∙ nil_from_length c.pop.new.self.items
    (omega (arith, c.in_default-pop.ensures.cases)) in
    ended g ts acyclic w.files.items w.path.items w.place w.flags.items w.invariant empty past

pub index_mut-requires : goal.index_mut-requires
index_mut-requires c =
    let g = c.args.graph.now in
    let ts = c.args.targets.now in
    let acyclic = c.edge_count.ensures.acyclic in
    let w = c.turns in
    let past : slice_get (top_of g w.files.items w.path.items) w.place ≡ None =
    comes g g c.deref.result.now w.files.items c.deref-in-turns.result.now w.path.items c.top_edge.result
    (None) w.place refl c.deref.ensures.value
    c.deref-in-turns.ensures.value c.top_edge.ensures c.in_default.ensures.found in
    omega (
      arith,
      close-below g ts acyclic w.files.items w.path.items w.place w.flags.items w.invariant
          c.in-Some-pop.frame c.pop.new.self.items c.in-Some-pop.ensures.items past,
      len-flags g ts acyclic w.files.items w.path.items w.place w.flags.items w.invariant,
    )

pub add_validations-requires : goal.add_validations-requires
add_validations-requires c =
    let g = c.args.graph.now in
    let ts = c.args.targets.now in
    let acyclic = c.edge_count.ensures.acyclic in
    let w = c.turns in
    let past : slice_get (top_of g w.files.items w.path.items) w.place ≡ None =
    comes g g c.deref.result.now w.files.items c.deref-in-turns.result.now w.path.items c.top_edge.result
    (None) w.place refl c.deref.ensures.value
    c.deref-in-turns.ensures.value c.top_edge.ensures c.in_default.ensures.found in
    close-below g ts acyclic w.files.items w.path.items w.place w.flags.items w.invariant c.in-Some-pop.frame
    c.pop.new.self.items c.in-Some-pop.ensures.items past

pub turns-smaller-in_default : goal.turns-smaller-in_default
turns-smaller-in_default c =
    let g = c.args.graph.now in
    let ts = c.args.targets.now in
    let acyclic = c.edge_count.ensures.acyclic in
    let w = c.turns in
    let past : slice_get (top_of g w.files.items w.path.items) w.place ≡ None =
    comes g g c.deref.result.now w.files.items c.deref-in-turns.result.now w.path.items c.top_edge.result
    (None) w.place refl c.deref.ensures.value
    c.deref-in-turns.ensures.value c.top_edge.ensures c.in_default.ensures.found in
    close-less g ts acyclic w.files.items w.path.items w.place w.flags.items w.invariant c.in-Some-pop.frame
    c.pop.new.self.items c.in-Some-pop.ensures.items past

pub turns-preserved-in_default : goal.turns-preserved-in_default
turns-preserved-in_default c =
    let g = c.args.graph.now in
    let ts = c.args.targets.now in
    let acyclic = c.edge_count.ensures.acyclic in
    let w = c.turns in
    let past : slice_get (top_of g w.files.items w.path.items) w.place ≡ None =
    comes g g c.deref.result.now w.files.items c.deref-in-turns.result.now w.path.items c.top_edge.result
    (None) w.place refl c.deref.ensures.value
    c.deref-in-turns.ensures.value c.top_edge.ensures c.in_default.ensures.found in
    rw c.in_ok-add_validations.ensures.1 (closed g ts acyclic w.files.items w.path.items w.place w.flags.items
    w.invariant c.in-Some-pop.frame c.pop.new.self.items c.in-Some-pop.ensures.items past
    c.in_ok-add_validations.ensures.0 c.in_ok-add_validations.ensures.2)

pub undone-requires : goal.undone-requires
undone-requires c =
    let g = c.args.graph.now in
    let ts = c.args.targets.now in
    let acyclic = c.edge_count.ensures.acyclic in
    let w = c.turns in
    let at : slice_get (top_of g w.files.items w.path.items) w.place ≡ Some (number_of c.in-Some.maker) =
    comes g g c.deref.result.now w.files.items c.deref-in-turns.result.now w.path.items c.top_edge.result
    (Some c.in-Some.maker) w.place refl c.deref.ensures.value
    c.deref-in-turns.ensures.value c.top_edge.ensures c.in-Some.ensures.found in
    λ x is.
    let low = below g ts acyclic w.files.items w.path.items w.place w.flags.items w.invariant x.0
    (at ∙ ap (λ o. Some (number_of o)) is) in
    omega (
      arith,
      low,
      len-flags g ts acyclic w.files.items w.path.items w.place w.flags.items w.invariant,
      ap length c.deref-in-turns-2.ensures.value,
    )

pub turns-smaller-in-Some-undone : goal.turns-smaller-in-Some-undone
turns-smaller-in-Some-undone c =
    let g = c.args.graph.now in
    let ts = c.args.targets.now in
    let acyclic = c.edge_count.ensures.acyclic in
    let w = c.turns in
    let at : slice_get (top_of g w.files.items w.path.items) w.place ≡ Some (number_of c.in-Some.maker) =
    comes g g c.deref.result.now w.files.items c.deref-in-turns.result.now w.path.items c.top_edge.result
    (Some c.in-Some.maker) w.place refl c.deref.ensures.value
    c.deref-in-turns.ensures.value c.top_edge.ensures c.in-Some.ensures.found in
    let e = c.in-Some-undone.edge.0 in
    let left = c.in-Some-undone.ensures.left in
    let fresh : get_or w.flags.items e false ≡ false =
    ap (λ (fs : List Bool). get_or fs e false) (sym c.deref-in-turns-2.ensures.value) ∙ left.1 in
    open-less g ts acyclic w.files.items w.path.items w.place w.flags.items w.invariant _
    c.push.new.self.items c.in_ok-push-in-Some-undone.ensures.items refl
    (at ∙ ap (λ o. Some (number_of o)) left.0) fresh

pub turns-preserved-in-Some-undone : goal.turns-preserved-in-Some-undone
turns-preserved-in-Some-undone c =
    let g = c.args.graph.now in
    let ts = c.args.targets.now in
    let acyclic = c.edge_count.ensures.acyclic in
    let w = c.turns in
    let at : slice_get (top_of g w.files.items w.path.items) w.place ≡ Some (number_of c.in-Some.maker) =
    comes g g c.deref.result.now w.files.items c.deref-in-turns.result.now w.path.items c.top_edge.result
    (Some c.in-Some.maker) w.place refl c.deref.ensures.value
    c.deref-in-turns.ensures.value c.top_edge.ensures c.in-Some.ensures.found in
    let e = c.in-Some-undone.edge.0 in
    let left = c.in-Some-undone.ensures.left in
    let fresh : get_or w.flags.items e false ≡ false =
    ap (λ (fs : List Bool). get_or fs e false) (sym c.deref-in-turns-2.ensures.value) ∙ left.1 in
    opened g ts acyclic w.files.items w.path.items w.place w.flags.items w.invariant _ c.push.new.self.items
    c.in_ok-push-in-Some-undone.ensures.items refl (at ∙ ap (λ o. Some (number_of o)) left.0) fresh

pub turns-smaller : goal.turns-smaller
turns-smaller c =
    let g = c.args.graph.now in
    let ts = c.args.targets.now in
    let acyclic = c.edge_count.ensures.acyclic in
    let w = c.turns in
    let at : slice_get (top_of g w.files.items w.path.items) w.place ≡ Some (number_of c.in-Some.maker) =
    comes g g c.deref.result.now w.files.items c.deref-in-turns.result.now w.path.items c.top_edge.result
    (Some c.in-Some.maker) w.place refl c.deref.ensures.value
    c.deref-in-turns.ensures.value c.top_edge.ensures c.in-Some.ensures.found in
    let flagged = done-flag c.deref-in-turns-2.result.now w.flags.items c.in-Some.maker
    c.deref-in-turns-2.ensures.value c.in-None.ensures.done in
    pass-less g ts acyclic w.files.items w.path.items w.place w.flags.items w.invariant
    (number_of c.in-Some.maker) at flagged

pub turns-preserved : goal.turns-preserved
turns-preserved c =
    let g = c.args.graph.now in
    let ts = c.args.targets.now in
    let acyclic = c.edge_count.ensures.acyclic in
    let w = c.turns in
    let at : slice_get (top_of g w.files.items w.path.items) w.place ≡ Some (number_of c.in-Some.maker) =
    comes g g c.deref.result.now w.files.items c.deref-in-turns.result.now w.path.items c.top_edge.result
    (Some c.in-Some.maker) w.place refl c.deref.ensures.value
    c.deref-in-turns.ensures.value c.top_edge.ensures c.in-Some.ensures.found in
    let flagged = done-flag c.deref-in-turns-2.result.now w.flags.items c.in-Some.maker
    c.deref-in-turns-2.ensures.value c.in-None.ensures.done in
    pass g ts acyclic w.files.items w.path.items w.place w.flags.items w.invariant
    (number_of c.in-Some.maker) at flagged
