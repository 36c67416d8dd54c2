use Rattle.std.proofs.Common.{◌≡◌, ◌<◌, true, Some, None, length, sym, subst, ap, ◌∙◌, true≢false, arith}
use Rattle.std.specs.Prelude.{IfSome, slice_get, slice_index}
use Rattle.std.proofs.lemmas.List.{get_or_read}
use Rattle.nj_cycles.specs.Inside.Walks.{stage_of_maker}
use Rattle.nj_cycles.proofs.Walking.{top_in}
use Rattle.nj_cycles.proofs.Turns.{next_maker, ends_unseen, past_inputs, fewer_left, passes_next}
use Rattle.nj_cycles.proofs.finishing_order.Walk.pass_inputs.Goals as goal

pub stage_of_maker-stage-requires : goal.stage_of_maker-stage-requires
stage_of_maker-stage-requires g c =
    let w = c.inputs.self in
    subst (λ ss. IfSome c.in-Some.maker (λ e. e < length ss)) (sym c.deref.ensures.value)
    (next_maker (g.I.EdgeInputs.makers c.args.inputs.now) (g.I.EdgeInputs.count c.args.inputs.now)
    w.stages.items c.args.edge c.index.result.now c.in-Some.maker c.requires.edges
    c.inputs.invariant.sound.stages_len (sym c.in-Some.ensures.maker))

pub returns-in-Unseen-clause-ends : goal.returns-in-Unseen-clause-ends
returns-in-Unseen-clause-ends g c =
    let makers = g.I.EdgeInputs.makers c.args.inputs.now in
    let count = g.I.EdgeInputs.count c.args.inputs.now in
    let w = c.inputs.self in
    let e = c.args.edge in
    let lt : e < length w.next.items = omega (
      arith,
      top_in makers count w.stages.items w.next.items w.path.items w.order.items w.meets_open e
          c.inputs.invariant.sound,
      c.inputs.invariant.sound.next_len,
    ) in
    let got : slice_get (makers e) (slice_index w.next.items e) ≡ Some c.in-Some.maker =
    ap (slice_get (makers e)) (sym (get_or_read w.next.items e c.index.result.now lt c.index.ensures 0))
    ∙ sym c.in-Some.ensures.maker in
    let stage : c.stage_of_maker-stage.result ≡ stage_of_maker w.stages.items c.in-Some.maker =
    subst (λ ss. c.stage_of_maker-stage.result ≡ stage_of_maker ss c.in-Some.maker) c.deref.ensures.value
    c.stage_of_maker-stage.ensures in
    ends_unseen makers e w c.in-Some.maker c.stage_of_maker-stage.result got stage c.in-Unseen.is

pub index_mut-requires : goal.index_mut-requires
index_mut-requires g c =
    let w = c.inputs.self in
    omega (
      arith,
      w.next.ok.0,
      c.inputs.invariant.sound.next_len,
      top_in (g.I.EdgeInputs.makers c.args.inputs.now) (g.I.EdgeInputs.count c.args.inputs.now)
          w.stages.items w.next.items w.path.items w.order.items w.meets_open c.args.edge
          c.inputs.invariant.sound,
    )

pub overflow_add-index_mut : goal.overflow_add-index_mut
overflow_add-index_mut g c =
    let makers = g.I.EdgeInputs.makers c.args.inputs.now in
    let count = g.I.EdgeInputs.count c.args.inputs.now in
    let w = c.inputs.self in
    let e = c.args.edge in
    let lt : e < length w.next.items = omega (
      arith,
      top_in makers count w.stages.items w.next.items w.path.items w.order.items w.meets_open e
          c.inputs.invariant.sound,
      c.inputs.invariant.sound.next_len,
    ) in
    let at = get_or_read w.next.items e c.index_mut.result.now lt c.index_mut.ensures.value 0 in
    omega (
      arith,
      at,
      get_or_read w.next.items e c.index.result.now lt c.index.ensures 0,
      c.in-Some.ensures.fits,
    )

pub inputs-smaller-in-Open : goal.inputs-smaller-in-Open
inputs-smaller-in-Open g c =
    let makers = g.I.EdgeInputs.makers c.args.inputs.now in
    let count = g.I.EdgeInputs.count c.args.inputs.now in
    let w = c.inputs.self in
    let e = c.args.edge in
    let lt : e < length w.next.items = omega (
      arith,
      top_in makers count w.stages.items w.next.items w.path.items w.order.items w.meets_open e
          c.inputs.invariant.sound,
      c.inputs.invariant.sound.next_len,
    ) in
    let got : slice_get (makers e) (slice_index w.next.items e) ≡ Some c.in-Some.maker =
    ap (slice_get (makers e)) (sym (get_or_read w.next.items e c.index.result.now lt c.index.ensures 0))
    ∙ sym c.in-Some.ensures.maker in
    let at = get_or_read w.next.items e c.index_mut.result.now lt c.index_mut.ensures.value 0 in
    fewer_left makers w.next.items e c.index_mut.result.now c.in-Some.maker lt at got

pub inputs-smaller : goal.inputs-smaller
inputs-smaller g c =
    let makers = g.I.EdgeInputs.makers c.args.inputs.now in
    let count = g.I.EdgeInputs.count c.args.inputs.now in
    let w = c.inputs.self in
    let e = c.args.edge in
    let lt : e < length w.next.items = omega (
      arith,
      top_in makers count w.stages.items w.next.items w.path.items w.order.items w.meets_open e
          c.inputs.invariant.sound,
      c.inputs.invariant.sound.next_len,
    ) in
    let got : slice_get (makers e) (slice_index w.next.items e) ≡ Some c.in-Some.maker =
    ap (slice_get (makers e)) (sym (get_or_read w.next.items e c.index.result.now lt c.index.ensures 0))
    ∙ sym c.in-Some.ensures.maker in
    let at = get_or_read w.next.items e c.index_mut.result.now lt c.index_mut.ensures.value 0 in
    fewer_left makers w.next.items e c.index_mut.result.now c.in-Some.maker lt at got

pub inputs-preserved-in-Open : goal.inputs-preserved-in-Open
inputs-preserved-in-Open g c =
    let makers = g.I.EdgeInputs.makers c.args.inputs.now in
    let count = g.I.EdgeInputs.count c.args.inputs.now in
    let w = c.inputs.self in
    let e = c.args.edge in
    let lt : e < length w.next.items = omega (
      arith,
      top_in makers count w.stages.items w.next.items w.path.items w.order.items w.meets_open e
          c.inputs.invariant.sound,
      c.inputs.invariant.sound.next_len,
    ) in
    let got : slice_get (makers e) (slice_index w.next.items e) ≡ Some c.in-Some.maker =
    ap (slice_get (makers e)) (sym (get_or_read w.next.items e c.index.result.now lt c.index.ensures 0))
    ∙ sym c.in-Some.ensures.maker in
    let stage : c.stage_of_maker-stage.result ≡ stage_of_maker w.stages.items c.in-Some.maker =
    subst (λ ss. c.stage_of_maker-stage.result ≡ stage_of_maker ss c.in-Some.maker) c.deref.ensures.value
    c.stage_of_maker-stage.ensures in
    let at = get_or_read w.next.items e c.index_mut.result.now lt c.index_mut.ensures.value 0 in
    record {
      sound = passes_next makers count w e c.index_mut.result.now c.in-Some.maker
          c.stage_of_maker-stage.result true c.inputs.invariant.sound at got stage
          c.in_default-stage.not-Unseen (λ unmet. absurd (true≢false unmet));
      stages = c.inputs.invariant.stages;
    }

pub inputs-preserved : goal.inputs-preserved
inputs-preserved g c =
    let makers = g.I.EdgeInputs.makers c.args.inputs.now in
    let count = g.I.EdgeInputs.count c.args.inputs.now in
    let w = c.inputs.self in
    let e = c.args.edge in
    let lt : e < length w.next.items = omega (
      arith,
      top_in makers count w.stages.items w.next.items w.path.items w.order.items w.meets_open e
          c.inputs.invariant.sound,
      c.inputs.invariant.sound.next_len,
    ) in
    let got : slice_get (makers e) (slice_index w.next.items e) ≡ Some c.in-Some.maker =
    ap (slice_get (makers e)) (sym (get_or_read w.next.items e c.index.result.now lt c.index.ensures 0))
    ∙ sym c.in-Some.ensures.maker in
    let stage : c.stage_of_maker-stage.result ≡ stage_of_maker w.stages.items c.in-Some.maker =
    subst (λ ss. c.stage_of_maker-stage.result ≡ stage_of_maker ss c.in-Some.maker) c.deref.ensures.value
    c.stage_of_maker-stage.ensures in
    let at = get_or_read w.next.items e c.index_mut.result.now lt c.index_mut.ensures.value 0 in
    record {
      sound = passes_next makers count w e c.index_mut.result.now c.in-Some.maker
          c.stage_of_maker-stage.result w.meets_open c.inputs.invariant.sound at got stage
          c.in_default-stage.not-Unseen (λ unmet. (unmet, c.in_default-stage-2.not-Open));
      stages = c.inputs.invariant.stages;
    }

pub returns-clause-ends : goal.returns-clause-ends
returns-clause-ends g c =
    let makers = g.I.EdgeInputs.makers c.args.inputs.now in
    let count = g.I.EdgeInputs.count c.args.inputs.now in
    let w = c.inputs.self in
    let e = c.args.edge in
    let lt : e < length w.next.items = omega (
      arith,
      top_in makers count w.stages.items w.next.items w.path.items w.order.items w.meets_open e
          c.inputs.invariant.sound,
      c.inputs.invariant.sound.next_len,
    ) in
    let got : slice_get (makers e) (slice_index w.next.items e) ≡ None =
    ap (slice_get (makers e)) (sym (get_or_read w.next.items e c.index.result.now lt c.index.ensures 0))
    ∙ (sym c.maker_at.ensures.maker ∙ c.in_default.is) in
    past_inputs (makers e) (slice_index w.next.items e) got
