use Rattle.std.proofs.Common.{◌<◌, Some, [], option_map, option_and_then, length, get_or, slice_range, nat_eq}
use Rattle.std.proofs.Common.{ap, sym, subst, ◌∙◌, arith}
use Rattle.std.specs.Map.{lookup}
use Rattle.nj_edge_env.specs.Blocks.{bound_in}
use Rattle.nj_edge_env.specs.Inside.BlocksHeld.{bound_of, bounds_of, AreRising, BoundsAreHeld, IsFirstAt}
use Rattle.nj_edge_env.proofs.BoundLemmas.{part_of}
use Rattle.nj_edge_env.proofs.BlockLemmas.{first-position, first-within, rows-absent, value-first, all-at}
use Rattle.nj_edge_env.proofs.BlockLemmas.{bounds-at}
use Rattle.nj_edge_env.proofs.block_values.Blocks.value.Goals as goal

pub returns-then-is_pool_or_dyndep : goal.returns-then-is_pool_or_dyndep
returns-then-is_pool_or_dyndep c =
    sym (c.self.invariant.1.none c.args.edge c.args.name.now
    (sym c.is_pool_or_dyndep.ensures ∙ c.if-is_pool_or_dyndep.true) c.if-edge-self.true)
    ∙ ap (λ b. bound_in b c.args.edge c.args.name.now) c.self.view_is

pub returns-in-None : goal.returns-in-None
returns-in-None c =
    sym (ap (option_and_then (lookup (λ n. nat_eq c.args.edge n)))
    (rows-absent c.self.inside.text.items c.self.inside.names (bounds_of c.self.inside.values.items)
    c.args.name.now (sym c.in-None.ensures.known)))
    ∙ ap (λ b. bound_in b c.args.edge c.args.name.now) c.self.view_is

pub bound_of-requires : goal.bound_of-requires
bound_of-requires c =
    let first : IsFirstAt c.args.name.now c.self.inside.names c.in-Some.number =
    first-position c.args.name.now c.self.inside.names c.in-Some.number (sym c.in-Some.ensures.index) in
    let within : c.in-Some.number < length (bounds_of c.self.inside.values.items) =
    omega (
      arith,
      first-within c.args.name.now c.self.inside.names c.in-Some.number first,
      c.self.invariant.0.as_many,
    ) in
    let here = c.as_slice-bounds.ensures.value
    ∙ sym (bounds-at c.self.inside.values.items c.in-Some.number c.index.result.now within
    c.index.ensures) in
    subst AreRising (sym here) (all-at (BoundsAreHeld (length c.self.inside.text.items) c.self.inside.last)
    (bounds_of c.self.inside.values.items) c.in-Some.number within c.self.invariant.0.values).rising

pub value_at-requires-clause-rises : goal.value_at-requires-clause-rises
value_at-requires-clause-rises c =
    let first : IsFirstAt c.args.name.now c.self.inside.names c.in-Some.number =
    first-position c.args.name.now c.self.inside.names c.in-Some.number (sym c.in-Some.ensures.index) in
    let within : c.in-Some.number < length (bounds_of c.self.inside.values.items) =
    omega (
      arith,
      first-within c.args.name.now c.self.inside.names c.in-Some.number first,
      c.self.invariant.0.as_many,
    ) in
    let here = c.as_slice-bounds.ensures.value
    ∙ sym (bounds-at c.self.inside.values.items c.in-Some.number c.index.result.now within
    c.index.ensures) in
    let held = all-at (BoundsAreHeld (length c.self.inside.text.items) c.self.inside.last)
    (bounds_of c.self.inside.values.items) c.in-Some.number within c.self.invariant.0.values in
    (part_of (length c.self.inside.text.items) c.self.inside.last
    (get_or (bounds_of c.self.inside.values.items) c.in-Some.number []) c.args.edge
    c.in-Some-bound_of.bound held.parts (ap (λ bs. bound_of bs c.args.edge) (sym here)
    ∙ sym c.in-Some-bound_of.ensures)).rises

pub value_at-requires-clause-ends : goal.value_at-requires-clause-ends
value_at-requires-clause-ends c =
    let first : IsFirstAt c.args.name.now c.self.inside.names c.in-Some.number =
    first-position c.args.name.now c.self.inside.names c.in-Some.number (sym c.in-Some.ensures.index) in
    let within : c.in-Some.number < length (bounds_of c.self.inside.values.items) =
    omega (
      arith,
      first-within c.args.name.now c.self.inside.names c.in-Some.number first,
      c.self.invariant.0.as_many,
    ) in
    let here = c.as_slice-bounds.ensures.value
    ∙ sym (bounds-at c.self.inside.values.items c.in-Some.number c.index.result.now within
    c.index.ensures) in
    let held = all-at (BoundsAreHeld (length c.self.inside.text.items) c.self.inside.last)
    (bounds_of c.self.inside.values.items) c.in-Some.number within c.self.invariant.0.values in
    let ends = (part_of (length c.self.inside.text.items) c.self.inside.last
    (get_or (bounds_of c.self.inside.values.items) c.in-Some.number []) c.args.edge
    c.in-Some-bound_of.bound held.parts (ap (λ bs. bound_of bs c.args.edge) (sym here)
    ∙ sym c.in-Some-bound_of.ensures)).ends in
    omega (arith, ends, ap length c.as_slice.ensures.value)

pub returns-in-Some-bound_of : goal.returns-in-Some-bound_of
returns-in-Some-bound_of c =
    let first : IsFirstAt c.args.name.now c.self.inside.names c.in-Some.number =
    first-position c.args.name.now c.self.inside.names c.in-Some.number (sym c.in-Some.ensures.index) in
    let within : c.in-Some.number < length (bounds_of c.self.inside.values.items) =
    omega (
      arith,
      first-within c.args.name.now c.self.inside.names c.in-Some.number first,
      c.self.invariant.0.as_many,
    ) in
    let here = c.as_slice-bounds.ensures.value
    ∙ sym (bounds-at c.self.inside.values.items c.in-Some.number c.index.result.now within
    c.index.ensures) in
    ap Some (c.value_at.ensures ∙ ap (λ t. slice_range t c.in-Some-bound_of.bound.start
    c.in-Some-bound_of.bound.end) c.as_slice.ensures.value)
    ∙ ap (option_map (λ b. slice_range c.self.inside.text.items b.start b.end))
    (c.in-Some-bound_of.ensures ∙ ap (λ bs. bound_of bs c.args.edge) here)
    ∙ sym (value-first c.self.inside.text.items c.self.inside.names (bounds_of c.self.inside.values.items)
    c.args.name.now c.in-Some.number c.args.edge c.self.invariant.0.as_many first)
    ∙ ap (λ b. bound_in b c.args.edge c.args.name.now) c.self.view_is

pub returns-in-None-bound_of : goal.returns-in-None-bound_of
returns-in-None-bound_of c =
    let first : IsFirstAt c.args.name.now c.self.inside.names c.in-Some.number =
    first-position c.args.name.now c.self.inside.names c.in-Some.number (sym c.in-Some.ensures.index) in
    let within : c.in-Some.number < length (bounds_of c.self.inside.values.items) =
    omega (
      arith,
      first-within c.args.name.now c.self.inside.names c.in-Some.number first,
      c.self.invariant.0.as_many,
    ) in
    let here = c.as_slice-bounds.ensures.value
    ∙ sym (bounds-at c.self.inside.values.items c.in-Some.number c.index.result.now within
    c.index.ensures) in
    ap (option_map (λ b. slice_range c.self.inside.text.items b.start b.end))
    (c.in-None-bound_of.ensures ∙ ap (λ bs. bound_of bs c.args.edge) here)
    ∙ sym (value-first c.self.inside.text.items c.self.inside.names (bounds_of c.self.inside.values.items)
    c.args.name.now c.in-Some.number c.args.edge c.self.invariant.0.as_many first)
    ∙ ap (λ b. bound_in b c.args.edge c.args.name.now) c.self.view_is
