use Rattle.std.proofs.Common.{◌==◌, ◌&&◌, not, if◌then◌else◌, ◌++◌, ◌∷◌, [], length, ap, subst, ◌∙◌, sym}
use Rattle.std.specs.Map.{lookup}
use Rattle.nj_edge_env.specs.Inside.BlocksHeld.{values_of, BoundsAreHeld, ends_at, list_at}
use Rattle.nj_edge_env.proofs.BoundLemmas.{at_ok, at_err, in_both, on_err, values_kept, longer, bounds_grow}
use Rattle.nj_edge_env.proofs.BoundLemmas.{bound-now, held-now, ends-bound}
use Rattle.nj_edge_env.proofs.name_values.bind_value.Goals as goal

pub returns-in_err-bound-clause-refused : goal.returns-in_err-bound-clause-refused
returns-in_err-bound-clause-refused c =
    on_err c.from_residual.result (values_kept c.args.text.now.items c.bound_to.new.text.items c.args.edge
    c.args.bounds.now.items c.bound_to.ensures.text c.requires.held.parts)

pub returns-in_err-bound-clause-held : goal.returns-in_err-bound-clause-held
returns-in_err-bound-clause-held c = bounds_grow _ _ c.args.edge c.args.bounds.now.items
    (longer c.args.text.now.items c.bound_to.new.text.items c.bound_to.ensures.text) c.requires.held

pub returns-clause-bound : goal.returns-clause-bound
returns-clause-bound c = at_ok c.set_bound.result c.set_bound.ensures.set (λ set e.
    ap (λ bs. lookup (λ x. e == x) (values_of c.bound_to.new.text.items bs)) set
    ∙ bound-now c.args.text.now.items c.bound_to.new.text.items c.args.edge c.args.value.now
    c.args.bounds.now.items c.in_ok-bound.bound c.bound_to.ensures.text c.requires.held
    c.in_ok-bound.ensures.bound e)

pub returns-clause-refused : goal.returns-clause-refused
returns-clause-refused c = at_err c.set_bound.result c.set_bound.ensures.refused (λ same.
    ap (values_of c.bound_to.new.text.items) same
    ∙ values_kept c.args.text.now.items c.bound_to.new.text.items c.args.edge c.args.bounds.now.items
    c.bound_to.ensures.text c.requires.held.parts)

pub returns-clause-held : goal.returns-clause-held
returns-clause-held c = in_both c.set_bound.result c.set_bound.ensures.set c.set_bound.ensures.refused
    (λ set. subst (BoundsAreHeld (length c.bound_to.new.text.items) c.args.edge) (sym set)
    (held-now c.args.text.now.items c.bound_to.new.text.items c.args.edge c.args.value.now
    c.args.bounds.now.items c.in_ok-bound.bound c.bound_to.ensures.text c.requires.held
    c.in_ok-bound.ensures.bound))
    (λ same. subst (BoundsAreHeld (length c.bound_to.new.text.items) c.args.edge) (sym same)
    (bounds_grow _ _ c.args.edge c.args.bounds.now.items
    (longer c.args.text.now.items c.bound_to.new.text.items c.bound_to.ensures.text) c.requires.held))

pub returns-clause-listed : goal.returns-clause-listed
returns-clause-listed c = at_ok c.set_bound.result c.set_bound.ensures.listed (λ listed e.
    let more = list_at c.args.lists.now e ++ c.args.number ∷ [] in
    let same = list_at c.args.lists.now e in
    listed e
    ∙ ap (λ n. if e == n && not (ends_at c.args.bounds.now.items n) then more else same)
    c.in_ok-bound.ensures.bound.edge
    ∙ ap (λ t. if e == c.args.edge && not t then more else same)
    (sym (ends-bound c.args.bounds.now.items (length c.args.text.now.items) c.args.edge c.requires.held.rising
    c.requires.held.parts)))
