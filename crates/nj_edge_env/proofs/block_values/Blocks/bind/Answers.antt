use Rattle.std.proofs.Common.{◌≡◌, ◌≤◌, ◌==◌, ◌&&◌, ◌++◌, ◌∷◌, [], List, ℕ, Some, not, is_some, if◌then◌else◌}
use Rattle.std.proofs.Common.{length, get_or, set, bytes_eq, arith, refl, ap, sym, subst, ◌∙◌}
use Rattle.std.proofs.lemmas.List.{map-set, length-map}
use Rattle.std.specs.Global.{Vec}
use Rattle.nj_edge_env.specs.declared.name_values.Bound.{Bound}
use Rattle.nj_edge_env.specs.Blocks.{BlocksModel, bound_in, names_in}
use Rattle.nj_edge_env.specs.Inside.BlocksHeld.{values_of, values_by_name, blocks_of, bounds_of, list_at}
use Rattle.nj_edge_env.specs.Inside.BlocksHeld.{bound_of, BindNeitherAfter, BoundsAreHeld, BlocksAreHeld}
use Rattle.nj_edge_env.proofs.BoundLemmas.{at_ok, at_err, in_both}
use Rattle.nj_edge_env.proofs.BlockLemmas.{value_of, Bound-now, later, neither-after, number-within}
use Rattle.nj_edge_env.proofs.BlockLemmas.{held-here, bounds-at, set-bound, set-same, names-bound, names-same}
use Rattle.nj_edge_env.proofs.BlockLemmas.{held-bound, held-same}
use Rattle.nj_edge_env.proofs.block_values.Blocks.bind.Goals as goal

pub index_mut-requires : goal.index_mut-requires
index_mut-requires c =
    let text = c.self.inside.text.items in
    let names = c.self.inside.names in
    let bounds = bounds_of c.self.inside.values.items in
    let lists = c.self.inside.lists in
    let edge = c.args.edge in
    let from : c.self.inside.last ≤ edge =
    subst (λ (b : BlocksModel). b.last ≤ edge) (sym c.self.view_is) c.requires in
    let held = later (length text) c.self.inside.last edge names bounds lists from c.self.invariant.0 in
    let values1 = c.name_number.new.values.items in
    let n = c.in_ok-number.number in
    let is = c.in_ok-number.ensures.number in
    let within = number-within text names bounds lists edge held c.args.name.now c.name_number.new.names
    (bounds_of values1) n is in
    omega (arith, within, length-map values1 (λ (v : Vec Bound). v.items), c.name_number.new.values.ok.0)

pub bind_value-requires-clause-held : goal.bind_value-requires-clause-held
bind_value-requires-clause-held c =
    let text = c.self.inside.text.items in
    let names = c.self.inside.names in
    let bounds = bounds_of c.self.inside.values.items in
    let lists = c.self.inside.lists in
    let edge = c.args.edge in
    let from : c.self.inside.last ≤ edge =
    subst (λ (b : BlocksModel). b.last ≤ edge) (sym c.self.view_is) c.requires in
    let held = later (length text) c.self.inside.last edge names bounds lists from c.self.invariant.0 in
    let values1 = c.name_number.new.values.items in
    let n = c.in_ok-number.number in
    let is = c.in_ok-number.ensures.number in
    let within = number-within text names bounds lists edge held c.args.name.now c.name_number.new.names
    (bounds_of values1) n is in
    let at : get_or (bounds_of values1) n [] ≡ c.index_mut.result.now.items =
    bounds-at values1 n c.index_mut.result.now within c.index_mut.ensures.value in
    subst (BoundsAreHeld (length text) edge) at
    (held-here text names bounds lists edge held c.args.name.now c.name_number.new.names
    (bounds_of values1) n is)

pub invariant_of-self : goal.invariant_of-self
invariant_of-self c =
    let text = c.self.inside.text.items in
    let names = c.self.inside.names in
    let bounds = bounds_of c.self.inside.values.items in
    let lists = c.self.inside.lists in
    let edge = c.args.edge in
    let from : c.self.inside.last ≤ edge =
    subst (λ (b : BlocksModel). b.last ≤ edge) (sym c.self.view_is) c.requires in
    let held = later (length text) c.self.inside.last edge names bounds lists from c.self.invariant.0 in
    let assigning = c.last_assigning-self-inside.result in
    let values1 = c.name_number.new.values.items in
    subst (λ (ns : List (List ℕ)). BlocksAreHeld (length text) edge ns (bounds_of values1) lists
    × BindNeitherAfter assigning (blocks_of text ns (bounds_of values1) lists edge))
    (sym c.in_err-number.ensures.names)
    (subst (λ (vs : List (Vec Bound)). BlocksAreHeld (length text) edge names (bounds_of vs) lists
    × BindNeitherAfter assigning (blocks_of text names (bounds_of vs) lists edge))
    (sym c.in_err-number.ensures.values) (
      held,
      subst (λ a. BindNeitherAfter a (blocks_of text names bounds lists edge))
          (sym c.last_assigning-self-inside.ensures)
          (neither-after c.self.inside.assigning edge c.args.name.now
          (blocks_of text names bounds lists c.self.inside.last) (blocks_of text names bounds lists edge)
          from refl (λ e x other. refl) c.self.invariant.1),
    ))

pub invariant_of-self-2 : goal.invariant_of-self-2
invariant_of-self-2 c =
    let text = c.self.inside.text.items in
    let names = c.self.inside.names in
    let bounds = bounds_of c.self.inside.values.items in
    let lists = c.self.inside.lists in
    let edge = c.args.edge in
    let from : c.self.inside.last ≤ edge =
    subst (λ (b : BlocksModel). b.last ≤ edge) (sym c.self.view_is) c.requires in
    let held = later (length text) c.self.inside.last edge names bounds lists from c.self.invariant.0 in
    let values1 = c.name_number.new.values.items in
    let n = c.in_ok-number.number in
    let is = c.in_ok-number.ensures.number in
    let within = number-within text names bounds lists edge held c.args.name.now c.name_number.new.names
    (bounds_of values1) n is in
    let at : get_or (bounds_of values1) n [] ≡ c.index_mut.result.now.items =
    bounds-at values1 n c.index_mut.result.now within c.index_mut.ensures.value in
    let set_is = map-set (λ (v : Vec Bound). v.items) values1 n c.bind_value.new.bounds in (
      subst (λ (bs : List (List Bound)). BlocksAreHeld (length c.bind_value.new.text.items) edge
          c.name_number.new.names bs c.bind_value.new.lists) (sym set_is)
          (in_both c.bind_value.result c.bind_value.ensures.listed c.bind_value.ensures.unlisted
          (λ listed. held-bound text names bounds lists edge held c.args.name.now c.name_number.new.names
          (bounds_of values1) n is c.bind_value.new.text.items c.bind_value.new.bounds.items
          c.bind_value.new.lists c.bind_value.ensures.text c.bind_value.ensures.held
          (λ e. listed e ∙ ap (λ bs. if e == edge
          && not (is_some (bound_of bs edge)) then list_at lists e ++ n ∷ [] else list_at lists e)
          (sym at)) c.bind_value.ensures.lists_end)
          (λ same. held-same text names bounds lists edge held c.args.name.now c.name_number.new.names
          (bounds_of values1) n is c.bind_value.new.text.items c.bind_value.new.bounds.items
          c.bind_value.new.lists c.bind_value.ensures.text c.bind_value.ensures.held same
          c.bind_value.ensures.lists_end)),
      subst (λ (bs : List (List Bound)). BindNeitherAfter c.last_assigning-self-inside.result
          (blocks_of c.bind_value.new.text.items c.name_number.new.names bs c.bind_value.new.lists edge))
          (sym set_is)
          (subst (λ a. BindNeitherAfter a (blocks_of c.bind_value.new.text.items c.name_number.new.names
          (set (bounds_of values1) n c.bind_value.new.bounds.items) c.bind_value.new.lists edge))
          (sym c.last_assigning-self-inside.ensures)
          (neither-after c.self.inside.assigning edge c.args.name.now
          (blocks_of text names bounds lists c.self.inside.last)
          (blocks_of c.bind_value.new.text.items c.name_number.new.names
          (set (bounds_of values1) n c.bind_value.new.bounds.items) c.bind_value.new.lists edge) from refl
          (in_both c.bind_value.result c.bind_value.ensures.bound c.bind_value.ensures.refused
          (λ bound e x other.
          set-bound text names bounds lists edge held c.args.name.now c.name_number.new.names
          (bounds_of values1) n is c.bind_value.new.text.items c.bind_value.new.bounds.items
          c.bind_value.new.lists c.bind_value.ensures.text c.args.value.now
          (subst (λ (bs : List Bound). Bound-now text c.bind_value.new.text.items edge c.args.value.now bs
          c.bind_value.new.bounds.items) (sym at) bound) e x
          ∙ ap (λ b. if b then Some c.args.value.now else bound_in
          (blocks_of text names bounds lists c.self.inside.last) e x) other)
          (λ same e x other.
          set-same text names bounds lists edge held c.args.name.now c.name_number.new.names
          (bounds_of values1) n is c.bind_value.new.text.items c.bind_value.new.bounds.items
          c.bind_value.new.lists c.bind_value.ensures.text (same ∙ ap (values_of text) (sym at)) e x))
          c.self.invariant.1)),
    )

pub returns-clause-bound : goal.returns-clause-bound
returns-clause-bound c =
    let text = c.self.inside.text.items in
    let names = c.self.inside.names in
    let bounds = bounds_of c.self.inside.values.items in
    let lists = c.self.inside.lists in
    let edge = c.args.edge in
    let from : c.self.inside.last ≤ edge =
    subst (λ (b : BlocksModel). b.last ≤ edge) (sym c.self.view_is) c.requires in
    let held = later (length text) c.self.inside.last edge names bounds lists from c.self.invariant.0 in
    let values1 = c.name_number.new.values.items in
    let n = c.in_ok-number.number in
    let is = c.in_ok-number.ensures.number in
    let within = number-within text names bounds lists edge held c.args.name.now c.name_number.new.names
    (bounds_of values1) n is in
    let at : get_or (bounds_of values1) n [] ≡ c.index_mut.result.now.items =
    bounds-at values1 n c.index_mut.result.now within c.index_mut.ensures.value in
    let set_is = map-set (λ (v : Vec Bound). v.items) values1 n c.bind_value.new.bounds in
    at_ok c.bind_value.result c.bind_value.ensures.bound (λ bound e x.
    ap (λ bs. value_of (values_by_name c.bind_value.new.text.items c.name_number.new.names bs) e x) set_is
    ∙ set-bound text names bounds lists edge held c.args.name.now c.name_number.new.names (bounds_of values1)
    n is c.bind_value.new.text.items c.bind_value.new.bounds.items c.bind_value.new.lists
    c.bind_value.ensures.text c.args.value.now
    (subst (λ (bs : List Bound). Bound-now text c.bind_value.new.text.items edge c.args.value.now bs
    c.bind_value.new.bounds.items) (sym at) bound) e x
    ∙ ap (λ b. if e == edge && bytes_eq x c.args.name.now then Some c.args.value.now else bound_in b e x)
    c.self.view_is)

pub returns-clause-refused : goal.returns-clause-refused
returns-clause-refused c =
    let text = c.self.inside.text.items in
    let names = c.self.inside.names in
    let bounds = bounds_of c.self.inside.values.items in
    let lists = c.self.inside.lists in
    let edge = c.args.edge in
    let from : c.self.inside.last ≤ edge =
    subst (λ (b : BlocksModel). b.last ≤ edge) (sym c.self.view_is) c.requires in
    let held = later (length text) c.self.inside.last edge names bounds lists from c.self.invariant.0 in
    let values1 = c.name_number.new.values.items in
    let n = c.in_ok-number.number in
    let is = c.in_ok-number.ensures.number in
    let within = number-within text names bounds lists edge held c.args.name.now c.name_number.new.names
    (bounds_of values1) n is in
    let at : get_or (bounds_of values1) n [] ≡ c.index_mut.result.now.items =
    bounds-at values1 n c.index_mut.result.now within c.index_mut.ensures.value in
    let set_is = map-set (λ (v : Vec Bound). v.items) values1 n c.bind_value.new.bounds in
    at_err c.bind_value.result c.bind_value.ensures.refused (λ same e x.
    ap (λ bs. value_of (values_by_name c.bind_value.new.text.items c.name_number.new.names bs) e x) set_is
    ∙ set-same text names bounds lists edge held c.args.name.now c.name_number.new.names (bounds_of values1) n
    is c.bind_value.new.text.items c.bind_value.new.bounds.items c.bind_value.new.lists
    c.bind_value.ensures.text (same ∙ ap (values_of text) (sym at)) e x
    ∙ ap (λ b. bound_in b e x) c.self.view_is)

pub returns-clause-names : goal.returns-clause-names
returns-clause-names c =
    let text = c.self.inside.text.items in
    let names = c.self.inside.names in
    let bounds = bounds_of c.self.inside.values.items in
    let lists = c.self.inside.lists in
    let edge = c.args.edge in
    let from : c.self.inside.last ≤ edge =
    subst (λ (b : BlocksModel). b.last ≤ edge) (sym c.self.view_is) c.requires in
    let held = later (length text) c.self.inside.last edge names bounds lists from c.self.invariant.0 in
    let values1 = c.name_number.new.values.items in
    let n = c.in_ok-number.number in
    let is = c.in_ok-number.ensures.number in
    let within = number-within text names bounds lists edge held c.args.name.now c.name_number.new.names
    (bounds_of values1) n is in
    let at : get_or (bounds_of values1) n [] ≡ c.index_mut.result.now.items =
    bounds-at values1 n c.index_mut.result.now within c.index_mut.ensures.value in
    at_ok c.bind_value.result c.bind_value.ensures.listed (λ listed e.
    names-bound text names bounds lists edge held c.args.name.now c.name_number.new.names (bounds_of values1)
    n is c.bind_value.new.text.items c.bind_value.new.bounds.items c.bind_value.new.lists
    c.bind_value.ensures.text
    (λ k. listed k ∙ ap (λ bs. if k == edge
    && not (is_some (bound_of bs edge)) then list_at lists k ++ n ∷ [] else list_at lists k) (sym at)) e
    ∙ ap (λ b. if e == edge && not (is_some (bound_in b edge c.args.name.now)) then names_in b e
    ++ c.args.name.now ∷ [] else names_in b e) c.self.view_is)

pub returns-clause-same_names : goal.returns-clause-same_names
returns-clause-same_names c =
    let text = c.self.inside.text.items in
    let names = c.self.inside.names in
    let bounds = bounds_of c.self.inside.values.items in
    let lists = c.self.inside.lists in
    let edge = c.args.edge in
    let from : c.self.inside.last ≤ edge =
    subst (λ (b : BlocksModel). b.last ≤ edge) (sym c.self.view_is) c.requires in
    let held = later (length text) c.self.inside.last edge names bounds lists from c.self.invariant.0 in
    let values1 = c.name_number.new.values.items in
    let n = c.in_ok-number.number in
    let is = c.in_ok-number.ensures.number in
    let within = number-within text names bounds lists edge held c.args.name.now c.name_number.new.names
    (bounds_of values1) n is in
    at_err c.bind_value.result c.bind_value.ensures.unlisted (λ same e.
    names-same text names bounds lists edge held c.args.name.now c.name_number.new.names (bounds_of values1) n
    is c.bind_value.new.text.items c.bind_value.new.bounds.items c.bind_value.new.lists
    c.bind_value.ensures.text same e
    ∙ ap (λ b. names_in b e) c.self.view_is)
