use Rattle.std.proofs.Common.{◌≡◌, ◌<◌, ◌≤◌, ◌-◌, ◌+◌, ◌++◌, ◌∷◌, [], ◌==◌, length, slice_set, arith, ap, ◌∙◌}
use Rattle.std.proofs.lemmas.List.{set-get_or}
use Rattle.nj_edge_env.specs.Inside.BlocksHeld.{ends_at, list_at}
use Rattle.nj_edge_env.proofs.BoundLemmas.{with_bound-nil, with_bound-set, with_bound-push, ends_at-nil}
use Rattle.nj_edge_env.proofs.BoundLemmas.{ends_at-last, test-from_same, test-from_apart, listed-before}
use Rattle.nj_edge_env.proofs.BoundLemmas.{listed-now}
use Rattle.nj_edge_env.proofs.name_values.set_bound.Goals as goal
use Rattle.nj_edge_env.proofs.name_values.set_bound.Goals.{in-Some+else-last-bound, in_default}

pub returns-then-last-bound-clause-set : goal.returns-then-last-bound-clause-set
returns-then-last-bound-clause-set c =
    let some : 0 < length c.args.bounds.now.items = c.in-Some.ensures.item.3.0 in
    let place : c.args.bounds.now.len - 1 + 1 ≡ length c.args.bounds.now.items =
    omega (arith, some, c.args.bounds.now.ok.0) in
    with_bound-set c.args.bounds.now.items (c.args.bounds.now.len - 1) c.in-Some.last.now c.args.bound place
    c.in-Some.ensures.value c.if-last-bound.true

pub returns-clause-set : goal.returns-clause-set
returns-clause-set c = elim c.match-last_mut.branch [
  | in-Some+else-last-bound w ↦
      let some : 0 < length c.args.bounds.now.items = w.in-Some.ensures.item.3.0 in
      let place : c.args.bounds.now.len - 1 + 1 ≡ length c.args.bounds.now.items =
      omega (arith, some, c.args.bounds.now.ok.0) in
      let same : slice_set c.args.bounds.now.items (c.args.bounds.now.len - 1) w.in-Some.last.now
      ≡ c.args.bounds.now.items = ap (slice_set c.args.bounds.now.items (c.args.bounds.now.len - 1))
      w.in-Some.ensures.value ∙ set-get_or c.args.bounds.now.items (c.args.bounds.now.len - 1)
      w.in-Some.last.now in
      c.push_reserved.ensures.items ∙ ap (λ xs. xs ++ c.args.bound ∷ [])
      (c.in_ok-reserve.ensures.items ∙ ap (λ (v : _). v.items) w.bounds-is ∙ same)
      ∙ with_bound-push c.args.bounds.now.items (c.args.bounds.now.len - 1) w.in-Some.last.now c.args.bound
      place w.in-Some.ensures.value w.if-last-bound.false
  | in_default w ↦
      let none : length c.args.bounds.now.items ≤ 0 = w.in_default.ensures.item.3 in
      c.push_reserved.ensures.items ∙ ap (λ xs. xs ++ c.args.bound ∷ [])
      (c.in_ok-reserve.ensures.items ∙ ap (λ (v : _). v.items) w.bounds-is)
      ∙ with_bound-nil c.args.bounds.now.items c.args.bound (λ some. omega (arith, some, none))
]

pub returns-then-last-bound-clause-listed : goal.returns-then-last-bound-clause-listed
returns-then-last-bound-clause-listed c = λ e.
    let some : 0 < length c.args.bounds.now.items = c.in-Some.ensures.item.3.0 in
    let place : c.args.bounds.now.len - 1 + 1 ≡ length c.args.bounds.now.items =
    omega (arith, some, c.args.bounds.now.ok.0) in
    listed-before (e == c.args.bound.edge) (ends_at c.args.bounds.now.items c.args.bound.edge)
    (list_at c.args.lists.now e ++ c.args.number ∷ []) (list_at c.args.lists.now e)
    (ends_at-last c.args.bounds.now.items (c.args.bounds.now.len - 1) c.args.bound.edge c.in-Some.last.now
    place c.in-Some.ensures.value ∙ test-from_same c.in-Some.last.now.edge c.args.bound.edge
    c.if-last-bound.true)

pub returns-clause-listed : goal.returns-clause-listed
returns-clause-listed c = λ e. c.in_ok-push.ensures.pushed e
    ∙ listed-now (e == c.args.bound.edge) (ends_at c.args.bounds.now.items c.args.bound.edge)
    (list_at c.args.lists.now e ++ c.args.number ∷ []) (list_at c.args.lists.now e)
    (elim c.match-last_mut.branch [
      | in-Some+else-last-bound w ↦
          let some : 0 < length c.args.bounds.now.items = w.in-Some.ensures.item.3.0 in
          let place : c.args.bounds.now.len - 1 + 1 ≡ length c.args.bounds.now.items =
          omega (arith, some, c.args.bounds.now.ok.0) in
          ends_at-last c.args.bounds.now.items (c.args.bounds.now.len - 1) c.args.bound.edge
          w.in-Some.last.now place w.in-Some.ensures.value
          ∙ test-from_apart w.in-Some.last.now.edge c.args.bound.edge w.if-last-bound.false
      | in_default w ↦
          let none : length c.args.bounds.now.items ≤ 0 = w.in_default.ensures.item.3 in
          ends_at-nil c.args.bounds.now.items c.args.bound.edge (λ some. omega (arith, some, none))
    ])
