use Rattle.std.proofs.Common.{◌+◌, ◌≤◌, ◌++◌, ◌∷◌, [], List, ℕ, nat_eq, cond, length, arith, ap, ◌∙◌}
use Rattle.nj_edge_env.specs.Inside.BlocksHeld.{list_at}
use Rattle.nj_edge_env.proofs.ListLemmas.{length-lists, push-held, push-count, push-lists}
use Rattle.nj_edge_env.proofs.number_lists.NumberLists.push.Goals as goal

pub pad-requires : goal.pad-requires
pad-requires c = omega (
  arith,
  length-lists c.self.inside.numbers.items c.self.inside.starts.items,
  ap length c.self.view_is,
  c.requires,
)

pub invariant_of-self-2 : goal.invariant_of-self-2
invariant_of-self-2 c =
    let numbers = c.self.inside.numbers.items in
    let starts = c.self.inside.starts.items in
    let fits : length starts ≤ c.args.edge + 1 =
    omega (arith, length-lists numbers starts, ap length c.self.view_is, c.requires) in
    push-held numbers starts c.args.number c.args.edge c.in_ok-start.start c.push_reserved.new.self.items
    c.pad.new.starts.items c.self.invariant fits
    (c.in_ok-start.ensures.short ∙ ap length c.as_slice.ensures.value)
    c.in_ok-pad.ensures.padded
    (c.push_reserved.ensures.items ∙ ap (λ xs. xs ++ c.in_ok-number.number ∷ []) c.in_ok-reserve.ensures.items
    ∙ ap (λ n. numbers ++ n ∷ []) c.in_ok-number.ensures.short)

pub returns-clause-pushed : goal.returns-clause-pushed
returns-clause-pushed c = λ e.
    let numbers = c.self.inside.numbers.items in
    let starts = c.self.inside.starts.items in
    let fits : length starts ≤ c.args.edge + 1 =
    omega (arith, length-lists numbers starts, ap length c.self.view_is, c.requires) in
    push-lists numbers starts c.args.number c.args.edge c.in_ok-start.start c.push_reserved.new.self.items
    c.pad.new.starts.items c.self.invariant fits
    (c.in_ok-start.ensures.short ∙ ap length c.as_slice.ensures.value)
    c.in_ok-pad.ensures.padded
    (c.push_reserved.ensures.items ∙ ap (λ xs. xs ++ c.in_ok-number.number ∷ []) c.in_ok-reserve.ensures.items
    ∙ ap (λ n. numbers ++ n ∷ []) c.in_ok-number.ensures.short) e
    ∙ ap (λ (lists : List (List ℕ)). cond (nat_eq e c.args.edge) (list_at lists e ++ c.args.number ∷ [])
    (list_at lists e)) c.self.view_is

pub returns-clause-count : goal.returns-clause-count
returns-clause-count c =
    let numbers = c.self.inside.numbers.items in
    let starts = c.self.inside.starts.items in
    let fits : length starts ≤ c.args.edge + 1 =
    omega (arith, length-lists numbers starts, ap length c.self.view_is, c.requires) in
    push-count numbers starts c.args.number c.args.edge c.in_ok-start.start c.push_reserved.new.self.items
    c.pad.new.starts.items c.self.invariant fits
    (c.in_ok-start.ensures.short ∙ ap length c.as_slice.ensures.value)
    c.in_ok-pad.ensures.padded
    (c.push_reserved.ensures.items ∙ ap (λ xs. xs ++ c.in_ok-number.number ∷ []) c.in_ok-reserve.ensures.items
    ∙ ap (λ n. numbers ++ n ∷ []) c.in_ok-number.ensures.short)
