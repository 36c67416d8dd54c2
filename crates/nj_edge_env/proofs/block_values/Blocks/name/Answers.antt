use Rattle.std.proofs.Common.{◌<◌, ◌≤◌, List, ℕ, slice_get, get_or, length, ap, sym, subst, ◌∙◌}
use Rattle.nj_edge_env.specs.Blocks.{names_in}
use Rattle.nj_edge_env.specs.Inside.BlocksHeld.{list_at}
use Rattle.nj_edge_env.proofs.BlockLemmas.{names-at, name-some, name-none}
use Rattle.nj_edge_env.proofs.block_values.Blocks.name.Goals as goal

pub returns-in-Some : goal.returns-in-Some
returns-in-Some c =
    let found = c.in-Some.ensures.lookup in
    name-some c.self.inside.names (list_at c.self.inside.lists c.args.edge) c.args.index c.in-Some.number.now
    c.name.result.now
    (subst (λ (xs : List ℕ). c.args.index < length xs) c.list.ensures found.3.0)
    (found.1 ∙ ap (λ xs. get_or xs c.args.index c.in-Some.number.now) c.list.ensures) c.name.ensures
    ∙ ap (λ xs. slice_get xs c.args.index)
    (sym (names-at c.self.inside.names c.self.inside.lists c.args.edge))
    ∙ ap (λ b. slice_get (names_in b c.args.edge) c.args.index) c.self.view_is

pub returns-in-None : goal.returns-in-None
returns-in-None c =
    name-none c.self.inside.names (list_at c.self.inside.lists c.args.edge) c.args.index
    (subst (λ (xs : List ℕ). length xs ≤ c.args.index) c.list.ensures c.in-None.ensures.lookup.3)
    ∙ ap (λ xs. slice_get xs c.args.index)
    (sym (names-at c.self.inside.names c.self.inside.lists c.args.edge))
    ∙ ap (λ b. slice_get (names_in b c.args.edge) c.args.index) c.self.view_is
