use Rattle.std.proofs.Common.{◌∙◌, ◌+◌, ◌<◌, ℕ, List, length, subst, sym}
use Rattle.nj_edges.specs.Edges.{inputs_of, is_among}
use Rattle.nj_names.specs.Files.{path_at}
use Rattle.nj_edges.specs.Inside.UsersHeld.{using_edges}
use Rattle.nj_edges.specs.declared.users.RowPart.TheVariants.{Inputs}
use Rattle.nj_edges.proofs.GraphUsers.{parts-lent, starts-below, users-known, users-paths}
use Rattle.nj_edges.proofs.graph.EdgeGraph.users.Goals as goal

pub users_at-requires-clause-held : goal.users_at-requires-clause-held
users_at-requires-clause-held c = (
  using_edges c.self.inside.lists.inputs.items Inputs 0 c.self.inside.lists.rows,
  (parts-lent _ _ c.deref.result.now _ c.deref-2.result.now _ c.deref.ensures.value c.deref-2.ensures.value
      c.self.invariant.users_are),
)

pub users_at-requires-clause-file : goal.users_at-requires-clause-file
users_at-requires-clause-file c =
    subst (λ (ss : List ℕ). c.args.file.0 + 1 < length ss) (sym c.deref.ensures.value)
    (starts-below _ _ c.self.invariant.table.edges_are c.args.self.now c.self.view_is Inputs c.args.file
    c.requires _ _ _ c.self.invariant.users_are)

pub returns-clause-users : goal.returns-clause-users
returns-clause-users c =
    c.users_at.ensures (using_edges c.self.inside.lists.inputs.items Inputs 0 c.self.inside.lists.rows)
    (parts-lent _ _ c.deref.result.now _ c.deref-2.result.now _ c.deref.ensures.value
    c.deref-2.ensures.value c.self.invariant.users_are)
    ∙ users-paths _ _ c.self.invariant.table.edges_are c.args.self.now c.self.view_is Inputs c.args.file
    c.requires

pub returns-clause-known : goal.returns-clause-known
returns-clause-known c = users-known (λ e. is_among (inputs_of e) (path_at c.args.self.now.files c.args.file))
    c.args.self.now.edges c.users_at.result.now (returns-clause-users c)
