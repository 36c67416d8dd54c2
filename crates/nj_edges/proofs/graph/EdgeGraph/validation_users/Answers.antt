use Rattle.std.proofs.Common.{◌∙◌, ◌+◌, ◌<◌, ℕ, List, length, subst, sym}
use Rattle.nj_edges.specs.Edges.{EdgePaths, is_among}
use Rattle.nj_names.specs.Files.{path_at}
use Rattle.nj_edges.specs.Inside.UsersHeld.{HaveUsersIfAny, using_edges}
use Rattle.nj_edges.specs.declared.users.RowPart.TheVariants.{Validations}
use Rattle.nj_edges.proofs.GraphUsers.{parts-lent, starts-below, users-known, users-paths}
use Rattle.nj_edges.proofs.graph.EdgeGraph.validation_users.Goals as goal

pub users_at-requires-clause-held : goal.users_at-requires-clause-held
users_at-requires-clause-held c =
    let uses = using_edges c.self.inside.lists.validations.items Validations 0 c.self.inside.lists.rows in
    let held = subst (λ found. HaveUsersIfAny (length c.self.inside.files) found uses) c.in-Some.is
    c.self.invariant.validation_users_are in (
      uses,
      parts-lent _ _ c.deref.result.now _ c.deref-in-Some.result.now _ c.deref.ensures.value
          c.deref-in-Some.ensures.value held,
    )

pub users_at-requires-clause-file : goal.users_at-requires-clause-file
users_at-requires-clause-file c =
    let uses = using_edges c.self.inside.lists.validations.items Validations 0 c.self.inside.lists.rows in
    let held = subst (λ found. HaveUsersIfAny (length c.self.inside.files) found uses) c.in-Some.is
    c.self.invariant.validation_users_are in
    subst (λ (ss : List ℕ). c.args.file.0 + 1 < length ss) (sym c.deref.ensures.value)
    (starts-below _ _ c.self.invariant.table.edges_are c.args.self.now c.self.view_is Validations c.args.file
    c.requires _ _ _ held)

pub returns-in-Some-clause-users : goal.returns-in-Some-clause-users
returns-in-Some-clause-users c =
    let uses = using_edges c.self.inside.lists.validations.items Validations 0 c.self.inside.lists.rows in
    let held = subst (λ found. HaveUsersIfAny (length c.self.inside.files) found uses) c.in-Some.is
    c.self.invariant.validation_users_are in
    c.users_at.ensures uses (parts-lent _ _ c.deref.result.now _ c.deref-in-Some.result.now _
    c.deref.ensures.value c.deref-in-Some.ensures.value held)
    ∙ users-paths _ _ c.self.invariant.table.edges_are c.args.self.now c.self.view_is Validations c.args.file
    c.requires

pub returns-in-Some-clause-known : goal.returns-in-Some-clause-known
returns-in-Some-clause-known c = users-known
    (λ (e : EdgePaths). is_among e.validations (path_at c.args.self.now.files c.args.file))
    c.args.self.now.edges c.users_at.result.now (returns-in-Some-clause-users c)

pub returns-in-None-clause-users : goal.returns-in-None-clause-users
returns-in-None-clause-users c =
    let uses = using_edges c.self.inside.lists.validations.items Validations 0 c.self.inside.lists.rows in
    let none = subst (λ found. HaveUsersIfAny (length c.self.inside.files) found uses) c.in-None.is
    c.self.invariant.validation_users_are in
    sym (none c.args.file.0) ∙ users-paths _ _ c.self.invariant.table.edges_are c.args.self.now
    c.self.view_is Validations c.args.file c.requires
