use Rattle.std.proofs.lemmas.Result.{IfOk-weaker}
use Rattle.nj_edges.specs.declared.users.RowPart.TheVariants.{Outputs}
use Rattle.nj_edges.specs.declared.users.Users.{Users}
use Rattle.nj_edges.specs.Inside.DirtyHeld.{HaveUsersIn}
use Rattle.nj_edges.specs.Inside.UsersHeld.{HaveUsers, numbers_of, using_edges}
use Rattle.nj_edges.specs.Inside.EdgesHeld.{lists_of}
use Rattle.nj_edges.proofs.GraphUsers.{have-users, held-users, part-within}
use Rattle.nj_edges.proofs.graph.EdgeGraph.makers_of_files.Goals as goal

pub users_of_files-requires-clause-rows : goal.users_of_files-requires-clause-rows
users_of_files-requires-clause-rows c =
    rw c.deref.ensures.value (part-within _ (lists_of c.self.inside.lists) c.self.invariant.table.edges_are
    Outputs)

pub returns : goal.returns
returns c =
    IfOk-weaker c.users_of_files.result
    (λ (users : Users). HaveUsers c.count-file_count.result users.starts.items (numbers_of users.edges.items)
    (using_edges c.deref.result.now Outputs 0 c.self.inside.lists.rows))
    (λ (users : Users). HaveUsersIn Outputs c.args.self.now users)
    (λ users have. have-users _ _ c.self.invariant.table.edges_are c.args.self.now c.self.view_is Outputs
    users
    (held-users _ _ _ _ Outputs _ _ c.self.inside.lists.rows c.count-file_count.ensures.count
    c.deref.ensures.value have))
    c.users_of_files.ensures
