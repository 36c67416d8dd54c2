-- How a graph of edges is held.
use Rattle.std.specs.Prelude.{◌≡◌, ℕ, Option, List, length}
use Rattle.nj_cycles.specs.Cycles.{IsAcyclic}
use Rattle.nj_names.specs.declared.files.FileNo.{FileNo}
use Rattle.nj_edges.specs.declared.users.RowPart.TheVariants.{Inputs, Validations}
use Rattle.nj_edges.specs.declared.users.Users.{Users}
use Rattle.nj_edges.specs.Edges.{roots_of}
use Rattle.nj_edges.specs.EdgeTables.{no_files}
use Rattle.nj_edges.specs.Inside.EdgesHeld.{Lists, TableIsHeld, edges_of, table_of}
use Rattle.nj_names.specs.Files.{AreFiles}
use Rattle.nj_edges.specs.Needs.{makers_of_inputs}
use Rattle.nj_edges.specs.Inside.UsersHeld.{HaveUsers, HaveUsersIfAny, numbers_of, using_edges}

-- the graph is a table in which no edge is being read
pub record GraphIsHeld (files : List (List ℕ)) (l : Lists) (roots : List FileNo) (users : Users) (validation_users : Option Users) : Type 0 where
  pub table : TableIsHeld files l
  pub closed : (table_of files l).«open» ≡ no_files
  pub acyclic : IsAcyclic (makers_of_inputs (edges_of files l)) (length l.rows)
  pub roots_are : AreFiles files roots (roots_of (edges_of files l))
  pub users_are : HaveUsers (length files) users.starts.items (numbers_of users.edges.items) (using_edges l.inputs Inputs 0 l.rows)
  pub validation_users_are : HaveUsersIfAny (length files) validation_users (using_edges l.validations Validations 0 l.rows)
