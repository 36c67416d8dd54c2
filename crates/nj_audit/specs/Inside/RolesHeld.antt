-- How the roles of edges are held. Nothing here has to be believed.
use Rattle.std.specs.Prelude.{◌≡◌, ℕ, List, length}
use Rattle.nj_names.specs.NumberSets.{NumberSetModel, has}
use Rattle.nj_graph.specs.Graph.{GraphModel, edges_of}
use Rattle.nj_audit.specs.Roles.{built_by_default, makers_of_opened}
use Rattle.nj_audit.specs.declared.roles.Roles.{Roles}

-- the set has the given numbers, which are below its limit
pub record HasNumbers (count : ℕ) (all : List ℕ) (set : NumberSetModel) : Type 0 where
  pub limit : set.limit ≡ count
  pub numbers : (number : ℕ) → has set.numbers number ≡ has all number

-- the roles are those of a graph's edges
pub record HasRoles (g : GraphModel) (roles : Roles) : Type 0 where
  pub built : HasNumbers (length (edges_of g)) (built_by_default g) roles.built
  pub opened : HasNumbers (length (edges_of g)) (makers_of_opened g) roles.opened
