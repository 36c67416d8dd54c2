-- The state while dyndep files are joined: the edges with their additions, and which are still pending.
use Rattle.std.specs.Prelude.{◌≡◌, ℕ, ◌+◌, Bool, true, false, Option, Some, None}
use Rattle.std.specs.Prelude.{Result, Ok, Err, List, [], ◌∷◌, ◌++◌, map, bytes_eq}
use Rattle.std.specs.List.{IsDistinct}
use Rattle.nj_scope.specs.Readings.{IsPrefix}
use Rattle.nj_scope.specs.ReadingList.{ReadStatement}
use Rattle.nj_edge_env.specs.Blocks.{BlocksModel, bound_in, names_in}
use Rattle.nj_edges.specs.Joining.{JoinTable, none_added}
use Rattle.nj_faults.specs.declared.fault.GraphFault.{GraphFault}
use Rattle.nj_statements.specs.EdgeList.{Pending, AssignedModel, edges_read, paths_of_edges, defaults_read, pending_read, block_at, block_names_at, assigned_read, restats_read}
use Rattle.nj_statements.specs.Built.{EdgeDetail, detail_of}
use Rattle.nj_statements.specs.Joining.{dyndep_files}
use Rattle.nj_faults.specs.Faults.{IsFault}

-- ---- the pending edges

-- some edge is pending
abbrev pub has_pending : List Pending → Bool
has_pending [] = false
has_pending (p ∷ others) = true

-- the file on which an edge is pending, by the file to which it is bound, if any
abbrev pub unless_joined : {A : Type 0} → Option A → (was_joined : Bool) → Option A
unless_joined bound true = None
unless_joined bound false = bound

-- the file on which each edge is pending, by the file to which it is bound; nothing was joined to edges past the end of
-- the second list
abbrev pub still_pending : {A : Type 0} → (bound : List (Option A)) → (was_joined : List Bool) → List (Option A)
still_pending [] was_joined = []
still_pending (b ∷ bound) [] = b ∷ bound
still_pending (b ∷ bound) (was ∷ was_joined) = unless_joined b was ∷ still_pending bound was_joined

-- an edge as pending on a file; without a file, it is not pending
abbrev pub pending_of : (edge : ℕ) → Option (List ℕ) → List Pending
pending_of edge (Some file) = record { edge = edge; file = file } ∷ []
pending_of edge None = []

-- the pending edges, numbered from the given number on
abbrev pub pending_from : (number : ℕ) → (unjoined : List (Option (List ℕ))) → List Pending
pending_from number [] = []
pending_from number (w ∷ unjoined) = pending_of number w ++ pending_from (number + 1) unjoined

-- the edges that are still pending, numbered from the given number on
abbrev pub left_pending_from : (number : ℕ) → (bound : List (Option (List ℕ))) → (was_joined : List Bool) → List Pending
left_pending_from number bound was_joined = pending_from number (still_pending bound was_joined)

-- ---- files collected for an edge

-- no edge is changed, and files keep their numbers
pub record KeepsEdges (before after : JoinTable) : Type 0 where
  pub files : IsPrefix before.files after.files
  pub each_path_once : IsDistinct bytes_eq before.files → IsDistinct bytes_eq after.files
  pub stated : after.stated ≡ before.stated
  pub joined : after.joined ≡ before.joined
  pub was_joined : after.was_joined ≡ before.was_joined

-- ---- the fields

-- the edges while dyndep files are joined to them
pub record JoiningModel : Type 0 where
  pub table : JoinTable
  pub blocks : BlocksModel
  pub details : List EdgeDetail
  -- the paths of all `default` lines
  pub defaults : List (List ℕ)
  -- the dyndep files, each with its first edge
  pub dyndep_files : List Pending
  -- for each edge, the dyndep file to which it is bound
  pub bound : List (Option (List ℕ))
  -- the assignment of each edge
  pub assigned : List AssignedModel
  -- for each edge, whether its dyndep file binds `restat`
  pub restats : List Bool

-- It has the edges and defaults of the joined statements, the edges of the statements as they were read, and which edges are pending.
pub record HasJoined (held : JoiningModel) (stated joined : List ReadStatement) : Type 0 where
  pub stated_paths : held.table.stated ≡ paths_of_edges (edges_read stated)
  pub joined_paths : held.table.joined ≡ paths_of_edges (edges_read joined)
  pub none_open : held.table.«open» ≡ none_added
  pub stated_details : held.details ≡ map detail_of (edges_read stated)
  pub details : held.details ≡ map detail_of (edges_read joined)
  pub blocks : (number : ℕ) (name : List ℕ) → bound_in held.blocks number name ≡ block_at (edges_read joined) number name
  pub block_names : (number : ℕ) → names_in held.blocks number ≡ block_names_at (edges_read joined) number
  pub defaults : held.defaults ≡ defaults_read joined
  pub dyndep_files : held.dyndep_files ≡ dyndep_files (pending_read stated)
  pub bound : pending_read stated ≡ pending_from 0 held.bound
  pub unjoined : pending_read joined ≡ left_pending_from 0 held.bound held.table.was_joined
  pub assigned : held.assigned ≡ assigned_read joined
  pub restats : held.restats ≡ restats_read joined

-- Nothing is joined to an edge: the edges are unchanged, and so are the files on which they are pending. Files may be
-- added, without changing the numbers of the others, and the additions of an entry may be collected in part.
pub record JoinsNothing (before after : JoiningModel) : Type 0 where
  pub edges : KeepsEdges before.table after.table
  pub blocks : after.blocks ≡ before.blocks
  pub details : after.details ≡ before.details
  pub defaults : after.defaults ≡ before.defaults
  pub dyndep_files : after.dyndep_files ≡ before.dyndep_files
  pub bound : after.bound ≡ before.bound
  pub assigned : after.assigned ≡ before.assigned
  pub restats : after.restats ≡ before.restats

-- the entry has no fault and is joined, or its fault is answered
abbrev pub JoinsEntry : (after : JoiningModel) → Option GraphFault → (stated joined : List ReadStatement)
    → Result (Unit {0}) GraphFault → Type 0
JoinsEntry after expected stated joined (Ok done) = (expected ≡ None) × HasJoined after stated joined
JoinsEntry after expected stated joined (Err fault) = IsFault expected fault
