-- When two answers of one call are the same, and what they leave in the session.
use Rattle.std.specs.Prelude.{◌≡◌, ◌≢◌, ◌⊎◌, ℤ, ℕ, List, map, Option, Some, None, option_and_then, MatchOption, ⊤}
use Rattle.nj_tools.specs.Lines.{line}
use Rattle.nj_cli.specs.Runs.{out_of_memory}
use Rattle.nj_scope.specs.ReadingList.{ReadStatement}
use Rattle.nj_graph.specs.Graph.{GraphModel, IsGraphOf, edges_of}
use Rattle.nj_agreement.specs.Graphs.{SameNearestFirst}
use Rattle.nj_c.specs.declared.session_state.Kept.{Kept}
use Rattle.nj_c.specs.declared.status.Status.TheVariants.{Done, Short, OutOfMemory}
use Rattle.nj_c.specs.Pages.{edge_numbers, paths_of_files}
use Rattle.nj_c.specs.Statuses.{code_of}
use Rattle.nj_c.specs.SuppliedFiles.{SameFiles}

-- a status by which a call returned what was asked, or how much room it takes
abbrev pub IsGiven : ℤ → Type 0
IsGiven status = (status ≡ code_of Done) ⊎ (status ≡ code_of Short)

-- the same status; and what was returned, if anything, is the same
pub record SameAnswer (one other : ℤ) (Same : Type 0) : Type 0 where
  pub status : one ≡ other
  pub given : IsGiven one → Same

-- the same status and the same buffer, and the same length if it was returned
pub record SameBuffer {A : Type 0} (one other : ℤ) (after after_other : List A) (length length_other : ℕ) : Type 0 where
  pub answer : SameAnswer one other (length ≡ length_other)
  pub buffer : after ≡ after_other

-- it holds unless an allocation failed in one of the two calls
abbrev pub InMemory : (one other : ℤ) → Type 0 → Type 0
InMemory one other holds = one ≢ code_of OutOfMemory → other ≢ code_of OutOfMemory → holds

-- it holds unless a run reported that memory ran out
abbrev pub UnlessReported : Option Kept → Type 0 → Type 0
UnlessReported session holds = MatchOption session holds (λ kept. kept.errors.bytes ≢ line out_of_memory → holds)

-- it holds, of a graph only if that is the graph of statements
abbrev pub IfStated : Option Kept → Type 0 → Type 0
IfStated session holds = MatchOption session holds
    (λ kept. MatchOption kept.graph holds (λ g. (stated : List ReadStatement) → IsGraphOf g stated → holds))

-- it holds of the graph, if any
abbrev pub OfAnyGraph : Option Kept → (GraphModel → Type 0) → Type 0
OfAnyGraph session holds = MatchOption session ⊤ (λ kept. MatchOption kept.graph ⊤ holds)

-- ---- what a session keeps

-- both have a value, and the values are the same; or neither has
abbrev pub SameOptions : {A : Type 0} → (Same : A → A → Type 0) → (one other : Option A) → Type 0
SameOptions Same None None = ⊤
SameOptions Same None (Some other) = ⊥
SameOptions Same (Some one) None = ⊥
SameOptions Same (Some one) (Some other) = Same one other

-- the same log was joined to the graph, and the discovered inputs of the same edges are unknown
pub record SameJoined (one other : Kept) : Type 0 where
  pub log : one.log ≡ other.log
  pub unknown : one.unknown.items ≡ other.unknown.items

-- The contents of two sessions are the same, with graphs and lists of edges that are the same in the given sense. Ignored are how much room
-- lists have, which files were read since a load or a run began, and what was joined to a graph that is gone.
pub record SameContents (SameGraphs : GraphModel → GraphModel → Type 0) (SameEdges : (edges others : List ℕ) → Type 0) (one other : Kept)
    : Type 0 where
  pub files : SameFiles one.files other.files
  pub wanted : map (λ p. p.items) one.wanted.items ≡ map (λ p. p.items) other.wanted.items
  pub graph : SameOptions SameGraphs one.graph other.graph
  pub fault : one.fault ≡ other.fault
  pub found : SameEdges (edge_numbers one) (edge_numbers other)
  pub mark : one.mark.items ≡ other.mark.items
  pub stale : one.stale.items ≡ other.stale.items
  pub joined : one.graph ≢ None → SameJoined one other
  pub output : one.output.bytes ≡ other.output.bytes
  pub errors : one.errors.bytes ≡ other.errors.bytes

-- graphs or lists are the same only if they are equal
abbrev pub Equal : {A : Type 0} → (one other : A) → Type 0
Equal one other = one ≡ other

-- What two calls left in their sessions: they returned the same status, and both sessions are closed, or both are open with the same
-- contents; unless an allocation failed in one of the calls.
abbrev pub SameChange : (SameGraphs : GraphModel → GraphModel → Type 0) → (SameEdges : (edges others : List ℕ) → Type 0)
    → (one other : ℤ) → (left left_other : Option Kept) → Type 0
SameChange SameGraphs SameEdges one other left left_other =
    InMemory one other ((one ≡ other) × SameOptions (SameContents SameGraphs SameEdges) left left_other)

-- the graph of a session, if any
abbrev pub graph_of : Option Kept → Option GraphModel
graph_of session = option_and_then (λ kept. kept.graph) session

-- two lists of the edges that files need: only edges that are equally far may have changed places
abbrev pub SameNeeded : Option GraphModel → (files edges others : List ℕ) → Type 0
SameNeeded None files edges others = edges ≡ others
SameNeeded (Some g) files edges others =
    (edges ≡ others) ⊎ SameNearestFirst (edges_of g) (paths_of_files g files) edges others
