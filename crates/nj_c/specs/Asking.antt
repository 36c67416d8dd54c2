-- The effects of calls on a session, and their results.
use Rattle.std.specs.Prelude.{◌≡◌, ◌≢◌, ◌⊎◌, ◌<◌, ◌≤◌, ℕ, ℤ, pos, Bool, List, [], ◌∷◌, ◌++◌, Option, Some, None, option_and_then, length, drop, slice_get, MatchOption, if◌then◌else◌}
use Rattle.nj_edges.specs.declared.edges.Kind.{Kind}
use Rattle.nj_edges.specs.declared.edges.Kind.TheVariants.{Explicit, Implicit, OrderOnly}
use Rattle.nj_scope.specs.ReadingList.{ReadStatement}
use Rattle.nj_graph.specs.Graph.{GraphModel, IsGraphOf, edges_of, files_of, late_text_of}
use Rattle.nj_faults.specs.declared.fault.GraphFault.{GraphFault}
use Rattle.nj_faults.specs.declared.fault.Place.{Place}
use Rattle.nj_c.specs.declared.session_state.Kept.{Kept}
use Rattle.nj_c.specs.declared.status.Status.TheVariants.{Done, Nothing, Short, NotLoaded, BadNumber, NotOpen, OutOfMemory}
use Rattle.nj_c.specs.Statuses.{code_of}

-- the result is that the session is not open; or it is open, and `does` holds of its contents
abbrev pub IfOpen : Option Kept → ℤ → (Kept → Type 0) → Type 0
IfOpen session result does = MatchOption session (result ≡ code_of NotOpen) does

-- the result is that no graph is loaded; or a graph is, and `does` holds of it
abbrev pub IfLoaded : Option GraphModel → ℤ → (GraphModel → Type 0) → Type 0
IfLoaded graph result does = MatchOption graph (result ≡ code_of NotLoaded) does

-- the same of the graph of an open session
abbrev pub AtGraph : Option Kept → ℤ → (GraphModel → Type 0) → Type 0
AtGraph session result does = IfOpen session result (λ kept. IfLoaded kept.graph result does)

-- `does` holds if a number is below the count, and any other number is refused
pub record IfNumber (number count : ℕ) (result : ℤ) (does : Type 0) : Type 0 where
  pub is : number < count → does
  pub is_not : count ≤ number → result ≡ code_of BadNumber

-- of an edge of the graph of an open session
abbrev pub AtEdge : Option Kept → ℕ → ℤ → (GraphModel → Type 0) → Type 0
AtEdge session edge result does = AtGraph session result (λ g. IfNumber edge (length (edges_of g)) result (does g))

-- of a file of the graph of an open session
abbrev pub AtFile : Option Kept → ℕ → ℤ → (GraphModel → Type 0) → Type 0
AtFile session file result does = AtGraph session result (λ g. IfNumber file (length (files_of g)) result (does g))

-- the item of a list at an index was returned, if any
abbrev pub GivesItem : {A : Type 0} → Option A → ℤ → (A → Type 0) → Type 0
GivesItem item result gives = MatchOption item (result ≡ code_of Nothing) (λ x. (result ≡ code_of Done) × gives x)

-- the number of the file with the given path was returned, if any
abbrev pub GivesFile : (files : List (List ℕ)) → Option (List ℕ) → ℤ → ℕ → Type 0
GivesFile files path result file = GivesItem path result (λ p. slice_get files file ≡ Some p)

-- a text was copied to the front of the buffer if it fits in, and its length was returned
pub record GivesText (text before after : List ℕ) (needed : ℕ) (result : ℤ) : Type 0 where
  pub length_is : needed ≡ length text
  pub fits : length text ≤ length before → (result ≡ code_of Done) × (after ≡ text ++ drop (length text) before)
  pub short : length before < length text → (result ≡ code_of Short) × (after ≡ before)

-- a buffer is written only by a call that succeeded
abbrev pub KeptUnlessDone : (before after : List ℕ) → ℤ → Type 0
KeptUnlessDone before after result = result ≢ code_of Done → after ≡ before

-- the numbers of kinds of inputs
abbrev pub kind_code : Kind → ℤ
kind_code Explicit = pos 0
kind_code Implicit = pos 1
kind_code OrderOnly = pos 2

-- the number of the kind of a step; a validation has no kind, but a number of its own
abbrev pub step_kind_code : Option Kind → ℤ
step_kind_code (Some kind) = kind_code kind
step_kind_code None = pos 3

-- 1 for yes, 0 for no
abbrev pub bool_code : Bool → ℤ
bool_code is = if is then pos 1 else pos 0

-- a text was returned; or an allocation failed, and its length was not returned
abbrev pub GivesTextOrNot : (text before after : List ℕ) → (needed_before needed_after : ℕ) → ℤ → Type 0
GivesTextOrNot text before after needed_before needed_after result = GivesText text before after needed_after result
    ⊎ ((result ≡ code_of OutOfMemory) × (needed_after ≡ needed_before))

-- The value of a variable for an edge was returned. The graph is that of statements which were read.
abbrev pub GivesValue : GraphModel → (edge : ℕ) → (name before after : List ℕ) → (needed_before needed_after : ℕ) → ℤ → Type 0
GivesValue g edge name before after needed_before needed_after result = (entries : List ReadStatement) → IsGraphOf g entries
    → GivesTextOrNot (late_text_of entries edge name) before after needed_before needed_after result

-- the text of a list at an index was returned, if any
abbrev pub GivesTextAt : List (List ℕ) → (index : ℕ) → (before after : List ℕ) → (needed : ℕ) → ℤ → Type 0
GivesTextAt texts index before after needed result =
    MatchOption (slice_get texts index) (result ≡ code_of Nothing) (λ text. GivesText text before after needed result)

-- of the last fault of an open session, if any
abbrev pub OfFault : Option Kept → ℤ → (GraphFault → Type 0) → Type 0
OfFault session result does = IfOpen session result (λ kept. MatchOption kept.fault (result ≡ code_of Nothing) does)

-- of its place, if any
abbrev pub IfPlace : Option GraphFault → ℤ → (Place → Type 0) → Type 0
IfPlace fault result does = MatchOption (option_and_then (λ f. f.place) fault) (result ≡ code_of Nothing) does

-- what is said of the place of a session's fault
abbrev pub OfPlace : Option Kept → ℤ → (Place → Type 0) → Type 0
OfPlace session result does = IfOpen session result (λ kept. IfPlace kept.fault result does)

-- the text of a mark was returned; the empty text is not a mark
abbrev pub GivesMark : (text before after : List ℕ) → (needed : ℕ) → ℤ → Type 0
GivesMark [] before after needed result = result ≡ code_of Nothing
GivesMark (b ∷ bs) before after needed result = GivesText (b ∷ bs) before after needed result
