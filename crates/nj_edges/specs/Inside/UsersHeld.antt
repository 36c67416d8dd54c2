-- How the users of files are held and found.
use Rattle.std.specs.Prelude.{◌≡◌, ℕ, zero, suc, ◌+◌, ◌<◌, ◌≤◌, ◌==◌, Bool, false, if◌then◌else◌, Option, Some, None, List, [], ◌∷◌, map, length}
use Rattle.std.specs.Prelude.{slice_index_or, slice_range}
use Rattle.nj_names.specs.declared.files.FileNo.{FileNo}
use Rattle.nj_edges.specs.declared.edges.EdgeNo.{EdgeNo}
use Rattle.nj_edges.specs.declared.edges.EdgeRow.{EdgeRow}
use Rattle.nj_edges.specs.declared.edges.Span.{Span}
use Rattle.nj_edges.specs.declared.users.RowPart.{RowPart}
use Rattle.nj_edges.specs.declared.users.RowPart.TheVariants.{CountedInputs, Inputs, Outputs, Validations}
use Rattle.nj_edges.specs.declared.users.Users.{Users}
use Rattle.nj_edges.specs.Edges.{edges_from}
use Rattle.nj_edges.specs.Inside.EdgesHeld.{has_number, within}

abbrev pub span_of : RowPart → EdgeRow → Span
span_of Inputs row = row.inputs
span_of CountedInputs row = record { start = row.inputs.start; end = row.inputs.start + row.kinds.implicit_inputs }
span_of Outputs row = row.outputs
span_of Validations row = row.validations

-- the edges that have the file in the given part, where the rows begin with the given edge
abbrev pub using_edges : (files : List FileNo) → RowPart → (edge : ℕ) → List EdgeRow → (file : ℕ) → List ℕ
using_edges files part edge rows file = edges_from edge (λ row. has_number file (within files (span_of part row))) rows

abbrev pub numbers_of : List EdgeNo → List ℕ
numbers_of edges = map (λ e. e.0) edges

-- ---- as one list

-- the part between two places has the users of a file
pub record IsPart (numbers : List ℕ) (start end : ℕ) (users : List ℕ) : Type 0 where
  pub rises : start ≤ end
  pub ends : end ≤ length numbers
  pub users_are : slice_range numbers start end ≡ users

-- the users of each file are between its start and the start of the next file
abbrev pub AreParts : (starts numbers : List ℕ) → (users : ℕ → List ℕ) → Type 0
AreParts starts numbers users =
    (n : ℕ) → n + 1 < length starts → IsPart numbers (slice_index_or starts n 0) (slice_index_or starts (n + 1) 0) (users n)

pub record HaveUsers (count : ℕ) (starts numbers : List ℕ) (users : ℕ → List ℕ) : Type 0 where
  pub count_is : length starts ≡ count + 1
  pub parts_are : AreParts starts numbers users

-- no list is held if no file has users
abbrev pub HaveUsersIfAny : (count : ℕ) → Option Users → (users : ℕ → List ℕ) → Type 0
HaveUsersIfAny count None users = (n : ℕ) → users n ≡ []
HaveUsersIfAny count (Some held) users = HaveUsers count held.starts.items (numbers_of held.edges.items) users

-- ---- the uses seen so far, while edges are visited from last to first

abbrev pub starts_with : (edge : ℕ) → List ℕ → Bool
starts_with edge [] = false
starts_with edge (e ∷ es) = e == edge

-- the edges with a given edge in front, unless it is the first already
abbrev pub with_front : (edge : ℕ) → List ℕ → List ℕ
with_front edge edges = if starts_with edge edges then edges else edge ∷ edges

abbrev pub plus_use : (file edge : ℕ) → (uses : ℕ → List ℕ) → ℕ → List ℕ
plus_use file edge uses n = if n == file then with_front edge (uses n) else uses n

abbrev pub plus_uses : List FileNo → (edge : ℕ) → (uses : ℕ → List ℕ) → ℕ → List ℕ
plus_uses files edge uses n = if has_number n files then with_front edge (uses n) else uses n

-- ---- counted

-- the mark of a file that the edges use: one more than the first edge
abbrev pub mark_of : List ℕ → ℕ
mark_of [] = 0
mark_of (e ∷ es) = e + 1

abbrev pub AreMarks : (marks : List ℕ) → (uses : ℕ → List ℕ) → Type 0
AreMarks marks uses = (n : ℕ) → n < length marks → slice_index_or marks n 0 ≡ mark_of (uses n)

abbrev pub AreCounts : (counts : List ℕ) → (uses : ℕ → List ℕ) → Type 0
AreCounts counts uses = (n : ℕ) → n < length counts → slice_index_or counts n 0 ≡ length (uses n)

pub record AreCounted (counts marks : List ℕ) (uses : ℕ → List ℕ) : Type 0 where
  pub counts_are : AreCounts counts uses
  pub marks_are : AreMarks marks uses

-- how many users the files before the given file have
abbrev pub users_before : (uses : ℕ → List ℕ) → (file : ℕ) → ℕ
users_before uses zero = 0
users_before uses (suc n) = users_before uses n + length (uses n)

abbrev pub AreEnds : (ends : List ℕ) → (uses : ℕ → List ℕ) → Type 0
AreEnds ends uses = (n : ℕ) → n < length ends → slice_index_or ends n 0 ≡ users_before uses (n + 1)

-- ---- placed

abbrev pub number_at : List EdgeNo → (place : ℕ) → ℕ
number_at edges place = (slice_index_or edges place (record { 0 = 0 })).0

-- some of all uses are at their places: the uses of each file from a place up to where its users end
pub record ArePlaced (all uses : ℕ → List ℕ) (places marks : List ℕ) (edges : List EdgeNo) : Type 0 where
  pub count_is : length edges ≡ users_before all (length places)
  pub starts_are : (n : ℕ) → n < length places → users_before all n ≤ slice_index_or places n 0
  pub ends_are : (n : ℕ) → n < length places → slice_index_or places n 0 + length (uses n) ≡ users_before all (n + 1)
  pub edges_are : (n i : ℕ) → n < length places → i < length (uses n)
      → number_at edges (slice_index_or places n 0 + i) ≡ slice_index_or (uses n) i 0
  pub marks_are : AreMarks marks uses

-- no file has more of the uses seen so far than of all uses
abbrev pub HaveCapacity : (all uses : ℕ → List ℕ) → Type 0
HaveCapacity all uses = (n : ℕ) → length (uses n) ≤ length (all n)
