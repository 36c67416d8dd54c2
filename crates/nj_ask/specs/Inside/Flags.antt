-- Numbers as flags.
use Rattle.std.specs.Prelude.{◌≡◌, ◌↔◌, ℕ, ◌<◌, Bool, true, false, List, length, slice_index_or, Option, Some}
use Rattle.std.specs.Prelude.{None, Contains}
use Rattle.std.specs.List.{filter, range_with_len}
use Rattle.nj_graph.specs.Changes.{IsOrNeeds}
use Rattle.nj_graph.specs.Edges.{EdgePaths}
use Rattle.nj_graph.specs.Graph.{GraphModel, edges_of, files_of}
use Rattle.nj_ask.specs.declared.shape.Marks.{Marks}
use Rattle.nj_ask.specs.Manifest.{is_one_of}

-- for each number below the count, whether it is among the given ones
pub record AreFlags (count : ℕ) (numbers : List ℕ) (flags : List Bool) : Type 0 where
  pub count_is : length flags ≡ count
  pub are : (n : ℕ) → n < count → slice_index_or flags n false ≡ is_one_of numbers n

-- the numbers with a flag, in rising order
abbrev pub flagged_numbers : List Bool → List ℕ
flagged_numbers flags = filter (λ n. slice_index_or flags n false) (range_with_len 0 (length flags))

-- for each edge, whether one of the makers is it or needs it
abbrev pub AreFeeds : List EdgePaths → (makers : List ℕ) → (flags : List Bool) → Type 0
AreFeeds edges makers flags =
    (edge : ℕ) → edge < length edges
    → (slice_index_or flags edge false ≡ true)
    ↔ ((maker : ℕ) × Contains makers maker × IsOrNeeds edges maker edge)

-- flags of what may change: for each file whether it is in question and whether it changed, and for each edge whether a change touches it
pub record AreMarks (g : GraphModel) (files changed edges : List ℕ) (marks : Marks) : Type 0 where
  pub are_some : AreFlags (length (files_of g)) files marks.is_some.items
  pub have_changed : AreFlags (length (files_of g)) changed marks.has_changed.items
  pub are_touched : AreFlags (length (edges_of g)) edges marks.is_touched.items

-- the flag of a maker, if any
abbrev pub is_made_flag : (flags : List Bool) → (maker : Option ℕ) → Bool
is_made_flag flags None = false
is_made_flag flags (Some maker) = slice_index_or flags maker false
