-- How the roots of a graph are found.
use Rattle.std.specs.Prelude.{◌≡◌, ℕ, ◌<◌, Bool, false, List, length, slice_index_or}
use Rattle.nj_names.specs.declared.files.FileNo.{FileNo}
use Rattle.nj_edges.specs.Inside.EdgesHeld.{has_number}

-- for each file, whether it is among the given files
pub record AreFlags (count : ℕ) (files : List FileNo) (flags : List Bool) : Type 0 where
  pub flags_count : length flags ≡ count
  pub flags_are : (n : ℕ) → n < count → slice_index_or flags n false ≡ has_number n files
