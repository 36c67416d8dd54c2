-- Lists that are returned many items at a time, from an index on.
use Rattle.std.specs.Prelude.{◌≡◌, ℕ, ℤ, List, ◌++◌, length, map, take, drop}
use Rattle.std.specs.List.{range_with_len}
use Rattle.nj_names.specs.declared.files.FileNo.{FileNo}
use Rattle.nj_edges.specs.Edges.{EdgePaths, inputs_of, kind_at}
use Rattle.nj_names.specs.Files.{AreFiles}
use Rattle.nj_c.specs.declared.status.Status.TheVariants.{Done}
use Rattle.nj_c.specs.Asking.{kind_code}
use Rattle.nj_c.specs.Statuses.{code_of}

-- a buffer with as many of the given items at its front as fit, and unchanged after them
abbrev pub filled : {A : Type 0} → (items before : List A) → List A
filled items before = take (length before) items ++ drop (length items) before

-- as many numbers of a list as fit, from an index on, were written to a buffer, and the length of the whole list was
-- returned
abbrev pub GivesNumbers : (numbers : List ℕ) → (from : ℕ) → (before after : List ℕ) → (count : ℕ) → ℤ → Type 0
GivesNumbers numbers from before after count result =
    (result ≡ code_of Done) × (count ≡ length numbers) × (after ≡ filled (drop from numbers) before)

-- the same for the numbers of the files with the given paths
abbrev pub GivesFiles : (files paths : List (List ℕ)) → (from : ℕ) → (before after : List ℕ) → (count : ℕ) → ℤ → Type 0
GivesFiles files paths from before after count result =
    (numbers : List FileNo) × AreFiles files numbers paths × GivesNumbers (map (λ f. f.0) numbers) from before after count result

-- the numbers of the kinds of all inputs of an edge
abbrev pub kinds_of : EdgePaths → List ℤ
kinds_of e = map (λ index. kind_code (kind_at e index)) (range_with_len 0 (length (inputs_of e)))
