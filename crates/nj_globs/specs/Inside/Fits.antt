-- How a path is matched, from its end. Nothing here has to be believed.
use Rattle.std.specs.Prelude.{◌≡◌, ◌≤◌, ℕ, Bool, true, false, not, ◌&&◌, ◌||◌, ◌==◌, Decides, List, ◌∷◌, ◌++◌, map, length, drop, slice_index_or}
use Rattle.nj_globs.specs.declared.parts.Part.{Part}
use Rattle.nj_globs.specs.declared.parts.Part.TheVariants.{Byte, AnyByte, Star, DoubleStar, Directories, Set}
use Rattle.nj_globs.specs.declared.fits.Fit.{Fit}
use Rattle.nj_globs.specs.Globs.{GlobPart, is_slash, is_in_set, Matches}
use Rattle.nj_globs.specs.Globs.GlobPart.{one_byte, any_byte, star, double_star, directories, byte_set}

-- a part of the code as a part of a glob
abbrev pub part_model : Part → GlobPart
part_model (Byte byte) = one_byte byte
part_model AnyByte = any_byte
part_model Star = star
part_model DoubleStar = double_star
part_model Directories = directories
part_model (Set is_negated ranges) = byte_set is_negated ranges.items

abbrev pub parts_model : List Part → List GlobPart
parts_model parts = map part_model parts

-- the bytes for which a part of one byte stands
abbrev pub takes : GlobPart → (byte : ℕ) → Bool
takes (one_byte other) byte = byte == other
takes any_byte byte = not (is_slash byte)
takes star byte = false
takes double_star byte = false
takes directories byte = false
takes (byte_set is_negated ranges) byte = is_in_set is_negated ranges byte

-- a part may stand for no bytes
abbrev pub may_be_empty : GlobPart → Bool
may_be_empty (one_byte other) = false
may_be_empty any_byte = false
may_be_empty star = true
may_be_empty double_star = true
may_be_empty directories = true
may_be_empty (byte_set is_negated ranges) = false

-- parts match a path after one of its slashes
abbrev pub MatchesAfterSlash : List GlobPart → (path : List ℕ) → Type 0
MatchesAfterSlash parts path = (front rest : List ℕ) × (path ≡ front ++ 47 ∷ rest) × Matches parts rest

-- how parts fit a path
pub record IsFit (parts : List GlobPart) (path : List ℕ) (fit : Fit) : Type 0 where
  pub whole : Decides fit.whole (Matches parts path)
  pub after_slash : Decides fit.after_slash (MatchesAfterSlash parts path)

-- the fit after a slash of a path with one more byte in front
abbrev pub after_slash_with : (byte : ℕ) → (old : Fit) → Bool
after_slash_with byte old = old.after_slash || (is_slash byte && old.whole)

-- The same of the whole path. `old` is the fit before, `old_next` and `next` are the fits of the parts after this part.
abbrev pub whole_with : GlobPart → (byte : ℕ) → (old old_next next : Fit) → Bool
whole_with (one_byte other) byte old old_next next = takes (one_byte other) byte && old_next.whole
whole_with any_byte byte old old_next next = takes any_byte byte && old_next.whole
whole_with star byte old old_next next = next.whole || (not (is_slash byte) && old.whole)
whole_with double_star byte old old_next next = next.whole || old.whole
whole_with directories byte old old_next next = next.whole || next.after_slash
whole_with (byte_set is_negated ranges) byte old old_next next = takes (byte_set is_negated ranges) byte && old_next.whole

abbrev pub fit_with : GlobPart → (byte : ℕ) → (old old_next next : Fit) → Fit
fit_with part byte old old_next next =
    record { whole = whole_with part byte old old_next next; after_slash = after_slash_with byte old }

-- no fit
abbrev pub no_fit : Fit
no_fit = record { whole = false; after_slash = false }

-- the fits of the parts from each place on, but only from the given place on
abbrev pub AreFitsFrom : (from : ℕ) → List GlobPart → (path : List ℕ) → List Fit → Type 0
AreFitsFrom from parts path fits = (place : ℕ) → from ≤ place → place ≤ length parts
    → IsFit (drop place parts) path (slice_index_or fits place no_fit)

-- all of them
abbrev pub AreFits : List GlobPart → (path : List ℕ) → List Fit → Type 0
AreFits parts path fits = AreFitsFrom 0 parts path fits
