-- The version of Ninja whose files are read, and whether a file requires a newer one ("Version requirements" in the Ninja manual).
use Rattle.std.specs.Prelude.{ℕ, Bool, ◌&&◌, ◌||◌, nat_lt, ◌==◌, List, codes}
use Rattle.nj_text.specs.Numbers.{version_pair_of}

-- major and minor
abbrev pub reader_version : ℕ × ℕ
reader_version = (1, 12)

-- as a fault writes it
abbrev pub reader_version_text : List ℕ
reader_version_text = codes "1.12"

-- a version is newer than another, by major and minor
abbrev pub is_newer_pair : (version than : ℕ × ℕ) → Bool
is_newer_pair (major, minor) (than_major, than_minor) = nat_lt than_major major || (major == than_major && nat_lt than_minor minor)

-- whether a version is newer than the one whose files are read
abbrev pub is_newer : List ℕ → Bool
is_newer text = is_newer_pair (version_pair_of text) reader_version
