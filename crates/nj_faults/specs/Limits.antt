-- How many files may be open at once, and be opened in one run.
use Rattle.std.specs.Prelude.{ℕ, suc}

-- within the main file
abbrev pub most_within : ℕ
most_within = 31

-- the main file among them
abbrev pub most_open : ℕ
most_open = suc most_within

-- the main file and repeated ones among them
abbrev pub most_opened : ℕ
most_opened = 65536
