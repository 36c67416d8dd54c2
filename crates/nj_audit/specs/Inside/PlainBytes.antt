-- Bytes that a word keeps unchanged. Nothing here has to be believed.
use Rattle.std.specs.Prelude.{ℕ, Bool, ◌||◌}
use Rattle.nj_audit.specs.ShellWords.{is_cut, is_dropped}
use Rattle.nj_audit.specs.declared.shell_words.Quoting.TheVariants.{Between}

-- outside quotes it ends a word, quotes others or begins a comment
abbrev pub is_special : ℕ → Bool
is_special b = is_cut b || is_dropped Between b
