-- How commands are written one after another.
use Rattle.std.specs.Prelude.{ℕ, List, codes}
use Rattle.nj_scope.specs.ReadingList.{ReadStatement}
use Rattle.nj_graph.specs.Graph.{late_text_of}
use Rattle.nj_tools.specs.Lines.{line}

-- the command of the edge with the given number, as a line
abbrev pub command_line : List ReadStatement → (number : ℕ) → List ℕ
command_line entries number = line (late_text_of entries number (codes "command"))
