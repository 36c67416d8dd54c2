-- Worked rows, computed on the definitions: the files that a deps log names for edges.
use Rattle.std.proofs.Common.{ℕ, ◌≡◌, true, Some, List, [], ◌∷◌, ◌++◌, map, refl}
use Rattle.std.specs.Prelude.{codes}
use Rattle.nj_deps.specs.Logs.{LogModel}
use Rattle.nj_graph.specs.Undeclared.{inputs_named, paths_of_output}
use Rattle.nj_graph.proofs.LogRows.{on_logs}
use Rattle.nj_graph.proofs.ReadingRows.{read_of}

-- ---- the facts of a row

-- `a.o` and `b.o` depend on the same header, which the log has by two paths; `c.o` depends on `build.ninja`,
-- and `d.o` on that file by
-- another path
abbrev some_log : LogModel
some_log = record {
  paths = codes "a.o" ∷ codes "a.c" ∷ codes "gen.h" ∷ codes "x/../gen.h" ∷ codes "b.o" ∷ codes "c.o" ∷ codes
      "build.ninja" ∷ codes "d.o" ∷ codes "./build.ninja" ∷ [];
  outputs = record { output = 0; time = 0; inputs = 1 ∷ 3 ∷ 2 ∷ 1 ∷ [] }
      ∷ record { output = 4; time = 0; inputs = 2 ∷ [] }
      ∷ record { output = 5; time = 0; inputs = 2 ∷ 6 ∷ [] }
      ∷ record { output = 7; time = 0; inputs = 2 ∷ 8 ∷ [] }
      ∷ [];
  size = 0;
  is_whole = true;
}

-- each clean path once, in the order of the log
each-once : paths_of_output some_log (Some 0) ≡ codes "a.c" ∷ codes "gen.h" ∷ []
unfolding on_logs
each-once = refl

-- no inputs where the log names the exact path `build.ninja`
main-file : map (paths_of_output some_log) (Some 5 ∷ Some 7 ∷ [])
    ≡ [] ∷ (codes "gen.h" ∷ codes "build.ninja" ∷ []) ∷ []
unfolding on_logs
main-file = refl

abbrev rules : List ℕ
rules = codes "rule cc\n  command = cc\n  deps = gcc\nrule gen\n  command = gen\n"

-- by edge; no inputs for an edge without `deps`, or for an edge whose first output the log does not name
by-edge : inputs_named some_log (read_of
    (rules ++ codes "build gen.h: gen\nbuild b.o: cc\nbuild a.o: gen\nbuild e.o b.o2: cc\nbuild c.o: cc\n")
    []).entries
    ≡ record { edge = 1; path = codes "gen.h" } ∷ []
unfolding on_logs
by-edge = refl
