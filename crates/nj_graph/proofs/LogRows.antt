-- Worked rows, computed on the definitions: the additions of a deps log to the edges of a run.
use Rattle.std.proofs.Common.{◌≡◌, ℕ, true, List, [], ◌∷◌, ◌++◌, map, refl}
use Rattle.std.specs.Prelude.{⊤, codes}
use Rattle.nj_scope.specs.ReadingList.{ReadStatement}
use Rattle.nj_deps.specs.Logs.{LogModel}
use Rattle.nj_statements.specs.EdgeList.{edges_read, paths_of_edges, pending_read}
use Rattle.nj_statements.specs.Logged.{with_inputs_named}
use Rattle.nj_graph.specs.DepsLogs.{with_log}
use Rattle.nj_graph.proofs.JoinRows.{on_dyndeps}
use Rattle.nj_graph.proofs.ReadingRows.{read_of}

unfoldable pub on_logs : ⊤
unfolding on_dyndeps with_inputs_named
on_logs = tt

-- ---- the facts of a row

-- `o` depends on all other paths and on itself; `p` depends on `h`
abbrev some_log : LogModel
some_log = record {
  paths = codes "o" ∷ codes "a" ∷ codes "b" ∷ codes "h" ∷ codes "x/../h" ∷ codes "p" ∷ [];
  outputs = record { output = 0; time = 0; inputs = 1 ∷ 2 ∷ 3 ∷ 4 ∷ 3 ∷ 0 ∷ [] } ∷ record
      { output = 5; time = 0; inputs = 3 ∷ [] } ∷ [];
  size = 0;
  is_whole = true;
}

abbrev rules : List ℕ
rules = codes "rule cc\n  command = cc\n  deps = gcc\nrule cp\n  command = cp\n"

abbrev implicit_inputs : (statements : List ReadStatement) → List (List (List ℕ))
implicit_inputs statements = map (λ e. e.implicit_inputs) (paths_of_edges (edges_read statements))

-- the implicit inputs of the edges once the log is joined
abbrev joined : (text : List ℕ) → List (List (List ℕ))
joined text = implicit_inputs (with_log some_log (read_of (rules ++ text) []).entries)

-- ---- rows

-- after the edge's own inputs, each clean path once, without its explicit and implicit inputs, and with its
-- order-only
-- inputs; its own output is an input like others
new_ones : joined (codes "build o: cc a | j || b\n")
    ≡ (codes "j" ∷ codes "b" ∷ codes "h" ∷ codes "o" ∷ []) ∷ []
unfolding on_logs
new_ones = refl

-- an edge without `deps`, and an edge whose first output the log doesn't know
no_deps : joined (codes "build o: cp\nbuild q p: cc\n") ≡ [] ∷ [] ∷ []
unfolding on_logs
no_deps = refl

-- the block of a phony edge; an implicit output that is the first
block_of_phony : joined (codes "build o: phony b\n  deps = msvc\nbuild | p: cc\n")
    ≡ (codes "a" ∷ codes "h" ∷ codes "o" ∷ []) ∷ (codes "h" ∷ []) ∷ []
unfolding on_logs
block_of_phony = refl

-- an edge that waits for a dyndep file goes on waiting
waits : map (λ p. p.edge) (pending_read
    (with_log some_log (read_of (rules ++ codes "build p: cc || dd\n  dyndep = dd\n") []).entries)) ≡ 0 ∷ []
unfolding on_logs
waits = refl
