-- The law of a run of `commands`.
use Rattle.std.specs.Prelude.{◌≡◌, ◌↔◌, ℕ, Bool, false, Option, None, Some, Ok, List, [], ◌∷◌, ◌++◌, length, Contains, nat_eq}
use Rattle.std.specs.List.{concat, IsDistinct}
use Rattle.nj_scope.specs.ReadingList.{ReadStatement}
use Rattle.nj_cycles.specs.Cycles.{NeedsByChain}
use Rattle.nj_edges.specs.Edges.{EdgePaths}
use Rattle.nj_edges.specs.Needs.{makers_of_inputs}
use Rattle.nj_needs.specs.Graphs.{row_of_paths, is_phony_in}
use Rattle.nj_needs.specs.Laws.{ComesBefore}
use Rattle.nj_needs.specs.Needs.{Reached}
use Rattle.nj_needs.specs.Order.{needed_commands}
use Rattle.nj_requests.specs.Actions.{ActionModel, commands}
use Rattle.nj_args.specs.Requests.{start_of}
use Rattle.nj_tools.specs.CommandStrings.{command_lines}
use Rattle.nj_cli.specs.Answers.{output_of, Ending, finished, stopped, EndsWith}
use Rattle.nj_cli.specs.Targets.{edges_by_path, NoEdgeNeedsItself, targets_of}

-- The edges, by number, whose commands the targets need: exactly the edges that have a command and that the targets
-- need through any chain of inputs; without duplicates; each after all other edges that it needs through any chain; in
-- the order in which they are first completed from left to right, as `needed_commands` defines it.
pub record AreNeeded (edges : List EdgePaths) (targets : List (List ℕ)) (numbers : List ℕ) : Type 0 where
  pub reached : (e : ℕ) → Contains numbers e
      ↔ (Reached (makers_of_inputs edges) (row_of_paths edges targets) e × (is_phony_in edges e ≡ false))
  pub once : IsDistinct nat_eq numbers
  pub after : (e f : ℕ) → Contains numbers e → NeedsByChain (makers_of_inputs edges) e f → is_phony_in edges f ≡ false
      → ComesBefore numbers f e
  pub order : numbers ≡ needed_commands (makers_of_inputs edges) (length edges) (is_phony_in edges) (row_of_paths edges targets)

-- A run from the start that finishes writes a line for each of the needed edges: its command. If it follows
-- validations, the targets are those of its arguments and the validations of the edges that those targets need.
abbrev pub WritesTheNeeded : Type 0
WritesTheNeeded = (entries : List ReadStatement) (words : List (List ℕ)) (validations : Bool) → NoEdgeNeedsItself (edges_by_path entries)
    → EndsWith entries (commands words validations None []) finished
    → (targets : List (List ℕ)) × (targets_of entries validations words ≡ Ok targets)
    × (numbers : List ℕ) × AreNeeded (edges_by_path entries) targets numbers
    × (output_of entries (commands words validations None []) ≡ command_lines entries numbers)

-- the run for the given arguments that takes at most `take` edges, and begins at the mark of `--resume`, or at the start
abbrev pub IsRun : (words : List (List ℕ)) → (validations : Bool) → (take : Option ℕ) → (resume : Option (List ℕ)) → ActionModel → Type 0
IsRun words validations take resume run =
    (start : List ℕ) × (start_of validations resume ≡ Ok start) × (run ≡ commands words validations take start)

-- Runs with the given arguments, one after another: each takes at most the number of edges in `takes`, and resumes at
-- the text that the previous run wrote after `mark `. Their outputs, and the output of a run without a limit from the
-- last mark; that output is empty if a run finished.
pub data ArePageStrings (entries : List ReadStatement) (words : List (List ℕ)) (validations : Bool)
    : (resume : Option (List ℕ)) → (takes : List ℕ) → (outputs : List (List ℕ)) → (rest : List ℕ) → Type 0 where
  no_runs : {resume : Option (List ℕ)} {rest : List ℕ} (run : ActionModel) → IsRun words validations None resume run
      → output_of entries run ≡ rest → ArePageStrings entries words validations resume [] [] rest
  finishes : {resume : Option (List ℕ)} {take : ℕ} {output : List ℕ} (run : ActionModel) → IsRun words validations (Some take) resume run
      → EndsWith entries run finished → output_of entries run ≡ output
      → ArePageStrings entries words validations resume (take ∷ []) (output ∷ []) []
  stops : {resume : Option (List ℕ)} {takes output rest : List ℕ} {take : ℕ} {outputs : List (List ℕ)} (run : ActionModel) (mark : List ℕ)
      → IsRun words validations (Some take) resume run → EndsWith entries run (stopped mark) → output_of entries run ≡ output
      → ArePageStrings entries words validations (Some mark) takes outputs rest
      → ArePageStrings entries words validations resume (take ∷ takes) (output ∷ outputs) rest

-- The pages, followed by the rest, are the output of one run without a limit.
abbrev pub PageStringsJoin : Type 0
PageStringsJoin = (entries : List ReadStatement) (words : List (List ℕ)) (validations : Bool) → NoEdgeNeedsItself (edges_by_path entries)
    → (resume : Option (List ℕ)) (whole : ActionModel) → IsRun words validations None resume whole → EndsWith entries whole finished
    → (takes : List ℕ) (outputs : List (List ℕ)) (rest : List ℕ) → ArePageStrings entries words validations resume takes outputs rest
    → output_of entries whole ≡ concat outputs ++ rest

-- A run that stopped can be resumed: the text that it wrote after `mark ` is valid for `--resume`, and a run without a
-- limit from there finishes.
abbrev pub StoppedRunsContinue : Type 0
StoppedRunsContinue =
    (entries : List ReadStatement) (words : List (List ℕ)) (validations : Bool) → NoEdgeNeedsItself (edges_by_path entries)
    → (take : Option ℕ) (start mark : List ℕ) → EndsWith entries (commands words validations take start) (stopped mark)
    → (next : ActionModel) × IsRun words validations None (Some mark) next × EndsWith entries next finished

-- A run has one ending, and so one mark.
abbrev pub OneEnding : Type 0
OneEnding = (entries : List ReadStatement) (action : ActionModel) (ending other : Ending) → NoEdgeNeedsItself (edges_by_path entries)
    → EndsWith entries action ending → EndsWith entries action other → ending ≡ other
