-- The outcome of a run, by the statements of its files and by its action: its output, and how it ends.
use Rattle.std.specs.Prelude.{◌≡◌, ◌≢◌, ℕ, Bool, true, false, if◌then◌else◌, Option, option_map, Result, Ok, MatchResult, List, [], length, codes}
use Rattle.std.specs.Option.{option_map_or}
use Rattle.std.specs.Result.{result_ok}
use Rattle.nj_scope.specs.ReadingList.{ReadStatement}
use Rattle.nj_faults.specs.declared.fault.GraphFault.{GraphFault}
use Rattle.nj_faults.specs.FaultLines.{fault_line}
use Rattle.nj_needs.specs.MarkTexts.{ReadsBack}
use Rattle.nj_edges.specs.Needs.{makers_of_inputs}
use Rattle.nj_needs.specs.Graphs.{row_of_paths, is_phony_in}
use Rattle.nj_needs.specs.Marks.{is_valid, rest}
use Rattle.nj_needs.specs.Pages.{IsMarkAfter}
use Rattle.nj_needs.specs.PageWalks.{written, left_after}
use Rattle.nj_tools.specs.CommandStrings.{command_lines, own_commands_in}
use Rattle.nj_tools.specs.Compdb.{compdb_text, text_fault, unheld_edge}
use Rattle.nj_tools.specs.Listings.{inputs_text, targets_text}
use Rattle.nj_tools.specs.Queries.{query_text}
use Rattle.nj_tools.specs.RuleLists.{rules_text}
use Rattle.nj_requests.specs.Actions.{ActionModel, commands, single_commands}
use Rattle.nj_requests.specs.Actions as ask
use Rattle.nj_args.specs.RunMarks.{run_mark_text}
use Rattle.nj_graph.specs.Targets.{targets_named}
use Rattle.nj_cli.specs.Targets.{edges_by_path, targets_of}

-- ---- the rest to write

-- each step of a mark leads to an edge, starting from the given targets; the mark of the start has no steps
abbrev pub leads : List ReadStatement → (targets : List (List ℕ)) → (mark : List ℕ) → Bool
leads entries targets mark = is_valid (makers_of_inputs (edges_by_path entries)) (row_of_paths (edges_by_path entries) targets) mark

-- the edges whose commands are left at a mark
abbrev pub commands_left : List ReadStatement → (targets : List (List ℕ)) → (mark : List ℕ) → List ℕ
commands_left entries targets mark =
    rest (makers_of_inputs (edges_by_path entries)) (length (edges_by_path entries)) (is_phony_in (edges_by_path entries))
    (row_of_paths (edges_by_path entries) targets) mark

-- the mark after the given edges, in a run that began at the mark `begun`
abbrev pub IsMarkOf : List ReadStatement → (targets : List (List ℕ)) → (begun : List ℕ) → (edges : List ℕ) → (mark : List ℕ) → Type 0
IsMarkOf entries targets begun edges mark =
    IsMarkAfter (makers_of_inputs (edges_by_path entries)) (length (edges_by_path entries)) (row_of_paths (edges_by_path entries) targets)
    begun edges mark

-- ---- the output

-- the targets of an action, or the files of `query`, by its arguments; the other tools take no arguments
abbrev pub asked_targets : List ReadStatement → ActionModel → Result (List (List ℕ)) GraphFault
asked_targets entries (commands words validations take start) = targets_of entries validations words
asked_targets entries (single_commands words) = targets_of entries false words
asked_targets entries (ask.inputs words validations style) = targets_of entries validations words
asked_targets entries (ask.query words) = targets_named (edges_by_path entries) words
asked_targets entries other = Ok []

-- The output for targets. `commands` writes the commands that are left at a mark, up to a limit, or nothing if the mark
-- does not lead to an edge; `compdb` the objects before a fault.
abbrev pub output_for : List ReadStatement → ActionModel → (targets : List (List ℕ)) → List ℕ
output_for entries (commands words validations take start) targets =
    if leads entries targets start then command_lines entries (written take (commands_left entries targets start)) else []
output_for entries (single_commands words) targets = command_lines entries (own_commands_in (edges_by_path entries) targets)
output_for entries (ask.inputs words validations style) targets = inputs_text style (edges_by_path entries) targets
output_for entries (ask.targets view) targets = targets_text entries view
output_for entries (ask.query words) targets = query_text entries targets
output_for entries (ask.rules descriptions) targets = rules_text entries descriptions
output_for entries (ask.compdb names directory expand) targets = compdb_text entries directory names expand

-- the whole output; empty if the targets have a fault
abbrev pub output_of : List ReadStatement → ActionModel → List ℕ
output_of entries action = option_map_or (output_for entries action) (result_ok (asked_targets entries action)) []

-- ---- how it ends

-- All was written; or the run stopped at the mark of the given text, and more is left; or the given text reports the fault.
pub data Ending : Type 0 where
  finished : Ending
  stopped : (mark : List ℕ) → Ending
  faulty : (text : List ℕ) → Ending

-- Nothing is left after the written commands; or the run stops at the mark after them, as written; or the mark from
-- which it began does not lead to an edge.
abbrev pub PageEnds : List ReadStatement → (validations : Bool) → (take : Option ℕ) → (start : List ℕ) → (targets : List (List ℕ))
    → Ending → Type 0
PageEnds entries validations take start targets finished =
    (leads entries targets start ≡ true) × (left_after take (commands_left entries targets start) ≡ [])
PageEnds entries validations take start targets (stopped text) =
    (leads entries targets start ≡ true)
    × (left_after take (commands_left entries targets start) ≢ [])
    × (mark : List ℕ) × IsMarkOf entries targets start (written take (commands_left entries targets start)) mark
    × ReadsBack mark × (text ≡ run_mark_text validations mark)
PageEnds entries validations take start targets (faulty text) =
    (leads entries targets start ≡ false) × (text ≡ codes "ninja-explain: mark out of range")

-- how a run ends for targets; `compdb` ends at the first edge that JSON cannot contain, and the others finish
abbrev pub EndsFor : List ReadStatement → ActionModel → (targets : List (List ℕ)) → Ending → Type 0
EndsFor entries (commands words validations take start) targets ending = PageEnds entries validations take start targets ending
EndsFor entries (ask.compdb names directory expand) targets ending =
    ending ≡ option_map_or (λ fault. faulty (fault_line fault)) (option_map (text_fault entries) (unheld_edge entries names expand)) finished
EndsFor entries other targets ending = ending ≡ finished

-- The ending of a run. The faults of targets, from the left, come before the fault of the mark.
abbrev pub EndsWith : List ReadStatement → ActionModel → Ending → Type 0
EndsWith entries action ending =
    MatchResult (asked_targets entries action) (λ targets. EndsFor entries action targets ending)
    (λ fault. ending ≡ faulty (fault_line fault))
