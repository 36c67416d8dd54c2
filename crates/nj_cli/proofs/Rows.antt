-- Worked rows, computed on the definitions: the outcomes of runs over one small file.
use Rattle.std.proofs.Common.{◌≡◌, inl, inr, ℕ, Bool, true, false, true≢false, Some, None, List, [], ◌∷◌}
use Rattle.std.proofs.Common.{refl, ap}
use Rattle.std.specs.Fmt.{digits}
use Rattle.std.specs.Prelude.{⊤, ◌≢◌, codes}
use Rattle.nj_text.specs.Words.{WordModel, Text, Name}
use Rattle.nj_text.specs.Quotes.{quoted}
use Rattle.nj_manifest.specs.LineSteps.{NameModel}
use Rattle.nj_manifest.specs.Statements.{StatementModel, RuleModel, BuildModel}
use Rattle.nj_manifest.proofs.StatementRows.{at}
use Rattle.nj_scope.specs.ReadingList.{ReadStatement}
use Rattle.nj_statements.specs.EdgeList.{defaults_read}
use Rattle.nj_graph.proofs.ReadingRows.{main_file, on_files, read_of}
use Rattle.nj_needs.specs.MarkTexts.{given_mark, ReadsBack}
use Rattle.nj_tools.specs.Sinks.{SinkState, Takes, FailsWithin}
use Rattle.nj_requests.specs.Actions.{ActionModel, commands, single_commands}
use Rattle.nj_args.specs.RunMarks.{run_mark_text}
use Rattle.nj_cli.specs.declared.status.Status.TheVariants.{Done, Fault, Stopped, OutputFailed}
use Rattle.nj_cli.specs.Answers.{output_of, Ending, finished, stopped, faulty, EndsWith}
use Rattle.nj_cli.specs.Reported.{Reports}
use Rattle.nj_cli.specs.Headline.{IsRun, ArePageStrings}
use Rattle.nj_cli.specs.Headline.ArePageStrings.{no_runs, finishes, stops}

-- ---- the file

abbrev text : List ℕ
text = codes "rule mk\n  command = mk $out\nbuild a: mk\nbuild b1: mk a\nbuild b2: mk a\nbuild d: mk b1 b2\n"

abbrev entry : (line : ℕ) → StatementModel → ReadStatement
entry line item = record {
  file = main_file;
  spot = at line 1;
  depth = 0;
  scope = 0;
  around = [];
  item = item;
  was_joined = false;
  discovered = None;
}

abbrev word : (line column : ℕ) → List ℕ → WordModel
word line column bytes = record { spot = at line column; parts = Text bytes ∷ [] }

abbrev name_at : (line column : ℕ) → List ℕ → NameModel
name_at line column name = record { spot = at line column; name = name }

-- `rule mk` in line 1, with the command `mk $out`
abbrev the_rule : ReadStatement
the_rule = entry 1 (RuleModel (name_at 1 6 (codes "mk")) (record {
  spot = at 2 3;
  name = codes "command";
  value = record { spot = at 2 13; parts = Text (codes "mk ") ∷ Name (codes "out") ∷ [] };
} ∷ []))

-- `build OUTPUT: mk INPUTS`
abbrev made : (line : ℕ) → (output : List ℕ) → (column : ℕ) → (inputs : List WordModel) → ReadStatement
made line output column inputs = entry line (BuildModel
    (record { explicit = word line 7 output ∷ []; implicit = [] })
    (name_at line column (codes "mk"))
    (record { explicit = inputs; implicit = []; order_only = []; validations = [] })
    [])

-- the statements of the file, the last read first; the edges are 0 for a, 1 for b1, 2 for b2 and 3 for d
abbrev entries : List ReadStatement
entries =
    made 6 (codes "d") 10 (word 6 13 (codes "b1") ∷ word 6 16 (codes "b2") ∷ [])
    ∷ made 5 (codes "b2") 11 (word 5 14 (codes "a") ∷ [])
    ∷ made 4 (codes "b1") 11 (word 4 14 (codes "a") ∷ [])
    ∷ made 3 (codes "a") 10 []
    ∷ the_rule ∷ []

entries_of_text : (read_of text []).entries ≡ entries
unfolding on_files
entries_of_text = refl

-- ---- the facts of a row

-- the definitions that a row unfolds to compute on the entries
unfoldable on_entries : ⊤
unfolding on_files quoted defaults_read
on_entries = tt

abbrev outputs : ActionModel → List ℕ → Type 0
outputs action output = output_of entries action ≡ output

abbrev ends_so : ActionModel → Ending → Type 0
ends_so action ending = EndsWith entries action ending

abbrev d : List (List ℕ)
d = codes "d" ∷ []

abbrev is_cons : List ℕ → Bool
is_cons [] = false
is_cons (n ∷ ns) = true

more : {n : ℕ} {ns : List ℕ} → (n ∷ ns) ≢ []
more h = true≢false (ap is_cons h)

-- ---- all commands

all : outputs (commands d false None []) (codes "mk a\nmk b1\nmk b2\nmk d\n")
unfolding on_entries
all = refl

all_ends : ends_so (commands d false None []) finished
unfolding on_entries
all_ends = (refl, refl)

-- without arguments the defaults are the targets, which are the roots here
wordless : outputs (commands [] false None []) (codes "mk a\nmk b1\nmk b2\nmk d\n")
unfolding on_entries
wordless = refl

wordless_ends : ends_so (commands [] false None []) finished
unfolding on_entries
wordless_ends = (refl, refl)

-- ---- marks read back

reads_start : ReadsBack []
unfolding digits given_mark
reads_start = refl

reads_0 : ReadsBack (0 ∷ [])
unfolding digits given_mark
reads_0 = refl

reads_0_0 : ReadsBack (0 ∷ 0 ∷ [])
unfolding digits given_mark
reads_0_0 = refl

reads_0_1 : ReadsBack (0 ∷ 1 ∷ [])
unfolding digits given_mark
reads_0_1 = refl

-- ---- the texts of marks

text_start : codes "start" ≡ run_mark_text false []
text_start = refl

text_0_0 : codes "0.0" ≡ run_mark_text false (0 ∷ 0 ∷ [])
unfolding digits
text_0_0 = refl

text_0_1 : codes "0.1" ≡ run_mark_text false (0 ∷ 1 ∷ [])
unfolding digits
text_0_1 = refl

text_v0 : codes "v0" ≡ run_mark_text true (0 ∷ [])
unfolding digits
text_v0 = refl

text_vstart : codes "vstart" ≡ run_mark_text true []
text_vstart = refl

-- ---- at most a given number

two : outputs (commands d false (Some 2) []) (codes "mk a\nmk b1\n")
unfolding on_entries
two = refl

two_stops : ends_so (commands d false (Some 2) []) (stopped (codes "0.0"))
unfolding on_entries
two_stops = (refl, more, 0 ∷ 0 ∷ [], (refl, (0 ∷ [], refl, refl)), reads_0_0, text_0_0)

four : outputs (commands d false (Some 4) []) (codes "mk a\nmk b1\nmk b2\nmk d\n")
unfolding on_entries
four = refl

four_ends : ends_so (commands d false (Some 4) []) finished
unfolding on_entries
four_ends = (refl, refl)

none : outputs (commands d false (Some 0) []) []
unfolding on_entries
none = refl

none_stops : ends_so (commands d false (Some 0) []) (stopped (codes "start"))
unfolding on_entries
none_stops = (refl, more, [], refl, reads_start, text_start)

-- ---- from a mark

from_0_0 : outputs (commands d false None (0 ∷ 0 ∷ [])) (codes "mk b2\nmk d\n")
unfolding on_entries
from_0_0 = refl

from_0_0_ends : ends_so (commands d false None (0 ∷ 0 ∷ [])) finished
unfolding on_entries
from_0_0_ends = (refl, refl)

from_0 : outputs (commands d false None (0 ∷ [])) []
unfolding on_entries
from_0 = refl

from_0_ends : ends_so (commands d false None (0 ∷ [])) finished
unfolding on_entries
from_0_ends = (refl, refl)

-- the second place of `a`, whose command the first place writes already
from_0_1_0 : outputs (commands d false (Some 1) (0 ∷ 1 ∷ 0 ∷ [])) (codes "mk b2\n")
unfolding on_entries
from_0_1_0 = refl

from_0_1_0_stops : ends_so (commands d false (Some 1) (0 ∷ 1 ∷ 0 ∷ [])) (stopped (codes "0.1"))
unfolding on_entries
from_0_1_0_stops = (refl, more, 0 ∷ 1 ∷ [], (refl, (0 ∷ 1 ∷ 0 ∷ [], refl, refl)), reads_0_1, text_0_1)

from_0_2 : outputs (commands d false None (0 ∷ 2 ∷ [])) []
unfolding on_entries
from_0_2 = refl

from_0_2_ends : ends_so (commands d false None (0 ∷ 2 ∷ []))
    (faulty (codes "ninja-explain: mark out of range"))
unfolding on_entries
from_0_2_ends = (refl, refl)

-- ---- a target that no edge names

unknown : outputs (commands (codes "x" ∷ []) false None []) []
unfolding on_entries
unknown = refl

unknown_ends : ends_so (commands (codes "x" ∷ []) false None [])
    (faulty (codes "ninja-explain: unknown target 'x'"))
unfolding on_entries
unknown_ends = refl

-- ---- the targets' own commands

single : outputs (single_commands (codes "d" ∷ codes "b1" ∷ [])) (codes "mk d\nmk b1\n")
unfolding on_entries
single = refl

single_ends : ends_so (single_commands (codes "d" ∷ codes "b1" ∷ [])) finished
unfolding on_entries
single_ends = refl

-- ---- runs one after another

five_from_0_0 : outputs (commands d false (Some 5) (0 ∷ 0 ∷ [])) (codes "mk b2\nmk d\n")
unfolding on_entries
five_from_0_0 = refl

five_from_0_0_ends : ends_so (commands d false (Some 5) (0 ∷ 0 ∷ [])) finished
unfolding on_entries
five_from_0_0_ends = (refl, refl)

-- the first run; the second run, and a run without a limit, from the text that the first wrote after `mark `
from_start : IsRun d false (Some 2) None (commands d false (Some 2) [])
from_start = ([], refl, refl)

five_from_text : IsRun d false (Some 5) (Some (codes "0.0")) (commands d false (Some 5) (0 ∷ 0 ∷ []))
unfolding digits given_mark
five_from_text = (0 ∷ 0 ∷ [], refl, refl)

rest_from_text : IsRun d false None (Some (codes "0.0")) (commands d false None (0 ∷ 0 ∷ []))
unfolding digits given_mark
rest_from_text = (0 ∷ 0 ∷ [], refl, refl)

two_and_five : ArePageStrings entries d false None (2 ∷ 5 ∷ [])
    (codes "mk a\nmk b1\n" ∷ codes "mk b2\nmk d\n" ∷ []) []
two_and_five =
    stops (commands d false (Some 2) []) (codes "0.0") from_start two_stops two
    (finishes (commands d false (Some 5) (0 ∷ 0 ∷ [])) five_from_text five_from_0_0_ends five_from_0_0)

-- and one run of two edges, before all that is left
two_and_rest : ArePageStrings entries d false None (2 ∷ []) (codes "mk a\nmk b1\n" ∷ [])
    (codes "mk b2\nmk d\n")
two_and_rest =
    stops (commands d false (Some 2) []) (codes "0.0") from_start two_stops two
    (no_runs (commands d false None (0 ∷ 0 ∷ [])) rest_from_text from_0_0)

-- ---- reports

module _ (old new : SinkState) where
  nothing_to_report : Reports finished old old Done
  nothing_to_report = (refl, refl)

  mark_reported : Takes old new (codes "mark 0.0\n") → Reports (stopped (codes "0.0")) old new Stopped
  mark_reported took = inl (took, refl)

  mark_unreported : FailsWithin old new (codes "mark 0.0\n")
      → Reports (stopped (codes "0.0")) old new OutputFailed
  mark_unreported failed = inr (failed, refl)

  fault_reported : Takes old new (codes "ninja-explain: unknown target 'x'\n")
      → Reports (faulty (codes "ninja-explain: unknown target 'x'")) old new Fault
  fault_reported took = (inl took, refl)

  fault_unreported : FailsWithin old new (codes "ninja-explain: unknown target 'x'\n")
      → Reports (faulty (codes "ninja-explain: unknown target 'x'")) old new Fault
  fault_unreported failed = (inr failed, refl)

-- ---- validations

-- `build t: mk |@ v` and `build v: mk t`: edge 0 makes t, edge 1 makes v
abbrev checked : List ReadStatement
checked =
    made 4 (codes "v") 10 (word 4 13 (codes "t") ∷ [])
    ∷ entry 3 (BuildModel
    (record { explicit = word 3 7 (codes "t") ∷ []; implicit = [] })
    (name_at 3 10 (codes "mk"))
    (record { explicit = []; implicit = []; order_only = []; validations = word 3 16 (codes "v") ∷ [] })
    [])
    ∷ the_rule ∷ []

abbrev t : List (List ℕ)
t = codes "t" ∷ []

unasked : output_of checked (commands t false None []) ≡ codes "mk t\n"
unfolding on_entries
unasked = refl

followed : output_of checked (commands t true None []) ≡ codes "mk t\nmk v\n"
unfolding on_entries
followed = refl

one_followed : output_of checked (commands t true (Some 1) []) ≡ codes "mk t\n"
unfolding on_entries
one_followed = refl

one_followed_stops : EndsWith checked (commands t true (Some 1) []) (stopped (codes "v0"))
unfolding on_entries
one_followed_stops = (refl, more, 0 ∷ [], (refl, ([], refl, refl)), reads_0, text_v0)

-- the second target is the validation, whose first input is t
from_1_0 : output_of checked (commands t true None (1 ∷ 0 ∷ [])) ≡ codes "mk v\n"
unfolding on_entries
from_1_0 = refl

from_2_ends : EndsWith checked (commands t true None (2 ∷ []))
    (faulty (codes "ninja-explain: mark out of range"))
unfolding on_entries
from_2_ends = (refl, refl)
