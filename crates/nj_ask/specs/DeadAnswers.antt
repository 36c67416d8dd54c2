-- The answer to `times --dead`: what `ninja -t cleandead` would delete.
use Rattle.std.specs.Prelude.{◌≡◌, ℕ, Bool, true, false, Some, None, List, [], ◌∷◌, ◌++◌, codes}
use Rattle.std.specs.Str.Lossy.{utf8_lossy}
use Rattle.serde_json.specs.Data.{string}
use Rattle.serde_json.specs.Written.{compact_text}
use Rattle.nj_build_log.specs.Logs.{BuildLogModel}
use Rattle.nj_discovered.specs.Times.{DeclaredTimes, IsTimeOf}
use Rattle.nj_discovered.specs.declared.times.TimeFound.{TimeFound}
use Rattle.nj_discovered.specs.declared.times.TimeFound.TheVariants.{NoAnswer, Time}
use Rattle.nj_graph.specs.ReadingList.{ReadStatement}
use Rattle.nj_graph.specs.Graph.{edges_of}
use Rattle.nj_times.specs.Dead.{dead_outputs}
use Rattle.nj_ask.specs.declared.discovered.DiscoveredGraph.{DiscoveredGraph}
use Rattle.nj_ask.specs.DiscoveredGraphs.{no_time_line}
use Rattle.nj_ask.specs.Endings.{Ending, answered}
use Rattle.nj_ask.specs.Affected.{line}
use Rattle.nj_ask.specs.Shape.{caveat_text}

-- the line of an output, if its file is there
abbrev pub dead_line : (is_json : Bool) → (output : List ℕ) → TimeFound → List ℕ
dead_line is_json output NoAnswer = []
dead_line is_json output (Time None) = []
dead_line false output (Time (Some time)) = line output
dead_line true output (Time (Some time)) = codes "{\"output\":" ++ compact_text (string (utf8_lossy output)) ++ codes "}\n"

-- the line of an output of which it is not known whether its file is there
abbrev pub unread_line : (output : List ℕ) → TimeFound → List ℕ
unread_line output (Time time) = []
unread_line output NoAnswer = no_time_line (Some output)

-- the lines of outputs, and the warnings, by what a source answers at each
pub data ListsDead (times : DeclaredTimes) (is_json : Bool) : (outputs : List (List ℕ)) → (text warnings : List ℕ) → Type 0 where
  none : ListsDead times is_json [] [] []
  last : {outputs : List (List ℕ)} {text warnings output : List ℕ} {found : TimeFound}
      → ListsDead times is_json outputs text warnings → IsTimeOf times output found
      → ListsDead times is_json (outputs ++ output ∷ []) (text ++ dead_line is_json output found) (warnings ++ unread_line output found)

-- `times --dead`: the outputs of the build log that no edge makes or has as an input, and whose files are there
pub record AnswersDead (known : DiscoveredGraph) (entries : List ReadStatement) (log : BuildLogModel) (times : DeclaredTimes)
    (is_json : Bool) (output : List ℕ) (ending : Ending) : Type 0 where
  pub warnings : List ℕ
  pub lists : ListsDead times is_json (dead_outputs (edges_of known.graph) log.lines) output warnings
  pub ending_is : ending ≡ answered false (warnings ++ caveat_text known entries)
