-- Which fault of a command line is reported: the fault of its first mistake, in a fixed order.
use Rattle.std.specs.Prelude.{◌≡◌, ◌≢◌, ◌↔◌, ⊤, IsTrue, IsOk, MatchOption, ℕ, List, [], ◌∷◌, ◌++◌, map, codes, Some, None, Err}
use Rattle.clap.specs.Words.{Row, first_of}
use Rattle.nj_args.specs.Fields.{given_rows, is_on, words_in}
use Rattle.nj_args.specs.Numbers.{given_number, given_depth}
use Rattle.nj_args.specs.Requests.{request_of}
use Rattle.nj_args.specs.RunMarks.{given_run_mark}
use Rattle.nj_args.specs.Tools.{tool_named, is_foreign, all_options}
use Rattle.nj_args.specs.declared.usage_fault.ToolOption.{ToolOption}
use Rattle.nj_args.specs.declared.usage_fault.UsageFault.{UsageFault}
use Rattle.nj_args.specs.declared.usage_fault.UsageFault.TheVariants.{Unparsed, UnknownTool, ForeignOption, BadNumber, BadMark, BadWords}
use Rattle.nj_args.specs.declared.tools.Tool.{Tool}
use Rattle.nj_args.specs.declared.tools.Tool.TheVariants.{Commands, Inputs, Targets, Query, Rules, Compdb}

-- the mistakes in the rows that `clap` reads in the arguments
pub data Mistake : Type 0 where
  no_tool : Mistake
  unknown_tool : Mistake
  foreign_option : (option : ToolOption) → Mistake
  bad_take : Mistake
  bad_mark : Mistake
  bad_words : Mistake
  bad_depth : Mistake

-- in the order in which they are reported
abbrev pub all_mistakes : List Mistake
all_mistakes = no_tool ∷ unknown_tool ∷ (map foreign_option all_options ++ bad_take ∷ bad_mark ∷ bad_words ∷ bad_depth ∷ [])

-- the arguments that select the list of `targets`
pub data IsView (words : List (List ℕ)) : Type 0 where
  roots : words ≡ [] → IsView words
  one_level : words ≡ codes "depth" ∷ [] → IsView words
  levels : (depth : List ℕ) → words ≡ codes "depth" ∷ depth ∷ [] → IsView words
  all_outputs : words ≡ codes "all" ∷ [] → IsView words
  sources : words ≡ codes "rule" ∷ [] → IsView words
  of_rule : (name : List ℕ) → words ≡ codes "rule" ∷ name ∷ [] → IsView words

-- the tool accepts the arguments besides its options
abbrev pub TakesWords : Tool → (words : List (List ℕ)) → Type 0
TakesWords Commands words = ⊤
TakesWords Inputs words = ⊤
TakesWords Targets words = IsView words
TakesWords Query words = words ≢ []
TakesWords Rules words = words ≡ []
TakesWords Compdb words = ⊤

-- the rows name the given tool
pub record NamesTool (rows : List Row) (name : List ℕ) (tool : Tool) : Type 0 where
  pub asked : first_of (codes "-t") rows ≡ Some name
  pub known : tool_named name ≡ Some tool

-- the rows have the given mistake, whatever else is wrong with them, and the fault reports it
pub data HasMistake (rows : List Row) : Mistake → UsageFault → Type 0 where
  toolless : first_of (codes "-t") rows ≡ None → HasMistake rows no_tool Unparsed
  unknown : (name : List ℕ) → first_of (codes "-t") rows ≡ Some name → tool_named name ≡ None
      → HasMistake rows unknown_tool (UnknownTool name)
  foreign : (name : List ℕ) (tool : Tool) (option : ToolOption) → NamesTool rows name tool → IsTrue (is_foreign tool rows option)
      → HasMistake rows (foreign_option option) (ForeignOption option name)
  no_number : (text : List ℕ) → first_of (codes "--take") rows ≡ Some text → given_number text ≡ None
      → HasMistake rows bad_take (BadNumber text)
  no_mark : (text : List ℕ) → first_of (codes "--resume") rows ≡ Some text → given_run_mark (is_on (codes "--validations") rows) text ≡ None
      → HasMistake rows bad_mark (BadMark text)
  wrong_words : (name : List ℕ) (tool : Tool) → NamesTool rows name tool → ¬ TakesWords tool (words_in rows)
      → HasMistake rows bad_words (BadWords name)
  no_depth : (name text : List ℕ) → NamesTool rows name Targets → words_in rows ≡ codes "depth" ∷ text ∷ [] → given_depth text ≡ None
      → HasMistake rows bad_depth (BadNumber text)

-- the rows do not have the given mistake
abbrev pub Lacks : List Row → Mistake → Type 0
Lacks rows mistake = (fault : UsageFault) → ¬ HasMistake rows mistake fault

-- the rows have no mistake
abbrev pub HasNoMistake : List Row → Type 0
HasNoMistake rows = (mistake : Mistake) → Lacks rows mistake

-- the fault reports the first of the given mistakes that the rows have
pub data IsFirstOf (rows : List Row) : List Mistake → UsageFault → Type 0 where
  first : {mistake : Mistake} {mistakes : List Mistake} {fault : UsageFault} → HasMistake rows mistake fault
      → IsFirstOf rows (mistake ∷ mistakes) fault
  later : {mistake : Mistake} {mistakes : List Mistake} {fault : UsageFault} → Lacks rows mistake → IsFirstOf rows mistakes fault
      → IsFirstOf rows (mistake ∷ mistakes) fault

-- if `clap` refuses the arguments, only that is reported
abbrev pub IsFirstFault : (words : List (List ℕ)) → UsageFault → Type 0
IsFirstFault words fault = MatchOption (given_rows words) (fault ≡ Unparsed) (λ rows. IsFirstOf rows all_mistakes fault)

-- `clap` reads the arguments, and its rows have no mistake
abbrev pub AreFaultless : (words : List (List ℕ)) → Type 0
AreFaultless words = MatchOption (given_rows words) ⊥ HasNoMistake

-- the first fault of arguments is reported; an empty list of arguments is a request
abbrev pub FirstFaultIsReported : Type 0
FirstFaultIsReported = (words : List (List ℕ)) → words ≢ [] → (fault : UsageFault)
    → (request_of words ≡ Err fault) ↔ IsFirstFault words fault

-- words are a request exactly if they are faultless
abbrev pub FaultlessWordsAreRequests : Type 0
FaultlessWordsAreRequests = (words : List (List ℕ)) → words ≢ [] → IsOk (request_of words) ↔ AreFaultless words
