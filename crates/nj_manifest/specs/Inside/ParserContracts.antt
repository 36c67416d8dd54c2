-- The results of the private functions of a parser, and where they leave its lexer.
use Rattle.std.specs.Prelude.{◌≡◌, Bool, true, false, Option, Some, None, Result, Ok, Err, List}
use Rattle.nj_text.specs.Lines as lines
use Rattle.nj_text.specs.Calls.{State, Between, Inside, Failed, is_inside}
use Rattle.nj_manifest.specs.declared.parse_fault.ParseFault.{ParseFault}
use Rattle.nj_manifest.specs.Faults.{Fault, fault_text}
use Rattle.nj_manifest.specs.LineSteps.{Step}
use Rattle.nj_manifest.specs.Statements.{LineModel, lines_from, Left, Lines, Refused}
use Rattle.nj_manifest.specs.Openings.{Parse, opening}
use Rattle.nj_manifest.specs.Parsers.{Fails}
use Rattle.nj_text.specs.declared.word.Word.{Word}
use Rattle.nj_manifest.specs.declared.steps.PlacedName.{PlacedName}
use Rattle.nj_manifest.specs.declared.statement.Statement.{Statement}
use Rattle.nj_manifest.specs.declared.statement.Statement.TheVariants as statement
use Rattle.nj_manifest.specs.LineSteps.{NameModel}
use Rattle.nj_manifest.specs.Statements.{OutputsModel}
use Rattle.nj_manifest.specs.Grammar.{HeadModel, Alone, RuleHead, PoolHead, BuildHead}
use Rattle.nj_manifest.specs.Contents.{words_model, outputs_model, used_rule, inputs_model, statement_model}
use Rattle.nj_manifest.specs.Dyndeps.{version_next, EntryModel, entry_from, DyndepLeft, WholeFile, Entries, Refusing}

abbrev pub left_by : (version_read : Bool) → List lines.Line → DyndepLeft
left_by true ls = Entries ls
left_by false ls = WholeFile ls

abbrev pub dyndep_left : Option ParseFault → (version_read : Bool) → State → DyndepLeft
dyndep_left None version_read s = left_by version_read (lines_from s)
dyndep_left (Some f) version_read s = Refusing (fault_text f)

-- ---- first lines

abbrev pub name_model : PlacedName → NameModel
name_model n = record { spot = n.spot; name = n.name.now }

abbrev pub outs_model : (explicit implicit : List Word) → OutputsModel
outs_model explicit implicit = record { explicit = words_model explicit; implicit = words_model implicit }

-- the contents of a statement's first line
abbrev pub head_model : Statement → HeadModel
head_model (statement.Rule r) = RuleHead (record { spot = r.name_spot; name = r.name.now })
head_model (statement.Pool p) = PoolHead (record { spot = p.name_spot; name = p.name.now })
head_model (statement.Build b) = BuildHead (outputs_model b) (used_rule b) (inputs_model b)
head_model alone = Alone (statement_model alone)

-- ---- along a line

-- It reads the expected value, as the view shows it, and leaves the lexer there; or it fails.
abbrev pub TakesStep : {X Y : Type 0} → (X → Y) → Result X ParseFault → (after : State) → Step Y → Type 0
TakesStep view (Ok x) after expected = expected ≡ Ok (view x, after)
TakesStep view (Err f) after expected = Fails f expected

-- the same of a step without a value
abbrev pub LeadsTo : Result (Unit {0}) ParseFault → (after : State) → Result State Fault → Type 0
LeadsTo (Ok done) after expected = expected ≡ Ok after
LeadsTo (Err f) after expected = Fails f expected

-- ---- from line to line

-- between two statements the lexer is before lines, or at the front of a line that was begun
abbrev pub IsBetweenStatements : State → Type 0
IsBetweenStatements (Between ls) = Unit {0}
IsBetweenStatements (Inside l ls) = lines.kind_of l ≡ lines.PlainLine
IsBetweenStatements (Failed f) = ⊥

-- It reads the version of the lines, and leaves the lexer before the lines after it.
abbrev pub ReadsVersion : (before after : State) → Result (Unit {0}) ParseFault → Type 0
ReadsVersion before after (Ok done) = (version_next (lines_from before) ≡ Ok (lines_from after)) × IsBetweenStatements after
ReadsVersion before after (Err f) = Fails f (version_next (lines_from before))

-- the result read from the lines before which the lexer is, with the lexer before the lines after it
abbrev pub ParsesFrom : {X Y : Type 0} → (X → Y) → (before after : State) → (List lines.Line → Parse Y) → Result X ParseFault → Type 0
ParsesFrom view (Between ls) after parse (Ok x) = (parse ls ≡ Ok (view x, lines_from after)) × IsBetweenStatements after
ParsesFrom view (Between ls) after parse (Err f) = Fails f (parse ls)
ParsesFrom view other after parse result = Unit {0}

-- the same for a line at whose first unit the lexer is
abbrev pub ParsesAt : {X Y : Type 0}
    → (X → Y) → (before after : State) → (lines.Line → List lines.Line → Parse Y) → Result X ParseFault → Type 0
ParsesAt view (Inside l ls) after parse (Ok x) = (parse l ls ≡ Ok (view x, lines_from after)) × IsBetweenStatements after
ParsesAt view (Inside l ls) after parse (Err f) = Fails f (parse l ls)
ParsesAt view other after parse result = Unit {0}

-- the entry that begins here
abbrev pub entry_here : lines.Line → List lines.Line → Parse (Option EntryModel)
entry_here l ls = entry_from (Some l, ls)

-- where the next statement begins, if the lexer is there
abbrev pub opening_at : State → Option lines.Line × List lines.Line
opening_at (Inside l ls) = (Some l, ls)
opening_at s = (None, lines_from s)

-- It finds where the next statement begins, if any, and leaves the lexer there.
abbrev pub FindsOpening : (before after : State) → Result Bool ParseFault → Type 0
FindsOpening before after (Ok found) =
    (opening (lines_from before) ≡ Ok (opening_at after)) × IsBetweenStatements after × (is_inside after ≡ found)
FindsOpening before after (Err f) = Fails f (opening (lines_from before))

-- the result read from the rest of the lines, with the lexer before the lines after it
abbrev pub ParsesNext : {X Y : Type 0} → (X → Y) → (before after : State) → (List lines.Line → Parse Y) → Result X ParseFault → Type 0
ParsesNext view before after parse (Ok x) = (parse (lines_from before) ≡ Ok (view x, lines_from after)) × IsBetweenStatements after
ParsesNext view before after parse (Err f) = Fails f (parse (lines_from before))

-- the check of a block's lines
abbrev pub Wholes : List LineModel → Result (List LineModel) Fault → Result (Unit {0}) ParseFault → Type 0
Wholes lines expected (Ok done) = expected ≡ Ok lines
Wholes lines expected (Err f) = Fails f expected

-- ---- a parser

abbrev pub is_plain : lines.Kind → Bool
is_plain lines.PlainLine = true
is_plain kind = false

-- whether the lexer is between two statements
abbrev pub is_between_statements : State → Bool
is_between_statements (Between ls) = true
is_between_statements (Inside l ls) = is_plain (lines.kind_of l)
is_between_statements (Failed f) = false

abbrev pub is_between_unless : Option ParseFault → State → Bool
is_between_unless None s = is_between_statements s
is_between_unless (Some f) s = true

abbrev pub left_of : Option ParseFault → State → Left
left_of None s = Lines (lines_from s)
left_of (Some f) s = Refused (fault_text f)
