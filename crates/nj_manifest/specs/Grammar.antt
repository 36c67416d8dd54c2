-- The forms of the manual: which lines are a statement. A line's units are cut into parts, and each part is tested by
-- itself; nothing here describes how one reads on from a place, or how texts are refused.
use Rattle.std.specs.Prelude.{◌≡◌, ℕ, Bool, true, false, ◌&&◌, not, Option, Some, None, List, [], ◌∷◌, ◌++◌, map, codes, ◌↔◌}
use Rattle.std.specs.List.{list_all, list_any}
use Rattle.std.specs.Str.{bytes_eq}
use Rattle.nj_text.specs.declared.sign.Sign.{Sign}
use Rattle.nj_text.specs.declared.sign.Sign.TheVariants as sign
use Rattle.nj_text.specs.declared.spot.Spot.{Spot}
use Rattle.nj_text.specs.Bytes.{begins_with}
use Rattle.nj_text.specs.Units.{Ordinary, TextUnit}
use Rattle.nj_text.specs.Lines.{Line, line_spot, lines_after, spot_of_first, CommentLine, BlankLine, IndentedLine, PlainLine, kind_of}
use Rattle.nj_text.specs.Words.{WordModel, is_blank, opens_line, in_identifier, opens_word, in_word, first_fault, parts_of}
use Rattle.nj_text.specs.Words.{begins_with_byte}
use Rattle.nj_text.specs.Calls.{bytes_of, is_empty, without_comments}
use Rattle.nj_manifest.specs.declared.cause.SyntaxCause.TheVariants as cause
use Rattle.nj_manifest.specs.declared.block_lines.Keys.{Keys}
use Rattle.nj_manifest.specs.declared.block_lines.Keys.TheVariants as keys
use Rattle.nj_manifest.specs.Faults.{Fault, Placed}
use Rattle.nj_manifest.specs.LineSteps.{NameModel}
use Rattle.nj_manifest.specs.Statements.{LineModel, allows, OutputsModel, InputsModel, StatementModel, BindingModel, RuleModel}
use Rattle.nj_manifest.specs.Statements.{PoolModel, BuildModel, DefaultModel, IncludeModel, SubninjaModel, PlacedModel}

-- ---- parts of a line

-- units all of which are blanks
abbrev pub AreBlanks : List TextUnit → Type 0
AreBlanks us = list_all is_blank us ≡ true

-- Units that are blanks, an identifier, and the rest. The identifier has at least a byte, and is as long as possible.
pub record IdentifierForm (us : List TextUnit) (name : NameModel) (rest : List TextUnit) : Type 0 where
  pub gap : List TextUnit
  pub first : TextUnit
  pub others : List TextUnit
  pub cut : us ≡ gap ++ first ∷ others ++ rest
  pub blanks : AreBlanks gap
  pub of_name : list_all in_identifier (first ∷ others) ≡ true
  pub longest : begins_with in_identifier rest ≡ false
  pub place : name.spot ≡ first.spot
  pub bytes : name.name ≡ bytes_of (first ∷ others)
  pub some_byte : is_empty name.name ≡ false

-- blanks, this word of the language, and the rest
pub record KeywordForm (word : List ℕ) (us : List TextUnit) (rest : List TextUnit) : Type 0 where
  pub spot : Spot
  pub here : IdentifierForm us (record { spot = spot; name = word }) rest

-- the words of the language, with which no binding begins
abbrev pub keywords : List (List ℕ)
keywords = codes "build" ∷ codes "rule" ∷ codes "pool" ∷ codes "default" ∷ codes "include" ∷ codes "subninja" ∷ []

-- Blanks, a path, and the rest. The path is as long as possible.
pub record WordForm (us : List TextUnit) (word : WordModel) (rest : List TextUnit) : Type 0 where
  pub gap : List TextUnit
  pub first : TextUnit
  pub others : List TextUnit
  pub cut : us ≡ gap ++ first ∷ others ++ rest
  pub blanks : AreBlanks gap
  pub opens : opens_word first ≡ true
  pub of_word : list_all in_word (first ∷ others) ≡ true
  pub longest : begins_with in_word rest ≡ false
  pub place : word.spot ≡ first.spot
  pub parts : word.parts ≡ parts_of (first ∷ others)

-- any number of paths, and the rest
pub data WordsForm : (us : List TextUnit) → List WordModel → (rest : List TextUnit) → Type 0 where
  none : {us : List TextUnit} → WordsForm us [] us
  more : {us after rest : List TextUnit} {word : WordModel} {words : List WordModel}
      → WordForm us word after → WordsForm after words rest → WordsForm us (word ∷ words) rest

-- the bytes of a sign; the end of a line has none
abbrev pub sign_bytes : Sign → List ℕ
sign_bytes sign.Colon = codes ":"
sign_bytes sign.Equals = codes "="
sign_bytes sign.Pipe = codes "|"
sign_bytes sign.Pipe2 = codes "||"
sign_bytes sign.PipeAt = codes "|@"
sign_bytes sign.LineEnd = []

-- `|` is a sign of its own where neither `||` nor `|@` begins with it
abbrev pub is_longest : Sign → (rest : List TextUnit) → Bool
is_longest sign.Pipe rest = not (begins_with_byte 124 rest) && not (begins_with_byte 64 rest)
is_longest want rest = true

-- blanks, a sign, and the rest
pub record SignForm (want : Sign) (us : List TextUnit) (rest : List TextUnit) : Type 0 where
  pub gap : List TextUnit
  pub run : List TextUnit
  pub cut : us ≡ gap ++ run ++ rest
  pub blanks : AreBlanks gap
  pub of_sign : map (λ u. u.means) run ≡ map Ordinary (sign_bytes want)
  pub longest : is_longest want rest ≡ true

-- a section that may be left out: its sign and its paths
pub data SectionForm (want : Sign) : (us : List TextUnit) → List WordModel → (rest : List TextUnit) → Type 0 where
  left_out : {us : List TextUnit} → SectionForm want us [] us
  there : {us after rest : List TextUnit} {words : List WordModel}
      → SignForm want us after → WordsForm after words rest → SectionForm want us words rest

-- a join that opens its line, or nothing (in a text no such join follows a sign of the same line)
abbrev pub is_opening : List TextUnit → Bool
is_opening [] = true
is_opening (u ∷ []) = opens_line u
is_opening (u ∷ v ∷ us) = false

-- Blanks, and after them all other units, among which there is no bad unit. A value without units is placed where its
-- line ends.
pub record ValueForm (us : List TextUnit) (end : Spot) (value : WordModel) : Type 0 where
  pub opening : List TextUnit
  pub gap : List TextUnit
  pub run : List TextUnit
  pub cut : us ≡ opening ++ gap ++ run
  pub opens : is_opening opening ≡ true
  pub longest_opening : opening ≡ [] → begins_with opens_line us ≡ false
  pub blanks : AreBlanks gap
  pub longest : begins_with is_blank run ≡ false
  pub good : first_fault run ≡ None
  pub place : value.spot ≡ spot_of_first run end
  pub parts : value.parts ≡ parts_of run

-- ---- first lines

-- `build OUTPUTS | IMPLICIT-OUTPUTS: RULE INPUTS | IMPLICIT || ORDER-ONLY |@ VALIDATIONS`, with an output at least
pub record BuildForm (us : List TextUnit) (outputs : OutputsModel) (rule : NameModel) (inputs : InputsModel) : Type 0 where
  pub after_build : List TextUnit
  pub after_explicit : List TextUnit
  pub after_outputs : List TextUnit
  pub after_colon : List TextUnit
  pub after_rule : List TextUnit
  pub after_inputs : List TextUnit
  pub after_implicit : List TextUnit
  pub after_order_only : List TextUnit
  pub after_validations : List TextUnit
  pub keyword : KeywordForm (codes "build") us after_build
  pub explicit_outputs : WordsForm after_build outputs.explicit after_explicit
  pub implicit_outputs : SectionForm sign.Pipe after_explicit outputs.implicit after_outputs
  pub some_output : (is_empty outputs.explicit && is_empty outputs.implicit) ≡ false
  pub colon : SignForm sign.Colon after_outputs after_colon
  pub of_rule : IdentifierForm after_colon rule after_rule
  pub explicit_inputs : WordsForm after_rule inputs.explicit after_inputs
  pub implicit_inputs : SectionForm sign.Pipe after_inputs inputs.implicit after_implicit
  pub order_only_inputs : SectionForm sign.Pipe2 after_implicit inputs.order_only after_order_only
  pub validations : SectionForm sign.PipeAt after_order_only inputs.validations after_validations
  pub end : AreBlanks after_validations

-- `NAME = VALUE`
pub record BindingForm (us : List TextUnit) (end : Spot) (name : NameModel) (value : WordModel) : Type 0 where
  pub after_name : List TextUnit
  pub after_sign : List TextUnit
  pub of_name : IdentifierForm us name after_name
  pub equals : SignForm sign.Equals after_name after_sign
  pub of_value : ValueForm after_sign end value

-- this keyword and a name
pub record NamedForm (word : List ℕ) (us : List TextUnit) (name : NameModel) : Type 0 where
  pub after_keyword : List TextUnit
  pub after_name : List TextUnit
  pub keyword : KeywordForm word us after_keyword
  pub of_name : IdentifierForm after_keyword name after_name
  pub end : AreBlanks after_name

-- this keyword and a path
pub record FileForm (word : List ℕ) (us : List TextUnit) (file : WordModel) : Type 0 where
  pub after_keyword : List TextUnit
  pub after_file : List TextUnit
  pub keyword : KeywordForm word us after_keyword
  pub of_file : WordForm after_keyword file after_file
  pub end : AreBlanks after_file

-- `default` and at least one path
pub record DefaultForm (us : List TextUnit) (targets : List WordModel) : Type 0 where
  pub after_keyword : List TextUnit
  pub after_targets : List TextUnit
  pub keyword : KeywordForm (codes "default") us after_keyword
  pub of_targets : WordsForm after_keyword targets after_targets
  pub some_target : is_empty targets ≡ false
  pub end : AreBlanks after_targets

-- the contents of a statement's first line
pub data HeadModel : Type 0 where
  -- a statement without block
  Alone : (item : StatementModel) → HeadModel
  RuleHead : (name : NameModel) → HeadModel
  PoolHead : (name : NameModel) → HeadModel
  BuildHead : (outputs : OutputsModel) (rule : NameModel) (inputs : InputsModel) → HeadModel

-- the first line of a statement, by the manual's cases
pub data HeadForm (l : Line) : HeadModel → Type 0 where
  binding : {name : NameModel} {value : WordModel} → BindingForm l.units l.end name value → list_any (bytes_eq name.name) keywords ≡ false
      → HeadForm l (Alone (BindingModel name.name value))
  rule : {name : NameModel} → NamedForm (codes "rule") l.units name → HeadForm l (RuleHead name)
  pool : {name : NameModel} → NamedForm (codes "pool") l.units name → HeadForm l (PoolHead name)
  build : {outputs : OutputsModel} {name : NameModel} {inputs : InputsModel} → BuildForm l.units outputs name inputs
      → HeadForm l (BuildHead outputs name inputs)
  default : {targets : List WordModel} → DefaultForm l.units targets → HeadForm l (Alone (DefaultModel targets))
  include : {file : WordModel} → FileForm (codes "include") l.units file → HeadForm l (Alone (IncludeModel file))
  subninja : {file : WordModel} → FileForm (codes "subninja") l.units file → HeadForm l (Alone (SubninjaModel file))

-- ---- blocks

-- `NAME = VALUE`, indented, with a name that may occur in the block
pub record BlockLineForm (allowed : Keys) (l : Line) (line : LineModel) : Type 0 where
  pub indented : kind_of l ≡ IndentedLine
  pub binding : BindingForm l.units l.end (record { spot = line.spot; name = line.name }) line.value
  pub key : allows allowed line.name ≡ true

-- The lines of a block, and the lines after it. Comments may be among them. The block ends before a line that is not
-- indented, but after it if that line is blank.
pub data BlockForm (allowed : Keys) : List Line → List LineModel → (rest : List Line) → Type 0 where
  line : {l : Line} {ls rest : List Line} {first : LineModel} {others : List LineModel} → BlockLineForm allowed l first
      → BlockForm allowed (lines_after l ls) others rest → BlockForm allowed (l ∷ ls) (first ∷ others) rest
  comment : {l : Line} {ls rest : List Line} {lines : List LineModel} → kind_of l ≡ CommentLine → l.is_last ≡ false
      → BlockForm allowed ls lines rest → BlockForm allowed (l ∷ ls) lines rest
  -- (no line follows the last of a text)
  last_comment : {l : Line} {ls : List Line} → kind_of l ≡ CommentLine → l.is_last ≡ true
      → BlockForm allowed (l ∷ ls) [] (lines_after l (without_comments ls))
  blank : {l : Line} {ls : List Line} → kind_of l ≡ BlankLine → BlockForm allowed (l ∷ ls) [] (lines_after l ls)
  plain : {l : Line} {ls : List Line} → kind_of l ≡ PlainLine → BlockForm allowed (l ∷ ls) [] (l ∷ ls)
  nothing : BlockForm allowed [] [] []

-- the last line of this key, and its value has a part
pub record Gives (key : List ℕ) (lines : List LineModel) : Type 0 where
  pub before : List LineModel
  pub line : LineModel
  pub after : List LineModel
  pub cut : lines ≡ before ++ line ∷ after
  pub of_key : line.name ≡ key
  pub is_last : list_any (λ l. bytes_eq l.name key) after ≡ false
  pub some_part : is_empty line.value.parts ≡ false

-- ---- statements

-- a first line's statement, with the block that the lines after it begin with
pub data StatementForm : HeadModel → List Line → StatementModel → (rest : List Line) → Type 0 where
  alone : {item : StatementModel} {ls : List Line} → StatementForm (Alone item) ls item ls
  -- a rule has its command, and of the two keys of a response file both or neither
  rule : {name : NameModel} {ls rest : List Line} {lines : List LineModel} → BlockForm keys.OfRule ls lines rest
      → Gives (codes "command") lines → (Gives (codes "rspfile") lines ↔ Gives (codes "rspfile_content") lines)
      → StatementForm (RuleHead name) ls (RuleModel name lines) rest
  -- a pool names its depth
  pool : {name : NameModel} {ls rest : List Line} {lines : List LineModel} → BlockForm keys.OfPool ls lines rest
      → list_any (λ l. bytes_eq l.name (codes "depth")) lines ≡ true → StatementForm (PoolHead name) ls (PoolModel name lines) rest
  build : {outputs : OutputsModel} {name : NameModel} {inputs : InputsModel} {ls rest : List Line} {lines : List LineModel}
      → BlockForm keys.All ls lines rest → StatementForm (BuildHead outputs name inputs) ls (BuildModel outputs name inputs lines) rest

-- The faults of the block of a rule or a pool whose lines all have their form.
pub data LackForm (spot : Spot) : HeadModel → List Line → Fault → Type 0 where
  -- only one of the two keys of a response file
  pair : {name : NameModel} {ls rest : List Line} {lines : List LineModel} → BlockForm keys.OfRule ls lines rest
      → ((Gives (codes "rspfile") lines ↔ Gives (codes "rspfile_content") lines) → ⊥) → LackForm spot (RuleHead name) ls (Placed spot cause.RspPair)
  command : {name : NameModel} {ls rest : List Line} {lines : List LineModel} → BlockForm keys.OfRule ls lines rest
      → (Gives (codes "rspfile") lines ↔ Gives (codes "rspfile_content") lines) → (Gives (codes "command") lines → ⊥)
      → LackForm spot (RuleHead name) ls (Placed spot cause.MissingCommand)
  depth : {name : NameModel} {ls rest : List Line} {lines : List LineModel} → BlockForm keys.OfPool ls lines rest
      → list_any (λ l. bytes_eq l.name (codes "depth")) lines ≡ false → LackForm spot (PoolHead name) ls (Placed spot cause.MissingDepth)

-- The next statement of some lines, or `None`, and the lines after it. Comments and blank lines are skipped.
pub data NextForm : List Line → Option PlacedModel → (rest : List Line) → Type 0 where
  statement : {l : Line} {ls rest : List Line} {head : HeadModel} {item : StatementModel} → kind_of l ≡ PlainLine → HeadForm l head
      → StatementForm head (lines_after l ls) item rest → NextForm (l ∷ ls) (Some (record { spot = line_spot l; item = item })) rest
  blank : {l : Line} {ls rest : List Line} {found : Option PlacedModel} → kind_of l ≡ BlankLine → l.is_last ≡ false
      → NextForm ls found rest → NextForm (l ∷ ls) found rest
  comment : {l : Line} {ls rest : List Line} {found : Option PlacedModel} → kind_of l ≡ CommentLine → l.is_last ≡ false
      → NextForm ls found rest → NextForm (l ∷ ls) found rest
  last_blank : {l : Line} {ls : List Line} → kind_of l ≡ BlankLine → l.is_last ≡ true → NextForm (l ∷ ls) None (lines_after l ls)
  last_comment : {l : Line} {ls : List Line} → kind_of l ≡ CommentLine → l.is_last ≡ true
      → NextForm (l ∷ ls) None (lines_after l (without_comments ls))
  nothing : NextForm [] None []

-- The next statement of some lines has its first line, and lacks a line of its block. The fault is where the
-- statement begins.
pub data NextLacks : List Line → Fault → Type 0 where
  statement : {l : Line} {ls : List Line} {head : HeadModel} {fault : Fault} → kind_of l ≡ PlainLine → HeadForm l head
      → LackForm (line_spot l) head (lines_after l ls) fault → NextLacks (l ∷ ls) fault
  blank : {l : Line} {ls : List Line} {fault : Fault} → kind_of l ≡ BlankLine → l.is_last ≡ false → NextLacks ls fault
      → NextLacks (l ∷ ls) fault
  comment : {l : Line} {ls : List Line} {fault : Fault} → kind_of l ≡ CommentLine → l.is_last ≡ false → NextLacks ls fault
      → NextLacks (l ∷ ls) fault
