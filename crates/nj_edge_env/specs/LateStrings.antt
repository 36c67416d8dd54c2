-- Late strings: the values of a rule's variables when an edge uses them.
use Rattle.std.specs.Prelude.{◌≡◌, ℕ, zero, suc, Bool, true, false, not, ◌&&◌, ◌||◌, if◌then◌else◌, Option, Some, None, is_some}
use Rattle.std.specs.Option.{option_or}
use Rattle.std.specs.Prelude.{unwrap_or, option_map, List, [], ◌∷◌, map, length, codes, bytes_eq}
use Rattle.std.specs.List.{list_any, join_with_byte}
use Rattle.nj_text.specs.Quotes.{quoted}
use Rattle.nj_text.specs.Words.{PartModel, Text, Name}
use Rattle.nj_scope.specs.Rules.{RuleLineModel, given}
use Rattle.nj_scope.specs.Scopes.{expanded}
use Rattle.nj_names.specs.NameTables.{is_among}

-- The dependencies of an edge's names: the paths of its explicit inputs and outputs, the bindings of its block, the lines
-- of its rule, whether the rule is `phony`, and the values of names in the file that has the edge.
pub record LateNames : Type 0 where
  pub inputs : List (List ℕ)
  pub outputs : List (List ℕ)
  pub block : List ℕ → Option (List ℕ)
  pub lines : List RuleLineModel
  pub is_phony : Bool
  pub file : List ℕ → List ℕ

-- ---- paths

-- paths, with the separator between them; each path is quoted for a shell separately
abbrev pub paths_text : (quoting : Bool) → (separator : ℕ) → List (List ℕ) → List ℕ
paths_text quoting separator paths = join_with_byte separator (map (λ path. if quoting then quoted path else path) paths)

-- the names of paths: separated by spaces, and by line feeds in `in_newline`
abbrev pub text_of_paths : (quoting : Bool) → (inputs outputs : List (List ℕ)) → (name : List ℕ) → Option (List ℕ)
text_of_paths quoting inputs outputs name =
    if bytes_eq name (codes "in") then Some (paths_text quoting 32 inputs)
    else (if bytes_eq name (codes "in_newline") then Some (paths_text quoting 10 inputs)
    else (if bytes_eq name (codes "out") then Some (paths_text quoting 32 outputs) else None))

-- a name that stands for paths of the edge
abbrev pub names_paths : (name : List ℕ) → Bool
names_paths name = is_among (codes "in" ∷ codes "in_newline" ∷ codes "out" ∷ []) name

-- ---- lines of the rule

-- the names that determine an edge's command
abbrev pub is_of_command : (name : List ℕ) → Bool
is_of_command name = is_among (codes "command" ∷ codes "rspfile" ∷ codes "rspfile_content" ∷ []) name

-- the value, or `None` if it has to have parts and is empty
abbrev pub unless_empty : Bool → Option (List PartModel) → Option (List PartModel)
unless_empty true (Some []) = None
unless_empty unless value = value

-- The value that the rule gives: the value of its last line with the given key. For names that determine an edge's command, a
-- value without parts does not count.
abbrev pub value_given : List RuleLineModel → (key : List ℕ) → Option (List PartModel)
value_given lines key = unless_empty (is_of_command key) (given lines key)

-- the value of the rule, if it counts: the name does not stand for paths, and the block does not bind it
abbrev pub rule_value : (block : List ℕ → Option (List ℕ)) → List RuleLineModel → (name : List ℕ) → Option (List PartModel)
rule_value block lines name = if names_paths name || is_some (block name) then None else value_given lines name

-- the file's value; phony edges are never run
abbrev pub file_value : LateNames → (name : List ℕ) → List ℕ
file_value n name = if n.is_phony && is_of_command name then [] else n.file name

-- ---- the value of a name

-- whether a part refers to the name
abbrev pub refers_in : PartModel → (name : List ℕ) → Bool
refers_in (Text bytes) name = false
refers_in (Name other) name = bytes_eq name other

-- whether a value has a reference to the name
abbrev pub refers : List PartModel → (name : List ℕ) → Bool
refers parts name = list_any (λ part. refers_in part name) parts

-- The value of a name, independent of an order of evaluation: the paths of the edge, else the value of the block, else the rule's
-- value, where each name in it has its own value by the same definition, else the file's value.
pub data Denotes (quoting : Bool) (n : LateNames) : List ℕ → List ℕ → Type 0 where
  by_paths : {name text : List ℕ} → text_of_paths quoting n.inputs n.outputs name ≡ Some text → Denotes quoting n name text
  by_block : {name text : List ℕ} → names_paths name ≡ false → n.block name ≡ Some text → Denotes quoting n name text
  by_rule : {name : List ℕ} → (parts : List PartModel) → (value : List ℕ → List ℕ) → rule_value n.block n.lines name ≡ Some parts
      → ((other : List ℕ) → refers parts other ≡ true → Denotes quoting n other (value other))
      → Denotes quoting n name (expanded value parts)
  by_file : {name : List ℕ} → names_paths name ≡ false → n.block name ≡ None → value_given n.lines name ≡ None
      → Denotes quoting n name (file_value n name)

-- the value of a name, computed: through at most `depth` lines of the rule, beyond which a line is empty
abbrev pub late_in : (depth : ℕ) → (quoting : Bool) → LateNames → (name : List ℕ) → List ℕ
late_in zero quoting n name = []
late_in (suc depth) quoting n name =
    unwrap_or
    (option_or (text_of_paths quoting n.inputs n.outputs name)
    (option_or (n.block name) (option_map (expanded (late_in depth quoting n)) (rule_value n.block n.lines name))))
    (file_value n name)

-- unless lines of the rule refer to each other in a cycle, at most as many lines are nested as the rule has
abbrev pub late_text : (quoting : Bool) → LateNames → (name : List ℕ) → List ℕ
late_text quoting n name = late_in (suc (length n.lines)) quoting n name

-- The requested name decides whether paths are quoted, also in the values to which it refers: the names of files are not
-- part of a shell command.
abbrev pub is_quoted : (asked : List ℕ) → Bool
is_quoted asked = not (is_among (codes "rspfile" ∷ codes "depfile" ∷ codes "dyndep" ∷ []) asked)

-- the value of a variable, requested by itself
abbrev pub asked_text : LateNames → (asked : List ℕ) → List ℕ
asked_text n asked = late_text (is_quoted asked) n asked
