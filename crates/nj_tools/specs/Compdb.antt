-- The output of `compdb`: a compilation database, which is a list of objects in JSON.
use Rattle.std.specs.Prelude.{◌≡◌, ℕ, Bool, ◌&&◌, ◌||◌, not, if◌then◌else◌, Option, Some, None, unwrap_or, is_some, List, [], ◌∷◌, ◌++◌}
use Rattle.std.specs.Prelude.{map, find, take_while, flat_map, slice_get, codes, Result, Ok, Err}
use Rattle.std.specs.Option.{option_map_or}
use Rattle.std.specs.Str.{is_utf8}
use Rattle.serde_json.specs.Data.{string}
use Rattle.serde_json.specs.Written.{compact_text}
use Rattle.nj_text.specs.Calls.{is_empty}
use Rattle.nj_scope.specs.ReadingList.{ReadStatement}
use Rattle.nj_edges.specs.Edges.{edge_at, inputs_of, first_output, is_among, edges_from}
use Rattle.nj_statements.specs.EdgeList.{EdgeModel, edges_read, paths_of_edges}
use Rattle.nj_faults.specs.declared.fault.Cause.TheVariants as cause
use Rattle.nj_faults.specs.declared.fault.GraphFault.{GraphFault}
use Rattle.nj_faults.specs.Faults.{fault_at, unplaced}
use Rattle.nj_graph.specs.Graph.{late_text_of, rule_name_of}
use Rattle.nj_graph.specs.ResponseFiles.{command_with_rsp_of}
use Rattle.nj_tools.specs.Lines.{line}
use Rattle.nj_tools.specs.Sinks.{SinkState, Takes}
use Rattle.nj_tools.specs.Texts.{StopsWithin}
use Rattle.nj_tools.specs.declared.tool_fault.ToolFault.{ToolFault}
use Rattle.nj_tools.specs.declared.tool_fault.ToolFault.TheVariants.{TextNotUtf8}

-- ---- which edges

-- no rule is named, or the given rule is; a repeated name makes no difference
abbrev pub is_chosen : (rules : List (List ℕ)) → (rule : List ℕ) → Bool
is_chosen rules rule = is_empty rules || is_among rules rule

-- an edge has an object if it has a command and an input, and its rule is chosen
abbrev pub has_object : List ReadStatement → (rules : List (List ℕ)) → EdgeModel → Bool
has_object entries rules e = not e.paths.is_phony && not (is_empty (inputs_of e.paths)) && is_chosen rules (rule_name_of entries e)

-- the edges that have an object, by number
unfoldable pub listed_edges : List ReadStatement → (rules : List (List ℕ)) → List ℕ
listed_edges entries rules = edges_from 0 (has_object entries rules) (edges_read entries)

-- ---- the written strings of an edge

-- the command of an edge, and its first input and output of any kind
pub record Compilation : Type 0 where
  pub command : List ℕ
  pub file : List ℕ
  pub output : List ℕ

-- with `expand` the command has the contents of its response file in place of the name
abbrev pub compilation_of : List ReadStatement → (expand : Bool) → (edge : ℕ) → Compilation
compilation_of entries expand edge =
    let e = edge_at (paths_of_edges (edges_read entries)) edge in
    record {
      command = if expand then command_with_rsp_of entries edge else late_text_of entries edge (codes "command");
      file = unwrap_or (slice_get (inputs_of e) 0) [];
      output = unwrap_or (first_output e) [];
    }

-- JSON can contain the strings
abbrev pub is_text : Compilation → Bool
is_text c = is_utf8 c.command && is_utf8 c.file && is_utf8 c.output

-- ---- the text

-- a string in JSON
abbrev pub json_string : List ℕ → List ℕ
json_string text = compact_text (string text)

-- the directory is a string in JSON
unfoldable pub object_text : (directory : List ℕ) → Compilation → List ℕ
object_text directory c =
    line (codes "  {")
    ++ line (codes "    \"directory\": " ++ directory ++ codes ",")
    ++ line (codes "    \"command\": " ++ json_string c.command ++ codes ",")
    ++ line (codes "    \"file\": " ++ json_string c.file ++ codes ",")
    ++ line (codes "    \"output\": " ++ json_string c.output)
    ++ codes "  }"

-- objects in their order: each on a new line, with a comma before each but the first
unfoldable pub objects_text : (directory : List ℕ) → List Compilation → List ℕ
objects_text directory [] = []
objects_text directory (c ∷ others) =
    10 ∷ (object_text directory c ++ flat_map (λ other. 44 ∷ 10 ∷ object_text directory other) others)

-- the written strings of the edges before the first edge that JSON cannot contain
abbrev pub held_before : List ReadStatement → (rules : List (List ℕ)) → (expand : Bool) → List Compilation
held_before entries rules expand = take_while is_text (map (compilation_of entries expand) (listed_edges entries rules))

-- the first edge that JSON cannot contain
abbrev pub unheld_edge : List ReadStatement → (rules : List (List ℕ)) → (expand : Bool) → Option ℕ
unheld_edge entries rules expand = find (λ edge. not (is_text (compilation_of entries expand edge))) (listed_edges entries rules)

-- the end of the list is not written if JSON cannot contain one of the edges
unfoldable pub compdb_text : List ReadStatement → (directory : List ℕ) → (rules : List (List ℕ)) → (expand : Bool) → List ℕ
compdb_text entries directory rules expand =
    codes "[" ++ objects_text (json_string directory) (held_before entries rules expand)
    ++ (if is_some (unheld_edge entries rules expand) then [] else codes "\n]\n")

-- ---- the tool and its sink

-- the fault of an edge that JSON cannot contain is at its build statement
abbrev pub text_fault : List ReadStatement → (edge : ℕ) → GraphFault
text_fault entries edge =
    option_map_or (λ e. fault_at e.file e.spot cause.TextNotUtf8) (slice_get (edges_read entries) edge) (unplaced cause.TextNotUtf8)

-- The sink took the whole text; or JSON cannot contain a string of an edge, and the sink took all objects before that
-- edge; or the sink failed within the text; or memory ran out after a prefix of it.
abbrev pub WritesCompdb : (old new : SinkState) → (text : List ℕ) → (refused : Option GraphFault) → Result Unit ToolFault → Type 0
WritesCompdb old new text refused (Ok done) = (refused ≡ None) × Takes old new text
WritesCompdb old new text refused (Err (TextNotUtf8 fault)) = (refused ≡ Some fault) × Takes old new text
WritesCompdb old new text refused (Err fault) = StopsWithin old new text fault
