-- How the objects of a compilation database are written one after another.
use Rattle.std.specs.Prelude.{◌≡◌, ℕ, Bool, if◌then◌else◌, Option, Some, None, is_some, unwrap_or, Result, Ok, Err, List, [], ◌++◌, slice_get, codes}
use Rattle.std.specs.Str.{is_utf8}
use Rattle.nj_scope.specs.ReadingList.{ReadStatement}
use Rattle.nj_faults.specs.declared.fault.GraphFault.{GraphFault}
use Rattle.nj_graph.specs.Graph.{late_text_of}
use Rattle.nj_graph.specs.ResponseFiles.{command_with_rsp_of}
use Rattle.nj_tools.specs.Lines.{line}
use Rattle.nj_tools.specs.declared.tool_fault.ToolFault.{ToolFault}
use Rattle.nj_tools.specs.declared.tool_fault.ToolFault.TheVariants.{TextNotUtf8, Write, OutOfMemory}
use Rattle.nj_tools.specs.Compdb.{Compilation, held_before, is_text, json_string, objects_text, unheld_edge}

-- the command of an edge, with the contents of its response file in place of the name if `expand` is set
abbrev pub command_text : List ReadStatement → (expand : Bool) → (edge : ℕ) → List ℕ
command_text entries expand edge = if expand then command_with_rsp_of entries edge else late_text_of entries edge (codes "command")

abbrev pub first_path : List (List ℕ) → List ℕ
first_path paths = unwrap_or (slice_get paths 0) []

-- the end of the list, by the first edge that JSON cannot contain
abbrev pub end_text : (unheld : Option ℕ) → List ℕ
end_text unheld = if is_some unheld then [] else codes "\n]\n"

-- the list; `directory` is a string in JSON already
abbrev pub list_text : List ReadStatement → (directory : List ℕ) → (rules : List (List ℕ)) → (expand : Bool) → List ℕ
list_text entries directory rules expand =
    codes "[" ++ objects_text directory (held_before entries rules expand) ++ end_text (unheld_edge entries rules expand)

-- a string in JSON, if JSON can contain it
abbrev pub held_string : (text : List ℕ) → Option (List ℕ)
held_string text = if is_utf8 text then Some (json_string text) else None

-- the written strings of an edge, each as a string in JSON
abbrev pub in_json : Compilation → Compilation
in_json c = record { command = json_string c.command; file = json_string c.file; output = json_string c.output }

abbrev pub held_compilation : Compilation → Option Compilation
held_compilation c = if is_text c then Some (in_json c) else None

-- the edge with the given fault is refused; or an allocation failed
abbrev pub Refuses : (refused : Option GraphFault) → Result Unit ToolFault → Type 0
Refuses refused (Ok done) = refused ≡ None
Refuses refused (Err (TextNotUtf8 fault)) = refused ≡ Some fault
Refuses refused (Err Write) = ⊥
Refuses refused (Err OutOfMemory) = Unit {0}

-- an object whose strings are in JSON already
unfoldable pub object_of_strings : (directory : List ℕ) → Compilation → List ℕ
object_of_strings directory c =
    line (codes "  {")
    ++ line (codes "    \"directory\": " ++ directory ++ codes ",")
    ++ line (codes "    \"command\": " ++ c.command ++ codes ",")
    ++ line (codes "    \"file\": " ++ c.file ++ codes ",")
    ++ line (codes "    \"output\": " ++ c.output)
    ++ codes "  }"
