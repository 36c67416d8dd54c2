-- What is new in a manifest since an older one, of which a file has the keys that `keys` wrote.
use Rattle.std.specs.Prelude.{◌≡◌, ℕ, ◌+◌, ◌==◌, ◌&&◌, Bool, false, not, if◌then◌else◌, Option, Some, None}
use Rattle.std.specs.Prelude.{is_none, unwrap_or, Result, Ok, Err}
use Rattle.std.specs.Prelude.{List, [], ◌∷◌, ◌++◌, codes, decimal, length, map, nat_lt, slice_index_or, take}
use Rattle.std.specs.List.{filter, filter_map, slice_split}
use Rattle.hex.specs.Hex.{decode_sized}
use Rattle.hex.specs.declared.error.FromHexError.{FromHexError}
use Rattle.nj_text.specs.Calls.{is_empty}
use Rattle.nj_text.specs.Paths.{clean_path_of}
use Rattle.nj_graph.specs.declared.EdgeNo.{EdgeNo}
use Rattle.nj_graph.specs.ReadingList.{ReadStatement}
use Rattle.nj_graph.specs.Edges.{EdgePaths, is_among}
use Rattle.nj_graph.specs.Graph.{GraphModel}
use Rattle.nj_keys.specs.Keys.{HaveKeys, all_commands}
use Rattle.nj_keys.specs.declared.pages.EdgeKey.{EdgeKey}
use Rattle.nj_discovered.specs.Times.{DeclaredTimes}
use Rattle.nj_ask.specs.declared.discovered.DiscoveredGraph.{DiscoveredGraph}
use Rattle.nj_ask.specs.Endings.{program_line}
use Rattle.nj_ask.specs.Manifest.{opened_files}
use Rattle.nj_ask.specs.Settled.{Settles}

-- ---- the older keys

-- a space and at least one byte come after 64 bytes
abbrev pub has_output : (line : List ℕ) → Bool
has_output line = nat_lt 65 (length line) && slice_index_or line 64 0 == 32

-- the bytes that digits denote, if they are digits
abbrev pub if_read : Result (List ℕ) FromHexError → Option (List ℕ)
if_read (Ok key) = Some key
if_read (Err fault) = None

-- The key in a line of `keys`: 64 hexadecimal digits, and then a space and an output. Other lines have none.
abbrev pub key_of : (line : List ℕ) → Option (List ℕ)
key_of line = if has_output line then if_read (decode_sized (take 64 line) 32) else None

-- the lines of a text, without their ends
abbrev pub lines_in : (text : List ℕ) → List (List ℕ)
lines_in text = slice_split (λ byte. byte == 10) text

-- the keys in some lines
abbrev pub keys_in : (lines : List (List ℕ)) → List (List ℕ)
keys_in lines = filter_map key_of lines

-- ---- files that `keys` did not write

-- a line is neither empty nor one of `keys`
abbrev pub is_wrong : (line : List ℕ) → Bool
is_wrong line = not (is_empty line) && is_none (key_of line)

-- the number of the first wrong line, where the first line has the given number
abbrev pub first_wrong : (number : ℕ) → (lines : List (List ℕ)) → Option ℕ
first_wrong number [] = None
first_wrong number (line ∷ lines) = if is_wrong line then Some number else first_wrong (number + 1) lines

-- the line about the wrong line with the given number, of the file at a path
abbrev pub wrong_line : (path : List ℕ) → (number : ℕ) → List ℕ
wrong_line path number = program_line (path ++ codes ":" ++ decimal number
    ++ codes ": not a key and an output")

-- the line about the first wrong line of the file at a path, if any
pub record IsWrongLine (path text : List ℕ) (line : List ℕ) : Type 0 where
  pub number : ℕ
  pub first : first_wrong 1 (lines_in text) ≡ Some number
  pub line_is : line ≡ wrong_line path number

-- ---- new commands

-- the edges with those keys that are not among the older ones
abbrev pub new_edges : (old : List (List ℕ)) → List EdgeKey → List EdgeNo
new_edges old keys = map (λ next. next.edge) (filter (λ next. not (is_among old next.key)) keys)

-- The commands whose keys, with the given bases and without additions, are not among the older keys, in
-- reading order.
pub record AreNewCommands (g : GraphModel) (edges : List EdgePaths) (entries : List ReadStatement)
    (bases old : List (List ℕ))
    (commands : List ℕ) : Type 0 where
  pub keys : List EdgeKey
  pub have : HaveKeys [] bases edges entries (all_commands g) keys
  pub new : commands ≡ map (λ edge. edge.0) (new_edges old keys)

-- ---- what is new

-- `commands`: edges with new commands; `is_settled`: the manifest is up to date with the files that it is made from
pub record NewModel : Type 0 where
  pub commands : List ℕ
  pub is_settled : Bool

-- what is new where no older manifest is compared
abbrev pub nothing_new : NewModel
nothing_new = record { commands = []; is_settled = false }

-- What is new since the manifest of which a text has the keys: the commands that it does not have, with which the manifest may be up to
-- date with the files that it is made from, in the given working directory. Without a text nothing is compared.
pub data IsNewSince (known : DiscoveredGraph) (edges : List EdgePaths) (entries : List ReadStatement) (times : DeclaredTimes)
    (folder : List ℕ) (bases : List (List ℕ)) :
    (since : Option (List ℕ)) → NewModel → Type 0 where
  none : IsNewSince known edges entries times folder bases None nothing_new
  some : {text : List ℕ} {new : NewModel} → first_wrong 1 (lines_in text) ≡ None
      → AreNewCommands known.graph edges entries (map clean_path_of bases) (keys_in (lines_in text)) new.commands
      → Settles known (opened_files known.graph folder) entries times new.commands new.is_settled
      → IsNewSince known edges entries times folder bases (Some text) new

-- the text is not one that `keys` wrote; `path` is that of its file
pub data LacksKeys (path : Option (List ℕ)) : (since : Option (List ℕ)) → (line : List ℕ) → Type 0 where
  wrong : {text line : List ℕ} → IsWrongLine (unwrap_or path []) text line → LacksKeys path (Some text) line
