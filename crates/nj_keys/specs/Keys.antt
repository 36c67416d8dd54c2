-- Keys of edges, made from their commands and files and from the keys of the edges that make their inputs.
use Rattle.std.specs.Prelude.{◌≡◌, ◌≢◌, ◌↔◌, ◌<◌, ◌^◌, ◌⊎◌, ℕ, Option, Some, None, unwrap_or, if◌then◌else◌, List, [], ◌∷◌, ◌++◌}
use Rattle.std.specs.Prelude.{map, length, not, take, All, Contains, codes, decimal}
use Rattle.std.specs.List.{flat_map, AllByRecursion}
use Rattle.sha2.specs.Sha256.{sha256}
use Rattle.hex.specs.Hex.{encode_lower}
use Rattle.nj_graph.specs.ReadingList.{ReadStatement}
use Rattle.nj_graph.specs.declared.Kind.{Kind}
use Rattle.nj_graph.specs.declared.Kind.TheVariants.{Explicit, Implicit, OrderOnly}
use Rattle.nj_graph.specs.Edges.{EdgePaths, edge_at, edges_from, inputs_of, outputs_of, first_output, maker_of}
use Rattle.nj_graph.specs.EdgeList.{edges_read, paths_of_edges}
use Rattle.nj_graph.specs.DepsLogs.{with_named}
use Rattle.nj_graph.specs.Graph.{edges_of, late_text_of, GraphModel, IsGraphOf}
use Rattle.nj_keys.specs.declared.pages.EdgeKey.{EdgeKey}
use Rattle.nj_keys.specs.Bases.{mapped, HasNoZero}

-- ---- the edges of the manifest

-- The edges without the inputs that builds discovered, which are their last implicit inputs: `counts` says how many implicit inputs the
-- manifest itself states for each edge. An edge past the last count keeps all its inputs.
abbrev pub edges_stated : (counts : List ℕ) → List EdgePaths → List EdgePaths
edges_stated [] edges = edges
edges_stated (count ∷ counts) [] = []
edges_stated (count ∷ counts) (e ∷ edges) =
    record e { implicit_inputs = take count e.implicit_inputs } ∷ edges_stated counts edges

-- ---- the contents of a key

-- an input, with the key of the edge that makes it, which is empty for a source
pub record InputFields : Type 0 where
  pub kind : Kind
  pub path : List ℕ
  pub key : List ℕ

-- a command, the name and the content of its response file, and the outputs and inputs of its edge, in their order
pub record Fields : Type 0 where
  pub command : List ℕ
  pub response_file : List ℕ
  pub response : List ℕ
  pub outputs : List (List ℕ)
  pub inputs : List InputFields

-- ---- their text

-- a number and a colon
abbrev pub number : ℕ → List ℕ
number n = decimal n ++ 58 ∷ []

-- a field: its length, a colon, its bytes
abbrev pub field : List ℕ → List ℕ
field bytes = number (length bytes) ++ bytes

-- the sign before the inputs of a kind in a manifest
abbrev pub bars : Kind → List ℕ
bars Explicit = []
bars Implicit = codes "|"
bars OrderOnly = codes "||"

-- an input as text: its kind, its path, and the key of its maker
abbrev pub input_text : InputFields → List ℕ
input_text input = field (bars input.kind) ++ field input.path ++ field input.key

-- all contents of a key, as text
abbrev pub fields_text : Fields → List ℕ
fields_text f =
    field f.command ++ field f.response_file ++ field f.response
    ++ number (length f.outputs) ++ flat_map field f.outputs ++ flat_map input_text f.inputs

-- ---- the fields of an edge

-- a variable of an edge; a phony edge has no variables
abbrev pub variable_of : List EdgePaths → List ReadStatement → (edge : ℕ) → (name : List ℕ) → List ℕ
variable_of edges entries edge name = if (edge_at edges edge).is_phony then [] else late_text_of entries edge name

-- the contents of a response file, if it has a name
abbrev pub content_of : (name content : List ℕ) → List ℕ
content_of [] content = []
content_of (byte ∷ name) content = content

-- the content of an edge's response file
abbrev pub response_of : List EdgePaths → List ReadStatement → (edge : ℕ) → List ℕ
response_of edges entries edge =
    content_of (variable_of edges entries edge (codes "rspfile")) (variable_of edges entries edge (codes "rspfile_content"))

-- the key of the edge that makes a file; empty where no edge makes it
abbrev pub maker_key : (keys : ℕ → List ℕ) → (maker : Option ℕ) → List ℕ
maker_key keys (Some edge) = keys edge
maker_key keys None = []

-- an input of the given kind at a path
abbrev pub input_fields : (folders : List (List ℕ)) → List EdgePaths → (keys : ℕ → List ℕ) → Kind → (path : List ℕ) → InputFields
input_fields folders edges keys kind path = record { kind = kind; path = mapped folders path; key = maker_key keys (maker_of edges path) }

-- the inputs of an edge, kind by kind
abbrev pub inputs_with_keys : (folders : List (List ℕ)) → List EdgePaths → (keys : ℕ → List ℕ) → EdgePaths → List InputFields
inputs_with_keys folders edges keys e =
    map (input_fields folders edges keys Explicit) e.explicit_inputs
    ++ map (input_fields folders edges keys Implicit) e.implicit_inputs
    ++ map (input_fields folders edges keys OrderOnly) e.order_only_inputs

-- the fields of an edge, where `keys` has the keys of the edges that make its inputs
abbrev pub fields_of : (folders : List (List ℕ)) → List EdgePaths → List ReadStatement → (keys : ℕ → List ℕ) → (edge : ℕ) → Fields
fields_of folders edges entries keys edge = record {
  command = mapped folders (variable_of edges entries edge (codes "command"));
  response_file = mapped folders (variable_of edges entries edge (codes "rspfile"));
  response = mapped folders (response_of edges entries edge);
  outputs = map (mapped folders) (outputs_of (edge_at edges edge));
  inputs = inputs_with_keys folders edges keys (edge_at edges edge);
}

-- ---- keys

-- the edges that make the inputs of an edge, in their order; None for a source
abbrev pub input_makers : List EdgePaths → (edge : ℕ) → List (Option ℕ)
input_makers edges edge = map (maker_of edges) (inputs_of (edge_at edges edge))

-- edge e needs edge f, which makes one of its inputs
abbrev pub Needs : List EdgePaths → (e f : ℕ) → Type 0
Needs edges e f = Contains (input_makers edges e) (Some f)

-- The key of an edge is the SHA-256 of the text of its fields, where each edge that makes an input has its key.
pub data IsKey (folders : List (List ℕ)) (edges : List EdgePaths) (entries : List ReadStatement) :
    (edge : ℕ) → (key : List ℕ) → Type 0 where
  digest : {e : ℕ} (keys : ℕ → List ℕ) → ((f : ℕ) → Needs edges e f → IsKey folders edges entries f (keys f))
      → IsKey folders edges entries e (sha256 (fields_text (fields_of folders edges entries keys e)))

-- ---- additions

-- the text of additions: how many there are, and a field for each
abbrev pub additions_text : (additions : List (List ℕ)) → List ℕ
additions_text additions = number (length additions) ++ flat_map field additions

-- A key with additions: the SHA-256 of a colon, the SHA-256 of their text, and the key. The text of an edge's fields never begins with
-- a colon. Without additions it is the key itself.
abbrev pub key_with : (additions : List (List ℕ)) → (key : List ℕ) → List ℕ
key_with [] key = key
key_with (text ∷ additions) key = sha256 (58 ∷ sha256 (additions_text (text ∷ additions)) ++ key)

-- the addition for the content of a file: a zero byte, which no word of a command line has, and the SHA-256 of the content
abbrev pub content_addition : (content : List ℕ) → List ℕ
content_addition content = 0 ∷ sha256 content

-- texts, and after them the contents of files, as additions
abbrev pub additions_of : (texts contents : List (List ℕ)) → List (List ℕ)
additions_of texts contents = texts ++ map content_addition contents

-- ---- all commands

-- the edges with a command, which are those that are not phony, by number
abbrev pub all_commands : GraphModel → List ℕ
all_commands g = edges_from 0 (λ e. not e.is_phony) (edges_of g)

-- ---- lines

-- a key in hexadecimal digits, and the first output of its edge
abbrev pub line : List EdgePaths → (edge : ℕ) → (key : List ℕ) → List ℕ
line edges edge key = encode_lower key ++ 32 ∷ unwrap_or (first_output (edge_at edges edge)) [] ++ 10 ∷ []

-- The keys of the given edges, in their order, with the additions.
pub data HaveKeys (additions folders : List (List ℕ)) (edges : List EdgePaths) (entries : List ReadStatement) :
    (numbers : List ℕ) → List EdgeKey → Type 0 where
  none : HaveKeys additions folders edges entries [] []
  last : {numbers : List ℕ} {keys : List EdgeKey} {e : ℕ} {key : List ℕ} {next : EdgeKey}
      → HaveKeys additions folders edges entries numbers keys → IsKey folders edges entries e key
      → next.edge.0 ≡ e → next.key ≡ key_with additions key
      → HaveKeys additions folders edges entries (numbers ++ e ∷ []) (keys ++ next ∷ [])

-- The text has a line for each of the given edges, in their order, with its key and the additions.
pub data ListsKeys (additions folders : List (List ℕ)) (edges : List EdgePaths) (entries : List ReadStatement) :
    (numbers : List ℕ) → (text : List ℕ) → Type 0 where
  none : ListsKeys additions folders edges entries [] []
  last : {numbers text : List ℕ} {e : ℕ} {key : List ℕ} → ListsKeys additions folders edges entries numbers text
      → IsKey folders edges entries e key
      → ListsKeys additions folders edges entries (numbers ++ e ∷ []) (text ++ line edges e (key_with additions key))

-- ---- laws

-- the length of each text and the number of outputs are below 2^64, as for all that memory holds
pub record AreShort (f : Fields) : Type 0 where
  pub command : length f.command < 2 ^ 64
  pub response_file : length f.response_file < 2 ^ 64
  pub response : length f.response < 2 ^ 64
  pub output_count : length f.outputs < 2 ^ 64
  pub outputs : AllByRecursion (λ path. length path < 2 ^ 64) f.outputs
  pub inputs : AllByRecursion (λ input. (length input.path < 2 ^ 64) × (length input.key < 2 ^ 64)) f.inputs

-- different fields have different texts: the text determines each command, response file, output and input, with its kind and
-- key
abbrev pub TextsTellFields : Type 0
TextsTellFields = (one other : Fields) → AreShort one → AreShort other → fields_text one ≡ fields_text other → one ≡ other

-- an edge: the edges of its graph, their statements, and its number
pub record StatedEdge : Type 0 where
  pub edges : List EdgePaths
  pub entries : List ReadStatement
  pub number : ℕ

-- the fields of an edge
abbrev pub fields_in : (folders : List (List ℕ)) → (keys : ℕ → List ℕ) → StatedEdge → Fields
fields_in folders keys e = fields_of folders e.edges e.entries keys e.number

-- the texts and the paths of an edge
pub record EdgeTexts : Type 0 where
  pub command : List ℕ
  pub response_file : List ℕ
  pub response : List ℕ
  pub outputs : List (List ℕ)
  pub explicit_inputs : List (List ℕ)
  pub implicit_inputs : List (List ℕ)
  pub order_only_inputs : List (List ℕ)

-- the texts and the paths of an edge, from its statements
abbrev pub texts_of : StatedEdge → EdgeTexts
texts_of e = record {
  command = variable_of e.edges e.entries e.number (codes "command");
  response_file = variable_of e.edges e.entries e.number (codes "rspfile");
  response = response_of e.edges e.entries e.number;
  outputs = outputs_of (edge_at e.edges e.number);
  explicit_inputs = (edge_at e.edges e.number).explicit_inputs;
  implicit_inputs = (edge_at e.edges e.number).implicit_inputs;
  order_only_inputs = (edge_at e.edges e.number).order_only_inputs;
}

-- the texts and the paths with tokens in place of the directories that count
abbrev pub texts_mapped : (folders : List (List ℕ)) → EdgeTexts → EdgeTexts
texts_mapped folders t = record {
  command = mapped folders t.command;
  response_file = mapped folders t.response_file;
  response = mapped folders t.response;
  outputs = map (mapped folders) t.outputs;
  explicit_inputs = map (mapped folders) t.explicit_inputs;
  implicit_inputs = map (mapped folders) t.implicit_inputs;
  order_only_inputs = map (mapped folders) t.order_only_inputs;
}

-- no text or path of an edge has a zero byte
pub record HaveNoZero (t : EdgeTexts) : Type 0 where
  pub command : HasNoZero t.command
  pub response_file : HasNoZero t.response_file
  pub response : HasNoZero t.response
  pub outputs : All HasNoZero t.outputs
  pub explicit_inputs : All HasNoZero t.explicit_inputs
  pub implicit_inputs : All HasNoZero t.implicit_inputs
  pub order_only_inputs : All HasNoZero t.order_only_inputs

-- edges whose fields have the same text agree except for what tokens stand for, whatever graphs and directories they have
abbrev pub TextsTellMapped : Type 0
TextsTellMapped = (folders others : List (List ℕ)) (e f : StatedEdge) (keys more : ℕ → List ℕ)
    → AreShort (fields_in folders keys e) → AreShort (fields_in others more f)
    → fields_text (fields_in folders keys e) ≡ fields_text (fields_in others more f)
    → texts_mapped folders (texts_of e) ≡ texts_mapped others (texts_of f)

-- with the same directories, and without zero bytes, their texts and paths are the same
abbrev pub TextsTellEdges : Type 0
TextsTellEdges = (folders : List (List ℕ)) (e f : StatedEdge) (keys more : ℕ → List ℕ)
    → length folders < 2 ^ 64 → HaveNoZero (texts_of e) → HaveNoZero (texts_of f)
    → AreShort (fields_in folders keys e) → AreShort (fields_in folders more f)
    → fields_text (fields_in folders keys e) ≡ fields_text (fields_in folders more f) → texts_of e ≡ texts_of f

-- an edge's fields, with the keys of the edges that make its inputs
pub record AreFieldsOf (folders : List (List ℕ)) (e : StatedEdge) (fields : Fields) : Type 0 where
  pub keys : ℕ → List ℕ
  pub are_keys : (f : ℕ) → Needs e.edges e.number f → IsKey folders e.edges e.entries f (keys f)
  pub fields_are : fields ≡ fields_in folders keys e

-- two different texts with the same SHA-256
pub record AreConfused (one other : List ℕ) : Type 0 where
  pub differ : one ≢ other
  pub same : sha256 one ≡ sha256 other

-- edges with the same key have the same fields, unless SHA-256 confuses the texts of their fields
abbrev pub KeysTellFields : Type 0
KeysTellFields = (folders others : List (List ℕ)) (e f : StatedEdge) (key : List ℕ) (one other : Fields)
    → IsKey folders e.edges e.entries e.number key → IsKey others f.edges f.entries f.number key
    → AreFieldsOf folders e one → AreFieldsOf others f other → AreShort one → AreShort other
    → (one ≡ other) ⊎ AreConfused (fields_text one) (fields_text other)

-- an edge has at most one key
abbrev pub KeysAreUnique : Type 0
KeysAreUnique = (folders : List (List ℕ)) (edges : List EdgePaths) (entries : List ReadStatement) (e : ℕ) (key other : List ℕ)
    → IsKey folders edges entries e key → IsKey folders edges entries e other → key ≡ other

-- each edge of a graph has a key, and so has each edge that a walk visits, whatever builds discovered
abbrev pub EdgesHaveKeys : Type 0
EdgesHaveKeys = (folders : List (List ℕ)) (counts : List ℕ) (g : GraphModel) (entries : List ReadStatement) → IsGraphOf g entries
    → (e : ℕ) → e < length (edges_of g) → (key : List ℕ) × IsKey folders (edges_stated counts (edges_of g)) entries e key

-- how many implicit inputs each edge has
abbrev pub counts_of : List EdgePaths → List ℕ
counts_of edges = map (λ e. length e.implicit_inputs) edges

-- Inputs that builds discovered change no key: whatever is joined to the edges of a manifest, an edge has the same key as by the
-- manifest alone.
abbrev pub DiscoveriesChangeNoKey : Type 0
DiscoveriesChangeNoKey = (folders : List (List ℕ)) (named : (edge : ℕ) → List (List ℕ)) (stated : List ReadStatement) (e : ℕ) (key : List ℕ)
    → IsKey folders (paths_of_edges (edges_read stated)) stated e key
    ↔ IsKey folders (edges_stated (counts_of (paths_of_edges (edges_read stated))) (paths_of_edges (edges_read (with_named named stated))))
    (with_named named stated) e key

-- two different texts have the same SHA-256
abbrev pub HasConfusion : Type 0
HasConfusion = (one other : List ℕ) × AreConfused one other

-- the number of additions and the length of each are below 2^64, as for all that memory holds
pub record AreShortAdditions (additions : List (List ℕ)) : Type 0 where
  pub count : length additions < 2 ^ 64
  pub lengths : AllByRecursion (λ text. length text < 2 ^ 64) additions

-- Keys of edges that are the same with their additions are the same without them, and so are the additions, unless SHA-256 confuses
-- two texts. So a key that names one compiler is not a key that names another.
abbrev pub AdditionsTell : Type 0
AdditionsTell = (additions others folders bases : List (List ℕ)) (e f : StatedEdge) (key other : List ℕ) (one two : Fields)
    → AreShortAdditions additions → AreShortAdditions others
    → IsKey folders e.edges e.entries e.number key → IsKey bases f.edges f.entries f.number other
    → AreFieldsOf folders e one → AreFieldsOf bases f two → AreShort one → AreShort two
    → key_with additions key ≡ key_with others other → ((additions ≡ others) × (key ≡ other)) ⊎ HasConfusion

-- Additions have the texts, in their order, and after them the contents, in theirs, unless SHA-256 confuses two contents. So a text is
-- never taken for the content of a file.
abbrev pub AdditionsTellContents : Type 0
AdditionsTellContents = (texts others contents more : List (List ℕ)) → All HasNoZero texts → All HasNoZero others
    → additions_of texts contents ≡ additions_of others more → ((texts ≡ others) × (contents ≡ more)) ⊎ HasConfusion

-- a list of edges has only one list of keys
abbrev pub ListsOfKeysAreUnique : Type 0
ListsOfKeysAreUnique = (additions folders : List (List ℕ)) (edges : List EdgePaths) (entries : List ReadStatement)
    (numbers : List ℕ) (keys others : List EdgeKey) → HaveKeys additions folders edges entries numbers keys
    → HaveKeys additions folders edges entries numbers others → keys ≡ others

-- a list of edges has only one text
abbrev pub LinesAreUnique : Type 0
LinesAreUnique = (additions folders : List (List ℕ)) (edges : List EdgePaths) (entries : List ReadStatement)
    (numbers text other : List ℕ) → ListsKeys additions folders edges entries numbers text
    → ListsKeys additions folders edges entries numbers other → text ≡ other

-- the texts of two pages, one after the other, are the text of the edges of both
abbrev pub PagesOfLinesJoin : Type 0
PagesOfLinesJoin = (additions folders : List (List ℕ)) (edges : List EdgePaths) (entries : List ReadStatement)
    (numbers more text rest : List ℕ)
    → ListsKeys additions folders edges entries numbers text → ListsKeys additions folders edges entries more rest
    → ListsKeys additions folders edges entries (numbers ++ more) (text ++ rest)
