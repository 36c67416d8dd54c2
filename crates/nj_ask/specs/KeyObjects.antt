-- `keys --json`: an object in JSON for each command, with what a cache needs of its edge.
use Rattle.std.specs.Prelude.{ℕ, Bool, ◌||◌, not, Option, Some, None, is_none, List, [], ◌∷◌, ◌++◌, bytes_eq, codes, drop, length, map, slice_get}
use Rattle.std.specs.List.{filter, flat_map}
use Rattle.std.specs.Str.Lossy.{utf8_lossy}
use Rattle.hex.specs.Hex.{encode_lower}
use Rattle.serde_json.specs.Data.{Data, Items, Members, array, boolean, item, member, no_items, no_members, null, number, object, string, unsigned}
use Rattle.serde_json.specs.Written.{compact_text}
use Rattle.nj_text.specs.Calls.{is_empty}
use Rattle.nj_graph.specs.ReadingList.{ReadStatement}
use Rattle.nj_graph.specs.declared.Kind.{Kind}
use Rattle.nj_graph.specs.declared.Kind.TheVariants.{Explicit, Implicit, OrderOnly}
use Rattle.nj_graph.specs.Edges.{EdgePaths, edge_at, edges_from}
use Rattle.nj_graph.specs.Graph.{GraphModel, edges_of, files_of, late_text_of}
use Rattle.nj_tools.specs.declared.edge_objects.DiscoveryState.{DiscoveryState}
use Rattle.nj_tools.specs.declared.edge_objects.DiscoveryState.TheVariants.{Known, Unknown, Faulty}
use Rattle.nj_tools.specs.declared.edge_objects.EdgeDiscovery.{EdgeDiscovery}
use Rattle.nj_keys.specs.Bases.{mapped}
use Rattle.nj_keys.specs.Keys.{content_of}
use Rattle.nj_keys.specs.declared.pages.EdgeKey.{EdgeKey}
use Rattle.nj_ask.specs.Affected.{line}
use Rattle.nj_ask.specs.LookedThrough.{behind, with_led}
use Rattle.nj_ask.specs.MissingSources.{stated_edge}

-- ---- the inputs of an edge, looked through

-- a file for which an input stands, and how the edge has that input
pub record KeyInput : Type 0 where
  pub kind : Kind
  pub path : List ℕ

-- those of the given files that no phony edge makes, as inputs of a kind
abbrev pub inputs_among : List EdgePaths → Kind → (paths : List (List ℕ)) → List KeyInput
inputs_among edges kind paths =
    map (λ path. record { kind = kind; path = path }) (filter (λ path. is_none (behind edges path)) paths)

-- The files for which the inputs of an edge stand, without duplicates: first those for which an explicit input does, then, of the others, those for
-- which an implicit input does, and then those of order-only inputs. There are as many turns as files.
abbrev pub key_inputs : List EdgePaths → (turns : ℕ) → EdgePaths → List KeyInput
key_inputs edges turns e =
    let explicit = with_led edges turns [] e.explicit_inputs in
    let implicit = with_led edges turns explicit e.implicit_inputs in
    let order_only = with_led edges turns implicit e.order_only_inputs in
    inputs_among edges Explicit explicit ++ (inputs_among edges Implicit (drop (length explicit) implicit)
    ++ inputs_among edges OrderOnly (drop (length implicit) order_only))

-- ---- values

-- a text; U+FFFD replaces invalid UTF-8
abbrev pub text_value : List ℕ → Data
text_value text = string (utf8_lossy text)

-- paths
abbrev pub path_items : List (List ℕ) → Items
path_items [] = no_items
path_items (path ∷ paths) = item (text_value path) (path_items paths)

-- the word of a kind
abbrev pub kind_name : Kind → List ℕ
kind_name Explicit = codes "explicit"
kind_name Implicit = codes "implicit"
kind_name OrderOnly = codes "order_only"

-- an input
abbrev pub input_value : KeyInput → Data
input_value input =
    object (member (codes "path") (text_value input.path) (member (codes "kind") (string (kind_name input.kind)) no_members))

-- inputs, before other items
abbrev pub input_items : List KeyInput → Items → Items
input_items [] rest = rest
input_items (input ∷ inputs) rest = item (input_value input) (input_items inputs rest)

-- numbers
abbrev pub number_items : List ℕ → Items
number_items [] = no_items
number_items (n ∷ ns) = item (number (unsigned n)) (number_items ns)

-- ---- the texts of an edge

-- its command, the name and the content of its response file, its depfile, its pool, and whether it is a generator ("Rule variables" in the Ninja manual)
pub record KeyTexts : Type 0 where
  pub command : List ℕ
  pub response_file : List ℕ
  pub response : List ℕ
  pub depfile : List ℕ
  pub pool : List ℕ
  pub generator : Bool

-- the texts of an edge, by its statements
abbrev pub key_texts : List ReadStatement → (edge : ℕ) → KeyTexts
key_texts entries edge = record {
  command = late_text_of entries edge (codes "command");
  response_file = late_text_of entries edge (codes "rspfile");
  response = content_of (late_text_of entries edge (codes "rspfile")) (late_text_of entries edge (codes "rspfile_content"));
  depfile = late_text_of entries edge (codes "depfile");
  pool = late_text_of entries edge (codes "pool");
  generator = not (is_empty (late_text_of entries edge (codes "generator")));
}

-- a directory counts in a text: a number stands for it there
abbrev pub names_base : (base : List (List ℕ)) → (text : List ℕ) → Bool
names_base base text = not (bytes_eq (mapped base text) text)

-- it counts in the command, or in the name or the content of the response file
abbrev pub is_named_base : KeyTexts → (base : List (List ℕ)) → Bool
is_named_base texts base = names_base base texts.command || (names_base base texts.response_file || names_base base texts.response)

-- the numbers of the directories that do, where each list has one directory
abbrev pub bases_named : (bases : List (List (List ℕ))) → KeyTexts → List ℕ
bases_named bases texts = edges_from 0 (is_named_base texts) bases

-- ---- what builds discovered

-- a value if the inputs are known
abbrev pub if_known : DiscoveryState → Data → Data
if_known Known value = value
if_known (Unknown why) value = null
if_known Faulty value = null

-- the inputs that builds discovered for an edge; null if they are unknown, or were not joined
abbrev pub discovered_value : Option EdgeDiscovery → EdgePaths → Data
discovered_value None e = null
discovered_value (Some discovery) e = if_known discovery.state (array (path_items (drop discovery.stated_inputs e.implicit_inputs)))

-- ---- objects

-- the members with files, before others
abbrev pub file_members : List EdgePaths → (turns : ℕ) → EdgePaths → Members → Members
file_members edges turns e rest =
    member (codes "outputs") (array (path_items e.explicit_outputs)) (
    member (codes "implicit_outputs") (array (path_items e.implicit_outputs)) (
    member (codes "inputs") (array (input_items (key_inputs edges turns e) no_items)) rest))

-- the members with texts, before others
abbrev pub text_members : KeyTexts → Members → Members
text_members texts rest =
    member (codes "response_file") (text_value texts.response_file) (
    member (codes "response") (text_value texts.response) (
    member (codes "command") (text_value texts.command) (
    member (codes "depfile") (text_value texts.depfile) (
    member (codes "generator") (boolean texts.generator) (
    member (codes "pool") (text_value texts.pool) rest)))))

-- a command with its key: always with the keys below, in this order
abbrev pub key_object : GraphModel → List ReadStatement → List EdgeDiscovery → (bases : List (List (List ℕ))) → EdgeKey → Data
key_object g entries discoveries bases next =
    let edge = next.edge.0 in
    let e = edge_at (edges_of g) edge in
    let texts = key_texts entries edge in
    object (
    member (codes "key") (string (encode_lower next.key)) (
    file_members (edges_of g) (length (files_of g)) (stated_edge (edges_of g) (map (λ discovery. discovery.stated_inputs) discoveries) edge) (
    text_members texts (
    member (codes "discovered") (discovered_value (slice_get discoveries edge) e) (
    member (codes "bases") (array (number_items (bases_named bases texts))) no_members))))
    )

-- objects, a line each
abbrev pub key_objects : GraphModel → List ReadStatement → List EdgeDiscovery → (bases : List (List (List ℕ))) → List EdgeKey → List ℕ
key_objects g entries discoveries bases keys =
    flat_map (λ next. line (compact_text (key_object g entries discoveries bases next))) keys
