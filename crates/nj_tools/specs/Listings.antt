-- The output of `inputs` and `targets`.
use Rattle.std.specs.Prelude.{◌≡◌, ◌↔◌, ℕ, zero, suc, ◌+◌, ◌==◌, true, false, if◌then◌else◌, Option, is_none}
use Rattle.std.specs.Prelude.{List, [], ◌∷◌, ◌++◌}
use Rattle.std.specs.Prelude.{map, filter, flat_map, length, bytes_eq, codes}
use Rattle.std.specs.Option.{option_map_or}
use Rattle.std.specs.List.{Contains, IsDistinct, repeat}
use Rattle.std.specs.List.Sorted.{IsStrictlySortedBy}
use Rattle.std.specs.Cmp.Lexicographic.{slice_cmp}
use Rattle.std.specs.Ordering.{nat_cmp}
use Rattle.nj_scope.specs.ReadingList.{ReadStatement}
use Rattle.nj_text.specs.Quotes.{quoted}
use Rattle.nj_edges.specs.Edges.{EdgePaths, edge_at, inputs_of, outputs_of, maker_of, roots_of}
use Rattle.nj_edges.specs.Needs.{makers_of_inputs}
use Rattle.nj_needs.specs.Graphs.{row_of_paths, is_phony_in}
use Rattle.nj_needs.specs.Order.{made_by, needed_commands}
use Rattle.nj_statements.specs.EdgeList.{edges_read, paths_of_edges}
pub use Rattle.nj_edges.specs.Repeats.{each_once}
use Rattle.nj_graph.specs.Graph.{sorted_by, is_before, rule_name_of, rule_name_at}
use Rattle.nj_tools.specs.Lines.{line, lines}
use Rattle.nj_requests.specs.declared.style.InputsStyle.{InputsStyle}
use Rattle.nj_requests.specs.declared.view.TargetsView.{TargetsView}
use Rattle.nj_requests.specs.declared.view.TargetsView.TheVariants.{OfRule, Sources, Depth, All}

-- ---- lists of paths

-- in byte order
abbrev pub sorted : List (List ℕ) → List (List ℕ)
sorted strings = sorted_by is_before strings

-- ---- `inputs`

-- the inputs of the edges whose commands the targets need
abbrev pub needed_inputs : List EdgePaths → (targets : List (List ℕ)) → List (List ℕ)
needed_inputs edges targets =
    flat_map (λ e. inputs_of (edge_at edges e))
    (needed_commands (makers_of_inputs edges) (length edges) (is_phony_in edges) (row_of_paths edges targets))

-- the style of a command line without options
abbrev pub plain_style : InputsStyle
plain_style = record { dependency_order = false; shell_escape = true; zero = false }

-- a path as it is printed: quoted for a shell, or verbatim
abbrev pub printed : InputsStyle → (path : List ℕ) → List ℕ
printed style path = if style.shell_escape then quoted path else path

-- strings in the order in which their paths are needed, or in byte order
abbrev pub arranged : InputsStyle → (strings : List (List ℕ)) → List (List ℕ)
arranged style strings = if style.dependency_order then strings else sorted strings

-- the printed form of a list of paths, without duplicates
abbrev pub printed_strings : InputsStyle → (paths : List (List ℕ)) → List (List ℕ)
printed_strings style paths = arranged style (map (printed style) (each_once bytes_eq paths))

-- a text and its terminator: the byte 0, or a line end
abbrev pub terminated : InputsStyle → (text : List ℕ) → List ℕ
terminated style text = text ++ (if style.zero then 0 else 10) ∷ []

-- the inputs, without duplicates, as they are printed
unfoldable pub inputs_text : InputsStyle → List EdgePaths → (targets : List (List ℕ)) → List ℕ
inputs_text style edges targets = flat_map (terminated style) (printed_strings style (needed_inputs edges targets))

-- ---- `targets`: lists

-- the outputs of the edges whose rule has the given name
abbrev pub outputs_of_rule : List ReadStatement → (rule : List ℕ) → List (List ℕ)
outputs_of_rule entries rule =
    flat_map (λ e. outputs_of e.paths) (filter (λ e. bytes_eq (rule_name_of entries e) rule) (edges_read entries))

-- the inputs that no edge makes
abbrev pub sources_in : List EdgePaths → List (List ℕ)
sources_in edges = filter (λ path. is_none (maker_of edges path)) (flat_map inputs_of edges)

-- `PATH: RULE`
abbrev pub made_line : (path rule : List ℕ) → List ℕ
made_line path rule = line (path ++ codes ": " ++ rule)

-- all outputs, by edge and then by output
unfoldable pub outputs_text : List ReadStatement → List ℕ
outputs_text entries = flat_map (λ e. flat_map (λ path. made_line path (rule_name_of entries e)) (outputs_of e.paths)) (edges_read entries)

-- ---- `targets`: trees

-- a file by the edge that makes it: `PATH: RULE`, or `PATH` for a source
unfoldable pub file_line : List ReadStatement → (maker : Option ℕ) → (path : List ℕ) → List ℕ
file_line entries maker path = option_map_or (λ edge. made_line path (rule_name_at entries edge)) maker (line path)

-- the inputs of a file's maker
abbrev pub inputs_of_maker : List EdgePaths → (maker : Option ℕ) → List (List ℕ)
inputs_of_maker edges maker = made_by (λ edge. inputs_of (edge_at edges edge)) maker

-- two spaces for each level above
abbrev pub indent : (depth : ℕ) → List ℕ
indent depth = repeat depth (codes "  ")

-- A file at a depth, then the inputs of its maker, one level deeper, and so on, for the given number of levels.
unfoldable pub tree_text : List ReadStatement → (levels depth : ℕ) → (path : List ℕ) → List ℕ
tree_text entries zero depth path = []
tree_text entries (suc levels) depth path =
    let edges = paths_of_edges (edges_read entries) in
    indent depth ++ file_line entries (maker_of edges path) path
    ++ flat_map (tree_text entries levels (depth + 1)) (inputs_of_maker edges (maker_of edges path))

-- The number of requested levels; 0 means all levels. Where no edge needs itself by a chain, a chain of files, each
-- made of the next, has at most one file for each edge and a source.
abbrev pub levels_of : List EdgePaths → (depth : ℕ) → ℕ
levels_of edges depth = if depth == 0 then length edges + 1 else depth

-- the trees of the roots
unfoldable pub trees_text : List ReadStatement → (depth : ℕ) → List ℕ
trees_text entries depth =
    let edges = paths_of_edges (edges_read entries) in
    flat_map (tree_text entries (levels_of edges depth) 0) (roots_of edges)

-- ---- `targets`

-- the outputs of a rule and the sources have a line each, once, in byte order
abbrev pub targets_text : List ReadStatement → TargetsView → List ℕ
targets_text entries (OfRule rule) = lines (sorted (each_once bytes_eq (outputs_of_rule entries rule)))
targets_text entries Sources = lines (sorted (each_once bytes_eq (sources_in (paths_of_edges (edges_read entries)))))
targets_text entries (Depth depth) = trees_text entries depth
targets_text entries All = outputs_text entries

-- ---- laws

-- The lines of a list are in strictly ascending byte order, without duplicates.
abbrev pub LinesRise : Type 0
LinesRise = (paths : List (List ℕ)) → IsStrictlySortedBy (slice_cmp nat_cmp) (sorted (each_once bytes_eq paths))

-- A path has a line exactly when it is listed.
abbrev pub ListedHaveLines : Type 0
ListedHaveLines = (paths : List (List ℕ)) (path : List ℕ) → Contains (sorted (each_once bytes_eq paths)) path ↔ Contains paths path

-- The lines of `inputs` that are sorted are in strictly ascending byte order.
abbrev pub SortedInputsRise : Type 0
SortedInputsRise = (style : InputsStyle) (paths : List (List ℕ)) → style.dependency_order ≡ false
    → IsStrictlySortedBy (slice_cmp nat_cmp) (printed_strings style paths)

-- In each style no two lines of `inputs` are the same.
abbrev pub PrintedStringsDiffer : Type 0
PrintedStringsDiffer = (style : InputsStyle) (paths : List (List ℕ)) → IsDistinct bytes_eq (printed_strings style paths)

-- A text is among the lines exactly when a listed path is printed as that text.
abbrev pub ListedArePrinted : Type 0
ListedArePrinted = (style : InputsStyle) (paths : List (List ℕ)) (text : List ℕ)
    → Contains (printed_strings style paths) text ↔ ((path : List ℕ) × Contains paths path × (printed style path ≡ text))

-- Without options the inputs are quoted for a shell, in byte order of the quotes, a line each.
abbrev pub PlainInputsAreSortedQuotes : Type 0
PlainInputsAreSortedQuotes = (edges : List EdgePaths) (targets : List (List ℕ))
    → inputs_text plain_style edges targets ≡ lines (sorted (map quoted (each_once bytes_eq (needed_inputs edges targets))))
