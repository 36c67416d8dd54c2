-- How the lines of files and edges are made one after another.
use Rattle.std.proofs.Common.{◌≡◌, ℕ, Some, if◌then◌else◌, List, [], ◌∷◌, ◌++◌, refl, sym, ap, ◌∙◌}
use Rattle.std.specs.Prelude.{codes}
use Rattle.std.specs.List.{flat_map}
use Rattle.std.proofs.lemmas.List.Concat.{flat_map-append}
use Rattle.std.proofs.lemmas.List.Folds.{flat_map-map}
use Rattle.nj_text.specs.Calls.{is_empty}
use Rattle.nj_scope.specs.ReadingList.{ReadStatement}
use Rattle.nj_edges.specs.Edges.{EdgePaths, edge_at, outputs_of, maker_of, users_of, validation_users_of}
use Rattle.nj_graph.specs.Graph.{GraphModel, IsGraphOf, edges_of, rule_name_at}
use Rattle.nj_graph.specs.Handles.{GraphEdge, GraphFile, edges_in, file_in, files_in}
use Rattle.nj_graph.proofs.Stated.{graph-edges}
use Rattle.nj_tools.specs.Lines.{line, lines_after}
use Rattle.nj_tools.specs.Queries.{section, inputs_by_kind, maker_text, outputs_of_all, query_in, query_text}
use Rattle.nj_tools.specs.Inside.Pieces.{output_lines, path_lines, query_of_file, validated_lines}
use Rattle.nj_tools.specs.Inside.Pieces.{validation_lines}

-- the files of paths
pub lines_in : (beginning : List ℕ) (g : GraphModel) (paths : List (List ℕ))
    → path_lines beginning (files_in g paths) ≡ lines_after beginning paths
lines_in beginning g paths = flat_map-map (λ file. line (beginning ++ file.path)) (file_in g) paths

-- the validations of an edge
validations_in : (g : GraphModel) (paths : List (List ℕ))
    → validation_lines (files_in g paths)
    ≡ (if is_empty paths then [] else section (codes "  validations:") paths)
unfolding section
validations_in g [] = refl
validations_in g (path ∷ paths) =
    ap (λ t. line (codes "  validations:") ++ t) (lines_in (codes "    ") g (path ∷ paths))

-- the inputs of an edge by kind
pub kinds_are : (g : GraphModel) (e : EdgePaths) (first second third : List GraphFile)
    → first ≡ files_in g e.explicit_inputs → second ≡ files_in g e.implicit_inputs
    → third ≡ files_in g e.order_only_inputs
    → path_lines (codes "    ") first ++ path_lines (codes "    | ") second
    ++ path_lines (codes "    || ") third ≡ inputs_by_kind e
unfolding inputs_by_kind
kinds_are g e first second third first_is second_is third_is =
    (λ i. (ap (path_lines (codes "    ")) first_is ∙ lines_in (codes "    ") g e.explicit_inputs) i
    ++ (ap (path_lines (codes "    | ")) second_is ∙ lines_in (codes "    | ") g e.implicit_inputs) i
    ++ (ap (path_lines (codes "    || ")) third_is ∙ lines_in (codes "    || ") g e.order_only_inputs) i)

-- the parts of the text for the edge that makes a file
pub maker_is : (entries : List ReadStatement) (g : GraphModel) (number : ℕ) (rule : List ℕ)
    (validations : List GraphFile)
    → let e = edge_at (edges_of g) number in
    rule ≡ rule_name_at entries number → validations ≡ files_in g e.validations
    → line (codes "  input: " ++ rule) ++ inputs_by_kind e ++ validation_lines validations
    ≡ maker_text entries (edges_of g) (Some number)
unfolding maker_text
maker_is entries g number rule validations rule_is are =
    let e = edge_at (edges_of g) number in
    (λ i. line (codes "  input: " ++ rule_is i) ++ inputs_by_kind e
    ++ (ap validation_lines are ∙ validations_in g e.validations) i)

-- the edges of numbers
pub outputs_in : (g : GraphModel) (numbers : List ℕ)
    → output_lines (edges_in g numbers) ≡ lines_after (codes "    ") (outputs_of_all (edges_of g) numbers)
outputs_in g [] = refl
outputs_in g (n ∷ numbers) =
    let outputs = outputs_of (edge_at (edges_of g) n) in
    ap (λ t. lines_after (codes "    ") outputs ++ t) (outputs_in g numbers)
    ∙ sym (flat_map-append (λ path. line (codes "    " ++ path)) outputs
    (outputs_of_all (edges_of g) numbers))

pub queries_in : (entries : List ReadStatement) (g : GraphModel) (paths : List (List ℕ)) → IsGraphOf g entries
    → flat_map (query_of_file entries) (files_in g paths) ≡ query_text entries paths
queries_in entries g paths is =
    flat_map-map (query_of_file entries) (file_in g) paths
    ∙ ap (λ edges. flat_map (query_in entries edges) paths) (graph-edges is)

-- the edges that name a file as a validation
validated_in : (g : GraphModel) (users : List ℕ)
    → validated_lines (edges_in g users)
    ≡ (if is_empty users then [] else section (codes "  validation for:") (outputs_of_all (edges_of g) users))
unfolding section
validated_in g [] = refl
validated_in g (user ∷ users) =
    ap (λ t. line (codes "  validation for:") ++ t) (outputs_in g (user ∷ users))

-- the parts of the text for a file
pub query_is : (entries : List ReadStatement) (g : GraphModel) (path name : List ℕ)
    (users validated : List GraphEdge)
    → let edges = edges_of g in
    name ≡ path → users ≡ edges_in g (users_of edges path)
    → validated ≡ edges_in g (validation_users_of edges path)
    → line (name ++ codes ":") ++ maker_text entries edges (maker_of edges path)
    ++ (line (codes "  outputs:") ++ output_lines users) ++ validated_lines validated
    ≡ query_in entries edges path
unfolding query_in section
query_is entries g path name users validated name_is users_are validated_are =
    let edges = edges_of g in
    (λ i. line (name_is i ++ codes ":") ++ maker_text entries edges (maker_of edges path)
    ++ (line (codes "  outputs:") ++ (ap output_lines users_are ∙ outputs_in g (users_of edges path)) i)
    ++ (ap validated_lines validated_are ∙ validated_in g (validation_users_of edges path)) i)
