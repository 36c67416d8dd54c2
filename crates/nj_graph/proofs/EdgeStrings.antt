-- The values of variables for an edge of the graph of statements.
use Rattle.std.proofs.lemmas.Grind.{common_steps}
use Rattle.std.proofs.Common.{◌≡◌, ℕ, zero, suc, ◌<◌, ◌∷◌, Bool, false, if◌then◌else◌, codes, Option}
use Rattle.std.proofs.Common.{Some, option_map, unwrap_or, List, [], map, length, get_or, slice_get}
use Rattle.std.proofs.Common.{slice_index_or, bytes_eq, sym, ap, subst, ◌∙◌, arith, true≢false, is_some}
use Rattle.nj_statements.specs.Inside.EdgeSteps.{lines_of_rule}
use Rattle.std.specs.List.{AllByRecursion}
use Rattle.std.proofs.lemmas.List.{length-map}
use Rattle.std.proofs.lemmas.Option.{slice_get-map, slice_get-get_or, get_or_from_slice_get}
use Rattle.nj_scope.specs.Rules.{RuleModel, phony}
use Rattle.nj_scope.specs.ReadingList.{ReadStatement, value_after}
use Rattle.nj_edge_env.specs.Blocks.{BlocksModel, bound_in}
use Rattle.nj_edges.specs.Edges.{EdgePaths, edge_at}
use Rattle.nj_names.specs.Files.{AreFiles, path_at}
use Rattle.nj_names.specs.declared.files.FileNo.{FileNo}
use Rattle.nj_edge_env.specs.LateStrings.{LateNames, asked_text}
use Rattle.nj_statements.specs.EdgeList.{EdgeModel, edges_read, names_of_edge, block_of_edge}
use Rattle.nj_statements.specs.Built.{EdgeDetail, detail_at, detail_of}
use Rattle.nj_statements.proofs.LateLemmas.{paths-are, same-everywhere}
use Rattle.nj_graph.specs.Graph.{GraphModel, edges_of, files_of, IsOpenScope, HasRule, IsGraphOf}
use Rattle.nj_graph.specs.Graph.{is_dyndep_restat, late_text_of}
use Rattle.nj_graph.proofs.EdgeRules.{edges-open}

-- ---- elements of lists

some-is : {X : Type 0} {x y : X} → Some x ≡ Some y → x ≡ y
some-is {x = x} h = ap (λ o. unwrap_or o x) h

all-at : {X : Type 0} (P : X → Type 0) (xs : List X) (n : ℕ) (x : X) → slice_get xs n ≡ Some x
    → AllByRecursion P xs → P x
all-at P [] n x h all = absurd (true≢false (sym (ap is_some h)))
all-at P (y ∷ ys) zero x h all = subst P (some-is h) all.0
all-at P (y ∷ ys) (suc n) x h all = all-at P ys n x h all.1

pub known-at : {X : Type 0} (P : X → Type 0) (xs : List X) (n : ℕ) (d : X) → n < length xs
    → AllByRecursion P xs → P (slice_index_or xs n d)
known-at P xs n d below all = all-at P xs n (slice_index_or xs n d) (slice_get-get_or xs n d below) all

index-is : {X : Type 0} (xs : List X) (n : ℕ) (x d : X) → slice_get xs n ≡ Some x → slice_index_or xs n d ≡ x
index-is xs n x d h = get_or_from_slice_get xs n x d h

map-at : {X Y : Type 0} (f : X → Y) (xs : List X) (n : ℕ) (x : X) → slice_get xs n ≡ Some x
    → slice_get (map f xs) n ≡ Some (f x)
map-at f xs n x h = slice_get-map f xs n ∙ ap (option_map f) h

element : {X : Type 0} (xs : List X) (n : ℕ) → n < length xs → (x : X) × (slice_get xs n ≡ Some x)
element [] n below = absurd (omega (arith, below))
element (x ∷ xs) n below = (slice_index_or (x ∷ xs) n x, slice_get-get_or (x ∷ xs) n x below)

names-are : (n m : LateNames) → n.inputs ≡ m.inputs → n.outputs ≡ m.outputs → n.block ≡ m.block
    → n.lines ≡ m.lines → n.is_phony ≡ m.is_phony → n.file ≡ m.file → n ≡ m
names-are n m inputs outputs block lines is_phony file = grind (arith, common_steps)

-- ---- an edge

module _ (g : GraphModel) (entries : List ReadStatement) (is : IsGraphOf g entries) (n : ℕ)
    (below : n < length (edges_of g)) where
  pub there : (e : EdgeModel) × (slice_get (edges_read entries) n ≡ Some e)
  there =
      let count = ap length is.built.paths ∙ length-map (edges_read entries) (λ e. e.paths) in
      element (edges_read entries) n (omega (arith, below, count))

  abbrev pub edge : EdgeModel
  edge = there.0

  pub edge-open : IsOpenScope g.declarations.scopes edge.scope edge.around
  edge-open = all-at (λ x. IsOpenScope g.declarations.scopes x.scope x.around) (edges_read entries) n edge
      there.1 (edges-open g.declarations.scopes entries is.scopes)

  has : HasRule g.declarations.rules edge
  has = all-at (HasRule g.declarations.rules) (edges_read entries) n edge there.1 is.rules

  paths-at : edge_at (edges_of g) n ≡ edge.paths
  paths-at = ap (λ es. edge_at es n) is.built.paths
      ∙ index-is (map (λ e. e.paths) (edges_read entries)) n edge.paths _
      (map-at (λ e. e.paths) (edges_read entries) n edge there.1)

  pub detail-is : detail_at g.built.details n ≡ detail_of edge
  detail-is = ap (λ ds. detail_at ds n) is.built.details
      ∙ index-is (map detail_of (edges_read entries)) n (detail_of edge) _
      (map-at detail_of (edges_read entries) n edge there.1)

  block-is : (λ name. bound_in g.built.blocks n name) ≡ edge.block
  block-is = same-everywhere (λ name. bound_in g.built.blocks n name) edge.block
      (λ name. is.built.blocks n name ∙ ap (λ o. block_of_edge o name) there.1)

  -- the value of a variable, which may come from a dyndep file
  abbrev by_dyndep : (asked : List ℕ) → Bool → List ℕ
  by_dyndep asked gives =
      if gives then codes "1" else
      unwrap_or (option_map (λ e. asked_text (names_of_edge entries e) asked)
      (slice_get (edges_read entries) n)) []

  -- the names of the edge are the names of its statement
  pub names-same : (files : List (List ℕ)) (ins outs : List FileNo) (blocks : BlocksModel) (rule : RuleModel)
      (scope : ℕ)
      → files ≡ files_of g → AreFiles (files_of g) ins (edge_at (edges_of g) n).explicit_inputs
      → AreFiles (files_of g) outs (edge_at (edges_of g) n).explicit_outputs
      → blocks ≡ g.built.blocks → rule ≡ get_or g.declarations.rules (detail_at g.built.details n).rule rule
      → scope ≡ (detail_at g.built.details n).scope
      → record {
        inputs = map (path_at files) ins;
        outputs = map (path_at files) outs;
        block = bound_in blocks n;
        lines = rule.lines;
        is_phony = bytes_eq rule.name phony;
        file = value_after entries (scope ∷ edge.around);
      } ≡ names_of_edge entries edge
  names-same files ins outs blocks rule scope files_are inputs outputs blocks_are at scope_is =
      names-are _ (names_of_edge entries edge)
      (ap (λ fs. map (path_at fs) ins) files_are ∙ paths-are (files_of g) ins _ inputs
      ∙ ap (λ (p : EdgePaths). p.explicit_inputs) paths-at)
      (ap (λ fs. map (path_at fs) outs) files_are ∙ paths-are (files_of g) outs _ outputs
      ∙ ap (λ (p : EdgePaths). p.explicit_outputs) paths-at)
      (ap (λ b. bound_in b n) blocks_are ∙ block-is)
      (ap (λ (r : RuleModel). r.lines) rule_same
      ∙ ap lines_of_rule (sym has.rule_is ∙ ap (λ rules. slice_get rules edge.rule) is.declares.rules))
      (ap (λ (r : RuleModel). bytes_eq r.name phony) rule_same ∙ has.phony_is)
      (ap (λ s. value_after entries (s ∷ edge.around))
      (scope_is ∙ ap (λ (d : EdgeDetail). d.scope) detail-is))
    where
      rule_same : rule ≡ has.rule
      rule_same = at ∙ get_or_from_slice_get g.declarations.rules (detail_at g.built.details n).rule has.rule
          rule (ap (λ (d : EdgeDetail). slice_get g.declarations.rules d.rule) detail-is ∙ has.rule_is)

  pub text-same : (asked : List ℕ) (names : LateNames) → names ≡ names_of_edge entries edge
      → is_dyndep_restat entries n asked ≡ false
      → asked_text names asked ≡ late_text_of entries n asked
  text-same asked names same other =
      ap (λ x. asked_text x asked) same
      ∙ sym (ap (λ (o : Option EdgeModel). unwrap_or
      (option_map (λ e. asked_text (names_of_edge entries e) asked) o) []) there.1)
      ∙ sym (ap (by_dyndep asked) other)
