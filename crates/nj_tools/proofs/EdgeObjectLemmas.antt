-- How the objects of edges are written one after another.
use Rattle.std.proofs.Common.{◌≡◌, ℕ, Bool, true, false, not, cond, Option, Some, None}
use Rattle.std.proofs.Common.{option_map, unwrap_or, List, [], ◌∷◌, ◌++◌, refl, sym, ap}
use Rattle.std.proofs.Common.{◌∙◌, append-nil, flat_map, codes, drop, length, take}
use Rattle.std.specs.Prelude.{find, slice_get, take_while}
use Rattle.std.proofs.lemmas.List.Folds.{flat_map-map}
use Rattle.std.specs.List.{fold}
use Rattle.std.proofs.lemmas.List.Sums.{fold-append}
use Rattle.std.specs.Fmt.{decimal}
use Rattle.json.specs.Json.{Json, array, boolean, number, string}
use Rattle.json.specs.Print.{print}
use Rattle.json.specs.Token as token
use Rattle.json.specs.Token.{Token}
use Rattle.json.specs.Tree.{json_tokens}
use Rattle.nj_scope.specs.ReadingList.{ReadStatement}
use Rattle.nj_text.specs.declared.spot.Spot.{Spot}
use Rattle.nj_edges.specs.Edges.{EdgePaths, edge_at}
use Rattle.nj_statements.specs.EdgeList.{edges_read, paths_of_edges}
use Rattle.nj_graph.specs.Graph.{GraphModel, detail_stated, rule_name_at}
use Rattle.nj_graph.specs.Handles.{GraphEdge, edge_in, edges_in}
use Rattle.nj_tools.specs.declared.edge_objects.EdgeDiscovery.{EdgeDiscovery}
use Rattle.nj_tools.specs.EdgeObjects.{discovery_word, edge_object, file_members, head_members, object_at}
use Rattle.nj_tools.specs.EdgeObjects.{stated_count}
use Rattle.nj_tools.specs.EdgeObjects.{place_object, value_member, value_members}
use Rattle.nj_tools.specs.JsonObjects.{json_line, strings, strings_are_utf8}
use Rattle.nj_tools.specs.Lines.{line}
use Rattle.nj_tools.specs.Inside.ObjectTexts.{and_member, and_token, held_text, no_members_yet}
use Rattle.nj_tools.proofs.HeldLemmas.{find-fails, find-passes, while-fails, while-map, while-passes}
use Rattle.nj_tools.proofs.ObjectLemmas.{object-is}

-- ---- the members of an object

-- ten values one after the other
pub values-added : (entries : List ReadStatement) (edge : ℕ) (o a b c d e f g h i j : Option (List Token))
    → a ≡ and_member o (value_member entries edge (codes "command"))
    → b ≡ and_member a (value_member entries edge (codes "description"))
    → c ≡ and_member b (value_member entries edge (codes "depfile"))
    → d ≡ and_member c (value_member entries edge (codes "deps"))
    → e ≡ and_member d (value_member entries edge (codes "rspfile"))
    → f ≡ and_member e (value_member entries edge (codes "rspfile_content"))
    → g ≡ and_member f (value_member entries edge (codes "pool"))
    → h ≡ and_member g (value_member entries edge (codes "dyndep"))
    → i ≡ and_member h (value_member entries edge (codes "generator"))
    → j ≡ and_member i (value_member entries edge (codes "restat"))
    → j ≡ fold and_member o (value_members entries edge)
values-added entries edge o a b c d e f g h i j a_is b_is c_is d_is e_is f_is g_is h_is i_is j_is =
    let add = λ (name : List ℕ) (s : Option (List Token)). and_member s (value_member entries edge name) in
    j_is ∙ ap (add (codes "restat")) (i_is
    ∙ ap (add (codes "generator")) (h_is ∙ ap (add (codes "dyndep")) (g_is ∙ ap (add (codes "pool")) (f_is
    ∙ ap (add (codes "rspfile_content")) (e_is
    ∙ ap (add (codes "rspfile")) (d_is ∙ ap (add (codes "deps"))
    (c_is ∙ ap (add (codes "depfile")) (b_is ∙ ap (add (codes "description")) a_is))))))))

-- the number, the place and the rule
pub head-added : (entries : List ReadStatement) (edge : ℕ) (o a b c d : Option (List Token))
    (file rule : List ℕ) (spot : Spot) (is_phony : Bool)
    → file ≡ (detail_stated entries edge).file → spot ≡ (detail_stated entries edge).spot
    → rule ≡ rule_name_at entries edge
    → is_phony ≡ (edge_at (paths_of_edges (edges_read entries)) edge).is_phony
    → a ≡ and_member o (codes "edge", number (decimal edge))
    → b ≡ and_member a (codes "place", place_object file spot)
    → c ≡ and_member b (codes "rule", string rule)
    → d ≡ and_member c (codes "phony", boolean is_phony)
    → d ≡ fold and_member o (head_members entries edge)
head-added entries edge o a b c d file rule spot is_phony file_is spot_is rule_is phony_is a_is b_is c_is
    d_is =
    let place = ap (λ f. place_object f spot) file_is
    ∙ ap (λ p. place_object (detail_stated entries edge).file p) spot_is in
    d_is ∙ ap (λ p. and_member c (codes "phony", boolean p)) phony_is
    ∙ ap (λ s. and_member s (
      codes "phony",
      boolean (edge_at (paths_of_edges (edges_read entries)) edge).is_phony,
    ))
    (c_is ∙ ap (λ r. and_member b (codes "rule", string r)) rule_is
    ∙ ap (λ s. and_member s (codes "rule", string (rule_name_at entries edge)))
    (b_is ∙ ap (λ p. and_member a (codes "place", p)) place
    ∙ ap (λ s. and_member s (
      codes "place",
      place_object (detail_stated entries edge).file (detail_stated entries edge).spot,
    )) a_is))

-- the files by kind, and whether the inputs that builds discovered are known
pub files-added : (e : EdgePaths) (discovery : Option EdgeDiscovery) (n : ℕ)
    (o a b c d f g h i : Option (List Token))
    (p q r s x t u : List (List ℕ)) (word : List ℕ) → n ≡ stated_count discovery (length e.implicit_inputs)
    → p ≡ e.explicit_outputs → q ≡ e.implicit_outputs → r ≡ e.explicit_inputs
    → s ≡ take n e.implicit_inputs → x ≡ drop n e.implicit_inputs
    → t ≡ e.order_only_inputs → u ≡ e.validations → word ≡ discovery_word discovery
    → a ≡ and_member o (codes "outputs", array (strings p))
    → b ≡ and_member a (codes "implicit_outputs", array (strings q))
    → c ≡ and_member b (codes "inputs", array (strings r))
    → d ≡ and_member c (codes "implicit_inputs", array (strings s))
    → f ≡ and_member d (codes "discovered_inputs", array (strings x))
    → g ≡ and_member f (codes "order_only_inputs", array (strings t))
    → h ≡ and_member g (codes "validations", array (strings u))
    → i ≡ and_member h (codes "discovered", string word)
    → i ≡ fold and_member o (file_members discovery e)
files-added e discovery n o a b c d f g h i p q r s x t u word n_is p_is q_is r_is s_is x_is t_is u_is word_is
    a_is b_is c_is d_is f_is g_is h_is i_is =
    let add = λ (name : List ℕ) (paths : List (List ℕ)) (w : Option (List Token)). and_member w
    (name, array (strings paths)) in
    let count = stated_count discovery (length e.implicit_inputs) in
    let stated = s_is ∙ ap (λ m. take m e.implicit_inputs) n_is in
    let found = x_is ∙ ap (λ m. drop m e.implicit_inputs) n_is in
    i_is ∙ ap (λ w. and_member h (codes "discovered", string w)) word_is
    ∙ ap (λ w. and_member w (codes "discovered", string (discovery_word discovery))) (h_is
    ∙ ap (λ ps. add (codes "validations") ps g) u_is ∙ ap (add (codes "validations") e.validations) (g_is
    ∙ ap (λ ps. add (codes "order_only_inputs") ps f) t_is
    ∙ ap (add (codes "order_only_inputs") e.order_only_inputs) (f_is
    ∙ ap (λ ps. add (codes "discovered_inputs") ps d) found
    ∙ ap (add (codes "discovered_inputs") (drop count e.implicit_inputs)) (d_is
    ∙ ap (λ ps. add (codes "implicit_inputs") ps c) stated
    ∙ ap (add (codes "implicit_inputs") (take count e.implicit_inputs)) (c_is
    ∙ ap (λ ps. add (codes "inputs") ps b) r_is ∙ ap (add (codes "inputs") e.explicit_inputs) (b_is
    ∙ ap (λ ps. add (codes "implicit_outputs") ps a) q_is
    ∙ ap (add (codes "implicit_outputs") e.implicit_outputs) (a_is
    ∙ ap (λ ps. add (codes "outputs") ps o) p_is)))))))

-- all members, and the end of the object
pub members-added : (entries : List ReadStatement) (discovery : Option EdgeDiscovery) (edge : ℕ)
    (opened with_head with_files with_values : Option (List Token)) → opened ≡ no_members_yet
    → with_head ≡ fold and_member opened (head_members entries edge)
    → with_files ≡ fold and_member with_head
    (file_members discovery (edge_at (paths_of_edges (edges_read entries)) edge))
    → with_values ≡ fold and_member with_files (value_members entries edge)
    → and_token with_values token.end_object ≡ held_text (edge_object entries discovery edge)
members-added entries discovery edge opened with_head with_files with_values o h f v =
    let head = head_members entries edge in
    let files = file_members discovery (edge_at (paths_of_edges (edges_read entries)) edge) in
    let values = value_members entries edge in
    ap (λ s. and_token s token.end_object) (
    v ∙ ap (λ s. fold and_member s values)
    (f ∙ ap (λ s. fold and_member s files) (h ∙ ap (λ s. fold and_member s head) o)
    ∙ sym (fold-append and_member no_members_yet head files))
    ∙ sym (fold-append and_member no_members_yet (head ++ files) values)
    )
    ∙ object-is (head ++ files ++ values)

-- ---- the text of an object

text-is : (j : Json) (text : List ℕ) → Some text ≡ option_map print (held_text j)
    → (strings_are_utf8 j ≡ true) × (text ≡ print (json_tokens j))
text-is j text is = by (strings_are_utf8 j) is
  where
    by : (b : Bool) → Some text ≡ option_map print (cond b (Some (json_tokens j)) None)
        → (b ≡ true) × (text ≡ print (json_tokens j))
    by true h = (refl, ap (λ o. unwrap_or o text) h)
    by false h = absurd cc

no-text : (j : Json) → None ≡ option_map print (held_text j) → strings_are_utf8 j ≡ false
no-text j is = by (strings_are_utf8 j) is
  where
    by : (b : Bool) → None ≡ option_map print (cond b (Some (json_tokens j)) None) → b ≡ false
    by true h = absurd cc
    by false h = refl

-- the text of an object where this is what builds discovered
pub object-at : (entries : List ReadStatement) (discoveries : List EdgeDiscovery) (edge : GraphEdge)
    (discovery : Option EdgeDiscovery) (text : Option (List ℕ))
    → discovery ≡ slice_get discoveries edge.number
    → text ≡ option_map print (held_text (edge_object entries discovery edge.number))
    → text ≡ option_map print (held_text (object_at entries discoveries edge.number))
object-at entries discoveries edge discovery text is made =
    made ∙ ap (λ o. option_map print (held_text (edge_object entries o edge.number))) is

-- ---- the lines

module _ (entries : List ReadStatement) (discoveries : List EdgeDiscovery) where
  -- JSON can contain an edge
  abbrev pub writable : GraphEdge → Bool
  writable edge = strings_are_utf8 (object_at entries discoveries edge.number)

  -- the lines that are left of the given edges
  unfoldable pub lines_left : List GraphEdge → List ℕ
  lines_left edges = flat_map (λ edge. json_line (object_at entries discoveries edge.number))
      (take_while writable edges)

  pub lines-all : (g : GraphModel) (numbers : List ℕ)
      → lines_left (edges_in g numbers)
      ≡ flat_map (λ edge. json_line (object_at entries discoveries edge))
      (take_while (λ edge. strings_are_utf8 (object_at entries discoveries edge)) numbers)
  unfolding lines_left
  lines-all g numbers =
      let f = λ (edge : GraphEdge). json_line (object_at entries discoveries edge.number) in
      ap (flat_map f) (while-map writable (edge_in g) numbers)
      ∙ flat_map-map f (edge_in g) (take_while (λ n. strings_are_utf8 (object_at entries discoveries n))
      numbers)

  pub lines-none : lines_left [] ≡ []
  unfolding lines_left
  lines-none = refl

  module _ (edge : GraphEdge) (edges : List GraphEdge) where
    -- JSON cannot contain the next object
    module _ (none : None ≡ option_map print (held_text (object_at entries discoveries edge.number))) where
      pub lines-end : lines_left (edge ∷ edges) ≡ []
      unfolding lines_left
      lines-end = ap (flat_map (λ (e : GraphEdge). json_line (object_at entries discoveries e.number)))
          (while-fails writable edge edges (no-text (object_at entries discoveries edge.number) none))

      pub is-unwritable : find (λ e. not (writable e)) (edge ∷ edges) ≡ Some edge
      is-unwritable = find-fails writable edge edges
          (no-text (object_at entries discoveries edge.number) none)

    -- it has a line
    module _ (text : List ℕ) (some : Some text
        ≡ option_map print (held_text (object_at entries discoveries edge.number))) where
      pub lines-next : lines_left (edge ∷ edges) ≡ line (text ++ []) ++ lines_left edges
      unfolding lines_left
      lines-next =
          ap (flat_map (λ (e : GraphEdge). json_line (object_at entries discoveries e.number)))
          (while-passes writable edge edges (text-is (object_at entries discoveries edge.number) text some).0)
          ∙ ap (λ t. line t ++ lines_left edges)
          (sym (append-nil text ∙ (text-is (object_at entries discoveries edge.number) text some).1))

      pub passes-next : find (λ e. not (writable e)) (edge ∷ edges) ≡ find (λ e. not (writable e)) edges
      passes-next = find-passes writable edge edges
          (text-is (object_at entries discoveries edge.number) text some).0
