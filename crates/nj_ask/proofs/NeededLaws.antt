-- That each edge which files need is drawn, where the limits leave nothing out.
use Rattle.std.proofs.Common.{◌≡◌, ◌∙◌, ◌⊎◌, inl, inr, ℕ, zero, suc, ◌<◌, ◌≤◌, Bool, true, false, ◌||◌, cond}
use Rattle.std.proofs.Common.{Some, is_some, leb, List, [], ◌∷◌, ◌++◌, length, map, take, refl, sym, ap}
use Rattle.std.proofs.Common.{subst, arith}
use Rattle.std.proofs.Common.{append-nil, append_assoc, eq-eqb, true≢false, bytes_eq, get_or}
use Rattle.std.specs.Prelude.{Contains, slice_index, slice_index_or, unwrap_or}
use Rattle.std.specs.List.{fold, list_any}
use Rattle.std.proofs.lemmas.Bool.Decides.{leb_tells}
use Rattle.std.proofs.lemmas.Grind.{common_steps, get_or_default_zero}
use Rattle.std.proofs.lemmas.List.{take_all}
use Rattle.std.proofs.lemmas.List.Elements.{Contains-append_left, Contains-append_right, Contains-get_or}
use Rattle.std.proofs.lemmas.List.Elements.{Contains-push}
use Rattle.std.proofs.lemmas.Slice.Eq.{bytes_eq-Decides}
use Rattle.nj_cycles.specs.Cycles.{Needs}
use Rattle.nj_cycles.specs.Cycles.Chain.{one}
use Rattle.nj_cycles.proofs.Chains.{chain_push}
use Rattle.nj_edges.specs.Changes.{IsOrNeeds}
use Rattle.nj_edges.specs.Distances.{IsNeeded, IsNeededIn}
use Rattle.nj_edges.specs.Edges.{EdgePaths, edge_at, first_edge, inputs_of, is_among, maker_of, outputs_of}
use Rattle.nj_edges.specs.Needs.{makers_of_inputs}
use Rattle.nj_graph.specs.Graph.{GraphModel, edges_of}
use Rattle.nj_graph.specs.Handles.{GraphEdge, ListsNeeded, edge_in, edges_in, file_in, files_in, number_of}
use Rattle.nj_questions.specs.Questions.{DrawModel}
use Rattle.nj_ask.specs.DrawnNodes.{Node, of_edge, of_file, has_node, input_files, mention, mention_edge}
use Rattle.nj_ask.specs.DrawnNodes.{mentioned, mentioned_by, node_of, output_files}
use Rattle.nj_ask.specs.Drawings.{ListsEdges}
use Rattle.nj_ask.specs.Drawings.ListsEdges.{needed, touched}
use Rattle.nj_ask.specs.DrawingLaws.{NeededAreDrawn, is_same}
use Rattle.nj_ask.proofs.DrawnLaws.{fold-keeps, has-cons, has-nil}

-- ---- items of lists

abbrev In : {X : Type 0} → List X → X → Type 0
In [] x = ⊥
In (y ∷ ys) x = (y ≡ x) ⊎ In ys x

in-from : {X : Type 0} (xs : List X) (x : X) → Contains xs x → In xs x
in-from [] x has = absurd (omega (arith, has.1))
in-from (y ∷ ys) x (zero, below, is) = inl is
in-from (y ∷ ys) x (suc k, below, is) = inr (in-from ys x (k, omega (arith, below), is))

in-contains : {X : Type 0} (xs : List X) (x : X) → In xs x → Contains xs x
in-contains [] x there = absurd there
in-contains (y ∷ ys) x (inl same) =
    subst (Contains (y ∷ ys)) same (Contains-append_left (y ∷ []) ys y (Contains-push [] y))
in-contains (y ∷ ys) x (inr there) = Contains-append_right (y ∷ []) ys x (in-contains ys x there)

in-left : {X : Type 0} (xs ys : List X) (x : X) → In xs x → In (xs ++ ys) x
in-left [] ys x there = absurd there
in-left (z ∷ zs) ys x (inl same) = inl same
in-left (z ∷ zs) ys x (inr there) = inr (in-left zs ys x there)

in-right : {X : Type 0} (xs ys : List X) (x : X) → In ys x → In (xs ++ ys) x
in-right [] ys x there = there
in-right (z ∷ zs) ys x there = inr (in-right zs ys x there)

in-pushed : {X : Type 0} (xs : List X) (y x : X) → In (xs ++ y ∷ []) x → In xs x ⊎ (y ≡ x)
in-pushed [] y x (inl same) = inr same
in-pushed [] y x (inr there) = absurd there
in-pushed (z ∷ zs) y x (inl same) = inl (inl same)
in-pushed (z ∷ zs) y x (inr there) = by (in-pushed zs y x there)
  where
    by : In zs x ⊎ (y ≡ x) → In (z ∷ zs) x ⊎ (y ≡ x)
    by (inl before) = inl (inr before)
    by (inr last) = inr last

in-map : {X Y : Type 0} (f : X → Y) (xs : List X) (x : X) → In xs x → In (map f xs) (f x)
in-map f [] x there = absurd there
in-map f (y ∷ ys) x (inl same) = inl (ap f same)
in-map f (y ∷ ys) x (inr there) = inr (in-map f ys x there)

in-mapped : {X Y : Type 0} (f : X → Y) (xs : List X) (y : Y) → In (map f xs) y → (x : X) × In xs x × (f x ≡ y)
in-mapped f [] y there = absurd there
in-mapped f (x ∷ xs) y (inl same) = (x, inl refl, same)
in-mapped f (x ∷ xs) y (inr there) = let rest = in-mapped f xs y there in (rest.0, inr rest.1, rest.2)

in-take : (xs : List ℕ) (x i j : ℕ) → j < i → j < length xs → slice_index_or xs j x ≡ x → In (take i xs) x
in-take [] x i j less below is = absurd (omega (arith, below))
in-take (y ∷ ys) x zero j less below is = absurd (omega (arith, less))
in-take (y ∷ ys) x (suc i) zero less below is = inl is
in-take (y ∷ ys) x (suc i) (suc j) less below is =
    inr (in-take ys x i j (omega (arith, less)) (omega (arith, below)) is)

-- ---- nodes that are mentioned

same-itself : (node : Node) → is_same node node ≡ true
same-itself (of_edge edge) = eq-eqb edge.number edge.number refl
same-itself (of_file file) = eq-eqb (number_of file) (number_of file) refl

has-append : (xs ys : List Node) (node : Node)
    → has_node (xs ++ ys) node ≡ (has_node xs node || has_node ys node)
has-append [] ys node = ap (λ b. b || has_node ys node) (sym (has-nil node))
has-append (x ∷ xs) ys node =
    has-cons x (xs ++ ys) node ∙ ap (λ b. is_same node x || b) (has-append xs ys node)
    ∙ or-assoc (is_same node x) (has_node xs node) (has_node ys node)
    ∙ ap (λ b. b || has_node ys node) (sym (has-cons x xs node))
  where
    or-assoc : (a b c : Bool) → (a || (b || c)) ≡ ((a || b) || c)
    or-assoc true b c = refl
    or-assoc false b c = refl

or-true : (a b : Bool) → b ≡ true → (a || b) ≡ true
or-true true b is = refl
or-true false b is = is

has-kept : (node : Node) (nodes : List Node) (other : Node) → has_node nodes node ≡ true
    → has_node (mention nodes other) node ≡ true
has-kept node nodes other has = by (has_node nodes other)
  where
    by : (b : Bool) → has_node (cond b nodes (nodes ++ other ∷ [])) node ≡ true
    by true = has
    by false = has-append nodes (other ∷ []) node ∙ ap (λ b. b || has_node (other ∷ []) node) has

has-new : (nodes : List Node) (node : Node) → has_node (mention nodes node) node ≡ true
has-new nodes node = by (has_node nodes node) refl
  where
    by : (b : Bool) → has_node nodes node ≡ b
        → has_node (cond (has_node nodes node) nodes (nodes ++ node ∷ [])) node ≡ true
    by true is = rw is is
    by false is = rw is (has-append nodes (node ∷ []) node
        ∙ or-true (has_node nodes node) (has_node (node ∷ []) node)
        (has-cons node [] node ∙ ap (λ b. b || has_node [] node) (same-itself node)))

has-still : (node : Node) (more nodes : List Node) → has_node nodes node ≡ true
    → has_node (fold mention nodes more) node ≡ true
has-still node more nodes has = fold-keeps (λ ns. has_node ns node ≡ true) mention (has-kept node) more nodes
    has

has-all : (node : Node) (more nodes : List Node) → In more node
    → has_node (fold mention nodes more) node ≡ true
has-all node [] nodes there = absurd there
has-all node (m ∷ ms) nodes (inl same) =
    has-still node ms (mention nodes m) (subst (λ n. has_node (mention nodes m) n ≡ true) same
    (has-new nodes m))
has-all node (m ∷ ms) nodes (inr there) = has-all node ms (mention nodes m) there

-- ---- edges in turn

first-passes : {E : Type 0} (test : E → Bool) (d : E) (es : List E) (f : ℕ) → first_edge test es ≡ Some f
    → test (get_or es f d) ≡ true
first-passes test d [] f first = absurd (true≢false (sym (ap is_some first)))
first-passes test d (e ∷ es) f first = grind (arith, common_steps, (first-passes test d es))

module _ (g : GraphModel) (options : DrawModel) (files : List (List ℕ)) where
  abbrev node_at : (path : List ℕ) → Node
  node_at path = node_of options.fold (file_in g path)

  abbrev inputs_at : (edge : ℕ) → List (List ℕ)
  inputs_at edge = inputs_of (edge_at (edges_of g) edge)

  -- the nodes once the given edges had their turn
  record AreThere (done : List ℕ) (nodes : List Node) : Type 0 where
    given : (path : List ℕ) → In files path → has_node nodes (node_at path) ≡ true
    edges : (edge : ℕ) → In done edge → has_node nodes (of_edge (edge_in g edge)) ≡ true
    inputs : (edge : ℕ) → In done edge → (path : List ℕ) → In (inputs_at edge) path
        → has_node nodes (node_at path) ≡ true

  -- an edge makes one of the files, or an input of one of the given edges
  abbrev IsNext : (done : List ℕ) → (edge : ℕ) → Type 0
  IsNext done edge =
      ((path : List ℕ) × In files path × (maker_of (edges_of g) path ≡ Some edge))
      ⊎ ((user : ℕ) × In done user × (path : List ℕ) × In (inputs_at user) path
      × (maker_of (edges_of g) path ≡ Some edge))

  -- so the node of one of its outputs is in the list
  made-there : (done : List ℕ) (nodes : List Node) (edge : ℕ) → AreThere done nodes → IsNext done edge
      → (path : List ℕ) × (has_node nodes (node_at path) ≡ true) × (maker_of (edges_of g) path ≡ Some edge)
  made-there done nodes edge there (inl next) = (next.0, there.given next.0 next.1, next.2)
  made-there done nodes edge there (inr (user, before, path, input, makes)) =
      (path, there.inputs user before path input, makes)

  any-made : (nodes : List Node) (path : List ℕ) (outputs : List (List ℕ))
      → list_any (bytes_eq path) outputs ≡ true
      → has_node nodes (node_at path) ≡ true
      → list_any (λ file. has_node nodes (node_of options.fold file)) (files_in g outputs) ≡ true
  any-made nodes path [] among has = absurd (true≢false (sym among))
  any-made nodes path (o ∷ os) among has = by (bytes_eq path o) refl (any-made nodes path os)
    where
      by : (b : Bool) → bytes_eq path o ≡ b
          → (list_any (bytes_eq path) os ≡ true → has_node nodes (node_at path) ≡ true
          → list_any (λ file. has_node nodes (node_of options.fold file)) (files_in g os) ≡ true)
          → (has_node nodes (node_at o) || list_any (λ file. has_node nodes (node_of options.fold file))
          (files_in g os)) ≡ true
      by true is later = ap (λ b. b || list_any (λ file. has_node nodes (node_of options.fold file))
          (files_in g os))
          (subst (λ p. has_node nodes (node_at p) ≡ true) ((bytes_eq-Decides path o).0 is) has)
      by false is later = or-true (has_node nodes (node_at o))
          (list_any (λ file. has_node nodes (node_of options.fold file)) (files_in g os))
          (later (sym (ap (λ b. b || list_any (bytes_eq path) os) is) ∙ among) has)

  module _ (whole : options.affected ≡ false) where
    -- it mentions all that it names
    mentions-all : (done : List ℕ) (nodes : List Node) (edge : ℕ) → AreThere done nodes → IsNext done edge
        → mention_edge options nodes (edge_in g edge)
        ≡ fold mention nodes (mentioned_by options (edge_in g edge))
    mentions-all done nodes edge there next =
        let made = made-there done nodes edge there next in
        let among = first-passes (λ e. is_among (outputs_of e) made.0) (edge_at [] 0) (edges_of g) edge made.2
        in
        let any = any-made nodes made.0 (outputs_of (edge_at (edges_of g) edge)) among made.1 in
        rw (whole, any) refl

    next-there : (done : List ℕ) (nodes : List Node) (edge : ℕ) → AreThere done nodes → IsNext done edge
        → length (input_files (edge_in g edge)) ≤ unwrap_or options.inputs 12
        → AreThere (done ++ edge ∷ []) (mention_edge options nodes (edge_in g edge))
    next-there done nodes edge there next few =
        subst (AreThere (done ++ edge ∷ [])) (sym (mentions-all done nodes edge there next)) (record {
          given = λ path in_files. has-still (node_at path) mentions nodes (there.given path in_files);
          edges = λ e in_done. by-edge e (in-pushed done edge e in_done);
          inputs = λ e in_done path input. by-input e path input (in-pushed done edge e in_done);
        })
      where
        mentions : List Node
        mentions = mentioned_by options (edge_in g edge)

        by-edge : (e : ℕ) → In done e ⊎ (edge ≡ e)
            → has_node (fold mention nodes (mentioned_by options (edge_in g edge))) (of_edge (edge_in g e))
            ≡ true
        by-edge e (inl before) = has-still (of_edge (edge_in g e)) (mentioned_by options (edge_in g edge))
            nodes (there.edges e before)
        by-edge e (inr last) = has-all (of_edge (edge_in g e)) (mentioned_by options (edge_in g edge)) nodes
            (inl (ap (λ n. of_edge (edge_in g n)) last))

        by-input : (e : ℕ) (path : List ℕ) → In (inputs_at e) path → In done e ⊎ (edge ≡ e)
            → has_node (fold mention nodes (mentioned_by options (edge_in g edge))) (node_at path) ≡ true
        by-input e path input (inl before) =
            has-still (node_at path) (mentioned_by options (edge_in g edge)) nodes
            (there.inputs e before path input)
        by-input e path input (inr last) =
            has-all (node_at path) (mentioned_by options (edge_in g edge)) nodes
            (inr (in-map (node_of options.fold)
            (output_files (edge_in g edge) ++ take (unwrap_or options.inputs 12)
            (input_files (edge_in g edge)))
            (file_in g path)
            (in-right (output_files (edge_in g edge))
            (take (unwrap_or options.inputs 12) (input_files (edge_in g edge)))
            (file_in g path)
            (subst (λ fs. In fs (file_in g path))
            (sym (take_all (unwrap_or options.inputs 12) (input_files (edge_in g edge)) few))
            (in-map (file_in g) (inputs_at edge) path
            (subst (λ n. In (inputs_at n) path) (sym last) input))))))

    -- edge after edge
    all-there : (done rest : List ℕ) (nodes : List Node) → AreThere done nodes
        → ((k : ℕ) → k < length rest → IsNext (done ++ take k rest) (slice_index rest k))
        → ((edge : ℕ) → In rest edge → length (input_files (edge_in g edge)) ≤ unwrap_or options.inputs 12)
        → AreThere (done ++ rest) (fold (mention_edge options) nodes (edges_in g rest))
    all-there done [] nodes there next few = subst (λ d. AreThere d nodes) (sym (append-nil done)) there
    all-there done (edge ∷ rest) nodes there next few =
        subst (λ d. AreThere d (fold (mention_edge options) (mention_edge options nodes (edge_in g edge))
        (edges_in g rest)))
        (append_assoc done (edge ∷ []) rest)
        (all-there (done ++ edge ∷ []) rest (mention_edge options nodes (edge_in g edge))
        (next-there done nodes edge there
        (subst (λ d. IsNext d edge) (append-nil done) (next 0 (omega arith))) (few edge (inl refl)))
        (λ k below. subst (λ d. IsNext d (slice_index rest k))
        (sym (append_assoc done (edge ∷ []) (take k rest)))
        (next (suc k) (omega (arith, below))))
        (λ e there. few e (inr there)))

-- ---- nearest first

module _ (edges : List EdgePaths) (files : List (List ℕ)) where
  step-on : (m f e : ℕ) → IsOrNeeds edges m f → Needs (makers_of_inputs edges) f e → IsOrNeeds edges m e
  step-on m f e (inl is) step = inr (one (subst (λ x. Needs (makers_of_inputs edges) x e) (sym is) step))
  step-on m f e (inr chain) step = inr (chain_push (Needs (makers_of_inputs edges)) m f e chain step)

  needed-in : (n e : ℕ) → IsNeededIn edges files n e → IsNeeded edges files e
  needed-in zero e makes = (e, makes, inl refl)
  needed-in (suc n) e (f, reached, step) = let before = needed-in n f reached in
      (before.0, before.1, step-on before.0 f e before.2 step)

module _ (g : GraphModel) (options : DrawModel) (files : List (List ℕ)) (found : List GraphEdge)
    (lists : ListsNeeded g files found) where
  abbrev numbers : List ℕ
  numbers = lists.numbers

  before : (i k : ℕ) → lists.nearest_first.distance (slice_index numbers i) ≡ suc k
      → (e : ℕ) (has : Contains numbers e)
      → lists.nearest_first.distance e ≤ k
      → ((leb i has.0 ≡ true) × (i ≤ has.0)) ⊎ ((leb i has.0 ≡ false) × (has.0 < i)) → In (take i numbers) e
  before i k same e has short (inr less) = in-take numbers e i has.0 less.1 has.1 has.2
  before i k same e has short (inl more) =
      let rises = lists.nearest_first.rises i has.0 more.1 has.1 in
      let at : slice_index numbers has.0 ≡ e = sym (get_or_default_zero numbers has.0 e has.1) ∙ has.2 in
      let far = ap lists.nearest_first.distance at in
      absurd (omega (arith, rises, far, same, short))

  near : (i : ℕ) → i < length numbers → IsNext g options files (take i numbers) (slice_index numbers i)
  near i below =
      let is = lists.nearest_first.of_each (slice_index numbers i) (Contains-get_or numbers i 0 below) in
      by (slice_index numbers i) refl (lists.nearest_first.distance (slice_index numbers i)) refl is.chain
    where
      by : (n : ℕ) → n ≡ slice_index numbers i → (d : ℕ)
          → lists.nearest_first.distance (slice_index numbers i) ≡ d
          → IsNeededIn (edges_of g) files d n → IsNext g options files (take i numbers) n
      by n at zero same makes = inl (in-mapped (maker_of (edges_of g)) files (Some n)
          (in-from _ (Some n) makes))
      by n at (suc k) same (e, reached, needs) =
          let has = (lists.needed e).1 (needed-in (edges_of g) files k e reached) in
          let path = in-mapped (maker_of (edges_of g)) (inputs_of (edge_at (edges_of g) e)) (Some n)
          (in-from _ (Some n) needs) in
          let short = (lists.nearest_first.of_each e has).shortest k reached in
          inr (e, before i k same e has short (leb_tells i has.0), path.0, path.1, path.2)

  module _ (whole : options.affected ≡ false)
      (few : (edge : GraphEdge) → Contains found edge
      → length (input_files edge) ≤ unwrap_or options.inputs 12) where
    started : AreThere g options files [] (fold mention [] (map (node_of options.fold) (files_in g files)))
    started = record {
      given = λ path there. has-all (node_of options.fold (file_in g path))
          (map (node_of options.fold) (files_in g files)) []
          (in-map (node_of options.fold) (files_in g files) (file_in g path)
          (in-map (file_in g) files path there));
      edges = λ edge there. absurd there;
      inputs = λ edge there path input. absurd there;
    }

    ended : AreThere g options files numbers (mentioned options (files_in g files) (edges_in g numbers))
    ended = all-there g options files whole [] numbers
        (fold mention [] (map (node_of options.fold) (files_in g files)))
        started near
        (λ edge there. few (edge_in g edge) (subst (λ es. Contains es (edge_in g edge)) (sym lists.found_are)
        (in-contains (edges_in g numbers) (edge_in g edge) (in-map (edge_in g) numbers edge there))))

    pub needed-there : (edge : ℕ) → IsNeeded (edges_of g) files edge
        → has_node (mentioned options (files_in g files) found) (of_edge (edge_in g edge)) ≡ true
    needed-there edge is =
        subst (λ es. has_node (mentioned options (files_in g files) es) (of_edge (edge_in g edge)) ≡ true)
        (sym lists.found_are) (ended.edges edge (in-from numbers edge ((lists.needed edge).1 is)))

pub needed-drawn : NeededAreDrawn
needed-drawn known options files edges whole lists few limit edge is =
    subst (λ nodes. has_node nodes (of_edge (edge_in known.graph edge)) ≡ true) (sym limit)
    (needed-there known.graph options files edges
    (by options.affected edges whole (subst (λ b. ListsEdges known files b edges) (sym whole) lists))
    whole few edge is)
  where
    by : (b : Bool) (es : List GraphEdge) → b ≡ false → ListsEdges known files b es
        → ListsNeeded known.graph files es
    by b es not (needed lists) = lists
    by b es not (touched all are rises) = absurd (true≢false not)
