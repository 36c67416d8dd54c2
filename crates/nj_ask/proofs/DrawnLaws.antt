-- That nodes are drawn once, that there are no more of them than the limit, and that arrows lead between
-- them.
use Rattle.std.proofs.Common.{◌≡◌, ◌∙◌, ◌⊎◌, inl, inr, ℕ, zero, suc, ◌≤◌, ◌==◌, Bool, true, false, ◌||◌, ◌&&◌}
use Rattle.std.proofs.Common.{cond}
use Rattle.std.proofs.Common.{Option, Some, None, List, [], ◌∷◌, ◌++◌, All, length, map, take, refl, sym, ap}
use Rattle.std.proofs.Common.{subst, arith}
use Rattle.std.specs.Prelude.{Contains, not}
use Rattle.std.specs.Fmt.{decimal}
use Rattle.std.specs.Prelude.{codes}
use Rattle.std.specs.List.{AllByRecursion, IsDistinct, fold}
use Rattle.std.proofs.lemmas.Bool.Decides.{eqb_tells}
use Rattle.std.proofs.lemmas.List.{length-take}
use Rattle.std.proofs.lemmas.List.Elements.{All-cons, All-nil, Contains-append_left, Contains-append_right}
use Rattle.std.proofs.lemmas.List.Elements.{Contains-push}
use Rattle.nj_graph.specs.Handles.{GraphEdge, number_of}
use Rattle.nj_questions.specs.Questions.{DrawModel}
use Rattle.nj_ask.specs.DrawnNodes.{Node, of_edge, of_file, has_node, mention, mention_edge, mentioned}
use Rattle.nj_ask.specs.DrawnNodes.{mentioned_by, node_of, up_to}
use Rattle.nj_ask.specs.Drawings.{End, drawn_ends, node_name}
use Rattle.nj_ask.specs.DrawingLaws.{EndsAreDrawn, NodesAreDistinct, NodesAreLimited, is_same}

-- ---- nodes that are the same

pub has-nil : (node : Node) → has_node [] node ≡ false
has-nil (of_edge edge) = refl
has-nil (of_file file) = refl

pub has-cons : (n : Node) (nodes : List Node) (node : Node)
    → has_node (n ∷ nodes) node ≡ (is_same node n || has_node nodes node)
has-cons n nodes (of_edge edge) = refl
has-cons n nodes (of_file file) = refl

eqb-turned : (a b : ℕ) → (a == b) ≡ (b == a)
eqb-turned a b = by (eqb_tells a b) (eqb_tells b a)
  where
    by : ((a == b) ≡ true × (a ≡ b)) ⊎ ((a == b) ≡ false × ¬ (a ≡ b))
        → ((b == a) ≡ true × (b ≡ a)) ⊎ ((b == a) ≡ false × ¬ (b ≡ a)) → (a == b) ≡ (b == a)
    by (inl one) (inl other) = one.0 ∙ sym other.0
    by (inl one) (inr other) = absurd (other.1 (sym one.1))
    by (inr one) (inl other) = absurd (one.1 (sym other.1))
    by (inr one) (inr other) = one.0 ∙ sym other.0

same-turned : (a b : Node) → is_same a b ≡ is_same b a
same-turned (of_edge a) (of_edge b) = eqb-turned a.number b.number
same-turned (of_edge a) (of_file b) = refl
same-turned (of_file a) (of_edge b) = refl
same-turned (of_file a) (of_file b) = eqb-turned (number_of a) (number_of b)

same-names : (a b : Node) → is_same a b ≡ true → node_name b ≡ node_name a
same-names (of_edge a) (of_edge b) is = by (eqb_tells a.number b.number)
  where
    by : ((a.number == b.number) ≡ true × (a.number ≡ b.number))
        ⊎ ((a.number == b.number) ≡ false × ¬ (a.number ≡ b.number))
        → node_name (of_edge b) ≡ node_name (of_edge a)
    by (inl same) = ap (λ n. codes "e" ++ decimal n) (sym same.1)
    by (inr other) = absurd cc
same-names (of_edge a) (of_file b) is = absurd cc
same-names (of_file a) (of_edge b) is = absurd cc
same-names (of_file a) (of_file b) is = by (eqb_tells (number_of a) (number_of b))
  where
    by : ((number_of a == number_of b) ≡ true × (number_of a ≡ number_of b))
        ⊎ ((number_of a == number_of b) ≡ false × ¬ (number_of a ≡ number_of b))
        → node_name (of_file b) ≡ node_name (of_file a)
    by (inl same) = ap (λ n. codes "f" ++ decimal n) (sym same.1)
    by (inr other) = absurd cc

-- ---- without duplicates

all-push : {X : Type 0} (P : X → Type 0) (xs : List X) (x : X) → AllByRecursion P xs → P x
    → AllByRecursion P (xs ++ x ∷ [])
all-push P [] x all here = (here, tt)
all-push P (y ∷ ys) x all here = (all.0, all-push P ys x all.1 here)

all-take : {X : Type 0} (P : X → Type 0) (n : ℕ) (xs : List X) → AllByRecursion P xs
    → AllByRecursion P (take n xs)
all-take P zero xs all = tt
all-take P (suc n) [] all = tt
all-take P (suc n) (x ∷ xs) all = (all.0, all-take P n xs all.1)

distinct-push : (nodes : List Node) (node : Node) → IsDistinct is_same nodes → has_node nodes node ≡ false
    → IsDistinct is_same (nodes ++ node ∷ [])
unfolding IsDistinct
distinct-push [] node distinct none = (tt, tt)
distinct-push (n ∷ ns) node distinct none =
    let both : (is_same node n || has_node ns node) ≡ false = sym (has-cons n ns node) ∙ none in
    let parts = apart (is_same node n) (has_node ns node) both in (
      all-push (λ m. is_same n m ≡ false) ns node distinct.0 (same-turned n node ∙ parts.0),
      distinct-push ns node distinct.1 parts.1,
    )
  where
    apart : (a b : Bool) → (a || b) ≡ false → (a ≡ false) × (b ≡ false)
    apart false b is = (refl, is)
    apart true b is = absurd cc

distinct-take : (n : ℕ) (nodes : List Node) → IsDistinct is_same nodes → IsDistinct is_same (take n nodes)
unfolding IsDistinct
distinct-take zero nodes distinct = tt
distinct-take (suc n) [] distinct = tt
distinct-take (suc n) (x ∷ xs) distinct =
    (all-take (λ m. is_same x m ≡ false) n xs distinct.0, distinct-take n xs distinct.1)

distinct-none : IsDistinct is_same []
unfolding IsDistinct
distinct-none = tt

pub fold-keeps : {A B : Type 0} (P : B → Type 0) (f : B → A → B) → ((b : B) (a : A) → P b → P (f b a))
    → (xs : List A) (b : B) → P b → P (fold f b xs)
fold-keeps P f keeps [] b holds = holds
fold-keeps P f keeps (x ∷ xs) b holds = fold-keeps P f keeps xs (f b x) (keeps b x holds)

distinct-mention : (nodes : List Node) (node : Node) → IsDistinct is_same nodes
    → IsDistinct is_same (mention nodes node)
distinct-mention nodes node distinct = by (has_node nodes node) refl
  where
    by : (b : Bool) → has_node nodes node ≡ b
        → IsDistinct is_same (cond (has_node nodes node) nodes (nodes ++ node ∷ []))
    by true is = subst (λ b. IsDistinct is_same (cond b nodes (nodes ++ node ∷ []))) (sym is) distinct
    by false is = subst (λ b. IsDistinct is_same (cond b nodes (nodes ++ node ∷ []))) (sym is)
        (distinct-push nodes node distinct is)

distinct-mentions : (more nodes : List Node) → IsDistinct is_same nodes
    → IsDistinct is_same (fold mention nodes more)
distinct-mentions more nodes distinct =
    fold-keeps (IsDistinct is_same) mention distinct-mention more nodes distinct

distinct-edge : (options : DrawModel) (nodes : List Node) (edge : GraphEdge) → IsDistinct is_same nodes
    → IsDistinct is_same (mention_edge options nodes edge)
distinct-edge options nodes edge distinct = by _
  where
    by : (b : Bool) → IsDistinct is_same (cond b (fold mention nodes (mentioned_by options edge)) nodes)
    by true = distinct-mentions (mentioned_by options edge) nodes distinct
    by false = distinct

pub nodes-distinct : NodesAreDistinct
nodes-distinct options files edges = by options.limit
  where
    all : IsDistinct is_same (mentioned options files edges)
    all = fold-keeps (IsDistinct is_same) (mention_edge options) (distinct-edge options) edges
        (fold mention [] (map (node_of options.fold) files))
        (distinct-mentions (map (node_of options.fold) files) [] distinct-none)

    by : (limit : Option ℕ) → IsDistinct is_same (up_to limit (mentioned options files edges))
    by (Some limit) = distinct-take limit (mentioned options files edges) all
    by None = all

-- ---- no more than the limit

pub nodes-limited : NodesAreLimited
nodes-limited options files edges limit is =
    subst (λ o. length (up_to o (mentioned options files edges)) ≤ limit) (sym is)
    (let taken = length-take limit (mentioned options files edges) in omega (arith, taken))

-- ---- between nodes

named : (nodes : List Node) (node : Node) → has_node nodes node ≡ true
    → (other : Node) × Contains nodes other × (node_name other ≡ node_name node)
named [] node has = absurd (let none = has-nil node in cc)
named (n ∷ ns) node has = by (named ns node) (is_same node n) refl
  where
    by : (has_node ns node ≡ true → (other : Node) × Contains ns other × (node_name other ≡ node_name node))
        → (b : Bool) → is_same node n ≡ b → (other : Node) × Contains (n ∷ ns) other
        × (node_name other ≡ node_name node)
    by later true is = (n, Contains-append_left (n ∷ []) ns n (Contains-push [] n), same-names node n is)
    by later false is =
        let rest = later (sym (ap (λ b. b || has_node ns node) is) ∙ sym (has-cons n ns node) ∙ has) in
        (rest.0, Contains-append_right (n ∷ []) ns rest.0 rest.1, rest.2)

abbrev IsNamed : (nodes : List Node) → End → Type 0
IsNamed nodes end = (node : Node) × Contains nodes node × (node_name node ≡ node_name end.node)

pub ends-drawn : EndsAreDrawn
ends-drawn nodes others [] = All-nil _
ends-drawn nodes others (end ∷ ends) =
    by (ends-drawn nodes (others ++ end.node ∷ []) ends) (ends-drawn nodes others ends)
    (has_node nodes end.node) (has_node others end.node) refl refl
  where
    by : All (IsNamed nodes) (drawn_ends nodes (others ++ end.node ∷ []) ends)
        → All (IsNamed nodes) (drawn_ends nodes others ends)
        → (b d : Bool) → has_node nodes end.node ≡ b → has_node others end.node ≡ d
        → All (IsNamed nodes) (cond (has_node nodes end.node && not (has_node others end.node))
        (end ∷ drawn_ends nodes (others ++ end.node ∷ []) ends) (drawn_ends nodes others ends))
    by first later true false is other = rw (is, other) (All-cons (IsNamed nodes) end
        (drawn_ends nodes (others ++ end.node ∷ []) ends) (named nodes end.node is) first)
    by first later true true is other = rw (is, other) later
    by first later false d is other = rw is later
