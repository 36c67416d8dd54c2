-- Nodes that are mentioned where there are as many as a limit allows.
use Rattle.std.proofs.Common.{◌≡◌, ◌∙◌, ℕ, Bool, true, false, cond, Option, Some, None, List, [], ◌∷◌, ◌++◌}
use Rattle.std.proofs.Common.{length, take, refl, sym, ap, append-nil, append_assoc}
use Rattle.std.specs.Prelude.{nat_lt, not}
use Rattle.std.specs.List.{fold}
use Rattle.std.proofs.lemmas.Bool.{ltb-false}
use Rattle.std.proofs.lemmas.List.{take-append-le}
use Rattle.nj_graph.specs.Handles.{GraphEdge}
use Rattle.nj_questions.specs.Questions.{DrawModel}
use Rattle.nj_ask.specs.DrawnNodes.{Node, has_node, mention, mention_edge, mentioned_by, up_to}
use Rattle.nj_ask.specs.Inside.NodeLists.{is_full}

-- more nodes come after the given ones
abbrev Extends : (old new : List Node) → Type 0
Extends old new = (more : List Node) × (new ≡ old ++ more)

extends-none : (nodes : List Node) → Extends nodes nodes
extends-none nodes = ([], sym (append-nil nodes))

extends-twice : (one two three : List Node) → Extends one two → Extends two three → Extends one three
extends-twice one two three first then =
    (first.0 ++ then.0, then.1 ∙ ap (λ ns. ns ++ then.0) first.1 ∙ append_assoc one first.0 then.0)

extends-mention : (nodes : List Node) (node : Node) → Extends nodes (mention nodes node)
extends-mention nodes node = by (has_node nodes node)
  where
    by : (b : Bool) → Extends nodes (cond b nodes (nodes ++ node ∷ []))
    by true = extends-none nodes
    by false = (node ∷ [], refl)

extends-fold : {A : Type 0} (f : List Node → A → List Node)
    → ((nodes : List Node) (a : A) → Extends nodes (f nodes a))
    → (items : List A) (nodes : List Node) → Extends nodes (fold f nodes items)
extends-fold f extends [] nodes = extends-none nodes
extends-fold f extends (x ∷ xs) nodes =
    extends-twice nodes (f nodes x) (fold f (f nodes x) xs) (extends nodes x)
    (extends-fold f extends xs (f nodes x))

extends-edge : (options : DrawModel) (nodes : List Node) (edge : GraphEdge)
    → Extends nodes (mention_edge options nodes edge)
extends-edge options nodes edge = by _
  where
    by : (b : Bool) → Extends nodes (cond b (fold mention nodes (mentioned_by options edge)) nodes)
    by true = extends-fold mention extends-mention (mentioned_by options edge) nodes
    by false = extends-none nodes

-- then edges do not change the drawn nodes
full-stays : (options : DrawModel) (edges : List GraphEdge) (nodes : List Node) (limit : Option ℕ)
    → is_full limit nodes ≡ true → up_to limit (fold (mention_edge options) nodes edges) ≡ up_to limit nodes
full-stays options edges nodes None full = absurd cc
full-stays options edges nodes (Some limit) full =
    let more = extends-fold (mention_edge options) (extends-edge options) edges nodes in
    ap (take limit) more.1
    ∙ take-append-le limit nodes more.0 (ltb-false (length nodes) limit
    (unless (nat_lt (length nodes) limit) full))
  where
    unless : (b : Bool) → not b ≡ true → b ≡ false
    unless true passes = absurd cc
    unless false passes = refl

pub full-skips : (options : DrawModel) (edge : GraphEdge) (edges : List GraphEdge) (nodes : List Node)
    (limit : Option ℕ)
    → is_full limit nodes ≡ true
    → up_to limit (fold (mention_edge options) nodes edges)
    ≡ up_to limit (fold (mention_edge options) nodes (edge ∷ edges))
full-skips options edge edges nodes limit full =
    full-stays options edges nodes limit full ∙ sym (full-stays options (edge ∷ edges) nodes limit full)
