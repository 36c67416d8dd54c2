-- Two answers of `why`.
use Rattle.std.proofs.Common.{◌≡◌, ◌<◌, ◌⊎◌, inl, inr, ℕ, ◌-◌, Bool, not, ◌&&◌, Option, Some}
use Rattle.std.proofs.Common.{None}
use Rattle.std.proofs.Common.{Result, Ok, Err, List, [], ◌∷◌, ◌++◌, length, refl, sym, ap, subst, ◌∙◌, arith}
use Rattle.std.specs.Prelude.{nat_lt, slice_get, codes}
use Rattle.std.proofs.lemmas.Option.{same_Some}
use Rattle.nj_scope.specs.ReadingList.{ReadStatement}
use Rattle.nj_graph.specs.declared.ChainKinds.{ChainKinds}
use Rattle.nj_graph.specs.declared.GraphFault.{GraphFault}
use Rattle.nj_graph.specs.declared.Kind.{Kind}
use Rattle.nj_graph.specs.declared.Step.{Step}
use Rattle.nj_graph.specs.Built.{detail_at}
use Rattle.nj_graph.specs.Chains.{IsChain, IsNotAfter, Lead, inputs_with, kind_with}
use Rattle.nj_graph.specs.Edges.{EdgePaths, edge_at}
use Rattle.nj_graph.specs.Files.{path_at}
use Rattle.nj_graph.specs.Graph.{GraphModel, edges_of, files_of, rule_name}
use Rattle.nj_graph.specs.Targets.{picked}
use Rattle.nj_tools.specs.declared.EdgeDiscovery.{EdgeDiscovery}
use Rattle.nj_questions.specs.Questions.{WhyModel}
use Rattle.nj_ask.specs.declared.discovered.DiscoveredGraph.{DiscoveredGraph}
use Rattle.nj_ask.specs.declared.status.Status.TheVariants.{Fault}
use Rattle.nj_ask.specs.Answers.{AnswersWhy, HasDepfileFault, IsClear, kinds_asked, needed_from}
use Rattle.nj_ask.specs.Answers.AnswersWhy.{no_start, no_end, no_depfile, chain, no_chain}
use Rattle.nj_ask.specs.Chains.{HasChain, LacksChain, chain_line, chain_lines, is_discovered, is_implicit}
use Rattle.nj_ask.specs.Chains.{kind_end, place_text}
use Rattle.nj_ask.specs.Endings.{Ending, fault_line, refused}
use Rattle.nj_one_answer.specs.Answers.{OneWhyAnswer}
use Rattle.nj_one_answer.proofs.NeededFaults.{clear-or-fault, fault-lines-agree}

-- ---- chains

discovered-same : (o : Option EdgeDiscovery) (e : EdgePaths) (one other : Step) → one.kind ≡ other.kind
    → one.index ≡ other.index → is_discovered o e one ≡ is_discovered o e other
discovered-same None e one other kind index = refl
discovered-same (Some d) e one other kind index =
    ap (λ k. is_implicit k && not (nat_lt (one.index - length e.explicit_inputs) d.stated_inputs)) kind
    ∙ ap (λ i. is_implicit other.kind && not (nat_lt (i - length e.explicit_inputs) d.stated_inputs)) index

-- steps that are not after each other begin by one input
same-index : (i j : ℕ) (A B : Type 0) → (i < j) ⊎ ((i ≡ j) × A) → (j < i) ⊎ ((j ≡ i) × B) → (i ≡ j) × A × B
same-index i j A B (inl below) (inl above) = absurd (omega (arith, below, above))
same-index i j A B (inl below) (inr (same, b)) = absurd (omega (arith, below, same))
same-index i j A B (inr (same, a)) (inl above) = absurd (omega (arith, above, same))
same-index i j A B (inr (same, a)) (inr (same2, b)) = (same, a, b)

module _ (g : GraphModel) (discoveries : List EdgeDiscovery) (kinds : ChainKinds) where
  -- the line of a step, by its edge, its file's path and its input
  line_by : (from : List ℕ) (edge : ℕ) (path : List ℕ) (kind : Option Kind) (is : Bool) → List ℕ
  line_by from edge path kind is =
      let detail = detail_at g.built.details edge in
      place_text detail.file detail.spot.line detail.spot.column ++ rule_name g.declarations.rules detail.rule
      ++ codes ": "
      ++ from ++ codes " needs " ++ path ++ kind_end kind is

  line-is : (from : List ℕ) (step : Step) → chain_line g discoveries from step
      ≡ line_by from step.edge.0 (path_at (files_of g) step.file) step.kind
      (is_discovered (slice_get discoveries step.edge.0) (edge_at (edges_of g) step.edge.0) step)
  unfolding line_by
  line-is from step = refl

  lines-agree : (from : List ℕ) (steps others : List Step) (to : List ℕ)
      → Lead g.built.graph kinds from steps to → Lead g.built.graph kinds from others to
      → length steps ≡ length others → IsNotAfter steps others → IsNotAfter others steps
      → chain_lines g discoveries from steps ≡ chain_lines g discoveries from others
  lines-agree from [] [] to is also count first second = refl
  lines-agree from [] (o ∷ os) to is also count first second = absurd (omega (arith, count))
  lines-agree from (s ∷ ss) [] to is also count first second = absurd (omega (arith, count))
  lines-agree from (s ∷ ss) (o ∷ os) to (maker, is, later) (maker2, also, later2) count first second =
      let both = same-index s.index o.index (IsNotAfter ss os) (IsNotAfter os ss) first second in
      let index : s.index ≡ o.index = both.0 in
      let edge : s.edge.0 ≡ o.edge.0 = same_Some s.edge.0 o.edge.0 (sym maker ∙ maker2) in
      let path : path_at (files_of g) s.file ≡ path_at (files_of g) o.file =
      same_Some (path_at (files_of g) s.file) (path_at (files_of g) o.file)
      (sym is.input
      ∙ ap (λ e. slice_get (inputs_with kinds (edge_at (edges_of g) e)) s.index) edge
      ∙ ap (slice_get (inputs_with kinds (edge_at (edges_of g) o.edge.0))) index ∙ also.input) in
      let kind : s.kind ≡ o.kind =
      is.kind ∙ ap (λ e. kind_with kinds (edge_at (edges_of g) e) s.index) edge
      ∙ ap (kind_with kinds (edge_at (edges_of g) o.edge.0)) index ∙ sym also.kind in
      let found : is_discovered (slice_get discoveries s.edge.0) (edge_at (edges_of g) s.edge.0) s
      ≡ is_discovered (slice_get discoveries o.edge.0) (edge_at (edges_of g) o.edge.0) o =
      ap (λ e. is_discovered (slice_get discoveries e) (edge_at (edges_of g) e) s) edge
      ∙ discovered-same (slice_get discoveries o.edge.0) (edge_at (edges_of g) o.edge.0) s o kind index in
      let here : chain_line g discoveries from s ≡ chain_line g discoveries from o =
      line-is from s
      ∙ ap (λ e. line_by from e (path_at (files_of g) s.file) s.kind
      (is_discovered (slice_get discoveries s.edge.0) (edge_at (edges_of g) s.edge.0) s)) edge
      ∙ ap (λ p. line_by from o.edge.0 p s.kind
      (is_discovered (slice_get discoveries s.edge.0) (edge_at (edges_of g) s.edge.0) s)) path
      ∙ ap (λ k. line_by from o.edge.0 (path_at (files_of g) o.file) k
      (is_discovered (slice_get discoveries s.edge.0) (edge_at (edges_of g) s.edge.0) s)) kind
      ∙ ap (line_by from o.edge.0 (path_at (files_of g) o.file) o.kind) found ∙ sym (line-is from o) in
      let after : Lead g.built.graph kinds (path_at (files_of g) s.file) os to =
      subst (λ p. Lead g.built.graph kinds p os to) (sym path) later2 in
      ap (λ l. l ++ chain_lines g discoveries (path_at (files_of g) s.file) ss) here
      ∙ ap (λ ls. chain_line g discoveries from o ++ ls)
      (lines-agree (path_at (files_of g) s.file) ss os to later after (omega (arith, count)) both.1 both.2)
      ∙ ap (λ p. chain_line g discoveries from o ++ chain_lines g discoveries p os) path

  leads : (from : List ℕ) (steps : List Step) (to : List ℕ) → IsChain g.built.graph kinds from steps to
      → Lead g.built.graph kinds from steps to
  leads from [] to is = absurd is
  leads from (step ∷ steps) to is = is

  chains-agree : (from to text other : List ℕ) → HasChain g discoveries kinds from to text
      → HasChain g discoveries kinds from to other → text ≡ other
  chains-agree from to text other is also =
      let low = is.shortest.shortest also.steps also.shortest.chain in
      let high = also.shortest.shortest is.steps is.shortest.chain in
      let count : length is.steps ≡ length also.steps = omega (arith, low, high) in
      is.lines
      ∙ lines-agree from is.steps also.steps to (leads from is.steps to is.shortest.chain)
      (leads from also.steps to also.shortest.chain) count
      (is.shortest.leftmost also.steps also.shortest.chain (sym count))
      (also.shortest.leftmost is.steps is.shortest.chain count) ∙ sym also.lines

  chain-or-none : (from to text : List ℕ) → HasChain g discoveries kinds from to text
      → LacksChain g kinds from to → ⊥
  chain-or-none from to text is (inl same) = absurd (is.others same)
  chain-or-none from to text is (inr none) = absurd (none is.steps is.shortest.chain)

-- ---- results

value_of : {X E : Type 0} → Result X E → X → X
value_of (Ok x) other = x
value_of (Err fault) other = other

fault_of : {X E : Type 0} → Result X E → E → E
fault_of (Ok x) other = other
fault_of (Err fault) other = fault

pub ok-or-err : {X E : Type 0} (r : Result X E) (x : X) (fault : E) → r ≡ Ok x → r ≡ Err fault → ⊥
ok-or-err r x fault is bad = let both : Ok x ≡ Err fault = sym is ∙ bad in absurd cc

pub same-ok : {X E : Type 0} (r : Result X E) (x y : X) → r ≡ Ok x → r ≡ Ok y → x ≡ y
unfolding value_of
same-ok r x y is also = ap (λ q. value_of q x) (sym is ∙ also)

pub same-err : {X E : Type 0} (r : Result X E) (e f : E) → r ≡ Err e → r ≡ Err f → e ≡ f
unfolding fault_of
same-err r e f is also = ap (λ q. fault_of q e) (sym is ∙ also)

-- ---- answers

module _ (known : DiscoveredGraph) (entries : List ReadStatement) (options : WhyModel) where
  abbrev start_at : Result (List ℕ) GraphFault
  start_at = picked (edges_of known.graph) options.start

  abbrev end_at : Result (List ℕ) GraphFault
  end_at = picked (edges_of known.graph) options.end

  abbrev starts : (start : List ℕ) → List (List ℕ)
  starts start = needed_from known.graph options.validations start

  -- both begin at one file, and end at one
  same-ends : (a b c d : List ℕ) → start_at ≡ Ok a → end_at ≡ Ok b → start_at ≡ Ok c → end_at ≡ Ok d
      → (a ≡ c) × (b ≡ d)
  same-ends a b c d from to from2 to2 = (same-ok start_at a c from from2, same-ok end_at b d to to2)

  faults-agree : (a c l m : List ℕ) → a ≡ c → HasDepfileFault known (starts a) l
      → HasDepfileFault known (starts c) m → l ≡ m
  faults-agree a c l m same has has2 =
      fault-lines-agree known (starts c) l m (subst (λ s. HasDepfileFault known (starts s) l) same has) has2

  unclear : (a c l : List ℕ) → a ≡ c → IsClear known (starts a) → HasDepfileFault known (starts c) l → ⊥
  unclear a c l same clear has =
      clear-or-fault known (starts c) l (subst (λ s. IsClear known (starts s)) same clear) has

  abbrev Has : (a b t : List ℕ) → Type 0
  Has a b t = HasChain known.graph known.discoveries.items (kinds_asked options) a b t

  moved : (a b c d t : List ℕ) → (a ≡ c) × (b ≡ d) → Has a b t → Has c d t
  moved a b c d t (same, same2) has =
      subst (λ to. Has c to t) same2 (subst (λ from. Has from b t) same has)

  texts-agree : (a b c d t u : List ℕ) → (a ≡ c) × (b ≡ d) → Has a b t → Has c d u → t ≡ u
  texts-agree a b c d t u same has has2 =
      chains-agree known.graph known.discoveries.items (kinds_asked options) c d t u
      (moved a b c d t same has)
      has2

  unlinked : (a b c d t : List ℕ) → (a ≡ c) × (b ≡ d) → Has a b t
      → LacksChain known.graph (kinds_asked options) c d → ⊥
  unlinked a b c d t same has none =
      chain-or-none known.graph known.discoveries.items (kinds_asked options) c d t (moved a b c d t same has)
      none

  back : (a b c d : List ℕ) → (a ≡ c) × (b ≡ d) → (c ≡ a) × (d ≡ b)
  back a b c d (same, same2) = (sym same, sym same2)

  pub answers-agree : (output other : List ℕ) (ending end : Ending)
      → AnswersWhy known entries options output ending → AnswersWhy known entries options other end
      → (output ≡ other) × (ending ≡ end)
  answers-agree _ _ _ _ (no_start {fault = e} is) (no_start {fault = f} also) =
      (refl, ap (λ fault. refused (fault_line fault) Fault) (same-err start_at e f is also))
  answers-agree _ _ _ _ (no_start {fault = e1} bad1)
      (no_end {start = a2} {fault = f2} from2 bad2) =
      absurd (ok-or-err start_at a2 e1 from2 bad1)
  answers-agree _ _ _ _ (no_start {fault = e1} bad1)
      (no_depfile {start = a2} {end = b2} {line = l2} from2 to2 has2) =
      absurd (ok-or-err start_at a2 e1 from2 bad1)
  answers-agree _ _ _ _ (no_start {fault = e1} bad1)
      (chain {start = a2} {end = b2} {lines = t2} from2 to2 clear2 is2) =
      absurd (ok-or-err start_at a2 e1 from2 bad1)
  answers-agree _ _ _ _ (no_start {fault = e1} bad1)
      (no_chain {start = a2} {end = b2} from2 to2 clear2 none2) =
      absurd (ok-or-err start_at a2 e1 from2 bad1)
  answers-agree _ _ _ _ (no_end {start = a1} {fault = f1} from1 bad1)
      (no_start {fault = e2} bad2) =
      absurd (ok-or-err start_at a1 e2 from1 bad2)
  answers-agree _ _ _ _ (no_end {start = a1} {fault = f1} from1 bad1)
      (no_end {start = a2} {fault = f2} from2 bad2) =
      (refl, ap (λ fault. refused (fault_line fault) Fault) (same-err end_at f1 f2 bad1 bad2))
  answers-agree _ _ _ _ (no_end {start = a1} {fault = f1} from1 bad1)
      (no_depfile {start = a2} {end = b2} {line = l2} from2 to2 has2) =
      absurd (ok-or-err end_at b2 f1 to2 bad1)
  answers-agree _ _ _ _ (no_end {start = a1} {fault = f1} from1 bad1)
      (chain {start = a2} {end = b2} {lines = t2} from2 to2 clear2 is2) =
      absurd (ok-or-err end_at b2 f1 to2 bad1)
  answers-agree _ _ _ _ (no_end {start = a1} {fault = f1} from1 bad1)
      (no_chain {start = a2} {end = b2} from2 to2 clear2 none2) =
      absurd (ok-or-err end_at b2 f1 to2 bad1)
  answers-agree _ _ _ _ (no_depfile {start = a1} {end = b1} {line = l1} from1 to1 has1)
      (no_start {fault = e2} bad2) =
      absurd (ok-or-err start_at a1 e2 from1 bad2)
  answers-agree _ _ _ _ (no_depfile {start = a1} {end = b1} {line = l1} from1 to1 has1)
      (no_end {start = a2} {fault = f2} from2 bad2) =
      absurd (ok-or-err end_at b1 f2 to1 bad2)
  answers-agree _ _ _ _ (no_depfile {start = a1} {end = b1} {line = l1} from1 to1 has1)
      (no_depfile {start = a2} {end = b2} {line = l2} from2 to2 has2) =
      let same = same-ends a1 b1 a2 b2 from1 to1 from2 to2 in
      (refl, ap (λ line. refused line Fault) (faults-agree a1 a2 l1 l2 same.0 has1 has2))
  answers-agree _ _ _ _ (no_depfile {start = a1} {end = b1} {line = l1} from1 to1 has1)
      (chain {start = a2} {end = b2} {lines = t2} from2 to2 clear2 is2) =
      let same = same-ends a1 b1 a2 b2 from1 to1 from2 to2
      in absurd (unclear a2 a1 l1 (sym same.0) clear2 has1)
  answers-agree _ _ _ _ (no_depfile {start = a1} {end = b1} {line = l1} from1 to1 has1)
      (no_chain {start = a2} {end = b2} from2 to2 clear2 none2) =
      let same = same-ends a1 b1 a2 b2 from1 to1 from2 to2
      in absurd (unclear a2 a1 l1 (sym same.0) clear2 has1)
  answers-agree _ _ _ _ (chain {start = a1} {end = b1} {lines = t1} from1 to1 clear1 is1)
      (no_start {fault = e2} bad2) =
      absurd (ok-or-err start_at a1 e2 from1 bad2)
  answers-agree _ _ _ _ (chain {start = a1} {end = b1} {lines = t1} from1 to1 clear1 is1)
      (no_end {start = a2} {fault = f2} from2 bad2) =
      absurd (ok-or-err end_at b1 f2 to1 bad2)
  answers-agree _ _ _ _ (chain {start = a1} {end = b1} {lines = t1} from1 to1 clear1 is1)
      (no_depfile {start = a2} {end = b2} {line = l2} from2 to2 has2) =
      let same = same-ends a1 b1 a2 b2 from1 to1 from2 to2 in absurd (unclear a1 a2 l2 same.0 clear1 has2)
  answers-agree _ _ _ _ (chain {start = a1} {end = b1} {lines = t1} from1 to1 clear1 is1)
      (chain {start = a2} {end = b2} {lines = t2} from2 to2 clear2 is2) =
      (texts-agree a1 b1 a2 b2 t1 t2 (same-ends a1 b1 a2 b2 from1 to1 from2 to2) is1 is2, refl)
  answers-agree _ _ _ _ (chain {start = a1} {end = b1} {lines = t1} from1 to1 clear1 is1)
      (no_chain {start = a2} {end = b2} from2 to2 clear2 none2) =
      absurd (unlinked a1 b1 a2 b2 t1 (same-ends a1 b1 a2 b2 from1 to1 from2 to2) is1 none2)
  answers-agree _ _ _ _ (no_chain {start = a1} {end = b1} from1 to1 clear1 none1)
      (no_start {fault = e2} bad2) =
      absurd (ok-or-err start_at a1 e2 from1 bad2)
  answers-agree _ _ _ _ (no_chain {start = a1} {end = b1} from1 to1 clear1 none1)
      (no_end {start = a2} {fault = f2} from2 bad2) =
      absurd (ok-or-err end_at b1 f2 to1 bad2)
  answers-agree _ _ _ _ (no_chain {start = a1} {end = b1} from1 to1 clear1 none1)
      (no_depfile {start = a2} {end = b2} {line = l2} from2 to2 has2) =
      let same = same-ends a1 b1 a2 b2 from1 to1 from2 to2 in absurd (unclear a1 a2 l2 same.0 clear1 has2)
  answers-agree _ _ _ _ (no_chain {start = a1} {end = b1} from1 to1 clear1 none1)
      (chain {start = a2} {end = b2} {lines = t2} from2 to2 clear2 is2) =
      let same = back a1 b1 a2 b2 (same-ends a1 b1 a2 b2 from1 to1 from2 to2)
      in absurd (unlinked a2 b2 a1 b1 t2 same is2 none1)
  answers-agree _ _ _ _ (no_chain {start = a1} {end = b1} from1 to1 clear1 none1)
      (no_chain {start = a2} {end = b2} from2 to2 clear2 none2) =
      (refl, refl)

pub one-why-answer : OneWhyAnswer
one-why-answer known entries options = answers-agree known entries options
