-- Lemmas on files that are added to the edges of a graph.
use Rattle.std.proofs.lemmas.Grind.{common_steps}
use Rattle.std.proofs.Common.{◌≡◌, ◌<◌, ◌||◌, ℕ, zero, suc, Bool, true, false, cond, List, [], ◌∷◌, ◌++◌, map}
use Rattle.std.proofs.Common.{length, take, drop, slice_get, get_or, set, replicate, Option, Some, None}
use Rattle.std.proofs.Common.{Result, Ok, Err, is_some, option_map, unwrap_or, refl, sym, ap, subst, ◌∙◌}
use Rattle.std.proofs.Common.{true≢false, arith, length-append, length-drop}
use Rattle.std.specs.Prelude.{IfOk, OnOk, OnErr}
use Rattle.std.specs.List.{AllByRecursion, list_any}
use Rattle.std.proofs.Math.Bool.{or_assoc}
use Rattle.std.proofs.Math.Seq.{drop-length, take-length}
use Rattle.std.proofs.lemmas.List.{append-nil, drop-append-le, length-replicate, length-set, map-set}
use Rattle.std.proofs.lemmas.List.{take-append-drop, take-append-le}
use Rattle.std.proofs.lemmas.List.Folds.{list_any-append}
use Rattle.std.proofs.lemmas.Option.{slice_get-map}
use Rattle.nj_names.proofs.ListLemmas.{slice_range-rest}
use Rattle.nj_edges.proofs.EdgeLemmas.{all-of, some-in}
use Rattle.nj_edges.specs.declared.edges.Span.{Span}
use Rattle.nj_edges.specs.declared.joined_edges.AddedSpans.{AddedSpans}
use Rattle.nj_edges.specs.Edges.{EdgePaths, is_among, is_named, maker_of, names, outputs_of, inputs_of}
use Rattle.nj_edges.specs.EdgeGraphs.{EdgeGraph}
use Rattle.nj_edges.specs.EdgeTables.{EdgeTable, OpenEdge, is_made, is_named_so_far, no_files, with_input}
use Rattle.nj_edges.specs.EdgeTables.{with_output}
use Rattle.nj_edges.specs.Inside.EdgesHeld.{IsWithin, within}
use Rattle.nj_edges.specs.Inside.JoiningHeld.{ArePartsOf, added_at, JoinIsHeld, input_spans, join_held}
use Rattle.nj_edges.specs.Inside.JoiningHeld.{joined_by, joined_edge, output_spans, spans_of}
use Rattle.nj_edges.specs.Joining.{AddedFiles, JoinTable, changed_at, is_made_so_far, join_of, none_added}
use Rattle.nj_edges.specs.Joining.{with_added, with_added_input, with_added_output, with_joined}

-- ---- lists

any-same : {X : Type 0} (P : X → Type 0) (f g : X → Bool) → ((x : X) → P x → f x ≡ g x) → (xs : List X)
    → AllByRecursion P xs → list_any f xs ≡ list_any g xs
any-same P f g same [] all = refl
any-same P f g same (x ∷ xs) all = let here = same x all.0 in let more = any-same P f g same xs all.1 in cc

-- an element that fails gives way to another
any-set : {X : Type 0} (f : X → Bool) (xs : List X) (i : ℕ) (x y : X) → slice_get xs i ≡ Some x → f x ≡ false
    → list_any f (set xs i y) ≡ (list_any f xs || f y)
any-set f [] i x y here fails = absurd (true≢false (sym (ap is_some here)))
any-set f (z ∷ xs) zero x y here fails = grind (arith, common_steps)
any-set f (z ∷ xs) (suc i) x y here fails = grind (arith, common_steps, (any-set f xs i x y here fails))

all-set : {X : Type 0} (P Q : X → Type 0) → ((x : X) → P x → Q x) → (xs : List X) (i : ℕ) (y : X)
    → AllByRecursion P xs → Q y → AllByRecursion Q (set xs i y)
all-set P Q step [] i y all one = tt
all-set P Q step (x ∷ xs) zero y all one = (one, all-of P Q step xs all.1)
all-set P Q step (x ∷ xs) (suc i) y all one = (step x all.0, all-set P Q step xs i y all.1 one)

pub get-map : {X Y : Type 0} (f : X → Y) (xs : List X) (i : ℕ) (x : X) → slice_get xs i ≡ Some x
    → slice_get (map f xs) i ≡ Some (f x)
get-map f xs i x h = slice_get-map f xs i ∙ ap (option_map f) h

-- ---- parts of a list

abbrev nowhere : Span
nowhere = record { start = 0; end = 0 }

no-parts : (count : ℕ) → ArePartsOf [] 0 (replicate count nowhere)
no-parts count = record { ends = omega arith; spans_within = inside count; whole = none count }
  where
    inside : (n : ℕ) → AllByRecursion (λ span. IsWithin span 0) (replicate n nowhere)
    inside zero = tt
    inside (suc n) = (record { rises = omega arith; ends = omega arith }, inside n)

    none : (n : ℕ) (path : List ℕ) → list_any (λ span. is_among (within [] span) path) (replicate n nowhere)
        ≡ false
    none zero path = refl
    none (suc n) path = none n path

module _ (paths : List (List ℕ)) (end : ℕ) (spans : List Span) (parts : ArePartsOf paths end spans) where
  same-part : (more : List (List ℕ)) (span : Span) → IsWithin span end
      → within (paths ++ more) span ≡ within paths span
  same-part more span inside = grind (arith, common_steps)

  parts-more : (path : List ℕ) → ArePartsOf (paths ++ path ∷ []) end spans
  parts-more path =
      let ends = parts.ends in
      record {
        ends = simp length-append (omega arith);
        spans_within = parts.spans_within;
        whole = λ p. any-same (λ span. IsWithin span end)
            (λ span. is_among (within (paths ++ path ∷ []) span) p) (λ span. is_among (within paths span) p)
            (λ span inside. ap (λ ps. is_among ps p) (same-part (path ∷ []) span inside)) spans
            parts.spans_within
            ∙ parts.whole p ∙ ap (λ ps. is_among ps p) (sym
            (take-append-le end paths (path ∷ []) parts.ends));
      }

  -- the rest of the list is a part in place of an empty one
  parts-ended : (edge : ℕ) → slice_get spans edge ≡ Some nowhere
      → ArePartsOf paths (length paths) (set spans edge (record { start = end; end = length paths }))
  parts-ended edge here =
      let rest : Span = record { start = end; end = length paths } in
      record {
        ends = omega arith;
        spans_within = all-set (λ span. IsWithin span end) (λ span. IsWithin span (length paths))
            (λ span inside. let ends = parts.ends in let below = inside.ends in record {
              rises = inside.rises;
              ends = omega arith;
            }) spans edge rest parts.spans_within
            (record { rises = parts.ends; ends = omega arith });
        whole = λ p. any-set (λ span. is_among (within paths span) p) spans edge nowhere rest here refl
            ∙ ap (λ b. b || is_among (within paths rest) p) (parts.whole p)
            ∙ ap (λ ps. is_among (take end paths) p || is_among ps p) (slice_range-rest paths end parts.ends)
            ∙ sym (list_any-append _ (take end paths) (drop end paths))
            ∙ ap (λ ps. is_among ps p) (take-append-drop end paths ∙ sym (take-length paths));
      }

-- ---- edges with additions

or-cross : (a x p q : Bool) → ((a || x) || (p || q)) ≡ ((a || p) || (x || q))
or-cross true x p q = refl
or-cross false true true q = refl
or-cross false true false q = refl
or-cross false false p q = refl

-- where an edge passes a test, or its additions do
any-joined : (all : OpenEdge) (f : EdgePaths → Bool) (g : AddedSpans → Bool)
    → ((spans : AddedSpans) (e : EdgePaths) → f (joined_edge all spans e) ≡ (f e || g spans))
    → (edges : List EdgePaths) (added : List (Option AddedSpans)) → length added ≡ length edges
    → list_any f (joined_by all edges added) ≡ (list_any f edges || list_any
    (λ found. g (spans_of found)) added)
any-joined all f g each [] [] count = refl
any-joined all f g each [] (found ∷ added) count = absurd (omega arith)
any-joined all f g each (e ∷ edges) [] count = absurd (omega arith)
any-joined all f g each (e ∷ edges) (found ∷ added) count =
    grind (arith, common_steps, (any-joined all f g each edges added (omega arith)))

any-map : {X Y : Type 0} (f : Y → Bool) (h : X → Y) (xs : List X)
    → list_any (λ x. f (h x)) xs ≡ list_any f (map h xs)
any-map f h [] = refl
any-map f h (x ∷ xs) = ap (λ b. f (h x) || b) (any-map f h xs)

any-or : {X : Type 0} (f g : X → Bool) (xs : List X) → list_any (λ x. f x || g x) xs
    ≡ (list_any f xs || list_any g xs)
any-or f g [] = refl
any-or f g (x ∷ xs) = grind (arith, common_steps, (any-or f g xs))

module _ (all : OpenEdge) (path : List ℕ) where
  outputs-joined : (spans : AddedSpans) (e : EdgePaths) → is_among (outputs_of (joined_edge all spans e)) path
      ≡ (is_among (outputs_of e) path || is_among (within all.outputs spans.outputs) path)
  outputs-joined spans e = grind (arith, common_steps)

  inputs-joined : (spans : AddedSpans) (e : EdgePaths) → is_among (inputs_of (joined_edge all spans e)) path
      ≡ (is_among (inputs_of e) path || is_among (within all.inputs spans.inputs) path)
  inputs-joined spans e = grind (arith, common_steps)

  names-joined : (spans : AddedSpans) (e : EdgePaths) → names (joined_edge all spans e) path
      ≡ (names e path || (is_among (within all.outputs spans.outputs) path || is_among
      (within all.inputs spans.inputs) path))
  names-joined spans e = grind (arith, common_steps)

nothing-joined : (all : OpenEdge) (e : EdgePaths) → joined_edge all (spans_of None) e ≡ e
nothing-joined all e = rw (append-nil e.implicit_outputs, append-nil e.implicit_inputs) refl

-- ---- the table

-- an edge of the table that was not joined
not-joined : (added : List (Option AddedSpans)) (edge : ℕ) → edge < length added
    → get_or (map (λ (o : Option AddedSpans). is_some o) added) edge false ≡ false
    → slice_get added edge ≡ Some None
not-joined [] edge below h = absurd (omega arith)
not-joined (None ∷ added) zero below h = refl
not-joined (Some spans ∷ added) zero below h = absurd (true≢false h)
not-joined (found ∷ added) (suc edge) below h = not-joined added edge (omega arith) h

module _ (t : EdgeTable) (added : List (Option AddedSpans)) (open_outputs open_inputs : ℕ)
    (held : JoinIsHeld t added open_outputs open_inputs) where
  abbrev Held : EdgeTable → Type 0
  Held u = JoinIsHeld u added open_outputs open_inputs

  abbrev table : EdgeTable → JoinTable
  table u = join_held u added open_outputs open_inputs

  outputs-stay : (path : List ℕ) (edges : List EdgePaths) (found : List (Option AddedSpans))
      → AllByRecursion (λ span. IsWithin span open_outputs) (output_spans found)
      → joined_by (record t.«open» { outputs = t.«open».outputs ++ path ∷ [] }) edges found
      ≡ joined_by t.«open» edges found
  outputs-stay path [] found inside = refl
  outputs-stay path (e ∷ edges) [] inside = refl
  outputs-stay path (e ∷ edges) (one ∷ found) inside =
      grind (arith, common_steps, (outputs-stay path edges found inside.1))

  inputs-stay : (path : List ℕ) (edges : List EdgePaths) (found : List (Option AddedSpans))
      → AllByRecursion (λ span. IsWithin span open_inputs) (input_spans found)
      → joined_by (record t.«open» { inputs = t.«open».inputs ++ path ∷ [] }) edges found
      ≡ joined_by t.«open» edges found
  inputs-stay path [] found inside = refl
  inputs-stay path (e ∷ edges) [] inside = refl
  inputs-stay path (e ∷ edges) (one ∷ found) inside =
      grind (arith, common_steps, (inputs-stay path edges found inside.1))

  with-output : (path : List ℕ) → Held (with_output t path)
  with-output path = grind (arith, common_steps, parts-more)

  with-input : (path : List ℕ) → Held (with_input t path)
  with-input path = grind (arith, common_steps, parts-more)

  table-output : (path : List ℕ) → table (with_output t path) ≡ with_added_output (table t) path
  table-output path = grind (arith, drop-append-le, outputs-stay)

  table-input : (path : List ℕ) → table (with_input t path) ≡ with_added_input (table t) path
  table-input path = grind (arith, drop-append-le, inputs-stay)

  -- ---- after a call that adds a file

  module _ {E : Type 0} (new : EdgeTable) (path : List ℕ) where
    pub output-held : (r : Result Bool E) → IfOk r (λ is_new. new ≡ cond is_new (with_output t path) t)
        → OnErr r (new ≡ t) → Held new
    output-held (Ok true) ok err = subst Held (sym ok) (with-output path)
    output-held (Ok false) ok err = subst Held (sym ok) held
    output-held (Err e) ok err = subst Held (sym err) held

    pub output-table : (u : JoinTable) → table t ≡ u → (r : Result Bool E)
        → IfOk r (λ is_new. new ≡ cond is_new (with_output t path) t)
        → IfOk r (λ is_new. table new ≡ cond is_new (with_added_output u path) u)
    output-table u is (Ok true) ok = ap table ok ∙ table-output path ∙ ap (λ v. with_added_output v path) is
    output-table u is (Ok false) ok = ap table ok ∙ is
    output-table u is (Err e) ok = tt

    pub input-held : {A : Type 0} (r : Result A E) → OnOk r (new ≡ with_input t path) → OnErr r (new ≡ t)
        → Held new
    input-held (Ok a) ok err = subst Held (sym ok) (with-input path)
    input-held (Err e) ok err = subst Held (sym err) held

    pub input-table : (u : JoinTable) → table t ≡ u → {A : Type 0} (r : Result A E)
        → OnOk r (new ≡ with_input t path) → OnOk r (table new ≡ with_added_input u path)
    input-table u is (Ok a) ok = ap table ok ∙ table-input path ∙ ap (λ v. with_added_input v path) is
    input-table u is (Err e) ok = tt

  -- which files are made, and which are named

  any-outputs : (path : List ℕ) → list_any (λ e. is_among (outputs_of e) path)
      (joined_by t.«open» t.edges added) ≡ (list_any (λ e. is_among (outputs_of e) path) t.edges || is_among
      (take open_outputs t.«open».outputs) path)
  any-outputs path =
      any-joined t.«open» (λ e. is_among (outputs_of e) path)
      (λ spans. is_among (within t.«open».outputs spans.outputs) path)
      (outputs-joined t.«open» path) t.edges added held.count
      ∙ ap (λ b. list_any (λ e. is_among (outputs_of e) path) t.edges || b)
      (any-map (λ span. is_among (within t.«open».outputs span) path)
      (λ found. (spans_of found).outputs) added ∙ held.outputs.whole path)

  pub made-so-far : (path : List ℕ) → is_made t path ≡ is_made_so_far (table t) path
  made-so-far path =
      let outs = t.«open».outputs in
      ap (λ b. is_some (maker_of t.edges path) || b)
      (ap (λ ps. is_among ps path) (sym (take-append-drop open_outputs outs))
      ∙ list_any-append _ (take open_outputs outs) (drop open_outputs outs))
      ∙ sym (or_assoc (is_some (maker_of t.edges path)) (is_among (take open_outputs outs) path)
      (is_among (drop open_outputs outs) path))
      ∙ ap (λ b. (b || is_among (take open_outputs outs) path) || is_among (drop open_outputs outs) path)
      (some-in (λ e. is_among (outputs_of e) path) t.edges)
      ∙ ap (λ b. b || is_among (drop open_outputs outs) path)
      (sym (some-in (λ e. is_among (outputs_of e) path) (joined_by t.«open» t.edges added)
      ∙ any-outputs path))

  pub named-joined : open_outputs ≡ length t.«open».outputs → open_inputs ≡ length t.«open».inputs
      → (path : List ℕ) → is_named_so_far t path ≡ is_named (joined_by t.«open» t.edges added) path
  named-joined all-outputs all-inputs path =
      let go : Span → Bool = λ span. is_among (within t.«open».outputs span) path in
      let gi : Span → Bool = λ span. is_among (within t.«open».inputs span) path in
      let o : list_any (λ found. go (spans_of found).outputs) added ≡ is_among t.«open».outputs path =
      any-map go (λ found. (spans_of found).outputs) added ∙ held.outputs.whole path
      ∙ ap (λ n. is_among (take n t.«open».outputs) path) all-outputs
      ∙ ap (λ ps. is_among ps path) (take-length t.«open».outputs) in
      let i : list_any (λ found. gi (spans_of found).inputs) added ≡ is_among t.«open».inputs path =
      any-map gi (λ found. (spans_of found).inputs) added ∙ held.inputs.whole path
      ∙ ap (λ n. is_among (take n t.«open».inputs) path) all-inputs
      ∙ ap (λ ps. is_among ps path) (take-length t.«open».inputs) in
      sym (any-joined t.«open» (λ e. names e path) (λ spans. go spans.outputs || gi spans.inputs)
      (names-joined t.«open» path) t.edges added held.count
      ∙ ap (λ b. is_named t.edges path || b) (any-or (λ found. go (spans_of found).outputs)
      (λ found. gi (spans_of found).inputs) added)
      ∙ ap (λ b. is_named t.edges path || (b || list_any (λ found. gi (spans_of found).inputs) added)) o
      ∙ ap (λ b. is_named t.edges path || (is_among t.«open».outputs path || b)) i
      ∙ shuffle (is_named t.edges path) (is_among t.«open».outputs path) (is_among t.«open».inputs path)
      ∙ ap (λ ps. is_named t.edges path || (is_among t.«open».outputs path || is_among t.«open».inputs path ||
      is_among ps path)) (sym held.validations))
    where
      shuffle : (a b c : Bool) → (a || (b || c)) ≡ (a || (b || c || false))
      shuffle true b c = refl
      shuffle false true c = refl
      shuffle false false true = refl
      shuffle false false false = refl

  -- where no file is collected, all were added
  pub all-added : (u : JoinTable) → table t ≡ u → u.«open» ≡ none_added
      → JoinIsHeld t added (length t.«open».outputs) (length t.«open».inputs)
  all-added u is none =
      let empty : (table t).«open» ≡ none_added = ap (λ (v : JoinTable). v.«open») is ∙ none in
      let o : length (drop open_outputs t.«open».outputs)
      ≡ 0 = ap (λ (a : AddedFiles). length a.outputs) empty in
      let i : length (drop open_inputs t.«open».inputs) ≡ 0 = ap
      (λ (a : AddedFiles). length a.inputs) empty in
      let os = length-drop open_outputs t.«open».outputs in let is' = length-drop open_inputs
      t.«open».inputs in
      let ends = held.outputs.ends in let ends' = held.inputs.ends in
      subst (λ n. JoinIsHeld t added n (length t.«open».inputs)) (omega arith)
      (subst (JoinIsHeld t added open_outputs) (omega arith) held)

  -- ---- the collected files are added to an edge

  module _ (u : JoinTable) (is : table t ≡ u) (edge : ℕ) (known : edge < length u.stated)
      (first : get_or u.was_joined edge false ≡ false) where
    here : slice_get added edge ≡ Some None
    here =
        let count : length added ≡ length u.stated = held.count
        ∙ ap (λ (v : JoinTable). length v.stated) is in
        not-joined added edge (omega arith) (ap (λ (v : JoinTable). get_or v.was_joined edge false) is
        ∙ first)

    abbrev rest : AddedSpans
    rest = record {
      outputs = record { start = open_outputs; end = length t.«open».outputs };
      inputs = record { start = open_inputs; end = length t.«open».inputs };
    }

    pub ended-held : JoinIsHeld t (set added edge (Some rest)) (length t.«open».outputs)
        (length t.«open».inputs)
    ended-held = record {
      count = length-set added edge (Some rest) ∙ held.count;
      outputs = subst (ArePartsOf t.«open».outputs (length t.«open».outputs))
          (sym (map-set (λ found. (spans_of found).outputs) added edge (Some rest)))
          (parts-ended t.«open».outputs open_outputs (output_spans added) held.outputs edge
          (get-map (λ found. (spans_of found).outputs) added edge None here));
      inputs = subst (ArePartsOf t.«open».inputs (length t.«open».inputs))
          (sym (map-set (λ found. (spans_of found).inputs) added edge (Some rest)))
          (parts-ended t.«open».inputs open_inputs (input_spans added) held.inputs edge
          (get-map (λ found. (spans_of found).inputs) added edge None here));
      validations = held.validations;
    }

    joined-changed : (edges : List EdgePaths) (found : List (Option AddedSpans)) (n : ℕ)
        → slice_get found n ≡ Some None
        → joined_by t.«open» edges (set found n (Some rest))
        ≡ changed_at (with_added (added_at t.«open» rest)) n (joined_by t.«open» edges found)
    unfolding changed_at
    joined-changed [] found n none = refl
    joined-changed (e ∷ edges) [] n none = absurd (true≢false (sym (ap is_some none)))
    joined-changed (e ∷ edges) (one ∷ found) zero none =
        let is : one ≡ None = ap (λ o. unwrap_or o one) none in
        ap (λ x. joined_edge t.«open» rest x ∷ joined_by t.«open» edges found)
        (sym (ap (λ o. joined_edge t.«open» (spans_of o) e) is ∙ nothing-joined t.«open» e))
    joined-changed (e ∷ edges) (one ∷ found) (suc n) none = ap
        (λ xs. joined_edge t.«open» (spans_of one) e ∷ xs) (joined-changed edges found n none)

    was-changed : (found : List (Option AddedSpans)) (n : ℕ)
        → map (λ (o : Option AddedSpans). is_some o) (set found n (Some rest))
        ≡ changed_at (λ was. true) n (map (λ (o : Option AddedSpans). is_some o) found)
    unfolding changed_at
    was-changed [] n = refl
    was-changed (one ∷ found) zero = refl
    was-changed (one ∷ found) (suc n) = ap (λ xs. is_some one ∷ xs) (was-changed found n)

    pub ended-table : join_held t (set added edge (Some rest)) (length t.«open».outputs)
        (length t.«open».inputs) ≡ with_joined u edge
    ended-table =
        let joined = joined-changed t.edges added edge here in
        let was = was-changed added edge in
        let next = (table t).«open» in
        let same : added_at t.«open» rest ≡ next = rw (
          slice_range-rest t.«open».outputs open_outputs
              held.outputs.ends,
          slice_range-rest t.«open».inputs open_inputs held.inputs.ends,
        ) refl in
        let changed = joined ∙ ap (λ a. changed_at (with_added a) edge (joined_by t.«open» t.edges added))
        same in
        rw (changed, was, drop-length t.«open».outputs, drop-length t.«open».inputs)
        (ap (λ v. with_joined v edge) is)

-- ---- before anything is added

map-same : {X Y : Type 0} (f : X → Y) (count : ℕ) (x : X) → map f (replicate count x) ≡ replicate count (f x)
map-same f zero x = refl
map-same f (suc count) x = ap (λ ys. f x ∷ ys) (map-same f count x)

module _ (g : EdgeGraph) (count : ℕ) (as-many : count ≡ length g.edges) where
  abbrev start : EdgeTable
  start = record { files = g.files; edges = g.edges; «open» = no_files }

  abbrev nothing : List (Option AddedSpans)
  nothing = replicate count None

  pub start-held : JoinIsHeld start nothing 0 0
  start-held = grind (arith, length-replicate, map-same, no-parts)

  pub start-table : join_held start nothing 0 0 ≡ join_of g
  start-table =
      let edges = unjoined g.edges in let was = unmarked g.edges in
      ap (λ n. join_held start (replicate n None) 0 0) as-many ∙ rw (edges, was) refl
    where
      unjoined : (edges : List EdgePaths) → joined_by no_files edges (replicate (length edges) None) ≡ edges
      unjoined [] = refl
      unjoined (e ∷ edges) = let first = nothing-joined no_files e in let more = unjoined edges in rw
          (first, more) refl

      unmarked : (edges : List EdgePaths) → map (λ (o : Option AddedSpans). is_some o)
          (replicate (length edges) None) ≡ map (λ e. false) edges
      unmarked [] = refl
      unmarked (e ∷ edges) = ap (λ xs. false ∷ xs) (unmarked edges)
