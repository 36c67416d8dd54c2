-- The same log again changes nothing.
use Rattle.std.proofs.lemmas.Grind.{common_steps}
use Rattle.std.proofs.Common.{◌≡◌, ◌≤◌, ◌+◌, ◌||◌, ◌⊎◌, inl, inr, ℕ, zero, suc, Bool, true, false, not, cond}
use Rattle.std.proofs.Common.{if◌then◌else◌, List, [], ◌∷◌, ◌++◌, length, slice_get, None, option_map}
use Rattle.std.proofs.Common.{unwrap_or, bytes_eq, position, refl, sym, ap, ◌∙◌, arith, append-nil}
use Rattle.std.specs.Prelude.{codes, filter, option_and_then}
use Rattle.std.specs.List.{AllZip}
use Rattle.std.proofs.Math.Bool.{or-true}
use Rattle.std.proofs.lemmas.List.{length-map}
use Rattle.std.proofs.lemmas.Option.{slice_get_past}
use Rattle.std.proofs.lemmas.Slice.Eq.{bytes_eq-Decides}
use Rattle.nj_manifest.specs.Statements.{StatementModel, BindingModel, RuleModel, PoolModel, BuildModel}
use Rattle.nj_manifest.specs.Statements.{DefaultModel, IncludeModel, SubninjaModel}
use Rattle.nj_text.specs.Calls.{is_empty}
use Rattle.nj_scope.specs.ReadingList.{ReadStatement}
use Rattle.nj_deps.specs.Logs.{LogModel}
use Rattle.nj_edges.specs.Edges.{EdgePaths, counted_inputs_of, edge_at, first_output, is_among}
use Rattle.nj_edges.specs.Joining.{with_added}
use Rattle.nj_edges.specs.MoreInputs.{new_inputs, with_inputs_added}
use Rattle.nj_edges.specs.Repeats.{each_once}
use Rattle.nj_edge_env.specs.LateStrings.{LateNames, asked_text}
use Rattle.nj_statements.specs.EdgeList.{EdgeModel, edges_read, names_of_edge, paths_of_edges}
use Rattle.nj_statements.specs.Logged.{and_inputs, inputs_named, with_inputs_named}
use Rattle.nj_statements.proofs.DiscoverEdges.{SameEdge}
use Rattle.nj_statements.proofs.DiscoverLemmas.{names_of_edge-same}
use Rattle.nj_statements.proofs.LoggedLemmas.{as_read-named, paths-named, same-edges}
use Rattle.nj_graph.specs.DepsLogs.{SameLogChangesNothing, has_deps, inputs_logged, number_logged, with_log}
use Rattle.nj_graph.proofs.InputLemmas.{among-kept, among-once, news}
use Rattle.nj_graph.proofs.LogLemmas.{logged}

-- ---- where nothing is named, nothing changes

none-item : (named : ℕ → List (List ℕ)) → ((edge : ℕ) → named edge ≡ [])
    → (before : List ReadStatement) (item : StatementModel) → inputs_named named before item ≡ []
none-item named none before (BuildModel outputs rule inputs lines) = none (length (edges_read before))
none-item named none before (BindingModel bound word) = refl
none-item named none before (RuleModel name lines) = refl
none-item named none before (PoolModel name lines) = refl
none-item named none before (DefaultModel words) = refl
none-item named none before (IncludeModel word) = refl
none-item named none before (SubninjaModel word) = refl

none-named : (named : ℕ → List (List ℕ)) → ((edge : ℕ) → named edge ≡ []) → (entries : List ReadStatement)
    → with_inputs_named named entries ≡ entries
unfolding with_inputs_named
none-named named none [] = refl
none-named named none (e ∷ before) =
    ap (λ ins. record e { discovered = and_inputs e.discovered ins } ∷ with_inputs_named named before)
    (none-item named none before e.item)
    ∙ ap (λ es. e ∷ es) (none-named named none before)

-- ---- the values of `deps` and the first outputs stay

late-same : (f g : EdgeModel → List ℕ) (k : ℕ) (edges others : List EdgeModel) → AllZip SameEdge edges others
    → ((e : EdgeModel) (outs ins : List (List ℕ))
    → g (record e { paths = record e.paths { implicit_outputs = outs; implicit_inputs = ins } }) ≡ f e)
    → unwrap_or (option_map g (slice_get others k)) [] ≡ unwrap_or (option_map f (slice_get edges k)) []
late-same f g k [] [] same is = refl
late-same f g k [] (o ∷ others) same is = absurd same
late-same f g k (e ∷ edges) [] same is = absurd same
late-same f g zero (e ∷ edges) (o ∷ others) same is =
    ap g same.0 ∙ is e o.paths.implicit_outputs o.paths.implicit_inputs
late-same f g (suc k) (e ∷ edges) (o ∷ others) same is = late-same f g k edges others same.1 is

added-at : (named : ℕ → List (List ℕ)) (n k : ℕ) (edges : List EdgePaths)
    → (edge_at (with_inputs_added named n edges) k
    ≡ with_added (record { outputs = []; inputs = named (n + k) }) (edge_at edges k))
    ⊎ ((edge_at (with_inputs_added named n edges) k ≡ edge_at edges k) × (length edges ≤ k))
added-at named n k [] = inr (refl, omega arith)
added-at named n zero (e ∷ edges) = inl
    (ap (λ m. with_added (record { outputs = []; inputs = named m }) e)
    (let z : n ≡ n + 0 = omega arith in z))
added-at named n (suc k) (e ∷ edges) = by (added-at named (n + 1) k edges)
  where
    by : (edge_at (with_inputs_added named (n + 1) edges) k
        ≡ with_added (record { outputs = []; inputs = named (n + 1 + k) }) (edge_at edges k))
        ⊎ ((edge_at (with_inputs_added named (n + 1) edges) k ≡ edge_at edges k) × (length edges ≤ k))
        → (edge_at (with_inputs_added named (n + 1) edges) k
        ≡ with_added (record { outputs = []; inputs = named (n + suc k) }) (edge_at edges k))
        ⊎ ((edge_at (with_inputs_added named (n + 1) edges) k ≡ edge_at edges k)
        × (suc (length edges) ≤ suc k))
    by (inl is) = inl (is ∙ ap (λ m. with_added (record { outputs = []; inputs = named m }) (edge_at edges k))
        (let z : n + 1 + k ≡ n + suc k = omega arith in z))
    by (inr (is, past)) = inr (is, omega (arith, past))

-- ---- a path is new only once

none-kept : (keeps : List ℕ → Bool) (paths : List (List ℕ))
    → ((p : List ℕ) → is_among paths p ≡ true → keeps p ≡ false) → filter keeps paths ≡ []
none-kept keeps [] none = refl
none-kept keeps (p ∷ paths) none =
    ap (λ b. cond b (p ∷ filter keeps paths) (filter keeps paths))
    (none p (ap (λ b. b || is_among paths p) ((bytes_eq-Decides p p).1 refl)))
    ∙ none-kept keeps paths (λ q among. none q (ap (λ b. bytes_eq q p || b) among ∙ or-true (bytes_eq q p)))

module _ (e : EdgePaths) (paths : List (List ℕ)) where
  abbrev again : EdgePaths
  again = with_added (record { outputs = []; inputs = new_inputs e paths }) e

  among-parts : (p : List ℕ) → is_among (counted_inputs_of again) p
      ≡ (is_among (counted_inputs_of e) p || is_among (new_inputs e paths) p)
  among-parts p = grind (arith, common_steps)

  pub none-new : new_inputs again paths ≡ []
  none-new = none-kept (λ p. not (is_among (counted_inputs_of again) p)) (each_once bytes_eq paths)
      (λ p among. ap not (among-parts p ∙ by p (sym (among-once paths p) ∙ among)
      (is_among (counted_inputs_of e) p) refl))
    where
      by : (p : List ℕ) → is_among paths p ≡ true → (there : Bool) → is_among (counted_inputs_of e) p ≡ there
          → (is_among (counted_inputs_of e) p || is_among (new_inputs e paths) p) ≡ true
      by p among true is = ap (λ b. b || is_among (new_inputs e paths) p) is
      by p among false is =
          ap (λ b. is_among (counted_inputs_of e) p || b)
          (among-kept (λ q. not (is_among (counted_inputs_of e) q)) (each_once bytes_eq paths) p
          (ap not is) ∙ among-once paths p ∙ among)
          ∙ or-true (is_among (counted_inputs_of e) p)

-- ---- the same log

module _ (log : LogModel) (stated : List ReadStatement) where
  abbrev others : List ReadStatement
  others = with_log log stated

  abbrev all : List EdgePaths
  all = paths_of_edges (edges_read stated)

  deps-same : (k : ℕ) → has_deps others k ≡ has_deps stated k
  deps-same k = ap (λ text. not (is_empty text))
      (late-same (λ e. asked_text (names_of_edge stated e) (codes "deps"))
      (λ e. asked_text (names_of_edge others e) (codes "deps")) k (edges_read stated) (edges_read others)
      (same-edges (news (logged log stated) stated) stated)
      (λ e outs ins. ap (λ (n : LateNames). asked_text n (codes "deps"))
      (names_of_edge-same stated others (as_read-named (news (logged log stated) stated) stated)
      (record e { paths = record e.paths { implicit_outputs = outs; implicit_inputs = ins } }))))

  edge-at : (k : ℕ) → (edge_at (paths_of_edges (edges_read others)) k
      ≡ with_added (record { outputs = []; inputs = news (logged log stated) stated k }) (edge_at all k))
      ⊎ ((edge_at (paths_of_edges (edges_read others)) k ≡ edge_at all k) × (length all ≤ k))
  edge-at k = by (added-at (news (logged log stated) stated) 0 k all)
    where
      is : edge_at (paths_of_edges (edges_read others)) k
          ≡ edge_at (with_inputs_added (news (logged log stated) stated) 0 all) k
      is = ap (λ es. edge_at es k) (paths-named (news (logged log stated) stated) stated)

      by : (edge_at (with_inputs_added (news (logged log stated) stated) 0 all) k
          ≡ with_added (record { outputs = []; inputs = news (logged log stated) stated (0 + k) })
          (edge_at all k)) ⊎ ((edge_at (with_inputs_added (news (logged log stated) stated) 0 all) k
          ≡ edge_at all k) × (length all ≤ k))
          → (edge_at (paths_of_edges (edges_read others)) k
          ≡ with_added (record { outputs = []; inputs = news (logged log stated) stated k }) (edge_at all k))
          ⊎ ((edge_at (paths_of_edges (edges_read others)) k ≡ edge_at all k) × (length all ≤ k))
      by (inl added) = inl (is ∙ added ∙ ap
          (λ m. with_added (record { outputs = []; inputs = news (logged log stated) stated m })
          (edge_at all k)) (let z : 0 + k ≡ k = omega arith in z))
      by (inr (same, past)) = inr (is ∙ same, past)

  output-same : (k : ℕ) → first_output (edge_at (paths_of_edges (edges_read others)) k)
      ≡ first_output (edge_at all k)
  output-same k = by (edge-at k)
    where
      by : (edge_at (paths_of_edges (edges_read others)) k
          ≡ with_added (record { outputs = []; inputs = news (logged log stated) stated k }) (edge_at all k))
          ⊎ ((edge_at (paths_of_edges (edges_read others)) k ≡ edge_at all k) × (length all ≤ k))
          → first_output (edge_at (paths_of_edges (edges_read others)) k) ≡ first_output (edge_at all k)
      by (inl added) = ap first_output added
          ∙ ap (λ outs. slice_get ((edge_at all k).explicit_outputs ++ outs) 0)
          (append-nil (edge_at all k).implicit_outputs)
      by (inr (same, past)) = ap first_output same

  number-same : (k : ℕ) → number_logged log others k ≡ number_logged log stated k
  number-same k =
      ap (λ b. if b then option_and_then (λ path. position (bytes_eq path) log.paths)
      (first_output (edge_at (paths_of_edges (edges_read others)) k)) else None) (deps-same k)
      ∙ ap (λ o. if has_deps stated k then option_and_then (λ path. position (bytes_eq path) log.paths) o else
      None) (output-same k)

  -- past the last edge nothing is named
  none-past : (k : ℕ) → length all ≤ k → number_logged log stated k ≡ None
  none-past k past = ap (λ b. if b then option_and_then (λ path. position (bytes_eq path) log.paths)
      (first_output (edge_at all k)) else None) no-deps
    where
      count : length all ≡ length (edges_read stated)
      count = length-map (edges_read stated) (λ (e : EdgeModel). e.paths)

      no-deps : has_deps stated k ≡ false
      no-deps = ap (λ o. not (is_empty (unwrap_or
          (option_map (λ e. asked_text (names_of_edge stated e) (codes "deps")) o) [])))
          (slice_get_past (edges_read stated) k (omega (arith, count, past)))

  none-again : (k : ℕ) → news (logged log others) others k ≡ []
  none-again k = ap (λ o. new_inputs (edge_at (paths_of_edges (edges_read others)) k) (inputs_logged log o))
      (number-same k) ∙ by (edge-at k)
    where
      paths : List (List ℕ)
      paths = inputs_logged log (number_logged log stated k)

      by : (edge_at (paths_of_edges (edges_read others)) k
          ≡ with_added (record { outputs = []; inputs = news (logged log stated) stated k }) (edge_at all k))
          ⊎ ((edge_at (paths_of_edges (edges_read others)) k ≡ edge_at all k) × (length all ≤ k))
          → new_inputs (edge_at (paths_of_edges (edges_read others)) k) paths ≡ []
      by (inl added) = ap (λ (e : EdgePaths). new_inputs e paths) added ∙ none-new (edge_at all k) paths
      by (inr (same, past)) = ap (λ o. new_inputs (edge_at (paths_of_edges (edges_read others)) k)
          (inputs_logged log o)) (none-past k past)

pub same_log : SameLogChangesNothing
same_log log stated = none-named (news (logged log (with_log log stated)) (with_log log stated))
    (none-again log stated) (with_log log stated)
