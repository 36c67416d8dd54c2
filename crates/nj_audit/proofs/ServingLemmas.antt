-- How the edges that serve commands are found.
use Rattle.std.proofs.Common.{◌≡◌, ◌<◌, ◌≤◌, ◌+◌, ◌↔◌, inl, inr, ℕ, true, false, List, [], ◌∷◌, ◌++◌, map}
use Rattle.std.proofs.Common.{length, get_or, Option, Some, None, refl, sym, ap, subst, ◌∙◌, arith}
use Rattle.std.proofs.Common.{true≢false}
use Rattle.std.specs.Prelude.{Contains, slice_index}
use Rattle.std.proofs.lemmas.Bool.{cases_lt}
use Rattle.std.proofs.lemmas.List.{get_or-map, length-map, map_push}
use Rattle.std.proofs.lemmas.List.Elements.{Contains-append_left, Contains-push, Contains-push_cases}
use Rattle.nj_names.specs.NumberSets.{NumberSetModel}
use Rattle.nj_cycles.proofs.Places.{contains_at, index_of}
use Rattle.nj_edges.proofs.ChangeLemmas.{finds-none, finds-then}
use Rattle.nj_edges.specs.Inside.ChangesHeld.{FindsMore}
use Rattle.nj_graph.specs.Edges.{EdgePaths, edge_at, inputs_of, maker_of}
use Rattle.nj_graph.specs.Graph.{GraphModel}
use Rattle.nj_graph.specs.Handles.{edge_in, edge_of, edges_in}
use Rattle.nj_graph.specs.declared.handles.Edge.{Edge}
use Rattle.nj_audit.specs.Inside.Served.{FindsServing, HasCommand, MakesOneOf}
use Rattle.nj_audit.specs.Serving.{ServesCommand}
use Rattle.nj_audit.specs.Serving.ServesCommand.{by_edge, by_itself}

-- the same edges, described in another way
finds-as : (P R : ℕ → Type 0) (old new : NumberSetModel) → ((e : ℕ) → P e → R e) → ((e : ℕ) → R e → P e)
    → FindsMore P old new → FindsMore R old new
finds-as P R old new there back a =
    finds-then P (λ e. ⊥) R old new new there (λ e no. absurd no) (λ e is. inl (back e is)) a
    (finds-none (λ e. ⊥) new (λ e no. absurd no))

same-some : (e f : ℕ) → Some e ≡ Some f → e ≡ f
same-some e f is = cc

-- one edge
finds-some : (n : ℕ) (old new : NumberSetModel) → FindsMore (λ e. e ≡ n) old new
    → FindsMore (λ e. Some n ≡ Some e) old new
finds-some n old new a = finds-as (λ e. e ≡ n) (λ e. Some n ≡ Some e) old new
    (λ e is. ap Some (sym is)) (λ e is. sym (same-some n e is)) a

-- the edges of a list, and one more
finds-next : (found : List (Option ℕ)) (edge : Option ℕ) (first old new : NumberSetModel)
    → FindsMore (λ e. Contains found (Some e)) first old → FindsMore (λ e. edge ≡ Some e) old new
    → FindsMore (λ e. Contains (found ++ edge ∷ []) (Some e)) first new
finds-next found edge first old new a b =
    finds-then (λ e. Contains found (Some e)) (λ e. edge ≡ Some e)
    (λ e. Contains (found ++ edge ∷ []) (Some e)) first old new
    (λ e has. Contains-append_left found (edge ∷ []) (Some e) has)
    (λ e is. subst (Contains (found ++ edge ∷ [])) is (Contains-push found edge))
    (λ e has. Contains-push_cases found edge (Some e) has)
    a b

-- ---- edges with commands

-- the edges with commands below a number
abbrev pub IsCommandBelow : List EdgePaths → (number edge : ℕ) → Type 0
IsCommandBelow edges number e = (e < number) × ((edge_at edges e).is_phony ≡ false)

module _ (edges : List EdgePaths) (n : ℕ) (first old : NumberSetModel)
    (finds : FindsMore (IsCommandBelow edges n) first old) where
  -- one more edge, without a command
  pub finds-phony : (edge_at edges n).is_phony ≡ true → FindsMore (IsCommandBelow edges (n + 1)) first old
  finds-phony phony = finds-as (IsCommandBelow edges n) (IsCommandBelow edges (n + 1)) first old
      (λ e is. (omega (arith, is.0), is.1))
      (λ e is. elim (cases_lt e n) [
        | inl below ↦ (below, is.1)
        | inr past ↦
            let same : e ≡ n = omega (arith, is.0, past) in
            absurd (true≢false (sym phony ∙ ap (λ k. (edge_at edges k).is_phony) (sym same) ∙ is.1))
      ])
      finds

  -- and an edge with a command
  pub finds-command : (new : NumberSetModel) → (edge_at edges n).is_phony ≡ false
      → FindsMore (λ e. e ≡ n) old new → FindsMore (IsCommandBelow edges (n + 1)) first new
  finds-command new ordinary more =
      finds-then (IsCommandBelow edges n) (λ e. e ≡ n) (IsCommandBelow edges (n + 1)) first old new
      (λ e is. (omega (arith, is.0), is.1))
      (λ e same. (omega (arith, same), ap (λ k. (edge_at edges k).is_phony) same ∙ ordinary))
      (λ e is. elim (cases_lt e n) [
        | inl below ↦ inl (below, is.1)
        | inr past ↦
            inr (omega (arith, is.0, past))
      ])
      finds more

-- ---- makers of inputs

module _ (edges : List EdgePaths) (done : List (List ℕ)) (path : List ℕ) (first old : NumberSetModel)
    (finds : FindsMore (MakesOneOf edges done) first old) where
  found-next : (new : NumberSetModel) → FindsMore (λ e. maker_of edges path ≡ Some e) old new
      → FindsMore (MakesOneOf edges (done ++ path ∷ [])) first new
  found-next new more = subst (λ os. FindsMore (λ e. Contains os (Some e)) first new)
      (sym (map_push (maker_of edges) done path))
      (finds-next (map (maker_of edges) done) (maker_of edges path) first old new finds more)

  -- one more input, which an edge makes
  pub finds-maker : (new : NumberSetModel) (maker : ℕ) → maker_of edges path ≡ Some maker
      → FindsMore (λ e. e ≡ maker) old new → FindsMore (MakesOneOf edges (done ++ path ∷ [])) first new
  finds-maker new maker is more = found-next new (subst (λ o. FindsMore (λ e. o ≡ Some e) old new) (sym is)
      (finds-some maker old new more))

  -- and an input that no edge makes
  pub finds-source : maker_of edges path ≡ None → FindsMore (MakesOneOf edges (done ++ path ∷ [])) first old
  finds-source is = found-next old (subst (λ o. FindsMore (λ e. o ≡ Some e) old old) (sym is)
      (finds-none (λ e. None ≡ Some e) old (λ e none. absurd cc)))

-- the edge at a place
pub edge-there : (g : GraphModel) (edges : List Edge) (numbers : List ℕ) (place : ℕ) (edge : Edge)
    → map edge_of edges ≡ edges_in g numbers → place < length numbers → edge ≡ get_or edges place edge
    → edge_of edge ≡ edge_in g (slice_index numbers place)
edge-there g edges numbers place edge are below is =
    let under : place < length edges = omega (
      arith,
      below,
      length-map edges edge_of,
      length-map numbers (edge_in g),
      ap length are,
    ) in
    ap edge_of is ∙ sym (get_or-map edge_of edges place edge (edge_of edge) under)
    ∙ ap (λ es. get_or es place (edge_of edge)) are
    ∙ get_or-map (edge_in g) numbers place 0 (edge_of edge) below

-- ---- turn by turn

module _ (edges : List EdgePaths) where
  pub serving-begins : (none new : NumberSetModel) → none ≡ record { limit = length edges; numbers = [] }
      → FindsMore (HasCommand edges) none new → FindsServing edges new 0
  serving-begins none new empty finds = record {
    limit = finds.limit ∙ ap (λ s. s.limit) empty;
    within = omega arith;
    sound = λ e is. elim (finds.fresh e is) [
      | inl before ↦ absurd (contains-none e
          (subst (λ (ns : List ℕ). Contains ns e) (ap (λ (s : NumberSetModel). s.numbers) empty) before))
      | inr has ↦ by_itself has.0 has.1
    ];
    begun = finds.all;
    closed = λ i e below. absurd (omega (arith, below));
  }
    where
      contains-none : (e : ℕ) → Contains [] e → ⊥
      contains-none e is = absurd (omega (arith, is.1))

  pub serving-continues : (old new : NumberSetModel) (place : ℕ) → place < length old.numbers
      → FindsServing edges old place
      → FindsMore (MakesOneOf edges (inputs_of (edge_at edges (slice_index old.numbers place)))) old new
      → FindsServing edges new (place + 1)
  serving-continues old new place below held finds = record {
    limit = finds.limit ∙ held.limit;
    within = omega (arith, below, finds.longer);
    sound = λ e is. elim (finds.fresh e is) [
      | inl before ↦ held.sound e before
      | inr has ↦ by_edge has (held.sound (slice_index old.numbers place)
          (contains_at old.numbers place (slice_index old.numbers place) below refl))
    ];
    begun = λ e has. finds.kept e (held.begun e has);
    closed = λ i e within has. elim (cases_lt i place) [
      | inl before ↦ finds.kept e (held.closed i e before
          (subst (λ n. MakesOneOf edges (inputs_of (edge_at edges n)) e)
          (finds.stays i (omega (arith, before, held.within))) has))
      | inr after ↦
          let same : i ≡ place = omega (arith, within, after) in
          finds.all e (subst (λ n. MakesOneOf edges (inputs_of (edge_at edges n)) e)
          (ap (slice_index new.numbers) same ∙ finds.stays place below) has)
    ];
  }

  -- at the end nothing is missing
  module _ (found : NumberSetModel) (place : ℕ) (past : length found.numbers ≤ place)
      (held : FindsServing edges found place) where
    all-found : (e : ℕ) → ServesCommand edges e → Contains found.numbers e
    all-found _ (by_itself {e = e} below ordinary) = held.begun e (below, ordinary)
    all-found _ (by_edge {e = e} {f = f} needs serves) =
        let at = index_of found.numbers e (all-found e serves) in
        held.closed at.0 f (omega (arith, at.1, past))
        (subst (λ n. MakesOneOf edges (inputs_of (edge_at edges n)) f) (sym at.2) needs)

    pub serving-ends : (e : ℕ) → Contains found.numbers e ↔ ServesCommand edges e
    serving-ends e = (held.sound e, all-found e)
