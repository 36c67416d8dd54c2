-- Lemmas on the search for the edges that an edge needs.
use Rattle.std.proofs.lemmas.Grind.{common_steps}
use Rattle.std.proofs.Common.{◌≡◌, ◌<◌, ◌≤◌, ◌+◌, ◌↔◌, inl, inr, ℕ, Bool, true, false, Option, Some, None}
use Rattle.std.proofs.Common.{List, [], ◌∷◌, ◌++◌, map, length, take, get_or, refl, sym, ap, subst, ◌∙◌}
use Rattle.std.proofs.Common.{arith}
use Rattle.std.specs.Prelude.{Contains, slice_index}
use Rattle.std.proofs.lemmas.Bool.{both_ways, cases_lt}
use Rattle.std.proofs.lemmas.List.{take_more}
use Rattle.std.proofs.lemmas.List.Elements.{All-push, Contains-append_left, Contains-push}
use Rattle.std.proofs.lemmas.List.Elements.{Contains-push_cases}
use Rattle.std.proofs.lemmas.Option.{same_Some}
use Rattle.nj_names.specs.declared.files.FileNo.{FileNo}
use Rattle.nj_names.specs.Files.{path_at}
use Rattle.nj_names.specs.NumberSets.{NumberSetModel, has, with_number}
use Rattle.nj_names.proofs.NumberLemmas.{contains-has, has-contains}
use Rattle.nj_cycles.specs.Cycles.{Needs, NeedsByChain}
use Rattle.nj_cycles.specs.Cycles.Chain.{one, more}
use Rattle.nj_cycles.proofs.Chains.{chain_push}
use Rattle.nj_cycles.proofs.Places.{contains_at, index_of}
use Rattle.nj_edges.specs.Changes.{IsOrNeeds}
use Rattle.nj_edges.specs.Distances.{MakesOneOf}
use Rattle.nj_edges.specs.declared.edges.EdgeNo.{EdgeNo}
use Rattle.nj_edges.specs.EdgeGraphs.{EdgeGraph}
use Rattle.nj_edges.specs.Edges.{EdgePaths, edge_at, inputs_of, maker_of}
use Rattle.nj_edges.specs.Needs.{makers_of_inputs}
use Rattle.nj_edges.specs.Inside.ChangesHeld.{FindsMore}
use Rattle.nj_edges.proofs.ChangeLemmas.{finds-one, finds-then}
use Rattle.nj_edges.specs.Inside.NeedsSearched.{AreMakers, AreStarts, Finds, IsReached, IsSearch, IsSearchAt}
use Rattle.nj_edges.specs.Inside.NeedsSearched.{IsSearched, Tells}
use Rattle.nj_edges.specs.declared.search_state.SearchState.{SearchState}

contains-none : (e : ℕ) → Contains [] e → ⊥
contains-none e is = absurd (omega (arith, is.1))

module _ (edges : List EdgePaths) where
  abbrev Step : ℕ → ℕ → Type 0
  Step = Needs (makers_of_inputs edges)

  pub reached-needed : (starts : List ℕ) (edge maker : ℕ) → AreStarts edges edge starts
      → IsReached edges starts maker ↔ NeedsByChain (makers_of_inputs edges) edge maker
  reached-needed starts edge maker are = (forth, back)
    where
      forth : IsReached edges starts maker → NeedsByChain (makers_of_inputs edges) edge maker
      forth (s, has, inl is) = one (subst (Step edge) is ((are s).0 has))
      forth (s, has, inr chain) = more ((are s).0 has) chain

      back : NeedsByChain (makers_of_inputs edges) edge maker → IsReached edges starts maker
      back (one step) = (maker, (are maker).1 step, inl refl)
      back (more {g = g} step chain) = (g, (are g).1 step, inr chain)

  step-on : (s e f : ℕ) → IsOrNeeds edges s e → Step e f → IsOrNeeds edges s f
  step-on s e f (inl is) step = inr (one (subst (λ x. Step x f) (sym is) step))
  step-on s e f (inr chain) step = inr (chain_push Step s e f chain step)

  -- ---- turn by turn

  pub searched-starts : (starts : List ℕ) (none new : NumberSetModel)
      → none ≡ record { limit = length edges; numbers = [] } → FindsMore (Contains starts) none new
      → IsSearched edges starts new 0
  searched-starts starts none new empty finds = record {
    limit = finds.limit ∙ ap (λ (s : NumberSetModel). s.limit) empty;
    within = omega arith;
    sound = λ e is. elim (finds.fresh e is) [
      | inl before ↦ absurd (contains-none e
          (subst (λ (s : NumberSetModel). Contains s.numbers e) empty before))
      | inr has ↦ (e, has, inl refl)
    ];
    begun = finds.all;
    closed = λ i e below. absurd (omega (arith, below));
  }

  module _ (starts : List ℕ) (old new : NumberSetModel) (place : ℕ) (below : place < length old.numbers)
      (held : IsSearched edges starts old place)
      (finds : FindsMore (Step (slice_index old.numbers place)) old new) where
    sound-on : (e : ℕ) → Contains new.numbers e → IsReached edges starts e
    sound-on e is = elim (finds.fresh e is) [
      | inl before ↦ held.sound e before
      | inr step ↦
          let from = held.sound (slice_index old.numbers place)
          (contains_at old.numbers place (slice_index old.numbers place) below refl) in
          (from.0, from.1, step-on from.0 (slice_index old.numbers place) e from.2 step)
    ]

    closed-on : (i e : ℕ) → i < place + 1 → Step (slice_index new.numbers i) e → Contains new.numbers e
    closed-on i e within step =
        let before : i < length old.numbers = omega (arith, within, below) in
        let old_step : Step (slice_index old.numbers i) e = subst (λ n. Step n e) (finds.stays i before) step
        in
        elim (cases_lt i place) [
          | inl earlier ↦ finds.kept e (held.closed i e earlier old_step)
          | inr now ↦ let is : i ≡ place = omega (arith, now, within) in
              finds.all e (subst (λ n. Step (slice_index old.numbers n) e) is old_step)
        ]

    pub searched-continues : IsSearched edges starts new (place + 1)
    searched-continues = record {
      limit = finds.limit ∙ held.limit;
      within = omega (arith, below, finds.longer);
      sound = sound-on;
      begun = λ e is. finds.kept e (held.begun e is);
      closed = closed-on;
    }

  -- at the end nothing is missing
  module _ (starts : List ℕ) (found : NumberSetModel) (place : ℕ) (past : length found.numbers ≤ place)
      (held : IsSearched edges starts found place) where
    closed-step : (e f : ℕ) → Contains found.numbers e → Step e f → Contains found.numbers f
    closed-step e f has step =
        let at = index_of found.numbers e has in
        held.closed at.0 f (omega (arith, at.1, past)) (subst (λ n. Step n f) (sym at.2) step)

    closed-chain : (e f : ℕ) → Contains found.numbers e → NeedsByChain (makers_of_inputs edges) e f
        → Contains found.numbers f
    closed-chain e f has (one step) = closed-step e f has step
    closed-chain e f has (more {g = g} step chain) = closed-chain g f (closed-step e g has step) chain

    pub searched-all : (e : ℕ) → IsReached edges starts e → Contains found.numbers e
    searched-all e (s, has, inl is) = subst (Contains found.numbers) is (held.begun s has)
    searched-all e (s, has, inr chain) = closed-chain s e (held.begun s has) chain

  -- ---- between two questions

  pub goes-on : (old new : SearchState) → new.edge ≡ old.edge → new.starts.items ≡ old.starts.items
      → IsSearched edges old.starts.items new.found new.place → IsSearch edges old → IsSearch edges new
  goes-on old new same starts held search = record {
    at_edge = λ e is. subst (AreStarts edges e.0) (sym starts) (search.at_edge e (sym same ∙ is));
    searched = subst (λ ss. IsSearched edges ss new.found new.place) (sym starts) held;
  }

  pub started : (s : SearchState) (edge : EdgeNo) → s.edge ≡ Some edge → AreStarts edges edge.0 s.starts.items
      → IsSearched edges s.starts.items s.found s.place → IsSearchAt edges edge.0 s
  started s edge is are held = record {
    starts_are = are;
    search = record {
      at_edge = λ e same. subst (λ (x : EdgeNo). AreStarts edges x.0 s.starts.items)
          (same_Some edge e (sym is ∙ same)) are;
      searched = held;
    };
  }

  pub tells-needed : (starts : List ℕ) (edge other : ℕ) → (edge ≡ other → ⊥) → AreStarts edges edge starts
      → (answer : Bool) → Tells answer (IsReached edges starts other)
      → Tells answer (IsOrNeeds edges edge other)
  tells-needed starts edge other apart are true reached =
      inr ((reached-needed starts edge other are).0 reached)
  tells-needed starts edge other apart are false not-reached = λ needs. by needs
    where
      by : IsOrNeeds edges edge other → ⊥
      by (inl is) = apart is
      by (inr chain) = not-reached ((reached-needed starts edge other are).1 chain)

  pub finds-it : (old new : SearchState) (edge : ℕ) → has new.found.numbers edge ≡ true → new.edge ≡ old.edge
      → new.starts.items ≡ old.starts.items
      → IsSearched edges old.starts.items new.found new.place → IsSearch edges old
      → Finds edges edge old new true
  finds-it old new edge is same starts held search = record {
    tells = held.sound edge (has-contains new.found.numbers edge is);
    search = goes-on old new same starts held search;
  }

  pub finds-not : (old new : SearchState) (edge : ℕ) → has new.found.numbers edge ≡ false
      → length new.found.numbers ≤ new.place → new.edge ≡ old.edge → new.starts.items ≡ old.starts.items
      → IsSearched edges old.starts.items new.found new.place → IsSearch edges old
      → Finds edges edge old new false
  finds-not old new edge is past same starts held search = record {
    tells = λ reached. both_ways (has new.found.numbers edge) is
        (contains-has new.found.numbers edge
        (searched-all old.starts.items new.found new.place past held edge reached));
    search = goes-on old new same starts held search;
  }

-- ---- the numbers of a list

pub finds-number : (first old new : NumberSetModel) (numbers : List ℕ) (i : ℕ) → i < length numbers
    → FindsMore (Contains (take i numbers)) first old
    → new ≡ record old { numbers = with_number old.numbers (get_or numbers i 0) }
    → FindsMore (Contains (take (i + 1) numbers)) first new
finds-number first old new numbers i below a is =
    finds-then (Contains before) (λ e. e ≡ number) (Contains (take (i + 1) numbers)) first old new
    (λ e has. subst (λ ns. Contains ns e) (sym next) (Contains-append_left before (number ∷ []) e has))
    (λ e same. subst (λ ns. Contains ns e) (sym next)
    (subst (Contains (before ++ number ∷ [])) (sym same) (Contains-push before number)))
    (λ e has. elim (Contains-push_cases before number e (subst (λ ns. Contains ns e) next has))
    [ inl was ↦ inl was | inr same ↦ inr (sym same) ])
    a (subst (FindsMore (λ e. e ≡ number) old) (sym is) (finds-one old number))
  where
    before : List ℕ
    before = take i numbers

    number : ℕ
    number = get_or numbers i 0

    next : take (i + 1) numbers ≡ before ++ number ∷ []
    next = take_more numbers i 0 below

-- ---- the makers of files

pub starts-are : (g : EdgeGraph) (edge : ℕ) (files : List FileNo) (next starts : List ℕ)
    → map (path_at g.files) files ≡ inputs_of (edge_at g.edges edge) → AreMakers g files next → starts ≡ next
    → AreStarts g.edges edge starts
starts-are g edge files next starts is are same = λ e.
    subst (λ ss. Contains ss e ↔ Needs (makers_of_inputs g.edges) edge e) (sym same)
    (subst (λ paths. Contains next e ↔ MakesOneOf g.edges paths e) is (are.are e))

module _ (g : EdgeGraph) where
  abbrev made : List FileNo → List (Option ℕ)
  made ns = map (maker_of g.edges) (map (path_at g.files) ns)

  made-more : (ns : List FileNo) (i : ℕ) (d : FileNo) → i < length ns
      → made (take (i + 1) ns) ≡ made (take i ns) ++ maker_of g.edges (path_at g.files (get_or ns i d)) ∷ []
  made-more ns i d below = grind (arith, common_steps)

  module _ (found : List ℕ) (ns : List FileNo) (i : ℕ) (d : FileNo) (below : i < length ns)
      (are : AreMakers g (take i ns) found) where
    pub makers-some : (edge : ℕ) → maker_of g.edges (path_at g.files (get_or ns i d)) ≡ Some edge
        → edge < length g.edges → AreMakers g (take (i + 1) ns) (found ++ edge ∷ [])
    makers-some edge is known = record {
      are = λ e. (
        λ has. elim (Contains-push_cases found edge e has) [
          | inl was ↦ subst (λ os. Contains os (Some e)) (sym next)
              (Contains-append_left (made (take i ns)) (Some edge ∷ []) (Some e) ((are.are e).0 was))
          | inr now ↦ subst (λ os. Contains os (Some e)) (sym next)
              (subst (λ x. Contains (made (take i ns) ++ Some edge ∷ []) (Some x)) now
              (Contains-push (made (take i ns)) (Some edge)))
        ],
        λ has. elim (Contains-push_cases (made (take i ns)) (Some edge) (Some e)
            (subst (λ os. Contains os (Some e)) next has)) [
              | inl was ↦ Contains-append_left found (edge ∷ []) e ((are.are e).1 was)
              | inr now ↦ subst (Contains (found ++ edge ∷ [])) (same_Some edge e now)
                  (Contains-push found edge)
            ],
      );
      known = All-push (λ e. e < length g.edges) found edge are.known known;
    }
      where
        next : made (take (i + 1) ns) ≡ made (take i ns) ++ Some edge ∷ []
        next = made-more ns i d below ∙ ap (λ o. made (take i ns) ++ o ∷ []) is

    pub makers-none : maker_of g.edges (path_at g.files (get_or ns i d)) ≡ None
        → AreMakers g (take (i + 1) ns) found
    makers-none is = record {
      are = λ e. (
        λ has. subst (λ os. Contains os (Some e)) (sym next)
            (Contains-append_left (made (take i ns)) (None ∷ []) (Some e) ((are.are e).0 has)),
        λ has. elim (Contains-push_cases (made (take i ns)) None (Some e)
            (subst (λ os. Contains os (Some e)) next has)) [
              | inl was ↦ (are.are e).1 was
              | inr now ↦ absurd cc
            ],
      );
      known = are.known;
    }
      where
        next : made (take (i + 1) ns) ≡ made (take i ns) ++ None ∷ []
        next = made-more ns i d below ∙ ap (λ o. made (take i ns) ++ o ∷ []) is
