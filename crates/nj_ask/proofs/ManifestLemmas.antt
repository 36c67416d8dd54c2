-- Which files the manifest is made from.
use Rattle.std.proofs.Common.{◌≡◌, ◌<◌, ℕ, ◌||◌, ◌⊎◌, inl, inr, Bool, true, false, List, [], ◌∷◌, ◌++◌, map}
use Rattle.std.proofs.Common.{length, refl, sym, ap, ◌∙◌, arith}
use Rattle.std.specs.Prelude.{◌↔◌, Contains, slice_index_or}
use Rattle.std.specs.List.{filter, flat_map, list_any}
use Rattle.std.proofs.lemmas.Bool.{both_ways, cases_lt}
use Rattle.std.proofs.lemmas.List.{get_or-map, get_or_past, length-map}
use Rattle.std.proofs.lemmas.List.Elements.{All-contains, Contains-append_cases, Contains-append_left}
use Rattle.std.proofs.lemmas.List.Elements.{Contains-append_right, filter_passes}
use Rattle.std.proofs.lemmas.List.Folds.{Any-from_list_any, list_any-from_Any}
use Rattle.nj_graph.specs.ReadingList.{ReadStatement}
use Rattle.nj_graph.specs.Changes.{has_input_of, IsAffected, IsOrNeeds}
use Rattle.nj_graph.specs.Changes.IsAffected.{by_file, by_edge}
use Rattle.nj_graph.specs.Distances.{IsNeeded}
use Rattle.nj_graph.specs.Edges.{EdgePaths, edge_at, inputs_of, is_among, users_of}
use Rattle.nj_graph.specs.Graph.{GraphModel, edges_of, files_of}
use Rattle.nj_ask.specs.declared.manifest.Manifest.{Manifest}
use Rattle.nj_ask.specs.Manifest.{is_one_of, makes_manifest, FeedsManifest}
use Rattle.nj_ask.specs.Manifest.FeedsManifest.{by_itself, by_maker}
use Rattle.nj_ask.specs.SameFiles.{path_of}
use Rattle.nj_ask.specs.Inside.Flags.{AreFeeds, AreFlags}
use Rattle.nj_ask.specs.Inside.Reached.{CanTell, IsReached}
use Rattle.nj_ask.proofs.FlagLemmas.{is-there, one-there, passes-there}
use Rattle.nj_ask.proofs.NeedLemmas.{any-needed, input-user, needed-any, needs-affected, user-input}

-- ---- affected edges

or-none : (b : Bool) → (b || false) ≡ b
or-none true = refl
or-none false = refl

-- an edge that a file affects is affected by more files
pub affects-more : (edges : List EdgePaths) (path : List ℕ) (files : List (List ℕ)) → Contains files path
    → (e : ℕ) → IsAffected edges (path ∷ []) e → IsAffected edges files e
affects-more edges path files has _ (by_file {e = e} input) =
    let inputs = is_among (inputs_of (edge_at edges e)) in
    by_file {e = e} (list_any-from_Any inputs files
    (has.0, path, has.1, has.2, sym (or-none (inputs path)) ∙ input))
affects-more edges path files has _ (by_edge {e = e} {f = f} takes affected) =
    by_edge {e = e} {f = f} takes (affects-more edges path files has f affected)

-- the edge without files that is past the last one
abbrev no-edge : EdgePaths
no-edge = edge_at [] 0

has-none : (files : List (List ℕ)) → has_input_of files no-edge ≡ false
has-none [] = refl
has-none (file ∷ files) = has-none files

input-below : (edges : List EdgePaths) (files : List (List ℕ)) (e : ℕ)
    → has_input_of files (edge_at edges e) ≡ true → e < length edges
input-below edges files e is = elim (cases_lt e (length edges)) [
  | inl below ↦ below
  | inr past ↦ absurd (both_ways (has_input_of files (edge_at edges e))
      (ap (has_input_of files) (get_or_past edges e no-edge past) ∙ has-none files) is)
]

pub contains-mapped : {X : Type 0} (f : ℕ → X) (ns : List ℕ) (n : ℕ) → Contains ns n
    → Contains (map f ns) (f n)
contains-mapped f ns n has =
    let count = length-map ns f in
    let below = has.1 in
    (has.0, omega (arith, below, count), get_or-map f ns has.0 n (f n) has.1 ∙ ap f has.2)

-- ---- the edges that feed the manifest

-- the edges that makers are or need, as flags
pub feeds-flags : (edges : List EdgePaths) (makers needed : List ℕ) (flags : List Bool)
    → ((e : ℕ) → Contains needed e ↔ IsNeeded edges (flat_map (λ e. inputs_of (edge_at edges e)) makers) e)
    → AreFlags (length edges) (needed ++ makers) flags → AreFeeds edges makers flags
feeds-flags edges makers needed flags found held e below = (ahead, back)
  where
    by : Contains needed e ⊎ Contains makers e → (maker : ℕ) × Contains makers maker × IsOrNeeds edges maker e
    by (inl has) = needed-any edges makers e ((found e).0 has)
    by (inr has) = (e, has, inl refl)

    among : Contains makers e ⊎ IsNeeded edges (flat_map (λ e. inputs_of (edge_at edges e)) makers) e
        → Contains (needed ++ makers) e
    among (inl has) = Contains-append_right needed makers e has
    among (inr is) = Contains-append_left needed makers e ((found e).1 is)

    ahead : slice_index_or flags e false ≡ true
        → (maker : ℕ) × Contains makers maker × IsOrNeeds edges maker e
    ahead is = by (Contains-append_cases needed makers e
        (one-there (needed ++ makers) e (sym (held.are e below) ∙ is)))

    back : (maker : ℕ) × Contains makers maker × IsOrNeeds edges maker e → slice_index_or flags e false ≡ true
    back any = held.are e below ∙ is-there (needed ++ makers) e (among (any-needed edges makers e any))

-- ---- one changed file

module _ (g : GraphModel) (opened : List ℕ) (entries : List ReadStatement) (m : Manifest) where
  abbrev flag : ℕ → Bool
  flag edge = slice_index_or m.feeds.items edge false

  -- some edge that makes the manifest is this edge or needs it
  abbrev FeedsIt : ℕ → Type 0
  FeedsIt edge = (maker : ℕ) × (makes_manifest g opened entries maker ≡ true)
      × IsOrNeeds (edges_of g) maker edge

  -- the record of the edges that all changed files affect shows it for each of them
  pub can-tell : (edges changed : List ℕ) → IsReached g opened entries edges m
      → ((edge : ℕ) → IsAffected (edges_of g) (map (path_of g) changed) edge → Contains edges edge)
      → (file : ℕ) → file < length (files_of g) → Contains changed file → CanTell g opened entries file m
  can-tell edges changed r affected file below has = record {
    opened = r.opened.are file below;
    feeds = λ e input.
        let feeds = r.feeds e (input-below (edges_of g) (path_of g file ∷ []) e input) in
        (λ is. makes e (feeds.0 is), λ it. feeds.1 (among e input it));
  }
    where
      makers : List ℕ
      makers = filter (makes_manifest g opened entries) edges

      makes : (e : ℕ) → (maker : ℕ) × Contains makers maker × IsOrNeeds (edges_of g) maker e → FeedsIt e
      makes e (maker, there, needs) = (
        maker,
        All-contains (λ n. makes_manifest g opened entries n ≡ true) makers maker
            (filter_passes (makes_manifest g opened entries) edges) there,
        needs,
      )

      among : (e : ℕ) → has_input_of (path_of g file ∷ []) (edge_at (edges_of g) e) ≡ true → FeedsIt e
          → (maker : ℕ) × Contains makers maker × IsOrNeeds (edges_of g) maker e
      among e input (maker, makes, needs) =
          let alone = needs-affected (edges_of g) (path_of g file ∷ []) maker e needs input in
          let all = affects-more (edges_of g) (path_of g file) (map (path_of g) changed)
          (contains-mapped (path_of g) changed file has) maker alone in (
            maker,
            passes-there (makes_manifest g opened entries) edges maker (affected maker all) makes,
            needs,
          )

  module _ (file : ℕ) (tells : CanTell g opened entries file m) where
    abbrev users : List ℕ
    users = users_of (edges_of g) (path_of g file)

    fed : list_any flag users ≡ true → FeedsManifest g opened entries file
    fed is =
        let any = Any-from_list_any flag users is in
        let input = user-input (edges_of g) (path_of g file) any.1 (any.0, any.2, any.3) in
        let it = (tells.feeds any.1 input).0 any.4 in
        by_maker it.1 it.2 input

    pub tells-opened : (b : Bool) → b ≡ slice_index_or m.opened.items file false → b ≡ true
        → (b ≡ true) ↔ FeedsManifest g opened entries file
    tells-opened b is holds = (λ _. by_itself (sym tells.opened ∙ sym is ∙ holds), λ _. holds)

    pub tells-unopened : slice_index_or m.opened.items file false ≡ false → (b : Bool)
        → b ≡ list_any flag users → (b ≡ true) ↔ FeedsManifest g opened entries file
    tells-unopened not b is = (λ holds. fed (sym is ∙ holds), back)
      where
        back : FeedsManifest g opened entries file → b ≡ true
        back (by_itself itself) = absurd (both_ways (is_one_of opened file) (sym tells.opened ∙ not)
            itself)
        back (by_maker {maker = maker} {edge = e} makes needs input) =
            let has = input-user (edges_of g) (path_of g file) e input in
            let it = (tells.feeds e input).1 (maker, makes, needs) in
            is ∙ list_any-from_Any flag users (has.0, e, has.1, has.2, it)
