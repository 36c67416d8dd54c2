-- The makers of an edge's inputs, and their kept keys.
use Rattle.std.proofs.Common.{◌≡◌, ◌<◌, inl, inr, ℕ, zero, suc, Option, Some, None, List, [], ◌∷◌, map}
use Rattle.std.proofs.Common.{length}
use Rattle.std.proofs.Common.{true, false, get_or, replicate, refl, sym, ap, ◌∙◌, subst, arith}
use Rattle.std.specs.Prelude.{is_some, option_map, slice_get, unwrap_or, Contains}
use Rattle.std.proofs.lemmas.List.{get_or-replicate, length-replicate}
use Rattle.std.proofs.lemmas.Option.{get_or_from_slice_get, slice_get-get_or, slice_get_within}
use Rattle.sha2.specs.Sha256.{sha256}
use Rattle.nj_graph.specs.ReadingList.{ReadStatement}
use Rattle.nj_graph.specs.Edges.{EdgePaths, maker_of}
use Rattle.nj_graph.specs.Graph.{GraphModel, edges_of}
use Rattle.nj_graph.specs.Handles.{GraphEdge, GraphFile, edge_in, files_in}
use Rattle.nj_keys.specs.Keys.{fields_of, fields_text, IsKey, Needs}
use Rattle.nj_keys.specs.Keys.IsKey.{digest}
use Rattle.nj_keys.specs.Inside.Keeping.{kept_key, made_by, IsKept, IsMissing, KeepsKeys, MakesOne}

-- the kept key of an edge is its key
pub key-of-kept : (folders : List (List ℕ)) (edges : List EdgePaths) (entries : List ReadStatement)
    (keys : List (Option (List ℕ))) (e : ℕ)
    → IsKept keys e → KeepsKeys folders edges entries keys → IsKey folders edges entries e (kept_key keys e)
key-of-kept folders edges entries keys e (key, is) kept =
    let same : kept_key keys e ≡ key = ap (λ o. unwrap_or (unwrap_or o None) []) is in
    subst (IsKey folders edges entries e) (sym same) (kept e key is)

pub only-none : {X : Type 0} (P : Option X → Type 0) → ((x : X) → P (Some x) → ⊥) → (o : Option X) → P o
    → o ≡ None
only-none P never (Some x) is = absurd (never x is)
only-none P never None is = refl

-- no key is kept yet
pub no-keys : (count : ℕ) (keys : List (Option (List ℕ))) → keys ≡ replicate count None
    → (e : ℕ) (key : List ℕ) → slice_get keys e ≡ Some (Some key) → ⊥
no-keys count keys is e key found =
    let below = slice_get_within keys e (Some key) found in
    let none : get_or keys e None ≡ None =
    ap (λ ks. get_or ks e None) is ∙ get_or-replicate count e None None
    (omega (arith, below, ap length is, length-replicate {A = Option (List ℕ)} count None)) in
    let both : Some key ≡ None = sym (get_or_from_slice_get keys e (Some key) None found) ∙ none in
    absurd cc

-- the key of an edge, from the kept keys
pub kept-digest : (edges : List EdgePaths) (keys : List (Option (List ℕ))) (edge : ℕ)
    (folders : List (List ℕ)) (entries : List ReadStatement)
    → ((f : ℕ) → Needs edges edge f → IsKept keys f) → KeepsKeys folders edges entries keys
    → IsKey folders edges entries edge (sha256
    (fields_text (fields_of folders edges entries (kept_key keys) edge)))
kept-digest edges keys edge folders entries all kept =
    digest (kept_key keys) (λ f needs. key-of-kept folders edges entries keys f (all f needs) kept)

key-there : (key : Option (List ℕ)) → is_some key ≡ true → (is : List ℕ) × (key ≡ Some is)
key-there (Some key) some = (key, refl)
key-there None some = absurd cc

key-missing : (key : Option (List ℕ)) → is_some key ≡ false → key ≡ None
key-missing (Some key) none = absurd cc
key-missing None none = refl

-- what a place says of its edge
pub kept-at : (keys : List (Option (List ℕ))) (i e : ℕ) → i ≡ e → i < length keys
    → is_some (get_or keys i None) ≡ true → IsKept keys e
kept-at keys i e is below some =
    let key = key-there (get_or keys i None) some in
    subst (IsKept keys) is (key.0, slice_get-get_or keys i None below ∙ ap Some key.1)

pub missing-at : (keys : List (Option (List ℕ))) (i e : ℕ) → i ≡ e → i < length keys
    → is_some (get_or keys i None) ≡ false → IsMissing keys e
missing-at keys i e is below none =
    subst (IsMissing keys) is (slice_get-get_or keys i None below
    ∙ ap Some (key-missing (get_or keys i None) none))

kept-if : (keys : List (Option (List ℕ))) (e : ℕ) (key : Option (List ℕ)) → slice_get keys e ≡ Some key
    → (slice_get keys e ≡ Some None → ⊥) → IsKept keys e
kept-if keys e (Some key) is some = (key, is)
kept-if keys e None is some = absurd (some is)

-- a key that is not missing is kept
pub kept-unless : (keys : List (Option (List ℕ))) (e : ℕ) → e < length keys → (IsMissing keys e → ⊥)
    → IsKept keys e
kept-unless keys e below some = kept-if keys e (get_or keys e None) (slice_get-get_or keys e None below) some

-- ---- makers of files

-- the first of some files is made by an edge
pub first-makes : (files : List GraphFile) (file : GraphFile) (edge : GraphEdge)
    → Some file ≡ slice_get files 0
    → made_by file ≡ Some edge → MakesOne files edge
first-makes [] file edge first made = let none : Some file ≡ None = first in absurd cc
first-makes (other ∷ files) file edge first made =
    let same : Some file ≡ Some other = first in
    let is : file ≡ other = cc in
    inl (subst (λ f. made_by f ≡ Some edge) is made)

-- without files
pub none-makes : (files : List GraphFile) (edge : GraphEdge) → None ≡ slice_get files 0 → MakesOne files edge
    → ⊥
none-makes [] edge first makes = makes
none-makes (file ∷ files) edge first makes = let some : None ≡ Some file = first in absurd cc

module _ (g : GraphModel) where
  abbrev makers : List (List ℕ) → List (Option ℕ)
  makers paths = map (maker_of (edges_of g)) paths

  numbered : (maker : Option ℕ) (edge : GraphEdge) → option_map (edge_in g) maker ≡ Some edge
      → (edge.graph ≡ g) × (maker ≡ Some edge.number)
  numbered None edge is = absurd cc
  numbered (Some n) edge is =
      let same : edge_in g n ≡ edge = cc in
      (ap (λ e. e.graph) (sym same), ap (λ e. Some e.number) same)

  -- an edge that makes one of the given files is the maker of one of their paths
  pub makes-needed : (paths : List (List ℕ)) (edge : GraphEdge) → MakesOne (files_in g paths) edge
      → (edge.graph ≡ g) × Contains (makers paths) (Some edge.number)
  makes-needed [] edge makes = elim makes [ ]
  makes-needed (path ∷ paths) edge (inl made) =
      let here = numbered (maker_of (edges_of g) path) edge made in
      (here.0, (0, omega arith, here.1))
  makes-needed (path ∷ paths) edge (inr makes) =
      let there = makes-needed paths edge makes in
      (there.0, (suc there.1.0, omega (arith, there.1.1), there.1.2))

  pub needed-makes : (paths : List (List ℕ)) (edge : ℕ) → Contains (makers paths) (Some edge)
      → MakesOne (files_in g paths) (edge_in g edge)
  needed-makes [] edge (i, below, is) = absurd (omega (arith, below))
  needed-makes (path ∷ paths) edge (zero, below, is) = inl (ap (option_map (edge_in g)) is)
  needed-makes (path ∷ paths) edge (suc i, below, is) =
      inr (needed-makes paths edge (i, omega (arith, below), is))
