-- Inputs that builds discovered change no key.
use Rattle.std.proofs.Common.{◌≡◌, ◌+◌, ◌&&◌, ℕ, List, [], ◌∷◌, ◌++◌, length, map, take}
use Rattle.std.proofs.Common.{refl, sym, ap, ◌∙◌, subst, append-nil}
use Rattle.std.specs.Prelude.{codes, if◌then◌else◌, bytes_eq, option_map, slice_get, unwrap_or}
use Rattle.std.proofs.lemmas.Option.{slice_get-map}
use Rattle.sha2.specs.Sha256.{sha256}
use Rattle.nj_scope.specs.ReadingList.{ReadStatement}
use Rattle.nj_edges.specs.Edges.{EdgePaths, edge_at}
use Rattle.nj_edges.specs.MoreInputs.{new_inputs, with_inputs_added}
use Rattle.nj_edge_env.specs.LateStrings.{asked_text}
use Rattle.nj_statements.specs.EdgeList.{EdgeModel, edges_read, names_of_edge, paths_of_edges, restat_at}
use Rattle.nj_statements.proofs.DiscoverEdges.{map-same}
use Rattle.nj_statements.proofs.DiscoverLemmas.{names_of_edge-same}
use Rattle.nj_statements.proofs.LoggedLemmas.{as_read-named, paths-named, restats-named, same-edges}
use Rattle.nj_graph.specs.DepsLogs.{with_named}
use Rattle.nj_graph.specs.Graph.{is_dyndep_restat, late_text_of}
use Rattle.nj_keys.specs.Keys.{DiscoveriesChangeNoKey, IsKey, content_of, counts_of, edges_stated, fields_of}
use Rattle.nj_keys.specs.Keys.{fields_text, response_of, variable_of}
use Rattle.nj_keys.specs.Keys.IsKey.{digest}

-- ---- edges

take-all : (paths more : List (List ℕ)) → take (length paths) (paths ++ more) ≡ paths
take-all [] [] = refl
take-all [] (path ∷ more) = refl
take-all (path ∷ paths) more = ap (λ ps. path ∷ ps) (take-all paths more)

-- without the inputs that are added to them, edges are as before
edges-as-before : (added : ℕ → List (List ℕ)) (n : ℕ) (edges : List EdgePaths)
    → edges_stated (counts_of edges) (with_inputs_added added n edges) ≡ edges
edges-as-before added n [] = refl
edges-as-before added n (e ∷ edges) =
    ap (λ outputs. (record e {
      implicit_outputs = outputs;
      implicit_inputs = take (length e.implicit_inputs) (e.implicit_inputs ++ added n);
    }) ∷ edges_stated (counts_of edges) (with_inputs_added added (n + 1) edges))
    (append-nil e.implicit_outputs)
    ∙ ap (λ inputs. (record e { implicit_inputs = inputs })
    ∷ edges_stated (counts_of edges) (with_inputs_added added (n + 1) edges))
    (take-all e.implicit_inputs (added n))
    ∙ ap (λ es. e ∷ es) (edges-as-before added (n + 1) edges)

-- ---- the values of variables

map-by : {X Y : Type 0} (f g : X → Y) → ((x : X) → f x ≡ g x) → (xs : List X) → map f xs ≡ map g xs
map-by f g same [] = refl
map-by f g same (x ∷ xs) = ap (λ y. y ∷ map f xs) (same x) ∙ ap (λ ys. g x ∷ ys) (map-by f g same xs)

module _ (named : (edge : ℕ) → List (List ℕ)) (stated : List ReadStatement) where
  abbrev edges : List EdgePaths
  edges = paths_of_edges (edges_read stated)

  abbrev added : (edge : ℕ) → List (List ℕ)
  added edge = new_inputs (edge_at edges edge) (named edge)

  abbrev joined : List ReadStatement
  joined = with_named named stated

  abbrev text_by : List ReadStatement → (name : List ℕ) → EdgeModel → List ℕ
  text_by entries name e = asked_text (names_of_edge entries e) name

  texts-same : (name : List ℕ)
      → map (text_by joined name) (edges_read joined) ≡ map (text_by stated name) (edges_read stated)
  texts-same name =
      map-by (text_by joined name) (text_by stated name)
      (λ e. ap (λ n. asked_text n name) (names_of_edge-same stated joined (as_read-named added stated) e))
      (edges_read joined)
      ∙ map-same (text_by stated name) (λ e outs ins. refl) (edges_read stated) (edges_read joined)
      (same-edges added stated)

  value-same : (e : ℕ) (name : List ℕ)
      → option_map (text_by joined name) (slice_get (edges_read joined) e)
      ≡ option_map (text_by stated name) (slice_get (edges_read stated) e)
  value-same e name =
      sym (slice_get-map (text_by joined name) (edges_read joined) e)
      ∙ ap (λ texts. slice_get texts e) (texts-same name)
      ∙ slice_get-map (text_by stated name) (edges_read stated) e

  late-same : (e : ℕ) (name : List ℕ) → late_text_of joined e name ≡ late_text_of stated e name
  late-same e name =
      ap (λ restats. if bytes_eq name (codes "restat") && restat_at restats e then codes "1"
      else unwrap_or (option_map (text_by joined name) (slice_get (edges_read joined) e)) [])
      (restats-named added stated)
      ∙ ap (λ value. if is_dyndep_restat stated e name then codes "1" else unwrap_or value [])
      (value-same e name)

  edges-same : edges_stated (counts_of edges) (paths_of_edges (edges_read joined)) ≡ edges
  edges-same = ap (edges_stated (counts_of edges)) (paths-named added stated)
      ∙ edges-as-before added 0 edges

-- ---- keys

module _ (folders : List (List ℕ)) (edges : List EdgePaths) (one other : List ReadStatement)
    (same : (e : ℕ) (name : List ℕ) → late_text_of one e name ≡ late_text_of other e name) where
  variable-same : (e : ℕ) (name : List ℕ) → variable_of edges one e name ≡ variable_of edges other e name
  variable-same e name = ap (λ text. if (edge_at edges e).is_phony then [] else text) (same e name)

  response-same : (e : ℕ) → response_of edges one e ≡ response_of edges other e
  response-same e =
      ap (λ name. content_of name (variable_of edges one e (codes "rspfile_content")))
      (variable-same e (codes "rspfile"))
      ∙ ap (content_of (variable_of edges other e (codes "rspfile")))
      (variable-same e (codes "rspfile_content"))

  fields-same : (keys : ℕ → List ℕ) (e : ℕ)
      → fields_of folders edges one keys e ≡ fields_of folders edges other keys e
  fields-same keys e = rw (
    response-same e,
    variable-same e (codes "command"),
    variable-same e (codes "rspfile"),
  ) refl

  key-same : {e : ℕ} {key : List ℕ} → IsKey folders edges one e key → IsKey folders edges other e key
  key-same (digest {e = e} keys made) =
      subst (IsKey folders edges other e) (ap (λ fields. sha256 (fields_text fields))
      (sym (fields-same keys e)))
      (digest keys (λ f needs. key-same (made f needs)))

pub change-no-key : DiscoveriesChangeNoKey
change-no-key folders named stated e key =
    let before = paths_of_edges (edges_read stated) in
    let after = with_named named stated in (
      λ is. subst (λ es. IsKey folders es after e key) (sym (edges-same named stated))
          (key-same folders before stated after (λ e name. sym (late-same named stated e name)) is),
      λ is. key-same folders before after stated (late-same named stated)
          (subst (λ es. IsKey folders es after e key) (edges-same named stated) is),
    )
