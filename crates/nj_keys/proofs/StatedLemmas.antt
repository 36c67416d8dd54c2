-- Edges without the inputs that builds discovered: what they share with the edges of the graph.
use Rattle.std.proofs.Common.{◌≡◌, ◌+◌, ◌⊎◌, inl, inr, ℕ, zero, suc, Option, Some, None, List, [], ◌∷◌, ◌++◌}
use Rattle.std.proofs.Common.{map, take, drop, refl, sym, ap, ◌∙◌, subst}
use Rattle.std.proofs.Common.{length, take-append-drop}
use Rattle.std.specs.Prelude.{codes, if◌then◌else◌, option_map, slice_get, Contains}
use Rattle.std.specs.List.{flat_map}
use Rattle.std.proofs.lemmas.List.{length-map, map-append}
use Rattle.std.proofs.lemmas.List.Elements.{Contains-append_cases, Contains-append_left}
use Rattle.std.proofs.lemmas.List.Elements.{Contains-append_right}
use Rattle.nj_graph.specs.ReadingList.{ReadStatement}
use Rattle.nj_graph.specs.declared.Kind.{Kind}
use Rattle.nj_graph.specs.declared.Kind.TheVariants.{Explicit, Implicit, OrderOnly}
use Rattle.nj_graph.specs.Edges.{EdgePaths, edge_at, inputs_of, is_among, maker_of, outputs_of}
use Rattle.nj_graph.specs.Graph.{late_text_of}
use Rattle.nj_keys.specs.Bases.{mapped}
use Rattle.nj_keys.specs.Keys.{content_of, edges_stated, field, fields_of, fields_text, input_fields}
use Rattle.nj_keys.specs.Keys.{input_text}
use Rattle.nj_keys.specs.Keys.{inputs_with_keys, number}
use Rattle.nj_keys.specs.Keys.{maker_key, response_of, variable_of, Needs}

-- an edge with as many implicit inputs as are counted
abbrev pub edge_stated : (count : Option ℕ) → EdgePaths → EdgePaths
edge_stated None e = e
edge_stated (Some count) e = record e { implicit_inputs = take count e.implicit_inputs }

abbrev no_paths : List (List ℕ)
no_paths = []

take-none : (count : ℕ) → take count no_paths ≡ no_paths
take-none zero = refl
take-none (suc count) = refl

no-edge : (count : Option ℕ) (n : ℕ) → edge_at [] n ≡ edge_stated count (edge_at [] n)
no-edge None n = refl
no-edge (Some count) n =
    ap (λ paths. record (edge_at [] n) { implicit_inputs = paths }) (sym (take-none count))

-- each edge by its number
pub edge-stated : (counts : List ℕ) (edges : List EdgePaths) (n : ℕ)
    → edge_at (edges_stated counts edges) n ≡ edge_stated (slice_get counts n) (edge_at edges n)
edge-stated [] edges n = refl
edge-stated (count ∷ counts) [] n = no-edge (slice_get (count ∷ counts) n) n
edge-stated (count ∷ counts) (e ∷ edges) zero = refl
edge-stated (count ∷ counts) (e ∷ edges) (suc n) = edge-stated counts edges n

explicit-same : (count : Option ℕ) (e : EdgePaths) → (edge_stated count e).explicit_inputs ≡ e.explicit_inputs
explicit-same None e = refl
explicit-same (Some count) e = refl

order_only-same : (count : Option ℕ) (e : EdgePaths)
    → (edge_stated count e).order_only_inputs ≡ e.order_only_inputs
order_only-same None e = refl
order_only-same (Some count) e = refl

-- their other inputs are those of the graph
pub explicit-stated : (counts : List ℕ) (edges : List EdgePaths) (n : ℕ)
    → (edge_at (edges_stated counts edges) n).explicit_inputs ≡ (edge_at edges n).explicit_inputs
explicit-stated counts edges n = ap (λ (e : EdgePaths). e.explicit_inputs) (edge-stated counts edges n)
    ∙ explicit-same (slice_get counts n) (edge_at edges n)

pub order_only-stated : (counts : List ℕ) (edges : List EdgePaths) (n : ℕ)
    → (edge_at (edges_stated counts edges) n).order_only_inputs ≡ (edge_at edges n).order_only_inputs
order_only-stated counts edges n = ap (λ (e : EdgePaths). e.order_only_inputs) (edge-stated counts edges n)
    ∙ order_only-same (slice_get counts n) (edge_at edges n)

outputs-same : (count : Option ℕ) (e : EdgePaths) → outputs_of (edge_stated count e) ≡ outputs_of e
outputs-same None e = refl
outputs-same (Some count) e = refl

pub outputs-stated : (counts : List ℕ) (edges : List EdgePaths) (n : ℕ)
    → outputs_of (edge_at (edges_stated counts edges) n) ≡ outputs_of (edge_at edges n)
outputs-stated counts edges n = ap outputs_of (edge-stated counts edges n)
    ∙ outputs-same (slice_get counts n) (edge_at edges n)

pub implicit-counted : (counts : List ℕ) (edges : List EdgePaths) (n count : ℕ)
    → slice_get counts n ≡ Some count
    → (edge_at (edges_stated counts edges) n).implicit_inputs ≡ take count (edge_at edges n).implicit_inputs
implicit-counted counts edges n count is =
    ap (λ (e : EdgePaths). e.implicit_inputs) (edge-stated counts edges n
    ∙ ap (λ c. edge_stated c (edge_at edges n)) is)

pub implicit-all : (counts : List ℕ) (edges : List EdgePaths) (n : ℕ) → slice_get counts n ≡ None
    → (edge_at (edges_stated counts edges) n).implicit_inputs ≡ (edge_at edges n).implicit_inputs
implicit-all counts edges n is =
    ap (λ (e : EdgePaths). e.implicit_inputs) (edge-stated counts edges n
    ∙ ap (λ c. edge_stated c (edge_at edges n)) is)

-- they have the same makers
pub maker-stated : (counts : List ℕ) (edges : List EdgePaths) (path : List ℕ)
    → maker_of (edges_stated counts edges) path ≡ maker_of edges path
maker-stated [] edges path = refl
maker-stated (count ∷ counts) [] path = refl
maker-stated (count ∷ counts) (e ∷ edges) path =
    ap (λ maker. if is_among (outputs_of e) path then Some 0 else option_map (λ n. n + 1) maker)
    (maker-stated counts edges path)

module _ (makers : List ℕ → Option ℕ) where
  abbrev Makes : List (List ℕ) → ℕ → Type 0
  Makes paths f = Contains (map makers paths) (Some f)

  first-part : (paths more : List (List ℕ)) (f : ℕ) → Makes paths f → Makes (paths ++ more) f
  first-part paths more f has = subst (λ ms. Contains ms (Some f)) (sym (map-append makers paths more))
      (Contains-append_left (map makers paths) (map makers more) (Some f) has)

  second-part : (paths more : List (List ℕ)) (f : ℕ) → Makes more f → Makes (paths ++ more) f
  second-part paths more f has = subst (λ ms. Contains ms (Some f)) (sym (map-append makers paths more))
      (Contains-append_right (map makers paths) (map makers more) (Some f) has)

  one-part : (paths more : List (List ℕ)) (f : ℕ) → Makes (paths ++ more) f → Makes paths f ⊎ Makes more f
  one-part paths more f has = Contains-append_cases (map makers paths) (map makers more) (Some f)
      (subst (λ ms. Contains ms (Some f)) (map-append makers paths more) has)

  taken : (count : ℕ) (paths : List (List ℕ)) (f : ℕ) → Makes (take count paths) f → Makes paths f
  taken count paths f has = subst (λ ps. Makes ps f) (take-append-drop count paths)
      (first-part (take count paths) (drop count paths) f has)

  fewer-inputs : (count : Option ℕ) (e : EdgePaths) (f : ℕ) → Makes (inputs_of (edge_stated count e)) f
      → Makes (inputs_of e) f
  fewer-inputs None e f has = has
  fewer-inputs (Some count) e f has =
      elim (one-part (e.explicit_inputs ++ take count e.implicit_inputs) e.order_only_inputs f has) [
        | inl front ↦ first-part (e.explicit_inputs ++ e.implicit_inputs) e.order_only_inputs f
            (elim (one-part e.explicit_inputs (take count e.implicit_inputs) f front) [
              | inl first ↦ first-part e.explicit_inputs e.implicit_inputs f first
              | inr second ↦ second-part e.explicit_inputs e.implicit_inputs f
                  (taken count e.implicit_inputs f second)
            ])
        | inr third ↦ second-part (e.explicit_inputs ++ e.implicit_inputs) e.order_only_inputs f third
      ]

same-makers : (makers others : List ℕ → Option ℕ) → ((path : List ℕ) → makers path ≡ others path)
    → (paths : List (List ℕ)) → map makers paths ≡ map others paths
same-makers makers others same [] = refl
same-makers makers others same (path ∷ paths) =
    ap (λ m. m ∷ map makers paths) (same path)
    ∙ ap (λ ms. others path ∷ ms) (same-makers makers others same paths)

-- what an edge needs without discovered inputs, it needs with them
pub needs-stated : (counts : List ℕ) (edges : List EdgePaths) (e f : ℕ)
    → Needs (edges_stated counts edges) e f → Needs edges e f
needs-stated counts edges e f needs =
    fewer-inputs (maker_of edges) (slice_get counts e) (edge_at edges e) f
    (subst (λ (x : EdgePaths). Contains (map (maker_of edges) (inputs_of x)) (Some f))
    (edge-stated counts edges e)
    (subst (λ ms. Contains ms (Some f)) (same-makers (maker_of (edges_stated counts edges)) (maker_of edges)
    (maker-stated counts edges) (inputs_of (edge_at (edges_stated counts edges) e))) needs))

-- ---- fields

module _ (folders : List (List ℕ)) (counts : List ℕ) (edges : List EdgePaths) (entries : List ReadStatement)
    (keys : ℕ → List ℕ) where
  abbrev fewer : List EdgePaths
  fewer = edges_stated counts edges

  inputs-of-kind : (kind : Kind) (paths : List (List ℕ))
      → map (input_fields folders fewer keys kind) paths ≡ map (input_fields folders edges keys kind) paths
  inputs-of-kind kind [] = refl
  inputs-of-kind kind (path ∷ paths) =
      ap (λ maker. (record { kind = kind; path = mapped folders path; key = maker_key keys maker })
      ∷ map (input_fields folders fewer keys kind) paths) (maker-stated counts edges path)
      ∙ ap (λ inputs. input_fields folders edges keys kind path ∷ inputs) (inputs-of-kind kind paths)

  inputs-same : (e : EdgePaths)
      → inputs_with_keys folders fewer keys e ≡ inputs_with_keys folders edges keys e
  inputs-same e = rw (
    inputs-of-kind Explicit e.explicit_inputs,
    inputs-of-kind Implicit e.implicit_inputs,
    inputs-of-kind OrderOnly e.order_only_inputs,
  ) refl

  phony-same : (count : Option ℕ) (e : EdgePaths) → (edge_stated count e).is_phony ≡ e.is_phony
  phony-same None e = refl
  phony-same (Some count) e = refl

  variable-same : (e : ℕ) (name : List ℕ)
      → variable_of fewer entries e name ≡ variable_of edges entries e name
  variable-same e name =
      ap (λ b. if b then [] else late_text_of entries e name)
      (ap (λ (x : EdgePaths). x.is_phony) (edge-stated counts edges e)
      ∙ phony-same (slice_get counts e) (edge_at edges e))

  response-same : (e : ℕ) → response_of fewer entries e ≡ response_of edges entries e
  response-same e =
      ap (λ name. content_of name (variable_of fewer entries e (codes "rspfile_content")))
      (variable-same e (codes "rspfile"))
      ∙ ap (content_of (variable_of edges entries e (codes "rspfile")))
      (variable-same e (codes "rspfile_content"))

  -- the fields of an edge, as the edges of the graph have them
  pub fields-stated : (e : ℕ) → fields_of folders fewer entries keys e ≡ record {
    command = mapped folders (variable_of edges entries e (codes "command"));
    response_file = mapped folders (variable_of edges entries e (codes "rspfile"));
    response = mapped folders (response_of edges entries e);
    outputs = map (mapped folders) (outputs_of (edge_at edges e));
    inputs = inputs_with_keys folders edges keys (edge_at fewer e);
  }
  fields-stated e = rw (
    response-same e,
    variable-same e (codes "command"),
    variable-same e (codes "rspfile"),
    outputs-stated counts edges e,
    inputs-same (edge_at fewer e),
  ) refl

-- the text of the fields of an edge, part by part
module _ (folders : List (List ℕ)) (counts : List ℕ) (edges : List EdgePaths) (entries : List ReadStatement)
    (keys : ℕ → List ℕ) (e : ℕ) where
  abbrev command : List ℕ
  command = field (mapped folders (variable_of edges entries e (codes "command")))

  abbrev file : List ℕ
  file = field (mapped folders (variable_of edges entries e (codes "rspfile")))

  abbrev response : List ℕ
  response = field (mapped folders (response_of edges entries e))

  abbrev outputs : List (List ℕ)
  outputs = outputs_of (edge_at edges e)

  abbrev outputs_text : List ℕ
  outputs_text = flat_map field (map (mapped folders) outputs)

  abbrev inputs_text : List ℕ
  inputs_text = flat_map input_text (inputs_with_keys folders edges keys
      (edge_at (edges_stated counts edges) e))

  pub text-stated : (t0 t1 t2 t3 t4 : List ℕ) → t0 ≡ [] → t1 ≡ t0 ++ command → t2 ≡ t1 ++ file ++ response
      → t3 ≡ t2 ++ number (length outputs) ++ outputs_text → t4 ≡ t3 ++ inputs_text
      → t4 ≡ fields_text (fields_of folders (edges_stated counts edges) entries keys e)
  text-stated t0 t1 t2 t3 t4 is0 is1 is2 is3 is4 =
      is4 ∙ ap (λ t. t ++ inputs_text) (is3 ∙ ap (λ t. t ++ number (length outputs) ++ outputs_text)
      (is2 ∙ ap (λ t. t ++ file ++ response) (is1 ∙ ap (λ t. t ++ command) is0)))
      ∙ ap (λ k. command ++ file ++ response ++ number k ++ outputs_text ++ inputs_text)
      (sym (length-map outputs (mapped folders)))
      ∙ sym (ap fields_text (fields-stated folders counts edges entries keys e))
