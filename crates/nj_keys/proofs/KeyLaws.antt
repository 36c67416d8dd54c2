-- An edge has at most one key, and has a key if no edge needs itself.
use Rattle.std.proofs.Common.{◌≡◌, ◌<◌, ℕ, zero, suc, Option, Some, None, List, [], ◌∷◌, ◌++◌, map, refl, sym}
use Rattle.std.proofs.Common.{ap, ◌∙◌, subst, arith}
use Rattle.std.specs.Prelude.{length, Contains}
use Rattle.std.proofs.lemmas.List.{map-append}
use Rattle.std.proofs.lemmas.List.Elements.{Contains-append_left, Contains-append_right}
use Rattle.sha2.specs.Sha256.{sha256}
use Rattle.nj_graph.specs.ReadingList.{ReadStatement}
use Rattle.nj_graph.specs.declared.Kind.{Kind}
use Rattle.nj_graph.specs.declared.Kind.TheVariants.{Explicit, Implicit, OrderOnly}
use Rattle.nj_graph.specs.Edges.{EdgePaths, edge_at, maker_of}
use Rattle.nj_graph.specs.Graph.{edges_of}
use Rattle.nj_keys.specs.Keys.{fields_of, fields_text, input_fields, inputs_with_keys, maker_key}
use Rattle.nj_keys.specs.Keys.{EdgesHaveKeys, IsKey, KeysAreUnique, Needs, edges_stated}
use Rattle.nj_keys.specs.Keys.IsKey.{digest}
use Rattle.nj_keys.proofs.StatedLemmas.{needs-stated}

contains-later : {X : Type 0} (y : X) (xs : List X) (x : X) → Contains xs x → Contains (y ∷ xs) x
contains-later y xs x (k, below, is) = (suc k, omega (arith, below), is)

module _ (folders : List (List ℕ)) (edges : List EdgePaths) (entries : List ReadStatement) where
  abbrev makers : List (List ℕ) → List (Option ℕ)
  makers paths = map (maker_of edges) paths

  in-front : (paths more : List (List ℕ)) (maker : Option ℕ) → Contains (makers paths) maker
      → Contains (makers (paths ++ more)) maker
  in-front paths more maker has =
      subst (λ ms. Contains ms maker) (sym (map-append (maker_of edges) paths more))
      (Contains-append_left (makers paths) (makers more) maker has)

  behind : (paths more : List (List ℕ)) (maker : Option ℕ) → Contains (makers more) maker
      → Contains (makers (paths ++ more)) maker
  behind paths more maker has =
      subst (λ ms. Contains ms maker) (sym (map-append (maker_of edges) paths more))
      (Contains-append_right (makers paths) (makers more) maker has)

  module _ (keys others : ℕ → List ℕ) where
    same-key : (maker : Option ℕ) → ((f : ℕ) → maker ≡ Some f → keys f ≡ others f)
        → maker_key keys maker ≡ maker_key others maker
    same-key None same = refl
    same-key (Some f) same = same f refl

    same-inputs : (kind : Kind) (paths : List (List ℕ))
        → ((f : ℕ) → Contains (makers paths) (Some f) → keys f ≡ others f)
        → map (input_fields folders edges keys kind) paths
        ≡ map (input_fields folders edges others kind) paths
    same-inputs kind [] same = refl
    same-inputs kind (path ∷ paths) same =
        let input = input_fields folders edges others kind path in
        let first = same-key (maker_of edges path) (λ f is. same f (zero, omega arith, is)) in
        let rest = same-inputs kind paths (λ f has. same f
        (contains-later (maker_of edges path) (makers paths) (Some f) has)) in
        ap (λ key. (record { kind = kind; path = input.path; key = key }) ∷ map
        (input_fields folders edges keys kind) paths) first
        ∙ ap (λ inputs. input ∷ inputs) rest

    same-fields : (e : ℕ) → ((f : ℕ) → Needs edges e f → keys f ≡ others f)
        → fields_of folders edges entries keys e ≡ fields_of folders edges entries others e
    same-fields e same =
        let paths = edge_at edges e in
        let both = paths.explicit_inputs ++ paths.implicit_inputs in
        let explicit = same-inputs Explicit paths.explicit_inputs
        (λ f has. same f (in-front both paths.order_only_inputs (Some f)
        (in-front paths.explicit_inputs paths.implicit_inputs (Some f) has))) in
        let implicit = same-inputs Implicit paths.implicit_inputs
        (λ f has. same f (in-front both paths.order_only_inputs (Some f)
        (behind paths.explicit_inputs paths.implicit_inputs (Some f) has))) in
        let order_only = same-inputs OrderOnly paths.order_only_inputs
        (λ f has. same f (behind both paths.order_only_inputs (Some f) has)) in
        let inputs : inputs_with_keys folders edges keys paths ≡ inputs_with_keys folders edges others paths =
        ap (λ is. is ++ map (input_fields folders edges keys Implicit) paths.implicit_inputs
        ++ map (input_fields folders edges keys OrderOnly) paths.order_only_inputs) explicit
        ∙ ap (λ is. map (input_fields folders edges others Explicit) paths.explicit_inputs ++ is
        ++ map (input_fields folders edges keys OrderOnly) paths.order_only_inputs) implicit
        ∙ ap (λ is. map (input_fields folders edges others Explicit) paths.explicit_inputs
        ++ map (input_fields folders edges others Implicit) paths.implicit_inputs ++ is) order_only in
        let all = fields_of folders edges entries keys e in
        ap (λ is. record {
          command = all.command;
          response_file = all.response_file;
          response = all.response;
          outputs = all.outputs;
          inputs = is;
        }) inputs

  one-key : {e : ℕ} {key other : List ℕ} → IsKey folders edges entries e key
      → IsKey folders edges entries e other → key ≡ other
  one-key (digest {e = e} keys made) (digest others also) =
      ap (λ fields. sha256 (fields_text fields))
      (same-fields keys others e (λ f needs. one-key (made f needs) (also f needs)))

  -- the key of an edge whose rank is below the fuel
  abbrev key_by : (fuel : ℕ) → (e : ℕ) → List ℕ
  key_by zero e = []
  key_by (suc fuel) e = sha256 (fields_text (fields_of folders edges entries (key_by fuel) e))

  module _ (rank : ℕ → ℕ) (falls : (e f : ℕ) → Needs edges e f → rank f < rank e) where
    is-key : (fuel e : ℕ) → rank e < fuel → IsKey folders edges entries e (key_by fuel e)
    is-key zero e below = absurd (omega (arith, below))
    is-key (suc fuel) e below = digest (key_by fuel)
        (λ f needs. is-key fuel f (omega (arith, below, falls e f needs)))

pub unique : KeysAreUnique
unique folders edges entries e key other is also = one-key folders edges entries is also

pub all : EdgesHaveKeys
all folders counts g entries graph e below =
    let edges = edges_of g in
    let stated = edges_stated counts edges in
    let rank = graph.acyclic.0 in
    let ranked = graph.acyclic.1 in (
      key_by folders stated entries (length edges) e,
      is-key folders stated entries rank (λ e f needs. ranked.falls e f (needs-stated counts edges e f needs))
          (length edges) e (ranked.bounded e below),
    )
