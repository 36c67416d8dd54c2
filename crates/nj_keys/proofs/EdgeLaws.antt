-- Edges whose fields have the same text agree, and edges with the same key have the same text, as far as
-- SHA-256 tells texts
-- apart.
use Rattle.std.proofs.Common.{◌≡◌, ◌<◌, ◌^◌, ℕ, Bool, true, false, cond, List, [], ◌∷◌, ◌++◌, map, length}
use Rattle.std.proofs.Common.{drop, get_or}
use Rattle.std.proofs.Common.{refl, sym, ap, ◌∙◌, inl, inr, append-nil, bytes_eq, All}
use Rattle.std.proofs.lemmas.Bool.{both_ways, cases_Bool}
use Rattle.std.proofs.lemmas.List.Elements.{All-head, All-tail}
use Rattle.std.proofs.lemmas.Slice.Eq.{bytes_eq-Decides}
use Rattle.sha2.specs.Sha256.{sha256}
use Rattle.nj_graph.specs.declared.Kind.{Kind}
use Rattle.nj_graph.specs.declared.Kind.TheVariants.{Explicit, Implicit, OrderOnly}
use Rattle.nj_graph.specs.Edges.{edge_at, EdgePaths}
use Rattle.nj_keys.specs.Bases.{mapped, HasNoZero}
use Rattle.nj_keys.specs.Keys.{fields_in, fields_text, input_fields, inputs_with_keys, texts_mapped, texts_of}
use Rattle.nj_keys.specs.Keys.{AreFieldsOf, EdgeTexts, Fields, HaveNoZero, InputFields, IsKey, KeysTellFields}
use Rattle.nj_keys.specs.Keys.{TextsTellEdges, TextsTellMapped, StatedEdge}
use Rattle.nj_keys.specs.Keys.IsKey.{digest}
use Rattle.nj_keys.proofs.BaseLaws.{tells}
use Rattle.nj_keys.proofs.FieldLaws.{one-way}
use Rattle.nj_keys.proofs.KeyLaws.{unique}

-- ---- inputs of a kind

abbrev is-explicit : Kind → Bool
is-explicit Explicit = true
is-explicit Implicit = false
is-explicit OrderOnly = false

abbrev is-implicit : Kind → Bool
is-implicit Explicit = false
is-implicit Implicit = true
is-implicit OrderOnly = false

abbrev is-order_only : Kind → Bool
is-order_only Explicit = false
is-order_only Implicit = false
is-order_only OrderOnly = true

-- the paths of the inputs of a kind
abbrev paths_of : (Kind → Bool) → List InputFields → List (List ℕ)
paths_of test [] = []
paths_of test (input ∷ inputs) = cond (test input.kind) (input.path ∷ paths_of test inputs)
    (paths_of test inputs)

module _ (test : Kind → Bool) where
  in-both : (is js : List InputFields) → paths_of test (is ++ js) ≡ paths_of test is ++ paths_of test js
  in-both [] js = refl
  in-both (i ∷ is) js = elim (cases_Bool (test i.kind)) [
    | inl kept ↦ ap (λ b. cond b (i.path ∷ paths_of test (is ++ js)) (paths_of test (is ++ js))) kept
        ∙ ap (λ ps. i.path ∷ ps) (in-both is js)
        ∙ ap (λ b. cond b (i.path ∷ paths_of test is) (paths_of test is) ++ paths_of test js) (sym kept)
    | inr left ↦ ap (λ b. cond b (i.path ∷ paths_of test (is ++ js)) (paths_of test (is ++ js))) left
        ∙ in-both is js
        ∙ ap (λ b. cond b (i.path ∷ paths_of test is) (paths_of test is) ++ paths_of test js) (sym left)
  ]

  module _ (folders : List (List ℕ)) (edges : List EdgePaths) (keys : ℕ → List ℕ) where
    of-kind : (kind : Kind) (paths : List (List ℕ)) → test kind ≡ true
        → paths_of test (map (input_fields folders edges keys kind) paths) ≡ map (mapped folders) paths
    of-kind kind [] passes = refl
    of-kind kind (path ∷ paths) passes =
        let inputs = map (input_fields folders edges keys kind) paths in
        ap (λ b. cond b (mapped folders path ∷ paths_of test inputs) (paths_of test inputs)) passes
        ∙ ap (λ ps. mapped folders path ∷ ps) (of-kind kind paths passes)

    of-others : (kind : Kind) (paths : List (List ℕ)) → test kind ≡ false
        → paths_of test (map (input_fields folders edges keys kind) paths) ≡ []
    of-others kind [] fails = refl
    of-others kind (path ∷ paths) fails =
        let inputs = map (input_fields folders edges keys kind) paths in
        ap (λ b. cond b (mapped folders path ∷ paths_of test inputs) (paths_of test inputs)) fails
        ∙ of-others kind paths fails

    of-each : (p : EdgePaths) → paths_of test (inputs_with_keys folders edges keys p)
        ≡ paths_of test (map (input_fields folders edges keys Explicit) p.explicit_inputs)
        ++ paths_of test (map (input_fields folders edges keys Implicit) p.implicit_inputs)
        ++ paths_of test (map (input_fields folders edges keys OrderOnly) p.order_only_inputs)
    of-each p =
        let explicit = map (input_fields folders edges keys Explicit) p.explicit_inputs in
        let implicit = map (input_fields folders edges keys Implicit) p.implicit_inputs in
        let order_only = map (input_fields folders edges keys OrderOnly) p.order_only_inputs in
        in-both (explicit ++ implicit) order_only
        ∙ ap (λ ps. ps ++ paths_of test order_only) (in-both explicit implicit)

module _ (folders : List (List ℕ)) (edges : List EdgePaths) (keys : ℕ → List ℕ) (p : EdgePaths) where
  explicit-are : paths_of is-explicit (inputs_with_keys folders edges keys p)
      ≡ map (mapped folders) p.explicit_inputs
  explicit-are =
      let test = is-explicit in
      let kept = of-kind test folders edges keys Explicit p.explicit_inputs refl in
      let implicit = of-others test folders edges keys Implicit p.implicit_inputs refl in
      let order_only = of-others test folders edges keys OrderOnly p.order_only_inputs refl in
      of-each test folders edges keys p ∙ (λ i. kept i ++ implicit i ++ order_only i)
      ∙ append-nil (map (mapped folders) p.explicit_inputs ++ [])
      ∙ append-nil (map (mapped folders) p.explicit_inputs)

  implicit-are : paths_of is-implicit (inputs_with_keys folders edges keys p)
      ≡ map (mapped folders) p.implicit_inputs
  implicit-are =
      let test = is-implicit in
      let explicit = of-others test folders edges keys Explicit p.explicit_inputs refl in
      let kept = of-kind test folders edges keys Implicit p.implicit_inputs refl in
      let order_only = of-others test folders edges keys OrderOnly p.order_only_inputs refl in
      of-each test folders edges keys p ∙ (λ i. explicit i ++ kept i ++ order_only i)
      ∙ append-nil (map (mapped folders) p.implicit_inputs)

  order_only-are : paths_of is-order_only (inputs_with_keys folders edges keys p)
      ≡ map (mapped folders) p.order_only_inputs
  order_only-are =
      let test = is-order_only in
      let explicit = of-others test folders edges keys Explicit p.explicit_inputs refl in
      let implicit = of-others test folders edges keys Implicit p.implicit_inputs refl in
      let kept = of-kind test folders edges keys OrderOnly p.order_only_inputs refl in
      of-each test folders edges keys p ∙ (λ i. explicit i ++ implicit i ++ kept i)

-- ---- edges of the same text

pub agree : TextsTellMapped
agree folders others e f keys more short also is =
    let one = fields_in folders keys e in
    let other = fields_in others more f in
    let same : one ≡ other = one-way one other short also is in
    let inputs : one.inputs ≡ other.inputs = ap (λ (fields : Fields). fields.inputs) same in
    let p = edge_at e.edges e.number in
    let q = edge_at f.edges f.number in
    let explicit = sym (explicit-are folders e.edges keys p) ∙ ap (paths_of is-explicit) inputs
    ∙ explicit-are others f.edges more q in
    let implicit = sym (implicit-are folders e.edges keys p) ∙ ap (paths_of is-implicit) inputs
    ∙ implicit-are others f.edges more q in
    let order_only = sym (order_only-are folders e.edges keys p) ∙ ap (paths_of is-order_only) inputs
    ∙ order_only-are others f.edges more q in
    λ i. record {
      command = (same i).command;
      response_file = (same i).response_file;
      response = (same i).response;
      outputs = (same i).outputs;
      explicit_inputs = explicit i;
      implicit_inputs = implicit i;
      order_only_inputs = order_only i;
    }

-- ---- with the same directories

module _ (folders : List (List ℕ)) (few : length folders < 2 ^ 64) where
  all-told : (one other : List (List ℕ)) → All HasNoZero one → All HasNoZero other
      → map (mapped folders) one ≡ map (mapped folders) other → one ≡ other
  all-told [] [] none never is = refl
  all-told [] (text ∷ other) none never is = absurd cc
  all-told (text ∷ one) [] none never is = absurd cc
  all-told (text ∷ one) (also ∷ other) none never is =
      let first = tells folders text also few (All-head HasNoZero text one none)
      (All-head HasNoZero also other never) (ap (λ ts. get_or ts 0 []) is) in
      let rest = all-told one other (All-tail HasNoZero text one none) (All-tail HasNoZero also other never)
      (ap (drop 1) is) in
      ap (λ t. t ∷ one) first ∙ ap (λ ts. also ∷ ts) rest

  texts-told : (one other : EdgeTexts) → HaveNoZero one → HaveNoZero other
      → texts_mapped folders one ≡ texts_mapped folders other → one ≡ other
  texts-told one other none never is =
      let command = tells folders one.command other.command few none.command never.command
      (ap (λ (t : EdgeTexts). t.command) is) in
      let file = tells folders one.response_file other.response_file few none.response_file
      never.response_file
      (ap (λ (t : EdgeTexts). t.response_file) is) in
      let response = tells folders one.response other.response few none.response never.response
      (ap (λ (t : EdgeTexts). t.response) is) in
      let outputs = all-told one.outputs other.outputs none.outputs never.outputs
      (ap (λ (t : EdgeTexts). t.outputs) is) in
      let explicit = all-told one.explicit_inputs other.explicit_inputs none.explicit_inputs
      never.explicit_inputs
      (ap (λ (t : EdgeTexts). t.explicit_inputs) is) in
      let implicit = all-told one.implicit_inputs other.implicit_inputs none.implicit_inputs
      never.implicit_inputs
      (ap (λ (t : EdgeTexts). t.implicit_inputs) is) in
      let order_only = all-told one.order_only_inputs other.order_only_inputs none.order_only_inputs
      never.order_only_inputs (ap (λ (t : EdgeTexts). t.order_only_inputs) is) in
      λ i. record {
        command = command i;
        response_file = file i;
        response = response i;
        outputs = outputs i;
        explicit_inputs = explicit i;
        implicit_inputs = implicit i;
        order_only_inputs = order_only i;
      }

pub alike : TextsTellEdges
alike folders e f keys more few none never short also is =
    texts-told folders few (texts_of e) (texts_of f) none never
    (agree folders folders e f keys more short also is)

-- ---- edges of the same key

pub key-is : (folders : List (List ℕ)) (e : StatedEdge) (key : List ℕ) (fields : Fields)
    → IsKey folders e.edges e.entries e.number key → AreFieldsOf folders e fields
    → key ≡ sha256 (fields_text fields)
key-is folders e key fields is are =
    unique folders e.edges e.entries e.number key _ is (digest are.keys are.are_keys)
    ∙ ap (λ f. sha256 (fields_text f)) (sym are.fields_are)

pub tell : KeysTellFields
tell folders others e f key one other is also are more short small =
    let decides = bytes_eq-Decides (fields_text one) (fields_text other) in
    elim (cases_Bool (bytes_eq (fields_text one) (fields_text other))) [
      | inl same ↦ inl (one-way one other short small (decides.0 same))
      | inr differ ↦ inr (record {
        differ = λ same. both_ways (bytes_eq (fields_text one) (fields_text other)) differ (decides.1 same);
        same = sym (key-is folders e key one is are) ∙ key-is others f key other also more;
      })
    ]
