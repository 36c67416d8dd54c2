-- The additions of a build statement.
use Rattle.std.proofs.Common.{◌≡◌, ℕ, Bool, List, [], ◌∷◌, ◌++◌, length, sym, ap, subst, ◌∙◌}
use Rattle.nj_manifest.specs.Statements.{OutputsModel, InputsModel}
use Rattle.nj_scope.specs.Readings.{IsPrefix}
use Rattle.nj_edges.specs.declared.edges.KindEnds.{KindEnds}
use Rattle.nj_edges.specs.Edges.{EdgePaths}
use Rattle.nj_edges.specs.EdgeTables.{EdgeTable, OpenEdge, no_files, edge_read}
use Rattle.nj_statements.specs.EdgeList.{Values, paths_given, stated_paths, loses_own, edge_paths}
use Rattle.nj_statements.specs.Answers.{KeepsRead}
use Rattle.nj_statements.specs.Inside.EdgeSteps.{with_outputs, with_inputs, AddsInputs, AddsEdge}
use Rattle.nj_statements.proofs.Tables.{kept, outputs-open, inputs-open, validations-open, edge-is, edge-kept}

module _ (values : Values) (outputs : OutputsModel) (inputs : InputsModel) (is_phony loses : Bool)
    (t0 t1 t2 : EdgeTable) (ends : ℕ × ℕ)
    (none : t0.«open» ≡ no_files) (loses_is : loses ≡ loses_own (stated_paths values outputs inputs is_phony))
    (outputs_are : t1 ≡ with_outputs (with_outputs t0 (paths_given values outputs.explicit))
    (paths_given values outputs.implicit))
    (adds : AddsInputs loses values inputs t1 t2 ends) where
  abbrev e : List (List ℕ)
  e = paths_given values outputs.explicit

  abbrev i : List (List ℕ)
  i = paths_given values outputs.implicit

  abbrev x : List (List ℕ)
  x = kept loses (e ++ i) (paths_given values inputs.explicit)

  abbrev y : List (List ℕ)
  y = kept loses (e ++ i) (paths_given values inputs.implicit)

  abbrev z : List (List ℕ)
  z = kept loses (e ++ i) (paths_given values inputs.order_only)

  abbrev v : List (List ℕ)
  v = paths_given values inputs.validations

  abbrev last : EdgeTable
  last = with_inputs loses adds.implicit (paths_given values inputs.order_only)

  open-outputs : t1.«open» ≡ record { outputs = e ++ i; inputs = []; validations = [] }
  open-outputs =
      ap (λ (t : EdgeTable). t.«open») outputs_are ∙ outputs-open (with_outputs t0 e) i
      ∙ ap (λ (o : OpenEdge). record o { outputs = o.outputs ++ i })
      (outputs-open t0 e ∙ ap (λ (o : OpenEdge). record o { outputs = o.outputs ++ e }) none)

  open-explicit : adds.explicit.«open» ≡ record { outputs = e ++ i; inputs = x; validations = [] }
  open-explicit =
      ap (λ (t : EdgeTable). t.«open») adds.explicit_is
      ∙ inputs-open loses t1 (paths_given values inputs.explicit)
      ∙ ap (λ (o : OpenEdge). record o {
        inputs =
            o.inputs ++ kept loses o.outputs (paths_given values inputs.explicit);
      }) open-outputs

  open-implicit : adds.implicit.«open» ≡ record { outputs = e ++ i; inputs = x ++ y; validations = [] }
  open-implicit =
      ap (λ (t : EdgeTable). t.«open») adds.implicit_is
      ∙ inputs-open loses adds.explicit (paths_given values inputs.implicit)
      ∙ ap (λ (o : OpenEdge). record o {
        inputs =
            o.inputs ++ kept loses o.outputs (paths_given values inputs.implicit);
      }) open-explicit

  open-all : t2.«open» ≡ record { outputs = e ++ i; inputs = x ++ y ++ z; validations = v }
  open-all =
      ap (λ (t : EdgeTable). t.«open») adds.after_is ∙ validations-open last v
      ∙ ap (λ (o : OpenEdge). record o { validations = o.validations ++ v })
      (inputs-open loses adds.implicit (paths_given values inputs.order_only)
      ∙ ap (λ (o : OpenEdge). record o {
        inputs =
            o.inputs ++ kept loses o.outputs (paths_given values inputs.order_only);
      }) open-implicit)

  pub edge-named : (explicit : ℕ) → explicit ≡ length e
      → edge_read t2.«open» (record {
        explicit_outputs = explicit;
        explicit_inputs = ends.0;
        implicit_inputs =
            ends.1;
      }) is_phony ≡ edge_paths (stated_paths values outputs inputs is_phony)
  edge-named explicit explicit_is =
      ap (λ o. edge_read o (record {
        explicit_outputs = explicit;
        explicit_inputs = ends.0;
        implicit_inputs =
            ends.1;
      }) is_phony) open-all
      ∙ ap (λ n. edge_read (record { outputs = e ++ i; inputs = x ++ y ++ z; validations = v })
      (record { explicit_outputs = n; explicit_inputs = ends.0; implicit_inputs = ends.1 }) is_phony)
      explicit_is
      ∙ ap (λ n. edge_read (record { outputs = e ++ i; inputs = x ++ y ++ z; validations = v })
      (record { explicit_outputs = length e; explicit_inputs = n; implicit_inputs = ends.1 }) is_phony)
      (adds.explicit_end ∙ ap (λ o. length o.inputs) open-explicit)
      ∙ ap (λ n. edge_read (record { outputs = e ++ i; inputs = x ++ y ++ z; validations = v })
      (record { explicit_outputs = length e; explicit_inputs = length x; implicit_inputs = n }) is_phony)
      (adds.implicit_end ∙ ap (λ o. length o.inputs) open-implicit)
      ∙ edge-is e i x y z v is_phony
      ∙ edge-kept (stated_paths values outputs inputs is_phony) loses loses_is

-- the edge that was being read, ended
pub adds-edge : (t0 t1 t2 : EdgeTable) (kinds : KindEnds) (is_phony : Bool) (edge : EdgePaths)
    → KeepsRead t0 t1 → edge_read t1.«open» kinds is_phony ≡ edge
    → t2 ≡ record {
      files = t1.files;
      edges = t1.edges ++ edge_read t1.«open» kinds is_phony ∷ [];
      «open» =
          no_files;
    } → AddsEdge t0 t2 edge
adds-edge t0 t1 t2 kinds is_phony edge keeps names is = record {
  edges = ap (λ t. t.edges) is ∙ ap (λ es. es ++ edge_read t1.«open» kinds is_phony ∷ []) keeps.edges
      ∙ ap (λ x. t0.edges ++ x ∷ []) names;
  none_open = ap (λ t. t.«open») is;
  files = subst (λ t. IsPrefix t0.files t.files) (sym is) keeps.files;
}
