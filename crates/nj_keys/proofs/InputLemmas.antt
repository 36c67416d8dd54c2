-- The outputs and inputs of an edge, one after another.
use Rattle.std.proofs.Common.{◌≡◌, ℕ, List, [], ◌∷◌, ◌++◌, append_assoc, length, map, refl, sym, ap, ◌∙◌}
use Rattle.std.specs.List.{flat_map}
use Rattle.std.proofs.lemmas.Grind.{flat_map-append}
use Rattle.std.proofs.lemmas.List.{length-map}
use Rattle.nj_graph.specs.declared.Kind.{Kind}
use Rattle.nj_graph.specs.declared.Kind.TheVariants.{Explicit, Implicit, OrderOnly}
use Rattle.nj_graph.specs.Edges.{EdgePaths}
use Rattle.nj_graph.specs.Graph.{GraphModel, edges_of}
use Rattle.nj_graph.specs.Handles.{GraphFile, file_in, files_in}
use Rattle.nj_keys.specs.Bases.{mapped}
use Rattle.nj_keys.specs.Keys.{field, input_fields, input_text, inputs_with_keys, number}
use Rattle.nj_keys.specs.Inside.FileTexts.{input_texts, path_texts}

module _ (folders : List (List ℕ)) (g : GraphModel) where
  -- the paths of files in a graph
  pub paths-text : (paths : List (List ℕ))
      → path_texts folders (files_in g paths) ≡ flat_map field (map (mapped folders) paths)
  paths-text [] = refl
  paths-text (path ∷ paths) = ap (λ text. field (mapped folders path) ++ text) (paths-text paths)

  -- inputs of a kind
  kind-text : (keys : ℕ → List ℕ) (kind : Kind) (paths : List (List ℕ))
      → input_texts folders keys kind (files_in g paths)
      ≡ flat_map input_text (map (input_fields folders (edges_of g) keys kind) paths)
  kind-text keys kind [] = refl
  kind-text keys kind (path ∷ paths) =
      ap (λ text. input_text (input_fields folders (edges_of g) keys kind path) ++ text)
      (kind-text keys kind paths)

  -- all inputs
  pub inputs-text : (keys : ℕ → List ℕ) (e : EdgePaths)
      → input_texts folders keys Explicit (files_in g e.explicit_inputs)
      ++ input_texts folders keys Implicit (files_in g e.implicit_inputs)
      ++ input_texts folders keys OrderOnly (files_in g e.order_only_inputs)
      ≡ flat_map input_text (inputs_with_keys folders (edges_of g) keys e)
  inputs-text keys e = rw (
    kind-text keys Explicit e.explicit_inputs,
    kind-text keys Implicit e.implicit_inputs,
    kind-text keys OrderOnly e.order_only_inputs,
  ) (sym (simp flat_map-append))

  pub inputs-added : (keys : ℕ → List ℕ) (e : EdgePaths) (text one two three : List ℕ)
      (explicit implicit order_only : List GraphFile)
      → explicit ≡ files_in g e.explicit_inputs → implicit ≡ files_in g e.implicit_inputs
      → order_only ≡ files_in g e.order_only_inputs
      → one ≡ text ++ input_texts folders keys Explicit explicit
      → two ≡ one ++ input_texts folders keys Implicit implicit
      → three ≡ two ++ input_texts folders keys OrderOnly order_only
      → three ≡ text ++ flat_map input_text (inputs_with_keys folders (edges_of g) keys e)
  inputs-added keys e text one two three explicit implicit order_only is1 is2 is3 more1 more2 more3 =
      let a = input_texts folders keys Explicit explicit in
      let b = input_texts folders keys Implicit implicit in
      let c = input_texts folders keys OrderOnly order_only in
      let all = λ (fs gs hs : List GraphFile). text ++ (input_texts folders keys Explicit fs
      ++ input_texts folders keys Implicit gs ++ input_texts folders keys OrderOnly hs) in
      more3 ∙ ap (λ t. t ++ c) (more2 ∙ ap (λ t. t ++ b) more1 ∙ append_assoc text a b)
      ∙ append_assoc text (a ++ b) c
      ∙ ap (λ fs. all fs implicit order_only) is1
      ∙ ap (λ fs. all (files_in g e.explicit_inputs) fs order_only) is2
      ∙ ap (λ fs. all (files_in g e.explicit_inputs) (files_in g e.implicit_inputs) fs) is3
      ∙ ap (λ t. text ++ t) (inputs-text keys e)

  pub outputs-added : (paths : List (List ℕ)) (text counted new : List ℕ) (files : List GraphFile) (count : ℕ)
      → files ≡ files_in g paths → count ≡ length files → counted ≡ text ++ number count
      → new ≡ counted ++ path_texts folders files
      → new ≡ text ++ number (length paths) ++ flat_map field (map (mapped folders) paths)
  outputs-added paths text counted new files count are is first second =
      let many : count ≡ length paths = is ∙ ap length are ∙ length-map paths (file_in g) in
      second ∙ ap (λ t. t ++ path_texts folders files) first
      ∙ ap (λ n. text ++ number n ++ path_texts folders files) many
      ∙ ap (λ t. text ++ number (length paths) ++ t) (ap (path_texts folders) are ∙ paths-text paths)
