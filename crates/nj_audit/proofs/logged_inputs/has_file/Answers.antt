use Rattle.std.proofs.Common.{◌<◌, ◌∷◌, ◌++◌, [], ℕ, List, inl, inr, arith, length, map}
use Rattle.std.proofs.Common.{slice_get, take}
use Rattle.std.proofs.Common.{true≢false, refl, sym, ap, subst, ◌∙◌}
use Rattle.std.specs.Prelude.{Contains}
use Rattle.std.proofs.lemmas.List.{take_all, get_or-map, length-map}
use Rattle.std.proofs.lemmas.List.Elements.{Contains-get_or, Contains-push_cases}
use Rattle.std.proofs.lemmas.Option.{same_Some}
use Rattle.nj_graph.specs.Graph.{GraphModel, files_of}
use Rattle.nj_graph.specs.Handles.{file_in, file_of, number_of}
use Rattle.nj_graph.specs.declared.handles.File.{File}
use Rattle.nj_audit.proofs.HandleLemmas.{graph-at}
use Rattle.nj_audit.proofs.ListLemmas.{mapped-more}
use Rattle.nj_audit.proofs.logged_inputs.has_file.Goals as goal

abbrev at : File → List ℕ
at file = (file_of file).path

pub files-init : goal.files-init
files-init c = λ has. absurd (omega (arith, has.1))

pub returns-then-number : goal.returns-then-number
returns-then-number c =
    let g = c.args.file.graph.now in
    let files = c.args.files.now in
    let i = c.files.other-index in
    let item = c.other-item.result in
    let path = at c.args.file in
    let below : i < length (map at files) = omega (arith, c.files-test.true, length-map files at) in
    let of = graph-at g files i item c.other-item.is c.files-test.true c.requires in
    let same = same_Some (at item) path (sym c.number.ensures.number
    ∙ ap (λ (h : GraphModel). slice_get (files_of h) c.number.result.0) of
    ∙ ap (slice_get (files_of g)) c.if-number.true ∙ c.number-in-files.ensures.number) in
    let here = get_or-map at files i item (at item) c.files-test.true ∙ ap at (sym c.other-item.is) ∙ same
    in (
      λ is. subst (Contains (map at files)) here (Contains-get_or (map at files) i (at item) below),
      λ has. refl,
    )

pub files-preserved : goal.files-preserved
files-preserved c =
    let g = c.args.file.graph.now in
    let files = c.args.files.now in
    let i = c.files.other-index in
    let item = c.other-item.result in
    let path = at c.args.file in
    let of = graph-at g files i item c.other-item.is c.files-test.true c.requires in
    let more = ap (λ x. map at (take i files) ++ at x ∷ []) c.other-item.is
    ∙ mapped-more at files i item c.files-test.true in
    λ has. elim (Contains-push_cases (map at (take i files)) (at item) path
    (subst (λ (ps : List (List ℕ)). Contains ps path) (sym more) has)) [
      | inl before ↦ c.files.invariant before
      | inr same ↦
          let both = ap (λ (h : GraphModel). file_in h (at item)) of ∙ ap (file_in g) same in
          c.if-number.false (c.number.ensures.place ∙ ap number_of both
          ∙ sym c.number-in-files.ensures.place)
    ]

pub returns : goal.returns
returns c = (
  λ is. absurd (true≢false (sym is)),
  λ has. absurd (c.files.invariant (subst (λ files. Contains (map at files) (at c.args.file))
      (sym (take_all c.files.other-index c.args.files.now c.files-test.false)) has)),
)
