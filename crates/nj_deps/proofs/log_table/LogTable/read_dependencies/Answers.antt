use Rattle.std.proofs.Common.{◌≡◌, inl, inr, ◌^◌, ◌∙◌, length, refl, subst, sym}
use Rattle.std.proofs.lemmas.Result.{IfOk-weaker}
use Rattle.nj_deps.specs.Inside.OutputsHeld.{Keeps}
use Rattle.nj_deps.specs.Inside.RecordsRead.{Adds, TableModel}
use Rattle.nj_deps.proofs.TableLemmas.{dependencies-add, no_dependencies, timed-words}
use Rattle.nj_deps.proofs.log_table.LogTable.read_dependencies.Goals as goal

pub returns-then-content-ne0 : goal.returns-then-content-ne0
returns-then-content-ne0 c = (
  (λ r is counts. no_dependencies c.args.self.now.paths c.args.content.now r
      (inl c.if-content-ne0.true) is counts),
  refl,
)

pub keep-requires-clause-words : goal.keep-requires-clause-words
keep-requires-clause-words c = timed-words c.args.content.now c.in-Some.output c.in-Some.time
    c.in-Some.inputs.now c.in-Some.ensures c.if-content-ne0.false

pub returns-in-None : goal.returns-in-None
returns-in-None c = (
  (λ r is counts. no_dependencies c.args.self.now.paths c.args.content.now r
      (inr c.in-None.ensures) is counts),
  refl,
)

pub returns-in-Some : goal.returns-in-Some
returns-in-Some c =
    let old = c.self.inside in
    let found = c.in-Some in
    let content = c.args.content.now in
    let new : TableModel = record { paths = old.paths; outputs = c.keep.new.self.outputs } in
    let count : old.outputs.count ≡ length old.paths =
    sym c.path_count.ensures.count ∙ c.if-path_count-count.false ∙ c.count.ensures.count in
    IfOk-weaker c.keep.result (Keeps found.output found.time found.inputs.now old.outputs c.keep.new.self)
    (Adds (2 ^ 31) content c.args.self.now new)
    (λ b kept. subst (λ (t : TableModel). Adds (2 ^ 31) content t new b) c.self.view_is
    (dependencies-add old.paths old.outputs c.keep.new.self found.output found.time found.inputs.now content
    found.ensures c.requires found.ensures.output_fits count c.self.invariant.1 b kept))
    c.keep.ensures.kept
