-- The answers of `draw`.
use Rattle.std.proofs.Common.{◌≡◌, ◌⊎◌, ℕ, Bool, true, false, List, []}
use Rattle.std.proofs.Common.{Ok, sym, subst}
use Rattle.nj_graph.specs.ReadingList.{ReadStatement}
use Rattle.nj_questions.specs.Questions.{DrawModel}
use Rattle.nj_ask.specs.declared.discovered.DiscoveredGraph.{DiscoveredGraph}
use Rattle.nj_ask.specs.declared.status.Status.TheVariants.{Fault}
use Rattle.nj_ask.specs.Answers.{AnswersDraw, HasDepfileFault, IsClear, asked_targets}
use Rattle.nj_ask.specs.Answers.AnswersDraw.{drawing, no_depfile, no_target}
use Rattle.nj_ask.specs.Drawings.{IsDrawing}
use Rattle.nj_ask.specs.Endings.{answered, refused}
use Rattle.nj_ask.specs.Inside.AnswerParts.{SaysErr}
use Rattle.nj_ask.specs.Shape.{caveat_text}

module _ (known : DiscoveredGraph) (entries : List ReadStatement) (options : DrawModel) where
  abbrev Targets : (paths : List (List ℕ)) → Type 0
  Targets paths = asked_targets known.graph options.targets ≡ Ok paths

  abbrev Refuses : (line : List ℕ) → Type 0
  Refuses line = AnswersDraw known entries options [] (refused line Fault)

  pub draw-no-target : (line : List ℕ) → SaysErr (asked_targets known.graph options.targets) line
      → Refuses line
  draw-no-target line says = subst Refuses (sym says.2) (no_target says.1)

  pub draw-no-depfile : (paths : List (List ℕ)) → Targets paths → (line : List ℕ)
      → (options.affected ≡ false) × HasDepfileFault known paths line → Refuses line
  draw-no-depfile paths are line has = no_depfile are has.0 has.1

  pub draw-drawn : (paths : List (List ℕ)) → Targets paths → (options.affected ≡ true) ⊎ IsClear known paths
      → (output : List ℕ) → IsDrawing known options paths output → (looks : Bool) → looks ≡ false
      → (warnings : List ℕ) → warnings ≡ caveat_text known entries
      → AnswersDraw known entries options output (answered looks warnings)
  draw-drawn paths are clear output drawn looks unlooked warnings is =
      rw (unlooked, is) (drawing are clear drawn)
