-- The answers of `why`.
use Rattle.std.proofs.Common.{◌≡◌, ◌∙◌, ◌<◌, ℕ, All, Bool, true, false, cond, Option, Some, None, List, []}
use Rattle.std.proofs.Common.{◌∷◌, map}
use Rattle.std.proofs.Common.{option_map, slice_get, unwrap_or, Ok, ap, sym, subst}
use Rattle.std.specs.Prelude.{is_none}
use Rattle.std.specs.Global.{Vec}
use Rattle.std.proofs.lemmas.List.Elements.{All-cons, All-nil}
use Rattle.nj_graph.specs.declared.FileNo.{FileNo}
use Rattle.nj_graph.specs.Files.{path_at, AreFiles}
use Rattle.nj_graph.specs.ReadingList.{ReadStatement}
use Rattle.nj_graph.specs.Graph.{GraphModel, edges_of, files_of}
use Rattle.nj_needs.specs.Growing.{grown_targets}
use Rattle.nj_graph.specs.Handles.{GraphFile}
use Rattle.nj_graph.specs.Targets.{picked}
use Rattle.nj_questions.specs.Questions.{WhyModel}
use Rattle.nj_ask.specs.declared.discovered.DiscoveredGraph.{DiscoveredGraph}
use Rattle.nj_ask.specs.declared.status.Status.TheVariants.{Fault}
use Rattle.nj_ask.specs.Answers.{AnswersWhy, HasDepfileFault, IsClear, kinds_asked, needed_from}
use Rattle.nj_ask.specs.Answers.AnswersWhy.{chain, no_chain, no_depfile, no_end, no_start}
use Rattle.nj_ask.specs.Chains.{HasChain, LacksChain}
use Rattle.nj_ask.specs.Endings.{answered, refused}
use Rattle.nj_ask.specs.Inside.AnswerParts.{SaysErr}
use Rattle.nj_ask.specs.Inside.ChainTexts.{IsChainText}
use Rattle.nj_ask.specs.Shape.{caveat_text}
use Rattle.nj_ask.proofs.LineLemmas.{files-paths}

module _ (known : DiscoveredGraph) (entries : List ReadStatement) (options : WhyModel) where
  abbrev Picks : (word path : List ℕ) → Type 0
  Picks word path = picked (edges_of known.graph) word ≡ Ok path

  abbrev Says : (word line : List ℕ) → Type 0
  Says word line = SaysErr (picked (edges_of known.graph) word) line

  abbrev files : (start : List ℕ) → List (List ℕ)
  files start = needed_from known.graph options.validations start

  pub why-no-start : (line : List ℕ) → Says options.start line
      → AnswersWhy known entries options [] (refused line Fault)
  why-no-start line says =
      subst (λ l. AnswersWhy known entries options [] (refused l Fault)) (sym says.2) (no_start says.1)

  pub why-no-end : (start : List ℕ) → Picks options.start start → (line : List ℕ) → Says options.end line
      → AnswersWhy known entries options [] (refused line Fault)
  why-no-end start from line says =
      subst (λ l. AnswersWhy known entries options [] (refused l Fault)) (sym says.2) (no_end from says.1)

  pub why-no-depfile : (start end : List ℕ) → Picks options.start start → Picks options.end end
      → (line : List ℕ) → HasDepfileFault known (files start) line
      → AnswersWhy known entries options [] (refused line Fault)
  why-no-depfile start end from to line has = no_depfile from to has

  pub why-told : (from to : GraphFile) → from.graph ≡ known.graph → Picks options.start from.path
      → Picks options.end to.path → IsClear known (files from.path)
      → (found : Option (Vec ℕ)) → IsChainText from to (kinds_asked options) known.discoveries.items found
      → (output : List ℕ) (looks : Bool) (warnings : List ℕ)
      → output ≡ unwrap_or (option_map (λ lines. lines.items) found) [] → looks ≡ is_none found
      → warnings ≡ caveat_text known entries
      → AnswersWhy known entries options output (answered looks warnings)
  why-told from to same start end clear (Some lines) is output looks warnings o l w =
      rw (o, l, w) (chain start end clear
      (subst (λ g. HasChain g known.discoveries.items (kinds_asked options) from.path to.path lines.items)
      same is))
  why-told from to same start end clear None is output looks warnings o l w =
      rw (o, l, w) (no_chain start end clear
      (subst (λ g. LacksChain g (kinds_asked options) from.path to.path) same is))

-- ---- files by numbers

-- the path of one file
pub one-path : (files : List (List ℕ)) (number : FileNo) (path : List ℕ)
    → slice_get files number.0 ≡ Some path → map (path_at files) (number ∷ []) ≡ path ∷ []
one-path files number path at = ap (λ found. unwrap_or found [] ∷ []) at

-- the number of one file
pub one-below : (count : ℕ) (number : FileNo) → number.0 < count
    → All (λ (file : FileNo). file.0 < count) (number ∷ [])
one-below count number below =
    All-cons (λ (file : FileNo). file.0 < count) number [] below (All-nil (λ (file : FileNo). file.0 < count))

module _ (g : GraphModel) (validations : Bool) (number : FileNo) (path : List ℕ)
    (at : slice_get (files_of g) number.0 ≡ Some path) where
  -- with validations
  pub needed-grown : (found : List FileNo) → validations ≡ true
      → AreFiles (files_of g) found (grown_targets (edges_of g) (map (path_at (files_of g)) (number ∷ [])))
      → map (path_at (files_of g)) found ≡ needed_from g validations path
  needed-grown found is are =
      files-paths (λ (f : FileNo). slice_get (files_of g) f.0) found
      (grown_targets (edges_of g) (map (path_at (files_of g)) (number ∷ []))) are
      ∙ ap (grown_targets (edges_of g)) (one-path (files_of g) number path at)
      ∙ ap (λ b. cond b (grown_targets (edges_of g) (path ∷ [])) (path ∷ [])) (sym is)

  -- without
  pub needed-alone : validations ≡ false
      → map (path_at (files_of g)) (number ∷ []) ≡ needed_from g validations path
  needed-alone is =
      one-path (files_of g) number path at
      ∙ ap (λ b. cond b (grown_targets (edges_of g) (path ∷ [])) (path ∷ [])) (sym is)
