-- The answers of `keys`.
use Rattle.std.proofs.Common.{◌≡◌, ◌++◌, ℕ, Bool, true, false, List, [], ◌∷◌, map}
use Rattle.std.proofs.Common.{Result, Ok, None, Some, refl, sym, subst}
use Rattle.std.specs.Prelude.{codes, slice_get}
use Rattle.nj_text.specs.Paths.{clean_path_of}
use Rattle.nj_graph.specs.ReadingList.{ReadStatement}
use Rattle.nj_graph.specs.Edges.{EdgePaths}
use Rattle.nj_graph.specs.Handles.{GraphFiles}
use Rattle.nj_keys.specs.Pages.{leads}
use Rattle.nj_keys.specs.Keys.{HaveKeys, all_commands}
use Rattle.nj_keys.specs.declared.pages.EdgeKey.{EdgeKey}
use Rattle.nj_keys.specs.declared.pages.KeyPage.{KeyPage}
use Rattle.nj_questions.specs.Questions.{KeysModel}
use Rattle.nj_ask.specs.declared.discovered.DiscoveredGraph.{DiscoveredGraph}
use Rattle.nj_ask.specs.declared.status.Status.TheVariants.{Fault}
use Rattle.nj_ask.specs.declared.answer.Answer.{Answer}
use Rattle.nj_ask.specs.declared.doubts.EdgeFault.{EdgeFault}
use Rattle.nj_ask.specs.declared.failure.Failure.{Failure}
use Rattle.nj_ask.specs.Answers.{AnswersAllKeys, AnswersKeys, AnswersTargetKeys, HasDepfileFault, IsClear}
use Rattle.nj_ask.specs.Answers.{asked_targets, files_at, keys_text, manifest_edges}
use Rattle.nj_ask.specs.Answers.AnswersAllKeys.{bad_depfile, every}
use Rattle.nj_ask.specs.Answers.AnswersKeys.{of_all, of_targets}
use Rattle.nj_ask.specs.Answers.AnswersTargetKeys.{no_depfile, no_target, out_of_range, page}
use Rattle.nj_ask.specs.Endings.{answered, program_line, refused}
use Rattle.nj_ask.specs.Inside.AnswerParts.{IsPageOf, SaysErr}
use Rattle.nj_ask.specs.Inside.Failures.{Gives}
use Rattle.nj_ask.proofs.PartLemmas.{gives-weaker}
use Rattle.nj_ask.specs.Pages.{mark_line}
use Rattle.nj_ask.specs.Shape.{caveat_text}

-- a list without a first element is empty
pub nothing-first : {A : Type 0} (xs : List A) → slice_get xs 0 ≡ None → xs ≡ []
nothing-first [] none = refl
nothing-first (x ∷ xs) none = absurd cc

module _ (known : DiscoveredGraph) (entries : List ReadStatement) (options : KeysModel)
    (contents : List (List ℕ))
    (mark : List ℕ) where
  abbrev Targets : (paths : List (List ℕ)) → Type 0
  Targets paths = asked_targets known.graph options.targets ≡ Ok paths

  abbrev Refuses : (line : List ℕ) → Type 0
  Refuses line = AnswersTargetKeys known entries options contents mark [] (refused line Fault)

  pub keys-no-target : (line : List ℕ) → SaysErr (asked_targets known.graph options.targets) line
      → Refuses line
  keys-no-target line says = subst Refuses (sym says.2) (no_target says.1)

  pub keys-no-depfile : (paths : List (List ℕ)) → Targets paths → (line : List ℕ)
      → HasDepfileFault known paths line → Refuses line
  keys-no-depfile paths are line has = no_depfile are has

  pub keys-lost : (files : GraphFiles) → files.graph ≡ known.graph → Targets files.paths
      → IsClear known files.paths → (line : List ℕ)
      → (leads files mark ≡ false) × (line ≡ program_line (codes "mark out of range")) → Refuses line
  keys-lost files same are clear line says =
      subst Refuses (sym says.1) (out_of_range are clear
      (subst (λ g. leads (files_at g files.paths) mark ≡ false) same says.0))

  -- the keys of a page
  pub keys-page : (files : GraphFiles) → files.graph ≡ known.graph → Targets files.paths
      → IsClear known files.paths → (folders : List (List ℕ)) → folders ≡ map clean_path_of options.bases
      → (additions : List (List ℕ)) → additions ≡ options.additions ++ contents
      → (edges : List EdgePaths) → edges ≡ manifest_edges known
      → (written : KeyPage) → IsPageOf files edges entries additions folders mark options.take written
      → (output : List ℕ) (looks : Bool) (warnings : List ℕ)
      → output ≡ keys_text known entries options written.keys.items → looks ≡ false
      → warnings ≡ mark_line written.mark ++ caveat_text known entries
      → AnswersTargetKeys known entries options contents mark output (answered looks warnings)
  keys-page files same are clear folders bases additions added edges stated written is output looks warnings o
      l w =
      let there = subst (λ g. IsPageOf (files_at g files.paths) (manifest_edges known) entries
      (options.additions ++ contents)
      (map clean_path_of options.bases) mark options.take written) same
      (subst (λ es. IsPageOf files es entries (options.additions ++ contents)
      (map clean_path_of options.bases)
      mark options.take written) stated
      (subst (λ texts. IsPageOf files edges entries texts (map clean_path_of options.bases) mark options.take
      written) added
      (subst (λ ds. IsPageOf files edges entries additions ds mark options.take written) bases is))) in
      rw (o, l, w) (page written.mark are clear there.valid there.keys there.begins there.stops)

  -- the first depfile with a fault, for all keys
  pub keys-bad-depfile : (fault : EdgeFault) → slice_get known.faults.items 0 ≡ Some fault → (line : List ℕ)
      → line ≡ program_line fault.text.items
      → AnswersAllKeys known entries options contents [] (refused line Fault)
  keys-bad-depfile fault first line is =
      subst (λ l. AnswersAllKeys known entries options contents [] (refused l Fault)) (sym is)
      (bad_depfile first)

  -- all keys
  pub keys-all : known.faults.items ≡ [] → (folders : List (List ℕ))
      → folders ≡ map clean_path_of options.bases
      → (additions : List (List ℕ)) → additions ≡ options.additions ++ contents
      → (edges : List EdgePaths) → edges ≡ manifest_edges known
      → (keys : List EdgeKey) → HaveKeys additions folders edges entries (all_commands known.graph) keys
      → (output : List ℕ) (looks : Bool) (warnings : List ℕ)
      → output ≡ keys_text known entries options keys → looks ≡ false → warnings ≡ caveat_text known entries
      → AnswersAllKeys known entries options contents output (answered looks warnings)
  keys-all clear folders bases additions added edges stated keys is output looks warnings o l w =
      let there = subst (λ es. HaveKeys (options.additions ++ contents) (map clean_path_of options.bases) es
      entries (all_commands known.graph) keys) stated
      (subst (λ texts. HaveKeys texts (map clean_path_of options.bases) edges entries
      (all_commands known.graph) keys) added
      (subst (λ ds. HaveKeys additions ds edges entries (all_commands known.graph) keys) bases is)) in
      rw (o, l, w) (every clear there)

  -- the keys of the targets, or all keys
  pub targets-give : options.all ≡ false → (answer : Result Answer Failure)
      → Gives (AnswersTargetKeys known entries options contents mark) answer
      → Gives (AnswersKeys known entries options contents mark) answer
  targets-give is answer gives =
      gives-weaker (AnswersTargetKeys known entries options contents mark)
      (AnswersKeys known entries options contents mark)
      (λ output ending. of_targets is) answer gives

  pub all-give : options.all ≡ true → (answer : Result Answer Failure)
      → Gives (AnswersAllKeys known entries options contents) answer
      → Gives (AnswersKeys known entries options contents mark) answer
  all-give is answer gives =
      gives-weaker (AnswersAllKeys known entries options contents)
      (AnswersKeys known entries options contents mark)
      (λ output ending. of_all is) answer gives
