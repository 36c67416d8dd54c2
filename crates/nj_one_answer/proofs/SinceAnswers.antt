-- What is new since an older manifest.
use Rattle.std.proofs.Common.{◌≡◌, ◌⊎◌, ◌||◌, ◌++◌, inl, inr, ℕ, Bool, true, false, Some, None, Option, List}
use Rattle.std.proofs.Common.{[], ◌∷◌, All, map, refl, sym, ap, subst, ◌∙◌}
use Rattle.std.specs.Prelude.{Contains, is_some, unwrap_or}
use Rattle.std.proofs.lemmas.Bool.{both_ways}
use Rattle.std.proofs.lemmas.List.Elements.{All-cons, All-contains, All-nil, Contains-append_cases}
use Rattle.std.proofs.lemmas.Option.{same_Some}
use Rattle.nj_discovered.specs.Times.{DeclaredTimes, IsTimeOf}
use Rattle.nj_discovered.specs.declared.times.TimeFound.TheVariants.{NoAnswer}
use Rattle.nj_state.specs.FileTimesFound.{HaveTimes}
use Rattle.nj_text.specs.Paths.{clean_path_of}
use Rattle.nj_scope.specs.ReadingList.{ReadStatement}
use Rattle.nj_graph.specs.declared.EdgeNo.{EdgeNo}
use Rattle.nj_graph.specs.Edges.{EdgePaths, counted_inputs_of, edge_at, outputs_of}
use Rattle.nj_graph.specs.Graph.{GraphModel, edges_of}
use Rattle.nj_keys.specs.Keys.{ListsOfKeysAreUnique, all_commands}
use Rattle.nj_keys.specs.declared.pages.EdgeKey.{EdgeKey}
use Rattle.nj_ask.specs.declared.discovered.DiscoveredGraph.{DiscoveredGraph}
use Rattle.nj_ask.specs.Manifest.{opened_files}
use Rattle.nj_ask.specs.Settled.{AreSettled, HasCurrentOutputs, IsManifestEdge, IsSettledEdge, LacksOneTime}
use Rattle.nj_ask.specs.Settled.{Settles, are_current, hides_inputs, runs_anew}
use Rattle.nj_ask.specs.Settled.AreSettled.{settled, unsettled}
use Rattle.nj_ask.specs.Settled.HasCurrentOutputs.{timed, untimed}
use Rattle.nj_ask.specs.Settled.IsSettledEdge.{by_times, phony, unclear}
use Rattle.nj_ask.specs.Since.{AreNewCommands, IsNewSince, IsWrongLine, LacksKeys, NewModel, first_wrong}
use Rattle.nj_ask.specs.Since.{keys_in}
use Rattle.nj_ask.specs.Since.{lines_in, new_edges, wrong_line}
use Rattle.nj_ask.specs.Since.IsNewSince.{none, some}
use Rattle.nj_ask.specs.Since.LacksKeys.{wrong}
use Rattle.nj_agreement.specs.Sources.{TellAll}
use Rattle.nj_one_answer.specs.Answers.{TellIf}
use Rattle.nj_one_answer.proofs.StaleAnswers.{times-agree, told-or-not}

commands-agree : ListsOfKeysAreUnique → (g : GraphModel) (edges : List EdgePaths)
    (entries : List ReadStatement) (bases old : List (List ℕ)) (commands others : List ℕ)
    → AreNewCommands g edges entries bases old commands → AreNewCommands g edges entries bases old others
    → commands ≡ others
commands-agree unique g edges entries bases old commands others is also =
    is.new
    ∙ ap (λ (keys : List EdgeKey). map (λ (edge : EdgeNo). edge.0) (new_edges old keys))
    (unique [] bases edges entries (all_commands g) is.keys also.keys is.have also.have)
    ∙ sym also.new

-- ---- a manifest that is up to date

module _ (times : DeclaredTimes) (tells : TellAll times) where
  -- where the times of files were read, none of them has no answer
  all-read : (paths : List (List ℕ)) (found : List ℕ) → HaveTimes times paths found
      → All (λ path. ¬ IsTimeOf times path NoAnswer) paths
  all-read [] found have = All-nil (λ path. ¬ IsTimeOf times path NoAnswer)
  all-read (p ∷ paths) [] have = absurd have
  all-read (p ∷ paths) (t ∷ found) have =
      All-cons (λ path. ¬ IsTimeOf times path NoAnswer) p paths (told-or-not times tells p t have.0)
      (all-read paths found have.1)

  read-or-not : (e : EdgePaths) (outs ins : List ℕ) → HaveTimes times (outputs_of e) outs
      → HaveTimes times (counted_inputs_of e) ins → LacksOneTime times (outputs_of e ++ counted_inputs_of e)
      → ⊥
  read-or-not e outs ins made used lacks =
      by (Contains-append_cases (outputs_of e) (counted_inputs_of e) lacks.path lacks.is_one)
    where
      by : Contains (outputs_of e) lacks.path ⊎ Contains (counted_inputs_of e) lacks.path → ⊥
      by (inl there) = All-contains (λ path. ¬ IsTimeOf times path NoAnswer) (outputs_of e) lacks.path
          (all-read (outputs_of e) outs made) there lacks.none
      by (inr there) = All-contains (λ path. ¬ IsTimeOf times path NoAnswer) (counted_inputs_of e) lacks.path
          (all-read (counted_inputs_of e) ins used) there lacks.none

  current-agree : (e : EdgePaths) (a b : Bool) → HasCurrentOutputs times e a → HasCurrentOutputs times e b
      → a ≡ b
  current-agree e _ _ (timed outs ins made used) (timed outs2 ins2 made2 used2) =
      ap (λ xs. are_current xs ins) (times-agree times tells (outputs_of e) outs outs2 made made2)
      ∙ ap (are_current outs2) (times-agree times tells (counted_inputs_of e) ins ins2 used used2)
  current-agree e _ _ (timed outs ins made used) (untimed lacks) =
      absurd (read-or-not e outs ins made used lacks)
  current-agree e _ _ (untimed lacks) (timed outs ins made used) =
      absurd (read-or-not e outs ins made used lacks)
  current-agree e _ _ (untimed lacks) (untimed lacks2) = refl

  module _ (known : DiscoveredGraph) (entries : List ReadStatement) (commands : List ℕ) where
    abbrev is_phony : (edge : ℕ) → Bool
    is_phony edge = (edge_at (edges_of known.graph) edge).is_phony

    abbrev is_unclear : (edge : ℕ) → Bool
    is_unclear edge = runs_anew entries commands edge || hides_inputs known entries edge

    edge-agrees : (edge : ℕ) (a b : Bool) → IsSettledEdge known entries times commands edge a
        → IsSettledEdge known entries times commands edge b → a ≡ b
    edge-agrees edge _ _ (phony is) (phony also) = refl
    edge-agrees edge _ _ (phony is) (unclear not_phony hides) =
        absurd (both_ways (is_phony edge) not_phony is)
    edge-agrees edge _ b (phony is) (by_times not_phony clear by) =
        absurd (both_ways (is_phony edge) not_phony is)
    edge-agrees edge _ _ (unclear not_phony hides) (phony is) =
        absurd (both_ways (is_phony edge) not_phony is)
    edge-agrees edge _ _ (unclear not_phony hides) (unclear not_phony2 hides2) = refl
    edge-agrees edge _ b (unclear not_phony hides) (by_times not_phony2 clear by) =
        absurd (both_ways (is_unclear edge) clear hides)
    edge-agrees edge a _ (by_times not_phony clear by) (phony is) =
        absurd (both_ways (is_phony edge) not_phony is)
    edge-agrees edge a _ (by_times not_phony clear by) (unclear not_phony2 hides) =
        absurd (both_ways (is_unclear edge) clear hides)
    edge-agrees edge a b (by_times not_phony clear by) (by_times not_phony2 clear2 by2) =
        current-agree (edge_at (edges_of known.graph) edge) a b by by2

    settled-agree : (IsAsked : ℕ → Type 0) (a b : Bool) → AreSettled known entries times commands IsAsked a
        → AreSettled known entries times commands IsAsked b → a ≡ b
    settled-agree IsAsked _ _ (settled all) (settled all2) = refl
    settled-agree IsAsked _ _ (settled all) (unsettled {edge = e} asked is) =
        edge-agrees e true false (all e asked) is
    settled-agree IsAsked _ _ (unsettled {edge = e} asked is) (settled all) =
        edge-agrees e false true is (all e asked)
    settled-agree IsAsked _ _ (unsettled asked is) (unsettled asked2 is2) = refl

-- ---- what is new

-- it is one
pub new-agree : ListsOfKeysAreUnique → (known : DiscoveredGraph) (edges : List EdgePaths)
    (entries : List ReadStatement) (times : DeclaredTimes) (folder : List ℕ) (bases : List (List ℕ))
    (since : Option (List ℕ)) (one other : NewModel) → TellIf (is_some since) times
    → IsNewSince known edges entries times folder bases since one
    → IsNewSince known edges entries times folder bases since other → one ≡ other
new-agree unique known edges entries times folder bases _ _ _ tells none none = refl
new-agree unique known edges entries times folder bases _ one other tells (some {text = t} right are settles)
    (some right2 are2 settles2) =
    let same : one.commands ≡ other.commands =
    commands-agree unique known.graph edges entries (map clean_path_of bases) (keys_in (lines_in t))
    one.commands
    other.commands are are2 in
    ap (λ (cs : List ℕ). let n : NewModel = record { commands = cs; is_settled = one.is_settled } in n) same
    ∙ ap (λ (b : Bool). let n : NewModel = record { commands = other.commands; is_settled = b } in n)
    (settled-agree times tells known entries other.commands
    (IsManifestEdge known.graph (opened_files known.graph folder) entries) one.is_settled other.is_settled
    (subst (λ cs. Settles known (opened_files known.graph folder) entries times cs one.is_settled) same
    settles)
    settles2)

-- a text with a wrong line has no keys
pub new-or-lacking : (known : DiscoveredGraph) (edges : List EdgePaths) (entries : List ReadStatement)
    (times : DeclaredTimes) (folder : List ℕ)
    (bases : List (List ℕ)) (path since : Option (List ℕ)) (new : NewModel) (line : List ℕ)
    → IsNewSince known edges entries times folder bases since new → LacksKeys path since line → ⊥
new-or-lacking known edges entries times folder bases path _ _ line none lacks = elim lacks [ ]
new-or-lacking known edges entries times folder bases path _ _ line (some right are settles) (wrong is) =
    let both : None ≡ Some is.number = sym right ∙ is.first in cc

-- the line about it is one
pub lacking-agree : (path since : Option (List ℕ)) (line other : List ℕ) → LacksKeys path since line
    → LacksKeys path since other → line ≡ other
lacking-agree path _ line other (wrong is) (wrong also) =
    is.line_is
    ∙ ap (wrong_line (unwrap_or path [])) (same_Some is.number also.number (sym is.first ∙ also.first))
    ∙ sym also.line_is
