-- Two answers of `draw`.
use Rattle.std.proofs.Common.{◌≡◌, ◌⊎◌, inl, inr, ℕ, Bool, true, false, Result, Ok, List, refl, sym, ap}
use Rattle.std.proofs.Common.{subst, ◌∙◌}
use Rattle.std.proofs.lemmas.Bool.{both_ways}
use Rattle.nj_scope.specs.ReadingList.{ReadStatement}
use Rattle.nj_graph.specs.declared.GraphFault.{GraphFault}
use Rattle.nj_graph.specs.Handles.{GraphEdge, edges_in}
use Rattle.nj_questions.specs.Questions.{DrawModel}
use Rattle.nj_ask.specs.declared.discovered.DiscoveredGraph.{DiscoveredGraph}
use Rattle.nj_ask.specs.declared.status.Status.TheVariants.{Fault}
use Rattle.nj_ask.specs.Answers.{AnswersDraw, HasDepfileFault, IsClear, asked_targets}
use Rattle.nj_ask.specs.Answers.AnswersDraw.{no_target, no_depfile, drawing}
use Rattle.nj_ask.specs.DiscoveredGraphs.{IsTouched}
use Rattle.nj_ask.specs.Drawings.{IsDrawing, ListsEdges}
use Rattle.nj_ask.specs.Drawings.ListsEdges.{needed, touched}
use Rattle.nj_ask.specs.Endings.{Ending, fault_line, refused}
use Rattle.nj_one_answer.specs.Answers.{OneAffectedDrawing, OneDrawAnswer, SameDrawing, drawing_of}
use Rattle.nj_one_answer.specs.Answers.SameDrawing.{same, but_ties}
use Rattle.nj_one_answer.proofs.NeededFaults.{clear-or-fault, fault-lines-agree}
use Rattle.nj_agreement.proofs.ReachedAnswers.{nearest-agree, rising-agree}
use Rattle.nj_one_answer.proofs.WhyAnswers.{ok-or-err, same-err, same-ok}

module _ (known : DiscoveredGraph) (entries : List ReadStatement) (options : DrawModel) where
  abbrev targets : Result (List (List ℕ)) GraphFault
  targets = asked_targets known.graph options.targets

  -- drawings of edges that are listed for the same files
  lists-agree : (files : List (List ℕ)) → targets ≡ Ok files → (affected : Bool) → options.affected ≡ affected
      → (edges others : List GraphEdge) → ListsEdges known files affected edges
      → ListsEdges known files affected others → (one other : List ℕ)
      → one ≡ drawing_of known options files edges → other ≡ drawing_of known options files others
      → SameDrawing known options one other
  lists-agree files at _ off _ _ (needed {edges = es} is) (needed {edges = os} also) one other a b =
      but_ties off at (nearest-agree known.graph files es os is also) a b
  lists-agree files at _ on _ _ (touched numbers are up) (touched more are2 up2) one other a b =
      same (a ∙ ap (λ ns. drawing_of known options files (edges_in known.graph ns))
      (rising-agree (IsTouched known files) numbers more are up are2 up2) ∙ sym b)

  drawings-agree : (files : List (List ℕ)) → targets ≡ Ok files → (one other : List ℕ)
      → IsDrawing known options files one → IsDrawing known options files other
      → SameDrawing known options one other
  drawings-agree files at one other is also =
      lists-agree files at options.affected refl is.edges also.edges is.lists also.lists one other is.text_is
      also.text_is

  undrawn : (a c : List (List ℕ)) (line : List ℕ) → targets ≡ Ok a → targets ≡ Ok c
      → options.affected ≡ false → HasDepfileFault known a line
      → (options.affected ≡ true) ⊎ IsClear known c → ⊥
  undrawn a c line at at2 off has (inl on) = absurd (both_ways options.affected off on)
  undrawn a c line at at2 off has (inr clear) =
      clear-or-fault known a line (subst (IsClear known) (same-ok targets c a at2 at) clear) has

  pub answers-agree : (output other : List ℕ) (ending end : Ending)
      → AnswersDraw known entries options output ending → AnswersDraw known entries options other end
      → SameDrawing known options output other × (ending ≡ end)
  answers-agree _ _ _ _ (no_target {fault = e} bad) (no_target {fault = f} bad2) =
      (same refl, ap (λ fault. refused (fault_line fault) Fault) (same-err targets e f bad bad2))
  answers-agree _ _ _ _ (no_target {fault = e} bad) (no_depfile {paths = b} at off has) =
      absurd (ok-or-err targets b e at bad)
  answers-agree _ _ _ _ (no_target {fault = e} bad) (drawing {paths = b} at clear is) =
      absurd (ok-or-err targets b e at bad)
  answers-agree _ _ _ _ (no_depfile {paths = a} at off has) (no_target {fault = f} bad) =
      absurd (ok-or-err targets a f at bad)
  answers-agree _ _ _ _ (no_depfile {paths = a} {line = l} at off has)
      (no_depfile {paths = b} {line = m} at2 off2 has2) = (
        same refl,
        ap (λ line. refused line Fault) (fault-lines-agree known b l m
            (subst (λ paths. HasDepfileFault known paths l) (same-ok targets a b at at2) has) has2),
      )
  answers-agree _ _ _ _ (no_depfile {paths = a} {line = l} at off has) (drawing {paths = b} at2 clear is) =
      absurd (undrawn a b l at at2 off has clear)
  answers-agree _ _ _ _ (drawing {paths = a} at clear is) (no_target {fault = f} bad) =
      absurd (ok-or-err targets a f at bad)
  answers-agree _ _ _ _ (drawing {paths = a} at clear is) (no_depfile {paths = b} {line = m} at2 off has) =
      absurd (undrawn b a m at2 at off has clear)
  answers-agree _ _ _ _ (drawing {paths = a} {text = t} at clear is)
      (drawing {paths = b} {text = u} at2 clear2 also) = (
        drawings-agree b at2 t u
            (subst (λ paths. IsDrawing known options paths t) (same-ok targets a b at at2) is) also,
        refl,
      )

  untied : options.affected ≡ true → (one other : List ℕ) → SameDrawing known options one other → one ≡ other
  untied on one other (same is) = is
  untied on one other (but_ties off at ties a b) = absurd (both_ways options.affected off on)

  pub affected-agree : options.affected ≡ true → (output other : List ℕ) (ending end : Ending)
      → AnswersDraw known entries options output ending → AnswersDraw known entries options other end
      → (output ≡ other) × (ending ≡ end)
  affected-agree on output other ending end is also =
      let both = answers-agree output other ending end is also in (untied on output other both.0, both.1)

pub one-draw-answer : OneDrawAnswer
one-draw-answer known entries options output other ending end is also =
    answers-agree known entries options output other ending end is also

pub one-affected-drawing : OneAffectedDrawing
one-affected-drawing known entries options on = affected-agree known entries options on
