-- Which files a manifest is made from, asked twice.
use Rattle.std.proofs.Common.{◌≡◌, ℕ, Bool, Result, Ok, Err, IfOk, List}
use Rattle.std.specs.Global.{Vec}
use Rattle.nj_scope.specs.ReadingList.{ReadStatement}
use Rattle.nj_graph.specs.Graph.{GraphModel, IsGraphOf}
use Rattle.nj_ask.specs.Manifest.{IsMadeFrom}
use Rattle.nj_ask.specs.MadeFrom.{AreMadeFrom, TellMadeFrom}
use Rattle.nj_agreement.specs.Agreement.{AgreeIfOk}
use Rattle.nj_agreement.proofs.FlagAnswers.{flags-agree}

pub made-agree : {E : Type 0} (g : GraphModel) (files : List ℕ) (stated : List ReadStatement)
    → IsGraphOf g stated
    → (one other : Result (Vec Bool) E) → IfOk one (λ made. TellMadeFrom g files made.items)
    → IfOk other (λ made. TellMadeFrom g files made.items) → AgreeIfOk (λ a b. a.items ≡ b.items) one other
made-agree g files stated is (Ok a) (Ok b) tells tells2 =
    flags-agree (IsMadeFrom g stated) (AreMadeFrom g stated) (λ flags none. none) (λ x xs lacks. lacks)
    (λ x xs is flags each. each) files a.items b.items (tells stated is) (tells2 stated is)
made-agree g files stated is (Ok a) (Err f) tells tells2 = tt
made-agree g files stated is (Err e) (Ok b) tells tells2 = tt
made-agree g files stated is (Err e) (Err f) tells tells2 = tt
