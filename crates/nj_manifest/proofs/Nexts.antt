-- The reading where the next statement begins.
use Rattle.std.proofs.Common.{◌≡◌, true, false, Option, Some, None, Result, Ok, Err, List, refl, sym, ap}
use Rattle.std.proofs.Common.{subst, ◌∙◌}
use Rattle.nj_text.specs.Lines.{Line}
use Rattle.nj_text.specs.Calls.{State, Between, Inside, Failed}
use Rattle.nj_manifest.specs.declared.parse_fault.ParseFault.{ParseFault}
use Rattle.nj_manifest.specs.LineSteps.{◌>>=◌}
use Rattle.nj_manifest.specs.Statements.{lines_from, statement_from, next_statement}
use Rattle.nj_manifest.specs.Openings.{Parse, opening}
use Rattle.nj_manifest.specs.Parsers.{Fails}
use Rattle.nj_manifest.specs.Inside.ParserContracts.{ParsesAt, ParsesNext, FindsOpening}
use Rattle.nj_manifest.proofs.Heres.{fails-on}

-- ---- the next statement begins where the next opening is

pub next-opens : (ls : List Line) → next_statement ls ≡ (opening ls >>= statement_from)
unfolding next_statement
next-opens ls = refl

-- ---- reading on from there

-- the reading from an opening on
module _ {A : Type 0} (from : Option Line × List Line → Parse (Option A))
    (whole : List Line → Parse (Option A)) (is : (ls : List Line) → whole ls ≡ (opening ls >>= from)) where
  pub fails-opening : (f : ParseFault) (before after : State) → FindsOpening before after (Err f)
      → Fails f (whole (lines_from before))
  fails-opening f before after h = subst (Fails f) (sym (is (lines_from before)))
      (fails-on f (opening (lines_from before)) from h)

  pub none-left : ((ls : List Line) → from (None, ls) ≡ Ok (None, ls)) → (before after : State)
      → FindsOpening before after (Ok false) → whole (lines_from before) ≡ Ok (None, lines_from after)
  none-left n before (Between ls) h = is (lines_from before) ∙ (ap (λ o. o >>= from) h.0 ∙ n ls)
  none-left n before (Inside l ls) h = absurd (apart h.2)
    where
      apart : true ≡ false → ⊥
      apart e = absurd cc
  none-left n before (Failed f) h = absurd h.1

  pub read-on : {X : Type 0} (view : X → Option A) (at : Line → List Line → Parse (Option A))
      → ((l : Line) (ls : List Line) → from (Some l, ls) ≡ at l ls)
      → (before middle after : State) (result : Result X ParseFault)
      → FindsOpening before middle (Ok true) → ParsesAt view middle after at result
      → ParsesNext view before after whole result
  read-on view at n before (Between ls) after result h p = absurd (apart h.2)
    where
      apart : false ≡ true → ⊥
      apart e = absurd cc
  read-on view at n before (Failed f) after result h p = absurd h.1
  read-on {X = X} view at n before (Inside l ls) after result h p =
      by_result result p (is (lines_from before) ∙ (ap (λ o. o >>= from) h.0 ∙ n l ls))
    where
      by_result : (r : Result X ParseFault) → ParsesAt view (Inside l ls) after at r
          → whole (lines_from before) ≡ at l ls → ParsesNext view before after whole r
      by_result (Ok x) p e = (e ∙ p.0, p.1)
      by_result (Err f) p e = subst (Fails f) (sym e) p
