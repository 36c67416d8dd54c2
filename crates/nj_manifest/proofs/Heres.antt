-- The statement that begins where the lexer is, by its first line and its block.
use Rattle.std.proofs.Common.{arith, ◌≡◌, Some, option_map, Result, Ok, Err, List, refl, subst, ◌∙◌}
use Rattle.nj_text.specs.declared.spot.Spot.{Spot}
use Rattle.nj_text.specs.Lines.{Line, line_spot, lines_after}
use Rattle.nj_text.specs.Calls.{State, Between, Inside, Failed, spot_of}
use Rattle.nj_manifest.specs.declared.parse_fault.ParseFault.{ParseFault}
use Rattle.nj_manifest.specs.declared.parse_fault.ParseFault.TheVariants as fault
use Rattle.nj_manifest.specs.declared.statement.Statement.{Statement}
use Rattle.nj_text.specs.declared.fault.LexFault.TheVariants as lex
use Rattle.nj_manifest.specs.Faults.{Fault}
use Rattle.nj_manifest.specs.Parsers.{Fails}
use Rattle.nj_manifest.specs.LineSteps.{◌>>=◌}
use Rattle.nj_manifest.specs.Statements.{lines_from}
use Rattle.nj_manifest.specs.Inside.ParserContracts.{ParsesFrom, ParsesAt}
use Rattle.nj_manifest.specs.Contents.{statement_model, placed_model}
use Rattle.nj_manifest.specs.Grammar.{HeadModel}
use Rattle.nj_manifest.specs.Inside.Heads.{head_next, with_block, statement_here}
use Rattle.nj_manifest.proofs.Framing.{head-inside}

-- the first line, and then the statement with its block
at-head : (l : Line) (ls : List Line) (h : HeadModel) (after : State)
    → head_next (Inside l ls) ≡ Ok (h, after)
    → statement_here l ls ≡ (with_block (line_spot l) h (lines_from after) >>=
    λ item. Ok (Some (record { spot = line_spot l; item = item.0 }), item.1))
unfolding statement_here
at-head l ls h after e = rw e refl

pub fails-on : {A B : Type 0} (f : ParseFault) (x : Result A Fault) (k : A → Result B Fault) → Fails f x
    → Fails f (x >>= k)
fails-on f x k h = grind arith

pub here-ok : (before middle after : State) (h : HeadModel) (spot : Spot) (item : Statement)
    → spot ≡ spot_of before → head_next before ≡ Ok (h, middle)
    → ParsesFrom statement_model middle after (with_block spot h) (Ok item)
    → ParsesAt (option_map placed_model) before after statement_here
    (Ok (Some (record { spot = spot; item = item })))
here-ok (Between ls) middle after h spot item s e r = tt
here-ok (Failed f) middle after h spot item s e r = tt
here-ok (Inside l ls) middle after h spot item s e r =
    let i = head-inside l ls h middle e in
    let r' = subst (λ m. ParsesFrom statement_model m after (with_block spot h) (Ok item)) i r in
    let e' = subst (λ m. head_next (Inside l ls) ≡ Ok (h, m)) i e in
    let w = subst (λ p. with_block p h (lines_after l ls) ≡ Ok (statement_model item, lines_from after)) s
    r'.0 in
    (at-head l ls h (Between (lines_after l ls)) e' ∙ rw (w, s) refl, r'.1)

pub here-fails : (before middle after : State) (h : HeadModel) (spot : Spot) (f : ParseFault)
    → spot ≡ spot_of before → head_next before ≡ Ok (h, middle)
    → ParsesFrom statement_model middle after (with_block spot h) (Err f)
    → ParsesAt (option_map placed_model) before after statement_here (Err f)
here-fails (Between ls) middle after h spot f s e r = tt
here-fails (Failed g) middle after h spot f s e r = tt
here-fails (Inside l ls) middle after h spot f s e r =
    let i = head-inside l ls h middle e in
    let r' = subst (λ m. ParsesFrom statement_model m after (with_block spot h) (Err f)) i r in
    let e' = subst (λ m. head_next (Inside l ls) ≡ Ok (h, m)) i e in
    let w = subst (λ p. Fails f (with_block p h (lines_after l ls))) s r' in
    rw (at-head l ls h (Between (lines_after l ls)) e')
    (fails-on f (with_block (line_spot l) h (lines_after l ls))
    (λ item. Ok (Some (record { spot = line_spot l; item = item.0 }), item.1)) w)
