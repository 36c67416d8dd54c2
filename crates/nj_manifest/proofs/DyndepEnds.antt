-- Where the lines of a dyndep file leave the lexer.
use Rattle.std.proofs.Common.{arith, ◌≡◌, ℕ, Bool, true, false, Option, Some, None, Result, Ok, Err, List}
use Rattle.std.proofs.Common.{refl, sym}
use Rattle.std.proofs.Common.{ap, subst, ◌∙◌, codes}
use Rattle.nj_text.specs.declared.sign.Sign.{Sign}
use Rattle.nj_text.specs.declared.sign.Sign.TheVariants as sign
use Rattle.nj_text.specs.declared.line_start.LineStart.{LineStart}
use Rattle.nj_text.specs.declared.line_start.LineStart.TheVariants as start
use Rattle.nj_text.specs.declared.spot.Spot.{Spot}
use Rattle.nj_text.specs.Bytes.{drop_while}
use Rattle.nj_text.specs.Lines.{Line, lines_after}
use Rattle.nj_text.specs.Words.{WordModel, is_blank}
use Rattle.nj_text.specs.Calls.{State, Between, Inside, start_line_of, skip_blanks_of, sign_of, path_word_of}
use Rattle.nj_text.specs.Calls.{spot_of, fault_spot, Reply}
use Rattle.nj_manifest.specs.declared.cause.SyntaxCause.TheVariants as cause
use Rattle.nj_manifest.specs.declared.block_lines.Keys.TheVariants as keys
use Rattle.nj_manifest.specs.declared.cause.Wanted.{Wanted}
use Rattle.nj_manifest.specs.declared.cause.Wanted.TheVariants as wanted
use Rattle.nj_manifest.specs.Faults.{Fault, Placed, bad_unit}
use Rattle.nj_manifest.specs.LineSteps.{Step, called, name_next, expect_sign, section_next}
use Rattle.nj_manifest.specs.Statements.{equals_value, block}
use Rattle.nj_manifest.specs.Dyndeps.{is_same_spot, version_line, word_of_form, no_path_by, no_path}
use Rattle.nj_manifest.specs.Dyndeps.{no_section, output_next, added_inputs, EntryModel, entry_line, has_text}
use Rattle.nj_manifest.specs.Dyndeps.{if_indented, restat_block}
use Rattle.nj_manifest.specs.Inside.ParserContracts.{IsBetweenStatements}
use Rattle.nj_manifest.specs.Openings.{without_spaces}
use Rattle.nj_manifest.proofs.Choices.{unless_missing}
use Rattle.nj_manifest.proofs.EntryBlocks.{first_output, output-steps, restat_line, line_too_many, first_line}
use Rattle.nj_manifest.proofs.EntryBlocks.{block-lines}
use Rattle.nj_manifest.proofs.FormsKeys.{unless_missing-ok}
use Rattle.nj_manifest.proofs.BlockLines.{lines_weight, Begins, start-begins}
use Rattle.nj_manifest.proofs.Framing.{bind-ok, after-is, On, InLine, colon-inside}
use Rattle.nj_manifest.proofs.Framing.{name-inside, word-inside, sign-inside, section-inside, ends-line}
use Rattle.nj_manifest.proofs.Framing.{equals_value-inside}
use Rattle.nj_manifest.proofs.Framing as framing

pub oks : {A : Type 0} {x y : A} → ◌≡◌ {A = Result A Fault} (Ok x) (Ok y) → x ≡ y
oks e = cc

no_ok : {A P : Type 0} {f : Fault} {y : A} → ◌≡◌ {A = Result A Fault} (Err f) (Ok y) → P
no_ok e = absurd cc

pipe_in_line : InLine sign.Pipe
pipe_in_line l ls = (_, refl)

pipe2_in_line : InLine sign.Pipe2
pipe2_in_line l ls = (_, refl)

pipe_at_in_line : InLine sign.PipeAt
pipe_at_in_line l ls = (_, refl)

-- ---- parts of a line

module _ (l : Line) (ls : List Line) where
  skip-inside : (s : State) → On l ls s → On l ls (skip_blanks_of s)
  skip-inside s o = (drop_while is_blank o.0, ap skip_blanks_of o.1)

  word_of_form-inside : (word : List ℕ) (want : Wanted) (s s' : State) → On l ls s
      → word_of_form word want s ≡ Ok s' → On l ls s'
  unfolding word_of_form
  word_of_form-inside word want s s' o h =
      let n = bind-ok (name_next want s) _ s' h in
      let k = unless_missing-ok _ _ (Ok n.0.1) s' n.2 in
      subst (On l ls) (oks k.1) (name-inside want l ls s n.0 o n.1)

  pub no_path-called : (spot : Spot) (r : Reply (Option WordModel)) (s' : State) → no_path_by spot r ≡ Ok s'
      → called r ≡ Ok (None, s')
  no_path-called spot (Ok (None, after)) s' h = ap (λ (s : State). Ok (None, s)) (oks h)
  no_path-called spot (Ok (Some word, after)) s' h = no_ok h
  no_path-called spot (Err unit) s' h = by_test (is_same_spot (fault_spot unit) spot) h
    where
      by_test : (t : Bool) → ◌≡◌ {A = Result State Fault}
          (unless_missing t (Placed spot cause.DyndepShape) (Err (bad_unit unit))) (Ok s')
          → ◌≡◌ {A = Step (Option WordModel)} (Err (bad_unit unit)) (Ok (None, s'))
      by_test true g = no_ok g
      by_test false g = no_ok g

  no_path-inside : (s s' : State) → On l ls s → no_path s ≡ Ok s' → On l ls s'
  unfolding no_path
  no_path-inside s s' o h =
      let here = skip_blanks_of s in
      word-inside l ls here (None, s') (skip-inside s o)
      (no_path-called (spot_of here) (path_word_of here) s' h)

  no_section-inside : (want : Sign) (s s' : State) → InLine want → On l ls s → no_section want s ≡ Ok s'
      → On l ls s'
  unfolding no_section
  no_section-inside want s s' i o h =
      let there = bind-ok (called (sign_of want (skip_blanks_of s))) _ s' h in
      let k = unless_missing-ok _ _ (Ok there.0.1) s' there.2 in
      subst (On l ls) (oks k.1) (sign-inside want l ls (skip_blanks_of s) there.0 i (skip-inside s o) there.1)

  pub first_output-after : (found : Option WordModel) (after : State) (y : WordModel × State)
      → first_output found after ≡ Ok y → after ≡ y.1
  first_output-after (Some word) after y h = after-is word after y h
  first_output-after None after y h =
      let pipe = bind-ok (called (sign_of sign.Pipe after)) _ y h in
      no_ok (unless_missing-ok _ _ (Err (Placed (spot_of after) (cause.Expected wanted.Path))) y pipe.2).1

  output_next-inside : (s : State) (y : WordModel × State) → On l ls s → output_next s ≡ Ok y → On l ls y.1
  output_next-inside s y o h =
      let found = bind-ok (called (path_word_of s)) _ y (sym (output-steps s) ∙ h) in
      let out = bind-ok (first_output found.0.0 found.0.1) _ y found.2 in
      let end = bind-ok (no_path out.0.1) (λ end. Ok (out.0.0, end)) y out.2 in
      let at_word = word-inside l ls s found.0 o found.1 in
      let at_out = subst (On l ls) (first_output-after found.0.0 found.0.1 out.0 out.1) at_word in
      subst (On l ls) (after-is out.0.0 end.0 y end.2) (no_path-inside out.0.1 end.0 at_out end.1)

  added_inputs-inside : (s : State) (y : List WordModel × State) → On l ls s → added_inputs s ≡ Ok y
      → framing.Ended l ls y.1
  unfolding added_inputs
  added_inputs-inside s y o h =
      let alone = bind-ok (no_path s) _ y h in
      let ins = bind-ok (section_next sign.Pipe alone.0) _ y alone.2 in
      let order_only = bind-ok (no_section sign.Pipe2 ins.0.1) _ y ins.2 in
      let validations = bind-ok (no_section sign.PipeAt order_only.0) _ y order_only.2 in
      let at_ins = section-inside sign.Pipe l ls alone.0 ins.0 pipe_in_line
      (no_path-inside s alone.0 o alone.1) ins.1 in
      let at_end = no_section-inside sign.PipeAt order_only.0 validations.0 pipe_at_in_line
      (no_section-inside sign.Pipe2 ins.0.1 order_only.0 pipe2_in_line at_ins order_only.1) validations.1
      in
      ends-line l ls ins.0.0 validations.0 y at_end validations.2

  entry_line-inside : (s : State) (y : EntryModel × State) → On l ls s → entry_line s ≡ Ok y
      → framing.Ended l ls y.1
  unfolding entry_line
  entry_line-inside s y o h =
      let build = bind-ok (word_of_form (codes "build") wanted.Statement s) _ y h in
      let out = bind-ok (output_next build.0) _ y build.2 in
      let outs = bind-ok (section_next sign.Pipe out.0.1) _ y out.2 in
      let colon = bind-ok (expect_sign sign.Colon wanted.Colon outs.0.1) _ y outs.2 in
      let rule = bind-ok (word_of_form (codes "dyndep") wanted.CommandName colon.0) _ y colon.2 in
      let ins = bind-ok (added_inputs rule.0)
      (λ ins. Ok (record { out = out.0.0; outs = outs.0.0; ins = ins.0; restat = false }, ins.1)) y rule.2
      in
      let at_out = output_next-inside build.0 out.0
      (word_of_form-inside (codes "build") wanted.Statement s build.0 o build.1) out.1 in
      let at_outs = section-inside sign.Pipe l ls out.0.1 outs.0 pipe_in_line at_out outs.1 in
      let at_colon = colon-inside wanted.Colon l ls outs.0.1 colon.0 at_outs colon.1 in
      let at_rule = word_of_form-inside (codes "dyndep") wanted.CommandName colon.0 rule.0 at_colon rule.1 in
      sym (after-is (record { out = out.0.0; outs = outs.0.0; ins = ins.0.0; restat = false }) ins.0.1 y
      ins.2) ∙ added_inputs-inside rule.0 ins.0 at_rule ins.1

  version_line-inside : (s s' : State) → On l ls s → version_line s ≡ Ok s' → framing.Ended l ls s'
  unfolding version_line
  version_line-inside s s' o h =
      let name = bind-ok (name_next wanted.Statement s) _ s' h in
      let value = bind-ok (unless_missing _ _ (equals_value name.0.1)) _ s' name.2 in
      let read = unless_missing-ok _ _ (equals_value name.0.1) value.0 value.1 in
      let k = unless_missing-ok _ _ (Ok value.0.1) s' value.2 in
      sym (oks k.1) ∙ equals_value-inside l ls name.0.1 value.0
      (name-inside wanted.Statement l ls s name.0 o name.1) read.1

  pub restat_line-inside : (s : State) (y : Bool × State) → On l ls s → restat_line s ≡ Ok y
      → framing.Ended l ls y.1
  unfolding restat_line
  restat_line-inside s y o h =
      let key = bind-ok (word_of_form (codes "restat") wanted.VariableName s) _ y h in
      let value = bind-ok (equals_value key.0) (λ value. Ok (has_text value.0, value.1)) y key.2 in
      sym (after-is (has_text value.0.0) value.0.1 y value.2)
      ∙ equals_value-inside l ls key.0 value.0
      (word_of_form-inside (codes "restat") wanted.VariableName s key.0 o key.1) value.1

-- ---- whole lines

pub entry-ends : (l : Line) (ls : List Line) (y : EntryModel × State) → entry_line (Inside l ls) ≡ Ok y
    → y.1 ≡ Between (lines_after l ls)
entry-ends l ls y h = entry_line-inside l ls (Inside l ls) y (l.units, refl) h

pub version-ends : (l : Line) (ls : List Line) (s : State) → version_line (Inside l ls) ≡ Ok s
    → s ≡ Between (lines_after l ls)
version-ends l ls s h = version_line-inside l ls (Inside l ls) s (l.units, refl) h

-- ---- blocks

pub called-ok : {A : Type 0} (r : Reply A) (x : A) (s : State) → called r ≡ Ok (x, s) → r ≡ Ok (x, s)
called-ok r x s h = grind arith

-- where a line was begun, or was not
settled : (bound : Bool) (ls : List Line) (x : LineStart) (m : State) (y : Bool × State)
    (k : State → Step Bool)
    → called (start_line_of (Between ls)) ≡ Ok (x, m) → if_indented bound x m k ≡ Ok y
    → ((l : Line) (others : List Line) → m ≡ Inside (without_spaces l) others → k m ≡ Ok y
    → IsBetweenStatements y.1)
    → IsBetweenStatements y.1
settled bound ls x m y k h g indented =
    by_start x (start-begins keys.All ls (Ok (x, m)) (called-ok (start_line_of (Between ls)) x m h)) g
  where
    by_start : (x : LineStart) → Begins keys.All (lines_weight ls) (block keys.All ls) (Ok (x, m))
        → if_indented bound x m k ≡ Ok y → IsBetweenStatements y.1
    by_start start.Indented b g = indented b.0 b.1 b.2 g
    by_start start.Middle b g = absurd b
    by_start start.End b g = subst IsBetweenStatements (after-is bound m y g) b.1
    by_start start.Blank b g = subst IsBetweenStatements (after-is bound m y g) b.1
    by_start start.Plain b g = subst IsBetweenStatements (after-is bound m y g) b.1

pub too_many-fails : {P : Type 0} (m : State) (y : Bool × State) → line_too_many m ≡ Ok y → P
too_many-fails m y h = no_ok (bind-ok (name_next wanted.VariableName m) _ y h).2

pub block-ends : (ls : List Line) (y : Bool × State) → restat_block (Between ls) ≡ Ok y
    → IsBetweenStatements y.1
block-ends ls y h =
    let first = bind-ok (called (start_line_of (Between ls))) _ y (sym (block-lines (Between ls)) ∙ h) in
    settled false ls first.0.0 first.0.1 y first_line first.1 first.2
    (λ l others is g. after_line l others first.0.1 is g)
  where
    after_line : (l : Line) (others : List Line) (m : State) → m ≡ Inside (without_spaces l) others
        → first_line m ≡ Ok y
        → IsBetweenStatements y.1
    after_line l others m is g =
        let restat = bind-ok (restat_line m) _ y g in
        let second = bind-ok (called (start_line_of restat.0.1)) _ y restat.2 in
        let end : restat.0.1 ≡ Between (lines_after (without_spaces l) others) =
        restat_line-inside (without_spaces l) others m restat.0 ((without_spaces l).units, is) restat.1 in
        let begun = ap (λ (t : State). called (start_line_of t)) (sym end) ∙ second.1 in
        settled restat.0.0 (lines_after (without_spaces l) others) second.0.0 second.0.1 y line_too_many begun
        second.2
        (λ l others is g. too_many-fails second.0.1 y g)
