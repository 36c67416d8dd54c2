-- Lines of dyndep files: their readings and their form.
use Rattle.std.proofs.Common.{arith, ◌≡◌, ℕ, Bool, false, Option, Some, None, Ok, List, []}
use Rattle.std.proofs.Common.{refl}
use Rattle.std.proofs.Common.{sym, ap, subst, ◌∙◌, codes}
use Rattle.std.proofs.lemmas.Slice.Eq.{bytes_eq-Decides}
use Rattle.nj_text.specs.declared.sign.Sign.{Sign}
use Rattle.nj_text.specs.declared.sign.Sign.TheVariants as sign
use Rattle.nj_text.specs.Bytes.{begins_with}
use Rattle.nj_text.specs.Units.{TextUnit}
use Rattle.nj_text.specs.Lines.{Line, lines_after}
use Rattle.nj_text.specs.Words.{WordModel, is_blank, next_fault, opens_word}
use Rattle.nj_text.specs.Calls.{State, Between, is_sign, skip_blanks_of, sign_of}
use Rattle.nj_text.specs.Calls.{path_word_of, spot_of}
use Rattle.nj_manifest.specs.declared.cause.SyntaxCause.TheVariants as cause
use Rattle.nj_manifest.specs.declared.cause.Wanted.{Wanted}
use Rattle.nj_manifest.specs.declared.cause.Wanted.TheVariants as wanted
use Rattle.nj_manifest.specs.LineSteps.{called, name_next, expect_sign, words_next, section_next}
use Rattle.nj_manifest.specs.Grammar.{AreBlanks, KeywordForm, WordForm, WordsForm, SectionForm}
use Rattle.nj_manifest.specs.Dyndeps.{EntryModel, word_of_form, no_path_by, no_path, no_section, output_next}
use Rattle.nj_manifest.specs.Dyndeps.{added_inputs, entry_line}
use Rattle.nj_manifest.specs.DyndepForms.{EntryForm, EntriesAreTheForms}
use Rattle.nj_manifest.proofs.Framing.{bind-ok}
use Rattle.nj_manifest.proofs.WordLimits.{words_next-ends}
use Rattle.nj_manifest.proofs.FormsKeys.{unless_missing-ok}
use Rattle.nj_manifest.proofs.FormsTokens.{within, end_stops, colon_stops, after_skips, after-read, name-form}
use Rattle.nj_manifest.proofs.FormsTokens.{name-read, sign-left_out}
use Rattle.nj_manifest.proofs.FormsWords.{fault_after_blanks, word-form, word-read, no_word-read, words-form}
use Rattle.nj_manifest.proofs.FormsLines.{section_after-form, section_after-read, colon_after-form}
use Rattle.nj_manifest.proofs.FormsLines.{end_after_at-form, end_after-read, keyword_of, at_implicit}
use Rattle.nj_manifest.proofs.FormsLines.{pipe_is_not_end, colon_is_not_end}
use Rattle.nj_manifest.proofs.LeftmostRuns.{none_passed, skip, skip_stops}
use Rattle.nj_manifest.proofs.DyndepEnds.{oks, no_path-called, first_output-after, called-ok}
use Rattle.nj_manifest.proofs.EntryBlocks.{first_output, output-steps}

-- ---- blanks that are skipped twice

skip-skip : (us : List TextUnit) → skip (skip us) ≡ skip us
skip-skip us = none_passed is_blank (skip us) (skip_stops us)

path-skips : (s : State) → path_word_of (skip_blanks_of s) ≡ path_word_of s
path-skips s = grind (arith, skip-skip)

-- ---- no path

no_path-words : (l : Line) (ls : List Line) (s s' : State) → no_path s ≡ Ok s' → words_next s ≡ Ok ([], s')
unfolding no_path
no_path-words l ls s s' h =
    let here = skip_blanks_of s in
    words_next-ends s s' (ap called (sym (path-skips s))
    ∙ no_path-called l ls (spot_of here) (path_word_of here) s' h)

no_words : (us rest : List TextUnit) (words : List WordModel) → words ≡ [] → WordsForm us words rest
    → rest ≡ us
no_words us rest words e h = grind arith

no_path-form : (l : Line) (ls : List Line) (us : List TextUnit) (s s' : State) → s ≡ within l ls us
    → no_path s ≡ Ok s' → s' ≡ within l ls (skip us)
no_path-form l ls us s h e h1 = grind (arith, words-form, no_path-words, within, skip, no_words)

no_path-read : (l : Line) (ls : List Line) (us : List TextUnit) → next_fault (skip us) ≡ None
    → begins_with opens_word (skip us) ≡ false → no_path (within l ls us) ≡ Ok (within l ls (skip us))
unfolding no_path
no_path-read l ls us n b =
    let s = within l ls us in
    let here = skip_blanks_of s in
    let found = called-ok (path_word_of here) None (within l ls (skip us))
    (ap called (path-skips s) ∙ no_word-read l ls us n b) in
    ap (no_path_by (spot_of here)) found

-- ---- words of the form

word_of_form-form : (word : List ℕ) (want : Wanted) (l : Line) (ls : List Line) (us : List TextUnit)
    (s s' : State) → s ≡ within l ls us → word_of_form word want s ≡ Ok s'
    → (rest : List TextUnit) × KeywordForm word us rest × (s' ≡ within l ls rest)
unfolding word_of_form
word_of_form-form word want l ls us s s' e h =
    let name = bind-ok (name_next want s) _ s' h in
    let it = name-form want l ls us name.0 (ap (name_next want) (sym e) ∙ name.1) in
    let k = unless_missing-ok _ _ (Ok name.0.1) s' name.2 in
    (it.0, keyword_of word us it.0 name.0.0 it.1 k.0, sym (oks k.1) ∙ it.2)

word_of_form-read : (word : List ℕ) (want : Wanted) (l : Line) (ls : List Line) (us rest : List TextUnit)
    → KeywordForm word us rest → word_of_form word want (within l ls us) ≡ Ok (within l ls rest)
unfolding word_of_form
word_of_form-read word want l ls us rest f =
    rw (name-read want l ls us rest _ f.here, (bytes_eq-Decides word word).1 refl) refl

-- ---- sections that entries do not have

no_section-form : (want : Sign) (l : Line) (ls : List Line) (us : List TextUnit) (s s' : State)
    → s ≡ within l ls (skip us) → no_section want s ≡ Ok s' → s' ≡ within l ls (skip us)
unfolding no_section
no_section-form want l ls us s h e h1 = grind (
  arith,
  bind-ok,
  unless_missing-ok,
  within,
  skip,
  skip-skip,
  oks,
  sign-left_out,
)

sign-absent : (want : Sign) (l : Line) (ls : List Line) (us : List TextUnit) → next_fault us ≡ None
    → is_sign want us ≡ false → skip us ≡ us
    → called (sign_of want (within l ls us)) ≡ Ok (false, within l ls us)
sign-absent want l ls us n i e = rw (e, n, i) refl

no_section-read : (want : Sign) (l : Line) (ls : List Line) (us : List TextUnit) → next_fault (skip us) ≡ None
    → is_sign want (skip us) ≡ false → no_section want (within l ls (skip us)) ≡ Ok (within l ls (skip us))
unfolding no_section
no_section-read want l ls us n i = grind (arith, within, skip, skip-skip, sign-absent)

-- ---- an entry's line

some_output : (found : Option WordModel) (after : State) (y : WordModel × State)
    → first_output found after ≡ Ok y → found ≡ Some y.0
some_output found after y h = grind arith

output-form : (l : Line) (ls : List Line) (us : List TextUnit) (s : State) (y : WordModel × State)
    → s ≡ within l ls us → output_next s ≡ Ok y
    → (rest : List TextUnit) × WordForm us y.0 rest × (y.1 ≡ within l ls (skip rest))
output-form l ls us s y e h =
    let found = bind-ok (called (path_word_of s)) _ y (sym (output-steps s) ∙ h) in
    let first = bind-ok (first_output found.0.0 found.0.1) _ y found.2 in
    let alone = bind-ok (no_path first.0.1) (λ end. Ok (first.0.0, end)) y first.2 in
    output_from found.0 first.0 alone.0 (ap (λ (t : State). called (path_word_of t)) (sym e) ∙ found.1)
    first.1 alone.1 (oks alone.2)
  where
    output_from : (found : Option WordModel × State) (first : WordModel × State) (end : State)
        → called (path_word_of (within l ls us)) ≡ Ok found → first_output found.0 found.1 ≡ Ok first
        → no_path first.1 ≡ Ok end → ◌≡◌ {A = WordModel × State} (first.0, end) y
        → (rest : List TextUnit) × WordForm us y.0 rest × (y.1 ≡ within l ls (skip rest))
    output_from found first end a b c d =
        let word : called (path_word_of (within l ls us)) ≡ Ok (Some first.0, found.1) =
        a ∙ ap (λ (w : Option WordModel). Ok (w, found.1)) (some_output found.0 found.1 first b) in
        let it = word-form l ls us first.0 found.1 word in
        let at_end = no_path-form l ls it.0 first.1 end
        (sym (first_output-after l ls found.0 found.1 first b) ∙ it.2) c in (
          it.0,
          subst (λ (r : WordModel × State). WordForm us r.0 it.0) d it.1,
          sym (ap (λ (r : WordModel × State). r.1) d) ∙ at_end,
        )

inputs-form : (l : Line) (ls : List Line) (us : List TextUnit) (s : State) (y : List WordModel × State)
    → s ≡ within l ls us → added_inputs s ≡ Ok y
    → (rest : List TextUnit) × SectionForm sign.Pipe us y.0 rest × AreBlanks rest
    × (y.1 ≡ Between (lines_after l ls))
unfolding added_inputs
inputs-form l ls us s y e h =
    let bare = bind-ok (no_path s) _ y h in
    let implicit = bind-ok (section_next sign.Pipe bare.0) _ y bare.2 in
    let order_only = bind-ok (no_section sign.Pipe2 implicit.0.1) _ y implicit.2 in
    let validations = bind-ok (no_section sign.PipeAt order_only.0) _ y order_only.2 in
    let end = bind-ok (expect_sign sign.LineEnd wanted.Newline validations.0) (λ end. Ok (implicit.0.0, end))
    y validations.2 in
    inputs_from bare.0 implicit.0 order_only.0 validations.0 end.0 bare.1 implicit.1 order_only.1
    validations.1 end.1 (oks end.2)
  where
    inputs_from : (bare : State) (implicit : List WordModel × State) (order_only validations end : State)
        → no_path s ≡ Ok bare → section_next sign.Pipe bare ≡ Ok implicit
        → no_section sign.Pipe2 implicit.1 ≡ Ok order_only
        → no_section sign.PipeAt order_only ≡ Ok validations
        → expect_sign sign.LineEnd wanted.Newline validations ≡ Ok end
        → ◌≡◌ {A = List WordModel × State} (implicit.0, end) y
        → (rest : List TextUnit) × SectionForm sign.Pipe us y.0 rest × AreBlanks rest
        × (y.1 ≡ Between (lines_after l ls))
    inputs_from bare implicit order_only validations end a b c d f g =
        let six = section_after-form sign.Pipe l ls us bare implicit.1 implicit.0 pipe_is_not_end
        (no_path-form l ls us s bare e a) b in
        let seven = no_section-form sign.Pipe2 l ls six.0 implicit.1 order_only six.2 c in
        let eight = no_section-form sign.PipeAt l ls six.0 order_only validations seven d in
        let nine = end_after_at-form l ls six.0 validations end eight f in (
          six.0,
          subst (λ (r : List WordModel × State). SectionForm sign.Pipe us r.0 six.0) g six.1,
          nine.0,
          sym (ap (λ (r : List WordModel × State). r.1) g) ∙ nine.1,
        )

entry-form : (l : Line) (ls : List Line) (us : List TextUnit) (entry : EntryModel) (s : State)
    → entry_line (within l ls us) ≡ Ok (entry, s) → EntryForm us entry × (s ≡ Between (lines_after l ls))
unfolding entry_line
entry-form l ls us entry s h =
    let build = bind-ok (word_of_form (codes "build") wanted.Statement (within l ls us)) _ (entry, s) h in
    let out = bind-ok (output_next build.0) _ (entry, s) build.2 in
    let outs = bind-ok (section_next sign.Pipe out.0.1) _ (entry, s) out.2 in
    let colon = bind-ok (expect_sign sign.Colon wanted.Colon outs.0.1) _ (entry, s) outs.2 in
    let rule = bind-ok (word_of_form (codes "dyndep") wanted.CommandName colon.0) _ (entry, s) colon.2 in
    let ins = bind-ok (added_inputs rule.0)
    (λ ins. Ok (record { out = out.0.0; outs = outs.0.0; ins = ins.0; restat = false }, ins.1)) (entry, s)
    rule.2 in
    entry_from build.0 out.0 outs.0 colon.0 rule.0 ins.0 build.1 out.1 outs.1 colon.1 rule.1 ins.1 (oks ins.2)
  where
    entry_from : (build : State) (out : WordModel × State) (outs : List WordModel × State)
        (colon rule : State) (ins : List WordModel × State)
        → word_of_form (codes "build") wanted.Statement (within l ls us) ≡ Ok build
        → output_next build ≡ Ok out → section_next sign.Pipe out.1 ≡ Ok outs
        → expect_sign sign.Colon wanted.Colon outs.1 ≡ Ok colon
        → word_of_form (codes "dyndep") wanted.CommandName colon ≡ Ok rule → added_inputs rule ≡ Ok ins
        → ◌≡◌ {A = EntryModel × State} (
          record { out = out.0; outs = outs.0; ins = ins.0; restat = false },
          ins.1,
        ) (entry, s) → EntryForm us entry × (s ≡ Between (lines_after l ls))
    entry_from build out outs colon rule ins a b c d e f g =
        let one = word_of_form-form (codes "build") wanted.Statement l ls us (within l ls us) build refl a in
        let two = output-form l ls one.0 build out one.2 b in
        let three = section_after-form sign.Pipe l ls two.0 out.1 outs.1 outs.0 pipe_is_not_end two.2 c in
        let four = colon_after-form l ls three.0 outs.1 colon three.2 d in
        let five = word_of_form-form (codes "dyndep") wanted.CommandName l ls four.0 colon rule four.2 e in
        let six = inputs-form l ls five.0 rule ins five.2 f in
        let form : EntryForm us (record { out = out.0; outs = outs.0; ins = ins.0; restat = false }) =
        record {
          after_build = one.0;
          after_out = two.0;
          after_outs = three.0;
          after_colon = four.0;
          after_rule = five.0;
          after_ins = six.0;
          keyword = one.1;
          out = two.1;
          outs = three.1;
          colon =
              four.1;
          rule = five.1;
          ins = six.1;
          end = six.2;
          no_block = refl;
        } in (
          subst (λ (r : EntryModel × State). EntryForm us r.0) g form,
          sym (ap (λ (r : EntryModel × State). r.1) g) ∙ six.3,
        )

entry-read : (l : Line) (ls : List Line) (us : List TextUnit) (entry : EntryModel) → EntryForm us entry
    → entry_line (within l ls us) ≡ Ok (entry, Between (lines_after l ls))
unfolding entry_line output_next added_inputs
entry-read l ls us entry f =
    let outs = colon_stops f.after_outs f.after_colon f.colon in
    let out = at_implicit f.outs outs in
    let end = end_stops f.after_ins f.end in
    let rule = at_implicit f.ins end in
    rw (
      word_of_form-read (codes "build") wanted.Statement l ls us f.after_build f.keyword,
      word-read l ls f.after_build f.after_out entry.out f.out
          (fault_after_blanks f.after_out out.3.no_fault),
      no_path-read l ls f.after_out out.3.no_fault out.3.no_word,
      section_after-read sign.Pipe l ls pipe_is_not_end f.outs outs.no_fault outs.no_word outs.is_pipe,
      after_skips sign.Colon wanted.Colon l ls f.after_outs,
      after-read sign.Colon wanted.Colon l ls f.after_outs f.after_colon colon_is_not_end f.colon,
      word_of_form-read (codes "dyndep") wanted.CommandName l ls f.after_colon f.after_rule f.rule,
      no_path-read l ls f.after_rule rule.3.no_fault rule.3.no_word,
      section_after-read sign.Pipe l ls pipe_is_not_end f.ins end.no_fault end.no_word end.is_pipe,
      no_section-read sign.Pipe2 l ls f.after_ins end.no_fault end.is_pipe2,
      no_section-read sign.PipeAt l ls f.after_ins end.no_fault end.is_pipe_at,
      end_after-read wanted.Newline l ls f.after_ins f.end,
    ) (ap (λ (restat : Bool). Ok (record entry { restat = restat }, Between (lines_after l ls)))
    (sym f.no_block))

pub entries_are : EntriesAreTheForms
entries_are l ls entry s = (
  λ h. entry-form l ls l.units entry s h,
  λ f. entry-read l ls l.units entry f.0
      ∙ ap (λ (t : State). Ok (entry, t)) (sym f.1),
)
