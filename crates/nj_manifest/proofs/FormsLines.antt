-- The first lines of statements: their readings, and the forms of the grammar.
use Rattle.std.proofs.Common.{arith, ◌≡◌, ℕ, Bool, true, false, cond, ◌&&◌, ◌||◌, None, Result}
use Rattle.std.proofs.Common.{Ok}
use Rattle.std.proofs.Common.{List, refl, sym, ap, subst, ◌∙◌, codes}
use Rattle.std.specs.List.{list_any}
use Rattle.std.specs.Str.{bytes_eq}
use Rattle.std.proofs.lemmas.Bool.{or_from}
use Rattle.std.proofs.lemmas.Slice.Eq.{bytes_eq-Decides}
use Rattle.nj_text.specs.declared.sign.Sign.{Sign}
use Rattle.nj_text.specs.declared.sign.Sign.TheVariants as sign
use Rattle.nj_text.specs.Bytes.{begins_with}
use Rattle.nj_text.specs.Units.{TextUnit}
use Rattle.nj_text.specs.Lines.{Line, lines_after}
use Rattle.nj_text.specs.Words.{WordModel, next_fault, opens_word}
use Rattle.nj_text.specs.Calls.{State, Between, Inside, is_empty, is_sign}
use Rattle.nj_manifest.specs.declared.cause.SyntaxCause.TheVariants as cause
use Rattle.nj_manifest.specs.declared.cause.Wanted.{Wanted}
use Rattle.nj_manifest.specs.declared.cause.Wanted.TheVariants as wanted
use Rattle.nj_manifest.specs.Faults.{Fault}
use Rattle.nj_manifest.specs.LineSteps.{Step, ◌>>=◌, NameModel, name_next, expect_sign, words_next}
use Rattle.nj_manifest.specs.LineSteps.{section_next}
use Rattle.nj_manifest.specs.Statements.{OutputsModel, InputsModel, BindingModel, DefaultModel, IncludeModel}
use Rattle.nj_manifest.specs.Statements.{SubninjaModel, equals_value, outputs_next, inputs_next, targets_next}
use Rattle.nj_manifest.specs.Statements.{file_next}
use Rattle.nj_manifest.specs.Grammar.{AreBlanks, IdentifierForm, KeywordForm, keywords, WordForm, WordsForm}
use Rattle.nj_manifest.specs.Grammar.{SignForm, SectionForm, left_out, there, BuildForm, NamedForm, FileForm}
use Rattle.nj_manifest.specs.Grammar.{HeadForm, HeadModel, Alone, RuleHead, PoolHead, BuildHead}
use Rattle.nj_manifest.specs.Inside.Heads.{build_head, as_head, head_after, head_next, name_alone}
use Rattle.nj_manifest.proofs.Choices.{unless_none}
use Rattle.nj_manifest.proofs.Framing.{bind-ok, after-is, value-is}
use Rattle.nj_manifest.proofs.FormsGaps.{skip}
use Rattle.nj_manifest.proofs.FormsTokens.{within, name-form, name-read, Stops, end_stops, colon_stops}
use Rattle.nj_manifest.proofs.FormsTokens.{pipe_stops, pipe2_stops, pipe_at_stops, after_skips, after-form}
use Rattle.nj_manifest.proofs.FormsTokens.{after-read, end-form, end-read}
use Rattle.nj_manifest.proofs.FormsWords.{fault_after_blanks, word-form, word-read, words-form, words-read}
use Rattle.nj_manifest.proofs.FormsWords.{section_skips, section-form, section-read}
use Rattle.nj_manifest.proofs.FormsValues.{equals_value-form, equals_value-read}

-- a step that returns a value ends there
pub gives-it : {A : Type 0} (x : A) (s : State) (y : A) (t : State) → ◌≡◌ {A = Step A} (Ok (x, s)) (Ok (y, t))
    → (x ≡ y) × (s ≡ t)
gives-it x s y t h = (value-is x s (y, t) h, after-is x s (y, t) h)

-- where a step leads
leads_to : (one s t : State) → one ≡ s → one ≡ t → s ≡ t
leads_to one s t e f = sym e ∙ f

-- the end of the line after blanks that are passed already
end_after-form : (miss : Wanted) (l : Line) (ls : List Line) (us : List TextUnit) (s : State)
    → expect_sign sign.LineEnd miss (within l ls (skip us)) ≡ Ok s
    → AreBlanks us × (s ≡ Between (lines_after l ls))
end_after-form miss l ls us s h = end-form miss l ls us s (sym (after_skips sign.LineEnd miss l ls us) ∙ h)

pub end_after-read : (miss : Wanted) (l : Line) (ls : List Line) (us : List TextUnit) → AreBlanks us
    → expect_sign sign.LineEnd miss (within l ls (skip us)) ≡ Ok (Between (lines_after l ls))
end_after-read miss l ls us h = after_skips sign.LineEnd miss l ls us ∙ end-read miss l ls us h

-- ---- a name alone

name_alone-form : (want : Wanted) (l : Line) (ls : List Line) (us : List TextUnit) (name : NameModel)
    (s : State) → name_alone want (within l ls us) ≡ Ok (name, s)
    → (rest : List TextUnit) × IdentifierForm us name rest × AreBlanks rest × (s ≡ Between (lines_after l ls))
unfolding name_alone
name_alone-form want l ls us name s h = grind (arith, bind-ok, within, name-form, gives-it, end-form)

name_alone-read : (want : Wanted) (l : Line) (ls : List Line) (us rest : List TextUnit) (name : NameModel)
    → IdentifierForm us name rest → AreBlanks rest
    → name_alone want (within l ls us) ≡ Ok (name, Between (lines_after l ls))
unfolding name_alone
name_alone-read want l ls us rest name f e =
    rw (name-read want l ls us rest name f, end-read wanted.Newline l ls rest e) refl

-- ---- paths

unless_none-ok : {A : Type 0} (t : Bool) (want : Wanted) (s : State) (others : Result A Fault) (y : A)
    → unless_none t want s others ≡ Ok y → (t ≡ false) × (others ≡ Ok y)
unless_none-ok t want s others y h = grind arith

targets-form : (l : Line) (ls : List Line) (us : List TextUnit) (words : List WordModel) (s : State)
    → targets_next (within l ls us) ≡ Ok (words, s)
    → (rest : List TextUnit) × WordsForm us words rest × (is_empty words ≡ false) × AreBlanks rest
    × (s ≡ Between (lines_after l ls))
unfolding targets_next
targets-form l ls us words s h =
    let read = bind-ok (words_next (within l ls us)) _ (words, s) h in
    let end = bind-ok (unless_none (is_empty read.0.0) wanted.TargetName read.0.1
    (expect_sign sign.LineEnd wanted.Newline read.0.1)) (λ end. Ok (read.0.0, end)) (words, s) read.2 in
    let some = unless_none-ok (is_empty read.0.0) wanted.TargetName read.0.1
    (expect_sign sign.LineEnd wanted.Newline read.0.1) end.0 end.1 in
    let it = words-form l ls read.0.0 us read.0.1 read.1 in
    let same = gives-it read.0.0 end.0 words s end.2 in
    let ended = end_after-form wanted.Newline l ls it.0 end.0
    (ap (expect_sign sign.LineEnd wanted.Newline) (sym it.2) ∙ some.1) in (
      it.0,
      subst (λ (ws : List WordModel). WordsForm us ws it.0) same.0 it.1,
      ap is_empty (sym same.0)
          ∙ some.0,
      ended.0,
      sym same.1 ∙ ended.1,
    )

targets-read : (l : Line) (ls : List Line) (us rest : List TextUnit) (words : List WordModel)
    → WordsForm us words rest → is_empty words ≡ false → AreBlanks rest
    → targets_next (within l ls us) ≡ Ok (words, Between (lines_after l ls))
unfolding targets_next
targets-read l ls us rest words f some e =
    let stops = end_stops rest e in
    rw (words-read l ls f stops.no_fault stops.no_word, some, end_after-read wanted.Newline l ls rest e) refl

-- the end of the line after a file
abbrev file_end : WordModel × State → Step WordModel
file_end word = expect_sign sign.LineEnd wanted.Newline word.1 >>= λ end. Ok (word.0, end)

file-form : (l : Line) (ls : List Line) (us : List TextUnit) (word : WordModel) (s : State)
    → file_next (within l ls us) ≡ Ok (word, s)
    → (rest : List TextUnit) × WordForm us word rest × AreBlanks rest × (s ≡ Between (lines_after l ls))
unfolding file_next
file-form l ls us word s h = grind (arith, bind-ok, within, word-form, gives-it, end-form)

file-read : (l : Line) (ls : List Line) (us rest : List TextUnit) (word : WordModel) → WordForm us word rest
    → AreBlanks rest → file_next (within l ls us) ≡ Ok (word, Between (lines_after l ls))
unfolding file_next
file-read l ls us rest word f e = grind (
  arith,
  word-read l ls us rest word f (fault_after_blanks rest (end_stops rest e).no_fault),
  fault_after_blanks rest (end_stops rest e).no_fault,
  end_stops rest e,
  end-read wanted.Newline l ls rest e,
)

-- ---- the parts of a build statement

-- the next units before a section
at_validations : {us rest : List TextUnit} {words : List WordModel} → SectionForm sign.PipeAt us words rest
    → Stops rest false false false → (at : Bool) × Stops us false false at
at_validations left_out stops = (false, stops)
at_validations {us} (there {after = remainder} s ws) stops = (true, pipe_at_stops us remainder s)

at_order_only : {us rest : List TextUnit} {words : List WordModel} {at : Bool}
    → SectionForm sign.Pipe2 us words rest → Stops rest false false at
    → (two at : Bool) × Stops us false two at
at_order_only {at = at} left_out stops = (false, at, stops)
at_order_only {us} (there {after = remainder} s ws) stops = (true, false, pipe2_stops us remainder s)

pub at_implicit : {us rest : List TextUnit} {words : List WordModel} {two at : Bool}
    → SectionForm sign.Pipe us words rest → Stops rest false two at
    → (one two at : Bool) × Stops us one two at
at_implicit {two = two} {at = at} left_out stops = (false, two, at, stops)
at_implicit {us} (there {after = remainder} s ws) stops = (true, false, false, pipe_stops us remainder s)

pub pipe_is_not_end : sign.Pipe ≡ sign.LineEnd → ⊥
pipe_is_not_end e = absurd cc

pub pipe2_is_not_end : sign.Pipe2 ≡ sign.LineEnd → ⊥
pipe2_is_not_end e = absurd cc

pub pipe_at_is_not_end : sign.PipeAt ≡ sign.LineEnd → ⊥
pipe_at_is_not_end e = absurd cc

pub colon_is_not_end : sign.Colon ≡ sign.LineEnd → ⊥
colon_is_not_end e = absurd cc

-- a section after blanks that are passed already
pub section_after-form : (want : Sign) (l : Line) (ls : List Line) (us : List TextUnit) (s s' : State)
    (words : List WordModel) → (want ≡ sign.LineEnd → ⊥) → s ≡ within l ls (skip us)
    → section_next want s ≡ Ok (words, s')
    → (rest : List TextUnit) × SectionForm want us words rest × (s' ≡ within l ls (skip rest))
section_after-form want l ls us s h words n e h1 = grind (arith, section-form, section_skips)

pub section_after-read : (want : Sign) (l : Line) (ls : List Line) {us rest : List TextUnit}
    {words : List WordModel} → (want ≡ sign.LineEnd → ⊥) → SectionForm want us words rest
    → next_fault (skip rest) ≡ None → begins_with opens_word (skip rest) ≡ false
    → is_sign want (skip rest) ≡ false → section_next want (within l ls (skip us))
    ≡ Ok (words, within l ls (skip rest))
section_after-read want l ls {us = us} n f a b c = grind (arith, section_skips, section-read)

-- `OUTPUTS | IMPLICIT-OUTPUTS`
record OutputsForm (us : List TextUnit) (outputs : OutputsModel) (rest : List TextUnit) : Type 0 where
  pub after_explicit : List TextUnit
  pub explicit : WordsForm us outputs.explicit after_explicit
  pub implicit : SectionForm sign.Pipe after_explicit outputs.implicit rest
  pub some : (is_empty outputs.explicit && is_empty outputs.implicit) ≡ false

outputs-form : (l : Line) (ls : List Line) (us : List TextUnit) (outputs : OutputsModel) (s : State)
    → outputs_next (within l ls us) ≡ Ok (outputs, s)
    → (rest : List TextUnit) × OutputsForm us outputs rest × (s ≡ within l ls (skip rest))
unfolding outputs_next
outputs-form l ls us outputs s h =
    let explicit = bind-ok (words_next (within l ls us)) _ (outputs, s) h in
    let implicit = bind-ok (section_next sign.Pipe explicit.0.1) _ (outputs, s) explicit.2 in
    let some = unless_none-ok (is_empty explicit.0.0 && is_empty implicit.0.0) wanted.Path implicit.0.1 _
    (outputs, s) implicit.2 in
    let same = gives-it (record { explicit = explicit.0.0; implicit = implicit.0.0 }) implicit.0.1 outputs s
    some.1 in
    let one = words-form l ls explicit.0.0 us explicit.0.1 explicit.1 in
    let two = section_after-form sign.Pipe l ls one.0 explicit.0.1 implicit.0.1 implicit.0.0 pipe_is_not_end
    one.2 implicit.1 in (
      two.0,
      subst (λ (o : OutputsModel). OutputsForm us o two.0) same.0
          (record { after_explicit = one.0; explicit = one.1; implicit = two.1; some = some.0 }),
      leads_to implicit.0.1 s (within l ls (skip two.0)) same.1 two.2,
    )

outputs-read : (l : Line) (ls : List Line) (us rest : List TextUnit) (outputs : OutputsModel)
    → OutputsForm us outputs rest → Stops rest false false false
    → outputs_next (within l ls us) ≡ Ok (outputs, within l ls (skip rest))
unfolding outputs_next
outputs-read l ls us rest outputs f stops =
    let at = at_implicit f.implicit stops in
    rw (
      words-read l ls f.explicit at.3.no_fault at.3.no_word,
      section_after-read sign.Pipe l ls pipe_is_not_end f.implicit stops.no_fault stops.no_word
          stops.is_pipe,
      f.some,
    ) refl

-- `INPUTS | IMPLICIT || ORDER-ONLY |@ VALIDATIONS`
record InputsForm (us : List TextUnit) (inputs : InputsModel) (rest : List TextUnit) : Type 0 where
  pub after_explicit : List TextUnit
  pub after_implicit : List TextUnit
  pub after_order_only : List TextUnit
  pub explicit : WordsForm us inputs.explicit after_explicit
  pub implicit : SectionForm sign.Pipe after_explicit inputs.implicit after_implicit
  pub order_only : SectionForm sign.Pipe2 after_implicit inputs.order_only after_order_only
  pub validations : SectionForm sign.PipeAt after_order_only inputs.validations rest

inputs-form : (l : Line) (ls : List Line) (us : List TextUnit) (inputs : InputsModel) (s : State)
    → inputs_next (within l ls us) ≡ Ok (inputs, s)
    → (rest : List TextUnit) × InputsForm us inputs rest × (s ≡ within l ls (skip rest))
unfolding inputs_next
inputs-form l ls us inputs s h =
    let explicit = bind-ok (words_next (within l ls us)) _ (inputs, s) h in
    let implicit = bind-ok (section_next sign.Pipe explicit.0.1) _ (inputs, s) explicit.2 in
    let order_only = bind-ok (section_next sign.Pipe2 implicit.0.1) _ (inputs, s) implicit.2 in
    let validations = bind-ok (section_next sign.PipeAt order_only.0.1) _ (inputs, s) order_only.2 in
    let same = gives-it (record {
      explicit = explicit.0.0;
      implicit = implicit.0.0;
      order_only =
          order_only.0.0;
      validations = validations.0.0;
    }) validations.0.1 inputs s validations.2 in
    let one = words-form l ls explicit.0.0 us explicit.0.1 explicit.1 in
    let two = section_after-form sign.Pipe l ls one.0 explicit.0.1 implicit.0.1 implicit.0.0 pipe_is_not_end
    one.2 implicit.1 in
    let three = section_after-form sign.Pipe2 l ls two.0 implicit.0.1 order_only.0.1 order_only.0.0
    pipe2_is_not_end two.2 order_only.1 in
    let four = section_after-form sign.PipeAt l ls three.0 order_only.0.1 validations.0.1 validations.0.0
    pipe_at_is_not_end three.2 validations.1 in
    let form : InputsForm us (record {
      explicit = explicit.0.0;
      implicit = implicit.0.0;
      order_only =
          order_only.0.0;
      validations = validations.0.0;
    }) four.0 =
    record {
      after_explicit = one.0;
      after_implicit = two.0;
      after_order_only = three.0;
      explicit = one.1;
      implicit = two.1;
      order_only = three.1;
      validations = four.1;
    } in (
      four.0,
      subst (λ (i : InputsModel). InputsForm us i four.0) same.0 form,
      leads_to validations.0.1 s (within l ls (skip four.0)) same.1 four.2,
    )

inputs-read : (l : Line) (ls : List Line) (us rest : List TextUnit) (inputs : InputsModel)
    → InputsForm us inputs rest → Stops rest false false false
    → inputs_next (within l ls us) ≡ Ok (inputs, within l ls (skip rest))
unfolding inputs_next
inputs-read l ls us rest inputs f stops =
    let three = at_validations f.validations stops in
    let two = at_order_only f.order_only three.1 in
    let one = at_implicit f.implicit two.2 in
    rw (
      words-read l ls f.explicit one.3.no_fault one.3.no_word,
      section_after-read sign.Pipe l ls pipe_is_not_end f.implicit two.2.no_fault two.2.no_word two.2.is_pipe,
      section_after-read sign.Pipe2 l ls pipe2_is_not_end f.order_only three.1.no_fault three.1.no_word
          three.1.is_pipe2,
      section_after-read sign.PipeAt l ls pipe_at_is_not_end f.validations stops.no_fault stops.no_word
          stops.is_pipe_at,
    ) refl

-- ---- `build`

-- after the keyword: `OUTPUTS: RULE INPUTS`
record PartsForm (us : List TextUnit) (outputs : OutputsModel) (rule : NameModel) (inputs : InputsModel) :
    Type 0 where
  pub after_outputs : List TextUnit
  pub after_colon : List TextUnit
  pub after_rule : List TextUnit
  pub after_inputs : List TextUnit
  pub of_outputs : OutputsForm us outputs after_outputs
  pub colon : SignForm sign.Colon after_outputs after_colon
  pub of_rule : IdentifierForm after_colon rule after_rule
  pub of_inputs : InputsForm after_rule inputs after_inputs
  pub end : AreBlanks after_inputs

-- the reading of a build statement
abbrev PartsRead : Line → List Line → List TextUnit → HeadModel → State → Type 0
PartsRead l ls us head s = (outputs : OutputsModel) × (rule : NameModel) × (inputs : InputsModel)
    × PartsForm us outputs rule inputs × (head ≡ BuildHead outputs rule inputs)
    × (s ≡ Between (lines_after l ls))

-- each step of it, where the lexer is where the step before left it
pub colon_after-form : (l : Line) (ls : List Line) (us : List TextUnit) (s s' : State)
    → s ≡ within l ls (skip us) → expect_sign sign.Colon wanted.Colon s ≡ Ok s'
    → (rest : List TextUnit) × SignForm sign.Colon us rest × (s' ≡ within l ls rest)
colon_after-form l ls us s h e h1 = grind (arith, after-form, after_skips)

name_at-form : (want : Wanted) (l : Line) (ls : List Line) (us : List TextUnit) (s : State)
    (y : NameModel × State) → s ≡ within l ls us → name_next want s ≡ Ok y
    → (rest : List TextUnit) × IdentifierForm us y.0 rest × (y.1 ≡ within l ls rest)
name_at-form want l ls us s y e h = name-form want l ls us y (ap (name_next want) (sym e) ∙ h)

inputs_at-form : (l : Line) (ls : List Line) (us : List TextUnit) (s s' : State) (inputs : InputsModel)
    → s ≡ within l ls us → inputs_next s ≡ Ok (inputs, s')
    → (rest : List TextUnit) × InputsForm us inputs rest × (s' ≡ within l ls (skip rest))
inputs_at-form l ls us s s' inputs e h = inputs-form l ls us inputs s' (ap inputs_next (sym e) ∙ h)

pub end_after_at-form : (l : Line) (ls : List Line) (us : List TextUnit) (s s' : State)
    → s ≡ within l ls (skip us) → expect_sign sign.LineEnd wanted.Newline s ≡ Ok s'
    → AreBlanks us × (s' ≡ Between (lines_after l ls))
end_after_at-form l ls us s h e h1 = grind (arith, end_after-form)

build-form : (l : Line) (ls : List Line) (us : List TextUnit) (head : HeadModel) (s : State)
    → build_head (within l ls us) ≡ Ok (head, s) → PartsRead l ls us head s
unfolding build_head
build-form l ls us head s h =
    let outputs = bind-ok (outputs_next (within l ls us)) _ (head, s) h in
    let colon = bind-ok (expect_sign sign.Colon wanted.Colon outputs.0.1) _ (head, s) outputs.2 in
    let rule = bind-ok (name_next wanted.CommandName colon.0) _ (head, s) colon.2 in
    let inputs = bind-ok (inputs_next rule.0.1) _ (head, s) rule.2 in
    let end = bind-ok (expect_sign sign.LineEnd wanted.Newline inputs.0.1)
    (λ end. Ok (BuildHead outputs.0.0 rule.0.0 inputs.0.0, end)) (head, s) inputs.2 in
    let one = outputs-form l ls us outputs.0.0 outputs.0.1 outputs.1 in
    let two = colon_after-form l ls one.0 outputs.0.1 colon.0 one.2 colon.1 in
    let three = name_at-form wanted.CommandName l ls two.0 colon.0 rule.0 two.2 rule.1 in
    let four = inputs_at-form l ls three.0 rule.0.1 inputs.0.1 inputs.0.0 three.2 inputs.1 in
    let five = end_after_at-form l ls four.0 inputs.0.1 end.0 four.2 end.1 in
    let same = gives-it (BuildHead outputs.0.0 rule.0.0 inputs.0.0) end.0 head s end.2 in (
      outputs.0.0,
      rule.0.0,
      inputs.0.0,
      record {
        after_outputs = one.0;
        after_colon = two.0;
        after_rule = three.0;
        after_inputs = four.0;
        of_outputs = one.1;
        colon = two.1;
        of_rule = three.1;
        of_inputs = four.1;
        end = five.0;
      },
      sym same.0,
      leads_to end.0 s (Between (lines_after l ls)) same.1 five.1,
    )

build-read : (l : Line) (ls : List Line) (us : List TextUnit) (outputs : OutputsModel) (rule : NameModel)
    (inputs : InputsModel) → PartsForm us outputs rule inputs
    → build_head (within l ls us) ≡ Ok (BuildHead outputs rule inputs, Between (lines_after l ls))
unfolding build_head
build-read l ls us outputs rule inputs f =
    rw (
      outputs-read l ls us f.after_outputs outputs f.of_outputs
          (colon_stops f.after_outputs f.after_colon f.colon),
      after_skips sign.Colon wanted.Colon l ls f.after_outputs,
      after-read sign.Colon wanted.Colon l ls f.after_outputs f.after_colon colon_is_not_end f.colon,
      name-read wanted.CommandName l ls f.after_colon f.after_rule rule f.of_rule,
      inputs-read l ls f.after_rule f.after_inputs inputs f.of_inputs (end_stops f.after_inputs f.end),
      end_after-read wanted.Newline l ls f.after_inputs f.end,
    ) refl

-- ---- words of the language

pub same_bytes : (xs ys : List ℕ) → bytes_eq xs ys ≡ true → xs ≡ ys
same_bytes xs ys h = (bytes_eq-Decides xs ys).0 h

pub keyword_of : (word : List ℕ) (us rest : List TextUnit) (name : NameModel) → IdentifierForm us name rest
    → bytes_eq name.name word ≡ true → KeywordForm word us rest
keyword_of word us rest name f h =
    record {
      spot = name.spot;
      here = subst
          (λ (bs : List ℕ). IdentifierForm us (record { spot = name.spot; name = bs }) rest)
          (same_bytes name.name word h) f;
    }

-- if all tests fail, the last alternative is taken
none_of : {A : Type 0} (b r p d i u : Bool) (x1 x2 x3 x4 x5 x6 x7 : A)
    → (b || (r || (p || (d || (i || (u || false)))))) ≡ false
    → cond b x1 (cond r x2 (cond p x3 (cond d x4 (cond i x5 (cond u x6 x7))))) ≡ x7
none_of b r p d i u x1 x2 x3 x4 x5 x6 x7 h = grind arith

-- the reading where the word is not a keyword
no_keyword : (word : List ℕ) (s : State) → list_any (bytes_eq word) keywords ≡ false
    → head_after word s ≡ as_head (λ value. Alone (BindingModel word value)) (equals_value s)
unfolding head_after
no_keyword word s h = grind arith

-- ---- first lines

build_parts : {us : List TextUnit} {outputs : OutputsModel} {name : NameModel} {inputs : InputsModel}
    → (f : BuildForm us outputs name inputs) → PartsForm f.after_build outputs name inputs
build_parts f = grind arith

whole_build : (us rest : List TextUnit) (outputs : OutputsModel) (name : NameModel) (inputs : InputsModel)
    → KeywordForm (codes "build") us rest → PartsForm rest outputs name inputs
    → BuildForm us outputs name inputs
whole_build us rest outputs name inputs k f = grind arith

-- A first line in its form is read.
pub head-read : (l : Line) (ls : List Line) (head : HeadModel) → HeadForm l head
    → head_next (Inside l ls) ≡ Ok (head, Between (lines_after l ls))
unfolding head_next head_after
head-read l ls head (HeadForm.binding {name = name} {value = value} f n) =
    rw (
      name-read wanted.Statement l ls l.units f.after_name name f.of_name,
      no_keyword name.name (within l ls f.after_name) n,
      equals_value-read l ls f.after_name f.after_sign value f.equals f.of_value,
    ) refl
head-read l ls head (HeadForm.rule {name = name} f) =
    rw (
      name-read wanted.Statement l ls l.units f.after_keyword _ f.keyword.here,
      name_alone-read wanted.RuleName l ls f.after_keyword f.after_name name f.of_name f.end,
    ) refl
head-read l ls head (HeadForm.pool {name = name} f) =
    rw (
      name-read wanted.Statement l ls l.units f.after_keyword _ f.keyword.here,
      name_alone-read wanted.PoolName l ls f.after_keyword f.after_name name f.of_name f.end,
    ) refl
head-read l ls head (HeadForm.build {outputs = outputs} {name = name} {inputs = inputs} f) =
    rw (name-read wanted.Statement l ls l.units f.after_build _ f.keyword.here)
    (build-read l ls f.after_build outputs name inputs (build_parts f))
head-read l ls head (HeadForm.default {targets = targets} f) =
    rw (
      name-read wanted.Statement l ls l.units f.after_keyword _ f.keyword.here,
      targets-read l ls f.after_keyword f.after_targets targets f.of_targets f.some_target f.end,
    ) refl
head-read l ls head (HeadForm.include {file = file} f) =
    rw (
      name-read wanted.Statement l ls l.units f.after_keyword _ f.keyword.here,
      file-read l ls f.after_keyword f.after_file file f.of_file f.end,
    ) refl
head-read l ls head (HeadForm.subninja {file = file} f) =
    rw (
      name-read wanted.Statement l ls l.units f.after_keyword _ f.keyword.here,
      file-read l ls f.after_keyword f.after_file file f.of_file f.end,
    ) refl

-- a first line that is read to the end of the line
abbrev HeadIs : Line → List Line → HeadModel → State → Type 0
HeadIs l ls head s = HeadForm l head × (s ≡ Between (lines_after l ls))

as_head-parts : {A : Type 0} (make : A → HeadModel) (step : Step A) (head : HeadModel) (s : State)
    → as_head make step ≡ Ok (head, s) → (x : A) × (step ≡ Ok (x, s)) × (make x ≡ head)
as_head-parts make step head s h = grind arith

head-is : (l : Line) (ls : List Line) (one head : HeadModel) (s : State) → one ≡ head → HeadForm l one
    → s ≡ Between (lines_after l ls) → HeadIs l ls head s
head-is l ls one head s e f g = (subst (HeadForm l) e f, g)

named_is : (word : List ℕ) (l : Line) (ls : List Line) (want : Wanted) (make : NameModel → HeadModel)
    (us : List TextUnit) (head : HeadModel) (s : State) → KeywordForm word l.units us
    → ((name : NameModel) → NamedForm word l.units name → HeadForm l (make name))
    → as_head make (name_alone want (within l ls us)) ≡ Ok (head, s) → HeadIs l ls head s
named_is word l ls want make us head s k form h = grind (
  arith,
  as_head-parts,
  within,
  name_alone-form,
  head-is,
)

file_is : (word : List ℕ) (l : Line) (ls : List Line) (make : WordModel → HeadModel) (us : List TextUnit)
    (head : HeadModel) (s : State) → KeywordForm word l.units us
    → ((file : WordModel) → FileForm word l.units file → HeadForm l (make file))
    → as_head make (file_next (within l ls us)) ≡ Ok (head, s) → HeadIs l ls head s
file_is word l ls make us head s k form h = grind (arith, as_head-parts, within, file-form, head-is)

targets_are : (l : Line) (ls : List Line) (us : List TextUnit) (head : HeadModel) (s : State)
    → KeywordForm (codes "default") l.units us
    → as_head (λ words. Alone (DefaultModel words)) (targets_next (within l ls us)) ≡ Ok (head, s)
    → HeadIs l ls head s
targets_are l ls us head s k h =
    let x = as_head-parts (λ words. Alone (DefaultModel words)) (targets_next (within l ls us)) head s h in
    let it = targets-form l ls us x.0 s x.1 in
    head-is l ls (Alone (DefaultModel x.0)) head s x.2
    (HeadForm.default (record {
      after_keyword = us;
      after_targets = it.0;
      keyword = k;
      of_targets = it.1;
      some_target = it.2;
      end = it.3;
    })) it.4

build_is : (l : Line) (ls : List Line) (us : List TextUnit) (head : HeadModel) (s : State)
    → KeywordForm (codes "build") l.units us → build_head (within l ls us) ≡ Ok (head, s) → HeadIs l ls head s
build_is l ls us head s k h =
    let it = build-form l ls us head s h in
    head-is l ls (BuildHead it.0 it.1 it.2) head s (sym it.4)
    (HeadForm.build (whole_build l.units us it.0 it.1 it.2 k it.3)) it.5

binding_is : (l : Line) (ls : List Line) (us : List TextUnit) (name : NameModel) (head : HeadModel)
    (s : State) → IdentifierForm l.units name us → list_any (bytes_eq name.name) keywords ≡ false
    → as_head (λ value. Alone (BindingModel name.name value)) (equals_value (within l ls us)) ≡ Ok (head, s)
    → HeadIs l ls head s
binding_is l ls us name head s f n h =
    let x = as_head-parts (λ value. Alone (BindingModel name.name value)) (equals_value (within l ls us)) head
    s h in
    let it = equals_value-form l ls us x.0 s x.1 in
    head-is l ls (Alone (BindingModel name.name x.0)) head s x.2
    (HeadForm.binding {name = name} (record
    { after_name = us; after_sign = it.0; of_name = f; equals = it.1; of_value = it.2 }) n) it.3

after_the_word : (l : Line) (ls : List Line) (us : List TextUnit) (name : NameModel) (head : HeadModel)
    (s : State) → IdentifierForm l.units name us → head_after name.name (within l ls us) ≡ Ok (head, s)
    → HeadIs l ls head s
unfolding head_after
after_the_word l ls us name head s f h =
    by_word (bytes_eq name.name (codes "build")) (bytes_eq name.name (codes "rule"))
    (bytes_eq name.name (codes "pool")) (bytes_eq name.name (codes "default"))
    (bytes_eq name.name (codes "include")) (bytes_eq name.name (codes "subninja"))
    refl refl refl refl refl refl h
  where
    by_word : (b r p d i u : Bool) → bytes_eq name.name (codes "build") ≡ b
        → bytes_eq name.name (codes "rule") ≡ r → bytes_eq name.name (codes "pool") ≡ p
        → bytes_eq name.name (codes "default") ≡ d → bytes_eq name.name (codes "include") ≡ i
        → bytes_eq name.name (codes "subninja") ≡ u
        → cond b (build_head (within l ls us))
        (cond r (as_head RuleHead (name_alone wanted.RuleName (within l ls us)))
        (cond p (as_head PoolHead (name_alone wanted.PoolName (within l ls us)))
        (cond d (as_head (λ words. Alone (DefaultModel words)) (targets_next (within l ls us)))
        (cond i (as_head (λ word. Alone (IncludeModel word)) (file_next (within l ls us)))
        (cond u (as_head (λ word. Alone (SubninjaModel word)) (file_next (within l ls us)))
        (as_head (λ value. Alone (BindingModel name.name value)) (equals_value (within l ls us))))))))
        ≡ Ok (head, s)
        → HeadIs l ls head s
    by_word true r p d i u eb er ep ed ei eu g =
        build_is l ls us head s (keyword_of (codes "build") l.units us name f eb) g
    by_word false true p d i u eb er ep ed ei eu g =
        named_is (codes "rule") l ls wanted.RuleName RuleHead us head s
        (keyword_of (codes "rule") l.units us name f er) (λ n k. HeadForm.rule k) g
    by_word false false true d i u eb er ep ed ei eu g =
        named_is (codes "pool") l ls wanted.PoolName PoolHead us head s
        (keyword_of (codes "pool") l.units us name f ep) (λ n k. HeadForm.pool k) g
    by_word false false false true i u eb er ep ed ei eu g =
        targets_are l ls us head s (keyword_of (codes "default") l.units us name f ed) g
    by_word false false false false true u eb er ep ed ei eu g =
        file_is (codes "include") l ls (λ word. Alone (IncludeModel word)) us head s
        (keyword_of (codes "include") l.units us name f ei) (λ n k. HeadForm.include k) g
    by_word false false false false false true eb er ep ed ei eu g =
        file_is (codes "subninja") l ls (λ word. Alone (SubninjaModel word)) us head s
        (keyword_of (codes "subninja") l.units us name f eu) (λ n k. HeadForm.subninja k) g
    by_word false false false false false false eb er ep ed ei eu g =
        binding_is l ls us name head s f (or_from _ _ eb
        (or_from _ _ er (or_from _ _ ep (or_from _ _ ed (or_from _ _ ei (or_from _ _ eu refl)))))) g

-- A first line that is read has the form of a first line, and is read to its end.
pub head-form : (l : Line) (ls : List Line) (head : HeadModel) (s : State)
    → head_next (Inside l ls) ≡ Ok (head, s) → HeadForm l head × (s ≡ Between (lines_after l ls))
unfolding head_next
head-form l ls head s h =
    let word = bind-ok (name_next wanted.Statement (Inside l ls)) _ (head, s) h in
    let it = name-form wanted.Statement l ls l.units word.0 word.1 in
    after_the_word l ls it.0 word.0.0 head s it.1 (ap (head_after word.0.0.name) (sym it.2) ∙ word.2)
