-- Where the readings of a line leave the lexer.
use Rattle.std.proofs.Common.{arith, ◌≡◌, ℕ, zero, suc, Bool, true, false, cond, ◌&&◌, Option, Some, None}
use Rattle.std.proofs.Common.{Result}
use Rattle.std.proofs.Common.{Ok, List, [], refl, sym, ap, subst, ◌∙◌, codes}
use Rattle.std.specs.Prelude.{ok_or}
use Rattle.std.specs.Str.{bytes_eq}
use Rattle.nj_text.specs.declared.fault.UnitFault.{UnitFault}
use Rattle.nj_text.specs.declared.sign.Sign.{Sign}
use Rattle.nj_text.specs.declared.sign.Sign.TheVariants as sign
use Rattle.nj_text.specs.declared.spot.Spot.{Spot}
use Rattle.nj_text.specs.Bytes.{drop_while, begins_with}
use Rattle.nj_text.specs.Units.{TextUnit}
use Rattle.nj_text.specs.Lines.{Line, with_units, lines_after}
use Rattle.nj_text.specs.Words.{WordModel, is_blank, after_opening, in_word, next_fault}
use Rattle.nj_text.specs.Words.{first_fault, opens_word}
use Rattle.nj_text.specs.Calls as calls
use Rattle.nj_text.specs.Inside.States.{reply}
use Rattle.nj_text.specs.Calls.{State, Between, Inside, Reply, sign_of}
use Rattle.nj_text.specs.Calls.{path_word_of, value_of, spot_of, after_blanks, state_after_sign}
use Rattle.nj_text.specs.Calls.{is_empty, word_here}
use Rattle.nj_manifest.specs.declared.cause.SyntaxCause.TheVariants as cause
use Rattle.nj_manifest.specs.declared.cause.Wanted.{Wanted}
use Rattle.nj_manifest.specs.declared.cause.Wanted.TheVariants as wanted
use Rattle.nj_manifest.specs.declared.block_lines.Keys.{Keys}
use Rattle.nj_manifest.specs.Faults.{Fault, Placed}
use Rattle.nj_manifest.specs.LineSteps.{Step, ◌>>=◌, called, NameModel, name_next, expect_sign, words_within}
use Rattle.nj_manifest.specs.LineSteps.{words_next, section_next}
use Rattle.nj_manifest.specs.Statements.{LineModel, equals_value, line_next, OutputsModel}
use Rattle.nj_manifest.specs.Statements.{InputsModel, BindingModel, DefaultModel, IncludeModel, SubninjaModel}
use Rattle.nj_manifest.specs.Statements.{outputs_next, inputs_next, targets_next, file_next}
use Rattle.nj_manifest.specs.Grammar.{HeadModel, Alone, RuleHead, PoolHead, BuildHead}
use Rattle.nj_manifest.specs.Inside.Heads.{build_head, as_head, head_after, head_next, name_alone}
use Rattle.nj_manifest.proofs.Choices.{named, if_there, words_if, if_allowed, unless_none, units_left}
use Rattle.nj_manifest.proofs.Choices.{words_next-is, words_from}

-- ---- steps

-- A reading of two steps makes both.
pub bind-ok : {A B : Type 0} (r : Result A Fault) (k : A → Result B Fault) (y : B) → (r >>= k) ≡ Ok y
    → (x : A) × (r ≡ Ok x) × (k x ≡ Ok y)
bind-ok r k y h = grind arith

pub called-fault : {A : Type 0} (f : Option UnitFault) (r : Reply A) (y : A × State)
    → called (calls.unless_fault f r) ≡ Ok y → called r ≡ Ok y
called-fault f r y h = grind arith

-- ---- where the lexer is then

-- within the line, with some units left
abbrev pub On : Line → List Line → State → Type 0
On l ls s = (us : List TextUnit) × (s ≡ Inside (with_units us l) ls)

-- after the line
abbrev pub Ended : Line → List Line → State → Type 0
Ended l ls s = s ≡ Between (lines_after l ls)

pub after-is : {A : Type 0} (x : A) (s : State) (y : A × State) → ◌≡◌ {A = Step A} (Ok (x, s)) (Ok y)
    → s ≡ y.1
after-is x s y h = cc

pub value-is : {A : Type 0} (x : A) (s : State) (y : A × State) → ◌≡◌ {A = Step A} (Ok (x, s)) (Ok y)
    → x ≡ y.0
value-is x s y h = cc

named-after : (want : Wanted) (spot : Spot) (x : Option (List ℕ)) (s : State) (y : NameModel × State)
    → named want spot x s ≡ Ok y → s ≡ y.1
named-after want spot x s y h = grind arith

name_next-inside : (want : Wanted) (l : Line) (ls : List Line) (y : NameModel × State)
    → name_next want (Inside l ls) ≡ Ok y → On l ls y.1
unfolding name_next
name_next-inside want l ls y h = grind (arith, bind-ok, named, called-fault, after-is, named-after)

if_there-after : (want : Wanted) (t : Bool) (s s' : State) → if_there want t s ≡ Ok s' → (t ≡ true) × (s ≡ s')
if_there-after want t s h h1 = grind arith

sign-there : (want : Wanted) (t : Bool) (there other : State) (y : Bool × State) (s : State)
    → called (cond t (reply true there) (reply false other)) ≡ Ok y → if_there want y.0 y.1 ≡ Ok s → s ≡ there
sign-there want t there other y s e h = grind arith

after-inside : (want : Sign) (miss : Wanted) (l : Line) (ls : List Line) (s : State)
    → expect_sign want miss (Inside l ls) ≡ Ok s → s ≡ state_after_sign want (after_blanks l) ls
unfolding expect_sign
after-inside want miss l ls s h = grind arith

pub line_end-inside : (miss : Wanted) (l : Line) (ls : List Line) (s s' : State) → On l ls s
    → expect_sign sign.LineEnd miss s ≡ Ok s' → Ended l ls s'
line_end-inside miss l ls s h o h1 = grind (arith, after-inside)

pub colon-inside : (miss : Wanted) (l : Line) (ls : List Line) (s s' : State) → On l ls s
    → expect_sign sign.Colon miss s ≡ Ok s' → On l ls s'
colon-inside miss l ls s h o h1 = grind (arith, after-inside)

equals-inside : (miss : Wanted) (l : Line) (ls : List Line) (s s' : State) → On l ls s
    → expect_sign sign.Equals miss s ≡ Ok s' → On l ls s'
equals-inside miss l ls s h o h1 = grind (arith, after-inside)

pub name-inside : (want : Wanted) (l : Line) (ls : List Line) (s : State) (y : NameModel × State) → On l ls s
    → name_next want s ≡ Ok y → On l ls y.1
name-inside want l ls s y o h = grind (arith, name_next-inside)

value-inside : (l : Line) (ls : List Line) (s : State) (y : WordModel × State) → On l ls s
    → called (value_of s) ≡ Ok y → On l ls y.1
value-inside l ls s y o h =
    let e = called-fault (first_fault (drop_while is_blank (after_opening o.0))) _ y
    (ap (λ s. called (value_of s)) (sym o.1) ∙ h) in
    ([], sym (after-is _ _ y e))

-- ---- words

word_here-inside : (l : Line) (ls : List Line) (t : Bool) (y : Option WordModel × State)
    → called (cond t (calls.unless_fault (next_fault (drop_while in_word l.units))
    (reply (Some (word_here l)) (Inside (with_units (drop_while in_word l.units) l) ls)))
    (reply None (Inside l ls))) ≡ Ok y → On l ls y.1
word_here-inside l ls true y e =
    let f = called-fault (next_fault (drop_while in_word l.units))
    (reply (Some (word_here l)) (Inside (with_units (drop_while in_word l.units) l) ls)) y e in
    (drop_while in_word l.units, sym (after-is _ _ y f))
word_here-inside l ls false y e = (l.units, sym (after-is _ _ y e))

pub word-inside : (l : Line) (ls : List Line) (s : State) (y : Option WordModel × State) → On l ls s
    → called (path_word_of s) ≡ Ok y → On l ls y.1
word-inside l ls s y o h =
    let m = after_blanks (with_units o.0 l) in
    let e = called-fault (next_fault m.units) _ y (ap (λ s. called (path_word_of s)) (sym o.1) ∙ h) in
    let p = word_here-inside m ls (begins_with opens_word m.units) y e in
    (p.0, p.1)

words_from-inside : (l : Line) (ls : List Line) (word : Option WordModel) (s : State)
    (others : Step (List WordModel)) (y : List WordModel × State) → On l ls s
    → ((z : List WordModel × State) → others ≡ Ok z → On l ls z.1) → words_from word s others ≡ Ok y
    → On l ls y.1
words_from-inside l ls word s others y o rest h = grind arith

words_within-inside : (l : Line) (ls : List Line) (limit : ℕ) (s : State) (y : List WordModel × State)
    → On l ls s → words_within limit s ≡ Ok y → On l ls y.1
unfolding words_within
words_within-inside l ls zero s y o h = subst (On l ls) (after-is _ _ y h) o
words_within-inside l ls (suc limit) s y o h =
    let b = bind-ok (called (path_word_of s)) (λ w. words_from w.0 w.1 (words_within limit w.1)) y h in
    let p = word-inside l ls s b.0 o b.1 in
    words_from-inside l ls b.0.0 b.0.1 (words_within limit b.0.1) y p
    (λ z e. words_within-inside l ls limit b.0.1 z p e) b.2

words-inside : (l : Line) (ls : List Line) (s : State) (y : List WordModel × State) → On l ls s
    → words_next s ≡ Ok y → On l ls y.1
words-inside l ls s y o h = words_within-inside l ls (suc (units_left s)) s y o (sym (words_next-is s) ∙ h)

words_if-inside : (l : Line) (ls : List Line) (t : Bool) (s : State) (y : List WordModel × State) → On l ls s
    → words_if t s ≡ Ok y → On l ls y.1
words_if-inside l ls true s y o h = words-inside l ls s y o h
words_if-inside l ls false s y o h = subst (On l ls) (after-is _ _ y h) o

-- a sign that does not end the line
abbrev pub InLine : Sign → Type 0
InLine want = (l : Line) (ls : List Line) → On l ls (state_after_sign want l ls)

sign-on : (want : Sign) (l : Line) (ls : List Line) (t : Bool) (y : Bool × State) → InLine want
    → called (cond t (reply true (state_after_sign want l ls)) (reply false (Inside l ls))) ≡ Ok y
    → On l ls y.1
sign-on want l ls true y i e = subst (On l ls) (after-is _ _ y e) (i l ls)
sign-on want l ls false y i e = (l.units, sym (after-is _ _ y e))

pub sign-inside : (want : Sign) (l : Line) (ls : List Line) (s : State) (y : Bool × State) → InLine want
    → On l ls s → called (sign_of want s) ≡ Ok y → On l ls y.1
sign-inside want l ls s y i o h = grind (arith, called-fault, sign-on)

pub section-inside : (want : Sign) (l : Line) (ls : List Line) (s : State) (y : List WordModel × State)
    → InLine want → On l ls s → section_next want s ≡ Ok y → On l ls y.1
unfolding section_next
section-inside want l ls s y i o h =
    let there = bind-ok (called (sign_of want s)) (λ t. words_if t.0 t.1) y h in
    words_if-inside l ls there.0.0 there.0.1 y (sign-inside want l ls s there.0 i o there.1) there.2

-- ---- lines

-- A reading that ends its line leaves the lexer after it.
pub ends-line : {A : Type 0} (l : Line) (ls : List Line) (x : A) (s : State) (y : A × State) → On l ls s
    → (expect_sign sign.LineEnd wanted.Newline s >>= λ end. Ok (x, end)) ≡ Ok y → Ended l ls y.1
ends-line l ls x s y o h = grind (arith, bind-ok, after-is, line_end-inside)

pub equals_value-inside : (l : Line) (ls : List Line) (s : State) (y : WordModel × State) → On l ls s
    → equals_value s ≡ Ok y → Ended l ls y.1
unfolding equals_value
equals_value-inside l ls s y o h =
    let equals = bind-ok (expect_sign sign.Equals wanted.Equals s) _ y h in
    let value = bind-ok (called (value_of equals.0)) _ y equals.2 in
    let at_value = equals-inside wanted.Equals l ls s equals.0 o equals.1 in
    ends-line l ls value.0.0 value.0.1 y (value-inside l ls equals.0 value.0 at_value value.1) value.2

if_allowed-ok : {A : Type 0} (t : Bool) (key : NameModel) (others : Result A Fault) (y : A)
    → if_allowed t key others ≡ Ok y → others ≡ Ok y
if_allowed-ok t key others y h = grind arith

-- The line of a block is read to its end.
pub line-inside : (allowed : Keys) (l : Line) (ls : List Line) (line : LineModel) (after : State)
    → line_next allowed (Inside l ls) ≡ Ok (line, after) → after ≡ Between (lines_after l ls)
unfolding line_next
line-inside allowed l ls line after h = grind (
  arith,
  bind-ok,
  if_allowed,
  name_next-inside,
  if_allowed-ok,
  after-is,
  equals_value-inside,
)

name_alone-inside : (want : Wanted) (l : Line) (ls : List Line) (s : State) (y : NameModel × State)
    → On l ls s → name_alone want s ≡ Ok y → Ended l ls y.1
unfolding name_alone
name_alone-inside want l ls s y o h =
    let name = bind-ok (name_next want s) _ y h in
    ends-line l ls name.0.0 name.0.1 y (name-inside want l ls s name.0 o name.1) name.2

unless_none-ok : {A : Type 0} (t : Bool) (want : Wanted) (s : State) (others : Result A Fault) (y : A)
    → unless_none t want s others ≡ Ok y → others ≡ Ok y
unless_none-ok t want s others y h = grind arith

pipe-in_line : InLine sign.Pipe
pipe-in_line l ls = (_, refl)

pipe2-in_line : InLine sign.Pipe2
pipe2-in_line l ls = (_, refl)

pipe_at-in_line : InLine sign.PipeAt
pipe_at-in_line l ls = (_, refl)

outputs-inside : (l : Line) (ls : List Line) (s : State) (y : OutputsModel × State) → On l ls s
    → outputs_next s ≡ Ok y → On l ls y.1
unfolding outputs_next
outputs-inside l ls s y o h =
    let explicit = bind-ok (words_next s) _ y h in
    let implicit = bind-ok (section_next sign.Pipe explicit.0.1) _ y explicit.2 in
    let at_implicit = section-inside sign.Pipe l ls explicit.0.1 implicit.0 pipe-in_line
    (words-inside l ls s explicit.0 o explicit.1) implicit.1 in
    let read = unless_none-ok (is_empty explicit.0.0 && is_empty implicit.0.0) wanted.Path implicit.0.1 _ y
    implicit.2 in
    subst (On l ls) (after-is _ _ y read) at_implicit

inputs-inside : (l : Line) (ls : List Line) (s : State) (y : InputsModel × State) → On l ls s
    → inputs_next s ≡ Ok y → On l ls y.1
unfolding inputs_next
inputs-inside l ls s y o h =
    let explicit = bind-ok (words_next s) _ y h in
    let implicit = bind-ok (section_next sign.Pipe explicit.0.1) _ y explicit.2 in
    let order_only = bind-ok (section_next sign.Pipe2 implicit.0.1) _ y implicit.2 in
    let validations = bind-ok (section_next sign.PipeAt order_only.0.1) _ y order_only.2 in
    let at_implicit = section-inside sign.Pipe l ls explicit.0.1 implicit.0 pipe-in_line
    (words-inside l ls s explicit.0 o explicit.1) implicit.1 in
    let at_order_only = section-inside sign.Pipe2 l ls implicit.0.1 order_only.0 pipe2-in_line at_implicit
    order_only.1 in
    let at_validations = section-inside sign.PipeAt l ls order_only.0.1 validations.0 pipe_at-in_line
    at_order_only validations.1 in
    subst (On l ls) (after-is _ _ y validations.2) at_validations

build-inside : (l : Line) (ls : List Line) (s : State) (y : HeadModel × State) → On l ls s
    → build_head s ≡ Ok y → Ended l ls y.1
unfolding build_head
build-inside l ls s y o h =
    let outputs = bind-ok (outputs_next s) _ y h in
    let colon = bind-ok (expect_sign sign.Colon wanted.Colon outputs.0.1) _ y outputs.2 in
    let rule = bind-ok (name_next wanted.CommandName colon.0) _ y colon.2 in
    let inputs = bind-ok (inputs_next rule.0.1) _ y rule.2 in
    let at_colon = colon-inside wanted.Colon l ls outputs.0.1 colon.0
    (outputs-inside l ls s outputs.0 o outputs.1) colon.1 in
    let at_inputs = inputs-inside l ls rule.0.1 inputs.0
    (name-inside wanted.CommandName l ls colon.0 rule.0 at_colon rule.1) inputs.1 in
    ends-line l ls (BuildHead outputs.0.0 rule.0.0 inputs.0.0) inputs.0.1 y at_inputs inputs.2

targets-inside : (l : Line) (ls : List Line) (s : State) (y : List WordModel × State) → On l ls s
    → targets_next s ≡ Ok y → Ended l ls y.1
unfolding targets_next
targets-inside l ls s y o h =
    let words = bind-ok (words_next s) _ y h in
    let end = bind-ok (unless_none (is_empty words.0.0) wanted.TargetName words.0.1
    (expect_sign sign.LineEnd wanted.Newline words.0.1)) _ y words.2 in
    let read = unless_none-ok (is_empty words.0.0) wanted.TargetName words.0.1
    (expect_sign sign.LineEnd wanted.Newline words.0.1) end.0 end.1 in
    sym (after-is _ _ y end.2) ∙ line_end-inside wanted.Newline l ls words.0.1 end.0
    (words-inside l ls s words.0 o words.1) read

file-inside : (l : Line) (ls : List Line) (s : State) (y : WordModel × State) → On l ls s → file_next s ≡ Ok y
    → Ended l ls y.1
unfolding file_next
file-inside l ls s y o h =
    let found = bind-ok (called (path_word_of s)) _ y h in
    let word = bind-ok (ok_or found.0.0 (Placed (spot_of found.0.1) (cause.Expected wanted.Path))) _ y found.2
    in
    ends-line l ls word.0 found.0.1 y (word-inside l ls s found.0 o found.1) word.2

as_head-inside : {A : Type 0} (l : Line) (ls : List Line) (head : A → HeadModel) (step : Step A)
    (y : HeadModel × State) → ((x : A × State) → step ≡ Ok x → Ended l ls x.1) → as_head head step ≡ Ok y
    → Ended l ls y.1
as_head-inside l ls head step y read h = grind arith

head_after-inside : (l : Line) (ls : List Line) (word : List ℕ) (s : State) (y : HeadModel × State)
    → On l ls s → head_after word s ≡ Ok y → Ended l ls y.1
unfolding head_after
head_after-inside l ls word s y o h =
    by_word (bytes_eq word (codes "build")) (bytes_eq word (codes "rule")) (bytes_eq word (codes "pool"))
    (bytes_eq word (codes "default")) (bytes_eq word (codes "include")) (bytes_eq word (codes "subninja"))
    h
  where
    by_word : (b r p d i u : Bool)
        → cond b (build_head s) (cond r (as_head RuleHead (name_alone wanted.RuleName s))
        (cond p (as_head PoolHead (name_alone wanted.PoolName s))
        (cond d (as_head (λ words. Alone (DefaultModel words)) (targets_next s))
        (cond i (as_head (λ word. Alone (IncludeModel word)) (file_next s))
        (cond u (as_head (λ word. Alone (SubninjaModel word)) (file_next s))
        (as_head (λ value. Alone (BindingModel word value)) (equals_value s))))))) ≡ Ok y
        → Ended l ls y.1
    by_word true r p d i u h = build-inside l ls s y o h
    by_word false true p d i u h = as_head-inside l ls RuleHead (name_alone wanted.RuleName s) y
        (λ x e. name_alone-inside wanted.RuleName l ls s x o e) h
    by_word false false true d i u h = as_head-inside l ls PoolHead (name_alone wanted.PoolName s) y
        (λ x e. name_alone-inside wanted.PoolName l ls s x o e) h
    by_word false false false true i u h =
        as_head-inside l ls (λ words. Alone (DefaultModel words)) (targets_next s) y
        (λ x e. targets-inside l ls s x o e) h
    by_word false false false false true u h =
        as_head-inside l ls (λ word. Alone (IncludeModel word)) (file_next s) y
        (λ x e. file-inside l ls s x o e) h
    by_word false false false false false true h =
        as_head-inside l ls (λ word. Alone (SubninjaModel word)) (file_next s) y
        (λ x e. file-inside l ls s x o e) h
    by_word false false false false false false h =
        as_head-inside l ls (λ value. Alone (BindingModel word value)) (equals_value s) y
        (λ x e. equals_value-inside l ls s x o e) h

-- The first line of a statement is read to its end.
pub head-inside : (l : Line) (ls : List Line) (h : HeadModel) (after : State)
    → head_next (Inside l ls) ≡ Ok (h, after) → after ≡ Between (lines_after l ls)
unfolding head_next
head-inside l ls h after e = grind (arith, bind-ok, head_after-inside, name_next-inside)
