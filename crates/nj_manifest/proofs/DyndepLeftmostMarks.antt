-- The line of an entry in steps. A departure from the form is marked by the fault of an unknown key, which
-- names its place
-- too.
use Rattle.std.proofs.Common.{rules, arith, ◌≡◌, ℕ, zero, suc, Bool, true, false, not, Option, Some, None}
use Rattle.std.proofs.Common.{Result, Ok, Err}
use Rattle.std.proofs.Common.{List, [], refl, ap, subst, ◌∙◌, sym, codes}
use Rattle.std.specs.Str.{bytes_eq}
use Rattle.nj_text.specs.declared.fault.UnitFault.{UnitFault}
use Rattle.nj_text.specs.declared.fault.UnitFault.TheVariants as unit_fault
use Rattle.nj_text.specs.declared.sign.Sign.{Sign}
use Rattle.nj_text.specs.declared.sign.Sign.TheVariants as sign
use Rattle.nj_text.specs.declared.spot.Spot.{Spot}
use Rattle.nj_text.specs.Words.{WordModel}
use Rattle.nj_text.specs.Calls.{State, Reply, skip_blanks_of, sign_of, path_word_of}
use Rattle.nj_text.specs.Calls.{spot_of, fault_spot}
use Rattle.nj_manifest.specs.declared.cause.SyntaxCause.TheVariants as cause
use Rattle.nj_manifest.specs.declared.cause.Wanted.{Wanted}
use Rattle.nj_manifest.specs.declared.cause.Wanted.TheVariants as wanted
use Rattle.nj_manifest.specs.Faults.{Fault, Placed, bad_unit}
use Rattle.nj_manifest.specs.LineSteps.{Step, ◌>>=◌, called, NameModel, name_next, expect_sign, words_within}
use Rattle.nj_manifest.specs.LineSteps.{words_next, section_next}
use Rattle.nj_manifest.specs.Statements.{equals_value}
use Rattle.nj_manifest.specs.Dyndeps.{EntryModel, word_of_form, is_same_spot, no_path, no_section}
use Rattle.nj_manifest.specs.Dyndeps.{output_next, added_inputs, entry_line}
use Rattle.nj_manifest.proofs.Choices.{named, if_there, words_if, unless_missing, words_next-is, words_from}
use Rattle.nj_manifest.proofs.LeftmostSteps.{bind-bind}
use Rattle.nj_manifest.proofs.LeftmostSigns.{sign_step, led_on, ending}
use Rattle.nj_manifest.proofs.EntryBlocks.{first_output, output-steps}

-- ---- marks

abbrev pub marked : Spot → Fault
marked spot = Placed spot (cause.UnknownKey [])

abbrev pub real : Fault → Fault
real (Placed spot (cause.UnknownKey key)) = Placed spot cause.DyndepShape
real fault = fault

-- a reading, with the intended faults
abbrev pub reported : {A : Type 0} → Result A Fault → Result A Fault
reported (Ok x) = Ok x
reported (Err f) = Err (real f)

-- a reading that marks nothing
abbrev pub Kept : {A : Type 0} → Result A Fault → Type 0
Kept (Ok x) = Unit {0}
Kept (Err f) = real f ≡ f

pub reported-same : {A : Type 0} (r : Result A Fault) → Kept r → reported r ≡ r
reported-same r k = grind arith

pub reported-bind : {A B : Type 0} (r : Result A Fault) (f g : A → Result B Fault) → Kept r
    → ((x : A) → reported (f x) ≡ g x) → reported (r >>= f) ≡ (r >>= g)
reported-bind r f g k h = grind arith

kept-bind : {A B : Type 0} (r : Result A Fault) (f : A → Result B Fault) → Kept r → ((x : A) → Kept (f x))
    → Kept (r >>= f)
kept-bind r f k h = grind arith

real_bad : (unit : UnitFault) → real (bad_unit unit) ≡ bad_unit unit
real_bad unit = grind arith

pub kept-called : {A : Type 0} (r : Reply A) → Kept (called r)
kept-called r = grind arith

kept-named : (want : Wanted) (spot : Spot) (name : Option (List ℕ)) (s : State)
    → Kept (named want spot name s)
kept-named want spot name s = grind arith

pub kept-name : (want : Wanted) (s : State) → Kept (name_next want s)
unfolding name_next
kept-name want s = grind arith

kept-there : (want : Wanted) (t : Bool) (s : State) → Kept (if_there want t s)
kept-there want t s = grind arith

pub kept-sign : (want : Sign) (miss : Wanted) (s : State) → Kept (expect_sign want miss s)
unfolding expect_sign
kept-sign want miss s = grind arith

kept-from : (found : Option WordModel) (s : State) (others : Step (List WordModel)) → Kept others
    → Kept (words_from found s others)
kept-from found s others k = grind arith

kept-within : (limit : ℕ) (s : State) → Kept (words_within limit s)
unfolding words_within
kept-within zero s = tt
kept-within (suc limit) s = by_word (called (path_word_of s)) (kept-called (path_word_of s))
    (λ t. kept-within limit t)
  where
    by_word : (r : Step (Option WordModel)) → Kept r → ((t : State) → Kept (words_within limit t))
        → Kept (r >>= λ word. words_from word.0 word.1 (words_within limit word.1))
    by_word (Ok word) k others = kept-from word.0 word.1 (words_within limit word.1) (others word.1)
    by_word (Err f) k others = k

kept-words : (s : State) → Kept (words_next s)
kept-words s = subst (λ (r : Step (List WordModel)). Kept r) (sym (words_next-is s)) (kept-within _ s)

pub kept-section : (want : Sign) (s : State) → Kept (section_next want s)
unfolding section_next
kept-section want s = grind (arith, kept-bind, kept-called, words_if, kept-words)

pub kept-ending : {B : Type 0} (value : B) (r : Result State Fault) → Kept r → Kept (ending value r)
kept-ending value r k = kept-bind r _ k (λ end. tt)

pub kept-value : (s : State) → Kept (equals_value s)
unfolding equals_value
kept-value s = grind (arith, kept-bind, kept-sign, kept-called, kept-ending)

-- ---- steps

-- this identifier, and the reading after it
abbrev pub this_word : {B : Type 0} → (word : List ℕ) → (State → Step B) → NameModel × State → Step B
this_word word next name = unless_missing (bytes_eq name.0.name word) (marked name.0.spot) (next name.1)

pub word-reported : {B : Type 0} (word : List ℕ) (want : Wanted) (s : State) (f g : State → Step B)
    → ((t : State) → reported (f t) ≡ g t)
    → reported (name_next want s >>= this_word word f) ≡ (word_of_form word want s >>= g)
unfolding word_of_form
word-reported {B = B} word want s f g h = by_name (name_next want s) (kept-name want s)
  where
    by_test : (t : Bool) (n : NameModel × State)
        → reported (unless_missing t (marked n.0.spot) (f n.1))
        ≡ (unless_missing t (Placed n.0.spot cause.DyndepShape) (Ok n.1) >>= g)
    by_test true n = h n.1
    by_test false n = refl

    by_name : (r : Step NameModel) → Kept r
        → reported (r >>= this_word word f) ≡ ((r >>=
        λ name. unless_missing (bytes_eq name.0.name word) (Placed name.0.spot cause.DyndepShape) (Ok name.1))
        >>= g)
    by_name (Ok n) k = by_test (bytes_eq n.0.name word) n
    by_name (Err e) k = ap Err k

-- no path
abbrev pub path_by : Spot → Reply (Option WordModel) → Step Bool
path_by spot (Ok (None, after)) = Ok (true, after)
path_by spot (Ok (Some word, after)) = Err (marked spot)
path_by spot (Err unit) = unless_missing (is_same_spot (fault_spot unit) spot) (marked spot)
    (Err (bad_unit unit))

abbrev pub path_step : State → Step Bool
path_step s = let here = skip_blanks_of s in path_by (spot_of here) (path_word_of here)

path-reported : {B : Type 0} (s : State) (f g : State → Result B Fault) → ((t : State) → reported (f t) ≡ g t)
    → reported (path_step s >>= λ c. f c.1) ≡ (no_path s >>= g)
unfolding no_path
path-reported {B = B} s f g h = search rules

-- no section with the given sign
abbrev pub unbarred : Spot → Bool × State → Step Bool
unbarred spot there = unless_missing (not there.0) (marked spot) (Ok (true, there.1))

abbrev no_bar : Spot → Bool × State → Result State Fault
no_bar spot there = unless_missing (not there.0) (Placed spot cause.DyndepShape) (Ok there.1)

abbrev pub bar_step : Sign → State → Step Bool
bar_step want s = called (sign_of want (skip_blanks_of s)) >>= unbarred (spot_of (skip_blanks_of s))

bar-reported : {B : Type 0} (want : Sign) (s : State) (f g : State → Result B Fault)
    → ((t : State) → reported (f t) ≡ g t)
    → reported (bar_step want s >>= λ c. f c.1) ≡ (no_section want s >>= g)
unfolding no_section
bar-reported {B = B} want s f g h = grind arith

-- the first output
abbrev pub output_there : Option WordModel → State → Step WordModel
output_there (Some word) after = Ok (word, after)
output_there None after = called (sign_of sign.Pipe after) >>=
    λ pipe. unless_missing (not pipe.0) (marked (spot_of after))
    (Err (Placed (spot_of after) (cause.Expected wanted.Path)))

abbrev pub output_word : State → Step WordModel
output_word s = called (path_word_of s) >>= λ found. output_there found.0 found.1

output-reported : {B : Type 0} (s : State) (f g : WordModel → State → Result B Fault)
    → ((w : WordModel) (t : State) → reported (f w t) ≡ g w t)
    → reported (output_word s >>= λ o. path_step o.1 >>= λ c. f o.0 c.1)
    ≡ (output_next s >>= λ out. g out.0 out.1)
output-reported {B = B} s f g h = by_word (called (path_word_of s)) (kept-called (path_word_of s))
    ∙ ap (λ (r : Step WordModel). r >>= λ out. g out.0 out.1) (sym (output-steps s))
  where
    then : WordModel × State → Result B Fault
    then o = path_step o.1 >>= λ c. f o.0 c.1

    read : WordModel → State → Step WordModel
    read w end = Ok (w, end)

    after_word : (w : WordModel) (a : State)
        → reported (path_step a >>= λ c. f w c.1) ≡ ((no_path a >>= read w) >>= λ out. g out.0 out.1)
    after_word w a = path-reported a (f w) (g w) (h w)
        ∙ sym (bind-bind (no_path a) (read w) (λ out. g out.0 out.1))

    by_pipe : (r : Step Bool) → Kept r → (spot : Spot)
        → reported (◌>>=◌ {A = WordModel × State}
        (r >>= λ pipe. unless_missing (not pipe.0) (marked spot)
        (Err (Placed spot (cause.Expected wanted.Path)))) then)
        ≡ (◌>>=◌ {A = WordModel × State} (◌>>=◌ {A = WordModel × State}
        (r >>= λ pipe. unless_missing (not pipe.0) (Placed spot cause.DyndepShape)
        (Err (Placed spot (cause.Expected wanted.Path)))) (λ out. no_path out.1 >>= read out.0))
        (λ out. g out.0 out.1))
    by_pipe (Ok (true, after)) k spot = refl
    by_pipe (Ok (false, after)) k spot = refl
    by_pipe (Err e) k spot = ap Err k

    by_found : (found : Option WordModel) (a : State)
        → reported (output_there found a >>= then)
        ≡ ((first_output found a >>= λ out. no_path out.1 >>= read out.0) >>= λ out. g out.0 out.1)
    by_found (Some w) a = after_word w a
    by_found None a = by_pipe (called (sign_of sign.Pipe a)) (kept-called (sign_of sign.Pipe a)) (spot_of a)

    by_word : (r : Step (Option WordModel)) → Kept r
        → reported ((r >>= λ found. output_there found.0 found.1) >>= then)
        ≡ ((r >>= λ found. first_output found.0 found.1 >>= λ out. no_path out.1 >>= read out.0) >>=
        λ out. g out.0 out.1)
    by_word (Ok found) k = by_found found.0 found.1
    by_word (Err e) k = ap Err k

-- ---- the line

abbrev pub entry_of : WordModel → (outs ins : List WordModel) → EntryModel
entry_of out outs ins = record { out = out; outs = outs; ins = ins; restat = false }

abbrev pub at_end : EntryModel → State → Step EntryModel
at_end entry s = ending entry (expect_sign sign.LineEnd wanted.Newline s)

abbrev pub at_second_bar : EntryModel → State → Step EntryModel
at_second_bar entry s = bar_step sign.PipeAt s >>= λ b. at_end entry b.1

abbrev pub at_first_bar : EntryModel → State → Step EntryModel
at_first_bar entry s = bar_step sign.Pipe2 s >>= λ b. at_second_bar entry b.1

abbrev pub with_ins : WordModel → List WordModel → List WordModel × State → Step EntryModel
with_ins out outs ins = at_first_bar (entry_of out outs ins.0) ins.1

abbrev pub at_ins : WordModel → List WordModel → State → Step EntryModel
at_ins out outs s = section_next sign.Pipe s >>= with_ins out outs

abbrev pub at_inputs : WordModel → List WordModel → State → Step EntryModel
at_inputs out outs s = path_step s >>= λ c. at_ins out outs c.1

abbrev pub at_rule : WordModel → List WordModel → State → Step EntryModel
at_rule out outs s = name_next wanted.CommandName s >>= this_word (codes "dyndep") (at_inputs out outs)

abbrev pub with_outs : WordModel → List WordModel × State → Step EntryModel
with_outs out outs = sign_step sign.Colon wanted.Colon outs.1 >>= λ c. at_rule out outs.0 c.1

abbrev pub at_outs : WordModel → State → Step EntryModel
at_outs out s = section_next sign.Pipe s >>= with_outs out

abbrev pub with_output : WordModel × State → Step EntryModel
with_output o = path_step o.1 >>= λ c. at_outs o.0 c.1

abbrev pub at_output : State → Step EntryModel
at_output s = output_word s >>= with_output

abbrev pub entry_marked : State → Step EntryModel
entry_marked s = name_next wanted.Statement s >>= this_word (codes "build") at_output

inputs-reported : (out : WordModel) (outs : List WordModel) (s : State)
    → reported (at_inputs out outs s) ≡ (added_inputs s >>= λ ins. Ok (entry_of out outs ins.0, ins.1))
unfolding added_inputs
inputs-reported out outs s =
    path-reported s (at_ins out outs) (λ alone. after_path alone >>= whole) (λ alone.
    reported-bind (section_next sign.Pipe alone) (with_ins out outs) (λ ins. after_ins ins >>= whole)
    (kept-section sign.Pipe alone) (λ ins.
    bar-reported sign.Pipe2 ins.1 (at_second_bar (entry_of out outs ins.0))
    (λ order_only. after_first ins.0 order_only >>= whole) (λ order_only.
    bar-reported sign.PipeAt order_only (at_end (entry_of out outs ins.0))
    (λ v. after_second ins.0 v >>= whole)
    (λ v. ended ins.0 (expect_sign sign.LineEnd wanted.Newline v)
    (kept-sign sign.LineEnd wanted.Newline v))
    ∙ sym (bind-bind (no_section sign.PipeAt order_only) (after_second ins.0) whole))
    ∙ sym (bind-bind (no_section sign.Pipe2 ins.1) (after_first ins.0) whole))
    ∙ sym (bind-bind (section_next sign.Pipe alone) after_ins whole))
    ∙ sym (bind-bind (no_path s) after_path whole)
  where
    whole : List WordModel × State → Step EntryModel
    whole ins = Ok (entry_of out outs ins.0, ins.1)

    after_second : List WordModel → State → Step (List WordModel)
    after_second ins v = expect_sign sign.LineEnd wanted.Newline v >>= λ end. Ok (ins, end)

    after_first : List WordModel → State → Step (List WordModel)
    after_first ins order_only = no_section sign.PipeAt order_only >>= after_second ins

    after_ins : List WordModel × State → Step (List WordModel)
    after_ins ins = no_section sign.Pipe2 ins.1 >>= after_first ins.0

    after_path : State → Step (List WordModel)
    after_path alone = section_next sign.Pipe alone >>= after_ins

    ended : (ins : List WordModel) (r : Result State Fault) → Kept r
        → reported (ending (entry_of out outs ins) r) ≡ ((r >>= λ end. Ok (ins, end)) >>= whole)
    ended ins (Ok end) k = refl
    ended ins (Err f) k = ap Err k

colon-reported : (r : Result State Fault) (f g : State → Step EntryModel) → Kept r
    → ((t : State) → reported (f t) ≡ g t) → reported (led_on r >>= λ c. f c.1) ≡ (r >>= g)
colon-reported r f g k h = grind arith

-- The line, with its marks reported.
pub entry-reported : (s : State) → reported (entry_marked s) ≡ entry_line s
unfolding entry_line
entry-reported s =
    word-reported (codes "build") wanted.Statement s at_output
    (λ build. output_next build >>= λ out. outs_of out.0 out.1) (λ build.
    output-reported build at_outs outs_of (λ out t.
    reported-bind (section_next sign.Pipe t) (with_outs out) (λ outs. colon_of out outs)
    (kept-section sign.Pipe t) (λ outs.
    colon-reported (expect_sign sign.Colon wanted.Colon outs.1) (at_rule out outs.0) (rule_of out outs.0)
    (kept-sign sign.Colon wanted.Colon outs.1) (λ colon.
    word-reported (codes "dyndep") wanted.CommandName colon (at_inputs out outs.0)
    (λ rule. added_inputs rule >>= λ ins. Ok (entry_of out outs.0 ins.0, ins.1))
    (inputs-reported out outs.0)))))
  where
    rule_of : WordModel → List WordModel → State → Step EntryModel
    rule_of out outs colon = word_of_form (codes "dyndep") wanted.CommandName colon >>=
        λ rule. added_inputs rule >>= λ ins. Ok (entry_of out outs ins.0, ins.1)

    colon_of : WordModel → List WordModel × State → Step EntryModel
    colon_of out outs = expect_sign sign.Colon wanted.Colon outs.1 >>= rule_of out outs.0

    outs_of : WordModel → State → Step EntryModel
    outs_of out t = section_next sign.Pipe t >>= colon_of out
