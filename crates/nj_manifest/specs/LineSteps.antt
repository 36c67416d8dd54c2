-- Reading on along a line, call by call of the lexer.
use Rattle.std.specs.Prelude.{ℕ, zero, suc, if◌then◌else◌, ok_or, Result, Ok, Err, List, [], ◌∷◌, length}
use Rattle.std.specs.Option.{option_map_or}
use Rattle.std.specs.Result.{result_map_both}
use Rattle.nj_text.specs.declared.sign.Sign.{Sign}
use Rattle.nj_text.specs.declared.sign.Sign.TheVariants as sign
use Rattle.nj_text.specs.declared.spot.Spot.{Spot}
use Rattle.nj_text.specs.Words.{WordModel}
use Rattle.nj_text.specs.Calls.{State, Inside, Reply, skip_blanks_of, ident_of, sign_of, path_word_of, spot_of}
use Rattle.nj_manifest.specs.declared.cause.SyntaxCause.TheVariants as cause
use Rattle.nj_manifest.specs.declared.cause.Wanted.{Wanted}
use Rattle.nj_manifest.specs.declared.cause.Wanted.TheVariants as wanted
use Rattle.nj_manifest.specs.Faults.{Fault, Placed, bad_unit}

-- the value read, and the lexer after it; or the fault at which no statement continues
abbrev pub Step : Type 0 → Type 0
Step A = Result (A × State) Fault

infixl 10 ◌>>=◌
-- a step, and after it the next one; the first fault ends them
abbrev pub ◌>>=◌ : {A B E : Type 0} → Result A E → (A → Result B E) → Result B E
(Ok x) >>= f = f x
(Err e) >>= f = Err e

-- a call of the lexer
abbrev pub called : {A : Type 0} → Reply A → Step A
called r = result_map_both (λ x. x) bad_unit r

-- a name and the place of its first byte
pub record NameModel : Type 0 where
  pub spot : Spot
  pub name : List ℕ

-- an identifier, which is wanted under this name
unfoldable pub name_next : Wanted → State → Step NameModel
name_next wanted s = do
  found ← called (ident_of (skip_blanks_of s))
  name ← ok_or found.0 (Placed (spot_of (skip_blanks_of s)) (cause.Expected wanted))
  Ok (record { spot = spot_of (skip_blanks_of s); name = name }, found.1)

-- the lexer after a required sign
unfoldable pub expect_sign : Sign → Wanted → State → Result State Fault
expect_sign want wanted s = do
  there ← called (sign_of want s)
  if there.0 then Ok there.1 else Err (Placed (spot_of there.1) (cause.Expected wanted))

-- the value of a step, which has to end its line
abbrev pub whole_line : {A : Type 0} → Step A → Step A
whole_line step = step >>= λ x. expect_sign sign.LineEnd wanted.Newline x.1 >>= λ end. Ok (x.0, end)

-- the words from here on, where the limit is above their number
unfoldable pub words_within : (limit : ℕ) → State → Step (List WordModel)
words_within zero s = Ok ([], s)
words_within (suc limit) s = do
  word ← called (path_word_of s)
  option_map_or (λ first. words_within limit word.1 >>= λ more. Ok (first ∷ more.0, more.1)) word.0 (Ok ([], word.1))

-- the words from here on, up to the first element that is not a word; each has at least a unit
unfoldable pub words_next : State → Step (List WordModel)
words_next (Inside l ls) = words_within (suc (length l.units)) (Inside l ls)
words_next s = words_within (suc zero) s

-- the words of a section that begins with the given sign; without the sign there are no words
unfoldable pub section_next : Sign → State → Step (List WordModel)
section_next want s = do
  there ← called (sign_of want s)
  if there.0 then words_next there.1 else Ok ([], there.1)
