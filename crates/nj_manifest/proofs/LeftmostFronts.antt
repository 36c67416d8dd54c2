-- The units before a reading that it sees: the first one, and both of `||` and `|@`.
use Rattle.std.proofs.Common.{arith, ◌≡◌, ℕ, Bool, true, false, ◌&&◌, ◌||◌, not, List, [], ◌∷◌, ◌++◌}
use Rattle.std.proofs.Common.{take}
use Rattle.std.proofs.Common.{sym, ap, ◌∙◌}
use Rattle.std.specs.List.{take_while}
use Rattle.nj_text.specs.declared.sign.Sign.{Sign}
use Rattle.nj_text.specs.declared.sign.Sign.TheVariants as sign
use Rattle.nj_text.specs.Bytes.{begins_with}
use Rattle.nj_text.specs.Units.{TextUnit}
use Rattle.nj_text.specs.Words.{in_identifier, begins_with_byte, next_fault}
use Rattle.nj_text.specs.Calls.{is_sign}
use Rattle.nj_manifest.specs.Leftmost.{element_by, element}

abbrev pub front : List TextUnit → List TextUnit
front us = element_by false (is_sign sign.Pipe2 us || is_sign sign.PipeAt us) us

-- ---- the first unit

front-head : (us : List TextUnit) → take 1 (front us) ≡ take 1 us
front-head us = grind arith

pub same-head : (x y : List TextUnit) → front x ≡ front y → take 1 x ≡ take 1 y
same-head x y h = sym (front-head x) ∙ (ap (take 1) h ∙ front-head y)

begins-head : (p : TextUnit → Bool) (x : List TextUnit) → begins_with p x ≡ begins_with p (take 1 x)
begins-head p x = grind arith

begins-heads : (p : TextUnit → Bool) (x y : List TextUnit) → take 1 x ≡ take 1 y
    → begins_with p x ≡ begins_with p y
begins-heads p x y h = begins-head p x ∙ (ap (begins_with p) h ∙ sym (begins-head p y))

pub begins-same : (p : TextUnit → Bool) (x y : List TextUnit) → front x ≡ front y
    → begins_with p x ≡ begins_with p y
begins-same p x y h = begins-heads p x y (same-head x y h)

byte-head : (b : ℕ) (x : List TextUnit) → begins_with_byte b x ≡ begins_with_byte b (take 1 x)
byte-head b x = grind arith

pub byte-same : (b : ℕ) (x y : List TextUnit) → front x ≡ front y
    → begins_with_byte b x ≡ begins_with_byte b y
byte-same b x y h = byte-head b x ∙ (ap (begins_with_byte b) (same-head x y h) ∙ sym (byte-head b y))

fault-head : (x : List TextUnit) → next_fault x ≡ next_fault (take 1 x)
fault-head x = grind arith

pub fault-same : (x y : List TextUnit) → front x ≡ front y → next_fault x ≡ next_fault y
fault-same x y h = fault-head x ∙ (ap next_fault (same-head x y h) ∙ sym (fault-head y))

-- ---- signs

element-one : (t : Bool) (u : TextUnit) → element_by false t (u ∷ []) ≡ u ∷ []
element-one t u = grind arith

no_pipe2 : (p q r : Bool) → ((p && q) || (p && r)) ≡ false → (p && q) ≡ (p && false)
no_pipe2 p q r h = grind arith

no_pipe_at : (p q r : Bool) → ((p && q) || (p && r)) ≡ false → (p && r) ≡ (p && false)
no_pipe_at p q r h = grind arith

bare_pipe : (p q r : Bool) → ((p && q) || (p && r)) ≡ false → (p && not q && not r) ≡ (p && true && true)
bare_pipe p q r h = grind arith

sign-two : (s : Sign) (u v : TextUnit) (vs : List TextUnit) (t : Bool)
    → (is_sign sign.Pipe2 (u ∷ v ∷ vs) || is_sign sign.PipeAt (u ∷ v ∷ vs)) ≡ t
    → is_sign s (u ∷ v ∷ vs) ≡ is_sign s (element_by false t (u ∷ v ∷ vs))
sign-two s u v vs t h = grind arith

sign-front : (s : Sign) (x : List TextUnit) → is_sign s x ≡ is_sign s (front x)
sign-front s x = grind arith

pub sign-same : (s : Sign) (x y : List TextUnit) → front x ≡ front y → is_sign s x ≡ is_sign s y
sign-same s x y h = sign-front s x ∙ (ap (is_sign s) h ∙ sym (sign-front s y))

-- ---- after other units

element-pair : (t : Bool) (u v : TextUnit) (x y : List TextUnit)
    → element_by false t (u ∷ v ∷ x) ≡ element_by false t (u ∷ v ∷ y)
element-pair t u v x y = grind arith

-- two units are all that is seen
pub front-two : (u v : TextUnit) (x y : List TextUnit) → front (u ∷ v ∷ x) ≡ front (u ∷ v ∷ y)
front-two u v x y = element-pair (is_sign sign.Pipe2 (u ∷ v ∷ []) || is_sign sign.PipeAt (u ∷ v ∷ [])) u v x y

-- the front of a unit before others, by whether they begin with `|` or `@`
abbrev front_with : TextUnit → List TextUnit → (pipe at : Bool) → List TextUnit
front_with u x pipe at = element_by false
    ((begins_with_byte 124 (u ∷ []) && pipe) || (begins_with_byte 124 (u ∷ []) && at)) (u ∷ x)

element-after : (t : Bool) (u : TextUnit) (x y : List TextUnit) → take 1 x ≡ take 1 y
    → element_by false t (u ∷ x) ≡ element_by false t (u ∷ y)
element-after t u x y h = grind arith

front-after : (u : TextUnit) (x y : List TextUnit) → front x ≡ front y → front (u ∷ x) ≡ front (u ∷ y)
front-after u x y h = grind arith

pub front-append : (used x y : List TextUnit) → front x ≡ front y → front (used ++ x) ≡ front (used ++ y)
front-append [] x y h = h
front-append (u ∷ []) x y h = front-after u x y h
front-append (u ∷ v ∷ used) x y h = front-two u v (used ++ x) (used ++ y)

-- a unit that is not `|` is seen alone
pub front-alone : (u : TextUnit) (x : List TextUnit) → begins_with_byte 124 (u ∷ []) ≡ false
    → front (u ∷ x) ≡ u ∷ []
front-alone u x h = grind arith

-- neither `|` nor `@` follows
pub front-bare : (u : TextUnit) (x : List TextUnit) → begins_with_byte 124 x ≡ false
    → begins_with_byte 64 x ≡ false → front (u ∷ x) ≡ u ∷ []
front-bare u x h g = grind arith

-- ---- elements

pub identifier_no_pipe : (u : TextUnit) → in_identifier u ≡ true → begins_with_byte 124 (u ∷ []) ≡ false
identifier_no_pipe u h = grind arith

identifier-front : (x : List TextUnit) → begins_with in_identifier x ≡ true → front x ≡ take 1 x
identifier-front x h = grind arith

pub element-identifier : (x : List TextUnit) → begins_with in_identifier x ≡ true
    → element x ≡ take_while in_identifier x
element-identifier x h = ap (λ (t : Bool). element_by t (is_sign sign.Pipe2 x || is_sign sign.PipeAt x) x) h

pub element-other : (x : List TextUnit) → begins_with in_identifier x ≡ false → element x ≡ front x
element-other x h = ap (λ (t : Bool). element_by t (is_sign sign.Pipe2 x || is_sign sign.PipeAt x) x) h

run-head : (x : List TextUnit) → begins_with in_identifier x ≡ true
    → take 1 (take_while in_identifier x) ≡ take 1 x
run-head x h = grind arith

element-head : (x : List TextUnit) → take 1 (element x) ≡ take 1 x
element-head x = grind (arith, take, element-identifier, run-head, element-other, front-head)

element-heads : (x y : List TextUnit) → element x ≡ element y → take 1 x ≡ take 1 y
element-heads x y h = sym (element-head x) ∙ (ap (take 1) h ∙ element-head y)

-- Units that begin with the same element are seen alike.
pub element-front : (x y : List TextUnit) → element x ≡ element y → front x ≡ front y
element-front x y h = grind (arith, identifier-front, begins-heads, element-heads, element-other)
