-- Each part can be read off the front of a text of fields in only one way.
use Rattle.std.proofs.Common.{◌≡◌, ◌<◌, ◌^◌, ℕ, Bool, true, false, List, [], ◌∷◌, ◌++◌, length, take, drop}
use Rattle.std.proofs.Common.{refl, sym, ap, ◌∙◌, append_assoc, arith}
use Rattle.std.specs.Prelude.{◌&&◌, decimal}
use Rattle.std.specs.Char.{is_ascii_digit}
use Rattle.std.specs.List.{flat_map, AllByRecursion}
use Rattle.std.specs.Str.{all_ascii_digits}
use Rattle.std.specs.Str.Parse.{digits_value}
use Rattle.std.proofs.Math.Seq.{drop-append_seam, take-append_seam}
use Rattle.std.proofs.lemmas.Fmt.{decimal_injective, digits_decimal}
use Rattle.std.proofs.lemmas.List.{length_push}
use Rattle.std.proofs.lemmas.Str.Parse.{IsNumeralModel, numerals_by_value, tells_all_ascii_digits}
use Rattle.nj_graph.specs.declared.Kind.{Kind}
use Rattle.nj_graph.specs.declared.Kind.TheVariants.{Explicit, Implicit, OrderOnly}
use Rattle.nj_keys.specs.Keys.{bars, field, fields_text, input_text, number, Fields, InputFields}
use Rattle.nj_keys.specs.Keys.{TextsTellFields}

pub own : IsNumeralModel (λ ds. all_ascii_digits ds ≡ true) (digits_value 10)
own = numerals_by_value (λ ds. all_ascii_digits ds ≡ true) tells_all_ascii_digits

both-true : (s t : Bool) → s && t ≡ true → (s ≡ true) × (t ≡ true)
both-true true t e = (refl, e)
both-true false t e = absurd cc

not-colon : (d : ℕ) → is_ascii_digit d ≡ true → 58 ≡ d → ⊥
not-colon d digit is = let colon : is_ascii_digit 58 ≡ true = ap is_ascii_digit is ∙ digit in absurd cc

-- the bytes before the first colon, and those after it
pub cut : (ds es r s : List ℕ) → all_ascii_digits ds ≡ true → all_ascii_digits es ≡ true
    → ds ++ 58 ∷ r ≡ es ++ 58 ∷ s → (ds ≡ es) × (r ≡ s)
cut [] [] r s all also is = (refl, cc)
cut [] (e ∷ es) r s all also is = absurd
    (not-colon e (both-true (is_ascii_digit e) (all_ascii_digits es) also).0 cc)
cut (d ∷ ds) [] r s all also is = absurd
    (not-colon d (both-true (is_ascii_digit d) (all_ascii_digits ds) all).0 cc)
cut (d ∷ ds) (e ∷ es) r s all also is =
    let first : d ≡ e = cc in
    let rest = cut ds es r s (both-true (is_ascii_digit d) (all_ascii_digits ds) all).1
    (both-true (is_ascii_digit e) (all_ascii_digits es) also).1 cc in
    (ap (λ n. n ∷ ds) first ∙ ap (λ ns. e ∷ ns) rest.0, rest.1)

-- a number in front of a text
pub one-number : (m n : ℕ) (x y : List ℕ) → m < 2 ^ 64 → n < 2 ^ 64 → number m ++ x ≡ number n ++ y
    → (m ≡ n) × (x ≡ y)
one-number m n x y fits also is =
    let whole = sym (append_assoc (decimal m) (58 ∷ []) x) ∙ is ∙ append_assoc (decimal n) (58 ∷ []) y in
    let parts = cut (decimal m) (decimal n) x y (digits_decimal own m fits) (digits_decimal own n also) whole
    in
    (decimal_injective m n fits also parts.0, parts.1)

-- a field in front of a text
one-field : (a b x y : List ℕ) → length a < 2 ^ 64 → length b < 2 ^ 64 → field a ++ x ≡ field b ++ y
    → (a ≡ b) × (x ≡ y)
one-field a b x y fits also is =
    let whole = sym (append_assoc (number (length a)) a x) ∙ is ∙ append_assoc (number (length b)) b y in
    let parts = one-number (length a) (length b) (a ++ x) (b ++ y) fits also whole in (
      sym (take-append_seam a x) ∙ ap (take (length a)) parts.1 ∙ ap (λ n. take n (b ++ y)) parts.0
          ∙ take-append_seam b y,
      sym (drop-append_seam a x) ∙ ap (drop (length a)) parts.1 ∙ ap (λ n. drop n (b ++ y)) parts.0
          ∙ drop-append_seam b y,
    )

-- as many fields in front of a text
abbrev IsShort : List ℕ → Type 0
IsShort text = length text < 2 ^ 64

pub same-fields : (cs bs : List (List ℕ)) (x y : List ℕ) → length cs ≡ length bs → AllByRecursion IsShort cs
    → AllByRecursion IsShort bs
    → flat_map field cs ++ x ≡ flat_map field bs ++ y → (cs ≡ bs) × (x ≡ y)
same-fields [] [] x y count fit also is = (refl, is)
same-fields [] (b ∷ bs) x y count fit also is = absurd (omega (arith, count))
same-fields (a ∷ cs) [] x y count fit also is = absurd (omega (arith, count))
same-fields (a ∷ cs) (b ∷ bs) x y count fit also is =
    let whole = sym (append_assoc (field a) (flat_map field cs) x) ∙ is
    ∙ append_assoc (field b) (flat_map field bs) y in
    let first = one-field a b (flat_map field cs ++ x) (flat_map field bs ++ y) fit.0 also.0 whole in
    let rest = same-fields cs bs x y (omega (arith, count)) fit.1 also.1 first.1 in
    (ap (λ t. t ∷ cs) first.0 ∙ ap (λ ts. b ∷ ts) rest.0, rest.1)

-- ---- inputs

short-bars : (kind : Kind) → IsShort (bars kind)
short-bars Explicit = omega arith
short-bars Implicit = omega arith
short-bars OrderOnly = omega arith

one-kind : (kind other : Kind) → bars kind ≡ bars other → kind ≡ other
one-kind Explicit Explicit is = refl
one-kind Explicit Implicit is = absurd (omega (arith, ap length is))
one-kind Explicit OrderOnly is = absurd (omega (arith, ap length is))
one-kind Implicit Explicit is = absurd (omega (arith, ap length is))
one-kind Implicit Implicit is = refl
one-kind Implicit OrderOnly is = absurd (omega (arith, ap length is))
one-kind OrderOnly Explicit is = absurd (omega (arith, ap length is))
one-kind OrderOnly Implicit is = absurd (omega (arith, ap length is))
one-kind OrderOnly OrderOnly is = refl

abbrev IsShortInput : InputFields → Type 0
IsShortInput input = IsShort input.path × IsShort input.key

one-input : (i j : InputFields) (x y : List ℕ) → IsShortInput i → IsShortInput j
    → input_text i ++ x ≡ input_text j ++ y → (i ≡ j) × (x ≡ y)
one-input i j x y fit also is =
    let split = λ (k : InputFields) (t : List ℕ). append_assoc (field (bars k.kind) ++ field k.path)
    (field k.key) t ∙ append_assoc (field (bars k.kind)) (field k.path) (field k.key ++ t) in
    let kind = one-field (bars i.kind) (bars j.kind) (field i.path ++ (field i.key ++ x))
    (field j.path ++ (field j.key ++ y)) (short-bars i.kind) (short-bars j.kind)
    (sym (split i x) ∙ is ∙ split j y) in
    let path = one-field i.path j.path (field i.key ++ x) (field j.key ++ y) fit.0 also.0 kind.1 in
    let key = one-field i.key j.key x y fit.1 also.1 path.1 in (
      ap (λ k. record { kind = k; path = i.path; key = i.key }) (one-kind i.kind j.kind kind.0)
          ∙ ap (λ p. record { kind = j.kind; path = p; key = i.key }) path.0
          ∙ ap (λ k. record { kind = j.kind; path = j.path; key = k }) key.0,
      key.1,
    )

none-in-front : (front rest : List ℕ) → [] ≡ front ++ rest → [] ≡ front
none-in-front [] rest is = refl
none-in-front (b ∷ front) rest is = absurd cc

some-input : (i : InputFields) (x : List ℕ) → [] ≡ input_text i ++ x → ⊥
some-input i x is =
    let kind = bars i.kind in
    let fields = none-in-front (field kind ++ field i.path) (field i.key) (none-in-front (input_text i) x is)
    in
    let none = none-in-front (number (length kind)) kind (none-in-front (field kind) (field i.path) fields) in
    absurd (omega (arith, ap length none, length_push (decimal (length kind)) 58))

same-inputs : (is js : List InputFields) → AllByRecursion IsShortInput is → AllByRecursion IsShortInput js
    → flat_map input_text is ≡ flat_map input_text js → is ≡ js
same-inputs [] [] fit also same = refl
same-inputs [] (j ∷ js) fit also same = absurd (some-input j (flat_map input_text js) same)
same-inputs (i ∷ is) [] fit also same = absurd (some-input i (flat_map input_text is) (sym same))
same-inputs (i ∷ is) (j ∷ js) fit also same =
    let first = one-input i j (flat_map input_text is) (flat_map input_text js) fit.0 also.0 same in
    ap (λ k. k ∷ is) first.0 ∙ ap (λ ks. j ∷ ks) (same-inputs is js fit.1 also.1 first.1)

-- ---- all fields

abbrev pub after_command : Fields → List ℕ
after_command f = field f.response_file
    ++ (field f.response ++ (number (length f.outputs)
    ++ (flat_map field f.outputs ++ flat_map input_text f.inputs)))

pub in-parts : (f : Fields) → fields_text f ≡ field f.command ++ after_command f
in-parts f =
    let command = field f.command in
    let file = field f.response_file in
    let response = field f.response in
    let count = number (length f.outputs) in
    let outputs = flat_map field f.outputs in
    let inputs = flat_map input_text f.inputs in
    append_assoc (command ++ file ++ response ++ count) outputs inputs
    ∙ append_assoc (command ++ file ++ response) count (outputs ++ inputs)
    ∙ append_assoc (command ++ file) response (count ++ (outputs ++ inputs))
    ∙ append_assoc command file (response ++ (count ++ (outputs ++ inputs)))

pub one-way : TextsTellFields
one-way f g fit also is =
    let after = λ (h : Fields). flat_map field h.outputs ++ flat_map input_text h.inputs in
    let command = one-field f.command g.command (after_command f) (after_command g) fit.command also.command
    (sym (in-parts f) ∙ is ∙ in-parts g) in
    let file = one-field f.response_file g.response_file _ _ fit.response_file also.response_file command.1 in
    let response = one-field f.response g.response _ _ fit.response also.response file.1 in
    let count = one-number (length f.outputs) (length g.outputs) _ _ fit.output_count also.output_count
    response.1 in
    let outputs = same-fields f.outputs g.outputs _ _ count.0 fit.outputs also.outputs count.1 in
    let inputs = same-inputs f.inputs g.inputs fit.inputs also.inputs outputs.1 in
    ap (λ c. record {
      command = c;
      response_file = f.response_file;
      response = f.response;
      outputs =
          f.outputs;
      inputs = f.inputs;
    }) command.0
    ∙ ap (λ r. record {
      command = g.command;
      response_file = r;
      response = f.response;
      outputs = f.outputs;
      inputs = f.inputs;
    }) file.0
    ∙ ap (λ r. record {
      command = g.command;
      response_file = g.response_file;
      response = r;
      outputs =
          f.outputs;
      inputs = f.inputs;
    }) response.0
    ∙ ap (λ os. record {
      command = g.command;
      response_file = g.response_file;
      response = g.response;
      outputs = os;
      inputs = f.inputs;
    }) outputs.0
    ∙ ap (λ is. record {
      command = g.command;
      response_file = g.response_file;
      response = g.response;
      outputs = g.outputs;
      inputs = is;
    }) inputs
