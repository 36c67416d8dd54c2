-- Lemmas on lists that are joined, and on numbers as bytes.
use Rattle.std.proofs.lemmas.Grind.{common_steps}
use Rattle.std.proofs.Common.{◌≡◌, ◌≢◌, ◌<◌, ◌≤◌, ◌+◌, ◌*◌, ◌^◌, ◌%◌, ℕ, true, false, Option}
use Rattle.std.proofs.Common.{MatchOption, Bor, List, [], ◌∷◌, ◌++◌, length, refl, sym, ap, ◌∙◌, arith}
use Rattle.std.proofs.Common.{append_assoc, length-append}
use Rattle.std.specs.List.{AllByRecursion}
use Rattle.std.proofs.lemmas.List.{append-nil, append_cancel_left, nil_from_length}
use Rattle.nj_deps.specs.LogRecords.{word, words}
use Rattle.nj_deps.specs.Logs.{first_line, opening}
use Rattle.nj_deps.specs.Inside.RecordsRead.{AppendsNumbers}

-- two lists that are joined are determined by the length of the first list
pub apart : {A : Type 0} (a b x y : List A) → length a ≡ length b → a ++ x ≡ b ++ y → (a ≡ b) × (x ≡ y)
apart [] [] x y l e = (refl, e)
apart [] (q ∷ b) x y l e = absurd (omega arith)
apart (p ∷ a) [] x y l e = absurd (omega arith)
apart (p ∷ a) (q ∷ b) x y l e =
    let tails : a ++ x ≡ b ++ y = cc in
    let rest = apart a b x y (omega arith) tails in
    let heads : p ≡ q = cc in
    let fronts : a ≡ b = rest.0 in
    (cc, rest.1)

-- or by the length of the second list
pub apart_last : {A : Type 0} (a b x y : List A) → length x ≡ length y → a ++ x ≡ b ++ y → (a ≡ b) × (x ≡ y)
apart_last a b x y l e =
    let all = ap length e in
    apart a b x y (omega (arith, length-append a x, length-append b y)) e

pub length-word : (n : ℕ) → length (word n) ≡ 4
unfolding word
length-word n = refl

pub word_is : (n m : ℕ) → n < 2 ^ 32 → m < 2 ^ 32 → word n ≡ word m → n ≡ m
unfolding word
word_is n m small_n small_m e = grind arith

pub length-words : (ns : List ℕ) → length (words ns) ≡ 4 * length ns
length-words [] = refl
length-words (n ∷ ns) = omega (arith, length-append (word n) (words ns), length-word n, length-words ns)

-- words are of one list of numbers
pub words_are : (ns ms : List ℕ) → AllByRecursion (λ n. n < 2 ^ 32) ns → AllByRecursion (λ n. n < 2 ^ 32) ms
    → words ns ≡ words ms → ns ≡ ms
words_are [] [] small_ns small_ms e = refl
words_are [] (m ∷ ms) small_ns small_ms e = let l = ap length e in
    absurd (omega (arith, length-words (m ∷ ms)))
words_are (n ∷ ns) [] small_ns small_ms e = let l = ap length e in
    absurd (omega (arith, length-words (n ∷ ns)))
words_are (n ∷ ns) (m ∷ ms) small_ns small_ms e =
    let both = apart (word n) (word m) (words ns) (words ms) (length-word n ∙ sym (length-word m)) e in
    let head : n ≡ m = word_is n m small_ns.0 small_ms.0 both.0 in
    let rest : ns ≡ ms = words_are ns ms small_ns.1 small_ms.1 both.1 in
    cc

pub after-word : (bytes : List ℕ) (n : ℕ) (rest : List ℕ) → bytes ≡ word n ++ rest
    → length bytes ≡ length rest + 4
after-word bytes n rest e = let l = ap length e in omega (arith, length-append (word n) rest, length-word n)

-- a number at the front
pub shorter-by : (bytes : List ℕ) (n : ℕ) (rest : List ℕ) → bytes ≡ word n ++ rest
    → length rest < length bytes
shorter-by bytes n rest e = let l = ap length e in omega (arith, length-append (word n) rest, length-word n)

-- ---- numbers that are read

-- the front of the bytes are numbers below the count, which were appended
pub record NumbersRead (count : ℕ) (bytes rest old new : List ℕ) : Type 0 where
  pub numbers : List ℕ
  pub appended : new ≡ old ++ numbers
  pub known : AllByRecursion (λ n. n < count) numbers
  pub cut : bytes ≡ words numbers ++ rest

known-last : (count : ℕ) (ns : List ℕ) (n : ℕ) → AllByRecursion (λ k. k < count) ns → n < count
    → AllByRecursion (λ k. k < count) (ns ++ n ∷ [])
known-last count ns n all one = grind (arith, common_steps)

pub none_read : (count : ℕ) (bytes old : List ℕ) → NumbersRead count bytes bytes old old
none_read count bytes old = record { numbers = []; appended = sym (append-nil old); known = tt; cut = refl }

pub number_read : (count : ℕ) (bytes rest old new : List ℕ) (n : ℕ) (others : List ℕ)
    → NumbersRead count bytes rest old new → n < count → rest ≡ word n ++ others
    → NumbersRead count bytes others old (new ++ n ∷ [])
number_read count bytes rest old new n others so_far below e = grind (arith, common_steps)

pub all_read : (count : ℕ) (bytes rest old new : List ℕ) → NumbersRead count bytes rest old new
    → length bytes % 4 ≡ 0 → length rest < 4 → AppendsNumbers count bytes old new true
all_read count bytes rest old new so_far whole short = grind (
  arith,
  length,
  length-append,
  length-words,
  nil_from_length,
  append-nil,
)

-- numbers below the count that have a number among their words
below-among : (count : ℕ) (ns : List ℕ) (n : ℕ) (others is : List ℕ) → count ≤ 2 ^ 32 → n < 2 ^ 32
    → words is ≡ words ns ++ (word n ++ others) → AllByRecursion (λ k. k < count) is → n < count
below-among count [] n others [] few small e all = let l = ap length e in
    absurd (omega (arith, length-append (word n) others, length-word n))
below-among count [] n others (i ∷ is) few small e all =
    let both = apart (word i) (word n) (words is) others (length-word i ∙ sym (length-word n)) e in
    let below : i < count = all.0 in
    let same : i ≡ n = word_is i n (omega arith) small both.0 in
    omega arith
below-among count (m ∷ ns) n others [] few small e all = let l = ap length e in
    absurd (omega (
      arith,
      length-append (words (m ∷ ns)) (word n ++ others),
      length-append (word m) (words ns),
      length-word m,
    ))
below-among count (m ∷ ns) n others (i ∷ is) few small e all =
    let both = apart (word i) (word m) (words is) (words ns ++ (word n ++ others))
    (length-word i ∙ sym (length-word m)) (e ∙ append_assoc (word m) (words ns) (word n ++ others)) in
    below-among count ns n others is few small both.1 all.1

pub one_past : (count : ℕ) (bytes rest old new : List ℕ) (n : ℕ) (others : List ℕ)
    → NumbersRead count bytes rest old new → count ≤ 2 ^ 32 → n < 2 ^ 32 → rest ≡ word n ++ others → count ≤ n
    → AppendsNumbers count bytes old new false
one_past count bytes rest old new n others so_far few small e past is cut all = grind (arith, below-among)

-- ---- the opening

pub opening_read : (bytes rest : List ℕ) (r : Option (ℕ × Bor (List ℕ))) → bytes ≡ first_line ++ rest
    → MatchOption r (length rest < 4) (λ p. (p.0 < 2 ^ 32) × (rest ≡ word p.0 ++ p.1.now))
    → MatchOption r ((version : ℕ) (more : List ℕ) → bytes ≢ opening version ++ more)
    (λ p. (p.0 < 2 ^ 32) × (bytes ≡ opening p.0 ++ p.1.now))
opening_read bytes rest r line short = grind (arith, length, length-append, length-word)

-- a version is known by its opening
pub version_is : (version other : ℕ) (rest more : List ℕ) → version < 2 ^ 32 → other < 2 ^ 32
    → opening version ++ rest ≡ opening other ++ more → version ≡ other
version_is version other rest more small other_small e =
    let words = append_cancel_left first_line (word version ++ rest) (word other ++ more)
    (sym (append_assoc first_line (word version) rest) ∙ e ∙ append_assoc first_line (word other) more) in
    word_is version other small other_small
    (apart (word version) (word other) rest more (length-word version ∙ sym (length-word other)) words).0
