-- The walk through phony edges finds what files lead to.
use Rattle.std.proofs.Common.{◌≡◌, ◌≤◌, ◌+◌, ◌⊎◌, ◌++◌, ◌∙◌, inl, inr, ℕ, zero, suc, Bool, true, false, cond}
use Rattle.std.proofs.Common.{Option, Some, None, List, [], ◌∷◌, get_or, length, take, refl, sym, ap, subst}
use Rattle.std.proofs.Common.{arith}
use Rattle.std.specs.Prelude.{Contains, fold, option_and_then, slice_get, unwrap_or}
use Rattle.std.proofs.lemmas.Bool.{cases_lt}
use Rattle.std.proofs.lemmas.List.{append-nil, append_assoc, take-append-le, take_all, take_more}
use Rattle.std.proofs.lemmas.List.Elements.{Contains-append_cases, Contains-append_left}
use Rattle.std.proofs.lemmas.List.Elements.{Contains-append_right}
use Rattle.std.proofs.lemmas.Option.{slice_get-get_or, slice_get_past}
use Rattle.nj_names.specs.NameTables.{is_among, with_name}
use Rattle.nj_graph.specs.Edges.{EdgePaths}
use Rattle.nj_ask.specs.LookedThrough.{behind, behind_at, walked, with_led, IsClosed, LeadsTo}
use Rattle.nj_ask.specs.LookedThrough.{WalkFindsAllThatIsLedTo}
use Rattle.nj_ask.specs.LookedThrough.LeadsTo.{itself, through}
use Rattle.nj_ask.proofs.MeantLemmas.{among-there}

-- ---- files that are added

only : (x p : List ℕ) → Contains (x ∷ []) p → x ≡ p
only x p (zero, below, is) = is
only x p (suc k, below, is) = absurd (omega (arith, below))

one-sound : (cur : List (List ℕ)) (x p : List ℕ) → Contains (with_name cur x) p → Contains cur p ⊎ (x ≡ p)
one-sound cur x p = by (is_among cur x)
  where
    by : (b : Bool) → Contains (cond b cur (cur ++ x ∷ [])) p → Contains cur p ⊎ (x ≡ p)
    by true has = inl has
    by false has = elim (Contains-append_cases cur (x ∷ []) p has) [
      | inl a ↦ inl a
      | inr r ↦ inr (only x p r)
    ]

one-kept : (cur : List (List ℕ)) (x p : List ℕ) → Contains cur p → Contains (with_name cur x) p
one-kept cur x p has = by (is_among cur x)
  where
    by : (b : Bool) → Contains (cond b cur (cur ++ x ∷ [])) p
    by true = has
    by false = Contains-append_left cur (x ∷ []) p has

one-there : (cur : List (List ℕ)) (x : List ℕ) → Contains (with_name cur x) x
one-there cur x = by (is_among cur x) refl
  where
    by : (b : Bool) → is_among cur x ≡ b → Contains (cond b cur (cur ++ x ∷ [])) x
    by true is = among-there cur x is
    by false is = Contains-append_right cur (x ∷ []) x (0, omega arith, refl)

one-rest : (cur : List (List ℕ)) (x : List ℕ) → (rest : List (List ℕ)) × (with_name cur x ≡ cur ++ rest)
one-rest cur x = by (is_among cur x)
  where
    by : (b : Bool) → (rest : List (List ℕ)) × (cond b cur (cur ++ x ∷ []) ≡ cur ++ rest)
    by true = ([], sym (append-nil cur))
    by false = (x ∷ [], refl)

all-sound : (xs cur : List (List ℕ)) (p : List ℕ) → Contains (fold with_name cur xs) p
    → Contains cur p ⊎ Contains xs p
all-sound [] cur p has = inl has
all-sound (x ∷ xs) cur p has = elim (all-sound xs (with_name cur x) p has) [
  | inl c ↦ elim (one-sound cur x p c) [
    | inl a ↦ inl a
    | inr same ↦ inr (0, omega arith, same)
  ]
  | inr later ↦ inr (suc later.0, omega (arith, later.1), later.2)
]

all-kept : (xs cur : List (List ℕ)) (p : List ℕ) → Contains cur p → Contains (fold with_name cur xs) p
all-kept [] cur p has = has
all-kept (x ∷ xs) cur p has = all-kept xs (with_name cur x) p (one-kept cur x p has)

all-there : (xs cur : List (List ℕ)) (p : List ℕ) → Contains xs p → Contains (fold with_name cur xs) p
all-there [] cur p has = absurd (omega (arith, has.1))
all-there (x ∷ xs) cur p (zero, below, is) =
    all-kept xs (with_name cur x) p (subst (Contains (with_name cur x)) is (one-there cur x))
all-there (x ∷ xs) cur p (suc k, below, is) = all-there xs (with_name cur x) p (k, omega (arith, below), is)

all-rest : (xs cur : List (List ℕ)) → (rest : List (List ℕ)) × (fold with_name cur xs ≡ cur ++ rest)
all-rest [] cur = ([], sym (append-nil cur))
all-rest (x ∷ xs) cur =
    let one = one-rest cur x in
    let more = all-rest xs (with_name cur x) in
    (one.0 ++ more.0, more.1 ∙ ap (λ c. c ++ more.0) one.1 ∙ append_assoc cur one.0 more.0)

-- ---- one turn

module _ (edges : List EdgePaths) where
  led-on : {start path : List ℕ} → LeadsTo edges start path → (inputs : List (List ℕ)) (input : List ℕ)
      → behind edges path ≡ Some inputs → Contains inputs input → LeadsTo edges start input
  led-on itself inputs input is has = through is has itself
  led-on (through first there rest) inputs input is has =
      through first there (led-on rest inputs input is has)

  -- what is behind a place
  behind-some : (o : Option (List ℕ)) (p : List ℕ)
      → Contains (unwrap_or (option_and_then (behind edges) o) []) p
      → (file : List ℕ) × (inputs : List (List ℕ)) × (o ≡ Some file) × (behind edges file ≡ Some inputs)
      × Contains inputs p
  behind-some None p has = absurd (omega (arith, has.1))
  behind-some (Some file) p has = by (behind edges file) refl has
    where
      by : (b : Option (List (List ℕ))) → behind edges file ≡ b → Contains (unwrap_or b []) p
          → (f : List ℕ) × (inputs : List (List ℕ)) × (Some file ≡ Some f) × (behind edges f ≡ Some inputs)
          × Contains inputs p
      by None is none = absurd (omega (arith, none.1))
      by (Some inputs) is there = (file, inputs, refl, is, there)

  -- an element of the first places, one more
  place-more : (cur : List (List ℕ)) (place : ℕ) (p : List ℕ)
      → Contains (take (place + 1) (fold with_name cur (behind_at edges cur place))) p
      → Contains (take place cur) p ⊎ (slice_get cur place ≡ Some p)
  place-more cur place p has = elim (cases_lt place (length cur)) [
    | inl within ↦
        let rest = all-rest (behind_at edges cur place) cur in
        let first : take (place + 1) (fold with_name cur (behind_at edges cur place))
        ≡ take place cur ++ get_or cur place [] ∷ [] =
        ap (take (place + 1)) rest.1 ∙ take-append-le (place + 1) cur rest.0 (omega (arith, within))
        ∙ take_more cur place [] within in
        elim (Contains-append_cases (take place cur) (get_or cur place [] ∷ []) p
        (subst (λ ps. Contains ps p) first has)) [
          | inl before ↦ inl before
          | inr here ↦ inr (slice_get-get_or cur place [] within
              ∙ ap (λ x. Some x) (only (get_or cur place []) p here))
        ]
    | inr past ↦
        let none : fold with_name cur (behind_at edges cur place) ≡ cur =
        ap (λ o. fold with_name cur (unwrap_or (option_and_then (behind edges) o) []))
        (slice_get_past cur place past) in
        let same : take (place + 1) (fold with_name cur (behind_at edges cur place)) ≡ take place cur =
        ap (take (place + 1)) none ∙ take_all (place + 1) cur (omega (arith, past))
        ∙ sym (take_all place cur past) in
        inl (subst (λ ps. Contains ps p) same has)
  ]

  module _ (found more : List (List ℕ)) (closed : IsClosed edges found) where
    abbrev Good : (path : List ℕ) → Type 0
    Good path = Contains found path ⊎ ((start : List ℕ) × Contains more start × LeadsTo edges start path)

    record State (place : ℕ) (cur : List (List ℕ)) : Type 0 where
      sound : (p : List ℕ) → Contains cur p → Good p
      kept : (p : List ℕ) → Contains found p → Contains cur p
      begun : (p : List ℕ) → Contains more p → Contains cur p
      done : (p input : List ℕ) (inputs : List (List ℕ)) → Contains (take place cur) p
          → behind edges p ≡ Some inputs
          → Contains inputs input → Contains cur input

    good-on : (file p : List ℕ) (inputs : List (List ℕ)) → Good file → behind edges file ≡ Some inputs
        → Contains inputs p → Good p
    good-on file p inputs (inl has) is there = inl (closed file p inputs has is there)
    good-on file p inputs (inr led) is there = inr (led.0, led.1, led-on led.2 inputs p is there)

    at-place : (cur : List (List ℕ)) (place : ℕ) (p : List ℕ) → slice_get cur place ≡ Some p → Contains cur p
    at-place [] place p is = absurd cc
    at-place (x ∷ xs) zero p is = let same : x ≡ p = cc in (0, omega arith, same)
    at-place (x ∷ xs) (suc k) p is = let later = at-place xs k p is
        in (suc later.0, omega (arith, later.1), later.2)

    turn : (place : ℕ) (cur : List (List ℕ)) → State place cur
        → State (place + 1) (fold with_name cur (behind_at edges cur place))
    turn place cur s = record {
      sound = λ p has. elim (all-sound (behind_at edges cur place) cur p has) [
        | inl before ↦ s.sound p before
        | inr new ↦ let it = behind-some (slice_get cur place) p new in
            good-on it.0 p it.1 (s.sound it.0 (at-place cur place it.0 it.2)) it.3 it.4
      ];
      kept = λ p has. all-kept (behind_at edges cur place) cur p (s.kept p has);
      begun = λ p has. all-kept (behind_at edges cur place) cur p (s.begun p has);
      done = λ p input inputs has is there. elim (place-more cur place p has) [
        | inl before ↦ all-kept (behind_at edges cur place) cur input (s.done p input inputs before is there)
        | inr here ↦ all-there (behind_at edges cur place) cur input
            (subst (λ ps. Contains ps input)
            (sym (ap (λ o. unwrap_or (option_and_then (behind edges) o) []) here
            ∙ ap (λ o. unwrap_or o []) is)) there)
      ];
    }

    turns-on : (turns place : ℕ) (cur : List (List ℕ)) → State place cur
        → State (place + turns) (walked edges turns place cur)
    turns-on zero place cur s = subst (λ n. State n cur) (let n : place ≡ place + 0 = omega arith in n) s
    turns-on (suc turns) place cur s =
        subst (λ n. State n (walked edges (suc turns) place cur))
        (let n : (place + 1) + turns ≡ place + suc turns = omega arith in n)
        (turns-on turns (place + 1) (fold with_name cur (behind_at edges cur place)) (turn place cur s))

    begins : State (length found) (fold with_name found more)
    begins = record {
      sound = λ p has. elim (all-sound more found p has) [
        | inl before ↦ inl before
        | inr new ↦ inr (p, new, itself)
      ];
      kept = λ p has. all-kept more found p has;
      begun = λ p has. all-there more found p has;
      done = λ p input inputs has is there.
          let rest = all-rest more found in
          let same : take (length found) (fold with_name found more) ≡ found =
          ap (take (length found)) rest.1 ∙ take-append-le (length found) found rest.0 (omega arith)
          ∙ take_all (length found) found (omega arith) in
          all-kept more found input (closed p input inputs (subst (λ ps. Contains ps p) same has) is there);
    }

    ended : (place : ℕ) (cur : List (List ℕ)) → State place cur → length cur ≤ place → {start path : List ℕ}
        → LeadsTo edges start path → Contains cur start → Contains cur path
    ended place cur s past itself has = has
    ended place cur s past (through {path = path} {input = input} {inputs = inputs} is there rest) has =
        ended place cur s past rest
        (s.done path input inputs (subst (λ ps. Contains ps path) (sym (take_all place cur past)) has) is
        there)

pub walk-finds : WalkFindsAllThatIsLedTo
walk-finds edges turns found more closed enough path =
    let cur = with_led edges turns found more in
    let s = turns-on edges found more closed turns (length found) (fold with_name found more)
    (begins edges found more closed) in (
      λ has. s.sound path has,
      λ good. elim good [
        | inl before ↦ s.kept path before
        | inr led ↦ ended edges found more closed (length found + turns) cur s enough led.2
            (s.begun led.0 led.1)
      ],
    )
