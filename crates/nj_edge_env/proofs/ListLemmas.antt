-- Lemmas on lists of numbers.
use Rattle.std.proofs.lemmas.Grind.{common_steps}
use Rattle.std.proofs.Common.{◌≡◌, ◌≢◌, ℕ, zero, suc, ◌+◌, ◌-◌, ◌<◌, ◌≤◌, nat_eq, cond, Result}
use Rattle.std.proofs.Common.{is_ok, ◌⊎◌, inl, inr, List, [], ◌∷◌, ◌++◌, length, take, drop, get_or}
use Rattle.std.proofs.Common.{replicate, arith, refl, sym, ap, subst, ◌∙◌}
use Rattle.std.proofs.lemmas.List.{drop-append-le, drop_all, length-append}
use Rattle.std.proofs.lemmas.List.{length-replicate}
use Rattle.std.proofs.lemmas.Bool.{cases_lt}
use Rattle.std.proofs.lemmas.Bool.Decides.{eqb_tells}
use Rattle.std.specs.List.{slice_range}
use Rattle.std.specs.Result.{OnOk, OnErr}
use Rattle.nj_edge_env.specs.Inside.BlocksHeld.{list_at, lists_of, AreStarts}
use Rattle.nj_edge_env.proofs.BoundLemmas.{Compared, slice_kept}

-- ---- where lists start

pub start-within : (len start : ℕ) (starts : List ℕ) → AreStarts len (start ∷ starts) → start ≤ len
start-within len start [] h = h
start-within len start (next ∷ starts) h = grind (arith, start-within len next starts h.1)

pub within-at : (len : ℕ) (starts : List ℕ) (i d : ℕ) → AreStarts len starts → i < length starts
    → get_or starts i d ≤ len
within-at len [] i d h inside = absurd (omega arith)
within-at len (s ∷ starts) zero d h inside = start-within len s starts h
within-at len (s ∷ []) (suc i) d h inside = absurd (omega arith)
within-at len (s ∷ t ∷ starts) (suc i) d h inside = within-at len (t ∷ starts) i d h.1 (omega arith)

pub rises-at : (len : ℕ) (starts : List ℕ) (i d : ℕ) → AreStarts len starts → suc i < length starts
    → get_or starts i d ≤ get_or starts (suc i) d
rises-at len [] i d h inside = absurd (omega arith)
rises-at len (s ∷ []) i d h inside = absurd (omega arith)
rises-at len (s ∷ t ∷ starts) zero d h inside = h.0
rises-at len (s ∷ t ∷ starts) (suc i) d h inside = rises-at len (t ∷ starts) i d h.1 (omega arith)

pub starts-grow : (len more : ℕ) (starts : List ℕ) → len ≤ more → AreStarts len starts → AreStarts more starts
starts-grow len more [] le h = tt
starts-grow len more (s ∷ []) le h = omega (arith, h)
starts-grow len more (s ∷ t ∷ starts) le h = (h.0, starts-grow len more (t ∷ starts) le h.1)

starts-empty : (len k : ℕ) → AreStarts len (replicate k len)
starts-empty len zero = tt
starts-empty len (suc zero) = omega arith
starts-empty len (suc (suc k)) = (omega arith, starts-empty len (suc k))

pub starts-padded : (len : ℕ) (starts : List ℕ) (k : ℕ) → AreStarts len starts
    → AreStarts len (starts ++ replicate k len)
starts-padded len [] k h = starts-empty len k
starts-padded len (s ∷ []) zero h = h
starts-padded len (s ∷ []) (suc k) h = (h, starts-empty len (suc k))
starts-padded len (s ∷ t ∷ starts) k h = (h.0, starts-padded len (t ∷ starts) k h.1)

pub length-lists : (numbers starts : List ℕ) → length (lists_of numbers starts) ≡ length starts
length-lists numbers [] = refl
length-lists numbers (s ∷ []) = refl
length-lists numbers (s ∷ t ∷ starts) = ap suc (length-lists numbers (t ∷ starts))

-- ---- the list of an index

pub list-past : (numbers starts : List ℕ) (i : ℕ) → length starts ≤ i
    → list_at (lists_of numbers starts) i ≡ []
list-past numbers [] i h = refl
list-past numbers (s ∷ []) zero h = absurd (omega arith)
list-past numbers (s ∷ []) (suc i) h = refl
list-past numbers (s ∷ t ∷ starts) zero h = absurd (omega arith)
list-past numbers (s ∷ t ∷ starts) (suc i) h = list-past numbers (t ∷ starts) i (omega arith)

pub list-last : (numbers starts : List ℕ) (i d : ℕ) → suc i ≡ length starts
    → list_at (lists_of numbers starts) i ≡ drop (get_or starts i d) numbers
list-last numbers [] i d h = absurd (omega arith)
list-last numbers (s ∷ []) zero d h = refl
list-last numbers (s ∷ []) (suc i) d h = absurd (omega arith)
list-last numbers (s ∷ t ∷ starts) zero d h = absurd (omega arith)
list-last numbers (s ∷ t ∷ starts) (suc i) d h = list-last numbers (t ∷ starts) i d (omega arith)

pub list-inner : (numbers starts : List ℕ) (i d : ℕ) → suc i < length starts
    → list_at (lists_of numbers starts) i ≡ slice_range numbers (get_or starts i d) (get_or starts (suc i) d)
list-inner numbers [] i d h = absurd (omega arith)
list-inner numbers (s ∷ []) i d h = absurd (omega arith)
list-inner numbers (s ∷ t ∷ starts) zero d h = refl
list-inner numbers (s ∷ t ∷ starts) (suc i) d h = list-inner numbers (t ∷ starts) i d (omega arith)

-- ---- empty lists at the end

to-end : (numbers : List ℕ) (start : ℕ) → start ≤ length numbers
    → slice_range numbers start (length numbers) ≡ drop start numbers
to-end numbers start h = grind (arith, common_steps)

nothing-after : (numbers : List ℕ) → drop (length numbers) numbers ≡ []
nothing-after numbers = drop_all (length numbers) numbers (omega arith)

nothing-between : (numbers : List ℕ) → slice_range numbers (length numbers) (length numbers) ≡ []
nothing-between numbers = to-end numbers (length numbers) (omega arith) ∙ nothing-after numbers

none-more : (numbers : List ℕ) (k i : ℕ) → list_at (lists_of numbers (replicate k (length numbers))) i ≡ []
none-more numbers zero i = refl
none-more numbers (suc zero) zero = nothing-after numbers
none-more numbers (suc zero) (suc i) = refl
none-more numbers (suc (suc k)) zero = nothing-between numbers
none-more numbers (suc (suc k)) (suc i) = none-more numbers (suc k) i

pub padded : (numbers starts : List ℕ) (k i : ℕ) → AreStarts (length numbers) starts
    → list_at (lists_of numbers (starts ++ replicate k (length numbers))) i
    ≡ list_at (lists_of numbers starts) i
padded numbers [] k i h = none-more numbers k i
padded numbers (s ∷ []) zero i h = refl
padded numbers (s ∷ []) (suc k) zero h = to-end numbers s h
padded numbers (s ∷ []) (suc k) (suc i) h = none-more numbers (suc k) i
padded numbers (s ∷ t ∷ starts) k zero h = refl
padded numbers (s ∷ t ∷ starts) k (suc i) h = padded numbers (t ∷ starts) k i h.1

-- the list of an index, by its start and the start of the next list
pub list-between : (numbers starts : List ℕ) (i : ℕ) → AreStarts (length numbers) starts
    → list_at (lists_of numbers starts) i ≡ slice_range numbers (get_or starts i (length numbers))
    (get_or starts (suc i) (length numbers))
list-between numbers [] i h = sym (nothing-between numbers)
list-between numbers (s ∷ []) zero h = sym (to-end numbers s h)
list-between numbers (s ∷ []) (suc i) h = sym (nothing-between numbers)
list-between numbers (s ∷ t ∷ starts) zero h = refl
list-between numbers (s ∷ t ∷ starts) (suc i) h = list-between numbers (t ∷ starts) i h.1

pub between-ends : (len : ℕ) (starts : List ℕ) (i : ℕ) → AreStarts len starts → get_or starts i len ≤ len
between-ends len [] i h = omega arith
between-ends len (s ∷ starts) zero h = start-within len s starts h
between-ends len (s ∷ []) (suc i) h = omega arith
between-ends len (s ∷ t ∷ starts) (suc i) h = between-ends len (t ∷ starts) i h.1

pub between-rises : (len : ℕ) (starts : List ℕ) (i : ℕ) → AreStarts len starts
    → get_or starts i len ≤ get_or starts (suc i) len
between-rises len [] i h = omega arith
between-rises len (s ∷ []) zero h = h
between-rises len (s ∷ []) (suc i) h = omega arith
between-rises len (s ∷ t ∷ starts) zero h = h.0
between-rises len (s ∷ t ∷ starts) (suc i) h = between-rises len (t ∷ starts) i h.1

-- ---- one more number

pub pushed : (numbers starts : List ℕ) (n e i : ℕ) → AreStarts (length numbers) starts → length starts ≡ e + 1
    → list_at (lists_of (numbers ++ n ∷ []) starts) i
    ≡ cond (nat_eq i e) (list_at (lists_of numbers starts) i ++ n ∷ []) (list_at (lists_of numbers starts) i)
pushed numbers starts n e i held many = by (eqb_tells i e)
  where
    one : List ℕ
    one = n ∷ []

    before : suc i < length starts → list_at (lists_of (numbers ++ one) starts) i
        ≡ list_at (lists_of numbers starts) i
    before inside =
        let more = within-at (length numbers) starts (suc i) 0 held inside in
        list-inner (numbers ++ one) starts i 0 inside
        ∙ slice_kept numbers one (get_or starts i 0) (get_or starts (suc i) 0)
        (rises-at (length numbers) starts i 0 held inside) more
        ∙ sym (list-inner numbers starts i 0 inside)

    here : suc i ≡ length starts → list_at (lists_of (numbers ++ one) starts) i
        ≡ list_at (lists_of numbers starts) i ++ one
    here last =
        list-last (numbers ++ one) starts i 0 last
        ∙ drop-append-le (get_or starts i 0) numbers one
        (within-at (length numbers) starts i 0 held (omega (arith, last)))
        ∙ ap (λ xs. xs ++ one) (sym (list-last numbers starts i 0 last))

    other : (suc i < length starts) ⊎ (length starts ≤ suc i) → i ≢ e
        → list_at (lists_of (numbers ++ one) starts) i ≡ list_at (lists_of numbers starts) i
    other (inl inside) apart = before inside
    other (inr past) apart =
        let beyond : length starts ≤ i = omega (arith, past, many, apart) in
        list-past (numbers ++ one) starts i beyond ∙ sym (list-past numbers starts i beyond)

    by : Compared i e → list_at (lists_of (numbers ++ one) starts) i
        ≡ cond (nat_eq i e) (list_at (lists_of numbers starts) i ++ one) (list_at (lists_of numbers starts) i)
    by (inl (t, same)) = here (omega (arith, same, many))
        ∙ ap (λ b. cond b (list_at (lists_of numbers starts) i ++ one) (list_at (lists_of numbers starts) i))
        (sym t)
    by (inr (f, apart)) = other (cases_lt (suc i) (length starts)) apart
        ∙ ap (λ b. cond b (list_at (lists_of numbers starts) i ++ one) (list_at (lists_of numbers starts) i))
        (sym f)

module _ (numbers starts : List ℕ) (n e start : ℕ) (new longer : List ℕ)
    (held : AreStarts (length numbers) starts) (fits : length starts ≤ e + 1)
    (start_is : start ≡ length numbers)
    (longer_is : longer ≡ starts ++ replicate (e + 1 - length starts) start)
    (new_is : new ≡ numbers ++ n ∷ []) where
  padded_is : longer ≡ starts ++ replicate (e + 1 - length starts) (length numbers)
  padded_is = longer_is ∙ ap (λ s. starts ++ replicate (e + 1 - length starts) s) start_is

  pub push-held : AreStarts (length new) longer
  push-held =
      subst (λ xs. AreStarts (length new) xs) (sym padded_is)
      (subst (λ xs. AreStarts (length xs) (starts ++ replicate (e + 1 - length starts) (length numbers)))
      (sym new_is)
      (starts-grow (length numbers) (length (numbers ++ n ∷ []))
      (starts ++ replicate (e + 1 - length starts) (length numbers))
      (omega (arith, length-append numbers (n ∷ [])))
      (starts-padded (length numbers) starts (e + 1 - length starts) held)))

  longer-count : length (starts ++ replicate (e + 1 - length starts) (length numbers)) ≡ e + 1
  longer-count = omega (
    arith,
    fits,
    length-append starts
        (replicate (e + 1 - length starts) (length numbers)),
    length-replicate (e + 1 - length starts) (length numbers),
  )

  pub push-count : length (lists_of new longer) ≤ e + 1
  push-count = omega (arith, length-lists new longer, ap length padded_is, longer-count)

  pub push-lists : (i : ℕ) → list_at (lists_of new longer) i
      ≡ cond (nat_eq i e) (list_at (lists_of numbers starts) i ++ n ∷ [])
      (list_at (lists_of numbers starts) i)
  push-lists i =
      ap (λ xs. list_at (lists_of xs longer) i) new_is
      ∙ ap (λ ss. list_at (lists_of (numbers ++ n ∷ []) ss) i) padded_is
      ∙ pushed numbers (starts ++ replicate (e + 1 - length starts) (length numbers)) n e i
      (starts-padded (length numbers) starts (e + 1 - length starts) held) longer-count
      ∙ ap (λ xs. cond (nat_eq i e) (xs ++ n ∷ []) xs) (padded numbers starts (e + 1 - length starts) i held)

-- ---- the result of `resize`

pub padded-ok : {E : Type 0} (r : Result (Unit {0}) E) (old new : List ℕ) (many len start : ℕ)
    → len ≡ length old → length old ≤ many
    → new ≡ cond (is_ok r) (take many old ++ replicate (many - len) start) old
    → OnOk r (new ≡ old ++ replicate (many - length old) start)
padded-ok r old new many len start is fits h = grind (arith, common_steps)

pub padded-err : {E : Type 0} (r : Result (Unit {0}) E) (old new other : List ℕ)
    → new ≡ cond (is_ok r) other old → OnErr r (new ≡ old)
padded-err r old new other h = grind arith
