-- The dyndep files of the edges that are pending on them.
use Rattle.std.proofs.Common.{◌≡◌, ℕ, ◌<◌, Bool, true, false, true≢false, not, cond, List, [], ◌∷◌, map, find}
use Rattle.std.proofs.Common.{filter, Some, bytes_eq, refl, sym, ap, ◌∙◌}
use Rattle.std.specs.List.{AllByRecursion, IsDistinct}
use Rattle.std.proofs.lemmas.Bool.{false_from_ne_true}
use Rattle.std.proofs.lemmas.Slice.Eq.{bytes_eq-Decides}
use Rattle.nj_statements.specs.EdgeList.{Pending, pending_read}
use Rattle.nj_statements.specs.Joining.{dyndep_files}
use Rattle.nj_statements.specs.Laws.{AreRising, ComeOnce, DyndepFilesComeOnce}
use Rattle.nj_statements.proofs.DiscoverEdges.{pending-rising}

-- ---- elements that a filter keeps

all-filter : {X : Type 0} (P : X → Type 0) (keep : X → Bool) (xs : List X) → AllByRecursion P xs
    → AllByRecursion P (filter keep xs)
all-filter P keep [] all = tt
all-filter P keep (x ∷ xs) all = by (keep x) (all-filter P keep xs all.1)
  where
    by : (b : Bool) → AllByRecursion P (filter keep xs)
        → AllByRecursion P (cond b (x ∷ filter keep xs) (filter keep xs))
    by true rest = (all.0, rest)
    by false rest = rest

rising-filter : (keep : Pending → Bool) (ps : List Pending) → AreRising ps → AreRising (filter keep ps)
rising-filter keep [] rising = tt
rising-filter keep (p ∷ ps) rising = by (keep p) (rising-filter keep ps rising.1)
  where
    by : (b : Bool) → AreRising (filter keep ps) → AreRising (cond b (p ∷ filter keep ps) (filter keep ps))
    by true rest = (all-filter (λ q. p.edge < q.edge) keep ps rising.0, rest)
    by false rest = rest

abbrev files : List Pending → List (List ℕ)
files ps = map (λ p. p.file) ps

files-filter : (P : List ℕ → Type 0) (keep : Pending → Bool) (ps : List Pending) → AllByRecursion P (files ps)
    → AllByRecursion P (files (filter keep ps))
files-filter P keep [] all = tt
files-filter P keep (p ∷ ps) all = by (keep p) (files-filter P keep ps all.1)
  where
    by : (b : Bool) → AllByRecursion P (files (filter keep ps))
        → AllByRecursion P (files (cond b (p ∷ filter keep ps) (filter keep ps)))
    by true rest = (all.0, rest)
    by false rest = rest

distinct-filter : (keep : Pending → Bool) (ps : List Pending) → IsDistinct bytes_eq (files ps)
    → IsDistinct bytes_eq (files (filter keep ps))
unfolding IsDistinct
distinct-filter keep [] distinct = tt
distinct-filter keep (p ∷ ps) distinct = by (keep p) (distinct-filter keep ps distinct.1)
  where
    by : (b : Bool) → IsDistinct bytes_eq (files (filter keep ps))
        → IsDistinct bytes_eq (files (cond b (p ∷ filter keep ps) (filter keep ps)))
    by true rest = (files-filter (λ file. bytes_eq p.file file ≡ false) keep ps distinct.0, rest)
    by false rest = rest

-- a filter that keeps all that pass a test keeps the first element that does
find-filter : {X : Type 0} (test keep : X → Bool) → ((x : X) → test x ≡ true → keep x ≡ true) → (xs : List X)
    → find test (filter keep xs) ≡ find test xs
find-filter test keep kept [] = refl
find-filter test keep kept (x ∷ xs) = by (keep x) (kept x) (find-filter test keep kept xs)
  where
    by : (b : Bool) → (test x ≡ true → b ≡ true) → find test (filter keep xs) ≡ find test xs
        → find test (cond b (x ∷ filter keep xs) (filter keep xs)) ≡ cond (test x) (Some x) (find test xs)
    by true kept rest = ap (cond (test x) (Some x)) rest
    by false kept rest = rest ∙ sym (ap (λ t. cond t (Some x) (find test xs))
        (false_from_ne_true (test x) (λ is. true≢false (sym (kept is)))))

-- ---- edges that are pending on another file

-- they differ either way
apart-sym : (file other : List ℕ) → bytes_eq file other ≡ false → bytes_eq other file ≡ false
apart-sym file other apart = by (bytes_eq other file) (bytes_eq-Decides other file).0
  where
    by : (b : Bool) → (b ≡ true → other ≡ file) → b ≡ false
    by true is = absurd (true≢false (sym ((bytes_eq-Decides file other).1 (sym (is refl))) ∙ apart))
    by false is = refl

others-differ : (file : List ℕ) (ps : List Pending)
    → AllByRecursion (λ other. bytes_eq file other ≡ false)
    (files (filter (λ p. not (bytes_eq p.file file)) ps))
others-differ file [] = tt
others-differ file (p ∷ ps) = by (bytes_eq p.file file) (apart-sym p.file file) (others-differ file ps)
  where
    rest : List Pending
    rest = filter (λ q. not (bytes_eq q.file file)) ps

    by : (b : Bool) → (b ≡ false → bytes_eq file p.file ≡ false)
        → AllByRecursion (λ other. bytes_eq file other ≡ false) (files rest)
        → AllByRecursion (λ other. bytes_eq file other ≡ false) (files (cond (not b) (p ∷ rest) rest))
    by true apart others = others
    by false apart others = (apart refl, others)

-- an edge that is pending on a file is not pending on another file
kept-others : (file other : List ℕ) → bytes_eq other file ≡ false → (p : Pending)
    → bytes_eq p.file file ≡ true → not (bytes_eq p.file other) ≡ true
kept-others file other apart p is = by (bytes_eq p.file other) (bytes_eq-Decides p.file other).0
  where
    by : (b : Bool) → (b ≡ true → p.file ≡ other) → not b ≡ true
    by true same = absurd (true≢false (sym is ∙ ap (λ f. bytes_eq f file) (same refl) ∙ apart))
    by false same = refl

-- ---- the files

all-files : (P : Pending → Type 0) (ps : List Pending) → AllByRecursion P ps
    → AllByRecursion P (dyndep_files ps)
all-files P [] all = tt
all-files P (p ∷ ps) all = (
  all.0,
  all-filter P (λ q. not (bytes_eq q.file p.file)) (dyndep_files ps)
      (all-files P ps all.1),
)

comes-more : (p : Pending) (ps : List Pending) → AllByRecursion (λ q. p.edge < q.edge) ps → ComeOnce ps
    → ComeOnce (p ∷ ps)
unfolding IsDistinct
comes-more p ps least others = record {
  distinct = (
    others-differ p.file (dyndep_files ps),
    distinct-filter (λ q. not (bytes_eq q.file p.file)) (dyndep_files ps) others.distinct,
  );
  first = λ file. first-is file (bytes_eq p.file file) (λ is. is);
  rising = (
    all-filter (λ q. p.edge < q.edge) (λ q. not (bytes_eq q.file p.file)) (dyndep_files ps)
        (all-files (λ q. p.edge < q.edge) ps least),
    rising-filter (λ q. not (bytes_eq q.file p.file)) (dyndep_files ps) others.rising,
  );
}
  where
    first-is : (file : List ℕ) (b : Bool) → (b ≡ false → bytes_eq p.file file ≡ false)
        → cond b (Some p) (find (λ q. bytes_eq q.file file)
        (filter (λ q. not (bytes_eq q.file p.file)) (dyndep_files ps)))
        ≡ cond b (Some p) (find (λ q. bytes_eq q.file file) ps)
    first-is file true apart = refl
    first-is file false apart =
        find-filter (λ q. bytes_eq q.file file) (λ q. not (bytes_eq q.file p.file))
        (kept-others file p.file (apart refl)) (dyndep_files ps) ∙ others.first file

comes-once : (ps : List Pending) → AreRising ps → ComeOnce ps
unfolding IsDistinct
comes-once [] rising = record { distinct = tt; first = λ file. refl; rising = tt }
comes-once (p ∷ ps) rising = comes-more p ps rising.0 (comes-once ps rising.1)

pub files_come_once : DyndepFilesComeOnce
files_come_once entries = comes-once (pending_read entries) (pending-rising entries)
