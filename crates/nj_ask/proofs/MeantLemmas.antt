-- Which files of a graph paths mean, and the warnings about them by tables of full paths.
use Rattle.std.proofs.Common.{◌≡◌, ◌≢◌, ◌<◌, ◌+◌, ℕ, ◌||◌, inl, inr, Bool, true, false, cond, zero, suc, List}
use Rattle.std.proofs.Common.{[]}
use Rattle.std.proofs.Common.{◌∷◌, map, length, get_or, refl, sym, ap, subst, ◌∙◌, arith}
use Rattle.std.specs.Prelude.{bytes_eq, Contains}
use Rattle.std.specs.List.{filter, flat_map, list_any, range_with_len}
use Rattle.std.proofs.lemmas.Bool.{both_ways}
use Rattle.std.proofs.lemmas.List.Folds.{Any-from_list_any, list_any-append, list_any_at}
use Rattle.std.proofs.lemmas.List.FromFn.{get_or-range_with_len, length-range_with_len}
use Rattle.std.proofs.lemmas.Map.Views.{Contains-from_any}
use Rattle.std.proofs.lemmas.Slice.Eq.{bytes_eq-Decides}
use Rattle.nj_changes.specs.FullPaths.{all_sought, has_one, sought}
use Rattle.nj_changes.specs.Tables.{SameNames}
use Rattle.nj_graph.specs.declared.FileNo.{FileNo}
use Rattle.nj_graph.specs.Edges.{is_among}
use Rattle.nj_graph.specs.Graph.{GraphModel, files_of}
use Rattle.nj_graph.specs.ReadingList.{ReadStatement}
use Rattle.nj_ask.specs.declared.report.Tables.{Tables}
use Rattle.nj_ask.specs.Affected.{line}
use Rattle.nj_ask.specs.Inside.Reached.{warning_by, AreAt, AreFullPaths, AreTables}
use Rattle.nj_ask.specs.Manifest.{opened_paths}
use Rattle.nj_ask.specs.Reports.{changed_numbers, files_meant, is_opened, made_from_line, ChangeModel}
use Rattle.nj_ask.specs.Reports.{ChangesManifest, HasWarnings, IsUnnamed, IsWarning, is_test_file}
use Rattle.nj_ask.specs.Reports.HasWarnings.{none, next}
use Rattle.nj_ask.specs.Reports.IsWarning.{ignored, made_from, nothing, of_test, settled, unknown}
use Rattle.nj_ask.specs.SameFiles.{full_path_of, numbers_at}
use Rattle.nj_ask.proofs.FlagLemmas.{passes-there, there-passes}
use Rattle.nj_ask.proofs.ManifestLemmas.{contains-mapped}

-- ---- lists of paths

or-true : (b : Bool) → (b || true) ≡ true
or-true true = refl
or-true false = refl

same-bytes : (xs ys : List ℕ) → bytes_eq xs ys ≡ true → xs ≡ ys
same-bytes xs ys is = (bytes_eq-Decides xs ys).0 is

there-among : (paths : List (List ℕ)) (path : List ℕ) → Contains paths path → is_among paths path ≡ true
there-among paths path has =
    list_any_at (bytes_eq path) paths has.0 path has.1
    (ap (bytes_eq path) has.2 ∙ (bytes_eq-Decides path path).1 refl)

pub among-there : (paths : List (List ℕ)) (path : List ℕ) → is_among paths path ≡ true → Contains paths path
among-there paths path is = Contains-from_any same-bytes path paths is

-- a mapped value is the value of one of the numbers
from-mapped : {X : Type 0} (f : ℕ → X) (ns : List ℕ) (y : X) (k : ℕ) → k < length (map f ns)
    → get_or (map f ns) k y ≡ y → (n : ℕ) × Contains ns n × (f n ≡ y)
from-mapped f [] y k below is = absurd (omega arith)
from-mapped f (n ∷ ns) y zero below is = (n, (0, omega arith, refl), is)
from-mapped f (n ∷ ns) y (suc k) below is = by (from-mapped f ns y k (omega arith) is)
  where
    by : (m : ℕ) × Contains ns m × (f m ≡ y) → (m : ℕ) × Contains (n ∷ ns) m × (f m ≡ y)
    by (m, has, same) = let under = has.1 in (m, (suc has.0, omega arith, has.2), same)

-- a path of one thing is among the paths of all things
among-flat : (f : List ℕ → List (List ℕ)) (paths : List (List ℕ)) (path : List ℕ) (k : ℕ) → k < length paths
    → get_or paths k path ≡ path → (name : List ℕ) → is_among (f path) name ≡ true
    → is_among (flat_map f paths) name ≡ true
among-flat f [] path k below is name among = absurd (omega arith)
among-flat f (p ∷ paths) path zero below is name among =
    list_any-append (bytes_eq name) (f p) (flat_map f paths)
    ∙ ap (λ b. b || is_among (flat_map f paths) name) (ap (λ q. is_among (f q) name) is ∙ among)
among-flat f (p ∷ paths) path (suc k) below is name among =
    list_any-append (bytes_eq name) (f p) (flat_map f paths)
    ∙ ap (λ b. is_among (f p) name || b) (among-flat f paths path k (omega arith) is name among)
    ∙ or-true (is_among (f p) name)

any-same : {X : Type 0} (p q : X → Bool) → ((x : X) → p x ≡ q x) → (xs : List X)
    → list_any p xs ≡ list_any q xs
any-same p q same [] = refl
any-same p q same (x ∷ xs) = ap (λ b. b || list_any p xs) (same x) ∙ ap (λ b. q x || b) (any-same p q same xs)

pub filter-same : {X : Type 0} (p q : X → Bool) → ((x : X) → p x ≡ q x) → (xs : List X)
    → filter p xs ≡ filter q xs
filter-same p q same [] = refl
filter-same p q same (x ∷ xs) =
    ap (λ b. cond b (x ∷ filter p xs) (filter p xs)) (same x)
    ∙ ap (λ ys. cond (q x) (x ∷ ys) ys) (filter-same p q same xs)

-- one of some paths in a table
one-at : (names others : List (List ℕ)) → has_one names others ≡ true
    → (path : List ℕ) × Contains others path × (is_among names path ≡ true)
one-at names others is =
    let any = Any-from_list_any (is_among names) others is in (any.1, (any.0, any.2, any.3), any.4)

at-one : (names others : List (List ℕ)) (path : List ℕ) → Contains others path → is_among names path ≡ true
    → has_one names others ≡ true
at-one names others path has is =
    list_any_at (is_among names) others has.0 path has.1 (ap (is_among names) has.2 ∙ is)

-- ---- numbers of files at full paths

pub below-there : (count n : ℕ) → n < count → Contains (range_with_len 0 count) n
below-there count n below =
    let long = length-range_with_len 0 count in
    let same : 0 + n ≡ n = omega arith in
    (n, omega (arith, below, long), get_or-range_with_len 0 count n n below ∙ same)

pub there-below : (count n : ℕ) → Contains (range_with_len 0 count) n → n < count
there-below count n has =
    let long = length-range_with_len 0 count in
    let under = has.1 in
    let is = get_or-range_with_len 0 count has.0 n (omega (arith, under, long)) in
    let same = has.2 in
    omega (arith, under, long, is, same)

module _ (g : GraphModel) (working : List ℕ) where
  abbrev full : ℕ → List ℕ
  full n = full_path_of g working n

  -- tables with the same paths
  numbers-same : (paths others : List (List ℕ)) → SameNames paths others
      → numbers_at g working paths ≡ numbers_at g working others
  numbers-same paths others same =
      filter-same (λ n. is_among paths (full n)) (λ n. is_among others (full n)) (λ n. same (full n))
      (range_with_len 0 (length (files_of g)))

  pub at-same : (paths others : List (List ℕ)) → SameNames paths others → (files : List FileNo)
      → AreAt g working paths files → AreAt g working others files
  at-same paths others same files at =
      record { numbers = at.numbers ∙ numbers-same paths others same; known = at.known }

  meant-there : (paths : List (List ℕ)) (n : ℕ) → n < length (files_of g) → is_among paths (full n) ≡ true
      → Contains (numbers_at g working paths) n
  meant-there paths n below is =
      passes-there (λ m. is_among paths (full m)) (range_with_len 0 (length (files_of g))) n
      (below-there (length (files_of g)) n below) is

  pub there-meant : (paths : List (List ℕ)) (n : ℕ) → Contains (numbers_at g working paths) n
      → (n < length (files_of g)) × (is_among paths (full n) ≡ true)
  there-meant paths n has =
      let both = there-passes (λ m. is_among paths (full m)) (range_with_len 0 (length (files_of g))) n has in
      (there-below (length (files_of g)) n both.0, both.1)

-- ---- the warnings

none-there : (ns : List ℕ) → ((n : ℕ) → Contains ns n → ⊥) → ns ≡ []
none-there [] not = refl
none-there (n ∷ ns) not = absurd (not n (0, omega arith, refl))

some-there : (ns : List ℕ) (n : ℕ) → Contains ns n → ns ≢ []
some-there [] n has is = absurd (omega (arith, has.1))
some-there (m ∷ ns) n has is = absurd cc

module _ (g : GraphModel) (entries : List ReadStatement) (q : ChangeModel) where
  -- the full paths that a changed path has
  abbrev found : List ℕ → List (List ℕ)
  found path = sought q.working q.folders path

  abbrev meant : List ℕ → List ℕ
  meant path = files_meant g q path

  module _ (ns : List ℕ) (names : List (List ℕ)) (are : AreFullPaths g q.working ns names)
      (known : (n : ℕ) → Contains ns n → n < length (files_of g)) (path : List ℕ) where
    -- a table of full paths has one of a path, so the path denotes a file of it
    table-one : has_one names (found path) ≡ true → (n : ℕ) × Contains ns n × Contains (meant path) n
    table-one is = by (one-at names (found path) is)
      where
        by : (name : List ℕ) × Contains (found path) name × (is_among names name ≡ true)
            → (n : ℕ) × Contains ns n × Contains (meant path) n
        by (name, has, among) =
            let there = among-there (map (full g q.working) ns) name (sym (are name) ∙ among) in
            at (from-mapped (full g q.working) ns name there.0 there.1 there.2)
          where
            at : (n : ℕ) × Contains ns n × (full g q.working n ≡ name)
                → (n : ℕ) × Contains ns n × Contains (meant path) n
            at (n, one, same) = (
              n,
              one,
              meant-there g q.working (found path) n (known n one)
                  (there-among (found path) (full g q.working n)
                  (subst (Contains (found path)) (sym same) has)),
            )

    one-table : (n : ℕ) → Contains ns n → Contains (meant path) n → has_one names (found path) ≡ true
    one-table n one has =
        let it = there-meant g q.working (found path) n has in
        at-one names (found path) (full g q.working n)
        (among-there (found path) (full g q.working n) it.1)
        (are (full g q.working n)
        ∙ there-among (map (full g q.working) ns) (full g q.working n)
        (contains-mapped (full g q.working) ns n one))

  -- a file that a changed path denotes is changed
  meant-changed : (path : List ℕ) → Contains q.paths path → (n : ℕ) → Contains (meant path) n
      → Contains (changed_numbers g q) n
  meant-changed path has n is =
      let it = there-meant g q.working (found path) n is in
      meant-there g q.working (all_sought q.working q.folders q.paths) n it.0
      (among-flat (λ p. found p) q.paths path has.0 has.1 has.2 (full g q.working n) it.1)

  pub changed-known : (n : ℕ) → Contains (changed_numbers g q) n → n < length (files_of g)
  changed-known n has = (there-meant g q.working (all_sought q.working q.folders q.paths) n has).0

  module _ (opened : List (List ℕ)) (same : SameNames opened (opened_paths g q.working)) (tables : Tables)
      (are : AreTables g entries q tables) where
    opened-same : (path : List ℕ) → has_one opened (found path) ≡ is_opened g q path
    opened-same path =
        any-same (is_among opened) (is_among (opened_paths g q.working)) same (found path)

    fed-known : (n : ℕ) → Contains are.fed n → n < length (files_of g)
    fed-known n has = changed-known n ((are.are_fed n).0 has).0

    module _ (path : List ℕ) (has : Contains q.paths path) where
      feeds : has_one tables.feeding (found path) ≡ true → ChangesManifest g entries q path
      feeds is = by (table-one are.fed tables.feeding are.feeding fed-known path is)
        where
          by : (n : ℕ) × Contains are.fed n × Contains (meant path) n → ChangesManifest g entries q path
          by (n, one, it) = inr (n, it, ((are.are_fed n).0 one).1)

      keeps : has_one opened (found path) ≡ false → has_one tables.feeding (found path) ≡ false
          → ¬ ChangesManifest g entries q path
      keeps one two (inl was) = both_ways (is_opened g q path) (sym (opened-same path) ∙ one) was
      keeps one two (inr (n, it, feeding)) =
          both_ways (has_one tables.feeding (found path)) two
          (one-table are.fed tables.feeding are.feeding fed-known path n
          ((are.are_fed n).1 (meant-changed path has n it, feeding)) it)

      named : has_one tables.changed (found path) ≡ true → meant path ≢ []
      named is = by (table-one (changed_numbers g q) tables.changed are.changed changed-known path is)
        where
          by : (n : ℕ) × Contains (changed_numbers g q) n × Contains (meant path) n → meant path ≢ []
          by (n, one, it) = some-there (meant path) n it

      unnamed : has_one tables.changed (found path) ≡ false → IsUnnamed g q path
      unnamed is = none-there (meant path) (λ n it. both_ways (has_one tables.changed (found path)) is
          (one-table (changed_numbers g q) tables.changed are.changed changed-known path n
          (meant-changed path has n it) it))

      from-manifest : ChangesManifest g entries q path
          → IsWarning g entries q path (cond q.is_settled [] (made_from_line path))
      from-manifest changes = by q.is_settled refl
        where
          by : (is : Bool) → q.is_settled ≡ is
              → IsWarning g entries q path (cond is [] (made_from_line path))
          by true is = settled changes is
          by false is = made_from changes is

      warned : IsWarning g entries q path (warning_by opened tables q path)
      warned = by (has_one opened (found path)) (has_one tables.feeding (found path))
          (has_one tables.changed (found path)) (is_test_file q path) q.ignores_unknown refl refl refl refl
          refl
        where
          by : (was fed is test ignores : Bool) → has_one opened (found path) ≡ was
              → has_one tables.feeding (found path) ≡ fed → has_one tables.changed (found path) ≡ is
              → is_test_file q path ≡ test → q.ignores_unknown ≡ ignores → IsWarning g entries q path
              (cond (was || fed) (cond q.is_settled [] (made_from_line path))
              (cond (is || test || ignores) [] (line path)))
          by true fed is test ignores one two three four five =
              from-manifest (inl (sym (opened-same path) ∙ one))
          by false true is test ignores one two three four five = from-manifest (feeds two)
          by false false true test ignores one two three four five = nothing (keeps one two) (named three)
          by false false false true ignores one two three four five =
              of_test (keeps one two) (unnamed three) four
          by false false false false true one two three four five =
              ignored (keeps one two) (unnamed three) five
          by false false false false false one two three four five =
              unknown (keeps one two) (unnamed three) four five

    have-warnings : (paths : List (List ℕ))
        → ((path : List ℕ) → Contains paths path
        → IsWarning g entries q path (warning_by opened tables q path))
        → HasWarnings g entries q paths (flat_map (warning_by opened tables q) paths)
    have-warnings [] each = none
    have-warnings (p ∷ paths) each =
        next (each p (0, omega arith, refl))
        (have-warnings paths (λ path has. let under = has.1 in each path (suc has.0, omega arith, has.2)))

    pub all-warned : HasWarnings g entries q q.paths (flat_map (warning_by opened tables q) q.paths)
    all-warned = have-warnings q.paths (λ path has. warned path has)

-- ---- another table of the files that tests name

module _ (g : GraphModel) (entries : List ReadStatement) (q : ChangeModel) (files : List (List ℕ))
    (same : SameNames q.test_files files) where
  abbrev with_files : ChangeModel
  with_files = record q { test_files = files }

  test-same : (path : List ℕ) → is_test_file q path ≡ is_test_file with_files path
  test-same path =
      any-same (is_among q.test_files) (is_among files) same (sought q.working q.folders path)

  warning-same : (path text : List ℕ) → IsWarning g entries q path text
      → IsWarning g entries with_files path text
  warning-same path _ (made_from changes not) = made_from changes not
  warning-same path _ (settled changes is) = settled changes is
  warning-same path _ (unknown not missing other asks) =
      unknown not missing (sym (test-same path) ∙ other) asks
  warning-same path _ (of_test not missing is) = of_test not missing (sym (test-same path) ∙ is)
  warning-same path _ (ignored not missing ignores) = ignored not missing ignores
  warning-same path _ (nothing not some) = nothing not some

  pub warnings-same : (paths : List (List ℕ)) (text : List ℕ) → HasWarnings g entries q paths text
      → HasWarnings g entries with_files paths text
  warnings-same _ _ none = none
  warnings-same _ _ (next {path = p} {warning = warning} {paths = paths} {text = text} one are) =
      next (warning-same p warning one) (warnings-same paths text are)
