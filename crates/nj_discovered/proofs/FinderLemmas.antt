-- Lemmas on what edges discover, by the numbers of paths.
use Rattle.std.proofs.Common.{rules, ◌≡◌, ◌<◌, ◌≤◌, ◌+◌, ◌==◌, ◌⊎◌, ℕ, zero, suc, Bool, true}
use Rattle.std.proofs.Common.{false}
use Rattle.std.proofs.Common.{cond, not, Option, Some, Result, Ok, Err, List, [], ◌∷◌, ◌++◌, length, take}
use Rattle.std.proofs.Common.{drop, slice_get, slice_range, refl, sym, ap, subst, ◌∙◌, true≢false, arith}
use Rattle.std.proofs.Common.{add-one, append-nil, append_assoc, length-append}
use Rattle.std.specs.Prelude.{map, option_map, is_some, unwrap_or, find, slice_index, slice_index_or, IfOk}
use Rattle.std.specs.Prelude.{IfSome}
use Rattle.std.specs.Global.{Vec}
use Rattle.std.specs.declared.alloc.AllocError.{AllocError}
use Rattle.std.proofs.lemmas.Grind.{common_steps}
use Rattle.std.proofs.lemmas.List.{length-map, take_more}
use Rattle.std.specs.List.{AllByRecursion}
use Rattle.std.proofs.lemmas.Option.{slice_get_within, get_or_from_slice_get}
use Rattle.nj_text.specs.Calls.{is_empty}
use Rattle.nj_text.specs.Paths.{clean_path_of, without_leftmost_pair}
use Rattle.nj_names.specs.NameTables.{is_among, name_at, with_name}
use Rattle.nj_scope.specs.Readings.{IsPrefix}
use Rattle.nj_scope.specs.Sources.{SourceState, ReadsPath, Rises, outcome_bytes}
use Rattle.nj_scope.specs.declared.source.SourceFault.{SourceFault}
use Rattle.nj_scope.specs.declared.source.SourceFault.TheVariants.{Io}
use Rattle.nj_edges.specs.Edges.{EdgePaths, outputs_of}
use Rattle.nj_depfiles.specs.Depfiles.{DepfileModel, depfile_of}
use Rattle.nj_depfiles.specs.declared.depfile_fault.DepfileFault.{DepfileFault}
use Rattle.nj_depfiles.specs.declared.depfile_fault.DepfileFault.TheVariants as depfile
use Rattle.nj_discovered.specs.Discovered.{Discovery, by_depfile, by_stranger, by_targets, by_text, faulty}
use Rattle.nj_discovered.specs.Discovered.{is_first_output, unknown}
use Rattle.nj_discovered.specs.Discovered.TextFound.{Text}
use Rattle.nj_discovered.specs.declared.verdict.DepfileError.TheVariants as error
use Rattle.nj_discovered.specs.declared.verdict.DepfileError.TheVariants.{NoTarget}
use Rattle.nj_discovered.specs.declared.verdict.Unknown.TheVariants.{OtherTarget}
use Rattle.nj_discovered.specs.declared.verdict.Verdict.{Verdict}
use Rattle.nj_discovered.specs.declared.verdict.Verdict.TheVariants as verdict
use Rattle.nj_discovered.specs.declared.discoveries.FoundEdge.{FoundEdge}
use Rattle.nj_discovered.specs.Discoveries.{discovery_at}
use Rattle.nj_discovered.specs.Inside.Finding.{Finds, IsFinderHeld, IsWithin, found_held, found_of}
use Rattle.nj_discovered.specs.Inside.Numbers.{Appends, AreBelow, AreCleanNumbers}

pub clean-empty : clean_path_of [] ≡ 46 ∷ []
unfolding clean_path_of without_leftmost_pair
clean-empty = refl

-- ---- lists

pub get-map : {A B : Type 0} (f : A → B) (xs : List A) (n : ℕ)
    → slice_get (map f xs) n ≡ option_map f (slice_get xs n)
get-map f [] n = refl
get-map f (x ∷ xs) zero = refl
get-map f (x ∷ xs) (suc n) = get-map f xs n

pub drop-at : {A : Type 0} (xs : List A) (i : ℕ) (x : A) → slice_get xs i ≡ Some x
    → drop i xs ≡ x ∷ drop (i + 1) xs
drop-at {A = A} xs i x at = rw (add-one i) (from xs i at)
  where
    from : (ys : List A) (n : ℕ) → slice_get ys n ≡ Some x → drop n ys ≡ x ∷ drop (suc n) ys
    from [] n none = absurd (true≢false (sym (ap is_some none)))
    from (y ∷ ys) zero first = ap (λ z. z ∷ ys) (ap (λ o. unwrap_or o y) first)
    from (y ∷ ys) (suc n) more = from ys n more

pub take-next : {A : Type 0} (xs : List A) (i : ℕ) (x : A) → slice_get xs i ≡ Some x
    → take (i + 1) xs ≡ take i xs ++ x ∷ []
take-next xs i x at = take_more xs i x (slice_get_within xs i x at)
    ∙ ap (λ y. take i xs ++ y ∷ []) (get_or_from_slice_get xs i x x at)

pub map-append : {A B : Type 0} (f : A → B) (xs ys : List A) → map f (xs ++ ys) ≡ map f xs ++ map f ys
map-append f xs ys = grind (arith, common_steps)

-- ---- numbers of names

pub below-more : (count other : ℕ) (numbers : List ℕ) → count ≤ other → AreBelow count numbers
    → AreBelow other numbers
below-more count other [] more below = tt
below-more count other (n ∷ numbers) more below = grind (arith, below-more count other numbers more below.1)

pub below-append : (count : ℕ) (one other : List ℕ) → AreBelow count one → AreBelow count other
    → AreBelow count (one ++ other)
below-append count one other below and = grind (arith, common_steps)

name-kept : (names more : List (List ℕ)) (n : ℕ) → n < length names
    → name_at (names ++ more) n ≡ name_at names n
name-kept [] more n within = absurd (omega (arith, within))
name-kept (x ∷ names) more zero within = refl
name-kept (x ∷ names) more (suc n) within = name-kept names more n (omega (arith, within))

-- names that are added at the end change no name
pub names-kept : (names more : List (List ℕ)) (numbers : List ℕ) → AreBelow (length names) numbers
    → map (name_at (names ++ more)) numbers ≡ map (name_at names) numbers
names-kept names more [] below = refl
names-kept names more (n ∷ numbers) below = grind (
  arith,
  name-kept names more n below.0,
  names-kept names more numbers below.1,
)

pub prefix-kept : (names later : List (List ℕ)) (numbers : List ℕ) → IsPrefix names later
    → AreBelow (length names) numbers → map (name_at later) numbers ≡ map (name_at names) numbers
prefix-kept names later numbers h below = grind (arith, names-kept)

pub prefix-longer : {A : Type 0} (front whole : List A) → IsPrefix front whole → length front ≤ length whole
prefix-longer front whole h = grind (arith, common_steps)

pub with-prefix : (names : List (List ℕ)) (name : List ℕ) → IsPrefix names (with_name names name)
with-prefix names name = by (is_among names name)
  where
    by : (there : Bool) → IsPrefix names (cond there names (names ++ name ∷ []))
    by true = ([], sym (append-nil names))
    by false = (name ∷ [], refl)

-- ---- appended

pub appends-none : (names : List (List ℕ)) (numbers : List ℕ) → Appends [] names names numbers numbers
appends-none names numbers = search rules

pub appends-clean : (names later : List (List ℕ)) (numbers new : List ℕ) (path clean : List ℕ)
    (number short : ℕ) → clean ≡ path → later ≡ with_name names clean
    → slice_get later number ≡ Some clean → short ≡ number → new ≡ numbers ++ short ∷ []
    → Appends (path ∷ []) names later numbers new
appends-clean names later numbers new path clean number short clean-is later-is at short-is new-is = record {
  names = subst (IsPrefix names) (sym later-is) (with-prefix names clean);
  added = short ∷ [];
  numbers = new-is;
  below = (subst (λ n. n < length later) (sym short-is) (slice_get_within later number clean at), tt);
  paths_are = ap (λ p. p ∷ []) (ap (name_at later) short-is ∙ ap (λ o. unwrap_or o []) at ∙ clean-is);
}

pub appends-then : (paths others names later last : List (List ℕ)) (numbers more all : List ℕ)
    → Appends paths names later numbers more → Appends others later last more all
    → Appends (paths ++ others) names last numbers all
appends-then paths others names later last numbers more all one other = grind (
  arith,
  length,
  append_assoc,
  below-append,
  below-more,
  prefix-longer,
  map-append,
  prefix-kept,
)

-- one more path of a list
pub appends-next : (paths : List (List ℕ)) (i : ℕ) (path : List ℕ) (names later last : List (List ℕ))
    (numbers more all : List ℕ) → slice_get paths i ≡ Some path
    → Appends (map clean_path_of (take i paths)) names later numbers more
    → Appends (clean_path_of path ∷ []) later last more all
    → Appends (map clean_path_of (take (i + 1) paths)) names last numbers all
appends-next paths i path names later last numbers more all at one other =
    subst (λ ps. Appends ps names last numbers all)
    (sym (ap (map clean_path_of) (take-next paths i path at)
    ∙ map-append clean_path_of (take i paths) (path ∷ [])))
    (appends-then (map clean_path_of (take i paths)) (clean_path_of path ∷ []) names later last numbers more
    all one other)

-- ---- the first item that passes a test

pub find-passes : {A : Type 0} (test : A → Bool) (xs : List A) (i : ℕ) (x : A) → slice_get xs i ≡ Some x
    → test x ≡ true → find test (drop i xs) ≡ Some x
find-passes test xs i x h passes = grind (arith, drop-at, drop)

pub find-fails : {A : Type 0} (test : A → Bool) (xs : List A) (i : ℕ) (x : A) → slice_get xs i ≡ Some x
    → test x ≡ false → find test (drop i xs) ≡ find test (drop (i + 1) xs)
find-fails test xs i x h fails = grind (arith, drop-at, drop)

-- ---- paths of a log

pub same-length : (names paths : List (List ℕ)) (numbers : List ℕ) → AreCleanNumbers paths names numbers
    → length numbers ≡ length paths
same-length names paths numbers are = grind (arith, common_steps)

-- the number of a path of the log is that of its clean path
clean-at : (f : ℕ → List ℕ) (paths : List (List ℕ)) (numbers : List ℕ) (i : ℕ)
    → map f numbers ≡ map clean_path_of paths → i < length paths
    → f (slice_index numbers i) ≡ clean_path_of (name_at paths i)
clean-at f [] numbers i same within = absurd (omega (arith, within))
clean-at f (p ∷ paths) [] i same within = absurd (omega (arith, ap length same))
clean-at f (p ∷ paths) (n ∷ numbers) zero same within = ap (λ xs. slice_index_or xs 0 []) same
clean-at f (p ∷ paths) (n ∷ numbers) (suc i) same within =
    clean-at f paths numbers i (ap (drop 1) same) (omega (arith, within))

below-at : (count : ℕ) (numbers : List ℕ) (i : ℕ) → AreBelow count numbers → i < length numbers
    → slice_index numbers i < count
below-at count numbers i below within = grind (arith, common_steps)

pub appends-logged : (names paths : List (List ℕ)) (numbers inputs old new : List ℕ)
    → AreCleanNumbers paths names numbers → AreBelow (length paths) inputs
    → new ≡ old ++ map (λ i. slice_index numbers i) inputs
    → Appends (map clean_path_of (map (name_at paths) inputs)) names names old new
appends-logged names paths numbers inputs old new are within new-is = record {
  names = ([], sym (append-nil names));
  added = map (λ i. slice_index numbers i) inputs;
  numbers = new-is;
  below = below inputs within;
  paths_are = same inputs within;
}
  where
    below : (is : List ℕ) → AreBelow (length paths) is
        → AreBelow (length names) (map (λ i. slice_index numbers i) is)
    below [] within = tt
    below (i ∷ is) within = (
      below-at (length names) numbers i are.below
          (subst (λ n. i < n) (sym (same-length names paths numbers are)) within.0),
      below is within.1,
    )

    same : (is : List ℕ) → AreBelow (length paths) is
        → map (name_at names) (map (λ i. slice_index numbers i) is)
        ≡ map clean_path_of (map (name_at paths) is)
    same [] within = refl
    same (i ∷ is) within =
        ap (λ p. p ∷ map (name_at names) (map (λ j. slice_index numbers j) is))
        (clean-at (name_at names) paths numbers i are.paths_are within.0)
        ∙ ap (λ ps. clean_path_of (name_at paths i) ∷ ps) (same is within.1)

-- ---- what an edge discovers

pub finds-none : (IsFound : Discovery → Type 0) (names : List (List ℕ)) (numbers : List ℕ) (verdict : Verdict)
    → IsFound (record { verdict = verdict; inputs = [] })
    → Finds IsFound names names numbers numbers verdict
finds-none h names numbers verdict is = search rules

pub finds-weaker : (IsFound Other : Discovery → Type 0) (names later : List (List ℕ)) (numbers more : List ℕ)
    (verdict : Verdict)
    → ((found : Discovery) → IsFound found → Other found) → Finds IsFound names later numbers more verdict
    → Finds Other names later numbers more verdict
finds-weaker h h1 names later numbers more verdict weaker found = grind arith

pub finds-as : (r : Result Verdict AllocError) (IsFound Other : Discovery → Type 0)
    (names later : List (List ℕ)) (numbers more : List ℕ)
    → ((found : Discovery) → IsFound found → Other found) → IfOk r (Finds IsFound names later numbers more)
    → IfOk r (Finds Other names later numbers more)
finds-as r h h1 names later numbers more weaker found = grind arith

-- by the targets of a depfile
module _ (edge : EdgePaths) (targets inputs : List (List ℕ)) where
  pub no-target : length targets ≡ 0 → by_targets edge targets inputs ≡ faulty NoTarget
  no-target none = by targets none
    where
      by : (ts : List (List ℕ)) → length ts ≡ 0 → by_targets edge ts inputs ≡ faulty NoTarget
      by [] none = refl
      by (t ∷ ts) none = absurd (omega (arith, none))

  module _ (first : List ℕ) (at : slice_get targets 0 ≡ Some first) where
    first-of : targets ≡ first ∷ drop 1 targets
    first-of = drop-at targets 0 first at

    by-first : (is : Bool) → is_first_output edge (clean_path_of first) ≡ is
        → by_targets edge targets inputs ≡ cond is
        (by_stranger (find (λ target. not (is_among (outputs_of edge) target)) (drop 1 targets)) inputs)
        (unknown OtherTarget)
    by-first is same =
        ap (λ ts. by_targets edge ts inputs) first-of
        ∙ ap (λ b. cond b (by_stranger (find (λ target. not (is_among (outputs_of edge) target))
        (drop 1 targets)) inputs) (unknown OtherTarget)) same

    pub other-target : is_first_output edge (clean_path_of first) ≡ false
        → by_targets edge targets inputs ≡ unknown OtherTarget
    other-target is = by-first false is

    pub with-stranger : (stranger : Option (List ℕ)) → is_first_output edge (clean_path_of first) ≡ true
        → find (λ target. not (is_among (outputs_of edge) target)) (drop 1 targets) ≡ stranger
        → by_targets edge targets inputs ≡ by_stranger stranger inputs
    with-stranger stranger is found = by-first true is ∙ ap (λ s. by_stranger s inputs) found

-- by the fault of a depfile, which is not a lack of memory
abbrev pub is_memory : DepfileFault → Bool
is_memory depfile.OutOfMemory = true
is_memory depfile.NoColon = false
is_memory depfile.InputHasInputs = false

pub fault-read : (read : Result DepfileModel DepfileFault) (fault : DepfileFault) → is_memory fault ≡ false
    → (fault ≡ depfile.OutOfMemory) ⊎ (read ≡ Err fault) → read ≡ Err fault
fault-read read fault other h = grind arith

pub text-some : (edge : EdgePaths) (text : List ℕ) → (length text == 0) ≡ false
    → by_text edge (Text (Some text)) ≡ by_depfile edge (depfile_of text)
text-some edge text some = grind arith

pub faulty-finds : (edge : EdgePaths) (text : List ℕ) (fault : DepfileFault) (names : List (List ℕ))
    (numbers : List ℕ) (found : Verdict) (field : DepfileFault) → field ≡ fault
    → found ≡ verdict.Faulty (error.Depfile fault)
    → (length text == 0) ≡ false → is_memory fault ≡ false
    → (field ≡ depfile.OutOfMemory) ⊎ (depfile_of text ≡ Err field)
    → Finds (λ one. one ≡ by_text edge (Text (Some text))) names names numbers numbers found
faulty-finds edge text fault names numbers found field same is some other read = search rules

-- ---- a source of files

pub text-given : (before after : SourceState) (path depfile : List ℕ) (outcome : Option (Vec ℕ))
    (bytes : Option (List ℕ)) → outcome_bytes outcome ≡ bytes → path ≡ depfile
    → ReadsPath before after path (Ok outcome) → IfSome (before.files depfile) (λ meant. bytes ≡ meant)
text-given before after path depfile outcome bytes same named reads = grind arith

pub reading-failed : (before after : SourceState) (path : List ℕ) (fault : SourceFault) → fault ≡ Io
    → ReadsPath before after path (Err fault) → Rises before.failures after.failures
reading-failed before after path fault is reads = grind arith

pub empty-by_length : (bytes : List ℕ) (b : Bool) → b ≡ (length bytes == 0) → is_empty bytes ≡ b
empty-by_length bytes b h = grind arith

pub finds-moved : (IsFound : Discovery → Type 0) (names later last : List (List ℕ))
    (numbers more all : List ℕ) (one other : Verdict) → later ≡ last → more ≡ all → one ≡ other
    → Finds IsFound names later numbers more one → Finds IsFound names last numbers all other
finds-moved h names later last numbers more all one other names-are numbers-are same found = grind arith

-- ---- held

part-grown : (inputs more : List ℕ) (start end : ℕ) → start ≤ end → end ≤ length inputs
    → slice_range (inputs ++ more) start end ≡ slice_range inputs start end
part-grown inputs more start end rises ends = grind (arith, common_steps)

part-new : (inputs more : List ℕ) → slice_range (inputs ++ more) (length inputs) (length inputs + length more)
    ≡ more
part-new inputs more = grind (arith, common_steps)

pub within-more : (size other : ℕ) (edges : List FoundEdge) → size ≤ other
    → AllByRecursion (IsWithin size) edges → AllByRecursion (IsWithin other) edges
within-more size other [] more within = tt
within-more size other (e ∷ edges) more within = grind (arith, within-more size other edges more within.1)

pub within-append : (size : ℕ) (edges : List FoundEdge) (edge : FoundEdge)
    → AllByRecursion (IsWithin size) edges → IsWithin size edge
    → AllByRecursion (IsWithin size) (edges ++ edge ∷ [])
within-append size edges edge within one = grind (arith, common_steps)

below-drop : (count n : ℕ) (numbers : List ℕ) → AreBelow count numbers → AreBelow count (drop n numbers)
below-drop count n numbers below = grind (arith, common_steps)

below-take : (count n : ℕ) (numbers : List ℕ) → AreBelow count numbers → AreBelow count (take n numbers)
below-take count n numbers below = grind (arith, common_steps)

below-part : (count : ℕ) (numbers : List ℕ) (start end : ℕ) → AreBelow count numbers
    → AreBelow count (slice_range numbers start end)
below-part count numbers start end below = grind (arith, common_steps)

-- the edge with the given number, by its paths
abbrev pub discovery_held : (names : List (List ℕ)) → (inputs : List ℕ) → List FoundEdge → (edge : ℕ)
    → Discovery
discovery_held names inputs edges edge = discovery_at (found_held names inputs edges) edge

-- after names and numbers were added, and an edge, if any
kept : (names : List (List ℕ)) (more_names : List (List ℕ)) (inputs more : List ℕ)
    (edges others : List FoundEdge) (e : ℕ) → e < length edges
    → AllByRecursion (IsWithin (length inputs)) edges
    → AreBelow (length names) inputs → discovery_held (names ++ more_names) (inputs ++ more) (edges ++ others)
    e ≡ discovery_held names inputs edges e
kept names more_names inputs more [] others e within held below = absurd (omega (arith, within))
kept names more_names inputs more (edge ∷ edges) others zero within held below =
    ap (λ ns. record { verdict = edge.verdict; inputs = map (name_at (names ++ more_names)) ns })
    (part-grown inputs more edge.start edge.end held.0.rises held.0.ends)
    ∙ ap (λ ps. record { verdict = edge.verdict; inputs = ps })
    (names-kept names more_names (slice_range inputs edge.start edge.end)
    (below-part (length names) inputs edge.start edge.end below))
kept names more_names inputs more (edge ∷ edges) others (suc e) within held below =
    kept names more_names inputs more edges others e (omega (arith, within)) held.1 below

last-at : {A : Type 0} (f : FoundEdge → A) (edges : List FoundEdge) (edge : FoundEdge) (other : A)
    → slice_index_or (map f (edges ++ edge ∷ [])) (length edges) other ≡ f edge
last-at f edges edge other = grind (arith, common_steps)

newest : (names : List (List ℕ)) (inputs more : List ℕ) (edges : List FoundEdge) (edge : FoundEdge)
    → edge.start ≡ length inputs → edge.end ≡ length inputs + length more
    → discovery_held names (inputs ++ more) (edges ++ edge ∷ []) (length edges)
    ≡ record { verdict = edge.verdict; inputs = map (name_at names) more }
newest names inputs more edges edge start end = grind (arith, common_steps)

-- an edge that was found
module _ (IsFound : Discovery → Type 0) (log_paths names later : List (List ℕ))
    (log_numbers inputs more : List ℕ) (edges all : List FoundEdge) (edge : FoundEdge)
    (held : IsFinderHeld log_paths log_numbers names inputs edges)
    (found : Finds IsFound names later inputs more edge.verdict)
    (start : edge.start ≡ length inputs) (end : edge.end ≡ length more) (pushed : all ≡ edges ++ edge ∷ [])
  where
    longer : length more ≡ length inputs + length found.appends.added
    longer = ap length found.appends.numbers ∙ length-append inputs found.appends.added

    pub held-with : IsFinderHeld log_paths log_numbers later more all
    held-with = record {
      numbers = record {
        below = below-more (length names) (length later) log_numbers
            (prefix-longer names later found.appends.names) held.numbers.below;
        paths_are = prefix-kept names later log_numbers found.appends.names held.numbers.below
            ∙ held.numbers.paths_are;
      };
      held = record {
        within = subst (λ es. AllByRecursion (IsWithin (length more)) es) (sym pushed)
            (within-append (length more) edges edge
            (within-more (length inputs) (length more) edges (omega (arith, longer)) held.held.within)
            (record { rises = omega (arith, start, end, longer); ends = omega (arith, end) }));
        below = subst (AreBelow (length later)) (sym found.appends.numbers)
            (below-append (length later) inputs found.appends.added
            (below-more (length names) (length later) inputs (prefix-longer names later found.appends.names)
            held.held.below) found.appends.below);
      };
    }

    pub count-with : length (found_held later more all).edges
        ≡ length (found_held names inputs edges).edges + 1
    count-with =
        length-map all (found_of more) ∙ ap length pushed ∙ length-append edges (edge ∷ [])
        ∙ ap (λ n. n + 1) (sym (length-map edges (found_of inputs)))

    pub kept-with : (e : ℕ) → e < length (found_held names inputs edges).edges
        → discovery_held later more all e ≡ discovery_held names inputs edges e
    kept-with e within =
        let own : e < length edges = subst (λ n. e < n) (length-map edges (found_of inputs)) within in
        ap (λ ns. discovery_held ns more all e) found.appends.names.1
        ∙ ap (λ ns. discovery_held (names ++ found.appends.names.0) ns all e) found.appends.numbers
        ∙ ap (λ es. discovery_held (names ++ found.appends.names.0) (inputs ++ found.appends.added) es e)
        pushed
        ∙ kept names found.appends.names.0 inputs found.appends.added edges (edge ∷ []) e own held.held.within
        held.held.below

    pub found-with : IsFound (discovery_held later more all (length (found_held names inputs edges).edges))
    found-with =
        subst IsFound
        (ap (λ ps. record { verdict = edge.verdict; inputs = ps }) (sym found.appends.paths_are)
        ∙ sym (newest later inputs found.appends.added edges edge start (end ∙ longer))
        ∙ ap (λ ns. discovery_held later ns (edges ++ edge ∷ []) (length edges)) (sym found.appends.numbers)
        ∙ ap (λ es. discovery_held later more es (length edges)) (sym pushed)
        ∙ ap (discovery_held later more all) (sym (length-map edges (found_of inputs))))
        found.is_found

-- ---- texts

pub three-parts : (old one other last first second third : List ℕ) → first ≡ old ++ one
    → second ≡ first ++ other → third ≡ second ++ last → third ≡ old ++ (one ++ (other ++ last))
three-parts old one other last first second third a b c = grind (arith, common_steps)
