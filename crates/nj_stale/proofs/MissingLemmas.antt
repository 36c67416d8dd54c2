-- The missing sources at which a build stops.
use Rattle.std.proofs.Common.{◌≡◌, ◌↔◌, ℕ, zero, suc, ◌<◌, ◌+◌, Bool, true, false, cond, Option, Some, None}
use Rattle.std.proofs.Common.{◌⊎◌, inl, inr, List, [], ◌∷◌, ◌++◌, length, map, set, take, refl, sym, ap, ap₂}
use Rattle.std.proofs.Common.{◌∙◌, arith, true≢false, get_or}
use Rattle.std.specs.Prelude.{All, Contains, bytes_eq, find, is_some, not, ◌&&◌, ◌==◌, option_map, slice_get}
use Rattle.std.specs.Prelude.{slice_index_or, unwrap_or, if◌then◌else◌}
use Rattle.std.specs.List.{IsDistinct}
use Rattle.std.proofs.lemmas.List.{length-set, map_push, take_more}
use Rattle.std.proofs.lemmas.Option.{slice_get_within, slice_get-get_or}
use Rattle.nj_names.specs.Files.{AreFiles, path_at}
use Rattle.nj_names.specs.declared.files.FileNo.{FileNo}
use Rattle.nj_edges.specs.EdgeGraphs.{EdgeGraph}
use Rattle.nj_edges.specs.Distances.{IsNeeded}
use Rattle.nj_edges.specs.Edges.{edge_at, inputs_of, maker_of}
use Rattle.nj_build_log.specs.Logs.{LineModel}
use Rattle.nj_stale.specs.States.{Evidence, State}
use Rattle.nj_stale.specs.Numbered.{evidence_of}
use Rattle.nj_stale.specs.Missing.{AreStated, IsFirstMissing, Stops, first_lost, is_lost}
use Rattle.nj_stale.specs.Work.{AreWorkFlags, HasReasons}
use Rattle.nj_stale.specs.Inside.MissingHeld.{AreFlags, IsFirstInput, has_both, lost_held, stop_path}
use Rattle.nj_stale.specs.declared.evidence.EdgeFacts.{EdgeFacts}
use Rattle.nj_stale.specs.declared.reason.Reason.{Reason}
use Rattle.nj_stale.specs.declared.missing.MissingSource.{MissingSource}
use Rattle.nj_stale.specs.declared.missing.MissingSource.TheVariants.{Target, Input}
use Rattle.nj_stale.proofs.FileLemmas.{time_at}

-- ---- files by their numbers

pub target_files : (files : List (List ℕ)) (numbers : List FileNo)
    → All (λ (file : FileNo). file.0 < length files) numbers
    → AreFiles files numbers (map (path_at files) numbers)
target_files files [] all = refl
target_files files (number ∷ numbers) all =
    ap₂ (λ (x : Option (List ℕ)) (xs : List (Option (List ℕ))). x ∷ xs)
    (slice_get-get_or files number.0 [] (all 0 number (omega arith))
    ∙ ap (λ (p : List ℕ). Some p) (path_is number (all 0 number (omega arith))))
    (target_files files numbers (λ i d lt. all (suc i) d (omega (arith, lt))))
  where
    path_is : (number : FileNo) → number.0 < length files → get_or files number.0 [] ≡ path_at files number
    path_is number lt = ap (λ (o : Option (List ℕ)). unwrap_or o [])
        (sym (slice_get-get_or files number.0 [] lt))

pick : (files : List (List ℕ)) (b : Bool) (number : FileNo) (path : List ℕ) (rest : Option FileNo)
    (found : Option (List ℕ)) → path_at files number ≡ path → option_map (path_at files) rest ≡ found
    → option_map (path_at files) (cond b (Some number) rest) ≡ cond b (Some path) found
pick files true number path rest found at same = ap (λ (p : List ℕ). Some p) at
pick files false number path rest found at same = same

module _ (g : EdgeGraph) (facts : List EdgeFacts) (times : List ℕ) (lines : List LineModel)
    (stated : List Bool) (is_stated : List ℕ → Bool) (distinct : IsDistinct bytes_eq g.files)
    (count : length times ≡ length g.files) (are : AreStated g.files is_stated stated) where
  lost_is : (file : FileNo) → file.0 < length g.files
      → lost_held g times stated file
      ≡ is_lost (evidence_of g facts times lines) is_stated (path_at g.files file)
  lost_is file lt =
      ap₂ (λ (t : ℕ) (b : Bool). not (is_some (maker_of g.edges (path_at g.files file))) && ((t == 0) && b))
      (sym (time_at g.files times file.0 distinct count lt)) (are file lt)

  pub found_lost : (numbers : List FileNo) (paths : List (List ℕ)) → AreFiles g.files numbers paths
      → option_map (path_at g.files) (find (lost_held g times stated) numbers)
      ≡ first_lost (evidence_of g facts times lines) is_stated paths
  found_lost [] [] is = refl
  found_lost [] (path ∷ paths) is = absurd (cc)
  found_lost (number ∷ numbers) [] is = absurd (cc)
  found_lost (number ∷ numbers) (path ∷ paths) is =
      let head : slice_get g.files number.0 ≡ Some path = cc in
      let rest : AreFiles g.files numbers paths = cc in
      let at : path_at g.files number ≡ path = ap (λ (o : Option (List ℕ)). unwrap_or o []) head in
      let known = evidence_of g facts times lines in
      pick g.files (lost_held g times stated number) number path (find (lost_held g times stated) numbers)
      (first_lost known is_stated paths) at (found_lost numbers paths rest)
      ∙ ap (λ b. cond b (Some path) (first_lost known is_stated paths))
      (lost_is number (slice_get_within g.files number.0 path head) ∙ ap (is_lost known is_stated) at)

-- ---- flags

both_true : (a b : Bool) → (a && b) ≡ true → (a ≡ true) × (b ≡ true)
both_true true b is = (refl, is)
both_true false b is = absurd (true≢false (sym is))

set_flag : (flags : List Bool) (m n : ℕ) → m < length flags
    → (slice_index_or (set flags m true) n false ≡ true) ↔ ((m ≡ n) ⊎ (slice_index_or flags n false ≡ true))
set_flag [] m n lt = absurd (omega (arith, lt))
set_flag (flag ∷ flags) zero zero lt = (λ is. inl refl, λ either. refl)
set_flag (flag ∷ flags) zero (suc n) lt = (
  λ is. inr is,
  λ either. elim either [
    | inl same ↦ absurd (omega (arith, same))
    | inr is ↦ is
  ],
)
set_flag (flag ∷ flags) (suc m) zero lt = (
  λ is. inr is,
  λ either. elim either [
    | inl same ↦ absurd (omega (arith, same))
    | inr is ↦ is
  ],
)
set_flag (flag ∷ flags) (suc m) (suc n) lt =
    let below = set_flag flags m n (omega (arith, lt)) in (
      λ is. elim (below.0 is) [
        | inl same ↦ inl (ap suc same)
        | inr old ↦ inr old
      ],
      λ either. below.1 (elim either [
        | inl same ↦ inl (let e : m ≡ n = omega (arith, same) in e)
        | inr old ↦ inr old
      ]),
    )

-- a list with one more number
contains_push : (numbers : List ℕ) (m n : ℕ) → Contains (numbers ++ m ∷ []) n ↔ ((m ≡ n) ⊎ Contains numbers n)
contains_push [] m n = (
  λ c. inl (first c),
  λ either. elim either [
    | inl same ↦ (0, omega arith, same)
    | inr c ↦ absurd (omega (arith, c.1))
  ],
)
  where
    first : Contains (m ∷ []) n → m ≡ n
    first (zero, lt, at) = at
    first (suc i, lt, at) = absurd (omega (arith, lt))
contains_push (x ∷ numbers) m n =
    let below = contains_push numbers m n in (
      λ c. fore below c,
      λ either. elim either [
        | inl same ↦ (let c = below.1 (inl same) in (suc c.0, omega (arith, c.1), c.2))
        | inr c ↦ back below c
      ],
    )
  where
    fore : (Contains (numbers ++ m ∷ []) n ↔ ((m ≡ n) ⊎ Contains numbers n))
        → Contains (x ∷ (numbers ++ m ∷ [])) n → (m ≡ n) ⊎ Contains (x ∷ numbers) n
    fore below (zero, lt, at) = inr (0, omega arith, at)
    fore below (suc i, lt, at) = elim (below.0 (i, omega (arith, lt), at)) [
      | inl same ↦ inl same
      | inr c ↦ inr (suc c.0, omega (arith, c.1), c.2)
    ]

    back : (Contains (numbers ++ m ∷ []) n ↔ ((m ≡ n) ⊎ Contains numbers n))
        → Contains (x ∷ numbers) n → Contains (x ∷ (numbers ++ m ∷ [])) n
    back below (zero, lt, at) = (0, omega arith, at)
    back below (suc i, lt, at) =
        let c = below.1 (inr (i, omega (arith, lt), at)) in (suc c.0, omega (arith, c.1), c.2)

pub flags_more : (count : ℕ) (numbers : List ℕ) (flags : List Bool) (m : ℕ) → m < count
    → AreFlags count numbers flags → AreFlags count (numbers ++ m ∷ []) (set flags m true)
flags_more count numbers flags m lt held = record {
  flag_count = set_length flags m ∙ held.flag_count;
  are = λ n within.
      let own = held.are n within in
      let one = set_flag flags m n (let c = held.flag_count in omega (arith, c)) in
      let more = contains_push numbers m n in (
        λ is. more.1 (elim (one.0 is) [
          | inl same ↦ inl same
          | inr old ↦ inr (own.0 old)
        ]),
        λ c. one.1 (elim (more.0 c) [
          | inl same ↦ inl same
          | inr old ↦ inr (own.1 old)
        ]),
      );
}
  where
    set_length : (xs : List Bool) (m : ℕ) → length (set xs m true) ≡ length xs
    set_length xs m = length-set xs m true

pub mapped_more : {X Y : Type 0} (f : X → Y) (items : List X) (i : ℕ) (d : X) → i < length items
    → map f (take i items) ++ f (get_or items i d) ∷ [] ≡ map f (take (i + 1) items)
mapped_more f items i d below = sym (ap (map f) (take_more items i d below)
    ∙ map_push f (take i items) (get_or items i d))

-- ---- what stops a build

module _ (known : Evidence) (is_stated : List ℕ → Bool) (s : State) (targets : List (List ℕ))
    (reasons : List (Option Reason)) (works needed : List Bool) (numbers : List ℕ)
    (are_works : AreWorkFlags known.edges reasons works) (has : HasReasons known.edges s reasons)
    (are_needed : AreFlags (length known.edges) numbers needed)
    (needs : (edge : ℕ) → Contains numbers edge ↔ IsNeeded known.edges targets edge) where
  stop_is : (edge : ℕ) (path : List ℕ) → Stops known is_stated s targets edge path
      → stop_path known is_stated works needed edge ≡ Some path
  stop_is edge path stops =
      ap₂ (λ (a b : Bool). if a && b then first_lost known is_stated (inputs_of (edge_at known.edges edge))
      else None) ((are_works.are s has edge stops.within).1 stops.works)
      ((are_needed.are edge stops.within).1 ((needs edge).1 stops.needed))
      ∙ stops.first

  is_stop : (edge : ℕ) (path : List ℕ) → edge < length known.edges
      → stop_path known is_stated works needed edge ≡ Some path → Stops known is_stated s targets edge path
  is_stop edge path lt is = by (has_both works needed edge) refl is
    where
      by : (b : Bool) → has_both works needed edge ≡ b
          → (if b then first_lost known is_stated (inputs_of (edge_at known.edges edge)) else None)
          ≡ Some path
          → Stops known is_stated s targets edge path
      by false both none = absurd (cc)
      by true both first =
          let flags = both_true (slice_index_or works edge false) (slice_index_or needed edge false) both in
          record {
            within = lt;
            needed = (needs edge).0 ((are_needed.are edge lt).0 flags.1);
            works = (are_works.are s has edge lt).0 flags.0;
            first = first;
          }

  none_stops : (edge : ℕ) (path : List ℕ) → stop_path known is_stated works needed edge ≡ None
      → ¬ Stops known is_stated s targets edge path
  none_stops edge path none stops = absurd (some_or_none path (sym (stop_is edge path stops) ∙ none))
    where
      some_or_none : (p : List ℕ) → Some p ≡ None → ⊥
      some_or_none p same = absurd (cc)

  pub first_missing : (files : List (List ℕ)) (found : Option MissingSource)
      → first_lost known is_stated targets ≡ None
      → IsFirstInput files (stop_path known is_stated works needed) (length known.edges) found
      → IsFirstMissing files known is_stated s targets found
  first_missing files None none all =
      (none, λ edge path stops. none_stops edge path (all edge stops.within) stops)
  first_missing files (Some (Target file)) none is = absurd is
  first_missing files (Some (Input edge file)) none is = (
    none,
    record {
      stops = is_stop edge.0 (path_at files file) is.0 is.1;
      first = λ lower other lt. none_stops lower other (is.2 lower lt);
    },
  )
