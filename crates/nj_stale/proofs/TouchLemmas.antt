-- What becomes stale when sources are touched.
use Rattle.std.proofs.Common.{◌≡◌, ◌≢◌, ℕ, zero, suc, ◌<◌, ◌≤◌, ◌+◌, Bool, true, false, Option, Some}
use Rattle.std.proofs.Common.{None}
use Rattle.std.proofs.Common.{◌⊎◌, inl, inr, List, [], ◌∷◌, length, refl, sym, ap, ap₂, ◌∙◌, subst, arith}
use Rattle.std.proofs.Common.{max}
use Rattle.std.proofs.Common.{true≢false}
use Rattle.std.specs.Prelude.{Contains, ℤ, pos, negsuc, unwrap_or, is_some, not, ◌&&◌, ◌==◌}
use Rattle.std.specs.Prelude.{if◌then◌else◌}
use Rattle.std.specs.Option.{option_or}
use Rattle.std.proofs.lemmas.Bool.{lt-ltb}
use borrow.Author.Tests.{ltb-true}
use Rattle.nj_names.specs.NameTables.{is_among}
use Rattle.nj_cycles.specs.Cycles.{IsRank}
use Rattle.nj_edges.specs.Dirty.{IsDirty}
use Rattle.nj_edges.specs.Dirty.IsDirty.{by_itself as dirty_itself, by_output as dirty_output}
use Rattle.nj_edges.specs.Dirty.IsDirty.{by_input as dirty_input, by_edge as dirty_edge}
use Rattle.nj_edges.specs.Edges.{edge_at, outputs_of, counted_inputs_of, maker_of}
use Rattle.nj_edges.specs.Needs.{makers_of_inputs}
use Rattle.nj_build_log.specs.Logs.{entry_of}
use Rattle.nj_build_log.specs.declared.entry.Entry.{Entry}
use Rattle.nj_stale.specs.States.{Evidence, State, IsStateOf, facts_at, is_before, is_stale, is_stale_by}
use Rattle.nj_stale.specs.States.{is_stale_file, newest, newest_input, lent_time, first_reason, by_discovery}
use Rattle.nj_stale.specs.States.{by_log, by_output, by_outputs, by_phony_outputs, by_files}
use Rattle.nj_stale.specs.States.{by_input}
use Rattle.nj_stale.specs.Touches.{touched, IsUpToDate, CanBeTouched, TouchesMakeDirtyEdgesStale}
use Rattle.nj_stale.specs.declared.evidence.EdgeFacts.{EdgeFacts}
use Rattle.nj_stale.specs.declared.reason.Reason.{Reason}
use Rattle.nj_stale.specs.declared.reason.Reason.TheVariants.{StaleInput, MissingOutput, OlderOutput}
use Rattle.nj_stale.specs.declared.reason.Reason.TheVariants.{OtherCommand, EarlierBuild}
use Rattle.nj_stale.proofs.StateLemmas.{contains_head, maker_within, needs_maker}
use Rattle.nj_stale.proofs.PathLemmas.{two_ways, some_of, any_of, among, contained, all_or_some, maker_has}
use Rattle.nj_stale.proofs.TimeLemmas.{Alike, AlikeEdge, alike_source, alike_made, alike_edge}

-- ---- reasons that exist

some_first : (asked : List ℕ → ℕ → Option Reason) (place : ℕ) (paths : List (List ℕ)) (path : List ℕ)
    → Contains paths path → ((at : ℕ) → is_some (asked path at) ≡ true)
    → is_some (first_reason asked place paths) ≡ true
some_first asked place [] path c some = absurd (omega (arith, c.1))
some_first asked place (first ∷ paths) path (zero, lt, is) some =
    first_is (asked first place) (first_reason asked (place + 1) paths)
    (ap (λ p. is_some (asked p place)) is ∙ some place)
  where
    first_is : (a b : Option Reason) → is_some a ≡ true → is_some (option_or a b) ≡ true
    first_is None b none = absurd (true≢false (sym none))
    first_is (Some r) b some = refl
some_first asked place (first ∷ paths) path (suc k, lt, is) some =
    or_some (asked first place) (first_reason asked (place + 1) paths)
    (some_first asked (place + 1) paths path (k, omega (arith, lt), is) some)
  where
    or_some : (a b : Option Reason) → is_some b ≡ true → is_some (option_or a b) ≡ true
    or_some None b some = some
    or_some (Some r) b some = refl

-- an output that is older than the newest input, also according to the log, is a reason
by_old_entry : (facts : EdgeFacts) (n : ℕ) (entry : Entry) (place : ℕ) → is_before entry.time (Some n) ≡ true
    → is_some (by_log facts (Some n) (Some entry) place) ≡ true
by_old_entry facts n entry place old =
    ap (λ b. is_some (if not facts.generator
    && not (entry.hash == facts.command_hash) then Some (OtherCommand place)
    else (if b then Some (EarlierBuild place) else None))) old
    ∙ by (not facts.generator && not (entry.hash == facts.command_hash))
  where
    by : (b : Bool) → is_some (if b then Some (OtherCommand place) else Some (EarlierBuild place)) ≡ true
    by true = refl
    by false = refl

old_output : (facts : EdgeFacts) (n time : ℕ) (entry : Option Entry) (place : ℕ) → time < n
    → ((e : Entry) → entry ≡ Some e → is_before e.time (Some n) ≡ true)
    → is_some (by_output facts (Some n) time entry place) ≡ true
old_output facts n time entry place old log =
    ap (λ b. is_some (if time == 0 then Some (MissingOutput place)
    else (if b && not (facts.restat && is_some entry) then Some (OlderOutput place)
    else by_log facts (Some n) entry place))) (lt-ltb time n old)
    ∙ by (time == 0) facts.restat entry log
  where
    by : (absent restat : Bool) (entry : Option Entry)
        → ((e : Entry) → entry ≡ Some e → is_before e.time (Some n) ≡ true)
        → is_some (if absent then Some (MissingOutput place)
        else (if not (restat && is_some entry) then Some (OlderOutput place)
        else by_log facts (Some n) entry place)) ≡ true
    by true restat entry log = refl
    by false false entry log = refl
    by false true None log = refl
    by false true (Some e) log = by_old_entry facts n e place (log e refl)

-- what is before a time is before a later one
before_later : (time : ℤ) (now n : ℕ) → now ≤ n → is_before time (Some now) ≡ true
    → is_before time (Some n) ≡ true
before_later (pos time) now n later before =
    let lt : time < now = ltb-true time now before in lt-ltb time n (omega arith)
before_later (negsuc time) now n later before = refl

-- the newest of some times is not before any of them
newest_at_least : (time : List ℕ → ℕ) (paths : List (List ℕ)) (path : List ℕ) (now : ℕ) → Contains paths path
    → now ≤ time path → (n : ℕ) × (newest time paths ≡ Some n) × (now ≤ n)
newest_at_least time [] path now c late = absurd (omega (arith, c.1))
newest_at_least time (first ∷ paths) path now (zero, lt, is) late =
    let late_first : now ≤ time first = subst (λ p. now ≤ time p) (sym is) late in
    (max (time first) (unwrap_or (newest time paths) 0), refl, omega arith)
newest_at_least time (first ∷ paths) path now (suc k, lt, is) late =
    let more = newest_at_least time paths path now (k, omega (arith, lt), is) late in
    let value : unwrap_or (newest time paths) 0 ≡ more.0 = ap (λ (o : Option ℕ). unwrap_or o 0) more.1 in
    (max (time first) (unwrap_or (newest time paths) 0), refl, omega (arith, more.2, value))

-- ---- a touch

module _ (known : Evidence) (files : List (List ℕ)) (now : ℕ) (s t : State) (rank : ℕ → ℕ)
    (is : IsRank (makers_of_inputs known.edges) (length known.edges) rank) (of_s : IsStateOf known s)
    (fresh : IsUpToDate known s) (can : CanBeTouched known files now)
    (of_t : IsStateOf (touched known files now) t) where
  -- a file that an edge makes is not touched
  made_time : (path : List ℕ) (edge : ℕ) → maker_of known.edges path ≡ Some edge
      → (if is_among files path then now else known.disk_time path) ≡ known.disk_time path
  made_time path edge made = by (two_ways (is_among files path))
    where
      by : (is_among files path ≡ true) ⊎ (is_among files path ≡ false)
          → (if is_among files path then now else known.disk_time path) ≡ known.disk_time path
      by (inl there) = absurd (true≢false (sym (ap is_some (sym (can.sources path there) ∙ made))))
      by (inr other) = ap (λ b. if b then now else known.disk_time path) other

  -- the times after the touch
  abbrev touch : List ℕ → ℕ
  touch path = if is_among files path then now else known.disk_time path

  -- a file is touched, or made by a dirty edge
  abbrev Reached : List ℕ → Type 0
  Reached path = (is_among files path ≡ true) ⊎ ((maker : ℕ) × (maker_of known.edges path ≡ Some maker)
      × IsDirty known.edges files [] maker)

  outputs_stay : (edge : ℕ) (path : List ℕ) → Contains (outputs_of (edge_at known.edges edge)) path
      → touch path ≡ known.disk_time path
  outputs_stay edge path c =
      made_time path edge (can.own_outputs path edge (among (outputs_of (edge_at known.edges edge)) path c))

  -- ---- what is stale is dirty

  dirty_by : (edge : ℕ) (path : List ℕ) → Contains (counted_inputs_of (edge_at known.edges edge)) path
      → Reached path
      → IsDirty known.edges files [] edge
  dirty_by edge path c (inl there) =
      let counted = counted_inputs_of (edge_at known.edges edge) in
      dirty_input (any_of (is_among counted) files path (contained files path there) (among counted path c))
  dirty_by edge path c (inr made) =
      let counted = counted_inputs_of (edge_at known.edges edge) in
      let outputs = outputs_of (edge_at known.edges made.0) in
      dirty_edge {f = made.0} (any_of (is_among counted) outputs path
      (contained outputs path (maker_has known.edges path made.0 made.1)) (among counted path c)) made.2

  alike_or_reached : (path : List ℕ) → ((maker : ℕ) → maker_of known.edges path ≡ Some maker
      → AlikeEdge known s t maker ⊎ IsDirty known.edges files [] maker)
      → Alike known touch s t path ⊎ Reached path
  alike_or_reached path makers = by (maker_of known.edges path) refl
    where
      source : maker_of known.edges path ≡ None → (is_among files path ≡ true) ⊎ (is_among files path ≡ false)
          → Alike known touch s t path ⊎ Reached path
      source none (inl there) = inr (inl there)
      source none (inr other) =
          inl (alike_source known touch s t of_s of_t path none
          (ap (λ b. if b then now else known.disk_time path) other))

      by : (m : Option ℕ) → maker_of known.edges path ≡ m → Alike known touch s t path ⊎ Reached path
      by None none = source none (two_ways (is_among files path))
      by (Some maker) made = elim (makers maker made) [
        | inl alike ↦ inl (alike_made known touch s t of_s of_t path maker made alike)
        | inr dirty ↦ inr (inr (maker, made, dirty))
      ]

  alike_or_dirty : (n edge : ℕ) → edge < length known.edges → rank edge < n
      → AlikeEdge known s t edge ⊎ IsDirty known.edges files [] edge
  alike_or_dirty zero edge lt below = absurd (omega arith)
  alike_or_dirty (suc n) edge lt below =
      elim (all_or_some {A = Alike known touch s t} {B = Reached}
      (counted_inputs_of (edge_at known.edges edge))
      (λ path c. alike_or_reached path (λ maker made.
      let needs = needs_maker known.edges edge path maker c made in
      alike_or_dirty n maker (is.within edge maker needs)
      (let falls = is.falls edge maker needs in omega arith)))) [
        | inl all ↦ inl (alike_edge known touch s t of_s of_t edge lt (outputs_stay edge) all)
        | inr some ↦ inr (dirty_by edge some.0 some.1 some.2)
      ]

  stale_is_dirty : (edge : ℕ) → edge < length known.edges → is_stale t edge ≡ true
      → IsDirty known.edges files [] edge
  stale_is_dirty edge lt stale = elim (alike_or_dirty (suc (rank edge)) edge lt (omega arith)) [
    | inl alike ↦ absurd (true≢false (sym stale ∙ ap is_some (alike.reason ∙ fresh edge lt)))
    | inr dirty ↦ dirty
  ]

  -- ---- what is dirty is stale

  -- a file is stale, or has a time that is not before the touch
  abbrev Late : List ℕ → Type 0
  Late path = (is_stale_file (touched known files now) t path ≡ true) ⊎ (now ≤ t.time path)

  -- an edge is stale, if it is not phony; or its outputs are late
  record IsHit (edge : ℕ) : Type 0 where
    command : (edge_at known.edges edge).is_phony ≡ false → is_stale t edge ≡ true
    outputs : (is_stale t edge ≡ true) ⊎ ((path : List ℕ) → maker_of known.edges path ≡ Some edge
        → now ≤ t.time path)

  some_middle : (a b c : Option Reason) → is_some b ≡ true → is_some (option_or a (option_or b c)) ≡ true
  some_middle None None c some = absurd (true≢false (sym some))
  some_middle None (Some r) c some = refl
  some_middle (Some r) b c some = refl

  some_last : (a b c : Option Reason) → is_some c ≡ true → is_some (option_or a (option_or b c)) ≡ true
  some_last None None c some = some
  some_last None (Some r) c some = refl
  some_last (Some r) b c some = refl

  hit_by_stale : (edge : ℕ) → edge < length known.edges → (path : List ℕ)
      → Contains (counted_inputs_of (edge_at known.edges edge)) path
      → is_stale_file (touched known files now) t path ≡ true → is_stale t edge ≡ true
  hit_by_stale edge lt path c stale =
      let paths = edge_at known.edges edge in
      let facts = facts_at known edge in
      ap is_some (of_t.edge edge lt)
      ∙ some_middle (by_discovery facts) (first_reason (by_input (touched known files now) t) 0
      (counted_inputs_of paths))
      (by_files (touched known files now) facts (newest_input t paths) paths)
      (some_first (by_input (touched known files now) t) 0 (counted_inputs_of paths) path c
      (λ place. ap (λ b. is_some (if b then Some (StaleInput place) else None)) stale))

  hit_command : (edge n : ℕ) → edge < length known.edges → now ≤ n
      → newest_input t (edge_at known.edges edge) ≡ Some n → (edge_at known.edges edge).is_phony ≡ false
      → is_stale t edge ≡ true
  hit_command edge n lt late newest_is command =
      let paths = edge_at known.edges edge in
      let facts = facts_at known edge in
      let one = some_member (outputs_of paths) (can.some_output edge lt command) in
      let made = can.own_outputs one.0 edge (among (outputs_of paths) one.0 one.1) in
      let asked : List ℕ → ℕ → Option Reason = λ (path : List ℕ) (place : ℕ).
      by_output facts (Some n) (if is_among files path then now else known.disk_time path)
      (entry_of known.lines path) place in
      let old : (if is_among files one.0 then now else known.disk_time one.0) < n =
      omega (arith, made_time one.0 edge made, can.later one.0, late) in
      let there : is_some (first_reason asked 0 (outputs_of paths)) ≡ true =
      some_first asked 0 (outputs_of paths) one.0 one.1
      (λ place. old_output facts n (if is_among files one.0 then now else known.disk_time one.0)
      (entry_of known.lines one.0) place old
      (λ e in_log. before_later e.time now n late (can.later_than_log one.0 e in_log))) in
      ap is_some (of_t.edge edge lt)
      ∙ some_last (by_discovery facts) (first_reason (by_input (touched known files now) t) 0
      (counted_inputs_of paths))
      (by_files (touched known files now) facts (newest_input t paths) paths)
      (ap (λ b. is_some (if b then by_phony_outputs (touched known files now) paths
      else by_outputs (touched known files now) facts (newest_input t paths) paths)) command
      ∙ ap (λ (m : Option ℕ). is_some (by_outputs (touched known files now) facts m paths)) newest_is ∙ there)
    where
      some_member : (paths : List (List ℕ)) → paths ≢ [] → (path : List ℕ) × Contains paths path
      some_member [] some = absurd (some refl)
      some_member (path ∷ paths) some = (path, contains_head path paths)

  hit_by_time : (edge n : ℕ) → edge < length known.edges → now ≤ n
      → newest_input t (edge_at known.edges edge) ≡ Some n → IsHit edge
  hit_by_time edge n lt late newest_is = record {
    command = hit_command edge n lt late newest_is;
    outputs = by (two_ways (is_stale t edge)) (two_ways (edge_at known.edges edge).is_phony);
  }
    where
      lends : (path : List ℕ) → is_stale t edge ≡ false → (edge_at known.edges edge).is_phony ≡ true
          → maker_of known.edges path ≡ Some edge → t.time path ≡ n
      lends path not_stale phony made =
          of_t.output path edge made
          ∙ ap (λ d. if d == 0 then lent_time t (edge_at known.edges edge) edge else d)
          (made_time path edge made ∙ can.phony_outputs path edge made phony)
          ∙ ap₂ (λ (p r : Bool). if p && not r then unwrap_or (newest_input t (edge_at known.edges edge)) 0
          else 0)
          phony not_stale
          ∙ ap (λ (m : Option ℕ). unwrap_or m 0) newest_is

      by : (is_stale t edge ≡ true) ⊎ (is_stale t edge ≡ false)
          → ((edge_at known.edges edge).is_phony ≡ true) ⊎ ((edge_at known.edges edge).is_phony ≡ false)
          → (is_stale t edge ≡ true) ⊎ ((path : List ℕ) → maker_of known.edges path ≡ Some edge
          → now ≤ t.time path)
      by (inl stale) kind = inl stale
      by (inr not_stale) (inl phony) =
          inr (λ path made. let is_n = lends path not_stale phony made in omega (arith, is_n, late))
      by (inr not_stale) (inr command) = inl (hit_command edge n lt late newest_is command)

  hit : (edge : ℕ) → edge < length known.edges → (path : List ℕ)
      → Contains (counted_inputs_of (edge_at known.edges edge)) path → Late path → IsHit edge
  hit edge lt path c (inl stale) =
      let now_stale = hit_by_stale edge lt path c stale in
      record { command = λ kind. now_stale; outputs = inl now_stale }
  hit edge lt path c (inr late) =
      let more = newest_at_least t.time (counted_inputs_of (edge_at known.edges edge)) path now c late in
      hit_by_time edge more.0 lt more.2 more.1

  dirty_is_hit : (edge : ℕ) → edge < length known.edges → IsDirty known.edges files [] edge → IsHit edge
  dirty_is_hit edge lt (dirty_itself c) = absurd (omega (arith, c.1))
  dirty_is_hit edge lt (dirty_output some) =
      let outputs = outputs_of (edge_at known.edges edge) in
      let found = some_of (is_among outputs) files some in
      absurd (true≢false (sym (ap is_some (sym (can.sources found.0 (among files found.0 found.1))
      ∙ can.own_outputs found.0 edge found.2))))
  dirty_is_hit edge lt (dirty_input some) =
      let counted = counted_inputs_of (edge_at known.edges edge) in
      let found = some_of (is_among counted) files some in
      let there = among files found.0 found.1 in
      let time_is : t.time found.0 ≡ now =
      of_t.source found.0 (can.sources found.0 there)
      ∙ ap (λ b. if b then now else known.disk_time found.0) there in
      hit edge lt found.0 (contained counted found.0 found.2) (inr (omega (arith, time_is)))
  dirty_is_hit edge lt (dirty_edge {f = f} some dirty) =
      let counted = counted_inputs_of (edge_at known.edges edge) in
      let outputs = outputs_of (edge_at known.edges f) in
      let found = some_of (is_among counted) outputs some in
      let made = can.own_outputs found.0 f (among outputs found.0 found.1) in
      hit edge lt found.0 (contained counted found.0 found.2)
      (late found.0 f made (dirty_is_hit f (maker_within known.edges found.0 f made) dirty))
    where
      late : (path : List ℕ) (maker : ℕ) → maker_of known.edges path ≡ Some maker → IsHit maker → Late path
      late path maker made is_hit = elim is_hit.outputs [
        | inl stale ↦ inl (ap (λ m. is_stale_by m (touched known files now) t path) made ∙ stale)
        | inr times ↦ inr (times path made)
      ]

pub touches : TouchesMakeDirtyEdgesStale
touches known files now s t acyclic of_s fresh can of_t edge lt command = (
  stale_is_dirty known files now s t acyclic.0 acyclic.1 of_s fresh can of_t edge lt,
  λ dirty. (dirty_is_hit known files now s t acyclic.0 acyclic.1 of_s fresh can of_t edge lt dirty).command
      command,
)
