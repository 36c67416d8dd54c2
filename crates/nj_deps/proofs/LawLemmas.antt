-- Lemmas for the laws of deps logs.
use Rattle.std.proofs.Common.{◌≡◌, ◌≢◌, ◌⊎◌, inl, inr, ◌+◌, ◌-◌, ◌*◌, ◌^◌, ℕ, Bool, true, false, cond, Option}
use Rattle.std.proofs.Common.{Some, None, List, [], ◌∷◌, ◌++◌, map, length, slice_get, nat_eq, refl, sym, ap}
use Rattle.std.proofs.Common.{subst, ◌∙◌, arith}
use Rattle.std.specs.List.{AllByRecursion, IsDistinct, cons_option, filter_map, flat_map, fold}
use Rattle.std.proofs.lemmas.Bool.{eq-eqb}
use Rattle.std.proofs.lemmas.Bool.Decides.{eqb_tells}
use Rattle.std.proofs.lemmas.List.{append_cancel_left}
use Rattle.nj_deps.specs.LogRecords.{LogRecord, bytes_of}
use Rattle.nj_deps.specs.LogRecords.LogRecord.{path, dependencies}
use Rattle.nj_deps.specs.Logs.{LogModel, OutputModel, IsLogOf, IsLogFault, opening, with_output}
use Rattle.nj_deps.specs.Logs.{with_dependencies, outputs_of, output_of, paths_of}
use Rattle.nj_deps.specs.Laws.{said_of}
use Rattle.nj_deps.specs.declared.log_fault.DepsLogFault.{DepsLogFault}
use Rattle.nj_deps.specs.declared.log_fault.DepsLogFault.TheVariants.{NoDepsLog, OtherVersion, OutOfMemory}
use Rattle.nj_deps.proofs.RecordLemmas.{one_cut}
use Rattle.nj_deps.proofs.WordLemmas.{version_is}

-- ---- one cut

pub says_one_thing : (bytes : List ℕ) (one other : LogModel) → IsLogOf bytes one → IsLogOf bytes other
    → one ≡ other
says_one_thing bytes one other a b =
    let bodies = append_cancel_left (opening 4) (flat_map bytes_of a.records ++ a.rest)
    (flat_map bytes_of b.records ++ b.rest) (sym a.cut ∙ b.cut) in
    let cut = one_cut [] a.records b.records a.rest b.rest (omega arith) a.in_turn b.in_turn a.ends b.ends
    bodies in
    let paths : one.paths ≡ other.paths = a.paths ∙ ap paths_of cut.0 ∙ sym b.paths in
    let outputs : one.outputs ≡ other.outputs = a.outputs ∙ ap outputs_of cut.0 ∙ sym b.outputs in
    let rests : length a.rest ≡ length b.rest = ap length cut.1 in
    let first = a.size in
    let second = b.size in
    let size : one.size ≡ other.size = omega arith in
    let whole : one.is_whole ≡ other.is_whole = a.is_whole ∙ ap (λ n. nat_eq n 0) rests ∙ sym b.is_whole in
    ap (λ p. record { paths = p; outputs = one.outputs; size = one.size; is_whole = one.is_whole }) paths
    ∙ ap (λ o. record { paths = other.paths; outputs = o; size = one.size; is_whole = one.is_whole }) outputs
    ∙ ap (λ s. record { paths = other.paths; outputs = other.outputs; size = s; is_whole = one.is_whole })
    size
    ∙ ap (λ w. record { paths = other.paths; outputs = other.outputs; size = other.size; is_whole = w }) whole

-- ---- good logs

pub read_unless_no_memory : (bytes : List ℕ) (log : LogModel) (fault : DepsLogFault) → IsLogOf bytes log
    → IsLogFault bytes fault → fault ≡ OutOfMemory
read_unless_no_memory bytes log NoDepsLog is refused =
    absurd (refused 4 (flat_map bytes_of is.records ++ is.rest) is.cut)
read_unless_no_memory bytes log (OtherVersion version) is refused =
    let (small, other, rest, cut) = refused in
    absurd (other (version_is version 4 rest (flat_map bytes_of is.records ++ is.rest) small (omega arith)
    (sym cut ∙ is.cut)))
read_unless_no_memory bytes log OutOfMemory is refused = refl

-- ---- the last record

-- the entry after more entries for the output: the last of them
last_or : Option OutputModel → List OutputModel → Option OutputModel
last_or known [] = known
last_or known (o ∷ said) = last_or (Some o) said

last-said : (known : Option OutputModel) (o : OutputModel) (said : List OutputModel)
    → last_or known (o ∷ said) ≡ slice_get (o ∷ said) (length said)
unfolding last_or
last-said known o [] = refl
last-said known o (p ∷ said) = last-said (Some o) p said

set-same : (outputs : List OutputModel) (o : OutputModel) (n : ℕ) → o.output ≡ n
    → output_of (with_output outputs o) n ≡ Some o
set-same [] o n same = ap (λ b. cond b (Some o) None) (eq-eqb o.output n same)
set-same (p ∷ outputs) o n same = grind (
  arith,
  set-same outputs o n same,
  eqb_tells p.output o.output,
  nat_eq p.output n,
)

set-other : (outputs : List OutputModel) (o : OutputModel) (n : ℕ) → nat_eq o.output n ≡ false
    → output_of (with_output outputs o) n ≡ output_of outputs n
set-other [] o n other = ap (λ b. cond b (Some o) None) other
set-other (p ∷ outputs) o n other = by (set-other outputs o n other) (eqb_tells p.output o.output)
  where
    by : output_of (with_output outputs o) n ≡ output_of outputs n
        → ((nat_eq p.output o.output ≡ true) × (p.output ≡ o.output))
        ⊎ ((nat_eq p.output o.output ≡ false) × (p.output ≢ o.output))
        → output_of (with_output (p ∷ outputs) o) n ≡ output_of (p ∷ outputs) n
    by rest (inl is) = ap (λ b. output_of (cond b (o ∷ outputs) (p ∷ with_output outputs o)) n) is.0
        ∙ ap (λ b. cond b (Some o) (output_of outputs n)) other
        ∙ ap (λ b. cond b (Some p) (output_of outputs n)) (sym (ap (λ k. nat_eq k n) is.1 ∙ other))
    by rest (inr apart) = ap (λ b. output_of (cond b (o ∷ outputs) (p ∷ with_output outputs o)) n) apart.0
        ∙ ap (λ r. cond (nat_eq p.output n) (Some p) r) rest

said-more : (records : List LogRecord) (n : ℕ) (outputs : List OutputModel)
    → output_of (fold with_dependencies outputs records) n
    ≡ last_or (output_of outputs n) (filter_map (said_of n) records)
unfolding last_or
said-more [] n outputs = refl
said-more (path padded complement ∷ records) n outputs = said-more records n outputs
said-more (dependencies o l h ns ∷ records) n outputs =
    said-more records n (with_output outputs new) ∙ by (eqb_tells o n)
  where
    new : OutputModel
    new = record { output = o; time = l + 2 ^ 32 * h; inputs = ns }

    said : List OutputModel
    said = filter_map (said_of n) records

    by : ((nat_eq o n ≡ true) × (o ≡ n)) ⊎ ((nat_eq o n ≡ false) × (o ≢ n))
        → last_or (output_of (with_output outputs new) n) said
        ≡ last_or (output_of outputs n) (filter_map (said_of n) (dependencies o l h ns ∷ records))
    by (inl is) = ap (λ k. last_or k said) (set-same outputs new n is.1)
        ∙ sym (ap (λ b. last_or (output_of outputs n) (cons_option (cond b (Some new) None) said)) is.0)
    by (inr is) = ap (λ k. last_or k said) (set-other outputs new n is.0)
        ∙ sym (ap (λ b. last_or (output_of outputs n) (cons_option (cond b (Some new) None) said)) is.0)

pub last_counts : (records : List LogRecord) (n : ℕ)
    → output_of (outputs_of records) n ≡ slice_get (filter_map (said_of n) records)
    (length (filter_map (said_of n) records) - 1)
unfolding last_or
last_counts records n = said-more records n [] ∙ by (filter_map (said_of n) records)
  where
    by : (said : List OutputModel) → last_or None said ≡ slice_get said (length said - 1)
    by [] = refl
    by (o ∷ said) = last-said None o said ∙ ap (slice_get (o ∷ said))
        (let e : length said ≡ length (o ∷ said) - 1 = omega arith in e)

-- ---- each output once

differ-set : (k : ℕ) (outputs : List OutputModel) (o : OutputModel) → nat_eq k o.output ≡ false
    → AllByRecursion (λ n. nat_eq k n ≡ false) (map (λ p. p.output) outputs)
    → AllByRecursion (λ n. nat_eq k n ≡ false) (map (λ p. p.output) (with_output outputs o))
differ-set k [] o new all = (new, tt)
differ-set k (p ∷ outputs) o new all = by (nat_eq p.output o.output) (differ-set k outputs o new all.1)
  where
    by : (b : Bool) → AllByRecursion (λ n. nat_eq k n ≡ false) (map (λ p. p.output) (with_output outputs o))
        → AllByRecursion (λ n. nat_eq k n ≡ false)
        (map (λ p. p.output) (cond b (o ∷ outputs) (p ∷ with_output outputs o)))
    by true rest = (new, all.1)
    by false rest = (all.0, rest)

distinct-set : (outputs : List OutputModel) (o : OutputModel)
    → IsDistinct nat_eq (map (λ p. p.output) outputs)
    → IsDistinct nat_eq (map (λ p. p.output) (with_output outputs o))
unfolding IsDistinct
distinct-set [] o distinct = (tt, tt)
distinct-set (p ∷ outputs) o distinct = by (eqb_tells p.output o.output) (distinct-set outputs o distinct.1)
  where
    by : ((nat_eq p.output o.output ≡ true) × (p.output ≡ o.output))
        ⊎ ((nat_eq p.output o.output ≡ false) × (p.output ≢ o.output))
        → IsDistinct nat_eq (map (λ p. p.output) (with_output outputs o))
        → IsDistinct nat_eq (map (λ p. p.output) (with_output (p ∷ outputs) o))
    by (inl is) rest = subst (λ b. IsDistinct nat_eq
        (map (λ p. p.output) (cond b (o ∷ outputs) (p ∷ with_output outputs o)))) (sym is.0) (
          subst (λ k. AllByRecursion (λ n. nat_eq k n ≡ false) (map (λ p. p.output) outputs)) is.1 distinct.0,
          distinct.1,
        )
    by (inr is) rest = subst (λ b. IsDistinct nat_eq
        (map (λ p. p.output) (cond b (o ∷ outputs) (p ∷ with_output outputs o)))) (sym is.0)
        (differ-set p.output outputs o is.0 distinct.0, rest)

once : (records : List LogRecord) (outputs : List OutputModel)
    → IsDistinct nat_eq (map (λ p. p.output) outputs)
    → IsDistinct nat_eq (map (λ p. p.output) (fold with_dependencies outputs records))
once [] outputs distinct = distinct
once (path padded complement ∷ records) outputs distinct = once records outputs distinct
once (dependencies o l h ns ∷ records) outputs distinct =
    once records (with_output outputs (record { output = o; time = l + 2 ^ 32 * h; inputs = ns }))
    (distinct-set outputs (record { output = o; time = l + 2 ^ 32 * h; inputs = ns }) distinct)

pub each_once : (records : List LogRecord) → IsDistinct nat_eq (map (λ p. p.output) (outputs_of records))
unfolding IsDistinct
each_once records = once records [] tt
