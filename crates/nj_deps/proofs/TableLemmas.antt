-- Lemmas on the table of records, one after another.
use Rattle.std.proofs.lemmas.Grind.{common_steps}
use Rattle.std.proofs.Common.{◌≡◌, ◌≢◌, ◌⊎◌, inl, inr, ◌<◌, ◌≤◌, ◌+◌, ◌*◌, ◌^◌, ◌%◌, ℕ, Bool, true, false}
use Rattle.std.proofs.Common.{List, [], ◌∷◌, ◌++◌, length, nat_eq, true≢false, refl, sym, ap, subst, ◌∙◌}
use Rattle.std.proofs.Common.{arith, append_assoc, length-append}
use Rattle.std.specs.List.{AllByRecursion, flat_map, fold}
use Rattle.std.proofs.lemmas.List.{append-nil}
use Rattle.std.proofs.lemmas.List.Concat.{flat_map-append}
use Rattle.std.proofs.lemmas.List.Sums.{fold-append}
use Rattle.nj_deps.specs.LogRecords.{LogRecord, word, words, bytes_of, path_in, Counts, IsNext, MayBeNamed}
use Rattle.nj_deps.specs.LogRecords.LogRecord.{path, dependencies}
use Rattle.nj_deps.specs.Logs.{with_path, with_output, with_dependencies, paths_of, CountInTurn, EndsBefore}
use Rattle.nj_deps.specs.Logs.{IsLogOf, opening}
use Rattle.nj_deps.specs.Inside.RecordsRead.{IsTimed, IsFramed, TableModel, IsContent, Adds, AddsAs, AddsPath}
use Rattle.nj_deps.specs.Inside.RecordsRead.{TakesRecord, TakesNone, IsRead}
use Rattle.nj_deps.specs.Inside.OutputsHeld.{OutputsModel, Keeps}
use Rattle.nj_deps.proofs.WordLemmas.{apart, apart_last, length-word, length-words, word_is}
use Rattle.nj_deps.proofs.RecordLemmas.{none-framed, some-framed}

-- ---- a path

pub path_record : (paths : List (List ℕ)) (padded : List ℕ) (complement : ℕ) (content : List ℕ)
    (r : LogRecord) → complement < 2 ^ 32 → content ≡ padded ++ word complement
    → IsContent 0 content r → Counts paths r → IsNext paths (path_in padded) complement
path_record paths padded complement content (path p c) small cut is counts =
    let both = apart_last p padded (word c) (word complement) (length-word c ∙ sym (length-word complement))
    (is.same ∙ cut) in
    let number = counts.fits.number in
    let complements : c ≡ complement = word_is c complement (omega arith) small both.1 in
    subst (λ q. IsNext paths (path_in q) complement) both.0
    (subst (λ k. IsNext paths (path_in p) k) complements counts.fits)
path_record paths padded complement content (dependencies o l h ns) small cut is counts = grind arith

pub no_path_record : (paths : List (List ℕ)) (content : List ℕ) (r : LogRecord) → length content < 4
    → IsContent 0 content r → Counts paths r → ⊥
no_path_record paths content r short is counts = grind (arith, length, length-append, length-word)

-- ---- dependencies

pub record AreDependencies (paths : List (List ℕ)) (output : ℕ) (bytes : List ℕ) : Type 0 where
  pub inputs : List ℕ
  pub cut : bytes ≡ words inputs
  pub output_known : output < length paths
  pub inputs_known : AllByRecursion (λ n. n < length paths) inputs

pub dependencies_record : (paths : List (List ℕ)) (output time : ℕ) (bytes content : List ℕ) (r : LogRecord)
    → length paths ≤ 2 ^ 32 → output < 2 ^ 32 → IsTimed content output time bytes
    → IsContent (2 ^ 31) content r → Counts paths r → AreDependencies paths output bytes
dependencies_record paths output time bytes content (path p c) few small timed is counts = grind arith
dependencies_record paths output time bytes content (dependencies o l h ns) few small timed is counts =
    let cut : word o ++ (word l ++ (word h ++ words ns))
    ≡ word output ++ (word timed.low ++ (word timed.high ++ bytes)) = is.same ∙ timed.cut in
    let fits = counts.fits in
    let below : o < length paths = fits.output_known in
    let first = apart (word o) (word output) (word l ++ (word h ++ words ns))
    (word timed.low ++ (word timed.high ++ bytes)) (length-word o ∙ sym (length-word output)) cut in
    let second = apart (word l) (word timed.low) (word h ++ words ns) (word timed.high ++ bytes)
    (length-word l ∙ sym (length-word timed.low)) first.1 in
    let third = apart (word h) (word timed.high) (words ns) bytes
    (length-word h ∙ sym (length-word timed.high)) second.1 in
    let outputs : o ≡ output = word_is o output (omega arith) small first.0 in
    record {
      inputs = ns;
      cut = sym third.1;
      output_known = subst (λ k. k < length paths) outputs below;
      inputs_known = fits.inputs_known;
    }

-- content that is not a list of at least three numbers
pub no_dependencies : (paths : List (List ℕ)) (content : List ℕ) (r : LogRecord)
    → (length content % 4 ≢ 0) ⊎ (length content < 12) → IsContent (2 ^ 31) content r → Counts paths r → ⊥
no_dependencies paths content (path p c) odd is counts = let kind = is.kind in omega arith
no_dependencies paths content (dependencies o l h ns) odd is counts = by odd
  where
    size : length content ≡ 4 * (3 + length ns)
    size = sym (ap length is.same) ∙ length-words (o ∷ l ∷ h ∷ ns) ∙ (omega arith)

    by : (length content % 4 ≢ 0) ⊎ (length content < 12) → ⊥
    by (inl other) = other (let s = size in omega arith)
    by (inr short) = let s = size in omega arith

pub dependencies-content : (output time : ℕ) (content bytes inputs : List ℕ)
    (timed : IsTimed content output time bytes) → bytes ≡ words inputs
    → IsContent (2 ^ 31) content (dependencies output timed.low timed.high inputs)
dependencies-content output time content bytes inputs timed cut = grind arith

-- ---- many

pub none-taken : (bytes : List ℕ) → IsRead bytes bytes (record { paths = []; outputs = [] })
none-taken bytes = record { records = []; cut = refl; in_turn = tt; paths = refl; outputs = refl }

in-turn-more : (paths : List (List ℕ)) (rs : List LogRecord) (r : LogRecord) → CountInTurn paths rs
    → Counts (fold with_path paths rs) r → CountInTurn paths (rs ++ r ∷ [])
in-turn-more paths [] r in_turn counts = (counts, tt)
in-turn-more paths (s ∷ rs) r in_turn counts =
    (in_turn.0, in-turn-more (with_path paths s) rs r in_turn.1 counts)

pub one-taken : (bytes rest after : List ℕ) (old new : TableModel) → IsRead bytes rest old
    → TakesRecord rest after old new → IsRead bytes after new
one-taken bytes rest after old new so_far taken =
    let r = taken.0 in
    let rs = so_far.records in
    let counts : Counts (paths_of rs) r = subst (λ ps. Counts ps r) so_far.paths taken.1 in
    record {
      records = rs ++ r ∷ [];
      cut = so_far.cut ∙ ap (λ b. flat_map bytes_of rs ++ b) taken.2
          ∙ sym (append_assoc (flat_map bytes_of rs) (bytes_of r) after)
          ∙ ap (λ b. (flat_map bytes_of rs ++ b) ++ after) (sym (append-nil (bytes_of r)))
          ∙ ap (λ b. b ++ after) (sym (flat_map-append bytes_of rs (r ∷ [])));
      in_turn = in-turn-more [] rs r so_far.in_turn counts;
      paths = ap (λ t. t.paths) taken.3 ∙ ap (λ ps. with_path ps r) so_far.paths
          ∙ sym (fold-append with_path [] rs (r ∷ []));
      outputs = ap (λ t. t.outputs) taken.3 ∙ ap (λ os. with_dependencies os r) so_far.outputs
          ∙ sym (fold-append with_dependencies [] rs (r ∷ []));
    }

-- ---- the additions of a content

pub path-adds : (padded : List ℕ) (complement : ℕ) (content : List ℕ) (old new : TableModel)
    → complement < 2 ^ 32 → content ≡ padded ++ word complement → length content ≤ 524287
    → MayBeNamed (path_in padded) → complement + length old.paths + 1 ≡ 2 ^ 32 → (b : Bool)
    → AddsPath (path_in padded) old new b → Adds 0 content old new b
path-adds padded complement content old new small cut size some number true added = (
  path padded complement,
  record { kind = refl; same = sym cut },
  record {
    size = subst (λ c. length c ≤ 524287) cut size;
    fits = record { number = number; may_be_named = some; is_new = added.0 };
  },
  added.1,
)
path-adds padded complement content old new small cut size some number false added = (
  (λ r is counts. true≢false (sym added.0
      ∙ (path_record old.paths padded complement content r small cut is counts).is_new)),
  added.1,
)

pub no-path-adds : (padded : List ℕ) (complement : ℕ) (content : List ℕ) (old : TableModel)
    → complement < 2 ^ 32 → content ≡ padded ++ word complement
    → (MayBeNamed (path_in padded) → complement + length old.paths + 1 ≢ 2 ^ 32)
    → Adds 0 content old old false
no-path-adds padded complement content old small cut other = (
  (λ r is counts. (let next = path_record old.paths padded complement content r small cut is counts in
      other next.may_be_named next.number)),
  refl,
)

pub dependencies-add : (paths : List (List ℕ)) (old new : OutputsModel) (output time : ℕ)
    (bytes content : List ℕ) (timed : IsTimed content output time bytes) → length content ≤ 524287
    → output < 2 ^ 32
    → old.count ≡ length paths → length paths ≤ 2 ^ 32 → (b : Bool) → Keeps output time bytes old new b
    → Adds (2 ^ 31) content (record { paths = paths; outputs = old.outputs })
    (record { paths = paths; outputs = new.outputs }) b
dependencies-add paths old new output time bytes content timed size small count few true kept =
    let inputs = kept.0 in
    let is = dependencies-content output time content bytes inputs timed kept.1 in (
      dependencies output timed.low timed.high inputs,
      is,
      record {
        size = subst (λ c. length c ≤ 524287) (sym is.same) size;
        fits = record {
          output_known = subst (λ n. output < n) count kept.2;
          low_fits = timed.low_fits;
          high_fits = timed.high_fits;
          inputs_known = subst (λ n. AllByRecursion (λ k. k < n) inputs) count kept.3;
        };
      },
      ap (λ (q : OutputsModel). record { paths = paths; outputs = q.outputs }) kept.4
          ∙ ap (λ t. record {
            paths = paths;
            outputs =
                with_output old.outputs (record { output = output; time = t; inputs = inputs });
          }) timed.is_time,
    )
dependencies-add paths old new output time bytes content timed size small count few false kept = (
  (λ r is counts. (
      let d = dependencies_record paths output time bytes content r few small timed is counts in
      kept.0 d.inputs d.cut (subst (λ n. output < n) (sym count) d.output_known)
      (subst (λ n. AllByRecursion (λ k. k < n) d.inputs) (sym count) d.inputs_known)
      )),
  ap (λ (q : OutputsModel). record { paths = paths; outputs = q.outputs }) kept.1,
)

pub timed-words : (content : List ℕ) (output time : ℕ) (bytes : List ℕ) → IsTimed content output time bytes
    → length content % 4 ≡ 0 → length bytes % 4 ≡ 0
timed-words content output time bytes timed whole = grind (arith, length, length-append, length-word)

-- ---- the additions of a record

pub takes : (bytes : List ℕ) (head : ℕ) (content after : List ℕ) (old new : TableModel)
    → IsFramed bytes head content after → AddsAs head content old new true → TakesRecord bytes after old new
takes bytes head content after old new frame added = grind (
  arith,
  some-framed bytes head added.0 content after added.2.0 added.1 frame added.2.1,
)

pub takes-none : (bytes : List ℕ) (head : ℕ) (content after : List ℕ) (old new : TableModel) → head < 2 ^ 32
    → IsFramed bytes head content after → AddsAs head content old new false → TakesNone bytes old new
takes-none bytes head content after old new small frame added =
    (none-framed old.paths bytes head added.0 content after small added.1 frame added.2.0, added.2.1)

-- ---- a whole log

pub log-read : (bytes body rest : List ℕ) (table : TableModel) (size : ℕ) (whole : Bool)
    → bytes ≡ opening 4 ++ body → IsRead body rest table → EndsBefore table.paths rest
    → size + length rest ≡ length bytes → whole ≡ nat_eq (length rest) 0
    → IsLogOf bytes (record { paths = table.paths; outputs = table.outputs; size = size; is_whole = whole })
log-read bytes body rest table size whole line read ends sizes is_whole = grind arith

-- the rest is at most as long as the log
pub rest-within : (bytes body rest : List ℕ) (table : TableModel) → bytes ≡ opening 4 ++ body
    → IsRead body rest table → length rest ≤ length bytes
rest-within bytes body rest table line read = grind (arith, common_steps)
