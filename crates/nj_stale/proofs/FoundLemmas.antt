-- The edges of an order, one after the other.
use Rattle.std.proofs.Common.{◌≡◌, ◌≢◌, ℕ, ◌<◌, ◌≤◌, ◌+◌, Bool, false, Option, Some, None, inl, inr}
use Rattle.std.proofs.Common.{List, [], ◌++◌, length, map, set, take, drop, refl, sym, ap, ap₂, ◌∙◌, subst}
use Rattle.std.proofs.Common.{arith}
use Rattle.std.specs.Prelude.{slice_index, slice_index_or, bytes_eq, if◌then◌else◌, ◌==◌, unwrap_or}
use Rattle.std.specs.List.{IsDistinct}
use Rattle.std.specs.Option.{option_or}
use Rattle.std.proofs.lemmas.Bool.{cases_lt}
use Rattle.std.proofs.lemmas.List.{get_or-set_same, get_or-set_other, get_or_default, get_or-map, length-set}
use Rattle.std.proofs.lemmas.List.{drop_all, take_all}
use Rattle.std.proofs.lemmas.List.{append-nil}
use Rattle.std.proofs.lemmas.Option.{slice_get-get_or}
use Rattle.nj_names.specs.Files.{AreFiles, path_at}
use Rattle.nj_names.specs.declared.files.FileNo.{FileNo}
use Rattle.nj_edges.specs.EdgeGraphs.{EdgeGraph}
use Rattle.nj_edges.specs.declared.edges.EdgeNo.{EdgeNo}
use Rattle.nj_edges.specs.Edges.{EdgePaths, edge_at, counted_inputs_of, outputs_of, maker_of}
use Rattle.nj_build_log.specs.Logs.{LineModel, entry_of}
use Rattle.nj_stale.specs.States.{Evidence, State, IsStateOf, is_stale_by, newest, newest_input, lent_time}
use Rattle.nj_stale.specs.States.{first_reason, by_input, by_missing, by_output, by_discovery, by_outputs}
use Rattle.nj_stale.specs.States.{by_files, facts_at, first_with, newest_place, reason_of}
use Rattle.nj_stale.specs.Numbered.{time_of, evidence_of, AreFound, AreLentBy, AreReasonsOf}
use Rattle.nj_stale.specs.Numbered.{IsMakersFirst}
use Rattle.nj_stale.specs.Inside.Held.{time_by, time_held, is_stale_held_by, input_held, missing_held}
use Rattle.nj_stale.specs.Inside.Held.{output_held, lent_by, state_held, IsFound, IsNext}
use Rattle.nj_stale.specs.declared.evidence.EdgeFacts.{EdgeFacts}
use Rattle.nj_stale.specs.declared.reason.Reason.{Reason}
use Rattle.nj_stale.specs.declared.reason.Reason.TheVariants.{StaleInput, MissingOutput}
use Rattle.nj_stale.proofs.FileLemmas.{first_by_path, reasons_by_path, newest_by_path, time_at}
use Rattle.nj_stale.proofs.StateLemmas.{SameEdge, SameInputs, maker_within, same_inputs, same_reason}
use Rattle.nj_stale.proofs.StateLemmas.{same_newest}

-- ---- what is asked of files

module _ (g : EdgeGraph) (times : List ℕ) (distinct : IsDistinct bytes_eq g.files)
    (count : length times ≡ length g.files) where
  disk : (file : FileNo) → file.0 < length g.files
      → slice_index times file.0 ≡ time_of g.files times (path_at g.files file)
  disk file lt = sym (time_at g.files times file.0 distinct count lt)

  pub outputs_by_path : (lines : List LineModel) (facts : EdgeFacts) (newest : Option ℕ)
      (numbers : List FileNo)
      (edge : EdgePaths) → AreFiles g.files numbers (outputs_of edge)
      → first_reason (output_held g times lines facts newest) 0 numbers
      ≡ by_outputs (evidence_of g [] times lines) facts newest edge
  outputs_by_path lines facts newest numbers edge are =
      reasons_by_path g.files (output_held g times lines facts newest)
      (λ path place. by_output facts newest (time_of g.files times path) (entry_of lines path) place)
      (λ file place lt. ap (λ t. by_output facts newest t (entry_of lines (path_at g.files file)) place)
      (disk file lt))
      numbers (outputs_of edge) 0 are

  pub missing_by_path : (lines : List LineModel) (numbers : List FileNo) (paths : List (List ℕ))
      → AreFiles g.files numbers paths
      → first_reason (missing_held times) 0 numbers
      ≡ first_reason (by_missing (evidence_of g [] times lines)) 0 paths
  missing_by_path lines numbers paths are =
      reasons_by_path g.files (missing_held times) (by_missing (evidence_of g [] times lines))
      (λ file place lt. ap (λ t. if t == 0 then Some (MissingOutput place) else None) (disk file lt))
      numbers paths 0 are

  stale_alike : (facts : List EdgeFacts) (lines : List LineModel) (reasons : List (Option Reason))
      (lent : List ℕ)
      (path : List ℕ) (m : Option ℕ)
      → is_stale_held_by m (time_of g.files times path) reasons
      ≡ is_stale_by m (evidence_of g facts times lines) (state_held g times reasons lent) path
  stale_alike facts lines reasons lent path None = refl
  stale_alike facts lines reasons lent path (Some edge) = refl

  pub inputs_by_path : (facts : List EdgeFacts) (lines : List LineModel) (reasons : List (Option Reason))
      (lent : List ℕ) (numbers : List FileNo) (paths : List (List ℕ)) → AreFiles g.files numbers paths
      → first_reason (input_held g times reasons) 0 numbers
      ≡ first_reason (by_input (evidence_of g facts times lines) (state_held g times reasons lent)) 0 paths
  inputs_by_path facts lines reasons lent numbers paths are =
      reasons_by_path g.files (input_held g times reasons)
      (by_input (evidence_of g facts times lines) (state_held g times reasons lent))
      (λ file place lt. ap (λ b. if b then Some (StaleInput place) else None)
      (ap (λ t. is_stale_held_by (maker_of g.edges (path_at g.files file)) t reasons) (disk file lt)
      ∙ stale_alike facts lines reasons lent (path_at g.files file)
      (maker_of g.edges (path_at g.files file))))
      numbers paths 0 are

  pub newest_held : (reasons : List (Option Reason)) (lent : List ℕ) (numbers : List FileNo)
      (edge : EdgePaths)
      → AreFiles g.files numbers (counted_inputs_of edge)
      → newest (time_held g times lent) numbers ≡ newest_input (state_held g times reasons lent) edge
  newest_held reasons lent numbers edge are =
      newest_by_path g.files (time_held g times lent)
      (λ path. time_by (maker_of g.edges path) (time_of g.files times path) lent)
      (λ file lt. ap (λ t. time_by (maker_of g.edges (path_at g.files file)) t lent) (disk file lt))
      numbers (counted_inputs_of edge) are

  -- the reason of an edge, by what it discovers, its inputs and its outputs
  pub reason_held : (facts : List EdgeFacts) (lines : List LineModel) (reasons : List (Option Reason))
      (lent : List ℕ) (edge : ℕ) (own : EdgeFacts) (newest : Option ℕ) (numbers : List FileNo)
      (first second third : Option Reason)
      → edge < length facts → own ≡ slice_index_or facts edge own
      → AreFiles g.files numbers (counted_inputs_of (edge_at g.edges edge))
      → first ≡ by_discovery own → second ≡ first_reason (input_held g times reasons) 0 numbers
      → third ≡ by_files (evidence_of g [] times lines) own newest (edge_at g.edges edge)
      → newest ≡ newest_input (state_held g times reasons lent) (edge_at g.edges edge)
      → option_or first (option_or second third)
      ≡ reason_of (evidence_of g facts times lines) (state_held g times reasons lent) edge
  reason_held facts lines reasons lent edge own newest numbers first second third within own_is are a b c d =
      let paths = edge_at g.edges edge in
      let known = evidence_of g facts times lines in
      let s = state_held g times reasons lent in
      let same : own ≡ facts_at known edge =
      own_is ∙ get_or_default facts edge own (record {
        is_unknown = false;
        restat = false;
        generator = false;
        command_hash = 0;
      }) within in
      ap₂ option_or a (ap₂ option_or (b ∙ inputs_by_path facts lines reasons lent numbers
      (counted_inputs_of paths) are)
      (c ∙ ap (λ n. by_files known own n paths) d))
      ∙ ap (λ f. option_or (by_discovery f)
      (option_or (first_reason (by_input known s) 0 (counted_inputs_of paths))
      (by_files known f (newest_input s paths) paths))) same

-- ---- turns

same_or_other : {P : Type 0} (j e : ℕ) → (j ≡ e → P) → (j ≢ e → P) → P
same_or_other j e same other = elim (cases_lt j e) [
  | inl below ↦ other (λ is. absurd (omega arith))
  | inr least ↦ elim (cases_lt e j) [
    | inl above ↦ other (λ is. absurd (omega arith))
    | inr most ↦ same (omega arith)
  ]
]

module _ (g : EdgeGraph) (facts : List EdgeFacts) (times : List ℕ) (lines : List LineModel) (order : List ℕ)
    (turn : ℕ) (reasons : List (Option Reason)) (lent : List ℕ) (first : IsMakersFirst g.edges order)
    (within : turn < length order) (found : IsFound (evidence_of g facts times lines) order turn reasons lent)
  where
    -- what was found for an earlier edge agrees with each state
    earlier_edge : (s : State) → IsStateOf (evidence_of g facts times lines) s → (k maker : ℕ) → k < turn
        → slice_index order k ≡ maker
        → SameEdge (evidence_of g facts times lines) (state_held g times reasons lent) s maker
    earlier_edge s of_s k maker before is = record {
      reason = subst (λ e. slice_index_or reasons e None ≡ s.reason e) is
          (found.reason_of_each s of_s k before);
      times = λ path made.
          let lends : slice_index lent maker ≡ lent_time s (edge_at g.edges maker) maker =
          subst (λ e. slice_index lent e ≡ lent_time s (edge_at g.edges e) e) is
          (found.lent_by_each s of_s k before) in
          ap (λ m. time_by m (time_of g.files times path) lent) made
          ∙ ap (λ n. if time_of g.files times path == 0 then n else time_of g.files times path) lends
          ∙ sym (of_s.output path maker made);
    }

    inputs_alike : (s : State) → IsStateOf (evidence_of g facts times lines) s
        → SameInputs (evidence_of g facts times lines) (state_held g times reasons lent) s
        (slice_index order turn)
    inputs_alike s of_s =
        same_inputs (evidence_of g facts times lines) (state_held g times reasons lent) s
        (slice_index order turn)
        (λ path none. ap (λ m. time_by m (time_of g.files times path) lent) none
        ∙ sym (of_s.source path none))
        (λ path maker c made. let k = first.first turn maker path within c made in
        earlier_edge s of_s k.0 maker k.1 k.2)

    module _ (reason : Option Reason) (lends : ℕ)
        (reason_is : reason ≡ reason_of (evidence_of g facts times lines) (state_held g times reasons lent)
        (slice_index order turn)) (lends_is : lends
        ≡ lent_by (edge_at g.edges (slice_index order turn)).is_phony reason
        (newest_input (state_held g times reasons lent) (edge_at g.edges (slice_index order turn)))) where
      right_reason : (s : State) → IsStateOf (evidence_of g facts times lines) s
          → reason ≡ s.reason (slice_index order turn)
      right_reason s of_s =
          reason_is
          ∙ same_reason (evidence_of g facts times lines) (state_held g times reasons lent) s
          (slice_index order turn)
          (inputs_alike s of_s)
          ∙ sym (of_s.edge (slice_index order turn) (first.within turn within))

      right_time : (s : State) → IsStateOf (evidence_of g facts times lines) s
          → lends ≡ lent_time s (edge_at g.edges (slice_index order turn)) (slice_index order turn)
      right_time s of_s =
          let phony = (edge_at g.edges (slice_index order turn)).is_phony in
          lends_is
          ∙ ap₂ (lent_by phony) (right_reason s of_s)
          (same_newest (evidence_of g facts times lines) (state_held g times reasons lent) s
          (slice_index order turn)
          (inputs_alike s of_s))

      pub next_found : IsFound (evidence_of g facts times lines) order (turn + 1)
          (set reasons (slice_index order turn) reason)
          (set lent (slice_index order turn) lends)
      next_found = record {
        reason_count = length-set reasons (slice_index order turn) reason ∙ found.reason_count;
        lent_count = length-set lent (slice_index order turn) lends ∙ found.lent_count;
        reason_of_each = λ s of_s k before.
            same_or_other (slice_index order k) (slice_index order turn)
            (λ is. ap (λ e. slice_index_or (set reasons (slice_index order turn) reason) e None) is
            ∙ get_or-set_same reasons (slice_index order turn) reason None (within_reasons)
            ∙ right_reason s of_s ∙ ap s.reason (sym is))
            (λ differs. get_or-set_other reasons (slice_index order turn) (slice_index order k) reason None
            differs
            ∙ found.reason_of_each s of_s k (earlier k before differs));
        lent_by_each = λ s of_s k before.
            same_or_other (slice_index order k) (slice_index order turn)
            (λ is. ap (λ e. slice_index (set lent (slice_index order turn) lends) e) is
            ∙ get_or-set_same lent (slice_index order turn) lends 0 (within_lent)
            ∙ right_time s of_s ∙ ap (λ e. lent_time s (edge_at g.edges e) e) (sym is))
            (λ differs. get_or-set_other lent (slice_index order turn) (slice_index order k) lends 0 differs
            ∙ found.lent_by_each s of_s k (earlier k before differs));
      }
        where
          within_reasons : slice_index order turn < length reasons
          within_reasons = let lt = first.within turn within in let n = found.reason_count in omega arith

          within_lent : slice_index order turn < length lent
          within_lent = let lt = first.within turn within in let n = found.lent_count in omega arith

          earlier : (k : ℕ) → k < turn + 1 → slice_index order k ≢ slice_index order turn → k < turn
          earlier k before differs = elim (cases_lt k turn) [
            | inl lt ↦ lt
            | inr ge ↦ absurd (differs (ap (slice_index order) (let e : k ≡ turn = omega arith in e)))
          ]

pub judged : (g : EdgeGraph) (facts : List EdgeFacts) (times : List ℕ) (lines : List LineModel)
    (reasons : List (Option Reason)) (lent : List ℕ) (edge : ℕ) (reason : Option Reason) (lends : ℕ)
    (newest : Option ℕ) (phony : Bool)
    → newest ≡ newest_input (state_held g times reasons lent) (edge_at g.edges edge)
    → reason ≡ reason_of (evidence_of g facts times lines) (state_held g times reasons lent) edge
    → phony ≡ (edge_at g.edges edge).is_phony → lends ≡ lent_by phony reason newest
    → (order : List ℕ) (turn : ℕ) → IsNext g.edges order turn edge
    → IsFound (evidence_of g facts times lines) order turn reasons lent
    → IsFound (evidence_of g facts times lines) order (turn + 1) (set reasons edge reason)
    (set lent edge lends)
judged g facts times lines reasons lent edge reason lends newest phony a b c d order turn is_next found =
    let known = evidence_of g facts times lines in
    let held = state_held g times reasons lent in
    let lends_is : lends ≡ lent_by (edge_at g.edges edge).is_phony reason
    (newest_input held (edge_at g.edges edge)) =
    d ∙ ap₂ (λ (p : Bool) (n : Option ℕ). lent_by p reason n) c a in
    subst (λ e. IsFound known order (turn + 1) (set reasons e reason) (set lent e lends))
    (sym is_next.edge_is)
    (next_found g facts times lines order turn reasons lent is_next.order_is is_next.within found reason lends
    (subst (λ e. reason ≡ reason_of known held e) is_next.edge_is b)
    (subst (λ e. lends ≡ lent_by (edge_at g.edges e).is_phony reason (newest_input held (edge_at g.edges e)))
    is_next.edge_is lends_is))

-- the numbers of an order
pub number_at : (order : List EdgeNo) (turn : ℕ) (d : EdgeNo) → turn < length order
    → (slice_index_or order turn d).0 ≡ slice_index (map (λ edge. edge.0) order) turn
number_at order turn d within = sym (get_or-map (λ (edge : EdgeNo). edge.0) order turn d 0 within)

-- a slice of a whole vector, written back
pub written_back : {A : Type 0} (new old : List A) (n : ℕ) → length old ≡ length new → n ≡ length old
    → take n (new ++ drop (length new) old) ≡ new
written_back new old n same is =
    ap (λ rest. take n (new ++ rest)) (drop_all (length new) old (omega arith))
    ∙ ap (take n) (append-nil new) ∙ take_all n new (omega arith)

pub none_found : (known : Evidence) (order : List ℕ) (reasons : List (Option Reason)) (lent : List ℕ)
    → length reasons ≡ length known.edges → length lent ≡ length known.edges
    → IsFound known order 0 reasons lent
none_found known order reasons lent a b = record {
  reason_count = a;
  lent_count = b;
  reason_of_each = λ s of_s k before. absurd (omega arith);
  lent_by_each = λ s of_s k before. absurd (omega arith);
}

pub all_found : (known : Evidence) (order : List ℕ) (turn : ℕ) (reasons : List (Option Reason))
    (lent : List ℕ)
    → length order ≤ turn → ((k : ℕ) → k < length order → slice_index order k < length known.edges)
    → IsFound known order turn reasons lent → AreReasonsOf known order reasons
all_found known order turn reasons lent end within found = λ s of_s k lt.
    let there = within k lt in
    let n = found.reason_count in
    slice_get-get_or reasons (slice_index order k) None (omega arith)
    ∙ ap Some (found.reason_of_each s of_s k (omega arith))

-- so is what is found of all edges of an order
pub found_all : (known : Evidence) (order : List ℕ) (turn : ℕ) (reasons : List (Option Reason))
    (lent : List ℕ)
    → length order ≤ turn → ((k : ℕ) → k < length order → slice_index order k < length known.edges)
    → IsFound known order turn reasons lent → AreFound known order reasons lent
found_all known order turn reasons lent end within found = record {
  reasons_are = all_found known order turn reasons lent end within found;
  lent_count = found.lent_count;
  lent_are = λ s of_s k lt. found.lent_by_each s of_s k (omega arith);
}

-- ---- the newest input

module _ (g : EdgeGraph) (times : List ℕ) (distinct : IsDistinct bytes_eq g.files)
    (count : length times ≡ length g.files) (facts : List EdgeFacts) (lines : List LineModel) (s : State)
    (of_s : IsStateOf (evidence_of g facts times lines) s) (lent : List ℕ) (lends : AreLentBy g.edges s lent)
  where
    -- the time that is held for a file is that of the state
    held_time : (file : FileNo) → file.0 < length g.files
        → time_held g times lent file ≡ s.time (path_at g.files file)
    held_time file lt =
        ap (λ t. time_by (maker_of g.edges path) t lent) (disk g times distinct count file lt)
        ∙ by (maker_of g.edges path) refl
      where
        path : List ℕ
        path = path_at g.files file

        by : (m : Option ℕ) → maker_of g.edges path ≡ m
            → time_by m (time_of g.files times path) lent ≡ s.time path
        by None none = sym (of_s.source path none)
        by (Some maker) made =
            ap (λ n. if time_of g.files times path == 0 then n else time_of g.files times path)
            (lends maker (maker_within g.edges path maker made))
            ∙ sym (of_s.output path maker made)

    pub newest_by_state : (numbers : List FileNo) (edge : EdgePaths)
        → AreFiles g.files numbers (counted_inputs_of edge) → (wanted : ℕ)
        → wanted ≡ unwrap_or (newest (time_held g times lent) numbers) 0
        → first_with (time_held g times lent) wanted 0 numbers ≡ newest_place s edge
    newest_by_state numbers edge are wanted is =
        first_by_path g.files (time_held g times lent) s.time held_time wanted numbers
        (counted_inputs_of edge) 0 are
        ∙ ap (λ w. first_with s.time w 0 (counted_inputs_of edge))
        (is ∙ ap (λ (n : Option ℕ). unwrap_or n 0)
        (newest_by_path g.files (time_held g times lent) s.time held_time numbers (counted_inputs_of edge)
        are))
