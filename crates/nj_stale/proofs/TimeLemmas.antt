-- Two states of a build, where some files have other times.
use Rattle.std.proofs.Common.{◌≡◌, ℕ, ◌<◌, Option, Some, None, List, length, sym, ap, ap₂, ◌∙◌}
use Rattle.std.specs.Prelude.{Contains, unwrap_or, is_some, not, ◌&&◌, ◌==◌, if◌then◌else◌}
use Rattle.std.specs.Option.{option_or}
use Rattle.nj_edges.specs.Edges.{edge_at, inputs_of, outputs_of, counted_inputs_of, maker_of}
use Rattle.nj_build_log.specs.Logs.{entry_of}
use Rattle.nj_stale.specs.States.{Evidence, State, IsStateOf, facts_at, is_stale_by, is_stale_file}
use Rattle.nj_stale.specs.States.{newest_input, lent_time, first_reason, by_discovery, by_input, by_missing}
use Rattle.nj_stale.specs.States.{by_output, by_files}
use Rattle.nj_stale.specs.Needed.{with_times}
use Rattle.nj_stale.specs.declared.evidence.EdgeFacts.{EdgeFacts}
use Rattle.nj_stale.specs.declared.reason.Reason.{Reason}
use Rattle.nj_stale.specs.declared.reason.Reason.TheVariants.{StaleInput, MissingOutput}
use Rattle.nj_stale.proofs.StateLemmas.{reasons_agree, newest_agree}
use Rattle.nj_stale.proofs.PathLemmas.{contained, maker_has}

-- both states agree on a file, or on an edge and the files that it makes
pub record Alike (known : Evidence) (time : List ℕ → ℕ) (s t : State) (path : List ℕ) : Type 0 where
  pub stale : is_stale_file (with_times known time) t path ≡ is_stale_file known s path
  pub time_is : t.time path ≡ s.time path

pub record AlikeEdge (known : Evidence) (s t : State) (edge : ℕ) : Type 0 where
  pub reason : t.reason edge ≡ s.reason edge
  pub times : (path : List ℕ) → maker_of known.edges path ≡ Some edge → t.time path ≡ s.time path

module _ (known : Evidence) (time : List ℕ → ℕ) (s t : State) (of_s : IsStateOf known s)
    (of_t : IsStateOf (with_times known time) t) where
  pub alike_source : (path : List ℕ) → maker_of known.edges path ≡ None → time path ≡ known.disk_time path
      → Alike known time s t path
  alike_source path none same = record {
    stale = ap (λ m. is_stale_by m (with_times known time) t path) none ∙ ap (λ n. n == 0) same
        ∙ sym (ap (λ m. is_stale_by m known s path) none);
    time_is = of_t.source path none ∙ same ∙ sym (of_s.source path none);
  }

  pub alike_made : (path : List ℕ) (maker : ℕ) → maker_of known.edges path ≡ Some maker
      → AlikeEdge known s t maker → Alike known time s t path
  alike_made path maker made alike = record {
    stale = ap (λ m. is_stale_by m (with_times known time) t path) made ∙ ap is_some alike.reason
        ∙ sym (ap (λ m. is_stale_by m known s path) made);
    time_is = alike.times path made;
  }

  module _ (edge : ℕ) (lt : edge < length known.edges)
      (disk : (path : List ℕ) → Contains (outputs_of (edge_at known.edges edge)) path
      → time path ≡ known.disk_time path)
      (same : (path : List ℕ) → Contains (counted_inputs_of (edge_at known.edges edge)) path
      → Alike known time s t path) where
    same_newest : newest_input t (edge_at known.edges edge) ≡ newest_input s (edge_at known.edges edge)
    same_newest =
        newest_agree t.time s.time (counted_inputs_of (edge_at known.edges edge))
        (λ path c. (same path c).time_is)

    alike_files : (facts : EdgeFacts) (newest : Option ℕ)
        → by_files (with_times known time) facts newest (edge_at known.edges edge)
        ≡ by_files known facts newest (edge_at known.edges edge)
    alike_files facts newest =
        let e = edge_at known.edges edge in
        ap₂ (λ (a b : Option Reason). if e.is_phony then a else b)
        (ap (λ (r : Option Reason). if length (inputs_of e) == 0 then r else None)
        (reasons_agree (by_missing (with_times known time)) (by_missing known) 0 (outputs_of e)
        (λ path place c. ap (λ d. if d == 0 then Some (MissingOutput place) else None) (disk path c))))
        (reasons_agree (λ path place. by_output facts newest (time path) (entry_of known.lines path) place)
        (λ path place. by_output facts newest (known.disk_time path) (entry_of known.lines path) place) 0
        (outputs_of e)
        (λ path place c. ap (λ d. by_output facts newest d (entry_of known.lines path) place) (disk path c)))

    alike_reason : t.reason edge ≡ s.reason edge
    alike_reason =
        let paths = edge_at known.edges edge in
        let facts = facts_at known edge in
        let counted = counted_inputs_of paths in
        of_t.edge edge lt
        ∙ ap₂ (λ (r : Option Reason) (n : Option ℕ).
        option_or (by_discovery facts) (option_or r (by_files (with_times known time) facts n paths)))
        (reasons_agree (by_input (with_times known time) t) (by_input known s) 0 counted
        (λ path place c. ap (λ b. if b then Some (StaleInput place) else None) (same path c).stale))
        same_newest
        ∙ ap (λ r. option_or (by_discovery facts) (option_or (first_reason (by_input known s) 0 counted) r))
        (alike_files facts (newest_input s paths))
        ∙ sym (of_s.edge edge lt)

    pub alike_edge : AlikeEdge known s t edge
    alike_edge =
        let paths = edge_at known.edges edge in
        record {
          reason = alike_reason;
          times = λ path made. of_t.output path edge made
              ∙ ap (λ d. if d == 0 then lent_time t paths edge else d)
              (disk path (contained (outputs_of paths) path (maker_has known.edges path edge made)))
              ∙ ap₂ (λ (r : Option Reason) (n : Option ℕ). if known.disk_time path == 0
              then (if paths.is_phony && not (is_some r) then unwrap_or n 0 else 0) else known.disk_time path)
              alike_reason same_newest
              ∙ sym (of_s.output path edge made);
        }
