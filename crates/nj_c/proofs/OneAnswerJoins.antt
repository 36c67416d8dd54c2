-- Two sessions after the same deps log was joined.
use Rattle.std.proofs.Common.{◌≡◌, ◌≢◌, ◌⊎◌, inl, inr, ℕ, List, Option, Some, None, Result, Ok, Err, refl}
use Rattle.std.proofs.Common.{sym, ap, map}
use Rattle.std.proofs.Common.{subst, ◌∙◌}
use Rattle.std.proofs.lemmas.Option.{same_Some}
use Rattle.nj_deps.specs.Logs.{LogModel, IsLogOf}
use Rattle.nj_deps.proofs.LawLemmas.{says_one_thing}
use Rattle.nj_scope.specs.ReadingList.{ReadStatement}
use Rattle.nj_faults.specs.declared.fault.GraphFault.{GraphFault}
use Rattle.nj_faults.specs.Faults.{no_memory}
use Rattle.nj_graph.specs.Graph.{GraphModel, IsGraphOf}
use Rattle.nj_graph.specs.DepsLogs.{inputs_logged, number_logged, with_named, JoinsLog, JoinsNamed}
use Rattle.nj_agreement.specs.Graphs.{SameGraph}
use Rattle.nj_agreement.specs.Memory.{IsGraphOutOfMemory}
use Rattle.nj_agreement.proofs.GraphAnswers.{join-faults, joined-or-none, same-graph}
use Rattle.nj_c.specs.declared.session_state.Kept.{Kept}
use Rattle.nj_c.specs.declared.status.Status.{Status}
use Rattle.nj_c.specs.declared.status.Status.TheVariants.{Done, Nothing, Short, Fault, Wanted, NotLoaded}
use Rattle.nj_c.specs.declared.status.Status.TheVariants.{BadNumber, BadMark, NotUtf8, NotOpen, OutOfMemory}
use Rattle.nj_c.specs.declared.status.Status.TheVariants.{BadLog}
use Rattle.nj_c.specs.JoinedLogs.{read_of, IsNoLog, JoinsDeps, JoinsToGraph}
use Rattle.nj_c.specs.OneAnswer.{Equal, SameContents}
use Rattle.nj_c.specs.SuppliedFiles.{supplied_for}
use Rattle.nj_c.proofs.OneAnswerChanges.{both-none, both-some, parts-agree, unchanged-contents}
use Rattle.nj_c.proofs.OneAnswerUndeclared.{log-or-none}

-- ---- faults

-- one fault, as memory lacked for neither
pub one-fault : (named : (edge : ℕ) → List (List ℕ)) (stated : List ReadStatement) (one other : GraphFault)
    → one ≢ no_memory → other ≢ no_memory → JoinsNamed named stated (Err one)
    → JoinsNamed named stated (Err other) → one ≡ other
one-fault named stated one other memory memory2 is also =
    by (join-faults named stated one other is also)
  where
    by : (one ≡ other) ⊎ (IsGraphOutOfMemory one ⊎ IsGraphOutOfMemory other) → one ≡ other
    by (inl same) = same
    by (inr (inl lacks)) = absurd (memory lacks)
    by (inr (inr lacks)) = absurd (memory2 lacks)

-- ---- what a call comes to

pub data Comes (g : GraphModel) (kept new : Kept) (bytes : List ℕ) : Status → Type 0 where
  joined : (j : GraphModel) (log : LogModel) → IsLogOf bytes log
      → new ≡ record kept { graph = Some j; log = Some (read_of log) } → j.origins ≡ g.origins
      → JoinsToGraph g log (Ok j) → Comes g kept new bytes Done
  faulty : (fault : GraphFault) (log : LogModel) → IsLogOf bytes log
      → new ≡ record kept { graph = None; fault = Some fault } → fault ≢ no_memory
      → JoinsToGraph g log (Err fault) → Comes g kept new bytes Fault
  no_log : new ≡ kept → IsNoLog bytes → Comes g kept new bytes BadLog

module _ (g : GraphModel) (kept new : Kept) (bytes : List ℕ) (at : kept.graph ≡ Some g) where
  pub comes : (status : Status) → status ≢ OutOfMemory → JoinsDeps kept new bytes status
      → Comes g kept new bytes status
  comes Done memory (h, at2, (j, log, is, left, numbers, joins)) =
      let same : h ≡ g = same_Some h g (sym at2 ∙ at) in
      joined j log is left (numbers.2 ∙ ap (λ (k : GraphModel). k.origins) same)
      (subst (λ k. JoinsToGraph k log (Ok j)) same joins)
  comes Fault memory (h, at2, (fault, log, is, left, other, joins)) =
      faulty fault log is left other
      (subst (λ k. JoinsToGraph k log (Err fault)) (same_Some h g (sym at2 ∙ at)) joins)
  comes NotLoaded memory (none, left) = absurd (let e = sym none ∙ at in cc)
  comes BadLog memory (there, left, none) = no_log left none
  comes OutOfMemory memory is = absurd (memory refl)
  comes Nothing memory is = absurd is
  comes Short memory is = absurd is
  comes Wanted memory is = absurd is
  comes BadNumber memory is = absurd is
  comes BadMark memory is = absurd is
  comes NotUtf8 memory is = absurd is
  comes NotOpen memory is = absurd is

-- ---- two of them

module _ (g : GraphModel) (stated : List ReadStatement) (graph : IsGraphOf g stated) (kept new new2 : Kept)
    (bytes : List ℕ) (at : kept.graph ≡ Some g)
  where
    abbrev Same : Type 0
    Same = SameContents SameGraph Equal new new2

    abbrev named : LogModel → (edge : ℕ) → List (List ℕ)
    named log edge = inputs_logged log (number_logged log stated edge)

    -- what the second log comes to, as of the first
    moved : (log log2 : LogModel) → IsLogOf bytes log → IsLogOf bytes log2
        → (result : Result GraphModel GraphFault) → JoinsToGraph g log2 result → JoinsLog log stated result
    moved log log2 is is2 result joins =
        subst (λ l. JoinsLog l stated result) (says_one_thing bytes log2 log is2 is) (joins stated graph)

    module _ (j j2 : GraphModel) (log log2 : LogModel) (is : IsLogOf bytes log) (is2 : IsLogOf bytes log2)
        (left : new ≡ record kept { graph = Some j; log = Some (read_of log) })
        (left2 : new2 ≡ record kept { graph = Some j2; log = Some (read_of log2) })
      where
        part : {A : Type 0} (of : Kept → A) → of (record kept { graph = Some j; log = Some (read_of log) })
            ≡ of (record kept { graph = Some j2; log = Some (read_of log2) }) → of new ≡ of new2
        part of = parts-agree of new new2 (record kept { graph = Some j; log = Some (read_of log) })
            (record kept { graph = Some j2; log = Some (read_of log2) }) left left2

        both-joined : SameGraph j j2 → Same
        both-joined same = record {
          files = λ path. sym (part (λ (k : Kept). supplied_for k.files path) refl);
          wanted = part (λ (k : Kept). map (λ p. p.items) k.wanted.items) refl;
          graph = both-some SameGraph new.graph new2.graph j j2 (ap (λ (k : Kept). k.graph) left)
              (ap (λ (k : Kept). k.graph) left2) same;
          fault = part (λ (k : Kept). k.fault) refl;
          found = part (λ (k : Kept). map (λ e. e.0) k.found.items) refl;
          mark = part (λ (k : Kept). k.mark.items) refl;
          stale = part (λ (k : Kept). k.stale.items) refl;
          joined = λ _. record {
            log = part (λ (k : Kept). k.log) (ap (λ l. Some (read_of l))
                (says_one_thing bytes log log2 is is2));
            unknown = part (λ (k : Kept). k.unknown.items) refl;
          };
          output = part (λ (k : Kept). k.output.bytes) refl;
          errors = part (λ (k : Kept). k.errors.bytes) refl;
        }

    module _ (fault fault2 : GraphFault) (left : new ≡ record kept { graph = None; fault = Some fault })
        (left2 : new2 ≡ record kept { graph = None; fault = Some fault2 })
      where
        side : {A : Type 0} (of : Kept → A) → of (record kept { graph = None; fault = Some fault })
            ≡ of (record kept { graph = None; fault = Some fault2 }) → of new ≡ of new2
        side of = parts-agree of new new2 (record kept { graph = None; fault = Some fault })
            (record kept { graph = None; fault = Some fault2 }) left left2

        both-faulty : fault ≡ fault2 → Same
        both-faulty same = record {
          files = λ path. sym (side (λ (k : Kept). supplied_for k.files path) refl);
          wanted = side (λ (k : Kept). map (λ p. p.items) k.wanted.items) refl;
          graph = both-none SameGraph new.graph new2.graph (ap (λ (k : Kept). k.graph) left)
              (ap (λ (k : Kept). k.graph) left2);
          fault = side (λ (k : Kept). k.fault) (ap Some same);
          found = side (λ (k : Kept). map (λ e. e.0) k.found.items) refl;
          mark = side (λ (k : Kept). k.mark.items) refl;
          stale = side (λ (k : Kept). k.stale.items) refl;
          joined = λ there. absurd (there (ap (λ (k : Kept). k.graph) left));
          output = side (λ (k : Kept). k.output.bytes) refl;
          errors = side (λ (k : Kept). k.errors.bytes) refl;
        }

    joined-or-faulty : (j : GraphModel) (fault : GraphFault) (log log2 : LogModel) → IsLogOf bytes log
        → IsLogOf bytes log2
        → JoinsToGraph g log (Ok j) → JoinsToGraph g log2 (Err fault) → fault ≢ no_memory → ⊥
    joined-or-faulty j fault log log2 is is2 joins joins2 memory =
        memory (joined-or-none (named log) stated j fault (joins stated graph)
        (moved log log2 is is2 (Err fault) joins2))

    pub joins-agree : (status status2 : Status) → Comes g kept new bytes status
        → Comes g kept new2 bytes status2
        → (status ≡ status2) × SameContents SameGraph Equal new new2
    joins-agree _ _ (joined j log is left from joins) (joined j2 log2 is2 left2 from2 joins2) = (
      refl,
      both-joined j j2 log log2 is is2 left left2 (same-graph j j2 (with_named (named log) stated)
          (joins stated graph) (moved log log2 is is2 (Ok j2) joins2) (from ∙ sym from2)),
    )
    joins-agree _ _ (joined j log is left from joins) (faulty fault log2 is2 left2 memory joins2) =
        absurd (joined-or-faulty j fault log log2 is is2 joins joins2 memory)
    joins-agree _ _ (joined j log is left from joins) (no_log left2 none) =
        absurd (log-or-none bytes log is none)
    joins-agree _ _ (faulty fault log is left memory joins) (joined j log2 is2 left2 from joins2) =
        absurd (joined-or-faulty j fault log2 log is2 is joins2 joins memory)
    joins-agree _ _ (faulty fault log is left memory joins) (faulty fault2 log2 is2 left2 memory2 joins2) = (
      refl,
      both-faulty fault fault2 left left2 (one-fault (named log) stated fault fault2 memory memory2
          (joins stated graph) (moved log log2 is is2 (Err fault2) joins2)),
    )
    joins-agree _ _ (faulty fault log is left memory joins) (no_log left2 none) =
        absurd (log-or-none bytes log is none)
    joins-agree _ _ (no_log left none) (joined j log is left2 from joins) =
        absurd (log-or-none bytes log is none)
    joins-agree _ _ (no_log left none) (faulty fault log is left2 memory joins) =
        absurd (log-or-none bytes log is none)
    joins-agree _ _ (no_log left none) (no_log left2 none2) = (
      refl,
      unchanged-contents SameGraph Equal kept new new2 left left2
          (both-some SameGraph kept.graph kept.graph g g at at (same-graph g g stated graph graph refl)) refl,
    )

-- ---- without a graph

no-graph : (kept new : Kept) (bytes : List ℕ) → kept.graph ≡ None → (status : Status) → status ≢ OutOfMemory
    → JoinsDeps kept new bytes status → (status ≡ NotLoaded) × (new ≡ kept)
no-graph kept new bytes none NotLoaded memory (at, left) = (refl, left)
no-graph kept new bytes none Done memory (g, at, rest) = absurd (let e = sym none ∙ at in cc)
no-graph kept new bytes none Fault memory (g, at, rest) = absurd (let e = sym none ∙ at in cc)
no-graph kept new bytes none BadLog memory (there, left, bad) = absurd (there none)
no-graph kept new bytes none OutOfMemory memory is = absurd (memory refl)
no-graph kept new bytes none Nothing memory is = absurd is
no-graph kept new bytes none Short memory is = absurd is
no-graph kept new bytes none Wanted memory is = absurd is
no-graph kept new bytes none BadNumber memory is = absurd is
no-graph kept new bytes none BadMark memory is = absurd is
no-graph kept new bytes none NotUtf8 memory is = absurd is
no-graph kept new bytes none NotOpen memory is = absurd is

-- two calls without a graph, which are refused alike
pub refused-alike : (kept new new2 : Kept) (status status2 refusal : Status) → kept.graph ≡ None
    → (status ≡ refusal) × (new ≡ kept) → (status2 ≡ refusal) × (new2 ≡ kept)
    → (status ≡ status2) × SameContents SameGraph Equal new new2
refused-alike kept new new2 status status2 refusal none is also = (
  is.0 ∙ sym also.0,
  unchanged-contents SameGraph Equal kept new new2 is.1 also.1
      (both-none SameGraph kept.graph kept.graph none none) refl,
)

pub deps-agree : (bytes : List ℕ) (kept new new2 : Kept)
    → ((g : GraphModel) → kept.graph ≡ Some g → (stated : List ReadStatement) × IsGraphOf g stated)
    → (status status2 : Status) → status ≢ OutOfMemory → status2 ≢ OutOfMemory
    → JoinsDeps kept new bytes status → JoinsDeps kept new2 bytes status2
    → (status ≡ status2) × SameContents SameGraph Equal new new2
deps-agree bytes kept new new2 has status status2 memory memory2 is also = by kept.graph refl
  where
    by : (o : Option GraphModel) → kept.graph ≡ o → (status ≡ status2) × SameContents SameGraph Equal new new2
    by None none = refused-alike kept new new2 status status2 NotLoaded none
        (no-graph kept new bytes none status memory is) (no-graph kept new2 bytes none status2 memory2 also)
    by (Some g) at =
        let statements = has g at in
        joins-agree g statements.0 statements.1 kept new new2 bytes at status status2
        (comes g kept new bytes at status memory is) (comes g kept new2 bytes at status2 memory2 also)
