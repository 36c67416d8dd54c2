-- Two answers of `stale`.
use Rattle.std.proofs.Common.{◌≡◌, ◌≢◌, ◌<◌, ◌++◌, ◌∷◌, ℕ, zero, suc, Bool, Option, Some, None, Result}
use Rattle.std.proofs.Common.{List, [], length, not, take, refl, sym, codes, inl, inr, true≢false}
use Rattle.std.proofs.Common.{ap, ap₂, subst, ◌∙◌, arith, map}
use Rattle.std.specs.Prelude.{unwrap_or}
use Rattle.std.proofs.lemmas.Bool.{cases_lt}
use Rattle.nj_text.specs.Calls.{is_empty}
use Rattle.nj_names.specs.Files.{path_at}
use Rattle.nj_names.specs.NameTables.{name_at}
use Rattle.nj_scope.specs.ReadingList.{ReadStatement}
use Rattle.nj_build_log.specs.Logs.{BuildLogModel}
use Rattle.nj_discovered.specs.Times.{DeclaredTimes, IsTimeOf}
use Rattle.nj_discovered.specs.declared.times.TimeFound.{TimeFound}
use Rattle.nj_discovered.specs.declared.times.TimeFound.TheVariants.{Time, NoAnswer}
use Rattle.nj_edges.specs.EdgeGraphs.{EdgeGraph}
use Rattle.nj_edges.specs.Edges.{edge_at, inputs_of, outputs_of}
use Rattle.nj_graph.specs.declared.EdgeNo.{EdgeNo}
use Rattle.nj_graph.specs.declared.GraphFault.{GraphFault}
use Rattle.nj_graph.specs.Graph.{IsGraphOf, files_of}
use Rattle.nj_needs.specs.Graphs.{count_of, is_phony, makers_of}
use Rattle.nj_needs.specs.Walks.{commands_of}
use Rattle.nj_needs.specs.Order.{needed_commands}
use Rattle.nj_needs.proofs.Bridges.{row-paths}
use Rattle.nj_stale.specs.Laws.{HasNoCycle, SomeStateFits}
use Rattle.nj_stale.specs.Missing.{IsFirstMissing, StopsFirst, first_lost}
use Rattle.nj_stale.specs.Numbered.{evidence_of}
use Rattle.nj_stale.specs.States.{Evidence, State, IsStateOf}
use Rattle.nj_stale.specs.declared.missing.MissingSource.{MissingSource}
use Rattle.nj_stale.specs.declared.missing.MissingSource.TheVariants.{Input, Target}
use Rattle.nj_state.specs.Facts.{facts_of, hash_version}
use Rattle.nj_state.specs.FileTimesFound.{HasTime, HaveTimes, IsFirstUnanswered}
use Rattle.nj_state.specs.Stale.{IsEvidence, stale_among}
use Rattle.nj_state.specs.declared.commands.StaleEdge.{StaleEdge}
use Rattle.nj_questions.specs.Questions.{StaleModel}
use Rattle.nj_ask.specs.declared.discovered.DiscoveredGraph.{DiscoveredGraph}
use Rattle.nj_ask.specs.declared.status.Status.TheVariants.{Fault}
use Rattle.nj_ask.specs.Answers.{HasDepfileFault, IsClear, asked_targets}
use Rattle.nj_ask.specs.Endings.{Ending, answered, fault_line, program_line, refused}
use Rattle.nj_ask.specs.MissingSources.{IsStop, is_stated, missing_line, required_files}
use Rattle.nj_ask.specs.StaleObjects.{stale_objects}
use Rattle.nj_ask.specs.Stales.{AnswersBuild, AnswersStale, AreStaleFor, IsCurrent, WritesStale, files_asked}
use Rattle.nj_ask.specs.Stales.{manifest_asked, manifest_needs, manifest_targets, manifest_text}
use Rattle.nj_ask.specs.Stales.{stale_caveats, unread_time_line}
use Rattle.nj_ask.specs.Stales.AnswersBuild.{manifest_stops, remade, target_stops, listed}
use Rattle.nj_ask.specs.Stales.AnswersStale.{no_target, no_depfile, no_time, judged}
use Rattle.nj_ask.specs.Stales.WritesStale.{lines, objects}
use Rattle.nj_agreement.specs.Sources.{TellAll}
use Rattle.nj_agreement.proofs.DeclaredAnswers.{answer-is}
use Rattle.nj_one_answer.specs.Answers.{OneStaleAnswer}
use Rattle.nj_one_answer.proofs.NeededFaults.{clear-or-fault, fault-lines-agree}
use Rattle.nj_one_answer.proofs.WhyAnswers.{ok-or-err, same-err, same-ok}

-- ---- times

same-time : (one other : Option ℕ) → Time one ≡ Time other → one ≡ other
same-time one other same = cc

module _ (times : DeclaredTimes) (tells : TellAll times) where
  found-agree : (path : List ℕ) (one other : TimeFound) → IsTimeOf times path one → IsTimeOf times path other
      → one ≡ other
  found-agree path one other is also =
      answer-is times tells path one is ∙ sym (answer-is times tells path other also)

  time-agrees : (path : List ℕ) (a b : ℕ) → HasTime times path a → HasTime times path b → a ≡ b
  time-agrees path a b (one, at, is) (other, at2, also) =
      is ∙ ap (λ f. unwrap_or f 0) (same-time one other (found-agree path (Time one) (Time other) at at2))
      ∙ sym also

  pub times-agree : (paths : List (List ℕ)) (a b : List ℕ) → HaveTimes times paths a → HaveTimes times paths b
      → a ≡ b
  times-agree [] [] [] is also = refl
  times-agree [] [] (b ∷ bs) is also = absurd also
  times-agree [] (a ∷ rest) bs is also = absurd is
  times-agree (p ∷ paths) [] bs is also = absurd is
  times-agree (p ∷ paths) (a ∷ rest) [] is also = absurd also
  times-agree (p ∷ paths) (a ∷ rest) (b ∷ bs) is also =
      ap₂ (λ t ts. t ∷ ts) (time-agrees p a b is.0 also.0) (times-agree paths rest bs is.1 also.1)

  pub told-or-not : (path : List ℕ) (time : ℕ) → HasTime times path time → IsTimeOf times path NoAnswer → ⊥
  told-or-not path time (one, at, is) none =
      let e : Time one ≡ NoAnswer = found-agree path (Time one) NoAnswer at none in absurd cc

  all-told : (paths : List (List ℕ)) (found : List ℕ) (n : ℕ) → HaveTimes times paths found
      → n < length paths → IsTimeOf times (name_at paths n) NoAnswer → ⊥
  all-told [] found n have below none = absurd (omega (arith, below))
  all-told (p ∷ paths) [] n have below none = absurd have
  all-told (p ∷ paths) (t ∷ found) zero have below none = told-or-not p t have.0 none
  all-told (p ∷ paths) (t ∷ found) (suc n) have below none =
      all-told paths found n have.1 (omega (arith, below)) none

  first-told : (p : List ℕ) (paths : List (List ℕ)) (found : List ℕ) → HaveTimes times (p ∷ paths) found
      → IsTimeOf times p NoAnswer → ⊥
  first-told p paths [] have none = absurd have
  first-told p paths (t ∷ found) have none = told-or-not p t have.0 none

  firsts-by : (paths : List (List ℕ)) (n m : ℕ) (a b : List ℕ) → n < length paths → m < length paths
      → HaveTimes times (take n paths) a → HaveTimes times (take m paths) b
      → IsTimeOf times (name_at paths n) NoAnswer → IsTimeOf times (name_at paths m) NoAnswer → n ≡ m
  firsts-by [] n m a b below below2 have have2 none none2 = absurd (omega (arith, below))
  firsts-by (p ∷ paths) zero zero a b below below2 have have2 none none2 = refl
  firsts-by (p ∷ paths) zero (suc m) a b below below2 have have2 none none2 =
      absurd (first-told p (take m paths) b have2 none)
  firsts-by (p ∷ paths) (suc n) zero a b below below2 have have2 none none2 =
      absurd (first-told p (take n paths) a have none2)
  firsts-by (p ∷ paths) (suc n) (suc m) [] b below below2 have have2 none none2 = absurd have
  firsts-by (p ∷ paths) (suc n) (suc m) (t ∷ a) [] below below2 have have2 none none2 = absurd have2
  firsts-by (p ∷ paths) (suc n) (suc m) (t ∷ a) (u ∷ b) below below2 have have2 none none2 =
      ap (λ k. suc k) (firsts-by paths n m a b (omega (arith, below)) (omega (arith, below2)) have.1 have2.1
      none none2)

  firsts-agree : (paths : List (List ℕ)) (n m : ℕ) → IsFirstUnanswered times paths n
      → IsFirstUnanswered times paths m → n ≡ m
  firsts-agree paths n m one other =
      firsts-by paths n m one.earlier.0 other.earlier.0 one.within other.within one.earlier.1 other.earlier.1
      one.none other.none

-- ---- missing sources

-- the lines about two missing sources are the same, or there is none
abbrev SameStop : EdgeGraph → Option MissingSource → Option MissingSource → Type 0
SameStop g None None = Unit {0}
SameStop g None (Some source) = ⊥
SameStop g (Some source) None = ⊥
SameStop g (Some one) (Some other) = missing_line g one ≡ missing_line g other

some-path : (one other : List ℕ) (at : Option (List ℕ)) → at ≡ Some one → at ≡ Some other → one ≡ other
some-path one other at is also = let same : Some one ≡ Some other = sym is ∙ also in cc

none-or-some : (path : List ℕ) (at : Option (List ℕ)) → at ≡ None → at ≡ Some path → ⊥
none-or-some path at none some = let same : None ≡ Some path = sym none ∙ some in absurd cc

module _ (g : EdgeGraph) (known : Evidence) (is_stated : List ℕ → Bool) (s : State)
    (paths : List (List ℕ)) where
  abbrev target_line : (path : List ℕ) → List ℕ
  target_line path = program_line (codes "'" ++ path ++ codes "' missing and no known rule to make it")

  abbrev input_line : (edge : ℕ) (path : List ℕ) → List ℕ
  input_line edge path =
      program_line (codes "'" ++ path ++ codes "', needed by '"
      ++ name_at (outputs_of (edge_at g.edges edge)) 0
      ++ codes "', missing and no known rule to make it")

  abbrev Firsts : (edge : ℕ) (path : List ℕ) → Type 0
  Firsts edge path = StopsFirst known is_stated s paths edge path

  edges-agree : (edge other : ℕ) (path path2 : List ℕ) → Firsts edge path → Firsts other path2 → edge ≡ other
  edges-agree edge other path path2 one two = elim (cases_lt edge other) [
    | inl less ↦ absurd (two.first edge path less one.stops)
    | inr more ↦ elim (cases_lt other edge) [
      | inl less ↦ absurd (one.first other path2 less two.stops)
      | inr more2 ↦ omega (arith, more, more2)
    ]
  ]

  missing-agrees : (a b : Option MissingSource) → IsFirstMissing g.files known is_stated s paths a
      → IsFirstMissing g.files known is_stated s paths b → SameStop g a b
  missing-agrees None None is also = tt
  missing-agrees None (Some (Target file)) is also =
      none-or-some (path_at g.files file) (first_lost known is_stated paths) is.0 also
  missing-agrees None (Some (Input edge file)) is also =
      is.1 edge.0 (path_at g.files file) also.1.stops
  missing-agrees (Some (Target file)) None is also =
      none-or-some (path_at g.files file) (first_lost known is_stated paths) also.0 is
  missing-agrees (Some (Input edge file)) None is also =
      also.1 edge.0 (path_at g.files file) is.1.stops
  missing-agrees (Some (Target one)) (Some (Target other)) is also =
      ap target_line (some-path (path_at g.files one) (path_at g.files other)
      (first_lost known is_stated paths) is also)
  missing-agrees (Some (Target one)) (Some (Input edge file)) is also =
      absurd (none-or-some (path_at g.files one) (first_lost known is_stated paths) also.0 is)
  missing-agrees (Some (Input edge file)) (Some (Target other)) is also =
      absurd (none-or-some (path_at g.files other) (first_lost known is_stated paths) is.0 also)
  missing-agrees (Some (Input edge file)) (Some (Input edge2 file2)) is also =
      let edges = edges-agree edge.0 edge2.0 (path_at g.files file) (path_at g.files file2) is.1 also.1 in
      let path = some-path (path_at g.files file) (path_at g.files file2)
      (first_lost known is_stated (inputs_of (edge_at known.edges edge2.0)))
      (subst (λ e. first_lost known is_stated (inputs_of (edge_at known.edges e))
      ≡ Some (path_at g.files file))
      edges is.1.stops.first) also.1.stops.first in
      ap₂ input_line edges path

module _ (law : SomeStateFits) (known : DiscoveredGraph) (entries : List ReadStatement) (log : BuildLogModel)
    (times : DeclaredTimes) (options : StaleModel) (graph : IsGraphOf known.graph entries)
    (tells : TellAll times) where
  -- ---- what is known before the build

  abbrev g : EdgeGraph
  g = known.graph.built.graph

  abbrev unknown : List ℕ
  unknown = map (λ (edge : EdgeNo). edge.0) known.unknown.items

  abbrev Known : Evidence → Type 0
  Known evidence = IsEvidence g entries unknown log times evidence

  evidence-agrees : (one other : Evidence) → Known one → Known other → one ≡ other
  evidence-agrees one other is also =
      let facts = facts_of entries unknown (hash_version log) (length g.edges) in
      is.known_is
      ∙ ap (λ ts. evidence_of g facts ts log.lines)
      (times-agree times tells g.files is.times also.times is.times_are also.times_are)
      ∙ sym also.known_is

  -- the state that fits
  fits : (evidence : Evidence) → Known evidence → (s : State) × IsStateOf evidence s
  fits evidence is = law evidence (subst HasNoCycle (sym is.known_is) graph.acyclic)

  -- ---- what is stale

  stale-agree : (paths : List (List ℕ)) (a b : List StaleEdge) → AreStaleFor known entries log times paths a
      → AreStaleFor known entries log times paths b → a ≡ b
  stale-agree paths a b one other =
      let evidence = evidence-agrees one.are_stale.known other.are_stale.known one.are_stale.is
      other.are_stale.is
      in
      let commands : commands_of g one.files ≡ commands_of g other.files =
      ap (λ row. needed_commands (makers_of g) (count_of g) (is_phony g) row)
      (row-paths g one.files paths one.are_files ∙ sym (row-paths g other.files paths other.are_files)) in
      let state = fits one.are_stale.known one.are_stale.is in
      one.are_stale.edges state.0 state.1
      ∙ ap (λ (k : Evidence). stale_among k.edges state.0 (commands_of g one.files)) evidence
      ∙ ap (stale_among other.are_stale.known.edges state.0) commands
      ∙ sym (other.are_stale.edges state.0 (subst (λ k. IsStateOf k state.0) evidence state.1))

  writes-agree : (stale : List StaleEdge) (output other : List ℕ)
      → WritesStale known entries log times options stale output
      → WritesStale known entries log times options stale other → output ≡ other
  writes-agree stale _ _ (lines plain) (lines plain2) = refl
  writes-agree stale _ _ (lines plain) (objects json is text) = absurd (true≢false (sym json ∙ plain))
  writes-agree stale _ _ (objects json is text) (lines plain) = absurd (true≢false (sym json ∙ plain))
  writes-agree stale _ _ (objects {evidence = one} json is text)
      (objects {evidence = other} json2 is2 text2) =
      let same = evidence-agrees one other is is2 in
      let state = fits one is in
      text state.0 state.1 ∙ ap (λ k. stale_objects k state.0 stale) same
      ∙ sym (text2 state.0 (subst (λ k. IsStateOf k state.0) same state.1))

  -- ---- where the build stops

  stop-agrees : (targets : List (List ℕ)) (a b : Option MissingSource)
      → IsStop known entries log times targets a → IsStop known entries log times targets b → SameStop g a b
  stop-agrees targets a b one other =
      let same = evidence-agrees one.evidence other.evidence one.is other.is in
      let state = fits one.evidence one.is in
      let paths = required_files g.edges targets in
      missing-agrees g other.evidence (is_stated known) state.0 paths a b
      (subst (λ k. IsFirstMissing g.files k (is_stated known) state.0 paths a) same
      (one.first state.0 state.1))
      (other.first state.0 (subst (λ k. IsStateOf k state.0) same state.1))

  -- ---- answers of a judged build

  abbrev Same : (output other : List ℕ) (ending end : Ending) → Type 0
  Same output other ending end = (output ≡ other) × (ending ≡ end)

  abbrev manifest : List (List ℕ)
  manifest = manifest_targets known.graph options

  abbrev needs : List (List ℕ)
  needs = manifest_needs known.graph options

  abbrev about : List StaleEdge → List ℕ
  about stale = manifest_text known.graph stale (manifest_asked known.graph options)

  abbrev Stop : (targets : List (List ℕ)) → Option MissingSource → Type 0
  Stop targets source = IsStop known entries log times targets source

  refused-same : (a b : MissingSource) → SameStop g (Some a) (Some b)
      → Same [] [] (refused (missing_line g a) Fault) (refused (missing_line g b) Fault)
  refused-same a b same = (refl, ap (λ line. refused line Fault) same)

  -- a build that stops does not go on
  stops-or-not : (targets : List (List ℕ)) (a : MissingSource) → Stop targets (Some a) → Stop targets None → ⊥
  stops-or-not targets a one other = stop-agrees targets (Some a) None one other

  -- a manifest that is stale is not current
  stale-or-not : (stale : List StaleEdge) → AreStaleFor known entries log times needs stale
      → about stale ≢ [] → IsCurrent known entries log times options → ⊥
  stale-or-not stale are some current =
      some (subst (λ s. about s ≡ []) (stale-agree needs current.stale stale current.are_stale are)
      current.current)

  abbrev ends : List StaleEdge → Ending
  ends stale = answered (not (is_empty stale)) (stale_caveats known entries stale)

  abbrev says : List StaleEdge → Ending
  says stale = answered (not (is_empty stale)) (stale_caveats known entries stale ++ about stale)

  written-same : (end : List StaleEdge → Ending) (a b : List StaleEdge) (output other : List ℕ) → a ≡ b
      → WritesStale known entries log times options a output
      → WritesStale known entries log times options b other → Same output other (end a) (end b)
  written-same end a b output other same writes writes2 = (
    writes-agree b output other (subst (λ s. WritesStale known entries log times options s output) same
        writes)
        writes2,
    ap end same,
  )

  build-agrees : (targets : List (List ℕ)) (output other : List ℕ) (ending end : Ending)
      → AnswersBuild known entries log times options targets output ending
      → AnswersBuild known entries log times options targets other end → Same output other ending end
  build-agrees targets _ _ _ _ (manifest_stops {source = a} stop) (manifest_stops {source = b} stop2) =
      refused-same a b (stop-agrees manifest (Some a) (Some b) stop stop2)
  build-agrees targets _ _ _ _ (manifest_stops {source = a} stop) (remade none are some writes) =
      absurd (stops-or-not manifest a stop none)
  build-agrees targets _ _ _ _ (manifest_stops {source = a} stop) (target_stops current stop2) =
      absurd (stops-or-not manifest a stop current.unstopped)
  build-agrees targets _ _ _ _ (manifest_stops {source = a} stop) (listed current none are writes) =
      absurd (stops-or-not manifest a stop current.unstopped)
  build-agrees targets _ _ _ _ (remade none are some writes) (manifest_stops {source = b} stop2) =
      absurd (stops-or-not manifest b stop2 none)
  build-agrees targets _ _ _ _ (remade {stale = a} {output = o} none are some writes)
      (remade {stale = b} {output = p} none2 are2 some2 writes2) =
      written-same says a b o p (stale-agree needs a b are are2) writes writes2
  build-agrees targets _ _ _ _ (remade {stale = a} none are some writes) (target_stops current stop2) =
      absurd (stale-or-not a are some current)
  build-agrees targets _ _ _ _ (remade {stale = a} none are some writes) (listed current none2 are2 writes2) =
      absurd (stale-or-not a are some current)
  build-agrees targets _ _ _ _ (target_stops current stop) (manifest_stops {source = b} stop2) =
      absurd (stops-or-not manifest b stop2 current.unstopped)
  build-agrees targets _ _ _ _ (target_stops current stop) (remade {stale = b} none2 are2 some2 writes2) =
      absurd (stale-or-not b are2 some2 current)
  build-agrees targets _ _ _ _ (target_stops {source = a} current stop)
      (target_stops {source = b} current2 stop2) =
      refused-same a b (stop-agrees targets (Some a) (Some b) stop stop2)
  build-agrees targets _ _ _ _ (target_stops {source = a} current stop) (listed current2 none2 are2 writes2) =
      absurd (stops-or-not targets a stop none2)
  build-agrees targets _ _ _ _ (listed current none are writes) (manifest_stops {source = b} stop2) =
      absurd (stops-or-not manifest b stop2 current.unstopped)
  build-agrees targets _ _ _ _ (listed current none are writes)
      (remade {stale = b} none2 are2 some2 writes2) =
      absurd (stale-or-not b are2 some2 current)
  build-agrees targets _ _ _ _ (listed current none are writes) (target_stops {source = b} current2 stop2) =
      absurd (stops-or-not targets b stop2 none)
  build-agrees targets _ _ _ _ (listed {stale = a} {output = o} current none are writes)
      (listed {stale = b} {output = p} current2 none2 are2 writes2) =
      written-same ends a b o p (stale-agree (files_asked known.graph options targets) a b are are2) writes
      writes2

  -- a file whose time cannot be read is one of those that are judged
  timed-or-not : (evidence : Evidence) {n : ℕ} → IsFirstUnanswered times (files_of known.graph) n
      → Known evidence → ⊥
  timed-or-not evidence {n} first is =
      all-told times tells (files_of known.graph) is.times n is.times_are first.within first.none

  build-timed : (targets : List (List ℕ)) (output : List ℕ) (ending : Ending) {n : ℕ}
      → IsFirstUnanswered times (files_of known.graph) n
      → AnswersBuild known entries log times options targets output ending → ⊥
  build-timed targets _ _ first (manifest_stops stop) = timed-or-not stop.evidence first stop.is
  build-timed targets _ _ first (remade none are some writes) = timed-or-not none.evidence first none.is
  build-timed targets _ _ first (target_stops current stop) = timed-or-not stop.evidence first stop.is
  build-timed targets _ _ first (listed current none are writes) = timed-or-not none.evidence first none.is

  -- ---- answers

  abbrev meant : Result (List (List ℕ)) GraphFault
  meant = asked_targets known.graph options.targets

  abbrev files : (targets : List (List ℕ)) → List (List ℕ)
  files targets = files_asked known.graph options targets

  answers-agree : (output other : List ℕ) (ending end : Ending)
      → AnswersStale known entries log times options output ending
      → AnswersStale known entries log times options other end → Same output other ending end
  answers-agree _ _ _ _ (no_target {fault = e1} bad1)
      (no_target {fault = e2} bad2) =
      (refl, ap (λ fault. refused (fault_line fault) Fault) (same-err meant e1 e2 bad1 bad2))
  answers-agree _ _ _ _ (no_target {fault = e1} bad1)
      (no_depfile {targets = p2} {line = l2} at2 has2) =
      absurd (ok-or-err meant p2 e1 at2 bad1)
  answers-agree _ _ _ _ (no_target {fault = e1} bad1)
      (no_time {targets = p2} {file = n2} at2 clear2 first2) =
      absurd (ok-or-err meant p2 e1 at2 bad1)
  answers-agree _ _ _ _ (no_target {fault = e1} bad1)
      (judged {targets = p2} at2 clear2 is2) =
      absurd (ok-or-err meant p2 e1 at2 bad1)
  answers-agree _ _ _ _ (no_depfile {targets = p1} {line = l1} at1 has1)
      (no_target {fault = e2} bad2) =
      absurd (ok-or-err meant p1 e2 at1 bad2)
  answers-agree _ _ _ _ (no_depfile {targets = p1} {line = l1} at1 has1)
      (no_depfile {targets = p2} {line = l2} at2 has2) = (
        refl,
        ap (λ line. refused line Fault) (fault-lines-agree known (files p2) l1 l2
            (subst (λ ps. HasDepfileFault known (files ps) l1) (same-ok meant p1 p2 at1 at2) has1) has2),
      )
  answers-agree _ _ _ _ (no_depfile {targets = p1} {line = l1} at1 has1)
      (no_time {targets = p2} {file = n2} at2 clear2 first2) =
      absurd (clear-or-fault known (files p1) l1
      (subst (λ ps. IsClear known (files ps)) (same-ok meant p2 p1 at2 at1) clear2) has1)
  answers-agree _ _ _ _ (no_depfile {targets = p1} {line = l1} at1 has1)
      (judged {targets = p2} at2 clear2 is2) =
      absurd (clear-or-fault known (files p1) l1
      (subst (λ ps. IsClear known (files ps)) (same-ok meant p2 p1 at2 at1) clear2) has1)
  answers-agree _ _ _ _ (no_time {targets = p1} {file = n1} at1 clear1 first1)
      (no_target {fault = e2} bad2) =
      absurd (ok-or-err meant p1 e2 at1 bad2)
  answers-agree _ _ _ _ (no_time {targets = p1} {file = n1} at1 clear1 first1)
      (no_depfile {targets = p2} {line = l2} at2 has2) =
      absurd (clear-or-fault known (files p2) l2
      (subst (λ ps. IsClear known (files ps)) (same-ok meant p1 p2 at1 at2) clear1) has2)
  answers-agree _ _ _ _ (no_time {targets = p1} {file = n1} at1 clear1 first1)
      (no_time {targets = p2} {file = n2} at2 clear2 first2) = (
        refl,
        ap (λ n. refused (unread_time_line known.graph n) Fault)
            (firsts-agree times tells (files_of known.graph) n1 n2 first1 first2),
      )
  answers-agree _ _ _ _ (no_time {targets = p1} {file = n1} at1 clear1 first1)
      (judged {targets = p2} {output = o2} {ending = e2} at2 clear2 is2) =
      absurd (build-timed p2 o2 e2 first1 is2)
  answers-agree _ _ _ _ (judged {targets = p1} at1 clear1 is1)
      (no_target {fault = e2} bad2) =
      absurd (ok-or-err meant p1 e2 at1 bad2)
  answers-agree _ _ _ _ (judged {targets = p1} at1 clear1 is1)
      (no_depfile {targets = p2} {line = l2} at2 has2) =
      absurd (clear-or-fault known (files p2) l2
      (subst (λ ps. IsClear known (files ps)) (same-ok meant p1 p2 at1 at2) clear1) has2)
  answers-agree _ _ _ _ (judged {targets = p1} {output = o1} {ending = e1} at1 clear1 is1)
      (no_time {targets = p2} {file = n2} at2 clear2 first2) =
      absurd (build-timed p1 o1 e1 first2 is1)
  answers-agree output other ending end (judged {targets = p1} at1 clear1 is1)
      (judged {targets = p2} at2 clear2 is2) =
      build-agrees p2 output other ending end
      (subst (λ ps. AnswersBuild known entries log times options ps output ending)
      (same-ok meant p1 p2 at1 at2) is1) is2

pub one-stale-answer : SomeStateFits → OneStaleAnswer
one-stale-answer law known entries log times options graph tells output other ending end is also =
    answers-agree law known entries log times options graph tells output other ending end is also
