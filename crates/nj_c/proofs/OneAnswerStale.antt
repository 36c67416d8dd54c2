-- Two lists of stale edges.
use Rattle.std.proofs.Common.{◌≡◌, ◌≢◌, inl, inr, ◌<◌, ℕ, zero, suc, List, [], ◌∷◌, length, map, Option, Some}
use Rattle.std.proofs.Common.{Ok, unwrap_or, refl, sym, ap, subst, ◌∙◌, arith}
use Rattle.std.proofs.lemmas.Option.{same_Some}
use Rattle.std.specs.Str.{IsUtf8}
use Rattle.nj_names.specs.NameTables.{name_at}
use Rattle.nj_names.specs.declared.files.FileNo.{FileNo}
use Rattle.nj_scope.specs.ReadingList.{ReadStatement}
use Rattle.nj_cycles.specs.Cycles.{IsAcyclic}
use Rattle.nj_edges.specs.Needs.{makers_of_inputs}
use Rattle.nj_discovered.specs.Times.{IsTimeOf}
use Rattle.nj_discovered.specs.Times.IsTimeOf.{asked, not_asked}
use Rattle.nj_discovered.specs.declared.times.TimeFound.TheVariants.{Time}
use Rattle.nj_build_log.specs.Logs.{BuildLogModel, build_log_of}
use Rattle.nj_graph.specs.Graph.{GraphModel, IsGraphOf, edges_of, files_of}
use Rattle.nj_needs.specs.Walks.{commands_of}
use Rattle.nj_stale.specs.Laws.{HasNoCycle, SomeStateFits}
use Rattle.nj_stale.specs.Numbered.{evidence_of}
use Rattle.nj_stale.specs.States.{Evidence}
use Rattle.nj_state.specs.Facts.{facts_of, hash_version}
use Rattle.nj_state.specs.FileTimesFound.{HasTime, HaveTimes}
use Rattle.nj_state.specs.Stale.{AreStaleBy, AreStaleEdges, IsEvidence}
use Rattle.nj_state.specs.declared.commands.StaleEdge.{StaleEdge}
use Rattle.nj_agreement.proofs.DeclaredAnswers.{answer-is}
use Rattle.nj_c.specs.declared.session_state.Kept.{Kept}
use Rattle.nj_c.specs.declared.status.Status.{Status}
use Rattle.nj_c.specs.declared.status.Status.TheVariants.{Done, Nothing, Short, Fault, Wanted, NotLoaded}
use Rattle.nj_c.specs.declared.status.Status.TheVariants.{BadNumber, BadMark, NotUtf8, NotOpen, OutOfMemory}
use Rattle.nj_c.specs.declared.status.Status.TheVariants.{BadLog}
use Rattle.nj_c.specs.OneAnswer.{Equal, SameContents}
use Rattle.nj_c.specs.Pages.{numbered}
use Rattle.nj_c.specs.DirtyEdges.{unknown_edges}
use Rattle.nj_c.specs.StaleEdges.{given_times, AreStaleIn, AreStaleOf, HasPathNotUtf8, IsNoBuildLog}
use Rattle.nj_c.specs.StaleEdges.{IsNotJudged, ListsStale}
use Rattle.nj_c.specs.StaleEdges.{StaleRefused}
use Rattle.nj_c.specs.SuppliedFiles.{supplied_for}
use Rattle.nj_c.proofs.OneAnswerChanges.{equal-options, parts-agree, unchanged-contents}
use Rattle.nj_c.proofs.OneAnswerLists.{known-or-refused, one-refusal}

-- ---- the times of files

module _ (g : GraphModel) (times : List ℕ) where
  one-time : (path : List ℕ) (time time2 : ℕ) → HasTime (given_times g times) path time
      → HasTime (given_times g times) path time2 → time ≡ time2
  one-time path time time2 (found, is, at) (found2, is2, at2) =
      let same : Time found ≡ Time found2 =
      answer-is (given_times g times) (λ p. refl) path (Time found) is
      ∙ sym (answer-is (given_times g times) (λ p. refl) path (Time found2) is2) in
      let alike : found ≡ found2 = cc in
      at ∙ ap (λ o. unwrap_or o 0) alike ∙ sym at2

  one-times : (paths : List (List ℕ)) (ts ts2 : List ℕ) → HaveTimes (given_times g times) paths ts
      → HaveTimes (given_times g times) paths ts2 → ts ≡ ts2
  one-times [] [] [] is also = refl
  one-times [] [] (t ∷ ts) is also = absurd also
  one-times [] (t ∷ ts) ts2 is also = absurd is
  one-times (p ∷ ps) [] ts2 is also = absurd is
  one-times (p ∷ ps) (t ∷ ts) [] is also = absurd also
  one-times (p ∷ ps) (t ∷ ts) (t2 ∷ ts2) (is, more) (also, more2) =
      ap (λ x. x ∷ ts) (one-time p t t2 is also) ∙ ap (λ xs. t2 ∷ xs) (one-times ps ts ts2 more more2)

  -- a file with a time has a path that is UTF-8
  told-text : (path : List ℕ) (found : Option ℕ) → IsTimeOf (given_times g times) path (Time found)
      → IsUtf8 path
  told-text path found (asked text is) = text
  told-text path found (not_asked other is) = absurd cc

  all-text : (paths : List (List ℕ)) (ts : List ℕ) → HaveTimes (given_times g times) paths ts
      → (n : ℕ) → n < length paths → IsUtf8 (name_at paths n)
  all-text [] ts is n below = absurd (omega (arith, below))
  all-text (p ∷ ps) [] is n below = absurd is
  all-text (p ∷ ps) (t ∷ ts) ((found, is, at), more) zero below = told-text p found is
  all-text (p ∷ ps) (t ∷ ts) (is, more) (suc n) below = all-text ps ts more n (omega (arith, below))

-- ---- one list

module _ (law : SomeStateFits) (g : GraphModel) (entries : List ReadStatement)
    (acyclic : IsAcyclic (makers_of_inputs (edges_of g)) (length (edges_of g)))
    (unknown : List ℕ) (log : BuildLogModel) (times : List ℕ) (targets : List FileNo)
  where
    one-evidence : (known known2 : Evidence)
        → IsEvidence g.built.graph entries unknown log (given_times g times) known
        → IsEvidence g.built.graph entries unknown log (given_times g times) known2 → known ≡ known2
    one-evidence known known2 is also =
        is.known_is
        ∙ ap (λ ts. evidence_of g.built.graph
        (facts_of entries unknown (hash_version log) (length (edges_of g))) ts
        log.lines)
        (one-times g times (files_of g) is.times also.times is.times_are also.times_are)
        ∙ sym also.known_is

    one-list : (stale stale2 : List StaleEdge)
        → AreStaleEdges g.built.graph entries unknown log (given_times g times) targets stale
        → AreStaleEdges g.built.graph entries unknown log (given_times g times) targets stale2
        → stale ≡ stale2
    one-list stale stale2 is also =
        let same : also.known ≡ is.known = one-evidence also.known is.known also.is is.is in
        let fits = law is.known (subst HasNoCycle (sym is.is.known_is) acyclic) in
        is.edges fits.0 fits.1
        ∙ sym (subst (λ k. AreStaleBy k (commands_of g.built.graph targets) stale2) same also.edges fits.0
        fits.1)

-- ---- why there is no list

-- the reasons apart
data IsRefusedBy (g : GraphModel) (bytes times : List ℕ) : Status → Type 0 where
  by_times : length times ≢ length (files_of g) → IsRefusedBy g bytes times BadNumber
  by_log : length times ≡ length (files_of g) → IsNoBuildLog bytes → IsRefusedBy g bytes times BadLog
  by_path : length times ≡ length (files_of g) → (log : BuildLogModel) → build_log_of bytes ≡ Ok log
      → HasPathNotUtf8 g → IsRefusedBy g bytes times NotUtf8

module _ (g : GraphModel) (bytes times : List ℕ) where
  refused-by : (status : Status) → status ≢ OutOfMemory → IsNotJudged g bytes times status
      → IsRefusedBy g bytes times status
  refused-by BadNumber memory why = by_times why
  refused-by BadLog memory (count, none) = by_log count none
  refused-by NotUtf8 memory (count, (log, is), path) = by_path count log is path
  refused-by OutOfMemory memory why = absurd (memory refl)
  refused-by Done memory why = absurd why
  refused-by Nothing memory why = absurd why
  refused-by Short memory why = absurd why
  refused-by Fault memory why = absurd why
  refused-by Wanted memory why = absurd why
  refused-by NotLoaded memory why = absurd why
  refused-by BadMark memory why = absurd why
  refused-by NotOpen memory why = absurd why

  log-or-none : (log : BuildLogModel) → build_log_of bytes ≡ Ok log → IsNoBuildLog bytes → ⊥
  log-or-none log is (fault, none) = let e = sym is ∙ none in absurd cc

  one-reason : (status other : Status) → IsRefusedBy g bytes times status → IsRefusedBy g bytes times other
      → status ≡ other
  one-reason _ _ (by_times not) (by_times not2) = refl
  one-reason _ _ (by_times not) (by_log count none) = absurd (not count)
  one-reason _ _ (by_times not) (by_path count log is path) = absurd (not count)
  one-reason _ _ (by_log count none) (by_times not) = absurd (not count)
  one-reason _ _ (by_log count none) (by_log count2 none2) = refl
  one-reason _ _ (by_log count none) (by_path count2 log is path) = absurd (log-or-none log is none)
  one-reason _ _ (by_path count log is path) (by_times not) = absurd (not count)
  one-reason _ _ (by_path count log is path) (by_log count2 none) = absurd (log-or-none log is none)
  one-reason _ _ (by_path count log is path) (by_path count2 log2 is2 path2) = refl

  listed-or-not : (entries : List ReadStatement) (unknown : List ℕ) (targets : List FileNo)
      (log : BuildLogModel)
      (stale : List StaleEdge) → length times ≡ length (files_of g) → build_log_of bytes ≡ Ok log
      → AreStaleEdges g.built.graph entries unknown log (given_times g times) targets stale
      → (status : Status) → IsRefusedBy g bytes times status → ⊥
  listed-or-not entries unknown targets log stale count is are _ (by_times not) = not count
  listed-or-not entries unknown targets log stale count is are _ (by_log count2 none) =
      log-or-none log is none
  listed-or-not entries unknown targets log stale count is are _
      (by_path count2 log2 is2 (file, below, other)) =
      other (all-text g times (files_of g) are.is.times are.is.times_are file below)

-- ---- two calls

module _ (kept new new2 : Kept) (left : new ≡ record kept { stale = new.stale })
    (left2 : new2 ≡ record kept { stale = new2.stale })
  where
    part : {A : Type 0} (of : Kept → A) → of (record kept { stale = new.stale })
        ≡ of (record kept { stale = new2.stale }) → of new ≡ of new2
    part of = parts-agree of new new2 (record kept { stale = new.stale }) (record kept { stale = new2.stale })
        left left2

    same-but-stale : new.stale.items ≡ new2.stale.items → SameContents Equal Equal new new2
    same-but-stale same = record {
      files = λ path. sym (part (λ (k : Kept). supplied_for k.files path) refl);
      wanted = part (λ (k : Kept). map (λ p. p.items) k.wanted.items) refl;
      graph = equal-options new.graph new2.graph (part (λ (k : Kept). k.graph) refl);
      fault = part (λ (k : Kept). k.fault) refl;
      found = part (λ (k : Kept). map (λ e. e.0) k.found.items) refl;
      mark = part (λ (k : Kept). k.mark.items) refl;
      stale = same;
      joined = λ _. record {
        log = part (λ (k : Kept). k.log) refl;
        unknown = part (λ (k : Kept). k.unknown.items) refl;
      };
      output = part (λ (k : Kept). k.output.bytes) refl;
      errors = part (λ (k : Kept). k.errors.bytes) refl;
    }

module _ (law : SomeStateFits) (kept : Kept) (bytes times targets : List ℕ)
    (has : (g : GraphModel) → kept.graph ≡ Some g → (stated : List ReadStatement) × IsGraphOf g stated)
    (acyclic : (g : GraphModel) → kept.graph ≡ Some g
    → IsAcyclic (makers_of_inputs (edges_of g)) (length (edges_of g)))
  where
    one-stale : (stale stale2 : List StaleEdge) → AreStaleOf kept bytes times targets stale
        → AreStaleOf kept bytes times targets stale2 → stale ≡ stale2
    one-stale stale stale2 (g, log, at, known, count, is, are) (g2, log2, at2, known2, count2, is2, are2) =
        let same : g2 ≡ g = same_Some g2 g (sym at2 ∙ at) in
        let e = sym is2 ∙ is in
        let logs : log2 ≡ log = cc in
        let statements = has g at in
        one-list law g statements.0 (acyclic g at) (unknown_edges kept g) log times (numbered targets) stale
        stale2 (are statements.0 statements.1)
        (subst (λ h. AreStaleIn kept h log times targets stale2) same
        (subst (λ l. AreStaleIn kept g2 l times targets stale2) logs are2) statements.0 statements.1)

    listed-or-refused : (stale : List StaleEdge) → AreStaleOf kept bytes times targets stale
        → (status : Status) → status ≢ OutOfMemory → StaleRefused kept.graph bytes times targets status → ⊥
    listed-or-refused stale (g, log, at, known, count, is, are) status memory (inl lacks) =
        known-or-refused kept.graph targets g at known status memory lacks
    listed-or-refused stale (g, log, at, known, count, is, are) status memory (inr (h, at2, known2, why)) =
        let statements = has g at in
        listed-or-not g bytes times statements.0 (unknown_edges kept g) (numbered targets) log stale count is
        (are statements.0 statements.1) status
        (refused-by g bytes times status memory
        (subst (λ k. IsNotJudged k bytes times status) (same_Some h g (sym at2 ∙ at)) why))

    one-stale-refusal : (status other : Status) → status ≢ OutOfMemory → other ≢ OutOfMemory
        → StaleRefused kept.graph bytes times targets status
        → StaleRefused kept.graph bytes times targets other → status ≡ other
    one-stale-refusal status other memory memory2 (inl lacks) (inl lacks2) =
        one-refusal kept.graph targets status other memory memory2 lacks lacks2
    one-stale-refusal status other memory memory2 (inl lacks) (inr (g, at, known, why)) =
        absurd (known-or-refused kept.graph targets g at known status memory lacks)
    one-stale-refusal status other memory memory2 (inr (g, at, known, why)) (inl lacks) =
        absurd (known-or-refused kept.graph targets g at known other memory2 lacks)
    one-stale-refusal status other memory memory2 (inr (g, at, known, why)) (inr (h, at2, known2, why2)) =
        one-reason g bytes times status other (refused-by g bytes times status memory why)
        (refused-by g bytes times other memory2
        (subst (λ k. IsNotJudged k bytes times other) (same_Some h g (sym at2 ∙ at)) why2))

    pub stale-agree : (new new2 : Kept) (status status2 : Status) → status ≢ OutOfMemory
        → status2 ≢ OutOfMemory
        → ListsStale kept new bytes times targets status → ListsStale kept new2 bytes times targets status2
        → (status ≡ status2) × SameContents Equal Equal new new2
    stale-agree new new2 status status2 memory memory2 (inl (done, are, left)) (inl (done2, are2, left2)) = (
      done ∙ sym done2,
      same-but-stale kept new new2 left left2 (one-stale new.stale.items new2.stale.items are are2),
    )
    stale-agree new new2 status status2 memory memory2 (inl (done, are, left)) (inr (why, left2)) =
        absurd (listed-or-refused new.stale.items are status2 memory2 why)
    stale-agree new new2 status status2 memory memory2 (inr (why, left)) (inl (done, are, left2)) =
        absurd (listed-or-refused new2.stale.items are status memory why)
    stale-agree new new2 status status2 memory memory2 (inr (why, left)) (inr (why2, left2)) = (
      one-stale-refusal status status2 memory memory2 why why2,
      unchanged-contents Equal Equal kept new new2 left left2 (equal-options kept.graph kept.graph refl) refl,
    )
