-- Two answers to one word that denotes a target.
use Rattle.std.proofs.Common.{◌≡◌, ◌≢◌, inl, inr, ℕ, ℤ, List, Option, Some, None, Ok, Err, refl, sym, ap}
use Rattle.std.proofs.Common.{slice_get, subst, ◌∙◌, bytes_eq}
use Rattle.std.specs.List.{IsDistinct}
use Rattle.std.proofs.lemmas.Option.{same_Some}
use Rattle.nj_faults.specs.declared.fault.GraphFault.{GraphFault}
use Rattle.nj_graph.specs.Graph.{GraphModel, edges_of, files_of}
use Rattle.nj_graph.specs.Targets.{picked}
use Rattle.nj_c.specs.declared.session_state.Kept.{Kept}
use Rattle.nj_c.specs.declared.status.Status.{Status}
use Rattle.nj_c.specs.declared.status.Status.TheVariants.{Done, Nothing, Short, Fault, Wanted, NotLoaded}
use Rattle.nj_c.specs.declared.status.Status.TheVariants.{BadNumber, BadMark, NotUtf8, NotOpen, OutOfMemory}
use Rattle.nj_c.specs.declared.status.Status.TheVariants.{BadLog}
use Rattle.nj_c.specs.Loading.{Changes}
use Rattle.nj_c.specs.OneAnswer.{IsGiven, InMemory, OfAnyGraph, SameAnswer}
use Rattle.nj_c.specs.Statuses.{code_of}
use Rattle.nj_c.specs.Targets.{PicksFile}
use Rattle.nj_c.proofs.OneAnswerCalls.{one-file}
use Rattle.nj_c.proofs.OneAnswerChanges.{changes-agree, of-graph}
use Rattle.nj_c.proofs.OneAnswerLemmas.{refused, not-open}

-- the file of the word's path
abbrev Finds : (g : GraphModel) → (word : List ℕ) → (file : ℕ) → Type 0
Finds g word file = (path : List ℕ) × (picked (edges_of g) word ≡ Ok path)
    × (slice_get (files_of g) file ≡ Some path)

-- what a call comes to
data Comes (kept new : Kept) (word : List ℕ) (file : ℕ) : Status → Type 0 where
  found : (g : GraphModel) → kept.graph ≡ Some g → new ≡ kept → Finds g word file
      → Comes kept new word file Done
  faulty : (g : GraphModel) (fault : GraphFault) → kept.graph ≡ Some g → picked (edges_of g) word ≡ Err fault
      → new ≡ record kept { fault = Some fault } → Comes kept new word file Fault
  no_graph : kept.graph ≡ None → new ≡ kept → Comes kept new word file NotLoaded

module _ (kept new : Kept) (word : List ℕ) (old file : ℕ) where
  comes : (status : Status) → status ≢ OutOfMemory → PicksFile kept new word old file status
      → Comes kept new word file status
  comes Done memory (g, at, is, (path, picks, there)) = found g at is (path, picks, there)
  comes Fault memory (g, at, same, (fault, picks, is)) = faulty g fault at picks is
  comes NotLoaded memory (at, is, same) = no_graph at is
  comes OutOfMemory memory is = absurd (memory refl)
  comes Nothing memory is = absurd is
  comes Short memory is = absurd is
  comes Wanted memory is = absurd is
  comes BadNumber memory is = absurd is
  comes BadMark memory is = absurd is
  comes NotUtf8 memory is = absurd is
  comes NotOpen memory is = absurd is
  comes BadLog memory is = absurd is

module _ (kept new new2 : Kept) (word : List ℕ) (file file2 : ℕ)
    (distinct : (g : GraphModel) → kept.graph ≡ Some g → IsDistinct bytes_eq (files_of g))
  where
    one-graph : (g h : GraphModel) → kept.graph ≡ Some g → kept.graph ≡ Some h → g ≡ h
    one-graph g h at at2 = same_Some g h (sym at ∙ at2)

    no-graph : (g : GraphModel) → kept.graph ≡ Some g → kept.graph ≡ None → ⊥
    no-graph g at none = let e = sym none ∙ at in cc

    found-or-faulty : (g h : GraphModel) (fault : GraphFault) → kept.graph ≡ Some g → kept.graph ≡ Some h
        → Finds g word file
        → picked (edges_of h) word ≡ Err fault → ⊥
    found-or-faulty g h fault at at2 (path, picks, there) bad =
        let e = sym picks ∙ ap (λ k. picked (edges_of k) word) (one-graph g h at at2) ∙ bad in cc

    files-found : (g h : GraphModel) → kept.graph ≡ Some g → kept.graph ≡ Some h → Finds g word file
        → Finds h word file2
        → file ≡ file2
    files-found g h at at2 (path, picks, there) found2 =
        by (subst (λ k. Finds k word file2) (sym (one-graph g h at at2)) found2)
      where
        by : Finds g word file2 → file ≡ file2
        by (path2, picks2, there2) =
            let e = sym picks2 ∙ picks in
            let same : path2 ≡ path = cc in
            one-file (files_of g) (distinct g at) file file2 path there (there2 ∙ ap Some same)

    one-fault : (g h : GraphModel) (fault fault2 : GraphFault) → kept.graph ≡ Some g → kept.graph ≡ Some h
        → picked (edges_of g) word ≡ Err fault → picked (edges_of h) word ≡ Err fault2 → fault ≡ fault2
    one-fault g h fault fault2 at at2 bad bad2 =
        let e = sym bad ∙ ap (λ k. picked (edges_of k) word) (one-graph g h at at2) ∙ bad2 in
        let same : fault ≡ fault2 = cc in same

    abbrev Agree : (status status2 : Status) → Type 0
    Agree status status2 = (status ≡ status2) × (status ≡ Done → file ≡ file2) × (new ≡ new2)

    picks-agree : (status status2 : Status) → Comes kept new word file status
        → Comes kept new2 word file2 status2 → Agree status status2
    picks-agree _ _ (found g at is there) (found h at2 is2 there2) =
        (refl, (λ _. files-found g h at at2 there there2), is ∙ sym is2)
    picks-agree _ _ (found g at is there) (faulty h fault at2 bad is2) =
        absurd (found-or-faulty g h fault at at2 there bad)
    picks-agree _ _ (found g at is there) (no_graph none is2) = absurd (no-graph g at none)
    picks-agree _ _ (faulty g fault at bad is) (found h at2 is2 (path, picks, there)) =
        absurd (let e = sym picks ∙ ap (λ k. picked (edges_of k) word) (one-graph h g at2 at) ∙ bad in cc)
    picks-agree _ _ (faulty g fault at bad is) (faulty h fault2 at2 bad2 is2) = (
      refl,
      (λ done. absurd cc),
      is ∙ ap (λ f. record kept { fault = Some f }) (one-fault g h fault fault2 at at2 bad bad2) ∙ sym is2,
    )
    picks-agree _ _ (faulty g fault at bad is) (no_graph none is2) = absurd (no-graph g at none)
    picks-agree _ _ (no_graph none is) (found h at2 is2 there2) = absurd (no-graph h at2 none)
    picks-agree _ _ (no_graph none is) (faulty h fault at2 bad is2) = absurd (no-graph h at2 none)
    picks-agree _ _ (no_graph none is) (no_graph none2 is2) =
        (refl, (λ done. absurd cc), is ∙ sym is2)

given-done : (result : ℤ) (status : Status) → result ≡ code_of status → status ≢ OutOfMemory → IsGiven result
    → (kept new : Kept) (word : List ℕ) (file : ℕ) → Comes kept new word file status → status ≡ Done
given-done result _ is memory given kept new word file (found g at same there) = refl
given-done result _ is memory (inl done) kept new word file (faulty g fault at bad same) =
    absurd (let e = sym is ∙ done in cc)
given-done result _ is memory (inr short) kept new word file (faulty g fault at bad same) =
    absurd (let e = sym is ∙ short in cc)
given-done result _ is memory (inl done) kept new word file (no_graph none same) =
    absurd (let e = sym is ∙ done in cc)
given-done result _ is memory (inr short) kept new word file (no_graph none same) =
    absurd (let e = sym is ∙ short in cc)

module _ (before before2 after after2 : Option Kept) (one other : ℤ) (alike : before ≡ before2)
    (known : OfAnyGraph before (λ g. IsDistinct bytes_eq (files_of g)))
    (word : List ℕ)
    (old old2 file file2 : ℕ)
  where
    pub targets-agree : Changes before after one (λ kept new. PicksFile kept new word old file)
        → Changes before2 after2 other (λ kept new. PicksFile kept new word old2 file2)
        → InMemory one other (SameAnswer one other (file ≡ file2) × (after ≡ after2))
    targets-agree is also = changes-agree before before2 after after2 one other alike
        (λ kept new. PicksFile kept new word old file) (λ kept new. PicksFile kept new word old2 file2)
        (InMemory one other (SameAnswer one other (file ≡ file2) × (after ≡ after2)))
        (λ left left2 is also memory memory2.
        (refused one other (file ≡ file2) NotOpen not-open is also, left ∙ sym left2))
        (λ kept new new2 status status2 at left left2 is also picks picks2 memory memory2.
        let lacks : status ≢ OutOfMemory = λ e. memory (is ∙ ap code_of e) in
        let lacks2 : status2 ≢ OutOfMemory = λ e. memory2 (also ∙ ap code_of e) in
        let mine = comes kept new word old file status lacks picks in
        let theirs = comes kept new2 word old2 file2 status2 lacks2 picks2 in
        let agree = picks-agree kept new new2 word file file2
        (λ g there. of-graph before kept g (λ h. IsDistinct bytes_eq (files_of h)) at there known) status
        status2 mine theirs in (
          record {
            status = is ∙ ap code_of agree.0 ∙ sym also;
            given = λ given. agree.1 (given-done one status is lacks given kept new word file mine);
          },
          left ∙ ap Some agree.2 ∙ sym left2,
        )) is also
