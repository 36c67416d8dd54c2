-- Two lists of edges for the same files, and two pages.
use Rattle.std.proofs.Common.{◌≡◌, ◌≢◌, ◌⊎◌, inl, inr, ℕ, List, [], Option, Some, None, refl, sym}
use Rattle.std.proofs.Common.{MatchOption, subst, ◌∙◌}
use Rattle.std.specs.Prelude.{Contains, ◌↔◌}
use Rattle.std.specs.List.Sorted.{IsStrictlyIncreasing}
use Rattle.nj_edges.specs.Changes.{IsAffected}
use Rattle.nj_edges.specs.Dirty.{IsDirty}
use Rattle.nj_graph.specs.Graph.{GraphModel, edges_of}
use Rattle.nj_agreement.proofs.ReachedAnswers.{nearest-numbers, rising-agree}
use Rattle.nj_c.specs.declared.session_state.Kept.{Kept}
use Rattle.nj_c.specs.declared.status.Status.{Status}
use Rattle.nj_c.specs.declared.status.Status.TheVariants.{Done, Nothing, Short, Fault, Wanted, NotLoaded}
use Rattle.nj_c.specs.declared.status.Status.TheVariants.{BadNumber, BadMark, NotUtf8, NotOpen, OutOfMemory}
use Rattle.nj_c.specs.declared.status.Status.TheVariants.{BadLog}
use Rattle.nj_c.specs.DirtyEdges.{AreDirty, unknown_edges, ListsDirty}
use Rattle.nj_c.specs.OneAnswer.{Equal, SameContents, SameNeeded}
use Rattle.nj_c.specs.Pages.{AreKnown, AreNeeded, AreReached, AreRefused, ListsEdges, ListsNeeded}
use Rattle.nj_c.specs.Pages.{ListsReached}
use Rattle.nj_c.specs.Pages.{paths_of_files}
use Rattle.nj_c.proofs.OneAnswerChanges.{lists-agree}

-- ---- why files are refused

-- without a graph, or because of one of their numbers
pub refusals : (graph : Option GraphModel) (files : List ℕ) (status : Status) → status ≢ OutOfMemory
    → AreRefused graph files status
    → ((status ≡ NotLoaded) × (graph ≡ None))
    ⊎ ((status ≡ BadNumber) × MatchOption graph ⊥ (λ g. AreKnown g files → ⊥))
refusals graph files NotLoaded memory is = inl (refl, is)
refusals graph files BadNumber memory is = inr (refl, is)
refusals graph files OutOfMemory memory is = absurd (memory refl)
refusals graph files Done memory is = absurd is
refusals graph files Nothing memory is = absurd is
refusals graph files Short memory is = absurd is
refusals graph files Fault memory is = absurd is
refusals graph files Wanted memory is = absurd is
refusals graph files BadMark memory is = absurd is
refusals graph files NotUtf8 memory is = absurd is
refusals graph files NotOpen memory is = absurd is
refusals graph files BadLog memory is = absurd is

pub known-or-refused : (graph : Option GraphModel) (files : List ℕ) (g : GraphModel) → graph ≡ Some g
    → AreKnown g files
    → (status : Status) → status ≢ OutOfMemory → AreRefused graph files status → ⊥
known-or-refused graph files g at known status memory refused =
    by (refusals graph files status memory refused)
  where
    by : ((status ≡ NotLoaded) × (graph ≡ None))
        ⊎ ((status ≡ BadNumber) × MatchOption graph ⊥ (λ g. AreKnown g files → ⊥)) → ⊥
    by (inl (is, none)) = let e = sym none ∙ at in absurd cc
    by (inr (is, unknown)) = subst (λ o. MatchOption o ⊥ (λ g. AreKnown g files → ⊥)) at unknown known

pub one-refusal : (graph : Option GraphModel) (files : List ℕ) (status other : Status)
    → status ≢ OutOfMemory → other ≢ OutOfMemory → AreRefused graph files status
    → AreRefused graph files other → status ≡ other
one-refusal graph files status other memory memory2 is also =
    by (refusals graph files status memory is) (refusals graph files other memory2 also)
  where
    none : graph ≡ None → MatchOption graph ⊥ (λ g. AreKnown g files → ⊥) → ⊥
    none is unknown = subst (λ o. MatchOption o ⊥ (λ g. AreKnown g files → ⊥)) is unknown

    by : ((status ≡ NotLoaded) × (graph ≡ None))
        ⊎ ((status ≡ BadNumber) × MatchOption graph ⊥ (λ g. AreKnown g files → ⊥))
        → ((other ≡ NotLoaded) × (graph ≡ None))
        ⊎ ((other ≡ BadNumber) × MatchOption graph ⊥ (λ g. AreKnown g files → ⊥)) → status ≡ other
    by (inl (is, lacks)) (inl (also, lacks2)) = is ∙ sym also
    by (inl (is, lacks)) (inr (also, unknown)) = absurd (none lacks unknown)
    by (inr (is, unknown)) (inl (also, lacks)) = absurd (none lacks unknown)
    by (inr (is, unknown)) (inr (also, unknown2)) = is ∙ sym also

-- ---- lists of edges

module _ (SameEdges : List ℕ → List ℕ → Type 0) (kept : Kept) (files : List ℕ)
    (are : GraphModel → (edges mark : List ℕ) → Type 0)
    (always : (list : List ℕ) → SameEdges list list)
    (listed : (g : GraphModel) → kept.graph ≡ Some g → AreKnown g files
    → (edges others mark mark2 : List ℕ) → are g edges mark → are g others mark2
    → SameEdges edges others × (mark ≡ mark2))
  where
    files-listed : (new new2 : Kept) (status status2 : Status) → status ≢ OutOfMemory
        → status2 ≢ OutOfMemory
        → ListsEdges kept new files are (AreRefused kept.graph files) status
        → ListsEdges kept new2 files are (AreRefused kept.graph files) status2
        → (status ≡ status2) × SameContents Equal SameEdges new new2
    files-listed = lists-agree SameEdges kept files are (AreRefused kept.graph files) always listed
        (λ g at known edges mark is status memory why. known-or-refused kept.graph files g at known status
        memory why)
        (one-refusal kept.graph files)

-- edges of one kind, by number
rising-listed : (Is : GraphModel → ℕ → Type 0) (g : GraphModel) (edges others mark mark2 : List ℕ)
    → IsStrictlyIncreasing edges × ((edge : ℕ) → Contains edges edge ↔ Is g edge) × (mark ≡ [])
    → IsStrictlyIncreasing others × ((edge : ℕ) → Contains others edge ↔ Is g edge) × (mark2 ≡ [])
    → (edges ≡ others) × (mark ≡ mark2)
rising-listed Is g edges others mark mark2 (rises, are, none) (rises2, are2, none2) =
    (rising-agree (Is g) edges others are rises are2 rises2, none ∙ sym none2)

module _ (files : List ℕ) (kept new new2 : Kept) (status status2 : Status) (memory : status ≢ OutOfMemory)
    (memory2 : status2 ≢ OutOfMemory)
  where
    pub reached-agree : ListsReached kept new files status → ListsReached kept new2 files status2
        → (status ≡ status2) × SameContents Equal Equal new new2
    reached-agree = files-listed Equal kept files (AreReached files) (λ list. refl)
        (λ g _ _. rising-listed (λ h. IsAffected (edges_of h) (paths_of_files h files)) g) new new2 status
        status2 memory memory2

    pub dirty-agree : ListsDirty kept new files status → ListsDirty kept new2 files status2
        → (status ≡ status2) × SameContents Equal Equal new new2
    dirty-agree = files-listed Equal kept files (AreDirty kept files) (λ list. refl)
        (λ g _ _. rising-listed (λ h. IsDirty (edges_of h) (paths_of_files h files) (unknown_edges kept h)) g)
        new new2 status status2 memory memory2

    same-list : (graph : Option GraphModel) (list : List ℕ) → SameNeeded graph files list list
    same-list None list = refl
    same-list (Some g) list = inl refl

    needed-listed : (g : GraphModel) → kept.graph ≡ Some g → (edges others mark mark2 : List ℕ)
        → AreNeeded files g edges mark → AreNeeded files g others mark2
        → SameNeeded kept.graph files edges others × (mark ≡ mark2)
    needed-listed g at edges others mark mark2 (is, none) (also, none2) = (
      subst (λ o. SameNeeded o files edges others) (sym at)
          (inr (nearest-numbers (edges_of g) (paths_of_files g files) edges others is.are also.are
          is.each_once also.each_once is.nearest_first also.nearest_first)),
      none ∙ sym none2,
    )

    pub needed-agree : ListsNeeded kept new files status → ListsNeeded kept new2 files status2
        → (status ≡ status2) × SameContents Equal (SameNeeded kept.graph files) new new2
    needed-agree = files-listed (SameNeeded kept.graph files) kept files (AreNeeded files)
        (same-list kept.graph) (λ g at _. needed-listed g at) new new2 status status2 memory memory2
