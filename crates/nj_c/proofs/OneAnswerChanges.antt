-- Two calls that change a session, and what they leave in it.
use Rattle.std.proofs.Common.{◌≡◌, ◌≢◌, inl, inr, ℕ, ℤ, List, Option, Some, None, MatchOption, refl, sym, ap}
use Rattle.std.proofs.Common.{map, subst, ◌∙◌}
use Rattle.std.specs.Prelude.{⊤}
use Rattle.std.proofs.lemmas.Option.{same_Some}
use Rattle.nj_scope.specs.ReadingList.{ReadStatement}
use Rattle.nj_graph.specs.Graph.{GraphModel, IsGraphOf}
use Rattle.nj_c.specs.declared.session_state.Kept.{Kept}
use Rattle.nj_c.specs.declared.status.Status.{Status}
use Rattle.nj_c.specs.declared.status.Status.TheVariants.{NotOpen, OutOfMemory}
use Rattle.nj_c.specs.Loading.{Changes}
use Rattle.nj_c.specs.OneAnswer.{Equal, IfStated, OfAnyGraph, SameChange, SameContents, SameOptions}
use Rattle.nj_c.specs.Pages.{AreKnown, ListsEdges, edge_numbers}
use Rattle.nj_c.specs.Statuses.{code_of}
use Rattle.nj_c.specs.SuppliedFiles.{supplied_for}

-- ---- options

pub equal-options : {A : Type 0} (one other : Option A) → one ≡ other → SameOptions Equal one other
equal-options None None is = tt
equal-options None (Some b) is = absurd cc
equal-options (Some a) None is = absurd cc
equal-options (Some a) (Some b) is = same_Some a b is

pub both-none : {A : Type 0} (Same : A → A → Type 0) (one other : Option A) → one ≡ None → other ≡ None
    → SameOptions Same one other
both-none Same one other is also =
    subst (λ a. SameOptions Same a other) (sym is) (subst (λ b. SameOptions Same None b) (sym also) tt)

pub both-some : {A : Type 0} (Same : A → A → Type 0) (one other : Option A) (a b : A) → one ≡ Some a
    → other ≡ Some b
    → Same a b → SameOptions Same one other
both-some Same one other a b is also same =
    subst (λ o. SameOptions Same o other) (sym is) (subst (λ o. SameOptions Same (Some a) o) (sym also) same)

-- a part of two values that are known
pub parts-agree : {K A : Type 0} (of : K → A) (one other is is2 : K) → one ≡ is → other ≡ is2 → of is ≡ of is2
    → of one ≡ of other
parts-agree of one other is is2 at at2 same = ap of at ∙ same ∙ sym (ap of at2)

-- what is known of the graph of a session
pub of-graph : (session : Option Kept) (kept : Kept) (g : GraphModel) (holds : GraphModel → Type 0)
    → session ≡ Some kept → kept.graph ≡ Some g → OfAnyGraph session holds → holds g
of-graph session kept g holds is at known =
    subst (λ o. MatchOption o ⊤ holds) at (subst (λ s. OfAnyGraph s holds) is known)

-- ---- changes

-- two calls on sessions with the same contents
module _ (before before2 after after2 : Option Kept) (one other : ℤ) (alike : before ≡ before2)
    (D E : (before after : Kept) → Status → Type 0)
    (Same : Type 0)
  where
    pub changes-agree : (after ≡ None → after2 ≡ None → one ≡ code_of NotOpen → other ≡ code_of NotOpen
        → Same)
        → ((kept new new2 : Kept) (status status2 : Status) → before ≡ Some kept → after ≡ Some new
        → after2 ≡ Some new2 → one ≡ code_of status → other ≡ code_of status2 → D kept new status
        → E kept new2 status2 → Same)
        → Changes before after one D → Changes before2 after2 other E → Same
    changes-agree closed opened is also =
        by before refl is (subst (λ b. Changes b after2 other E) (sym alike) also)
      where
        by : (b : Option Kept) → before ≡ b → Changes b after one D → Changes b after2 other E → Same
        by None at (left, is) (left2, also) = closed left left2 is also
        by (Some kept) at (new, left, (status, is, does)) (new2, left2, (status2, also, does2)) =
            opened kept new new2 status status2 at left left2 is also does does2

unless-code : (result : ℤ) (status : Status) → result ≡ code_of status → result ≢ code_of OutOfMemory
    → status ≢ OutOfMemory
unless-code result status is memory lacks = memory (is ∙ ap code_of lacks)

-- the same, if the contents of an open session determine what is left
module _ (SameGraphs : GraphModel → GraphModel → Type 0) (SameEdges : List ℕ → List ℕ → Type 0)
    (before before2 after after2 : Option Kept) (one other : ℤ) (alike : before ≡ before2)
    (D E : (before after : Kept) → Status → Type 0)
  where
    pub same-change : ((kept new new2 : Kept) (status status2 : Status) → before ≡ Some kept
        → status ≢ OutOfMemory → status2 ≢ OutOfMemory → D kept new status → E kept new2 status2
        → (status ≡ status2) × SameContents SameGraphs SameEdges new new2)
        → Changes before after one D → Changes before2 after2 other E
        → SameChange SameGraphs SameEdges one other after after2
    same-change determined is also = changes-agree before before2 after after2 one other alike D E
        (SameChange SameGraphs SameEdges one other after after2)
        (λ left left2 is also memory memory2.
        (is ∙ sym also, both-none (SameContents SameGraphs SameEdges) after after2 left left2))
        (λ kept new new2 status status2 at left left2 is also does does2 memory memory2.
        let same = determined kept new new2 status status2 at (unless-code one status is memory)
        (unless-code other status2 also memory2) does does2 in (
          is ∙ ap code_of same.0 ∙ sym also,
          both-some (SameContents SameGraphs SameEdges) after after2 new new2 left left2 same.1,
        )) is also

-- ---- statements of the graph

-- the graph of a session has statements
abbrev pub HasStatements : Option Kept → Type 0
HasStatements session = (kept : Kept) (g : GraphModel) → session ≡ Some kept → kept.graph ≡ Some g
    → (stated : List ReadStatement) × IsGraphOf g stated

pub if-stated : (session : Option Kept) (holds : Type 0) → (HasStatements session → holds)
    → IfStated session holds
if-stated session holds give = by session refl
  where
    within : (kept : Kept) → session ≡ Some kept → (o : Option GraphModel) → kept.graph ≡ o
        → MatchOption o holds (λ g. (stated : List ReadStatement) → IsGraphOf g stated → holds)
    within kept is None none = give (λ k g at there. absurd
        (let e = sym none ∙ ap (λ (m : Kept). m.graph) (same_Some kept k (sym is ∙ at)) ∙ there in cc))
    within kept is (Some g) has = λ stated graph. give (λ k h at there. (
      stated,
      subst (λ m. IsGraphOf m stated) (same_Some g h (sym has
          ∙ ap (λ (m : Kept). m.graph) (same_Some kept k (sym is ∙ at)) ∙ there)) graph,
    ))

    by : (s : Option Kept) → session ≡ s → IfStated s holds
    by None none = give (λ kept g at _. absurd (let e = sym none ∙ at in cc))
    by (Some kept) is = within kept is kept.graph refl

-- ---- sessions that stay the same

pub unchanged-contents : (SameGraphs : GraphModel → GraphModel → Type 0)
    (SameEdges : List ℕ → List ℕ → Type 0)
    (kept new new2 : Kept) → new ≡ kept → new2 ≡ kept → SameOptions SameGraphs kept.graph kept.graph
    → SameEdges (edge_numbers kept) (edge_numbers kept) → SameContents SameGraphs SameEdges new new2
unchanged-contents SameGraphs SameEdges kept new new2 is also graph edges =
    subst (λ k. SameContents SameGraphs SameEdges k new2) (sym is)
    (subst (λ k. SameContents SameGraphs SameEdges kept k) (sym also) (record {
      files = λ path. refl;
      wanted = refl;
      graph = graph;
      fault = refl;
      found = edges;
      mark = refl;
      stale = refl;
      joined = λ _. record { log = refl; unknown = refl };
      output = refl;
      errors = refl;
    }))

-- ---- lists of edges

-- two changes of the lists alone
module _ (SameEdges : List ℕ → List ℕ → Type 0) (kept new new2 : Kept)
    (left : new ≡ record kept { found = new.found; mark = new.mark })
    (left2 : new2 ≡ record kept { found = new2.found; mark = new2.mark })
  where
    part : {A : Type 0} (of : Kept → A) → of (record kept { found = new.found; mark = new.mark })
        ≡ of (record kept { found = new2.found; mark = new2.mark }) → of new ≡ of new2
    part of = parts-agree of new new2 (record kept { found = new.found; mark = new.mark })
        (record kept { found = new2.found; mark = new2.mark }) left left2

    pub same-but-lists : SameEdges (edge_numbers new) (edge_numbers new2) → new.mark.items ≡ new2.mark.items
        → SameContents Equal SameEdges new new2
    same-but-lists edges mark = record {
      files = λ path. sym (part (λ (k : Kept). supplied_for k.files path) refl);
      wanted = part (λ (k : Kept). map (λ p. p.items) k.wanted.items) refl;
      graph = equal-options new.graph new2.graph (part (λ (k : Kept). k.graph) refl);
      fault = part (λ (k : Kept). k.fault) refl;
      found = edges;
      mark = mark;
      stale = part (λ (k : Kept). k.stale.items) refl;
      joined = λ _. record {
        log = part (λ (k : Kept). k.log) refl;
        unknown = part (λ (k : Kept). k.unknown.items) refl;
      };
      output = part (λ (k : Kept). k.output.bytes) refl;
      errors = part (λ (k : Kept). k.errors.bytes) refl;
    }

module _ (SameEdges : List ℕ → List ℕ → Type 0) (kept : Kept) (files : List ℕ)
    (are : GraphModel → (edges mark : List ℕ) → Type 0)
    (refused : Status → Type 0)
    (always : (list : List ℕ) → SameEdges list list)
    (listed : (g : GraphModel) → kept.graph ≡ Some g → AreKnown g files
    → (edges others mark mark2 : List ℕ) → are g edges mark → are g others mark2
    → SameEdges edges others × (mark ≡ mark2))
    (not_both : (g : GraphModel) → kept.graph ≡ Some g → AreKnown g files → (edges mark : List ℕ)
    → are g edges mark → (status : Status) → status ≢ OutOfMemory → refused status → ⊥)
    (once : (status other : Status) → status ≢ OutOfMemory → other ≢ OutOfMemory → refused status
    → refused other → status ≡ other)
  where
    pub lists-agree : (new new2 : Kept) (status status2 : Status) → status ≢ OutOfMemory
        → status2 ≢ OutOfMemory
        → ListsEdges kept new files are refused status → ListsEdges kept new2 files are refused status2
        → (status ≡ status2) × SameContents Equal SameEdges new new2
    lists-agree new new2 status status2 memory memory2 (inl (g, at, done, known, is, left))
        (inl (g2, at2, done2, known2, is2, left2)) =
        let same : g ≡ g2 = same_Some g g2 (sym at ∙ at2) in
        let lists = listed g at known (edge_numbers new) (edge_numbers new2) new.mark.items new2.mark.items is
        (subst (λ h. are h (edge_numbers new2) new2.mark.items) (sym same) is2) in
        (done ∙ sym done2, same-but-lists SameEdges kept new new2 left left2 lists.0 lists.1)
    lists-agree new new2 status status2 memory memory2 (inl (g, at, done, known, is, left))
        (inr (why, kept2)) =
        absurd (not_both g at known (edge_numbers new) new.mark.items is status2 memory2 why)
    lists-agree new new2 status status2 memory memory2 (inr (why, kept1))
        (inl (g2, at2, done2, known2, is2, left2)) =
        absurd (not_both g2 at2 known2 (edge_numbers new2) new2.mark.items is2 status memory why)
    lists-agree new new2 status status2 memory memory2 (inr (why, kept1)) (inr (why2, kept2)) = (
      once status status2 memory memory2 why why2,
      unchanged-contents Equal SameEdges kept new new2 kept1 kept2
          (equal-options kept.graph kept.graph refl) (always (edge_numbers kept)),
    )
