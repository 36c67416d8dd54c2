-- Numbers of files, lists of edges, and pages.
use Rattle.std.proofs.Common.{◌≡◌, ◌<◌, ◌+◌, inl, inr, ℕ, ℤ, Option, Some, Result, Ok, Err, IfOk, IfErr, List}
use Rattle.std.proofs.Common.{[], ◌∷◌, ◌++◌, All, false, length, take, get_or, refl, sym, ap, subst, ◌∙◌}
use Rattle.std.proofs.lemmas.List.{map_more, get_or-map, length-map, take_more}
use Rattle.std.proofs.lemmas.List.Elements.{All-push}
use Rattle.nj_names.specs.declared.files.FileNo.{FileNo}
use Rattle.nj_edges.specs.EdgeGraphs.{EdgeGraph}
use Rattle.nj_needs.specs.Graphs.{makers_of, row_of}
use Rattle.nj_needs.specs.Marks.{is_valid}
use Rattle.nj_graph.specs.Graph.{GraphModel}
use Rattle.nj_c.specs.declared.session_state.Kept.{Kept}
use Rattle.nj_c.specs.declared.pages.Page.{Page}
use Rattle.nj_c.specs.declared.status.Status.{Status}
use Rattle.nj_c.specs.Loading.{Changes}
use Rattle.nj_c.specs.Pages.{edge_numbers, mark_of, numbered, AreBelow, AreKnown, AreRefused}
use Rattle.nj_c.specs.Pages.{IsBadMark, IsPage, IsPageAfter, ListsEdges, PageRefused}
use Rattle.nj_c.specs.Statuses.{code_of}
use Rattle.nj_c.specs.Inside.PagesHeld.{numbers_of, FindsEdges, KeepsPage, MarkRefused}
use Rattle.nj_c.proofs.AskLemmas.{changes}

abbrev pub as_file : ℕ → FileNo
as_file n = record { 0 = n }

pub files-more : (found new : List FileNo) (numbers : List ℕ) (i : ℕ) → i < length numbers
    → found ≡ numbered (take i numbers) → new ≡ found ++ as_file (get_or numbers i 0) ∷ []
    → new ≡ numbered (take (i + 1) numbers)
files-more found new numbers i below held more =
    more ∙ ap (λ fs. fs ++ as_file (get_or numbers i 0) ∷ []) held ∙ sym (map_more as_file numbers i 0 below)

pub below-more : (count : ℕ) (numbers : List ℕ) (i : ℕ) → i < length numbers → get_or numbers i 0 < count
    → AreBelow count (take i numbers) → AreBelow count (take (i + 1) numbers)
below-more count numbers i below under held =
    subst (AreBelow count) (sym (take_more numbers i 0 below))
    (All-push (λ m. m < count) (take i numbers) (get_or numbers i 0) held under)

pub all-numbered : (count : ℕ) (numbers : List ℕ) → AreBelow count numbers
    → All (λ file. file.0 < count) (numbered numbers)
all-numbered count numbers held k d within =
    let below = subst (λ n. k < n) (length-map numbers as_file) within in
    subst (λ n. n < count) (ap (λ f. f.0) (sym (get_or-map as_file numbers k 0 d below))) (held k 0 below)

-- what holds of the edges of a graph and of files holds of equal edges and files
pub same-files : (holds : EdgeGraph → List FileNo → Type 0) {graph other : EdgeGraph}
    {files others : List FileNo} → graph ≡ other → files ≡ others → holds graph files → holds other others
same-files holds {graph = graph} {others = others} same are held =
    subst (λ e. holds e others) same (subst (holds graph) are held)

-- ---- pages

pub page-refused : (graph : Option GraphModel) (g : GraphModel) (targets text : List ℕ) (why : Type 0)
    (status : Status) → graph ≡ Some g → AreKnown g targets
    → (why → IsBadMark g.built.graph (numbered targets) text)
    → MarkRefused why status → PageRefused graph targets text status
page-refused graph g targets text why status was known bad (inl memory) =
    inl (subst (AreRefused graph targets) (sym memory) tt)
page-refused graph g targets text why status was known bad (inr (is, because)) =
    inr (g, was, known, is, bad because)

pub page-found : (kept : Kept) (g : GraphModel) (graph : EdgeGraph) (targets text : List ℕ)
    (files : List FileNo) (mark : List ℕ) (limit : ℕ) (result : Result Page Status)
    → kept.graph ≡ Some g → graph ≡ g.built.graph
    → AreKnown g targets → files ≡ numbered targets → mark_of text ≡ Some mark
    → IfOk result (λ page. IsPage graph files mark limit (numbers_of page.edges.items) page.mark.items)
    → IfErr result (MarkRefused (is_valid (makers_of graph) (row_of graph files) mark ≡ false))
    → FindsEdges kept targets (IsPageAfter targets text limit) (PageRefused kept.graph targets text) result
page-found kept g graph targets text files mark limit (Ok page) was same known are is found none =
    let edges = numbers_of page.edges.items in (
      g,
      was,
      known,
      (mark, is, same-files (λ e fs. IsPage e fs mark limit edges page.mark.items) same are found),
    )
page-found kept g graph targets text files mark limit (Err status) was same known are is none refused =
    page-refused kept.graph g targets text _ status was known
    (λ invalid. inr (
      mark,
      is,
      same-files (λ e fs. is_valid (makers_of e) (row_of e fs) mark ≡ false) same are invalid,
    )) refused

-- ---- lists

-- what was found of a session's graph is listed, or the status says why not
pub lists : (files : List ℕ) (are : Kept → GraphModel → (edges mark : List ℕ) → Type 0)
    (refused : Kept → Status → Type 0) (found : Result Page Status) (status : Status)
    {session after : Option Kept} {result : ℤ} {kept before new : Kept}
    → kept ≡ before → Some before ≡ session → after ≡ Some new → result ≡ code_of status
    → FindsEdges kept files (are kept) (refused kept) found → KeepsPage before new found status
    → Changes session after result (λ kept then. ListsEdges kept then files (are kept) (refused kept))
lists files are refused found status {session = session} {after = after} {result = result} {before = before}
    {new = new} same was put is finds keeps =
    changes session before new after result status
    (λ kept then. ListsEdges kept then files (are kept) (refused kept)) was put is
    (listed found (subst (λ k. FindsEdges k files (are k) (refused k) found) same finds) keeps)
  where
    listed : (found : Result Page Status) → FindsEdges before files (are before) (refused before) found
        → KeepsPage before new found status
        → ListsEdges before new files (are before) (refused before) status
    listed (Ok page) (g, graph, known, held) (done, kept) = inl (
      g,
      graph,
      done,
      known,
      subst (λ k. are before g (edge_numbers k) k.mark.items) (sym kept) held,
      subst (λ k. k ≡ record before { found = k.found; mark = k.mark }) (sym kept) refl,
    )
    listed (Err why) none (same, kept) = inr (subst (refused before) (sym same) none, kept)
