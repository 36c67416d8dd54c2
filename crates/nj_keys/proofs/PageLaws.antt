-- A page of keys and the pages after it are all keys.
use Rattle.std.proofs.Common.{◌≡◌, ℕ, true, Option, Some, None, List, ◌++◌, refl, sym, ap, ◌∙◌, subst}
use Rattle.std.proofs.Common.{append-nil, take-append-drop}
use Rattle.std.specs.List.{concat}
use Rattle.nj_needs.specs.Graphs.{count_of, is_phony, makers_of, row_of}
use Rattle.nj_needs.specs.Pages.{IsMarkAfter}
use Rattle.nj_needs.specs.PageWalks.{left_after, written, IsMarkOf}
use Rattle.nj_needs.specs.Walks.{WalkState}
use Rattle.nj_needs.proofs.Bridges.{AreWithin-paths}
use Rattle.nj_needs.proofs.PageLaws.{mark-keeps_the_rest}
use Rattle.nj_needs.proofs.Striking.{without-none}
use Rattle.nj_graph.specs.ReadingList.{ReadStatement}
use Rattle.nj_graph.specs.declared.FileNo.{FileNo}
use Rattle.nj_graph.specs.Edges.{EdgePaths}
use Rattle.nj_graph.specs.Graph.{edges_of, IsGraphOf}
use Rattle.nj_graph.specs.Handles.{edges_in, GraphFiles}
use Rattle.nj_keys.specs.Keys.{ListsKeys}
use Rattle.nj_keys.specs.Keys.ListsKeys.{none as nothing}
use Rattle.nj_keys.specs.Pages.{leads, left_at, left_from, makers_of_files, ArePages, BeginsAfter}
use Rattle.nj_keys.specs.Pages.{PagesAreAll}
use Rattle.nj_keys.specs.Pages.{PagesLeaveTheRest, StartLeavesAll}
use Rattle.nj_keys.specs.Pages.ArePages.{none, page}
use Rattle.nj_keys.proofs.LineLaws.{join}
use Rattle.nj_keys.proofs.PageLemmas.{left-is, row-is}

split : (limit : Option ℕ) (left : List ℕ) → left ≡ written limit left ++ left_after limit left
split None left = sym (append-nil left)
split (Some most) left = sym (take-append-drop most left)

module _ (files : GraphFiles) (entries : List ReadStatement) (graph : IsGraphOf files.graph entries)
    (mark : List ℕ) where
  -- the mark after some edges
  abbrev IsAfter : (edges next : List ℕ) → Type 0
  IsAfter edges next =
      let g = files.graph.built.graph in
      IsMarkAfter (makers_of g) (count_of g) (makers_of_files files) mark edges next

  is-after : (walk : WalkState) (begins : BeginsAfter files mark walk) (edges next : List ℕ)
      → IsMarkOf walk edges next
      → IsAfter edges next
  is-after walk begins edges next is =
      let g = files.graph.built.graph in
      let b = begins.begins in
      subst (λ row. IsMarkAfter (makers_of g) (count_of g) row mark edges next)
      (row-is files files.graph begins.numbers refl begins.are_files)
      (subst (λ m. IsMarkAfter (makers_of g) (count_of g) (row_of g begins.numbers) m edges next) b.mark
      (subst (λ (ns : List FileNo). IsMarkAfter (makers_of g) (count_of g) (row_of g ns) walk.mark edges next)
      b.targets
      (subst (λ h. IsMarkAfter (makers_of h) (count_of h) (row_of h walk.targets) walk.mark edges next)
      b.graph is)))

  keeps : (walk : WalkState) (begins : BeginsAfter files mark walk) (valid : leads files mark ≡ true)
      (limit : Option ℕ) (next : List ℕ) → IsMarkOf walk (written limit walk.left) next
      → (leads files next ≡ true) × (left_at files next ≡ left_after limit (left_at files mark))
  keeps walk begins valid limit next is =
      let g = files.graph.built.graph in
      let left = left-is files files.graph begins.numbers refl begins.are_files mark walk begins.begins in
      mark-keeps_the_rest (makers_of g) (count_of g) (is_phony g) (makers_of_files files) graph.acyclic
      (AreWithin-paths (edges_of files.graph) files.paths) mark (written limit (left_at files mark))
      (left_after limit (left_at files mark)) next valid (split limit (left_at files mark))
      (is-after walk begins (written limit (left_at files mark)) next
      (subst (λ es. IsMarkOf walk (written limit es) next) left is))

pub leaves : PagesLeaveTheRest
leaves files entries graph mark limit None stopped =
    let left = left-is files files.graph stopped.begins.numbers refl stopped.begins.are_files mark
    stopped.walk
    stopped.begins.begins in (
      tt,
      split limit (left_at files mark)
          ∙ ap (λ es. written limit (left_at files mark) ++ es)
          (ap (left_after limit) (sym left) ∙ stopped.stops),
    )
leaves files entries graph mark limit (Some next) stopped =
    let kept = keeps files entries graph mark stopped.walk stopped.begins stopped.valid limit next
    stopped.stops.1 in (
      kept.0,
      split limit (left_at files mark)
          ∙ ap (λ es. written limit (left_at files mark) ++ es) (sym kept.1),
    )

module _ (additions folders : List (List ℕ)) (edges : List EdgePaths) (files : GraphFiles)
    (entries : List ReadStatement) (graph : IsGraphOf files.graph entries) where
  joined : (mark : Option (List ℕ)) (texts : List (List ℕ))
      → ArePages additions folders edges files entries mark texts
      → ListsKeys additions folders edges entries (left_from files mark) (concat texts)
  joined _ _ none = nothing
  joined _ _ (page {mark = mark} {text = text} {next = next} {texts = texts} limit stops lists more) =
      subst (λ ns. ListsKeys additions folders edges entries ns (text ++ concat texts))
      (sym (leaves files entries graph mark limit next stops).1)
      (join additions folders edges entries (written limit (left_at files mark))
      (left_from files next)
      text
      (concat texts) lists (joined next texts more))

pub all-pages : PagesAreAll
all-pages additions folders edges files entries graph mark texts pages =
    joined additions folders edges files entries graph (Some mark) texts pages

pub start : StartLeavesAll
start files = ap (edges_in files.graph) (without-none _)
