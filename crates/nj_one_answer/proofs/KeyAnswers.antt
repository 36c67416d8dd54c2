-- Two pages of keys from one mark.
use Rattle.std.proofs.Common.{◌≡◌, ◌≢◌, ◌⊎◌, inl, inr, ℕ, Bool, true, false, Option, Some, None, Result, Ok}
use Rattle.std.proofs.Common.{Err, IfOk, IfErr}
use Rattle.std.proofs.Common.{List, [], refl, sym, ap, subst, ◌∙◌}
use Rattle.std.specs.Global.{Vec}
use Rattle.std.specs.declared.alloc.AllocError.{AllocError}
use Rattle.nj_cycles.specs.Cycles.{IsAcyclic}
use Rattle.nj_edges.specs.EdgeGraphs.{EdgeGraph}
use Rattle.nj_edges.specs.Edges.{EdgePaths}
use Rattle.nj_scope.specs.ReadingList.{ReadStatement}
use Rattle.nj_needs.specs.declared.mark_fault.MarkFault.{MarkFault}
use Rattle.nj_needs.specs.declared.mark_fault.MarkFault.TheVariants as mark
use Rattle.nj_needs.specs.Graphs.{count_of, is_phony, makers_of, row_of, row_of_paths}
use Rattle.nj_needs.specs.Marks.{rest}
use Rattle.nj_needs.specs.Pages.{IsMarkAfter}
use Rattle.nj_needs.specs.PageWalks.{written, left_after, StopsAt}
use Rattle.nj_needs.specs.Walks.{WalkState}
use Rattle.nj_needs.proofs.Bridges.{AreWithin-paths}
use Rattle.nj_graph.specs.Graph.{IsGraphOf}
use Rattle.nj_graph.specs.Handles.{GraphFiles}
use Rattle.nj_keys.specs.Keys.{HaveKeys, LinesAreUnique, ListsKeys, ListsOfKeysAreUnique}
use Rattle.nj_keys.specs.Pages.{BeginsAfter, leads, left_at, makers_of_files}
use Rattle.nj_keys.specs.declared.pages.EdgeKey.{EdgeKey}
use Rattle.nj_keys.specs.declared.pages.KeyPage.{KeyPage}
use Rattle.nj_keys.specs.declared.pages.Page.{Page}
use Rattle.nj_agreement.specs.Agreement.{AgreeIfOk, AgreeUpTo}
use Rattle.nj_one_answer.specs.KeyPages.{SameKeyPage, SamePage}
use Rattle.nj_agreement.specs.Memory.{IsMarkOutOfMemory}
use Rattle.nj_agreement.proofs.MarkAnswers.{marks-after-agree}

-- where a page from a mark stops, without the walk
StopsFor : (files : GraphFiles) (begun : List ℕ) (take : Option ℕ) → Option (List ℕ) → Type 0
StopsFor files begun take None = left_after take (left_at files begun) ≡ []
StopsFor files begun take (Some mark) = (left_after take (left_at files begun) ≢ [])
    × IsMarkAfter (makers_of files.graph.built.graph) (count_of files.graph.built.graph)
    (makers_of_files files)
    begun (written take (left_at files begun)) mark

module _ (files : GraphFiles) (begun : List ℕ) where
  abbrev g : EdgeGraph
  g = files.graph.built.graph

  row-is : (walk : WalkState) (begins : BeginsAfter files begun walk)
      → row_of walk.graph walk.targets ≡ makers_of_files files
  row-is walk begins =
      ap (λ k. row_of k walk.targets) begins.begins.graph ∙ ap (row_of g) begins.begins.targets
      ∙ ap (row_of_paths g.edges) begins.are_files

  left-is : (walk : WalkState) → BeginsAfter files begun walk → walk.left ≡ left_at files begun
  left-is walk begins =
      begins.begins.sound.left
      ∙ ap (λ r. rest (makers_of walk.graph) (count_of walk.graph) (is_phony walk.graph) r walk.mark)
      (row-is walk begins)
      ∙ ap (λ k. rest (makers_of k) (count_of k) (is_phony k) (makers_of_files files) walk.mark)
      begins.begins.graph
      ∙ ap (λ m. rest (makers_of g) (count_of g) (is_phony g) (makers_of_files files) m) begins.begins.mark

  stops-for : (walk : WalkState) → BeginsAfter files begun walk → (take : Option ℕ) (mark : Option (List ℕ))
      → StopsAt walk take mark → StopsFor files begun take mark
  unfolding StopsFor
  stops-for walk begins take None is = ap (left_after take) (sym (left-is walk begins)) ∙ is
  stops-for walk begins take (Some mark) (more, is, reads) = (
    (λ nothing. more (ap (left_after take) (left-is walk begins) ∙ nothing)),
    subst (λ l. IsMarkAfter (makers_of g) (count_of g) (makers_of_files files) begun (written take l) mark)
        (left-is walk begins)
        (subst (λ m. IsMarkAfter (makers_of g) (count_of g) (makers_of_files files) m (written take walk.left)
        mark)
        begins.begins.mark
        (subst (λ k. IsMarkAfter (makers_of k) (count_of k) (makers_of_files files) walk.mark
        (written take walk.left) mark) begins.begins.graph
        (subst (λ r. IsMarkAfter (makers_of walk.graph) (count_of walk.graph) r walk.mark
        (written take walk.left) mark) (row-is walk begins) is))),
  )

  pub marks-agree : IsAcyclic (makers_of g) (count_of g) → (walk walk2 : WalkState)
      → BeginsAfter files begun walk
      → BeginsAfter files begun walk2 → (take : Option ℕ) (a b : Option (List ℕ)) → StopsAt walk take a
      → StopsAt walk2 take b → a ≡ b
  unfolding StopsFor
  marks-agree acyclic walk walk2 begins begins2 take a b is also =
      by a b (stops-for walk begins take a is) (stops-for walk2 begins2 take b also)
    where
      by : (a b : Option (List ℕ)) → StopsFor files begun take a → StopsFor files begun take b → a ≡ b
      by None None is also = refl
      by None (Some n) is (more, also) = absurd (more is)
      by (Some m) None (more, is) also = absurd (more also)
      by (Some m) (Some n) (more, is) (more2, also) =
          ap Some (marks-after-agree (makers_of g) (count_of g) (makers_of_files files) acyclic
          (AreWithin-paths g.edges files.paths) begun (written take (left_at files begun)) m n is also)

-- why there is no page
abbrev IsRefused : (meant : Bool) → MarkFault → Type 0
IsRefused meant fault = (fault ≡ mark.OutOfMemory) ⊎ ((fault ≡ mark.MarkOutOfRange) × (meant ≡ false))

unless-memory : (meant : Bool) (fault : MarkFault) → meant ≡ true → IsRefused meant fault
    → IsMarkOutOfMemory fault
unless-memory meant fault is (inl none) = none
unless-memory meant fault is (inr (range, bad)) = absurd (let e = sym is ∙ bad in cc)

pub pages-agree : LinesAreUnique → (additions folders : List (List ℕ)) (edges : List EdgePaths)
    (files : GraphFiles) (entries : List ReadStatement) → IsGraphOf files.graph entries
    → (begun : List ℕ) (take : Option ℕ) (a b : Result Page MarkFault)
    → IfOk a (λ _. leads files begun ≡ true) → IfErr a (IsRefused (leads files begun))
    → IfOk a (λ p. ListsKeys additions folders edges entries
    (written take (left_at files begun))
    p.lines.items)
    → IfOk a (λ p. (walk : WalkState) × BeginsAfter files begun walk × StopsAt walk take p.mark)
    → IfOk b (λ _. leads files begun ≡ true) → IfErr b (IsRefused (leads files begun))
    → IfOk b (λ p. ListsKeys additions folders edges entries
    (written take (left_at files begun))
    p.lines.items)
    → IfOk b (λ p. (walk : WalkState) × BeginsAfter files begun walk × StopsAt walk take p.mark)
    → AgreeUpTo SamePage IsMarkOutOfMemory a b
pages-agree one additions folders edges files entries graph begun take (Ok a) (Ok b) _ _ lines
    (walk, begins, stops)
    _ _
    lines2
    (walk2, begins2, stops2) = record {
      lines = one additions folders edges entries (written take (left_at files begun))
          a.lines.items
          b.lines.items lines lines2;
      mark = marks-agree files begun graph.acyclic walk walk2 begins begins2 take a.mark b.mark stops stops2;
    }
pages-agree one additions folders edges files entries graph begun take (Ok a) (Err f) valid _ _ _ _ bad _ _ =
    unless-memory (leads files begun) f valid bad
pages-agree one additions folders edges files entries graph begun take (Err e) (Ok b) _ bad _ _ valid _ _ _ =
    unless-memory (leads files begun) e valid bad
pages-agree one additions folders edges files entries graph begun take (Err e) (Err f) _ (inl none) _ _ _ _ _
    _ =
    inr (inl none)
pages-agree one additions folders edges files entries graph begun take (Err e) (Err f) _ (inr bad) _ _ _
    (inl none)
    _ _ =
    inr (inr none)
pages-agree one additions folders edges files entries graph begun take (Err e) (Err f) _ (inr (range, bad)) _
    _ _
    (inr (range2, bad2)) _ _ =
    inl (range ∙ sym range2)

pub key_pages-agree : ListsOfKeysAreUnique → (additions folders : List (List ℕ)) (edges : List EdgePaths)
    (files : GraphFiles) (entries : List ReadStatement) → IsGraphOf files.graph entries
    → (begun : List ℕ) (take : Option ℕ) (a b : Result KeyPage MarkFault)
    → IfOk a (λ _. leads files begun ≡ true) → IfErr a (IsRefused (leads files begun))
    → IfOk a (λ p. HaveKeys additions folders edges entries
    (written take (left_at files begun))
    p.keys.items)
    → IfOk a (λ p. (walk : WalkState) × BeginsAfter files begun walk × StopsAt walk take p.mark)
    → IfOk b (λ _. leads files begun ≡ true) → IfErr b (IsRefused (leads files begun))
    → IfOk b (λ p. HaveKeys additions folders edges entries
    (written take (left_at files begun))
    p.keys.items)
    → IfOk b (λ p. (walk : WalkState) × BeginsAfter files begun walk × StopsAt walk take p.mark)
    → AgreeUpTo SameKeyPage IsMarkOutOfMemory a b
key_pages-agree one additions folders edges files entries graph begun take (Ok a) (Ok b) _ _ lines
    (walk, begins, stops)
    _ _
    lines2
    (walk2, begins2, stops2) = record {
      keys = one additions folders edges entries (written take (left_at files begun))
          a.keys.items
          b.keys.items lines lines2;
      mark = marks-agree files begun graph.acyclic walk walk2 begins begins2 take a.mark b.mark stops stops2;
    }
key_pages-agree one additions folders edges files entries graph begun take (Ok a) (Err f) valid _ _ _ _ bad _
    _ =
    unless-memory (leads files begun) f valid bad
key_pages-agree one additions folders edges files entries graph begun take (Err e) (Ok b) _ bad _ _ valid _ _
    _ =
    unless-memory (leads files begun) e valid bad
key_pages-agree one additions folders edges files entries graph begun take (Err e) (Err f) _ (inl none) _ _ _
    _ _ _ =
    inr (inl none)
key_pages-agree one additions folders edges files entries graph begun take (Err e) (Err f) _ (inr bad) _ _ _
    (inl none)
    _ _ =
    inr (inr none)
key_pages-agree one additions folders edges files entries graph begun take (Err e) (Err f) _
    (inr (range, bad)) _ _ _
    (inr (range2, bad2)) _ _ =
    inl (range ∙ sym range2)

pub keys-agree : ListsOfKeysAreUnique → (additions folders : List (List ℕ)) (edges : List EdgePaths)
    (entries : List ReadStatement) (numbers : List ℕ) (a b : Result (Vec EdgeKey) AllocError)
    → IfOk a (λ keys. HaveKeys additions folders edges entries numbers keys.items)
    → IfOk b (λ keys. HaveKeys additions folders edges entries numbers keys.items)
    → AgreeIfOk (λ (one other : Vec EdgeKey). one.items ≡ other.items) a b
keys-agree one additions folders edges entries numbers (Ok a) (Ok b) has also =
    one additions folders edges entries numbers a.items b.items has also
keys-agree one additions folders edges entries numbers (Ok a) (Err f) has also = tt
keys-agree one additions folders edges entries numbers (Err e) (Ok b) has also = tt
keys-agree one additions folders edges entries numbers (Err e) (Err f) has also = tt
