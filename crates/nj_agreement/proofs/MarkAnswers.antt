-- The marks at which two pages of walks end.
use Rattle.std.proofs.Common.{◌≡◌, ℕ, Option, Some, None, List}
use Rattle.std.proofs.Common.{refl, sym, ap, subst, ◌∙◌}
use Rattle.std.specs.Prelude.{MatchOption}
use Rattle.std.specs.List.{last_or}
use Rattle.nj_cycles.specs.Cycles.{IsAcyclic}
use Rattle.nj_needs.specs.Graphs.{count_of, makers_of, row_of}
use Rattle.nj_needs.specs.Needs.{AreWithin}
use Rattle.nj_needs.specs.Marks.{IsFirstPlace}
use Rattle.nj_needs.specs.Pages.{IsMarkAfter}
use Rattle.nj_needs.specs.PageWalks.{written, left_after, StopsAt}
use Rattle.nj_needs.specs.Walks.{WalkState}
use Rattle.nj_needs.proofs.Bridges.{AreWithin-from}
use Rattle.nj_needs.proofs.PlaceLaws.{first-places_are_one}
use Rattle.nj_agreement.specs.Walks.{SameWalk}

pub marks-after-agree : (makers : ℕ → List (Option ℕ)) (count : ℕ) (row : List (Option ℕ))
    → IsAcyclic makers count
    → AreWithin row count → (begun edges one other : List ℕ) → IsMarkAfter makers count row begun edges one
    → IsMarkAfter makers count row begun edges other → one ≡ other
marks-after-agree makers count row acyclic within begun edges one other is also =
    by (last_or None edges) is also
  where
    by : (last : Option ℕ) → MatchOption last (one ≡ begun) (λ e. IsFirstPlace makers count row one e)
        → MatchOption last (other ≡ begun) (λ e. IsFirstPlace makers count row other e) → one ≡ other
    by None is also = is ∙ sym also
    by (Some e) is also = first-places_are_one makers count row acyclic within one other e is also

-- where pages of one walk stop
pub stops-agree : (walk : WalkState) → IsAcyclic (makers_of walk.graph) (count_of walk.graph)
    → (take : Option ℕ)
    → (one other : Option (List ℕ)) → StopsAt walk take one → StopsAt walk take other → one ≡ other
stops-agree walk acyclic take None None is also = refl
stops-agree walk acyclic take None (Some b) is (more, also, reads) = absurd (more is)
stops-agree walk acyclic take (Some a) None (more, is, reads) also = absurd (more also)
stops-agree walk acyclic take (Some a) (Some b) (more, is, reads) (more2, also, reads2) =
    ap Some (marks-after-agree (makers_of walk.graph) (count_of walk.graph) (row_of walk.graph walk.targets)
    acyclic
    (AreWithin-from walk.graph walk.targets) walk.mark (written take walk.left) a b is also)

-- and of walks that are the same
pub same-stops : (walk other : WalkState) → SameWalk walk other → (take : Option ℕ) (mark : Option (List ℕ))
    → StopsAt other take mark → StopsAt walk take mark
same-stops walk other same take None is = ap (left_after take) same.left ∙ is
same-stops walk other same take (Some mark) (more, is, reads) = (
  (λ none. more (ap (left_after take) (sym same.left) ∙ none)),
  subst (λ g. IsMarkAfter (makers_of g) (count_of g) (row_of g walk.targets) walk.mark
      (written take walk.left) mark)
      (sym same.graph)
      (subst (λ t. IsMarkAfter (makers_of other.graph) (count_of other.graph) (row_of other.graph t) walk.mark
      (written take walk.left) mark) (sym same.targets)
      (subst (λ m. IsMarkAfter (makers_of other.graph) (count_of other.graph)
      (row_of other.graph other.targets) m
      (written take walk.left) mark) (sym same.mark)
      (subst (λ l. IsMarkAfter (makers_of other.graph) (count_of other.graph)
      (row_of other.graph other.targets)
      other.mark (written take l) mark) (sym same.left) is))),
  reads,
)
