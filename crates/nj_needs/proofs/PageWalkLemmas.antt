-- How a page of a walk gets its next edge, and where it ends.
use Rattle.std.proofs.lemmas.Grind.{common_steps}
use Rattle.std.proofs.Common.{◌≡◌, ◌≢◌, ℕ, zero, suc, ◌-◌, Option, Some, None, List, [], ◌∷◌, ◌++◌, refl, sym}
use Rattle.std.proofs.Common.{ap, subst, ◌∙◌, arith, append_assoc}
use Rattle.std.specs.Prelude.{option_map}
use Rattle.nj_needs.specs.Graphs.{row_of, makers_of, count_of}
use Rattle.nj_needs.specs.PageWalks.{written, left_after, StopsAt, HasSoFar}
use Rattle.nj_needs.specs.Walks.{WalkState, IsFirstPlaceOf, HasReturned, IsSameWalk}
use Rattle.nj_needs.proofs.PageLaws.{IsMarkAfter-push}

-- ---- limits

-- how many may still be taken after one was
abbrev pub one_fewer : Option ℕ → Option ℕ
one_fewer limit = option_map (λ count. count - 1) limit

-- one more may be taken, and is
written-next : (limit : Option ℕ) (e : ℕ) (left : List ℕ) → limit ≢ Some 0
    → written limit (e ∷ left) ≡ e ∷ written (one_fewer limit) left
written-next None e left some = refl
written-next (Some zero) e left some = absurd (some refl)
written-next (Some (suc more)) e left some = grind arith

left-next : (limit : Option ℕ) (e : ℕ) (left : List ℕ) → limit ≢ Some 0
    → left_after limit (e ∷ left) ≡ left_after (one_fewer limit) left
left-next None e left some = refl
left-next (Some zero) e left some = absurd (some refl)
left-next (Some (suc more)) e left some = grind arith

-- nothing is left
left-nil : (limit : Option ℕ) → left_after limit [] ≡ []
left-nil limit = grind (arith, common_steps)

-- if more edges may be taken and none is, no edge is left
none-left : (limit : Option ℕ) (left : List ℕ) → limit ≢ Some 0 → written limit left ≡ []
    → left_after limit left ≡ []
none-left None left some none = refl
none-left (Some limit) [] some none = left-nil (Some limit)
none-left (Some zero) (e ∷ left) some none = absurd (some refl)
none-left (Some (suc more)) (e ∷ left) some none = absurd cc

-- nothing comes after a list in the same list
no-more : (edges more : List ℕ) → edges ≡ edges ++ more → more ≡ []
no-more [] more is = sym is
no-more (e ∷ edges) more is = let same : edges ≡ edges ++ more = cc in no-more edges more same

-- ---- pages

module _ (begun : WalkState) (limit : Option ℕ) (edges : List ℕ) where
  -- the page gets one more edge
  pub page-next : (old new : WalkState) (room : Option ℕ) (e : ℕ) → room ≢ Some 0 → HasReturned old new e
      → IsSameWalk old new
      → HasSoFar begun limit edges old room → HasSoFar begun limit (edges ++ e ∷ []) new (one_fewer room)
  page-next old new room e some next same so_far =
      let graph = same.graph ∙ so_far.graph in
      let targets = same.targets ∙ so_far.targets in
      record {
        written =
            so_far.written ∙ ap (λ es. edges ++ es)
            (ap (written room) next.first ∙ written-next room e new.left some)
            ∙ sym (append_assoc edges (e ∷ []) (written (one_fewer room) new.left));
        left = so_far.left ∙ ap (left_after room) next.first ∙ left-next room e new.left some;
        mark =
            IsMarkAfter-push (makers_of begun.graph) (count_of begun.graph) (row_of begun.graph begun.targets)
            begun.mark edges e new.mark
            (subst (λ g. IsFirstPlaceOf g begun.targets new.mark e) graph
            (subst (λ t. IsFirstPlaceOf new.graph t new.mark e) targets next.mark));
        graph = graph;
        targets = targets;
      }

  -- a page that could have more has all that was left
  pub stops-at_none : (walk : WalkState) (room : Option ℕ) → HasSoFar begun limit edges walk room
      → written limit begun.left ≡ edges → room ≢ Some 0
      → StopsAt begun limit None
  stops-at_none walk room so_far all some =
      so_far.left ∙ none-left room walk.left some
      (no-more edges (written room walk.left) (sym all ∙ so_far.written))
