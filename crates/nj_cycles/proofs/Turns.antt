-- The turns of the walk, as the code takes them.
use Rattle.std.proofs.lemmas.Grind.{common_steps}
use Rattle.std.proofs.Common.{◌≡◌, ◌≢◌, ℕ, ◌+◌, ◌-◌, ◌<◌, ◌≤◌, Bool, false, Option, Some, None, Result}
use Rattle.std.proofs.Common.{List, [], ◌∷◌, ◌++◌, length, set, sym, ap, subst, ◌∙◌, inl, inr, arith}
use Rattle.std.specs.Prelude.{slice_get, slice_index, sum_by, IfSome, OnOk}
use Rattle.std.proofs.lemmas.List.{get_or-set_same}
use Rattle.std.proofs.lemmas.Option.{slice_get_within, slice_get_cases}
use Rattle.nj_cycles.specs.declared.finishing_order.Stage.{Stage}
use Rattle.nj_cycles.specs.declared.finishing_order.Stage.TheVariants.{Unseen, Open, Done}
use Rattle.nj_cycles.specs.declared.finishing_order.Walk.{Walk}
use Rattle.nj_cycles.specs.Cycles.{Needs, AreEdges}
use Rattle.nj_cycles.specs.Inside.Walks.{stage_of, stage_of_maker, turns_of, Sound, WalkIsSound, IsSoundAt}
use Rattle.nj_cycles.specs.Inside.Walks.{EndsAt, TakesTurn, Walked}
use Rattle.nj_cycles.proofs.Places.{needs_got}
use Rattle.nj_cycles.proofs.Walking.{stage_cases, kept_by_set, open_is_seen, done_is_seen, passes, opens}
use Rattle.nj_cycles.proofs.Walking.{top_in, top_open, top_links, finishes}

pub on_ok_both : {T E P Q R : Type 0} (r : Result T E) → (P → Q → R) → OnOk r P → OnOk r Q → OnOk r R
on_ok_both r h p q = grind arith

pub to_comes : (makers : ℕ → List (Option ℕ)) (count : ℕ) (w : Walk) (stages : List Stage)
    (next path order : List ℕ) (meets : Bool) → w.stages.items ≡ stages → w.next.items ≡ next
    → w.path.items ≡ path → w.order.items ≡ order → w.meets_open ≡ meets
    → Sound makers count stages next path order meets → WalkIsSound makers count w
to_comes makers count w stages next path order meets a b c d e s = grind arith

fewer_by_set : (stages : List Stage) (m : ℕ) (old new : Stage) → m < length stages → stage_of stages m ≡ old
    → turns_of new < turns_of old → sum_by turns_of (set stages m new) < sum_by turns_of stages
fewer_by_set stages m old new lt is less = grind (arith, common_steps)

same_old : (makers : ℕ → List (Option ℕ)) (count : ℕ) (old mid new : Walk)
    → mid.stages.items ≡ old.stages.items → TakesTurn makers count mid new → TakesTurn makers count old new
same_old makers count old mid new same t = grind arith

module _ (makers : ℕ → List (Option ℕ)) (count : ℕ) (old mid new : Walk) (e : ℕ)
    (same : mid.stages.items ≡ old.stages.items)
    (s : IsSoundAt makers count mid e)
    (same_next : new.next.items ≡ mid.next.items) (same_meets : new.meets_open ≡ mid.meets_open) where
  pub turn-opens : (m : ℕ) (grown : List ℕ) → AreEdges makers count → EndsAt makers e mid (Some m)
      → new.order.items ≡ mid.order.items → grown ≡ mid.path.items ++ e ∷ []
      → new.path.items ≡ grown ++ m ∷ [] → new.stages.items ≡ set mid.stages.items m Open
      → TakesTurn makers count old new
  turn-opens m grown edges ends same_order with_e path stages =
      let needs : Needs makers e m = needs_got makers e (slice_index mid.next.items e) m ends.0 in
      let m_in : m < count = (edges e m needs).1 in
      let inside : m < length mid.stages.items = omega (arith, m_in, s.stages_len) in
      same_old makers count old mid new same (record {
        sound = to_comes makers count new (set mid.stages.items m Open) mid.next.items
            ((mid.path.items ++ e ∷ []) ++ m ∷ []) mid.order.items mid.meets_open stages same_next
            (path ∙ ap (λ (p : List ℕ). p ++ m ∷ []) with_e) same_order same_meets
            (opens makers count mid.stages.items mid.next.items (mid.path.items ++ e ∷ []) mid.order.items
            mid.meets_open s m m_in ends.1 (top_links makers count mid.stages.items mid.next.items
            mid.path.items mid.order.items mid.meets_open e s m needs));
        fewer = rw stages (fewer_by_set mid.stages.items m Unseen Open inside ends.1 (omega arith));
        kept = rw stages (kept_by_set mid.stages.items m Open inside open_is_seen);
      })

  pub turn-finishes : EndsAt makers e mid None → new.path.items ≡ mid.path.items
      → new.order.items ≡ mid.order.items ++ e ∷ [] → new.stages.items ≡ set mid.stages.items e Done
      → TakesTurn makers count old new
  turn-finishes passed path grown stages =
      let e_in : e < count = top_in makers count mid.stages.items mid.next.items mid.path.items
      mid.order.items mid.meets_open e s in
      let inside : e < length mid.stages.items = omega (arith, e_in, s.stages_len) in
      same_old makers count old mid new same (record {
        sound = to_comes makers count new (set mid.stages.items e Done) mid.next.items mid.path.items
            (mid.order.items ++ e ∷ []) mid.meets_open stages same_next path grown same_meets
            (finishes makers count mid.stages.items mid.next.items mid.path.items mid.order.items
            mid.meets_open e s passed);
        fewer = rw stages (fewer_by_set mid.stages.items e Open Done inside
            (top_open makers count mid.stages.items mid.next.items mid.path.items mid.order.items
            mid.meets_open e s) (omega arith));
        kept = rw stages (kept_by_set mid.stages.items e Done inside done_is_seen);
      })

-- ---- an edge passes its next input

pub next_maker : {X : Type 0} (makers : ℕ → List (Option ℕ)) (count : ℕ) (stages : List X) (e i : ℕ)
    (m : Option ℕ) → AreEdges makers count → length stages ≡ count → slice_get (makers e) i ≡ Some m
    → IfSome m (λ f. f < length stages)
next_maker makers count stages e i None edges len got = tt
next_maker makers count stages e i (Some f) edges len got =
    omega (arith, (edges e f (needs_got makers e i f got)).1, len)

pub ends_unseen : (makers : ℕ → List (Option ℕ)) (e : ℕ) (w : Walk) (m : Option ℕ) (stage : Stage)
    → slice_get (makers e) (slice_index w.next.items e) ≡ Some m → stage ≡ stage_of_maker w.stages.items m
    → stage ≡ Unseen → EndsAt makers e w m
ends_unseen makers e w m stage got is unseen = grind arith

pub past_inputs : (row : List (Option ℕ)) (i : ℕ) → slice_get row i ≡ None → length row ≤ i
past_inputs row i got = grind (arith, slice_get_cases)

pub fewer_left : (makers : ℕ → List (Option ℕ)) (next : List ℕ) (e i : ℕ) (m : Option ℕ) → e < length next
    → i ≡ slice_index next e → slice_get (makers e) (slice_index next e) ≡ Some m
    → length (makers e) - slice_index (set next e (i + 1)) e < length (makers e) - slice_index next e
fewer_left makers next e i m lt h got = grind (arith, get_or-set_same, slice_get_within)

-- the maker of the input is not unseen, and where it is open that was noted
pub passes_next : (makers : ℕ → List (Option ℕ)) (count : ℕ) (old : Walk) (e i : ℕ) (m : Option ℕ)
    (stage : Stage) (after : Bool) → IsSoundAt makers count old e → i ≡ slice_index old.next.items e
    → slice_get (makers e) (slice_index old.next.items e) ≡ Some m → stage ≡ stage_of_maker old.stages.items m
    → stage ≢ Unseen → (after ≡ false → (old.meets_open ≡ false) × (stage ≢ Open))
    → Sound makers count old.stages.items (set old.next.items e (i + 1)) (old.path.items ++ e ∷ [])
    old.order.items after
passes_next makers count old e i m stage after s at got is seen done =
    subst (λ k. Sound makers count old.stages.items (set old.next.items e (k + 1)) (old.path.items ++ e ∷ [])
    old.order.items after) (sym at)
    (passes makers count old.stages.items old.next.items (old.path.items ++ e ∷ []) old.order.items
    old.meets_open s e after (top_in makers count old.stages.items old.next.items old.path.items
    old.order.items old.meets_open e s)
    (top_open makers count old.stages.items old.next.items old.path.items old.order.items old.meets_open e s)
    (λ f made un. seen (here f made ∙ un))
    (λ unmet. (
      (done unmet).0,
      λ f made. elim (stage_cases (stage_of old.stages.items f)) [
        | inl un ↦ absurd (seen (here f made ∙ un))
        | inr q ↦ elim q [ inl h ↦ absurd ((done unmet).1 (here f made ∙ h)) | inr h ↦ h ]
      ],
    )))
  where
    here : (f : ℕ) → slice_get (makers e) (slice_index old.next.items e) ≡ Some (Some f)
        → stage ≡ stage_of old.stages.items f
    here f made = let both : Some m ≡ Some (Some f) = sym got ∙ made in let same : m ≡ Some f = cc in
        is ∙ ap (stage_of_maker old.stages.items) same

-- ---- the walk

-- the walk begins at an unseen edge with nothing open
pub begins : (makers : ℕ → List (Option ℕ)) (count : ℕ) (old new : Walk) (m : ℕ)
    → WalkIsSound makers count old → old.path.items ≡ [] → m < count → stage_of old.stages.items m ≡ Unseen
    → new.path.items ≡ old.path.items ++ m ∷ [] → new.stages.items ≡ set old.stages.items m Open
    → new.next.items ≡ old.next.items → new.order.items ≡ old.order.items → new.meets_open ≡ old.meets_open
    → WalkIsSound makers count new
begins makers count old new m s none lt unseen path stages same_next same_order same_meets =
    to_comes makers count new (set old.stages.items m Open) old.next.items (old.path.items ++ m ∷ [])
    old.order.items old.meets_open stages same_next path same_order same_meets
    (opens makers count old.stages.items old.next.items old.path.items old.order.items old.meets_open s m lt
    unseen (λ i h. absurd (omega (arith, h, ap length none))))

-- where nothing is open and each edge is seen, all are finished
pub ends : (makers : ℕ → List (Option ℕ)) (count : ℕ) (w : Walk) → WalkIsSound makers count w
    → w.path.items ≡ [] → AreEdges makers count → ((e : ℕ) → e < count → stage_of w.stages.items e ≢ Unseen)
    → Walked makers count w.order.items
ends makers count w s none edges seen = grind arith
