-- Two walks over the commands that targets need.
use Rattle.std.proofs.Common.{◌≡◌, inl, inr, ℕ, Option, Some, None, Result, Ok, Err, IfOk, IfErr}
use Rattle.std.proofs.Common.{List, [], ◌∷◌, ◌++◌, refl, sym, ap, subst, ◌∙◌}
use Rattle.std.proofs.lemmas.Option.{same_Some}
use Rattle.std.proofs.lemmas.List.{take-append-drop, append-nil}
use Rattle.nj_cycles.specs.Cycles.{IsAcyclic}
use Rattle.nj_names.specs.declared.files.FileNo.{FileNo}
use Rattle.nj_edges.specs.declared.edges.EdgeNo.{EdgeNo}
use Rattle.nj_edges.specs.EdgeGraphs.{EdgeGraph}
use Rattle.nj_needs.specs.declared.mark_fault.MarkFault.{MarkFault}
use Rattle.nj_needs.specs.declared.mark_fault.MarkFault.TheVariants.{BadMark, MarkOutOfRange, OutOfMemory}
use Rattle.nj_needs.specs.Graphs.{count_of, makers_of, row_of}
use Rattle.nj_needs.specs.MarkFaults.{IsReadFault}
use Rattle.nj_needs.specs.PageWalks.{written, left_after, IsMarkOf, HasSoFar, GoesOn, StopsAt}
use Rattle.nj_needs.specs.Resuming.{ResumeIs}
use Rattle.nj_needs.specs.Walks.{WalkState, BeginsAt, IsSameWalk, NextIs, HasReturned, HasNone, number_of}
use Rattle.nj_needs.specs.Walks.{rest_of, IsFirstPlaceOf}
use Rattle.nj_needs.proofs.Bridges.{AreWithin-from}
use Rattle.nj_needs.proofs.PlaceLaws.{first-places_are_one}
use Rattle.nj_agreement.specs.Agreement.{AgreeUpTo, AgreeBut, AgreeIfOk}
use Rattle.nj_agreement.specs.Memory.{IsMarkOutOfMemory}
use Rattle.nj_agreement.specs.Walks.{SameWalk, SameRoom}

-- ---- marks that are read

pub marks-agree : (meant : Option (List ℕ)) (one other : Result (List ℕ) MarkFault)
    → IfOk one (λ mark. meant ≡ Some mark) → IfErr one (λ fault. IsReadFault meant fault)
    → IfOk other (λ mark. meant ≡ Some mark) → IfErr other (λ fault. IsReadFault meant fault)
    → AgreeBut IsMarkOutOfMemory one other
marks-agree meant (Ok a) (Ok b) is _ also _ = same_Some a b (sym is ∙ also)
marks-agree meant (Ok a) (Err BadMark) is _ _ none = absurd (let e = sym is ∙ none in cc)
marks-agree meant (Ok a) (Err MarkOutOfRange) is _ _ none = absurd none
marks-agree meant (Ok a) (Err OutOfMemory) is _ _ none = refl
marks-agree meant (Err BadMark) (Ok b) _ none is _ = absurd (let e = sym is ∙ none in cc)
marks-agree meant (Err MarkOutOfRange) (Ok b) _ none is _ = absurd none
marks-agree meant (Err OutOfMemory) (Ok b) _ none is _ = refl
marks-agree meant (Err OutOfMemory) (Err other) _ _ _ _ = inr (inl refl)
marks-agree meant (Err one) (Err OutOfMemory) _ _ _ _ = inr (inr refl)
marks-agree meant (Err BadMark) (Err BadMark) _ _ _ _ = inl refl
marks-agree meant (Err MarkOutOfRange) (Err other) _ none _ _ = absurd none
marks-agree meant (Err one) (Err MarkOutOfRange) _ _ _ none = absurd none

-- ---- how walks begin

pub same-begins : (g : EdgeGraph) (targets : List FileNo) (mark : List ℕ) (one other : WalkState)
    → BeginsAt g targets mark one → BeginsAt g targets mark other → SameWalk one other
same-begins g targets mark one other is also =
    let lefts : rest_of one.graph one.targets one.mark ≡ rest_of other.graph other.targets other.mark =
    ap (λ k. rest_of k one.targets one.mark) (is.graph ∙ sym also.graph)
    ∙ ap (λ t. rest_of other.graph t one.mark) (is.targets ∙ sym also.targets)
    ∙ ap (λ m. rest_of other.graph other.targets m) (is.mark ∙ sym also.mark)
    in record {
      graph = is.graph ∙ sym also.graph;
      targets = is.targets ∙ sym also.targets;
      mark = is.mark ∙ sym also.mark;
      left = is.sound.left ∙ lefts ∙ sym also.sound.left;
    }

equal-walks : (one other : WalkState) → SameWalk one other → one.begun ≡ other.begun
    → one.turns ≡ other.turns → one ≡ other
equal-walks one other same begun turns =
    ap (λ g. record {
      graph = g;
      targets = one.targets;
      begun = one.begun;
      mark = one.mark;
      left = one.left;
      turns = one.turns;
    }) same.graph
    ∙ ap (λ t. record {
      graph = other.graph;
      targets = t;
      begun = one.begun;
      mark = one.mark;
      left = one.left;
      turns = one.turns;
    }) same.targets
    ∙ ap (λ b. record {
      graph = other.graph;
      targets = other.targets;
      begun = b;
      mark = one.mark;
      left = one.left;
      turns = one.turns;
    }) begun
    ∙ ap (λ m. record {
      graph = other.graph;
      targets = other.targets;
      begun = other.begun;
      mark = m;
      left = one.left;
      turns = one.turns;
    }) same.mark
    ∙ ap (λ l. record {
      graph = other.graph;
      targets = other.targets;
      begun = other.begun;
      mark = other.mark;
      left = l;
      turns = one.turns;
    }) same.left
    ∙ ap (λ n. record {
      graph = other.graph;
      targets = other.targets;
      begun = other.begun;
      mark = other.mark;
      left = other.left;
      turns = n;
    }) turns

pub starts-agree : {E : Type 0} (g : EdgeGraph) (targets : List FileNo) (one other : Result WalkState E)
    → IfOk one (λ n. BeginsAt g targets [] n) → IfOk one (λ n. n.turns ≡ 0)
    → IfOk other (λ n. BeginsAt g targets [] n) → IfOk other (λ n. n.turns ≡ 0)
    → AgreeIfOk (λ a b. a ≡ b) one other
starts-agree g targets (Ok a) (Ok b) is none also also_none =
    equal-walks a b (same-begins g targets [] a b is also) (is.begun ∙ sym also.begun) (none ∙ sym also_none)
starts-agree g targets (Ok a) (Err e) _ _ _ _ = tt
starts-agree g targets (Err e) (Ok a) _ _ _ _ = tt
starts-agree g targets (Err e) (Err f) _ _ _ _ = tt

pub resumes-agree : (g : EdgeGraph) (targets : List FileNo) (mark : List ℕ)
    (one other : Result WalkState MarkFault)
    → ResumeIs g targets mark one → ResumeIs g targets mark other
    → AgreeUpTo SameWalk IsMarkOutOfMemory one other
resumes-agree g targets mark (Ok a) (Ok b) (_, is) (_, also) = same-begins g targets mark a b is also
resumes-agree g targets mark (Ok a) (Err BadMark) _ none = absurd none
resumes-agree g targets mark (Ok a) (Err MarkOutOfRange) (valid, _) bad =
    absurd (let e = sym valid ∙ bad in cc)
resumes-agree g targets mark (Ok a) (Err OutOfMemory) _ _ = refl
resumes-agree g targets mark (Err BadMark) other none _ = absurd none
resumes-agree g targets mark (Err MarkOutOfRange) (Ok b) bad (valid, _) =
    absurd (let e = sym valid ∙ bad in cc)
resumes-agree g targets mark (Err OutOfMemory) (Ok b) _ _ = refl
resumes-agree g targets mark (Err one) (Err BadMark) _ none = absurd none
resumes-agree g targets mark (Err OutOfMemory) (Err other) _ _ = inr (inl refl)
resumes-agree g targets mark (Err one) (Err OutOfMemory) _ _ = inr (inr refl)
resumes-agree g targets mark (Err MarkOutOfRange) (Err MarkOutOfRange) _ _ = inl refl

-- ---- one step

pub same-edges : (one other : Option EdgeNo) → number_of one ≡ number_of other → one ≡ other
same-edges None None is = refl
same-edges None (Some f) is = absurd cc
same-edges (Some e) None is = absurd cc
same-edges (Some e) (Some f) is = ap (λ n. Some (record { 0 = n })) (same_Some e.0 f.0 is)

one-place : (g : EdgeGraph) → IsAcyclic (makers_of g) (count_of g) → (targets : List FileNo)
    → (mark other : List ℕ) (e : ℕ) → IsFirstPlaceOf g targets mark e → IsFirstPlaceOf g targets other e
    → mark ≡ other
one-place g acyclic targets mark other e is also =
    first-places_are_one (makers_of g) (count_of g) (row_of g targets) acyclic (AreWithin-from g targets)
    mark other e is also

module _ (old old2 new new2 : WalkState) (same : SameWalk old old2)
    (acyclic : IsAcyclic (makers_of old.graph) (count_of old.graph))
  where
    -- the same place of both walks
    moved : (new : WalkState) (k : EdgeGraph) (t : List FileNo) (e : ℕ) → new.graph ≡ k → new.targets ≡ t
        → IsFirstPlaceOf new.graph new.targets new.mark e → IsFirstPlaceOf k t new.mark e
    moved new k t e graph targets is =
        subst (λ ts. IsFirstPlaceOf k ts new.mark e) targets
        (subst (λ gs. IsFirstPlaceOf gs new.targets new.mark e) graph is)

    after-edge : (e : ℕ) → IsSameWalk old new → IsSameWalk old2 new2 → HasReturned old new e
        → HasReturned old2 new2 e → SameWalk new new2
    after-edge e kept kept2 is also = record {
      graph = kept.graph ∙ same.graph ∙ sym kept2.graph;
      targets = kept.targets ∙ same.targets ∙ sym kept2.targets;
      mark = one-place old.graph acyclic old.targets new.mark new2.mark e
          (moved new old.graph old.targets e kept.graph kept.targets is.mark)
          (moved new2 old.graph old.targets e (kept2.graph ∙ sym same.graph)
          (kept2.targets ∙ sym same.targets)
          also.mark);
      left = let lefts : e ∷ new.left ≡ e ∷ new2.left = sym is.first ∙ same.left ∙ also.first in cc;
    }

    after-none : IsSameWalk old new → IsSameWalk old2 new2 → HasNone old new → HasNone old2 new2
        → SameWalk new new2
    after-none kept kept2 is also = record {
      graph = kept.graph ∙ same.graph ∙ sym kept2.graph;
      targets = kept.targets ∙ same.targets ∙ sym kept2.targets;
      mark = is.mark ∙ same.mark ∙ sym also.mark;
      left = is.none_after ∙ sym also.none_after;
    }

    pub steps-agree : (edge edge2 : Option ℕ) → NextIs old edge new → NextIs old2 edge2 new2
        → IsSameWalk old new → IsSameWalk old2 new2 → (edge ≡ edge2) × SameWalk new new2
    steps-agree None None is also kept kept2 = (refl, after-none kept kept2 is also)
    steps-agree None (Some f) is also _ _ = absurd (let e = sym is.none ∙ same.left ∙ also.first in cc)
    steps-agree (Some e) None is also _ _ = absurd (let f = sym is.first ∙ same.left ∙ also.none in cc)
    steps-agree (Some e) (Some f) is also kept kept2 =
        let lefts : e ∷ new.left ≡ f ∷ new2.left = sym is.first ∙ same.left ∙ also.first in
        let edges : e ≡ f = cc in
        (ap Some edges, after-edge e kept kept2 is (subst (HasReturned old2 new2) (sym edges) also))

-- ---- pages

whole-left : (room : Option ℕ) (left : List ℕ) → written room left ++ left_after room left ≡ left
whole-left None left = append-nil left
whole-left (Some most) left = take-append-drop most left

pub at-once : (walk : WalkState) (room : Option ℕ) → HasSoFar walk room [] walk room
at-once walk room = record { written = refl; left = refl; mark = refl; graph = refl; targets = refl }

module _ (old old2 new new2 : WalkState) (room room2 left left2 : Option ℕ) (same : SameWalk old old2)
    (acyclic : IsAcyclic (makers_of old.graph) (count_of old.graph)) (rooms : SameRoom old.left room room2)
  where
    before-written : written room old.left ≡ written room2 old2.left
    before-written = rooms.written ∙ ap (written room2) same.left

    before-left : left_after room old.left ≡ left_after room2 old2.left
    before-left = rooms.left ∙ ap (left_after room2) same.left

    -- the rest is the same, if what is written of it is, and what is left after that
    rests : written left new.left ≡ written left2 new2.left
        → left_after left new.left ≡ left_after left2 new2.left
        → new.left ≡ new2.left
    rests w l = sym (whole-left left new.left) ∙ ap (λ ws. ws ++ left_after left new.left) w
        ∙ ap (λ ls. written left2 new2.left ++ ls) l ∙ whole-left left2 new2.left

    after : (edges : List ℕ) → HasSoFar old room edges new left → HasSoFar old2 room2 edges new2 left2
        → written left new.left ≡ written left2 new2.left → new.mark ≡ new2.mark
        → SameWalk new new2 × SameRoom new.left left left2
    after edges is also w mark =
        let l : left_after left new.left ≡ left_after left2 new2.left = sym is.left ∙ before-left ∙ also.left
        in
        let lefts = rests w l in (
          record {
            graph = is.graph ∙ same.graph ∙ sym also.graph;
            targets = is.targets ∙ same.targets ∙ sym also.targets;
            mark = mark;
            left = lefts;
          },
          record {
            written = w ∙ ap (written left2) (sym lefts);
            left = l ∙ ap (left_after left2) (sym lefts);
          },
        )

    pub pages-agree : (edge edge2 : Option ℕ) → GoesOn old room [] edge new left
        → GoesOn old2 room2 [] edge2 new2 left2
        → (edge ≡ edge2) × SameWalk new new2 × SameRoom new.left left left2
    pages-agree None None (is, none) (also, none2) =
        let w : written left new.left ≡ written left2 new2.left =
        sym is.written ∙ before-written ∙ also.written in
        let all = after [] is also w (is.mark ∙ same.mark ∙ sym also.mark) in (refl, all.0, all.1)
    pages-agree None (Some f) (is, none) also =
        absurd (let e = sym none ∙ before-written ∙ also.written in cc)
    pages-agree (Some e) None is (also, none) =
        absurd (let f = sym is.written ∙ before-written ∙ none in cc)
    pages-agree (Some e) (Some f) is also =
        let ws : e ∷ written left new.left ≡ f ∷ written left2 new2.left =
        sym is.written ∙ before-written ∙ also.written in
        let edges : e ≡ f = cc in
        let w : written left new.left ≡ written left2 new2.left = cc in
        let also_e : HasSoFar old2 room2 (e ∷ []) new2 left2 =
        subst (λ n. HasSoFar old2 room2 (n ∷ []) new2 left2) (sym edges) also in
        let place : IsFirstPlaceOf old.graph old.targets new2.mark e =
        subst (λ ts. IsFirstPlaceOf old.graph ts new2.mark e) (sym same.targets)
        (subst (λ gs. IsFirstPlaceOf gs old2.targets new2.mark e) (sym same.graph) also_e.mark) in
        let mark = one-place old.graph acyclic old.targets new.mark new2.mark e is.mark place in
        let all = after (e ∷ []) is also_e w mark in (ap Some edges, all.0, all.1)

-- ---- the mark after a page

pub ends-agree : {E : Type 0} (old old2 : WalkState) (room : Option ℕ) → SameWalk old old2
    → written room old.left ≡ []
    → (one other : Result (Option (List ℕ)) E) → IfOk one (λ mark. StopsAt old room mark)
    → IfOk other (λ mark. StopsAt old2 room mark) → AgreeIfOk (λ a b. a ≡ b) one other
ends-agree old old2 room same ended (Ok None) (Ok None) is also = refl
ends-agree old old2 room same ended (Ok None) (Ok (Some b)) is also =
    absurd (also.0 (ap (left_after room) (sym same.left) ∙ is))
ends-agree old old2 room same ended (Ok (Some a)) (Ok None) is also =
    absurd (is.0 (ap (left_after room) same.left ∙ also))
ends-agree old old2 room same ended (Ok (Some a)) (Ok (Some b)) is also =
    let mine : a ≡ old.mark = subst (λ ws. IsMarkOf old ws a) ended is.1 in
    let other : b ≡ old2.mark =
    subst (λ ws. IsMarkOf old2 ws b) (ap (written room) (sym same.left) ∙ ended) also.1 in
    ap Some (mine ∙ same.mark ∙ sym other)
ends-agree old old2 room same ended (Ok a) (Err f) is also = tt
ends-agree old old2 room same ended (Err e) (Ok b) is also = tt
ends-agree old old2 room same ended (Err e) (Err f) is also = tt
