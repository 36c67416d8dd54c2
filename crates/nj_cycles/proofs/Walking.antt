-- The turns of the walk: an edge passes inputs, a maker is opened, an edge is finished.
use Rattle.std.proofs.Common.{rules, ◌≡◌, ◌≢◌, ℕ, ◌+◌, ◌<◌, ◌≤◌, Bool, false, Option, Some, List, [], ◌∷◌}
use Rattle.std.proofs.Common.{◌++◌}
use Rattle.std.proofs.Common.{length, set, refl, sym, ap, subst, ◌∙◌, ◌⊎◌, inl, inr, arith}
use Rattle.std.specs.Prelude.{Contains, slice_get, slice_index}
use Rattle.std.proofs.lemmas.Bool.{cases_lt}
use Rattle.std.proofs.lemmas.List.{length-set, length_push, take-append-le, take_at}
use Rattle.std.proofs.lemmas.List.Elements.{Contains-append_left, Contains-push, Contains-push_cases}
use Rattle.std.proofs.lemmas.List.Sums.{sum_by-set}
use Rattle.nj_cycles.specs.declared.finishing_order.Stage.{Stage}
use Rattle.nj_cycles.specs.declared.finishing_order.Stage.TheVariants.{Unseen, Open, Done}
use Rattle.nj_cycles.specs.Cycles.{Needs, NeedsByChain}
use Rattle.nj_cycles.specs.Cycles.Chain.{one}
use Rattle.nj_cycles.specs.Inside.Walks.{Reaches, stage_of, turns_of, IsSettled, IsFalling, Sound}
use Rattle.nj_cycles.proofs.Chains.{chain_push}
use Rattle.nj_cycles.proofs.Places.{at_push, at_left, at_end, at_set, index_of, maker_got}

pub stage_cases : (s : Stage) → (s ≡ Unseen) ⊎ ((s ≡ Open) ⊎ (s ≡ Done))
stage_cases s = grind arith

at_stage : (stages : List Stage) (m : ℕ) (s : Stage) (e : ℕ) → m < length stages
    → ((e ≡ m) × (stage_of (set stages m s) e ≡ s))
    ⊎ ((e ≢ m) × (stage_of (set stages m s) e ≡ stage_of stages e))
at_stage stages m s e lt = at_set stages m s Unseen e lt

pub kept_by_set : (stages : List Stage) (m : ℕ) (s : Stage) → m < length stages → s ≢ Unseen → (e : ℕ)
    → stage_of stages e ≢ Unseen → stage_of (set stages m s) e ≢ Unseen
kept_by_set stages m s lt new e old is = search rules

pub open_is_seen : Open ≢ Unseen
open_is_seen e = cc

pub done_is_seen : Done ≢ Unseen
done_is_seen e = cc

module _ (makers : ℕ → List (Option ℕ)) (count : ℕ) (stages : List Stage) (next path order : List ℕ)
    (meets : Bool) (s : Sound makers count stages next path order meets) where
  -- an open edge passes its next input, whose maker is seen
  pub passes : (e : ℕ) (after : Bool) → e < count → stage_of stages e ≡ Open
      → ((f : ℕ) → slice_get (makers e) (slice_index next e) ≡ Some (Some f) → stage_of stages f ≢ Unseen)
      → (after ≡ false → (meets ≡ false) × ((f : ℕ)
      → slice_get (makers e) (slice_index next e) ≡ Some (Some f) → stage_of stages f ≡ Done))
      → Sound makers count stages (set next e (slice_index next e + 1)) path order after
  passes e after lt is_open seen done = record {
    stages_len = s.stages_len;
    next_len = length-set next e (slice_index next e + 1) ∙ s.next_len;
    path_in = s.path_in;
    path_open = s.path_open;
    open_in_path = s.open_in_path;
    path_linked = s.path_linked;
    path_once = s.path_once;
    order_in = s.order_in;
    order_done = s.order_done;
    done_in_order = s.done_in_order;
    done_passed = λ x h. elim (at_set next e (slice_index next e + 1) 0 x inside) [
      | inl q ↦ let clash : Open ≡ Done = sym is_open ∙ ap (stage_of stages) (sym q.0) ∙ h in cc
      | inr q ↦ rw q.1 (s.done_passed x h)
    ];
    passed_seen = λ x h. before (λ m. stage_of stages m ≢ Unseen) x (s.passed_seen x h) seen;
    passed_done = λ unmet x h. before (λ m. stage_of stages m ≡ Done) x (s.passed_done (done unmet).0 x h)
        (done unmet).1;
    order_once = s.order_once;
    settled = s.settled;
    falling = λ unmet. s.falling (done unmet).0;
    turns = s.turns;
  }
    where
      inside : e < length next
      inside = omega (arith, lt, s.next_len)

      before : (P : ℕ → Type 0) (x : ℕ) → ((i f : ℕ) → i < slice_index next x
          → slice_get (makers x) i ≡ Some (Some f) → P f)
          → ((f : ℕ) → slice_get (makers e) (slice_index next e) ≡ Some (Some f) → P f)
          → (i f : ℕ) → i < slice_index (set next e (slice_index next e + 1)) x
          → slice_get (makers x) i ≡ Some (Some f) → P f
      before P x old this i f below made = elim (at_set next e (slice_index next e + 1) 0 x inside) [
        | inl q ↦ elim (cases_lt i (slice_index next e)) [
          | inl less ↦ old i f (subst (λ k. i < slice_index next k) (sym q.0) less) made
          | inr le ↦
              let last : i ≡ slice_index next e = omega (arith, le, below, q.1) in
              this f (subst (λ k. slice_get (makers e) k ≡ Some (Some f)) last
              (subst (λ k. slice_get (makers k) i ≡ Some (Some f)) q.0 made))
        ]
        | inr q ↦ old i f (subst (λ k. i < k) q.1 below) made
      ]

  -- an unseen edge that each open edge needs is opened
  pub opens : (m : ℕ) → m < count → stage_of stages m ≡ Unseen
      → ((i : ℕ) → i < length path → NeedsByChain makers (slice_index path i) m)
      → Sound makers count (set stages m Open) next (path ++ m ∷ []) order meets
  opens m lt unseen links = record {
    stages_len = length-set stages m Open ∙ s.stages_len;
    next_len = s.next_len;
    path_in = λ i h. elim (at_push path m i h) [ inl k ↦ rw k.1 (s.path_in i k.0) | inr k ↦ rw k.1 lt ];
    path_open = λ i h. elim (at_push path m i h) [
      | inl k ↦ ap (stage_of (set stages m Open)) k.1
          ∙ elim (at_stage stages m Open (slice_index path i) inside)
          [ inl q ↦ q.1 | inr q ↦ q.1 ∙ s.path_open i k.0 ]
      | inr k ↦ ap (stage_of (set stages m Open)) k.1
          ∙ elim (at_stage stages m Open m inside) [ inl q ↦ q.1 | inr q ↦ absurd (q.0 refl) ]
    ];
    open_in_path = λ e h. elim (at_stage stages m Open e inside) [
      | inl q ↦ rw q.0 (Contains-push path m)
      | inr q ↦ Contains-append_left path (m ∷ []) e (s.open_in_path e (sym q.1 ∙ h))
    ];
    path_linked = λ i j lt_j h. elim (at_push path m j h) [
      | inl k ↦ rw (k.1, at_left path m i (omega (arith, lt_j, k.0))) (s.path_linked i j lt_j k.0)
      | inr k ↦ rw (k.1, at_left path m i (omega (arith, lt_j, k.0))) (links i (omega (arith, lt_j, k.0)))
    ];
    path_once = λ i j lt_j h same. elim (at_push path m j h) [
      | inl k ↦ s.path_once i j lt_j k.0 (sym (at_left path m i (omega (arith, lt_j, k.0))) ∙ same ∙ k.1)
      | inr k ↦
          let i_in : i < length path = omega (arith, lt_j, k.0) in
          not_open (slice_index path i) (s.path_open i i_in) (sym (at_left path m i i_in) ∙ same ∙ k.1)
    ];
    order_in = s.order_in;
    order_done = λ i h. done_stays (slice_index order i) (s.order_done i h);
    done_in_order = λ e h. s.done_in_order e (was_done e h);
    done_passed = λ e h. s.done_passed e (was_done e h);
    passed_seen = λ e h i f below made. kept_by_set stages m Open inside open_is_seen f
        (s.passed_seen e h i f below made);
    passed_done = λ unmet e h i f below made. done_stays f (s.passed_done unmet e h i f below made);
    order_once = s.order_once;
    settled = s.settled;
    falling = s.falling;
    turns = omega (
      arith,
      s.turns,
      length_push path m,
      sum_by-set turns_of stages m Open Unseen inside,
      ap turns_of unseen,
    );
  }
    where
      inside : m < length stages
      inside = omega (arith, lt, s.stages_len)

      not_open : (e : ℕ) → stage_of stages e ≡ Open → e ≡ m → ⊥
      not_open e h is = let clash : Open ≡ Unseen = sym h ∙ ap (stage_of stages) is ∙ unseen in cc

      done_stays : (e : ℕ) → stage_of stages e ≡ Done → stage_of (set stages m Open) e ≡ Done
      done_stays e h = elim (at_stage stages m Open e inside) [
        | inl q ↦ let clash : Done ≡ Unseen = sym h ∙ ap (stage_of stages) q.0 ∙ unseen in cc
        | inr q ↦ q.1 ∙ h
      ]

      was_done : (e : ℕ) → stage_of (set stages m Open) e ≡ Done → stage_of stages e ≡ Done
      was_done e h = elim (at_stage stages m Open e inside) [
        | inl q ↦ let clash : Open ≡ Done = sym q.1 ∙ h in cc
        | inr q ↦ sym q.1 ∙ h
      ]

module _ (makers : ℕ → List (Option ℕ)) (count : ℕ) (stages : List Stage) (next below order : List ℕ)
    (meets : Bool) (e : ℕ) (s : Sound makers count stages next (below ++ e ∷ []) order meets) where
  at_top : length below < length (below ++ e ∷ [])
  at_top = omega (arith, length_push below e)

  pub top_in : e < count
  top_in = subst (λ x. x < count) (at_end below e) (s.path_in (length below) at_top)

  pub top_open : stage_of stages e ≡ Open
  top_open = ap (stage_of stages) (sym (at_end below e)) ∙ s.path_open (length below) at_top

  inside : e < length stages
  inside = omega (arith, top_in, s.stages_len)

  below_in : (i : ℕ) → i < length below → i < length (below ++ e ∷ [])
  below_in i h = omega (arith, h, length_push below e)

  below_linked : (i : ℕ) → i < length below → NeedsByChain makers (slice_index below i) e
  below_linked i h = subst (λ x. NeedsByChain makers x e) (at_left below e i h)
      (subst (NeedsByChain makers (slice_index (below ++ e ∷ []) i)) (at_end below e)
      (s.path_linked i (length below) h at_top))

  -- the maker of an input of the last open edge follows each open edge
  pub top_links : (m : ℕ) → Needs makers e m → (i : ℕ) → i < length (below ++ e ∷ [])
      → NeedsByChain makers (slice_index (below ++ e ∷ []) i) m
  top_links m needs i h = elim (at_push below e i h) [
    | inl k ↦ subst (λ x. NeedsByChain makers x m) (sym k.1)
        (chain_push (Needs makers) (slice_index below i) e m (below_linked i k.0) needs)
    | inr k ↦ subst (λ x. NeedsByChain makers x m) (sym k.1) (one needs)
  ]

  not_below : (i : ℕ) → i < length below → slice_index below i ≢ e
  not_below i h same = s.path_once i (length below) h at_top
      (at_left below e i h ∙ same ∙ sym (at_end below e))

  -- an open edge reaches the last open edge
  open_reaches : (f : ℕ) → stage_of stages f ≡ Open → Reaches makers f e
  open_reaches f h =
      let k = index_of (below ++ e ∷ []) f (s.open_in_path f h) in
      elim (at_push below e k.0 k.1) [
        | inl q ↦ inr (subst (λ x. NeedsByChain makers x e) (sym q.1 ∙ k.2) (below_linked k.0 q.0))
        | inr q ↦ inl (sym k.2 ∙ q.1)
      ]

  module _ (passed : length (makers e) ≤ slice_index next e) where
    -- the makers of an edge that has passed all its inputs are seen
    all_passed : (x f : ℕ) → x < count → length (makers x) ≤ slice_index next x → Needs makers x f
        → stage_of stages f ≢ Unseen
    all_passed x f lt all needs = s.passed_seen x lt needs.0 f (omega (arith, needs.1, all))
        (maker_got makers x f needs)

    seen_cases : (f : ℕ) → stage_of stages f ≢ Unseen → Contains order f ⊎ Reaches makers f e
    seen_cases f seen = elim (stage_cases (stage_of stages f)) [
      | inl un ↦ absurd (seen un)
      | inr q ↦ elim q [ inl h ↦ inr (open_reaches f h) | inr h ↦ inl (s.done_in_order f h) ]
    ]

    settled_more : IsSettled makers (order ++ e ∷ [])
    settled_more a b f le lt needs = elim (at_push order e b lt) [
      | inl k ↦
          let needs' : Needs makers (slice_index order a) f =
          subst (λ x. Needs makers x f) (at_left order e a (omega (arith, le, k.0))) needs in
          elim (s.settled a b f le k.0 needs') [
            | inl c ↦ inl (subst (λ xs. Contains xs f)
                (sym (take-append-le b order (e ∷ []) (omega (arith, k.0)))) c)
            | inr r ↦ inr (subst (Reaches makers f) (sym k.1) r)
          ]
      | inr k ↦ elim (seen_cases f (needs_seen a f (omega (arith, le, lt)) needs)) [
        | inl c ↦ inl (subst (λ xs. Contains xs f) (sym (take_at order (e ∷ []) b k.0)) c)
        | inr r ↦ inr (subst (Reaches makers f) (sym k.1) r)
      ]
    ]
      where
        needs_seen : (a f : ℕ) → a < length (order ++ e ∷ [])
            → Needs makers (slice_index (order ++ e ∷ []) a) f → stage_of stages f ≢ Unseen
        needs_seen a f lt needs = elim (at_push order e a lt) [
          | inl k ↦ all_passed (slice_index order a) f (s.order_in a k.0)
              (s.done_passed (slice_index order a) (s.order_done a k.0))
              (subst (λ x. Needs makers x f) k.1 needs)
          | inr k ↦ all_passed e f top_in passed (subst (λ x. Needs makers x f) k.1 needs)
        ]

    falling_more : meets ≡ false → IsFalling makers (order ++ e ∷ [])
    falling_more unmet a f lt needs = elim (at_push order e a lt) [
      | inl k ↦ subst (λ xs. Contains xs f) (sym (take-append-le a order (e ∷ []) (omega (arith, k.0))))
          (s.falling unmet a f k.0 (subst (λ x. Needs makers x f) k.1 needs))
      | inr k ↦
          let needs' : Needs makers e f = subst (λ x. Needs makers x f) k.1 needs in
          subst (λ xs. Contains xs f) (sym (take_at order (e ∷ []) a k.0))
          (s.done_in_order f (s.passed_done unmet e top_in needs'.0 f (omega (arith, needs'.1, passed))
          (maker_got makers e f needs')))
    ]

    was_done : (x : ℕ) → x ≢ e → stage_of (set stages e Done) x ≡ Done → stage_of stages x ≡ Done
    was_done x ne h = elim (at_stage stages e Done x inside) [ inl q ↦ absurd (ne q.0) | inr q ↦ sym q.1 ∙ h ]

    done_stays : (x : ℕ) → stage_of stages x ≡ Done → stage_of (set stages e Done) x ≡ Done
    done_stays x h = elim (at_stage stages e Done x inside) [ inl q ↦ q.1 | inr q ↦ q.1 ∙ h ]

    -- the last open edge is finished
    pub finishes : Sound makers count (set stages e Done) next below (order ++ e ∷ []) meets
    finishes = record {
      stages_len = length-set stages e Done ∙ s.stages_len;
      next_len = s.next_len;
      path_in = λ i h. subst (λ x. x < count) (at_left below e i h) (s.path_in i (below_in i h));
      path_open = λ i h. elim (at_stage stages e Done (slice_index below i) inside) [
        | inl q ↦ absurd (not_below i h q.0)
        | inr q ↦ q.1 ∙ ap (stage_of stages) (sym (at_left below e i h)) ∙ s.path_open i (below_in i h)
      ];
      open_in_path = λ x h. elim (at_stage stages e Done x inside) [
        | inl q ↦ let clash : Done ≡ Open = sym q.1 ∙ h in cc
        | inr q ↦ elim (Contains-push_cases below e x (s.open_in_path x (sym q.1 ∙ h)))
            [ inl c ↦ c | inr is ↦ absurd (q.0 (sym is)) ]
      ];
      path_linked = λ i j lt h. subst (λ x. NeedsByChain makers x (slice_index below j))
          (at_left below e i (omega (arith, lt, h)))
          (subst (NeedsByChain makers (slice_index (below ++ e ∷ []) i)) (at_left below e j h)
          (s.path_linked i j lt (below_in j h)));
      path_once = λ i j lt h same. s.path_once i j lt (below_in j h)
          (at_left below e i (omega (arith, lt, h)) ∙ same ∙ sym (at_left below e j h));
      order_in = λ i h. elim (at_push order e i h) [
        | inl k ↦ subst (λ x. x < count) (sym k.1) (s.order_in i k.0)
        | inr k ↦
            subst (λ x. x < count) (sym k.1) top_in
      ];
      order_done = λ i h. elim (at_push order e i h) [
        | inl k ↦ ap (stage_of (set stages e Done)) k.1
            ∙ done_stays (slice_index order i) (s.order_done i k.0)
        | inr k ↦ ap (stage_of (set stages e Done)) k.1
            ∙ elim (at_stage stages e Done e inside) [ inl q ↦ q.1 | inr q ↦ absurd (q.0 refl) ]
      ];
      done_in_order = λ x h. elim (at_stage stages e Done x inside) [
        | inl q ↦ rw q.0 (Contains-push order e)
        | inr q ↦ Contains-append_left order (e ∷ []) x (s.done_in_order x (sym q.1 ∙ h))
      ];
      done_passed = λ x h. elim (at_stage stages e Done x inside) [
        | inl q ↦ rw q.0 passed
        | inr q ↦ s.done_passed x (sym q.1 ∙ h)
      ];
      passed_seen = λ x h i f below made. kept_by_set stages e Done inside done_is_seen f
          (s.passed_seen x h i f below made);
      passed_done = λ unmet x h i f below made. done_stays f (s.passed_done unmet x h i f below made);
      order_once = λ i j lt h same. elim (at_push order e j h) [
        | inl k ↦ s.order_once i j lt k.0 (sym (at_left order e i (omega (arith, lt, k.0))) ∙ same ∙ k.1)
        | inr k ↦
            let i_in : i < length order = omega (arith, lt, k.0) in
            let is : slice_index order i ≡ e = sym (at_left order e i i_in) ∙ same ∙ k.1 in
            let clash : Done ≡ Open = sym (s.order_done i i_in) ∙ ap (stage_of stages) is ∙ top_open in
            cc
      ];
      settled = settled_more;
      falling = falling_more;
      turns = omega (
        arith,
        s.turns,
        length_push below e,
        length_push order e,
        sum_by-set turns_of stages e Done Unseen inside,
        ap turns_of top_open,
      );
    }
