-- How marks grow.
use Rattle.std.proofs.Common.{◌≡◌, ℕ, ◌<◌, Bool, true, false, Option, List, [], ◌∷◌, ◌++◌, length, set}
use Rattle.std.proofs.Common.{sym, ap, subst, ◌∙◌, ◌⊎◌, inl, inr, arith}
use Rattle.std.specs.Prelude.{Contains, slice_index_or, sum_by}
use Rattle.std.proofs.lemmas.List.{length-set, length_push, get_or-set_same}
use Rattle.std.proofs.lemmas.List.Elements.{Contains-append_left, Contains-append_right, Contains-push}
use Rattle.std.proofs.lemmas.List.Elements.{Contains-push_cases, Contains-append_cases}
use Rattle.std.proofs.lemmas.List.Sums.{sum_by-set}
use Rattle.nj_cycles.specs.declared.on_cycle.Marks.{Marks}
use Rattle.nj_cycles.specs.Cycles.{Needs}
use Rattle.nj_cycles.specs.Cycles.Chain.{one, more}
use Rattle.nj_cycles.specs.Inside.Marks.{IsMarked, unmarked, LeadsInto, AreMarks, MarksMore}
use Rattle.nj_cycles.proofs.Places.{at_set}

pub more_none : (P : ℕ → Type 0) (old : Marks) → MarksMore P old old
more_none h old = grind arith

pub more_then : (P Q : ℕ → Type 0) (old mid new : Marks) → ((e : ℕ) → Q e → P e) → MarksMore P old mid
    → MarksMore Q mid new → MarksMore P old new
more_then h h1 old mid new weaker a b = grind arith

pub more_one : (old new : Marks) (edge : ℕ) → edge < length old.flags.items
    → slice_index_or old.flags.items edge false ≡ false
    → new.flags.items ≡ set old.flags.items edge true → new.pending.items ≡ old.pending.items ++ edge ∷ []
    → MarksMore (λ e. e ≡ edge) old new
more_one old new edge lt not_yet flags pending = record {
  len = ap length flags ∙ length-set old.flags.items edge true;
  kept = λ e h. ap (λ fs. slice_index_or fs e false) flags
      ∙ elim (at_set old.flags.items edge true false e lt) [ inl q ↦ q.1 | inr q ↦ q.1 ∙ h ];
  fresh = λ e h. elim (at_set old.flags.items edge true false e lt) [
    | inl q ↦ inr (
      q.0,
      subst (λ xs. Contains xs e) (sym pending)
          (subst (λ x. Contains (old.pending.items ++ edge ∷ []) x) (sym q.0)
          (Contains-push old.pending.items edge)),
    )
    | inr q ↦ inl (sym q.1 ∙ ap (λ fs. slice_index_or fs e false) (sym flags) ∙ h)
  ];
  pending_kept = λ e h. subst (λ xs. Contains xs e) (sym pending)
      (Contains-append_left old.pending.items (edge ∷ []) e h);
  pending_fresh = λ e h. elim (Contains-push_cases old.pending.items edge e
      (subst (λ xs. Contains xs e) pending h)) [ inl c ↦ inl c | inr is ↦ inr (sym is) ];
  turns = omega (
    arith,
    ap (sum_by unmarked) flags,
    ap length pending,
    length_push old.pending.items edge,
    sum_by-set unmarked old.flags.items edge true false lt,
    ap unmarked not_yet,
  );
}

pub now_marked : (flags : List Bool) (edge : ℕ) → edge < length flags → IsMarked (set flags edge true) edge
now_marked flags edge lt = get_or-set_same flags edge true false lt

-- ---- all that need one edge

-- while some marked edges are pending
pub record Marking (makers : ℕ → List (Option ℕ)) (edges : List ℕ) (flags : List Bool) (pending : List ℕ) :
    Type 0 where
  pub sound : (e : ℕ) → IsMarked flags e → LeadsInto makers edges e
  pub pending_sound : (e : ℕ) → Contains pending e → Contains edges e ⊎ LeadsInto makers edges e
  pub closed : (e f : ℕ) → Needs makers e f → Contains edges f ⊎ IsMarked flags f
      → IsMarked flags e ⊎ Contains pending f

leads_more : (makers : ℕ → List (Option ℕ)) (edges : List ℕ) (e f : ℕ) → Needs makers e f
    → Contains edges f ⊎ LeadsInto makers edges f → LeadsInto makers edges e
leads_more makers edges e f needs (inl c) = (f, c, one needs)
leads_more makers edges e f needs (inr l) = (l.0, l.1, more needs l.2)

pub no_member : (e : ℕ) → Contains [] e → ⊥
no_member e c = omega (arith, c.1)

pub marking_begins : (makers : ℕ → List (Option ℕ)) (edges : List ℕ) (flags : List Bool) (edge : ℕ)
    → AreMarks makers edges flags → Marking makers (edge ∷ edges) flags ([] ++ edge ∷ [])
marking_begins makers edges flags edge m = record {
  sound = λ e h. let l = m.sound e h in (l.0, Contains-append_right (edge ∷ []) edges l.0 l.1, l.2);
  pending_sound = λ e c. inl (Contains-append_left (edge ∷ []) edges e c);
  closed = λ e f needs h. elim h [
    | inl c ↦ elim (Contains-append_cases (edge ∷ []) edges f c) [
      | inl here ↦ inr here
      | inr there ↦ inl (m.closed e f needs (inl there))
    ]
    | inr marked ↦ inl (m.closed e f needs (inr marked))
  ];
}

pub marking_continues : (makers : ℕ → List (Option ℕ)) (edges : List ℕ) (old new : Marks) (before : List ℕ)
    (w : ℕ) → before ≡ old.pending.items ++ w ∷ [] → Marking makers edges old.flags.items before
    → MarksMore (λ e. Needs makers e w) old new → ((e : ℕ) → Needs makers e w → IsMarked new.flags.items e)
    → Marking makers edges new.flags.items new.pending.items
marking_continues makers edges old new before w is s grows users = record {
  sound = λ e h. elim (grows.fresh e h) [ inl o ↦ s.sound e o | inr q ↦ needs_w e q.0 ];
  pending_sound = λ e c. elim (grows.pending_fresh e c) [
    | inl o ↦ s.pending_sound e (subst (λ xs. Contains xs e) (sym is)
        (Contains-append_left old.pending.items (w ∷ []) e o))
    | inr needs ↦ inr (needs_w e needs)
  ];
  closed = λ e f needs h. elim h [
    | inl c ↦ by_old e f needs (s.closed e f needs (inl c))
    | inr marked ↦ elim (grows.fresh f marked) [
      | inl o ↦ by_old e f needs (s.closed e f needs (inr o))
      | inr q ↦ inr q.1
    ]
  ];
}
  where
    needs_w : (e : ℕ) → Needs makers e w → LeadsInto makers edges e
    needs_w e needs = leads_more makers edges e w needs
        (s.pending_sound w (subst (λ xs. Contains xs w) (sym is) (Contains-push old.pending.items w)))

    by_old : (e f : ℕ) → Needs makers e f → IsMarked old.flags.items e ⊎ Contains before f
        → IsMarked new.flags.items e ⊎ Contains new.pending.items f
    by_old e f needs (inl m) = inl (grows.kept e m)
    by_old e f needs (inr c) = elim (Contains-push_cases old.pending.items w f
        (subst (λ xs. Contains xs f) is c)) [
          | inl o ↦ inr (grows.pending_kept f o)
          | inr same ↦ inl (users e (subst (Needs makers e) (sym same) needs))
        ]

pub marking_ends : (makers : ℕ → List (Option ℕ)) (edges : List ℕ) (flags : List Bool) (pending : List ℕ)
    → length pending ≡ 0 → Marking makers edges flags pending → AreMarks makers edges flags
marking_ends makers edges flags pending none s = record {
  sound = s.sound;
  closed = λ e f needs h. elim (s.closed e f needs h) [
    | inl m ↦ m
    | inr c ↦ absurd (omega (arith, c.1, none))
  ];
}
