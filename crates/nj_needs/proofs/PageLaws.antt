-- The rest at a mark is a suffix of the needed commands: those after the mark's edge. So pages
-- join.
use Rattle.std.proofs.Common.{arith, ◌≡◌, ℕ, Bool, true, false, not, cond, Option, Some, None, List, [], ◌∷◌}
use Rattle.std.proofs.Common.{◌++◌}
use Rattle.std.proofs.Common.{filter, refl, sym, ap, subst, ◌∙◌, inl, inr, append_assoc}
use Rattle.std.specs.Prelude.{nat_eq, MatchOption}
use Rattle.std.specs.List.{list_any, concat, last_or}
use Rattle.std.proofs.lemmas.Bool.{false_from_ne_true}
use Rattle.std.proofs.lemmas.List.{append-nil}
use Rattle.std.proofs.lemmas.List.Elements.{filter-append}
use Rattle.nj_cycles.specs.Cycles.{IsAcyclic}
use Rattle.nj_needs.specs.Needs.{AreWithin}
use Rattle.nj_needs.specs.Order.{unfolded_row, needed_commands}
use Rattle.nj_edges.specs.Repeats.{each_once}
use Rattle.nj_needs.specs.Marks.{is_valid, done, without, rest, IsFirstPlace}
use Rattle.nj_needs.specs.Pages.{IsMarkAfter, MarkKeepsTheRest, ArePages, PagesJoin, RestIsSuffix}
use Rattle.nj_needs.specs.Pages.ArePages.{no_runs, ends, stops}
use Rattle.nj_needs.proofs.Members.{In, In-head, In-tail, In-append_right, In-cons_cases, Contains-from_Among}
use Rattle.nj_needs.proofs.Striking.{filter_comm, without-cons, without-front, without-none, without-next}
use Rattle.nj_needs.proofs.Striking.{Differ, Differ-filter, Differ-first, In-filter, In-first}
use Rattle.nj_needs.proofs.PlaceLaws.{valid-from_edge, done-front}

-- ---- lists

-- the first occurrences in two lists: those in the first list, and then those in the second that are not in
-- the first
first-append : (xs ys : List ℕ) → each_once nat_eq (xs ++ ys)
    ≡ each_once nat_eq xs ++ without xs (each_once nat_eq ys)
first-append [] ys = sym (without-none (each_once nat_eq ys))
first-append (x ∷ xs) ys =
    let q : ℕ → Bool = λ y. not (nat_eq y x) in
    let F = each_once nat_eq xs in
    let more = without xs (each_once nat_eq ys) in
    ap (λ (es : List ℕ). x ∷ filter q es) (first-append xs ys)
    ∙ ap (λ (es : List ℕ). x ∷ es) (filter-append q F more
    ∙ ap (λ (es : List ℕ). filter q F ++ es) (sym (without-cons x xs (each_once nat_eq ys))))

-- an element occurs once where all differ
differ-front : (xs : List ℕ) (e : ℕ) (ys : List ℕ) → Differ (xs ++ e ∷ ys) → list_any (nat_eq e) xs ≡ false
differ-front [] e ys d = refl
differ-front (x ∷ xs) e ys d = false_from_ne_true (list_any (nat_eq e) (x ∷ xs))
    (λ i. elim (In-cons_cases x xs e i) [
      | inl is ↦
          let late : In (xs ++ e ∷ ys) x = subst (In (xs ++ e ∷ ys)) is
          (In-append_right xs (e ∷ ys) e (In-head e ys)) in
          let never : list_any (nat_eq x) (xs ++ e ∷ ys) ≡ false = d.0 in
          cc
      | inr t ↦ let never : list_any (nat_eq e) xs ≡ false = differ-front xs e ys d.1 in cc
    ])

-- the elements after the first occurrence of an element
same-after : (e : ℕ) (xs ys ms ns : List ℕ) → xs ++ e ∷ ms ≡ ys ++ e ∷ ns → list_any (nat_eq e) xs ≡ false
    → list_any (nat_eq e) ys ≡ false → ms ≡ ns
same-after e [] [] ms ns is f g = cc
same-after e [] (y ∷ ys) ms ns is f g = grind arith
same-after e (x ∷ xs) [] ms ns is f g = grind arith
same-after e (x ∷ xs) (y ∷ ys) ms ns is f g =
    let later : xs ++ e ∷ ms ≡ ys ++ e ∷ ns = cc in
    same-after e xs ys ms ns later (absent x xs f) (absent y ys g)
  where
    absent : (z : ℕ) (zs : List ℕ) → list_any (nat_eq e) (z ∷ zs) ≡ false → list_any (nat_eq e) zs ≡ false
    absent z zs h = false_from_ne_true (list_any (nat_eq e) zs) (λ i. let j = In-tail z zs e i in cc)

-- the last of some edges
last-split : (e : ℕ) (es : List ℕ) → (front : List ℕ) × (l : ℕ) × (e ∷ es ≡ front ++ l ∷ [])
    × (last_or None (e ∷ es) ≡ Some l)
last-split e [] = ([], e, refl, refl)
last-split e (f ∷ es) = let r = last-split f es in (e ∷ r.0, r.1, ap (λ (fs : List ℕ). e ∷ fs) r.2, r.3)

last_or-push : (o : Option ℕ) (es : List ℕ) (e : ℕ) → last_or o (es ++ e ∷ []) ≡ Some e
last_or-push o [] e = refl
last_or-push o (x ∷ es) e = last_or-push (Some x) es e

-- ---- an end of the commands

module _ (phony : ℕ → Bool) where
  abbrev plain : ℕ → Bool
  plain e = not (phony e)

  -- where some of an unfolded order is done, the rest is an end of its commands
  left-is_end : (whole front more : List ℕ) → whole ≡ front ++ more
      → filter plain (each_once nat_eq whole)
      ≡ filter plain (each_once nat_eq front) ++ without front (filter plain (each_once nat_eq whole))
  left-is_end whole front more is =
      let F = each_once nat_eq front in
      let left : without front (each_once nat_eq whole) ≡ without front (each_once nat_eq more) =
      ap (λ (us : List ℕ). without front (each_once nat_eq us)) is ∙ without-front front more in
      ap (λ (us : List ℕ). filter plain (each_once nat_eq us)) is
      ∙ ap (filter plain) (first-append front more ∙ ap (λ (es : List ℕ). F ++ es) (sym left))
      ∙ filter-append plain F (without front (each_once nat_eq whole))
      ∙ ap (λ (es : List ℕ). filter plain F ++ es)
      (filter_comm plain (λ e. not (list_any (nat_eq e) front)) (each_once nat_eq whole))

  -- and the rest after the first occurrence of an edge with a command comes after the edge
  left-after : (whole before : List ℕ) (e : ℕ) (more : List ℕ) → whole ≡ before ++ e ∷ more
      → list_any (nat_eq e) before ≡ false → plain e ≡ true
      → filter plain (each_once nat_eq whole)
      ≡ filter plain (each_once nat_eq before)
      ++ e ∷ without (before ++ e ∷ []) (filter plain (each_once nat_eq whole))
  left-after whole before e more is fresh command =
      let done : List ℕ = before ++ e ∷ [] in
      let N = each_once nat_eq whole in
      let P = filter plain (each_once nat_eq before) in
      let next : without before N ≡ e ∷ without done N =
      subst (λ (us : List ℕ). without before (each_once nat_eq us)
      ≡ e ∷ without done (each_once nat_eq us)) (sym is) (without-next before e more fresh) in
      left-is_end whole before (e ∷ more) is
      ∙ ap (λ (es : List ℕ). P ++ es) (filter_comm (λ x. not (list_any (nat_eq x) before)) plain N
      ∙ ap (filter plain) next
      ∙ ap (λ b. cond b (e ∷ filter plain (without done N)) (filter plain (without done N))) command
      ∙ ap (λ (es : List ℕ). e ∷ es) (filter_comm plain (λ x. not (list_any (nat_eq x) done)) N))

  -- so it is the rest after the edge wherever the edge is in a suffix of the commands
  same-left : (whole before : List ℕ) (e : ℕ) (more taken front left : List ℕ) → whole ≡ before ++ e ∷ more
      → list_any (nat_eq e) before ≡ false
      → filter plain (each_once nat_eq whole) ≡ taken ++ (front ++ e ∷ left)
      → without (before ++ e ∷ []) (filter plain (each_once nat_eq whole)) ≡ left
  same-left whole before e more taken front left is fresh split =
      let C = filter plain (each_once nat_eq whole) in
      let joined : C ≡ (taken ++ front) ++ e ∷ left = split ∙ sym (append_assoc taken front (e ∷ left)) in
      let has : In C e = subst (λ es. In es e) (sym joined)
      (In-append_right (taken ++ front) (e ∷ left) e (In-head e left)) in
      let command : plain e ≡ true = (In-filter plain (each_once nat_eq whole) e has).1 in
      let after = left-after whole before e more is fresh command in
      let once : list_any (nat_eq e) (taken ++ front) ≡ false =
      differ-front (taken ++ front) e left
      (subst Differ joined (Differ-filter plain (each_once nat_eq whole) (Differ-first whole))) in
      let first : list_any (nat_eq e) (filter plain (each_once nat_eq before)) ≡ false =
      false_from_ne_true (list_any (nat_eq e) (filter plain (each_once nat_eq before)))
      (λ i. let j : In before e = In-first before e (In-filter plain (each_once nat_eq before) e i).0 in
      cc) in
      same-after e (filter plain (each_once nat_eq before)) (taken ++ front) (without (before ++ e ∷ []) C)
      left (sym after ∙ joined) first once

-- ---- marks

-- one more edge was returned
pub IsMarkAfter-push : (makers : ℕ → List (Option ℕ)) (count : ℕ) (targets : List (Option ℕ))
    (begun edges : List ℕ) (e : ℕ) (mark : List ℕ)
    → IsFirstPlace makers count targets mark e → IsMarkAfter makers count targets begun (edges ++ e ∷ []) mark
IsMarkAfter-push makers count targets begun edges e mark first = grind (arith, last_or-push)

module _ (makers : ℕ → List (Option ℕ)) (count : ℕ) (phony : ℕ → Bool) (targets : List (Option ℕ))
    (acyclic : IsAcyclic makers count) (inside : AreWithin targets count) where
  front-of : (mark : List ℕ) → is_valid makers targets mark ≡ true
      → (more : List ℕ) × (unfolded_row makers count targets ≡ done makers count targets mark ++ more)
  front-of mark valid = done-front makers count acyclic.0 acyclic.1 targets
      (λ m a. inside m (Contains-from_Among targets m a)) mark valid

  suffix : (mark : List ℕ) → is_valid makers targets mark ≡ true
      → (taken : List ℕ) × (needed_commands makers count phony targets
      ≡ taken ++ rest makers count phony targets mark)
  suffix mark valid =
      let f = front-of mark valid in (
        filter (plain phony) (each_once nat_eq (done makers count targets mark)),
        left-is_end phony (unfolded_row makers count targets) (done makers count targets mark) f.0 f.1,
      )

  -- an edge was returned last
  keeps-last : (begun front : List ℕ) (e : ℕ) (left mark : List ℕ) → is_valid makers targets begun ≡ true
      → rest makers count phony targets begun ≡ front ++ e ∷ left
      → IsFirstPlace makers count targets mark e
      → (is_valid makers targets mark ≡ true) × (rest makers count phony targets mark ≡ left)
  keeps-last begun front e left mark valid is first =
      let here = valid-from_edge makers targets mark e first.0 in
      let before = first.1.0 in
      let f = front-of mark here in
      let s = suffix begun valid in
      let whole : unfolded_row makers count targets ≡ before ++ e ∷ f.0 =
      f.1 ∙ ap (λ (us : List ℕ). us ++ f.0) first.1.1 ∙ append_assoc before (e ∷ []) f.0 in
      let C = needed_commands makers count phony targets in (
        here,
        ap (λ (us : List ℕ). without us C) first.1.1
            ∙ same-left phony (unfolded_row makers count targets) before e f.0 s.0 front left whole first.1.2
            (s.1 ∙ ap (λ (es : List ℕ). s.0 ++ es) is),
      )

  keeps : (begun edges left mark : List ℕ) → is_valid makers targets begun ≡ true
      → rest makers count phony targets begun ≡ edges ++ left
      → IsMarkAfter makers count targets begun edges mark
      → (is_valid makers targets mark ≡ true) × (rest makers count phony targets mark ≡ left)
  keeps begun [] left mark valid is after =
      (ap (is_valid makers targets) after ∙ valid, ap (rest makers count phony targets) after ∙ is)
  keeps begun (e ∷ edges) left mark valid is after =
      let l = last-split e edges in
      let first : IsFirstPlace makers count targets mark l.1 =
      subst (λ (o : Option ℕ). MatchOption o (mark ≡ begun)
      (λ x. IsFirstPlace makers count targets mark x)) l.3 after in
      let split : rest makers count phony targets begun ≡ l.0 ++ l.1 ∷ left =
      is ∙ ap (λ (es : List ℕ). es ++ left) l.2 ∙ append_assoc l.0 (l.1 ∷ []) left in
      keeps-last begun l.0 l.1 left mark valid split first

  join : (mark takes : List ℕ) (pages : List (List ℕ)) (left : List ℕ) → is_valid makers targets mark ≡ true
      → ArePages makers count phony targets mark takes pages left
      → rest makers count phony targets mark ≡ concat pages ++ left
  join mark [] [] left valid (no_runs is) = is
  join mark [] (page ∷ pages) left valid runs = elim runs [ ]
  join mark (take ∷ takes) [] left valid runs = elim runs [ ]
  join mark (take ∷ []) (page ∷ []) [] valid (ends is short) =
      is ∙ sym (append-nil page) ∙ sym (append-nil (page ++ []))
  join mark (take ∷ takes) (page ∷ pages) left valid (stops e others next is full after later) =
      let k = keeps mark page (e ∷ others) next valid is after in
      is ∙ ap (λ (es : List ℕ). page ++ es) (sym k.1 ∙ join next takes pages left k.0 later)
      ∙ sym (append_assoc page (concat pages) left)

pub mark-keeps_the_rest : MarkKeepsTheRest
mark-keeps_the_rest makers count phony targets acyclic inside =
    keeps makers count phony targets acyclic inside

pub pages-join : PagesJoin
pages-join makers count phony targets acyclic inside = join makers count phony targets acyclic inside

pub rest-is_suffix : RestIsSuffix
rest-is_suffix makers count phony targets acyclic inside = suffix makers count phony targets acyclic inside
