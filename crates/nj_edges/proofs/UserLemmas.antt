-- Lemmas on the users of files.
use Rattle.std.proofs.lemmas.Grind.{common_steps}
use Rattle.std.proofs.Common.{◌≡◌, ◌≢◌, ◌<◌, ◌≤◌, ◌+◌, ◌-◌, ◌==◌, ◌||◌, ◌⊎◌, inl, inr, leb, ℕ, zero, suc}
use Rattle.std.proofs.Common.{Bool, true, false, cond, List, [], ◌∷◌, ◌++◌, map, length, take, drop}
use Rattle.std.proofs.Common.{slice_get, slice_range, get_or, set, Some, is_some, unwrap_or, refl, sym, ap}
use Rattle.std.proofs.Common.{subst, ◌∙◌, true≢false, arith, add-one, length-take, length-drop}
use Rattle.std.proofs.lemmas.Bool.Decides.{eqb_tells, leb_tells}
use Rattle.std.proofs.lemmas.Grind.{same_number_lists}
use Rattle.std.proofs.lemmas.List.{drop-map, take-append-drop, length-map, length-set}
use Rattle.std.proofs.lemmas.List.{get_or-set_same, get_or-set_other, get_or-drop, get_or-take}
use Rattle.nj_names.specs.declared.files.FileNo.{FileNo}
use Rattle.nj_edges.specs.declared.edges.EdgeNo.{EdgeNo}
use Rattle.nj_edges.specs.declared.edges.EdgeRow.{EdgeRow}
use Rattle.nj_edges.specs.declared.edges.Span.{Span}
use Rattle.nj_edges.specs.declared.users.RowPart.{RowPart}
use Rattle.nj_edges.specs.Edges.{edges_from}
use Rattle.nj_edges.specs.Inside.EdgesHeld.{has_number, within}
use Rattle.nj_edges.specs.Inside.UsersHeld.{AreMarks, AreParts, ArePlaced, HaveCapacity, IsPart, number_at}
use Rattle.nj_edges.specs.Inside.UsersHeld.{numbers_of, plus_use, plus_uses, span_of, starts_with}
use Rattle.nj_edges.specs.Inside.UsersHeld.{users_before, using_edges, with_front}

-- ---- an edge in front

front-first : (edge : ℕ) (xs : List ℕ) → starts_with edge (with_front edge xs) ≡ true
front-first edge xs = grind (arith, common_steps)

front-twice : (edge : ℕ) (xs : List ℕ) → with_front edge (with_front edge xs) ≡ with_front edge xs
front-twice edge xs = ap (λ b. cond b (with_front edge xs) (edge ∷ with_front edge xs)) (front-first edge xs)

-- another edge in front of the uses of a file, or the edge that is already there
plus-here : (f edge : ℕ) (uses : ℕ → List ℕ) → starts_with edge (uses f) ≡ false → (n : ℕ) → n ≡ f
    → plus_use f edge uses n ≡ edge ∷ uses n
plus-here f edge uses other n same = grind (arith, common_steps)

plus-other : (f edge : ℕ) (uses : ℕ → List ℕ) (n : ℕ) → n ≢ f → plus_use f edge uses n ≡ uses n
plus-other f edge uses n apart = grind (arith, common_steps)

-- ---- the files of an edge

pub plus-next : (files : List FileNo) (i : ℕ) (d : FileNo) (edge : ℕ) (uses : ℕ → List ℕ) → i < length files
    → plus_use (get_or files i d).0 edge (plus_uses (take i files) edge uses)
    ≡ plus_uses (take (i + 1) files) edge uses
plus-next files i d edge uses below = grind (arith, common_steps)

has-append : (n : ℕ) (ns ms : List FileNo) → has_number n (ns ++ ms) ≡ (has_number n ns || has_number n ms)
has-append n [] ms = refl
has-append n (f ∷ ns) ms = grind (arith, common_steps, (has-append n ns ms))

front-longer : (edge : ℕ) (xs : List ℕ) → length xs ≤ length (with_front edge xs)
front-longer edge xs = grind (arith, common_steps)

-- some of the files of an edge have no more uses than all of them
capacity-some : (all uses : ℕ → List ℕ) (files : List FileNo) (i edge : ℕ)
    → HaveCapacity all (plus_uses files edge uses) → HaveCapacity all (plus_uses (take i files) edge uses)
capacity-some all uses files i edge capacity n =
    let fewer = by (has_number n (take i files)) (has_number n (drop i files)) (front-longer edge (uses n)) in
    let whole : has_number n files ≡ (has_number n (take i files) || has_number n (drop i files)) =
    ap (has_number n) (sym (take-append-drop i files)) ∙ has-append n (take i files) (drop i files) in
    let most : length (cond (has_number n (take i files) || has_number n (drop i files))
    (with_front edge (uses n)) (uses n)) ≤ length (all n) =
    subst (λ b. length (cond b (with_front edge (uses n)) (uses n)) ≤ length (all n)) whole (capacity n) in
    omega (arith, fewer, most)
  where
    by : (a b : Bool) → length (uses n) ≤ length (with_front edge (uses n))
        → length (cond a (with_front edge (uses n)) (uses n)) ≤ length
        (cond (a || b) (with_front edge (uses n)) (uses n))
    by true b more = omega arith
    by false true more = more
    by false false more = omega arith

pub capacity-next : (all uses : ℕ → List ℕ) (files : List FileNo) (i : ℕ) (d : FileNo) (edge : ℕ)
    → i < length files → HaveCapacity all (plus_uses files edge uses)
    → HaveCapacity all (plus_use (get_or files i d).0 edge (plus_uses (take i files) edge uses))
capacity-next all uses files i d edge below capacity = grind (arith, common_steps, capacity-some, plus-next)

-- ---- the edges from last to first

edges-front : {E : Type 0} (k e : ℕ) (test : E → Bool) (es : List E) → e < k
    → with_front e (edges_from k test es) ≡ e ∷ edges_from k test es
edges-front k e test [] less = refl
edges-front k e test (x ∷ xs) less =
    grind (arith, common_steps, (edges-front (k + 1) e test xs (omega arith)))

edge-step : (files : List FileNo) (part : RowPart) (edge : ℕ) (row : EdgeRow) (rest : List EdgeRow) (n : ℕ)
    → plus_uses (within files (span_of part row)) edge (using_edges files part (edge + 1) rest) n
    ≡ using_edges files part edge (row ∷ rest) n
edge-step files part edge row rest n = grind (arith, edges-front, within)

drop-row : {X : Type 0} (rows : List X) (e : ℕ) (row : X) → slice_get rows e ≡ Some row
    → drop e rows ≡ row ∷ drop (e + 1) rows
drop-row [] e row h = absurd (true≢false (sym (ap is_some h)))
drop-row (x ∷ rows) zero row h = ap (λ o. unwrap_or o x ∷ rows) h
drop-row (x ∷ rows) (suc e) row h = let more : drop e rows ≡ row ∷ drop (e + 1) rows = drop-row rows e row h
    in rw (add-one (suc e)) (rw (add-one e) at more)

-- one more edge, by its files
pub rows-next : (files : List FileNo) (part : RowPart) (rows : List EdgeRow) (e at : ℕ) (row : EdgeRow)
    (found : List FileNo) → at ≡ e + 1 → slice_get rows e ≡ Some row → found ≡ within files (span_of part row)
    → plus_uses found e (using_edges files part at (drop at rows)) ≡ using_edges files part e (drop e rows)
rows-next files part rows e at row found at-is here is = grind (arith, drop-row, edge-step, here, within)

edges-fewer : {E : Type 0} (k j : ℕ) (test : E → Bool) (es : List E)
    → length (edges_from (k + j) test (drop j es)) ≤ length (edges_from k test es)
edges-fewer k zero test es = grind (arith, common_steps)
edges-fewer k (suc j) test [] = omega arith
edges-fewer k (suc j) test (x ∷ xs) = grind (arith, common_steps, (edges-fewer (k + 1) j test xs))

-- the edges from a later edge on do not have more uses than all edges
pub rows-capacity : (files : List FileNo) (part : RowPart) (rows : List EdgeRow) (e : ℕ)
    → HaveCapacity (using_edges files part 0 rows) (using_edges files part e (drop e rows))
rows-capacity files part rows e n =
    let same : 0 + e ≡ e = omega arith in
    subst (λ m. length (using_edges files part m (drop e rows) n) ≤ length (using_edges files part 0 rows n))
    same (edges-fewer 0 e (λ (r : EdgeRow). has_number n (within files (span_of part r))) rows)

-- ---- ends

before-rises : (uses : ℕ → List ℕ) (m n : ℕ) → m ≤ n → users_before uses m ≤ users_before uses n
before-rises uses m zero below = let none : m ≡ 0 = omega arith in rw none (omega arith)
before-rises uses m (suc n) below = by (eqb_tells m (suc n)) (λ less. before-rises uses m n less)
  where
    by : ((m == suc n) ≡ true × (m ≡ suc n)) ⊎ ((m == suc n) ≡ false × (m ≢ suc n))
        → (m ≤ n → users_before uses m ≤ users_before uses n)
        → users_before uses m ≤ users_before uses (suc n)
    by (inl same) up = subst (λ k. users_before uses m ≤ users_before uses k) same.1 (omega arith)
    by (inr apart) up = let differs : m ≢ suc n = apart.1 in
        let rises : users_before uses m ≤ users_before uses n = up (omega arith) in omega (arith, rises)

before-next : (uses : ℕ → List ℕ) (n : ℕ) → users_before uses (n + 1) ≡ users_before uses n + length (uses n)
before-next uses n = ap (users_before uses) (add-one n)

-- ---- places

module _ (all uses : ℕ → List ℕ) (places marks : List ℕ) (edges : List EdgeNo) (f edge : ℕ)
    (placed : ArePlaced all uses places marks edges) (inside : f < length places) where
  -- there is a place for another edge of a file
  module _ (other : starts_with edge (uses f) ≡ false) (capacity : HaveCapacity all (plus_use f edge uses))
    where
      more : suc (length (uses f)) ≤ length (all f)
      more = subst (λ es. length es ≤ length (all f)) (plus-here f edge uses other f refl) (capacity f)

      place-before : suc (users_before all f) ≤ get_or places f 0
      place-before =
          let ends : get_or places f 0 + length (uses f) ≡ users_before all (f + 1) = placed.ends_are f inside
          in
          let next : users_before all (f + 1) ≡ users_before all f + length (all f) = before-next all f in
          let fewer = more in
          omega (arith, ends, next, fewer)

      pub place-within : get_or places f 0 - 1 < length edges
      place-within =
          let ends : get_or places f 0 + length (uses f) ≡ users_before all (f + 1) = placed.ends_are f inside
          in
          let low = place-before in
          let up : users_before all (f + 1) ≤ users_before all (length places) =
          before-rises all (f + 1) (length places) (omega arith) in
          let count : length edges ≡ users_before all (length places) = placed.count_is in
          omega (arith, ends, low, up, count)

      module _ (place : ℕ) (place-is : place ≡ get_or places f 0 - 1) (marks' : List ℕ)
          (marked : AreMarks marks' (plus_use f edge uses)) where
        abbrev places' : List ℕ
        places' = set places f place

        abbrev edges' : List EdgeNo
        edges' = set edges place (record { 0 = edge })

        place-next : get_or places f 0 ≡ place + 1
        place-next = let low = place-before in omega (arith, low, place-is)

        place-count : length places' ≡ length places
        place-count = length-set places f place

        below-old : (n : ℕ) → n < length places' → n < length places
        below-old n below = subst (λ k. n < k) place-count below

        here-is : (n : ℕ) → n ≡ f → get_or places' n 0 ≡ place
        here-is n same = ap (λ k. get_or places' k 0) same ∙ get_or-set_same places f place 0 inside

        other-is : (n : ℕ) → n ≢ f → get_or places' n 0 ≡ get_or places n 0
        other-is n apart = get_or-set_other places f n place 0 apart

        -- the place of another file's edge is different
        apart-place : (n i : ℕ) → n < length places → n ≢ f → i < length (uses n)
            → get_or places n 0 + i ≢ place
        apart-place n i below differs i-below same = by (leb_tells n f)
          where
            end-n : get_or places n 0 + length (uses n) ≡ users_before all (n + 1)
            end-n = placed.ends_are n below

            end-f : get_or places f 0 + length (uses f) ≡ users_before all (f + 1)
            end-f = placed.ends_are f inside

            start-n : users_before all n ≤ get_or places n 0
            start-n = placed.starts_are n below

            by : ((leb n f ≡ true) × (n ≤ f)) ⊎ ((leb n f ≡ false) × (f < n)) → ⊥
            by (inl before) =
                let up : users_before all (n + 1) ≤ users_before all f =
                before-rises all (n + 1) f (let b : n ≤ f = before.1 in omega (arith, b, differs)) in
                let next = place-next in let low = place-before in let at = same in let end = end-n in
                omega (arith, up, next, low, at, end, i-below)
            by (inr after) =
                let up : users_before all (f + 1) ≤ users_before all n =
                before-rises all (f + 1) n (let b : f < n = after.1 in omega (arith, b)) in
                let next = place-next in let start = start-n in let at = same in let end = end-f in
                omega (arith, up, next, start, at, end)

        pub placed-more : ArePlaced all (plus_use f edge uses) places' marks' edges'
        placed-more = record {
          count_is = length-set edges place (record { 0 = edge }) ∙ placed.count_is
              ∙ ap (users_before all) (sym place-count);
          starts_are = λ n below. starts n (below-old n below) (eqb_tells n f);
          ends_are = λ n below. ends n (below-old n below) (eqb_tells n f);
          edges_are = λ n i below i-below. comes n i (below-old n below) i-below (eqb_tells n f);
          marks_are = marked;
        }
          where
            starts : (n : ℕ) → n < length places → ((n == f) ≡ true × (n ≡ f)) ⊎ ((n == f) ≡ false × (n ≢ f))
                → users_before all n ≤ get_or places' n 0
            starts n below (inl same) =
                let low = place-before in let next = place-next in
                let start : users_before all f ≤ place = omega (arith, low, next) in
                rw (here-is n same.1) (subst (λ k. users_before all k ≤ place) (sym same.1) start)
            starts n below (inr apart) = rw (other-is n apart.1) (placed.starts_are n below)

            ends : (n : ℕ) → n < length places → ((n == f) ≡ true × (n ≡ f)) ⊎ ((n == f) ≡ false × (n ≢ f))
                → get_or places' n 0 + length (plus_use f edge uses n) ≡ users_before all (n + 1)
            ends n below (inl same) =
                let old : get_or places n 0 + length (uses n) ≡ users_before all (n + 1) =
                placed.ends_are n below in
                let next : get_or places n 0 ≡ place + 1 = ap (λ k. get_or places k 0) same.1 ∙ place-next in
                let sum : place + suc (length (uses n)) ≡ users_before all (n + 1) = omega (arith, old, next)
                in
                ap (λ p. p + length (plus_use f edge uses n)) (here-is n same.1)
                ∙ ap (λ es. place + length es) (plus-here f edge uses other n same.1) ∙ sum
            ends n below (inr apart) = ap (λ p. p + length (plus_use f edge uses n)) (other-is n apart.1)
                ∙ ap (λ es. get_or places n 0 + length es) (plus-other f edge uses n apart.1)
                ∙ placed.ends_are n below

            behind : (n i : ℕ) → n < length places → n ≡ f → i < length (edge ∷ uses n)
                → number_at edges' (place + i) ≡ get_or (edge ∷ uses n) i 0
            behind n zero below same i-below = ap (λ k. number_at edges' k) (omega arith)
                ∙ ap (λ (e : EdgeNo). e.0) (get_or-set_same edges place (record { 0 = edge })
                (record { 0 = 0 })
                (let within = place-within in rw place-is within))
            behind n (suc j) below same i-below =
                let next : get_or places n 0 ≡ place + 1 = ap (λ k. get_or places k 0) same ∙ place-next in
                let at-is : place + suc j ≡ get_or places n 0 + j = omega (arith, next) in
                let differs : place + suc j ≢ place = λ (h : place + suc j ≡ place). omega arith in
                ap (λ (e : EdgeNo). e.0) (get_or-set_other edges place (place + suc j) (record { 0 = edge })
                (record { 0 = 0 }) differs) ∙ ap (number_at edges) at-is
                ∙ placed.edges_are n j below (omega arith)

            comes : (n i : ℕ) → n < length places → i < length (plus_use f edge uses n)
                → ((n == f) ≡ true × (n ≡ f)) ⊎ ((n == f) ≡ false × (n ≢ f))
                → number_at edges' (get_or places' n 0 + i) ≡ get_or (plus_use f edge uses n) i 0
            comes n i below i-below (inl same) =
                let are = plus-here f edge uses other n same.1 in
                ap (λ p. number_at edges' (p + i)) (here-is n same.1)
                ∙ behind n i below same.1 (subst (λ es. i < length es) are i-below)
                ∙ ap (λ es. get_or es i 0) (sym are)
            comes n i below i-below (inr apart) =
                let are = plus-other f edge uses n apart.1 in
                let i-old : i < length (uses n) = subst (λ es. i < length es) are i-below in
                ap (λ p. number_at edges' (p + i)) (other-is n apart.1)
                ∙ ap (λ (e : EdgeNo). e.0) (get_or-set_other edges place (get_or places n 0 + i)
                (record { 0 = edge }) (record { 0 = 0 }) (apart-place n i below apart.1 i-old))
                ∙ placed.edges_are n i below i-old ∙ ap (λ es. get_or es i 0) (sym are)

number-map : (edges : List EdgeNo) (k : ℕ) → get_or (numbers_of edges) k 0 ≡ number_at edges k
number-map [] k = refl
number-map (e ∷ edges) zero = refl
number-map (e ∷ edges) (suc k) = number-map edges k

-- all are placed
pub placed-all : (all : ℕ → List ℕ) (places marks : List ℕ) (edges : List EdgeNo)
    → ArePlaced all all places marks edges → AreParts places (numbers_of edges) all
placed-all all places marks edges placed n below = record {
  rises = rise;
  ends = within;
  users_are = same_number_lists (slice_range (numbers_of edges) (get_or places n 0) (get_or places (n + 1) 0))
      (all n) count here;
}
  where
    start : (m : ℕ) → m < length places → get_or places m 0 ≡ users_before all m
    start m inside =
        let ends : get_or places m 0 + length (all m) ≡ users_before all (m + 1) = placed.ends_are m inside in
        let next : users_before all (m + 1) ≡ users_before all m + length (all m) = before-next all m in
        omega (arith, ends, next)

    first : get_or places n 0 + length (all n) ≡ get_or places (n + 1) 0
    first =
        let ends : get_or places n 0 + length (all n) ≡ users_before all (n + 1) =
        placed.ends_are n (omega arith) in
        ends ∙ sym (start (n + 1) below)

    rise : get_or places n 0 ≤ get_or places (n + 1) 0
    rise = let sum = first in omega (arith, sum)

    within : get_or places (n + 1) 0 ≤ length (numbers_of edges)
    within =
        let up : users_before all (n + 1) ≤ users_before all (length places) =
        before-rises all (n + 1) (length places) (omega arith) in
        let at = start (n + 1) below in
        let whole : length (numbers_of edges) ≡ users_before all (length places) =
        length-map edges (λ (e : EdgeNo). e.0) ∙ placed.count_is in
        omega (arith, up, at, whole)

    count : length (slice_range (numbers_of edges) (get_or places n 0) (get_or places (n + 1) 0))
        ≡ length (all n)
    count = let sum = first in let top = within in simp (length-take, length-drop) (omega (arith, sum, top))

    here : (k : ℕ) → k < length (slice_range (numbers_of edges) (get_or places n 0) (get_or places (n + 1) 0))
        → get_or (slice_range (numbers_of edges) (get_or places n 0) (get_or places (n + 1) 0)) k 0
        ≡ get_or (all n) k 0
    here k k-below =
        let inside : k < length (all n) = subst (λ m. k < m) count k-below in
        let sum = first in
        get_or-take (get_or places (n + 1) 0 - get_or places n 0)
        (drop (get_or places n 0) (numbers_of edges)) k 0 (omega (arith, sum, inside))
        ∙ get_or-drop (get_or places n 0) (numbers_of edges) k 0 ∙ number-map edges (get_or places n 0 + k)
        ∙ placed.edges_are n k (omega arith) inside

-- ---- the users of a file

take-map : {X Y : Type 0} (f : X → Y) (n : ℕ) (xs : List X) → take n (map f xs) ≡ map f (take n xs)
take-map f zero xs = refl
take-map f (suc n) [] = refl
take-map f (suc n) (x ∷ xs) = ap (λ ys. f x ∷ ys) (take-map f n xs)

numbers-part : (edges : List EdgeNo) (start end : ℕ)
    → slice_range (numbers_of edges) start end ≡ numbers_of (slice_range edges start end)
numbers-part edges start end = ap (take (end - start)) (drop-map (λ (e : EdgeNo). e.0) start edges)
    ∙ take-map (λ (e : EdgeNo). e.0) (end - start) (drop start edges)

pub part-inside : (edges : List EdgeNo) (start end : ℕ) (users : List ℕ)
    → IsPart (numbers_of edges) start end users → end ≤ length edges
part-inside edges start end users part =
    subst (λ n. end ≤ n) (length-map edges (λ (e : EdgeNo). e.0)) part.ends

pub part-users : (edges found : List EdgeNo) (start end : ℕ) (users : List ℕ)
    → found ≡ slice_range edges start end → IsPart (numbers_of edges) start end users
    → numbers_of found ≡ users
part-users edges found start end users is part =
    ap numbers_of is ∙ sym (numbers-part edges start end) ∙ part.users_are

-- ---- no edge has files in a part

take-none : {A : Type 0} (n : ℕ) → take {A = A} n [] ≡ []
take-none zero = refl
take-none (suc n) = refl

drop-none : {A : Type 0} (n : ℕ) → drop {A = A} n [] ≡ []
drop-none zero = refl
drop-none (suc n) = refl

none-has : (n : ℕ) (span : Span) → has_number n (within [] span) ≡ false
none-has n span = ap (λ ns. has_number n (take (span.end - span.start) ns)) (drop-none span.start)
    ∙ ap (has_number n) (take-none (span.end - span.start))

none-use : (part : RowPart) (edge : ℕ) (rows : List EdgeRow) (n : ℕ) → using_edges [] part edge rows n ≡ []
none-use part edge [] n = refl
none-use part edge (row ∷ rows) n =
    ap (λ b. cond b (edge ∷ using_edges [] part (edge + 1) rows n) (using_edges [] part (edge + 1) rows n))
    (none-has n (span_of part row)) ∙ none-use part (edge + 1) rows n

pub no-users : (files : List FileNo) (part : RowPart) (rows : List EdgeRow) → (length files == 0) ≡ true
    → (n : ℕ) → using_edges files part 0 rows n ≡ []
no-users [] part rows none n = none-use part 0 rows n
no-users (f ∷ files) part rows none n = grind (arith, common_steps)
