-- Lemmas on the edges that are pending on dyndep files.
use Rattle.std.proofs.Common.{◌≡◌, ◌⊎◌, inl, inr, ℕ, zero, suc, ◌+◌, ◌<◌, ◌≤◌, ◌==◌, ◌&&◌, ◌||◌}
use Rattle.std.proofs.Common.{if◌then◌else◌, Bool, true, false, not, cond, true≢false, ◌≢◌, List, [], ◌∷◌}
use Rattle.std.proofs.Common.{◌++◌, length, get_or, set, replicate, take, drop, map, slice_get, Option, Some}
use Rattle.std.proofs.Common.{None, option_map, option_and_then, IfSome, is_some, unwrap_or, refl, sym, ap}
use Rattle.std.proofs.Common.{subst, ◌∙◌, arith}
use Rattle.std.specs.List.{AllByRecursion, IsDistinct, filter}
use Rattle.std.specs.Prelude.{bytes_eq, find}
use Rattle.std.proofs.lemmas.List.{append-nil, append_assoc, set_at, map-set, length-set, length_push}
use Rattle.std.proofs.lemmas.List.{take_all, take_more, drop_more, get_or-set_same, get_or-set_other}
use Rattle.std.proofs.lemmas.List.Elements.{filter-append}
use Rattle.std.proofs.lemmas.Bool.{cases_lt}
use Rattle.std.proofs.lemmas.Bool.Decides.{eqb_tells}
use Rattle.std.proofs.lemmas.Option.{same_Some, slice_get-get_or}
use Rattle.nj_names.specs.declared.files.FileNo.{FileNo}
use Rattle.nj_edges.specs.Edges.{first_edge}
use Rattle.nj_names.specs.Files.{path_at}
use Rattle.nj_edges.specs.Joining.{changed_at}
use Rattle.nj_edges.proofs.EdgeLemmas.{same-number}
use Rattle.nj_statements.specs.declared.records.DyndepEdge.{DyndepEdge}
use Rattle.nj_statements.specs.EdgeList.{Pending}
use Rattle.nj_statements.specs.Joining.{dyndep_files, pending_on}
use Rattle.nj_statements.specs.JoiningHeld.{unless_joined, still_pending, pending_of, pending_from}
use Rattle.nj_statements.specs.Inside.JoiningSteps.{is_bound_to, one_if, count_pending, count_bound, bind_all}
use Rattle.nj_statements.specs.Inside.JoiningSteps.{first_edges, AreByNumber, edge_if, edges_in, file_named}
use Rattle.nj_statements.specs.Records.{pending_named}

-- ---- edges that are still pending

none-joined : {A : Type 0} (b : Option A) (was : Bool) → b ≡ None → unless_joined b was ≡ None
none-joined b true is = refl
none-joined b false is = is

-- the file on which an edge is pending
pub still-at : {A : Type 0} (bound : List (Option A)) (was : List Bool) (n : ℕ)
    → get_or (still_pending bound was) n None ≡ unless_joined (get_or bound n None) (get_or was n false)
still-at [] was n = sym (none-joined None (get_or was n false) refl)
still-at (b ∷ bound) [] n = refl
still-at (b ∷ bound) (j ∷ was) zero = refl
still-at (b ∷ bound) (j ∷ was) (suc n) = still-at bound was n

pub still-length : {A : Type 0} (bound : List (Option A)) (was : List Bool)
    → length (still_pending bound was) ≡ length bound
still-length [] was = refl
still-length (b ∷ bound) [] = refl
still-length (b ∷ bound) (j ∷ was) = ap suc (still-length bound was)

-- where nothing is joined, all of them are pending
pub still-all : {A B : Type 0} (bound : List (Option A)) (others : List B)
    → still_pending bound (map (λ e. false) others) ≡ bound
still-all [] others = refl
still-all (b ∷ bound) [] = refl
still-all (b ∷ bound) (x ∷ others) = ap (λ bs. b ∷ bs) (still-all bound others)

map-unless : {A B : Type 0} (g : A → B) (b : Option A) (was : Bool)
    → option_map g (unless_joined b was) ≡ unless_joined (option_map g b) was
map-unless g b true = refl
map-unless g b false = refl

pub still-map : {A B : Type 0} (g : A → B) (bound : List (Option A)) (was : List Bool)
    → map (option_map g) (still_pending bound was) ≡ still_pending (map (option_map g) bound) was
still-map g [] was = refl
still-map g (b ∷ bound) [] = refl
still-map g (b ∷ bound) (j ∷ was) = ap (λ w. w ∷ map (option_map g) (still_pending bound was))
    (map-unless g b j) ∙ ap (λ ws. unless_joined (option_map g b) j ∷ ws) (still-map g bound was)

-- once it is joined, an edge is no longer pending
pub still-changed : {A : Type 0} (bound : List (Option A)) (was : List Bool) (n : ℕ) → n < length was
    → still_pending bound (changed_at (λ w. true) n was) ≡ changed_at (λ w. None) n (still_pending bound was)
unfolding changed_at
still-changed [] was n below = refl
still-changed (b ∷ bound) [] n below = absurd (omega arith)
still-changed (b ∷ bound) (j ∷ was) zero below = refl
still-changed (b ∷ bound) (j ∷ was) (suc n) below =
    ap (λ ws. unless_joined b j ∷ ws) (still-changed bound was n (omega arith))

-- ---- the pending edges, by number

-- a path on which an edge is pending
abbrev pub is_path : Option (List ℕ) → (path : List ℕ) → Bool
is_path None path = false
is_path (Some file) path = bytes_eq file path

none-after : (o : Option ℕ) → option_map (λ n. n + 1) o ≡ None → o ≡ None
none-after None h = refl
none-after (Some n) h = absurd (true≢false (ap is_some h))

some-after : (o : Option ℕ) (n : ℕ) → option_map (λ i. i + 1) o ≡ Some n
    → (j : ℕ) × (o ≡ Some j) × (n ≡ suc j)
some-after None n h = absurd (true≢false (sym (ap is_some h)))
some-after (Some j) n h = (j, refl, let is = same_Some (j + 1) n h in omega (arith, is))

same-eqb : (n : ℕ) → (n == n) ≡ true
same-eqb n = by (eqb_tells n n)
  where
    by : ((n == n) ≡ true × (n ≡ n)) ⊎ ((n == n) ≡ false × (n ≢ n)) → (n == n) ≡ true
    by (inl (h, is)) = h
    by (inr (h, apart)) = absurd (apart refl)

other-eqb : (n m : ℕ) → n ≢ m → (n == m) ≡ false
other-eqb n m apart = by (eqb_tells n m)
  where
    by : ((n == m) ≡ true × (n ≡ m)) ⊎ ((n == m) ≡ false × (n ≢ m)) → (n == m) ≡ false
    by (inl (h, is)) = absurd (apart is)
    by (inr (h, no_more)) = h

or-false : (b : Bool) → (b || false) ≡ b
or-false true = refl
or-false false = refl

pends-below : (path : List ℕ) (k : ℕ) (ws : List (Option (List ℕ))) (n : ℕ) → n < k
    → pending_on path (pending_from k ws) (Some n) ≡ false
pends-below path k [] n below = refl
pends-below path k (None ∷ ws) n below = pends-below path (k + 1) ws n (omega arith)
pends-below path k (Some f ∷ ws) n below =
    ap (λ b. b && bytes_eq f path || pending_on path (pending_from (k + 1) ws) (Some n))
    (other-eqb k n (omega arith))
    ∙ pends-below path (k + 1) ws n (omega arith)

pub unjoined-at : (path : List ℕ) (k : ℕ) (ws : List (Option (List ℕ))) (n m : ℕ) → m ≡ k + n
    → pending_on path (pending_from k ws) (Some m) ≡ is_path (get_or ws n None) path
unjoined-at path k [] n m is = refl
unjoined-at path k (None ∷ ws) zero m is = pends-below path (k + 1) ws m (omega (arith, is))
unjoined-at path k (Some f ∷ ws) zero m is =
    ap (λ b. b && bytes_eq f path || pending_on path (pending_from (k + 1) ws) (Some m))
    (ap (λ n. k == n) (let e : m ≡ k = omega (arith, is) in e) ∙ same-eqb k)
    ∙ ap (λ b. bytes_eq f path || b) (pends-below path (k + 1) ws m (omega (arith, is)))
    ∙ or-false (bytes_eq f path)
unjoined-at path k (None ∷ ws) (suc n) m is = unjoined-at path (k + 1) ws n m (omega (arith, is))
unjoined-at path k (Some f ∷ ws) (suc n) m is =
    ap (λ b. b && bytes_eq f path || pending_on path (pending_from (k + 1) ws) (Some m))
    (other-eqb k m (λ e. omega (arith, is, e)))
    ∙ unjoined-at path (k + 1) ws n m (omega (arith, is))

-- the first edge that is pending on a file
pub find-first : (path : List ℕ) (k : ℕ) (ws : List (Option (List ℕ))) (n m : ℕ) (f : List ℕ) → m ≡ k + n
    → first_edge (λ w. is_path w path) ws ≡ Some n → get_or ws n None ≡ Some f
    → find (λ p. bytes_eq p.file path) (pending_from k ws) ≡ Some (record { edge = m; file = f })
find-first path k [] n m f is first at = absurd (true≢false (sym (ap is_some first)))
find-first path k (None ∷ ws) n m f is first at =
    let next = some-after (first_edge (λ w. is_path w path) ws) n first in
    let more = next.2 in
    find-first path (k + 1) ws next.0 m f (omega (arith, is, more)) next.1
    (subst (λ i. get_or (None ∷ ws) i None ≡ Some f) next.2 at)
find-first path k (Some g ∷ ws) n m f is first at =
    by (bytes_eq g path) n first at is (λ j. find-first path (k + 1) ws j m f)
  where
    by : (b : Bool) (n : ℕ) → (if b then Some 0 else option_map (λ i. i + 1)
        (first_edge (λ w. is_path w path) ws)) ≡ Some n → get_or (Some g ∷ ws) n None ≡ Some f → m ≡ k + n
        → ((j : ℕ) → m ≡ k + 1 + j → first_edge (λ w. is_path w path) ws ≡ Some j → get_or ws j None ≡ Some f
        → find (λ (p : Pending). bytes_eq p.file path) (pending_from (k + 1) ws)
        ≡ Some (record { edge = m; file = f }))
        → cond b (Some (record { edge = k; file = g }))
        (find (λ (p : Pending). bytes_eq p.file path) (pending_from (k + 1) ws))
        ≡ Some (record { edge = m; file = f })
    by true n first at is later =
        let zero_is : 0 ≡ n = same_Some 0 n first in
        ap (λ e. Some (record { edge = e; file = g })) (let e : k ≡ m = omega (arith, is, zero_is) in e)
        ∙ ap (λ x. Some (record { edge = m; file = x }))
        (same_Some g f (subst (λ i. get_or (Some g ∷ ws) i None ≡ Some f) (sym zero_is) at))
    by false n first at is later =
        let next = some-after (first_edge (λ w. is_path w path) ws) n first in
        let more = next.2 in
        later next.0 (omega (arith, is, more)) next.1
        (subst (λ i. get_or (Some g ∷ ws) i None ≡ Some f) next.2 at)

pub find-none : (path : List ℕ) (k : ℕ) (ws : List (Option (List ℕ)))
    → first_edge (λ w. is_path w path) ws ≡ None → find (λ p. bytes_eq p.file path) (pending_from k ws) ≡ None
find-none path k [] first = refl
find-none path k (None ∷ ws) first = find-none path (k + 1) ws
    (none-after (first_edge (λ w. is_path w path) ws) first)
find-none path k (Some g ∷ ws) first = by (bytes_eq g path) first (find-none path (k + 1) ws)
  where
    by : (b : Bool) → (if b then Some 0 else option_map (λ i. i + 1) (first_edge (λ w. is_path w path) ws))
        ≡ None
        → (first_edge (λ w. is_path w path) ws ≡ None
        → find (λ (p : Pending). bytes_eq p.file path) (pending_from (k + 1) ws) ≡ None)
        → cond b (Some (record { edge = k; file = g }))
        (find (λ (p : Pending). bytes_eq p.file path) (pending_from (k + 1) ws)) ≡ None
    by true first later = absurd (true≢false (ap is_some first))
    by false first later = later (none-after (first_edge (λ w. is_path w path) ws) first)

-- without the edge of a lower number
kept-below : (k : ℕ) (ws : List (Option (List ℕ))) (n : ℕ) → n < k
    → filter (λ p. not (p.edge == n)) (pending_from k ws) ≡ pending_from k ws
kept-below k [] n below = refl
kept-below k (None ∷ ws) n below = kept-below (k + 1) ws n (omega arith)
kept-below k (Some f ∷ ws) n below =
    ap (λ b. cond (not b) (record { edge = k; file = f } ∷ filter (λ (p : Pending). not (p.edge == n))
    (pending_from (k + 1) ws)) (filter (λ (p : Pending). not (p.edge == n)) (pending_from (k + 1) ws)))
    (other-eqb k n (omega arith))
    ∙ ap (λ ps. record { edge = k; file = f } ∷ ps) (kept-below (k + 1) ws n (omega arith))

pub without-one : (k : ℕ) (ws : List (Option (List ℕ))) (n m : ℕ) → m ≡ k + n
    → filter (λ p. not (p.edge == m)) (pending_from k ws) ≡ pending_from k (changed_at (λ w. None) n ws)
unfolding changed_at
without-one k [] n m is = refl
without-one k (None ∷ ws) zero m is = kept-below (k + 1) ws m (omega (arith, is))
without-one k (Some f ∷ ws) zero m is =
    ap (λ b. cond (not b) (record { edge = k; file = f } ∷ filter (λ (p : Pending). not (p.edge == m))
    (pending_from (k + 1) ws)) (filter (λ (p : Pending). not (p.edge == m)) (pending_from (k + 1) ws)))
    (ap (λ n. k == n) (let e : m ≡ k = omega (arith, is) in e) ∙ same-eqb k)
    ∙ kept-below (k + 1) ws m (omega (arith, is))
without-one k (None ∷ ws) (suc n) m is = without-one (k + 1) ws n m (omega (arith, is))
without-one k (Some f ∷ ws) (suc n) m is =
    ap (λ b. cond (not b) (record { edge = k; file = f } ∷ filter (λ (p : Pending). not (p.edge == m))
    (pending_from (k + 1) ws)) (filter (λ (p : Pending). not (p.edge == m)) (pending_from (k + 1) ws)))
    (other-eqb k m (λ e. omega (arith, is, e)))
    ∙ ap (λ ps. record { edge = k; file = f } ∷ ps) (without-one (k + 1) ws n m (omega (arith, is)))

-- one more
pub pending-more : (k : ℕ) (ws : List (Option (List ℕ))) (w : Option (List ℕ))
    → pending_from k (ws ++ w ∷ []) ≡ pending_from k ws ++ pending_of (k + length ws) w
pending-more k [] None = refl
pending-more k [] (Some f) = ap (λ n. record { edge = n; file = f } ∷ [])
    (let e : k ≡ k + 0 = omega arith in e)
pending-more k (None ∷ ws) w = pending-more (k + 1) ws w
    ∙ ap (λ n. pending_from (k + 1) ws ++ pending_of n w)
    (let e : k + 1 + length ws ≡ k + suc (length ws) = omega arith in e)
pending-more k (Some f ∷ ws) w =
    ap (λ ps. record { edge = k; file = f } ∷ ps)
    (pending-more (k + 1) ws w ∙ ap (λ n. pending_from (k + 1) ws ++ pending_of n w)
    (let e : k + 1 + length ws ≡ k + suc (length ws) = omega arith in e))

-- ---- the same edges, each at the index of its number

edges-more : (ws : List (Option DyndepEdge)) (w : Option DyndepEdge)
    → edges_in (ws ++ w ∷ []) ≡ edges_in ws ++ edge_if w
edges-more [] None = refl
edges-more [] (Some d) = refl
edges-more (None ∷ ws) w = edges-more ws w
edges-more (Some d ∷ ws) w = ap (λ ds. d ∷ ds) (edges-more ws w)

pub none-is : {A : Type 0} (o : Option A) → ((x : A) → o ≡ Some x → ⊥) → o ≡ None
none-is None apart = refl
none-is (Some x) apart = absurd (apart x refl)

unless-known : (P : DyndepEdge → Type 0) (w : Option DyndepEdge) (was : Bool) → IfSome w P
    → IfSome (unless_joined w was) P
unless-known P w true known = tt
unless-known P w false known = known

pub still-by-number : (bound : List (Option DyndepEdge)) (was : List Bool) → AreByNumber bound
    → AreByNumber (still_pending bound was)
still-by-number bound was are = λ n.
    subst (λ (w : Option DyndepEdge). IfSome w (λ d. d.edge.0 ≡ n)) (sym (still-at bound was n))
    (unless-known (λ d. d.edge.0 ≡ n) (get_or bound n None) (get_or was n false) (are n))

-- the edge that is still pending at an index
pub still-edge : (bound : List (Option DyndepEdge)) (was : List Bool) (n : ℕ) → AreByNumber bound
    → option_and_then (λ d. unless_joined (get_or bound n None) (get_or was d.edge.0 false))
    (get_or bound n None) ≡ get_or (still_pending bound was) n None
still-edge bound was n are = by (get_or bound n None) (are n) ∙ sym (still-at bound was n)
  where
    by : (b : Option DyndepEdge) → IfSome b (λ d. d.edge.0 ≡ n)
        → option_and_then (λ (d : DyndepEdge). unless_joined b (get_or was d.edge.0 false)) b
        ≡ unless_joined b (get_or was n false)
    by None is = sym (none-joined None (get_or was n false) refl)
    by (Some d) is = ap (λ m. unless_joined (Some d) (get_or was m false)) is

-- its number
pub still-number : (bound : List (Option DyndepEdge)) (was : List Bool) (n : ℕ) (d : DyndepEdge)
    → AreByNumber bound → get_or (still_pending bound was) n None ≡ Some d → d.edge.0 ≡ n
still-number bound was n d are is =
    subst (λ (w : Option DyndepEdge). IfSome w (λ e. e.edge.0 ≡ n)) is (still-by-number bound was are n)

pub edge-within : (w : Option DyndepEdge) (n most : ℕ) → IfSome w (λ d. d.edge.0 ≡ n) → n < most
    → IfSome w (λ d. d.edge.0 < most)
edge-within None n most is below = tt
edge-within (Some d) n most is below = omega (arith, is, below)

-- one more edge, if it is still pending
pub edges-turn : (bound : List (Option DyndepEdge)) (was : List Bool) (n : ℕ) → n < length bound
    → edges_in (take (n + 1) (still_pending bound was))
    ≡ edges_in (take n (still_pending bound was)) ++ edge_if (get_or (still_pending bound was) n None)
edges-turn bound was n below =
    ap edges_in (take_more (still_pending bound was) n None
    (subst (λ m. n < m) (sym (still-length bound was)) below))
    ∙ edges-more (take n (still_pending bound was)) (get_or (still_pending bound was) n None)

pub edges-all : (bound : List (Option DyndepEdge)) (was : List Bool) (n : ℕ) → length bound ≤ n
    → take n (still_pending bound was) ≡ still_pending bound was
edges-all bound was n past = take_all n (still_pending bound was)
    (subst (λ m. m ≤ n) (sym (still-length bound was)) past)

-- numbered from this number on
abbrev AreFrom : (k : ℕ) → List (Option DyndepEdge) → Type 0
AreFrom k ws = (n : ℕ) → IfSome (get_or ws n None) (λ d. d.edge.0 ≡ k + n)

pub from-zero : (ws : List (Option DyndepEdge)) → AreByNumber ws → AreFrom 0 ws
from-zero ws are = λ n. by n (get_or ws n None) (are n)
  where
    by : (n : ℕ) (w : Option DyndepEdge) → IfSome w (λ d. d.edge.0 ≡ n) → IfSome w (λ d. d.edge.0 ≡ 0 + n)
    by n None is = tt
    by n (Some d) is = omega (arith, is)

from-next : (k : ℕ) (w : Option DyndepEdge) (ws : List (Option DyndepEdge)) → AreFrom k (w ∷ ws)
    → AreFrom (k + 1) ws
from-next k w ws are = λ n. by n (get_or ws n None) (are (suc n))
  where
    by : (n : ℕ) (w : Option DyndepEdge) → IfSome w (λ d. d.edge.0 ≡ k + suc n)
        → IfSome w (λ d. d.edge.0 ≡ k + 1 + n)
    by n None is = tt
    by n (Some d) is = omega (arith, is)

pub edges-named : (files : List (List ℕ)) (k : ℕ) (ws : List (Option DyndepEdge)) → AreFrom k ws
    → map (pending_named files) (edges_in ws) ≡ pending_from k (map (file_named files) ws)
edges-named files k [] are = refl
edges-named files k (None ∷ ws) are = edges-named files (k + 1) ws (from-next k None ws are)
edges-named files k (Some d ∷ ws) are =
    ap (λ n. record { edge = n; file = path_at files d.file } ∷ map (pending_named files) (edges_in ws))
    (let here : d.edge.0 ≡ k + 0 = are 0 in let e : d.edge.0 ≡ k = omega (arith, here) in e)
    ∙ ap (λ ps. record { edge = k; file = path_at files d.file } ∷ ps)
    (edges-named files (k + 1) ws (from-next k (Some d) ws are))

pub edges-files : (most : ℕ) (ws : List (Option DyndepEdge))
    → AllByRecursion (λ w. IfSome w (λ d. d.file.0 < most)) ws
    → AllByRecursion (λ (d : DyndepEdge). d.file.0 < most) (edges_in ws)
edges-files most [] all = tt
edges-files most (None ∷ ws) all = edges-files most ws all.1
edges-files most (Some d ∷ ws) all = (all.0, edges-files most ws all.1)

pub edges-below : (most k : ℕ) (ws : List (Option DyndepEdge)) → AreFrom k ws → k + length ws ≤ most
    → AllByRecursion (λ (d : DyndepEdge). d.edge.0 < most) (edges_in ws)
edges-below most k [] are within = tt
edges-below most k (None ∷ ws) are within =
    edges-below most (k + 1) ws (from-next k None ws are) (omega (arith, within))
edges-below most k (Some d ∷ ws) are within = (
  (let here : d.edge.0 ≡ k + 0 = are 0 in omega (arith, here, within)),
  edges-below most (k + 1) ws (from-next k (Some d) ws are) (omega (arith, within)),
)

pub still-known : (P : DyndepEdge → Type 0) (bound : List (Option DyndepEdge)) (was : List Bool)
    → AllByRecursion (λ w. IfSome w P) bound → AllByRecursion (λ w. IfSome w P) (still_pending bound was)
still-known P [] was all = tt
still-known P (b ∷ bound) [] all = all
still-known P (b ∷ bound) (j ∷ was) all = (unless-known P b j all.0, still-known P bound was all.1)

-- ---- counts

pub count-removed : (file : FileNo) (ws : List (Option DyndepEdge)) (n : ℕ)
    → is_bound_to (get_or ws n None) file ≡ true
    → count_pending file ws ≡ suc (count_pending file (changed_at (λ w. None) n ws))
unfolding changed_at
count-removed file [] n h = absurd (true≢false (sym h))
count-removed file (w ∷ ws) zero h = let is = ap one_if h in omega (arith, is)
count-removed file (w ∷ ws) (suc n) h = let is = count-removed file ws n h in omega (arith, is)

pub count-less : (file : FileNo) (ws : List (Option DyndepEdge)) (n : ℕ)
    → count_pending file (changed_at (λ w. None) n ws) ≤ count_pending file ws
unfolding changed_at
count-less file [] n = omega arith
count-less file (w ∷ ws) zero = omega arith
count-less file (w ∷ ws) (suc n) = let is = count-less file ws n in omega (arith, is)

count-set : (file : FileNo) (ws : List (Option DyndepEdge)) (n : ℕ) (d : DyndepEdge)
    → count_pending file (set ws n (Some d)) ≤ one_if (d.file.0 == file.0) + count_pending file ws
count-set file [] n d = omega arith
count-set file (w ∷ ws) zero d = omega arith
count-set file (w ∷ ws) (suc n) d = let is = count-set file ws n d in omega (arith, is)

pub count-bind : (file : FileNo) (ds : List DyndepEdge) (ws : List (Option DyndepEdge))
    → count_pending file (bind_all ds ws) ≤ count_bound file ds + count_pending file ws
count-bind file [] ws = omega arith
count-bind file (d ∷ ds) ws =
    let rest = count-bind file ds (set ws d.edge.0 (Some d)) in
    let here = count-set file ws d.edge.0 d in
    omega (arith, rest, here)

pub count-none : (file : FileNo) (n : ℕ) → count_pending file (replicate n None) ≡ 0
count-none file zero = refl
count-none file (suc n) = let is = count-none file n in omega (arith, is)

pub count-most : (file : FileNo) (ds : List DyndepEdge) → count_bound file ds ≤ length ds
count-most file [] = omega arith
count-most file (d ∷ ds) = let is = count-most file ds in by (d.file.0 == file.0) is
  where
    by : (b : Bool) → count_bound file ds ≤ length ds → one_if b + count_bound file ds ≤ suc (length ds)
    by true h = omega (arith, h)
    by false h = omega (arith, h)

pub count-more : (file : FileNo) (ds : List DyndepEdge) (d : DyndepEdge)
    → count_bound file (ds ++ d ∷ []) ≡ count_bound file ds + one_if (d.file.0 == file.0)
count-more file [] d = omega arith
count-more file (x ∷ ds) d = let is = count-more file ds d in omega (arith, is)

-- if no edge is pending on a file, there is no first pending edge
pub none-first : (file : FileNo) (ws : List (Option DyndepEdge)) → count_pending file ws ≡ 0
    → first_edge (λ w. is_bound_to w file) ws ≡ None
none-first file [] none = refl
none-first file (w ∷ ws) none = by (is_bound_to w file) none (none-first file ws)
  where
    by : (b : Bool) → one_if b + count_pending file ws ≡ 0
        → (count_pending file ws ≡ 0 → first_edge (λ w. is_bound_to w file) ws ≡ None)
        → (if b then Some 0 else option_map (λ n. n + 1) (first_edge (λ w. is_bound_to w file) ws)) ≡ None
    by true none later = absurd (omega (arith, none))
    by false none later = ap (option_map (λ n. n + 1)) (later (omega (arith, none)))

-- ---- the dyndep files of edges

abbrev pub default-edge : DyndepEdge
default-edge = record { edge = record { 0 = 0 }; file = record { 0 = 0 } }

-- the dyndep files of one more edge
pub first-more : (ds : List DyndepEdge) (d : DyndepEdge)
    → ((count_bound d.file ds ≡ 0) × (first_edges (ds ++ d ∷ []) ≡ first_edges ds ++ d ∷ []))
    ⊎ ((0 < count_bound d.file ds) × (first_edges (ds ++ d ∷ []) ≡ first_edges ds))
first-more [] d = inl (refl, refl)
first-more (x ∷ ds) d = by (first-more ds d) (eqb_tells x.file.0 d.file.0)
  where
    others : List DyndepEdge → List DyndepEdge
    others ys = x ∷ filter (λ other. not (other.file.0 == x.file.0)) ys

    with-last : (b : Bool) → (d.file.0 == x.file.0) ≡ b
        → others (first_edges ds ++ d ∷ []) ≡ others (first_edges ds) ++ cond (not b) (d ∷ []) []
    with-last b is =
        ap (λ ys. x ∷ ys) (filter-append (λ (other : DyndepEdge). not (other.file.0 == x.file.0))
        (first_edges ds) (d ∷ []) ∙ ap (λ c. filter
        (λ (other : DyndepEdge). not (other.file.0 == x.file.0)) (first_edges ds)
        ++ cond (not c) (d ∷ []) []) is)

    by : ((count_bound d.file ds ≡ 0) × (first_edges (ds ++ d ∷ []) ≡ first_edges ds ++ d ∷ []))
        ⊎ ((0 < count_bound d.file ds) × (first_edges (ds ++ d ∷ []) ≡ first_edges ds))
        → ((x.file.0 == d.file.0) ≡ true × (x.file.0 ≡ d.file.0))
        ⊎ ((x.file.0 == d.file.0) ≡ false × (x.file.0 ≢ d.file.0))
        → ((count_bound d.file (x ∷ ds) ≡ 0)
        × (first_edges (x ∷ ds ++ d ∷ []) ≡ first_edges (x ∷ ds) ++ d ∷ []))
        ⊎ ((0 < count_bound d.file (x ∷ ds)) × (first_edges (x ∷ ds ++ d ∷ []) ≡ first_edges (x ∷ ds)))
    by (inl (none, is)) (inl (same, e)) =
        inr (
          (let h = ap one_if same in omega (arith, h)),
          ap others is
              ∙ with-last true (ap (λ n. n == x.file.0) (sym e) ∙ same-eqb x.file.0)
              ∙ append-nil (others (first_edges ds)),
        )
    by (inl (none, is)) (inr (other, apart)) =
        inl (
          (let h = ap one_if other in omega (arith, h, none)),
          ap others is
              ∙ with-last false (other-eqb d.file.0 x.file.0 (λ e. apart (sym e))),
        )
    by (inr (some, is)) h = inr (omega (arith, some), ap others is)

-- the first edges of each file, after this many edges of a file were seen
pub first-next : (ds : List DyndepEdge) (i n : ℕ) (fs gs : List DyndepEdge) → i < length ds
    → n ≡ count_bound (get_or ds i default-edge).file (take i ds) → fs ≡ first_edges (take i ds)
    → ((n ≡ 0) × (gs ≡ fs ++ get_or ds i default-edge ∷ [])) ⊎ ((n ≢ 0) × (gs ≡ fs))
    → gs ≡ first_edges (take (i + 1) ds)
first-next ds i n fs gs below seen is turn =
    by turn (first-more (take i ds) d) ∙ ap first_edges (sym (take_more ds i default-edge below))
  where
    d : DyndepEdge
    d = get_or ds i default-edge

    by : ((n ≡ 0) × (gs ≡ fs ++ d ∷ [])) ⊎ ((n ≢ 0) × (gs ≡ fs))
        → ((count_bound d.file (take i ds) ≡ 0)
        × (first_edges (take i ds ++ d ∷ []) ≡ first_edges (take i ds) ++ d ∷ []))
        ⊎ ((0 < count_bound d.file (take i ds))
        × (first_edges (take i ds ++ d ∷ []) ≡ first_edges (take i ds)))
        → gs ≡ first_edges (take i ds ++ d ∷ [])
    by (inl (new, pushed)) (inl (none, same)) = pushed ∙ ap (λ ys. ys ++ d ∷ []) is ∙ sym same
    by (inl (new, pushed)) (inr (some, same)) = absurd (omega (arith, new, some, seen))
    by (inr (known, kept)) (inl (none, same)) = absurd (known (seen ∙ none))
    by (inr (known, kept)) (inr (some, same)) = kept ∙ is ∙ sym same

-- and how many edges are bound to each file
pub counts-next : (ds : List DyndepEdge) (i n w : ℕ) (ws : List ℕ) → i < length ds
    → n ≡ (get_or ds i default-edge).file.0 → n < length ws → w ≡ get_or ws n 0
    → ((file : FileNo) → get_or ws file.0 0 ≡ count_bound file (take i ds)) → (file : FileNo)
    → get_or (set ws n (w + 1)) file.0 0 ≡ count_bound file (take (i + 1) ds)
counts-next ds i n w ws below is inside now counts file =
    by (eqb_tells d.file.0 file.0) ∙ sym (ap (count_bound file) (take_more ds i default-edge below)
    ∙ count-more file (take i ds) d)
  where
    d : DyndepEdge
    d = get_or ds i default-edge

    by : ((d.file.0 == file.0) ≡ true × (d.file.0 ≡ file.0))
        ⊎ ((d.file.0 == file.0) ≡ false × (d.file.0 ≢ file.0))
        → get_or (set ws n (w + 1)) file.0 0 ≡ count_bound file (take i ds) + one_if (d.file.0 == file.0)
    by (inl (same, e)) =
        let one = ap one_if same in
        let count = counts file in
        let here : n ≡ file.0 = is ∙ e in
        ap (λ m. get_or (set ws n (w + 1)) m 0) (sym here) ∙ get_or-set_same ws n (w + 1) 0 inside
        ∙ (let now' : w ≡ get_or ws file.0 0 = now ∙ ap (λ m. get_or ws m 0) here in
        omega (arith, one, count, now'))
    by (inr (other, apart)) =
        let one = ap one_if other in
        let count = counts file in
        get_or-set_other ws n file.0 (w + 1) 0 (λ e. apart (sym is ∙ sym e))
        ∙ (let h : get_or ws file.0 0 ≡ count_bound file (take i ds) + one_if (d.file.0 == file.0) =
        omega (arith, one, count) in h)

pub rest-known : {X : Type 0} (P : X → Type 0) (xs : List X) (i : ℕ) (d : X) → i < length xs
    → AllByRecursion P (drop i xs) → P (get_or xs i d) × AllByRecursion P (drop (i + 1) xs)
rest-known P xs i d below all = subst (AllByRecursion P) (drop_more xs i d below) all

-- ---- edges that are bound

all-filter : {X : Type 0} (P : X → Type 0) (test : X → Bool) (xs : List X) → AllByRecursion P xs
    → AllByRecursion P (filter test xs)
all-filter P test [] all = tt
all-filter P test (x ∷ xs) (here, all) = by (test x) (all-filter P test xs all)
  where
    by : (b : Bool) → AllByRecursion P (filter test xs)
        → AllByRecursion P (cond b (x ∷ filter test xs) (filter test xs))
    by true rest = (here, rest)
    by false rest = rest

pub firsts-all : (P : DyndepEdge → Type 0) (ds : List DyndepEdge) → AllByRecursion P ds
    → AllByRecursion P (first_edges ds)
firsts-all P [] all = tt
firsts-all P (d ∷ ds) (here, all) = (
  here,
  all-filter P (λ other. not (other.file.0 == d.file.0)) (first_edges ds) (firsts-all P ds all),
)

-- the same by paths
pub firsts-named : (files : List (List ℕ)) → IsDistinct bytes_eq files → (ds : List DyndepEdge)
    → AllByRecursion (λ d. d.file.0 < length files) ds
    → map (pending_named files) (first_edges ds) ≡ dyndep_files (map (pending_named files) ds)
firsts-named files once [] known = refl
firsts-named files once (d ∷ ds) (here, known) =
    ap (λ ps. pending_named files d ∷ ps) (filtered (first_edges ds)
    (firsts-all (λ (e : DyndepEdge). e.file.0 < length files) ds known)
    ∙ ap (filter (λ (q : Pending). not (bytes_eq q.file (path_at files d.file))))
    (firsts-named files once ds known))
  where
    there : (f : FileNo) → f.0 < length files → slice_get files f.0 ≡ Some (path_at files f)
    there f below = let at = slice_get-get_or files f.0 [] below in
        at ∙ sym (ap (λ o. Some (unwrap_or o [])) at)

    same-test : (f : FileNo) → f.0 < length files
        → (f.0 == d.file.0) ≡ bytes_eq (path_at files f) (path_at files d.file)
    same-test f below = same-number files once f.0 (path_at files f) (there f below) d.file here

    filtered : (es : List DyndepEdge) → AllByRecursion (λ e. e.file.0 < length files) es
        → map (pending_named files) (filter (λ other. not (other.file.0 == d.file.0)) es)
        ≡ filter (λ (q : Pending). not (bytes_eq q.file (path_at files d.file)))
        (map (pending_named files) es)
    filtered [] all = refl
    filtered (e ∷ es) (first, all) = by (e.file.0 == d.file.0) (same-test e.file first) (filtered es all)
      where
        by : (b : Bool) → b ≡ bytes_eq (path_at files e.file) (path_at files d.file)
            → map (pending_named files) (filter (λ other. not (other.file.0 == d.file.0)) es)
            ≡ filter (λ (q : Pending). not (bytes_eq q.file (path_at files d.file)))
            (map (pending_named files) es)
            → map (pending_named files) (cond (not b)
            (e ∷ filter (λ other. not (other.file.0 == d.file.0)) es)
            (filter (λ other. not (other.file.0 == d.file.0)) es))
            ≡ filter (λ (q : Pending). not (bytes_eq q.file (path_at files d.file)))
            (map (pending_named files) (e ∷ es))
        by true is rest = rest ∙ ap (λ b. cond (not b)
            (pending_named files e ∷ filter (λ (q : Pending). not (bytes_eq q.file (path_at files d.file)))
            (map (pending_named files) es)) (filter
            (λ (q : Pending). not (bytes_eq q.file (path_at files d.file))) (map (pending_named files) es)))
            is
        by false is rest =
            ap (λ ps. pending_named files e ∷ ps) rest
            ∙ ap (λ b. cond (not b) (pending_named files e ∷ filter
            (λ (q : Pending). not (bytes_eq q.file (path_at files d.file))) (map (pending_named files) es))
            (filter (λ (q : Pending). not (bytes_eq q.file (path_at files d.file)))
            (map (pending_named files) es))) is

-- the files to which edges are bound, by paths
abbrev bind-paths : List Pending → List (Option (List ℕ)) → List (Option (List ℕ))
bind-paths [] bound = bound
bind-paths (p ∷ ps) bound = bind-paths ps (set bound p.edge (Some p.file))

bind-named : (files : List (List ℕ)) (ds : List DyndepEdge) (bound : List (Option DyndepEdge))
    → map (file_named files) (bind_all ds bound)
    ≡ bind-paths (map (pending_named files) ds) (map (file_named files) bound)
bind-named files [] bound = refl
bind-named files (d ∷ ds) bound = bind-named files ds (set bound d.edge.0 (Some d))
    ∙ ap (bind-paths (map (pending_named files) ds)) (map-set (file_named files) bound d.edge.0 (Some d))

bind-pending : (front ws : List (Option (List ℕ))) (k : ℕ) → length front ≡ k
    → bind-paths (pending_from k ws) (front ++ replicate (length ws) None) ≡ front ++ ws
bind-pending front [] k is = refl
bind-pending front (None ∷ ws) k is =
    ap (bind-paths (pending_from (k + 1) ws))
    (sym (append_assoc front (None ∷ []) (replicate (length ws) None)))
    ∙ bind-pending (front ++ None ∷ []) ws (k + 1) (length_push front None ∙ ap (λ n. n + 1) is)
    ∙ append_assoc front (None ∷ []) ws
bind-pending front (Some f ∷ ws) k is =
    ap (bind-paths (pending_from (k + 1) ws))
    (set_at front None (replicate (length ws) None) (Some f) k is
    ∙ sym (append_assoc front (Some f ∷ []) (replicate (length ws) None)))
    ∙ bind-pending (front ++ Some f ∷ []) ws (k + 1) (length_push front (Some f) ∙ ap (λ n. n + 1) is)
    ∙ append_assoc front (Some f ∷ []) ws

named-none : (files : List (List ℕ)) (n : ℕ) → map (file_named files) (replicate n None) ≡ replicate n None
named-none files zero = refl
named-none files (suc n) = ap (λ os. None ∷ os) (named-none files n)

-- the pending edges are the edges that are bound
pub bind-unjoined : (files : List (List ℕ)) (ds : List DyndepEdge) (ws : List (Option (List ℕ))) (count : ℕ)
    → map (pending_named files) ds ≡ pending_from 0 ws → length ws ≡ count
    → map (file_named files) (bind_all ds (replicate count None)) ≡ ws
bind-unjoined files ds ws count is many =
    bind-named files ds (replicate count None)
    ∙ ap (bind-paths (map (pending_named files) ds))
    (named-none files count ∙ ap (λ n. replicate n None) (sym many))
    ∙ ap (λ ps. bind-paths ps (replicate (length ws) None)) is
    ∙ bind-pending [] ws 0 refl

pub bind-length : (ds : List DyndepEdge) (bound : List (Option DyndepEdge))
    → length (bind_all ds bound) ≡ length bound
bind-length [] bound = refl
bind-length (d ∷ ds) bound = bind-length ds (set bound d.edge.0 (Some d))
    ∙ length-set bound d.edge.0 (Some d)

pub bind-known : (count : ℕ) (ds : List DyndepEdge) (bound : List (Option DyndepEdge))
    → AllByRecursion (λ d. d.file.0 < count) ds
    → AllByRecursion (λ b. IfSome b (λ e. e.file.0 < count)) bound
    → AllByRecursion (λ b. IfSome b (λ e. e.file.0 < count)) (bind_all ds bound)
bind-known count [] bound known all = all
bind-known count (d ∷ ds) bound (here, known) all =
    bind-known count ds (set bound d.edge.0 (Some d)) known (all-set bound d.edge.0 all)
  where
    all-set : (bs : List (Option DyndepEdge)) (n : ℕ)
        → AllByRecursion (λ b. IfSome b (λ e. e.file.0 < count)) bs
        → AllByRecursion (λ b. IfSome b (λ e. e.file.0 < count)) (set bs n (Some d))
    all-set [] n all = tt
    all-set (b ∷ bs) zero (first, all) = (here, all)
    all-set (b ∷ bs) (suc n) (first, all) = (first, all-set bs n all)

pub none-known : (count n : ℕ) → AllByRecursion (λ (b : Option DyndepEdge). IfSome b (λ d. d.file.0 < count))
    (replicate n None)
none-known count zero = tt
none-known count (suc n) = (tt, none-known count n)

-- each edge that is bound is at the index of its number
set-if : (P : DyndepEdge → Type 0) (bs : List (Option DyndepEdge)) (m n : ℕ) (d : DyndepEdge)
    → IfSome (get_or bs n None) P → (m ≡ n → P d) → IfSome (get_or (set bs m (Some d)) n None) P
set-if P [] m n d known here = tt
set-if P (b ∷ bs) zero zero d known here = here refl
set-if P (b ∷ bs) zero (suc n) d known here = known
set-if P (b ∷ bs) (suc m) zero d known here = known
set-if P (b ∷ bs) (suc m) (suc n) d known here = set-if P bs m n d known (λ e. here (ap suc e))

pub bind-by-number : (ds : List DyndepEdge) (bound : List (Option DyndepEdge)) → AreByNumber bound
    → AreByNumber (bind_all ds bound)
bind-by-number [] bound are = are
bind-by-number (d ∷ ds) bound are = bind-by-number ds (set bound d.edge.0 (Some d))
    (λ n. set-if (λ e. e.edge.0 ≡ n) bound d.edge.0 n d (are n) (λ e. e))

none-if : (P : DyndepEdge → Type 0) (count n : ℕ) → IfSome (get_or (replicate count None) n None) P
none-if P zero n = tt
none-if P (suc count) zero = tt
none-if P (suc count) (suc n) = none-if P count n

pub none-by-number : (count : ℕ) → AreByNumber (replicate count None)
none-by-number count = λ n. none-if (λ d. d.edge.0 ≡ n) count n

-- ---- the first element, by a walk

pub first-at : {X : Type 0} (test : X → Bool) (xs : List X) (n : ℕ) (d : X)
    → ((m : ℕ) → m < n → test (get_or xs m d) ≡ false) → n < length xs → test (get_or xs n d) ≡ true
    → first_edge test xs ≡ Some n
first-at test [] n d none below here = absurd (omega arith)
first-at test (x ∷ xs) zero d none below here =
    ap (λ b. if b then Some 0 else option_map (λ n. n + 1) (first_edge test xs)) here
first-at test (x ∷ xs) (suc n) d none below here =
    ap (λ b. if b then Some 0 else option_map (λ n. n + 1) (first_edge test xs)) (none 0 (omega arith))
    ∙ ap (option_map (λ n. n + 1)) (first-at test xs n d (λ m h. none (suc m) (omega (arith, h)))
    (omega arith) here)
    ∙ ap Some (let e : n + 1 ≡ suc n = omega arith in e)

pub first-nowhere : {X : Type 0} (test : X → Bool) (xs : List X) (d : X)
    → ((m : ℕ) → m < length xs → test (get_or xs m d) ≡ false) → first_edge test xs ≡ None
first-nowhere test [] d none = refl
first-nowhere test (x ∷ xs) d none =
    ap (λ b. if b then Some 0 else option_map (λ n. n + 1) (first_edge test xs)) (none 0 (omega arith))
    ∙ ap (option_map (λ n. n + 1)) (first-nowhere test xs d (λ m h. none (suc m) (omega (arith, h))))

-- the element at that position passes the test
pub first-passes : {X : Type 0} (test : X → Bool) (xs : List X) (n : ℕ) (d : X) → first_edge test xs ≡ Some n
    → (n < length xs) × (test (get_or xs n d) ≡ true)
first-passes test [] n d first = absurd (true≢false (sym (ap is_some first)))
first-passes test (x ∷ xs) n d first = by (test x) n refl first (λ j. first-passes test xs j d)
  where
    by : (b : Bool) (n : ℕ) → test x ≡ b → (if b then Some 0 else option_map (λ i. i + 1)
        (first_edge test xs)) ≡ Some n
        → ((j : ℕ) → first_edge test xs ≡ Some j → (j < length xs) × (test (get_or xs j d) ≡ true))
        → (n < length (x ∷ xs)) × (test (get_or (x ∷ xs) n d) ≡ true)
    by true n here first later = subst (λ i. (i < length (x ∷ xs)) × (test (get_or (x ∷ xs) i d) ≡ true))
        (same_Some 0 n first) (omega arith, here)
    by false n here first later =
        let next = some-after (first_edge test xs) n first in
        let found = later next.0 next.1 in
        let below = found.0 in
        subst (λ i. (i < length (x ∷ xs)) × (test (get_or (x ∷ xs) i d) ≡ true)) (sym next.2)
        (omega (arith, below), found.1)

-- an edge that is bound to a file, and an edge that is bound to another
pub bound-same : (d : DyndepEdge) (file : FileNo) → d.file.0 ≡ file.0 → is_bound_to (Some d) file ≡ true
bound-same d file is = ap (λ n. d.file.0 == n) (sym is) ∙ same-eqb d.file.0

pub bound-other : (d : DyndepEdge) (file : FileNo) → d.file.0 ≢ file.0 → is_bound_to (Some d) file ≡ false
bound-other d file apart = other-eqb d.file.0 file.0 apart

pub to-next : (P : ℕ → Type 0) (n : ℕ) → ((m : ℕ) → m < n → P m) → P n → (m : ℕ) → m < n + 1 → P m
to-next P n before here m below = by (cases_lt m n)
  where
    by : (m < n) ⊎ (n ≤ m) → P m
    by (inl h) = before m h
    by (inr h) = subst P (let e : n ≡ m = omega (arith, h, below) in e) here
