-- How the edges that a change reaches are found.
use Rattle.std.proofs.lemmas.Grind.{common_steps}
use Rattle.std.proofs.Common.{◌≡◌, ◌<◌, ◌≤◌, ◌+◌, ◌||◌, ◌⊎◌, ◌↔◌, inl, inr, ℕ, Bool, true, false, cond, List}
use Rattle.std.proofs.Common.{[], ◌∷◌, ◌++◌, map, length, take, get_or, Some, slice_get, unwrap_or, refl, sym}
use Rattle.std.proofs.Common.{ap, subst, ◌∙◌, arith, append-nil}
use Rattle.std.specs.Prelude.{Contains, slice_index}
use Rattle.std.specs.List.{All, list_any}
use Rattle.std.specs.List.Sorted.{IsStrictlyIncreasing}
use Rattle.std.proofs.lemmas.Bool.{both_ways, cases_lt, or_cases}
use Rattle.std.proofs.lemmas.List.{length_push, map_push, take_more}
use Rattle.std.proofs.lemmas.List.Elements.{Contains-append_left, Contains-push, Contains-push_cases}
use Rattle.nj_names.specs.NumberSets.{NumberSetModel, has, with_number}
use Rattle.nj_names.proofs.NumberLemmas.{contains-has, has-contains}
use Rattle.nj_cycles.proofs.Places.{at_left, at_push, contains_at, index_of}
use Rattle.nj_edges.specs.declared.edges.EdgeNo.{EdgeNo}
use Rattle.nj_names.specs.declared.files.FileNo.{FileNo}
use Rattle.nj_edges.specs.Edges.{EdgePaths, edge_at, edges_from, is_among, outputs_of}
use Rattle.nj_names.specs.Files.{path_at, AreFiles}
use Rattle.nj_edges.specs.Changes.{IsAffected}
use Rattle.nj_edges.specs.Changes.IsAffected.{by_file, by_edge}
use Rattle.nj_edges.specs.Inside.ChangesHeld.{FindsAffected, FindsMore, HasInputOf, IsFlagged}
use Rattle.nj_edges.specs.Inside.UsersHeld.{numbers_of}
use Rattle.nj_edges.proofs.GraphUsers.{users-known}
use Rattle.nj_edges.proofs.Passing.{from-more, from-passes, from-rises, passes-from}

-- ---- flags

-- the edges with a flag, by number
pub flagged-listed : (flags : List Bool) (e : ℕ)
    → Contains (edges_from 0 (λ flag. flag) flags) e ↔ IsFlagged flags e
flagged-listed flags e = (
  λ has. let passes = from-passes (λ flag. flag) false refl flags 0 e has in let same : passes.0 ≡ e =
      omega (arith, passes.1) in subst (IsFlagged flags) same passes.2,
  λ is. passes-from (λ flag. flag) false refl flags 0 e (e, omega arith, is),
)

-- the next flag, if it is set, and if it is not
module _ (flags : List Bool) (number : ℕ) (edges : List EdgeNo) (below : number < length flags)
    (listed : numbers_of edges ≡ edges_from 0 (λ flag. flag) (take number flags)) where
  pub flag-set : get_or flags number false ≡ true
      → numbers_of (edges ++ record { 0 = number } ∷ [])
      ≡ edges_from 0 (λ flag. flag) (take (number + 1) flags)
  flag-set is =
      map_push (λ (e : EdgeNo). e.0) edges (record { 0 = number }) ∙ ap (λ ns. ns ++ number ∷ []) listed
      ∙ sym (from-more (λ flag. flag) flags number false true below is)

  pub flag-unset : get_or flags number false ≡ false
      → numbers_of edges ≡ edges_from 0 (λ flag. flag) (take (number + 1) flags)
  flag-unset is = listed ∙ sym (append-nil (edges_from 0 (λ flag. flag) (take number flags)))
      ∙ sym (from-more (λ flag. flag) flags number false false below is)

-- the edges with a flag, in a list by number
module _ (flags : List Bool) (found : List EdgeNo)
    (listed : numbers_of found ≡ edges_from 0 (λ flag. flag) flags) where
  pub found-are : (P : ℕ → Type 0) → ((e : ℕ) → IsFlagged flags e ↔ P e) → (e : ℕ)
      → Contains (numbers_of found) e ↔ P e
  found-are P are e = grind (arith, flagged-listed)

  pub found-rise : IsStrictlyIncreasing (numbers_of found)
  found-rise = subst IsStrictlyIncreasing (sym listed) (from-rises (λ flag. flag) flags 0)

  pub found-below : (count : ℕ) → length flags ≡ count → All (λ e. e.0 < count) found
  found-below count is = subst (λ n. All (λ (e : EdgeNo). e.0 < n) found) is
      (users-known (λ flag. flag) flags found listed)

-- ---- users

-- by some files of an edge, its inputs for example
module _ (files_of : EdgePaths → List (List ℕ)) (none : files_of (edge_at [] 0) ≡ []) (edges : List EdgePaths)
    (path : List ℕ) (e : ℕ) where
  user-has : Contains (edges_from 0 (λ x. is_among (files_of x) path) edges) e
      → is_among (files_of (edge_at edges e)) path ≡ true
  user-has has =
      let passes = from-passes (λ x. is_among (files_of x) path) (edge_at [] 0)
      (ap (λ ps. is_among ps path) none) edges 0 e has in
      let same : passes.0 ≡ e = omega (arith, passes.1) in
      subst (λ n. is_among (files_of (edge_at edges n)) path ≡ true) same passes.2

  has-user : is_among (files_of (edge_at edges e)) path ≡ true
      → Contains (edges_from 0 (λ x. is_among (files_of x) path) edges) e
  has-user is = passes-from (λ x. is_among (files_of x) path) (edge_at [] 0)
      (ap (λ ps. is_among ps path) none) edges 0 e (e, omega arith, is)

-- one of the paths, or one more path, is among some paths
has-more : (paths : List (List ℕ)) (path : List ℕ) (some : List (List ℕ))
    → list_any (is_among some) (paths ++ path ∷ []) ≡ (list_any (is_among some) paths || is_among some path)
has-more paths path some = grind (arith, common_steps)

or-left : (b c : Bool) → b ≡ true → (b || c) ≡ true
or-left b c is = ap (λ x. x || c) is

or-right : (b c : Bool) → c ≡ true → (b || c) ≡ true
or-right true c is = refl
or-right false c is = is

-- ---- some more edges

pub finds-none : (P : ℕ → Type 0) (found : NumberSetModel) → ((e : ℕ) → P e → Contains found.numbers e)
    → FindsMore P found found
finds-none P found all = grind (arith, common_steps)

pub finds-then : (P Q R : ℕ → Type 0) (old mid new : NumberSetModel) → ((e : ℕ) → P e → R e)
    → ((e : ℕ) → Q e → R e) → ((e : ℕ) → R e → P e ⊎ Q e) → FindsMore P old mid → FindsMore Q mid new
    → FindsMore R old new
finds-then P Q R old mid new left right both a b = record {
  limit = b.limit ∙ a.limit;
  kept = λ e is. b.kept e (a.kept e is);
  all = λ e is. elim (both e is) [ inl p ↦ b.kept e (a.all e p) | inr q ↦ b.all e q ];
  fresh = λ e is. elim (b.fresh e is) [
    | inl before ↦ elim (a.fresh e before) [ inl first ↦ inl first | inr p ↦ inr (left e p) ]
    | inr q ↦ inr (right e q)
  ];
  longer = omega (arith, a.longer, b.longer);
  added = λ i past below. elim (cases_lt i (length mid.numbers)) [
    | inl before ↦
        let more = a.added i past before in
        let stays = sym (b.stays i before) in (
          λ has. more.0 (subst (Contains old.numbers) (sym stays) has),
          subst R stays (left (slice_index mid.numbers i) more.1),
        )
    | inr after ↦ let more = b.added i after below in
        (λ has. more.0 (a.kept (slice_index new.numbers i) has), right (slice_index new.numbers i) more.1)
  ];
  stays = λ i below. b.stays i (omega (arith, below, a.longer)) ∙ a.stays i below;
}

-- one edge
pub finds-one : (old : NumberSetModel) (edge : ℕ)
    → FindsMore (λ e. e ≡ edge) old (record old { numbers = with_number old.numbers edge })
finds-one old edge = by (has old.numbers edge) refl
  where
    by : (b : Bool) → has old.numbers edge ≡ b
        → FindsMore (λ e. e ≡ edge) old (record old
        { numbers = cond b old.numbers (old.numbers ++ edge ∷ []) })
    by true known = finds-none (λ e. e ≡ edge) old
        (λ e is. subst (Contains old.numbers) (sym is) (has-contains old.numbers edge known))
    by false unknown = record {
      limit = refl;
      kept = λ e is. Contains-append_left old.numbers (edge ∷ []) e is;
      all = λ e is. subst (Contains (old.numbers ++ edge ∷ [])) (sym is) (Contains-push old.numbers edge);
      fresh = λ e is. elim (Contains-push_cases old.numbers edge e is)
          [ inl was ↦ inl was | inr now ↦ inr (sym now) ];
      longer = omega (arith, length_push old.numbers edge);
      added = λ i past below. elim (at_push old.numbers edge i below) [
        | inl before ↦ absurd (omega (arith, past, before.0))
        | inr last ↦ (
          λ known. absurd (both_ways (has old.numbers edge) unknown
              (contains-has old.numbers edge (subst (Contains old.numbers) last.1 known))),
          last.1,
        )
      ];
      stays = λ i within. at_left old.numbers edge i within;
    }

-- the first edges of a list, and one more edge
pub finds-edge : (first old new : NumberSetModel) (edges : List EdgeNo) (i : ℕ) (d : EdgeNo)
    → i < length edges
    → FindsMore (Contains (numbers_of (take i edges))) first old
    → FindsMore (λ e. e ≡ (get_or edges i d).0) old new
    → FindsMore (Contains (numbers_of (take (i + 1) edges))) first new
finds-edge first old new edges i d below a b =
    finds-then (Contains before) (λ e. e ≡ edge) (Contains after) first old new
    (λ e has. subst (λ ns. Contains ns e) (sym more) (Contains-append_left before (edge ∷ []) e has))
    (λ e is. subst (λ ns. Contains ns e) (sym more)
    (subst (Contains (before ++ edge ∷ [])) (sym is) (Contains-push before edge)))
    (λ e has. elim (Contains-push_cases before edge e (subst (λ ns. Contains ns e) more has))
    [ inl was ↦ inl was | inr is ↦ inr (sym is) ])
    a b
  where
    before : List ℕ
    before = numbers_of (take i edges)

    after : List ℕ
    after = numbers_of (take (i + 1) edges)

    edge : ℕ
    edge = (get_or edges i d).0

    more : after ≡ before ++ edge ∷ []
    more = ap numbers_of (take_more edges i d below)
        ∙ map_push (λ (e : EdgeNo). e.0) (take i edges) (get_or edges i d)

-- the users of the first files of a list, and of one more file
module _ (files_of : EdgePaths → List (List ℕ)) (none : files_of (edge_at [] 0) ≡ []) (edges : List EdgePaths)
    (files : List (List ℕ)) where
  abbrev has-one : List (List ℕ) → ℕ → Bool
  has-one paths e = list_any (is_among (files_of (edge_at edges e))) paths

  abbrev HaveOne : List FileNo → ℕ → Type 0
  HaveOne ns e = list_any (is_among (files_of (edge_at edges e))) (map (path_at files) ns) ≡ true

  pub finds-users : (first old new : NumberSetModel) (ns : List FileNo) (i : ℕ) (d : FileNo)
      (users : List EdgeNo) → i < length ns
      → numbers_of users ≡ edges_from 0 (λ x. is_among (files_of x) (path_at files (get_or ns i d))) edges
      → FindsMore (HaveOne (take i ns)) first old → FindsMore (Contains (numbers_of users)) old new
      → FindsMore (HaveOne (take (i + 1) ns)) first new
  finds-users first old new ns i d users below are a b =
      finds-then (HaveOne (take i ns)) (Contains (numbers_of users)) (HaveOne (take (i + 1) ns)) first old new
      (λ e is. split e ∙ or-left (has-one before e) (is_among (files_of (edge_at edges e)) path) is)
      (λ e has. split e ∙ or-right (has-one before e) (is_among (files_of (edge_at edges e)) path)
      (user-has files_of none edges path e (subst (λ us. Contains us e) are has)))
      (λ e is. elim (or_cases (has-one before e) (is_among (files_of (edge_at edges e)) path)
      (sym (split e) ∙ is)) [
        | inl was ↦ inl was
        | inr now ↦ inr (subst (λ us. Contains us e) (sym are) (has-user files_of none edges path e now))
      ])
      a b
    where
      path : List ℕ
      path = path_at files (get_or ns i d)

      before : List (List ℕ)
      before = map (path_at files) (take i ns)

      split : (e : ℕ) → has-one (map (path_at files) (take (i + 1) ns)) e
          ≡ (has-one before e || is_among (files_of (edge_at edges e)) path)
      split e =
          ap (λ ps. has-one ps e) (ap (map (path_at files)) (take_more ns i d below)
          ∙ map_push (path_at files) (take i ns) (get_or ns i d))
          ∙ has-more before path (files_of (edge_at edges e))

-- ---- the paths of files

paths-of : (files : List (List ℕ)) (ns : List FileNo)
    → map (λ o. unwrap_or o []) (map (λ file. slice_get files file.0) ns) ≡ map (path_at files) ns
paths-of files [] = refl
paths-of files (n ∷ ns) = ap (λ ps. path_at files n ∷ ps) (paths-of files ns)

paths-some : (paths : List (List ℕ)) → map (λ o. unwrap_or o []) (map Some paths) ≡ paths
paths-some [] = refl
paths-some (path ∷ paths) = ap (λ ps. path ∷ ps) (paths-some paths)

pub files-paths : (files : List (List ℕ)) (ns : List FileNo) (paths : List (List ℕ)) → AreFiles files ns paths
    → map (path_at files) ns ≡ paths
files-paths files ns paths are = sym (paths-of files ns) ∙ ap (map (λ o. unwrap_or o [])) are
    ∙ paths-some paths

-- ---- turn by turn

module _ (edges : List EdgePaths) (files : List (List ℕ)) where
  pub finding-begins : (none new : NumberSetModel) → none ≡ record { limit = length edges; numbers = [] }
      → FindsMore (HasInputOf edges files) none new → FindsAffected edges files new 0
  finding-begins none new empty finds = record {
    limit = finds.limit ∙ ap (λ s. s.limit) empty;
    within = omega arith;
    sound = λ e is. elim (finds.fresh e is) [
      | inl before ↦ absurd (contains-none e
          (subst (λ (ns : List ℕ). Contains ns e) (ap (λ (s : NumberSetModel). s.numbers) empty) before))
      | inr has ↦ by_file has
    ];
    begun = finds.all;
    closed = λ i e below. absurd (omega (arith, below));
  }
    where
      contains-none : (e : ℕ) → Contains [] e → ⊥
      contains-none e is = absurd (omega (arith, is.1))

  pub finding-continues : (old new : NumberSetModel) (place : ℕ) → place < length old.numbers
      → FindsAffected edges files old place
      → FindsMore (HasInputOf edges (outputs_of (edge_at edges (slice_index old.numbers place)))) old new
      → FindsAffected edges files new (place + 1)
  finding-continues old new place below held finds = record {
    limit = finds.limit ∙ held.limit;
    within = omega (arith, below, finds.longer);
    sound = λ e is. elim (finds.fresh e is) [
      | inl before ↦ held.sound e before
      | inr has ↦ by_edge has (held.sound (slice_index old.numbers place)
          (contains_at old.numbers place (slice_index old.numbers place) below refl))
    ];
    begun = λ e has. finds.kept e (held.begun e has);
    closed = λ i e within has. elim (cases_lt i place) [
      | inl before ↦ finds.kept e (held.closed i e before
          (subst (λ n. HasInputOf edges (outputs_of (edge_at edges n)) e)
          (finds.stays i (omega (arith, before, held.within))) has))
      | inr after ↦
          let same : i ≡ place = omega (arith, within, after) in
          finds.all e (subst (λ n. HasInputOf edges (outputs_of (edge_at edges n)) e)
          (ap (slice_index new.numbers) same ∙ finds.stays place below) has)
    ];
  }

  -- at the end nothing is missing
  module _ (found : NumberSetModel) (place : ℕ) (past : length found.numbers ≤ place)
      (held : FindsAffected edges files found place) where
    all-found : (e : ℕ) → IsAffected edges files e → Contains found.numbers e
    all-found _ (by_file {e = e} has) = held.begun e has
    all-found _ (by_edge {e = e} {f = f} has affected) =
        let at = index_of found.numbers f (all-found f affected) in
        held.closed at.0 e (omega (arith, at.1, past))
        (subst (λ n. HasInputOf edges (outputs_of (edge_at edges n)) e) (sym at.2) has)

    pub finding-ends : (e : ℕ) → Contains found.numbers e ↔ IsAffected edges files e
    finding-ends e = (held.sound e, all-found e)

-- the flags of a set mark its members
pub flags-are : (flags : List Bool) (numbers : List ℕ) (P : ℕ → Type 0)
    → ((n : ℕ) → get_or flags n false ≡ has numbers n) → ((e : ℕ) → Contains numbers e ↔ P e) → (e : ℕ)
    → IsFlagged flags e ↔ P e
flags-are flags numbers P tell are e = grind (arith, contains-has, has-contains)
