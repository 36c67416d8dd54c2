-- Lemmas on the inputs that are added to edges.
use Rattle.std.proofs.Common.{◌≡◌, ◌<◌, ◌+◌, ◌||◌, ℕ, zero, suc, Bool, true, false, not, cond, if◌then◌else◌}
use Rattle.std.proofs.Common.{List, [], ◌∷◌, ◌++◌, length, drop, fold, slice_get, slice_index_or, Some}
use Rattle.std.proofs.Common.{bytes_eq, refl, sym, ap, subst, ◌∙◌, true≢false, is_some, arith, append-nil}
use Rattle.std.proofs.Common.{append_assoc, length-append}
use Rattle.std.specs.Prelude.{filter}
use Rattle.std.proofs.lemmas.List.Elements.{filter-append}
use Rattle.std.proofs.lemmas.List.Folds.{list_any-append}
use Rattle.std.proofs.lemmas.Option.{same_Some}
use Rattle.std.proofs.lemmas.Slice.Eq.{bytes_eq-Decides}
use Rattle.nj_scope.specs.ReadingList.{ReadStatement}
use Rattle.nj_scope.specs.Readings.{IsPrefix}
use Rattle.nj_edges.specs.EdgeGraphs.{EdgeGraph}
use Rattle.nj_edges.specs.Edges.{EdgePaths, counted_inputs_of, edge_at, is_among}
use Rattle.nj_edges.specs.Joining.{AddedFiles, changed_at, join_of, none_added, with_added, with_added_input}
use Rattle.nj_edges.specs.MoreInputs.{InputTable, at_next_edge, inputs_so_far, new_inputs, with_inputs_added}
use Rattle.nj_edges.specs.MoreInputs.{with_new_input}
use Rattle.nj_edges.specs.Repeats.{each_once}
use Rattle.nj_statements.specs.EdgeList.{edges_read, paths_of_edges}
use Rattle.nj_statements.proofs.OnceLemmas.{once-known, once-new}
use Rattle.nj_statements.proofs.Tables.{named-prefix, prefix-refl, prefix-trans}
use Rattle.nj_graph.specs.Inside.InputSteps.{AreNamed, edges_with, joined_edges}

-- ---- paths that an edge doesn't have as explicit or implicit inputs

both : (b k : Bool) → (b ≡ true → k ≡ true) → (x y : Bool) → x ≡ y → cond k (b || x) x ≡ (b || y)
both true true so x y same = refl
both true false so x y same = absurd (true≢false (sym (so refl)))
both false true so x y same = same
both false false so x y same = same

among-cond : (k : Bool) (p path : List ℕ) (paths : List (List ℕ))
    → is_among (cond k (p ∷ paths) paths) path
    ≡ cond k (bytes_eq path p || is_among paths path) (is_among paths path)
among-cond true p path paths = refl
among-cond false p path paths = refl

-- a path that is kept is among the kept paths of a list, if it is in the list
pub among-kept : (keeps : List ℕ → Bool) (paths : List (List ℕ)) (path : List ℕ) → keeps path ≡ true
    → is_among (filter keeps paths) path ≡ is_among paths path
among-kept keeps [] path kept = refl
among-kept keeps (p ∷ paths) path kept =
    among-cond (keeps p) p path (filter keeps paths)
    ∙ both (bytes_eq path p) (keeps p) (λ same. ap keeps (sym ((bytes_eq-Decides path p).0 same)) ∙ kept)
    (is_among (filter keeps paths) path) (is_among paths path) (among-kept keeps paths path kept)

pub among-once : (paths : List (List ℕ)) (path : List ℕ)
    → is_among (each_once bytes_eq paths) path ≡ is_among paths path
among-once [] path = refl
among-once (p ∷ paths) path = by (bytes_eq path p) refl (among-once paths path)
  where
    by : (b : Bool) → bytes_eq path p ≡ b → is_among (each_once bytes_eq paths) path ≡ is_among paths path
        → (bytes_eq path p || is_among (filter (λ y. not (bytes_eq y p)) (each_once bytes_eq paths)) path)
        ≡ (bytes_eq path p || is_among paths path)
    by true is rest = ap (λ c. c || is_among (filter (λ y. not (bytes_eq y p)) (each_once bytes_eq paths))
        path) is ∙ sym (ap (λ c. c || is_among paths path) is)
    by false is rest = ap (λ c. bytes_eq path p || c)
        (among-kept (λ y. not (bytes_eq y p)) (each_once bytes_eq paths) path (ap not is) ∙ rest)

module _ (e : EdgePaths) (before : List (List ℕ)) (path : List ℕ) where
  abbrev keeps : List ℕ → Bool
  keeps p = not (is_among (counted_inputs_of e) p)

  -- the inputs of an edge and the new inputs, with one more path
  pub new-more : new_inputs e (before ++ path ∷ [])
      ≡ (if is_among (counted_inputs_of e ++ new_inputs e before) path then new_inputs e before else
      new_inputs e before ++ path ∷ [])
  new-more = sym (ap (λ b. if b then new_inputs e before else new_inputs e before ++ path ∷ [])
      (list_any-append (bytes_eq path) (counted_inputs_of e) (new_inputs e before))
      ∙ by (is_among (counted_inputs_of e) path) refl)
    where
      once-known-new : (known : Bool) → is_among before path ≡ known
          → new_inputs e (before ++ path ∷ [])
          ≡ (if known then new_inputs e before else new_inputs e before ++ filter keeps (path ∷ []))
      once-known-new true is = ap (filter keeps) (once-known before path is)
      once-known-new false is = ap (filter keeps) (once-new before path is)
          ∙ filter-append keeps (each_once bytes_eq before) (path ∷ [])

      last : (kept : Bool) → keeps path ≡ kept → filter keeps (path ∷ []) ≡ cond kept (path ∷ []) []
      last kept is = ap (λ b. cond b (path ∷ []) []) is

      by : (there : Bool) → is_among (counted_inputs_of e) path ≡ there
          → (if is_among (counted_inputs_of e) path
          || is_among (new_inputs e before) path then new_inputs e before else new_inputs e before
          ++ path ∷ []) ≡ new_inputs e (before ++ path ∷ [])
      by true is = ap (λ b. if b || is_among (new_inputs e before) path then new_inputs e before else
          new_inputs e before ++ path ∷ []) is ∙ sym (dropped (is_among before path) refl)
        where
          dropped : (known : Bool) → is_among before path ≡ known
              → new_inputs e (before ++ path ∷ []) ≡ new_inputs e before
          dropped true known = once-known-new true known
          dropped false known = once-known-new false known
              ∙ ap (λ ps. new_inputs e before ++ ps) (last false (ap not is))
              ∙ append-nil (new_inputs e before)
      by false is =
          ap (λ b. if b || is_among (new_inputs e before) path then new_inputs e before else new_inputs e
          before ++ path ∷ []) is
          ∙ ap (λ b. if b then new_inputs e before else new_inputs e before ++ path ∷ [])
          (among-kept keeps (each_once bytes_eq before) path (ap not is) ∙ among-once before path)
          ∙ sym (once-known-new (is_among before path) refl
          ∙ ap (λ ps. if is_among before path then new_inputs e before else new_inputs e before ++ ps)
          (last true (ap not is)))

-- ---- the edge to which inputs are added

-- all else stays, and files keep their numbers
record Stays (t u : InputTable) : Type 0 where
  edge : u.edge ≡ t.edge
  stated : u.table.stated ≡ t.table.stated
  joined : u.table.joined ≡ t.table.joined
  outputs : u.table.«open».outputs ≡ t.table.«open».outputs
  files : IsPrefix t.table.files u.table.files

stays-one : (t : InputTable) (path : List ℕ) → Stays t (with_new_input t path)
stays-one t path = by (is_among (inputs_so_far t) path)
  where
    by : (b : Bool) → Stays t (if b then t else record t { table = with_added_input t.table path })
    by true = record {
      edge = refl;
      stated = refl;
      joined = refl;
      outputs = refl;
      files =
          prefix-refl t.table.files;
    }
    by false = record {
      edge = refl;
      stated = refl;
      joined = refl;
      outputs = refl;
      files =
          named-prefix t.table.files path;
    }

stays-all : (paths : List (List ℕ)) (t : InputTable) → Stays t (fold with_new_input t paths)
stays-all [] t = record {
  edge = refl;
  stated = refl;
  joined = refl;
  outputs = refl;
  files =
      prefix-refl t.table.files;
}
stays-all (path ∷ paths) t =
    let one = stays-one t path in
    let more = stays-all paths (with_new_input t path) in
    record {
      edge = more.edge ∙ one.edge;
      stated = more.stated ∙ one.stated;
      joined = more.joined ∙ one.joined;
      outputs = more.outputs ∙ one.outputs;
      files = prefix-trans t.table.files (with_new_input t path).table.files
          (fold with_new_input (with_new_input t path) paths).table.files one.files more.files;
    }

-- the inputs that are to be added to an edge are the given paths that it doesn't have
inputs-one : (t : InputTable) (e : EdgePaths) (before : List (List ℕ)) (path : List ℕ)
    → edge_at t.table.stated t.edge ≡ e → t.table.«open».inputs ≡ new_inputs e before
    → (with_new_input t path).table.«open».inputs ≡ new_inputs e (before ++ path ∷ [])
inputs-one t e before path is inputs =
    by (is_among (inputs_so_far t) path)
    ∙ ap (λ b. if b then t.table.«open».inputs else t.table.«open».inputs ++ path ∷ [])
    (ap (λ (x : EdgePaths). is_among (counted_inputs_of x ++ t.table.«open».inputs) path) is
    ∙ ap (λ ps. is_among (counted_inputs_of e ++ ps) path) inputs)
    ∙ ap (λ ps. if is_among (counted_inputs_of e ++ new_inputs e before) path then ps else ps ++ path ∷ [])
    inputs
    ∙ sym (new-more e before path)
  where
    by : (b : Bool) → (if b then t else record t
        { table = with_added_input t.table path }).table.«open».inputs
        ≡ (if b then t.table.«open».inputs else t.table.«open».inputs ++ path ∷ [])
    by true = refl
    by false = refl

inputs-all : (paths : List (List ℕ)) (t : InputTable) (e : EdgePaths) (before : List (List ℕ))
    → edge_at t.table.stated t.edge ≡ e → t.table.«open».inputs ≡ new_inputs e before
    → (fold with_new_input t paths).table.«open».inputs ≡ new_inputs e (before ++ paths)
inputs-all [] t e before is inputs = inputs ∙ ap (new_inputs e) (sym (append-nil before))
inputs-all (path ∷ paths) t e before is inputs =
    let one = stays-one t path in
    inputs-all paths (with_new_input t path) e (before ++ path ∷ [])
    (ap (λ es. edge_at es (with_new_input t path).edge) one.stated ∙ ap (edge_at t.table.stated) one.edge
    ∙ is) (inputs-one t e before path is inputs)
    ∙ ap (new_inputs e) (append_assoc before (path ∷ []) paths)

-- ---- edge by edge

at-drop : {A : Type 0} (n : ℕ) (xs : List A) (x : A) (ys : List A) (d : A) → drop n xs ≡ x ∷ ys
    → (slice_index_or xs n d ≡ x) × (drop (suc n) xs ≡ ys)
at-drop zero [] x ys d is = absurd (omega (arith, ap length is))
at-drop zero (z ∷ zs) x ys d is = (ap (λ l. slice_index_or l 0 d) is, ap (drop 1) is)
at-drop (suc n) [] x ys d is = absurd (omega (arith, ap length is))
at-drop (suc n) (z ∷ zs) x ys d is = at-drop n zs x ys d is

changed-seam : {A : Type 0} (f : A → A) (n : ℕ) (xs : List A) (x : A) (ys : List A) → length xs ≡ n
    → changed_at f n (xs ++ x ∷ ys) ≡ (xs ++ f x ∷ []) ++ ys
unfolding changed_at
changed-seam f zero [] x ys is = refl
changed-seam f (suc n) [] x ys is = absurd (omega (arith, is))
changed-seam f zero (z ∷ zs) x ys is = absurd (omega (arith, is))
changed-seam f (suc n) (z ∷ zs) x ys is = ap (λ l. z ∷ l) (changed-seam f n zs x ys (omega (arith, is)))

-- the edges joined so far, and the edges after them
record Joined (t : InputTable) (edges : List EdgePaths) (before : List (List ℕ)) : Type 0 where
  joined : t.table.joined ≡ edges
  none_open : t.table.«open» ≡ none_added
  files : IsPrefix before t.table.files

-- one more edge is joined
record Next (t : InputTable) (front rest : List EdgePaths) (before : List (List ℕ)) : Type 0 where
  joined : t.table.joined ≡ front ++ rest
  count : length front ≡ t.edge
  stated : drop t.edge t.table.stated ≡ rest
  files : IsPrefix before t.table.files

-- an item of a list that is longer
pub prefix-at : (front whole : List (List ℕ)) (n : ℕ) (path : List ℕ) → IsPrefix front whole
    → slice_get front n ≡ Some path → slice_get whole n ≡ Some path
prefix-at front whole n path (more, is) at = ap (λ ps. slice_get ps n) is ∙ inside front n at
  where
    inside : (ps : List (List ℕ)) (k : ℕ) → slice_get ps k ≡ Some path → slice_get (ps ++ more) k ≡ Some path
    inside [] k none = absurd (true≢false (sym (ap is_some none)))
    inside (p ∷ ps) zero first = first
    inside (p ∷ ps) (suc k) later = inside ps k later

joined-step : (paths : List (List ℕ)) (t : InputTable) (front : List EdgePaths) (e : EdgePaths)
    (es : List EdgePaths) → t.table.joined ≡ front ++ e ∷ es → length front ≡ t.edge
    → drop t.edge t.table.stated ≡ e ∷ es
    → t.table.«open» ≡ none_added → Next (at_next_edge (fold with_new_input t paths))
    (front ++ with_added (record { outputs = []; inputs = new_inputs e paths }) e ∷ []) es t.table.files
joined-step paths t front e es joined count stated none_open = record {
  joined = ap (λ n. changed_at (with_added u.table.«open») n u.table.joined) stays.edge
      ∙ ap (λ js. changed_at (with_added u.table.«open») t.edge js) (stays.joined ∙ joined)
      ∙ ap (λ (a : AddedFiles). changed_at (with_added a) t.edge (front ++ e ∷ es)) added
      ∙ changed-seam (with_added (record { outputs = []; inputs = new_inputs e paths })) t.edge front e es
      count;
  count = length-append front (with_added (record { outputs = []; inputs = new_inputs e paths }) e ∷ [])
      ∙ ap (λ n. n + 1) (count ∙ sym stays.edge);
  stated = ap (λ n. drop (n + 1) u.table.stated) stays.edge ∙ ap (drop (t.edge + 1)) stays.stated
      ∙ ap (λ n. drop n t.table.stated) (let z : t.edge + 1 ≡ suc t.edge = omega arith in z) ∙ here.1;
  files = stays.files;
}
  where
    u : InputTable
    u = fold with_new_input t paths

    stays : Stays t u
    stays = stays-all paths t

    here : (edge_at t.table.stated t.edge ≡ e) × (drop (suc t.edge) t.table.stated ≡ es)
    here = at-drop t.edge t.table.stated e es _ stated

    added : u.table.«open» ≡ record { outputs = []; inputs = new_inputs e paths }
    added = ap (λ outs. record { outputs = outs; inputs = u.table.«open».inputs })
        (stays.outputs ∙ ap (λ (a : AddedFiles). a.outputs) none_open)
        ∙ ap (λ ins. record { outputs = []; inputs = ins })
        (inputs-all paths t e [] here.0 (ap (λ (a : AddedFiles). a.inputs) none_open))

joined-all : (inputs : List (List (List ℕ))) (t : InputTable) (front rest : List EdgePaths)
    → t.table.joined ≡ front ++ rest → length front ≡ t.edge → drop t.edge t.table.stated ≡ rest
    → t.table.«open» ≡ none_added → length inputs ≡ length rest
    → Joined (joined_edges inputs t) (front ++ edges_with inputs rest) t.table.files
joined-all [] t front [] joined count stated none_open as_many =
    record { joined = joined; none_open = none_open; files = prefix-refl t.table.files }
joined-all [] t front (e ∷ es) joined count stated none_open as_many = absurd (omega (arith, as_many))
joined-all (paths ∷ inputs) t front [] joined count stated none_open as_many = absurd (omega (arith, as_many))
joined-all (paths ∷ inputs) t front (e ∷ es) joined count stated none_open as_many =
    let own = with_added (record { outputs = []; inputs = new_inputs e paths }) e in
    let u = at_next_edge (fold with_new_input t paths) in
    let next = joined-step paths t front e es joined count stated none_open in
    let others = joined-all inputs u (front ++ own ∷ []) es next.joined next.count next.stated refl
    (omega (arith, as_many)) in
    record {
      joined = others.joined ∙ append_assoc front (own ∷ []) (edges_with inputs es);
      none_open = others.none_open;
      files = prefix-trans t.table.files u.table.files (joined_edges inputs u).table.files next.files
          others.files;
    }

pub joined-graph : (inputs : List (List (List ℕ))) (g : EdgeGraph) (t : InputTable)
    → t ≡ joined_edges inputs (record { table = join_of g; edge = 0 }) → length inputs ≡ length g.edges
    → (t.table.joined ≡ edges_with inputs g.edges) × (t.table.«open» ≡ none_added)
    × IsPrefix g.files t.table.files
joined-graph inputs g t is as_many =
    let all = joined-all inputs (record { table = join_of g; edge = 0 }) [] g.edges refl refl refl refl
    as_many in (
      ap (λ (u : InputTable). u.table.joined) is ∙ all.joined,
      ap (λ (u : InputTable). u.table.«open») is
          ∙ all.none_open,
      subst (λ (u : InputTable). IsPrefix g.files u.table.files) (sym is) all.files,
    )

pub length-with : (inputs : List (List (List ℕ))) (edges : List EdgePaths) → length inputs ≡ length edges
    → length (edges_with inputs edges) ≡ length edges
length-with [] [] as_many = refl
length-with [] (e ∷ es) as_many = absurd (omega (arith, as_many))
length-with (paths ∷ inputs) [] as_many = absurd (omega (arith, as_many))
length-with (paths ∷ inputs) (e ∷ es) as_many = ap suc (length-with inputs es (omega (arith, as_many)))

-- the rest of the inputs after those of one more edge
one-less : (inputs : List (List (List ℕ))) (n : ℕ) (paths : List (List ℕ)) (t : InputTable)
    → slice_get inputs n ≡ Some paths
    → joined_edges (drop (suc n) inputs) (at_next_edge (fold with_new_input t paths))
    ≡ joined_edges (drop n inputs) t
one-less [] n paths t is = absurd (true≢false (sym (ap is_some is)))
one-less (p ∷ inputs) zero paths t is =
    ap (λ ps. joined_edges inputs (at_next_edge (fold with_new_input t ps))) (sym (same_Some p paths is))
one-less (p ∷ inputs) (suc n) paths t is = one-less inputs n paths t is

-- by an index and the next index
pub one-more : (inputs : List (List (List ℕ))) (n : ℕ) (paths : List (List ℕ)) (t u : InputTable)
    → slice_get inputs n ≡ Some paths → u ≡ at_next_edge (fold with_new_input t paths)
    → joined_edges (drop (n + 1) inputs) u ≡ joined_edges (drop n inputs) t
one-more inputs n paths t u is next =
    ap (λ k. joined_edges (drop k inputs) u) (let z : n + 1 ≡ suc n = omega arith in z)
    ∙ ap (joined_edges (drop (suc n) inputs)) next ∙ one-less inputs n paths t is

pub after-edge : (paths : List (List ℕ)) (t u : InputTable) → u ≡ fold with_new_input t paths
    → u.edge ≡ t.edge
after-edge paths t u is = ap (λ (v : InputTable). v.edge) is ∙ (stays-all paths t).edge

pub after-stated : (paths : List (List ℕ)) (t u : InputTable) → u ≡ fold with_new_input t paths
    → length u.table.stated ≡ length t.table.stated
after-stated paths t u is = ap (λ (v : InputTable). length v.table.stated) is
    ∙ ap length (stays-all paths t).stated

-- files keep their numbers
pub files-kept : (t : InputTable) (path : List ℕ) (n : ℕ) (other : List ℕ)
    → slice_get t.table.files n ≡ Some other → slice_get (with_new_input t path).table.files n ≡ Some other
files-kept t path n other at = prefix-at t.table.files (with_new_input t path).table.files n other
    (stays-one t path).files at

-- ---- by the statements

module _ (named : (edge : ℕ) → List (List ℕ)) (stated : List ReadStatement) where
  abbrev pub all : List EdgePaths
  all = paths_of_edges (edges_read stated)

  abbrev pub news : ℕ → List (List ℕ)
  news edge = new_inputs (edge_at all edge) (named edge)

  named-from : (inputs : List (List (List ℕ))) (k : ℕ) (edges : List EdgePaths) → drop k all ≡ edges
      → length inputs ≡ length edges
      → ((n : ℕ) → n < length inputs → slice_get inputs n ≡ Some (named (k + n)))
      → edges_with inputs edges ≡ with_inputs_added news k edges
  named-from [] k [] is as_many are = refl
  named-from [] k (e ∷ es) is as_many are = absurd (omega (arith, as_many))
  named-from (paths ∷ inputs) k [] is as_many are = absurd (omega (arith, as_many))
  named-from (paths ∷ inputs) k (e ∷ es) is as_many are =
      ap (λ ins. with_added (record { outputs = []; inputs = ins }) e ∷ edges_with inputs es) first
      ∙ ap (λ others. with_added (record { outputs = []; inputs = news k }) e ∷ others)
      (named-from inputs (k + 1) es (ap (λ n. drop n all) (let z : k + 1 ≡ suc k = omega arith in z) ∙ here.1)
      (omega (arith, as_many))
      (λ n below. are (suc n) (omega (arith, below))
      ∙ ap (λ m. Some (named m)) (let z : k + suc n ≡ k + 1 + n = omega arith in z)))
    where
      here : (edge_at all k ≡ e) × (drop (suc k) all ≡ es)
      here = at-drop k all e es _ is

      paths-are : paths ≡ named k
      paths-are = same_Some paths (named k)
          (are 0 (omega arith) ∙ ap (λ m. Some (named m)) (let z : k + 0 ≡ k = omega arith in z))

      first : new_inputs e paths ≡ news k
      first = ap (λ (x : EdgePaths). new_inputs x paths) (sym here.0)
          ∙ ap (new_inputs (edge_at all k)) paths-are

  pub named-edges : (inputs : List (List (List ℕ))) (edges : List EdgePaths) → edges ≡ all
      → length inputs ≡ length edges → AreNamed named inputs
      → edges_with inputs edges ≡ with_inputs_added news 0 edges
  named-edges inputs edges is as_many are = named-from inputs 0 edges (sym is) as_many
      (λ n below. are n below ∙ ap (λ m. Some (named m)) (let z : n ≡ 0 + n = omega arith in z))
