-- How the values of blocks are held: as parts of one text, by the numbers of names. Nothing here has to be believed.
use Rattle.std.specs.Prelude.{◌≡◌, ◌⊎◌, ℕ, zero, suc, ◌+◌, ◌<◌, ◌≤◌, ◌==◌, Bool, true, false, if◌then◌else◌, Option, Some, None, List, [], ◌∷◌, ◌++◌, map, length, drop, bytes_eq, slice_index_or, slice_range}
use Rattle.std.specs.Global.{Vec}
use Rattle.std.specs.List.{AllByRecursion}
use Rattle.nj_edge_env.specs.declared.name_values.Bound.{Bound}
use Rattle.nj_scope.specs.Declarations.{is_pool_or_dyndep}
use Rattle.nj_edge_env.specs.Blocks.{BlocksModel, bound_in}

-- ---- lists of numbers

abbrev pub list_at : List (List ℕ) → (edge : ℕ) → List ℕ
list_at lists edge = slice_index_or lists edge []

-- lists stored one after another in a single list, by where each starts
abbrev pub lists_of : (numbers starts : List ℕ) → List (List ℕ)
lists_of numbers [] = []
lists_of numbers (start ∷ []) = drop start numbers ∷ []
lists_of numbers (start ∷ next ∷ starts) = slice_range numbers start next ∷ lists_of numbers (next ∷ starts)

abbrev pub AreStarts : (len : ℕ) → (starts : List ℕ) → Type 0
AreStarts len [] = Unit {0}
AreStarts len (start ∷ []) = start ≤ len
AreStarts len (start ∷ next ∷ starts) = (start ≤ next) × AreStarts len (next ∷ starts)

-- ---- values

-- the values of one name, by edge
abbrev pub values_of : (text : List ℕ) → List Bound → List (ℕ × List ℕ)
values_of text bounds = map (λ b. (b.edge, slice_range text b.start b.end)) bounds

-- the values of the given names, which are held in their order
abbrev pub values_by_name : (text : List ℕ) → (names : List (List ℕ)) → List (List Bound) → List (List ℕ × List (ℕ × List ℕ))
values_by_name text [] bounds = []
values_by_name text (name ∷ names) [] = []
values_by_name text (name ∷ names) (bs ∷ bounds) = (name, values_of text bs) ∷ values_by_name text names bounds

abbrev pub bounds_of : List (Vec Bound) → List (List Bound)
bounds_of values = map (λ v. v.items) values

-- the names with the given numbers
abbrev pub names_of : (names : List (List ℕ)) → (numbers : List ℕ) → List (List ℕ)
names_of names numbers = map (λ number. slice_index_or names number []) numbers

abbrev pub blocks_of : (text : List ℕ) → (names : List (List ℕ)) → List (List Bound) → (lists : List (List ℕ)) → (last : ℕ) → BlocksModel
blocks_of text names bounds lists last = record {
  values = values_by_name text names bounds;
  names = map (names_of names) lists;
  last = last;
}

-- the numbers of the edges rise strictly
abbrev pub AreRising : List Bound → Type 0
AreRising [] = Unit {0}
AreRising (b ∷ bounds) = AllByRecursion (λ c. b.edge < c.edge) bounds × AreRising bounds

-- a part of a text of the given length, whose edge is not after the last
pub record IsPart (len last : ℕ) (b : Bound) : Type 0 where
  pub edge : b.edge ≤ last
  pub rises : b.start ≤ b.end
  pub ends : b.end ≤ len

pub record BoundsAreHeld (len last : ℕ) (bounds : List Bound) : Type 0 where
  pub parts : AllByRecursion (IsPart len last) bounds
  pub rising : AreRising bounds

-- Each name has its values, in a text of the given length, and the listed names exist; edges after the last do not have lists.
pub record BlocksAreHeld (len last : ℕ) (names : List (List ℕ)) (bounds : List (List Bound)) (lists : List (List ℕ)) : Type 0 where
  pub as_many : length bounds ≡ length names
  pub values : AllByRecursion (BoundsAreHeld len last) bounds
  pub listed : (edge : ℕ) → AllByRecursion (λ number. number < length names) (list_at lists edge)
  pub lists_end : length lists ≤ last + 1

-- blocks of edges after the given edge bind neither `pool` nor `dyndep`, and the given edge is not after the
-- last
pub record BindNeitherAfter (assigning : ℕ) (blocks : BlocksModel) : Type 0 where
  pub within : assigning ≤ blocks.last
  pub none : (edge : ℕ) (name : List ℕ) → is_pool_or_dyndep name ≡ true → assigning < edge → bound_in blocks edge name ≡ None

-- the index of the first occurrence of the name
abbrev pub IsFirstAt : (name : List ℕ) → (names : List (List ℕ)) → (number : ℕ) → Type 0
IsFirstAt name [] number = ⊥
IsFirstAt name (other ∷ names) zero = bytes_eq name other ≡ true
IsFirstAt name (other ∷ names) (suc number) = (bytes_eq name other ≡ false) × IsFirstAt name names number

-- The number of a name: the name exists already, or it is new and has no values.
pub record IsNumberOf (name : List ℕ) (names : List (List ℕ)) (bounds : List (List Bound)) (new : List (List ℕ)) (after : List (List Bound))
    (number : ℕ) : Type 0 where
  pub at : IsFirstAt name new number
  pub grows : ((new ≡ names) × (after ≡ bounds)) ⊎ ((new ≡ names ++ name ∷ []) × (after ≡ bounds ++ [] ∷ []))

-- the part of a text that is the given value of the edge
pub record IsBoundTo (text : List ℕ) (of : ℕ) (value : List ℕ) (b : Bound) : Type 0 where
  pub edge : b.edge ≡ of
  pub rises : b.start ≤ b.end
  pub ends : b.end ≤ length text
  pub is : slice_range text b.start b.end ≡ value

-- a text grew at its end
abbrev pub BeginsWith : List ℕ → List ℕ → Type 0
BeginsWith front whole = (rest : List ℕ) × (whole ≡ front ++ rest)

-- in place of the last bound, if that belongs to the same edge; otherwise after it
abbrev pub with_bound : List Bound → Bound → List Bound
with_bound [] b = b ∷ []
with_bound (c ∷ []) b = if c.edge == b.edge then b ∷ [] else c ∷ b ∷ []
with_bound (c ∷ d ∷ bounds) b = c ∷ with_bound (d ∷ bounds) b

-- whether the last bound belongs to the given edge
abbrev pub ends_at : List Bound → (edge : ℕ) → Bool
ends_at [] edge = false
ends_at (b ∷ []) edge = b.edge == edge
ends_at (b ∷ c ∷ bounds) edge = ends_at (c ∷ bounds) edge

-- the bound of the given edge
abbrev pub bound_of : List Bound → (edge : ℕ) → Option Bound
bound_of [] edge = None
bound_of (b ∷ bounds) edge = if edge == b.edge then Some b else bound_of bounds edge
