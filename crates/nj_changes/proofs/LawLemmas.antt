-- Paths that are written are read, and spellings of a path are one.
use Rattle.std.proofs.Common.{◌≡◌, ◌≢◌, ℕ, ◌==◌, ◌||◌, Bool, true, false, not, cond, List, [], ◌∷◌, ◌++◌, map}
use Rattle.std.proofs.Common.{length}
use Rattle.std.proofs.Common.{refl, sym, ap, ◌∙◌, append_assoc, inl, inr, true≢false}
use Rattle.std.specs.List.{All, AllByRecursion, filter, flat_map, list_any, slice_split}
use Rattle.std.specs.Str.Lines.{strip_carriage_return}
use Rattle.std.proofs.lemmas.List.Elements.{All-cons, All-nil}
use Rattle.std.proofs.lemmas.List.Splits.{slice_split_at}
use Rattle.std.proofs.lemmas.Bool.Decides.{eqb_tells}
use Rattle.nj_text.specs.Calls.{is_empty}
use Rattle.nj_text.specs.Paths.{clean_path_of, is_absolute}
use Rattle.nj_changes.specs.FullPaths.{full_path, path_below}
use Rattle.nj_changes.specs.Given.{ended_by, lines_of, zero_ended}
use Rattle.nj_changes.specs.Laws.{IsLine, IsWithout, LinesAreRead, SpellingsAreOne, ZeroEndedPathsAreRead}

-- ---- what is written is read

none-all : (end : ℕ) (path : List ℕ) → list_any (λ b. b == end) path ≡ false
    → All (λ b. (b == end) ≡ false) path
none-all end [] none = All-nil (λ b. (b == end) ≡ false)
none-all end (b ∷ path) none = by (b == end) refl none (none-all end path)
  where
    by : (is : Bool) → (b == end) ≡ is → (is || list_any (λ b. b == end) path) ≡ false
        → (list_any (λ b. b == end) path ≡ false → All (λ b. (b == end) ≡ false) path)
        → All (λ b. (b == end) ≡ false) (b ∷ path)
    by true is none others = absurd (true≢false none)
    by false is none others = All-cons (λ b. (b == end) ≡ false) b path is (others none)

same-byte : (n : ℕ) → (n == n) ≡ true
same-byte n = elim (eqb_tells n n) [
  | inl same ↦ same.0
  | inr other ↦ absurd (other.1 refl)
]

keep-some : (path : List ℕ) → path ≢ [] → (rest : List (List ℕ))
    → filter (λ piece. not (is_empty piece)) (path ∷ rest)
    ≡ path ∷ filter (λ piece. not (is_empty piece)) rest
keep-some [] some rest = absurd (some refl)
keep-some (b ∷ path) some rest = refl

pieces-read : (end : ℕ) (paths : List (List ℕ)) → AllByRecursion (IsWithout end) paths
    → ended_by end (flat_map (λ path. path ++ end ∷ []) paths) ≡ paths
pieces-read end [] all = refl
pieces-read end (path ∷ paths) all =
    let rest = flat_map (λ path. path ++ end ∷ []) paths in
    ap (λ text. ended_by end text) (append_assoc path (end ∷ []) rest)
    ∙ ap (filter (λ piece. not (is_empty piece)))
    (slice_split_at (λ b. b == end) path end rest (none-all end path all.0.none) (same-byte end))
    ∙ keep-some path all.0.some (slice_split (λ b. b == end) rest)
    ∙ ap (λ others. path ∷ others) (pieces-read end paths all.1)

pub zeros_are_read : ZeroEndedPathsAreRead
zeros_are_read paths all = pieces-read 0 paths all

are-without : (paths : List (List ℕ)) → AllByRecursion IsLine paths → AllByRecursion (IsWithout 10) paths
are-without [] all = all
are-without (path ∷ paths) all = (all.0.is_one, are-without paths all.1)

lines-stay : (paths : List (List ℕ)) → AllByRecursion IsLine paths
    → filter (λ line. not (is_empty line)) (map strip_carriage_return paths) ≡ paths
lines-stay [] all = refl
lines-stay (path ∷ paths) all =
    ap (λ line. filter (λ line. not (is_empty line)) (line ∷ map strip_carriage_return paths)) all.0.no_return
    ∙ keep-some path all.0.is_one.some (map strip_carriage_return paths)
    ∙ ap (λ others. path ∷ others) (lines-stay paths all.1)

pub lines_are_read : LinesAreRead
lines_are_read paths all =
    ap (λ pieces. filter (λ line. not (is_empty line)) (map strip_carriage_return pieces))
    (pieces-read 10 paths (are-without paths all))
    ∙ lines-stay paths all

-- ---- spellings

stays : (folder path : List ℕ) → is_absolute path ≡ true → full_path folder path ≡ clean_path_of path
stays folder [] is = absurd (true≢false (sym is))
stays folder (b ∷ path) is =
    ap (λ absolute. clean_path_of (cond (is_empty folder || absolute) (b ∷ path)
    (path_below folder (b ∷ path)))) is
    ∙ by (is_empty folder)
  where
    by : (e : Bool) → clean_path_of (cond (e || true) (b ∷ path) (path_below folder (b ∷ path)))
        ≡ clean_path_of (b ∷ path)
    by true = refl
    by false = refl

pub spellings_are_one : SpellingsAreOne
spellings_are_one [] path absolute relative some = absurd (true≢false (sym absolute))
spellings_are_one (f ∷ folder) [] absolute relative some = absurd (some refl)
spellings_are_one (f ∷ folder) (b ∷ path) absolute relative some =
    stays (f ∷ folder) (path_below (f ∷ folder) (b ∷ path)) absolute
    ∙ sym (ap (λ is. clean_path_of (cond is (b ∷ path) (path_below (f ∷ folder) (b ∷ path)))) relative)
