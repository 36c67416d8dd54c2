-- How trees are written, row by row.
use Rattle.std.proofs.Common.{◌≡◌, ℕ, Option, Some, None, subst, codes, zero, suc, ◌+◌, ◌-◌, ◌*◌, ◌<◌}
use Rattle.std.proofs.Common.{◌≤◌, List, [], ◌∷◌, ◌++◌, length, flat_map, sum_by, refl, sym, ap, ◌∙◌}
use Rattle.std.proofs.Common.{append_assoc, append-nil, map, arith}
use Rattle.std.proofs.Common.{nat_lt, Bool, true, false, if◌then◌else◌}
use Rattle.std.proofs.lemmas.Bool.Decides.{nat_tests}
use Rattle.std.proofs.lemmas.List.{length-append, length-map, map-append}
use Rattle.std.proofs.lemmas.List.Sums.{sum_by-cons}
use Rattle.nj_scope.specs.ReadingList.{ReadStatement}
use Rattle.nj_edges.specs.Edges.{EdgePaths, maker_of, roots_of}
use Rattle.nj_graph.specs.Graph.{GraphModel, IsGraphOf, edges_of, rule_name_at}
use Rattle.nj_graph.specs.Handles.{GraphFile, files_in}
use Rattle.nj_graph.proofs.Stated.{graph-edges}
use Rattle.std.specs.List.{AllByRecursion}
use Rattle.nj_statements.specs.EdgeList.{edges_read, paths_of_edges}
use Rattle.nj_tools.proofs.EdgeLists.{all-in, paths-in}
use Rattle.nj_tools.specs.Lines.{line}
use Rattle.nj_tools.specs.Listings.{file_line, indent, inputs_of_maker, levels_of, tree_text, trees_text}
use Rattle.nj_tools.specs.Inside.Trees.{AreIn, inputs_below, rows_text, tree_lines, rows_left, rows_lines}
use Rattle.nj_tools.specs.Inside.Trees.{rows_after}
use Rattle.nj_tools.specs.Inside.Trees.{rows_of}

-- ---- the text

-- the line of a file at a depth
abbrev pub line_at : List ReadStatement → (depth : ℕ) → (path : List ℕ) → List ℕ
line_at entries depth path = indent depth
    ++ file_line entries (maker_of (paths_of_edges (edges_read entries)) path) path

-- the inputs of a file's maker among the given statements
abbrev pub made_of : List ReadStatement → (path : List ℕ) → List (List ℕ)
made_of entries path = inputs_of_maker (paths_of_edges (edges_read entries))
    (maker_of (paths_of_edges (edges_read entries)) path)

-- the rest is first of the deepest row
pub rows-last : (entries : List ReadStatement) (levels depth : ℕ) (rows : List (List (List ℕ)))
    (row : List (List ℕ))
    → rows_text entries levels depth (rows ++ row ∷ [])
    ≡ flat_map (tree_text entries (levels - (depth + length rows)) (depth + length rows)) row
    ++ rows_text entries levels depth rows
unfolding rows_text
rows-last entries levels depth [] row =
    let same : depth ≡ depth + 0 = omega arith in
    ap (λ k. flat_map (tree_text entries (levels - k) k) row) same
    ∙ sym (append-nil (flat_map (tree_text entries (levels - (depth + 0)) (depth + 0)) row))
rows-last entries levels depth (upper ∷ rows) row =
    let deeper : depth + 1 + length rows ≡ depth + length (upper ∷ rows) = omega arith in
    ap (λ t. t ++ flat_map (tree_text entries (levels - depth) depth) upper)
    (rows-last entries levels (depth + 1) rows row)
    ∙ append_assoc (flat_map (tree_text entries (levels - (depth + 1 + length rows))
    (depth + 1 + length rows)) row) _ _
    ∙ ap (λ k. flat_map (tree_text entries (levels - k) k) row
    ++ rows_text entries levels depth (upper ∷ rows)) deeper

pub rows-top : (entries : List ReadStatement) (levels : ℕ) (rows : List (List (List ℕ))) (row : List (List ℕ))
    → rows_text entries levels 0 (rows ++ row ∷ [])
    ≡ flat_map (tree_text entries (levels - length rows) (length rows)) row ++ rows_text entries levels 0 rows
rows-top entries levels rows row =
    let same : 0 + length rows ≡ length rows = omega arith in
    rows-last entries levels 0 rows row ∙ ap
    (λ k. flat_map (tree_text entries (levels - k) k) row ++ rows_text entries levels 0 rows) same

-- an empty row adds nothing
pub rows-empty : (entries : List ReadStatement) (levels : ℕ) (rows : List (List (List ℕ)))
    → rows_text entries levels 0 (rows ++ [] ∷ []) ≡ rows_text entries levels 0 rows
rows-empty entries levels rows = rows-top entries levels rows []

-- no level of any tree
no-levels : (entries : List ReadStatement) (depth : ℕ) (paths : List (List ℕ))
    → flat_map (tree_text entries 0 depth) paths ≡ []
unfolding tree_text
no-levels entries depth [] = refl
no-levels entries depth (path ∷ paths) = no-levels entries depth paths

-- a file, the inputs of its maker, the rest of its row, and the rows above
pub turn : (entries : List ReadStatement) (levels : ℕ) (rows : List (List (List ℕ))) (path : List ℕ)
    (paths : List (List ℕ)) → length rows < levels
    → rows_text entries levels 0 (rows ++ (path ∷ paths) ∷ [])
    ≡ line_at entries (length rows) path
    ++ (flat_map (tree_text entries (levels - (length rows + 1)) (length rows + 1)) (made_of entries path)
    ++ rows_text entries levels 0 (rows ++ paths ∷ []))
unfolding tree_text
turn entries levels rows path paths below =
    let k = length rows in
    let head = line_at entries k path in
    let under = flat_map (tree_text entries (levels - (k + 1)) (k + 1)) (made_of entries path) in
    let beside = flat_map (tree_text entries (levels - k) k) paths in
    let left = rows_text entries levels 0 rows in
    let level : levels - k ≡ suc (levels - (k + 1)) = omega (arith, below) in
    rows-top entries levels rows (path ∷ paths)
    ∙ ap (λ t. (t ++ beside) ++ left) (ap (λ n. tree_text entries n k path) level)
    ∙ append_assoc (head ++ under) beside left
    ∙ append_assoc head under (beside ++ left)
    ∙ ap (λ t. head ++ (under ++ t)) (sym (rows-top entries levels rows paths))

-- the rows after it
pub turn-after : (entries : List ReadStatement) (edges : List EdgePaths) (levels : ℕ)
    (rows : List (List (List ℕ))) (path : List ℕ) (paths : List (List ℕ))
    → edges ≡ paths_of_edges (edges_read entries) → length rows < levels
    → rows_text entries levels 0 (rows ++ (path ∷ paths) ∷ [])
    ≡ indent (length rows) ++ file_line entries (maker_of edges path) path
    ++ rows_text entries levels 0 (rows_after edges levels rows path paths)
turn-after entries edges levels rows path paths stated below =
    turn entries levels rows path paths below
    ∙ ap (λ t. line_at entries (length rows) path ++ t) (left (nat_lt (length rows + 1) levels) refl)
    ∙ ap (λ es. indent (length rows) ++ file_line entries (maker_of es path) path
    ++ rows_text entries levels 0 (rows_after es levels rows path paths)) (sym stated)
  where
    read : List EdgePaths
    read = paths_of_edges (edges_read entries)

    under : List ℕ
    under = flat_map (tree_text entries (levels - (length rows + 1)) (length rows + 1)) (made_of entries path)

    left : (deeper : Bool) → nat_lt (length rows + 1) levels ≡ deeper
        → under ++ rows_text entries levels 0 (rows ++ paths ∷ [])
        ≡ rows_text entries levels 0 (rows_after read levels rows path paths)
    left true is =
        let count : length (rows ++ paths ∷ []) ≡ length rows + 1 = length-append rows (paths ∷ []) in
        ap (λ k. flat_map (tree_text entries (levels - k) k) (made_of entries path)
        ++ rows_text entries levels 0 (rows ++ paths ∷ [])) (sym count)
        ∙ sym (rows-top entries levels (rows ++ paths ∷ []) (made_of entries path))
        ∙ ap (λ b. rows_text entries levels 0
        (if b then (rows ++ paths ∷ []) ++ made_of entries path ∷ [] else rows ++ paths ∷ [])) (sym is)
    left false is =
        let none : levels - (length rows + 1) ≡ 0 = grind (arith, nat_tests, is) in
        ap (λ t. t ++ rows_text entries levels 0 (rows ++ paths ∷ []))
        (ap (λ n. flat_map (tree_text entries n (length rows + 1)) (made_of entries path)) none
        ∙ no-levels entries (length rows + 1) (made_of entries path))
        ∙ ap (λ b. rows_text entries levels 0
        (if b then (rows ++ paths ∷ []) ++ made_of entries path ∷ [] else rows ++ paths ∷ [])) (sym is)

-- ---- a line

-- two spaces more
indent-more : (depth : ℕ) → codes "  " ++ indent depth ≡ indent depth ++ codes "  "
indent-more zero = refl
indent-more (suc depth) = ap (λ t. codes "  " ++ t) (indent-more depth)

pub indent-next : (text : List ℕ) (depth : ℕ)
    → (text ++ indent depth) ++ codes "  " ≡ text ++ indent (depth + 1)
indent-next text depth =
    let next : depth + 1 ≡ suc depth = omega arith in
    append_assoc text (indent depth) (codes "  ") ∙ ap (λ t. text ++ t) (sym (indent-more depth))
    ∙ ap (λ n. text ++ indent n) (sym next)

-- the line of a file that an edge makes, and of a source
pub made-line : (entries : List ReadStatement) (maker : Option ℕ) (edge : ℕ) (path rule : List ℕ)
    → maker ≡ Some edge → rule ≡ rule_name_at entries edge
    → path ++ line (codes ": " ++ rule) ≡ file_line entries maker path
unfolding file_line
made-line entries maker edge path rule made named =
    sym (ap line (append_assoc path (codes ": ") rule) ∙ append_assoc path (codes ": " ++ rule) (10 ∷ []))
    ∙ ap (λ r. line (path ++ codes ": " ++ r)) named
    ∙ ap (λ m. file_line entries m path) (sym made)

pub source-line : (entries : List ReadStatement) (maker : Option ℕ) (path : List ℕ) → maker ≡ None
    → path ++ line [] ≡ file_line entries maker path
unfolding file_line
source-line entries maker path none = ap (λ m. file_line entries m path) (sym none)

-- ---- how many lines

pub lines-last : (edges : List EdgePaths) (levels depth : ℕ) (rows : List (List (List ℕ)))
    (row : List (List ℕ))
    → rows_lines edges levels depth (rows ++ row ∷ [])
    ≡ sum_by (tree_lines edges (levels - (depth + length rows))) row + rows_lines edges levels depth rows
unfolding rows_lines
lines-last edges levels depth [] row =
    let same : depth ≡ depth + 0 = omega arith in
    let first = ap (λ k. sum_by (tree_lines edges (levels - k)) row) same in
    omega (arith, first)
lines-last edges levels depth (upper ∷ rows) row =
    let deeper : depth + 1 + length rows ≡ depth + length (upper ∷ rows) = omega arith in
    let last = lines-last edges levels (depth + 1) rows row in
    let same = ap (λ k. sum_by (tree_lines edges (levels - k)) row) deeper in
    omega (arith, last, same)

pub lines-top : (edges : List EdgePaths) (levels : ℕ) (rows : List (List (List ℕ))) (row : List (List ℕ))
    → rows_lines edges levels 0 (rows ++ row ∷ [])
    ≡ sum_by (tree_lines edges (levels - length rows)) row + rows_lines edges levels 0 rows
lines-top edges levels rows row =
    let same : 0 + length rows ≡ length rows = omega arith in
    lines-last edges levels 0 rows row ∙ ap
    (λ k. sum_by (tree_lines edges (levels - k)) row + rows_lines edges levels 0 rows) same

-- one line fewer is left, with a row more
pub fewer-deeper : (edges : List EdgePaths) (levels : ℕ) (rows : List (List (List ℕ))) (path : List ℕ)
    (paths : List (List ℕ)) → length rows < levels
    → rows_lines edges levels 0 (rows ++ (path ∷ paths) ∷ [])
    ≡ 1 + rows_lines edges levels 0 ((rows ++ paths ∷ []) ++ inputs_of_maker edges (maker_of edges path) ∷ [])
unfolding tree_lines
fewer-deeper edges levels rows path paths below =
    let k = length rows in
    let made = inputs_of_maker edges (maker_of edges path) in
    let level : levels - k ≡ suc (levels - (k + 1)) = omega (arith, below) in
    let count : length (rows ++ paths ∷ []) ≡ length rows + 1 = length-append rows (paths ∷ []) in
    let tree : tree_lines edges (levels - k) path ≡ 1 + sum_by (tree_lines edges (levels - (k + 1))) made =
    ap (λ n. tree_lines edges n path) level in
    let first : sum_by (tree_lines edges (levels - k)) (path ∷ paths)
    ≡ tree_lines edges (levels - k) path + sum_by (tree_lines edges (levels - k)) paths =
    sum_by-cons (tree_lines edges (levels - k)) path paths in
    let before = lines-top edges levels rows (path ∷ paths) in
    let beside = lines-top edges levels rows paths in
    let after = lines-top edges levels (rows ++ paths ∷ []) made
    ∙ ap (λ n. sum_by (tree_lines edges (levels - n)) made + rows_lines edges levels 0
    (rows ++ paths ∷ [])) count in
    omega (arith, tree, first, before, beside, after)

-- at least one line fewer is left
pub fewer-here : (edges : List EdgePaths) (levels : ℕ) (rows : List (List (List ℕ))) (path : List ℕ)
    (paths : List (List ℕ)) → length rows < levels
    → rows_lines edges levels 0 (rows ++ paths ∷ []) < rows_lines edges levels 0 (rows ++ (path ∷ paths) ∷ [])
unfolding tree_lines
fewer-here edges levels rows path paths below =
    let k = length rows in
    let made = inputs_of_maker edges (maker_of edges path) in
    let level : levels - k ≡ suc (levels - (k + 1)) = omega (arith, below) in
    let tree : tree_lines edges (levels - k) path ≡ 1 + sum_by (tree_lines edges (levels - (k + 1))) made =
    ap (λ n. tree_lines edges n path) level in
    let first : sum_by (tree_lines edges (levels - k)) (path ∷ paths)
    ≡ tree_lines edges (levels - k) path + sum_by (tree_lines edges (levels - k)) paths =
    sum_by-cons (tree_lines edges (levels - k)) path paths in
    let before = lines-top edges levels rows (path ∷ paths) in
    let beside = lines-top edges levels rows paths in
    omega (arith, tree, first, before, beside)

-- less is left to do after a turn
pub fewer-after : (edges : List EdgePaths) (levels : ℕ) (rows : List (List (List ℕ))) (path : List ℕ)
    (paths : List (List ℕ)) → length rows < levels
    → 2 * rows_lines edges levels 0 (rows_after edges levels rows path paths) + length
    (rows_after edges levels rows path paths)
    < 2 * rows_lines edges levels 0 (rows ++ (path ∷ paths) ∷ []) + length (rows ++ (path ∷ paths) ∷ [])
fewer-after edges levels rows path paths below = fewer (nat_lt (length rows + 1) levels)
  where
    made : List (List ℕ)
    made = inputs_of_maker edges (maker_of edges path)

    fewer : (deeper : Bool)
        → 2 * rows_lines edges levels 0 (if deeper then (rows ++ paths ∷ []) ++ made ∷ [] else rows
        ++ paths ∷ [])
        + length (if deeper then (rows ++ paths ∷ []) ++ made ∷ [] else rows ++ paths ∷ [])
        < 2 * rows_lines edges levels 0 (rows ++ (path ∷ paths) ∷ []) + length (rows ++ (path ∷ paths) ∷ [])
    fewer true =
        let lines = fewer-deeper edges levels rows path paths below in
        let old = length-append rows ((path ∷ paths) ∷ []) in
        let new = length-append (rows ++ paths ∷ []) (made ∷ []) in
        let between = length-append rows (paths ∷ []) in
        omega (arith, lines, old, new, between)
    fewer false =
        let lines = fewer-here edges levels rows path paths below in
        let old = length-append rows ((path ∷ paths) ∷ []) in
        let new = length-append rows (paths ∷ []) in
        omega (arith, lines, old, new)

-- an empty row is less as well
pub fewer-empty : (edges : List EdgePaths) (levels : ℕ) (rows : List (List (List ℕ)))
    → 2 * rows_lines edges levels 0 rows + length rows < 2 * rows_lines edges levels 0 (rows ++ [] ∷ []) +
    length (rows ++ [] ∷ [])
fewer-empty edges levels rows =
    let lines : rows_lines edges levels 0 (rows ++ [] ∷ []) ≡ 0 + rows_lines edges levels 0 rows =
    lines-top edges levels rows [] in
    let count = length-append rows ([] ∷ []) in
    omega (arith, lines, count)

-- no more rows than levels
pub few-rows : (edges : List EdgePaths) (levels : ℕ) (rows : List (List (List ℕ))) (path : List ℕ)
    (paths : List (List ℕ)) → length rows < levels
    → length (rows_after edges levels rows path paths) ≤ levels
few-rows edges levels rows path paths below = few (nat_lt (length rows + 1) levels) refl
  where
    made : List (List ℕ)
    made = inputs_of_maker edges (maker_of edges path)

    few : (deeper : Bool) → nat_lt (length rows + 1) levels ≡ deeper
        → length (if deeper then (rows ++ paths ∷ []) ++ made ∷ [] else rows ++ paths ∷ []) ≤ levels
    few true is =
        let new = length-append (rows ++ paths ∷ []) (made ∷ []) in
        let between = length-append rows (paths ∷ []) in
        let capacity : length rows + 1 < levels = grind (arith, nat_tests, is) in
        omega (arith, new, between, capacity)
    few false is =
        let new = length-append rows (paths ∷ []) in
        omega (arith, new, below)

-- ---- the rows in memory

rows-append : (rows more : List (List GraphFile)) → rows_of (rows ++ more) ≡ rows_of rows ++ rows_of more
rows-append rows more = map-append (λ (row : List GraphFile). map (λ file. file.path) row) rows more

in-append : (g : GraphModel) (rows more : List (List GraphFile)) → AreIn g rows → AreIn g more
    → AreIn g (rows ++ more)
in-append g [] more are others = others
in-append g (row ∷ rows) more are others = (are.0, in-append g rows more are.1 others)

in-front : (g : GraphModel) (rows : List (List GraphFile)) (row : List GraphFile) → AreIn g (rows ++ row ∷ [])
    → AreIn g rows × AllByRecursion (λ file. file.graph ≡ g) row
in-front g [] row are = (tt, are.0)
in-front g (upper ∷ rows) row are = let rest = in-front g rows row are.1 in ((are.0, rest.0), rest.1)

-- the roots alone
pub first-rows : (entries : List ReadStatement) (g : GraphModel) (levels depth : ℕ)
    (rows : List (List GraphFile))
    → IsGraphOf g entries → levels ≡ levels_of (edges_of g) depth
    → rows ≡ files_in g (roots_of (edges_of g)) ∷ []
    → trees_text entries depth ≡ rows_text entries levels 0 (rows_of rows)
unfolding trees_text rows_text
first-rows entries g levels depth rows is asked are =
    let roots = roots_of (edges_of g) in
    let none : levels_of (edges_of g) depth ≡ levels - 0 = omega (arith, asked) in
    ap (λ es. flat_map (tree_text entries (levels_of es depth) 0) (roots_of es)) (sym (graph-edges is))
    ∙ ap (λ n. flat_map (tree_text entries n 0) roots) none
    ∙ ap (flat_map (tree_text entries (levels - 0) 0)) (sym (paths-in g roots))
    ∙ ap (λ rs. rows_text entries levels 0 (rows_of rs)) (sym are)

pub first-in : (g : GraphModel) (rows : List (List GraphFile)) (paths : List (List ℕ))
    → rows ≡ files_in g paths ∷ []
    → AreIn g rows
first-in g rows paths are = subst (AreIn g) (sym are) (all-in g paths, tt)

module _ (g : GraphModel) (levels : ℕ) (rows rest : List (List GraphFile)) (row : List GraphFile)
    (popped : rows ≡ rest ++ row ∷ []) where
  popped-rows : rows_of rows ≡ rows_of rest ++ map (λ file. file.path) row ∷ []
  popped-rows = ap rows_of popped ∙ rows-append rest (row ∷ [])

  held : (rs : List (List GraphFile)) → length (rows_of rs) ≡ length rs
  held rs = length-map rs (λ (r : List GraphFile). map (λ file. file.path) r)

  -- an empty row
  module _ (none : row ≡ []) where
    popped-empty : rows_of rows ≡ rows_of rest ++ [] ∷ []
    popped-empty = popped-rows ∙ ap (λ r. rows_of rest ++ map (λ file. file.path) r ∷ []) none

    pub left-empty : (entries : List ReadStatement)
        → rows_text entries levels 0 (rows_of rows) ≡ rows_text entries levels 0 (rows_of rest)
    left-empty entries = ap (rows_text entries levels 0) popped-empty
        ∙ rows-empty entries levels (rows_of rest)

    pub in-empty : AreIn g rows → AreIn g rest
    in-empty are = (in-front g rest row (rw popped at are)).0

    pub smaller-empty : 2 * rows_lines (edges_of g) levels 0 (rows_of rest) + length rest
        < 2 * rows_lines (edges_of g) levels 0 (rows_of rows) + length rows
    smaller-empty =
        let fewer = fewer-empty (edges_of g) levels (rows_of rest) in
        let lines = ap (rows_lines (edges_of g) levels 0) popped-empty in
        let count = ap length popped-empty in
        omega (arith, held rows, held rest, fewer, lines, count)

  -- a row with a file
  module _ (file : GraphFile) (others : List GraphFile) (first : row ≡ file ∷ others) (are : AreIn g rows)
    where
      abbrev after : List (List GraphFile)
      after = rows_left levels rest file others

      parts : AreIn g rest × AllByRecursion (λ f. f.graph ≡ g) (file ∷ others)
      parts = rw first at (in-front g rest row (rw popped at are))

      pub graph-is : file.graph ≡ g
      graph-is = parts.1.0

      popped-file : rows_of rows ≡ rows_of rest ++ (file.path ∷ map (λ f. f.path) others) ∷ []
      popped-file = popped-rows ∙ ap (λ r. rows_of rest ++ map (λ f. f.path) r ∷ []) first

      below_paths : map (λ f. f.path) (inputs_below file)
          ≡ inputs_of_maker (edges_of g) (maker_of (edges_of g) file.path)
      below_paths = paths-in file.graph _
          ∙ ap (λ h. inputs_of_maker (edges_of h) (maker_of (edges_of h) file.path)) graph-is

      after-rows : rows_of after
          ≡ rows_after (edges_of g) levels (rows_of rest) file.path (map (λ f. f.path) others)
      after-rows =
          by (nat_lt (length rest + 1) levels)
          ∙ ap (λ n. if nat_lt (n + 1) levels
          then (rows_of rest ++ map (λ f. f.path) others ∷ []) ++ made ∷ [] else rows_of rest
          ++ map (λ f. f.path) others ∷ [])
          (sym (held rest))
        where
          made : List (List ℕ)
          made = inputs_of_maker (edges_of g) (maker_of (edges_of g) file.path)

          by : (b : Bool) → rows_of (if b then (rest ++ others ∷ []) ++ inputs_below file ∷ [] else rest
              ++ others ∷ [])
              ≡ (if b then (rows_of rest ++ map (λ f. f.path) others ∷ []) ++ made ∷ []
              else rows_of rest ++ map (λ f. f.path) others ∷ [])
          by true = rows-append (rest ++ others ∷ []) (inputs_below file ∷ [])
              ∙ (λ i. rows-append rest (others ∷ []) i ++ below_paths i ∷ [])
          by false = rows-append rest (others ∷ [])

      pub in-after : AreIn g after
      in-after = by (nat_lt (length rest + 1) levels)
        where
          by : (b : Bool) → AreIn g (if b then (rest ++ others ∷ []) ++ inputs_below file ∷ [] else rest
              ++ others ∷ [])
          by true = in-append g (rest ++ others ∷ []) (inputs_below file ∷ [])
              (in-append g rest (others ∷ []) parts.0 (parts.1.1, tt)) (
                subst (λ h. AllByRecursion (λ f. f.graph ≡ h) (inputs_below file)) graph-is
                    (all-in file.graph _),
                tt,
              )
          by false = in-append g rest (others ∷ []) parts.0 (parts.1.1, tt)

      module _ (below : length rest < levels) where
        -- the line of the file, and what is left after it
        pub left-after : (entries : List ReadStatement) (depth : ℕ) → depth ≡ length rest
            → IsGraphOf g entries
            → rows_text entries levels 0 (rows_of rows)
            ≡ (indent depth ++ file_line entries (maker_of (edges_of file.graph) file.path) file.path)
            ++ rows_text entries levels 0 (rows_of after)
        left-after entries depth depth_is is =
            ap (rows_text entries levels 0) popped-file
            ∙ turn-after entries (edges_of g) levels (rows_of rest) file.path (map (λ f. f.path) others)
            (graph-edges is) (omega (arith, held rest, below))
            ∙ (λ i. indent ((held rest ∙ sym depth_is) i)
            ++ file_line entries (maker_of (edges_of (sym graph-is i)) file.path) file.path
            ++ rows_text entries levels 0 (sym after-rows i))

        pub few-after : length after ≤ levels
        few-after =
            let few = few-rows (edges_of g) levels (rows_of rest) file.path (map (λ f. f.path) others)
            (omega (arith, held rest, below)) in
            let same = ap length after-rows in
            omega (arith, held after, few, same)

        pub smaller-after : 2 * rows_lines (edges_of g) levels 0 (rows_of after) + length after
            < 2 * rows_lines (edges_of g) levels 0 (rows_of rows) + length rows
        smaller-after =
            let fewer = fewer-after (edges_of g) levels (rows_of rest) file.path (map (λ f. f.path) others)
            (omega (arith, held rest, below)) in
            let after_lines = ap (rows_lines (edges_of g) levels 0) after-rows in
            let after_count = ap length after-rows in
            let lines = ap (rows_lines (edges_of g) levels 0) popped-file in
            let count = ap length popped-file in
            omega (arith, held rest, held after, held rows, fewer, after_lines, after_count, lines, count)

pub empty-is : {X : Type 0} (row : List X) → length row < 1 → row ≡ []
empty-is [] none = refl
empty-is (x ∷ row) none = absurd (omega (arith, none))

-- nothing is left
pub left-none : (entries : List ReadStatement) (levels : ℕ) (rows : List (List GraphFile)) → rows ≡ []
    → rows_text entries levels 0 (rows_of rows) ≡ []
unfolding rows_text
left-none entries levels rows none = ap (λ rs. rows_text entries levels 0 (rows_of rs)) none
