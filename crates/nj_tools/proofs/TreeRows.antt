-- Worked rows of trees: `build a: phony`, and then `build b: phony a c`.
use Rattle.std.proofs.Common.{false, ◌≡◌, ℕ, None, List, [], ◌∷◌, ◌++◌, refl}
use Rattle.std.specs.Prelude.{codes}
use Rattle.nj_text.specs.Words.{Text, WordModel}
use Rattle.nj_text.specs.Paths.{clean_path_of, without_leftmost_pair}
use Rattle.nj_manifest.specs.Statements.{StatementModel, BuildModel}
use Rattle.nj_scope.specs.ReadingList.{ReadStatement, bounds}
use Rattle.nj_statements.specs.EdgeList.{edges_read, paths_of_edges}
use Rattle.nj_tools.specs.Listings.{file_line, indent, levels_of, tree_text}

abbrev word : (text : List ℕ) → WordModel
word text = record { spot = record { line = 1; column = 7 }; parts = Text text ∷ [] }

-- a statement on a line of its own
abbrev on : (line : ℕ) → StatementModel → ReadStatement
on line item = record {
  file = codes "build.ninja";
  spot = record { line = line; column = 1 };
  depth = 0;
  scope = 0;
  around = [];
  item = item;
  was_joined = false;
  discovered = None;
}

abbrev build : (output : List ℕ) → (inputs : List WordModel) → StatementModel
build output inputs =
    BuildModel (record { explicit = word output ∷ []; implicit = [] })
    (record { spot = record { line = 1; column = 9 }; name = codes "phony" })
    (record { explicit = inputs; implicit = []; order_only = []; validations = [] }) []

-- the last statement first
abbrev two : List ReadStatement
two = on 2 (build (codes "b") (word (codes "a") ∷ word (codes "c") ∷ [])) ∷ on 1 (build (codes "a") []) ∷ []

pub row-indent : indent 2 ≡ codes "    "
row-indent = refl

-- a source
pub row-source : file_line two None (codes "c") ≡ codes "c" ++ 10 ∷ []
unfolding file_line
row-source = refl

-- all levels, and three
pub row-all_levels : levels_of (paths_of_edges (edges_read two)) 0 ≡ 3
unfolding edges_read
row-all_levels = refl

pub row-three_levels : levels_of (paths_of_edges (edges_read two)) 3 ≡ 3
row-three_levels = refl

-- a file with one more level
pub row-tree : tree_text two 2 0 (codes "b")
    ≡ codes "b: phony" ++ 10 ∷ codes "  a: phony" ++ 10 ∷ codes "  c" ++ 10 ∷ []
unfolding clean_path_of without_leftmost_pair edges_read bounds file_line tree_text
row-tree = refl
