use Rattle.std.proofs.Common.{◌≡◌, ◌<◌, ◌≤◌, ◌==◌, ℕ, false, None, List, [], ◌∷◌, take, drop, if◌then◌else◌}
use Rattle.std.specs.Option.{option_or}
use Rattle.nj_manifest.specs.Contents.{lines_model}
use Rattle.nj_scope.specs.Scopes.{IsScope, parent_at}
use Rattle.nj_scope.specs.Declarations.{DeclaredBy}
use Rattle.nj_scope.specs.ReadingList.{ReadStatement, value_after}
use Rattle.nj_edge_env.specs.Blocks.{bound_in, names_in}
use Rattle.nj_statements.specs.EdgeList.{block_of}
use Rattle.nj_statements.proofs.BlockNames.{AreNamesSoFar, line_names}
use Rattle.nj_statements.proofs.stated_block.bind_block.Given as goal

abbrev pub invariant-lines : goal.invariant-lines
invariant-lines l = record {
  last : l.blocks.last ≤ l.edge;
  others : (e : ℕ) (name : List ℕ) → e < l.edge → bound_in l.blocks e name ≡ bound_in l.fn.blocks e name;
  names : ((name : List ℕ) → bound_in l.fn.blocks l.edge name ≡ None) → names_in l.fn.blocks l.edge ≡ []
      → AreNamesSoFar l.blocks l.edge (line_names (take l.line-index l.lines));
  other_names : (e : ℕ) → (e == l.edge) ≡ false → names_in l.blocks e ≡ names_in l.fn.blocks e;
  bound : (entries : List ReadStatement) (around : List ℕ) → DeclaredBy l.declarations entries
      → IsScope (parent_at l.declarations.scopes) l.scope.0 (l.scope.0 ∷ around) → (e : ℕ) (name : List ℕ)
      → (if e == l.edge then option_or (block_of (value_after entries (l.scope.0 ∷ around))
      (lines_model (drop l.line-index l.lines)) name) (bound_in l.blocks e name) else bound_in l.blocks e
      name)
      ≡ (if e == l.edge then option_or (block_of (value_after entries (l.scope.0 ∷ around))
      (lines_model l.lines) name) (bound_in l.fn.blocks e name) else bound_in l.fn.blocks e name);
}
