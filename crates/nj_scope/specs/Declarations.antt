-- The declarations held of the statements that were read: the scopes, rules and pools are those that the statements
-- declare.
use Rattle.std.specs.Prelude.{false, ◌≡◌, ℕ, Bool, ◌||◌, None, List, length, ◌∷◌, codes, bytes_eq}
use Rattle.nj_text.specs.declared.spot.Spot.{Spot}
use Rattle.nj_manifest.specs.Statements.{StatementModel}
use Rattle.nj_scope.specs.Scopes.{ScopeModel, parent_at, bound_at, rule_at}
use Rattle.nj_scope.specs.Rules.{RuleModel}
use Rattle.nj_scope.specs.ReadingList as list

-- the scopes, the rules in the order of their numbers, and the pools
pub record DeclarationsModel : Type 0 where
  pub scopes : List ScopeModel
  pub rules : List RuleModel
  pub pools : List (List ℕ)

-- It has the declarations of the given statements, the last read first: each scope has the bindings and declares the
-- rules of the statements in it; there are as many scopes as the statements open, and the rules and pools are theirs.
pub record DeclaredBy (held : DeclarationsModel) (entries : List list.ReadStatement) : Type 0 where
  pub bound : (number : ℕ) (name : List ℕ) → bound_at held.scopes number name ≡ list.bounds entries number name
  pub declared : (number : ℕ) (name : List ℕ) → rule_at held.scopes number name ≡ list.rules entries number name
  pub scopes : length held.scopes ≡ list.scopes_opened entries
  pub rules : held.rules ≡ list.rules_read entries
  pub pools : held.pools ≡ list.pools entries

-- One more statement: it is in the scope with the given number, within the scopes around it, wherever in the files.
abbrev pub TakesIn : (old new : DeclarationsModel) → (number : ℕ) → (around : List ℕ) → StatementModel → Type 0
TakesIn old new number around item =
    (entries : List list.ReadStatement) (file : List ℕ) (spot : Spot) (depth : ℕ) → DeclaredBy old entries
    → DeclaredBy new (record {
      file = file;
      spot = spot;
      depth = depth;
      scope = number;
      around = around;
      item = item;
      was_joined = false;
      discovered = None;
    } ∷ entries)

-- The earlier declarations are still held.
abbrev pub Keeps : (old new : DeclarationsModel) → Type 0
Keeps old new = (entries : List list.ReadStatement) → DeclaredBy old entries → DeclaredBy new entries

-- The scopes are the same, each within the same parent.
pub record SameScopes (old new : DeclarationsModel) : Type 0 where
  pub count : length new.scopes ≡ length old.scopes
  pub parents : (n : ℕ) → parent_at new.scopes n ≡ parent_at old.scopes n

-- a variable that assigns a pool or a dyndep file to an edge
abbrev pub is_pool_or_dyndep : (name : List ℕ) → Bool
is_pool_or_dyndep name = bytes_eq name (codes "pool") || bytes_eq name (codes "dyndep")
