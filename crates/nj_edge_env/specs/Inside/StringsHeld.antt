-- How a late text is appended: the text of a key that was appended already is copied.
use Rattle.std.specs.Prelude.{◌≡◌, ◌<◌, ◌≤◌, ℕ, zero, suc, ◌+◌, max, Bool, true, nat_le, if◌then◌else◌, Option, Some, None, is_some, IfSome}
use Rattle.std.specs.Prelude.{List, ◌∷◌, ◌++◌, length, slice_get, slice_set, slice_range}
use Rattle.nj_scope.specs.Declarations.{DeclaredBy}
use Rattle.nj_scope.specs.ReadingList.{ReadStatement, value_after}
use Rattle.nj_text.specs.Words.{PartModel}
use Rattle.nj_scope.specs.Readings.{IsPrefix}
use Rattle.nj_scope.specs.Rules.{RuleLineModel}
use Rattle.nj_scope.specs.RulesHeld.{key_at, IsNumber}
use Rattle.nj_scope.specs.Scopes.{IsScope, parent_at, expanded}
use Rattle.nj_edge_env.specs.Blocks.{bound_in}
use Rattle.nj_edge_env.specs.declared.late_edge.LateEdge.{LateEdge}
use Rattle.nj_edge_env.specs.declared.key_memo.KeyText.{KeyText}
use Rattle.nj_edge_env.specs.LateStrings.{LateNames, rule_value, late_in, refers}
use Rattle.nj_edge_env.specs.LateEdges.{late_names}
use Rattle.nj_edge_env.specs.VariableCycles.{RefersTo}

-- references from the name end within `depth` lines
abbrev pub Settles : (block : List ℕ → Option (List ℕ)) → List RuleLineModel → (depth : ℕ) → (name : List ℕ) → Type 0
Settles block lines zero name = ⊥
Settles block lines (suc depth) name = (other : List ℕ) → RefersTo block lines name other → Settles block lines depth other

-- for all statements whose declarations are held
abbrev pub ForEdge : LateEdge → (LateNames → Type 0) → Type 0
ForEdge e P = (entries : List ReadStatement) (around : List ℕ) → DeclaredBy e.declarations.now entries
    → IsScope (parent_at e.declarations.now.scopes) e.scope.0 (e.scope.0 ∷ around)
    → P (late_names e (value_after entries (e.scope.0 ∷ around)))

-- references from the name end within `depth` lines, for the block and the rule of an edge
abbrev pub SettlesIn : LateEdge → (depth : ℕ) → (name : List ℕ) → Type 0
SettlesIn e depth name = Settles (bound_in e.blocks.now e.edge) e.rule.now.lines depth name

-- ---- the strings of keys

-- the given part of the bytes is the text of the key, which is the same through any number of lines from its
-- height on
pub record IsKeyText (quoting : Bool) (e : LateEdge) (number : ℕ) (t : KeyText) (bytes : List ℕ) : Type 0 where
  pub from : t.start ≤ t.end
  pub to : t.end ≤ length bytes
  pub settles : SettlesIn e (suc t.height) (key_at e.rule.now.lines number)
  pub text : ForEdge e (λ n. slice_range bytes t.start t.end ≡ late_in (suc t.height) quoting n (key_at e.rule.now.lines number))

abbrev pub AreKeyStrings : (quoting : Bool) → LateEdge → (known : List (Option KeyText)) → (bytes : List ℕ) → Type 0
AreKeyStrings quoting e known bytes =
    (number : ℕ) (t : KeyText) → slice_get known number ≡ Some (Some t) → IsKeyText quoting e number t bytes

-- the string of the key, if its height is at most `depth`
abbrev pub no_higher : Option (Option KeyText) → (depth : ℕ) → Option KeyText
no_higher (Some (Some t)) depth = if nat_le t.height depth then Some t else None
no_higher (Some None) depth = None
no_higher None depth = None

abbrev pub text_known : (known : List (Option KeyText)) → (number depth : ℕ) → Option KeyText
text_known known number depth = no_higher (slice_get known number) depth

-- the height of a line with one more reference; `None` if a reference was cut off
abbrev pub taller : (height below : Option ℕ) → Option ℕ
taller (Some height) (Some below) = Some (max height (below + 1))
taller (Some height) None = None
taller None below = None

-- the text of the key is known too
abbrev pub with_text : (known : List (Option KeyText)) → (number start end : ℕ) → (height : Option ℕ) → List (Option KeyText)
with_text known number start end None = known
with_text known number start end (Some height) = slice_set known number (Some (record { start = start; end = end; height = height }))

-- ---- steps

-- the value of the name is appended if no line of the rule binds it; otherwise nothing is appended, and the result is the
-- number of its key
abbrev pub AppendsPlain : (quoting : Bool) → LateEdge → (name old new : List ℕ) → (number : Option ℕ) → Type 0
AppendsPlain quoting e name old new None =
    (rule_value (bound_in e.blocks.now e.edge) e.rule.now.lines name ≡ None) × IsPrefix old new
    × ForEdge e (λ n. (depth : ℕ) → new ≡ old ++ late_in (suc depth) quoting n name)
AppendsPlain quoting e name old new (Some number) =
    (new ≡ old) × IsNumber e.rule.now.lines name number
    × (is_some (rule_value (bound_in e.blocks.now e.edge) e.rule.now.lines name) ≡ true)

-- the value of the name is appended, through at most `depth` lines of the rule, including its own; at most as many lines as its
-- height are nested below its own
pub record AppendsLate (quoting : Bool) (e : LateEdge) (depth : ℕ) (name old : List ℕ) (known : List (Option KeyText))
    (new : List ℕ) (height : Option ℕ) : Type 0 where
  pub grows : IsPrefix old new
  pub text : ForEdge e (λ n. new ≡ old ++ late_in depth quoting n name)
  pub strings : AreKeyStrings quoting e known new
  pub settles : IfSome height (λ d. (d < depth) × SettlesIn e (suc d) name)

-- the given parts of a value are appended, through at most `depth` lines of the rule; at most as many lines as the
-- height are nested
pub record AppendsParts (quoting : Bool) (e : LateEdge) (depth : ℕ) (parts : List PartModel) (old : List ℕ)
    (known : List (Option KeyText)) (new : List ℕ) (height : Option ℕ) : Type 0 where
  pub grows : IsPrefix old new
  pub text : ForEdge e (λ n. new ≡ old ++ expanded (late_in depth quoting n) parts)
  pub strings : AreKeyStrings quoting e known new
  pub settles : IfSome height (λ d. (d ≤ depth) × ((other : List ℕ) → refers parts other ≡ true → SettlesIn e d other))
