-- The kinds of findings, and which of them the values of `--only` and of `--except` select.
use Rattle.std.specs.Prelude.{◌≡◌, ℕ, ◌==◌, ◌&&◌, ◌||◌, Bool, true, false, not, if◌then◌else◌}
use Rattle.std.specs.Prelude.{Option, List, [], ◌∷◌, ◌++◌, codes, find, length, map}
use Rattle.std.specs.Borrow.{Bor}
use Rattle.nj_graph.specs.Edges.{is_among}
use Rattle.nj_audit.specs.declared.kinds.Kind.{Kind}
use Rattle.nj_audit.specs.declared.kinds.Kind.TheVariants.{UnusedOutput, MissingSource}
use Rattle.nj_audit.specs.declared.kinds.Kind.TheVariants.{UnusedRule, UnusedPool}
use Rattle.nj_audit.specs.declared.kinds.Kind.TheVariants.{UnusedVariable, RepeatedCommand}
use Rattle.nj_audit.specs.declared.kinds.Kind.TheVariants.{DepfileWithoutDeps, RepeatedInput, UndeclaredInput}
use Rattle.nj_audit.specs.declared.kinds.Kinds.{Kinds}

-- the name of a kind
abbrev pub name_of : Kind → List ℕ
name_of UnusedOutput = codes "unused-output"
name_of MissingSource = codes "missing-source"
name_of UnusedRule = codes "unused-rule"
name_of UnusedPool = codes "unused-pool"
name_of UnusedVariable = codes "unused-variable"
name_of RepeatedCommand = codes "repeated-command"
name_of DepfileWithoutDeps = codes "depfile-without-deps"
name_of RepeatedInput = codes "repeated-input"
name_of UndeclaredInput = codes "undeclared-input"

-- its name in a plain line
abbrev pub phrase_of : Kind → List ℕ
phrase_of UnusedOutput = codes "unused output"
phrase_of MissingSource = codes "missing source"
phrase_of UnusedRule = codes "unused rule"
phrase_of UnusedPool = codes "unused pool"
phrase_of UnusedVariable = codes "unused variable"
phrase_of RepeatedCommand = codes "repeated command"
phrase_of DepfileWithoutDeps = codes "depfile without deps"
phrase_of RepeatedInput = codes "repeated input"
phrase_of UndeclaredInput = codes "undeclared input"

-- the meaning of a finding of the kind, as `--list` prints it
abbrev pub meaning_of : Kind → List ℕ
meaning_of UnusedOutput = codes "an output that is neither a default, an input nor a validation"
meaning_of MissingSource = codes "a source that a command needs and that is not on disk"
meaning_of UnusedRule = codes "a rule that no edge uses"
meaning_of UnusedPool = codes "a pool that no edge uses"
meaning_of UnusedVariable = codes "a variable of an edge that neither its rule nor Ninja reads"
meaning_of RepeatedCommand = codes "an edge with the command of an earlier edge"
meaning_of DepfileWithoutDeps = codes "an edge with a depfile and no deps"
meaning_of RepeatedInput = codes "an input that is given to its edge again"
meaning_of UndeclaredInput = codes "a generated file that a command or the deps log uses, with no dependency on the edge that makes it"

-- findings of the kind are reported without any option
abbrev pub is_on_by_default : Kind → Bool
is_on_by_default UndeclaredInput = true
is_on_by_default kind = false

-- the options that select kinds: the flag `--all`, and the values of `--only` and of `--except`
pub record Selection : Type 0 where
  pub all : Bool
  pub only : List (List ℕ)
  pub except : List (List ℕ)

-- `--all` selects each kind, and `--only` the kinds that it names; without them, the kinds that are on by default are selected
abbrev pub is_taken : (all : Bool) → (only : List (List ℕ)) → Kind → Bool
is_taken all only kind =
    all || (if length only == 0 then is_on_by_default kind else is_among only (name_of kind))

-- a kind is requested if it is selected and `--except` does not name it
abbrev pub is_asked_for : Selection → Kind → Bool
is_asked_for selection kind =
    is_taken selection.all selection.only kind && not (is_among selection.except (name_of kind))

-- all kinds, in the order in which they are reported
abbrev pub all_kinds : List Kind
all_kinds =
    UnusedOutput ∷ MissingSource ∷ UnusedRule ∷ UnusedPool ∷ UnusedVariable ∷ RepeatedCommand
    ∷ DepfileWithoutDeps ∷ RepeatedInput ∷ UndeclaredInput ∷ []

-- a word does not name a kind
abbrev pub is_unknown : (word : List ℕ) → Bool
is_unknown word = not (is_among (map name_of all_kinds) word)

-- the first word that does not name a kind, in `--only` before `--except`
abbrev pub first_unknown : Selection → Option (List ℕ)
first_unknown selection = find is_unknown (selection.only ++ selection.except)

-- words that are lent
abbrev pub texts : List (Bor (List ℕ)) → List (List ℕ)
texts words = map (λ word. word.now) words

-- a selection whose words are lent
abbrev pub selection_of : (all : Bool) → (only except : List (Bor (List ℕ))) → Selection
selection_of all only except = record { all = all; only = texts only; except = texts except }

-- ---- kinds as flags

-- the kinds include a kind
abbrev pub contains : Kinds → Kind → Bool
contains kinds UnusedOutput = kinds.unused_output
contains kinds MissingSource = kinds.missing_source
contains kinds UnusedRule = kinds.unused_rule
contains kinds UnusedPool = kinds.unused_pool
contains kinds UnusedVariable = kinds.unused_variable
contains kinds RepeatedCommand = kinds.repeated_command
contains kinds DepfileWithoutDeps = kinds.depfile_without_deps
contains kinds RepeatedInput = kinds.repeated_input
contains kinds UndeclaredInput = kinds.undeclared_input

-- the kinds are those that the options select
abbrev pub AskFor : Kinds → Selection → Type 0
AskFor kinds selection = (kind : Kind) → contains kinds kind ≡ is_asked_for selection kind
