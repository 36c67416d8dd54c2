-- Small rules and edges, worked out on the definitions.
use Rattle.std.proofs.Common.{◌≡◌, ℕ, List, [], ◌∷◌, Option, Some, None, false, if◌then◌else◌, bytes_eq, refl}
use Rattle.std.specs.Prelude.{codes}
use Rattle.nj_text.specs.Quotes.{quoted}
use Rattle.nj_text.specs.Words.{PartModel, Text, Name}
use Rattle.nj_scope.specs.Rules.{RuleLineModel}
use Rattle.nj_edge_env.specs.LateStrings.{LateNames, asked_text}
use Rattle.nj_edge_env.specs.VariableCycles.{IsOnCycle, variable_cycle_of}
use Rattle.nj_cycles.specs.Cycles.Chain.{one, more}

abbrev nothing : List ℕ → Option (List ℕ)
nothing name = None

abbrev only : (name value : List ℕ) → List ℕ → Option (List ℕ)
only name value asked = if bytes_eq asked name then Some value else None

abbrev line : (key : List ℕ) → List PartModel → RuleLineModel
line key value = record { key = key; value = value }

-- a file in which x is 2
abbrev two : List ℕ → List ℕ
two name = if bytes_eq name (codes "x") then codes "2" else []

abbrev edge : (block : List ℕ → Option (List ℕ)) → List RuleLineModel → LateNames
edge block lines = record {
  inputs = codes "it's x" ∷ [];
  outputs = codes "o 1" ∷ [];
  block = block;
  lines =
      lines;
  is_phony = false;
  file = two;
}

-- command = echo $x
abbrev echo : List RuleLineModel
echo = line (codes "command") (Text (codes "echo ") ∷ Name (codes "x") ∷ []) ∷ []

of_file : asked_text (edge nothing echo) (codes "command") ≡ codes "echo 2"
of_file = refl

of_block : asked_text (edge (only (codes "x") (codes "1.3")) echo) (codes "command") ≡ codes "echo 1.3"
of_block = refl

-- command = cp $in $out
abbrev copy : List RuleLineModel
copy = line (codes "command") (Text (codes "cp ") ∷ Name (codes "in") ∷ Text (codes " ") ∷ Name (codes "out")
    ∷ []) ∷ line (codes "rspfile") (Name (codes "out") ∷ []) ∷ []

in_quotes : asked_text (edge nothing copy) (codes "command") ≡ codes "cp 'it'\\''s x' 'o 1'"
unfolding quoted
in_quotes = refl

as_it_is : asked_text (edge nothing copy) (codes "rspfile") ≡ codes "o 1"
unfolding quoted
as_it_is = refl

-- command = $description, description = $command
abbrev circle : List RuleLineModel
circle = line (codes "command") (Name (codes "description") ∷ []) ∷ line (codes "description")
    (Name (codes "command") ∷ []) ∷ []

on_cycle : IsOnCycle nothing circle (codes "command")
on_cycle = more {g = codes "description"} (Name (codes "description") ∷ [], refl, refl)
    (one (Name (codes "command") ∷ [], refl, refl))

broken : asked_text (edge (only (codes "description") (codes "x")) circle) (codes "command") ≡ codes "x"
broken = refl

-- the lesser of the two is named, whichever line comes first
least : variable_cycle_of nothing circle ≡ Some (codes "command")
unfolding variable_cycle_of
least = refl

least_last : variable_cycle_of nothing (line (codes "description") (Name (codes "command") ∷ []) ∷ line
    (codes "command") (Name (codes "description") ∷ []) ∷ []) ≡ Some (codes "command")
unfolding variable_cycle_of
least_last = refl

no_more : variable_cycle_of (only (codes "description") (codes "x")) circle ≡ None
unfolding variable_cycle_of
no_more = refl

-- command = a$command
own : variable_cycle_of nothing (line (codes "command") (Text (codes "a") ∷ Name (codes "command") ∷ []) ∷ [])
    ≡ Some (codes "command")
unfolding variable_cycle_of
own = refl

-- command = cc @$rspfile, rspfile = $rspfile_content, rspfile_content = $rspfile: the command only leads to
-- the cycle
aside : variable_cycle_of nothing (line (codes "command") (Text (codes "cc @") ∷ Name (codes "rspfile") ∷ [])
    ∷ line (codes "rspfile") (Name (codes "rspfile_content") ∷ []) ∷ line (codes "rspfile_content")
    (Name (codes "rspfile") ∷ []) ∷ [])
    ≡ Some (codes "rspfile")
unfolding variable_cycle_of
aside = refl

-- command = $description, then command =, description = $command: the last line counts and is empty, so it
-- has no value
not_given : variable_cycle_of nothing (line (codes "command") (Name (codes "description") ∷ []) ∷ line
    (codes "command") [] ∷ line (codes "description") (Name (codes "command") ∷ []) ∷ []) ≡ None
unfolding variable_cycle_of
not_given = refl
