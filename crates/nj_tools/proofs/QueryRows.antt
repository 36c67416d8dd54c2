-- Worked rows of `query` and `rules`, computed on the definitions.
use Rattle.std.proofs.Common.{◌≡◌, ℕ, List, [], ◌∷◌, ◌++◌, true, false, ap, refl}
use Rattle.std.specs.Prelude.{codes}
use Rattle.nj_text.specs.Words.{Text, Name}
use Rattle.nj_scope.specs.Rules.{RuleModel, phony_rule}
use Rattle.nj_edges.specs.Edges.{EdgePaths, edge_at, outputs_of}
use Rattle.nj_graph.specs.Graph.{GraphModel, edges_of}
use Rattle.nj_graph.specs.Handles.{edges_in, files_in}
use Rattle.nj_tools.specs.Lines.{line, lines_after}
use Rattle.nj_tools.specs.Queries.{section, inputs_by_kind}
use Rattle.nj_tools.specs.Inside.Pieces.{validated_lines, validation_lines}
use Rattle.nj_tools.specs.RuleLists.{rule_line}

-- the bytes of lines
abbrev text : List (List ℕ) → List ℕ
text [] = []
text (one ∷ more) = (one ++ 10 ∷ []) ++ text more

-- ---- query

-- build a.o a.d: cc a.c b.c | cc || dirs |@ lint
abbrev object : EdgePaths
object = record {
  explicit_outputs = codes "a.o" ∷ codes "a.d" ∷ [];
  implicit_outputs = [];
  explicit_inputs = codes "a.c" ∷ codes "b.c" ∷ [];
  implicit_inputs = codes "cc" ∷ [];
  order_only_inputs = codes "dirs" ∷ [];
  validations = codes "lint" ∷ [];
  is_phony = false;
}

abbrev without_inputs : EdgePaths
without_inputs = record object { explicit_inputs = []; implicit_inputs = []; order_only_inputs = [] }

by_kind : inputs_by_kind object ≡ text (codes "    a.c" ∷ codes "    b.c" ∷ codes "    | cc" ∷ codes
    "    || dirs" ∷ [])
unfolding inputs_by_kind
by_kind = refl

no_inputs : inputs_by_kind without_inputs ≡ []
unfolding inputs_by_kind
no_inputs = refl

-- the title is written even if nothing follows it
empty_section : section (codes "  outputs:") [] ≡ text (codes "  outputs:" ∷ [])
unfolding section
empty_section = refl

validated : (g : GraphModel) → validation_lines (files_in g (codes "lint" ∷ codes "test" ∷ []))
    ≡ text (codes "  validations:" ∷ codes "    lint" ∷ codes "    test" ∷ [])
validated g = refl

not_validated : validation_lines [] ≡ []
not_validated = refl

-- the outputs of the edges that name the file as a validation
validates : (g : GraphModel) → edges_of g ≡ object ∷ [] → validated_lines (edges_in g (0 ∷ []))
    ≡ text (codes "  validation for:" ∷ codes "    a.o" ∷ codes "    a.d" ∷ [])
validates g is = ap (λ edges. line (codes "  validation for:")
    ++ (lines_after (codes "    ") (outputs_of (edge_at edges 0)) ++ [])) is

validates_none : validated_lines [] ≡ []
validates_none = refl

-- ---- rules

-- rule cc
--   description = CC $out
abbrev cc_rule : RuleModel
cc_rule = record {
  scope = 0;
  name = codes "cc";
  lines = record { key = codes "description"; value = Text (codes "CC ") ∷ Name (codes "out") ∷ [] } ∷ [];
}

-- with `description =`
abbrev quiet_rule : RuleModel
quiet_rule = record {
  scope = 0;
  name = codes "quiet";
  lines =
      record { key = codes "description"; value = [] } ∷ [];
}

described : rule_line true cc_rule ≡ text (codes "cc: CC ${out}" ∷ [])
described = refl

not_asked_for : rule_line false cc_rule ≡ text (codes "cc" ∷ [])
not_asked_for = refl

empty_description : rule_line true quiet_rule ≡ text (codes "quiet: " ∷ [])
empty_description = refl

no_description : rule_line true phony_rule ≡ text (codes "phony" ∷ [])
no_description = refl
