-- Small graphs, worked out on the definitions.
use Rattle.std.proofs.Common.{◌≡◌, ℕ, List, [], ◌∷◌, map, true, false, refl}
use Rattle.std.specs.Prelude.{codes}
use Rattle.nj_text.specs.Words.{PartModel, Text, Name}
use Rattle.nj_scope.specs.Rules.{RuleModel, RuleLineModel, phony_rule}
use Rattle.nj_graph.specs.Graph.{GraphModel, insert_by, sorted_by, main_rules_of, main_rule_at}
use Rattle.nj_graph.specs.Graph.{has_description, description_text}

abbrev line : (key : List ℕ) → List PartModel → RuleLineModel
line key value = record { key = key; value = value }

-- rule cc, with two descriptions, of which the last takes effect; an escape is its byte
abbrev cc_rule : RuleModel
cc_rule = record {
  scope = 0;
  name = codes "cc";
  lines =
      line (codes "description") (Text (codes "early") ∷ [])
      ∷ line (codes "command") (Text (codes "c") ∷ [])
      ∷ line (codes "description") (Text (codes "CC ") ∷ Name (codes "out") ∷ Text (codes "$") ∷ Text
      (codes " done") ∷ []) ∷ [];
}

-- rule quiet, with `description =`
abbrev quiet_rule : RuleModel
quiet_rule = record { scope = 0; name = codes "quiet"; lines = line (codes "description") [] ∷ [] }

-- a rule without lines
abbrev bare : (scope : ℕ) → (name : List ℕ) → RuleModel
bare scope name = record { scope = scope; name = name; lines = [] }

-- ---- which are listed, and in which order

abbrev names : List RuleModel → List (List ℕ)
names rules = map (λ r. r.name) (main_rules_of rules)

phony_is_listed : names (phony_rule ∷ []) ≡ codes "phony" ∷ []
unfolding main_rules_of sorted_by insert_by
phony_is_listed = refl

by_bytes : names (phony_rule ∷ bare 0 (codes "ld") ∷ bare 0 (codes "cc2") ∷ bare 0 (codes "Zip") ∷ bare 0
    (codes "cc") ∷ bare 0 (codes "z") ∷ [])
    ≡ codes "Zip" ∷ codes "cc" ∷ codes "cc2" ∷ codes "ld" ∷ codes "phony" ∷ codes "z" ∷ []
unfolding main_rules_of sorted_by insert_by
by_bytes = refl

not_of_a_child : names (phony_rule ∷ bare 1 (codes "cc") ∷ bare 0 (codes "ld") ∷ bare 2 (codes "ar") ∷ [])
    ≡ codes "ld" ∷ codes "phony" ∷ []
unfolding main_rules_of sorted_by insert_by
not_of_a_child = refl

-- ---- descriptions

abbrev graph : GraphModel
graph = record {
  declarations = record { scopes = []; rules = phony_rule ∷ quiet_rule ∷ cc_rule ∷ []; pools = [] };
  built = record {
    graph = record { files = []; edges = [] };
    details = [];
    blocks =
        record { values = []; names = []; last = 0 };
    defaults = [];
    assigned = [];
    restats = [];
    pending =
        [];
  };
  origins = record { rules = []; pools = []; openings = [] };
}

first_is_cc : main_rule_at graph 0 ≡ cc_rule
unfolding main_rules_of sorted_by insert_by
first_is_cc = refl

second_is_phony : main_rule_at graph 1 ≡ phony_rule
unfolding main_rules_of sorted_by insert_by
second_is_phony = refl

as_written : description_text cc_rule ≡ codes "CC ${out}$ done"
as_written = refl

empty_counts : has_description quiet_rule ≡ true
empty_counts = refl

empty_text : description_text quiet_rule ≡ []
empty_text = refl

phony_has_none : has_description phony_rule ≡ false
phony_has_none = refl
