-- Lemmas on late strings.
use Rattle.std.proofs.Common.{◌≡◌, ◌<◌, ◌+◌, ℕ, Bool, true, false, List, [], ◌∷◌, ◌++◌, length, take}
use Rattle.std.proofs.Common.{slice_get, Some, sym, ap, ◌∙◌, arith, add-one, append_assoc}
use Rattle.std.proofs.lemmas.Grind.{flat_map-append}
use Rattle.std.proofs.lemmas.List.{append-nil}
use Rattle.std.proofs.lemmas.Option.{slice_get_within, get_or_from_slice_get}
use Rattle.std.proofs.Math.Seq.{take-suc}
use Rattle.std.specs.Prelude.{is_some}
use Rattle.nj_text.specs.Words.{PartModel, Text, Name}
use Rattle.nj_scope.specs.Scopes.{part_expanded, expanded}
use Rattle.nj_scope.specs.Rules.{RuleLineModel, given}
use Rattle.nj_scope.specs.RulesHeld.{key_at, IsNumber}
use Rattle.nj_edge_env.specs.LateStrings.{is_of_command, unless_empty, value_given}
use Rattle.nj_edge_env.proofs.ReferenceLemmas.{value_at}

part_turn : (f : List ℕ → List ℕ) (parts : List PartModel) (i : ℕ) (p : PartModel)
    (start before after : List ℕ) → slice_get parts i ≡ Some p
    → before ≡ start ++ expanded f (take i parts) → after ≡ before ++ part_expanded f p
    → after ≡ start ++ expanded f (take (i + 1) parts)
part_turn f parts i p start before after here so more =
    more ∙ ap (λ x. x ++ part_expanded f p) so
    ∙ append_assoc start (expanded f (take i parts)) (part_expanded f p)
    ∙ ap (λ x. start ++ x)
    (sym (ap (expanded f) (ap (λ n. take n parts) (add-one i)
    ∙ take-suc parts i p (slice_get_within parts i p here)
    ∙ ap (λ q. take i parts ++ q ∷ []) (get_or_from_slice_get parts i p p here))
    ∙ flat_map-append (part_expanded f) (take i parts) (p ∷ [])
    ∙ ap (λ x. expanded f (take i parts) ++ x) (append-nil (part_expanded f p))))

pub text_turn : (f : List ℕ → List ℕ) (parts : List PartModel) (i : ℕ) (part : PartModel)
    (bytes start before after : List ℕ) → slice_get parts i ≡ Some part → part ≡ Text bytes
    → before ≡ start ++ expanded f (take i parts) → after ≡ before ++ bytes
    → after ≡ start ++ expanded f (take (i + 1) parts)
text_turn f parts i part bytes start before after here is so more =
    part_turn f parts i (Text bytes) start before after (here ∙ ap Some is) so more

pub name_turn : (f : List ℕ → List ℕ) (parts : List PartModel) (i : ℕ) (part : PartModel)
    (name start before after : List ℕ) → slice_get parts i ≡ Some part → part ≡ Name name
    → before ≡ start ++ expanded f (take i parts) → after ≡ before ++ f name
    → after ≡ start ++ expanded f (take (i + 1) parts)
name_turn f parts i part name start before after here is so more =
    part_turn f parts i (Name name) start before after (here ∙ ap Some is) so more

-- ---- keys

some_unless : (b : Bool) (p : PartModel) (parts : List PartModel)
    → true ≡ is_some (unless_empty b (Some (p ∷ parts)))
some_unless b p parts = grind arith

pub given_by_number : (lines : List RuleLineModel) (key : List ℕ) (number : ℕ) (value : List PartModel)
    → IsNumber lines key number → given lines (key_at lines number) ≡ Some value → 0 < length value
    → true ≡ is_some (value_given lines key)
given_by_number lines key number value is h long = grind arith

pub given_plain : (lines : List RuleLineModel) (key : List ℕ) (number : ℕ) → IsNumber lines key number
    → is_of_command key ≡ false → true ≡ is_some (value_given lines key)
given_plain lines key number is plain = grind (arith, value_at lines number is.within)
