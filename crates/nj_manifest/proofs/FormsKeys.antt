-- The required lines of a block: the keys of its lines, and the forms of the grammar.
use Rattle.std.proofs.lemmas.Grind.{common_steps}
use Rattle.std.proofs.Common.{arith, ◌≡◌, ℕ, Bool, true, false, cond, ◌&&◌, not, Result, Ok, List, [], ◌∷◌}
use Rattle.std.proofs.Common.{◌++◌}
use Rattle.std.proofs.Common.{refl, sym, ap, ◌∙◌, codes}
use mathlib.Core.Bool.{beq}
use Rattle.std.specs.Prelude.{◌↔◌}
use Rattle.std.specs.List.{list_any}
use Rattle.std.specs.Str.{bytes_eq}
use Rattle.std.proofs.lemmas.Bool.{not-true}
use Rattle.std.proofs.lemmas.Slice.Eq.{bytes_eq-Decides}
use Rattle.nj_text.specs.declared.spot.Spot.{Spot}
use Rattle.nj_text.specs.Calls.{is_empty}
use Rattle.nj_manifest.specs.Faults.{Fault}
use Rattle.nj_manifest.specs.Statements.{LineModel, gives}
use Rattle.nj_manifest.specs.Grammar.{Gives}
use Rattle.nj_manifest.specs.Inside.Heads.{whole_rule, whole_pool}
use Rattle.nj_manifest.proofs.Choices.{unless_missing}
use Rattle.nj_manifest.proofs.FormsLines.{same_bytes}
use Rattle.nj_manifest.proofs.GivenKeys.{gives-cons}

key_is_here : (name key : List ℕ) → name ≡ key → bytes_eq name key ≡ true
key_is_here name key e = (bytes_eq-Decides name key).1 e

-- ---- a key that is given

-- whether one of the lines has the key
abbrev any_of : (key : List ℕ) → List LineModel → Bool
any_of key lines = list_any (λ (l : LineModel). bytes_eq l.name key) lines

gives_after : (key : List ℕ) (l : LineModel) (lines : List LineModel) → Gives key lines
    → Gives key (l ∷ lines)
gives_after key l lines g =
    record {
      before = l ∷ g.before;
      line = g.line;
      after = g.after;
      cut =
          ap (λ (ls : List LineModel). l ∷ ls) g.cut;
      of_key = g.of_key;
      is_last = g.is_last;
      some_part =
          g.some_part;
    }

gives_first : (key : List ℕ) (l : LineModel) (lines : List LineModel) → bytes_eq l.name key ≡ true
    → any_of key lines ≡ false → not (is_empty l.value.parts) ≡ true → Gives key (l ∷ lines)
gives_first key l lines e n p = record {
  before = [];
  line = l;
  after = lines;
  cut = refl;
  of_key =
      same_bytes l.name key e;
  is_last = n;
  some_part = not-true (is_empty l.value.parts) p;
}

pub gives-form : (key : List ℕ) (lines : List LineModel) → gives key lines ≡ true → Gives key lines
gives-form key [] h = absurd cc
gives-form key (l ∷ lines) h = by_tests (bytes_eq l.name key) (any_of key lines) refl refl
    (sym (gives-cons key l lines) ∙ h) (gives-form key lines)
  where
    by_tests : (t a : Bool) → bytes_eq l.name key ≡ t → any_of key lines ≡ a
        → cond (t && not a) (not (is_empty l.value.parts)) (gives key lines) ≡ true
        → (gives key lines ≡ true → Gives key lines) → Gives key (l ∷ lines)
    by_tests true false e n g others = gives_first key l lines e n g
    by_tests true true e n g others = gives_after key l lines (others g)
    by_tests false a e n g others = gives_after key l lines (others g)

has_key : (key : List ℕ) (before after : List LineModel) (l : LineModel) → bytes_eq l.name key ≡ true
    → any_of key (before ++ (l ∷ after)) ≡ true
has_key key before after l e = grind (arith, common_steps)

gives_at : (key : List ℕ) (before after : List LineModel) (l : LineModel) → bytes_eq l.name key ≡ true
    → any_of key after ≡ false → is_empty l.value.parts ≡ false → gives key (before ++ (l ∷ after)) ≡ true
gives_at key [] after l e n p = gives-cons key l after ∙ rw (e, n, p) refl
gives_at key (m ∷ before) after l e n p = grind (
  arith,
  gives-cons key m (before ++ (l ∷ after)),
  has_key key before after l e,
  gives_at key before after l e n p,
)

pub gives-read : (key : List ℕ) (lines : List LineModel) → Gives key lines → gives key lines ≡ true
gives-read key lines g = grind (arith, gives_at, key_is_here)

-- ---- whole blocks

pub unless_missing-ok : {A : Type 0} (there : Bool) (fault : Fault) (others : Result A Fault) (x : A)
    → unless_missing there fault others ≡ Ok x → (there ≡ true) × (others ≡ Ok x)
unless_missing-ok there fault others x h = grind arith

pub agree-forms : (a b : Bool) → beq a b ≡ true → (a ≡ true) ↔ (b ≡ true)
agree-forms a b h = grind arith

pub forms-agree : (a b : Bool) → ((a ≡ true) ↔ (b ≡ true)) → beq a b ≡ true
forms-agree a b h = grind arith

-- the keys of a response file
abbrev rsp : List ℕ
rsp = codes "rspfile"

abbrev rsp_content : List ℕ
rsp_content = codes "rspfile_content"

pub rule-form : (spot : Spot) (lines whole : List LineModel) → whole_rule spot lines ≡ Ok whole
    → (lines ≡ whole) × Gives (codes "command") lines
    × (Gives (codes "rspfile") lines ↔ Gives (codes "rspfile_content") lines)
unfolding whole_rule
rule-form spot lines whole h = grind (
  arith,
  unless_missing-ok,
  beq,
  codes,
  agree-forms,
  gives-form,
  gives-read,
)

pub rule-read : (spot : Spot) (lines : List LineModel) → Gives (codes "command") lines
    → (Gives (codes "rspfile") lines ↔ Gives (codes "rspfile_content") lines)
    → whole_rule spot lines ≡ Ok lines
unfolding whole_rule
rule-read spot lines command h = grind (arith, forms-agree, gives-read, gives-form, codes)

pub pool-form : (spot : Spot) (lines whole : List LineModel) → whole_pool spot lines ≡ Ok whole
    → (lines ≡ whole) × (list_any (λ (l : LineModel). bytes_eq l.name (codes "depth")) lines ≡ true)
unfolding whole_pool
pool-form spot lines whole h = grind arith

pub pool-read : (spot : Spot) (lines : List LineModel)
    → list_any (λ (l : LineModel). bytes_eq l.name (codes "depth")) lines ≡ true
    → whole_pool spot lines ≡ Ok lines
unfolding whole_pool
pool-read spot lines h = rw h refl
