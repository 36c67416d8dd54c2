-- Lines that end a block which was begun, whatever lines it has.
use Rattle.std.proofs.lemmas.Grind.{common_steps}
use Rattle.std.proofs.Common.{arith, ◌≡◌, ℕ, Bool, true, false, cond, ◌&&◌, ◌||◌, not, Result, Ok, Err, List}
use Rattle.std.proofs.Common.{[]}
use Rattle.std.proofs.Common.{◌∷◌, ◌++◌, map, refl, sym, ap, ◌∙◌, codes}
use mathlib.Core.Bool.{beq}
use Rattle.std.specs.List.{list_any, list_all}
use Rattle.std.specs.Str.{bytes_eq}
use Rattle.nj_text.specs.declared.spot.Spot.{Spot}
use Rattle.nj_text.specs.Units.{first_spot}
use Rattle.nj_text.specs.Lines.{Line}
use Rattle.nj_text.specs.Words.{Text}
use Rattle.nj_text.specs.Calls.{is_empty}
use Rattle.nj_manifest.specs.declared.cause.SyntaxCause.TheVariants as cause
use Rattle.nj_manifest.specs.declared.block_lines.Keys.{Keys}
use Rattle.nj_manifest.specs.declared.block_lines.Keys.TheVariants as keys
use Rattle.nj_manifest.specs.Faults.{Fault, Placed, is_syntax}
use Rattle.nj_manifest.specs.LineSteps.{◌>>=◌, NameModel, name_next, expect_sign}
use Rattle.nj_manifest.specs.Openings.{Parse}
use Rattle.nj_manifest.specs.Statements.{LineModel, equals_value, line_next, block, OutputsModel, InputsModel}
use Rattle.nj_manifest.specs.Statements.{StatementModel, RuleModel, PoolModel, BuildModel, gives}
use Rattle.nj_manifest.specs.Leftmost.{written, are_plain}
use Rattle.nj_manifest.specs.Grammar.{HeadModel, Alone, RuleHead, PoolHead, BuildHead}
use Rattle.nj_manifest.specs.Inside.Heads.{whole_rule, whole_pool, with_block, names}
use Rattle.nj_manifest.proofs.Choices.{unless_missing}
use Rattle.nj_manifest.proofs.BlockLines.{in_front}
use Rattle.nj_manifest.proofs.GivenKeys.{gives-cons}

-- the keys that a block of the given statement accepts
abbrev pub keys_of : HeadModel → Keys
keys_of (Alone item) = keys.All
keys_of (RuleHead name) = keys.OfRule
keys_of (PoolHead name) = keys.OfPool
keys_of (BuildHead outputs rule inputs) = keys.All

-- lines that make it whole
abbrev pub closing : HeadModel → List (List ℕ)
closing (Alone item) = []
closing (RuleHead name) = codes " command=x" ∷ codes " rspfile=x" ∷ codes " rspfile_content=x" ∷ []
closing (PoolHead name) = codes " depth=x" ∷ []
closing (BuildHead outputs rule inputs) = []

pub closing_plain : (h : HeadModel) → list_all are_plain (closing h) ≡ true
closing_plain h = grind arith

abbrev line_x : List ℕ → LineModel
line_x key = record {
  spot = first_spot;
  name = key;
  value =
      record { spot = first_spot; parts = Text (120 ∷ []) ∷ [] };
}

abbrev pub closing_model : HeadModel → List LineModel
closing_model (Alone item) = []
closing_model (RuleHead name) = line_x (codes "command") ∷ line_x (codes "rspfile") ∷ line_x
    (codes "rspfile_content") ∷ []
closing_model (PoolHead name) = line_x (codes "depth") ∷ []
closing_model (BuildHead outputs rule inputs) = []

pub closing_block : (h : HeadModel) → block (keys_of h) (map written (closing h)) ≡ Ok (closing_model h, [])
unfolding block line_next name_next equals_value expect_sign
closing_block h = grind arith

-- ---- the last lines decide

any_after : (p : LineModel → Bool) (front tail : List LineModel) → list_any p tail ≡ true
    → list_any p (front ++ tail) ≡ true
any_after p front tail h = grind (arith, common_steps)

gives_after : (key : List ℕ) (front tail : List LineModel) → names key tail ≡ true
    → gives key (front ++ tail) ≡ gives key tail
gives_after key [] tail h = refl
gives_after key (l ∷ front) tail h = grind (
  arith,
  gives-cons key l (front ++ tail),
  any_after (λ (m : LineModel). bytes_eq m.name key) front tail h,
  gives_after key front tail h,
)

rule_whole : (spot : Spot) (name : NameModel) (front : List LineModel)
    → whole_rule spot (front ++ closing_model (RuleHead name)) ≡ Ok (front ++ closing_model (RuleHead name))
unfolding whole_rule
rule_whole spot name front = grind (arith, common_steps)

pool_whole : (spot : Spot) (name : NameModel) (front : List LineModel)
    → whole_pool spot (front ++ closing_model (PoolHead name)) ≡ Ok (front ++ closing_model (PoolHead name))
unfolding whole_pool
pool_whole spot name front = grind (arith, common_steps)

-- A reading of a block up to the given lines reads a statement with them.
pub closed : (spot : Spot) (h : HeadModel) (ls : List Line) (front : List LineModel)
    → block (keys_of h) ls ≡ in_front front (block (keys_of h) (map written (closing h)))
    → (item : StatementModel) × (rest : List Line) × (with_block spot h ls ≡ Ok (item, rest))
closed spot (Alone item) ls front e = (item, ls, refl)
closed spot (RuleHead name) ls front e =
    let lines = front ++ closing_model (RuleHead name) in
    let read : block keys.OfRule ls ≡ Ok (lines, []) = e ∙ ap (in_front front) (closing_block (RuleHead name))
    in (
      RuleModel name lines,
      [],
      ap (λ (r : Parse (List LineModel)). r >>= λ ls. whole_rule spot ls.0 >>=
          λ whole. Ok (RuleModel name whole, ls.1)) read
          ∙ ap (λ (r : Result (List LineModel) Fault). r >>= λ whole. Ok (RuleModel name whole, []))
          (rule_whole spot name front),
    )
closed spot (PoolHead name) ls front e =
    let lines = front ++ closing_model (PoolHead name) in
    let read : block keys.OfPool ls ≡ Ok (lines, []) = e ∙ ap (in_front front) (closing_block (PoolHead name))
    in (
      PoolModel name lines,
      [],
      ap (λ (r : Parse (List LineModel)). r >>= λ ls. whole_pool spot ls.0 >>=
          λ whole. Ok (PoolModel name whole, ls.1)) read
          ∙ ap (λ (r : Result (List LineModel) Fault). r >>= λ whole. Ok (PoolModel name whole, []))
          (pool_whole spot name front),
    )
closed spot (BuildHead outputs rule inputs) ls front e =
    let lines = front ++ [] in
    let read : block keys.All ls ≡ Ok (lines, []) =
    e ∙ ap (in_front front) (closing_block (BuildHead outputs rule inputs)) in (
      BuildModel outputs rule inputs lines,
      [],
      ap (λ (r : Parse (List LineModel)). r >>= λ ls. Ok (BuildModel outputs rule inputs ls.0, ls.1)) read,
    )

-- ---- where a statement fails after its first line

-- A fault of its block is the statement's.
pub block_refuses : (spot : Spot) (h : HeadModel) (ls : List Line) (f : Fault)
    (all : (item : StatementModel) → h ≡ Alone item → ⊥) → block (keys_of h) ls ≡ Err f
    → with_block spot h ls ≡ Err f
block_refuses spot h ls f all e = grind arith

fault_of_missing : {A B : Type 0} (there : Bool) (fault f : Fault) (others : Result A Fault)
    (k : A → Result B Fault) → is_syntax fault ≡ false → is_syntax f ≡ true
    → (unless_missing there fault others >>= k) ≡ Err f → (others >>= k) ≡ Err f
fault_of_missing there fault f others k n s h = grind arith

same_err : {A B : Type 0} (g f : Fault) → ◌≡◌ {A = Result A Fault} (Err g) (Err f)
    → ◌≡◌ {A = Result B Fault} (Err g) (Err f)
same_err {A = A} g f e = grind arith

no_err : {A : Type 0} {x : A} {f : Fault} → ◌≡◌ {A = Result A Fault} (Ok x) (Err f) → ⊥
no_err e = absurd cc

abbrev rule_then : Spot → NameModel → List LineModel × List Line → Parse StatementModel
rule_then spot name lines = whole_rule spot lines.0 >>= λ whole. Ok (RuleModel name whole, lines.1)

abbrev pool_then : Spot → NameModel → List LineModel × List Line → Parse StatementModel
pool_then spot name lines = whole_pool spot lines.0 >>= λ whole. Ok (PoolModel name whole, lines.1)

abbrev build_then : OutputsModel → NameModel → InputsModel → List LineModel × List Line → Parse StatementModel
build_then outputs rule inputs lines = Ok (BuildModel outputs rule inputs lines.0, lines.1)

rule_fault : (spot : Spot) (name : NameModel) (lines : List LineModel × List Line) (f : Fault)
    → is_syntax f ≡ true → rule_then spot name lines ≡ Err f → ⊥
unfolding whole_rule
rule_fault spot name lines f s h = grind arith

pool_fault : (spot : Spot) (name : NameModel) (lines : List LineModel × List Line) (f : Fault)
    → is_syntax f ≡ true → pool_then spot name lines ≡ Err f → ⊥
unfolding whole_pool
pool_fault spot name lines f s h = grind arith

by_block : {A : Type 0} (r : Parse (List LineModel)) (k : List LineModel × List Line → Result A Fault)
    (f : Fault) → ((lines : List LineModel × List Line) → k lines ≡ Err f → ⊥) → (r >>= k) ≡ Err f → r ≡ Err f
by_block r k f n h = grind arith

-- A fault of syntax after the first line is a fault of the block.
pub fault_of_block : (spot : Spot) (h : HeadModel) (ls : List Line) (f : Fault) → with_block spot h ls ≡ Err f
    → is_syntax f ≡ true → ((item : StatementModel) → h ≡ Alone item → ⊥) × (block (keys_of h) ls ≡ Err f)
fault_of_block spot h ls f e s = grind (arith, no_err, by_block, rule_fault, pool_fault)
