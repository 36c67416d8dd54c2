-- Blocks: the readings of their lines, and the forms of the grammar.
use Rattle.std.proofs.Common.{arith, ◌≡◌, Bool, true, false, cond, Result, Ok, List, [], ◌∷◌, refl, sym, ap}
use Rattle.std.proofs.Common.{subst}
use Rattle.std.proofs.Common.{◌∙◌}
use Rattle.nj_text.specs.Bytes.{drop_while, is_space}
use Rattle.nj_text.specs.Units.{Meaning}
use Rattle.nj_text.specs.Units.{TextUnit, is_ordinary_in}
use Rattle.nj_text.specs.Lines.{Line, with_units, lines_after, Kind, CommentLine, TabLine, BlankLine}
use Rattle.nj_text.specs.Lines.{IndentedLine, PlainLine, kind_of, is_space_unit}
use Rattle.nj_text.specs.Inside.Meanings.{is_blank_meaning}
use Rattle.nj_text.specs.Calls.{State, Between, without_comments}
use Rattle.nj_manifest.specs.declared.cause.Wanted.{Wanted}
use Rattle.nj_manifest.specs.declared.cause.Wanted.TheVariants as wanted
use Rattle.nj_manifest.specs.declared.block_lines.Keys.{Keys}
use Rattle.nj_manifest.specs.Faults.{Fault}
use Rattle.nj_manifest.specs.LineSteps.{Step, ◌>>=◌, NameModel, name_next}
use Rattle.nj_manifest.specs.Statements.{LineModel, allows, equals_value, line_next, block_by, block}
use Rattle.nj_manifest.specs.Grammar.{BindingForm, BlockForm}
use Rattle.nj_manifest.specs.Openings.{Parse, or_last}
use Rattle.nj_manifest.proofs.Choices.{if_allowed, no_lines}
use Rattle.nj_manifest.proofs.Framing.{bind-ok}
use Rattle.nj_manifest.proofs.BlockLines.{block-after}
use Rattle.nj_manifest.proofs.FormsGaps.{skip}
use Rattle.nj_manifest.proofs.FormsTokens.{within, name_skips, name-form, name-read}
use Rattle.nj_manifest.proofs.FormsValues.{equals_value-form, equals_value-read}
use Rattle.nj_manifest.proofs.FormsLines.{gives-it}

-- ---- leading spaces

space_is_blank : (m : Meaning) → is_ordinary_in is_space m ≡ true → is_blank_meaning m ≡ true
space_is_blank m h = grind arith

-- the blanks of a line, without and with its leading spaces
skip_spaces : (us : List TextUnit) → skip (drop_while is_space_unit us) ≡ skip us
skip_spaces [] = refl
skip_spaces (u ∷ us) = by_test (is_space_unit u) refl (skip_spaces us)
  where
    by_test : (t : Bool) → is_space_unit u ≡ t → skip (drop_while is_space_unit us) ≡ skip us
        → skip (cond t (drop_while is_space_unit us) (u ∷ us)) ≡ skip (u ∷ us)
    by_test true e rest = rw (space_is_blank u.means e) rest
    by_test false e rest = refl

name_after_spaces : (want : Wanted) (l : Line) (ls : List Line) (us : List TextUnit)
    → name_next want (within l ls (drop_while is_space_unit us)) ≡ name_next want (within l ls us)
name_after_spaces want l ls us =
    sym (name_skips want l ls (drop_while is_space_unit us))
    ∙ ap (λ (vs : List TextUnit). name_next want (within l ls vs)) (skip_spaces us)
    ∙ name_skips want l ls us

-- ---- a line

-- a line after its name
abbrev line_after : Keys → NameModel × State → Step LineModel
line_after allowed key = if_allowed (allows allowed key.0.name) key.0 (equals_value key.1) >>=
    λ value. Ok (record { spot = key.0.spot; name = key.0.name; value = value.0 }, value.1)

line_after_spaces : (allowed : Keys) (l : Line) (ls : List Line) (us : List TextUnit)
    → line_next allowed (within l ls (drop_while is_space_unit us)) ≡ line_next allowed (within l ls us)
unfolding line_next
line_after_spaces allowed l ls us = grind (arith, name_after_spaces)

if_allowed-ok : {A : Type 0} (t : Bool) (key : NameModel) (others : Result A Fault) (y : A)
    → if_allowed t key others ≡ Ok y → (t ≡ true) × (others ≡ Ok y)
if_allowed-ok t key others y h = grind arith

-- the binding of a line
abbrev LineIs : Keys → Line → List TextUnit → LineModel → Type 0
LineIs allowed l us line = BindingForm us l.end (record { spot = line.spot; name = line.name }) line.value
    × (allows allowed line.name ≡ true)

line-form : (allowed : Keys) (l : Line) (ls : List Line) (us : List TextUnit) (line : LineModel) (s : State)
    → line_next allowed (within l ls us) ≡ Ok (line, s)
    → LineIs allowed l us line × (s ≡ Between (lines_after l ls))
unfolding line_next
line-form allowed l ls us line s h =
    let key = bind-ok (name_next wanted.VariableName (within l ls us)) (line_after allowed) (line, s) h in
    let value = bind-ok (if_allowed (allows allowed key.0.0.name) key.0.0 (equals_value key.0.1)) _ (line, s)
    key.2 in
    let ok = if_allowed-ok (allows allowed key.0.0.name) key.0.0 (equals_value key.0.1) value.0 value.1 in
    let name = name-form wanted.VariableName l ls us key.0 key.1 in
    let read = equals_value-form l ls name.0 value.0.0 value.0.1 (ap equals_value (sym name.2) ∙ ok.1) in
    let same = gives-it (record { spot = key.0.0.spot; name = key.0.0.name; value = value.0.0 }) value.0.1
    line s value.2 in (
      subst (LineIs allowed l us) same.0 (
        record {
          after_name = name.0;
          after_sign = read.0;
          of_name = name.1;
          equals = read.1;
          of_value =
              read.2;
        },
        ok.0,
      ),
      sym same.1 ∙ read.3,
    )

line-read : (allowed : Keys) (l : Line) (ls : List Line) (us : List TextUnit) (line : LineModel)
    → LineIs allowed l us line → line_next allowed (within l ls us) ≡ Ok (line, Between (lines_after l ls))
unfolding line_next
line-read allowed l ls us line f =
    rw (
      name-read wanted.VariableName l ls us f.0.after_name (record { spot = line.spot; name = line.name })
          f.0.of_name,
      f.1,
      equals_value-read l ls f.0.after_name f.0.after_sign line.value f.0.equals
          f.0.of_value,
    ) refl

-- ---- blocks

-- a reading that returns a value and lines
pub reads-it : {A : Type 0} (x : A) (ls : List Line) (y : A) (rest : List Line)
    → ◌≡◌ {A = Parse A} (Ok (x, ls)) (Ok (y, rest)) → (x ≡ y) × (ls ≡ rest)
reads-it {A} x ls y rest e = grind arith

-- a block without lines
no_lines-are : (allowed : Keys) (ls remainder rest : List Line) (lines : List LineModel)
    → no_lines remainder ≡ Ok (lines, rest) → BlockForm allowed ls [] remainder
    → BlockForm allowed ls lines rest
no_lines-are allowed ls remainder rest lines h f = grind arith

-- the block after a line, which may be the last
block_after-form : (allowed : Keys) (l : Line) (ls rest : List Line) (lines : List LineModel)
    → (block allowed ls ≡ Ok (lines, rest) → BlockForm allowed ls lines rest)
    → or_last l (no_lines (lines_after l ls)) (block allowed ls) ≡ Ok (lines, rest)
    → BlockForm allowed (lines_after l ls) lines rest
block_after-form allowed l ls rest lines others h = by_last l.is_last refl h
  where
    by_last : (t : Bool) → l.is_last ≡ t → cond t (no_lines (cond t (with_units [] l ∷ ls) ls))
        (block allowed ls) ≡ Ok (lines, rest)
        → BlockForm allowed (cond t (with_units [] l ∷ ls) ls) lines rest
    by_last true e g =
        let empty : BlockForm allowed (with_units [] l ∷ ls) [] (lines_after (with_units [] l) ls) =
        BlockForm.blank refl in
        let same : lines_after (with_units [] l) ls ≡ with_units [] l ∷ ls =
        ap (λ t. cond t (with_units [] l ∷ ls) ls) e in
        no_lines-are allowed (with_units [] l ∷ ls) (with_units [] l ∷ ls) rest lines g
        (subst (BlockForm allowed (with_units [] l ∷ ls) []) same empty)
    by_last false e g = others g

-- A block that is read has the form of a block.
pub block-form : (allowed : Keys) (ls : List Line) (lines : List LineModel) (rest : List Line)
    → block allowed ls ≡ Ok (lines, rest) → BlockForm allowed ls lines rest
unfolding block
block-form allowed [] lines rest h = no_lines-are allowed [] [] rest lines h BlockForm.nothing
block-form allowed (l ∷ ls) lines rest h =
    by_kind (kind_of l) refl h (λ ms e. block-form allowed ls ms rest e)
  where
    by_last : (t : Bool) → l.is_last ≡ t → kind_of l ≡ CommentLine
        → (block allowed ls ≡ Ok (lines, rest) → BlockForm allowed ls lines rest)
        → cond t (no_lines (lines_after l (without_comments ls))) (block allowed ls) ≡ Ok (lines, rest)
        → BlockForm allowed (l ∷ ls) lines rest
    by_last true e k others g = no_lines-are allowed (l ∷ ls) (lines_after l (without_comments ls)) rest lines
        g (BlockForm.last_comment k e)
    by_last false e k others g = BlockForm.comment k e (others g)

    by_kind : (k : Kind) → kind_of l ≡ k → block_by allowed k l ls (block allowed ls) ≡ Ok (lines, rest)
        → ((ms : List LineModel) → block allowed ls ≡ Ok (ms, rest) → BlockForm allowed ls ms rest)
        → BlockForm allowed (l ∷ ls) lines rest
    by_kind CommentLine k g others = by_last l.is_last refl k (others lines) g
    by_kind (TabLine tab) k g others = absurd cc
    by_kind IndentedLine k g others =
        let line = bind-ok (line_next allowed (within l ls (drop_while is_space_unit l.units))) _
        (lines, rest) g in
        let more = bind-ok (or_last l (no_lines (lines_after l ls)) (block allowed ls)) _ (lines, rest) line.2
        in
        let same = reads-it (line.0.0 ∷ more.0.0) more.0.1 lines rest more.2 in
        let it = line-form allowed l ls l.units line.0.0 line.0.1
        (sym (line_after_spaces allowed l ls l.units) ∙ line.1) in
        let read = more.1 ∙ ap (λ (ms : List Line). Ok (more.0.0, ms)) same.1 in
        subst (λ (ms : List LineModel). BlockForm allowed (l ∷ ls) ms rest) same.0
        (BlockForm.line (record { indented = k; binding = it.0.0; key = it.0.1 })
        (block_after-form allowed l ls rest more.0.0 (others more.0.0) read))
    by_kind BlankLine k g others = no_lines-are allowed (l ∷ ls) (lines_after l ls) rest lines g
        (BlockForm.blank k)
    by_kind PlainLine k g others = no_lines-are allowed (l ∷ ls) (l ∷ ls) rest lines g (BlockForm.plain k)

-- A block in its form is read.
pub block-read : {allowed : Keys} {ls rest : List Line} {lines : List LineModel}
    → BlockForm allowed ls lines rest → block allowed ls ≡ Ok (lines, rest)
unfolding block
block-read {allowed = allowed} (BlockForm.line {l = l} {ls = ls} {first = first} f more) = grind (
  arith,
  line_after_spaces allowed l ls l.units,
  line-read allowed l ls l.units first (f.binding, f.key),
  block-after allowed l ls,
  block-read more,
)
block-read (BlockForm.comment k e others) = rw (k, e) (block-read others)
block-read (BlockForm.last_comment k e) = rw (k, e) refl
block-read (BlockForm.blank k) = rw k refl
block-read (BlockForm.plain k) = rw k refl
block-read BlockForm.nothing = refl
