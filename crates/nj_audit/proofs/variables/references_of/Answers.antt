use Rattle.std.proofs.Common.{◌≡◌, ◌<◌, ◌+◌, ℕ, List, [], ◌∷◌, ◌++◌, Some, length, take, get_or, slice_get}
use Rattle.std.proofs.Common.{option_map, unwrap_or, sym, ap, subst, ◌∙◌, append-nil, arith}
use Rattle.std.specs.List.{flat_map}
use Rattle.std.proofs.lemmas.Grind.{flat_map-append}
use Rattle.std.proofs.lemmas.List.{take_more}
use Rattle.std.proofs.lemmas.Option.{slice_get-get_or}
use Rattle.nj_text.specs.Words.{PartModel}
use Rattle.nj_scope.specs.Rules.{RuleLineModel}
use Rattle.nj_audit.specs.Audit.{names_in}
use Rattle.nj_audit.proofs.NameLemmas.{AreNames, all-more}
use Rattle.nj_audit.proofs.variables.references_of.Goals as goal

abbrev names_of : List RuleLineModel → List (List ℕ)
names_of lines = flat_map (λ line. names_in line.value) lines

lines-more : (lines : List RuleLineModel) (i : ℕ) (v : List PartModel) → i < length lines
    → option_map (λ line. line.value) (slice_get lines i) ≡ Some v
    → names_of (take i lines) ++ names_in v ≡ names_of (take (i + 1) lines)
lines-more lines i v below is =
    let none : RuleLineModel = record { key = []; value = [] } in
    let line = get_or lines i none in
    let valued : line.value ≡ v = ap (λ o. unwrap_or o [])
    (sym (ap (option_map (λ line. line.value)) (slice_get-get_or lines i none below)) ∙ is) in
    ap (λ t. names_of (take i lines) ++ names_in t) (sym valued)
    ∙ ap (λ t. names_of (take i lines) ++ t) (sym (append-nil (names_in line.value)))
    ∙ sym (flat_map-append (λ line. names_in line.value) (take i lines) (line ∷ []))
    ∙ ap names_of (sym (take_more lines i none below))

pub lines-preserved : goal.lines-preserved
lines-preserved c =
    let lines = c.args.rule.now.lines in
    let i = c.lines.index in
    let count = c.line_count-index-end.ensures in
    subst (AreNames c.add_references.new.references)
    (lines-more lines i c.line_value.result.now (omega (arith, count)) c.line_value.ensures)
    (all-more c.lines.references c.add_references.new.references (names_of (take i lines))
    (names_in c.line_value.result.now) c.in_ok-add_references.ensures c.lines.invariant)
