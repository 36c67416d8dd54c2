use Rattle.std.proofs.Common.{◌≡◌, ◌+◌, ◌^◌, ◌∙◌, length, ap, refl, subst, sym}
use Rattle.std.proofs.lemmas.Result.{IfOk-weaker}
use Rattle.nj_deps.specs.LogRecords.{MayBeNamed}
use Rattle.nj_deps.specs.Inside.RecordsRead.{Adds, AddsPath, TableModel}
use Rattle.nj_deps.proofs.TableLemmas.{no-path-adds, no_path_record, path-adds}
use Rattle.nj_deps.proofs.log_table.LogTable.read_path.Goals as goal

pub returns-in-None : goal.returns-in-None
returns-in-None c = (
  (λ r is counts. no_path_record c.args.self.now.paths c.args.content.now r
      c.in-None.ensures is counts),
  refl,
)

pub returns-then-not-may_be_named : goal.returns-then-not-may_be_named
returns-then-not-may_be_named c =
    let split = c.in-Some.split in
    no-path-adds split.0.now split.1 c.args.content.now c.args.self.now c.in-Some.ensures.0
    c.in-Some.ensures.1
    (λ named. absurd (c.may_be_named.ensures.no c.if-not-may_be_named.true
    (subst MayBeNamed (sym c.path_in-path.ensures) named)))

pub returns-then-not-is_next : goal.returns-then-not-is_next
returns-then-not-is_next c =
    let split = c.in-Some.split in
    let old = c.args.self.now in
    let count : c.count.result ≡ length old.paths =
    c.count.ensures.count ∙ ap (λ (t : TableModel). length t.paths) c.self.view_is in
    no-path-adds split.0.now split.1 c.args.content.now old c.in-Some.ensures.0 c.in-Some.ensures.1
    (λ named e. c.is_next.ensures.no c.if-not-is_next.true (ap (λ k. split.1 + k + 1) count ∙ e))

pub returns : goal.returns
returns c =
    let split = c.in-Some.split in
    let old = c.args.self.now in
    let new = c.add_path.new.self in
    let path = c.path_in-path.result.now in
    let count : c.count.result ≡ length old.paths =
    c.count.ensures.count ∙ ap (λ (t : TableModel). length t.paths) c.self.view_is in
    let named = subst MayBeNamed c.path_in-path.ensures
    (c.may_be_named.ensures.yes c.if-not-may_be_named.false) in
    let number : split.1 + length old.paths + 1 ≡ 2 ^ 32 =
    ap (λ k. split.1 + k + 1) (sym count) ∙ c.is_next.ensures.yes c.if-not-is_next.false in
    IfOk-weaker c.add_path.result (AddsPath path old new) (Adds 0 c.args.content.now old new)
    (λ b added. path-adds split.0.now split.1 c.args.content.now old new c.in-Some.ensures.0
    c.in-Some.ensures.1 c.requires
    named number b (subst (λ p. AddsPath p old new b) c.path_in-path.ensures added))
    c.add_path.ensures
