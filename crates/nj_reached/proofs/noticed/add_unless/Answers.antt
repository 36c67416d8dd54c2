use Rattle.std.proofs.Common.{◌≡◌, true, false, subst, sym, ◌∙◌}
use Rattle.nj_names.specs.NameTables.{is_among}
use Rattle.nj_changes.specs.Tables.{HasMore}
use Rattle.nj_reached.proofs.NoticedLemmas.{without-one}
use Rattle.nj_reached.proofs.TableLemmas.{has-named, has-none}
use Rattle.nj_reached.proofs.noticed.add_unless.Goals as goal

pub returns-then-is_known : goal.returns-then-is_known
returns-then-is_known c =
    let is : is_among c.args.others.now c.args.name.now ≡ true =
    sym (c.is_some-is_known.ensures ∙ c.number.ensures.known) ∙ c.if-is_known.true in
    subst (λ more. HasMore c.args.names.now more c.args.names.now)
    (sym (without-one c.args.others.now c.args.name.now true is)) (has-none c.args.names.now)

pub returns : goal.returns
returns c =
    let is : is_among c.args.others.now c.args.name.now ≡ false =
    sym (c.is_some-is_known.ensures ∙ c.number.ensures.known) ∙ c.if-is_known.false in
    subst (λ more. HasMore c.args.names.now more c.add.new.self)
    (sym (without-one c.args.others.now c.args.name.now false is))
    (has-named c.args.names.now c.add.new.self c.args.name.now c.in_ok-add.ensures.added)
