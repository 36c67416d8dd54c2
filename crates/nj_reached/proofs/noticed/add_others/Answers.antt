use Rattle.std.proofs.Common.{◌≡◌, ◌<◌, ◌∷◌, [], take, length, get_or, subst, sym, ◌∙◌, arith}
use Rattle.std.proofs.lemmas.List.{take_all}
use Rattle.std.proofs.lemmas.List.Elements.{filter_more}
use Rattle.std.proofs.lemmas.Option.{same_Some, slice_get-get_or}
use Rattle.std.specs.Prelude.{not}
use Rattle.nj_names.specs.NameTables.{is_among}
use Rattle.nj_changes.specs.Tables.{HasMore}
use Rattle.nj_chosen.specs.Reasons.{without}
use Rattle.nj_reached.proofs.TableLemmas.{has-both, has-none}
use Rattle.nj_reached.proofs.noticed.add_others.Goals as goal

pub names-init : goal.names-init
names-init c = has-none c.args.names.now

pub names-preserved : goal.names-preserved
names-preserved c =
    let i = c.names.number in
    let table = c.args.table.now in
    let others = c.args.others.now in
    let counted = c.count-number-end.ensures.count in
    let below : i < length table = omega (arith, counted) in
    let name = get_or table i [] in
    let is : c.name.result.now ≡ name =
    same_Some c.name.result.now name (sym c.name.ensures ∙ slice_get-get_or table i [] below) in
    subst (λ more. HasMore c.args.names.now more c.add_unless.new.names)
    (sym (filter_more (λ path. not (is_among others path)) table i [] below))
    (has-both c.args.names.now c.names.names c.add_unless.new.names (without others (take i table))
    (without others (name ∷ [])) c.names.invariant
    (subst (λ one. HasMore c.names.names (without others (one ∷ [])) c.add_unless.new.names) is
    c.in_ok-add_unless.ensures))

pub returns : goal.returns
returns c =
    let table = c.args.table.now in
    let counted = c.count-number-end.ensures.count in
    subst (λ names. HasMore c.args.names.now (without c.args.others.now names) c.names.names)
    (take_all c.names.number table (omega (arith, counted))) c.names.invariant
