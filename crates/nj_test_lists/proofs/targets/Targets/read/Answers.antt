use Rattle.std.proofs.Common.{[], ◌∷◌, Some, codes, map, string_bytes, sym, ap, ◌∙◌, Vec, String}
use Rattle.std.proofs.Common.{Global}
use Rattle.std.proofs.lemmas.List.{map-append}
use Rattle.std.proofs.lemmas.Result.{err_from_is_err_and}
use Rattle.nj_test_lists.specs.Values.{string_at}
use Rattle.nj_test_lists.specs.Meson.{files_made}
use Rattle.nj_test_lists.proofs.MesonLemmas.{each-next_value, wrong-target, refused-target, new-name}
use Rattle.nj_test_lists.proofs.targets.Targets.read.Goals as goal

pub returns-in_err-id-clause-fault : goal.returns-in_err-id-clause-fault
returns-in_err-id-clause-fault c =
    let wrong = c.in_err-id.ensures.fault in
    let given = wrong-target c.args.values.now c.values.number c.index-values-number.result c.values.ids
    wrong.key
    c.in_err-id.field-0.0 c.values-test.true c.index-values-number.is c.values.invariant.ids wrong.is_fault
    wrong.is_wrong in
    let p = err_from_is_err_and c.from_residual.result c.from_residual.ensures.1 in
    rw (p.1, p.2) given

pub returns-in_err-read_files-clause-fault : goal.returns-in_err-read_files-clause-fault
returns-in_err-read_files-clause-fault c =
    let given = refused-target c.args.values.now c.values.number c.index-values-number.result c.values.ids
    c.in_err-read_files.field-0.0 c.values-test.true c.index-values-number.is c.values.invariant.ids
    c.in_err-read_files.ensures.fault in
    let p = err_from_is_err_and c.from_residual-in_err-read_files.result
    c.from_residual-in_err-read_files.ensures.1 in
    rw (p.1, p.2) given

pub values-preserved : goal.values-preserved
values-preserved c =
    let values = c.args.values.now in
    let number = c.values.number in
    let value = c.index-values-number.result in
    let strings_of = λ (strings : Vec (String Global) Global). map string_bytes strings.items in
    let new = c.in_ok-read_files.field-0 in
    record {
      ids = each-next_value (string_at (codes "id")) values number value c.values.ids c.in_ok-id.id.now
          c.values-test.true c.index-values-number.is c.values.invariant.ids c.in_ok-id.ensures.id
          ∙ ap Some (sym (c.in_ok-add.ensures.added
          ∙ new-name c.values.ids c.in_ok-id.id.now c.as_bytes.result.now c.as_bytes.ensures.value
          c.in_ok-id.ensures.is_new));
      files = each-next_value (files_made c.args.build.now) values number value
          (map strings_of c.values.files.items) (strings_of new) c.values-test.true c.index-values-number.is
          c.values.invariant.files c.in_ok-read_files.ensures.files
          ∙ ap Some (sym (ap (map strings_of) c.in_ok-push.ensures.items
          ∙ map-append strings_of c.values.files.items (new ∷ [])));
      distinct = c.in_ok-add.ensures.each_name_once;
    }
