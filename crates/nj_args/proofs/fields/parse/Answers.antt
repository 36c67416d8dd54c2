use Rattle.std.proofs.Common.{ap, sym, ◌∙◌}
use Rattle.std.specs.Prelude.{not, map, string_bytes}
use Rattle.clap.specs.Walk.{is_empty}
use Rattle.clap.specs.Words.{app_of, is_simple, is_simple_and_free, fault_of, kind_of, matches_of}
use Rattle.nj_args.proofs.Refusals.{simple, simple_and_free, refused}
use Rattle.nj_args.proofs.fields.parse.Goals as goal

pub returns-in-Ok-clause-ok : goal.returns-in-Ok-clause-ok
returns-in-Ok-clause-ok c =
    let none = c.in-Ok.ensures.kinds (ap is_simple_and_free c.in_ok-made.ensures ∙ simple_and_free) in
    ap (λ app. not (is_empty (fault_of app (map string_bytes c.args.words.now)))) (sym c.in_ok-made.ensures)
    ∙ ap (λ kinds. not (is_empty kinds)) none

pub returns-in-Ok-clause-rows : goal.returns-in-Ok-clause-rows
returns-in-Ok-clause-rows c =
    (c.in-Ok.ensures.matches (ap is_simple c.in_ok-made.ensures ∙ simple)).0
    ∙ ap (λ app. matches_of app (map string_bytes c.args.words.now)) c.in_ok-made.ensures

pub returns-in-Err-clause-err : goal.returns-in-Err-clause-err
returns-in-Err-clause-err c =
    let kinds = c.in-Err.ensures.kinds (ap is_simple_and_free c.in_ok-made.ensures ∙ simple_and_free) in
    let reported = refused (kind_of c.in-Err.error)
    (fault_of (app_of c.in_ok-made.made) (map string_bytes c.args.words.now)) kinds in
    rw (c.refusal.ensures, c.kind.ensures, ← c.in_ok-made.ensures) reported
