use Rattle.std.proofs.Common.{◌≡◌, ◌≢◌, true, sym, ap, ◌∙◌, ◌++◌, arith, length}
use Rattle.nj_text.specs.Inside.Cleaning.{text_kept}
use Rattle.nj_text.proofs.CleanStrings.{kept_of}
use Rattle.nj_text.proofs.CleanPaths.{pushed-absolute, pushed-none, pushed-some}
use Rattle.nj_text.proofs.cleaning.push_clean.Goals as goal

pub returns-then-is_absolute-clause-ok : goal.returns-then-is_absolute-clause-ok
returns-then-is_absolute-clause-ok c =
    let path = c.args.path.now in
    pushed-absolute c.args.out.now.items c.push_components.new.out.items path
    (sym c.is_absolute.ensures ∙ c.if-is_absolute.true)
    (c.in_ok-push_components.ensures.ok ∙ ap (λ xs. xs ++ text_kept true (kept_of path))
    c.in_ok-push.ensures.items)

pub returns-in_ok-push-2-clause-ok : goal.returns-in_ok-push-2-clause-ok
returns-in_ok-push-2-clause-ok c =
    let same : length c.push_components-2.new.out.items ≡ length c.args.out.now.items = omega arith in
    c.in_ok-push-2.ensures.items
    ∙ pushed-none c.args.out.now.items c.push_components-2.new.out.items c.args.path.now
    (sym c.is_absolute.ensures ∙ c.if-is_absolute.false) c.in_ok-push_components-2.ensures.ok same

pub returns-else-len-front-clause-ok : goal.returns-else-len-front-clause-ok
returns-else-len-front-clause-ok c =
    let more : length c.push_components-2.new.out.items ≢ length c.args.out.now.items =
    λ e. c.if-len-front.false (omega arith) in
    pushed-some c.args.out.now.items c.push_components-2.new.out.items c.args.path.now
    (sym c.is_absolute.ensures ∙ c.if-is_absolute.false) c.in_ok-push_components-2.ensures.ok more
