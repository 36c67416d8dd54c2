use Rattle.std.proofs.Common.{◌≡◌, ◌++◌, true≢false, refl, sym, ap, subst, ◌∙◌, codes, map}
use Rattle.std.specs.Str.{IsUtf8}
use Rattle.nj_changes.specs.FullPaths.{full_path}
use Rattle.nj_tests.specs.Tests.{test_model}
use Rattle.nj_ask.specs.declared.status.Status.TheVariants.{Fault}
use Rattle.nj_ask.specs.Endings.{program_line}
use Rattle.nj_ask.specs.TestLists.{LacksLists, LacksMeson, ReadsLists, ReadsMeson}
use Rattle.nj_ask.specs.TestLists.{meson_targets_path, meson_tests_path}
use Rattle.nj_ask.specs.TestLists.LacksMeson.{no_lists, no_path}
use Rattle.nj_ask.specs.Inside.Failures.{FailsBy}
use Rattle.nj_ask.proofs.FailureLemmas.{err-as, fails-as, ok-as}
use Rattle.nj_ask.proofs.test_list.read_meson.Goals as goal

pub returns-in-Ok-clause-read : goal.returns-in-Ok-clause-read
returns-in-Ok-clause-read g c =
    let folder = c.args.folder.now in
    let dir = c.args.dir.now in
    let before = g.S.FileSource.state c.args.files.now in
    let after = g.S.FileSource.state c.read_lists.new.files in
    let build = c.deref.ensures ∙ ap (λ v. v.items) c.in-Ok.ensures.ok ∙ c.in_ok-full.ensures
    ∙ ap (full_path folder) c.as_bytes.ensures.value in
    let at = c.deref-in-Ok.ensures ∙ c.in_ok-tests.ensures in
    let targets_at = c.deref-in-Ok-2.ensures ∙ c.in_ok-targets.ensures in
    ok-as _ (λ tests. ReadsMeson folder dir before after (map test_model tests.items)) c.read_lists.result
    (λ tests is. subst (λ b. ReadsLists b (meson_tests_path dir) (meson_targets_path dir) before after
    (map test_model tests.items)) build
    (subst (λ p. ReadsLists c.deref.result.now p (meson_targets_path dir) before after
    (map test_model tests.items)) at
    (subst (λ p. ReadsLists c.deref.result.now c.deref-in-Ok.result.now p before after
    (map test_model tests.items)) targets_at is)))
    c.read_lists.ensures.read

pub returns-in-Ok-clause-lacks : goal.returns-in-Ok-clause-lacks
returns-in-Ok-clause-lacks g c =
    let folder = c.args.folder.now in
    let dir = c.args.dir.now in
    let before = g.S.FileSource.state c.args.files.now in
    let after = g.S.FileSource.state c.read_lists.new.files in
    let build = c.deref.ensures ∙ ap (λ v. v.items) c.in-Ok.ensures.ok ∙ c.in_ok-full.ensures
    ∙ ap (full_path folder) c.as_bytes.ensures.value in
    let at = c.deref-in-Ok.ensures ∙ c.in_ok-tests.ensures in
    let targets_at = c.deref-in-Ok-2.ensures ∙ c.in_ok-targets.ensures in
    err-as (FailsBy Fault (LacksLists c.deref.result.now c.deref-in-Ok.result.now c.deref-in-Ok-2.result.now
    before
    after))
    (FailsBy Fault (LacksMeson folder dir before after)) c.read_lists.result
    (λ failure. fails-as Fault
    (LacksLists c.deref.result.now c.deref-in-Ok.result.now c.deref-in-Ok-2.result.now before after)
    (LacksMeson folder dir before after) failure
    (λ line lacks. no_lists
    (subst (λ b. LacksLists b (meson_tests_path dir) (meson_targets_path dir) before after line) build
    (subst (λ p. LacksLists c.deref.result.now p (meson_targets_path dir) before after line) at
    (subst (λ p. LacksLists c.deref.result.now c.deref-in-Ok.result.now p before after line) targets_at
    lacks)))))
    c.read_lists.ensures.lacks

pub returns-clause-lacks : goal.returns-clause-lacks
returns-clause-lacks g c =
    let folder = c.args.folder.now in
    let dir = c.args.dir.now in
    let state = g.S.FileSource.state c.args.files.now in
    let path_is = c.in_ok-full.ensures ∙ ap (full_path folder) c.as_bytes.ensures.value in
    fails-as Fault (λ line. line ≡ program_line (dir ++ codes ": its full path is not UTF-8"))
    (LacksMeson folder dir state state) c.of_path.result
    (λ line said.
    no_path (λ good. true≢false (sym (c.in-Err.ensures.succeeds (subst IsUtf8 (sym path_is) good)))) refl
    said)
    c.of_path.ensures
