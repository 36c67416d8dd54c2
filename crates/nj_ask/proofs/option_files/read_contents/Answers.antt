use Rattle.std.proofs.Common.{[], ◌∷◌, ◌++◌, ◌+◌, ◌∙◌, map, take, drop, sym, ap, subst, string_bytes}
use Rattle.std.proofs.lemmas.List.{map-append}
use Rattle.nj_ask.specs.declared.status.Status.TheVariants.{Fault}
use Rattle.nj_ask.specs.OptionFiles.{LacksContent, ReadsAdditionAt, ReadsContents}
use Rattle.nj_ask.specs.OptionFiles.LacksContent.{lacks}
use Rattle.nj_ask.specs.OptionFiles.ReadsContents.{none, last}
use Rattle.nj_ask.specs.TestLists.{LacksText}
use Rattle.nj_ask.proofs.FailureLemmas.{fails-as}
use Rattle.nj_ask.proofs.OptionFileLemmas.{paths-cut, paths-more}
use Rattle.nj_ask.proofs.option_files.read_contents.Goals as goal

pub paths-init : goal.paths-init
paths-init g c =
    let before = g.S.FileSource.state c.args.files.now in
    subst (λ items. ReadsContents before [] before (map (λ addition. addition.items) items))
    (sym c.new-additions.ensures.items) none

pub returns-in-Err-clause-lacks : goal.returns-in-Err-clause-lacks
returns-in-Err-clause-lacks g c =
    let before = g.S.FileSource.state c.args.files.now in
    let between = g.S.FileSource.state c.paths.files in
    let after = g.S.FileSource.state c.addition_at.new.files in
    let paths = c.args.paths.now in
    let i = c.paths.path-index in
    fails-as Fault (LacksText c.deref.result.now between after)
    (LacksContent (map string_bytes paths) before after) c.in-Err.failure
    (λ line no_text. lacks (map string_bytes (drop (i + 1) paths))
    (paths-cut paths i c.path-item.result c.paths-test.true c.path-item.is) c.paths.invariant
    (subst (λ path. LacksText path between after line) c.deref.ensures no_text))
    c.in-Err.ensures.lacks

pub paths-preserved : goal.paths-preserved
paths-preserved g c =
    let before = g.S.FileSource.state c.args.files.now in
    let between = g.S.FileSource.state c.paths.files in
    let after = g.S.FileSource.state c.addition_at.new.files in
    let paths = c.args.paths.now in
    let i = c.paths.path-index in
    let path = c.path-item.result in
    let old = c.paths.additions.items in
    let addition = c.in-Ok.addition in
    let added = ap (map (λ addition. addition.items)) c.in_ok-push-in-Ok.ensures.items
    ∙ map-append (λ addition. addition.items) old (addition ∷ []) in
    subst (λ ps. ReadsContents before ps after (map (λ addition. addition.items) c.push.new.self.items))
    (sym (paths-more paths i path c.paths-test.true c.path-item.is))
    (subst (ReadsContents before (map string_bytes (take i paths) ++ string_bytes path ∷ []) after)
    (sym added)
    (last c.paths.invariant
    (subst (λ at. ReadsAdditionAt at between after addition.items) c.deref.ensures c.in-Ok.ensures.read)))
