use Rattle.std.proofs.Common.{◌≡◌, false, subst, rules}
use Rattle.std.specs.Str.{is_utf8}
use Rattle.nj_graph.specs.Loads.{Loads}
use Rattle.nj_c.specs.SuppliedFiles.{supplied_state}
use Rattle.std.proofs.lemmas.Str.{is_utf8-from_IsUtf8}
use Rattle.nj_c.proofs.LoadLemmas.{loads_kept, main-named, not_loaded}
use Rattle.nj_c.proofs.loads.load_main.Goals as goal

pub returns-in_default : goal.returns-in_default
unfolding is_utf8
returns-in_default c =
    let text : is_utf8 c.args.main.now ≡ false = search rules in
    not_loaded c.args.kept.now c.forget_load.new.kept c.args.main.now c.args.joins c.forget_load.ensures.files
    c.forget_load.ensures.nothing c.forget_load.ensures.lists
    c.forget_load.ensures.run text

pub returns : goal.returns
returns c =
    let begun = c.forget_load.ensures.files in let files = c.load-loaded.new.source in let loaded =
    c.load-loaded.result in
    let named = subst (λ m. Loads m (supplied_state c.forget_load.new.kept.files) (supplied_state files)
    loaded)
    c.in-Ok.ensures.cases.0 c.load-loaded.ensures.loads in
    let loads = subst (λ f. Loads c.args.main.now (supplied_state f) (supplied_state files) loaded) begun
    named in
    loads_kept c.args.kept.now c.forget_load.new.kept files c.args.main.now c.args.joins loaded begun
    c.forget_load.ensures.nothing c.forget_load.ensures.lists
    c.forget_load.ensures.run (is_utf8-from_IsUtf8 c.args.main.now c.in-Ok.ensures.cases.1)
    (main-named loaded c.in-Ok.main.now c.args.main.now c.in-Ok.ensures.cases.0 c.load-loaded.ensures.main)
    loads c.finish_load.new.kept c.finish_load.result c.finish_load.ensures
