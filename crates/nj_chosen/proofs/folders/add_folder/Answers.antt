use Rattle.std.proofs.lemmas.Grind.{common_steps}
use Rattle.std.proofs.Common.{◌≡◌, [], ◌∷◌, cond, take, sym, subst, arith, eq-eqb}
use Rattle.std.specs.Prelude.{slice_index}
use Rattle.nj_names.specs.NameTables.{with_name}
use Rattle.nj_changes.specs.Tables.{HasMore}
use Rattle.nj_chosen.proofs.NameLemmas.{more-named}
use Rattle.nj_chosen.proofs.folders.add_folder.Goals as goal

pub returns : goal.returns
returns c =
    let path = c.args.path.now in
    let index = c.args.index in
    let old = c.args.folders.now in
    let is : slice_index path index ≡ 47 = omega arith in
    let same : c.add.new.self ≡ with_name old (take index path) =
    grind (arith, common_steps, c.in_ok-add.ensures.added) in
    subst (λ b. HasMore old (cond b (take index path ∷ []) []) c.add.new.self)
    (sym (eq-eqb (slice_index path index) 47 is)) (more-named old c.add.new.self (take index path) same)
