use Rattle.std.proofs.Common.{◌≡◌, ℕ, [], ◌∷◌, ◌++◌, length, ◌<◌, sym, ap, subst, ◌∙◌}
use Rattle.std.specs.Prelude.{IfSome, slice_set}
use Rattle.std.specs.Global.{Vec}
use Rattle.std.proofs.lemmas.List.{map-set}
use Rattle.nj_cycles.specs.Inside.Users.{lists_of, users_of, with_user}
use Rattle.nj_cycles.proofs.UserLemmas.{items_at}
use Rattle.nj_cycles.proofs.reversed.add_user.Goals as goal

pub returns-in_ok-push : goal.returns-in_ok-push
returns-in_ok-push c =
    let old = c.args.users.now.items in
    let e = c.in-Some.edge in
    let list : c.index_mut.result.now.items ≡ users_of old e =
    items_at old e c.index_mut.result.now
    (subst (λ m. IfSome m (λ x. x < length old)) c.in-Some.is c.requires) c.index_mut.ensures.value in
    map-set (λ (v : Vec ℕ). v.items) old e c.push.new.self
    ∙ ap (slice_set (lists_of old) e) (c.in_ok-push.ensures.items ∙ ap (λ us. us ++ c.args.user ∷ []) list)
    ∙ ap (λ m. with_user (lists_of old) m c.args.user) (sym c.in-Some.is)
