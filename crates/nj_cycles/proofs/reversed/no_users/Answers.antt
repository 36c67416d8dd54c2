use Rattle.std.proofs.Common.{ℕ, [], ◌∷◌, ◌++◌, ap, ◌∙◌, subst, arith}
use Rattle.std.specs.Global.{Vec}
use Rattle.std.proofs.lemmas.List.{map-append}
use Rattle.nj_cycles.specs.Inside.Users.{HaveUsers, lists_of}
use Rattle.nj_cycles.proofs.UserLemmas.{none_more}
use Rattle.nj_cycles.proofs.reversed.no_users.Goals as goal

pub edges-preserved : goal.edges-preserved
edges-preserved c = none_more c.edges.counter c.edges.users.items c.push.new.self.items c.edges.invariant
    (ap lists_of c.in_ok-push.ensures.items
    ∙ map-append (λ (v : Vec ℕ). v.items) c.edges.users.items (c.new.result ∷ [])
    ∙ ap (λ us. lists_of c.edges.users.items ++ us ∷ []) c.new.ensures.items)

pub returns : goal.returns
returns c = subst (λ n. HaveUsers n (λ e m. ⊥) c.edges.users.items) (omega arith) c.edges.invariant
