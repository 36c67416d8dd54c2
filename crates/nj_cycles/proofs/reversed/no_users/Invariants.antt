use Rattle.nj_cycles.specs.Inside.Users.{HaveUsers}
use Rattle.nj_cycles.proofs.reversed.no_users.Given as goal

abbrev pub invariant-edges : goal.invariant-edges
invariant-edges l = HaveUsers l.counter (λ e m. ⊥) l.users.items
