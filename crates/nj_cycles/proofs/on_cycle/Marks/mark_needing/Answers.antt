use Rattle.std.proofs.Common.{◌≡◌, ◌<◌, [], ◌∷◌, ◌++◌, length, sym, subst, ap, ◌∙◌, inl, inr, arith}
use Rattle.std.specs.Prelude.{Contains, slice_index_or}
use Rattle.std.proofs.lemmas.List.Elements.{Contains-append_left, Contains-get_or, Contains-push}
use Rattle.std.proofs.lemmas.List.Elements.{Contains-push_cases}
use Rattle.nj_cycles.specs.declared.on_cycle.Marks.{Marks}
use Rattle.nj_cycles.specs.Cycles.{Needs}
use Rattle.nj_cycles.proofs.Marking.{Marking, more_none, more_then, marking_begins, marking_continues}
use Rattle.nj_cycles.proofs.Marking.{marking_ends, no_member}
use Rattle.nj_cycles.proofs.on_cycle.Marks.mark_needing.Goals as goal

pub pending-init : goal.pending-init
pending-init c =
    let e = c.args.edge in
    let begun : c.push.new.self.items ≡ [] ++ e ∷ [] =
    c.in_ok-push.ensures.items ∙ ap (λ xs. xs ++ e ∷ []) c.requires.pending in
    record {
      len = c.requires.len;
      inside = λ x h. elim (Contains-push_cases [] e x (subst (λ xs. Contains xs x) begun h)) [
        | inl none ↦ absurd (no_member x none)
        | inr is ↦ subst (λ y. y < length c.args.users.now) is c.requires.edge_in
      ];
      marking = λ makers edges users h. subst (Marking makers (e ∷ edges) c.args.self.now.flags.items)
          (sym begun) (marking_begins makers edges c.args.self.now.flags.items e h);
    }

pub users_of-requires : goal.users_of-requires
users_of-requires c = c.pending.invariant.inside c.in-Some.next
    (subst (λ xs. Contains xs c.in-Some.next) (sym c.in-Some.ensures.items)
    (Contains-push c.pop.new.self.items c.in-Some.next))

pub mark_all-requires : goal.mark_all-requires
mark_all-requires c = λ k d below. let e = slice_index_or c.users_of.result.now k d in
    let known : e < length c.args.users.now =
    c.requires.known c.in-Some.next e (subst (λ us. Contains us e) c.users_of.ensures
    (Contains-get_or c.users_of.result.now k d below)) in
    omega (arith, known, c.pending.invariant.len)

pub pending-preserved : goal.pending-preserved
pending-preserved c =
    let w = c.in-Some.next in
    let popped = c.in-Some.ensures.items in
    let more = c.in_ok-mark_all.ensures.more in
    let users = c.users_of.ensures in
    record {
      len = omega (
        arith,
        c.mark_all.new.self.flags.ok.0,
        c.pending.self.flags.ok.0,
        more.len,
        c.pending.invariant.len,
      );
      inside = λ x h. elim (more.pending_fresh x h) [
        | inl old ↦ c.pending.invariant.inside x
            (subst (λ xs. Contains xs x) (sym popped)
            (Contains-append_left c.pop.new.self.items (w ∷ []) x old))
        | inr user ↦ c.requires.known w x (subst (λ us. Contains us x) users user)
      ];
      marking = λ makers edges held h.
          let old : Marks = record { flags = c.pending.self.flags; pending = c.pop.new.self } in
          let w_in = c.pending.invariant.inside w
          (subst (λ xs. Contains xs w) (sym popped) (Contains-push c.pop.new.self.items w)) in
          marking_continues makers (c.args.edge ∷ edges) old c.mark_all.new.self c.pending.self.pending.items
          w popped (c.pending.invariant.marking makers edges held h)
          (more_then (λ e. Needs makers e w) (Contains c.users_of.result.now) old old c.mark_all.new.self
          (λ e user. held.sound w e w_in (subst (λ us. Contains us e) users user))
          (more_none (λ e. Needs makers e w) old) more)
          (λ e needs. c.in_ok-mark_all.ensures.marked e
          (subst (λ us. Contains us e) (sym users) (held.all w e w_in needs)));
    }

pub returns-clause-marks : goal.returns-clause-marks
returns-clause-marks c = λ makers edges users h. marking_ends makers (c.args.edge ∷ edges)
    c.pending.self.flags.items c.pending.self.pending.items
    (omega (arith, c.pending.self.pending.ok.0, c.in_default.ensures.cases.0))
    (c.pending.invariant.marking makers edges users h)
