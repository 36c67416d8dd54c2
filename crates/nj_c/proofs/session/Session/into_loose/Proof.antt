-- `into_loose` tests the pointer, and returns the memory that the session owns.
use Rattle.std.proofs.Common.{◌≡◌, List, [], ◌∷◌, ◌++◌, refl, sym, subst, lit<}
use mir.Val.{Val, vptr, vcons, vnil}
use base.Logic.{SProp, ent, emp, id⊢}
use prog.Wp.{WpFn}
use types.Kit.{‵, raw, ◌⊛◌, at_ret, ◌$◌, ◌∵◌, !, qed, by, move, keep, split, fsplit, fjoin, suffices, use0}
use types.Kit.{use1}
use types.Run.{stop, fld, lit, of_opd, bin, no_more, and_then, first, branches, exec, returns, enter}
use types.ByLocal.{alloc_all, pass_all, free_all, look_at, get, get_in, sets, sets_last, env}
use types.Part.{agg, sub, whole}
use types.Match.{live}
use contract.Monad.{fact, fact_i}
use contract.Running.{tables}
use denote.Exit.{yes}
use denote.RattleType.{RattleType, owns}
use denote.Signature.{types_at, type_at, plain}
use denote.RawPtr.{Ptr, block_ptr, null_ptr, ptr_val, tests_null}
use denote.Steps.{nothing}
use denote.Param.{layout}
use denote.Triple.Entry.{alive}
use denote.Triple.Walked.{Stays, stay_dropped, walk_of, Goes-dropped}
use Rattle.core.proofs.alloc.Shapes.{after}
use Rattle.core.proofs.atomic.Steps.{Ptr-Good}
use Rattle.core.proofs.cell.Inside.{Good}
use Rattle.core.proofs.option.Made.{Some-of, none_of}
use Rattle.std.specs.declared.option.Option.TheVariants.{None, Some}
use Rattle.std_alloc.proofs.ResultValues.{and_tt}
use Rattle.std_heap.specs.contracts.GlobalAllocator.TheImpl.{ghosts}
use Rattle.std_heap.proofs.Global.TheLaws as heap
use Rattle.std.proofs.raw_atomic.Walks.{proved_at, leaves}
use Rattle.nj_c.specs.contracts.session_state.Kept.{the_row as K}
use Rattle.nj_c.proofs.MachineValues.{both, Loose, loose_good, loose_in}
use Rattle.nj_c.proofs.SessionValues.{S, Z, session_out, either}
use Rattle.nj_c.specs.contracts.session.Session.into_loose.{ended, clauses}
use Rattle.nj_c.specs.contracts.session.Session.into_loose.Key.{name as #self}
use Rattle.nj_c.proofs.session.Session.into_loose.Statement.{statement}
use Rattle.nj_c.proofs.session.Session.into_loose.Code as code

pub into_loose_spec : {M : Type 1} → statement M
into_loose_spec 𝓤 𝓛 𝓜 𝓡 wired =
    let H = 𝓛.H in let 𝓣 = tables 𝓤 H 𝓜 𝓡 𝓡.env in let c = clauses 𝓛 𝓜.mem 𝓡.returns in
    let LZ = heap.the_row_laws in let fn = code.function in let Lr : RattleType = Loose K Z LZ ghosts in
    let hs : Stays (ended).signature.params (ended).kept = (stay_dropped (plain (λ _. S)) yes, tt) in
    proved_at 𝓛 ended hs c 𝓜 𝓡 (Goes-dropped 𝓛 0 (plain (λ _. S)) yes (λ κs x f. refl), tt) #self fn
    (code.unfolded 𝓤 H 𝓜 𝓡 wired) (λ z are.
    let κs = z.0.0 in let qs = z.0.1 in let d = z.0.3.0 in let a = d.alloc in let Post : Val → SProp 𝓤 =
    (walk_of 𝓛 ended hs c).post z in let Run : List Val → SProp 𝓤 = λ ws. WpFn 𝓤 H 𝓣.C 𝓣.Λ fn ws Post in
    let Out : RattleType = type_at (ended).signature.result κs in
    qed 𝓛 ((raw (alive 𝓛 (ended).signature κs qs) ⊛ ‵
    (owns (types_at (ended).signature.params κs) z.0.3 z.0.4)) ∷ raw (emp 𝓤) ∷ []) ∵
    split ! $ move ! (1 ∷ []) $ fsplit ! $ session_out ! d z.0.4.0 (λ h ws gh.
    let Runs : Val → SProp 𝓤 = λ w. Run (w ∷ []) in
    let enters : (w : Val) → z.0.4.0 ≡ w ∷ [] → ent 𝓤 (Runs w) (Run (z.0.4.0 ++ [])) =
    λ w e. subst (λ (us : List Val). ent 𝓤 (Runs w) (Run us)) (sym (λ i. e i ++ [])) (id⊢ 𝓤 (Runs w)) in
    either ! a d.at d.kept
    (λ is kept. let w : Val = both (ptr_val null_ptr) h in let gp = Ptr-Good null_ptr in
    suffices ! (Runs w) (enters w (subst (λ (p : Ptr). z.0.4.0 ≡ both (ptr_val p) h ∷ []) is ws)) $
    enter ! 𝓣.C 𝓣.Λ fn (w ∷ []) Post $ alloc_all !
    (λ l. pass_all ! refl ((and_tt _ gh.0, (gp.1, (gh.1, tt))), tt) $ let Ev = env fn.locals l in
    sets ! (of_opd ! (get_in ! (fld ! refl (stop !)) (sub ! 0 refl (whole !)))) refl gp $ sets !
    (of_opd ! (get_in ! (fld ! refl (stop !)) (sub ! 1 refl (whole !)))) refl gh $
    sets ! (bin ! (get ! refl) (lit ! tt) tt) refl (tt, tt) $ first ! $ branches ! (get ! refl)
    (λ _. sets_last ! (agg ! (and_then ! (lit ! tt) (no_more !))) refl (tt, (record { fits = lit< tt }, tt)) $
    exec ! 𝓣.C 𝓣.Λ Ev (after 4 fn.body) (at_ret Ev Post) $ sets ! (of_opd ! (get ! refl)) refl
    (tt, (record { fits = lit< tt }, tt)) $
    use0 𝓛 (‵ (Out.own_val None (live 0 vnil ∷ []))) (none_of 𝓛 Lr) $ use0 𝓛 (raw (fact 𝓤 (None ≡ d.kept)))
    (fact_i 𝓤 (None ≡ d.kept) (emp 𝓤) (sym kept)) $ nothing ! $ nothing ! $ fjoin ! $
    returns ! (look_at ! 0 refl) $ free_all ! refl $ keep ! (5 ∷ 0 ∷ 2 ∷ 1 ∷ []) $ by !
    (leaves 𝓛 ended hs c z (live 0 vnil) None (tt, tt) (tt, tt))) (λ wrong. absurd wrong)))
    (λ b o x is kept t. let w : Val = both (vptr b o) h in let typed = loose_good K Z LZ ghosts b o h gh in
    let v₁ : Val = live 1 (vcons w vnil) in let r : Lr.Denot =
    record { at = block_ptr b o; alloc = a; value = x } in
    let good : Good (layout Out) v₁ = (and_tt _ typed.0, (record { fits = lit< tt }, (typed.1, tt))) in
    suffices ! (Runs w) (enters w (subst (λ (p : Ptr). z.0.4.0 ≡ both (ptr_val p) h ∷ []) is ws)) $
    enter ! 𝓣.C 𝓣.Λ fn (w ∷ []) Post $ alloc_all !
    (λ l. pass_all ! refl (typed, tt) $ let Ev = env fn.locals l in
    sets ! (of_opd ! (get_in ! (fld ! refl (stop !)) (sub ! 0 refl (whole !)))) refl (tt, tt) $ sets !
    (of_opd ! (get_in ! (fld ! refl (stop !)) (sub ! 1 refl (whole !)))) refl gh $
    sets ! (bin ! (get ! refl) (lit ! tt) (tests_null (block_ptr b o) t)) refl (tt, tt) $ first ! $ branches !
    (get ! refl) (λ wrong. absurd wrong) (λ _.
    sets ! (of_opd ! (get ! refl)) refl (tt, tt) $
    sets ! (agg ! (and_then ! (get ! refl) (and_then ! (get ! refl) (no_more !)))) refl typed $ sets_last !
    (agg ! (and_then ! (lit ! tt) (and_then ! (get ! refl) (no_more !)))) refl good $
    exec ! 𝓣.C 𝓣.Λ Ev (after 4 fn.body) (at_ret Ev Post) $ sets ! (of_opd ! (get ! refl)) refl good $ loose_in
    K Z LZ ghosts ! b o h a x $
    use1 𝓛 (‵ (Out.own_val (Some r) (v₁ ∷ []))) (Some-of 𝓛 Lr r w) $ use0 𝓛 (raw (fact 𝓤 (Some x ≡ d.kept)))
    (fact_i 𝓤 (Some x ≡ d.kept) (emp 𝓤) (sym kept)) $ nothing ! $ nothing ! $ fjoin ! $
    returns ! (look_at ! 0 refl) $ free_all ! refl $ keep ! (4 ∷ 0 ∷ 2 ∷ 1 ∷ []) $ by !
    (leaves 𝓛 ended hs c z v₁ (Some r) (tt, tt) (tt, tt)))))))
