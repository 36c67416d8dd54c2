-- `holding` takes the two parts, and owns the memory that they owned.
use Rattle.std.proofs.Common.{◌≡◌, List, [], ◌∷◌, ◌++◌, refl, sym, subst}
use mir.Val.{Val, vptr}
use base.Logic.{SProp, ent, emp, id⊢}
use base.Fml.{ftrue, fsep}
use prog.Wp.{WpFn}
use types.Kit.{‵, raw, ◌⊛◌, ◌$◌, ◌∵◌, !, qed, by, given, learn, move, keep, split, fsplit, fjoin, fpack}
use types.Kit.{suffices, use0, use1}
use types.Run.{stop, fld, of_opd, no_more, and_then, returns, enter}
use types.ByLocal.{alloc_all, pass_all, free_all, look_at, get, get_in, sets}
use types.Part.{agg, sub, whole}
use contract.Monad.{fact, fact_i}
use contract.Running.{tables}
use denote.Exit.{yes}
use denote.RattleType.{RattleType, owns}
use denote.Signature.{types_at, plain}
use denote.RawPtr.{block_ptr, Testable}
use denote.Steps.{nothing}
use denote.Triple.Entry.{alive}
use denote.Triple.Walked.{Stays, stay_dropped, walk_of, Goes-dropped}
use Rattle.std.specs.declared.option.Option.{Option}
use Rattle.std.specs.declared.option.Option.TheVariants.{Some}
use Rattle.std_heap.specs.contracts.GlobalAllocator.TheImpl.{ghosts}
use Rattle.std_heap.proofs.Global.TheLaws as heap
use Rattle.std.proofs.raw_atomic.Walks.{proved_at, leaves}
use Rattle.nj_c.specs.Inside.Keeps.{boxed, pure}
use Rattle.nj_c.specs.contracts.session_state.Kept.{the_row as K}
use Rattle.nj_c.proofs.MachineValues.{both, Loose, loose_good, loose_out}
use Rattle.nj_c.proofs.SessionValues.{Z, session_in, tested}
use Rattle.nj_c.specs.contracts.session.Session.holding.{ended, clauses}
use Rattle.nj_c.specs.contracts.session.Session.holding.Key.{name as #self}
use Rattle.nj_c.proofs.session.Session.holding.Statement.{statement}
use Rattle.nj_c.proofs.session.Session.holding.Code as code

pub holding_spec : {M : Type 1} → statement M
holding_spec 𝓤 𝓛 𝓜 𝓡 wired =
    let H = 𝓛.H in let 𝓣 = tables 𝓤 H 𝓜 𝓡 𝓡.env in let c = clauses 𝓛 𝓜.mem 𝓡.returns in
    let LZ = heap.the_row_laws in let fn = code.function in let Lr : RattleType = Loose K Z LZ ghosts in
    let hs : Stays (ended).signature.params (ended).kept = (stay_dropped (plain (λ _. Lr)) yes, tt) in
    proved_at 𝓛 ended hs c 𝓜 𝓡 (Goes-dropped 𝓛 0 (plain (λ _. Lr)) yes (λ κs x f. refl), tt) #self fn
    (code.unfolded 𝓤 H 𝓜 𝓡 wired) (λ z are.
    let κs = z.0.0 in let qs = z.0.1 in let v = z.0.3.0 in let a = v.alloc in let k : Option K.Denot =
    Some v.value in let Post : Val → SProp 𝓤 = (walk_of 𝓛 ended hs c).post z in let Run : List Val
    → SProp 𝓤 = λ ws. WpFn 𝓤 H 𝓣.C 𝓣.Λ fn ws Post in
    qed 𝓛 ((raw (alive 𝓛 (ended).signature κs qs) ⊛ ‵
    (owns (types_at (ended).signature.params κs) z.0.3 z.0.4)) ∷ raw (emp 𝓤) ∷ []) ∵
    split ! $ move ! (1 ∷ []) $ fsplit ! $ loose_out K Z LZ ghosts ! v z.0.4.0 (λ b o h e ws fits.
    let w : Val = both (vptr b o) h in let typed = loose_good K Z LZ ghosts b o h fits in
    use1 𝓛 (given (Testable (block_ptr b o)) (‵ (boxed a (block_ptr b o) v.value)))
    (tested 𝓛 a (block_ptr b o) v.value) $ learn ! (λ t.
    suffices ! (Run (w ∷ [])) (subst (λ (us : List Val). ent 𝓤 (Run (w ∷ [])) (Run us))
    (sym (λ i. ws i ++ [])) (id⊢ 𝓤 (Run (w ∷ [])))) $
    enter ! 𝓣.C 𝓣.Λ fn (w ∷ []) Post $ alloc_all ! (λ l. pass_all ! refl (typed, tt) $
    sets ! (of_opd ! (get_in ! (fld ! refl (stop !)) (sub ! 0 refl (whole !)))) refl (tt, tt) $ sets !
    (of_opd ! (get_in ! (fld ! refl (stop !)) (sub ! 1 refl (whole !)))) refl fits $
    sets ! (of_opd ! (get ! refl)) refl (tt, tt) $ sets !
    (agg ! (and_then ! (get ! refl) (and_then ! (get ! refl) (no_more !)))) refl typed $
    nothing ! $ fpack ! ((k ≡ Some v.value) × Testable (block_ptr b o)) (λ _. ftrue) (refl, t) $ fjoin ! $
    fpack ! K.Denot (λ (x : K.Denot). fsep (pure ((k ≡ Some x) × Testable (block_ptr b o)))
    (boxed a (block_ptr b o) x)) v.value $ session_in ! (block_ptr b o) h a k $
    use0 𝓛 (raw (fact 𝓤 (k ≡ Some v.value))) (fact_i 𝓤 (k ≡ Some v.value) (emp 𝓤) refl) $ nothing ! $ nothing
    ! $ fjoin ! $
    returns ! (look_at ! 0 refl) $ free_all ! refl $ keep ! (4 ∷ 0 ∷ 2 ∷ 1 ∷ []) $ by !
    (leaves 𝓛 ended hs c z w (record { at = block_ptr b o; alloc = a; kept = k }) (tt, tt) (tt, tt))))))
