-- The machine values of a `Session`. Assumes `Logic`.
use Rattle.std.proofs.Common.{◌≡◌, ℕ, List, [], ◌∷◌, ◌++◌, refl, subst}
use seplogic.Ra.Ura.{Ura}
use mir.Raw.{raw as bare}
use mir.Val.{Val, vstruct, of_list}
use mir.Syntax.{impl, tnil, dnil}
use base.Fml.{fsep, fex}
use base.Fraction.{full_share}
use base.Logic.{ent, guard, via, snd∗, guard_i, id⊢}
use types.Logic.{Logic, sem}
use types.Kit.{Item, Goal, Seq, Step, step, ‵, ◌$◌, move, drop, fsplit, fjoin, fpick, fpack, feq_i, feq_l}
use types.Kit.{use1}
use denote.RattleType.{RattleType, Valss}
use denote.Builtin.{RawPtr}
use denote.Memory.{lone}
use denote.RawPtr.{Ptr, block_ptr, null_ptr, ptr_val, lies_at, Testable}
use contract.Monad.{fact_use}
use denote.Steps.{nothing}
use denote.Param.{layout}
use denote.Struct.Struct.{within}
use Rattle.core.proofs.alloc.Calls.{Al, handle_tells}
use Rattle.core.proofs.cell.Inside.{Good}
use Rattle.std.specs.Global.{Global}
use Rattle.std.specs.declared.option.Option.{Option}
use Rattle.std.specs.declared.option.Option.TheVariants.{None, Some}
use Rattle.std_heap.specs.contracts.Global as Heap
use Rattle.std_heap.specs.contracts.GlobalAllocator.TheImpl.{ghosts}
use Rattle.std_heap.proofs.Global.TheLaws as heap
use Rattle.std.proofs.GlobalToken.{dealloc_token-Testable}
use Rattle.nj_c.specs.Inside.Keeps.{boxed, keeps}
use Rattle.nj_c.specs.contracts.session_state.Kept.{the_row as K}
use Rattle.nj_c.specs.contracts.session.Session as session
use Rattle.nj_c.proofs.MachineValues.{both}

abbrev pub S : RattleType
S = session.the_row

abbrev pub Z : RattleType
Z = Heap.the_row

abbrev al : Al
al = record {
  row = Z;
  laws = heap.the_row_laws;
  g = ghosts;
  d = impl [] tnil dnil;
  drops =
      impl [] tnil dnil;
}

module _ {M : Type 1} {𝓤 : Ura M} {𝓛 : Logic 𝓤} {J : Type 0} {Γ : List (Item 𝓤)} {G : Goal 𝓤 𝓛.H} where
  pub session_in : J → (p : Ptr) (h : Val) (a : Z.Denot) (k : Option K.Denot)
      → Step J 𝓛 (‵ (S.own_val (record { at = p; alloc = a; kept = k }) (both (ptr_val p) h ∷ [])) ∷ Γ) G
      (‵ (keeps a p k) ∷ ‵ (Z.own_val a (h ∷ [])) ∷ Γ) G
  session_in t p h a k = step (λ s. let v : Val = both (ptr_val p) h in
      nothing t $ move t (2 ∷ 0 ∷ []) $ fjoin t $ feq_i t (List Val) (ptr_val p ∷ []) (ptr_val p ∷ []) refl $
      fjoin t $ feq_i t (List Val) (v ∷ []) (v ∷ []) refl $ fjoin t $
      fpack t (Valss (RawPtr ∷ Z ∷ [])) (within
      (record { name = []; args = []; types = []; fields = RawPtr ∷ Z ∷ [] }) (p, (a, tt)) (v ∷ []))
      (ptr_val p ∷ [], (h ∷ [], tt)) $ fjoin t $
      use1 𝓛 (‵ (S.own_val (record { at = p; alloc = a; kept = k }) (v ∷ []))) (id⊢ 𝓤 _) $ s)

  pub session_out : J → (d : S.Denot) (vs : List Val)
      → ((h : Val) → vs ≡ both (ptr_val d.at) h ∷ [] → Good (layout Z) h
      → Seq J 𝓛 (‵ (keeps d.alloc d.at d.kept) ∷ ‵ (Z.own_val d.alloc (h ∷ [])) ∷ Γ) G)
      → Seq J 𝓛 (‵ (S.own_val d vs) ∷ Γ) G
  session_out t d vs k =
      use1 𝓛 (‵ (fsep (fex (Valss (RawPtr ∷ Z ∷ []))
      (within (record { name = []; args = []; types = []; fields = RawPtr ∷ Z ∷ [] })
      (d.at, (d.alloc, tt)) vs)) (keeps d.alloc d.at d.kept))) (id⊢ 𝓤 _) $
      fsplit t $ fpick t (λ vss. fsplit t $ feq_l t
      (λ ev. fsplit t $ feq_l t (λ ep. fsplit t $ handle_tells al t d.alloc vss.1.0
      (λ h ea fits. move t (1 ∷ []) $ drop t $ move t (1 ∷ []) $
      k h (subst (λ (ws : List Val). vs ≡ vstruct (of_list (ptr_val d.at ∷ (ws ++ []))) ∷ []) ea
      (subst (λ (ps : List Val). vs ≡ vstruct (of_list (ps ++ (vss.1.0 ++ []))) ∷ []) ep ev)) fits))))

  pub either : J → (a : Global) (p : Ptr) (k : Option K.Denot) → (p ≡ null_ptr → k ≡ None → Seq J 𝓛 Γ G)
      → ((b o : ℕ) (x : K.Denot) → p ≡ block_ptr b o → k ≡ Some x → Testable (block_ptr b o)
      → Seq J 𝓛 (‵ (boxed a (block_ptr b o) x) ∷ Γ) G)
      → Seq J 𝓛 (‵ (keeps a p k) ∷ Γ) G
  either t a null_ptr k none one = fpick t (λ is. drop t $ none refl is)
  either t a (block_ptr b o) k none one =
      fpick t (λ x. fsplit t $ fpick t (λ e. drop t $ one b o x refl e.0 e.1))

module _ {M : Type 1} {𝓤 : Ura M} (𝓛 : Logic 𝓤) (a : Global) where
  pub tested : (p : Ptr) (x : K.Denot) → ent 𝓤 (sem 𝓛 (boxed a p x))
      (guard 𝓤 (Testable p) (sem 𝓛 (boxed a p x)))
  tested p x = let B = sem 𝓛 (boxed a p x) in
      fact_use 𝓤 (Testable p) (via 𝓤 _ (snd∗ 𝓤 (sem 𝓛 (lies_at K full_share p x))
      (sem 𝓛 (ghosts.dealloc_token a (bare (lone K.mir)) p)))
      (dealloc_token-Testable 𝓛 a (bare (lone K.mir)) p)) (guard_i 𝓤 (Testable p) B)
