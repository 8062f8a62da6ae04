-- A handle by value, and what it owns. Assumes `Logic`.
use Rattle.std.proofs.Common.{◌≡◌, ℕ, List, [], ◌∷◌, ◌++◌, refl, subst}
use seplogic.Ra.Ura.{Ura}
use mir.Raw.{raw as bare}
use mir.Val.{Val, vstruct, vcons, vnil, of_list}
use base.Fml.{fsep, ftrue}
use Rattle.std.specs.declared.option.Option.{Option}
use Rattle.std.specs.declared.option.Option.TheVariants.{None, Some}
use base.Logic.{never_e, ent, id⊢, guard, guard_i, via, snd∗}
use base.Fraction.{full_share}
use contract.Monad.{fact_use}
use types.Logic.{Logic, sem}
use types.Kit.{Item, Goal, Seq, Step, step, ‵, given, ◌$◌, move, drop, use1, learn, fsplit, fjoin, fpick, fpack, feq_i, feq_l}
use denote.RattleType.{RattleType, Valss}
use denote.Builtin.{RawPtr}
use denote.Memory.{lone}
use denote.RawPtr.{Ptr, block_ptr, null_ptr, ptr_val, lies_at, Testable}
use denote.Steps.{nothing}
use denote.Struct.Struct.{Struct, within}
use Rattle.core.proofs.alloc.Calls.{handle_tells, Fits}
use Rattle.std.specs.Box.Ownership.{box_owns}
use Rattle.std_heap.specs.contracts.Global as Heap
use Rattle.std_heap.specs.declared.Global.{Global}
use Rattle.std_heap.specs.contracts.GlobalAllocator.TheImpl.{ghosts}
use Rattle.std_heap.proofs.GlobalToken.{dealloc_token-Testable}
use Rattle.jc_c.specs.contracts.ffi_manager.FfiManager as FfiManager
use Rattle.jc_c.specs.Slot.{slot_owns}
use Rattle.jc_c.specs.contracts.exports.handle.Handle as Handle
use Rattle.jc_c.proofs.AsBox.{E}

abbrev pub both : Val → Val → Val
both v w = vstruct (vcons v (vcons w vnil))

-- the two fields by value
abbrev pub Two : RattleType
Two = Struct (record { name = []; args = []; types = []; fields = RawPtr ∷ Heap.the_row ∷ [] })

abbrev pub boxed : Global → Ptr → FfiManager.the_row.Denot → base.Fml.Fml
boxed a = box_owns (ghosts.dealloc_token a) FfiManager.the_row

module _ {M : Type 1} {𝓤 : Ura M} (𝓛 : Logic 𝓤) (a : Global) where
  tested : (p : Ptr) (x : FfiManager.the_row.Denot) → ent 𝓤 (sem 𝓛 (boxed a p x)) (guard 𝓤 (Testable p) (sem 𝓛 (boxed a p x)))
  tested p x = fact_use 𝓤 (Testable p)
      (via 𝓤 _ (snd∗ 𝓤 (sem 𝓛 (lies_at FfiManager.the_row full_share p x)) (sem 𝓛 (ghosts.dealloc_token a (bare (lone FfiManager.the_row.mir)) p))) (dealloc_token-Testable 𝓛 a (bare (lone FfiManager.the_row.mir)) p))
      (guard_i 𝓤 (Testable p) (sem 𝓛 (boxed a p x)))

module _ {M : Type 1} {𝓤 : Ura M} {𝓛 : Logic 𝓤} {K : Type 0} {Γ : List (Item 𝓤)} {G : Goal 𝓤 𝓛.H} where
  pub handle_out : K → (d : Handle.the_row.Denot) (vs : List Val)
      → ((h : Val) → vs ≡ both (ptr_val d.at) h ∷ [] → Fits E.al h → Seq K 𝓛 (‵ (slot_owns d.alloc d.at d.held) ∷ ‵ (Heap.the_row.own_val d.alloc (h ∷ [])) ∷ Γ) G)
      → Seq K 𝓛 (‵ (Handle.the_row.own_val d vs) ∷ Γ) G
  handle_out t d vs k =
      use1 𝓛 (‵ (fsep (Two.own_val (d.at, (d.alloc, tt)) vs) (slot_owns d.alloc d.at d.held))) (id⊢ 𝓤 _) $
      fsplit t $ fpick t (λ vss. fsplit t $ feq_l t (λ ev. fsplit t $ feq_l t (λ ep. fsplit t $ handle_tells E.al t d.alloc vss.1.0 (λ h ea fits. move t (1 ∷ []) $ drop t $ move t (1 ∷ []) $
      k h (subst (λ (ws : List Val). vs ≡ vstruct (of_list (ptr_val d.at ∷ (ws ++ []))) ∷ []) ea (subst (λ (ps : List Val). vs ≡ vstruct (of_list (ps ++ (vss.1.0 ++ []))) ∷ []) ep ev)) fits))))

  pub handle_in : K → (p : Ptr) (h : Val) (a : Global) (y : Option FfiManager.the_row.Denot)
      → Step K 𝓛 (‵ (Handle.the_row.own_val (record { at = p; alloc = a; held = y }) (both (ptr_val p) h ∷ [])) ∷ Γ) G (‵ (slot_owns a p y) ∷ ‵ (Heap.the_row.own_val a (h ∷ [])) ∷ Γ) G
  handle_in t p h a y = step (λ s. let v : Val = both (ptr_val p) h in
      nothing t $ move t (2 ∷ 0 ∷ []) $ fjoin t $ feq_i t (List Val) (ptr_val p ∷ []) (ptr_val p ∷ []) refl $ fjoin t $ feq_i t (List Val) (v ∷ []) (v ∷ []) refl $ fjoin t $
      fpack t (Valss (RawPtr ∷ Heap.the_row ∷ [])) (within (record { name = []; args = []; types = []; fields = RawPtr ∷ Heap.the_row ∷ [] }) (p, (a, tt)) (v ∷ [])) (ptr_val p ∷ [], (h ∷ [], tt)) $ fjoin t $
      use1 𝓛 (‵ (Handle.the_row.own_val (record { at = p; alloc = a; held = y }) (v ∷ []))) (id⊢ 𝓤 _) $ s)

  pub either_slot : K → (a : Global) (p : Ptr) (y : Option FfiManager.the_row.Denot) → (p ≡ null_ptr → y ≡ None → Seq K 𝓛 Γ G)
      → ((b o : ℕ) (x : FfiManager.the_row.Denot) → p ≡ block_ptr b o → y ≡ Some x → Testable (block_ptr b o) → Seq K 𝓛 (‵ (boxed a (block_ptr b o) x) ∷ Γ) G)
      → Seq K 𝓛 (‵ (slot_owns a p y) ∷ Γ) G
  either_slot t a null_ptr None none one = drop t $ none refl refl
  either_slot t a null_ptr (Some x) none one = use1 𝓛 (given ⊥ (‵ ftrue)) (never_e 𝓤 _) $ learn t (λ e. absurd e)
  either_slot t a (block_ptr b o) None none one = use1 𝓛 (given ⊥ (‵ ftrue)) (never_e 𝓤 _) $ learn t (λ e. absurd e)
  either_slot t a (block_ptr b o) (Some x) none one = use1 𝓛 (given (Testable (block_ptr b o)) (‵ (boxed a (block_ptr b o) x))) (tested 𝓛 a (block_ptr b o) x) $ learn t (λ e. one b o x refl refl e)
