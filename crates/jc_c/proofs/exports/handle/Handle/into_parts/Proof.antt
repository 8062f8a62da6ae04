-- `into_parts` reads the pointer: at null nothing is owned, and else the box is.
use mathlib.Core.Path.{◌≡◌}
use denote.Triple.Walked.{says}
use mathlib.Core.Path.{refl, sym, subst}
use mathlib.Core.List.{List, [], ◌∷◌, ◌++◌}
use seplogic.Ra.Ura.{Ura}
use mir.Val.{Val}
use base.Logic.{SProp, ent, emp, id⊢}
use base.Fml.{ftrue, fsep}
use prog.Memory.{Memory}
use prog.Routine.{Routine}
use prog.Wp.{WpFn, Tables}
use types.Logic.{Logic}
use contract.Monad.{Fun}
use contract.Running.{tables, tables_of}
use sound.WpLaws.{WpFn-mono}
use types.Kit.{Item, ‵, raw, ◌⊛◌, ◌$◌, ◌∵◌, !, qed, by, move, drop, use0, use1, at_ret, join, split, fsplit, fjoin, fpack, suffices, done}
use types.Part.{whole, sub, agg}
use types.Run.{stop, fld, lit, bin, no_more, and_then, of_opd, first, branches, exec, returns, enter}
use types.ByLocal.{alloc_all, pass_all, free_all, look_at, get, get_in, sets, sets_last, env}
use denote.Exit.{yes}
use denote.Signature.{type_at}
use denote.RawPtr.{Ptr, block_ptr, null_ptr, ptr_val, tests_null, Testable}
use denote.Steps.{nothing}
use denote.Triple.Spec.{triple_of}
use denote.Triple.Table.{entered}
use denote.Triple.Walked.{Stays, stay_dropped, walk_of, ends_at, Goes-dropped, walk_Meets}
use Rattle.std_alloc.proofs.BoxSteps.Form.{D, word, box_typed}
use Rattle.std_alloc.proofs.BoxSteps.Steps.{box_in}
use Rattle.jc_c.proofs.AsBox.{E, Taken, FromHandle as From}
use Rattle.jc_c.proofs.Slots.{both, boxed, handle_out, either_slot}
use Rattle.core.proofs.alloc.Shapes.{after}
use Rattle.core.proofs.alloc.Calls.{Fits}
use Rattle.core.proofs.cell.Inside.{Good}
use Rattle.core.proofs.option.Made.{Some-of, none_of}
use Rattle.std.specs.declared.option.Option.TheVariants.{None, Some}
use Rattle.std_alloc.proofs.ResultValues.{and_tt}
use Rattle.std_heap.specs.contracts.Global as Heap
use lib.Dec.{lit<}
use Prim.Native.Nat.{ℕ}
use mir.Val.{vptr, vcons, vnil}
use types.Match.{live}
use denote.RattleType.{RattleType}
use denote.Param.{layout}
use Rattle.jc_c.specs.contracts.exports.handle.Handle.into_parts as F
use Rattle.jc_c.specs.contracts.exports.handle.Handle.into_parts.Key.{name as #self}
use Rattle.jc_c.proofs.exports.handle.Handle.into_parts.Statement as stated
use Rattle.jc_c.proofs.exports.handle.Handle.into_parts.Code as code
use Rattle.jc_c.specs.contracts.ffi_manager.FfiManager as FfiManager
use Rattle.jc_c.specs.contracts.exports.handle.Handle as Handle

abbrev stayed : Stays (F.ended).signature.params (F.ended).kept
stayed = (stay_dropped From yes, tt)

module _ {M : Type 1} {𝓤 : Ura M} (𝓛 : Logic 𝓤) (at_mem : Memory → SProp 𝓤) (run : Routine → Fun 𝓤) (𝓣 : Tables 𝓤 𝓛.H) where
  open 𝓛 use {H}

  abbrev Out : RattleType
  Out = type_at (F.signature).result tt

  abbrev Z₀ : Type 0
  Z₀ = (walk_of 𝓛 F.ended stayed (F.clauses 𝓛 at_mem run)).Ghost

  abbrev Post : Z₀ → Val → SProp 𝓤
  Post z = (walk_of 𝓛 F.ended stayed (F.clauses 𝓛 at_mem run)).post z

  at_null : (z : Z₀) (hv : Val) → Fits E.al hv → z.0.3.0.held ≡ None → ent 𝓤 (types.Kit.⋆ 𝓛 (‵ (Heap.the_row.own_val z.0.3.0.alloc (hv ∷ [])) ∷ [])) (WpFn 𝓤 H 𝓣.C 𝓣.Λ code.function (both (ptr_val null_ptr) hv ∷ []) (Post z))
  at_null z hv fa en =
      let w = both (ptr_val null_ptr) hv in
      qed 𝓛 (‵ (Heap.the_row.own_val z.0.3.0.alloc (hv ∷ [])) ∷ []) ∵ drop ! $ enter ! 𝓣.C 𝓣.Λ code.function (w ∷ []) _ $ alloc_all ! (λ ls. pass_all ! refl ((and_tt _ fa.0, (record { fits = lit< tt }, (fa.1, tt))), tt) $
      sets ! (of_opd ! (get_in ! (fld ! refl (stop !)) (sub ! 0 refl (whole !)))) refl (tt, record { fits = lit< tt }) $ sets ! (of_opd ! (get_in ! (fld ! refl (stop !)) (sub ! 1 refl (whole !)))) refl fa $
      sets ! (bin ! (get ! refl) (lit ! tt) tt) refl (tt, tt) $ first ! $ branches ! (get ! refl)
      (λ _. sets_last ! (agg ! (and_then ! (lit ! tt) (no_more !))) refl (tt, (record { fits = lit< tt }, tt)) $ exec ! 𝓣.C 𝓣.Λ (env code.function.locals ls) (after 4 code.function.body) (at_ret (env code.function.locals ls) (Post z)) $
      sets ! (of_opd ! (get ! refl)) refl (tt, (record { fits = lit< tt }, tt)) $ returns ! (look_at ! 0 refl) $ free_all ! refl $
      use0 𝓛 (‵ (Out.own_val None (live 0 vnil ∷ []))) (none_of 𝓛 Taken) $
      suffices ! _ (ends_at 𝓛 F.ended stayed (F.clauses 𝓛 at_mem run) z (live 0 vnil) None (tt, tt) (tt, tt)) $
      says ! en $ nothing ! $ nothing ! $ fjoin ! $ join ! $ nothing ! $ join ! $ done !)
      (λ wrong. absurd wrong))

  at_block : (z : Z₀) (hv : Val) → Fits E.al hv → (b o : ℕ) (x : FfiManager.the_row.Denot) → Testable (block_ptr b o) → z.0.3.0.held ≡ Some x
      → ent 𝓤 (types.Kit.⋆ 𝓛 (‵ (boxed z.0.3.0.alloc (block_ptr b o) x) ∷ ‵ (Heap.the_row.own_val z.0.3.0.alloc (hv ∷ [])) ∷ [])) (WpFn 𝓤 H 𝓣.C 𝓣.Λ code.function (both (vptr b o) hv ∷ []) (Post z))
  at_block z hv fa b o x t es =
      let a = z.0.3.0.alloc in
      let w = word E hv b o in
      let v : D E = record { ptr = block_ptr b o; alloc = a; value = x } in
      let made : Taken.Denot = record { ptr = block_ptr b o; alloc = a; value = x } in
      let typed = box_typed E hv b o fa in
      let u : Val = live 1 (vcons w vnil) in
      let good : Good (layout Out) u = (and_tt _ typed.0, (record { fits = lit< tt }, (typed.1, tt))) in
      qed 𝓛 (‵ (boxed a (block_ptr b o) x) ∷ ‵ (Heap.the_row.own_val a (hv ∷ [])) ∷ []) ∵ fsplit ! $ box_in E ! v b o x refl refl $ use1 𝓛 (‵ (Taken.own_val made (w ∷ []))) (id⊢ 𝓤 _) $
      enter ! 𝓣.C 𝓣.Λ code.function (w ∷ []) _ $ alloc_all ! (λ ls. pass_all ! refl (typed, tt) $
      sets ! (of_opd ! (get_in ! (fld ! refl (stop !)) (sub ! 0 refl (whole !)))) refl (tt, tt) $ sets ! (of_opd ! (get_in ! (fld ! refl (stop !)) (sub ! 1 refl (whole !)))) refl fa $
      sets ! (bin ! (get ! refl) (lit ! tt) (tests_null (block_ptr b o) t)) refl (tt, tt) $ first ! $ branches ! (get ! refl) (λ wrong. absurd wrong)
      (λ _. sets ! (of_opd ! (get ! refl)) refl (tt, tt) $ sets ! (agg ! (and_then ! (get ! refl) (and_then ! (get ! refl) (no_more !)))) refl typed $
      sets_last ! (agg ! (and_then ! (lit ! tt) (and_then ! (get ! refl) (no_more !)))) refl good $ exec ! 𝓣.C 𝓣.Λ (env code.function.locals ls) (after 4 code.function.body) (at_ret (env code.function.locals ls) (Post z)) $
      sets ! (of_opd ! (get ! refl)) refl good $ returns ! (look_at ! 0 refl) $ free_all ! refl $
      use1 𝓛 (‵ (Out.own_val (Some made) (u ∷ []))) (Some-of 𝓛 Taken made w) $
      suffices ! _ (ends_at 𝓛 F.ended stayed (F.clauses 𝓛 at_mem run) z u (Some made) (tt, tt) (tt, tt)) $
      says ! es $ nothing ! $ nothing ! $ fjoin ! $ join ! $ nothing ! $ join ! $ done !))

  walk : (z : (walk_of 𝓛 F.ended stayed (F.clauses 𝓛 at_mem run)).Ghost)
      → ent 𝓤 ((walk_of 𝓛 F.ended stayed (F.clauses 𝓛 at_mem run)).pre z) (WpFn 𝓤 H 𝓣.C 𝓣.Λ code.function (z.0.4.0 ++ []) ((walk_of 𝓛 F.ended stayed (F.clauses 𝓛 at_mem run)).post z))
  walk z =
      let d = z.0.3.0 in
      let Run : List Val → SProp 𝓤 = λ us. WpFn 𝓤 H 𝓣.C 𝓣.Λ code.function (us ++ []) (Post z) in
      qed 𝓛 ((‵ ftrue ⊛ ‵ (fsep (Handle.the_row.own_val d z.0.4.0) ftrue)) ∷ raw (emp 𝓤) ∷ []) ∵ split ! $ drop ! $ fsplit ! $
      handle_out ! d z.0.4.0 (λ hv ws fa. suffices ! (Run (both (ptr_val d.at) hv ∷ [])) (subst (λ (us : List Val). ent 𝓤 (Run (both (ptr_val d.at) hv ∷ [])) (Run us)) (sym ws) (id⊢ 𝓤 _)) $
      move ! (2 ∷ 3 ∷ []) $ drop ! $ drop ! $
      either_slot ! d.alloc d.at d.held
      (λ e en. by ! (subst (λ (p : Ptr). ent 𝓤 (types.Kit.⋆ 𝓛 (‵ (Heap.the_row.own_val d.alloc (hv ∷ [])) ∷ [])) (Run (both (ptr_val p) hv ∷ []))) (sym e) (at_null z hv fa en)))
      (λ b o x e es t. by ! (subst (λ (p : Ptr). ent 𝓤 (types.Kit.⋆ 𝓛 (‵ (boxed d.alloc (block_ptr b o) x) ∷ ‵ (Heap.the_row.own_val d.alloc (hv ∷ [])) ∷ [])) (Run (both (ptr_val p) hv ∷ []))) (sym e) (at_block z hv fa b o x t es))))

pub into_parts_spec : {M : Type 1} → stated.statement M
unfolding tables_of
into_parts_spec 𝓤 𝓛 𝓜 𝓡 wired =
    let 𝓣 : Tables 𝓤 𝓛.H = tables_of 𝓤 𝓛.H 𝓜 (tables 𝓤 𝓛.H 𝓜 𝓡 𝓡.env) in
    entered 𝓤 𝓛.H (triple_of 𝓛 F.signature (F.spec 𝓛 𝓜.mem 𝓡.returns)) 𝓣.C 𝓣.Λ #self code.function (code.unfolded 𝓤 𝓛.H 𝓜 𝓡 wired)
    (walk_Meets 𝓛 F.ended stayed (Goes-dropped 𝓛 0 From yes (λ κs x f. refl), tt) (F.clauses 𝓛 𝓜.mem 𝓡.returns) (WpFn 𝓤 𝓛.H 𝓣.C 𝓣.Λ code.function) (WpFn-mono 𝓤 𝓛.H 𝓛.laws 𝓣 code.function)
    (walk 𝓛 𝓜.mem 𝓡.returns 𝓣))
