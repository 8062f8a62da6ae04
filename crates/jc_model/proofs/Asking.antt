-- A whole call asks the loader for its keys alone, and its own processor alone: the law over its steps.
use Rattle.std.proofs.lemmas.Grind.{common_steps}
use Rattle.jc_model.proofs.Names.{Bool, List, None, Option, Some, arith, if◌then◌else◌, refl, true, ℕ, ◌≡◌, All-contains_itself, All-map, All-weaker, All, Contains, Call, GetAll, InvokeAll}
use Rattle.jc_model.proofs.Names.{LoadAll, PutAll, RemoveAll, RemoveKeys, KeyCall, Op, Request, CacheConfig, same_op, Progress, begun, AtEach, IsOf, may_load, State, invoked_by}
use Rattle.jc_model.proofs.Names.{Plan, key_call, one, other_plan, plan, whole}
use Rattle.jc_model.specs.declared.call.Op.TheVariants as op
use Rattle.jc_model.specs.Asking.{keys_of, AsksOf, processor_invoked}
use Rattle.jc_model.proofs.Everywhere.{goes-at_each}
use Rattle.jc_model.proofs.Law.{Planned, step-goes, whole-goes}

module _ (c : CacheConfig) (now : ℕ) (call : Call) where
  abbrev W : Request → Progress → Type 0
  W q p = AsksOf call q

  abbrev I : Progress → Type 0
  I p = Unit {0}

  -- a step of the call: on a key of the call where it may load, and by the call's processor
  abbrev Fits : KeyCall → Type 0
  Fits s = (may_load s.op ≡ true → Contains (keys_of call) s.key) × (invoked_by s.op ≡ processor_invoked call)

  asks_so : (s : KeyCall) → Fits s → (q : Request) → IsOf s q → AsksOf call q
  asks_so s fits q of = grind (arith, common_steps)

-- The plan of each call.

module _ (c : CacheConfig) (now : ℕ) where
  abbrev IsFit : Call → Plan → Type 0
  IsFit call todo = Planned c now (W c now call) (Fits c now call) (I c now call) todo

  -- the same operation on keys of the call
  same_fit : (call : Call) (o : Op) → invoked_by o ≡ processor_invoked call → All (Fits c now call) (same_op o (keys_of call))
  same_fit call o is =
      let fits : (k : List ℕ) → Contains (keys_of call) k → Fits c now call (record { key = k; op = o }) = λ k there. ((λ may. there), is) in
      All-map (Fits c now call) _ (keys_of call) (All-weaker (Contains (keys_of call)) _ fits (keys_of call) (All-contains_itself (keys_of call)))

  remove_fit : (key : List ℕ) (b : Bool) → Fits c now RemoveAll (record { key = key; op = if b then op.Remove else op.Expire })
  remove_fit key b = grind (arith, common_steps)

  other_fit : (call : Call) (p : Progress) → IsFit call (other_plan c now call p)
  other_fit (GetAll ks) p = same_fit (GetAll ks) op.Get refl
  other_fit (InvokeAll ks processor argument) p = same_fit (InvokeAll ks processor argument) (op.Invoke processor argument) refl
  other_fit (PutAll given) p = All-map (Fits c now (PutAll given)) _ given (λ k d below. ((λ may. absurd (cc)), refl))
  other_fit (RemoveKeys ks) p = same_fit (RemoveKeys ks) op.Remove refl
  other_fit RemoveAll p = All-map (Fits c now RemoveAll) _ p.state.ring (λ k d below. remove_fit _ _)
  other_fit (LoadAll ks replace) p = same_fit (LoadAll ks replace) (op.Load replace) refl
  other_fit _ p = tt

  plan_fit : (call : Call) (p : Progress) → IsFit call (plan c now call p)
  plan_fit call p = by (key_call call) refl
    where
      by : (o : Option KeyCall) → key_call call ≡ o → IsFit call (elim o [ Some s ↦ one s.key s.op | None ↦ other_plan c now call p ])
      by None e = other_fit call p
      by (Some s) e = rw (e, keys_of, processor_invoked) ((λ may. (0, omega arith, refl)), refl)

  pub whole_asks : (call : Call) (s : State) → AtEach (λ q p. AsksOf call q) (λ p r. Unit {0}) (whole c now call s)
  whole_asks call s =
      goes-at_each (W c now call) (λ p r. I c now call p) _ (whole c now call s)
      (whole-goes c now (W c now call) (Fits c now call) (I c now call) (λ step p fits i. step-goes c now (W c now call) (λ p r. Unit {0}) step p (asks_so c now call step fits) (λ kind counts v r. tt)) (λ p i. (tt, tt)) call s (plan_fit call (begun s)) tt)
