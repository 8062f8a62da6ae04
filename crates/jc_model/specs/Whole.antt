-- One whole call on one cache.
use Rattle.std.specs.Prelude.{ℕ, ◌*◌, Bool, true, false, if◌then◌else◌, List, [], ◌∷◌, map, length}
use Rattle.std.specs.Prelude.{Option, Some, None}
use Rattle.std.specs.List.{filter}
use Rattle.jc_model.specs.declared.call.Call.{Call}
use Rattle.jc_model.specs.declared.call.Call.TheVariants.{Get, GetAll, Contains, Put, GetAndPut, PutIfAbsent, Replace, ReplaceIf, GetAndReplace, Remove, RemoveIf, GetAndRemove, Invoke, InvokeAll, PutAll, RemoveKeys, RemoveAll, Clear, LoadAll, Entries, Stats, ClearStats}
use Rattle.jc_model.specs.declared.call.Op.{Op}
use Rattle.jc_model.specs.declared.call.Op.TheVariants as op
use Rattle.jc_model.specs.declared.call.KeyCall.{KeyCall}
use Rattle.jc_model.specs.declared.call.Reply.{Reply}
use Rattle.jc_model.specs.declared.call.Reply.TheVariants.{Done, Truth, Listed, Counted, Fault}
use Rattle.jc_model.specs.declared.call.Request.TheVariants.{Tell}
use Rattle.jc_model.specs.declared.config.CacheConfig.{CacheConfig}
use Rattle.jc_model.specs.State.{Item, State, zeros, row_of, is_live}
use Rattle.jc_model.specs.Changes.{Progress, begun, with_ring, with_counts, hit, access}
use Rattle.jc_model.specs.Run.{Run, ended, waiting, and_then}
use Rattle.jc_model.specs.Step.{step}
use Rattle.jc_model.specs.Bulk.{Gathered, nothing, pairs, results, Sum, empty_sum, with_key, gathered_reply, ends_call, same_op, put_each, remove_each}

-- a call on one key: its key and its operation
abbrev pub key_call : Call → Option KeyCall
key_call (Get k) = Some (record { key = k; op = op.Get })
key_call (Put k v) = Some (record { key = k; op = op.Put v })
key_call (GetAndPut k v) = Some (record { key = k; op = op.GetAndPut v })
key_call (PutIfAbsent k v) = Some (record { key = k; op = op.PutIfAbsent v })
key_call (Replace k v) = Some (record { key = k; op = op.Replace v })
key_call (ReplaceIf k expected v) = Some (record { key = k; op = op.ReplaceIf expected v })
key_call (GetAndReplace k v) = Some (record { key = k; op = op.GetAndReplace v })
key_call (Remove k) = Some (record { key = k; op = op.Remove })
key_call (RemoveIf k expected) = Some (record { key = k; op = op.RemoveIf expected })
key_call (GetAndRemove k) = Some (record { key = k; op = op.GetAndRemove })
key_call (Invoke k processor argument) = Some (record { key = k; op = op.Invoke processor argument })
key_call _ = None

-- A call is one key's step, the steps of many keys with what is gathered of them, or a change and a reply at once.
pub data Plan : Type 0 where
  one : List ℕ → Op → Plan
  many : List KeyCall → Gathered → Plan
  at_once : Progress → Reply → Plan

-- the most requests of a plan before its notices are told
abbrev pub asked_by : Plan → ℕ
asked_by (one k o) = 3
asked_by (many calls gathered) = 3 * length calls
asked_by (at_once p r) = 0

-- the parts of a plan: its one step, or its steps and what they gather, or neither
abbrev pub key_step : Plan → Option KeyCall
key_step (one k o) = Some (record { key = k; op = o })
key_step (many calls gathered) = None
key_step (at_once p r) = None

abbrev pub steps_in : Plan → List KeyCall
steps_in (one k o) = []
steps_in (many calls gathered) = calls
steps_in (at_once p r) = []

abbrev pub gathers : Plan → Gathered
gathers (one k o) = nothing
gathers (many calls gathered) = gathered
gathers (at_once p r) = nothing

abbrev pub is_at_once : Plan → Bool
is_at_once (one k o) = false
is_at_once (many calls gathered) = false
is_at_once (at_once p r) = true

-- after one key's step: the first fault of a loader or a writer ends the call, with the number of keys done before
abbrev pub after_key : List ℕ → (Sum → Progress → Run) → Sum → Progress → Reply → Run
after_key k go_on sum p r =
    elim (ends_call r) [ Some by ↦ ended p (Fault by (Some sum.done)) | None ↦ go_on (with_key k r sum) p ]

module _ (c : CacheConfig) (now : ℕ) where
  -- the steps in their order, and then the reply that they come to
  abbrev pub each : List KeyCall → Sum → Progress → Run
  each [] sum p = ended p (gathered_reply sum.gathered)
  each (call ∷ calls) sum p =
      and_then (step c now call p) (after_key call.key (λ next q. each calls next q) sum)

  -- live rows are listed, each with a hit and an access; expired ones are passed over and stay
  abbrev pub touch_each : List Item → Progress → Progress
  touch_each [] p = p
  touch_each (x ∷ xs) p = touch_each xs (if is_live now x then access c now x (hit p) else p)

  abbrev pub contents : List Item → List (List ℕ × List ℕ)
  contents ring = map (λ x. (x.key, x.value)) (filter (is_live now) ring)

  -- the key has a live row
  abbrev pub holds : List ℕ → State → Bool
  holds k s = elim (row_of k s.ring) [ None ↦ false | Some x ↦ is_live now x ]

  -- what a call does that is not on one key; of others nothing is read here
  abbrev pub other_plan : Call → Progress → Plan
  other_plan (GetAll ks) p = many (same_op op.Get ks) (pairs [])
  other_plan (Contains k) p = at_once p (Truth (holds k p.state))
  other_plan (InvokeAll ks processor argument) p = many (same_op (op.Invoke processor argument) ks) (results [])
  other_plan (PutAll given) p = many (put_each given) nothing
  other_plan (RemoveKeys ks) p = many (same_op op.Remove ks) nothing
  other_plan RemoveAll p = many (remove_each now p.state.ring) nothing
  other_plan Clear p = at_once (with_ring [] p) Done
  other_plan (LoadAll ks replace) p = many (same_op (op.Load replace) ks) nothing
  other_plan Entries p = at_once (touch_each p.state.ring p) (Listed (contents p.state.ring))
  other_plan Stats p = at_once p (Counted p.state.counts)
  other_plan ClearStats p = at_once (with_counts zeros p) Done
  other_plan _ p = at_once p Done

  -- what each call does
  abbrev pub plan : Call → Progress → Plan
  plan call p = elim (key_call call) [ Some s ↦ one s.key s.op | None ↦ other_plan call p ]

  abbrev pub carried_out : Plan → Progress → Run
  carried_out (one k o) p = step c now (record { key = k; op = o }) p
  carried_out (many calls gathered) p = each calls (empty_sum gathered) p
  carried_out (at_once q r) p = ended q r

-- All notices are told after the changes and before the reply; from then on none is left.
abbrev pub told_first : Progress → Reply → Run
told_first p r =
    elim p.notices [ [] ↦ ended p r | n ∷ ns ↦ waiting (Tell p.notices) (begun p.state) (λ _. ended (begun p.state) r) ]

abbrev pub whole : CacheConfig → ℕ → Call → State → Run
whole c now call s = and_then (carried_out c now (plan c now call (begun s)) (begun s)) told_first

-- a call that takes no memory
abbrev pub is_free : Call → Bool
is_free (Contains k) = true
is_free Clear = true
is_free Stats = true
is_free ClearStats = true
is_free _ = false
