-- What a session promises of calls whose requests its caller answers, and what becomes of such calls in two halves.
use Rattle.std.specs.Prelude.{◌≡◌, ℕ, List, Result, Ok, Err, IfOk, IfErr, OnErr}
use mathlib.Core.List.{IsPrefix}
use Rattle.jc_model.specs.declared.call.Answer.{Answer}
use Rattle.jc_model.specs.declared.call.Call.{Call}
use Rattle.jc_model.specs.declared.call.Notice.{Notice}
use Rattle.jc_model.specs.declared.config.CacheConfig.{CacheConfig}
use Rattle.jc_locked.specs.declared.fault.AnswerFault.{AnswerFault}
use Rattle.jc_locked.specs.declared.fault.CallFault.{CallFault}
use Rattle.jc_locked.specs.declared.fault.CallFault.TheVariants as faults
use Rattle.jc_locked.specs.Pending.{Pending, AddsEntry, IsRefusedBegin, IsRefusedAnswer, answered_entry, given_up_entry}
use Rattle.jc_locked.specs.Sessions.{Sitting}
use Rattle.jc_engine.specs.Recording.{blank}
use Rattle.jc_shared.specs.declared.pending.Progress.{Progress}
use Rattle.jc_shared.specs.declared.pending.Progress.TheVariants.{Replied, Waits}
use Rattle.jc_shared.specs.Progress.{IsBroughtTo}
use Rattle.jc_shards.specs.declared.pair.Pair.{Pair}
use Rattle.jc_shards.specs.declared.side.Side.{Side}
use Rattle.jc_shards.specs.declared.side.Side.TheVariants.{Left, Right}

pub record IsBegun (configs : List CacheConfig) (old new : Sitting) (id now : ℕ) (call : Call) (result : Result (Progress Pending) (CallFault × Call)) : Type 0 where
  pub number : new.number ≡ old.number
  pub ok : IfOk result (λ progress. IsBroughtTo configs old new (blank old.number id now call) progress)
  pub err : IfErr result (λ e. IsRefusedBegin configs id now call e.0)
  pub back : IfErr result (λ e. e.1 ≡ call)
  pub refused : OnErr result (new ≡ old)
  pub front : IsPrefix old.pass.images new.pass.images

pub record IsResumed (configs : List CacheConfig) (old new : Sitting) (pending : Pending) (answer : Answer) (result : Result (Progress Pending) (AnswerFault × Pending × Answer)) : Type 0 where
  pub number : new.number ≡ old.number
  pub ok : IfOk result (λ progress. IsBroughtTo configs old new (answered_entry pending answer) progress)
  pub err : IfErr result (λ e. IsRefusedAnswer configs pending.draft.id answer e.0)
  pub back : IfErr result (λ e. (e.1 ≡ pending) × (e.2 ≡ answer))
  pub refused : OnErr result (new ≡ old)
  pub front : IsPrefix old.pass.images new.pass.images

pub record IsGivenUp (configs : List CacheConfig) (old new : Sitting) (pending : Pending) (result : Result (List Notice) CallFault) : Type 0 where
  pub number : new.number ≡ old.number
  pub ok : IfOk result (λ left. AddsEntry configs old new (given_up_entry pending left))
  pub err : IfErr result (λ fault. fault ≡ faults.Overtaken)
  pub refused : OnErr result (new ≡ old)
  pub front : IsPrefix old.pass.images new.pass.images

-- what the left half has, or the right
abbrev pub of_left : {P Q : Type 0} → (P → Type 0) → Side P Q → Type 0
of_left has (Left p) = has p
of_left has (Right q) = ⊥

abbrev pub of_right : {P Q : Type 0} → (Q → Type 0) → Side P Q → Type 0
of_right has (Left p) = ⊥
of_right has (Right q) = has q

-- what a call has come to, by what it has come to in its half
abbrev pub shown_by : {P S : Type 0} → ((P → Type 0) → S → Type 0) → (Progress P → Type 0) → Progress S → Type 0
shown_by of_half came_to (Replied reply) = came_to (Replied reply)
shown_by of_half came_to (Waits pending) = of_half (λ p. came_to (Waits p)) pending

abbrev pub begun_by : {P S E : Type 0} → ((P → Type 0) → S → Type 0) → (Result (Progress P) E → Type 0) → Result (Progress S) E → Type 0
begun_by of_half came_to (Ok progress) = shown_by of_half (λ it. came_to (Ok it)) progress
begun_by of_half came_to (Err refused) = came_to (Err refused)

-- where it is refused the call is handed back in its half
abbrev pub resumed_by : {P S E X : Type 0} → ((P → Type 0) → S → Type 0) → (Result (Progress P) (E × P × X) → Type 0) → Result (Progress S) (E × S × X) → Type 0
resumed_by of_half came_to (Ok progress) = shown_by of_half (λ it. came_to (Ok it)) progress
resumed_by of_half came_to (Err refused) = of_half (λ p. came_to (Err (refused.0, p, refused.2))) refused.1

-- a call begins in the half that has its cache, and the other half is as it was
abbrev pub BeginsInHalf : {A B I J P Q E : Type 0} → (A → A → I → Result (Progress P) E → Type 0) → (B → B → J → Result (Progress Q) E → Type 0) → Pair A B → Pair A B → Side I J → Result (Progress (Side P Q)) E → Type 0
BeginsInHalf at_left at_right old new (Left id) result = begun_by of_left (at_left old.left new.left id) result × (new.right ≡ old.right)
BeginsInHalf at_left at_right old new (Right id) result = begun_by of_right (at_right old.right new.right id) result × (new.left ≡ old.left)

-- it goes on in the half in which it began
abbrev pub ResumesInHalf : {A B P Q E X : Type 0} → (A → A → P → Result (Progress P) (E × P × X) → Type 0) → (B → B → Q → Result (Progress Q) (E × Q × X) → Type 0) → Pair A B → Pair A B → Side P Q → Result (Progress (Side P Q)) (E × Side P Q × X) → Type 0
ResumesInHalf at_left at_right old new (Left p) result = resumed_by of_left (at_left old.left new.left p) result × (new.right ≡ old.right)
ResumesInHalf at_left at_right old new (Right q) result = resumed_by of_right (at_right old.right new.right q) result × (new.left ≡ old.left)

-- what the call of one half asks
abbrev pub asked_in_half : {P Q R : Type 0} → (P → R) → (Q → R) → Side P Q → R
asked_in_half asks_left asks_right (Left p) = asks_left p
asked_in_half asks_left asks_right (Right q) = asks_right q
