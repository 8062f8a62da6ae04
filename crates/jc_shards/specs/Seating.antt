-- What a new seat is, and why there is none.
use Rattle.std.specs.Prelude.{◌≡◌, ◌⊎◌, ℕ, Bool, true, List, [], Option, Ok, Err}
use Rattle.jc_model.specs.declared.config.CacheConfig.{CacheConfig}
use Rattle.jc_locked.specs.declared.fault.SessionRefusal.{SessionRefusal}
use Rattle.jc_locked.specs.Admitting.{IsAdmission}
use Rattle.jc_locked.specs.Sessions.{Sitting, SeesSome}
use Rattle.jc_shards.specs.declared.pair.Pair.{Pair}

-- a session that has made no call, has seen the table, and was admitted
pub record IsSeated (after : ℕ → Option ℕ) (closes : Bool) (configs : List CacheConfig) (session : Sitting) : Type 0 where
  pub calls : session.calls ≡ []
  pub sees : SeesSome configs session.pass
  pub met : session.pass.met ≡ true
  pub admitted : IsAdmission after closes (Ok session.number)

abbrev pub IsUnseated : (ℕ → Option ℕ) → Bool → SessionRefusal → Type 0
IsUnseated after closes refusal = IsAdmission after closes (Err refusal)

abbrev pub IsSeatedInBoth : {A B : Type 0} → (A → Type 0) → (B → Type 0) → Pair A B → Type 0
IsSeatedInBoth at_left at_right seat = at_left seat.left × at_right seat.right

abbrev pub IsUnseatedInOne : (SessionRefusal → Type 0) → (SessionRefusal → Type 0) → SessionRefusal → Type 0
IsUnseatedInOne at_left at_right refusal = at_left refusal ⊎ at_right refusal
