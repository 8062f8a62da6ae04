-- Which number a session is given.
use Rattle.std.specs.Prelude.{◌≡◌, ◌+◌, ◌%◌, ◌^◌, ltb, if◌then◌else◌, ℕ, Bool, true, false, Option, Some, None, IsSome, Result, Ok, Err}
use Rattle.jc_locked.specs.declared.fault.SessionRefusal.{SessionRefusal}
use Rattle.jc_locked.specs.declared.fault.SessionRefusal.TheVariants.{Closed, TooManySessions, OutOfMemory}

module _ (next : ℕ → Option ℕ) where
  -- the next one, unless the manager is closed, there are as many as it can tell apart, or there is no room
  abbrev pub Admits : Bool → ℕ → Bool → Result ℕ SessionRefusal → ℕ → Type 0
  Admits closed given room (Ok number) after = (closed ≡ false) × (room ≡ true) × (number ≡ given) × (next given ≡ Some after)
  Admits closed given room (Err Closed) after = (closed ≡ true) × (after ≡ given)
  Admits closed given room (Err TooManySessions) after = (closed ≡ false) × (next given ≡ None) × (after ≡ given)
  Admits closed given room (Err OutOfMemory) after = (closed ≡ false) × IsSome (next given) × (room ≡ false) × (after ≡ given)

  -- what a manager that can be closed, or cannot, says at some moment to one who asks for a session
  pub record IsAdmission (closes : Bool) (answer : Result ℕ SessionRefusal) : Type 0 where
    pub closed : Bool
    pub closing : closed ≡ true → closes ≡ true
    pub given : ℕ
    pub room : Bool
    pub after : ℕ
    pub admits : Admits closed given room answer after

-- the number behind this one: by a manager that keeps all calls there are 64
abbrev pub after_of_64 : ℕ → Option ℕ
after_of_64 given = if ltb given 64 then Some (given + 1) else None

-- by one that keeps the open calls alone numbers come round
abbrev pub after_round : ℕ → Option ℕ
after_round given = Some ((given + 1) % 2 ^ 32)
