-- Reading that ends with a value or with its first fault, whatever the faults are.
use Rattle.std.specs.Prelude.{◌≡◌, Bool, true, false, Option, Some, None, option_and_then, Result, Ok, Err, ⊤}
use Rattle.std.specs.Option.{ok_or}

infixl 10 ◌>>=◌
abbrev pub ◌>>=◌ : {F A B : Type 0} → Result A F → (A → Result B F) → Result B F
(Ok x) >>= f = f x
(Err fault) >>= f = Err fault

-- a reading that fails with this fault; where memory is wanting, it may come to anything
abbrev pub FailsUnless : {F A : Type 0} → Bool → F → Result A F → Type 0
FailsUnless true fault reading = ⊤
FailsUnless false fault reading = reading ≡ Err fault

-- the result is that of the reading, unless its fault is want of memory, which may come at any point
abbrev pub GivesUnless : {F A B : Type 0} → (F → Bool) → (A → B) → Result A F → Result B F → Type 0
GivesUnless is_want seen (Ok x) reading = reading ≡ Ok (seen x)
GivesUnless is_want seen (Err fault) reading = FailsUnless (is_want fault) fault reading

-- a member that must be there, as f takes it
abbrev pub needed_member : {F D A : Type 0} → (D → Option A) → F → Option D → Result A F
needed_member f fault member = ok_or (option_and_then f member) fault

-- a member that may be missing, which is then this
abbrev pub member_or : {F D A : Type 0} → A → (D → Option A) → F → Option D → Result A F
member_or a f fault None = Ok a
member_or a f fault (Some d) = ok_or (f d) fault
