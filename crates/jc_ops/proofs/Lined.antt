-- A line of the table: what its step does as it begins, and at the answer of its writer or its loader.
use Rattle.jc_ops.proofs.Names.{◌≡◌, ◌<◌, arith, ℕ, Bool, true, false, if◌then◌else◌, List, common_steps, Option, Some, None, is_some, Answer, KeyCall, Op, Request, CacheConfig}
use Rattle.jc_ops.proofs.Names.{TableLine, Item, Progress, purge, find_row, ended, resume, is_written, live_in, ended_by, step, key_run, value_of, is_shown}
use Rattle.jc_ops.proofs.Names.{line_at, is_invoke, shows, first_request, StepWaits, IsWaiting, waits_first}
use Rattle.std.specs.Option.{option_and}
use Rattle.jc_model.specs.declared.call.Answer.TheVariants.{Loaded, Written}
use Rattle.jc_model.specs.declared.call.By.TheVariants.{Loader, Writer}
use Rattle.jc_model.specs.declared.call.Reply.TheVariants.{Fault}
use Rattle.jc_model.specs.declared.table.Ask.TheVariants.{Load}
use Rattle.jc_model.specs.Step.{counted}
use Rattle.jc_ops.specs.declared.stored.Stored.{Stored}
use Rattle.jc_ops.specs.Noted.{stored_value}
use Rattle.jc_ops.specs.Lines.{asks_no_one, takes_value, shows_loaded, stores}
use Rattle.jc_ops.specs.Supply.{HasRoom, adds}
use Rattle.jc_ops.proofs.Goes.{waits_purged}

-- what was made of the key's row is there where it has one
of_row : (row : Option Item) (r : Option ℕ) (given value : Option (List ℕ)) → is_some row ≡ is_some r → value ≡ option_and r given →
    ((x : Item) → row ≡ Some x → given ≡ Some x.value) → value ≡ live_in row
of_row row r given value is made at = grind (arith, common_steps)

-- a line shows a live row only where its operation does
shown_live : (o : Op) (row : Option Item) (x : Item) → is_invoke o ≡ false → is_shown (line_at o (live_in row)).reply ≡ true → row ≡ Some x → shows o ≡ true
shown_live o row x plain h e = grind (arith, common_steps)

not_written : (a : Answer) → (a ≡ Written → ⊥) → is_written a ≡ false
not_written a failed = grind (arith, common_steps)

-- what the loader gave is stored only where there is room
pub room_loaded : (there : Bool) (o : Op) (f : Option (List ℕ)) (s : Option Stored) (n : ℕ) → HasRoom (if there then false else (if is_invoke o then false else is_some f)) n →
    is_invoke o ≡ false → stored_value s ≡ f → there ≡ false → is_some s ≡ true → 0 < n
room_loaded there o f s n enough plain gave absent some = grind (arith, common_steps)

-- what an operation stores of its own has room as it begins
pub room_fits : (o : Op) (row : Option Item) (there : Bool) (writer : Bool) (s : Option Stored) (n : ℕ) → is_some row ≡ there → stored_value s ≡ (if writer then None else value_of o) →
    HasRoom (adds there writer o) n → there ≡ false → stores (line_at o (live_in row)).change ≡ true → is_some s ≡ true → 0 < n
room_fits o row there writer s n is keeps enough absent adds_row some = grind (arith, common_steps)

-- An operation on a key, by what the code has: its line, and what was made of the key's row.

module _ (c : CacheConfig) (now : ℕ) (k : List ℕ) (o : Op) (p : Progress) (l : TableLine) (is : l ≡ line_at o (live_in (find_row k p))) where
  abbrev call : KeyCall
  call = record { key = k; op = o }

  module _ (w : IsWaiting c p (waits_first now call)) where
    purged : purge c now k p ≡ p
    purged = waits_purged c p (waits_first now call) w

    pub writer_failed : (a : Answer) → is_invoke o ≡ false → (l.asks ≡ Load → ⊥) → (a ≡ Written → ⊥) → resume (key_run c p (waits_first now call)) a ≡ ended p (Fault Writer None)
    writer_failed a plain writes failed =
        let gone : purge c now k p ≡ p = purged in let on = rw is at writes in let not : is_written a ≡ false = not_written a failed in grind (arith, common_steps)

    pub loader_failed : (a : Answer) → l.asks ≡ Load → ((v : Option (List ℕ)) → a ≡ Loaded v → ⊥) →
        resume (key_run c p (waits_first now call)) a ≡ ended (counted l.counts (find_row k p) p) (Fault Loader None)
    loader_failed a load fails = let gone : purge c now k p ≡ p = purged in let on = rw is at load in rw is (grind (arith, common_steps))

    pub loader_gave : (loaded stored shown : Option (List ℕ)) → l.asks ≡ Load → stored ≡ loaded → (shows_loaded o ≡ true → shown ≡ loaded) →
        resume (key_run c p (waits_first now call)) (Loaded loaded) ≡ ended_by c now k l (find_row k p) stored shown p
    loader_gave loaded stored shown load store show = let gone : purge c now k p ≡ p = purged in let on = rw is at load in rw is (grind (arith, common_steps))

  module _ (r : Option ℕ) (has : is_some (find_row k p) ≡ is_some r) (given shown : Option (List ℕ)) (made : shown ≡ option_and r given) where
    show : (shows o ≡ true → (x : Item) → find_row k p ≡ Some x → given ≡ Some x.value) → is_invoke o ≡ false →
        is_shown (line_at o (live_in (find_row k p))).reply ≡ true → shown ≡ live_in (find_row k p)
    show at plain h = of_row (find_row k p) r given shown has made (λ x e. at (shown_live o (find_row k p) x plain h e) x e)

    pub begins_ended : (live stored : Option (List ℕ)) → purge c now k p ≡ p → first_request c k o l.asks live ≡ None → stored ≡ (if c.writer then None else value_of o) →
        (shows o ≡ true → (x : Item) → find_row k p ≡ Some x → given ≡ Some x.value) → step c now call p ≡ ended_by c now k l (find_row k p) stored shown p
    begins_ended live stored purged asks store at = let on = rw is at asks in let all = show at in rw is (grind (arith, common_steps))

    pub begins_waiting : (q : Request) → purge c now k p ≡ p → first_request c k o l.asks shown ≡ Some q → (is_invoke o ≡ true → (x : Item) → find_row k p ≡ Some x →
        given ≡ Some x.value) → StepWaits c p q (waits_first now call) (step c now call p)
    begins_waiting q purged asks at = let on = rw is at asks in let all = λ (invokes : is_invoke o ≡ true). of_row (find_row k p) r given shown has made (at invokes) in grind (arith, common_steps)

    pub writer_agreed : (stored : Option (List ℕ)) → is_invoke o ≡ false → IsWaiting c p (waits_first now call) → (l.asks ≡ Load → ⊥) → stored ≡ value_of o →
        (shows o ≡ true → (x : Item) → find_row k p ≡ Some x → given ≡ Some x.value) → resume (key_run c p (waits_first now call)) Written ≡ ended_by c now k l (find_row k p) stored shown p
    writer_agreed stored plain w writes store at =
        let gone : purge c now k p ≡ p = waits_purged c p (waits_first now call) w in let on = rw is at writes in let all = show at plain in rw is (grind (arith, common_steps))

-- an operation that asks no one has no first request
pub unasked : (c : CacheConfig) (k : List ℕ) (o : Op) (l : TableLine) (live : Option (List ℕ)) → asks_no_one c o ≡ true → first_request c k o l.asks live ≡ None
unasked c k o l live none = grind (arith, common_steps)

-- an operation that replies its row's value, or hands it on, takes it
pub takes : (o : Op) → (shows o ≡ true → takes_value o ≡ true) × (is_invoke o ≡ true → takes_value o ≡ true)
takes o = (λ h. grind (arith, common_steps), λ h. grind (arith, common_steps))
