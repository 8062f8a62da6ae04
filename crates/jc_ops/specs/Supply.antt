-- What a step is given before any change.
use Rattle.std.specs.Prelude.{◌≡◌, ℕ, ◌<◌, Bool, true, false, if◌then◌else◌, List, Option, Some, None, Ok, is_some, option_map}
use Rattle.jc_model.specs.declared.call.Answer.{Answer}
use Rattle.jc_model.specs.declared.call.Answer.TheVariants.{Loaded, Written, Processed}
use Rattle.jc_model.specs.declared.call.KeyCall.{KeyCall}
use Rattle.jc_model.specs.declared.call.Op.{Op}
use Rattle.jc_model.specs.declared.call.Verdict.{Verdict}
use Rattle.jc_model.specs.declared.config.CacheConfig.{CacheConfig}
use Rattle.jc_model.specs.Run.{is_written, loaded_by, verdict_of}
use Rattle.jc_model.specs.State.{Item, row_of}
use Rattle.jc_model.specs.Suspended.{KeyWait}
use Rattle.jc_ops.specs.declared.supply.values.Values.{Values}
use Rattle.jc_ops.specs.Given.{loaded_in, verdict_in}
use Rattle.jc_model.specs.Table.{value_of}
use Rattle.jc_ops.specs.Kept.{items_of}
use Rattle.jc_ops.specs.Noted.{StoredIsTold}
use Rattle.jc_ops.specs.Visited.{Visited, HasPlacesIn, has_live_in}
use Rattle.jc_ops.specs.Lines.{handed, shows, shows_loaded, creates, is_invoke, most_told}
use Rattle.jc_ops.specs.Verdicts.{stores_by, hands_by}

-- The supply has the values for the step of this call, in a cache with these items.
-- Where the writer is asked first, it is a copy for the writer; what is stored comes with the writer's answer.
pub record Covers (writer : Bool) (c : CacheConfig) (call : KeyCall) (items : List Item) (s : Values) : Type 0 where
  pub stored : option_map (λ t. t.value) s.stored ≡ (if writer then None else value_of call.op)
  pub told : StoredIsTold c s.stored
  pub copy : s.copy ≡ handed writer call.op
  pub shown : shows call.op ≡ true → (x : Item) → row_of call.key items ≡ Some x → s.shown ≡ Some x.value
  pub entry : is_invoke call.op ≡ true → (x : Item) → row_of call.key items ≡ Some x → s.entry ≡ Some x.value

-- for the loader's answer, which gave this, to a line that loads or to a call of a processor
pub record CoversLoaded (c : CacheConfig) (o : Op) (loaded : Option (List ℕ)) (s : Values) : Type 0 where
  pub stored : is_invoke o ≡ false → option_map (λ t. t.value) s.stored ≡ loaded
  pub told : StoredIsTold c s.stored
  pub shown : is_invoke o ≡ false → shows_loaded o ≡ true → s.shown ≡ loaded
  pub entry : is_invoke o ≡ true → s.entry ≡ loaded
  pub copy : is_invoke o ≡ true → s.copy ≡ handed false o

-- for a verdict, where the loader gave this value, if any
pub record CoversVerdict (writer : Bool) (c : CacheConfig) (loaded : Option (List ℕ)) (v : Verdict) (s : Values) : Type 0 where
  pub stored : option_map (λ t. t.value) s.stored ≡ stores_by writer loaded v.action
  pub told : StoredIsTold c s.stored
  pub copy : s.copy ≡ hands_by writer v.action
  pub shown : s.shown ≡ v.answer

-- for the step that waits, at this answer
pub record CoversAnswer (c : CacheConfig) (w : KeyWait) (a : Answer) (items : List Item) (s : Values) : Type 0 where
  pub told : StoredIsTold c s.stored
  pub written : is_written a ≡ true → verdict_in w.given ≡ None → Covers false c w.call items s
  pub agreed : is_written a ≡ true → (v : Verdict) → verdict_in w.given ≡ Some v → CoversVerdict false c (loaded_in w.given) v s
  pub loaded : (o : Option (List ℕ)) → loaded_by a ≡ Some o → CoversLoaded c w.call.op o s
  pub judged : (v : Verdict) → verdict_of a ≡ Some v → CoversVerdict c.writer c (loaded_in w.given) v s

-- Whether a step adds a row to the table, by whether its key has a live row: as it begins ..
abbrev pub adds : Bool → Bool → Op → Bool
adds there writer o = if there then false else (if writer then false else creates o)

abbrev pub adds_by : Bool → Bool → Option (List ℕ) → Verdict → Bool
adds_by there writer loaded v = if there then false else is_some (stores_by writer loaded v.action)

-- .. and at this answer
abbrev pub adds_at : Bool → CacheConfig → KeyWait → Answer → Bool
adds_at there c w Written = elim (verdict_in w.given) [ None ↦ adds there false w.call.op | Some v ↦ adds_by there false (loaded_in w.given) v ]
adds_at there c w (Loaded loaded) = if there then false else (if is_invoke w.call.op then false else is_some loaded)
adds_at there c w (Processed (Ok v)) = adds_by there c.writer (loaded_in w.given) v
adds_at there c w _ = false

-- the table has room where a row is added
abbrev pub HasRoom : Bool → ℕ → Type 0
HasRoom adding spare = adding ≡ true → 0 < spare

-- The same of a step on a visit.

-- the supply has the values for a step that begins
abbrev pub CoversIn : Bool → Visited → KeyCall → Values → Type 0
CoversIn writer v call s = Covers writer v.cache.config call (items_of v.cache.cells) s

-- and for one that waits, at this answer
abbrev pub CoversAnswerIn : Visited → KeyWait → Answer → Values → Type 0
CoversAnswerIn v w a s = CoversAnswer v.cache.config w a (items_of v.cache.cells) s

-- the most notices that it may tell
abbrev pub most_told_in : Visited → KeyCall → ℕ
most_told_in v call = most_told (has_live_in v call.key) call.op

-- there are places for them
abbrev pub HasPlacesFor : KeyCall → Visited → Type 0
HasPlacesFor call v = HasPlacesIn (most_told_in v call) v

-- and room for the row that it may add as it begins
abbrev pub HasRoomFor : KeyCall → Visited → Type 0
HasRoomFor call v = HasRoom (adds (has_live_in v call.key) v.cache.config.writer call.op) v.spare

-- or at this answer
abbrev pub HasRoomAt : KeyWait → Answer → Visited → Type 0
HasRoomAt w a v = HasRoom (adds_at (has_live_in v w.call.key) v.cache.config w a) v.spare
