-- What is told of caches that are saved and restored, by what the engine says.
use Rattle.std.proofs.Common.{◌≡◌, ◌<◌, ℕ, Bool, true, false, ltb, ◌||◌, List, [], ◌∷◌, length, option_map, Result, Ok, Err, Option, Some, None, ◌⊎◌, inl, inr, refl, sym, ap, ap₂, ◌∙◌, arith}
use Rattle.std.proofs.lemmas.Bool.Decides.{nat_tests}
use Rattle.std.specs.List.{list_any}
use Rattle.jc_model.specs.declared.config.CacheConfig.{CacheConfig}
use Rattle.jc_model.specs.declared.event.Cause.{Cause}
use Rattle.jc_model.specs.declared.event.Cause.TheVariants.{Busy}
use Rattle.jc_model.specs.declared.event.CreateRefusal.{CreateRefusal}
use Rattle.jc_model.specs.declared.event.CreateRefusal.TheVariants as create
use Rattle.jc_model.specs.Limits.{value_bytes}
use Rattle.jc_model.specs.Run.{Awaited}
use Rattle.jc_model.specs.Runs.{create_refusal}
use Rattle.jc_model.specs.State.{Item, State}
use Rattle.jc_model.specs.Suspended.{Wait}
use Rattle.jc_save.specs.declared.cache.SavedCache.{SavedCache}
use Rattle.jc_save.specs.declared.cache.SavedRow.{SavedRow}
use Rattle.jc_save.specs.declared.fault.SaveFault.{SaveFault}
use Rattle.jc_save.specs.declared.fault.SaveFault.TheVariants as fault
use Rattle.jc_save.specs.Placing.{put_at}
use Rattle.jc_save.specs.Restoring.{items, state_of}
use Rattle.jc_save.specs.Spelling.{saved}
use Rattle.jc_engine.specs.Caches.{Cache, lives_of}
use Rattle.jc_engine.specs.Saving.{IsRestoreRefusal, refusal_of_read, saved_in, saved_length}
use Rattle.jc_engine.specs.declared.restoring.RestoreRefusal.{RestoreRefusal}
use Rattle.jc_engine.specs.declared.restoring.RestoreRefusal.TheVariants.{Damaged, NotCreated}
use Rattle.jc_c.specs.declared.desks.Desk.{Desk}
use Rattle.jc_c.specs.declared.placer.FfiPlacer.{FfiPlacer}
use Rattle.jc_c.specs.declared.saved.Unrestored.{Unrestored}
use Rattle.jc_c.specs.declared.status.Status.TheVariants.{BadValue, OutOfMemory}
use Rattle.jc_c.specs.Items.{buffer_after}
use Rattle.jc_c.specs.Saved.{IsReadRefusal, LacksLonger, add_refusal, because, for_refusal, has_longer, or_then, read_refusal, saved_told}
use Rattle.jc_c.specs.Seated.{seated_of}
use Rattle.jc_c.proofs.Putting.{put_first}
use Rattle.jc_c.proofs.Seating.{same_places}

-- what is written of a cache that is saved
module _ (n : ℕ) (out out' : List ℕ) where
  written_by : (bytes : List ℕ) (turn : Option (Awaited × Wait)) → ◌≡◌ {A = Result ℕ Cause} (Ok n) (elim turn [ None ↦ Ok (length bytes) | Some w ↦ Err Busy ]) → out' ≡ put_at 0 bytes out
      → out' ≡ buffer_after (elim turn [ None ↦ Some bytes | Some w ↦ None ]) out
  written_by bytes None is put = put ∙ put_first bytes out
  written_by bytes (Some w) is put = absurd cc

  pub written : (cache : Option Cache) → Ok n ≡ saved_length cache → out' ≡ put_at 0 (saved_in cache) out → out' ≡ buffer_after (saved_told cache) out
  written None is put = absurd cc
  written (Some k) is put = written_by (saved k.config k.progress.state) k.turn is put

-- Values that are longer than they may be.

any_item : (most : ℕ) (rows : List SavedRow) → list_any (λ (x : Item). ltb most (length x.value)) (items rows) ≡ list_any (λ (r : SavedRow). ltb most (length r.value)) rows
any_item most [] = refl
any_item most (r ∷ rows) = ap (λ (b : Bool). ltb most (length r.value) || b) (any_item most rows)

pub longer_told : (most : ℕ) (cache : SavedCache) (rows : List SavedRow) (told : Bool) → most < value_bytes → told ≡ list_any (λ (r : SavedRow). ltb most (length r.value)) rows → rows ≡ cache.rows
    → has_longer most (state_of cache) ≡ told
longer_told most cache rows told less is same =
    let bound : ltb most value_bytes ≡ true = grind (arith, nat_tests, less) in
    rw bound (any_item most cache.rows ∙ ap (list_any (λ (r : SavedRow). ltb most (length r.value))) (sym same) ∙ sym is)

pub refused_longer : (most : ℕ) (read : Result (CacheConfig × State) SaveFault) (cache : CacheConfig × State) (why : Unrestored) → read ≡ Ok cache → has_longer most cache.1 ≡ true → why ≡ because BadValue
    → IsReadRefusal most read why
refused_longer most read cache why is longer told = rw (is, longer, told) (inr refl)

pub lacks_longer : (most : ℕ) (read : Result (CacheConfig × State) SaveFault) (cache : CacheConfig × State) → read ≡ Ok cache → has_longer most cache.1 ≡ false → LacksLonger most read
lacks_longer most read cache is longer = rw is longer

-- Why no cache is restored, where none of its values is longer.

by_creation : (refusal : Option CreateRefusal) → option_map (λ (r : CreateRefusal). because (Rattle.jc_c.specs.Status.refusal_status r)) refusal ≡ option_map for_refusal (option_map NotCreated refusal)
by_creation None = refl
by_creation (Some r) = refl

pub unrestored_is : (caches : List (Option Cache)) (most : ℕ) (read : Result (CacheConfig × State) SaveFault) → LacksLonger most read
    → or_then (read_refusal most read) (add_refusal caches read) ≡ option_map for_refusal (refusal_of_read caches read)
unrestored_is caches most (Err (fault.Damaged what place)) lacks = refl
unrestored_is caches most (Err fault.OutOfMemory) lacks = refl
unrestored_is caches most (Ok read) lacks = rw lacks (by_creation (create_refusal (lives_of caches) read.0))

pub unrefused : (caches : List (Option Cache)) (most : ℕ) (read : Result (CacheConfig × State) SaveFault) → LacksLonger most read → refusal_of_read caches read ≡ None
    → or_then (read_refusal most read) (add_refusal caches read) ≡ None
unrefused caches most read lacks none = unrestored_is caches most read lacks ∙ ap (option_map for_refusal) none

refused_as : (due : Option RestoreRefusal) (refusal : RestoreRefusal) → IsRestoreRefusal due refusal → (for_refusal refusal ≡ because OutOfMemory) ⊎ (option_map for_refusal due ≡ Some (for_refusal refusal))
refused_as due (Damaged what place) is = inr (ap (option_map for_refusal) is)
refused_as due (NotCreated create.OutOfMemory) is = inl refl
refused_as due (NotCreated create.TooManyCaches) is = inr (ap (option_map for_refusal) is)
refused_as due (NotCreated create.BadCapacity) is = inr (ap (option_map for_refusal) is)
refused_as due (NotCreated create.TooManyListeners) is = inr (ap (option_map for_refusal) is)
refused_as due (NotCreated create.TooManyProcessors) is = inr (ap (option_map for_refusal) is)
refused_as due (NotCreated create.DuplicateName) is = inr (ap (option_map for_refusal) is)
refused_as due (NotCreated create.TotalCapacity) is = inr (ap (option_map for_refusal) is)
refused_as due (NotCreated create.IdsSpent) is = inr (ap (option_map for_refusal) is)

pub refused : (caches : List (Option Cache)) (most : ℕ) (read : Result (CacheConfig × State) SaveFault) (refusal : RestoreRefusal) → LacksLonger most read → IsRestoreRefusal (refusal_of_read caches read) refusal
    → (for_refusal refusal ≡ because OutOfMemory) ⊎ (or_then (read_refusal most read) (add_refusal caches read) ≡ Some (for_refusal refusal))
refused caches most read refusal lacks is =
    elim (refused_as (refusal_of_read caches read) refusal is) [
      | inl memory ↦ inl memory
      | inr due ↦ inr (unrestored_is caches most read lacks ∙ due)
    ]

-- a manager whose caches and desks are the same
pub seated_same : (p : FfiPlacer) (caches caches' : List (Option Cache)) (f g : ℕ → Option Desk) → caches' ≡ caches → ((i : ℕ) → g i ≡ f i) → seated_of caches' g p ≡ seated_of caches f p
seated_same p caches caches' f g same also =
    ap₂ (λ (ks : List (Option Cache)) (ds : List (Option Desk)). record { caches = ks; desks = ds; placer = p }) same
    (ap (λ (ks : List (Option Cache)). Rattle.jc_engine.specs.Sound.places_of g (length ks)) same ∙ same_places f g (length caches) also)
