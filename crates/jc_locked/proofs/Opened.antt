-- Opening a manager.
use Rattle.std.proofs.Common.{◌≡◌, ◌==◌, ◌&&◌, ◌||◌, not, ℕ, ◌+◌, zero, suc, Bool, true, false, List, [], ◌∷◌, map, length, take, Option, Some, None, is_some, refl, sym, ◌∙◌, ap, subst, arith}
use Rattle.std.specs.Prelude.{slice_get}
use Rattle.std.specs.Option.{option_or}
use Rattle.jc_model.specs.declared.config.CacheConfig.{CacheConfig}
use Rattle.jc_model.specs.Refusals.{refused_if}
use Rattle.jc_model.specs.declared.event.Life.{Life}
use Rattle.jc_model.specs.Legal.{History, numbered_lives, at_first}
use Rattle.jc_hooks.specs.declared.cache_hooks.CacheHooks.{CacheHooks}
use Rattle.jc_engine.specs.declared.open.OpenRefusal.{OpenRefusal}
use Rattle.jc_place.specs.Place.{IsTableSize}
use Rattle.jc_hooks.specs.Suits.{Suits, AllSuit}
use Rattle.jc_locked.specs.Stated.{shared_of, processor_counts, wanted_counts, wants_lock, has_lock, has_lock_at, lock_flags, wanted_locks}
use Rattle.std.proofs.lemmas.List.{length-map}
use Rattle.jc_locked.specs.Sessions.{BeginsWith}

-- the size of a new table
pub sixteen : IsTableSize 16
sixteen = record { exponent = 4; power = refl; least = omega arith; most = omega arith }

-- the caches of the opening are the first lives
pub begins_opened : (configs : List CacheConfig) (h : History) → h ≡ at_first 0 configs → BeginsWith configs h
begins_opened configs h opens = ap (λ (t : History). take (length configs) t.lives) opens ∙ all 0 configs
  where
    all : (first : ℕ) (cs : List CacheConfig) → take (length cs) (numbered_lives first cs) ≡ numbered_lives first cs
    all first [] = refl
    all first (c ∷ cs) = ap (λ (ls : List Life). record { id = first; config = c } ∷ ls) (all (first + 1) cs)

not_refused : (b : Bool) (r : OpenRefusal) (next : Option OpenRefusal) → option_or (refused_if b r) next ≡ None → b ≡ false
not_refused true r next h = absurd cc
not_refused false r next h = refl

module _ {L W P K : Type 0} (wants : P → Bool) where
  -- as many callbacks as caches
  pub as_many : (configs : List CacheConfig) (hooks : List (CacheHooks L W P K)) → AllSuit wants configs hooks → length hooks ≡ length configs
  as_many [] [] s = refl
  as_many [] (h ∷ hooks) s = absurd (s 0)
  as_many (c ∷ configs) [] s = absurd (s 0)
  as_many (c ∷ configs) (h ∷ hooks) s = ap suc (as_many configs hooks (λ place. s (suc place)))

  -- the lists that were compared are those that were handed in
  pub suit_of : (configs configs' : List CacheConfig) (hooks hooks' : List (CacheHooks L W P K)) → configs ≡ configs' → hooks ≡ hooks' → AllSuit wants configs hooks → AllSuit wants configs' hooks'
  suit_of configs configs' hooks hooks' same same' s = subst (λ (cs : List CacheConfig). AllSuit wants cs hooks') same (subst (λ (hs : List (CacheHooks L W P K)). AllSuit wants configs hs) same' s)

  -- and as many processors as their configurations name
  pub counted : (configs : List CacheConfig) (hooks : List (CacheHooks L W P K)) → AllSuit wants configs hooks → processor_counts (map shared_of hooks) ≡ wanted_counts configs
  counted [] [] s = refl
  counted [] (h ∷ hooks) s = absurd (s 0)
  counted (c ∷ configs) [] s = absurd (s 0)
  counted (c ∷ configs) (h ∷ hooks) s =
      let here : length h.processors.items ≡ length c.processors = sym (ap length (s 0).processes ∙ length-map h.processors.items wants) in
      (λ i. here i ∷ counted configs hooks (λ place. s (suc place)) i)

  -- and as many have a hooks lock as name callbacks
  one_locked : (c : CacheConfig) (h : CacheHooks L W P K) → Suits wants c h → wants_lock h ≡ has_lock c
  one_locked c h s =
      let many : length c.processors ≡ length h.processors.items = ap length s.processes ∙ length-map h.processors.items wants in
      by c.loader (is_some h.loader) c.writer (is_some h.writer) (length c.processors) (length h.processors.items) c.listeners (length h.listeners.items) s.loads s.writes many s.listens
    where
      flags : (l w a b : Bool) → (l || (w || (not a || not b))) ≡ not (not l && (not w && (a && b)))
      flags true w a b = refl
      flags false true a b = refl
      flags false false true true = refl
      flags false false true false = refl
      flags false false false b = refl

      by : (l l' w w' : Bool) (p p' k k' : ℕ) → l ≡ l' → w ≡ w' → p ≡ p' → k ≡ k' → (l' || (w' || (not (p' == 0) || not (k' == 0)))) ≡ not (not l && (not w && ((p == 0) && (k == 0))))
      by l l' w w' p p' k k' ll ww pp kk =
          subst (λ (b : Bool). (b || (w' || (not (p' == 0) || not (k' == 0)))) ≡ not (not l && (not w && ((p == 0) && (k == 0))))) ll
          (subst (λ (b : Bool). (l || (b || (not (p' == 0) || not (k' == 0)))) ≡ not (not l && (not w && ((p == 0) && (k == 0))))) ww
          (subst (λ (n : ℕ). (l || (w || (not (n == 0) || not (k' == 0)))) ≡ not (not l && (not w && ((p == 0) && (k == 0))))) pp
          (subst (λ (n : ℕ). (l || (w || (not (p == 0) || not (n == 0)))) ≡ not (not l && (not w && ((p == 0) && (k == 0))))) kk (flags l w (p == 0) (k == 0)))))

  pub locked : (configs : List CacheConfig) (hooks : List (CacheHooks L W P K)) → AllSuit wants configs hooks → map wants_lock hooks ≡ wanted_locks configs
  locked [] [] s = refl
  locked [] (h ∷ hooks) s = absurd (s 0)
  locked (c ∷ configs) [] s = absurd (s 0)
  locked (c ∷ configs) (h ∷ hooks) s = (λ i. one_locked c h (s 0) i ∷ locked configs hooks (λ place. s (suc place)) i)

-- a hooks lock is at a place where the configuration there names callbacks
abbrev pub lock_there : {X : Type 0} → Option (Option X) → Bool
lock_there None = false
lock_there (Some lock) = is_some lock

pub locked_at : {X : Type 0} (locks : List (Option X)) (configs : List CacheConfig) → lock_flags locks ≡ wanted_locks configs → (i : ℕ) → lock_there (slice_get locks i) ≡ has_lock_at (slice_get configs i)
locked_at [] [] are i = refl
locked_at [] (c ∷ configs) are i = absurd cc
locked_at (x ∷ locks) [] are i = absurd cc
locked_at (x ∷ locks) (c ∷ configs) are zero = cc
locked_at (x ∷ locks) (c ∷ configs) are (suc i) =
    let rest : lock_flags locks ≡ wanted_locks configs = cc in
    locked_at locks configs rest i
