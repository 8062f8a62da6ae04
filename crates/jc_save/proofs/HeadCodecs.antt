-- The codecs of a configuration's settings and of counters.
use Rattle.std.proofs.Common.{◌≡◌, ℕ, zero, suc, ◌^◌, ◌<◌, ◌≤◌, Bool, ◌||◌, if◌then◌else◌, ltb, List, [], ◌∷◌, ◌++◌, length, map, Ok, refl, sym, ap, subst, ◌∙◌, append_assoc, append-nil, arith}
use Rattle.std.specs.Int.{w32, w64, to_le_bytes}
use Rattle.std.proofs.lemmas.Bool.{ltb-false, le-ltb}
use Rattle.jc_model.specs.declared.call.Counts.{Counts}
use Rattle.jc_model.specs.declared.config.CacheConfig.{CacheConfig}
use Rattle.jc_model.specs.declared.config.Policy.{Policy}
use Rattle.jc_model.specs.declared.config.Policy.TheVariants.{Eternal, Created, Accessed, Modified, Touched}
use Rattle.jc_model.specs.Limits.{most_rows, most_listeners, most_processors}
use Rattle.jc_model.proofs.Refusals.{KeepsLimits}
use Rattle.jc_save.specs.declared.fault.Flaw.TheVariants as flaw
use Rattle.jc_save.specs.Spelling.{flag, policy, processors, settings, counters}
use Rattle.jc_save.specs.Savable.{AreBytes, HasDuration, AreCounters}
use Rattle.jc_save.specs.Reading.{mapped, refused, flaw_at, byte_at, number_at, flag_at, policy_at, flags_at, capacity_at, listeners_at, processors_at, config_with, settings_at, counts_with, counters_at}
use Rattle.jc_save.proofs.Codecs.{bytes_behind, bind_ok, not_refused, ok_is, neither, Takes, takes_both, takes_behind, Codec, codec_both, codec_mapped, codec32, codec64, codec_flag, byte_takes, byte_again}

-- A word behind a byte that says what is made of it.
module _ {A : Type 0} (made : ℕ → A) (b : ℕ) (spell : A → List ℕ) (Good : A → Type 0) (spelled : (n : ℕ) → spell (made n) ≡ b ∷ to_le_bytes w64 n) (good : (n : ℕ) → n < 2 ^ 64 → Good (made n)) where
  pub tagged_takes : (bytes : List ℕ) (x : A × List ℕ) → AreBytes bytes → mapped made (number_at w64) bytes ≡ Ok x → Takes (b ∷ bytes) (spell x.0) x.1 × Good x.0
  tagged_takes bytes x fits e =
      let a = bind_ok (number_at w64 bytes) (λ y. Ok (made y.0, y.1)) x e in
      let one = codec64.takes bytes a.0 fits a.1 in
      let there : A × List ℕ = (made a.0.0, a.0.1) in
      subst (λ (y : A × List ℕ). Takes (b ∷ bytes) (spell y.0) y.1 × Good y.0) (ok_is there x a.2)
      (subst (λ (text : List ℕ). Takes (b ∷ bytes) text a.0.1) (sym (spelled a.0.0)) (takes_behind b bytes (to_le_bytes w64 a.0.0) a.0.1 one.0), good a.0.0 one.1)

pub tagged_again : {A : Type 0} (made : ℕ → A) (n : ℕ) (rest : List ℕ) → n < 2 ^ 64 → mapped made (number_at w64) (to_le_bytes w64 n ++ rest) ≡ Ok (made n, rest)
tagged_again made n rest lt = rw (codec64.again n rest lt) refl

policy_takes : (bytes : List ℕ) (x : Policy × List ℕ) → AreBytes bytes → policy_at bytes ≡ Ok x → Takes bytes (policy x.0) x.1 × HasDuration x.0
unfolding policy_at policy
policy_takes [] x fits e = absurd cc
policy_takes (zero ∷ rest) x fits e =
    subst (λ (y : Policy × List ℕ). Takes (0 ∷ rest) (policy y.0) y.1 × HasDuration y.0) (ok_is (Eternal, rest) x e) (record { parts = refl; rest_fits = bytes_behind 0 rest fits }, tt)
policy_takes (suc zero ∷ rest) x fits e = tagged_takes Created 1 policy HasDuration (λ n. refl) (λ n lt. lt) rest x (bytes_behind 1 rest fits) e
policy_takes (suc (suc zero) ∷ rest) x fits e = tagged_takes Accessed 2 policy HasDuration (λ n. refl) (λ n lt. lt) rest x (bytes_behind 2 rest fits) e
policy_takes (suc (suc (suc zero)) ∷ rest) x fits e = tagged_takes Modified 3 policy HasDuration (λ n. refl) (λ n lt. lt) rest x (bytes_behind 3 rest fits) e
policy_takes (suc (suc (suc (suc zero))) ∷ rest) x fits e = tagged_takes Touched 4 policy HasDuration (λ n. refl) (λ n lt. lt) rest x (bytes_behind 4 rest fits) e
policy_takes (suc (suc (suc (suc (suc b)))) ∷ rest) x fits e = absurd cc

policy_again : (p : Policy) (rest : List ℕ) → HasDuration p → policy_at (policy p ++ rest) ≡ Ok (p, rest)
unfolding policy_at policy
policy_again Eternal rest good = refl
policy_again (Created d) rest good = tagged_again Created d rest good
policy_again (Accessed d) rest good = tagged_again Accessed d rest good
policy_again (Modified d) rest good = tagged_again Modified d rest good
policy_again (Touched d) rest good = tagged_again Touched d rest good

codec_policy : Codec policy_at policy HasDuration
codec_policy = record { takes = policy_takes; again = policy_again }

record IsCapacity (n : ℕ) : Type 0 where
  pub some : 1 ≤ n
  pub few : n ≤ most_rows

capacity_takes : (bytes : List ℕ) (x : ℕ × List ℕ) → AreBytes bytes → capacity_at bytes ≡ Ok x → Takes bytes (to_le_bytes w32 x.0) x.1 × IsCapacity x.0
unfolding capacity_at
capacity_takes bytes x fits e =
    let a = bind_ok (number_at w32 bytes) (λ n. if ltb n.0 1 || ltb most_rows n.0 then refused flaw.Capacity bytes else Ok n) x e in
    let g = not_refused (ltb a.0.0 1 || ltb most_rows a.0.0) (flaw_at flaw.Capacity bytes) (Ok a.0) x a.2 in
    let n = neither (ltb a.0.0 1) (ltb most_rows a.0.0) g.0 in
    let t = codec32.takes bytes a.0 fits a.1 in
    subst (λ (y : ℕ × List ℕ). Takes bytes (to_le_bytes w32 y.0) y.1 × IsCapacity y.0) (ok_is a.0 x g.1)
    (t.0, record { some = ltb-false _ _ n.0; few = ltb-false _ _ n.1 })

capacity_again : (n : ℕ) (rest : List ℕ) → IsCapacity n → capacity_at (to_le_bytes w32 n ++ rest) ≡ Ok (n, rest)
unfolding capacity_at
capacity_again n rest good =
    rw (codec32.again n rest (omega (arith, good.few)), le-ltb n 1 good.some, le-ltb most_rows n good.few) refl

codec_capacity : Codec capacity_at (to_le_bytes w32) IsCapacity
codec_capacity = record { takes = capacity_takes; again = capacity_again }

listeners_takes : (bytes : List ℕ) (x : ℕ × List ℕ) → AreBytes bytes → listeners_at bytes ≡ Ok x → Takes bytes (x.0 ∷ []) x.1 × (x.0 ≤ most_listeners)
unfolding listeners_at
listeners_takes bytes x fits e =
    let a = bind_ok (byte_at bytes) (λ n. if ltb most_listeners n.0 then refused flaw.Listeners bytes else Ok n) x e in
    let g = not_refused (ltb most_listeners a.0.0) (flaw_at flaw.Listeners bytes) (Ok a.0) x a.2 in
    subst (λ (y : ℕ × List ℕ). Takes bytes (y.0 ∷ []) y.1 × (y.0 ≤ most_listeners)) (ok_is a.0 x g.1)
    (byte_takes bytes a.0 fits a.1, ltb-false _ _ g.0)

listeners_again : (n : ℕ) (rest : List ℕ) → n ≤ most_listeners → listeners_at (n ∷ [] ++ rest) ≡ Ok (n, rest)
unfolding listeners_at
listeners_again n rest few = rw (byte_again n rest, le-ltb most_listeners n few) refl

codec_listeners : Codec listeners_at (λ n. n ∷ []) (λ n. n ≤ most_listeners)
codec_listeners = record { takes = listeners_takes; again = listeners_again }

-- Flags that stand one after the other.

record AddsFlags (before : List Bool) (n : ℕ) (bytes : List ℕ) (x : List Bool × List ℕ) : Type 0 where
  pub new : List Bool
  pub is : x.0 ≡ before ++ new
  pub takes : Takes bytes (map flag new) x.1
  pub counted : length new ≡ n

flags_take : (before : List Bool) (n : ℕ) (bytes : List ℕ) (x : List Bool × List ℕ) → AreBytes bytes → flags_at before n bytes ≡ Ok x → AddsFlags before n bytes x
unfolding flags_at
flags_take before zero bytes x fits e =
    subst (λ (y : List Bool × List ℕ). AddsFlags before 0 bytes y) (ok_is (before, bytes) x e)
    (record { new = []; is = sym (append-nil before); takes = record { parts = refl; rest_fits = fits }; counted = refl })
flags_take before (suc n) bytes x fits e =
    let a = bind_ok (flag_at bytes) (λ w. flags_at (before ++ w.0 ∷ []) n w.1) x e in
    let one = codec_flag.takes bytes a.0 fits a.1 in
    let others = flags_take (before ++ a.0.0 ∷ []) n a.0.1 x one.0.rest_fits a.2 in
    record {
      new = a.0.0 ∷ others.new;
      is = others.is ∙ append_assoc before (a.0.0 ∷ []) others.new;
      takes = takes_both bytes (flag a.0.0 ∷ []) a.0.1 (map flag others.new) x.1 one.0 others.takes;
      counted = ap suc others.counted;
    }

flags_again : (before new : List Bool) (rest : List ℕ) → flags_at before (length new) (map flag new ++ rest) ≡ Ok (before ++ new, rest)
unfolding flags_at
flags_again before [] rest = ap (λ (flags : List Bool). Ok (flags, rest)) (sym (append-nil before))
flags_again before (w ∷ new) rest =
    rw (codec_flag.again w (map flag new ++ rest) tt)
    (flags_again (before ++ w ∷ []) new rest ∙ ap (λ (flags : List Bool). Ok (flags, rest)) (append_assoc before (w ∷ []) new))

abbrev AreProcessors : List Bool → Type 0
AreProcessors wants = length wants ≤ most_processors

processors_takes : (bytes : List ℕ) (x : List Bool × List ℕ) → AreBytes bytes → processors_at bytes ≡ Ok x → Takes bytes (processors x.0) x.1 × AreProcessors x.0
unfolding processors_at
processors_takes bytes x fits e =
    let a = bind_ok (byte_at bytes) (λ n. if ltb most_processors n.0 then refused flaw.Processors bytes else flags_at [] n.0 n.1) x e in
    let g = not_refused (ltb most_processors a.0.0) (flaw_at flaw.Processors bytes) (flags_at [] a.0.0 a.0.1) x a.2 in
    let one = byte_takes bytes a.0 fits a.1 in
    let flags = flags_take [] a.0.0 a.0.1 x one.rest_fits g.1 in
    let counted : a.0.0 ≡ length x.0 = sym flags.counted ∙ ap length (sym flags.is) in
    let whole : Takes bytes (a.0.0 ∷ map flag flags.new) x.1 = takes_both bytes (a.0.0 ∷ []) a.0.1 (map flag flags.new) x.1 one flags.takes in
    let spelled : a.0.0 ∷ map flag flags.new ≡ processors x.0 = ap (λ (n : ℕ). n ∷ map flag flags.new) counted ∙ ap (λ (w : List Bool). length x.0 ∷ map flag w) (sym flags.is) in
    let few : a.0.0 ≤ most_processors = ltb-false _ _ g.0 in
    (subst (λ (text : List ℕ). Takes bytes text x.1) spelled whole, subst (λ (n : ℕ). n ≤ most_processors) counted few)

processors_again : (wants : List Bool) (rest : List ℕ) → AreProcessors wants → processors_at (processors wants ++ rest) ≡ Ok (wants, rest)
unfolding processors_at
processors_again wants rest few =
    rw (byte_again (length wants) (map flag wants ++ rest), le-ltb most_processors (length wants) few) (flags_again [] wants rest)

codec_processors : Codec processors_at processors AreProcessors
codec_processors = record { takes = processors_takes; again = processors_again }

-- The settings.

pub record IsConfig (name : List ℕ) (c : CacheConfig) : Type 0 where
  pub named : c.name ≡ name
  pub limits : KeepsLimits c
  pub duration : HasDuration c.policy

abbrev Parts : Type 0
Parts = ℕ × (Policy × (Bool × (Bool × (ℕ × List Bool))))

abbrev parts : CacheConfig → Parts
parts c = (c.capacity, (c.policy, (c.loader, (c.writer, (c.listeners, c.processors)))))

abbrev AreGood : Parts → Type 0
AreGood p = IsCapacity p.0 × (HasDuration p.1.0 × (Unit {0} × (Unit {0} × ((p.1.1.1.1.0 ≤ most_listeners) × AreProcessors p.1.1.1.1.1))))

module _ (name : List ℕ) where
  config_good : (p : Parts) → AreGood p → IsConfig name (config_with name p)
  config_good p good = record {
    named = refl;
    limits = record { some_rows = good.0.some; rows = good.0.few; listeners = good.1.1.1.1.0; processors = good.1.1.1.1.1 };
    duration = good.1.0;
  }

  config_back : (c : CacheConfig) → IsConfig name c → (config_with name (parts c) ≡ c) × AreGood (parts c)
  config_back c is = (
    subst (λ (n : List ℕ). config_with n (parts c) ≡ c) is.named refl,
    (record { some = is.limits.some_rows; few = is.limits.rows }, (is.duration, (tt, (tt, (is.limits.listeners, is.limits.processors))))),
  )

  settings_spelled : (p : Parts) → settings (config_with name p) ≡ to_le_bytes w32 p.0 ++ (policy p.1.0 ++ ((flag p.1.1.0 ∷ []) ++ ((flag p.1.1.1.0 ∷ []) ++ ((p.1.1.1.1.0 ∷ []) ++ processors p.1.1.1.1.1))))
  unfolding settings
  settings_spelled p = refl

  pub codec_settings : Codec (settings_at name) settings (IsConfig name)
  unfolding settings_at
  codec_settings =
      codec_mapped (codec_both codec_capacity (codec_both codec_policy (codec_both codec_flag (codec_both codec_flag (codec_both codec_listeners codec_processors)))))
      (config_with name) parts settings (IsConfig name) settings_spelled config_good config_back

-- Counters.

abbrev Numbers : Type 0
Numbers = ℕ × (ℕ × (ℕ × (ℕ × ℕ)))

abbrev numbers : Counts → Numbers
numbers n = (n.hits, (n.misses, (n.puts, (n.removals, n.evictions))))

abbrev AreWords : Numbers → Type 0
AreWords p = (p.0 < 2 ^ 64) × ((p.1.0 < 2 ^ 64) × ((p.1.1.0 < 2 ^ 64) × ((p.1.1.1.0 < 2 ^ 64) × (p.1.1.1.1 < 2 ^ 64))))

counts_good : (p : Numbers) → AreWords p → AreCounters (counts_with p)
counts_good p good = record { hits = good.0; misses = good.1.0; puts = good.1.1.0; removals = good.1.1.1.0; evictions = good.1.1.1.1 }

counts_back : (n : Counts) → AreCounters n → (counts_with (numbers n) ≡ n) × AreWords (numbers n)
counts_back n are = (refl, (are.hits, (are.misses, (are.puts, (are.removals, are.evictions)))))

counters_spelled : (p : Numbers) → counters (counts_with p) ≡ to_le_bytes w64 p.0 ++ (to_le_bytes w64 p.1.0 ++ (to_le_bytes w64 p.1.1.0 ++ (to_le_bytes w64 p.1.1.1.0 ++ to_le_bytes w64 p.1.1.1.1)))
unfolding counters
counters_spelled p = refl

pub codec_counters : Codec counters_at counters AreCounters
unfolding counters_at
codec_counters =
    codec_mapped (codec_both codec64 (codec_both codec64 (codec_both codec64 (codec_both codec64 codec64))))
    counts_with numbers counters AreCounters counters_spelled counts_good counts_back
