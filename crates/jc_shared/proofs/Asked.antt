-- The loader and the processors that a cache's requests go to.
use Rattle.std.proofs.Common.{◌≡◌, ℕ, zero, suc, List, [], ◌∷◌, map, length, Option, Some, None, IsSome, Result, refl, sym, ◌∙◌, ap}
use Rattle.std.specs.Prelude.{slice_get}
use Rattle.jc_hooks.specs.declared.loader.Loaded.{Loaded}
use Rattle.jc_model.specs.declared.call.ProcessorFault.{ProcessorFault}
use Rattle.jc_model.specs.declared.call.Verdict.{Verdict}
use Rattle.jc_model.specs.declared.config.CacheConfig.{CacheConfig}
use Rattle.jc_locked.specs.declared.hooks.SharedHooks.{SharedHooks}
use Rattle.jc_locked.specs.Stated.{Stated, stated_by, AreOf, processor_counts, wanted_counts}

module _ {L P : Type 0} (load_of : L → List ℕ → Loaded) (verdict_of : P → Option (List ℕ) → List ℕ → Result Verdict ProcessorFault) where
  found : (shared : List (SharedHooks L P)) (i : ℕ) (s : SharedHooks L P) → slice_get shared i ≡ Some s → AreOf load_of verdict_of (map (stated_by load_of verdict_of) shared) i s
  found [] i s at h is = absurd cc
  found (x ∷ shared) zero s at h is =
      let same : x ≡ s = cc in
      let states : stated_by load_of verdict_of x ≡ h = cc in
      ap (stated_by load_of verdict_of) (sym same) ∙ states
  found (x ∷ shared) (suc i) s at h is = found shared i s at h is

  missing : (shared : List (SharedHooks L P)) (i : ℕ) (s : SharedHooks L P) → slice_get shared i ≡ None → AreOf load_of verdict_of (map (stated_by load_of verdict_of) shared) i s
  missing [] i s none h is = absurd cc
  missing (x ∷ shared) zero s none h is = absurd cc
  missing (x ∷ shared) (suc i) s none h is = missing shared i s none h is

  -- those beside all locks
  pub stated_at : (shared : List (SharedHooks L P)) (stated : List Stated) → map (stated_by load_of verdict_of) shared ≡ stated → (i : ℕ) (s : SharedHooks L P) → slice_get shared i ≡ Some s → AreOf load_of verdict_of stated i s
  stated_at shared stated are i s at h is = found shared i s at h (ap (λ (hs : List Stated). slice_get hs i) are ∙ is)

  -- or a cache's own
  pub unstated_at : (shared : List (SharedHooks L P)) (stated : List Stated) → map (stated_by load_of verdict_of) shared ≡ stated → (i : ℕ) (s : SharedHooks L P) → slice_get shared i ≡ None → AreOf load_of verdict_of stated i s
  unstated_at shared stated are i s none h is = missing shared i s none h (ap (λ (hs : List Stated). slice_get hs i) are ∙ is)

module _ {L P : Type 0} where
  -- there are as many processors as the configuration names
  pub count_at : (shared : List (SharedHooks L P)) (configs : List CacheConfig) → processor_counts shared ≡ wanted_counts configs → (i : ℕ) (s : SharedHooks L P) (c : CacheConfig) → slice_get shared i ≡ Some s → slice_get configs i ≡ Some c → length c.processors ≡ length s.processors.items
  count_at [] configs counted i s c at is = absurd cc
  count_at (x ∷ shared) [] counted i s c at is = absurd cc
  count_at (x ∷ shared) (d ∷ configs) counted zero s c at is =
      let same : x ≡ s = cc in
      let here : length x.processors.items ≡ length d.processors = cc in
      let config : d ≡ c = cc in
      ap (λ (e : CacheConfig). length e.processors) (sym config) ∙ sym here ∙ ap (λ (y : SharedHooks L P). length y.processors.items) same
  count_at (x ∷ shared) (d ∷ configs) counted (suc i) s c at is =
      let rest : processor_counts shared ≡ wanted_counts configs = cc in
      count_at shared configs rest i s c at is

  pub some_at : (shared : List (SharedHooks L P)) (configs : List CacheConfig) → processor_counts shared ≡ wanted_counts configs → (i : ℕ) (s : SharedHooks L P) → slice_get shared i ≡ Some s → IsSome (slice_get configs i)
  some_at [] configs counted i s at = absurd cc
  some_at (x ∷ shared) [] counted i s at = absurd cc
  some_at (x ∷ shared) (d ∷ configs) counted zero s at = refl
  some_at (x ∷ shared) (d ∷ configs) counted (suc i) s at =
      let rest : processor_counts shared ≡ wanted_counts configs = cc in
      some_at shared configs rest i s at

  pub none_at : (shared : List (SharedHooks L P)) (configs : List CacheConfig) → processor_counts shared ≡ wanted_counts configs → (i : ℕ) (c : CacheConfig) → slice_get shared i ≡ None → slice_get configs i ≡ Some c → ⊥
  none_at [] [] counted i c none is = absurd cc
  none_at [] (d ∷ configs) counted i c none is = absurd cc
  none_at (x ∷ shared) [] counted i c none is = absurd cc
  none_at (x ∷ shared) (d ∷ configs) counted zero c none is = absurd cc
  none_at (x ∷ shared) (d ∷ configs) counted (suc i) c none is =
      let rest : processor_counts shared ≡ wanted_counts configs = cc in
      none_at shared configs rest i c none is
