-- What becomes of a script's lines that create and destroy caches.
use Rattle.std.specs.Prelude.{ℕ, List, [], ◌∷◌, ◌++◌, Option, Some, None, ⊤}
use Rattle.jc_model.specs.declared.config.CacheConfig.{CacheConfig}
use Rattle.jc_model.specs.declared.event.CreateRefusal.{CreateRefusal}
use Rattle.jc_script.specs.declared.line.Line.{Line}
use Rattle.jc_script.specs.declared.line.Line.TheVariants.{Call, Create, Destroy}
use Rattle.jc_locked.specs.Living.{IsCreated, AnswersConfig, HasGone}
use Rattle.jc_locked.specs.Sessions.{Sight}

-- a cache of this configuration was created, or the manager's rules refused it so
abbrev pub IsCreating : List CacheConfig → CacheConfig → Option CreateRefusal → Type 0
IsCreating configs config None = (id : ℕ) × IsCreated configs id config
IsCreating configs config (Some refusal) = AnswersConfig configs config (Some refusal)

-- a cache that has lived is live no more
abbrev pub IsDestroying : List CacheConfig → ℕ → Type 0
IsDestroying configs id = (pass : Sight) × HasGone configs id pass

-- each line that creates a cache did so or was refused, and each that destroys one did so
abbrev pub AreManaged : List CacheConfig → List Line → List (Option CreateRefusal) → Type 0
AreManaged configs [] [] = ⊤
AreManaged configs [] (r ∷ rs) = ⊥
AreManaged configs (Call l ∷ ls) rs = AreManaged configs ls rs
AreManaged configs (Create session config ∷ ls) [] = ⊥
AreManaged configs (Create session config ∷ ls) (r ∷ rs) = IsCreating configs config r × AreManaged configs ls rs
AreManaged configs (Destroy session id ∷ ls) [] = ⊥
AreManaged configs (Destroy session id ∷ ls) (None ∷ rs) = IsDestroying configs id × AreManaged configs ls rs
AreManaged configs (Destroy session id ∷ ls) (Some refusal ∷ rs) = ⊥

-- this line did so behind those that did
abbrev pub ManagesLine : List CacheConfig → Line → List (Option CreateRefusal) → List (Option CreateRefusal) → Type 0
ManagesLine configs line before after = (done : List Line) → AreManaged configs done before → AreManaged configs (done ++ line ∷ []) after
