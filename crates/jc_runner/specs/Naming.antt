-- The callbacks that a configuration names.
use Rattle.std.specs.Prelude.{◌≡◌, ℕ, true, Option, Some, None, List, [], ◌∷◌, map, replicate, ⊤}
use Rattle.jc_config.specs.declared.kinds.HookKinds.{HookKinds}
use Rattle.jc_config.specs.declared.kinds.LoaderKind.{LoaderKind}
use Rattle.jc_config.specs.declared.kinds.LoaderKind.TheVariants.{Echo}
use Rattle.jc_config.specs.declared.kinds.WriterKind.{WriterKind}
use Rattle.jc_config.specs.declared.kinds.WriterKind.TheVariants.{Check}
use Rattle.jc_config.specs.declared.kinds.ProcessorKind.{ProcessorKind}
use Rattle.jc_config.specs.declared.kinds.ProcessorKind.TheVariants as kind
use Rattle.jc_hooks.specs.declared.cache_hooks.CacheHooks.{CacheHooks}
use Rattle.jc_hooks.specs.declared.program.EchoLoader.{EchoLoader}
use Rattle.jc_hooks.specs.declared.program.CheckWriter.{CheckWriter}
use Rattle.jc_hooks.specs.declared.program.ProgramProcessor.{ProgramProcessor}
use Rattle.jc_hooks.specs.declared.program.ProgramProcessor.TheVariants.{Append, Fail, Drop, Peek}
use Rattle.jc_hooks.specs.declared.filter.AdmitAll.{AdmitAll}
use Rattle.jc_hooks.specs.declared.hook.ListenerHook.{ListenerHook}
use Rattle.jc_hooks.specs.declared.tally.Tally.{Tally}
use Rattle.jc_hooks.specs.Asking.{admitted_notices}
use Rattle.jc_hooks.specs.Tallies.{no_notices, tally_numbers, tally_after}
use Rattle.jc_model.specs.declared.call.Notice.{Notice}
use Rattle.jc_model.specs.declared.config.CacheConfig.{CacheConfig}

-- a listener of the program, behind its filter
abbrev pub ProgramListener : Type 0
ProgramListener = ListenerHook AdmitAll Tally

-- one that was told nothing so far
abbrev pub fresh_listener : ProgramListener
fresh_listener = record { filter = record {}; listener = no_notices }

-- what such a listener states for a list of notices: it is told all that its filter admits
abbrev pub heard_by : ProgramListener → List Notice → List ℕ
heard_by h notices = tally_numbers (tally_after h.listener (admitted_notices (λ _. true) notices))

-- the program's callbacks of a cache
abbrev pub ProgramHooks : Type 0
ProgramHooks = CacheHooks EchoLoader CheckWriter ProgramProcessor ProgramListener

abbrev pub loader_named : Option LoaderKind → Option EchoLoader
loader_named None = None
loader_named (Some Echo) = Some (record {})

abbrev pub writer_named : Option WriterKind → Option CheckWriter
writer_named None = None
writer_named (Some Check) = Some (record {})

abbrev pub processor_named : ProcessorKind → ProgramProcessor
processor_named kind.Append = Append
processor_named kind.Fail = Fail
processor_named kind.Drop = Drop
processor_named kind.Peek = Peek

-- fresh callbacks of these kinds, and as many listeners as the cache is to have
pub record AreHooksNamed (c : CacheConfig) (k : HookKinds) (h : ProgramHooks) : Type 0 where
  pub loader : h.loader ≡ loader_named k.loader
  pub writer : h.writer ≡ writer_named k.writer
  pub processors : h.processors.items ≡ map processor_named k.processors
  pub listeners : h.listeners.items ≡ replicate c.listeners fresh_listener

abbrev pub AllHooksNamed : List CacheConfig → List HookKinds → List ProgramHooks → Type 0
AllHooksNamed [] kinds [] = ⊤
AllHooksNamed (c ∷ caches) (k ∷ kinds) (h ∷ hooks) = AreHooksNamed c k h × AllHooksNamed caches kinds hooks
AllHooksNamed _ _ _ = ⊥
