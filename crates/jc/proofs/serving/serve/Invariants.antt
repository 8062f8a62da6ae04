use Rattle.std.specs.Prelude.{Err}
use Rattle.std.proofs.Common.{map}
use Rattle.jc_hooks.specs.declared.loader.Loaded.TheVariants.{Failed}
use Rattle.jc_locked.specs.Stated.{stated_by}
use Rattle.jc.proofs.serving.serve.Given as goal

abbrev pub ghosts-serve_named : goal.ghosts-serve_named
ghosts-serve_named g a = record {
  configs = a.unnamed.configs;
  stated = map (stated_by (λ _ _. Failed) (λ _ _ _. Err (record {}))) a.unnamed.shared;
  index = a.unnamed.index;
}
