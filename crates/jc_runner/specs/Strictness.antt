-- Members that an op does not need, where they are refused.
use Rattle.std.specs.Prelude.{◌≡◌, ℕ, Bool, true, List, Option, Some, None, IfSome, IsOk}
use Rattle.jc_model.specs.declared.config.CacheConfig.{CacheConfig}
use Rattle.jc_script.specs.Script.{lines}
use Rattle.jc_script.specs.Stray.{stray_line}

-- there are none, where that is asked for
abbrev pub HasNoStray : Bool → Option (List ℕ) → Type 0
HasNoStray strict left = strict ≡ true → IfSome left (λ script. stray_line script ≡ None)

-- that is asked for, and this line of a script without other faults has one
abbrev pub HasStray : Bool → List CacheConfig → Option (List ℕ) → ℕ → Type 0
HasStray strict caches left n = (strict ≡ true) × IfSome left (λ script. IsOk (lines caches script) × (stray_line script ≡ Some n))
