-- The lines of an explanation, or what is told for want of memory.
use Rattle.std.proofs.Common.{◌≡◌, ℕ, List, Result, Ok, Err, String, Global, string_bytes, sym, subst, inl, inr, IfOk}
use Rattle.std.specs.Prelude.{◌⊎◌, MatchResult}
use Rattle.std.specs.declared.alloc.AllocError.{AllocError}
use Rattle.jc_runner.specs.Telling.{no_memory_line}

pub told : (r : Result (String Global) AllocError) (Tells : List ℕ → Type 0) (text : List ℕ) → IfOk r (λ s. Tells (string_bytes s)) → MatchResult r (λ s. text ≡ string_bytes s) (λ e. text ≡ no_memory_line) → Tells text ⊎ (text ≡ no_memory_line)
told (Ok s) Tells text lines is = inl (subst Tells (sym is) lines)
told (Err e) Tells text lines is = inr is
