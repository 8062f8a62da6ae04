-- Bytes that are kept while they are read.
use Rattle.std.specs.Prelude.{◌≡◌, ℕ, Bool, true, false, List, [], ◌++◌, Option, Some, None, if◌then◌else◌}

-- the bytes, where they were kept from the first on
abbrev pub kept_in : Bool → List ℕ → Option (List ℕ)
kept_in keeps bytes = if keeps then Some bytes else None

-- whether they were kept before and are kept after these more: for want of memory they are dropped, and are never kept
-- again
abbrev pub KeepsMore : Bool → Bool → List ℕ → List ℕ → List ℕ → Type 0
KeepsMore true true more old new = new ≡ old ++ more
KeepsMore true false more old new = new ≡ []
KeepsMore false true more old new = ⊥
KeepsMore false false more old new = new ≡ old

-- nothing was read
abbrev pub Stays : Bool → Bool → List ℕ → List ℕ → Type 0
Stays before after old new = (after ≡ before) × (new ≡ old)
