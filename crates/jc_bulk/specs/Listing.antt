-- Lists that grow into room that was made before.
use Rattle.std.specs.Prelude.{ℕ, List}

pub record Listing (T : Type 0) : Type 0 where
  pub items : List T
  pub spare : ℕ
