-- A history that exists in proofs alone.
use Rattle.std.specs.Prelude.{ℕ, ◌+◌, [], Option, Some, None}
use Rattle.jc_model.specs.Legal.{History}

-- a history, and by how many changes it has come about
pub record Told : Type 0 where
  pub changes : ℕ
  pub history : History

abbrev pub nothing : History
nothing = record { lives = []; entries = [] }

-- what the last change has left, if there was one
abbrev pub told_by : Option Told → Told
told_by None = record { changes = 0; history = nothing }
told_by (Some told) = told

abbrev pub after : (History → History) → Told → Told
after change told = record { changes = told.changes + 1; history = change told.history }

abbrev pub change_count : Told → ℕ
change_count told = told.changes
