-- How far telling has come.
use Rattle.std.specs.Prelude.{◌≡◌, ℕ}
use Rattle.jc_hooks.specs.declared.telling_progress.TellingProgress.{TellingProgress}

-- so many listeners were told so many notices, each in turn, and none the notice after them
abbrev pub HasTold : {K : Type 0} → TellingProgress K → ℕ → ℕ → Type 0
HasTold turn listeners notices = (turn.listeners ≡ listeners) × (turn.notices ≡ notices) × (turn.told ≡ 0)
