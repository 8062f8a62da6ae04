-- Notices counted by kind.
use Rattle.std.specs.Prelude.{ℕ, List, [], ◌∷◌}
use Rattle.jc_model.specs.State.{one_more}
use Rattle.jc_model.specs.declared.call.Kind.{Kind}
use Rattle.jc_model.specs.declared.call.Kind.TheVariants.{Created, Updated, Removed, Expired}
use Rattle.jc_model.specs.declared.call.Notice.{Notice}
use Rattle.jc_hooks.specs.declared.tally.Tally.{Tally}

abbrev pub no_notices : Tally
no_notices = record { created = 0; updated = 0; removed = 0; expired = 0 }

abbrev pub tally_kind : Kind → Tally → Tally
tally_kind Created t = record t { created = one_more t.created }
tally_kind Updated t = record t { updated = one_more t.updated }
tally_kind Removed t = record t { removed = one_more t.removed }
tally_kind Expired t = record t { expired = one_more t.expired }

-- the tally after these notices
abbrev pub tally_after : Tally → List Notice → Tally
tally_after t [] = t
tally_after t (notice ∷ notices) = tally_after (tally_kind notice.kind t) notices

-- the four counts, as a listener states them
abbrev pub tally_numbers : Tally → List ℕ
tally_numbers t = t.created ∷ t.updated ∷ t.removed ∷ t.expired ∷ []
