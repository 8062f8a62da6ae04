-- Which kinds of change a filter has.
use Rattle.std.specs.Prelude.{Bool}
use Rattle.jc_model.specs.declared.call.Kind.{Kind}
use Rattle.jc_model.specs.declared.call.Kind.TheVariants.{Created, Updated, Removed, Expired}
use Rattle.jc_trials.specs.declared.fakes.KindFilter.{KindFilter}

abbrev pub has_kind : KindFilter → Kind → Bool
has_kind filter Created = filter.created
has_kind filter Updated = filter.updated
has_kind filter Removed = filter.removed
has_kind filter Expired = filter.expired
