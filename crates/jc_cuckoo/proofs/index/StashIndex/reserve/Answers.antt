use Rattle.std.proofs.Common.{ap}
use Rattle.std.specs.Option.{option_map}
use Rattle.jc_cuckoo.proofs.index.StashIndex.reserve.Goals as goal

pub returns-clause-same : goal.returns-clause-same
returns-clause-same c = record { hasher = c.reserve.ensures.hasher; same = λ place. ap (option_map (λ arrival. arrival.at)) (c.reserve.ensures.entries.2 place) }

pub returns-then-more-room-clause-same : goal.returns-then-more-room-clause-same
returns-then-more-room-clause-same c = record { hasher = c.reserve.ensures.hasher; same = λ place. ap (option_map (λ arrival. arrival.at)) (c.reserve.ensures.entries.2 place) }
