use Rattle.std.proofs.Common.{ap}
use Rattle.std.specs.Option.{option_map}
use Rattle.jc_cuckoo.proofs.Listed.{places_differ}
use Rattle.jc_cuckoo.proofs.index.StashIndex.remove.Goals as goal

pub returns-clause-others : goal.returns-clause-others
returns-clause-others c = record { hasher = c.remove.ensures.hasher; same = λ place other. ap (option_map (λ arrival. arrival.at)) (c.remove.ensures.updates.2 place (places_differ (c.args.id, c.args.key.now) place other)) }
