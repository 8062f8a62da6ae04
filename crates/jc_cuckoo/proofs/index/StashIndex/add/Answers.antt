use Rattle.std.proofs.Common.{ap}
use Rattle.std.specs.Option.{option_map}
use Rattle.jc_cuckoo.proofs.Listed.{places_differ, where_ok}
use Rattle.jc_cuckoo.proofs.index.StashIndex.add.Goals as goal

pub returns-clause-others : goal.returns-clause-others
returns-clause-others c = record { hasher = c.insert.ensures.hasher; same = λ place other. ap (option_map (λ arrival. arrival.at)) ((where_ok c.insert.result (c.insert.ensures.succeeds c.requires.room) c.insert.ensures.updates).2 place (places_differ (c.args.id, c.args.key.now) place other)) }
