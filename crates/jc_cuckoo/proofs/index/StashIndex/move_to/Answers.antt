use Rattle.std.proofs.Common.{◌∙◌, ap, sym, is_some}
use Rattle.std.specs.Option.{option_map, option_copied_mut}
use Rattle.jc_cuckoo.proofs.Listed.{places_differ}
use Rattle.jc_cuckoo.specs.declared.index.Arrival.{Arrival}
use Rattle.jc_cuckoo.proofs.index.StashIndex.move_to.Goals as goal

pub returns-in-Some-clause-others : goal.returns-in-Some-clause-others
returns-in-Some-clause-others c =
    let w : Arrival = record { at = c.args.at; number = c.in-Some.arrival.now.number } in
    let found = sym (ap is_some c.get_mut.ensures.value) ∙ ap (λ r. is_some (option_copied_mut r)) c.in-Some.is in
    record { hasher = (c.get_mut.follows.holds w).5; same = λ place other. ap (option_map (λ arrival. arrival.at)) (((c.get_mut.follows.holds w).3 found).2 place (places_differ (c.args.id, c.args.key.now) place other)) }
