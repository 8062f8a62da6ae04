use Rattle.jc_ops.proofs.Names.{◌∙◌}
use Rattle.jc_ops.proofs.Lined.{takes}
use Rattle.jc_ops.proofs.supply.values.Values.for_call.Goals as goal

pub returns : goal.returns
returns g c = record {
  stored = c.in_ok-stored.ensures.value ∙ c.stored_now.ensures;
  told = rw (← c.config.ensures) c.in_ok-stored.ensures.told;
  copy = c.in_ok-copy.ensures ∙ c.handed.ensures;
  shown = λ shows x there. c.in_ok-shown.ensures ∙ c.value_if-2.ensures (c.shows.ensures ∙ shows) c.args.call.now.key x (c.requires.row ((takes c.args.call.now.op).0 shows)) there;
  entry = λ invokes x there. c.in_ok-entry.ensures ∙ c.value_if.ensures (c.is_invoke.ensures ∙ invokes) c.args.call.now.key x (c.requires.row ((takes c.args.call.now.op).1 invokes)) there;
}
