use Rattle.std.proofs.Common.{◌≡◌, sym, subst, ap, ◌∙◌, arith}
use Rattle.std.proofs.lemmas.List.{take_all}
use Rattle.jc_shards.specs.Dealing.{Dealt, in_turn, names_of, GoInTurn}
use Rattle.jc_shards.proofs.Turns.{go_in_turn}
use Rattle.jc_shards.proofs.shard_map.ShardMap.in_turn.Goals as goal

pub returns-clause-go : goal.returns-clause-go
returns-clause-go c = λ apart.
    let seed = c.args.seed in
    let configs = c.args.configs.now in
    let all : c.loop-config.dealing ≡ in_turn seed configs =
    c.loop-config.invariant ∙ ap (in_turn seed) (take_all _ configs (omega (arith, c.loop-config-test.false, c.loop-config.auto.config-index-end))) in
    subst (λ (dealing : Dealt). GoInTurn dealing (names_of configs)) (sym all) (go_in_turn seed configs apart)
