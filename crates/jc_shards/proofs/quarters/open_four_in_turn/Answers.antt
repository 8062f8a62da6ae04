use Rattle.std.proofs.Common.{List, Result, Ok, Err, IfOk, sym, subst}
use Rattle.jc_shards.specs.Dealing.{Dealt, names_of, AreApart, GoInTurn}
use Rattle.jc_model.specs.declared.config.CacheConfig.{CacheConfig}
use Rattle.jc_shards.proofs.Apart.{apart}
use Rattle.jc_shards.proofs.quarters.open_four_in_turn.Goals as goal

both : {X E : Type 0} (r : Result X E) (P Q R : X → Type 0) → ((x : X) → P x → Q x → R x) → IfOk r P → IfOk r Q → IfOk r R
both (Ok x) P Q R gives p q = gives x p q
both (Err e) P Q R gives p q = tt

pub returns-in-Ok-clause-go : goal.returns-in-Ok-clause-go
returns-in-Ok-clause-go g c =
    let configs = c.args.configs.items in
    let dealing = c.in-Ok.dealing in
    let go : AreApart (names_of configs) → GoInTurn dealing (names_of configs) =
    subst (λ (cs : List CacheConfig). AreApart (names_of cs) → GoInTurn dealing (names_of cs)) c.as_slice.ensures.value c.in-Ok.ensures.go in
    both c.open_four.result _ _ (λ four. GoInTurn four.dealing (names_of configs))
    (λ four is has. subst (λ (d : Dealt). GoInTurn d (names_of configs)) (sym is) (go (apart dealing configs c.args.seed four.left.left four.left.right four.right.left four.right.right has)))
    c.open_four.ensures.dealing c.open_four.ensures.dealt
