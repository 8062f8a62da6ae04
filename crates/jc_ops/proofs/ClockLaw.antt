-- CLOCK: which row makes room.
use Rattle.std.proofs.Common.{◌≡◌, ℕ, List, [], ◌∷◌, ◌++◌, refl, arith}
use Rattle.std.proofs.lemmas.Grind.{common_steps}
use Rattle.jc_ops.specs.Clock.{AreInUse, FirstUnusedGoes, ElseFirstGoes}
use Rattle.jc_ops.proofs.StateNames.{CacheConfig, Item, Progress, before_stop, from_stop, turned, with_ring, evicted, make_room}

-- the hand passes the rows that are in use
passes : (now : ℕ) (before rest : List Item) → AreInUse now before → (from_stop now (before ++ rest) ≡ from_stop now rest) × (before_stop now (before ++ rest) ≡ before ++ before_stop now rest)
passes now [] rest h = (refl, refl)
passes now (x ∷ xs) rest h = grind (arith, common_steps, h.0, h.1, passes now xs rest h.2)

made : (c : CacheConfig) (now : ℕ) (p : Progress) (x : Item) (rest : List Item) → turned now p.state.ring ≡ x ∷ rest → make_room c now p ≡ evicted c now x (with_ring rest p)
made c now p x rest e = rw (e, make_room)

pub first_unused_goes : FirstUnusedGoes
first_unused_goes c now p before x after e h w = grind (arith, common_steps, made, passes now before (x ∷ after) h)

pub else_first_goes : ElseFirstGoes
else_first_goes c now p x rest e h = grind (arith, common_steps, made, passes now (x ∷ rest) [] h)
