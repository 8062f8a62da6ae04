-- What the next step needs, and what the steps after it still have when it is done.
use Rattle.std.proofs.Common.{◌≡◌, ◌+◌, ℕ, Bool, List, ◌∷◌, length, Some, add-one, arith}
use Rattle.std.proofs.lemmas.Bool.Decides.{nat_tests}
use Rattle.std.proofs.lemmas.Grind.{common_steps}
use Rattle.jc_ops.proofs.Told.{most_three, most_absent}
use Rattle.jc_bulk.proofs.Names.{most_told, HasRoom, adds, Ahead, Provided, CallSum, keys_in, calls_ahead, items_of, IsReady, IsAheadOf, AreReady, AreCoveredIn, places_ahead, HasPlacesIn, HasRoomFrom, UsesRoomForOne, Visited, SpendsAtMost}

-- a step on this key is done, which told at most so many notices: the steps after it have all that they need
pub ready_after : (v w : Visited) (key : List ℕ) (most : ℕ) (a : Ahead) (sum : CallSum) → IsAheadOf key a → HasPlacesIn (places_ahead a + most) v → HasRoomFrom (Some a) v.spare → SpendsAtMost 1 most v w
    → AreCoveredIn w a.rest.items → sum.done ≡ a.sum.done + 1 → UsesRoomForOne a.sum.collected sum.collected → AreReady w (record a { sum = sum })
ready_after v w key most a sum ahead places room spends covered done lists = record {
  ahead = record {
    apart = grind (arith, common_steps, ahead.apart);
    lists = lists (length (keys_in (calls_ahead a))) (rw add-one ahead.lists);
    few = omega (arith, ahead.few);
    adding = ahead.adding;
    telling = ahead.telling;
  };
  covered = covered;
  places = λ listens. omega (arith, places (rw spends.same.config at listens));
  room = λ e. omega (arith, room e);
}

-- of steps that have all that they need, the first and those after it
module _ (v : Visited) (p : Provided) (a : Ahead) (r : IsReady v.cache.config (items_of v.cache.cells) v.noted v.spare (p ∷ a.rest.items) a.sum a.needs) where
  pub first_ahead : IsAheadOf p.call.key a
  first_ahead = record {
    apart = r.ahead.apart;
    lists = r.ahead.lists;
    few = r.ahead.few;
    adding = λ e. grind (arith, common_steps, r.ahead.adding e);
    telling = λ e. grind (arith, common_steps, r.ahead.telling e);
  }

  -- places for the first step and for those after it, whether or not its key has a live row
  pub first_and_rest : (there : Bool) → HasPlacesIn (places_ahead a + most_told there p.call.op) v
  first_and_rest there = λ listens. grind (arith, common_steps, nat_tests, r.places listens, most_absent there p.call.op, most_three p.call.op, r.ahead.telling)

  pub first_room : (there : Bool) → HasRoom (adds there v.cache.config.writer p.call.op) v.spare
  first_room there = λ adding. grind (arith, common_steps, r.room, r.ahead.adding)
