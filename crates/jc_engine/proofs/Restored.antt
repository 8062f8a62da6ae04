-- A cache that is restored, as it comes to the manager or is let go.
use Rattle.std.proofs.Common.{◌≡◌, ◌<◌, ℕ, [], length, None, ◌∙◌, arith}
use Rattle.jc_engine.proofs.Names.{Idle, RowMap, Tied, SameElsewhere, Slot, IsAt, IsManaged}
use Rattle.jc_model.specs.Limits.{most_ids}
use Rattle.jc_ops.specs.Visited.{Visited}
use Rattle.jc_engine.specs.Managed.{IsReady, RestsAgain}
use Rattle.jc_engine.proofs.Places.{Within, stands}

tied_none : (m : RowMap) (id : ℕ) → IsAt m id None → Tied m id []
tied_none m id none = record { distinct = tt; placed = tt; found = λ k r e at. absurd (let no = none k in cc) }

module _ (w : Within) (cache : Slot) (id_is : cache.state.id ≡ length w.members) (below : length w.members < most_ids) where
  apart : w.visit.cache.id ≡ cache.state.id → ⊥
  apart same = omega (arith, w.is.spare.id_is, id_is, below, same)

  pub new_ready : cache.state.cells ≡ [] → cache.turn ≡ Idle → IsReady cache w.visit
  new_ready none idle = record {
    kept = record {
      tied = rw (none, id_is) (tied_none w.visit.table (length w.members) (stands w (length w.members) (w.is.beyond (length w.members) (omega arith))));
      within = rw none (omega arith);
    };
    waits = rw idle tt;
    empty = w.is.spare.empty;
    apart = apart;
    untold = w.is.untold;
  }

  pub managed_ready : (n : Visited) → IsManaged n.table cache.state.id cache → RestsAgain w.visit n → IsReady cache n
  managed_ready n is rests = record {
    kept = is.kept;
    waits = is.waits;
    empty = rw rests.cache w.is.spare.empty;
    apart = rw rests.cache apart;
    untold = rests.untold;
  }

pub same_twice : (id : ℕ) (m n o : RowMap) → SameElsewhere id m n → SameElsewhere id n o → SameElsewhere id m o
same_twice id m n o first then other key differ = then other key differ ∙ first other key differ

pub rests_twice : (u v w : Visited) → RestsAgain u v → RestsAgain v w → RestsAgain u w
rests_twice u v w first then = record { cache = then.cache ∙ first.cache; untold = then.untold }
