-- A search for a path over a table.
use Rattle.std.specs.Prelude.{◌≡◌, ℕ, ◌+◌, ◌<◌, ◌≤◌, List}
use Rattle.jc_place.specs.declared.place.Place.{Place}
use Rattle.jc_cuckoo.specs.declared.held.Work.{Work}
use Rattle.jc_cuckoo.specs.declared.queue.Queue.{Queue}
use Rattle.jc_cuckoo.specs.Search.{IsQueue, IsSearched, IsExhausted, IsCounted, queued_bucket}
use Rattle.jc_cuckoo.specs.Table.{Table}

module _ {P M : Type 0} (placing : P → ℕ → List ℕ → Place) (t : Table P M) where
  -- the buckets that a search has reached
  abbrev pub IsQueueOf : Queue → Type 0
  IsQueueOf q = IsQueue (placing t.placer) t.buckets t.cells q

  -- it has looked at so many slots
  abbrev pub IsSearchedTo : Queue → ℕ → Type 0
  IsSearchedTo q looked = IsSearched (placing t.placer) t.buckets t.cells q looked

  -- one that began with these two was counted, and each slot that it looked at
  abbrev pub CountsFrom : Queue → Work → Work → Type 0
  CountsFrom q before after =
      IsCounted (placing t.placer) t.buckets t.cells (queued_bucket q 0) (queued_bucket q 1) before after

  -- no empty slot is near these two
  abbrev pub IsExhaustedFrom : Queue → Type 0
  IsExhaustedFrom q = IsExhausted (placing t.placer) t.buckets t.cells (queued_bucket q 0) (queued_bucket q 1)

-- the two with which it began stay
abbrev pub HasSameStart : Queue → Queue → Type 0
HasSameStart q r = (queued_bucket r 0 ≡ queued_bucket q 0) × (queued_bucket r 1 ≡ queued_bucket q 1)

-- one search was counted at most, and no row was moved
abbrev pub HasSearchLeft : Work → Type 0
HasSearchLeft work = (work.searches ≤ 1) × (work.looked ≤ 256) × (work.moves ≡ 0)

-- a slot was looked at, and 256 at most
abbrev pub LooksAtSome : Work → Work → Type 0
LooksAtSome before after = (before.looked < after.looked) × (after.looked ≤ before.looked + 256)
