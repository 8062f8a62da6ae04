-- A search for a path: buckets in the order in which they were reached.
use Rattle.std.specs.Prelude.{◌≡◌, ◌≢◌, ◌⊎◌, ℕ, zero, suc, ◌+◌, ◌*◌, ◌/◌, ◌%◌, ◌<◌, ◌≤◌, List, length, slice_index_or, Option, Some, None}
use Rattle.jc_place.specs.declared.place.Place.{Place}
use Rattle.jc_place.specs.Place.{alternate_of}
use Rattle.jc_cuckoo.specs.declared.held.Held.{Held}
use Rattle.jc_cuckoo.specs.declared.held.Work.{Work}
use Rattle.jc_cuckoo.specs.declared.queue.Queue.{Queue}
use Rattle.jc_cuckoo.specs.Cells.{held_place, cell, first_bucket, second_bucket, IsBucketOf, IsFull, IsSlotVacant}

abbrev pub queued_bucket : Queue → ℕ → ℕ
queued_bucket q j = slice_index_or q.buckets j 0

abbrev pub queued_slot : Queue → ℕ → ℕ
queued_slot q j = slice_index_or q.slots j 0

abbrev pub queued_tag : Queue → ℕ → ℕ
queued_tag q j = slice_index_or q.tags j 0

abbrev pub queued_parent : Queue → ℕ → ℕ
queued_parent q j = slice_index_or q.parents j 0

abbrev pub queued_depth : Queue → ℕ → ℕ
queued_depth q j = slice_index_or q.depths j 0

-- the row in a slot of an earlier bucket could move to this one
pub record IsStep (p : ℕ → List ℕ → Place) (n : ℕ) (cells : List (Option Held)) (q : Queue) (j : ℕ) : Type 0 where
  pub parent : queued_parent q j < j
  pub slot : queued_slot q j / 4 ≡ queued_bucket q (queued_parent q j)
  pub below : queued_slot q j < 4 * n
  pub held : Held
  pub is : cell cells (queued_slot q j) ≡ Some held
  pub tag : queued_tag q j ≡ (p held.id held.key).tag
  pub other : queued_bucket q j ≡ alternate_of n (queued_tag q j) (queued_slot q j / 4)
  pub home : IsBucketOf p n (held_place held) (queued_bucket q j)
  pub depth : queued_depth q j ≡ queued_depth q (queued_parent q j) + 1

pub record IsSized (q : Queue) : Type 0 where
  pub buckets : length q.buckets ≡ 64
  pub slots : length q.slots ≡ 64
  pub tags : length q.tags ≡ 64
  pub parents : length q.parents ≡ 64
  pub depths : length q.depths ≡ 64

-- two buckets at first, each other one reached from an earlier one by at most five moves; no bucket twice
pub record IsQueue (p : ℕ → List ℕ → Place) (n : ℕ) (cells : List (Option Held)) (q : Queue) : Type 0 where
  pub wide : IsSized q
  pub first_depth : queued_depth q 0 ≡ 0
  pub second_depth : queued_depth q 1 ≡ 0
  pub some : 2 ≤ q.count
  pub few : q.count ≤ 64
  pub below : (j : ℕ) → j < q.count → queued_bucket q j < n
  pub near : (j : ℕ) → j < q.count → queued_depth q j ≤ 5
  pub apart : (i j : ℕ) → i < q.count → j < q.count → queued_bucket q i ≡ queued_bucket q j → i ≡ j
  pub steps : (j : ℕ) → 2 ≤ j → j < q.count → IsStep p n cells q j

-- what was reached stays
pub record Grows (q r : Queue) : Type 0 where
  pub count : q.count ≤ r.count
  pub buckets : (j : ℕ) → j < q.count → queued_bucket r j ≡ queued_bucket q j
  pub depths : (j : ℕ) → j < q.count → queued_depth r j ≡ queued_depth q j

-- the slot looked at as number j
abbrev pub looked_slot : Queue → ℕ → ℕ
looked_slot q j = 4 * queued_bucket q (j / 4) + j % 4

-- the end of a path: a bucket of the queue with an empty slot
pub record IsEnd (cells : List (Option Held)) (q : Queue) (found : ℕ × ℕ) : Type 0 where
  pub queued : found.0 < q.count
  pub vacant : IsSlotVacant cells (queued_bucket q found.0) found.1

-- The buckets that a row can reach by so many moves. A move leads from a bucket to the other bucket of a row in it.

abbrev pub IsMove : (ℕ → List ℕ → Place) → ℕ → List (Option Held) → ℕ → ℕ → Type 0
IsMove p n cells from to = (i : ℕ) × (h : Held) × (i < 4 * n) × (i / 4 ≡ from) × (cell cells i ≡ Some h) × (to ≡ alternate_of n (p h.id h.key).tag from)

abbrev pub Reaches : (ℕ → List ℕ → Place) → ℕ → List (Option Held) → ℕ → ℕ → ℕ → ℕ → Type 0
Reaches p n cells one two zero b = (b ≡ one) ⊎ (b ≡ two)
Reaches p n cells one two (suc k) b = Reaches p n cells one two k b ⊎ ((a : ℕ) × Reaches p n cells one two k a × IsMove p n cells a b)

abbrev pub IsAmong : List ℕ → ℕ → Type 0
IsAmong bs b = (j : ℕ) × (j < length bs) × (slice_index_or bs j 0 ≡ b)

-- sixty-four full buckets, with each that is reached by fewer moves than one of them
pub record IsWide (p : ℕ → List ℕ → Place) (n : ℕ) (cells : List (Option Held)) (one two : ℕ) (bs : List ℕ) : Type 0 where
  pub many : length bs ≡ 64
  pub apart : (i j : ℕ) → i < 64 → j < 64 → slice_index_or bs i 0 ≡ slice_index_or bs j 0 → i ≡ j
  pub full : (b : ℕ) → IsAmong bs b → IsFull cells b
  pub nearest : (b a k : ℕ) → IsAmong bs b → Reaches p n cells one two k a → (Reaches p n cells one two k b → ⊥) → IsAmong bs a

-- no empty slot is near two buckets: both are full, and so is every bucket within five moves, or 64 of the nearest
pub record IsExhausted (p : ℕ → List ℕ → Place) (n : ℕ) (cells : List (Option Held)) (one two : ℕ) : Type 0 where
  pub first : IsFull cells one
  pub second : IsFull cells two
  pub far : ((b : ℕ) → Reaches p n cells one two 5 b → IsFull cells b) ⊎ ((bs : List ℕ) × IsWide p n cells one two bs)

-- when a row may go to the stash: no empty slot is near its two buckets
abbrev pub IsLastResort : (ℕ → List ℕ → Place) → ℕ → List (Option Held) → ℕ × List ℕ → Type 0
IsLastResort p n cells place = IsExhausted p n cells (first_bucket p n place) (second_bucket p n place)

-- a bucket was reached, by no more than so many moves
abbrev pub IsIn : Queue → ℕ → ℕ → Type 0
IsIn q b d = (m : ℕ) × (m < q.count) × (queued_bucket q m ≡ b) × (queued_depth q m ≤ d)

-- of each slot looked at, the row's other bucket was reached by one move more at most, or 64 buckets were reached that
-- are no farther
pub record IsClosed (p : ℕ → List ℕ → Place) (n : ℕ) (cells : List (Option Held)) (q : Queue) (looked : ℕ) : Type 0 where
  pub closed : (j : ℕ) (h : Held) → j < looked → queued_depth q (j / 4) < 5 → cell cells (looked_slot q j) ≡ Some h
      → IsIn q (alternate_of n (p h.id h.key).tag (queued_bucket q (j / 4))) (queued_depth q (j / 4) + 1) ⊎ ((q.count ≡ 64) × ((m : ℕ) → m < q.count → queued_depth q m ≤ queued_depth q (j / 4) + 1))

-- how far a search is: depths do not fall along the queue, and no bucket is farther than a move from the one that is
-- looked at, or from a later one
pub record IsSearched (p : ℕ → List ℕ → Place) (n : ℕ) (cells : List (Option Held)) (q : Queue) (looked : ℕ) : Type 0 where
  pub sorted : (i j : ℕ) → i ≤ j → j < q.count → queued_depth q i ≤ queued_depth q j
  pub ahead : (m k : ℕ) → m < q.count → k < q.count → looked ≤ 4 * k + 3 → queued_depth q m ≤ queued_depth q k + 1
  pub closed : IsClosed p n cells q looked

-- How many slots a search looks at: those of a queue of buckets, one after the other.

-- the last one is empty, and all before it hold rows
pub record EndsEmpty (p : ℕ → List ℕ → Place) (n : ℕ) (cells : List (Option Held)) (q : Queue) (looked : ℕ) : Type 0 where
  pub before : ℕ
  pub count : looked ≡ before + 1
  pub inside : before < 4 * q.count
  pub full : (j : ℕ) → j < before → cell cells (looked_slot q j) ≢ None
  pub empty : cell cells (looked_slot q before) ≡ None
  pub searched : IsSearched p n cells q before

-- they are all of the queue's, and hold rows
pub record EndsFull (p : ℕ → List ℕ → Place) (n : ℕ) (cells : List (Option Held)) (q : Queue) (looked : ℕ) : Type 0 where
  pub all : looked ≡ 4 * q.count
  pub full : (j : ℕ) → j < looked → cell cells (looked_slot q j) ≢ None
  pub searched : IsSearched p n cells q looked

pub record IsSearch (p : ℕ → List ℕ → Place) (n : ℕ) (cells : List (Option Held)) (one two looked : ℕ) : Type 0 where
  pub queue : Queue
  pub is : IsQueue p n cells queue
  pub first : queued_bucket queue 0 ≡ one
  pub second : queued_bucket queue 1 ≡ two
  pub end : EndsEmpty p n cells queue looked ⊎ EndsFull p n cells queue looked

-- a search was counted, and each slot that it looked at
pub record IsCounted (p : ℕ → List ℕ → Place) (n : ℕ) (cells : List (Option Held)) (one two : ℕ) (before after : Work) : Type 0 where
  pub slots : ℕ
  pub search : IsSearch p n cells one two slots
  pub looked : after.looked ≡ before.looked + slots
  pub searches : after.searches ≡ before.searches + 1
