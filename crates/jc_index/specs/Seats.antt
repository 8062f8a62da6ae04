-- Seats at the shared words: what they know of the table, of the law and of the front.
use Rattle.std.specs.Prelude.{◌≡◌, ◌+◌, ◌<◌, ◌≤◌, ◌^◌, ◌%◌, ℕ, List, [], ◌∷◌, ◌++◌, All, Some, slice_index}
use mathlib.Core.List.{IsPrefix}
use Rattle.atomic_table.specs.Seated.{TableId}
use Rattle.atomic_table.specs.declared.shared.Seat.{Seat}
use Rattle.jc_index.specs.StripeLayout.{content_of, version_count}
use Rattle.jc_index.specs.Stripes.{Changes, IsVersionCommitted, desk_of, glance_of, last_of, set_all, reader_view}
use Rattle.jc_index.specs.declared.board.Glance.{Glance}
use Rattle.jc_index.specs.declared.board.View.{View}

-- the writer's or a reader's seat
abbrev pub StripesSeat : Type 0 → Type 0
StripesSeat L = Seat (Unit {0}) (View L)

module _ {T V : Type 0} where
  -- it is at this table
  abbrev pub IsSeated : TableId → Seat T V → Type 0
  IsSeated table seat = seat.table_id ≡ table

  -- two seats are at one table
  abbrev pub HasSameTable : Seat T V → Seat T V → Type 0
  HasSameTable old new = new.table_id ≡ old.table_id

  -- they know the same
  abbrev pub HasSameView : Seat T V → Seat T V → Type 0
  HasSameView old new = new.me.0 ≡ old.me.0

  -- they know the same of one table
  abbrev pub KnowsSame : Seat T V → Seat T V → Type 0
  KnowsSame old new = HasSameView old new × HasSameTable old new

  -- they are one seat, whatever it knows
  abbrev pub IsSameSeat : Seat T V → Seat T V → Type 0
  IsSameSeat old new = (new.table_id ≡ old.table_id) × (new.id ≡ old.id)

module _ {L : Type 0} where
  -- The table.

  -- it is at this table, which has all versions
  abbrev pub HasVersions : TableId → StripesSeat L → Type 0
  HasVersions table seat = IsSeated table seat × (version_count ≤ seat.table_id.words)

  -- it is at this table, which has this place
  abbrev pub HasWordPlace : ℕ → TableId → StripesSeat L → Type 0
  HasWordPlace place table seat = IsSeated table seat × (version_count + place < seat.table_id.words) × (seat.table_id.words < 2 ^ 63)

  -- its table has the places of these writes
  abbrev pub HasWordPlaces : List (ℕ × ℕ) → StripesSeat L → Type 0
  HasWordPlaces writes seat = All (λ w. version_count + w.0 < seat.table_id.words) writes

  -- The front.

  -- the words that were committed last
  abbrev pub last_words : StripesSeat L → List ℕ
  last_words seat = last_of seat.me.0.front

  abbrev pub HasSameFront : StripesSeat L → StripesSeat L → Type 0
  HasSameFront old new = new.me.0.front ≡ old.me.0.front

  abbrev pub HasSameTableAndFront : StripesSeat L → StripesSeat L → Type 0
  HasSameTableAndFront old new = HasSameTable old new × HasSameFront old new

  -- the front of the first begins that of the second
  abbrev pub FrontIsPrefix : StripesSeat L → StripesSeat L → Type 0
  FrontIsPrefix old new = IsPrefix old.me.0.front new.me.0.front

  -- a reader's seat has just been cut off the writer's
  abbrev pub IsShared : StripesSeat L → StripesSeat L → Type 0
  IsShared writer reader = reader.me.0 ≡ reader_view writer.me.0

  -- and is at its table
  abbrev pub HasMet : StripesSeat L → StripesSeat L → Type 0
  HasMet writer reader = IsShared writer reader × HasSameTable writer reader

  -- nothing is new but what it was told
  abbrev pub IsSameButTold : StripesSeat L → StripesSeat L → Type 0
  IsSameButTold old new = (new.me.0 ≡ record old.me.0 { told = new.me.0.told }) × HasSameTable old new

  -- The law.

  abbrev pub HasLaw : L → StripesSeat L → Type 0
  HasLaw law seat = seat.me.0.law ≡ Some law

  abbrev pub HasSameTableAndLaw : StripesSeat L → StripesSeat L → Type 0
  HasSameTableAndLaw old new = HasSameTable old new × (new.me.0.law ≡ old.me.0.law)

  -- under this law the content of these words is all of the front
  abbrev pub StartsFront : L → List ℕ → StripesSeat L → Type 0
  StartsFront law words seat = HasLaw law seat × (seat.me.0.front ≡ content_of words ∷ [])

  -- under this law it is the next of another seat's front
  abbrev pub ExtendsFront : L → List ℕ → StripesSeat L → StripesSeat L → Type 0
  ExtendsFront law words old new = HasLaw law new × (new.me.0.front ≡ old.me.0.front ++ content_of words ∷ [])

  -- the law of the seat admits these words
  abbrev pub AdmitsWords : (L → List ℕ → Type 0) → StripesSeat L → List ℕ → Type 0
  AdmitsWords admits seat words = (l : L) × (seat.me.0.law ≡ Some l) × admits l words

  -- and the words that these writes make
  abbrev pub AdmitsWrites : (L → List ℕ → Type 0) → StripesSeat L → List (ℕ × ℕ) → Type 0
  AdmitsWrites admits seat writes = AdmitsWords admits seat (set_all (last_words seat) writes)

  -- the law that the seat had, if it had one, admits what was committed last
  abbrev pub AdmitsLast : (L → List ℕ → Type 0) → StripesSeat L → StripesSeat L → Type 0
  AdmitsLast admits old new = (l : L) → HasLaw l old → admits l (last_words new)

  -- What a writer and a reader hold.

  abbrev pub versions_of_seat : StripesSeat L → List ℕ
  versions_of_seat seat = (desk_of seat.me.0).versions

  abbrev pub words_of_seat : StripesSeat L → List ℕ
  words_of_seat seat = (desk_of seat.me.0).words

  abbrev pub glance_at : StripesSeat L → Glance
  glance_at seat = glance_of seat.me.0

  -- the version of this stripe is odd
  abbrev pub StripeIsOpen : ℕ → StripesSeat L → Type 0
  StripeIsOpen stripe seat = slice_index (versions_of_seat seat) stripe % 2 ≡ 1

  -- A commit.

  -- the words that these writes make are the next of the front
  abbrev pub CommitsWrites : List (ℕ × ℕ) → StripesSeat L → StripesSeat L → Type 0
  CommitsWrites writes old new = new.me.0.front ≡ old.me.0.front ++ set_all (last_words old) writes ∷ []

  -- the versions of these stripes were opened and shut
  abbrev pub CommitsVersions : List ℕ → StripesSeat L → StripesSeat L → Type 0
  CommitsVersions stripes old new = Changes IsVersionCommitted stripes (versions_of_seat old) (versions_of_seat new)
