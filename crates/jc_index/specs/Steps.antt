-- What each step leaves of the seat that takes it.
use Rattle.std.specs.Prelude.{◌≡◌, ◌≢◌, ◌⊎◌, ℕ, suc, true, false, List, [], ◌∷◌, ◌++◌, slice_index}
use Rattle.jc_index.specs.Stripes.{ReadsIn, CheckTells, SomeOdd, AreReadAtRest, begun_view, desk, glance, stripes_in}
use Rattle.jc_index.specs.Seats.{StripesSeat, glance_at, last_words, versions_of_seat, words_of_seat}

-- the versions of the other stripes are what they were
abbrev pub HasSameOthers : ℕ → List ℕ → List ℕ → Type 0
HasSameOthers stripe old new = (j : ℕ) → j ≢ stripe → slice_index new j ≡ slice_index old j

module _ {L : Type 0} where
  -- The writer's steps.

  -- only its desk is new: it holds these versions and words
  abbrev pub SetsDesk : List ℕ → List ℕ → StripesSeat L → StripesSeat L → Type 0
  SetsDesk versions words old new = new.me ≡ (record old.me.0 { role = desk versions words }, old.me.1)

  -- only the versions are
  abbrev pub SetsVersions : List ℕ → StripesSeat L → StripesSeat L → Type 0
  SetsVersions versions old new = SetsDesk versions (words_of_seat old) old new

  -- only the words are
  abbrev pub SetsWords : List ℕ → StripesSeat L → StripesSeat L → Type 0
  SetsWords words old new = SetsDesk (versions_of_seat old) words old new

  -- the words are, and are the next of the front
  abbrev pub SealsWords : List ℕ → StripesSeat L → StripesSeat L → Type 0
  SealsWords words old new =
      new.me ≡ (record old.me.0 { role = desk (versions_of_seat old) words; front = old.me.0.front ++ words ∷ [] }, old.me.1)

  -- The reader's steps.

  -- the version of a stripe has been read for the first time
  abbrev pub BeginsStripe : ℕ → ℕ → StripesSeat L → StripesSeat L → Type 0
  BeginsStripe stripe version old new = new.me.0 ≡ begun_view stripe version old.me.0 (glance_at old)

  -- a lookup has begun with these versions
  abbrev pub BeginsLookup : List (ℕ × ℕ) → StripesSeat L → StripesSeat L → Type 0
  BeginsLookup begun old new = new.me.0 ≡ record old.me.0 { role = glance begun [] [] false; lookups = suc old.me.0.lookups }

  -- the word of a place has been read
  abbrev pub AddsNote : ℕ → ℕ → StripesSeat L → StripesSeat L → Type 0
  AddsNote place word old new =
      new.me.0 ≡ record old.me.0 { role = glance (glance_at old).begun (glance_at old).checked ((place, word) ∷ (glance_at old).notes) false }

  -- these are the versions that were read again, and the front may have grown
  abbrev pub HasChecks : List (ℕ × ℕ) → StripesSeat L → StripesSeat L → Type 0
  HasChecks checks old new =
      new.me.0 ≡ record old.me.0 { role = glance (glance_at old).begun checks (glance_at old).notes true; front = new.me.0.front }

  -- one more was
  abbrev pub AddsCheck : ℕ → ℕ → StripesSeat L → StripesSeat L → Type 0
  AddsCheck stripe version old new = HasChecks ((stripe, version) ∷ (glance_at old).checked) old new

  -- what the check of a stripe tells that found this version
  abbrev pub CheckShows : (ℕ → ℕ) → ℕ → ℕ → StripesSeat L → StripesSeat L → Type 0
  CheckShows group stripe version old new = CheckTells group stripe version (last_words new) (glance_at old).notes (glance_at old).begun

  -- What a lookup has come to, from before its check to after it.

  -- the stripes that were read again are those that were read first
  abbrev pub ChecksSameStripes : StripesSeat L → StripesSeat L → Type 0
  ChecksSameStripes old new = stripes_in (glance_at new).checked ≡ stripes_in (glance_at old).begun

  -- what was read under these versions stands in the words that were committed last
  abbrev pub NotesStand : (ℕ → ℕ) → List ℕ → StripesSeat L → StripesSeat L → Type 0
  NotesStand group stripes old new = ReadsIn group stripes (last_words new) (glance_at old).notes

  -- every version was even, and the same when it was read again
  abbrev pub VersionsStayed : StripesSeat L → StripesSeat L → Type 0
  VersionsStayed old new = AreReadAtRest (glance_at old).begun (glance_at new).checked

  -- one was odd, or another when it was read again
  abbrev pub VersionsDiffer : StripesSeat L → StripesSeat L → Type 0
  VersionsDiffer old new = SomeOdd (glance_at old).begun ⊎ ((glance_at old).begun ≢ (glance_at new).checked)
