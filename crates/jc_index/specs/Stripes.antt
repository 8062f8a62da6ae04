-- The rule of words in stripes. First come the versions, and then the content; `group` says which version a place of
-- the content is under.
use Rattle.std.specs.Prelude.{◌≡◌, ℕ, suc, ◌+◌, ◌-◌, ◌%◌, ◌<◌, ◌≤◌, ◌^◌, ◌⊎◌, Bool, true, false, List, [], ◌∷◌, ◌++◌, length, map, slice_index, slice_set, if◌then◌else◌, Option, Some, None}
use mathlib.Core.Option.{some}
use mathlib.Core.List.{IsPrefix}
use lib.ListN.{get_elem?}
use Rattle.atomic_table.specs.Table.{State, Me, Step}
use Rattle.jc_index.specs.StripeLayout.{content_of, versions_at}
use Rattle.jc_index.specs.declared.board.Desk.{Desk}
use Rattle.jc_index.specs.declared.board.Glance.{Glance}
use Rattle.jc_index.specs.declared.board.Role.{Role}
use Rattle.jc_index.specs.declared.board.Role.TheVariants.{Writing, Looking}
use Rattle.jc_index.specs.declared.board.View.{View}
use Rattle.jc_index.specs.declared.board.Origin.{Origin}

abbrev pub Front : Type 0
Front = List (List ℕ)

abbrev pub last_or : {A : Type 0} → A → List A → A
last_or d [] = d
last_or d (x ∷ xs) = last_or x xs

abbrev pub last_of : Front → List ℕ
last_of front = last_or [] front

abbrev pub IsUnder : {L : Type 0} → L → Option L → Type 0
IsUnder law None = Unit {0}
IsUnder law (Some l) = l ≡ law

abbrev pub glance : List (ℕ × ℕ) → List (ℕ × ℕ) → List (ℕ × ℕ) → Bool → Role
glance begun checked notes settled = Looking record { begun = begun; checked = checked; notes = notes; settled = settled }

abbrev pub desk : List ℕ → List ℕ → Role
desk versions words = Writing record { versions = versions; words = words }

abbrev Sat : Type 0 → Type 0
Sat L = Me (Unit {0}) (View L)

abbrev At : Type 0
At = Step (Unit {0})

-- a number is among these
abbrev pub IsOneOf : ℕ → List ℕ → Type 0
IsOneOf j [] = ⊥
IsOneOf j (x ∷ xs) = (j ≡ x) ⊎ IsOneOf j xs

-- each word that was read under one of these versions is what these words have there
abbrev pub ReadsIn : (ℕ → ℕ) → List ℕ → List ℕ → List (ℕ × ℕ) → Type 0
ReadsIn group js words [] = Unit {0}
ReadsIn group js words (n ∷ ns) = (IsOneOf (group n.0) js → slice_index words n.0 ≡ n.1) × ReadsIn group js words ns

-- each of these places is under one of these versions
abbrev pub AreUnderVersions : (ℕ → ℕ) → List ℕ → List (ℕ × ℕ) → Type 0
AreUnderVersions group js [] = Unit {0}
AreUnderVersions group js (w ∷ ws) = IsOneOf (group w.0) js × AreUnderVersions group js ws

-- an odd version stays, and an even one becomes the next
pub record IsVersionOpened (v w : ℕ) : Type 0 where
  pub odd : w % 2 ≡ 1
  pub grows : v ≤ w
  pub little : w ≤ v + 1

-- an odd version becomes the next, but the greatest stays
pub record IsVersionShut (v w : ℕ) : Type 0 where
  pub next : v % 2 ≡ 1 → v + 1 < 2 ^ 64 → w ≡ v + 1
  pub greatest : v + 1 ≡ 2 ^ 64 → w ≡ v
  pub even : v % 2 ≡ 0 → w ≡ v

-- a version after a commit that opened it. The greatest odd number stays
pub record IsVersionCommitted (v w : ℕ) : Type 0 where
  pub next : v + 2 < 2 ^ 64 → w ≡ v + 2
  pub exhausted : 2 ^ 64 ≤ v + 2 → w + 1 ≡ 2 ^ 64

-- these versions are those, but for some at these stripes, which are changed so
pub record Changes (How : ℕ → ℕ → Type 0) (js vs ws : List ℕ) : Type 0 where
  pub there : (j : ℕ) → IsOneOf j js → How (slice_index vs j) (slice_index ws j)
  pub elsewhere : (j : ℕ) → (slice_index ws j ≡ slice_index vs j) ⊎ IsOneOf j js

-- stripes with their versions, the last one first
abbrev pub stack_of : List ℕ → List ℕ → List (ℕ × ℕ) → List (ℕ × ℕ)
stack_of [] vs done = done
stack_of (j ∷ js) [] done = done
stack_of (j ∷ js) (v ∷ vs) done = stack_of js vs ((j, v) ∷ done)

abbrev pub stripes_in : List (ℕ × ℕ) → List ℕ
stripes_in ns = map (λ n. n.0) ns

-- one of these versions is odd
abbrev pub SomeOdd : List (ℕ × ℕ) → Type 0
SomeOdd [] = ⊥
SomeOdd (n ∷ ns) = (n.1 % 2 ≡ 1) ⊎ SomeOdd ns

-- every version that was read was even, and the same when it was read again
abbrev pub AreReadAtRest : List (ℕ × ℕ) → List (ℕ × ℕ) → Type 0
AreReadAtRest begun checked = (SomeOdd begun → ⊥) × (begun ≡ checked)

-- the desk of a writer's seat, and the glance of a reader's
abbrev pub desk_in : Role → Desk
desk_in (Writing d) = d
desk_in (Looking g) = record { versions = []; words = [] }

abbrev pub glance_in : Role → Glance
glance_in (Writing d) = record { begun = []; checked = []; notes = []; settled = true }
glance_in (Looking g) = g

abbrev pub desk_of : {L : Type 0} → View L → Desk
desk_of v = desk_in v.role

abbrev pub glance_of : {L : Type 0} → View L → Glance
glance_of v = glance_in v.role

abbrev pub IsWriter : {L : Type 0} → View L → Type 0
IsWriter v = v.role ≡ Writing (desk_of v)

abbrev pub IsReader : {L : Type 0} → View L → Type 0
IsReader v = v.role ≡ Looking (glance_of v)

abbrev pub set_all : List ℕ → List (ℕ × ℕ) → List ℕ
set_all words [] = words
set_all words (x ∷ xs) = set_all (slice_set words x.0 x.1) xs

abbrev pub front_before : {L : Type 0} → Origin L → Front
front_before o = elim o.before [ None ↦ [] | Some p ↦ p.value.me.0.front ]

abbrev pub opening_view : {L : Type 0} → Origin L → View L
opening_view o = record { law = Some o.law.value; role = desk (versions_at o.start) (content_of o.words.value.items); front = front_before o ++ content_of o.words.value.items ∷ []; told = []; lookups = 0 }

-- a reader's seat that knows the front of v
abbrev pub reader_view : {L : Type 0} → View L → View L
reader_view v = record { law = v.law; role = glance [] [] [] true; front = v.front; told = []; lookups = 0 }

abbrev pub joined_view : {L : Type 0} → View L → View L → View L
joined_view v w = record v { told = w.front }

abbrev pub nobody_view : {L : Type 0} → View L
nobody_view = record { law = None; role = glance [] [] [] true; front = []; told = []; lookups = 0 }

abbrev pub VersionStep : {L : Type 0} → At → Sat L → ℕ → Sat L → Type 0
VersionStep st m n m' = (d : Desk) → m.0.role ≡ Writing d → m' ≡ (record m.0 { role = desk (slice_set d.versions st.word st.first) d.words }, m.1)

abbrev pub SetStep : {L : Type 0} → ℕ → At → Sat L → ℕ → Sat L → Type 0
SetStep many st m n m' = (d : Desk) → m.0.role ≡ Writing d → m' ≡ (record m.0 { role = desk d.versions (slice_set d.words (st.word - many) st.first) }, m.1)

abbrev pub SealStep : {L : Type 0} → ℕ → At → Sat L → ℕ → Sat L → Type 0
SealStep many st m n m' = (d : Desk) → m.0.role ≡ Writing d
    → m' ≡ (record m.0 { role = desk d.versions (slice_set d.words (st.word - many) st.first); front = m.0.front ++ slice_set d.words (st.word - many) st.first ∷ [] }, m.1)

-- the first begin after a check forgets the lookup before it, and is the one that counts
abbrev pub begun_view : {L : Type 0} → ℕ → ℕ → View L → Glance → View L
begun_view j n v g = record v {
  role = glance ((j, n) ∷ (if g.settled then [] else g.begun)) [] [] false;
  lookups = if g.settled then suc v.lookups else v.lookups;
}

abbrev pub BeginStep : {L : Type 0} → At → Sat L → ℕ → Sat L → Type 0
BeginStep st m n m' = (g : Glance) → m.0.role ≡ Looking g → m' ≡ (begun_view st.word n m.0 g, m.1)

abbrev pub NoteStep : {L : Type 0} → ℕ → At → Sat L → ℕ → Sat L → Type 0
NoteStep many st m n m' = (g : Glance) → m.0.role ≡ Looking g → m' ≡ (record m.0 { role = glance g.begun g.checked ((st.word - many, n) ∷ g.notes) g.settled }, m.1)

abbrev pub RecallStep : {L : Type 0} → At → Sat L → ℕ → Sat L → Type 0
RecallStep st m n m' = (d : Desk) → m.0.role ≡ Writing d → (m' ≡ m) × IsPrefix m.0.told m.0.front

module _ (group : ℕ → ℕ) where
  -- each word that was read in the stripe j is what these words have there
  abbrev pub ReadsUnder : ℕ → List ℕ → List (ℕ × ℕ) → Type 0
  ReadsUnder j words [] = Unit {0}
  ReadsUnder j words (n ∷ ns) = (group n.0 ≡ j → slice_index words n.0 ≡ n.1) × ReadsUnder j words ns

  -- while a version is what it was, and even, what was read in its stripe stands in `base`
  abbrev pub NotesHold : List ℕ → List ℕ → List (ℕ × ℕ) → List (ℕ × ℕ) → Type 0
  NotesHold versions base notes [] = Unit {0}
  NotesHold versions base notes (b ∷ bs) =
      ((b.1 ≤ slice_index versions b.0) × (b.1 % 2 ≡ 0 → b.1 ≡ slice_index versions b.0 → ReadsUnder b.0 base notes)) × NotesHold versions base notes bs

  -- what a check of the stripe j tells that found n
  abbrev pub CheckTells : ℕ → ℕ → List ℕ → List (ℕ × ℕ) → List (ℕ × ℕ) → Type 0
  CheckTells j n base notes [] = Unit {0}
  CheckTells j n base notes (b ∷ bs) = (b.0 ≡ j → b.1 % 2 ≡ 0 → b.1 ≡ n → ReadsUnder j base notes) × CheckTells j n base notes bs

  -- before the first check what was read is compared with the words, then with the content that was last at that check
  abbrev pub base_of : List ℕ → Front → Bool → List ℕ
  base_of words mine true = last_of mine
  base_of words mine false = words

  module _ {L : Type 0} (law : L) (versions words : List ℕ) (front : Front) (writer seat : ℕ) where
    abbrev pub RoleHolds : Front → Role → Type 0
    RoleHolds mine (Writing d) = (seat ≡ writer) × (d.versions ≡ versions) × (d.words ≡ words) × (mine ≡ front)
    RoleHolds mine (Looking g) = NotesHold versions (base_of words mine g.settled) g.notes g.begun

    abbrev pub KnowsBoard : View L → Type 0
    KnowsBoard v = IsPrefix v.front front × IsPrefix v.told front × IsUnder law v.law × RoleHolds v.front v.role

  pub record BoardRule {L : Type 0} (many : ℕ) (admits : L → List ℕ → Type 0) (law : L) (s : State (Unit {0}) (View L)) : Type 0 where
    pub versions : List ℕ
    pub words : List ℕ
    pub front : Front
    pub writer : ℕ
    pub laid : s.words ≡ versions ++ words
    pub counted : length versions ≡ many
    pub at_rest : (i : ℕ) → slice_index versions (group i) % 2 ≡ 0 → slice_index words i ≡ slice_index (last_of front) i
    pub lawful : admits law (last_of front)
    pub each_seat : (j : ℕ) (v : View L) → get_elem? s.views j ≡ some v → KnowsBoard law versions words front writer j v

  -- the first check sees the front so far, and a later one keeps that front
  abbrev pub CheckStep : {L : Type 0} → (L → List ℕ → Type 0) → At → Sat L → ℕ → Sat L → Type 0
  CheckStep {L = L} admits st m n m' = (g : Glance) → m.0.role ≡ Looking g
      → IsPrefix m.0.front m'.0.front × (m' ≡ (record m.0 { role = glance g.begun ((st.word, n) ∷ g.checked) g.notes true; front = m'.0.front }, m.1)) × (g.settled ≡ true → m'.0.front ≡ m.0.front)
      × CheckTells st.word n (last_of m'.0.front) g.notes g.begun
      × ((l : L) → m.0.law ≡ Some l → g.settled ≡ false → admits l (last_of m'.0.front))
