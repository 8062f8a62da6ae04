-- Capacities that are read one after the other.
use Rattle.std.proofs.Common.{◌≡◌, ◌≤◌, ◌<◌, ℕ, ◌+◌, List, [], ◌∷◌, ◌++◌, Some, None, Option, Vec, Global, MatchOption, option_map, length, drop, get_or, drop_of_length-le, append_assoc, append-nil, ap, Bor}
use Rattle.std.proofs.lemmas.List.{drop_more}
use Rattle.clap.specs.Words.{Text}
use Rattle.jc_cli.specs.Program.{AreCapacities, ListsCapacities, SaysCapacity, SaysNoCapacity, ListsNoCapacities, texts_lent}

abbrev pub Parts : Type 0
Parts = List (Bor (List ℕ))

pub next_part : (parts : Parts) (i : ℕ) (d : Bor (List ℕ)) → i < length parts → texts_lent (drop i parts) ≡ (get_or parts i d).now ∷ texts_lent (drop (i + 1) parts)
next_part parts i d below = ap texts_lent (drop_more parts i d below)

pub no_part : (parts : Parts) (i : ℕ) → length parts ≤ i → texts_lent (drop i parts) ≡ []
no_part parts i past = ap texts_lent (drop_of_length-le parts past)

-- so many were read of all texts, and these are left
pub record IsSoFar (all : List Text) (read : List ℕ) (left : List Text) : Type 0 where
  pub front : (ns : List ℕ) → AreCapacities left ns → AreCapacities all (read ++ ns)
  pub back : (ns : List ℕ) → AreCapacities all ns → (ms : List ℕ) × AreCapacities left ms

pub at_first : (all : List Text) → IsSoFar all [] all
at_first all = record { front = λ ns h. h; back = λ ns h. (ns, h) }

rest : (text : Text) (left : List Text) (ms : List ℕ) → AreCapacities (text ∷ left) ms → (ns : List ℕ) × AreCapacities left ns
rest text left [] h = absurd h
rest text left (m ∷ ms) h = (ms, h.1)

pub goes_on : (all : List Text) (read : List ℕ) (text : Text) (left : List Text) (n : ℕ) → SaysCapacity text n → IsSoFar all read (text ∷ left) → IsSoFar all (read ++ n ∷ []) left
goes_on all read text left n is so_far = record {
  front = λ ns h. rw (append_assoc) (so_far.front (n ∷ ns) (is, h));
  back = λ ns h. let (ms, more) = so_far.back ns h in rest text left ms more;
}

pub is_done : (all : List Text) (read : List ℕ) → IsSoFar all read [] → AreCapacities all read
is_done all read so_far = let h = so_far.front [] tt in rw (append-nil read) at h

none : (text : Text) (left : List Text) (ms : List ℕ) → SaysNoCapacity text → AreCapacities (text ∷ left) ms → ⊥
none text left [] never h = h
none text left (m ∷ ms) never h = never m h.0.0 h.0.1

pub stops : (all : List Text) (read : List ℕ) (text : Text) (left : List Text) → SaysNoCapacity text → IsSoFar all read (text ∷ left) → (ns : List ℕ) → AreCapacities all ns → ⊥
stops all read text left never so_far ns h = let (ms, more) = so_far.back ns h in none text left ms never more

-- whether a text lists capacities, and which, as a reader tells
abbrev pub IsRead : Text → Option (Vec ℕ Global) → Type 0
IsRead text read = MatchOption read (ListsNoCapacities (Some text)) (λ v. ListsCapacities (Some text) v.items)

pub listed : (first : Option Text) (text : Text) (o : Option (Vec ℕ Global)) (v : Vec ℕ Global) → first ≡ Some text → o ≡ Some v → IsRead text o → ListsCapacities first v.items
listed first text o v is made read = rw is (rw made at read)

pub unlisted : (first : Option Text) (text : Text) (o : Option (Vec ℕ Global)) → first ≡ Some text → o ≡ None → IsRead text o → (ns : List ℕ) → ListsCapacities first ns → ⊥
unlisted first text o is none read ns h = let never = rw none at read in never ns (rw is at h)

pub no_list : (o : Option (Bor (List ℕ))) (first : Option Text) (ns : List ℕ) → option_map (λ s. s.now) o ≡ first → o ≡ None → ListsCapacities first ns → ⊥
no_list None first ns e is h = rw (← e) at h
no_list (Some text) first ns e is h = absurd cc
