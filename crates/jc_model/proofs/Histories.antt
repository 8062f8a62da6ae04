-- The lives of a transcript: their order, and the configuration of each.
use Rattle.jc_model.proofs.Names.{is_some, List, None, Some, [], ap, arith, false, if◌then◌else◌, length, map, refl, suc, true, zero, ℕ, ◌++◌, ◌+◌, ◌<◌, ◌∙◌, ◌∷◌, ◌≡◌, ◌≤◌, nat_tests, common_steps}
use Rattle.jc_model.proofs.Names.{All-cons, All-head, All-nil, All-tail, All, ◌==◌, CacheConfig, Entry, Life, InOrder, config_of, entries_of, numbered_lives, none_before, fits, Lives, Status}
use Rattle.jc_model.proofs.Names.{fresh, at_place, opened, opened_from}

-- a life more, behind all others

abbrev pub known_in : List Life → ℕ → Type 0
known_in lives id = is_some (config_of id lives) ≡ true

pub order_more : (least : ℕ) (lives : List Life) (life : Life) → InOrder least lives → All (λ l. l.id < life.id) lives → least ≤ life.id → InOrder least (lives ++ life ∷ [])
order_more least [] life ordered given above = (above, tt)
order_more least (l ∷ lives) life ordered given above =
    let below : l.id < life.id = All-head (λ l. l.id < life.id) l lives given in
    (ordered.0, order_more (l.id + 1) lives life ordered.1 (All-tail (λ l. l.id < life.id) l lives given) (omega arith))

pub config_before : (lives : List Life) (life : Life) (id : ℕ) (c : CacheConfig) → config_of id lives ≡ Some c → config_of id (lives ++ life ∷ []) ≡ Some c
config_before [] life id c is = absurd (cc)
config_before (l ∷ lives) life id c is = let rest = config_before lives life id c in grind (arith, common_steps)

pub config_other : (lives : List Life) (life : Life) (id : ℕ) → (life.id == id) ≡ false → config_of id (lives ++ life ∷ []) ≡ config_of id lives
config_other [] life id e = rw e
config_other (l ∷ lives) life id e = let rest = config_other lives life id e in grind (arith, common_steps)

pub config_last : (lives : List Life) (life : Life) (id : ℕ) → config_of id lives ≡ None → config_of id (lives ++ life ∷ []) ≡ (if life.id == id then Some life.config else None)
config_last [] life id none = refl
config_last (l ∷ lives) life id none = let rest = config_last lives life id in grind (arith, common_steps)

pub known_more : (lives : List Life) (life : Life) (id : ℕ) → known_in lives id → known_in (lives ++ life ∷ []) id
known_more lives life id known = grind (arith, common_steps, config_before)

-- an id beyond all lives is no life's
pub none_beyond : (n : ℕ) (lives : List Life) → All (λ l. l.id < n) lives → config_of n lives ≡ None
none_beyond n [] given = refl
none_beyond n (l ∷ lives) given =
    let below = All-head (λ l. l.id < n) l lives given in
    let rest = none_beyond n lives (All-tail (λ l. l.id < n) l lives given) in
    grind (arith, common_steps, nat_tests)

-- and has no entries
pub no_entries : (lives : List Life) (id : ℕ) (entries : List Entry) → config_of id lives ≡ None → All (λ e. known_in lives e.id) entries → entries_of id entries ≡ []
no_entries lives id [] none known = refl
no_entries lives id (e ∷ es) none known =
    let here = All-head (λ e. known_in lives e.id) e es known in
    let rest = no_entries lives id es none (All-tail (λ e. known_in lives e.id) e es known) in
    grind (arith, common_steps, nat_tests)

-- At first.

pub numbered_in_order : (least first : ℕ) (configs : List CacheConfig) → least ≤ first → InOrder least (numbered_lives first configs)
numbered_in_order least first [] above = tt
numbered_in_order least first (c ∷ configs) above = (above, numbered_in_order (first + 1) (first + 1) configs (omega arith))

pub numbered_below : (first n : ℕ) (configs : List CacheConfig) → first + length configs ≤ n → All (λ l. l.id < n) (numbered_lives first configs)
numbered_below first n [] fits = All-nil (λ l. l.id < n)
numbered_below first n (c ∷ configs) fits =
    All-cons (λ l. l.id < n) (record { id = first; config = c }) (numbered_lives (first + 1) configs) (omega arith) (numbered_below (first + 1) n configs (omega arith))

abbrev new_lives : List CacheConfig → Lives
new_lives configs = map (λ c. Some (opened c)) configs

pub opened_length : (first : ℕ) (configs : List CacheConfig) → length (opened_from first configs) ≡ first + length configs
opened_length zero configs = grind (arith, common_steps)
opened_length (suc first) configs = ap suc (opened_length first configs) ∙ omega arith

-- a cache that is opened, with its number
pub record OpenedAs (id first : ℕ) (configs : List CacheConfig) (k : Status) : Type 0 where
  pub config : config_of id (numbered_lives first configs) ≡ Some k.config
  pub fresh : k.standing ≡ fresh

opened_at : (first place : ℕ) (configs : List CacheConfig) (k : Status) → at_place (new_lives configs) place ≡ Some k → OpenedAs (first + place) first configs k
opened_at first place [] k at = absurd (cc)
opened_at first zero (c ∷ configs) k at = grind (arith, common_steps)
opened_at first (suc place) (c ∷ configs) k at =
    let there : (first + 1) + place ≡ first + suc place = omega arith in
    let rest : OpenedAs (first + suc place) (first + 1) configs k = rw there at (opened_at (first + 1) place configs k at) in
    grind (arith, common_steps, nat_tests)

record Behind (n id : ℕ) (configs : List CacheConfig) (k : Status) : Type 0 where
  place : ℕ
  is : id ≡ n + place
  there : at_place (new_lives configs) place ≡ Some k

behind : (n id : ℕ) (configs : List CacheConfig) (k : Status) → at_place (none_before n (new_lives configs)) id ≡ Some k → Behind n id configs k
behind zero id configs k at = record { place = id; is = omega arith; there = at }
behind (suc n) zero configs k at = absurd (cc)
behind (suc n) (suc id) configs k at =
    let p = behind n id configs k at in
    let is : id ≡ n + p.place = p.is in
    record { place = p.place; is = omega arith; there = p.there }

pub opened_so : (first id : ℕ) (configs : List CacheConfig) (k : Status) → at_place (opened_from first configs) id ≡ Some k → OpenedAs id first configs k
opened_so first id configs k at = let p = behind first id configs k at in rw p.is (opened_at first p.place configs k p.there)
