-- A queue of buckets grows by one.
use Rattle.std.proofs.Common.{◌≡◌, ◌≢◌, ℕ, ◌+◌, ◌-◌, ◌*◌, ◌/◌, ◌%◌, ◌<◌, ◌≤◌, List, [], ◌∷◌, ◌++◌, length, set, get_or, Option, Some, None, refl, sym, ap, ap₂, ◌∙◌, subst, arith, inl, inr}
use Rattle.std.proofs.lemmas.Bool.{cases_lt}
use Rattle.std.proofs.lemmas.List.{length-set, get_or-set_same, get_or-set_other, get_or_read, get_or_append_left, get_or_past}
use Rattle.jc_place.specs.declared.place.Place.{Place}
use Rattle.jc_place.specs.Place.{alternate_of}
use Rattle.jc_place.proofs.Other.{other_back}
use Rattle.jc_cuckoo.specs.declared.held.Held.{Held}
use Rattle.jc_cuckoo.specs.declared.queue.Queue.{Queue}
use Rattle.jc_cuckoo.specs.Cells.{held_place, cell, IsFull, IsSlotVacant, AreSoundCells, IsBucketOf, first_bucket}
use Rattle.jc_cuckoo.specs.Search.{IsQueue, IsStep, Grows, looked_slot, queued_bucket, queued_slot, queued_tag, queued_parent, queued_depth}

pub record Pushed (q r : Queue) (bucket slot tag parent : ℕ) : Type 0 where
  pub buckets : r.buckets ≡ set q.buckets q.count bucket
  pub slots : r.slots ≡ set q.slots q.count slot
  pub tags : r.tags ≡ set q.tags q.count tag
  pub parents : r.parents ≡ set q.parents q.count parent
  pub depths : r.depths ≡ set q.depths q.count (queued_depth q parent + 1)
  pub count : r.count ≡ q.count + 1

kept_at : (xs ys : List ℕ) (n v j : ℕ) → ys ≡ set xs n v → j < n → get_or ys j 0 ≡ get_or xs j 0
kept_at xs ys n v j is below = ap (λ (l : List ℕ). get_or l j 0) is ∙ get_or-set_other xs n j v 0 (λ e. omega arith)

new_at : (xs ys : List ℕ) (n v : ℕ) → ys ≡ set xs n v → n < length xs → get_or ys n 0 ≡ v
new_at xs ys n v is below = ap (λ (l : List ℕ). get_or l n 0) is ∙ get_or-set_same xs n v 0 below

long : (xs ys : List ℕ) (n v : ℕ) → ys ≡ set xs n v → length xs ≡ 64 → length ys ≡ 64
long xs ys n v is size = ap length is ∙ (length-set xs n v ∙ size)

pub grows_pushed : (q r : Queue) (bucket slot tag parent : ℕ) → Pushed q r bucket slot tag parent → Grows q r
grows_pushed q r bucket slot tag parent pushed = record {
  count = let c = pushed.count in omega arith;
  buckets = λ j below. kept_at q.buckets r.buckets q.count bucket j pushed.buckets below;
  depths = λ j below. kept_at q.depths r.depths q.count (queued_depth q parent + 1) j pushed.depths below;
}

pub queue_pushed : (p : ℕ → List ℕ → Place) (n : ℕ) (cells : List (Option Held)) (q r : Queue) (bucket slot tag parent : ℕ) (h : Held) → IsQueue p n cells q → Pushed q r bucket slot tag parent → q.count < 64 → parent < q.count → queued_depth q parent < 5
    → slot / 4 ≡ queued_bucket q parent → slot < 4 * n → cell cells slot ≡ Some h → tag ≡ (p h.id h.key).tag → bucket ≡ alternate_of n tag (slot / 4) → bucket < n → IsBucketOf p n (held_place h) bucket → ((j : ℕ) → j < q.count → queued_bucket q j ≢ bucket) → IsQueue p n cells r
queue_pushed p n cells q r bucket slot tag parent h queue pushed room inside near at below is tagged other within home absent = record {
  wide = record {
    buckets = long q.buckets r.buckets q.count bucket pushed.buckets queue.wide.buckets;
    slots = long q.slots r.slots q.count slot pushed.slots queue.wide.slots;
    tags = long q.tags r.tags q.count tag pushed.tags queue.wide.tags;
    parents = long q.parents r.parents q.count parent pushed.parents queue.wide.parents;
    depths = long q.depths r.depths q.count (queued_depth q parent + 1) pushed.depths queue.wide.depths;
  };
  first_depth = (let s = queue.some in depth 0 (omega arith)) ∙ queue.first_depth;
  second_depth = (let s = queue.some in depth 1 (omega arith)) ∙ queue.second_depth;
  some = let s = queue.some in let c = pushed.count in omega arith;
  few = let c = pushed.count in omega arith;
  below = λ j low. elim (cases_lt j q.count) [
    | inl old ↦ subst (λ (x : ℕ). x < n) (sym (buckets j old)) (queue.below j old)
    | inr new ↦ subst (λ (x : ℕ). x < n) (sym (last j low new (λ x. queued_bucket r x ≡ bucket) bucket_new)) within
  ];
  near = λ j low. elim (cases_lt j q.count) [
    | inl old ↦ subst (λ (x : ℕ). x ≤ 5) (sym (depth j old)) (queue.near j old)
    | inr new ↦ subst (λ (x : ℕ). x ≤ 5) (sym (last j low new (λ x. queued_depth r x ≡ queued_depth q parent + 1) depth_new)) (omega arith)
  ];
  apart = λ i j li lj same. elim (cases_lt i q.count) [
    | inl old ↦ elim (cases_lt j q.count) [
      | inl also ↦ queue.apart i j old also (sym (buckets i old) ∙ (same ∙ buckets j also))
      | inr new ↦ absurd (absent i old (sym (buckets i old) ∙ (same ∙ last j lj new (λ x. queued_bucket r x ≡ bucket) bucket_new)))
    ]
    | inr new ↦ elim (cases_lt j q.count) [
      | inl old ↦ absurd (absent j old (sym (buckets j old) ∙ (sym same ∙ last i li new (λ x. queued_bucket r x ≡ bucket) bucket_new)))
      | inr also ↦ (let c = pushed.count in omega arith)
    ]
  ];
  steps = λ j two low. elim (cases_lt j q.count) [
    | inl old ↦ kept j old (queue.steps j two old)
    | inr new ↦ last j low new (λ x. IsStep p n cells r x) step_new
  ];
}
  where
    buckets : (j : ℕ) → j < q.count → queued_bucket r j ≡ queued_bucket q j
    buckets j old = kept_at q.buckets r.buckets q.count bucket j pushed.buckets old

    depth : (j : ℕ) → j < q.count → queued_depth r j ≡ queued_depth q j
    depth j old = kept_at q.depths r.depths q.count (queued_depth q parent + 1) j pushed.depths old

    bucket_new : queued_bucket r q.count ≡ bucket
    bucket_new = new_at q.buckets r.buckets q.count bucket pushed.buckets (let w = queue.wide.buckets in omega arith)

    slot_new : queued_slot r q.count ≡ slot
    slot_new = new_at q.slots r.slots q.count slot pushed.slots (let w = queue.wide.slots in omega arith)

    tag_new : queued_tag r q.count ≡ tag
    tag_new = new_at q.tags r.tags q.count tag pushed.tags (let w = queue.wide.tags in omega arith)

    parent_new : queued_parent r q.count ≡ parent
    parent_new = new_at q.parents r.parents q.count parent pushed.parents (let w = queue.wide.parents in omega arith)

    depth_new : queued_depth r q.count ≡ queued_depth q parent + 1
    depth_new = new_at q.depths r.depths q.count (queued_depth q parent + 1) pushed.depths (let w = queue.wide.depths in omega arith)

    last : (j : ℕ) → j < r.count → q.count ≤ j → (F : ℕ → Type 0) → F q.count → F j
    last j low new F at_count = (let c = pushed.count in let e : q.count ≡ j = omega arith in subst F e at_count)

    kept : (j : ℕ) → j < q.count → IsStep p n cells q j → IsStep p n cells r j
    kept j old s =
        let parents : queued_parent r j ≡ queued_parent q j = kept_at q.parents r.parents q.count parent j pushed.parents old in
        let slots : queued_slot r j ≡ queued_slot q j = kept_at q.slots r.slots q.count slot j pushed.slots old in
        let tags : queued_tag r j ≡ queued_tag q j = kept_at q.tags r.tags q.count tag j pushed.tags old in
        let earlier : queued_parent q j < q.count = (let sp = s.parent in omega arith) in
        record {
          parent = subst (λ (x : ℕ). x < j) (sym parents) s.parent;
          slot = ap (λ (x : ℕ). x / 4) slots ∙ (s.slot ∙ (sym (buckets (queued_parent q j) earlier) ∙ ap (queued_bucket r) (sym parents)));
          below = subst (λ (x : ℕ). x < 4 * n) (sym slots) s.below;
          held = s.held;
          is = ap (cell cells) slots ∙ s.is;
          tag = tags ∙ s.tag;
          other = buckets j old ∙ (s.other ∙ ap₂ (λ (t x : ℕ). alternate_of n t (x / 4)) (sym tags) (sym slots));
          home = subst (IsBucketOf p n (held_place s.held)) (sym (buckets j old)) s.home;
          depth = depth j old ∙ (s.depth ∙ ap (λ (x : ℕ). x + 1) (sym (depth (queued_parent q j) earlier) ∙ ap (queued_depth r) (sym parents)));
        }

    step_new : IsStep p n cells r q.count
    step_new = record {
      parent = subst (λ (x : ℕ). x < q.count) (sym parent_new) inside;
      slot = ap (λ (x : ℕ). x / 4) slot_new ∙ (at ∙ (sym (buckets parent inside) ∙ ap (queued_bucket r) (sym parent_new)));
      below = subst (λ (x : ℕ). x < 4 * n) (sym slot_new) below;
      held = h;
      is = ap (cell cells) slot_new ∙ is;
      tag = tag_new ∙ tagged;
      other = bucket_new ∙ (other ∙ ap₂ (λ (t x : ℕ). alternate_of n t (x / 4)) (sym tag_new) (sym slot_new));
      home = subst (IsBucketOf p n (held_place h)) (sym bucket_new) home;
      depth = depth_new ∙ ap (λ (x : ℕ). x + 1) (sym (depth parent inside) ∙ ap (queued_depth r) (sym parent_new));
    }

-- the other bucket of a row is one of its two
pub other_bucket : (p : ℕ → List ℕ → Place) (n : ℕ) (tags : List ℕ) (cs : List (Option Held)) (i : ℕ) (h : Held) → AreSoundCells p n tags cs → i < 4 * n → cell cs i ≡ Some h → IsBucketOf p n (held_place h) (alternate_of n (p h.id h.key).tag (i / 4))
other_bucket p n tags cs i h sound below is = elim (sound.placed i h below is) [
  | inl first ↦ inr (ap (alternate_of n (p h.id h.key).tag) first)
  | inr second ↦ inl (ap (alternate_of n (p h.id h.key).tag) second ∙ other_back n (p h.id h.key).tag (first_bucket p n (held_place h)))
]

-- a cell is empty, or it holds a row
pub row_there : (cs : List (Option Held)) (i : ℕ) → cell cs i ≢ None → (h : Held) × (cell cs i ≡ Some h)
row_there cs i some = go (cell cs i) refl
  where
    go : (o : Option Held) → cell cs i ≡ o → (h : Held) × (cell cs i ≡ Some h)
    go None e = absurd (some e)
    go (Some h) e = (h, e)

-- Moves along a path.

-- the paths that are left, after the moves so far
pub record Left (cs now : List (Option Held)) (q : Queue) (node : ℕ) : Type 0 where
  pub rest : (j : ℕ) → 2 ≤ j → j ≤ node → cell now (queued_slot q j) ≡ cell cs (queued_slot q j)

pub one_slot : (p : ℕ → List ℕ → Place) (n : ℕ) (cs : List (Option Held)) (q : Queue) (i j : ℕ) → IsQueue p n cs q → 2 ≤ i → i < q.count → 2 ≤ j → j < q.count → queued_slot q i ≡ queued_slot q j → i ≡ j
one_slot p n cs q i j queue ti li tj lj same =
    let a = queue.steps i ti li in let b = queue.steps j tj lj in
    let both : Some a.held ≡ Some b.held = sym a.is ∙ (ap (cell cs) same ∙ b.is) in
    let one : a.held ≡ b.held = cc in
    let tags : queued_tag q i ≡ queued_tag q j = a.tag ∙ (ap (λ (h : Held). (p h.id h.key).tag) one ∙ sym b.tag) in
    queue.apart i j li lj (a.other ∙ (ap₂ (λ (t s : ℕ). alternate_of n t (s / 4)) tags same ∙ sym b.other))

pub left_over : (p : ℕ → List ℕ → Place) (n : ℕ) (cs now : List (Option Held)) (q : Queue) (node gap : ℕ) (h : Held) → IsQueue p n cs q → 2 ≤ node → node < q.count → Left cs now q node → IsSlotVacant now (queued_bucket q node) gap → queued_slot q node < length now → Left cs (set (set now (queued_slot q node) None) gap (Some h)) q (queued_parent q node)
left_over p n cs now q node gap h queue two low left vacant inside = record {
  rest = λ j tj lj. (
      let s = queue.steps node two low in let sp = s.parent in
      let lower : j < node = omega arith in
      let a = queue.steps j tj (omega arith) in
      let not_gap : queued_slot q j ≡ gap → ⊥ = λ e. (let full : cell now gap ≡ Some a.held = ap (cell now) (sym e) ∙ (left.rest j tj (omega arith) ∙ a.is) in let empty = vacant.empty in cc) in
      let not_slot : queued_slot q j ≡ queued_slot q node → ⊥ = λ e. (let one : j ≡ node = one_slot p n cs q j node queue tj (omega arith) two low e in omega arith) in
      get_or-set_other (set now (queued_slot q node) None) gap (queued_slot q j) (Some h) None not_gap ∙ (get_or-set_other now (queued_slot q node) (queued_slot q j) None None not_slot ∙ left.rest j tj (omega arith)));
}

pub next_gap : (p : ℕ → List ℕ → Place) (n : ℕ) (cs now : List (Option Held)) (q : Queue) (node gap : ℕ) (h k : Held) → IsQueue p n cs q → 2 ≤ node → node < q.count → IsSlotVacant now (queued_bucket q node) gap → cell now (queued_slot q node) ≡ Some k → queued_slot q node < length now → IsSlotVacant (set (set now (queued_slot q node) None) gap (Some h)) (queued_bucket q (queued_parent q node)) (queued_slot q node)
next_gap p n cs now q node gap h k queue two low vacant is inside =
    let s = queue.steps node two low in
    let not_gap : queued_slot q node ≡ gap → ⊥ = λ f. (let full : cell now gap ≡ Some k = ap (cell now) (sym f) ∙ is in let empty = vacant.empty in cc) in
    record {
      above = quarter (queued_slot q node) (queued_bucket q (queued_parent q node)) s.slot;
      below = quarter_below (queued_slot q node) (queued_bucket q (queued_parent q node)) s.slot;
      empty = get_or-set_other (set now (queued_slot q node) None) gap (queued_slot q node) (Some h) None not_gap ∙ get_or-set_same now (queued_slot q node) None None inside;
    }
  where
    quarter : (i b : ℕ) → i / 4 ≡ b → 4 * b ≤ i
    quarter i b e = omega arith

    quarter_below : (i b : ℕ) → i / 4 ≡ b → i < 4 * b + 4
    quarter_below i b e = omega arith

pub queue_reached : (p : ℕ → List ℕ → Place) (n : ℕ) (tags : List ℕ) (cells : List (Option Held)) (q r : Queue) (bucket slot tag parent : ℕ) → AreSoundCells p n tags cells → IsQueue p n cells q → Pushed q r bucket slot tag parent → q.count < 64 → parent < q.count → queued_depth q parent < 5
    → slot / 4 ≡ queued_bucket q parent → cell cells slot ≢ None → tag ≡ get_or tags slot tag → bucket ≡ alternate_of n tag (queued_bucket q parent) → bucket < n → ((j : ℕ) → j < q.count → queued_bucket q j ≢ bucket) → IsQueue p n cells r
queue_reached p n tags cells q r bucket slot tag parent sound queue pushed room inside near at some read other within absent =
    let row = row_there cells slot some in
    let limit = queue.below parent inside in
    let below : slot < 4 * n = omega arith in
    let long = sound.tag_each in
    let tagged : tag ≡ (p row.0.id row.0.key).tag = get_or_read tags slot tag (omega arith) read 0 ∙ sound.tagged slot row.0 below row.1 in
    let alternate : bucket ≡ alternate_of n tag (slot / 4) = other ∙ ap (alternate_of n tag) (sym at) in
    let named : bucket ≡ alternate_of n (p row.0.id row.0.key).tag (slot / 4) = alternate ∙ ap (λ (t : ℕ). alternate_of n t (slot / 4)) tagged in
    queue_pushed p n cells q r bucket slot tag parent row.0 queue pushed room inside near at below row.1 tagged alternate within
    (subst (IsBucketOf p n (held_place row.0)) (sym named) (other_bucket p n tags cells slot row.0 sound below row.1)) absent

-- the row that is moved next
pub record Moves (p : ℕ → List ℕ → Place) (n : ℕ) (q : Queue) (node : ℕ) (k : Held) : Type 0 where
  pub below : queued_slot q node < 4 * n
  pub home : IsBucketOf p n (held_place k) (queued_bucket q node)
  pub tag : queued_tag q node ≡ (p k.id k.key).tag

pub left_row : (p : ℕ → List ℕ → Place) (n : ℕ) (cs now : List (Option Held)) (q : Queue) (node : ℕ) → IsQueue p n cs q → 2 ≤ node → node < q.count → Left cs now q node → (k : Held) × (cell now (queued_slot q node) ≡ Some k)
left_row p n cs now q node queue two low left = let s = queue.steps node two low in (s.held, left.rest node two (omega arith) ∙ s.is)

pub moves_row : (p p' : ℕ → List ℕ → Place) (n n' : ℕ) (cs now : List (Option Held)) (q : Queue) (node : ℕ) (k : Held) → IsQueue p n cs q → p' ≡ p → n' ≡ n → 2 ≤ node → node < q.count → Left cs now q node → cell now (queued_slot q node) ≡ Some k → Moves p' n' q node k
moves_row p p' n n' cs now q node k queue ep en two low left is =
    let s = queue.steps node two low in
    let both : Some s.held ≡ Some k = sym (left.rest node two (omega arith) ∙ s.is) ∙ is in
    let one : s.held ≡ k = cc in
    let m : Moves p n q node s.held = record { below = s.below; home = s.home; tag = s.tag } in
    subst (λ (f : ℕ → List ℕ → Place). Moves f n' q node k) (sym ep) (subst (λ (x : ℕ). Moves p x q node k) (sym en) (subst (Moves p n q node) one m))

pub quarter_of : (i b : ℕ) → 4 * b ≤ i → i < 4 * b + 4 → i / 4 ≡ b
quarter_of i b above below = omega arith

-- each bucket all of whose slots were looked at is full
pub all_full : (cells : List (Option Held)) (q : Queue) (looked k : ℕ) → ((j : ℕ) → j < looked → cell cells (looked_slot q j) ≢ None) → 4 * q.count ≤ looked → k < q.count → IsFull cells (queued_bucket q k)
all_full cells q looked k full all low = record {
  full = λ i above below none. (
      let j : ℕ = 4 * k + (i - 4 * queued_bucket q k) in
      let whole : j / 4 ≡ k = omega arith in
      let part : j % 4 ≡ i - 4 * queued_bucket q k = omega arith in
      let there : looked_slot q j ≡ i = ap₂ (λ (a b : ℕ). 4 * queued_bucket q a + b) whole part ∙ back i (4 * queued_bucket q k) above in
      full j (omega arith) (ap (cell cells) there ∙ none));
}
  where
    back : (i b : ℕ) → b ≤ i → b + (i - b) ≡ i
    back i b h = omega arith

-- a bucket stays full while the stash grows
pub full_pushed : (cs : List (Option Held)) (h : Held) (b : ℕ) → IsFull cs b → IsFull (cs ++ Some h ∷ []) b
full_pushed cs h b full = record { full = λ i above below none. full.full i above below (empty i none) }
  where
    empty : (i : ℕ) → cell (cs ++ Some h ∷ []) i ≡ None → cell cs i ≡ None
    empty i none = elim (cases_lt i (length cs)) [
      | inl low ↦ sym (get_or_append_left cs (Some h ∷ []) None i low) ∙ none
      | inr past ↦ get_or_past cs i None past
    ]
