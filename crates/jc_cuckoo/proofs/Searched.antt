-- A step of the search.
use Rattle.std.proofs.Common.{◌≡◌, ℕ, ◌+◌, ◌*◌, ◌/◌, ◌%◌, ◌<◌, ◌≤◌, List, get_or, Option, Some, ◌⊎◌, sym, ap, ◌∙◌, subst, arith, inl, inr}
use Rattle.std.proofs.lemmas.Bool.{cases_lt}
use Rattle.std.proofs.lemmas.Bool.Decides.{eqb_tells}
use Rattle.jc_place.specs.declared.place.Place.{Place}
use Rattle.jc_place.specs.Place.{alternate_of}
use Rattle.jc_cuckoo.specs.declared.held.Held.{Held}
use Rattle.jc_cuckoo.specs.declared.queue.Queue.{Queue}
use Rattle.std.proofs.lemmas.List.{get_or_read, get_or-set_same}
use Rattle.jc_cuckoo.proofs.Queues.{Pushed, grows_pushed}
use Rattle.jc_cuckoo.specs.Cells.{cell, AreSoundCells}
use Rattle.jc_cuckoo.specs.Search.{IsQueue, IsSearched, IsIn, Grows, looked_slot, queued_bucket, queued_depth}

-- what the slot with this number asks for
abbrev pub Asked : (ℕ → List ℕ → Place) → ℕ → List (Option Held) → Queue → ℕ → Type 0
Asked p n cells q j = (h : Held) → queued_depth q (j / 4) < 5 → cell cells (looked_slot q j) ≡ Some h
    → IsIn q (alternate_of n (p h.id h.key).tag (queued_bucket q (j / 4))) (queued_depth q (j / 4) + 1) ⊎ ((q.count ≡ 64) × ((m : ℕ) → m < q.count → queued_depth q m ≤ queued_depth q (j / 4) + 1))

pub searched_same : (p : ℕ → List ℕ → Place) (n : ℕ) (cells : List (Option Held)) (q : Queue) (looked : ℕ) → IsSearched p n cells q looked → Asked p n cells q looked → IsSearched p n cells q (looked + 1)
searched_same p n cells q looked s asked = record {
  sorted = s.sorted;
  ahead = λ m k lm lk past. s.ahead m k lm lk (omega arith);
  closed = record {
    closed = λ j h low deep is. elim (eqb_tells j looked) [
      | inl same ↦ subst (Asked p n cells q) (sym same.1) asked h deep is
      | inr other ↦ (let off = other.1 in s.closed.closed j h (omega arith) deep is)
    ];
  };
}

-- a bucket behind the others, a move from the one that is looked at
pub searched_more : (p : ℕ → List ℕ → Place) (n : ℕ) (cells : List (Option Held)) (q r : Queue) (looked : ℕ) → IsSearched p n cells q looked → Grows q r → looked < 4 * q.count → r.count ≡ q.count + 1 → q.count < 64 → queued_depth r q.count ≡ queued_depth q (looked / 4) + 1
    → ((h : Held) → cell cells (looked_slot q looked) ≡ Some h → queued_bucket r q.count ≡ alternate_of n (p h.id h.key).tag (queued_bucket q (looked / 4))) → IsSearched p n cells r (looked + 1)
searched_more p n cells q r looked s grows inside count room depth bucket = record {
  sorted = λ i j le low. elim (cases_lt j q.count) [
    | inl old ↦ (let a = grows.depths i (omega arith) in let b = grows.depths j old in let c = s.sorted i j le old in omega arith)
    | inr new ↦ elim (cases_lt i q.count) [
      | inl before ↦ (let a = grows.depths i before in let c = s.ahead i (looked / 4) before here (omega arith) in let e = last j new (omega arith) in omega arith)
      | inr also ↦ (let e = last j new (omega arith) in let f = last i also (omega arith) in omega arith)
    ]
  ];
  ahead = λ m k lm lk past. elim (cases_lt k q.count) [
    | inl old ↦ elim (cases_lt m q.count) [
      | inl before ↦ (let a = grows.depths m before in let b = grows.depths k old in let c = s.ahead m k before old (omega arith) in omega arith)
      | inr new ↦ (let e = last m new (omega arith) in let b = grows.depths k old in let c = s.sorted (looked / 4) k (omega arith) old in omega arith)
    ]
    | inr newest ↦ elim (cases_lt m q.count) [
      | inl before ↦ (let a = grows.depths m before in let c = s.ahead m (looked / 4) before here (omega arith) in let e = last k newest (omega arith) in omega arith)
      | inr new ↦ (let e = last m new (omega arith) in let f = last k newest (omega arith) in omega arith)
    ]
  ];
  closed = record {
    closed = λ j h low deep is. (
        let row : j / 4 < q.count = omega arith in
        let b = grows.buckets (j / 4) row in let d = grows.depths (j / 4) row in
        let old : cell cells (looked_slot q j) ≡ Some h = ap (λ (x : ℕ). cell cells (4 * x + j % 4)) (sym b) ∙ is in
        elim (eqb_tells j looked) [
          | inl same ↦ inl (q.count, omega arith, fresh j h same.1 old ∙ ap (alternate_of n (p h.id h.key).tag) (sym b), (let e : queued_depth q (j / 4) ≡ queued_depth q (looked / 4) = ap (λ (x : ℕ). queued_depth q (x / 4)) same.1 in omega arith))
          | inr other ↦ (let off = other.1 in elim (s.closed.closed j h (omega arith) (omega arith) old) [
            | inl i ↦ (let il = i.1 in let id = i.3 in let k = grows.depths i.0 il in inl (i.0, omega arith, grows.buckets i.0 il ∙ (i.2 ∙ ap (alternate_of n (p h.id h.key).tag) (sym b)), omega arith))
            | inr w ↦ (let c = w.0 in absurd (omega arith))
          ])
        ]);
  };
}
  where
    here : looked / 4 < q.count
    here = omega arith

    last : (j : ℕ) → q.count ≤ j → j < q.count + 1 → queued_depth r j ≡ queued_depth q (looked / 4) + 1
    last j low high = (let e : q.count ≡ j = omega arith in subst (λ (x : ℕ). queued_depth r x ≡ queued_depth q (looked / 4) + 1) e depth)

    fresh : (j : ℕ) (h : Held) → j ≡ looked → cell cells (looked_slot q j) ≡ Some h → queued_bucket r q.count ≡ alternate_of n (p h.id h.key).tag (queued_bucket q (j / 4))
    fresh j h same is = bucket h (ap (λ (x : ℕ). cell cells (looked_slot q x)) (sym same) ∙ is) ∙ ap (λ (x : ℕ). alternate_of n (p h.id h.key).tag (queued_bucket q (x / 4))) (sym same)

-- the tag that the code reads is the row's
tag_read : (p : ℕ → List ℕ → Place) (n : ℕ) (tags : List ℕ) (cells : List (Option Held)) (q : Queue) (looked tag : ℕ) (h : Held) → AreSoundCells p n tags cells → IsQueue p n cells q → looked < 4 * q.count → tag ≡ get_or tags (looked_slot q looked) tag → cell cells (looked_slot q looked) ≡ Some h → tag ≡ (p h.id h.key).tag
tag_read p n tags cells q looked tag h sound queue inside read is =
    let limit = queue.below (looked / 4) (omega arith) in
    let below : looked_slot q looked < 4 * n = omega arith in
    let long = sound.tag_each in
    get_or_read tags (looked_slot q looked) tag (omega arith) read 0 ∙ sound.tagged (looked_slot q looked) h below is

pub known_reached : (p : ℕ → List ℕ → Place) (n : ℕ) (tags : List ℕ) (cells : List (Option Held)) (q : Queue) (looked tag other : ℕ) → AreSoundCells p n tags cells → IsQueue p n cells q → IsSearched p n cells q looked → looked < 4 * q.count → tag ≡ get_or tags (looked_slot q looked) tag → other ≡ alternate_of n tag (queued_bucket q (looked / 4))
    → ((j : ℕ) × (j < q.count) × (queued_bucket q j ≡ other)) → IsSearched p n cells q (looked + 1)
known_reached p n tags cells q looked tag other sound queue s inside read is found =
    searched_same p n cells q looked s (λ h deep row. inl (found.0, found.1, found.2 ∙ (is ∙ ap (λ (t : ℕ). alternate_of n t (queued_bucket q (looked / 4))) (tag_read p n tags cells q looked tag h sound queue inside read row)), s.ahead found.0 (looked / 4) found.1 (omega arith) (omega arith)))

pub pushed_reached : (p : ℕ → List ℕ → Place) (n : ℕ) (tags : List ℕ) (cells : List (Option Held)) (q r : Queue) (looked tag other : ℕ) → AreSoundCells p n tags cells → IsQueue p n cells q → IsSearched p n cells q looked → looked < 4 * q.count → tag ≡ get_or tags (looked_slot q looked) tag → other ≡ alternate_of n tag (queued_bucket q (looked / 4))
    → Pushed q r other (looked_slot q looked) tag (looked / 4) → q.count < 64 → IsSearched p n cells r (looked + 1)
pushed_reached p n tags cells q r looked tag other sound queue s inside read is pushed room =
    let wide = queue.wide.buckets in let deep = queue.wide.depths in
    searched_more p n cells q r looked s (grows_pushed q r other (looked_slot q looked) tag (looked / 4) pushed) inside pushed.count room
    (ap (λ (l : List ℕ). get_or l q.count 0) pushed.depths ∙ get_or-set_same q.depths q.count (queued_depth q (looked / 4) + 1) 0 (omega arith))
    (λ h row. ap (λ (l : List ℕ). get_or l q.count 0) pushed.buckets ∙ (get_or-set_same q.buckets q.count other 0 (omega arith) ∙ (is ∙ ap (λ (t : ℕ). alternate_of n t (queued_bucket q (looked / 4))) (tag_read p n tags cells q looked tag h sound queue inside read row))))
