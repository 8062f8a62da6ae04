-- A search that found no path leaves no empty slot near.
use Rattle.std.proofs.Common.{◌≡◌, ℕ, zero, suc, ◌+◌, ◌-◌, ◌*◌, ◌/◌, ◌%◌, ◌<◌, ◌≤◌, List, Option, ◌⊎◌, refl, sym, ap, ap₂, ◌∙◌, subst, arith, inl, inr}
use Rattle.std.proofs.lemmas.Bool.{cases_lt}
use Rattle.jc_place.specs.declared.place.Place.{Place}
use Rattle.jc_place.specs.Place.{alternate_of}
use Rattle.jc_cuckoo.specs.declared.held.Held.{Held}
use Rattle.jc_cuckoo.specs.declared.queue.Queue.{Queue}
use Rattle.jc_cuckoo.specs.Cells.{cell, IsFull}
use Rattle.jc_cuckoo.specs.Search.{IsQueue, IsClosed, IsIn, IsAmong, IsExhausted, IsMove, Reaches, looked_slot, queued_bucket, queued_slot, queued_parent, queued_depth}

-- reached by so many moves, or 64 buckets are as near
Arrives : Queue → ℕ → ℕ → Type 0
Arrives q a k = IsIn q a k ⊎ ((q.count ≡ 64) × ((m : ℕ) → m < q.count → queued_depth q m ≤ k))

farther : (q : Queue) (a k l : ℕ) → k ≤ l → Arrives q a k → Arrives q a l
unfolding Arrives
farther q a k l more (inl i) = inl (i.0, i.1, i.2, (let d = i.3 in omega arith))
farther q a k l more (inr w) = inr (w.0, λ m low. (let d = w.1 m low in omega arith))

slot_of : (i b : ℕ) → i / 4 ≡ b → 4 * b + i % 4 ≡ i
slot_of i b e = omega arith

one_move : (p : ℕ → List ℕ → Place) (n : ℕ) (cells : List (Option Held)) (q : Queue) (looked k b a : ℕ) → IsClosed p n cells q looked → 4 * q.count ≤ looked → k < 5 → IsIn q b k → IsMove p n cells b a → Arrives q a (k + 1)
unfolding Arrives
one_move p n cells q looked k b a closed all near i move =
    let j : ℕ = 4 * i.0 + move.0 % 4 in
    let head : j / 4 ≡ i.0 = omega arith in
    let part : j % 4 ≡ move.0 % 4 = omega arith in
    let low = i.1 in let deep = i.3 in
    let at : looked_slot q j ≡ move.0 = ap₂ (λ (x y : ℕ). 4 * queued_bucket q x + y) head part ∙ slot_of move.0 (queued_bucket q i.0) (move.3 ∙ sym i.2) in
    let depth : queued_depth q (j / 4) ≡ queued_depth q i.0 = ap (queued_depth q) head in
    let target : alternate_of n (p move.1.id move.1.key).tag (queued_bucket q (j / 4)) ≡ a = ap (alternate_of n (p move.1.id move.1.key).tag) (ap (queued_bucket q) head ∙ i.2) ∙ sym move.5 in
    elim (closed.closed j move.1 (omega arith) (omega arith) (ap (cell cells) at ∙ move.4)) [
      | inl there ↦ inl (there.0, there.1, there.2 ∙ target, (let d = there.3 in omega arith))
      | inr wide ↦ inr (wide.0, λ m inside. (let d = wide.1 m inside in omega arith))
    ]

arrives : (p : ℕ → List ℕ → Place) (n : ℕ) (cells : List (Option Held)) (q : Queue) (looked k a : ℕ) → IsQueue p n cells q → IsClosed p n cells q looked → 4 * q.count ≤ looked → k ≤ 5 → Reaches p n cells (queued_bucket q 0) (queued_bucket q 1) k a → Arrives q a k
unfolding Arrives
arrives p n cells q looked zero a queue closed all near (inl e) = let some = queue.some in inl (0, omega arith, sym e, (let d = queue.first_depth in omega arith))
arrives p n cells q looked zero a queue closed all near (inr e) = let some = queue.some in inl (1, omega arith, sym e, (let d = queue.second_depth in omega arith))
arrives p n cells q looked (suc k) a queue closed all near (inl before) = farther q a k (suc k) (omega arith) (arrives p n cells q looked k a queue closed all (omega arith) before)
arrives p n cells q looked (suc k) a queue closed all near (inr step) = elim (arrives p n cells q looked k step.0 queue closed all (omega arith) step.1) [
  | inl i ↦ farther q a (k + 1) (suc k) (omega arith) (one_move p n cells q looked k step.0 a closed all (omega arith) i step.2)
  | inr w ↦ inr (w.0, λ m low. (let d = w.1 m low in omega arith))
]

-- what the queue reached can be reached

later : (p : ℕ → List ℕ → Place) (n : ℕ) (cells : List (Option Held)) (one two k d b : ℕ) → Reaches p n cells one two k b → Reaches p n cells one two (d + k) b
later p n cells one two k zero b r = subst (λ (x : ℕ). Reaches p n cells one two x b) (go k) r
  where
    go : (k : ℕ) → k ≡ 0 + k
    go k = omega arith
later p n cells one two k (suc d) b r = subst (λ (x : ℕ). Reaches p n cells one two x b) (go d k) (inl (later p n cells one two k d b r))
  where
    go : (d k : ℕ) → suc (d + k) ≡ suc d + k
    go d k = omega arith

by_then : (p : ℕ → List ℕ → Place) (n : ℕ) (cells : List (Option Held)) (one two k l b : ℕ) → k ≤ l → Reaches p n cells one two k b → Reaches p n cells one two l b
by_then p n cells one two k l b more r = let e : l - k + k ≡ l = omega arith in subst (λ (x : ℕ). Reaches p n cells one two x b) e (later p n cells one two k (l - k) b r)

reached : (p : ℕ → List ℕ → Place) (n : ℕ) (cells : List (Option Held)) (q : Queue) (fuel m : ℕ) → m < fuel → IsQueue p n cells q → m < q.count → Reaches p n cells (queued_bucket q 0) (queued_bucket q 1) (queued_depth q m) (queued_bucket q m)
reached p n cells q zero m less queue low = absurd (omega arith)
reached p n cells q (suc fuel) m less queue low = elim (cases_lt m 2) [
  | inl root ↦ start m root
  | inr two ↦ (let s = queue.steps m two low in let sp = s.parent in
      let before = reached p n cells q fuel (queued_parent q m) (omega arith) queue (omega arith) in
      let deep : suc (queued_depth q (queued_parent q m)) ≡ queued_depth q m = (let sd = s.depth in omega arith) in
      let other : queued_bucket q m ≡ alternate_of n (p s.held.id s.held.key).tag (queued_bucket q (queued_parent q m)) = s.other ∙ ap₂ (alternate_of n) s.tag s.slot in
      subst (λ (x : ℕ). Reaches p n cells (queued_bucket q 0) (queued_bucket q 1) x (queued_bucket q m)) deep
      (inr (queued_bucket q (queued_parent q m), before, (queued_slot q m, s.held, s.below, s.slot, s.is, other))))
]
  where
    start : (m : ℕ) → m < 2 → Reaches p n cells (queued_bucket q 0) (queued_bucket q 1) (queued_depth q m) (queued_bucket q m)
    start zero root = by_then p n cells (queued_bucket q 0) (queued_bucket q 1) 0 (queued_depth q 0) (queued_bucket q 0) (omega arith) (inl refl)
    start (suc zero) root = by_then p n cells (queued_bucket q 0) (queued_bucket q 1) 0 (queued_depth q 1) (queued_bucket q 1) (omega arith) (inr refl)
    start (suc (suc m)) root = absurd (omega arith)

pub last_resort : (p : ℕ → List ℕ → Place) (n : ℕ) (cells : List (Option Held)) (q : Queue) (looked : ℕ) → IsQueue p n cells q → IsClosed p n cells q looked → 4 * q.count ≤ looked → ((k : ℕ) → k < q.count → IsFull cells (queued_bucket q k)) → IsExhausted p n cells (queued_bucket q 0) (queued_bucket q 1)
unfolding Arrives
last_resort p n cells q looked queue closed all full = record {
  first = let some = queue.some in full 0 (omega arith);
  second = let some = queue.some in full 1 (omega arith);
  far = elim (cases_lt q.count 64) [
    | inl few ↦ inl (λ b r. elim (arrives p n cells q looked 5 b queue closed all (omega arith) r) [
      | inl i ↦ subst (IsFull cells) i.2 (full i.0 i.1)
      | inr w ↦ (let c = w.0 in absurd (omega arith))
    ])
    | inr many ↦ (let few = queue.few in let whole : q.count ≡ 64 = omega arith in inr (
      q.buckets,
      record {
        many = queue.wide.buckets;
        apart = λ i j li lj same. queue.apart i j (omega arith) (omega arith) same;
        full = λ b i. (let low = i.1 in let long = queue.wide.buckets in subst (IsFull cells) i.2 (full i.0 (omega arith)));
        nearest = λ b a k i r never. near whole b a k i r never;
      },
    ))
  ];
}
  where
    near : q.count ≡ 64 → (b a k : ℕ) → IsAmong q.buckets b → Reaches p n cells (queued_bucket q 0) (queued_bucket q 1) k a → (Reaches p n cells (queued_bucket q 0) (queued_bucket q 1) k b → ⊥) → IsAmong q.buckets a
    near whole b a k i r never =
        let low = i.1 in let long = queue.wide.buckets in
        let inside : i.0 < q.count = omega arith in
        let there : Reaches p n cells (queued_bucket q 0) (queued_bucket q 1) (queued_depth q i.0) b = subst (Reaches p n cells (queued_bucket q 0) (queued_bucket q 1) (queued_depth q i.0)) i.2 (reached p n cells q (suc i.0) i.0 (omega arith) queue inside) in
        elim (cases_lt k (queued_depth q i.0)) [
          | inl less ↦ (let limit = queue.near i.0 inside in elim (arrives p n cells q looked k a queue closed all (omega arith) r) [
            | inl f ↦ (f.0, (let fl = f.1 in omega arith), f.2)
            | inr w ↦ (let d = w.1 i.0 inside in absurd (omega arith))
          ])
          | inr more ↦ absurd (never (by_then p n cells (queued_bucket q 0) (queued_bucket q 1) (queued_depth q i.0) k b more there))
        ]

-- The same where the stash is longer.

reaches_alike : (p : ℕ → List ℕ → Place) (n : ℕ) (cs ds : List (Option Held)) (one two k b : ℕ) → ((i : ℕ) → i < 4 * n → cell ds i ≡ cell cs i) → Reaches p n cs one two k b → Reaches p n ds one two k b
reaches_alike p n cs ds one two zero b alike r = r
reaches_alike p n cs ds one two (suc k) b alike (inl r) = inl (reaches_alike p n cs ds one two k b alike r)
reaches_alike p n cs ds one two (suc k) b alike (inr s) = let m = s.2 in inr (s.0, reaches_alike p n cs ds one two k s.0 alike s.1, (m.0, m.1, m.2, m.3, alike m.0 m.2 ∙ m.4, m.5))

pub last_resort_alike : (p : ℕ → List ℕ → Place) (n : ℕ) (cs ds : List (Option Held)) (one two : ℕ) → ((i : ℕ) → i < 4 * n → cell ds i ≡ cell cs i) → ((b : ℕ) → IsFull cs b → IsFull ds b) → IsExhausted p n cs one two → IsExhausted p n ds one two
last_resort_alike p n cs ds one two alike full last = record {
  first = full one last.first;
  second = full two last.second;
  far = elim last.far [
    | inl near ↦ inl (λ b r. full b (near b (reaches_alike p n ds cs one two 5 b (λ i low. sym (alike i low)) r)))
    | inr wide ↦ inr (
      wide.0,
      record {
        many = wide.1.many;
        apart = wide.1.apart;
        full = λ b i. full b (wide.1.full b i);
        nearest = λ b a k i r never. wide.1.nearest b a k i (reaches_alike p n ds cs one two k a (λ j low. sym (alike j low)) r) (λ back. never (reaches_alike p n cs ds one two k b alike back));
      },
    )
  ];
}
