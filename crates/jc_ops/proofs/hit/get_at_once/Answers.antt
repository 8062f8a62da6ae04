use Rattle.std.proofs.Common.{ap₂}
use Rattle.jc_ops.proofs.Names.{◌≡◌, ℕ, arith, true, false, List, Option, ◌∙◌, sym, ap, subst, common_steps, Some, None, CacheConfig, Item, Progress, find_row, ended, step, progress_in}
use Rattle.jc_model.specs.declared.call.Op.TheVariants.{Get}
use Rattle.jc_model.specs.declared.call.Reply.TheVariants.{Found}
use Rattle.jc_model.specs.Changes.{access, hit}
use Rattle.jc_model.specs.State.{live, is_live}
use Rattle.jc_model.specs.Whole.{holds}
use Rattle.jc_ops.specs.Kept.{Kept, IsRow, has_live, record_of}
use Rattle.jc_ops.proofs.hit.get_at_once.Goals as goal

-- a get of a live row is counted, uses the row, and shows its value
hits : (c : CacheConfig) (now : ℕ) (key : List ℕ) (x : Item) (p : Progress) → find_row key p ≡ Some x → holds c now key p.state ≡ true →
    step c now (record { key = key; op = Get }) p ≡ ended (access c now x (hit p)) (Found (Some x.value))
hits c now key x p there live = grind (arith, common_steps)

-- the key's row is live
row_is_live : (now : ℕ) (key : List ℕ) (k : Kept) (row : ℕ) (x : Item) → IsRow key k row x → live now x.expiry ≡ true → has_live now key k ≡ true
row_is_live now key k row x at is = subst (λ (found : Option Item). (elim found [ None ↦ false | Some y ↦ is_live now y ]) ≡ true) (sym at.found) is

pub returns-in-Ok-clause-found : goal.returns-in-Ok-clause-found
returns-in-Ok-clause-found g c =
    let v = c.args.visit.now in
    let key = c.args.key.now in
    let x = c.in-Some.ensures.found.0 in
    let at = c.in-Some.ensures.found.1 in
    let live = row_is_live v.moment key v.cache c.in-Some.row x at (sym (c.is_live.ensures (record_of x) at.there) ∙ c.if-not-is_live.false) in
    let row : IsRow key c.hit.new.self.cache c.in-Some.row x = rw c.hit.ensures (record { found = at.found; key_is = at.key_is; there = at.there; on = at.on }) in
    let after : progress_in c.access.new.self ≡ access v.cache.config v.moment x (hit (progress_in v)) = rw c.hit.ensures at (c.access.ensures.progress key x row) in
    let shown : Found (Some (g.V.Owned.value c.in-Ok.owned)) ≡ Found (Some x.value) = ap (λ (v : List ℕ). Found (Some v)) (c.in-Ok.ensures ∙ (c.first.ensures ∙
    c.value.ensures (record_of x) at.there)) in
    hits v.cache.config v.moment key x (progress_in v) at.found live ∙ sym (ap₂ ended after shown)
