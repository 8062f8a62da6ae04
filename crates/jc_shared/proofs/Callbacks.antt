-- A list of listeners that was lent to answer a request.
use Rattle.std.proofs.Common.{◌≡◌, ℕ, List, length, Option, Result, Ok, Err, sym, ◌∙◌, ap, subst}
use Rattle.std.specs.Coded.{Coded-set, coded_ℕ}
use Rattle.std.specs.Global.{Vec}
use Rattle.std.specs.Prelude.{IfOk, OnOk}
use Rattle.std.specs.Vec.{with_items}
use Rattle.std.proofs.lemmas.List.{with_items_is}
use Rattle.jc_hooks.specs.Answering.{AsksWriter, TellsNoticesOf}
use Rattle.jc_hooks.specs.Asking.{TellsAll}
use Rattle.jc_model.specs.declared.call.Answer.{Answer}
use Rattle.jc_model.specs.declared.call.Notice.{Notice}
use Rattle.jc_model.specs.declared.call.Request.{Request}
use Rattle.jc_model.specs.declared.call.Request.TheVariants.{Load, Write, Delete, Process, Tell}
use Rattle.jc_locked.specs.declared.hooks.LockedHooks.{LockedHooks}
use Rattle.jc_locked.specs.Serving.{TellsListenersBy, ServesRequest}

-- it is what it was where its items are
pub left_alone : {K : Type 0} (v : Vec K) (ws : List K) → ws ≡ v.items → with_items v ws ≡ v
left_alone {K} v ws same = whole (with_items v ws).items (with_items v ws).ok.0 (with_items_is v ws (ap length same ∙ sym v.ok.0) ∙ same)
  where
    with : (xs : List K) → v.len ≡ length xs → Vec K
    with xs is = record { ptr = v.ptr; len = v.len; cap = v.cap; alloc = v.alloc; items = xs; ok = (is, v.ok.1); small = v.small }

    whole : (xs : List K) (is : v.len ≡ length xs) → xs ≡ v.items → with xs is ≡ v
    whole xs is e = subst (λ (zs : List K). (p : v.len ≡ length zs) → with zs p ≡ v) (sym e) (λ p. ap (with v.items) (Coded-set coded_ℕ v.len (length v.items) p v.ok.0)) is

module _ {W K : Type 0} (may : W → List (Request × Answer) → Type 0) (state_after : K → List Notice → List ℕ) where
  told_lent : (old : LockedHooks W K) (writer : Option W) (ws : List K) (q : Request) → length ws ≡ old.listeners.len → TellsNoticesOf state_after old.listeners.items ws q → TellsListenersBy state_after old (record { writer = writer; listeners = with_items old.listeners ws }) q
  told_lent old writer ws (Tell notices) many told = subst (λ (ks : List K). TellsAll state_after old.listeners.items ks notices) (sym (with_items_is old.listeners ws many)) told
  told_lent old writer ws (Write key value) many same = left_alone old.listeners ws same
  told_lent old writer ws (Delete key) many same = left_alone old.listeners ws same
  told_lent old writer ws (Load key) many same = left_alone old.listeners ws same
  told_lent old writer ws (Process key n value argument) many same = left_alone old.listeners ws same

  pub served_lent : {E : Type 0} (old : LockedHooks W K) (writer : Option W) (lent ws : List K) (q : Request) (r : Result Answer E) → lent ≡ old.listeners.items → length ws ≡ old.listeners.len → IfOk r (AsksWriter may old.writer writer q)
      → OnOk r (TellsNoticesOf state_after lent ws q) → IfOk r (ServesRequest may state_after old (record { writer = writer; listeners = with_items old.listeners ws }) q)
  served_lent old writer lent ws q (Ok a) is many asked told = (asked, told_lent old writer ws q many (subst (λ (ks : List K). TellsNoticesOf state_after ks ws q) is told))
  served_lent old writer lent ws q (Err e) is many asked told = tt
