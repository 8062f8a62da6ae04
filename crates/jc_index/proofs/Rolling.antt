-- Each step keeps the rule.
use Rattle.std.proofs.Common.{◌≡◌, ◌≢◌, ℕ, zero, suc, true, List, [], ◌∷◌, ◌++◌, set, refl, ap, sym, subst, ⊎_elim, ◌∙◌}
use mathlib.Core.Option.{some, none, some-injective, some-ne-none}
use mathlib.Core.List.{IsPrefix}
use lib.ListN.{get_elem?}
use Rattle.atomic_table.specs.Table.{Me, step, keeps, Allows, Splits, Joins}
use Rattle.atomic_table.proofs.Lists.{at_set, at_snoc}
use Rattle.jc_index.specs.declared.roll.Known.{Known}
use Rattle.jc_index.proofs.Lists.{prefix_self, prefix_trans}
use Rattle.jc_index.specs.Rolls.{RollRule, KnowsItems, first_known, follower_known, joined_known, nobody_known, AddStep, RecallItemsStep}

module _ {T : Type 0} where
  seats_stay : (K : ℕ → Known T → Type 0) (vs : List (Known T)) (me : ℕ) (w : Known T) → K me w → ((j : ℕ) (v : Known T) → j ≢ me → get_elem? vs j ≡ some v → K j v)
      → (j : ℕ) (v : Known T) → get_elem? (set vs me w) j ≡ some v → K j v
  seats_stay K vs me w mine others j v e = ⊎_elim (λ (t : (j ≡ me) × (w ≡ v)). subst (λ (x : ℕ × Known T). K x.0 x.1) (λ i. (sym t.0 i, t.1 i)) mine)
      (λ (t : (j ≢ me) × (get_elem? vs j ≡ some v)). others j v t.0 t.1) (at_set vs me j w v e)

  abbrev added_view : Known T → T → Known T
  added_view v x = record v { items = v.items ++ x ∷ [] }

  pub adds : (slots id : ℕ) (me : Me T (Known T)) (f : ℕ → ℕ) (old new : ℕ) (x : T) → me.0.keeps ≡ true → Allows RollRule slots id me 0 f (AddStep (step slots 0 old new (some x)) me)
  adds slots id me f old new x is s r _ at _ =
      let seat = r.each_seat id me.0 at in
      let own = seat.2 is in
      let more : List T = r.items ++ x ∷ [] in
      let grown : me.0.items ++ x ∷ [] ≡ more = ap (λ l. l ++ x ∷ []) own.1 in (
        added_view me.0 x,
        keeps,
        tt,
        record {
          items = more;
          keeper = r.keeper;
          each_seat = seats_stay (λ j v. KnowsItems more r.keeper j v) s.views id (added_view me.0 x)
              (subst (λ (l : List T). IsPrefix l more) (sym grown) (prefix_self more), prefix_trans me.0.told r.items more seat.1 (x ∷ [], refl), λ _. (own.0, grown))
              (λ j v other here. let k = r.each_seat j v here in
              (prefix_trans v.items r.items more k.0 (x ∷ [], refl), prefix_trans v.told r.items more k.1 (x ∷ [], refl), λ too. absurd (other ((k.2 too).0 ∙ sym own.0))));
        },
        λ _ y e. ap (λ z. (added_view me.0 z, me.1)) (some-injective x y e),
      )

  pub recalls : (slots id : ℕ) (me : Me T (Known T)) → me.0.keeps ≡ true → Allows RollRule slots id me 0 (λ n. n) (RecallItemsStep (step slots 0 0 0 none) me)
  recalls slots id me is s r _ at _ =
      let seat = r.each_seat id me.0 at in (
        me.0,
        keeps,
        tt,
        record { items = r.items; keeper = r.keeper; each_seat = seats_stay (λ j v. KnowsItems r.items r.keeper j v) s.views id me.0 seat (λ j v _. r.each_seat j v) },
        λ _. (refl, subst (λ (l : List T). IsPrefix me.0.told l) (sym (seat.2 is).1) seat.1),
      )

  pub shares : (id : ℕ) (v : Known T) → Splits RollRule id v v (follower_known v)
  shares id v s r at = let seat = r.each_seat id v at in record {
    items = r.items;
    keeper = r.keeper;
    each_seat = λ j u e. ⊎_elim (seats_stay (λ j v. KnowsItems r.items r.keeper j v) s.views id v seat (λ i x _. r.each_seat i x) j u)
        (λ (t : follower_known v ≡ u). subst (λ (z : Known T). KnowsItems r.items r.keeper j z) t (seat.0, (r.items, refl), λ no. absurd cc)) (at_snoc (set s.views id v) (follower_known v) u j e);
  }

  pub hears : (id : ℕ) (v : Known T) (other : ℕ) (w : Known T) → Joins RollRule id v other w (joined_known v w) nobody_known
  hears id v other w s r at apart there =
      let seat = r.each_seat id v at in
      let its = ⊎_elim (λ (t : (other ≡ id) × (joined_known v w ≡ w)). absurd (apart t.0)) (λ (t : (other ≢ id) × (get_elem? s.views other ≡ some w)). r.each_seat other w t.1) (at_set s.views id other (joined_known v w) w there) in
      let K : ℕ → Known T → Type 0 = λ j v. KnowsItems r.items r.keeper j v in record {
        items = r.items;
        keeper = r.keeper;
        each_seat = seats_stay K (set s.views id (joined_known v w)) other nobody_known ((r.items, refl), (r.items, refl), λ no. absurd cc)
            (λ j x _. seats_stay K s.views id (joined_known v w) (seat.0, its.0, seat.2) (λ i y _. r.each_seat i y) j x);
      }

  only_seat : (j : ℕ) (v : Known T) → get_elem? (first_known ∷ []) j ≡ some v → KnowsItems [] 0 j v
  only_seat zero v e = subst (λ (z : Known T). KnowsItems [] 0 0 z) (some-injective first_known v e) (([], refl), ([], refl), λ _. (refl, refl))
  only_seat (suc j) v e = absurd (some-ne-none v (sym e))

  pub opens : RollRule {T = T} record { words = 0 ∷ []; homes = []; views = first_known ∷ [] }
  opens = record { items = []; keeper = 0; each_seat = λ j v e. only_seat j v e }
