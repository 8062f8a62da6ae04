use Rattle.std.proofs.Common.{◌∷◌, [], ◌++◌, Some, List, Option, refl, sym, ap, ap₂, ◌∙◌, inl, inr}
use Rattle.jc_cuckoo.specs.declared.held.Held.{Held}
use Rattle.jc_cuckoo.specs.declared.held.Work.{Work}
use Rattle.jc_cuckoo.specs.Cells.{held_place}
use Rattle.jc_cuckoo.proofs.Crowded.{middle_of, resort_stowed, tries_settled, tries_stowed, tries_twice}
use Rattle.jc_cuckoo.proofs.table.CuckooRows.put.Goals as goal

pub returns-then-not-double-clause-stash : goal.returns-then-not-double-clause-stash
returns-then-not-double-clause-stash g c =
    let s = c.settle.ensures.stays c.if-settle.false in let l = c.double.ensures.refused c.if-not-double.true in let f = c.stow.ensures.follows in
    inr (resort_stowed (g.P.Placer.placing c.self.inside.placer) (g.P.Placer.placing c.stow.new.self.placer) c.self.inside.buckets c.stow.new.self.buckets c.self.inside.cells.items c.stow.new.self.cells _ (held_place c.same.result) (c.args.id, c.args.key) c.self.invariant.0.sound.wide s.full
    (ap g.P.Placer.placing (f.placer ∙ (l.placer ∙ s.placer))) (f.buckets ∙ (l.buckets ∙ s.buckets)) (c.stow.ensures.cells ∙ ap₂ (λ (a : List (Option Held)) (h : Held). a ++ Some h ∷ []) (l.cells ∙ s.cells) (sym c.same.ensures)) (sym (ap held_place c.same.ensures)))

pub returns-then-settle-clause-images : goal.returns-then-settle-clause-images
returns-then-settle-clause-images g c =
    rw (← c.self.view_is) (inl (tries_settled g.P.Placer.placing g.M.Mirror.images _ _ c.settle.new.self c.same.result (c.args.id, c.args.key) _ (ap held_place c.same.ensures) record { placer = refl; cells = refl; buckets = refl; images = refl } c.settle.ensures.counted (c.settle.ensures.settled c.if-settle.true)))

pub returns-then-not-double-clause-images : goal.returns-then-not-double-clause-images
returns-then-not-double-clause-images g c =
    let s = c.settle.ensures.stays c.if-settle.false in let l = c.double.ensures.refused c.if-not-double.true in let f = c.stow.ensures.follows in
    rw (← c.self.view_is) (inl (tries_stowed g.P.Placer.placing g.M.Mirror.images _ c.double.new.self c.stow.new.self c.same.result (c.args.id, c.args.key) _ c.settle.new.self.work (ap held_place c.same.ensures) c.settle.ensures.counted (f.work ∙ c.double.ensures.work) s.moves
    record { placer = l.placer ∙ s.placer; cells = l.cells ∙ s.cells; buckets = l.buckets ∙ s.buckets; images = l.images ∙ ap g.M.Mirror.images s.mirror } f c.stow.ensures.covers))

pub returns-then-settle-2-clause-images : goal.returns-then-settle-2-clause-images
returns-then-settle-2-clause-images g c =
    let s = c.settle.ensures.stays c.if-settle.false in let d = c.double.ensures in let t = c.if-not-double.false in
    let second = tries_settled g.P.Placer.placing g.M.Mirror.images c.double.new.self c.double.new.self c.settle-2.new.self c.same-2.result (c.args.id, c.args.key) c.double.new.self.work (ap held_place c.same-2.ensures) record { placer = refl; cells = refl; buckets = refl; images = refl } c.settle-2.ensures.counted (c.settle-2.ensures.settled c.if-settle-2.true) in
    rw (← c.self.view_is) (inr (tries_twice g.P.Placer.placing g.M.Mirror.images _ c.settle.new.self c.double.new.self c.settle-2.new.self (c.args.id, c.args.key)
    (middle_of g.P.Placer.placing g.M.Mirror.images _ c.settle.new.self c.double.new.self c.same.result (c.args.id, c.args.key) (ap held_place c.same.ensures) record { placer = s.placer; cells = s.cells; buckets = s.buckets; images = ap g.M.Mirror.images s.mirror } c.settle.ensures.counted s.full d.work (d.allowed t) (d.doubled t) (d.images t)) s.room second))

pub returns-clause-images : goal.returns-clause-images
returns-clause-images g c =
    let s = c.settle.ensures.stays c.if-settle.false in let d = c.double.ensures in let t = c.if-not-double.false in
    let e = c.settle-2.ensures.stays c.if-settle-2.false in let f = c.stow-2.ensures.follows in
    let second = tries_stowed g.P.Placer.placing g.M.Mirror.images c.double.new.self c.settle-2.new.self c.stow-2.new.self c.same-2.result (c.args.id, c.args.key) c.double.new.self.work c.settle-2.new.self.work (ap held_place c.same-2.ensures) c.settle-2.ensures.counted f.work (e.moves ∙ (ap (λ (w : Work). w.moves) d.work ∙ s.moves))
    record { placer = e.placer; cells = e.cells; buckets = e.buckets; images = ap g.M.Mirror.images e.mirror } f c.stow-2.ensures.covers in
    rw (← c.self.view_is) (inr (tries_twice g.P.Placer.placing g.M.Mirror.images _ c.settle.new.self c.double.new.self c.stow-2.new.self (c.args.id, c.args.key)
    (middle_of g.P.Placer.placing g.M.Mirror.images _ c.settle.new.self c.double.new.self c.same.result (c.args.id, c.args.key) (ap held_place c.same.ensures) record { placer = s.placer; cells = s.cells; buckets = s.buckets; images = ap g.M.Mirror.images s.mirror } c.settle.ensures.counted s.full d.work (d.allowed t) (d.doubled t) (d.images t)) s.room second))

pub returns-clause-stash : goal.returns-clause-stash
returns-clause-stash g c =
    let s = c.settle-2.ensures.stays c.if-settle-2.false in let f = c.stow-2.ensures.follows in
    inr (resort_stowed (g.P.Placer.placing c.double.new.self.placer) (g.P.Placer.placing c.stow-2.new.self.placer) c.double.new.self.buckets c.stow-2.new.self.buckets c.double.new.self.cells c.stow-2.new.self.cells _ (held_place c.same-2.result) (c.args.id, c.args.key) c.double.ensures.wide s.full
    (ap g.P.Placer.placing (f.placer ∙ s.placer)) (f.buckets ∙ s.buckets) (c.stow-2.ensures.cells ∙ ap₂ (λ (a : List (Option Held)) (h : Held). a ++ Some h ∷ []) s.cells (sym c.same-2.ensures)) (sym (ap held_place c.same-2.ensures)))
