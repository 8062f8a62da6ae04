use Rattle.std.proofs.Common.{◌≡◌, None, true, false, ℕ, List, ap, sym, ◌∙◌, subst, inl, inr, ⊎_elim}
use Rattle.jc_place.specs.declared.place.Place.{Place}
use Rattle.jc_index.specs.Spelling.{buckets_of, key_of_words}
use Rattle.jc_index.specs.Passes.{IsReaderLookup}
use Rattle.jc_index.proofs.lookup.look_up.Goals as goal

placed : (placing : ℕ → List ℕ → Place) (buckets id : ℕ) (words key : List ℕ) (place : ℕ × ℕ) → key_of_words words ≡ key → place ≡ buckets_of placing buckets (id, key) → buckets_of placing buckets (id, key_of_words words) ≡ place
placed placing buckets id words key place same is = ap (λ (k : List ℕ). buckets_of placing buckets (id, k)) same ∙ sym is

pub probe-same-requires-clause-law : goal.probe-same-requires-clause-law
probe-same-requires-clause-law g c = (record { placer = c.args.placer.now; buckets = c.args.buckets }, c.requires.law, c.requires.wide, placed (g.P.Placer.placing c.args.placer.now) c.args.buckets c.args.sought.now.id c.args.sought.now.words c.args.key.now c.buckets_of-one.result c.requires.same c.buckets_of-one.ensures.these, c.buckets_of-one.ensures.below.0, c.buckets_of-one.ensures.below.1)

pub probe-same-requires-then-first-second-2-clause-law : goal.probe-same-requires-then-first-second-2-clause-law
probe-same-requires-then-first-second-2-clause-law g c = (record { placer = c.args.placer.now; buckets = c.args.buckets }, c.requires.law, c.requires.wide, placed (g.P.Placer.placing c.args.placer.now) c.args.buckets c.args.sought.now.id c.args.sought.now.words c.args.key.now c.buckets_of-one.result c.requires.same c.buckets_of-one.ensures.these, c.buckets_of-one.ensures.below.0, c.buckets_of-one.ensures.below.1)

pub probe-same-requires-2-clause-law : goal.probe-same-requires-2-clause-law
probe-same-requires-2-clause-law g c = (record { placer = c.args.placer.now; buckets = c.args.buckets }, c.requires.law, c.requires.wide, placed (g.P.Placer.placing c.args.placer.now) c.args.buckets c.args.sought.now.id c.args.sought.now.words c.args.key.now c.buckets_of-one.result c.requires.same c.buckets_of-one.ensures.these, c.buckets_of-one.ensures.below.0, c.buckets_of-one.ensures.below.1)

pub returns-then-first-second-clause-unsure : goal.returns-then-first-second-clause-unsure
returns-then-first-second-clause-unsure g c e = ⊎_elim (λ (p : c.probe-same.result.0 ≡ false). inl (c.probe-same.ensures.unsure p)) (λ (p : (c.probe-same.result.0 ≡ true) × (c.probe-same.result.1 ≡ None)). inr (c.probe-same.ensures.sure p.0 ∙ p.1)) (c.lookup_result.ensures.unsure e)

pub returns-then-first-second-2-clause-unsure : goal.returns-then-first-second-2-clause-unsure
returns-then-first-second-2-clause-unsure g c e = ⊎_elim (λ (p : c.probe-same-then-first-second-2.result.0 ≡ false). inl (c.probe-same-then-first-second-2.ensures.unsure p)) (λ (p : (c.probe-same-then-first-second-2.result.0 ≡ true) × (c.probe-same-then-first-second-2.result.1 ≡ None)). inr (c.probe-same-then-first-second-2.ensures.sure p.0 ∙ p.1)) (c.lookup_result-then-first-second-2.ensures.unsure e)

pub returns-clause-unsure : goal.returns-clause-unsure
returns-clause-unsure g c e = ⊎_elim (λ (p : c.probe-same-2.result.0 ≡ false). inl (c.probe-same-2.ensures.unsure p)) (λ (p : (c.probe-same-2.result.0 ≡ true) × (c.probe-same-2.result.1 ≡ None)). inr (c.probe-same-2.ensures.sure p.0 ∙ p.1)) (c.lookup_result-2.ensures.unsure e)

pub returns-then-first-second-clause-reads : goal.returns-then-first-second-clause-reads
returns-then-first-second-clause-reads g c = subst (λ (p : ℕ × ℕ). IsReaderLookup p c.args.reader.now c.probe-same.new.reader) (sym (placed (g.P.Placer.placing c.args.placer.now) c.args.buckets c.args.sought.now.id c.args.sought.now.words c.args.key.now c.buckets_of-one.result c.requires.same c.buckets_of-one.ensures.these)) c.probe-same.ensures.reads

pub returns-then-first-second-2-clause-reads : goal.returns-then-first-second-2-clause-reads
returns-then-first-second-2-clause-reads g c = subst (λ (p : ℕ × ℕ). IsReaderLookup p c.args.reader.now c.probe-same-then-first-second-2.new.reader) (sym (placed (g.P.Placer.placing c.args.placer.now) c.args.buckets c.args.sought.now.id c.args.sought.now.words c.args.key.now c.buckets_of-one.result c.requires.same c.buckets_of-one.ensures.these)) c.probe-same-then-first-second-2.ensures.reads

pub returns-clause-reads : goal.returns-clause-reads
returns-clause-reads g c = subst (λ (p : ℕ × ℕ). IsReaderLookup p c.args.reader.now c.probe-same-2.new.reader) (sym (placed (g.P.Placer.placing c.args.placer.now) c.args.buckets c.args.sought.now.id c.args.sought.now.words c.args.key.now c.buckets_of-one.result c.requires.same c.buckets_of-one.ensures.these)) c.probe-same-2.ensures.reads
