use Rattle.std.proofs.Common.{◌≡◌, ◌≢◌, ◌⊎◌, ◌<◌, ℕ, List, [], length, arith, ap, sym, subst, ◌∙◌, true}
use Rattle.jc_index.specs.StripeLayout.{version_count}
use Rattle.jc_index.specs.Versions.{onto, versions_of}
use Rattle.std.specs.List.{All}
use mathlib.Core.List.{IsPrefix}
use Rattle.jc_index.specs.Stripes.{AreReadAtRest, Front, SomeOdd, last_of, stack_of, glance_of, stripes_in}
use Rattle.jc_index.specs.Spelling.{image_in, key_of_words}
use Rattle.jc_rows.specs.Images.{Image}
use Rattle.jc_index.specs.Found.{found_in_image}
use Rattle.jc_index.proofs.Found.{decides, spelt_in}
use Rattle.jc_index.proofs.Taking.{few_versions, some_versions, all_in}
use Rattle.jc_index.proofs.Seeing.{stacked_stripes, prefix_map, last_images, begun_two, front_two, law_two, law_three, lookups_three}
use Rattle.jc_index.proofs.lookup.probe.Goals as goal

pub begin-requires-clause-some : goal.begin-requires-clause-some
begin-requires-clause-some g c = subst (λ (l : List ℕ). 0 < length l) (sym c.requires.stripes) (some_versions c.args.one c.args.two true)

pub begin-requires-clause-few : goal.begin-requires-clause-few
begin-requires-clause-few g c = subst (λ (l : List ℕ). All (λ j. j < version_count) l) (sym c.requires.stripes) (few_versions c.args.one c.args.two true)

pub look-answer-requires-clause-one : goal.look-answer-requires-clause-one
look-answer-requires-clause-one g c = omega (arith, c.requires.law.2, c.requires.law.4, ap (λ z. z.words) c.begin.ensures.same)

pub look-answer-requires-clause-two : goal.look-answer-requires-clause-two
look-answer-requires-clause-two g c = omega (arith, c.requires.law.2, c.requires.law.5, ap (λ z. z.words) c.begin.ensures.same)

pub check-same-requires-clause-begun : goal.check-same-requires-clause-begun
check-same-requires-clause-begun g c =
    let js = c.args.stripes.now in
    let m = all_in js c.args.one c.args.two c.requires.stripes in
    let n = c.look-answer.ensures.noted js m.0 m.1 m.2 in
    ap (λ v. (glance_of v).begun) n.view ∙ ap (λ v. (glance_of v).begun) c.begin.ensures.view

pub check-same-requires-clause-fresh : goal.check-same-requires-clause-fresh
check-same-requires-clause-fresh g c =
    let js = c.args.stripes.now in
    let m = all_in js c.args.one c.args.two c.requires.stripes in
    let n = c.look-answer.ensures.noted js m.0 m.1 m.2 in
    ap (λ v. (glance_of v).checked) n.view ∙ ap (λ v. (glance_of v).checked) c.begin.ensures.view

pub returns-clause-sure : goal.returns-clause-sure
returns-clause-sure g c e =
    let js = c.args.stripes.now in
    let m = all_in js c.args.one c.args.two c.requires.stripes in
    let n = c.look-answer.ensures.noted js m.0 m.1 m.2 in
    let l = c.requires.law.0 in
    let front = c.check-same.new.self.seat.me.0.front in
    let lawful = c.check-same.ensures.lawful l (law_two c.args.reader.now.seat.me.0 c.begin.new.self.seat.me.0 c.look-answer.new.reader.seat.me.0 c.check-same.new.self.seat.me.0 (stack_of c.args.stripes.now c.begin.new.versions []) c.begin.ensures.view n.view c.check-same.ensures.view ∙ c.requires.law.1) in
    let k = n.tells (last_of front) (c.check-same.ensures.read e) in
    let long = lawful.spelt.wide in
    let at = spelt_in (last_of front) c.args.one lawful.spelt.coded (omega (arith, long, c.requires.law.4)) in
    let at' = spelt_in (last_of front) c.args.two lawful.spelt.coded (omega (arith, long, c.requires.law.5)) in
    ap (λ (image : Image). found_in_image image c.args.sought.now.id (key_of_words c.args.sought.now.words) c.args.sought.now.moment) (last_images front)
    ∙ (decides (g.P.Placer.placing l.placer) l.buckets (last_of front) lawful c.args.sought.now.id (key_of_words c.args.sought.now.words) c.args.sought.now.moment c.args.one c.args.two c.requires.law.3 c.requires.law.4 c.requires.law.5 ∙ sym (k.1 at at'))

pub returns-clause-stays : goal.returns-clause-stays
returns-clause-stays g c e =
    subst (λ (b : List (ℕ × ℕ)). AreReadAtRest b (glance_of c.check-same.new.self.seat.me.0).checked) (sym (ap (λ v. (glance_of v).begun) c.check-same.ensures.view)) (c.check-same.ensures.stays e)

pub returns-clause-unsure : goal.returns-clause-unsure
returns-clause-unsure g c e =
    subst (λ (b : List (ℕ × ℕ)). SomeOdd b ⊎ (b ≢ (glance_of c.check-same.new.self.seat.me.0).checked)) (sym (ap (λ v. (glance_of v).begun) c.check-same.ensures.view)) (c.check-same.ensures.differ e)

pub returns-clause-reads : goal.returns-clause-reads
returns-clause-reads g c =
    let js = c.args.stripes.now in
    let m = all_in js c.args.one c.args.two c.requires.stripes in
    let n = c.look-answer.ensures.noted js m.0 m.1 m.2 in
    let v0 = c.args.reader.now.seat.me.0 in
    let v1 = c.begin.new.self.seat.me.0 in
    let v2 = c.look-answer.new.reader.seat.me.0 in
    let v3 = c.check-same.new.self.seat.me.0 in
    let begun = stack_of js c.begin.new.versions [] in
    let one = c.begin.ensures.view in
    let three = c.check-same.ensures.view in
    let all_of : stripes_in begun ≡ onto (versions_of c.args.one c.args.two true) [] = stacked_stripes js c.begin.new.versions [] (c.begin.ensures.alike ∙ c.requires.alike) ∙ ap (λ (l : List ℕ). onto l []) c.requires.stripes in
    record {
      stripes = ap (λ v. stripes_in (glance_of v).begun) three ∙ (ap stripes_in (begun_two v0 v1 v2 v3 begun one n.view three) ∙ all_of);
      again = c.check-same.ensures.again ∙ sym (ap (λ v. stripes_in (glance_of v).begun) three);
      front = prefix_map image_in _ _ (subst (λ (f : Front). IsPrefix f v3.front) (front_two v0 v1 v2 v3 begun one n.view three) c.check-same.ensures.front);
      counted = lookups_three v0 v1 v2 v3 begun one n.view three;
      table = c.check-same.ensures.same ∙ (n.table ∙ c.begin.ensures.same);
      law = law_three v0 v1 v2 v3 begun one n.view three;
      settled = ap (λ v. (glance_of v).settled) three;
    }
