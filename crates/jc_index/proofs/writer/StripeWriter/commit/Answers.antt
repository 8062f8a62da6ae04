use Rattle.std.proofs.Common.{◌≡◌, ◌+◌, ◌-◌, ◌%◌, ℕ, List, [], ◌∷◌, ◌++◌, length, take, set, get_or, arith, ap, sym, ◌∙◌, subst}
use Rattle.atomic_table.specs.Table.{Me}
use Rattle.jc_index.specs.declared.board.View.{View}
use Rattle.jc_index.specs.declared.board.Role.{Role}
use Rattle.jc_index.specs.declared.board.Role.TheVariants.{Writing}
use Rattle.jc_index.specs.StripeLayout.{version_count}
use Rattle.jc_index.specs.Stripes.{Changes, IsVersionCommitted, desk, desk_in, desk_of, last_of, set_all}
use Rattle.jc_index.proofs.Lists.{last-append}
use Rattle.jc_index.proofs.Opening.{set_all-last, length-set_all, covered_at, covered_take, both, opened_fits, shut_fits, settled_after}
use Rattle.jc_index.proofs.writer.StripeWriter.commit.Goals as goal

abbrev Sat : Type 0 → Type 0
Sat L = Me (Unit {0}) (View L)

abbrev opened : {L : Type 0} → Sat L → List ℕ → Sat L
opened m vs = (record m.0 { role = desk vs (desk_of m.0).words }, m.1)

abbrev filled : {L : Type 0} → Sat L → List (ℕ × ℕ) → Sat L
filled m xs = (record m.0 { role = desk (desk_of m.0).versions (set_all (desk_of m.0).words xs) }, m.1)

abbrev sealed : {L : Type 0} → Sat L → ℕ × ℕ → Sat L
sealed m x = (record m.0 { role = desk (desk_of m.0).versions (set (desk_of m.0).words x.0 x.1); front = m.0.front ++ set (desk_of m.0).words x.0 x.1 ∷ [] }, m.1)

abbrev shut : {L : Type 0} → Sat L → List ℕ → Sat L
shut m vs = (record m.0 { role = desk vs (last_of m.0.front) }, m.1)

-- the seat after the last set, with these words
abbrev after : {L : Type 0} → Sat L → List ℕ → List ℕ → Sat L
after m vs ws = (record m.0 { role = desk vs ws; front = m.0.front ++ ws ∷ [] }, m.1)

words_after : {L : Type 0} (m m1 m2 m3 : Sat L) (vs versions : List ℕ) (xs : List (ℕ × ℕ)) (last : ℕ) → m.0.role ≡ desk versions (last_of m.0.front) → last + 1 ≡ length xs
    → m1 ≡ opened m vs → m2 ≡ filled m1 (take last xs) → m3 ≡ sealed m2 (get_or xs last (0, 0)) → m3 ≡ after m vs (set_all (last_of m.0.front) xs)
words_after {L = L} m m1 m2 m3 vs versions xs last rest is one two three =
    three ∙ (ap (λ (m : Sat L). sealed m (get_or xs last (0, 0))) (two ∙ ap (λ (m : Sat L). filled m (take last xs)) one)
    ∙ ap (after m vs) (set_all-last (desk_of m.0).words xs last (0, 0) is ∙ ap (λ (r : Role). set_all (desk_in r).words xs) rest))

-- the seat after the last version is shut
shut_after : {L : Type 0} (m m3 m4 : Sat L) (vs us ws : List ℕ) → m3 ≡ after m vs ws → m4 ≡ shut m3 us → m4 ≡ after m us ws
shut_after {L = L} m m3 m4 vs us ws three four = four ∙ (ap (λ (m : Sat L). shut m us) three ∙ ap (λ (l : List ℕ). (record m.0 { role = desk us l; front = m.0.front ++ ws ∷ [] }, m.1)) (last-append [] m.0.front ws))

pub fill-requires-clause-is_open : goal.fill-requires-clause-is_open
fill-requires-clause-is_open g c k d inside =
    let last = length c.args.writes.now - 1 in
    let vs = c.open_all.new.versions in
    let is : (desk_of c.open_all.new.seat.me.0).versions ≡ vs = ap (λ (m : Sat g.row.L.Denot). (desk_of m.0).versions) c.open_all.ensures.view in
    let place = g.L.Law.group (get_or (take last c.args.writes.now) k d).0 in
    let among = covered_at g.L.Law.group c.args.stripes.now (take last c.args.writes.now) k d inside (covered_take g.L.Law.group c.args.stripes.now last c.args.writes.now c.requires.covered) in
    ap (λ (l : List ℕ). get_or l place 0 % 2) is ∙ (c.open_all.ensures.changes.there place among).odd

pub seal-requires-clause-is_open : goal.seal-requires-clause-is_open
seal-requires-clause-is_open g c =
    let last = length c.args.writes.now - 1 in
    let is : (desk_of c.fill.new.seat.me.0).versions ≡ c.open_all.new.versions = ap (λ (m : Sat g.row.L.Denot). (desk_of m.0).versions) c.fill.ensures.view ∙ ap (λ (m : Sat g.row.L.Denot). (desk_of m.0).versions) c.open_all.ensures.view in
    let place = g.L.Law.group (get_or c.args.writes.now last (0, 0)).0 in
    let among = covered_at g.L.Law.group c.args.stripes.now c.args.writes.now last (0, 0) (omega arith) c.requires.covered in
    (ap (λ (m : Sat g.row.L.Denot). m.0.role) c.fill.ensures.view ∙ ap (λ (m : Sat g.row.L.Denot). Writing (desk_of m.0)) (sym c.fill.ensures.view), ap (λ (l : List ℕ). get_or l place 0 % 2) is ∙ (c.open_all.ensures.changes.there place among).odd)

pub seal-requires-clause-lawful : goal.seal-requires-clause-lawful
seal-requires-clause-lawful g c =
    let me = c.args.self.now.seat.me in
    let xs = c.args.writes.now in
    let last = length xs - 1 in
    let x = get_or xs last (0, 0) in
    let two : c.fill.new.seat.me ≡ filled (opened me c.open_all.new.versions) (take last xs) = c.fill.ensures.view ∙ ap (λ (m : Sat g.row.L.Denot). filled m (take last xs)) c.open_all.ensures.view in
    let words : set (desk_of c.fill.new.seat.me.0).words x.0 x.1 ≡ set_all (last_of me.0.front) xs =
    ap (λ (m : Sat g.row.L.Denot). set (desk_of m.0).words x.0 x.1) two
    ∙ (set_all-last (desk_of me.0).words xs last (0, 0) (omega arith) ∙ ap (λ (r : Role). set_all (desk_in r).words xs) c.args.self.now.at_rest) in
    (c.requires.lawful.0, ap (λ (m : Sat g.row.L.Denot). m.0.law) two ∙ c.requires.lawful.1, subst (g.L.Law.admits c.requires.lawful.0) (sym words) c.requires.lawful.2)

pub shut_all-requires-clause-known : goal.shut_all-requires-clause-known
shut_all-requires-clause-known g c =
    let me = c.args.self.now.seat.me in
    let xs = c.args.writes.now in
    let ws = set_all (last_of me.0.front) xs in
    let e = words_after me _ _ _ c.open_all.new.versions _ xs (length xs - 1) c.args.self.now.at_rest (omega arith) c.open_all.ensures.view c.fill.ensures.view c.seal.ensures.view in
    ap (λ (m : Sat g.row.L.Denot). m.0.role) e ∙ ap (desk c.open_all.new.versions) (sym (ap (λ (m : Sat g.row.L.Denot). last_of m.0.front) e ∙ last-append [] me.0.front ws))

pub invariant_of-self : goal.invariant_of-self
invariant_of-self g c =
    let me = c.args.self.now.seat.me in
    let own = c.args.self.now in
    let xs = c.args.writes.now in
    let ws = set_all (last_of me.0.front) xs in
    let vs = c.open_all.new.versions in
    let us = c.shut_all.new.versions in
    let e = words_after me _ _ c.seal.new.seat.me vs _ xs (length xs - 1) own.at_rest (omega arith) c.open_all.ensures.view c.fill.ensures.view c.seal.ensures.view in
    let f : c.shut_all.new.seat.me ≡ after me us ws = shut_after me c.seal.new.seat.me c.shut_all.new.seat.me vs us ws e c.shut_all.ensures.view in
    let last : last_of c.shut_all.new.seat.me.0.front ≡ ws = ap (λ (m : Sat g.row.L.Denot). last_of m.0.front) f ∙ last-append [] me.0.front ws in
    let table : c.shut_all.new.seat.table_id ≡ own.seat.table_id = c.shut_all.ensures.same.0 ∙ (c.seal.ensures.same.0 ∙ (c.fill.ensures.same.0 ∙ c.open_all.ensures.same.0)) in
    let long : length (last_of c.shut_all.new.seat.me.0.front) ≡ length (last_of me.0.front) = ap length last ∙ length-set_all (last_of me.0.front) xs in
    let fits = opened_fits c.args.stripes.now own.versions vs own.fits c.open_all.ensures.changes in
    let more = shut_fits c.args.stripes.now vs us fits c.shut_all.ensures.changes in
    record {
      seated = table ∙ own.seated;
      sized = (ap (λ z. z.words) table ∙ (own.sized.0 ∙ ap (λ n. version_count + n) (sym long)), omega (arith, ap (λ z. z.words) table, own.sized));
      empty = ap (λ (m : Sat g.row.L.Denot). m.1) f ∙ own.empty;
      fits = more;
      settled = settled_after c.args.stripes.now own.versions us own.fits more own.settled (both c.args.stripes.now own.versions vs us own.fits fits own.settled c.open_all.ensures.changes c.shut_all.ensures.changes);
      at_rest = ap (λ (m : Sat g.row.L.Denot). m.0.role) f ∙ ap (desk us) (sym last);
    }

pub returns-clause-versions : goal.returns-clause-versions
returns-clause-versions g c =
    let own = c.args.self.now in
    let vs = c.open_all.new.versions in
    let us = c.shut_all.new.versions in
    let was : (desk_of own.seat.me.0).versions ≡ own.versions = ap (λ (r : Role). (desk_in r).versions) own.at_rest in
    let is : (desk_of c.shut_all.new.seat.me.0).versions ≡ us = ap (λ (m : Sat g.row.L.Denot). (desk_of m.0).versions) c.shut_all.ensures.view in
    let fits = opened_fits c.args.stripes.now own.versions vs own.fits c.open_all.ensures.changes in
    subst (λ (z : List ℕ × List ℕ). Changes IsVersionCommitted c.args.stripes.now z.0 z.1) (λ i. (sym was i, sym is i))
    (both c.args.stripes.now own.versions vs us own.fits fits own.settled c.open_all.ensures.changes c.shut_all.ensures.changes)

pub returns-clause-front : goal.returns-clause-front
returns-clause-front g c =
    let me = c.args.self.now.seat.me in
    let xs = c.args.writes.now in
    let e = words_after me _ _ c.seal.new.seat.me c.open_all.new.versions _ xs (length xs - 1) c.args.self.now.at_rest (omega arith) c.open_all.ensures.view c.fill.ensures.view c.seal.ensures.view in
    ap (λ (m : Sat g.row.L.Denot). m.0.front) c.shut_all.ensures.view ∙ ap (λ (m : Sat g.row.L.Denot). m.0.front) e
