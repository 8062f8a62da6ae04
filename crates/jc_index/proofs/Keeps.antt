-- Each step keeps the rule.
use Rattle.std.proofs.Common.{◌≡◌, ℕ, zero, suc, ◌+◌, ◌-◌, ◌%◌, ◌<◌, ◌≤◌, ◌≢◌, Bool, true, false, List, [], ◌∷◌, ◌++◌, length, get_or, set, Some, sym, refl, ap, ◌∙◌, subst, ⊎_elim, arith, le_refl, length-set, get_or-set_other, get_or-set_same}
use mathlib.Core.Logic.{dite}
use mathlib.Core.Option.{some, none, some-injective, some-ne-none}
use mathlib.Core.List.{IsPrefix}
use native.Mathlib.Decide.{ℕ_discrete}
use lib.ListN.{get_elem?}
use lib.Seq.{set-get_or}
use Rattle.atomic_table.specs.Table.{State, Me, step, keeps, stepped, Allows, Splits, Joins}
use Rattle.atomic_table.proofs.Lists.{at_set, at_snoc}
use Rattle.jc_index.specs.declared.board.Desk.{Desk}
use Rattle.jc_index.specs.declared.board.Glance.{Glance}
use Rattle.jc_index.specs.declared.board.Role.{Role}
use Rattle.jc_index.specs.declared.board.Role.TheVariants.{Writing, Looking}
use Rattle.jc_index.specs.declared.board.View.{View}
use Rattle.jc_index.specs.Stripes.{Front, IsUnder, BoardRule, KnowsBoard, RoleHolds, ReadsUnder, NotesHold, CheckTells, base_of, last_of, desk, glance, VersionStep, SetStep, SealStep, reader_view, joined_view, nobody_view, RecallStep, begun_view, BeginStep, NoteStep, CheckStep}
use Rattle.jc_index.proofs.Lists.{prefix_self, prefix_trans, last-append, set_left, set_right, get_left, get_right}

module _ (group : ℕ → ℕ) where
  reads_on : (j : ℕ) (base base' : List ℕ) (notes : List (ℕ × ℕ)) → ((i : ℕ) → group i ≡ j → get_or base' i 0 ≡ get_or base i 0) → ReadsUnder group j base notes → ReadsUnder group j base' notes
  reads_on j base base' [] same k = tt
  reads_on j base base' (n ∷ ns) same k = (λ here. same n.0 here ∙ k.0 here, reads_on j base base' ns same k.1)

  -- versions only grow, and while one stays, and is even, its stripe stays
  stands_on : (versions versions' base base' : List ℕ) (notes begun : List (ℕ × ℕ)) → ((j : ℕ) → get_or versions j 0 ≤ get_or versions' j 0)
      → ((i : ℕ) → get_or versions (group i) 0 % 2 ≡ 0 → get_or versions' (group i) 0 ≡ get_or versions (group i) 0 → get_or base' i 0 ≡ get_or base i 0)
      → NotesHold group versions base notes begun → NotesHold group versions' base' notes begun
  stands_on versions versions' base base' notes [] up same k = tt
  stands_on versions versions' base base' notes (b ∷ bs) up same k =
      let below : b.1 ≤ get_or versions b.0 0 = k.0.0 in
      let grows : get_or versions b.0 0 ≤ get_or versions' b.0 0 = up b.0 in (
        (
          omega arith,
          λ even here.
              let now : b.1 ≡ get_or versions b.0 0 = omega arith in
              let rest : get_or versions b.0 0 % 2 ≡ 0 = ap (λ (z : ℕ). z % 2) (sym now) ∙ even in
              let stays : get_or versions' b.0 0 ≡ get_or versions b.0 0 = sym here ∙ now in
              reads_on b.0 base base' notes (λ i own. same i (ap (λ (z : ℕ). get_or versions z 0 % 2) own ∙ rest) (ap (λ (z : ℕ). get_or versions' z 0) own ∙ (stays ∙ ap (λ (z : ℕ). get_or versions z 0) (sym own)))) (k.0.1 even now),
        ),
        stands_on versions versions' base base' notes bs up same k.1,
      )

  -- no notes yet
  unread : (versions base base' : List ℕ) (notes begun : List (ℕ × ℕ)) → NotesHold group versions base notes begun → NotesHold group versions base' [] begun
  unread versions base base' notes [] k = tt
  unread versions base base' notes (b ∷ bs) k = ((k.0.0, λ _ _. tt), unread versions base base' notes bs k.1)

  -- one note more
  one_more : (versions base : List ℕ) (i n : ℕ) (notes begun : List (ℕ × ℕ)) → get_or base i 0 ≡ n → NotesHold group versions base notes begun → NotesHold group versions base ((i, n) ∷ notes) begun
  one_more versions base i n notes [] is k = tt
  one_more versions base i n notes (b ∷ bs) is k = ((k.0.0, λ even here. ((λ _. is), k.0.1 even here)), one_more versions base i n notes bs is k.1)

  shows : (versions base : List ℕ) (j n : ℕ) (notes begun : List (ℕ × ℕ)) → n ≡ get_or versions j 0 → NotesHold group versions base notes begun → CheckTells group j n base notes begun
  shows versions base j n notes [] is k = tt
  shows versions base j n notes (b ∷ bs) is k =
      ((λ own even here. subst (λ (z : ℕ). ReadsUnder group z base notes) own (k.0.1 even (here ∙ (is ∙ ap (λ (z : ℕ). get_or versions z 0) (sym own))))), shows versions base j n notes bs is k.1)

  module _ {L : Type 0} (many : ℕ) (admits : L → List ℕ → Type 0) (law : L) where
    abbrev St : Type 0
    St = State (Unit {0}) (View L)

    abbrev M : Type 0
    M = Me (Unit {0}) (View L)

    abbrev Rule : St → Type 0
    Rule = BoardRule group many admits law

    seats_stay : (K : ℕ → View L → Type 0) (vs : List (View L)) (me : ℕ) (w : View L) → K me w → ((j : ℕ) (v : View L) → j ≢ me → get_elem? vs j ≡ some v → K j v)
        → (j : ℕ) (v : View L) → get_elem? (set vs me w) j ≡ some v → K j v
    seats_stay K vs me w mine others j v e = ⊎_elim (λ (t : (j ≡ me) × (w ≡ v)). subst (λ (x : ℕ × View L). K x.0 x.1) (λ i. (sym t.0 i, t.1 i)) mine)
        (λ (t : (j ≢ me) × (get_elem? vs j ≡ some v)). others j v t.0 t.1) (at_set vs me j w v e)

    based : (versions versions' words words' : List ℕ) (notes begun : List (ℕ × ℕ)) (mine : Front) (settled : Bool) → ((j : ℕ) → get_or versions j 0 ≤ get_or versions' j 0)
        → ((i : ℕ) → get_or versions (group i) 0 % 2 ≡ 0 → get_or versions' (group i) 0 ≡ get_or versions (group i) 0 → get_or words' i 0 ≡ get_or words i 0)
        → NotesHold group versions (base_of group words mine settled) notes begun → NotesHold group versions' (base_of group words' mine settled) notes begun
    based versions versions' words words' notes begun mine true up same k = stands_on versions versions' (last_of mine) (last_of mine) notes begun up (λ _ _ _. refl) k
    based versions versions' words words' notes begun mine false up same k = stands_on versions versions' words words' notes begun up same k

    -- what another seat knows stays so, where the writer moves
    others_do : (versions versions' words words' : List ℕ) (f f' : Front) (writer j : ℕ) → ((j : ℕ) → get_or versions j 0 ≤ get_or versions' j 0)
        → ((i : ℕ) → get_or versions (group i) 0 % 2 ≡ 0 → get_or versions' (group i) 0 ≡ get_or versions (group i) 0 → get_or words' i 0 ≡ get_or words i 0)
        → j ≢ writer → (mine : Front) (role : Role) → RoleHolds group law versions words f writer j mine role → RoleHolds group law versions' words' f' writer j mine role
    others_do versions versions' words words' f f' writer j up same other mine (Writing d) k = absurd (other k.0)
    others_do versions versions' words words' f f' writer j up same other mine (Looking g) k = based versions versions' words words' g.notes g.begun mine g.settled up same k

    -- a step of the writer's
    moved : (s : St) (r : Rule s) (k n me : ℕ) (cs : List (ℕ × Unit {0})) (w : View L) (versions words : List ℕ) (front : Front) → set s.words k n ≡ versions ++ words → length versions ≡ many
        → ((i : ℕ) → get_or versions (group i) 0 % 2 ≡ 0 → get_or words i 0 ≡ get_or (last_of front) i 0)
        → ((j : ℕ) → get_or r.versions j 0 ≤ get_or versions j 0)
        → ((i : ℕ) → get_or r.versions (group i) 0 % 2 ≡ 0 → get_or versions (group i) 0 ≡ get_or r.versions (group i) 0 → get_or words i 0 ≡ get_or r.words i 0)
        → IsPrefix r.front front → me ≡ r.writer → admits law (last_of front) → KnowsBoard group law versions words front r.writer me w → Rule (stepped s k n me cs w keeps)
    moved s r k n me cs w versions words front laid counted at_rest up same longer own just mine = record {
      versions = versions;
      words = words;
      front = front;
      writer = r.writer;
      laid = laid;
      counted = counted;
      at_rest = at_rest;
      lawful = just;
      each_seat = seats_stay (λ j v. KnowsBoard group law versions words front r.writer j v) s.views me w mine (λ j v other at. let k = r.each_seat j v at in (
        prefix_trans v.front r.front front k.0 longer,
        prefix_trans v.told r.front front k.1 longer,
        k.2,
        others_do r.versions versions r.words words r.front front r.writer j up same (λ is. other (is ∙ sym own)) v.front v.role k.3,
      ));
    }

    -- a step that changes no word
    unmoved : (s : St) (r : Rule s) (k me : ℕ) (cs : List (ℕ × Unit {0})) (w : View L) → KnowsBoard group law r.versions r.words r.front r.writer me w → Rule (stepped s k (get_or s.words k 0) me cs w keeps)
    unmoved s r k me cs w mine = subst (λ (ws : List ℕ). Rule record { words = ws; homes = s.homes; views = set s.views me w }) (sym (set-get_or s.words k 0)) record {
      versions = r.versions;
      words = r.words;
      front = r.front;
      writer = r.writer;
      laid = r.laid;
      counted = r.counted;
      at_rest = r.at_rest;
      lawful = r.lawful;
      each_seat = seats_stay (λ j v. KnowsBoard group law r.versions r.words r.front r.writer j v) s.views me w mine (λ j v _. r.each_seat j v);
    }

    abbrev desk_or : Desk → Role → Desk
    desk_or d (Writing e) = e
    desk_or d (Looking g) = d

    abbrev glance_or : Glance → Role → Glance
    glance_or d (Writing e) = d
    glance_or d (Looking g) = g

    abbrev turned_view : View L → ℕ → ℕ → Desk → View L
    turned_view v j n d = record v { role = desk (set d.versions j n) d.words }

    -- open and shut
    pub turns : (slots id : ℕ) (me : M) (d : Desk) (j v : ℕ) → me.0.role ≡ Writing d → j < many → v ≡ get_or d.versions j 0 + 1 → (get_or d.versions j 0 % 2 ≡ 1 → d.words ≡ last_of me.0.front)
        → Allows Rule slots id me j (λ _. v) (λ _. VersionStep (step slots j v 0 none) me v)
    turns slots id me d j v is few up whole s r _ at _ =
        let seat = r.each_seat id me.0 at in
        let k = subst (RoleHolds group law r.versions r.words r.front r.writer id me.0.front) is seat.3 in
        let w : View L = turned_view me.0 j v d in
        let inside : j < length r.versions = omega (arith, r.counted) in
        let was : v ≡ get_or r.versions j 0 + 1 = up ∙ ap (λ (vs : List ℕ). get_or vs j 0 + 1) k.1 in
        let versions : List ℕ = set r.versions j v in
        let here : get_or versions j 0 ≡ v = get_or-set_same r.versions j v 0 inside in
        let there : (i : ℕ) → i ≢ j → get_or versions i 0 ≡ get_or r.versions i 0 = λ i other. get_or-set_other r.versions j i v 0 other in (
          w,
          keeps,
          tt,
          moved s r j v id me.1 w versions r.words r.front (ap (λ ws. set ws j v) r.laid ∙ set_left r.versions r.words j v inside) (length-set r.versions j v ∙ r.counted)
              (λ i even. dite (ℕ_discrete (group i) j)
              (λ own. let odd : get_or d.versions j 0 % 2 ≡ 1 = (let e : v % 2 ≡ 0 = ap (λ (z : ℕ). z % 2) (sym (ap (λ (z : ℕ). get_or versions z 0) own ∙ here)) ∙ even in omega arith) in
              ap (λ (ws : List ℕ). get_or ws i 0) (sym k.2 ∙ (whole odd ∙ ap last_of k.3)))
              (λ other. r.at_rest i (ap (λ (z : ℕ). z % 2) (sym (there (group i) other)) ∙ even)))
              (λ i. dite (ℕ_discrete i j) (λ own. omega (arith, ap (λ (z : ℕ). get_or versions z 0) own, here, was, ap (λ (z : ℕ). get_or r.versions z 0) own)) (λ other. omega (arith, there i other)))
              (λ _ _ _. refl) (prefix_self r.front) k.0 r.lawful
              (seat.0, seat.1, seat.2, (k.0, ap (λ (vs : List ℕ). set vs j v) k.1, k.2, k.3)),
          λ e is'. ap (λ (z : Desk). (turned_view me.0 j v z, me.1)) (ap (desk_or d) (sym is ∙ is')),
        )

    abbrev put_view : View L → ℕ → ℕ → Desk → View L
    put_view v i b d = record v { role = desk d.versions (set d.words i b) }

    -- a set keeps what is at rest, since its stripe is open
    kept_rest : (versions words last : List ℕ) (p b : ℕ) → get_or versions (group p) 0 % 2 ≡ 1 → (i : ℕ) → get_or versions (group i) 0 % 2 ≡ 0 → get_or (set words p b) i 0 ≡ get_or words i 0
    kept_rest versions words last p b odd i even = get_or-set_other words p i b 0 (λ (is : i ≡ p). let same : get_or versions (group i) 0 % 2 ≡ 1 = ap (λ (z : ℕ). get_or versions (group z) 0 % 2) is ∙ odd in omega arith)

    pub puts : (slots id : ℕ) (me : M) (d : Desk) (word p b : ℕ) → me.0.role ≡ Writing d → word ≡ many + p → get_or d.versions (group p) 0 % 2 ≡ 1
        → Allows Rule slots id me word (λ _. b) (λ _. SetStep many (step slots word b 0 none) me b)
    puts slots id me d word p b is there odd s r _ at _ =
        let seat = r.each_seat id me.0 at in
        let k = subst (RoleHolds group law r.versions r.words r.front r.writer id me.0.front) is seat.3 in
        let w : View L = put_view me.0 p b d in
        let back : p ≡ word - many = omega arith in
        let is_open : get_or r.versions (group p) 0 % 2 ≡ 1 = ap (λ (vs : List ℕ). get_or vs (group p) 0 % 2) (sym k.1) ∙ odd in (
          w,
          keeps,
          tt,
          moved s r word b id me.1 w r.versions (set r.words p b) r.front (ap (λ ws. set ws word b) r.laid ∙ set_right r.versions r.words word p b (omega (arith, r.counted))) r.counted
              (λ i even. kept_rest r.versions r.words (last_of r.front) p b is_open i even ∙ r.at_rest i even) (λ j. le_refl (get_or r.versions j 0))
              (λ i even _. kept_rest r.versions r.words (last_of r.front) p b is_open i even) (prefix_self r.front) k.0 r.lawful
              (seat.0, seat.1, seat.2, (k.0, k.1, ap (λ (ws : List ℕ). set ws p b) k.2, k.3)),
          λ e is'. λ j. (put_view me.0 (back j) b (desk_or d ((sym is ∙ is') j)), me.1),
        )

    abbrev sealed_view : View L → ℕ → ℕ → Desk → View L
    sealed_view v i b d = record v { role = desk d.versions (set d.words i b); front = v.front ++ set d.words i b ∷ [] }

    pub seals : (slots id : ℕ) (me : M) (d : Desk) (word p b : ℕ) → me.0.role ≡ Writing d → word ≡ many + p → get_or d.versions (group p) 0 % 2 ≡ 1 → (l : L) → me.0.law ≡ Some l → admits l (set d.words p b)
        → Allows Rule slots id me word (λ _. b) (λ _. SealStep many (step slots word b 0 none) me b)
    seals slots id me d word p b is there odd l own just s r _ at _ =
        let seat = r.each_seat id me.0 at in
        let k = subst (RoleHolds group law r.versions r.words r.front r.writer id me.0.front) is seat.3 in
        let w : View L = sealed_view me.0 p b d in
        let back : p ≡ word - many = omega arith in
        let here : l ≡ law = subst (IsUnder law) own seat.2 in
        let words : List ℕ = set r.words p b in
        let front : Front = r.front ++ words ∷ [] in
        let same : set d.words p b ≡ words = ap (λ (ws : List ℕ). set ws p b) k.2 in
        let last : last_of front ≡ words = last-append [] r.front words in
        let longer : IsPrefix r.front front = (words ∷ [], refl) in
        let is_open : get_or r.versions (group p) 0 % 2 ≡ 1 = ap (λ (vs : List ℕ). get_or vs (group p) 0 % 2) (sym k.1) ∙ odd in
        let whole : me.0.front ++ set d.words p b ∷ [] ≡ front = λ j. k.3 j ++ same j ∷ [] in (
          w,
          keeps,
          tt,
          moved s r word b id me.1 w r.versions words front (ap (λ ws. set ws word b) r.laid ∙ set_right r.versions r.words word p b (omega (arith, r.counted))) r.counted
              (λ i even. ap (λ (ws : List ℕ). get_or ws i 0) (sym last)) (λ j. le_refl (get_or r.versions j 0))
              (λ i even _. kept_rest r.versions r.words (last_of r.front) p b is_open i even) longer k.0
              (subst (λ (ws : List ℕ). admits law ws) (sym last) (subst (λ (z : L × List ℕ). admits z.0 z.1) (λ j. (here j, same j)) just))
              (subst (λ (f : Front). IsPrefix f front) (sym whole) (prefix_self front), prefix_trans me.0.told r.front front seat.1 longer, seat.2, (k.0, k.1, same, whole)),
          λ e is'. λ j. (sealed_view me.0 (back j) b (desk_or d ((sym is ∙ is') j)), me.1),
        )

    at_version : (s : St) (r : Rule s) (j : ℕ) → j < many → get_or s.words j 0 ≡ get_or r.versions j 0
    at_version s r j few = ap (λ ws. get_or ws j 0) r.laid ∙ get_left r.versions r.words j 0 (omega (arith, r.counted))

    began : (s : St) (r : Rule s) (id j n : ℕ) (v : View L) (mine : Front) (g : Glance) (settled : Bool) → n ≡ get_or r.versions j 0 → NotesHold group r.versions (base_of group r.words mine settled) g.notes g.begun
        → RoleHolds group law r.versions r.words r.front r.writer id mine (begun_view j n v record g { settled = settled }).role
    began s r id j n v mine g true is k = ((omega arith, λ _ _. tt), tt)
    began s r id j n v mine g false is k = ((omega arith, λ _ _. tt), unread r.versions r.words r.words g.notes g.begun k)

    pub begins : (slots id : ℕ) (me : M) (g : Glance) (j : ℕ) → me.0.role ≡ Looking g → j < many → Allows Rule slots id me j (λ n. n) (BeginStep (step slots j 0 0 none) me)
    begins slots id me g j is few s r _ at _ =
        let seat = r.each_seat id me.0 at in
        let k = subst (RoleHolds group law r.versions r.words r.front r.writer id me.0.front) is seat.3 in
        let n : ℕ = get_or s.words j 0 in
        let w : View L = begun_view j n me.0 g in (
          w,
          keeps,
          tt,
          unmoved s r j id me.1 w (seat.0, seat.1, seat.2, began s r id j n me.0 me.0.front g g.settled (at_version s r j few) k),
          λ e is'. ap (λ (z : Glance). (begun_view j n me.0 z, me.1)) (ap (glance_or g) (sym is ∙ is')),
        )

    abbrev noted_view : View L → ℕ → ℕ → Glance → View L
    noted_view v i n g = record v { role = glance g.begun g.checked ((i, n) ∷ g.notes) g.settled }

    unsettled : (words : List ℕ) (mine : Front) (settled : Bool) → settled ≡ false → base_of group words mine settled ≡ words
    unsettled words mine true e = absurd cc
    unsettled words mine false e = refl

    pub notes : (slots id : ℕ) (me : M) (g : Glance) (word p : ℕ) → me.0.role ≡ Looking g → g.settled ≡ false → word ≡ many + p → Allows Rule slots id me word (λ n. n) (NoteStep many (step slots word 0 0 none) me)
    notes slots id me g word p is young there s r _ at _ =
        let seat = r.each_seat id me.0 at in
        let k = subst (RoleHolds group law r.versions r.words r.front r.writer id me.0.front) is seat.3 in
        let n : ℕ = get_or s.words word 0 in
        let back : p ≡ word - many = omega arith in
        let found : get_or r.words p 0 ≡ n = sym (ap (λ ws. get_or ws word 0) r.laid ∙ get_right r.versions r.words word p 0 (omega (arith, r.counted))) in
        let base : base_of group r.words me.0.front g.settled ≡ r.words = unsettled r.words me.0.front g.settled young in
        let w : View L = noted_view me.0 p n g in (
          w,
          keeps,
          tt,
          unmoved s r word id me.1 w (seat.0, seat.1, seat.2, one_more r.versions (base_of group r.words me.0.front g.settled) p n g.notes g.begun (ap (λ (ws : List ℕ). get_or ws p 0) base ∙ found) k),
          λ e is'. λ j. (noted_view me.0 (back j) n (glance_or g ((sym is ∙ is') j)), me.1),
        )

    abbrev checked_view : View L → ℕ → ℕ → Front → Glance → View L
    checked_view v j n front g = record v { role = glance g.begun ((j, n) ∷ g.checked) g.notes true; front = front }

    -- the front after a check: all of it at the first, and as it was at a later one
    record Settles (s : St) (r : Rule s) (mine : Front) (g : Glance) (settled : Bool) : Type 0 where
      pub front : Front
      pub grows : IsPrefix mine front
      pub begins_all : IsPrefix front r.front
      pub stands : NotesHold group r.versions (last_of front) g.notes g.begun
      pub later : settled ≡ true → front ≡ mine
      pub first : settled ≡ false → front ≡ r.front

    settles : (s : St) (r : Rule s) (mine : Front) (g : Glance) (settled : Bool) → IsPrefix mine r.front → NotesHold group r.versions (base_of group r.words mine settled) g.notes g.begun → Settles s r mine g settled
    settles s r mine g true longer k = record { front = mine; grows = prefix_self mine; begins_all = longer; stands = k; later = λ _. refl; first = λ e. absurd cc }
    settles s r mine g false longer k = record {
      front = r.front;
      grows = longer;
      begins_all = prefix_self r.front;
      stands = stands_on r.versions r.versions r.words (last_of r.front) g.notes g.begun (λ j. le_refl (get_or r.versions j 0)) (λ i even _. sym (r.at_rest i even)) k;
      later = λ e. absurd cc;
      first = λ _. refl;
    }

    pub checks : (slots id : ℕ) (me : M) (g : Glance) (j : ℕ) → me.0.role ≡ Looking g → j < many → Allows Rule slots id me j (λ n. n) (CheckStep group admits (step slots j 0 0 none) me)
    checks slots id me g j is few s r _ at _ =
        let seat = r.each_seat id me.0 at in
        let k = subst (RoleHolds group law r.versions r.words r.front r.writer id me.0.front) is seat.3 in
        let n : ℕ = get_or s.words j 0 in
        let now = at_version s r j few in
        let t = settles s r me.0.front g g.settled seat.0 k in
        let w : View L = checked_view me.0 j n t.front g in (
          w,
          keeps,
          tt,
          unmoved s r j id me.1 w (t.begins_all, seat.1, seat.2, t.stands),
          λ e is'. let same : g ≡ e = ap (glance_or g) (sym is ∙ is') in (
            t.grows,
            ap (λ (z : Glance). (checked_view me.0 j n t.front z, me.1)) same,
            (λ old. t.later (ap (λ (z : Glance). z.settled) same ∙ old)),
            subst (λ (z : Glance). CheckTells group j n (last_of t.front) z.notes z.begun) same (shows r.versions (last_of t.front) j n g.notes g.begun now t.stands),
            λ l own young. subst (λ (z : L × Front). admits z.0 (last_of z.1)) (λ i. (sym (subst (IsUnder law) own seat.2) i, sym (t.first (ap (λ (z : Glance). z.settled) same ∙ young)) i)) r.lawful,
          ),
        )

    pub recalls : (slots id : ℕ) (me : M) (d : Desk) (j : ℕ) → me.0.role ≡ Writing d → Allows Rule slots id me j (λ n. n) (RecallStep (step slots j 0 0 none) me)
    recalls slots id me d j is s r _ at _ =
        let seat = r.each_seat id me.0 at in
        let k = subst (RoleHolds group law r.versions r.words r.front r.writer id me.0.front) is seat.3 in
        (me.0, keeps, tt, unmoved s r j id me.1 me.0 seat, λ _ _. (refl, subst (λ (f : Front). IsPrefix me.0.told f) (sym k.3) seat.1))

    -- the seat that is split off knows what the writer knows of the front
    pub shares : (id : ℕ) (v : View L) → Splits Rule id v v (reader_view v)
    shares id v s r at = let seat = r.each_seat id v at in record {
      versions = r.versions;
      words = r.words;
      front = r.front;
      writer = r.writer;
      laid = r.laid;
      counted = r.counted;
      at_rest = r.at_rest;
      lawful = r.lawful;
      each_seat = λ j u e. ⊎_elim (seats_stay (λ j v. KnowsBoard group law r.versions r.words r.front r.writer j v) s.views id v seat (λ i x _. r.each_seat i x) j u)
          (λ (t : reader_view v ≡ u). subst (λ (z : View L). KnowsBoard group law r.versions r.words r.front r.writer j z) t (seat.0, (r.front, refl), seat.2, tt))
          (at_snoc (set s.views id v) (reader_view v) u j e);
    }

    pub hears : (id : ℕ) (v : View L) (d : Desk) (other : ℕ) (w : View L) → v.role ≡ Writing d → Joins Rule id v other w (joined_view v w) nobody_view
    hears id v d other w is s r at apart there =
        let seat = r.each_seat id v at in
        let its = ⊎_elim (λ (t : (other ≡ id) × (joined_view v w ≡ w)). absurd (apart t.0)) (λ (t : (other ≢ id) × (get_elem? s.views other ≡ some w)). r.each_seat other w t.1) (at_set s.views id other (joined_view v w) w there) in
        let K : ℕ → View L → Type 0 = λ j v. KnowsBoard group law r.versions r.words r.front r.writer j v in record {
          versions = r.versions;
          words = r.words;
          front = r.front;
          writer = r.writer;
          laid = r.laid;
          counted = r.counted;
          at_rest = r.at_rest;
          lawful = r.lawful;
          each_seat = seats_stay K (set s.views id (joined_view v w)) other nobody_view ((r.front, refl), (r.front, refl), tt, tt)
              (λ j x _. seats_stay K s.views id (joined_view v w) (seat.0, its.0, seat.2, seat.3) (λ i y _. r.each_seat i y) j x);
        }

    abbrev first_view : List ℕ → List ℕ → Front → View L
    first_view versions words front = record { law = Some law; role = desk versions words; front = front ++ words ∷ []; told = []; lookups = 0 }

    only_seat : (versions words : List ℕ) (front : Front) (j : ℕ) (v : View L) → get_elem? (first_view versions words front ∷ []) j ≡ some v → KnowsBoard group law versions words (front ++ words ∷ []) 0 j v
    only_seat versions words front zero v e =
        subst (λ (z : View L). KnowsBoard group law versions words (front ++ words ∷ []) 0 0 z) (some-injective _ v e) (prefix_self (front ++ words ∷ []), (front ++ words ∷ [], refl), refl, (refl, refl, refl, refl))
    only_seat versions words front (suc j) v e = absurd (some-ne-none v (sym e))

    -- the table at the start
    pub opens_kept : (versions words : List ℕ) (front : Front) → length versions ≡ many → admits law words → Rule record { words = versions ++ words; homes = []; views = first_view versions words front ∷ [] }
    opens_kept versions words front counted just = record {
      versions = versions;
      words = words;
      front = front ++ words ∷ [];
      writer = 0;
      laid = refl;
      counted = counted;
      at_rest = λ i _. ap (λ (ws : List ℕ). get_or ws i 0) (sym (last-append [] front words));
      lawful = subst (admits law) (sym (last-append [] front words)) just;
      each_seat = λ j v e. only_seat versions words front j v e;
    }
