-- A whole cache: what is read is spelled so, and what is spelled so is read.
use Rattle.std.proofs.Common.{◌≡◌, ℕ, ◌^◌, ◌<◌, ◌≤◌, Bool, true, false, if◌then◌else◌, ltb, List, [], ◌∷◌, ◌++◌, length, Result, Ok, Err, None, refl, sym, ap, subst, ◌∙◌, append_assoc, append-nil, arith}
use Rattle.std.specs.Prelude.{IfOk, ◌==◌}
use Rattle.std.specs.Int.{w32, to_le_bytes}
use Rattle.std.specs.List.{flat_map, AllByRecursion}
use Rattle.std.specs.Str.{bytes_eq}
use Rattle.std.proofs.lemmas.Bool.{eqb-true, ltb-false, le-ltb}
use Rattle.std.proofs.lemmas.List.{nil_from_length}
use Rattle.std.proofs.lemmas.Slice.Eq.{bytes_eq-Decides}
use Rattle.jc_model.specs.declared.call.Counts.{Counts}
use Rattle.jc_model.specs.declared.config.CacheConfig.{CacheConfig}
use Rattle.jc_model.specs.Limits.{most_rows, most_listeners, most_processors}
use Rattle.jc_model.specs.Refusals.{broken_limit}
use Rattle.jc_model.specs.Sound.{IsSound}
use Rattle.jc_model.specs.State.{Item, State}
use Rattle.jc_model.proofs.Refusals.{KeepsLimits, keeps_limits}
use Rattle.jc_save.specs.declared.cache.SavedCache.{SavedCache}
use Rattle.jc_save.specs.declared.fault.Found.{Found}
use Rattle.jc_save.specs.declared.fault.Flaw.TheVariants as flaw
use Rattle.jc_save.specs.declared.fault.SaveFault.{SaveFault}
use Rattle.jc_save.specs.declared.fault.SaveFault.TheVariants.{Damaged}
use Rattle.jc_save.specs.Limits.{magic, version, saved_bytes}
use Rattle.jc_save.specs.Spelling.{settings, counters, row, head, saved}
use Rattle.jc_save.specs.Savable.{AreBytes, AreCounters, IsRow, IsSavable, IsRestored}
use Rattle.jc_save.specs.Reading.{◌>>=◌, both, refused, flaw_at, byte_at, number_at, text_at, settings_at, counters_at, rows_at}
use Rattle.jc_save.specs.Restoring.{begun_at, version_at, count_at, body_at, cache_at, placed, restored, Restores, cache_of, state_of}
use Rattle.jc_save.proofs.Codecs.{bind_ok, not_refused, passed, ok_is, Takes, takes_both, Codec, codec_both, codec32, byte_takes, byte_again, text_takes, text_again}
use Rattle.jc_save.proofs.HeadCodecs.{IsConfig, codec_settings, codec_counters}
use Rattle.jc_save.proofs.RowCodecs.{rows_take, rows_again}

begun_takes : (bytes rest : List ℕ) → AreBytes bytes → begun_at bytes ≡ Ok rest → Takes bytes magic rest
unfolding begun_at
begun_takes bytes rest fits e =
    let a = bind_ok (text_at (length magic) bytes) (λ first. if bytes_eq first.0 magic then Ok first.1 else refused flaw.NotSaved bytes) rest e in
    let p = passed (bytes_eq a.0.0 magic) (flaw_at flaw.NotSaved bytes) (Ok a.0.1) rest a.2 in
    let t = text_takes (length magic) bytes a.0 fits a.1 in
    subst (λ (y : List ℕ). Takes bytes magic y) (ok_is a.0.1 rest p.1) (subst (λ (text : List ℕ). Takes bytes text a.0.1) ((bytes_eq-Decides a.0.0 magic).0 p.0) t.0)

begun_again : (rest : List ℕ) → begun_at (magic ++ rest) ≡ Ok rest
unfolding begun_at
begun_again rest = rw (text_again magic rest) refl

version_takes : (bytes rest : List ℕ) → AreBytes bytes → version_at bytes ≡ Ok rest → Takes bytes (version ∷ []) rest
unfolding version_at
version_takes bytes rest fits e =
    let a = bind_ok (byte_at bytes) (λ read. if read.0 == version then Ok read.1 else refused flaw.OtherVersion bytes) rest e in
    let p = passed (a.0.0 == version) (flaw_at flaw.OtherVersion bytes) (Ok a.0.1) rest a.2 in
    let t = byte_takes bytes a.0 fits a.1 in
    subst (λ (y : List ℕ). Takes bytes (version ∷ []) y) (ok_is a.0.1 rest p.1) (subst (λ (b : ℕ). Takes bytes (b ∷ []) a.0.1) (eqb-true _ _ p.0) t)

version_again : (rest : List ℕ) → version_at (version ∷ rest) ≡ Ok rest
unfolding version_at
version_again rest = rw (byte_again version rest) refl

count_takes : (capacity : ℕ) (bytes : List ℕ) (x : ℕ × List ℕ) → AreBytes bytes → count_at capacity bytes ≡ Ok x → Takes bytes (to_le_bytes w32 x.0) x.1 × (x.0 ≤ capacity)
unfolding count_at
count_takes capacity bytes x fits e =
    let a = bind_ok (number_at w32 bytes) (λ n. if ltb capacity n.0 then refused flaw.Rows bytes else Ok n) x e in
    let g = not_refused (ltb capacity a.0.0) (flaw_at flaw.Rows bytes) (Ok a.0) x a.2 in
    subst (λ (y : ℕ × List ℕ). Takes bytes (to_le_bytes w32 y.0) y.1 × (y.0 ≤ capacity)) (ok_is a.0 x g.1)
    ((codec32.takes bytes a.0 fits a.1).0, ltb-false _ _ g.0)

count_again : (capacity n : ℕ) (rest : List ℕ) → n < 2 ^ 32 → n ≤ capacity → count_at capacity (to_le_bytes w32 n ++ rest) ≡ Ok (n, rest)
unfolding count_at
count_again capacity n rest lt few = rw (codec32.again n rest lt, le-ltb capacity n few) refl

-- A configuration and a state, behind the version.

record IsBody (name : List ℕ) (c : CacheConfig) (s : State) : Type 0 where
  pub config : IsConfig name c
  pub counters : AreCounters s.counts
  pub rows : AllByRecursion IsRow s.ring
  pub sound : IsSound c s

abbrev front : CacheConfig × Counts → List ℕ
front p = settings p.0 ++ counters p.1

abbrev body : CacheConfig → State → List ℕ
body c s = front (c, s.counts) ++ (to_le_bytes w32 (length s.ring) ++ flat_map row s.ring)

module _ (name : List ℕ) where
  codec_front : Codec (both (settings_at name) counters_at) front (λ p. IsConfig name p.0 × AreCounters p.1)
  codec_front = codec_both (codec_settings name) codec_counters

  body_takes : (bytes : List ℕ) (x : (CacheConfig × State) × List ℕ) → AreBytes bytes → body_at name bytes ≡ Ok x → Takes bytes (body x.0.0 x.0.1) x.1 × IsBody name x.0.0 x.0.1
  unfolding body_at
  body_takes bytes x fits e =
      let a = bind_ok (both (settings_at name) counters_at bytes) (λ f. count_at f.0.0.capacity f.1 >>= λ count. rows_at [] count.0 count.1 >>= λ rows. Ok ((f.0.0, record { ring = rows.0; counts = f.0.1 }), rows.1)) x e in
      let b = bind_ok (count_at a.0.0.0.capacity a.0.1) (λ count. rows_at [] count.0 count.1 >>= λ rows. Ok ((a.0.0.0, record { ring = rows.0; counts = a.0.0.1 }), rows.1)) x a.2 in
      let r = bind_ok (rows_at [] b.0.0 b.0.1) (λ rows. Ok ((a.0.0.0, record { ring = rows.0; counts = a.0.0.1 }), rows.1)) x b.2 in
      let one = codec_front.takes bytes a.0 fits a.1 in
      let two = count_takes a.0.0.0.capacity a.0.1 b.0 one.0.rest_fits b.1 in
      let three = rows_take [] b.0.0 b.0.1 r.0 two.0.rest_fits tt r.1 in
      let ring : r.0.0 ≡ three.new = three.is in
      let counted : b.0.0 ≡ length r.0.0 = sym three.counted ∙ ap length (sym ring) in
      let rows : Takes b.0.1 (flat_map row r.0.0) r.0.1 = subst (λ (new : List Item). Takes b.0.1 (flat_map row new) r.0.1) (sym ring) three.takes in
      let count : Takes a.0.1 (to_le_bytes w32 (length r.0.0)) b.0.1 = subst (λ (n : ℕ). Takes a.0.1 (to_le_bytes w32 n) b.0.1) counted two.0 in
      let behind = takes_both a.0.1 (to_le_bytes w32 (length r.0.0)) b.0.1 (flat_map row r.0.0) r.0.1 count rows in
      let whole = takes_both bytes (front a.0.0) a.0.1 (to_le_bytes w32 (length r.0.0) ++ flat_map row r.0.0) r.0.1 one.0 behind in
      let few : length r.0.0 ≤ a.0.0.0.capacity = subst (λ (n : ℕ). n ≤ a.0.0.0.capacity) counted two.1 in
      let made : (CacheConfig × State) × List ℕ = ((a.0.0.0, record { ring = r.0.0; counts = a.0.0.1 }), r.0.1) in
      let is : IsBody name made.0.0 made.0.1 = record {
        config = one.1.0;
        counters = one.1.1;
        rows = subst (λ (new : List Item). AllByRecursion IsRow new) (sym ring) three.rows;
        sound = (three.distinct, few);
      } in
      subst (λ (y : (CacheConfig × State) × List ℕ). Takes bytes (body y.0.0 y.0.1) y.1 × IsBody name y.0.0 y.0.1) (ok_is made x r.2) (whole, is)

  body_again : (c : CacheConfig) (s : State) (rest : List ℕ) → IsBody name c s → body_at name (body c s ++ rest) ≡ Ok ((c, s), rest)
  unfolding body_at
  body_again c s rest is =
      let n = length s.ring in
      let rows = flat_map row s.ring in
      let regrouped : body c s ++ rest ≡ front (c, s.counts) ++ (to_le_bytes w32 n ++ (rows ++ rest)) =
      append_assoc (front (c, s.counts)) (to_le_bytes w32 n ++ rows) rest ∙ ap (λ (text : List ℕ). front (c, s.counts) ++ text) (append_assoc (to_le_bytes w32 n) rows rest) in
      let short : n < 2 ^ 32 = omega (arith, is.sound.1, is.config.limits.rows) in
      ap (body_at name) regrouped
      ∙ rw (codec_front.again (c, s.counts) (to_le_bytes w32 n ++ (rows ++ rest)) (is.config, is.counters), count_again c.capacity n (rows ++ rest) short is.sound.1, rows_again [] s.ring rest is.rows is.sound.0) refl

-- All of the bytes.

body_of : (c : CacheConfig) (s : State) → saved c s ≡ magic ++ (version ∷ body c s)
unfolding saved head
body_of c s =
    let n = to_le_bytes w32 (length s.ring) in
    let rows = flat_map row s.ring in
    let regrouped : ((settings c ++ counters s.counts) ++ n) ++ rows ≡ (settings c ++ counters s.counts) ++ (n ++ rows) = append_assoc (settings c ++ counters s.counts) n rows in
    ap (λ (text : List ℕ). magic ++ (version ∷ text)) regrouped

cache_takes : (name bytes : List ℕ) (x : CacheConfig × State) → AreBytes bytes → cache_at name bytes ≡ Ok x → (bytes ≡ saved x.0 x.1) × IsBody name x.0 x.1
unfolding cache_at
cache_takes name bytes x fits e =
    let a = bind_ok (begun_at bytes) (λ begun. version_at begun >>= λ current. body_at name current >>= λ cache. if length cache.1 == 0 then Ok cache.0 else refused flaw.Trailing cache.1) x e in
    let b = bind_ok (version_at a.0) (λ current. body_at name current >>= λ cache. if length cache.1 == 0 then Ok cache.0 else refused flaw.Trailing cache.1) x a.2 in
    let d = bind_ok (body_at name b.0) (λ cache. if length cache.1 == 0 then Ok cache.0 else refused flaw.Trailing cache.1) x b.2 in
    let p = passed (length d.0.1 == 0) (flaw_at flaw.Trailing d.0.1) (Ok d.0.0) x d.2 in
    let one = begun_takes bytes a.0 fits a.1 in
    let two = version_takes a.0 b.0 one.rest_fits b.1 in
    let three = body_takes name b.0 d.0 two.rest_fits d.1 in
    let nothing : d.0.1 ≡ [] = nil_from_length d.0.1 (eqb-true _ _ p.0) in
    let end : b.0 ≡ body d.0.0.0 d.0.0.1 = three.0.parts ∙ ap (λ (rest : List ℕ). body d.0.0.0 d.0.0.1 ++ rest) nothing ∙ append-nil (body d.0.0.0 d.0.0.1) in
    let whole : bytes ≡ magic ++ (version ∷ body d.0.0.0 d.0.0.1) = one.parts ∙ ap (λ (rest : List ℕ). magic ++ rest) (two.parts ∙ ap (λ (rest : List ℕ). version ∷ rest) end) in
    subst (λ (y : CacheConfig × State). (bytes ≡ saved y.0 y.1) × IsBody name y.0 y.1) (ok_is d.0.0 x p.1) (whole ∙ sym (body_of d.0.0.0 d.0.0.1), three.1)

cache_again : (name : List ℕ) (c : CacheConfig) (s : State) → IsBody name c s → cache_at name (saved c s) ≡ Ok (c, s)
unfolding cache_at
cache_again name c s is =
    let whole : body_at name (body c s) ≡ Ok ((c, s), []) = ap (body_at name) (sym (append-nil (body c s))) ∙ body_again name c s [] is in
    ap (cache_at name) (body_of c s) ∙ rw (begun_again (version ∷ body c s), version_again (body c s), whole) refl

-- Limits, by the model's test and one by one.

no_limit_broken : (c : CacheConfig) → KeepsLimits c → broken_limit c ≡ None
no_limit_broken c keeps =
    rw (le-ltb c.capacity 1 keeps.some_rows, le-ltb most_rows c.capacity keeps.rows, le-ltb most_listeners c.listeners keeps.listeners, le-ltb most_processors (length c.processors) keeps.processors) refl

-- Faults with their place.

placed_ok : {A : Type 0} (whole : ℕ) (r : Result A Found) (x : A) → placed whole r ≡ Ok x → r ≡ Ok x
placed_ok whole (Ok y) x e = cc
placed_ok whole (Err found) x e = absurd cc

not_too_long : {A : Type 0} (b : Bool) (fault : SaveFault) (r : Result A SaveFault) (x : A) → (if b then Err fault else r) ≡ Ok x → (b ≡ false) × (r ≡ Ok x)
not_too_long true fault r x e = absurd cc
not_too_long false fault r x e = (refl, e)

pub restored_takes : (name bytes : List ℕ) (x : CacheConfig × State) → AreBytes bytes → restored name bytes ≡ Ok x → IsRestored name bytes x.0 x.1
unfolding restored
restored_takes name bytes x fits e =
    let g = not_too_long (ltb saved_bytes (length bytes)) (Damaged flaw.TooLong saved_bytes) (placed (length bytes) (cache_at name bytes)) x e in
    let read = cache_takes name bytes x fits (placed_ok (length bytes) (cache_at name bytes) x g.1) in
    let short : length bytes ≤ saved_bytes = ltb-false _ _ g.0 in
    record {
      spelled = read.0;
      named = read.1.config.named;
      savable = record {
        limits = no_limit_broken x.0 read.1.config.limits;
        duration = read.1.config.duration;
        counters = read.1.counters;
        rows = read.1.rows;
        sound = read.1.sound;
        short = subst (λ (text : List ℕ). length text ≤ saved_bytes) read.0 short;
      };
    }

body_is : (c : CacheConfig) (s : State) → IsSavable c s → IsBody c.name c s
body_is c s is = record {
  config = record { named = refl; limits = keeps_limits c is.limits; duration = is.duration };
  counters = is.counters;
  rows = is.rows;
  sound = is.sound;
}

pub restored_again : (c : CacheConfig) (s : State) → IsSavable c s → restored c.name (saved c s) ≡ Ok (c, s)
unfolding restored
restored_again c s is =
    rw (le-ltb saved_bytes (length (saved c s)) is.short, cache_again c.name c s (body_is c s is)) refl

pub is_restored : (name bytes : List ℕ) (r : Result SavedCache SaveFault) → AreBytes bytes → Restores cache_of r (restored name bytes) → IfOk r (λ v. IsRestored name bytes v.config (state_of v))
is_restored name bytes (Ok v) fits given = restored_takes name bytes (cache_of v) fits given
is_restored name bytes (Err fault) fits given = tt

pub only_saved : (name bytes : List ℕ) (c : CacheConfig) (s : State) → AreBytes bytes → restored name bytes ≡ Ok (c, s) → IsRestored name bytes c s
only_saved name bytes c s fits e = restored_takes name bytes (c, s) fits e

-- A name is not spelled.
module _ (c : CacheConfig) (s : State) (name : List ℕ) where
  abbrev renamed : CacheConfig
  renamed = record c { name = name }

  same_bytes : saved renamed s ≡ saved c s
  unfolding saved head settings
  same_bytes = refl

  renamed_savable : IsSavable c s → IsSavable renamed s
  renamed_savable is = record {
    limits = is.limits;
    duration = is.duration;
    counters = is.counters;
    rows = is.rows;
    sound = is.sound;
    short = subst (λ (text : List ℕ). length text ≤ saved_bytes) (sym same_bytes) is.short;
  }

abbrev read_as : CacheConfig × State → Result (CacheConfig × State) SaveFault
read_as p = Ok p

whole_is : (p q : CacheConfig × State) → read_as p ≡ read_as q → p ≡ q
whole_is p q e = cc

pub told_apart : (c d : CacheConfig) (s t : State) → IsSavable c s → IsSavable d t → saved c s ≡ saved d t → (record c { name = d.name } ≡ d) × (s ≡ t)
told_apart c d s t first second same =
    let one : restored d.name (saved d t) ≡ Ok (record c { name = d.name }, s) =
    ap (restored d.name) (sym same ∙ sym (same_bytes c s d.name)) ∙ restored_again (record c { name = d.name }) s (renamed_savable c s d.name first) in
    let two : restored d.name (saved d t) ≡ Ok (d, t) = restored_again d t second in
    let is : read_as (record c { name = d.name }, s) ≡ read_as (d, t) = sym one ∙ two in
    let pair = whole_is (record c { name = d.name }, s) (d, t) is in
    (ap (λ (p : CacheConfig × State). p.0) pair, ap (λ (p : CacheConfig × State). p.1) pair)

-- No cache's bytes begin another's.

none_begins : (c d : CacheConfig) (s t : State) (rest : List ℕ) → IsSavable c s → IsSavable d t → saved c s ≡ saved d t ++ rest → rest ≡ []
unfolding cache_at
none_begins c d s t rest first second same =
    let name = d.name in
    let other : CacheConfig = record c { name = name } in
    let one : cache_at name (saved d t ++ rest) ≡ Ok (other, s) =
    ap (cache_at name) (sym same ∙ sym (same_bytes c s name)) ∙ cache_again name other s (body_is other s (renamed_savable c s name first)) in
    let whole : saved d t ++ rest ≡ magic ++ (version ∷ (body d t ++ rest)) = ap (λ (text : List ℕ). text ++ rest) (body_of d t) in
    let two : cache_at name (saved d t ++ rest) ≡ (if length rest == 0 then Ok (d, t) else refused flaw.Trailing rest) =
    ap (cache_at name) whole ∙ rw (begun_again (version ∷ (body d t ++ rest)), version_again (body d t ++ rest), body_again name d t rest (body_is d t second)) refl in
    let p = passed (length rest == 0) (flaw_at flaw.Trailing rest) (Ok (d, t)) (other, s) (sym two ∙ one) in
    nil_from_length rest (eqb-true _ _ p.0)

pub fronts_refused : (c d : CacheConfig) (s t : State) (name front rest : List ℕ) → IsSavable c s → AreBytes front → saved c s ≡ front ++ rest → restored name front ≡ Ok (d, t) → rest ≡ []
fronts_refused c d s t name front rest savable fits same e =
    let read = restored_takes name front (d, t) fits e in
    none_begins c d s t rest savable read.savable (same ∙ ap (λ (x : List ℕ). x ++ rest) read.spelled)
