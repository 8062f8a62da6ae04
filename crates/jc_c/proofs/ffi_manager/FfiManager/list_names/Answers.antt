use Rattle.std.proofs.Common.{◌≡◌, ◌+◌, ◌++◌, ℕ, List, length, take, refl, sym, ap, ◌∙◌, arith}
use Rattle.std.proofs.lemmas.List.{take_all, length-append}
use Rattle.std.specs.List.{flat_map}
use Rattle.jc_save.specs.Placing.{put_at}
use Rattle.jc_engine.specs.Caches.{id_of}
use Rattle.jc_c.specs.Names.{name_bytes, names_listed, names_told}
use Rattle.jc_c.proofs.Putting.{put_none, put_first, listed_then, listed_put}
use Rattle.jc_c.proofs.ffi_manager.FfiManager.list_names.Goals as goal

pub loop-name-init : goal.loop-name-init
loop-name-init c = record { place = refl; few = omega arith; out = sym (put_none 0 c.args.out.now); len = refl }

pub loop-name-preserved : goal.loop-name-preserved
loop-name-preserved c =
    let caches = c.args.self.now.caches in
    let names = c.names-names.result.now in
    let i = c.loop-name.name-index in
    let name = c.name-item.result in
    let bytes : List ℕ → List ℕ = λ name. name_bytes name (id_of name caches) in
    let done : List ℕ = flat_map bytes (take i names) in
    let more : flat_map bytes (take (i + 1) names) ≡ done ++ bytes name =
    listed_then bytes names i name c.loop-name-test.true ∙ ap (λ (n : List ℕ). done ++ bytes n) (sym c.name-item.is) in
    record {
      place = omega (arith, c.put_name-at.ensures.place, c.loop-name.invariant.place, ap length more, length-append done (bytes name));
      few = omega (arith, c.put_name-at.ensures.few, c.loop-name.invariant.few);
      out = rw (c.put_name-at.ensures.out, c.loop-name.invariant.out, c.loop-name.invariant.place)
          (ap (λ (n : List ℕ). put_at (length done) (bytes n) (put_at 0 done c.args.out.now)) c.name-item.is ∙ listed_put bytes names i name c.loop-name-test.true c.args.out.now);
      len = refl;
    }

pub returns-clause-out : goal.returns-clause-out
returns-clause-out c =
    c.loop-name.invariant.out
    ∙ ap (λ (names : List (List ℕ)). put_at 0 (names_listed c.args.self.now.caches names) c.args.out.now) (take_all c.loop-name.name-index c.names-names.result.now c.loop-name-test.false ∙ c.names-names.ensures.same)
    ∙ put_first (names_told c.args.self.now.caches) c.args.out.now
