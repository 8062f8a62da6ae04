use Rattle.std.specs.Str.Parse.{ParsesUnsigned, ExplainsUnsignedError, HasUnsignedDigitsIfOk}
use Rattle.std.proofs.Common.{◌≡◌, codes, sym, ◌∙◌, arith}
use Rattle.clap.specs.Words.{found_of, one_text}
use Rattle.clap.proofs.WalkLemmas.{one_text-rows}
use Rattle.jc_cli.proofs.Readings.{number_read, truth_read, no_number, no_truth, same_number}
use Rattle.jc_cli.proofs.reading.options.Goals as goal

pub returns-clause-asks : goal.returns-clause-asks
returns-clause-asks c =
    let found = found_of c.args.matches.now in
    record {
      workers = rw (← one_text-rows found (codes "workers")) (number_read (λ bs r. ParsesUnsigned 8 10 bs r × ExplainsUnsignedError 10 bs r × HasUnsignedDigitsIfOk bs r) 8 (one_text found (codes "workers")) c.in_ok-workers.workers (λ t r g. g.0) c.in_ok-workers.ensures.none c.in_ok-workers.ensures.value);
      seed = rw (← one_text-rows found (codes "seed")) (number_read (λ bs r. ParsesUnsigned 64 10 bs r × ExplainsUnsignedError 10 bs r × HasUnsignedDigitsIfOk bs r) 64 (one_text found (codes "seed")) c.in_ok-seed.seed (λ t r g. g.0) c.in_ok-seed.ensures.none c.in_ok-seed.ensures.value);
      serial = sym (one_text-rows found (codes "serial")) ∙ truth_read (one_text found (codes "serial")) c.in_ok-serial.serial c.in_ok-serial.ensures.none c.in_ok-serial.ensures.value;
      format = c.in_ok-format.ensures;
      strict = sym (one_text-rows found (codes "strict")) ∙ truth_read (one_text found (codes "strict")) c.in_ok-strict.strict c.in_ok-strict.ensures.none c.in_ok-strict.ensures.value;
      explain = c.in_ok-explain.ensures;
    }

pub returns-in_err-workers-clause-none : goal.returns-in_err-workers-clause-none
returns-in_err-workers-clause-none c e o asks within =
    let found = found_of c.args.matches.now in
    no_number (λ bs r. ParsesUnsigned 8 10 bs r × ExplainsUnsignedError 10 bs r × HasUnsignedDigitsIfOk bs r) 8 (one_text found (codes "workers")) o.workers (λ t r g. g.0) c.in_err-workers.ensures.value (omega (arith, within.1)) (rw (one_text-rows found (codes "workers")) asks.workers)

pub returns-in_err-seed-clause-none : goal.returns-in_err-seed-clause-none
returns-in_err-seed-clause-none c e o asks within =
    let found = found_of c.args.matches.now in
    no_number (λ bs r. ParsesUnsigned 64 10 bs r × ExplainsUnsignedError 10 bs r × HasUnsignedDigitsIfOk bs r) 64 (one_text found (codes "seed")) o.seed (λ t r g. g.0) c.in_err-seed.ensures.value (omega (arith, within.2)) (rw (one_text-rows found (codes "seed")) asks.seed)

pub returns-in_err-serial-clause-none : goal.returns-in_err-serial-clause-none
returns-in_err-serial-clause-none c e o asks within =
    let found = found_of c.args.matches.now in
    no_truth (one_text found (codes "serial")) o.serial c.in_err-serial.ensures.value (one_text-rows found (codes "serial") ∙ asks.serial)

pub returns-in_err-format-clause-none : goal.returns-in_err-format-clause-none
returns-in_err-format-clause-none c e o asks within = c.in_err-format.ensures o.format asks.format

pub returns-in_err-strict-clause-none : goal.returns-in_err-strict-clause-none
returns-in_err-strict-clause-none c e o asks within =
    let found = found_of c.args.matches.now in
    no_truth (one_text found (codes "strict")) o.strict c.in_err-strict.ensures.value (one_text-rows found (codes "strict") ∙ asks.strict)

pub returns-in_err-explain-clause-none : goal.returns-in_err-explain-clause-none
returns-in_err-explain-clause-none c e o asks within = c.in_err-explain.ensures o.explain asks.explain

pub returns-then-workers-lt1-clause-none : goal.returns-then-workers-lt1-clause-none
returns-then-workers-lt1-clause-none c e o asks within =
    let found = found_of c.args.matches.now in
    let workers : c.in_ok-workers.workers ≡ o.workers = same_number (one_text found (codes "workers")) _ _ (number_read (λ bs r. ParsesUnsigned 8 10 bs r × ExplainsUnsignedError 10 bs r × HasUnsignedDigitsIfOk bs r) 8 (one_text found (codes "workers")) c.in_ok-workers.workers (λ t r g. g.0) c.in_ok-workers.ensures.none c.in_ok-workers.ensures.value) (rw (one_text-rows found (codes "workers")) asks.workers) in
    let seed : c.in_ok-seed.seed ≡ o.seed = same_number (one_text found (codes "seed")) _ _ (number_read (λ bs r. ParsesUnsigned 64 10 bs r × ExplainsUnsignedError 10 bs r × HasUnsignedDigitsIfOk bs r) 64 (one_text found (codes "seed")) c.in_ok-seed.seed (λ t r g. g.0) c.in_ok-seed.ensures.none c.in_ok-seed.ensures.value) (rw (one_text-rows found (codes "seed")) asks.seed) in
    omega (arith, c.then-workers-lt1.either, workers, seed, within.0, within.1, within.2)
