use Rattle.jc_runner.proofs.Gathering.{opened_suits, opened_takes, opens_in_memory, refused_caches, refused_hooks}
use Rattle.jc_runner.proofs.threaded_run.open_unnamed.Goals as goal

pub returns-in-Ok-clause-suit : goal.returns-in-Ok-clause-suit
returns-in-Ok-clause-suit g c = opened_suits g.P.Processor.wants c.args.setup.settings c.into_caches.result.items c.args.setup.hooks.items c.into_caches.ensures c.in-Ok.ensures.opens

pub returns-in-Ok-clause-opens : goal.returns-in-Ok-clause-opens
returns-in-Ok-clause-opens g c = opened_takes g.P.Processor.wants c.args.setup.settings c.into_caches.result.items c.args.setup.hooks.items c.into_caches.ensures c.in-Ok.ensures.opens

pub returns-in-Err-Caches-clause-refused : goal.returns-in-Err-Caches-clause-refused
returns-in-Err-Caches-clause-refused g c = λ e.
    refused_caches g.P.Processor.wants c.args.setup.settings c.into_caches.result.items c.args.setup.hooks.items c.in-Err-Caches.field-0 c.in-Err-Caches.field-0-0 c.into_caches.ensures c.in-Err-Caches.field-0-is c.in-Err-Caches.ensures.refused

pub returns-in-Err-HooksDiffer-clause-refused : goal.returns-in-Err-HooksDiffer-clause-refused
returns-in-Err-HooksDiffer-clause-refused g c = λ e.
    refused_hooks g.P.Processor.wants c.args.setup.settings c.into_caches.result.items c.args.setup.hooks.items c.in-Err-HooksDiffer.field-0 c.in-Err-HooksDiffer.field-0-0 c.into_caches.ensures c.in-Err-HooksDiffer.field-0-is c.in-Err-HooksDiffer.ensures.refused

pub returns-in-Err-OutOfMemory-clause-memory : goal.returns-in-Err-OutOfMemory-clause-memory
returns-in-Err-OutOfMemory-clause-memory g c = λ e.
    opens_in_memory g.P.Processor.wants c.args.setup.settings c.into_caches.result.items c.args.setup.hooks.items c.in-Err-OutOfMemory.field-0 c.into_caches.ensures c.in-Err-OutOfMemory.field-0-is c.in-Err-OutOfMemory.ensures.refused
