-- What a whole call asks of loader and processors.
use Rattle.std.specs.Prelude.{◌≡◌, ℕ, List, [], ◌∷◌, map, Option, Some, None, ⊤}
use Rattle.std.specs.List.{Contains}
use Rattle.jc_model.specs.declared.call.Call.{Call}
use Rattle.jc_model.specs.declared.call.Call.TheVariants.{GetAll, Contains as ContainsKey, InvokeAll, PutAll, RemoveKeys, LoadAll}
use Rattle.jc_model.specs.declared.call.Request.{Request}
use Rattle.jc_model.specs.declared.call.Request.TheVariants.{Load, Process}
use Rattle.jc_model.specs.declared.event.Step.{Step}
use Rattle.jc_model.specs.declared.event.Step.TheVariants.{Done, Need}
use Rattle.jc_model.specs.Table.{invoked_by}
use Rattle.jc_model.specs.Whole.{key_call}

-- the keys that a call on many keys names, or one that asks for its key alone
abbrev other_keys : Call → List (List ℕ)
other_keys (GetAll ks) = ks
other_keys (ContainsKey k) = k ∷ []
other_keys (InvokeAll ks processor argument) = ks
other_keys (PutAll given) = map (λ q. q.0) given
other_keys (RemoveKeys ks) = ks
other_keys (LoadAll ks replace) = ks
other_keys _ = []

-- the keys that a call names
abbrev pub keys_of : Call → List (List ℕ)
keys_of call = elim (key_call call) [ Some s ↦ s.key ∷ [] | None ↦ other_keys call ]

abbrev pub IsKeyOf : List ℕ → Call → Type 0
IsKeyOf key call = Contains (keys_of call) key

-- the processor that a call on many keys names, with its argument
abbrev other_invoked : Call → Option (ℕ × List ℕ)
other_invoked (InvokeAll ks processor argument) = Some (processor, argument)
other_invoked _ = None

-- the processor that a call names, with its argument
abbrev pub processor_invoked : Call → Option (ℕ × List ℕ)
processor_invoked call = elim (key_call call) [ Some s ↦ invoked_by s.op | None ↦ other_invoked call ]

-- a call asks the loader for its keys alone, and its processor alone, with its argument
abbrev pub AsksOf : Call → Request → Type 0
AsksOf call (Load key) = IsKeyOf key call
AsksOf call (Process key n value argument) = processor_invoked call ≡ Some (n, argument)
AsksOf call _ = ⊤

abbrev pub AsksIn : Call → Step → Type 0
AsksIn call (Done reply) = ⊤
AsksIn call (Need request) = AsksOf call request
