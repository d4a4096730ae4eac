-- What a reader of one value answers.
use Rattle.std.specs.Prelude.{◌≡◌, Some, None, Option, ◌≢◌}

-- the value that s writes, out of those that can be written; none where s writes no such value
abbrev pub Parsed : {S V : Type 0} → (V → Type 0) → (V → S) → S → Option V → Type 0
Parsed Can written s (Some v) = Can v × (s ≡ written v)
Parsed {V = V} Can written s None = (v : V) → Can v → s ≢ written v
