-- A line says one thing.
use Rattle.std.specs.Prelude.{◌≡◌, ℕ, List}
use Rattle.script.specs.Readings.{Reading}
use Rattle.script.specs.Says.{Says}

abbrev pub OneReading : Type 0
OneReading = (line : List ℕ) (m n : Reading) → Says line m → Says line n → m ≡ n
