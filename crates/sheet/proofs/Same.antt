-- Records with an invariant are equal where their plain fields are.
use Rattle.std.proofs.Math.Bool.{Bool-set}
use Rattle.std.proofs.Common.{◌≡◌, true}
use mathlib.Core.HLevel.{is_prop→PathP}
use Rattle.block.specs.Limits.{settings_allowed, times_allowed}
use Rattle.block.specs.declared.settings.Settings.{Settings}
use Rattle.block.specs.declared.times.Times.{Times}
use Rattle.sheet.specs.declared.wiring.Wiring.{Wiring}
use Rattle.sheet.specs.Wired.{wiring_allowed}

pub settings_same : (s t : Settings) → s.kind ≡ t.kind → s.start ≡ t.start → s.auto ≡ t.auto → s ≡ t
settings_same s t k b a =
    λ i. record { kind = k i; start = b i; auto = a i; allowed = is_prop→PathP (λ j. settings_allowed (k j) (b j) (a j) ≡ true) (λ j. Bool-set _ true) s.allowed t.allowed i }

pub times_same : (s t : Times) → s.min ≡ t.min → s.max ≡ t.max → s ≡ t
times_same s t a b =
    λ i. record { min = a i; max = b i; allowed = is_prop→PathP (λ j. times_allowed (a j) (b j) ≡ true) (λ j. Bool-set _ true) s.allowed t.allowed i }

pub wiring_same : (v w : Wiring) → v.times ≡ w.times → v.count ≡ w.count → v.rows ≡ w.rows → v.outputs ≡ w.outputs → v.outs ≡ w.outs → v ≡ w
wiring_same v w a b c d e =
    λ i. record { times = a i; count = b i; rows = c i; outputs = d i; outs = e i; allowed = is_prop→PathP (λ j. wiring_allowed (b j) (c j) (d j) (e j) ≡ true) (λ j. Bool-set _ true) v.allowed w.allowed i }
