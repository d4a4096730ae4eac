-- What the makers of times, settings and setups answer: the record, or none exactly where a limit is broken.
use Rattle.std.specs.Prelude.{◌≡◌, ℕ, Bool, false, ◌⊎◌, Some, None, Option}
use Rattle.block.specs.declared.settings.Settings.{Settings}
use Rattle.block.specs.declared.setup.Setup.{Setup}
use Rattle.block.specs.declared.times.Times.{Times}
use Rattle.block.specs.declared.types.Kind.{Kind}
use Rattle.block.specs.Limits.{settings_allowed, times_allowed}

abbrev pub TimesMade : ℕ → ℕ → Option Times → Type 0
TimesMade min max (Some t) = (t.min ≡ min) × (t.max ≡ max)
TimesMade min max None = times_allowed min max ≡ false

abbrev pub SettingsMade : Kind → Bool → Bool → Option Settings → Type 0
SettingsMade kind start auto (Some s) = (s.kind ≡ kind) × (s.start ≡ start) × (s.auto ≡ auto)
SettingsMade kind start auto None = settings_allowed kind start auto ≡ false

abbrev pub SetupMade : Kind → Bool → Bool → ℕ → ℕ → Option Setup → Type 0
SetupMade kind start auto min max (Some s) = SettingsMade kind start auto (Some s.settings) × TimesMade min max (Some s.times)
SetupMade kind start auto min max None = (settings_allowed kind start auto ≡ false) ⊎ (times_allowed min max ≡ false)
