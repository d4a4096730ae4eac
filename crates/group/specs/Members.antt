-- What a group is by its members, as relations between three meanings.
use Rattle.std.specs.Prelude.{◌≡◌, true, ◌⊎◌, ◌↔◌}
use Rattle.block.specs.declared.setup.Setup.{Setup}
use Rattle.block.specs.declared.types.Input.{Input}
use Rattle.block.specs.declared.types.Mode.{Mode}
use Rattle.block.specs.declared.types.Mode.TheVariants.{Idle, Waiting, On, Fault}
use Rattle.block.specs.declared.types.Word.{Word}
use Rattle.block.specs.Meaning.{Meaning}
use Rattle.group.specs.Group.{turned, turned_input}

-- waiting or on
abbrev pub WaitsOrOn : Mode → Type 0
WaitsOrOn m = (m ≡ Waiting) ⊎ (m ≡ On)

pub record Groups {A B G : Type 0} (first : G → A) (second : G → B) (a : Meaning A) (b : Meaning B) (g : Meaning G) : Type 0 where
  -- a fault of one is the group's
  pub fault : (x : G) → (g.mode x ≡ Fault) ↔ ((a.mode (first x) ≡ Fault) ⊎ (b.mode (second x) ≡ Fault))
  -- an idle member makes the group idle, unless there is a fault
  pub idle : (x : G) → (g.mode x ≡ Idle) ↔ ((a.mode (first x) ≡ Fault → ⊥) × (b.mode (second x) ≡ Fault → ⊥) × ((a.mode (first x) ≡ Idle) ⊎ (b.mode (second x) ≡ Idle)))
  -- only both together are on
  pub on : (x : G) → (g.mode x ≡ On) ↔ ((a.mode (first x) ≡ On) × (b.mode (second x) ≡ On))
  -- the group waits for those of its members that wait, where the others are on
  pub waiting : (x : G) → (g.mode x ≡ Waiting) ↔ (WaitsOrOn (a.mode (first x)) × WaitsOrOn (b.mode (second x)) × ((a.mode (first x) ≡ Waiting) ⊎ (b.mode (second x) ≡ Waiting)))
  -- the first looks at the word as it is, the second at the turned one
  pub clear : (x : G) (w : Word) → (g.clear x w ≡ true) ↔ ((a.clear (first x) w ≡ true) × (b.clear (second x) (turned w) ≡ true))
  -- one member that is not latched makes a group that is not
  pub latched : (x : G) → (g.latched x ≡ true) ↔ ((a.latched (first x) ≡ true) × (b.latched (second x) ≡ true))
  -- every member that waits is released at once
  pub releases : (x : G) (i : Input) → (g.releases x i ≡ true) ↔ ((g.mode x ≡ Waiting) × (a.mode (first x) ≡ Waiting → a.releases (first x) i ≡ true) × (b.mode (second x) ≡ Waiting → b.releases (second x) (turned_input i) ≡ true))
  -- how the members step
  pub steps_first : (x : G) (i : Input) → first (g.next x i) ≡ a.next (first x) i
  pub steps_second : (x : G) (i : Input) → second (g.next x i) ≡ b.next (second x) (turned_input i)
  -- and how they are made
  pub makes_first : (s : Setup) → first (g.made s) ≡ a.made s
  pub makes_second : (s : Setup) → second (g.made s) ≡ b.made s
  -- the code: where the first is fine and the second is not, the second's
  pub shows_second : (x : G) → ((b.mode (second x) ≡ Fault) × (a.mode (first x) ≡ Fault → ⊥)) ⊎ (a.mode (first x) ≡ On) → g.code x ≡ b.code (second x)
  pub shows_first : (x : G) → (b.mode (second x) ≡ Fault → a.mode (first x) ≡ Fault) → (a.mode (first x) ≡ On → ⊥) → g.code x ≡ a.code (first x)
  -- a reset is requested while the group waits
  pub requests : (x : G) → (g.requests x ≡ true) ↔ (g.mode x ≡ Waiting)
