-- Stacks of layers over leaves of any meaning.
use Rattle.block.specs.Laws.{Laws}
use Rattle.block.specs.Meaning.{Meaning}
use Rattle.block.specs.Rises.{Rises}
use Rattle.button.specs.Button.{buttoned}
use Rattle.button.specs.Inner.{Buttons}
use Rattle.group.specs.declared.Group.{Group}
use Rattle.group.specs.Group.{grouped}
use Rattle.group.specs.Members.{Groups}

-- a leaf is any rising block, with a meaning of its own; a pair is a group of two stacks
pub data Stack (X : Type 0) : Type 0 where
  Leaf : (m : Meaning X) → Laws m → Rises m → Stack X
  Pair : Stack X → Stack X → Stack X

-- the type of a stack's blocks
abbrev pub Carrier : {X : Type 0} → Stack X → Type 0
Carrier {X} (Leaf m l r) = X
Carrier {X} (Pair s t) = Group (Carrier s) (Carrier t)

-- the meaning that its layers give
abbrev pub stacked : {X : Type 0} → (s : Stack X) → Meaning (Carrier s)
stacked {X} (Leaf m l r) = m
stacked {X} (Pair s t) = grouped (stacked s) (stacked t)

-- each group in the stack is the group of its two members
abbrev pub Layers : {X : Type 0} → Stack X → Type 0
Layers {X} (Leaf m l r) = Unit {0}
Layers {X} (Pair s t) = Groups (λ (g : Group (Carrier s) (Carrier t)). g.first) (λ g. g.second) (stacked s) (stacked t) (stacked (Pair s t)) × (Layers s × Layers t)

pub record Stands {X : Type 0} (s : Stack X) : Type 0 where
  -- without a button it is a block and a rising one
  pub laws : Laws (stacked s)
  pub rises : Rises (stacked s)
  pub layers : Layers s
  -- under a button it is a block
  pub button_laws : Laws (buttoned (stacked s))
  pub button : Buttons (λ b. b.inner) (λ b. b.button) (stacked s) (buttoned (stacked s))
