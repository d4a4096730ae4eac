-- Every stack stands, by induction on its depth.
use Rattle.std.proofs.Common.{rules}
use Rattle.block.specs.Laws.{Laws}
use Rattle.block.specs.Rises.{Rises}
use Rattle.button.specs.Laws.{button_steps}
use Rattle.button.proofs.Press.{button_comes_on}
use Rattle.button.specs.Relations.{button_relations}
use Rattle.group.specs.Laws.{group_steps}
use Rattle.group.proofs.Rising.{group_rises, group_comes_on}
use Rattle.stacks.specs.Stacks.{Stack, Leaf, Pair, stacked, Layers, Stands}

both_laws : {X : Type 0} (s : Stack X) → Laws (stacked s) × Rises (stacked s)
both_laws (Leaf m l r) = (l, r)
both_laws (Pair s t) =
    let a = both_laws s in
    let b = both_laws t in (
      record {
        steps = group_steps (stacked s) (stacked t) a.0.steps b.0.steps;
        comes_on = group_comes_on (stacked s) (stacked t) a.0.steps b.0.steps a.1 b.1;
      },
      group_rises (stacked s) (stacked t) a.0.steps b.0.steps a.1 b.1,
    )

layers : {X : Type 0} (s : Stack X) → Layers s
layers (Leaf m l r) = tt
layers (Pair s t) = (search rules, (layers s, layers t))

pub stands : {X : Type 0} (s : Stack X) → Stands s
stands s =
    let keeps = both_laws s in
    record {
      laws = keeps.0;
      rises = keeps.1;
      layers = layers s;
      button_laws = record { steps = button_steps (stacked s) keeps.0.steps; comes_on = button_comes_on (stacked s) keeps.0.steps keeps.1 };
      button = button_relations (stacked s) keeps.0.steps;
    }
