-- The meaning of a group, from the meanings of its two members.
use Rattle.std.specs.Prelude.{Bool, ◌&&◌, ◌||◌, not, cond}
use Rattle.block.specs.declared.types.Input.{Input}
use Rattle.block.specs.declared.types.Mode.{Mode}
use Rattle.block.specs.declared.types.Mode.TheVariants.{Idle, Off, Waiting, On, Fault}
use Rattle.block.specs.declared.types.Word.{Word}
use Rattle.block.specs.Meaning.{Meaning}
use Rattle.block.specs.Modes.{is_idle, is_waiting, is_on, is_fault}
use Rattle.group.specs.declared.Group.{Group}

-- the word turned by two pins, as the second member sees it
abbrev pub turned : Word → Word
turned w = record { pin0 = w.pin2; pin1 = w.pin3; pin2 = w.pin0; pin3 = w.pin1 }

abbrev pub turned_input : Input → Input
turned_input i = record { active = i.active; word = turned i.word; now = i.now; before = i.before; elapsed = i.elapsed }

-- a member that waits or is on
abbrev pub waits_or_on : Mode → Bool
waits_or_on m = is_waiting m || is_on m

-- the first line that fits decides
abbrev pub joint_mode : Mode → Mode → Mode
joint_mode a b =
    cond (is_fault a || is_fault b) Fault
    (cond (is_idle a || is_idle b) Idle
    (cond (is_on a && is_on b) On
    (cond (waits_or_on a && waits_or_on b) Waiting Off)))

-- if the member waits, it releases
abbrev pub lets_go : Mode → Bool → Bool
lets_go m releases = not (is_waiting m) || releases

-- whether the second member's code is the one to look at
abbrev pub shows_second : Mode → Mode → Bool
shows_second a b = (is_fault b && not (is_fault a)) || is_on a

abbrev pub grouped : {A B : Type 0} → Meaning A → Meaning B → Meaning (Group A B)
grouped a b = record {
  mode = λ g. joint_mode (a.mode g.first) (b.mode g.second);
  clear = λ g w. a.clear g.first w && b.clear g.second (turned w);
  latched = λ g. a.latched g.first && b.latched g.second;
  releases = λ g i. is_waiting (joint_mode (a.mode g.first) (b.mode g.second)) &&
      (lets_go (a.mode g.first) (a.releases g.first i) && lets_go (b.mode g.second) (b.releases g.second (turned_input i)));
  next = λ g i. record { first = a.next g.first i; second = b.next g.second (turned_input i) };
  made = λ s. record { first = a.made s; second = b.made s };
  code = λ g. cond (shows_second (a.mode g.first) (b.mode g.second)) (b.code g.second) (a.code g.first);
  requests = λ g. is_waiting (joint_mode (a.mode g.first) (b.mode g.second));
}
