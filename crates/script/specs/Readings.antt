-- What a line of a script can say.
use Rattle.std.specs.Prelude.{ℕ, List}
use Rattle.script.specs.declared.command.Command.{Command}
use Rattle.script.specs.declared.command.Command.TheVariants.{Scan, Halt, Report, Needs}
use Rattle.script.specs.declared.command.Line.{Line}
use Rattle.script.specs.declared.command.Line.TheVariants.{Nothing, Load, Command as Does, Blocks, Bytes}
use Rattle.script.specs.Images.{image_bytes}

pub data Reading : Type 0 where
  nothing : Reading
  load : (path : List ℕ) → Reading
  scan : (image : List ℕ) (elapsed : ℕ) → Reading
  halt : Reading
  report : (row size : ℕ) → Reading
  needs : (output : ℕ) → Reading
  blocks : (count : ℕ) → Reading
  bytes : (count : ℕ) → Reading

abbrev pub command_reading : Command → Reading
command_reading (Scan image elapsed) = scan (image_bytes image) elapsed
command_reading Halt = halt
command_reading (Report row size) = report row size
command_reading (Needs output) = needs output

-- an image by its bytes, a path by what is pointed to
abbrev pub reading : Line → Reading
reading Nothing = nothing
reading (Load path) = load path.now
reading (Does command) = command_reading command
reading (Blocks count) = blocks count
reading (Bytes count) = bytes count
