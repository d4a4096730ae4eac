-- What is said of each fault.
use Rattle.std.specs.Prelude.{ℕ, List, ◌++◌, codes, decimal}
use Rattle.sheet.specs.declared.fault.Layer.{Layer}
use Rattle.sheet.specs.declared.fault.Layer.TheVariants as layer
use Rattle.sheet.specs.declared.fault.TextFault.{TextFault}
use Rattle.sheet.specs.declared.fault.TextFault.TheVariants.{TooLong, Malformed, Limit, Trailing}
use Rattle.sheet.specs.declared.fault.RowFault.{RowFault}
use Rattle.sheet.specs.declared.fault.RowFault.TheVariants.{Text, NotAllowed, BadTimes}
use Rattle.sheet.specs.declared.fault.WiringFault.{WiringFault}
use Rattle.sheet.specs.declared.fault.WiringFault.TheVariants.{Row, NotEarlier, NotOnSheet}
use Rattle.sheet.specs.Faults.{wiring_told}

abbrev pub layer_word : Layer → List ℕ
layer_word layer.Text = codes "text"
layer_word layer.Row = codes "row"
layer_word layer.Wiring = codes "wiring"

abbrev pub text_reason : TextFault → List ℕ
text_reason TooLong = codes "the sheet has more than 4096 bytes"
text_reason (Malformed n) = codes "this line is missing or is not written as it must be"
text_reason (Limit n) = codes "a number in this line is outside its limits"
text_reason (Trailing n) = codes "something follows the last line"

abbrev pub row_reason : RowFault → List ℕ
row_reason (Text f) = text_reason f
row_reason (NotAllowed n) = codes "only an estop may have this setting at 1"
row_reason (BadTimes n) = codes "min must be at least 100, and max at least min"

abbrev pub wiring_reason : WiringFault → List ℕ
wiring_reason (Row f) = row_reason f
wiring_reason (NotEarlier n) = codes "a source must be an earlier row"
wiring_reason (NotOnSheet n) = codes "the row of this output is not on the sheet"

-- the line that is printed
abbrev pub fault_shown : WiringFault → List ℕ
fault_shown f =
    codes "refused " ++ (decimal (wiring_told f).number ++ (codes " line " ++ (decimal (wiring_told f).line ++ (codes " " ++ (layer_word (wiring_told f).layer ++ (codes ": " ++ wiring_reason f))))))
