-- The number, the line and the layer of each fault.
use Rattle.sheet.specs.declared.fault.Layer.TheVariants as layer
use Rattle.sheet.specs.declared.fault.TextFault.{TextFault}
use Rattle.sheet.specs.declared.fault.TextFault.TheVariants.{TooLong, Malformed, Limit, Trailing}
use Rattle.sheet.specs.declared.fault.RowFault.{RowFault}
use Rattle.sheet.specs.declared.fault.RowFault.TheVariants.{Text, NotAllowed, BadTimes}
use Rattle.sheet.specs.declared.fault.Told.{Told}
use Rattle.sheet.specs.declared.fault.WiringFault.{WiringFault}
use Rattle.sheet.specs.declared.fault.WiringFault.TheVariants.{Row, NotEarlier, NotOnSheet}

abbrev pub text_told : TextFault → Told
text_told TooLong = record { number = 11; line = 0; layer = layer.Text }
text_told (Malformed n) = record { number = 12; line = n; layer = layer.Text }
text_told (Limit n) = record { number = 13; line = n; layer = layer.Text }
text_told (Trailing n) = record { number = 17; line = n; layer = layer.Text }

abbrev pub row_told : RowFault → Told
row_told (Text f) = text_told f
row_told (NotAllowed n) = record { number = 15; line = n; layer = layer.Row }
row_told (BadTimes n) = record { number = 16; line = n; layer = layer.Row }

abbrev pub wiring_told : WiringFault → Told
wiring_told (Row f) = row_told f
wiring_told (NotEarlier n) = record { number = 14; line = n; layer = layer.Wiring }
wiring_told (NotOnSheet n) = record { number = 14; line = n; layer = layer.Wiring }
