-- The text of an answer.
use Rattle.std.specs.Prelude.{ℕ, zero, suc, ◌/◌, ◌%◌, List, [], ◌∷◌, ◌++◌, Ok, Err, codes, decimal, Result, slice_index}
use Rattle.desk.specs.declared.answer.Answer.{Answer}
use Rattle.desk.specs.declared.answer.Reply.{Reply}
use Rattle.desk.specs.declared.answer.Reply.TheVariants.{Loaded, Scanned, Halted, Reported, Needs}
use Rattle.desk.specs.declared.report.Report.{Report}
use Rattle.desk.specs.Replies.{report_bytes}
use Rattle.sheet.specs.declared.fault.WiringFault.{WiringFault}
use Rattle.sheet.specs.Faults.{wiring_told}
use Rattle.sheet.specs.Words.{layer_word}
use Rattle.station.specs.declared.refusal.LoadRefusal.{LoadRefusal}
use Rattle.station.specs.declared.refusal.LoadRefusal.TheVariants.{Lent, Sheet}
use Rattle.station.specs.declared.refusal.Refusal.{Refusal}
use Rattle.station.specs.Refusals.{refusal_number, load_number}
use Rattle.station.specs.Reports.{hex_digit}

-- so many capital hexadecimal digits, the lowest last
unfoldable pub hex_text : ℕ → ℕ → List ℕ
hex_text zero n = []
hex_text (suc k) n = hex_text k (n / 16) ++ hex_digit (n % 16) ∷ []

-- as `refused 22`
abbrev pub refused_text : ℕ → List ℕ
refused_text number = codes "refused " ++ decimal number

-- as `refused 14 line 9 wiring`
abbrev pub fault_text : WiringFault → List ℕ
fault_text f = refused_text (wiring_told f).number ++ (codes " line " ++ (decimal (wiring_told f).line ++ (codes " " ++ layer_word (wiring_told f).layer)))

abbrev pub load_text : Result (Unit {0}) LoadRefusal → List ℕ
load_text (Ok x) = codes "loaded"
load_text (Err Lent) = refused_text (load_number Lent)
load_text (Err (Sheet f)) = fault_text f

-- a word where the call was accepted
abbrev pub done_text : List ℕ → Result (Unit {0}) Refusal → List ℕ
done_text word (Ok x) = word
done_text word (Err e) = refused_text (refusal_number e)

-- as ` outputs=0300` and LF
abbrev pub outputs_text : List ℕ → List ℕ
outputs_text o = codes " outputs=" ++ (hex_text 2 (slice_index o 0) ++ (hex_text 2 (slice_index o 1) ++ codes "\n"))

-- a report ends in LF itself
abbrev pub reported_text : Result Report Refusal → List ℕ
reported_text (Ok r) = report_bytes r
reported_text (Err e) = refused_text (refusal_number e) ++ codes "\n"

abbrev pub needed_text : Result ℕ Refusal → List ℕ
needed_text (Ok n) = codes "needs=" ++ (hex_text 16 n ++ codes "\n")
needed_text (Err e) = refused_text (refusal_number e) ++ codes "\n"

abbrev pub reply_text : Reply → List ℕ → List ℕ
reply_text (Loaded r) o = load_text r ++ outputs_text o
reply_text (Scanned r) o = done_text (codes "scanned") r ++ outputs_text o
reply_text (Halted r) o = done_text (codes "halted") r ++ outputs_text o
reply_text (Reported r) o = reported_text r
reply_text (Needs r) o = needed_text r

abbrev pub answer_text : Answer → List ℕ
answer_text a = reply_text a.reply a.outputs
