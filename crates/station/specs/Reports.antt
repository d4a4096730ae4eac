-- The text of a row report.
use Rattle.std.specs.Prelude.{◌≡◌, ℕ, ◌+◌, ◌/◌, ◌%◌, Bool, cond, List, [], ◌∷◌, ◌++◌, length, drop, codes, nat_lt}
use Rattle.block.specs.declared.types.Mode.{Mode}
use Rattle.block.specs.Codes.{number_of, ready_of, error_of}
use Rattle.block.specs.Meaning.{Meaning}
use Rattle.block.specs.Modes.{mode_word}
use Rattle.values.specs.Written.{two}

abbrev pub flag : Bool → List ℕ
flag b = cond b (codes "1") (codes "0")

-- 0 to 9, A to F
abbrev pub hex_digit : ℕ → ℕ
hex_digit n = cond (nat_lt n 10) (48 + n) (55 + n)

-- four capital hexadecimal digits
abbrev pub hex4 : ℕ → List ℕ
hex4 n = hex_digit (n / 4096 % 16) ∷ hex_digit (n / 256 % 16) ∷ hex_digit (n / 16 % 16) ∷ hex_digit (n % 16) ∷ []

-- a line of the report, with its LF
abbrev pub report_line : List ℕ → List ℕ → List ℕ
report_line key value = key ++ (value ++ codes "\n")

-- the six lines: row, code, mode, and what the code and the block tell
abbrev pub report_lines : (row code : ℕ) (mode : Mode) (request : Bool) → List ℕ
report_lines row code mode request =
    report_line (codes "row=") (two row)
    ++ (report_line (codes "code=") (hex4 code)
    ++ (report_line (codes "mode=") (mode_word mode)
    ++ (report_line (codes "ready=") (flag (ready_of code))
    ++ (report_line (codes "error=") (flag (error_of code))
    ++ report_line (codes "request=") (flag request)))))

-- the report of row k with the block b
abbrev pub report_text : {B : Type 0} → Meaning B → ℕ → B → List ℕ
report_text m k b = report_lines k (number_of (m.code b)) (m.mode b) (m.requests b)

-- the place begins with the text, and its rest is left
abbrev pub Written : List ℕ → (place place' : List ℕ) → Type 0
Written text place place' = place' ≡ text ++ drop (length text) place
