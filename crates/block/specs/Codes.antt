-- The diagnostic codes: their numbers, and what a number tells.
use Rattle.std.specs.Prelude.{◌≡◌, ℕ, ◌/◌, Bool, true, false, ◌||◌, ◌==◌}
use Rattle.block.specs.declared.code.Code.{Code}
use Rattle.block.specs.declared.code.Code.TheVariants.{H0000, H8000, H8001, H83E2, H83F2, H8402, H8404, H8802, H8804, HC001, HC011, HC3E0, HC3F0}
use Rattle.block.specs.declared.code.CodeLine.{CodeLine}

-- the table: each code's number, and whether it means ready and error
abbrev pub code_line : Code → CodeLine
code_line H0000 = record { number = 0x0000; ready = false; error = false }
code_line H8000 = record { number = 0x8000; ready = true; error = false }
code_line H8001 = record { number = 0x8001; ready = true; error = false }
code_line H83E2 = record { number = 0x83E2; ready = true; error = false }
code_line H83F2 = record { number = 0x83F2; ready = true; error = false }
code_line H8402 = record { number = 0x8402; ready = true; error = false }
code_line H8404 = record { number = 0x8404; ready = true; error = false }
code_line H8802 = record { number = 0x8802; ready = true; error = false }
code_line H8804 = record { number = 0x8804; ready = true; error = false }
code_line HC001 = record { number = 0xC001; ready = true; error = true }
code_line HC011 = record { number = 0xC011; ready = true; error = true }
code_line HC3E0 = record { number = 0xC3E0; ready = true; error = true }
code_line HC3F0 = record { number = 0xC3F0; ready = true; error = true }

abbrev pub number_of : Code → ℕ
number_of c = (code_line c).number

-- the first of the four hexadecimal digits
abbrev pub first_digit : ℕ → ℕ
first_digit n = n / 0x1000

-- ready: 8xxx and Cxxx
abbrev pub ready_of : ℕ → Bool
ready_of n = first_digit n == 0x8 || first_digit n == 0xC

-- error: Cxxx
abbrev pub error_of : ℕ → Bool
error_of n = first_digit n == 0xC

-- 0000, 8xxx or Cxxx
abbrev pub is_standard : ℕ → Bool
is_standard n = n == 0 || ready_of n

-- a line of the table tells what its number tells
pub record Agrees (l : CodeLine) : Type 0 where
  pub ready : l.ready ≡ ready_of l.number
  pub error : l.error ≡ error_of l.number
  pub standard : is_standard l.number ≡ true
