-- The limits of a script.
use Rattle.std.specs.Prelude.{ℕ}

-- the most bytes of an image
abbrev pub image_limit : ℕ
image_limit = 16

-- the most blocks that a script lends
abbrev pub blocks_limit : ℕ
blocks_limit = 40

-- the most output bytes that a script lends
abbrev pub bytes_limit : ℕ
bytes_limit = 4

-- the most bytes of a report's place
abbrev pub size_limit : ℕ
size_limit = 64

-- the bytes of a report's place where a line does not say
abbrev pub size_unsaid : ℕ
size_unsaid = 54

-- the largest number
abbrev pub number_limit : ℕ
number_limit = 4294967295
