-- What a scan brings a row: its sources, its word and its step.
use Rattle.std.specs.Prelude.{ℕ, Bool, true, false, List, replicate, Some, None, Option, slice_index_or, refl}
use Rattle.block.specs.declared.settings.Settings.{Settings}
use Rattle.block.specs.declared.setup.Setup.{Setup}
use Rattle.block.specs.declared.times.Times.{Times}
use Rattle.block.specs.declared.types.Input.{Input}
use Rattle.block.specs.declared.types.Kind.TheVariants.{And}
use Rattle.block.specs.declared.types.Word.{Word}
use Rattle.sheet.specs.declared.row.Row.{Row}
use Rattle.values.specs.declared.source.Source.{Source}
use Rattle.values.specs.declared.source.Source.TheVariants as source
use Rattle.station.specs.Image.{bit_of}

-- whether a source is on; `ons` tells of each row whether it is on in this scan
abbrev pub source_on : List ℕ → (ℕ → Bool) → Source → Bool
source_on image ons source.Zero = false
source_on image ons source.One = true
source_on image ons (source.Terminal t) = bit_of image t
source_on image ons (source.Row j) = ons j

-- pin n of a row
abbrev pub pin : Row → ℕ → Source
pin r n = slice_index_or r.pins n source.Zero

abbrev pub word_of : List ℕ → (ℕ → Bool) → Row → Word
word_of image ons r = record {
  pin0 = source_on image ons (pin r 0);
  pin1 = source_on image ons (pin r 1);
  pin2 = source_on image ons (pin r 2);
  pin3 = source_on image ons (pin r 3);
}

-- the reset bit of a row in an image; off where the row has no reset
abbrev pub reset_on : List ℕ → Option ℕ → Bool
reset_on image None = false
reset_on image (Some t) = bit_of image t

-- the step of a row: now is read from this image, before from the last accepted one
abbrev pub input_of : List ℕ → List ℕ → ℕ → (ℕ → Bool) → Row → Input
input_of image last elapsed ons r = record {
  active = source_on image ons r.act;
  word = word_of image ons r;
  now = reset_on image r.reset;
  before = reset_on last r.reset;
  elapsed = elapsed;
}

-- the step of every row in a halt: inactive, all pins and reset bits off
abbrev pub halt_input : Input
halt_input = record {
  active = false;
  word = record { pin0 = false; pin1 = false; pin2 = false; pin3 = false };
  now = false;
  before = false;
  elapsed = 0;
}

-- what a row's block is made from
abbrev pub setup_of : Times → Row → Setup
setup_of t r = record { settings = r.settings; times = t }

abbrev blank_settings : Settings
blank_settings = record { kind = And; start = false; auto = false; allowed = refl }

-- what stands past the rows and past the blocks where a list is read there
abbrev pub blank_row : Row
blank_row = record { settings = blank_settings; act = source.Zero; pins = replicate 4 source.Zero; reset = None }

abbrev pub blank_setup : Setup
blank_setup = record { settings = blank_settings; times = record { min = 100; max = 60000; allowed = refl } }

abbrev pub row_at : List Row → ℕ → Row
row_at rows k = slice_index_or rows k blank_row
