-- What an image holds.
use Rattle.std.specs.Prelude.{ℕ, List, take}
use Rattle.script.specs.declared.image.Image.{Image}

abbrev pub image_bytes : Image → List ℕ
image_bytes i = take i.size i.bytes
