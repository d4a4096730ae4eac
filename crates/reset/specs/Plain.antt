-- The plain fields of the reset button's record.
use Rattle.reset.specs.declared.button.ResetButton.{ResetButton}
use Rattle.reset.specs.declared.fields.ButtonFields.{ButtonFields}

abbrev pub plain : ResetButton → ButtonFields
plain b = b.fields
