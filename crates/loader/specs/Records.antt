-- A FIELD'S DEFINITION: the bytes of a definition, under the name of the row that checks it.
use Rattle.std.specs.Prelude.{ℕ, List}
use Rattle.std.proofs.Common.{ap}
use Rattle.definition.specs.declared.Definition.{Definition}
use Rattle.definition.specs.File.{read_definition}
use Rattle.functions.specs.PartLaws.{Local, definition_local}
use Rattle.loader.specs.declared.records.Fielddef.{Fielddef}

abbrev pub fielddef : Definition → Fielddef
fielddef d = record { definition = d }

abbrev pub read_fielddef : List ℕ → ℕ → Fielddef
read_fielddef file at = fielddef (read_definition file at)

pub fielddef_local : Local read_fielddef 8
fielddef_local f g i j s = ap fielddef (definition_local f g i j s)
