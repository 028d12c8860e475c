-- THE NUMBERS OF A HEADER: that they have room in its fields, and that the lumps' lengths can be added up.
use Rattle.std.specs.Prelude.{◌<◌}
use Rattle.definition.specs.declared.Lump.{Lump}
use Rattle.definition.specs.declared.FileRecord.{FileRecord}

abbrev pub SmallLump : Lump → Type 0
SmallLump l = (l.offset < 4294967296) × (l.count < 4294967296)

pub record Small (r : FileRecord) : Type 0 where
  pub statements : SmallLump r.statements
  pub globaldefs : SmallLump r.globaldefs
  pub fielddefs : SmallLump r.fielddefs
  pub functions : SmallLump r.functions
  pub strings : SmallLump r.strings
  pub globals : SmallLump r.globals
  pub entityfields : r.entityfields < 4294967296

pub record Counted (r : FileRecord) : Type 0 where
  pub statements : r.statements.count < 2147483648
  pub globaldefs : r.globaldefs.count < 2147483648
  pub fielddefs : r.fielddefs.count < 2147483648
  pub functions : r.functions.count < 2147483648
  pub strings : r.strings.count < 2147483648
  pub globals : r.globals.count < 2147483648
