use Rattle.std.proofs.Common.{◌≡◌, ◌∙◌, ap, ◌&&◌, eqb}
use Rattle.std.proofs.Math.Bool.{and_assoc}
use Rattle.definition.specs.declared.FileRecord.{FileRecord}
use Rattle.definition.specs.File.{file_of}
use Rattle.definition.specs.Load.{same_lump, same_file, recorded_in}
use Rattle.functions.specs.Laws.{short_file}
use Rattle.functions.proofs.header.recorded_in.Goals as goal

pub returns-then-file-lt-HEADER_LENGTH : goal.returns-then-file-lt-HEADER_LENGTH
returns-then-file-lt-HEADER_LENGTH c = short_file _ _ _ c.if-file-lt-HEADER_LENGTH.true

-- what `==` compares, field by field
same_fields : (a b : FileRecord)
    → (eqb a.length b.length
    && (same_lump a.statements b.statements
    && (same_lump a.globaldefs b.globaldefs
    && (same_lump a.fielddefs b.fielddefs
    && (same_lump a.functions b.functions
    && (same_lump a.strings b.strings
    && (same_lump a.globals b.globals
    && eqb a.entityfields b.entityfields)))))))
    ≡ same_file a b
unfolding same_file
same_fields a b = simp and_assoc

pub returns : goal.returns
unfolding recorded_in
returns c =
    let same : c.eq.result ≡ same_file c.args.r (file_of c.args.file.now) = c.eq.ensures ∙ (same_fields c.args.r _ ∙ ap (same_file c.args.r) c.file_of.ensures) in
    cc
