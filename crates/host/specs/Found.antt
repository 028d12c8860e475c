-- WHAT THE EXPORTED READERS ANSWER: `found` is 1 where the record is there. Where it is 0, `refusal` is 01's number, or 0 where 01 has none, and the
-- record is of zeros.
use Rattle.std.specs.Prelude.{ℕ, List, Option, Some, None, cond}
use Rattle.definition.specs.declared.Definition.{Definition}
use Rattle.definition.specs.declared.FileRecord.{FileRecord}
use Rattle.definition.specs.declared.FunctionDef.{FunctionDef}
use Rattle.definition.specs.declared.Lump.{Lump}
use Rattle.definition.specs.declared.Statement.{Statement}
use Rattle.definition.specs.Checks.{Checked, refused, accepted}
use Rattle.definition.specs.File.{file_of, length_fits, no_function}
use Rattle.view.specs.Records.{no_definition}
use Rattle.host.specs.declared.records.HeaderReply.{HeaderReply}
use Rattle.host.specs.declared.records.StatementReply.{StatementReply}
use Rattle.host.specs.declared.records.FunctionReply.{FunctionReply}
use Rattle.host.specs.declared.records.DefinitionReply.{DefinitionReply}

-- the two numbers, and the record beside them
abbrev pub numbered : {A : Type 0} → A → Checked (Option A) → ℕ × ℕ × A
numbered none (accepted (Some a)) = (1, 0, a)
numbered none (accepted None) = (0, 0, none)
numbered none (refused n) = (0, n, none)

abbrev pub no_lump : Lump
no_lump = record { offset = 0; count = 0 }

abbrev pub no_file : FileRecord
no_file =
    record {
      length = 0;
      statements = no_lump;
      globaldefs = no_lump;
      fielddefs = no_lump;
      functions = no_lump;
      strings = no_lump;
      globals = no_lump;
      entityfields = 0;
    }

-- "1: length under 60 or over 1,048,576"
abbrev pub header_in : List ℕ → Checked FileRecord
header_in file = cond (length_fits (file_of file)) (accepted (file_of file)) (refused 1)

abbrev pub header_answered : Checked FileRecord → HeaderReply
header_answered (accepted r) = record { found = 1; refusal = 0; recorded = r }
header_answered (refused n) = record { found = 0; refusal = n; recorded = no_file }

abbrev pub header_reply : List ℕ → HeaderReply
header_reply file = header_answered (header_in file)

abbrev pub no_statement : Statement
no_statement = record { opcode = 0; arg1 = 0; arg2 = 0; arg3 = 0 }

abbrev pub statement_reply : Checked (ℕ × Statement) → StatementReply
statement_reply (accepted f) = record { found = 1; refusal = 0; statement = f.1 }
statement_reply (refused n) = record { found = 0; refusal = n; statement = no_statement }

abbrev pub function_reply : Checked FunctionDef → FunctionReply
function_reply (accepted d) = record { found = 1; refusal = 0; function = d }
function_reply (refused n) = record { found = 0; refusal = n; function = no_function }

abbrev pub definition_absent : ℕ → DefinitionReply
definition_absent n = record { found = 0; refusal = n; definition = no_definition }

abbrev pub definition_reply : Checked (Option Definition) → DefinitionReply
definition_reply (accepted (Some d)) = record { found = 1; refusal = 0; definition = d }
definition_reply (accepted None) = definition_absent 0
definition_reply (refused n) = definition_absent n
