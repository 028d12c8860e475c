-- STRUCTS WITH ANOTHER NUMBER IN EACH FIELD: 1 and on, in the order of the fields.
use Rattle.std.specs.Prelude.{ℕ, ◌+◌, ◌*◌, List, [], ◌∷◌, map, pos}
use Rattle.std.specs.List.{range_with_len}
use Rattle.definition.specs.declared.Lump.{Lump}
use Rattle.definition.specs.declared.FileRecord.{FileRecord}
use Rattle.definition.specs.declared.Settings.{Settings}
use Rattle.definition.specs.declared.StackFrame.{StackFrame}
use Rattle.progs.specs.declared.ExecutionContext.{ExecutionContext}
use Rattle.host.specs.declared.layout.Structs.{Structs}
use Rattle.host.specs.declared.records.StatementReply.{StatementReply}
use Rattle.host.specs.declared.records.FunctionReply.{FunctionReply}

abbrev pub numbered_lump : ℕ → ℕ → Lump
numbered_lump n m = record { offset = n; count = m }

abbrev pub numbered_file : ℕ → FileRecord
numbered_file n =
    record {
      length = n;
      statements = numbered_lump (n + 1) (n + 2);
      globaldefs = numbered_lump (n + 3) (n + 4);
      fielddefs = numbered_lump (n + 5) (n + 6);
      functions = numbered_lump (n + 7) (n + 8);
      strings = numbered_lump (n + 9) (n + 10);
      globals = numbered_lump (n + 11) (n + 12);
      entityfields = n + 13;
    }

abbrev pub numbered_settings : Settings
numbered_settings = record { check_number = 15; depth = 16; saved = 17; limit = 18 }

abbrev pub numbered_frame : ℕ → StackFrame
numbered_frame i = record { instr_id = pos (24 + 2 * i); func_id = 25 + 2 * i }

-- the 31 frames
abbrev pub numbered_frames : List StackFrame
numbered_frames = map numbered_frame (range_with_len 0 31)

abbrev pub numbered_context : ExecutionContext
numbered_context =
    record {
      file = numbered_file 1;
      settings = numbered_settings;
      pc = pos 19;
      current_function = 20;
      depth = 21;
      saved = 22;
      entity_count = 23;
      frames = numbered_frames;
    }

abbrev pub numbered_statement : StatementReply
numbered_statement =
    record { found = 105; refusal = 106; statement = record { opcode = 107; arg1 = 108; arg2 = 109; arg3 = 110 } }

abbrev pub numbered_function : FunctionReply
numbered_function =
    record {
      found = 111;
      refusal = 112;
      function =
          record {
            first = 113;
            start = 114;
            locals = 115;
            name = 116;
            srcfile = 117;
            argc = 118;
            argsz = 119 ∷ 120 ∷ 121 ∷ 122 ∷ 123 ∷ 124 ∷ 125 ∷ 126 ∷ [];
          };
    }

abbrev pub numbered_structs : Structs
numbered_structs =
    record {
      reply = record { context = numbered_context; word = 86; detail = 87; count = 88 };
      header = record { found = 89; refusal = 90; recorded = numbered_file 91 };
      statement = numbered_statement;
      function = numbered_function;
      definition = record { found = 127; refusal = 128; definition = record { kind = 129; offset = 130; name = 131 } };
      written = record { length = 132; refusal = 133 };
    }
