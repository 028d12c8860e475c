-- FILES WRITTEN BY HAND: what the definition writes of two programs, byte for byte. Document 02's R-6 has no worked values of its own.
use Rattle.std.specs.Prelude.{◌≡◌, refl, [], ◌∷◌}
use Rattle.definition.specs.File.{Contents}
use Rattle.definition.specs.Written.{u16_bytes, u32_bytes, statement_bytes, definition_bytes, function_bytes, bytes_of, layout, header_numbers, written}

-- one record or two of each kind: a statement with an operand of -1, a definition with the save flag, numbers of two and of three bytes, the first statement of
-- a builtin, an argument size past the argument count
program : Contents
program =
    record {
      statements =
          record { opcode = 6; arg1 = 28; arg2 = 29; arg3 = 30 }
          ∷ record { opcode = 43; arg1 = 30; arg2 = 65535; arg3 = 0 }
          ∷ [];
      globaldefs = record { kind = 32770; offset = 28; name = 1 } ∷ [];
      fielddefs = record { kind = 5; offset = 300; name = 70000 } ∷ [];
      functions =
          record {
            first = 4294967295;
            start = 258;
            locals = 3;
            name = 2;
            srcfile = 0;
            argc = 2;
            argsz = 1 ∷ 3 ∷ 0 ∷ 0 ∷ 0 ∷ 0 ∷ 0 ∷ 9 ∷ [];
          }
          ∷ [];
      strings = 0 ∷ 97 ∷ 0 ∷ [];
      globals = 0x3fc00000 ∷ 0x01020304 ∷ [];
      entityfields = 105;
    }

of_every_kind : written 5927 program
    ≡ 6 ∷ 0 ∷ 0 ∷ 0 ∷ 39 ∷ 23 ∷ 0 ∷ 0
    ∷ 60 ∷ 0 ∷ 0 ∷ 0 ∷ 2 ∷ 0 ∷ 0 ∷ 0
    ∷ 76 ∷ 0 ∷ 0 ∷ 0 ∷ 1 ∷ 0 ∷ 0 ∷ 0
    ∷ 84 ∷ 0 ∷ 0 ∷ 0 ∷ 1 ∷ 0 ∷ 0 ∷ 0
    ∷ 92 ∷ 0 ∷ 0 ∷ 0 ∷ 1 ∷ 0 ∷ 0 ∷ 0
    ∷ 128 ∷ 0 ∷ 0 ∷ 0 ∷ 3 ∷ 0 ∷ 0 ∷ 0
    ∷ 131 ∷ 0 ∷ 0 ∷ 0 ∷ 2 ∷ 0 ∷ 0 ∷ 0
    ∷ 105 ∷ 0 ∷ 0 ∷ 0
    ∷ 6 ∷ 0 ∷ 28 ∷ 0 ∷ 29 ∷ 0 ∷ 30 ∷ 0
    ∷ 43 ∷ 0 ∷ 30 ∷ 0 ∷ 255 ∷ 255 ∷ 0 ∷ 0
    ∷ 2 ∷ 128 ∷ 28 ∷ 0 ∷ 1 ∷ 0 ∷ 0 ∷ 0
    ∷ 5 ∷ 0 ∷ 44 ∷ 1 ∷ 112 ∷ 17 ∷ 1 ∷ 0
    ∷ 255 ∷ 255 ∷ 255 ∷ 255 ∷ 2 ∷ 1 ∷ 0 ∷ 0 ∷ 3 ∷ 0 ∷ 0 ∷ 0
    ∷ 0 ∷ 0 ∷ 0 ∷ 0
    ∷ 2 ∷ 0 ∷ 0 ∷ 0 ∷ 0 ∷ 0 ∷ 0 ∷ 0 ∷ 2 ∷ 0 ∷ 0 ∷ 0
    ∷ 1 ∷ 3 ∷ 0 ∷ 0 ∷ 0 ∷ 0 ∷ 0 ∷ 9
    ∷ 0 ∷ 97 ∷ 0
    ∷ 0 ∷ 0 ∷ 192 ∷ 63 ∷ 4 ∷ 3 ∷ 2 ∷ 1
    ∷ []
unfolding program written header_numbers layout bytes_of statement_bytes definition_bytes function_bytes u32_bytes u16_bytes
of_every_kind = refl

-- four empty lumps, which have the running offset; and another check number
bare : Contents
bare =
    record {
      statements = [];
      globaldefs = [];
      fielddefs = [];
      functions = [];
      strings = 0 ∷ [];
      globals = 7 ∷ [];
      entityfields = 256;
    }

of_empty_lumps : written 65535 bare
    ≡ 6 ∷ 0 ∷ 0 ∷ 0 ∷ 255 ∷ 255 ∷ 0 ∷ 0
    ∷ 60 ∷ 0 ∷ 0 ∷ 0 ∷ 0 ∷ 0 ∷ 0 ∷ 0
    ∷ 60 ∷ 0 ∷ 0 ∷ 0 ∷ 0 ∷ 0 ∷ 0 ∷ 0
    ∷ 60 ∷ 0 ∷ 0 ∷ 0 ∷ 0 ∷ 0 ∷ 0 ∷ 0
    ∷ 60 ∷ 0 ∷ 0 ∷ 0 ∷ 0 ∷ 0 ∷ 0 ∷ 0
    ∷ 60 ∷ 0 ∷ 0 ∷ 0 ∷ 1 ∷ 0 ∷ 0 ∷ 0
    ∷ 61 ∷ 0 ∷ 0 ∷ 0 ∷ 1 ∷ 0 ∷ 0 ∷ 0
    ∷ 0 ∷ 1 ∷ 0 ∷ 0
    ∷ 0
    ∷ 7 ∷ 0 ∷ 0 ∷ 0
    ∷ []
unfolding bare written header_numbers layout bytes_of statement_bytes definition_bytes function_bytes u32_bytes u16_bytes
of_empty_lumps = refl
