-- LOAD FILES. Document 02, R-10: "The final match run should meet a heavy file that any bench can remake", here from a seed and from n, the number of statements
-- that are drawn.
use Rattle.std.specs.Prelude.{ℕ, ◌+◌, ◌%◌, not, ◌&&◌, List, [], ◌∷◌, ◌++◌, length, replicate, ℤ, pos, ◌==◌, slice_index}
use Rattle.std.specs.Float.Ieee as Ieee
use Rattle.std.specs.Float.{binary32}
use Rattle.definition.specs.declared.Statement.{Statement}
use Rattle.definition.specs.declared.FunctionDef.{FunctionDef}
use Rattle.definition.specs.Checks.{Conditions, ◌otherwise◌, Checked, guard}
use Rattle.definition.specs.File.{check_number, most_arguments, Contents, no_function}
use Rattle.definition.specs.Floats.{cell}
use Rattle.definition.specs.Operations.{natural, permitted}
use Rattle.definition.specs.Written.{written, Image, room_conditions, placed}
use Rattle.load_files.specs.Draws.{after, drawn}

-- ---- cells: "64 cells; cells 28 to 63 take a draw modulo 256 as a float, the others 0"

abbrev pub first_drawn : ℕ
first_drawn = 28

abbrev pub drawn_count : ℕ
drawn_count = 36

-- a whole number as a float, as `Floats: bit_and_f` has it
abbrev pub float_of : ℕ → ℕ
float_of x = cell (Ieee.of_int binary32 (pos x))

abbrev pub drawn_cell : ℕ → ℕ
drawn_cell s = float_of (after 1 s % 256)

abbrev pub cells_of : ℕ → List ℕ
cells_of seed = replicate first_drawn 0 ++ drawn drawn_cell 1 drawn_count seed

-- ---- statements

-- opcodes 1, 6 and 8 (ops.rs): "the opcode being MulF, AddF or SubF as the draw modulo 3 is 0, 1 or 2"
unfoldable pub opcode_of : ℕ → ℕ
opcode_of d = slice_index (1 ∷ 6 ∷ 8 ∷ []) (d % 3)

-- "operands of 28 plus a draw modulo 36"
abbrev pub operand_of : ℕ → ℕ
operand_of d = first_drawn + d % drawn_count

-- "four draws each": opcode, first, second, destination
unfoldable pub drawn_statement : ℕ → Statement
drawn_statement s =
    record {
      opcode = opcode_of (after 1 s);
      arg1 = operand_of (after 2 s);
      arg2 = operand_of (after 3 s);
      arg3 = operand_of (after 4 s);
    }

-- "statement 0 is Done 0 0 0"
abbrev pub done : Statement
done = record { opcode = 0; arg1 = 0; arg2 = 0; arg3 = 0 }

-- "statement n+1 is Return 28 0 0"
abbrev pub return : Statement
return = record { opcode = 43; arg1 = first_drawn; arg2 = 0; arg3 = 0 }

-- n statements drawn from s on, between these two
abbrev pub statements_from : ℕ → ℕ → List Statement
statements_from n s = done ∷ drawn drawn_statement 4 n s ++ return ∷ []

-- "drawn in this order": the cells first
abbrev pub statements_of : ℕ → ℕ → List Statement
statements_of seed n = statements_from n (after drawn_count seed)

-- ---- the file

-- "Function 0 is all zeros, and so is function 1 but for its first statement, 1"
abbrev pub functions_of : List FunctionDef
functions_of =
    no_function
    ∷ record { first = 1; start = 0; locals = 0; name = 0; srcfile = 0; argc = 0; argsz = replicate most_arguments 0 }
    ∷ []

-- "There are no definitions, the strings are one zero byte, cells per entity are 105"
unfoldable pub contents_for : ℕ → ℕ → Contents
contents_for seed n =
    record {
      statements = statements_of seed n;
      globaldefs = [];
      fielddefs = [];
      functions = functions_of;
      strings = 0 ∷ [];
      globals = cells_of seed;
      entityfields = 105;
    }

-- "and the bytes are in R-6's form"
abbrev pub bytes_for : ℕ → ℕ → List ℕ
bytes_for seed n = written check_number (contents_for seed n)

-- ---- into a lent output buffer

-- "With n from 1 to 1,000"
abbrev pub most_statements : ℕ
most_statements = 1000

-- "A seed of 0 or another n is refused 35, then a short output buffer 34". (The length is never over 1,048,576, the other part of R-6's 34.)
unfoldable pub make_conditions : ℕ → ℤ → ℕ → Conditions
make_conditions seed n room =
    (not (seed == 0) && permitted n most_statements otherwise 35) ∷ room_conditions (bytes_for seed (natural n)) room

unfoldable pub make_file : ℕ → ℤ → List ℕ → Checked Image
make_file seed n output = guard (make_conditions seed n (length output)) (placed (bytes_for seed (natural n)) output)
