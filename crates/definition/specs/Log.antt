-- THE LOG that goes beside the definition: what it notes, and what it takes a small step for. It "reads neither frames nor saved store".
use Rattle.std.specs.Prelude.{ℕ, List, [], ◌∷◌, not, ◌&&◌, ◌||◌, cond, ℤ, pos, ◌+ℤ◌, get_or, take, drop, eqb}
use Rattle.definition.specs.declared.FunctionDef.{FunctionDef}
use Rattle.definition.specs.File.{contents_of, no_function, negative, between}
use Rattle.definition.specs.Cells.{cell_of}
use Rattle.definition.specs.Statements.{statement_at}
use Rattle.definition.specs.Operations.{natural}
use Rattle.definition.specs.Calls.{Call, enters, steps, runs, runs_unpacked, carries, abandons, reads, writes, writes_all, lends}

-- what is noted at an entry: "the function entered, the position to be recorded, and, as just before it, the current function and the cells of the
-- entered function's local range"
pub record Note : Type 0 where
  pub entered : ℕ
  pub position : ℤ
  pub current : ℕ
  pub cells : List ℕ

-- the newest first
abbrev pub Log : Type 0
Log = List Note

abbrev pub function_in : List ℕ → ℕ → FunctionDef
function_in file f = get_or (contents_of file).functions f no_function

abbrev pub local_cells : List ℕ → ℕ → List ℕ → List ℕ
local_cells file f cells = take (function_in file f).locals (drop (function_in file f).start cells)

-- what a small step is for the log
pub data Kind : Type 0 where
  -- of that function, which records that position
  entry : ℕ → ℤ → Kind
  leaving : Kind
  other : Kind

-- a completed statement, by the file: a Call opcode of a function that is no builtin enters it and records the position after itself; Return and Done leave
unfoldable pub statement_kind : List ℕ → ℤ → List ℕ → Kind
statement_kind file p cells =
    let st = statement_at (contents_of file).statements p in
    let f = get_or cells (cell_of st.arg1) 0 in
    cond (between 51 59 st.opcode && not (negative (function_in file f).first))
    (entry f (p +ℤ pos 1))
    (cond (eqb st.opcode 0 || eqb st.opcode 43) leaving other)

-- a small step of a call, from the position and the cells just before it: a host entry records the present position
unfoldable pub kind_of : List ℕ → Call → ℤ → List ℕ → Kind
kind_of file (enters f) p cells = entry (natural f) p
kind_of file steps p cells = statement_kind file p cells
kind_of file (runs target limit) p cells = statement_kind file p cells
kind_of file (runs_unpacked buffer target limit) p cells = statement_kind file p cells
kind_of file carries p cells = other
kind_of file (abandons target) p cells = leaving
kind_of file (reads a) p cells = other
kind_of file (writes a v) p cells = other
kind_of file (writes_all numbers) p cells = other
kind_of file (lends entities) p cells = other

-- an entry adds a note; a leaving "removes the newest note, and only that one"
abbrev pub noted : List ℕ → Kind → (position : ℤ) (current : ℕ) (cells : List ℕ) → Log → Log
noted file (entry f p) position current cells l = record { entered = f; position = p; current = current; cells = local_cells file f cells } ∷ l
noted file leaving position current cells [] = []
noted file leaving position current cells (n ∷ l) = l
noted file other position current cells l = l
