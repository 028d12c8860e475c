-- READING WHAT WAS WRITTEN: one law for the records of any lump, over their writer and their reader. It is for every writer that gives a record as many
-- bytes as the reader looks at, and from which the reader gets the record back.
use Rattle.std.specs.Prelude.{ℕ, ◌+◌, ◌*◌, ◌/◌, ◌%◌, ◌<◌, ◌≡◌, length}
use Rattle.std.proofs.Math.Path.{refl, sym}
use Rattle.std.proofs.Common.{◌∙◌, zero-add, add_assoc, mul-zero, arith}
use mathlib.Core.List.{List, [], ◌∷◌, ◌++◌}
use Rattle.std.proofs.Math.Nat.{mul-suc, mod-add-div}
use Rattle.std.proofs.Math.ListN.{length-append, get_or-append}
use Rattle.std.proofs.Math.Seq.{get_or-append-add}
use Rattle.definition.specs.declared.FunctionDef.{FunctionDef}
use Rattle.definition.specs.File.{byte_at, u16_at, u32_at, records, read_statement, read_definition, read_function}
use Rattle.definition.specs.Written.{u16_bytes, u32_bytes, statement_bytes, definition_bytes, function_bytes, bytes_of}
use Rattle.writing_laws.specs.Copied.{bytes_same}
use Rattle.functions.specs.PartLaws.{Local, byte_local, u32_local, statement_local, definition_local, function_local}

-- ---- the bytes of f from a place on are these

pub record Holds (f : List ℕ) (at : ℕ) (xs : List ℕ) : Type 0 where
  pub byte : (k : ℕ) → k < length xs → byte_at f (at + k) ≡ byte_at xs k

pub holds_itself : (f : List ℕ) → Holds f 0 f
holds_itself f = record { byte = λ k l. rw (zero-add k) refl }

module _ {f : List ℕ} {at : ℕ} (xs ys : List ℕ) (h : Holds f at (xs ++ ys)) where
  pub holds_front : Holds f at xs
  unfolding byte_at
  holds_front = record { byte = λ k l. h.byte k (omega (arith, length-append xs ys)) ∙ get_or-append xs ys 0 k l }

  pub holds_back : Holds f (at + length xs) ys
  unfolding byte_at
  holds_back = record { byte = λ k l. rw (add_assoc at (length xs) k) (h.byte (length xs + k) (omega (arith, length-append xs ys)) ∙ get_or-append-add xs ys k 0) }

-- ---- a writer and its reader

-- each of the records is as the writer asks
abbrev pub Each : {A : Type 0} → (A → Type 0) → List A → Type 0
Each P [] = Unit {0}
Each P (x ∷ xs) = P x × Each P xs

abbrev pub Any : {A : Type 0} → A → Type 0
Any x = Unit {0}

pub each_any : {A : Type 0} (xs : List A) → Each Any xs
each_any [] = tt
each_any (x ∷ xs) = (tt, each_any xs)

pub record Inverse {A : Type 0} (read : List ℕ → ℕ → A) (write : A → List ℕ) (size : ℕ) (Ok : A → Type 0) : Type 0 where
  pub own : Local read size
  pub sized : (x : A) → Ok x → length (write x) ≡ size
  pub back : (x : A) → Ok x → read (write x) 0 ≡ x

module _ {A : Type 0} {read : List ℕ → ℕ → A} {write : A → List ℕ} {size : ℕ} {Ok : A → Type 0} (inverse : Inverse read write size Ok) where
  -- one record, wherever it stands
  record_back : (f : List ℕ) (at : ℕ) (x : A) → Ok x → Holds f at (write x) → read f at ≡ x
  record_back f at x ok h =
      inverse.own f (write x) at 0 (record { byte = λ k l. rw (zero-add k) (h.byte k (rw (inverse.sized x ok) l)) }) ∙ inverse.back x ok

  pub length_bytes : (xs : List A) → Each Ok xs → length (bytes_of write xs) ≡ size * length xs
  unfolding bytes_of
  length_bytes [] ok = sym (mul-zero size)
  length_bytes (x ∷ xs) ok =
      omega (arith, length-append (write x) (bytes_of write xs), inverse.sized x ok.0, length_bytes xs ok.1, mul-suc size (length xs))

  -- all of them
  pub records_back : (f : List ℕ) (at : ℕ) (xs : List A) → Each Ok xs → Holds f at (bytes_of write xs) → records (read f) size (length xs) at ≡ xs
  unfolding bytes_of records
  records_back f at [] ok h = refl
  records_back f at (x ∷ xs) ok h =
      let here = record_back f at x ok.0 (holds_front (write x) (bytes_of write xs) h) in
      let behind = holds_back (write x) (bytes_of write xs) h in
      let rest = records_back f (at + size) xs ok.1 (rw (inverse.sized x ok.0) at behind) in
      cc

-- ---- bytes and numbers

pub bytes : Inverse byte_at (λ x. x ∷ []) 1 Any
unfolding byte_at
bytes = record { own = byte_local; sized = λ x ok. refl; back = λ x ok. refl }

u16_value : (x : ℕ) → x % 256 + 256 * (x / 256) ≡ x
u16_value x = mod-add-div x 256

u32_value : (x : ℕ) → x % 65536 % 256 + 256 * (x % 65536 / 256) + 65536 * (x / 65536 % 256 + 256 * (x / 65536 / 256)) ≡ x
u32_value x = rw (u16_value (x % 65536), u16_value (x / 65536)) (mod-add-div x 65536)

pub numbers : Inverse u32_at u32_bytes 4 Any
unfolding u32_at u16_at byte_at u32_bytes u16_bytes
numbers = record { own = u32_local; sized = λ x ok. refl; back = λ x ok. u32_value x }

-- ---- the three kinds of records

pub statements : Inverse read_statement statement_bytes 8 Any
unfolding u16_at byte_at statement_bytes u16_bytes
statements =
    record {
      own = statement_local;
      sized = λ x ok. refl;
      back = λ x ok. rw (u16_value x.opcode, u16_value x.arg1, u16_value x.arg2, u16_value x.arg3) refl;
    }

pub definitions : Inverse read_definition definition_bytes 8 Any
unfolding u32_at u16_at byte_at definition_bytes u32_bytes u16_bytes
definitions =
    record {
      own = definition_local;
      sized = λ x ok. refl;
      back = λ x ok. rw (u16_value x.kind, u16_value x.offset, u32_value x.name) refl;
    }

-- "eight argument sizes"
abbrev pub Eight : FunctionDef → Type 0
Eight d = length d.argsz ≡ 8

abbrev front : FunctionDef → List ℕ
front d = u32_bytes d.first ++ u32_bytes d.start ++ u32_bytes d.locals ++ u32_bytes 0 ++ u32_bytes d.name ++ u32_bytes d.srcfile ++ u32_bytes d.argc

length_front : (d : FunctionDef) → length (front d) ≡ 28
unfolding u32_bytes u16_bytes
length_front d = refl

length_function : (d : FunctionDef) → Eight d → length (function_bytes d) ≡ 36
unfolding function_bytes
length_function d eight = omega (arith, length-append (front d) d.argsz, length_front d)

sizes_back : (d : FunctionDef) → Eight d → records (byte_at (function_bytes d)) 1 8 28 ≡ d.argsz
unfolding function_bytes
sizes_back d eight =
    let h : Holds (function_bytes d) 28 d.argsz = rw (length_front d) at (holds_back (front d) d.argsz (holds_itself (function_bytes d))) in
    rw eight at (records_back bytes (function_bytes d) 28 d.argsz (each_any d.argsz) (rw (bytes_same d.argsz) h))

function_back : (d : FunctionDef) → Eight d → read_function (function_bytes d) 0 ≡ d
unfolding u32_at u16_at byte_at function_bytes u32_bytes u16_bytes
function_back d eight =
    rw (u32_value d.first, u32_value d.start, u32_value d.locals, u32_value d.name, u32_value d.srcfile, u32_value d.argc) (rw (sizes_back d eight) refl)

pub functions : Inverse read_function function_bytes 36 Eight
functions = record { own = function_local; sized = length_function; back = function_back }
