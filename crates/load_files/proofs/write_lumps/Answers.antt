-- `load_files::write_lumps` meets its contract: each call writes the next lump. Assumes nothing.
use Rattle.std.proofs.Common.{ℕ, [], ◌∷◌, ◌++◌, set, replicate, refl, ◌≡◌}
use Rattle.definition.specs.Written.{u32_bytes, statement_bytes, bytes_of}
use Rattle.text.specs.declared.Writer.{Writer}
use Rattle.text.specs.Writing.{Left, left_all, left_room, next_room, left_next, left_last}
use Rattle.load_files.specs.Draws.{after}
use Rattle.load_files.specs.LoadFile.{cells_of, statements_from}
use Rattle.load_files.specs.Laws.{lumps_for, functions_bytes}
use Rattle.load_files.proofs.write_lumps.Goals as goal

-- what is left at the start is all the lumps, as the code has them
whole : (seed n : ℕ) {s : ℕ} (w : Writer) → s ≡ after 36 seed
    → Left (lumps_for seed n)
    (bytes_of statement_bytes (statements_from n s) ++ (set (replicate 72 0) 36 1 ++ ((0 ∷ []) ++ bytes_of u32_bytes (cells_of seed))))
    w w
whole seed n w e = left_all (rw (e, functions_bytes) refl)

pub write_statements-requires : goal.write_statements-requires
write_statements-requires c = next_room _ _ (whole c.args.seed c.args.n c.args.out.now c.skip-s.ensures) c.requires

pub write_bytes-requires : goal.write_bytes-requires
write_bytes-requires c = next_room (set (replicate 72 0) 36 1) _ (left_next (whole c.args.seed c.args.n c.args.out.now c.skip-s.ensures) c.write_statements.ensures) c.requires

pub write_byte-requires : goal.write_byte-requires
write_byte-requires c =
    next_room (0 ∷ []) _
    (left_next {xs = set (replicate 72 0) 36 1} (left_next (whole c.args.seed c.args.n c.args.out.now c.skip-s.ensures) c.write_statements.ensures) c.write_bytes.ensures)
    c.requires

pub write_cells-requires : goal.write_cells-requires
write_cells-requires c =
    left_room
    (left_next {xs = 0 ∷ []}
    (left_next {xs = set (replicate 72 0) 36 1} (left_next (whole c.args.seed c.args.n c.args.out.now c.skip-s.ensures) c.write_statements.ensures) c.write_bytes.ensures)
    c.write_byte.ensures)
    c.requires

pub returns : goal.returns
returns c =
    left_last
    (left_next {xs = 0 ∷ []}
    (left_next {xs = set (replicate 72 0) 36 1} (left_next (whole c.args.seed c.args.n c.args.out.now c.skip-s.ensures) c.write_statements.ensures) c.write_bytes.ensures)
    c.write_byte.ensures)
    c.write_cells.ensures
