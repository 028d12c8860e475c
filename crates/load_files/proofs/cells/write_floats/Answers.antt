-- `load_files::cells::write_floats` meets its contract: each turn writes the next cell. Assumes nothing.
use Rattle.std.proofs.Common.{◌≡◌, ℕ, ◌%◌, ap, ◌∙◌}
use Rattle.definition.specs.Written.{u32_bytes}
use Rattle.text.specs.Writing.{next_room, left_next, left_none}
use Rattle.load_files.specs.LoadFile.{float_of, drawn_cell}
use Rattle.load_files.proofs.Drawing.{next_drawn, none_drawn_left, one_draw}
use Rattle.load_files.proofs.cells.write_floats.Goals as goal

pub write_u32-requires : goal.write_u32-requires
write_u32-requires c =
    let made : c.cell_of.result ≡ drawn_cell c.loop.s = c.cell_of.ensures ∙ ap (λ (x : ℕ). float_of (x % 256)) (c.draw-s.ensures ∙ one_draw c.loop.s) in
    next_room _ _ (next_drawn drawn_cell 1 u32_bytes 36 _ _ c.loop.invariant c.loop-test.true _ made) c.requires

pub loop-preserved : goal.loop-preserved
loop-preserved c =
    let made : c.cell_of.result ≡ drawn_cell c.loop.s = c.cell_of.ensures ∙ ap (λ (x : ℕ). float_of (x % 256)) (c.draw-s.ensures ∙ one_draw c.loop.s) in
    rw (c.draw-s.ensures, one_draw) (left_next (next_drawn drawn_cell 1 u32_bytes 36 _ _ c.loop.invariant c.loop-test.true _ made) c.write_u32.ensures)

pub returns : goal.returns
returns c = left_none (none_drawn_left drawn_cell 1 u32_bytes 36 _ _ c.loop.invariant c.loop-test.false)
