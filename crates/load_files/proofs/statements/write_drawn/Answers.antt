-- `load_files::statements::write_drawn` meets its contract: each turn writes the next statement. Assumes nothing.
use Rattle.definition.specs.Written.{statement_bytes}
use Rattle.text.specs.Writing.{next_room, left_next, left_none}
use Rattle.load_files.specs.LoadFile.{drawn_statement}
use Rattle.load_files.proofs.Drawing.{next_drawn, none_drawn_left}
use Rattle.load_files.proofs.statements.write_drawn.Goals as goal

pub write_statement-requires : goal.write_statement-requires
write_statement-requires c = next_room _ _ (next_drawn drawn_statement 4 statement_bytes _ _ _ c.loop.invariant c.loop-test.true _ c.draw_statement-last.ensures.0) c.requires

pub loop-preserved : goal.loop-preserved
loop-preserved c =
    rw c.draw_statement-last.ensures.1
    (left_next (next_drawn drawn_statement 4 statement_bytes _ _ _ c.loop.invariant c.loop-test.true _ c.draw_statement-last.ensures.0) c.write_statement.ensures)

pub returns : goal.returns
returns c = left_none (none_drawn_left drawn_statement 4 statement_bytes _ _ _ c.loop.invariant c.loop-test.false)
