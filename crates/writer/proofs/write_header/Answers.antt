-- `writer::write_header` meets its contract: each turn writes the next number. Assumes nothing.
use Rattle.std.proofs.Common.{arith}
use Rattle.definition.specs.Written.{header_numbers}
use Rattle.text.specs.Writing.{next_room, left_next, left_none}
use Rattle.writer.proofs.Numbers.{next_number, no_number, small_number}
use Rattle.writer.proofs.write_header.Goals as goal

pub overflow_cast-number : goal.overflow_cast-number
unfolding header_numbers
overflow_cast-number c = small_number c.args.check c.args.r (omega arith) c.requires.small c.loop-number.number-index

pub write_u32-requires : goal.write_u32-requires
unfolding header_numbers
write_u32-requires c = next_room _ _ (next_number c.args.check c.args.r _ c.loop-number.invariant c.loop-number-test.true) c.requires.room

pub loop-number-preserved : goal.loop-number-preserved
unfolding header_numbers
loop-number-preserved c = left_next (next_number c.args.check c.args.r _ c.loop-number.invariant c.loop-number-test.true) c.write_u32.ensures

pub returns : goal.returns
unfolding header_numbers
returns c = left_none (no_number c.args.check c.args.r _ c.loop-number.invariant c.loop-number-test.false)
