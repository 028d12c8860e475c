-- `load_files::statements::write_statements` meets its contract: the Done is written, then what is drawn, then the Return. Assumes nothing.
use Rattle.std.proofs.Common.{sym}
use Rattle.text.specs.Writing.{wrote_same, wrote_both, left_all, left_room, next_room, left_next}
use Rattle.load_files.specs.Laws.{statements_parts}
use Rattle.load_files.proofs.statements.write_statements.Goals as goal

pub write_statement-requires : goal.write_statement-requires
write_statement-requires c = next_room _ _ (left_all {w = c.args.out.now} (statements_parts c.args.n c.args.s)) c.requires

pub write_drawn-requires : goal.write_drawn-requires
write_drawn-requires c = next_room _ _ (left_next (left_all {w = c.args.out.now} (statements_parts c.args.n c.args.s)) c.write_statement.ensures) c.requires

pub write_statement-requires-2 : goal.write_statement-requires-2
write_statement-requires-2 c =
    left_room (left_next (left_next (left_all {w = c.args.out.now} (statements_parts c.args.n c.args.s)) c.write_statement.ensures) c.write_drawn.ensures) c.requires

pub returns : goal.returns
returns c = wrote_same (wrote_both c.write_statement.ensures (wrote_both c.write_drawn.ensures c.write_statement-2.ensures)) (sym (statements_parts _ _))
