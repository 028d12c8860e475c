-- `writer::write_program` meets its contract: the header is written, then the lumps, then the zeros, where there is room for all. Assumes nothing.
use Rattle.std.proofs.Common.{ℕ, ◌*◌, refl, rules, arith, ap, ◌∙◌}
use Rattle.std.proofs.lemmas.List.{length-replicate}
use Rattle.text.specs.Writing.{wrote_same, wrote_both, wrote_front}
use Rattle.writing_laws.specs.Written.{length_header}
use Rattle.writing_laws.specs.Lumps.{laid_out}
use Rattle.writer.proofs.Program.{all_written, size_written, size_parts, parts_written}
use Rattle.writer.proofs.write_program.Goals as goal

pub write_header-requires-clause-room : goal.write_header-requires-clause-room
write_header-requires-clause-room c =
    let sizes = size_parts c.args.r c.args.file.now c.args.zeros (c.laid_out-laid.ensures ∙ ap laid_out c.more_cells.ensures) c.requires.all_fit in
    record { enough = omega (arith, sizes, length_header c.args.check c.laid_out-laid.result, c.if-min-laid.false, c.min.ensures) }

pub write_lumps-requires-clause-room : goal.write_lumps-requires-clause-room
write_lumps-requires-clause-room c =
    let sizes = size_parts c.args.r c.args.file.now c.args.zeros (c.laid_out-laid.ensures ∙ ap laid_out c.more_cells.ensures) c.requires.all_fit in
    omega (arith, sizes, length_header c.args.check c.laid_out-laid.result, c.if-min-laid.false, c.min.ensures)

pub write_zeros-requires : goal.write_zeros-requires
write_zeros-requires c =
    let sizes = size_parts c.args.r c.args.file.now c.args.zeros (c.laid_out-laid.ensures ∙ ap laid_out c.more_cells.ensures) c.requires.all_fit in
    omega (arith, sizes, length_header c.args.check c.laid_out-laid.result, length-replicate {A = ℕ} (4 * c.args.zeros) 0, c.if-min-laid.false, c.min.ensures)

pub returns : goal.returns
returns c =
    let laid = c.laid_out-laid.ensures ∙ ap laid_out c.more_cells.ensures in
    let size = size_written c.args.r c.args.file.now c.args.zeros laid c.args.check in
    all_written _ _ _ size _ _ (omega (arith, c.if-min-laid.false, c.min.ensures)) (omega (arith, c.if-min-laid.false, c.min.ensures))
    (wrote_front
    (wrote_same
    (wrote_both c.write_header.ensures (wrote_both c.write_lumps.ensures c.write_zeros.ensures))
    (parts_written _ _ _ laid _ c.requires.all_fit (λ i. omega (arith, c.type_inv.file i))))
    refl refl (search rules) (omega (arith, size, c.if-min-laid.false, c.min.ensures)))
