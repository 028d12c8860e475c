-- `load_files::write_file` meets its contract: the header is written, then the lumps, where there is room for both. Assumes nothing.
use Rattle.std.proofs.Common.{◌≡◌, ℕ, ◌≤◌, ◌+◌, length, sym, refl, rules, arith}
use Rattle.definition.specs.declared.FileRecord.{FileRecord}
use Rattle.definition.specs.Written.{layout}
use Rattle.text.specs.Writing.{wrote_same, wrote_both, wrote_front}
use Rattle.writer.proofs.Program.{all_written}
use Rattle.load_files.specs.LoadFile.{bytes_for}
use Rattle.load_files.specs.Laws.{layout_for, lumps_for, length_file, length_lumps, file_parts}
use Rattle.load_files.proofs.write_file.Goals as goal

-- how long the file is, by the record that the code has
record Sizes (seed n : ℕ) (laid : FileRecord) : Type 0 where
  all : length (bytes_for seed n) ≡ laid.length
  lumps : 60 + length (lumps_for seed n) ≡ laid.length
  short : laid.length ≤ 1048576

sizes : (seed n : ℕ) (laid : FileRecord) → n ≤ 1000 → laid ≡ layout_for n → Sizes seed n laid
unfolding layout
sizes seed n laid h e = rw e (record { all = length_file seed n; lumps = length_lumps seed n; short = omega arith })

pub returns : goal.returns
returns c =
    let s = sizes c.args.seed _ _ c.requires c.lumps-laid.ensures in
    all_written _ _ _ s.all _ _ c.if-out-laid.false s.short
    (wrote_front
    (wrote_same (wrote_both c.write_header.ensures c.write_lumps.ensures) (rw c.lumps-laid.ensures (sym (file_parts _ _))))
    refl refl (search rules) (omega (arith, s.all, c.if-out-laid.false)))
