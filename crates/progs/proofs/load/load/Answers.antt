use Rattle.std.proofs.Common.{rules, sym, ◌∙◌, refl, arith}
use Rattle.loader.proofs.Loads.{loads}
use Rattle.progs.proofs.LoadLaws.{load_accepted, starting_count}
use Rattle.progs.proofs.load.load.Goals as goal

pub file_of-recorded-requires : goal.file_of-recorded-requires
file_of-recorded-requires c = (loads _ _ _ _ _ _ _ _ (sym c.in_ok-check_file.ensures) refl).header

pub part-requires : goal.part-requires
part-requires c = ((loads _ _ _ _ _ _ _ _ (sym c.in_ok-check_file.ensures) c.file_of-recorded.ensures).lumps.globals, omega arith)

pub fill-requires : goal.fill-requires
fill-requires c =
    let known = loads _ _ _ _ _ _ _ _ (sym c.in_ok-check_file.ensures) c.file_of-recorded.ensures in
    rw (starting_count _ _ known.lumps _ c.part.ensures) known.cells_fit

pub returns : goal.returns
returns c =
    load_accepted _ _ _ _ _ _ (sym c.settings_fit.ensures ∙ c.if-not-settings_fit.false) _ (search rules) c.in_ok-check_file.ensures _ c.file_of-recorded.ensures _ c.at_start.ensures _ c.part.ensures _ c.fill.ensures
