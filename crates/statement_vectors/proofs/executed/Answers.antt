use Rattle.std.proofs.Common.{sym, ◌∙◌}
use Rattle.functions.specs.Laws.{entities_room}
use Rattle.statement_vectors.proofs.Fitting.{fitting}
use Rattle.statement_vectors.proofs.executed.Goals as goal

pub does-requires : goal.does-requires
does-requires c =
    let fits = fitting _ _ _ _ _ c.file_of-recorded.ensures c.lumps_fit.ensures c.cells_fit.ensures c.entity_fits.ensures c.if-not-fits.false in
    let room = entities_room _ _ _ (sym c.entities_fit.ensures ∙ c.if-not-entities_fit.false) in
    record {
      usable = record { lumps = fits.lumps; most = fits.most; lends = c.if-cells-recorded.false };
      usable_fields = record { size_least = fits.size.least; size_most = fits.size.most; number_most = room.number_most; lends_fields = room.cells };
    }
