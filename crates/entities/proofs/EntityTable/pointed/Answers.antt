use Rattle.std.proofs.Common.{arith, sym, refl}
use Rattle.std.proofs.lemmas.Grind.{common_steps}
use Rattle.typed.proofs.Laws.{field_reach}
use Rattle.entities.proofs.Entities.{reach_pointed}
use Rattle.entities.proofs.EntityTable.pointed.Goals as goal

pub returns-clause-found : goal.returns-clause-found
returns-clause-found c = let h = field_reach _ _ _ (sym c.in_ok-check_field.ensures) in (refl, reach_pointed _ _ _ _ (grind (arith, common_steps)) h)
