use Rattle.std.proofs.Common.{arith}
use Rattle.definition.specs.Checks.{judge}
use Rattle.definition.specs.Statements.{loads_effect}
use Rattle.definition.proofs.CheckLaws.{judge_append}
use Rattle.definition.proofs.RefusalLaws.{numbered}
use Rattle.globals.specs.Effects.{effect_on}
use Rattle.typed.specs.Checking.{first}
use Rattle.entities.proofs.op_loads.Goals as goal

pub returns-in_err-place : goal.returns-in_err-place
unfolding effect_on judge first loads_effect
returns-in_err-place c = grind (arith, judge_append, numbered)
