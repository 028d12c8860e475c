use Rattle.std.proofs.Common.{arith}
use Rattle.definition.specs.Checks.{judge}
use Rattle.definition.specs.Cells.{access}
use Rattle.definition.specs.Statements.{strings_effect}
use Rattle.definition.proofs.CheckLaws.{judge_append}
use Rattle.definition.proofs.RefusalLaws.{numbered}
use Rattle.globals.specs.Effects.{effect_on}
use Rattle.strings.proofs.op_strings.Goals as goal

pub returns-in_err-check_pair : goal.returns-in_err-check_pair
unfolding effect_on strings_effect judge access
returns-in_err-check_pair c = grind (arith, judge_append, numbered)

pub returns-in_err-check_cell : goal.returns-in_err-check_cell
unfolding effect_on strings_effect judge access
returns-in_err-check_cell c = grind (arith, judge_append, numbered)
