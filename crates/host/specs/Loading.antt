-- WHAT A LOAD LEAVES AND ANSWERS, in the numbers of a list of calls.
use Rattle.std.specs.Prelude.{ℕ, List, ℤ}
use Rattle.definition.specs.declared.Settings.{Settings}
use Rattle.definition.specs.Checks.{Checked}
use Rattle.definition.specs.Machine.{Config}
use Rattle.definition.specs.Load.{load}
use Rattle.definition.specs.Answers.{load_outcome}
use Rattle.call_list.specs.Encoding.{AfterCall, answer_reply}

abbrev pub replied : List ℕ → List ℕ → List ℕ → Checked Config → AfterCall
replied cells saved entities x = record { reply = answer_reply x; config = (load_outcome cells saved entities x).config }

abbrev pub after_load : Settings → List ℕ → ℤ → List ℕ → List ℕ → List ℕ → AfterCall
after_load s file n cells saved entities = replied cells saved entities (load s file n cells saved entities)
