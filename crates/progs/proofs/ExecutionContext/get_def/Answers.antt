use Rattle.progs.proofs.FileLaws.{functions_count, function_read}
use Rattle.progs.proofs.ExecutionContext.get_def.Goals as goal

pub get_def-requires : goal.get_def-requires
get_def-requires c = rw (functions_count _ _ c.requires.loaded _ c.part.ensures) c.requires.f_lt_count

pub returns : goal.returns
returns c = function_read _ _ c.requires.loaded _ c.part.ensures _ _ c.get_def.ensures
