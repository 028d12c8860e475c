use Rattle.host.proofs.WriteLaws.{short_length}
use Rattle.host.proofs.write_file.Goals as goal

pub overflow_cast-result : goal.overflow_cast-result
overflow_cast-result c = short_length _ _ _ _ _ _ c.write_file.ensures c.in_ok-length.was
