-- What laws of outcome sentences speak of: numbers of the types that they have in the code.
use Rattle.std.specs.Prelude.{◌^◌, ◌<◌}
use Rattle.std.specs.Int.Signed.{mag}
use Rattle.sentences.specs.Sentence.{Five}

-- the numbers are those of the types that they have in the code: two of 32 bits, a signed one and one of 64
pub record Fits (x : Five) : Type 0 where
  pub detail : x.detail < 2 ^ 32
  pub count : x.count < 2 ^ 32
  pub position : mag x.position < 2 ^ 63
  pub function : x.function < 2 ^ 64
