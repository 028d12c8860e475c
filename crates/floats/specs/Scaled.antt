-- A float's magnitude from the fields of its pattern. Assumes nothing.
use Rattle.std.specs.Prelude.{ℕ, ◌+◌, ◌-◌, ◌*◌, ◌/◌, ◌%◌, ◌^◌}

-- the digits with the leading one put back, moved up by the exponent: the magnitude in units of 2 ^ -23, from 1 up
abbrev pub scaled : ℕ → ℕ
scaled x = (0x800000 + x % 0x800000) * 2 ^ (x % 0x80000000 / 0x800000 - 127)
