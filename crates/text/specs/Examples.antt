-- EXAMPLES of the texts, as rows of one table that is computed from them. The first is document 01's: "Whole output:
-- `ended,0,2,0,0,0,0,40700000,00000000,00000000`".
use Rattle.std.specs.Prelude.{ℕ, ◌-◌, ◌^◌, List, [], ◌∷◌, Bool, true, false, ◌&&◌, T, eqb, pos, negsuc}
use Prim.Native.Char.{code}
use Prim.Native.String.{String, [] as none, ◌∷◌ as ◌then◌}
use Rattle.definition.specs.declared.RunAnswer.TheVariants as run
use Rattle.definition.specs.declared.Handover.TheVariants.{Builtin, Opcode}
use Rattle.text.specs.Text.{decimal, decimal_digits, signed_decimal, hex_digit, hex_digits, hex8, show_line, refused_line}

-- what is to be printed, and the text
pub data Row : Type 0 where
  prints : String → List ℕ → Row

abbrev holds : String → List ℕ → Bool
holds none [] = true
holds none (x ∷ xs) = false
holds (c then cs) [] = false
holds (c then cs) (x ∷ xs) = eqb (code c) x && holds cs xs

abbrev pub all : List Row → Bool
all [] = true
all (prints says text ∷ rows) = holds says text && all rows

abbrev pub rows : List Row
rows =
    prints "ended,0,2,0,0,0,0,40700000,00000000,00000000\n" (show_line run.Ended 2 (pos 0) 0 0 0 0x40700000 0 0)
    ∷ prints "refused,14,99998,-3,1,2,30,ffffffff,0badcafe,00000001\n"
    (show_line (run.Refused 14) 99998 (negsuc 2) 1 2 30 0xffffffff 0x0badcafe 1)
    ∷ prints "spent,0,99999,17,10,31,2048,80000000,7fc00000,00000000\n" (show_line run.Spent 99999 (pos 17) 10 31 2048 0x80000000 0x7fc00000 0)
    ∷ prints "builtin,43,7,100,5,1,0,00000000,00000000,00000000\n" (show_line (run.HandedOver (Builtin 43)) 7 (pos 100) 5 1 0 0 0 0)
    ∷ prints "opcode,60,0,-1,5,1,0,00000000,00000000,00000000\n" (show_line (run.HandedOver (Opcode 60)) 0 (negsuc 0) 5 1 0 0 0 0)
    ∷ prints "refused,1\n" (refused_line 1)
    ∷ prints "refused,12\n" (refused_line 12)
    ∷ prints "0" (decimal 0)
    ∷ prints "9" (decimal 9)
    ∷ prints "10" (decimal 10)
    ∷ prints "1048576" (decimal 1048576)
    ∷ prints "4294967295" (decimal (2 ^ 32 - 1))
    ∷ prints "18446744073709551615" (decimal (2 ^ 64 - 1))
    ∷ prints "9223372036854775807" (signed_decimal (pos (2 ^ 63 - 1)))
    ∷ prints "-9223372036854775808" (signed_decimal (negsuc (2 ^ 63 - 1)))
    ∷ prints "01234567" (hex8 0x01234567)
    ∷ prints "89abcdef" (hex8 0x89abcdef)
    ∷ []

pub examples : T (all rows)
unfolding decimal decimal_digits signed_decimal hex_digit hex_digits hex8 show_line refused_line
examples = tt
