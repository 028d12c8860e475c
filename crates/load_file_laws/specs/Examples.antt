-- LOAD FILES BY HAND. Document 02's R-10 has no worked values of its own: the first four draws of three seeds (2463534242 is the seed in Marsaglia's "Xorshift RNGs", 2003),
-- and all that is drawn for that seed and n = 4. They were worked out from 02's words, not by the definition.
use Rattle.std.specs.Prelude.{ℕ, ◌≡◌, refl, List, [], ◌∷◌, drop}
use Rattle.std.specs.Float.Ieee as Ieee
use Rattle.load_files.specs.Draws.{draw, after, drawn}
use Rattle.load_files.specs.LoadFile.{cells_of, opcode_of, drawn_statement, statements_of}

abbrev four : ℕ → List ℕ
four seed = drawn (λ s. after 1 s) 1 4 seed

least_seed : four 1 ≡ 270369 ∷ 67634689 ∷ 2647435461 ∷ 307599695 ∷ []
unfolding drawn after draw
least_seed = refl

known_seed : four 2463534242 ≡ 723471715 ∷ 2497366906 ∷ 2064144800 ∷ 2008045182 ∷ []
unfolding drawn after draw
known_seed = refl

greatest_seed : four 4294967295 ≡ 253983 ∷ 4228382207 ∷ 1958451267 ∷ 4056713434 ∷ []
unfolding drawn after draw
greatest_seed = refl

cells_drawn : drop 28 (cells_of 2463534242)
    ≡ 0x42c60000 ∷ 0x42f40000 ∷ 0x43200000 ∷ 0x42fc0000 ∷ 0x43610000 ∷ 0x436a0000
    ∷ 0x43720000 ∷ 0x42740000 ∷ 0x43470000 ∷ 0x42640000 ∷ 0x42da0000 ∷ 0x41500000
    ∷ 0x43260000 ∷ 0x42f00000 ∷ 0x41b00000 ∷ 0x43000000 ∷ 0x40a00000 ∷ 0x41900000
    ∷ 0x42680000 ∷ 0x43270000 ∷ 0x429c0000 ∷ 0x435e0000 ∷ 0x431f0000 ∷ 0x42f00000
    ∷ 0x431c0000 ∷ 0x42e00000 ∷ 0x42c60000 ∷ 0x00000000 ∷ 0x41300000 ∷ 0x43660000
    ∷ 0x43480000 ∷ 0x42140000 ∷ 0x42040000 ∷ 0x42740000 ∷ 0x432d0000 ∷ 0x42080000
    ∷ []
unfolding drawn after draw Ieee.of_int Ieee.round Ieee.to_bits
cells_drawn = refl

statements_drawn : statements_of 2463534242 4
    ≡ record { opcode = 0; arg1 = 0; arg2 = 0; arg3 = 0 }
    ∷ record { opcode = 8; arg1 = 52; arg2 = 35; arg3 = 53 }
    ∷ record { opcode = 6; arg1 = 49; arg2 = 35; arg3 = 59 }
    ∷ record { opcode = 8; arg1 = 31; arg2 = 47; arg3 = 51 }
    ∷ record { opcode = 1; arg1 = 29; arg2 = 42; arg3 = 32 }
    ∷ record { opcode = 43; arg1 = 28; arg2 = 0; arg3 = 0 }
    ∷ []
unfolding drawn after draw drawn_statement opcode_of
statements_drawn = refl
