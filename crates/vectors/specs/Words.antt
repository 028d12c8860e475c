-- WHAT THE WORDS OF A LINE SPELL: numbers, and files. Assumes nothing.
use Rattle.std.specs.Prelude.{ℕ, ◌≡◌, ◌-◌, List, [], ◌++◌, Some, Ok, length, take, replicate, codes}
use Rattle.std.specs.Borrow.{Bor}
use Rattle.std.specs.declared.str.SplitAsciiWhitespace.{SplitAscii}
use Rattle.std.specs.Str.Iter.{split_ascii_whitespace_steps}
use Rattle.std.specs.Str.Parse.{digits_value, without_leading_plus}
use Rattle.hex.specs.Hex.{decode_of}

-- s begins with a word of which P holds, and t is what follows it
abbrev pub Takes : SplitAscii → SplitAscii → (List ℕ → Type 0) → Type 0
Takes s t P = (w : Bor (List ℕ)) × split_ascii_whitespace_steps s (Some w) t × P w.now

abbrev pub number_in : ℕ → List ℕ → ℕ
number_in radix word = digits_value radix (without_leading_plus word)

-- a word spells these bytes in hexadecimal; `-` is for none
abbrev pub SpellsBytes : List ℕ → List ℕ → Type 0
SpellsBytes word bytes = (word ≡ codes "-" → bytes ≡ []) × ((word ≡ codes "-" → ⊥) → decode_of word ≡ Ok bytes)

-- the words `LENGTH BYTES` spell this file: so many bytes, the first of them as given and zeros behind them
abbrev pub SpellsFile : List ℕ → List ℕ → List ℕ → Type 0
SpellsFile first second file =
    (bytes : List ℕ) × SpellsBytes second bytes × (file ≡ take (number_in 10 first) bytes ++ replicate (number_in 10 first - length bytes) 0)
