-- EXAMPLES of outcome sentences, as rows of one table that is computed from the definition.
use Rattle.std.specs.Prelude.{◌-◌, ◌^◌, ◌≡◌, refl, List, [], ◌∷◌, T, pos, negsuc, length}
use Rattle.definition.specs.declared.RunAnswer.TheVariants as run
use Rattle.definition.specs.declared.Handover.TheVariants.{Builtin, Opcode}
use Rattle.text.specs.Text.{decimal, decimal_digits, signed_decimal}
use Rattle.text.specs.Examples.{Row, prints, all}
use Rattle.sentences.specs.Sentence.{Five, five_of, sentence}

abbrev longest_five : Five
longest_five = five_of (run.HandedOver (Builtin (2 ^ 32 - 1))) (2 ^ 32 - 1) (negsuc (2 ^ 63 - 1)) (2 ^ 64 - 1)

abbrev pub rows : List Row
rows =
    prints "Run ended, detail 0, statements 2, position 0, function 0." (sentence (five_of run.Ended 2 (pos 0) 0))
    ∷ prints "Run spent, detail 0, statements 99999, position 17, function 10." (sentence (five_of run.Spent 99999 (pos 17) 10))
    ∷ prints "Run refused, detail 14, statements 99998, position -3, function 1." (sentence (five_of (run.Refused 14) 99998 (negsuc 2) 1))
    ∷ prints "Run builtin, detail 7, statements 1, position 100, function 5." (sentence (five_of (run.HandedOver (Builtin 7)) 1 (pos 100) 5))
    ∷ prints "Run opcode, detail 60, statements 0, position -1, function 5." (sentence (five_of (run.HandedOver (Opcode 60)) 0 (negsuc 0) 5))
    ∷ prints "Run ended, detail 0, statements 0, position 9223372036854775807, function 0." (sentence (five_of run.Ended 0 (pos (2 ^ 63 - 1)) 0))
    ∷ prints "Run builtin, detail 4294967295, statements 4294967295, position -9223372036854775808, function 18446744073709551615." (sentence longest_five)
    ∷ []

pub examples : T (all rows)
unfolding sentence decimal decimal_digits signed_decimal
examples = tt

pub longest : length (sentence longest_five) ≡ 116
unfolding sentence decimal decimal_digits signed_decimal
longest = refl
