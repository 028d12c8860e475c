-- The starred situations hold: each row of the table in specs/Starred.antt gives what it says.
use Rattle.std.specs.Prelude.{List, [], ◌∷◌, ◌++◌, Bool, true, false, ◌&&◌, T}
use Rattle.definition.specs.Starred.{Row, row, all, same, computing, situations, calls, operands, runs, checks, loads, others, rows}

record Hold (rows : List Row) : Type 0 where
  all_same : T (all rows)

before : {b : List Row} (a : List Row) → Hold b → T (all a) → Hold (a ++ b)
before {b} a k h = record { all_same = go a h }
  where
    if_same : (a : List Row) (x : Bool) → (T (all a) → T (all (a ++ b))) → T (x && all a) → T (x && all (a ++ b))
    if_same a true rest h = rest h
    if_same a false rest h = h

    go : (a : List Row) → T (all a) → T (all (a ++ b))
    go [] h = k.all_same
    go (row words gives says ∷ a) h = if_same a (same gives says) (go a) h

-- one group after another: of one check of all the rows the memory would be thrice that, and where a row fails those of later groups aren't computed
situations_hold : Hold situations
unfolding computing
situations_hold = record { all_same = tt }

calls_hold : Hold (calls ++ situations)
unfolding computing
calls_hold = before calls situations_hold tt

operands_hold : Hold (operands ++ calls ++ situations)
unfolding computing
operands_hold = before operands calls_hold tt

runs_hold : Hold (runs ++ operands ++ calls ++ situations)
unfolding computing
runs_hold = before runs operands_hold tt

checks_hold : Hold (checks ++ runs ++ operands ++ calls ++ situations)
unfolding computing
checks_hold = before checks runs_hold tt

loads_hold : Hold (loads ++ checks ++ runs ++ operands ++ calls ++ situations)
unfolding computing
loads_hold = before loads checks_hold tt

others_hold : Hold (others ++ loads ++ checks ++ runs ++ operands ++ calls ++ situations)
unfolding computing
others_hold = before others loads_hold tt

pub starred : T (all rows)
starred = others_hold.all_same
