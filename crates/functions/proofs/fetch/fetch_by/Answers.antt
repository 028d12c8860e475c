use Rattle.functions.proofs.Fetching.{none_there, bad_opcode, fetched_at}
use Rattle.functions.proofs.fetch.fetch_by.Goals as goal

pub returns-then-count-k : goal.returns-then-count-k
returns-then-count-k g c statements r = none_there _ _ r.many _ c.ranges.pc _ c.place_of-k.ensures c.if-count-k.true

pub returns-then-is_opcode : goal.returns-then-is_opcode
returns-then-is_opcode g c statements r =
    fetched_at _ _ r.many _ c.ranges.pc _ c.place_of-k.ensures _ c.if-count-k.false (r.each _ _ c.if-count-k.false c.read-statement.ensures) (cc)

pub returns : goal.returns
returns g c statements r =
    bad_opcode _ _ r.many _ c.ranges.pc _ c.place_of-k.ensures _ c.if-count-k.false (r.each _ _ c.if-count-k.false c.read-statement.ensures) (cc)
