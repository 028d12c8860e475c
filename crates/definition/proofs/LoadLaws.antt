-- Laws of a load: the ranges of its settings, and the rows of its conditions, one by one.
use Rattle.std.specs.Prelude.{ℕ, ◌≡◌, List, ◌++◌, Bool, true, ◌&&◌, leb}
use Rattle.std.proofs.Common.{leb-true, le-leb}
use Rattle.definition.specs.declared.Settings.{Settings}
use Rattle.definition.specs.Checks.{Conditions}
use Rattle.definition.specs.File.{saved_store, greatest_depth, greatest_limit, greatest_check_number, file_of, contents_of, between, settings_fit}
use Rattle.definition.specs.Load.{header_conditions, record_conditions, cell_conditions, entity_conditions, file_conditions}
use Rattle.definition.specs.CheckLaws.{All}
use Rattle.definition.proofs.CheckLaws.{and_left, and_right, all_front, all_back}
use Rattle.definition.specs.LoadLaws.{InRange, LoadRows}

pub settings_fit_law : (s : Settings) → settings_fit s ≡ true → InRange s
unfolding settings_fit
settings_fit_law s h =
    let check : Bool = leb s.check_number greatest_check_number in
    let depth : Bool = between 1 greatest_depth s.depth in
    let saved : Bool = leb s.saved saved_store in
    let limit : Bool = between 1 greatest_limit s.limit in
    let first = and_left (check && depth && saved) limit h in
    let two = and_left (check && depth) saved first in
    let deep = and_right check depth two in
    let long = and_right (check && depth && saved) limit h in
    record {
      check_most = leb-true _ _ (and_left check depth two);
      depth_least = leb-true _ _ (and_left (leb 1 s.depth) (leb s.depth greatest_depth) deep);
      depth_most = leb-true _ _ (and_right (leb 1 s.depth) (leb s.depth greatest_depth) deep);
      saved_most = leb-true _ _ (and_right (check && depth) saved first);
      limit_least = leb-true _ _ (and_left (leb 1 s.limit) (leb s.limit greatest_limit) long);
      limit_most = leb-true _ _ (and_right (leb 1 s.limit) (leb s.limit greatest_limit) long);
    }

pub in_range_fits : (s : Settings) → InRange s → settings_fit s ≡ true
unfolding settings_fit
in_range_fits s h =
    rw (
      le-leb s.check_number 65535 h.check_most,
      le-leb 1 s.depth h.depth_least,
      le-leb s.depth 31 h.depth_most,
      le-leb s.saved 2048 h.saved_most,
      le-leb 1 s.limit h.limit_least,
      le-leb s.limit 99999 h.limit_most,
    )

pub load_rows_law : (least check : ℕ) (file : List ℕ) (n lent store entities : ℕ) → All (file_conditions least check file n lent store entities)
    → LoadRows least check file n lent store entities
load_rows_law least check file n lent store entities h =
    let hs : Conditions = header_conditions check file in
    let rs : Conditions = record_conditions (file_of file).strings.count (contents_of file) in
    let cs : Conditions = cell_conditions least (file_of file) lent store in
    let es : Conditions = entity_conditions (file_of file) n entities in
    let rows = all_front (hs ++ rs ++ cs) es h in
    record {
      header = all_front hs rs (all_front (hs ++ rs) cs rows);
      records = all_back hs rs (all_front (hs ++ rs) cs rows);
      cells = all_back (hs ++ rs) cs rows;
      fields = all_back (hs ++ rs ++ cs) es h;
    }
