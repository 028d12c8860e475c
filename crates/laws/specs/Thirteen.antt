-- Check 13 in words: it passes exactly where the file, the buffers and the state belong together.
use Rattle.std.specs.Prelude.{ℕ, ◌*◌, ◌≤◌, ◌≡◌, refl, List, Bool, true, false, not, ◌&&◌, length, leb, eqb}
use Rattle.std.proofs.Common.{arith, leb-true, eqb-true, le-leb, eq-eqb}
use Rattle.definition.specs.declared.FileRecord.{FileRecord}
use Rattle.definition.specs.File.{negative, file_of, length_fits, lumps_fit, cells_fit, entity_fits, settings_fit}
use Rattle.definition.specs.Load.{same_file, recorded_in}
use Rattle.definition.specs.Machine.{Program, Config, entities_fit}
use Rattle.definition.specs.Operations.{entered_functions, all_present, locals_of, sound}
use Rattle.definition.proofs.CheckLaws.{and_left, and_right}
use Rattle.definition.specs.LoadLaws.{InRange}
use Rattle.definition.proofs.LoadLaws.{settings_fit_law, in_range_fits}

pub record Thirteen (P : Program) (c : Config) : Type 0 where
  -- "file length, header lumps or cells per entity .. as the state records"; "lent cells" not "fewer than the file's"
  pub recorded : P.recorded c.state.file (length c.cells) ≡ true
  pub store : 2048 ≤ length c.saved
  -- R-3: "More than 600 entities, or lent entity cells too few for them"
  pub entities : c.state.entity_count ≤ 600
  pub entity_cells : c.state.entity_count * c.state.file.entityfields ≤ length c.entities
  -- R-11: "Settings out of range are refused .. 13 in a state"; the bounds are those of the settings
  pub settings : InRange c.state.settings
  pub depth : c.state.depth ≤ c.state.settings.depth
  pub present : all_present P (entered_functions c.state) ≡ true
  pub most : c.state.saved ≤ c.state.settings.saved
  pub sum : c.state.saved ≡ locals_of P (entered_functions c.state)

pub thirteen_passes : (P : Program) (c : Config) → Thirteen P c → sound P c ≡ true
unfolding sound entities_fit
thirteen_passes P c t =
    rw (
      t.recorded,
      le-leb 2048 (length c.saved) t.store,
      le-leb c.state.entity_count 600 t.entities,
      le-leb (c.state.entity_count * c.state.file.entityfields) (length c.entities) t.entity_cells,
      in_range_fits c.state.settings t.settings,
      le-leb c.state.depth c.state.settings.depth t.depth,
      t.present,
      le-leb c.state.saved c.state.settings.saved t.most,
      eq-eqb c.state.saved (locals_of P (entered_functions c.state)) t.sum,
    )

pub thirteen_only : (P : Program) (c : Config) → sound P c ≡ true → Thirteen P c
unfolding sound entities_fit
thirteen_only P c h =
    let a : Bool = P.recorded c.state.file (length c.cells) in
    let b : Bool = leb 2048 (length c.saved) in
    let few : Bool = leb c.state.entity_count 600 in
    let lent : Bool = leb (c.state.entity_count * c.state.file.entityfields) (length c.entities) in
    let v : Bool = settings_fit c.state.settings in
    let d : Bool = leb c.state.depth c.state.settings.depth in
    let e : Bool = all_present P (entered_functions c.state) in
    let f : Bool = leb c.state.saved c.state.settings.saved in
    let g : Bool = eqb c.state.saved (locals_of P (entered_functions c.state)) in
    let h6 : (a && b && (few && lent) && v && d && e && f) ≡ true = and_left (a && b && (few && lent) && v && d && e && f) g h in
    let h5 : (a && b && (few && lent) && v && d && e) ≡ true = and_left (a && b && (few && lent) && v && d && e) f h6 in
    let h4 : (a && b && (few && lent) && v && d) ≡ true = and_left (a && b && (few && lent) && v && d) e h5 in
    let h3 : (a && b && (few && lent) && v) ≡ true = and_left (a && b && (few && lent) && v) d h4 in
    let h2 : (a && b && (few && lent)) ≡ true = and_left (a && b && (few && lent)) v h3 in
    let h1 : (a && b) ≡ true = and_left (a && b) (few && lent) h2 in
    let fit : (few && lent) ≡ true = and_right (a && b) (few && lent) h2 in
    record {
      recorded = and_left a b h1;
      store = leb-true 2048 (length c.saved) (and_right a b h1);
      entities = leb-true c.state.entity_count 600 (and_left few lent fit);
      entity_cells = leb-true (c.state.entity_count * c.state.file.entityfields) (length c.entities) (and_right few lent fit);
      settings = settings_fit_law c.state.settings (and_right (a && b && (few && lent)) v h3);
      depth = leb-true c.state.depth c.state.settings.depth (and_right (a && b && (few && lent) && v) d h4);
      present = and_right (a && b && (few && lent) && v && d) e h5;
      most = leb-true c.state.saved c.state.settings.saved (and_right (a && b && (few && lent) && v && d && e) f h6);
      sum = eqb-true c.state.saved (locals_of P (entered_functions c.state)) (and_right (a && b && (few && lent) && v && d && e && f) g h);
    }

-- ---- the first clause, for the program of a file

-- "file length, header lumps or cells per entity not as the state records, or outside 1, 4, 10 or 11; lent cells fewer than the file's"; the least
-- number of cells is 64, and 36 for the files that R-7's padding program admits
pub record Recorded (least : ℕ) (file : List ℕ) (r : FileRecord) (lent : ℕ) : Type 0 where
  pub same : same_file r (file_of file) ≡ true
  pub shortest : 60 ≤ r.length
  pub longest : r.length ≤ 1048576
  pub lumps : lumps_fit r ≡ true
  pub fewest : least ≤ r.globals.count
  pub most : r.globals.count ≤ 32768
  pub per_entity : 105 ≤ r.entityfields
  pub signed : not (negative r.entityfields) ≡ true
  pub enough : r.globals.count ≤ lent

pub recorded_passes : (least : ℕ) (file : List ℕ) (r : FileRecord) (lent : ℕ) → Recorded least file r lent → recorded_in least file r lent ≡ true
unfolding recorded_in
recorded_passes least file r lent h =
    rw (
      h.same,
      le-leb 60 r.length h.shortest,
      le-leb r.length 1048576 h.longest,
      h.lumps,
      le-leb least r.globals.count h.fewest,
      le-leb r.globals.count 32768 h.most,
      le-leb 105 r.entityfields h.per_entity,
      h.signed,
      le-leb r.globals.count lent h.enough,
    )

pub recorded_only : (least : ℕ) (file : List ℕ) (r : FileRecord) (lent : ℕ) → recorded_in least file r lent ≡ true → Recorded least file r lent
unfolding recorded_in
recorded_only least file r lent h =
    let a : Bool = same_file r (file_of file) in
    let b : Bool = length_fits r in
    let c : Bool = lumps_fit r in
    let d : Bool = cells_fit least r in
    let e : Bool = entity_fits r in
    let f : Bool = leb r.globals.count lent in
    let h4 : (a && b && c && d && e) ≡ true = and_left (a && b && c && d && e) f h in
    let h3 : (a && b && c && d) ≡ true = and_left (a && b && c && d) e h4 in
    let h2 : (a && b && c) ≡ true = and_left (a && b && c) d h3 in
    let h1 : (a && b) ≡ true = and_left (a && b) c h2 in
    let long : b ≡ true = and_right a b h1 in
    let cells : d ≡ true = and_right (a && b && c) d h3 in
    let entity : e ≡ true = and_right (a && b && c && d) e h4 in
    record {
      same = and_left a b h1;
      shortest = leb-true 60 r.length (and_left (leb 60 r.length) (leb r.length 1048576) long);
      longest = leb-true r.length 1048576 (and_right (leb 60 r.length) (leb r.length 1048576) long);
      lumps = and_right (a && b) c h2;
      fewest = leb-true least r.globals.count (and_left (leb least r.globals.count) (leb r.globals.count 32768) cells);
      most = leb-true r.globals.count 32768 (and_right (leb least r.globals.count) (leb r.globals.count 32768) cells);
      per_entity = leb-true 105 r.entityfields (and_left (leb 105 r.entityfields) (not (negative r.entityfields)) entity);
      signed = and_right (leb 105 r.entityfields) (not (negative r.entityfields)) entity;
      enough = leb-true r.globals.count lent (and_right (a && b && c && d && e) f h);
    }
