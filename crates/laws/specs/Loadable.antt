-- What a load must accept, in words: no condition beyond these can be asked of a file.
use Rattle.std.specs.Prelude.{ℕ, ◌*◌, ◌≤◌, ◌<◌, ◌≡◌, refl, List, [], ◌∷◌, ◌++◌, true, not, pos, length}
use Rattle.std.proofs.Common.{le-leb, lt-ltb, eq-eqb}
use Rattle.definition.specs.declared.Statement.{Statement}
use Rattle.definition.specs.declared.Definition.{Definition}
use Rattle.definition.specs.declared.FunctionDef.{FunctionDef}
use Rattle.definition.specs.declared.Settings.{Settings}
use Rattle.definition.specs.Checks.{Conditions, ◌otherwise◌, accepted}
use Rattle.definition.specs.File.{negative, version_of, check_number_of, file_of, lumps_fit, least_cells, contents_of, builtin_known, settings_fit}
use Rattle.definition.specs.Cells.{type_of}
use Rattle.definition.specs.Load.{function_conditions, statement_conditions, globaldef_conditions, fielddef_conditions, each, header_conditions, record_conditions, cell_conditions, entity_conditions, load_conditions, loaded, load}
use Rattle.definition.specs.Machine.{entities_fit}
use Rattle.definition.specs.CheckLaws.{All}
use Rattle.definition.proofs.CheckLaws.{all_both, and_both, guard_accepts}
use Rattle.definition.specs.LoadLaws.{InRange}
use Rattle.definition.proofs.LoadLaws.{in_range_fits}

-- of each record of a list
abbrev pub Every : {A : Type 0} → (A → Type 0) → List A → Type 0
Every Q [] = Unit {0}
Every Q (x ∷ xs) = Q x × Every Q xs

abbrev pub FunctionIs : ℕ → FunctionDef → Type 0
FunctionIs strings d = (builtin_known d ≡ true) × (d.name < strings) × (d.srcfile < strings)

abbrev pub StatementIs : Statement → Type 0
StatementIs st = st.opcode < 66

abbrev pub GlobaldefIs : ℕ → Definition → Type 0
GlobaldefIs strings d = (d.name < strings) × (type_of d ≤ 7)

abbrev pub FielddefIs : ℕ → Definition → Type 0
FielddefIs strings d = (d.name < strings) × (d.kind < 32768) × (type_of d ≤ 7)

-- under these settings, with n entities, beside so many lent cells, a saved store of so many, and so many lent entity cells
pub record Loadable (s : Settings) (file : List ℕ) (n lent store entities : ℕ) : Type 0 where
  pub settings : InRange s
  pub shortest : 60 ≤ length file
  pub longest : length file ≤ 1048576
  pub version : version_of file ≡ 6
  pub check_number_law : check_number_of file ≡ s.check_number
  pub lumps : lumps_fit (file_of file) ≡ true
  pub functions : Every (FunctionIs (file_of file).strings.count) (contents_of file).functions
  pub statements : Every StatementIs (contents_of file).statements
  pub globaldefs : Every (GlobaldefIs (file_of file).strings.count) (contents_of file).globaldefs
  pub fielddefs : Every (FielddefIs (file_of file).strings.count) (contents_of file).fielddefs
  pub least : 64 ≤ (file_of file).globals.count
  pub most : (file_of file).globals.count ≤ 32768
  pub per_entity : 105 ≤ (file_of file).entityfields
  pub signed : not (negative (file_of file).entityfields) ≡ true
  pub enough : (file_of file).globals.count ≤ lent
  pub store_enough : 2048 ≤ store
  pub few : n ≤ 600
  pub entities_enough : n * (file_of file).entityfields ≤ entities

every_each : {A : Type 0} (Q : A → Type 0) (conditions : A → Conditions) → ((x : A) → Q x → All (conditions x)) → (xs : List A) → Every Q xs → All (each conditions xs)
unfolding each
every_each Q conditions holds [] h = tt
every_each Q conditions holds (x ∷ xs) h = all_both (conditions x) (each conditions xs) (holds x h.0) (every_each Q conditions holds xs h.1)

module _ (s : Settings) (file : List ℕ) (n : ℕ) (cells saved entities : List ℕ) (h : Loadable s file n (length cells) (length saved) (length entities)) where
  header : All (header_conditions s.check_number file)
  unfolding header_conditions file_of
  header = (
    and_both _ _ (le-leb 60 (length file) h.shortest) (le-leb (length file) 1048576 h.longest),
    (eq-eqb _ _ h.version, (eq-eqb _ _ h.check_number_law, (h.lumps, tt))),
  )

  recorded : All (record_conditions (file_of file).strings.count (contents_of file))
  unfolding record_conditions
  recorded =
      let strings = (file_of file).strings.count in
      let k = contents_of file in
      let fs = each (function_conditions strings) k.functions in
      let ss = each statement_conditions k.statements in
      let gs = each (globaldef_conditions strings) k.globaldefs in
      all_both (fs ++ ss ++ gs) (each (fielddef_conditions strings) k.fielddefs)
      (all_both (fs ++ ss) gs
      (all_both fs ss
      (every_each (FunctionIs strings) (function_conditions strings) (λ d q. (q.0, (lt-ltb _ _ q.1, (lt-ltb _ _ q.2, tt)))) k.functions h.functions)
      (every_each StatementIs statement_conditions (λ st q. (lt-ltb _ _ q, tt)) k.statements h.statements))
      (every_each (GlobaldefIs strings) (globaldef_conditions strings) (λ d q. (lt-ltb _ _ q.0, (le-leb _ _ q.1, tt))) k.globaldefs h.globaldefs))
      (every_each (FielddefIs strings) (fielddef_conditions strings) (λ d q. (lt-ltb _ _ q.0, (lt-ltb _ _ q.1, (le-leb _ _ q.2, tt)))) k.fielddefs h.fielddefs)

  lent_fit : All (cell_conditions least_cells (file_of file) (length cells) (length saved))
  unfolding cell_conditions
  lent_fit = (
    and_both _ _ (le-leb 64 _ h.least) (le-leb _ 32768 h.most),
    (
      and_both _ _ (le-leb 105 _ h.per_entity) h.signed,
      (and_both _ _ (le-leb _ _ h.enough) (le-leb 2048 _ h.store_enough), tt),
    ),
  )

  entities_fit_law : All (entity_conditions (file_of file) n (length entities))
  unfolding entities_fit
  entities_fit_law = (and_both _ _ (le-leb n 600 h.few) (le-leb _ _ h.entities_enough), tt)

  pub loadable : load s file (pos n) cells saved entities ≡ accepted (loaded s file n cells saved entities)
  unfolding load
  loadable =
      let hs = header_conditions s.check_number file in
      let rs = record_conditions (file_of file).strings.count (contents_of file) in
      let cs = cell_conditions least_cells (file_of file) (length cells) (length saved) in
      let es = entity_conditions (file_of file) n (length entities) in
      guard_accepts ((settings_fit s otherwise 36) ∷ hs ++ rs ++ cs ++ es) (loaded s file n cells saved entities)
      (in_range_fits s h.settings, all_both (hs ++ rs ++ cs) es (all_both (hs ++ rs) cs (all_both hs rs header recorded) lent_fit) entities_fit_law)
