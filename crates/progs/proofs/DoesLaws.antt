-- What the statement at a position does, in a context that records the file's header; and the laws of carrying on.
use Rattle.std.proofs.Common.{◌≡◌, ℕ, ◌<◌, List, Bool, true, false, cond, ℤ, pos, length, sym, ◌∙◌, ap, arith, ne_eqb}
use Rattle.definition.specs.declared.FileRecord.{FileRecord}
use Rattle.definition.specs.declared.Statement.{Statement}
use Rattle.definition.specs.Checks.{judge, refused}
use Rattle.definition.specs.File.{contents_at}
use Rattle.definition.specs.Statements.{Entities, fetch_conditions, execute, does_at}
use Rattle.definition.specs.Load.{program_of, program_with}
use Rattle.definition.specs.Operations.{is_handed_over}
use Rattle.definition.proofs.CheckLaws.{judge_append}
use Rattle.functions.specs.Answers.{found, fetched}
use Rattle.functions.specs.Laws.{fetch_accepts, fetch_refuses, does_fetched, lump_fitting, count_statements}
use Rattle.functions.specs.Parts.{part_of, statements_in}
use Rattle.functions.specs.PartLaws.{part_statements}
use Rattle.progs.specs.Contexts.{onward, Loaded}

module _ (file : List ℕ) (r : FileRecord) (h : Loaded file r) where
  abbrev statements : List Statement
  statements = (contents_at r file).statements

  pub does_here : (p : ℤ) (e : Entities) (cells : List ℕ) → does_at (contents_at r file) p e cells ≡ (program_of file).does p e cells
  unfolding program_with
  does_here p e cells = ap (λ (q : FileRecord). does_at (contents_at q file) p e cells) h.same

  fetching_here : (p : ℤ) → fetch_conditions statements p ≡ (program_of file).fetching p
  unfolding program_with
  fetching_here p = ap (λ (q : FileRecord). fetch_conditions (contents_at q file).statements p) h.same

  -- by the part that has the statements, at a position
  module _ (part : List ℕ) (is : part ≡ part_of 8 r.statements file) (p q : ℤ) (at : q ≡ p) where
    fetched_here : fetched (statements_in part) q ≡ fetched statements p
    fetched_here = rw (is, at) (ap (λ (s : List Statement). fetched s p) (part_statements r file h.lumps))

    -- the index of a statement that is fetched is below every bound of a lump
    pub index_of : (k : ℕ) (st : Statement) → found k st ≡ fetched (statements_in part) q → (p ≡ pos k) × (k < 2147483648)
    index_of k st e =
        let f = fetch_accepts statements p k st (e ∙ fetched_here) in
        (f.position, omega (arith, f.there, count_statements r file, (lump_fitting 8 (length file) r.statements h.lumps.statements).count))

    -- ---- carrying on, whatever the entities are

    module _ (es : Entities) (cells : List ℕ) where
      abbrev number : ℕ
      number = judge (onward (program_of file) p es cells)

      pub carry_unfetched : (n : ℕ) → refused n ≡ fetched (statements_in part) q → n ≡ number
      carry_unfetched n e =
          let f = fetch_refuses statements p n (e ∙ fetched_here) in
          let same : judge ((program_of file).fetching p) ≡ n = rw (← fetching_here p) (sym f.0) in
          sym (judge_append ((program_of file).fetching p) _ ∙ rw (same, ne_eqb n 0 (λ z. absurd (omega (arith, f.1)))))

      module _ (k : ℕ) (st : Statement) (by_fetch : found k st ≡ fetched (statements_in part) q) (b : Bool) (by : b ≡ is_handed_over (execute (contents_at r file) p st es cells)) where
        carry_number : cond b 0 27 ≡ number
        unfolding judge
        carry_number =
            let here = by_fetch ∙ fetched_here in
            let c : judge ((program_of file).fetching p) ≡ 0 = rw (← fetching_here p) (fetch_accepts statements p k st here).conditions in
            let handed : b ≡ is_handed_over ((program_of file).does p es cells) = by ∙ ap is_handed_over (does_fetched (contents_at r file) p k st es cells here ∙ does_here p es cells) in
            sym (judge_append ((program_of file).fetching p) _ ∙ rw (c, ← handed))

        pub carry_handed : b ≡ true → 0 ≡ number
        carry_handed t = rw t at carry_number

        pub carry_27 : b ≡ false → 27 ≡ number
        carry_27 t = rw t at carry_number
