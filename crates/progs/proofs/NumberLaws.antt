-- Entry and Return on numbers, and what the context makes of them.
use Rattle.std.proofs.Common.{◌≡◌, ℕ, zero, suc, ◌+◌, ◌/◌, ◌≤◌, ◌<◌, List, drop, ℤ, pos, not, length, get_or, leb, refl, sym, ◌∙◌, ap, arith, le-ltb, ltb-true, leb-true, Result, Ok, Err}
use lib.ListN.{get_or-eq_default}
use Rattle.std.proofs.Math.Seq.{paste}
use Rattle.definition.specs.declared.FunctionDef.{FunctionDef}
use Rattle.definition.specs.declared.refusal.Refusal.{Refusal}
use Rattle.definition.specs.declared.refusal.Refusal.TheVariants as refusal
use Rattle.definition.specs.Checks.{judge, Checked, refused, accepted}
use Rattle.definition.specs.Refusals.{number, refusal_in, checked}
use Rattle.definition.specs.File.{negative, no_function, read_function}
use Rattle.definition.specs.LoadLaws.{InRange}
use Rattle.definition.specs.Machine.{Program, function_of, copied, arguments_of, entry_conditions, entered, enter}
use Rattle.definition.proofs.CheckLaws.{judge_passed, and_right}
use Rattle.definition.proofs.RecordLaws.{length_records}
use Rattle.definition.proofs.RefusalLaws.{numbered as never_zero}
use Rattle.functions.specs.Parts.{functions_in}
use Rattle.progs.specs.declared.ExecutionContext.{ExecutionContext}
use Rattle.progs.specs.declared.calls.Entry.{Entry}
use Rattle.progs.specs.Contexts.{config, bare, range_of, outcome_of, after, entered_context}
use Rattle.progs.specs.Numbers.{numbered, Entering, entry_of, entering_as, entering}
use Rattle.progs.proofs.OutcomeLaws.{refused_outcome, accepted_outcome}
use Rattle.progs.proofs.CallLaws.{entered_config as entered_by}

-- ---- a table of functions, in any program that has it

module _ (part : List ℕ) where
  size : length (functions_in part) ≡ length part / 36
  size = length_records (read_function part) 36 (length part / 36) 0

  pub functions_there : (f : ℕ) (P : Program) → functions_in part ≡ P.functions → f < length part / 36 → f < length P.functions
  functions_there f P q h = rw (← q) (omega (arith, size))

  pub functions_absent : (f : ℕ) (P : Program) → functions_in part ≡ P.functions → length part / 36 ≤ f → length P.functions ≤ f
  functions_absent f P q h = rw (← q) (omega (arith, size))

pub functions_read : (fs : List FunctionDef) (f : ℕ) (d : FunctionDef) (P : Program) → fs ≡ P.functions → d ≡ get_or fs f no_function → d ≡ function_of P f
functions_read fs f d P q e = rw q at e

pub no_function_law : (P : Program) (f : ℕ) → length P.functions ≤ f → record { start = 0; count = 0 } ≡ range_of (function_of P f)
no_function_law P f h = rw (get_or-eq_default P.functions no_function {n = f} h)

-- ---- the number of a refusal

abbrev pub number_of : {A : Type 0} → Checked A → ℕ
number_of (refused n) = n
number_of (accepted a) = 0

pub number_checked : {A : Type 0} (r : Result A Refusal) → refusal_in r ≡ number_of (checked r)
number_checked (Ok a) = refl
number_checked (Err r) = refl

-- ---- entry

module _ (P : Program) (f : ℕ) (x : ExecutionContext) (cells saved : List ℕ) where
  abbrev judged : ℕ
  judged = judge (entry_conditions P f (bare x))

  pub entering_refused : (r : Refusal) → number r ≡ judged → entry_of (Err r) cells saved ≡ entering P f x cells saved
  unfolding entering
  entering_refused r e = rw (← e) (by (number r) (never_zero r))
    where
      by : (n : ℕ) → (n ≡ 0 → ⊥) → record { entry = refused n; cells = cells; saved = saved } ≡ entering_as n (function_of P f) x.saved cells saved
      by zero z = absurd (z refl)
      by (suc n) z = refl

  pub entering_20 : length P.functions ≤ f → entry_of (Err refusal.NoFunction) cells saved ≡ entering P f x cells saved
  unfolding entering entry_conditions judge
  entering_20 h = rw (le-ltb f (length P.functions) h)

  pub entering_done : (d : FunctionDef) (first : ℤ) (cells' saved' : List ℕ) → 0 ≡ judged → d ≡ function_of P f → first ≡ pos d.first
      → cells' ≡ copied (arguments_of d) cells
      → saved' ≡ paste saved x.saved (drop d.start cells) d.locals
      → entry_of (Ok (record { first = first; locals = d.locals })) cells' saved' ≡ entering P f x cells saved
  unfolding entering
  entering_done d first cells' saved' z e p a b = rw (← z, p, a, b, e)

  -- only the settings, the depth, the saved count and the file's count are looked at
  pub by_numbers : entering P f (numbered x.settings x.depth x.saved x.file.globals.count) cells saved ≡ entering P f x cells saved
  unfolding entering entry_conditions
  by_numbers = refl

  module _ (r : Result Entry Refusal) (cells' saved' : List ℕ) (e : entry_of r cells' saved' ≡ entering P f x cells saved) where
    pub refusal_is : refusal_in r ≡ judged
    unfolding entering
    refusal_is = number_checked r ∙ ap (λ (z : Entering). number_of z.entry) e ∙ by judged
      where
        by : (n : ℕ) → number_of (entering_as n (function_of P f) x.saved cells saved).entry ≡ n
        by zero = refl
        by (suc n) = refl

  -- an entry that is refused
  module _ (q : Refusal) (cells' saved' : List ℕ) (e : entry_of (Err q) cells' saved' ≡ entering P f x cells saved) where
    kept : (cells' ≡ cells) × (saved' ≡ saved)
    unfolding entering
    kept = by judged (rw (← refusal_is (Err q) cells' saved' e) (never_zero q)) (ap (λ (z : Entering). z.cells) e) (ap (λ (z : Entering). z.saved) e)
      where
        by : (n : ℕ) → (n ≡ 0 → ⊥) → cells' ≡ (entering_as n (function_of P f) x.saved cells saved).cells → saved' ≡ (entering_as n (function_of P f) x.saved cells saved).saved → (cells' ≡ cells) × (saved' ≡ saved)
        by zero z a b = absurd (z refl)
        by (suc n) z a b = (a, b)

    pub refused_entry : (entities : List ℕ) (back : ℤ) → outcome_of (Err q) x cells' saved' entities ≡ after (config x cells saved entities) (enter P f back)
    unfolding entry_conditions
    refused_entry entities back = rw (kept.0, kept.1) (refused_outcome x cells saved entities _ _ q (refusal_is (Err q) cells' saved' e))

  -- one that is accepted
  module _ (r : Entry) (cells' saved' : List ℕ) (e : entry_of (Ok r) cells' saved' ≡ entering P f x cells saved) where
    pub clear : 0 ≡ judged
    clear = refusal_is (Ok r) cells' saved' e

    gives : entry_of (Ok r) cells' saved' ≡ entering_as 0 (function_of P f) x.saved cells saved
    unfolding entering
    gives = e ∙ ap (λ (n : ℕ). entering_as n (function_of P f) x.saved cells saved) (sym clear)

    taken : r ≡ record { first = pos (function_of P f).first; locals = (function_of P f).locals }
    taken = by r (ap (λ (z : Entering). z.entry) gives)
      where
        by : (z : Entry) → ◌≡◌ {A = Checked Entry} (accepted r) (accepted (record { first = pos (function_of P f).first; locals = (function_of P f).locals })) → r ≡ record { first = pos (function_of P f).first; locals = (function_of P f).locals }
        by z h = cc

    pub entry_room : InRange x.settings → (x.depth < 31) × (x.saved + r.locals ≤ 2048)
    unfolding entry_conditions
    entry_room range =
        let h = judge_passed (entry_conditions P f (bare x)) (sym clear) in
        let l : r.locals ≡ (function_of P f).locals = ap (λ (z : Entry). z.locals) taken in
        let fits = leb-true (x.saved + (function_of P f).locals) x.settings.saved (and_right (not (negative (function_of P f).locals)) (leb (x.saved + (function_of P f).locals) x.settings.saved) h.1.1.0) in
        (omega (arith, ltb-true x.depth x.settings.depth h.1.0, range.depth_most), rw l (omega (arith, fits, range.saved_most)))

    pub entered_config : (entities : List ℕ) (back : ℤ) → config (entered_context x f r.first r.locals back) cells' saved' entities ≡ entered P f back (config x cells saved entities)
    entered_config entities back =
        rw taken (entered_by P f back x (function_of P f) refl cells saved entities _ cells' saved' refl (ap (λ (z : Entering). z.cells) gives) (ap (λ (z : Entering). z.saved) gives))

    pub accepted_entry : (entities : List ℕ) (back : ℤ) (y : ExecutionContext) → y ≡ entered_context x f r.first r.locals back
        → outcome_of (Ok tt) y cells' saved' entities ≡ after (config x cells saved entities) (enter P f back)
    unfolding entry_conditions
    accepted_entry entities back y h =
        accepted_outcome x cells saved entities _ _ clear y cells' saved' (ap (λ (w : ExecutionContext). config w cells' saved' entities) h ∙ entered_config entities back)
