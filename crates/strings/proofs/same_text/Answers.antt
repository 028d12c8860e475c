use Rattle.std.specs.Prelude.{ℕ, ◌≡◌, Bool, not, eqb}
use Rattle.std.proofs.Common.{refl, rules, tests}
use Rattle.std.proofs.lemmas.Iterator.{YieldsList-from_slice}
use Rattle.std.proofs.lemmas.Iterator.Search.{YieldsList-from_take_while}
use Rattle.strings.proofs.Texts.{text_taken, eq_from_yields_List}
use Rattle.strings.proofs.same_text.Goals as goal

pub returns : goal.returns
returns c =
    let test : ℕ → Bool = λ x. not (eqb x 0) in
    let h =
    eq_from_yields_List (λ x y. y ≡ x) _ c.eq.result c.eq.ensures.ran
    (YieldsList-from_take_while _ test (YieldsList-from_slice c.strings_from-first.result.now cc) c.take_while.ensures.closure c.take_while.ensures.done (λ x b q k. search (rules, tests)))
    (λ it e. YieldsList-from_take_while _ test (YieldsList-from_slice c.strings_from-second.result.now cc) (cc) (cc) (λ x b q k. search (rules, tests)))
    (λ x y. refl) in
    rw (text_taken c.strings_from-first.result.now, text_taken c.strings_from-second.result.now, c.strings_from-first.ensures, c.strings_from-second.ensures) at h
