-- What a header that fits its file, and entities that have room, give to execution. Assumes nothing.
use Rattle.std.proofs.Common.{◌≡◌, ◌∙◌, ap, subst, sym, ℕ, ◌≤◌, List, length, Bool, true, ◌&&◌, leb-true}
use Rattle.definition.specs.declared.FileRecord.{FileRecord}
use Rattle.definition.specs.File.{lumps_fit, cells_fit, entity_fits, file_of}
use Rattle.std.proofs.lemmas.Bool.{and_parts}
use Rattle.definition.specs.Machine.{entities_fit}
use Rattle.functions.specs.Laws.{AllFit, all_fit, EntitySize, entity_size, Room, entities_room}

pub fits : (file : List ℕ) (r : FileRecord) (b : Bool) → r ≡ file_of file → b ≡ lumps_fit r → b ≡ true → AllFit (length file) r
unfolding file_of
fits file r b e h t = subst (λ (n : ℕ). AllFit n r) (ap (λ (x : FileRecord). x.length) e) (all_fit r (sym h ∙ t))

pub roomy : (number size lent : ℕ) (b : Bool) → b ≡ entities_fit number size lent → b ≡ true → Room number size lent
roomy number size lent b h t = entities_room number size lent (sym h ∙ t)

pub record Fitting (file : List ℕ) (r : FileRecord) : Type 0 where
  pub lumps : AllFit (length file) r
  pub most : r.globals.count ≤ 32768
  pub size : EntitySize r

pub fitting : (file : List ℕ) (r : FileRecord) (a b d : Bool) → r ≡ file_of file → a ≡ lumps_fit r → b ≡ cells_fit 0 r → d ≡ entity_fits r → (a && b && d) ≡ true → Fitting file r
unfolding file_of
fitting file r a b d e lumps cells size t =
    let first = and_parts (a && b) d t in
    let second = and_parts a b first.0 in
    record {
      lumps = fits file r a e lumps second.0;
      most = leb-true _ _ (and_parts _ _ (sym cells ∙ second.1)).1;
      size = entity_size r (sym size ∙ first.1);
    }
