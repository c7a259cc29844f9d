-- Whether a block was released since: its extent tells it.
use Rattle.std.proofs.Common.{◌≡◌, ℕ, ◌<◌, ◌≤◌, Bool, true, false, ltb, ltb-true, List, ◌∷◌, length, Option, Some, None, refl, sym, ◌∙◌, subst, arith, inl, inr}
use Rattle.std.proofs.lemmas.Bool.{ltb-false}
use Rattle.seg_words.proofs.Lemmas.{cases_Bool}
use Rattle.seg_words.specs.Types.{Shape}
use Rattle.redo_model.specs.Records.{Record}
use Rattle.redo_model.specs.Model.{Extends, IsRowBlock, IsTable, AreAllowed}
use Rattle.redo_model.specs.Lists.{same, more}
use Rattle.space_laws.proofs.IncarnationsLaw.{rising}
use Rattle.space_laws.proofs.TablesLaw.{tables_stay}
use Rattle.scan_laws.specs.Staying.{is_released_since}
use Rattle.scan_laws.proofs.StayingLaw.{row_blocks_stay_since, incarnations_tell_releases}
use Rattle.change_laws.specs.Types.{IsBornAt, BornOf}
use Rattle.change_laws.proofs.FindLaw.{row_blocks_are_born}
use Rattle.row_change.specs.Looking.{BornTold}
use Rattle.session_core.specs.RepairEvents.{is_later}

pub allowed_then : (sh : Shape) (Q R : List Record) → AreAllowed sh R → Extends Q R → AreAllowed sh Q
allowed_then sh Q _ h same = h
allowed_then sh Q (r ∷ R) h (more _ e) = allowed_then sh Q R h.0 e

module _ (sh : Shape) (Q R : List Record) (o b : ℕ) (h : AreAllowed sh R) (e : Extends Q R) (t : IsTable Q o) where
  -- an extent that isn't newer has the block: it wasn't released
  was_there : (born : ℕ) → IsBornAt sh R o b born → born ≤ length Q → is_released_since sh (length Q) R o b ≡ false
  was_there born i l = incarnations_tell_releases sh Q R o b i.index i.extent h e t i.at i.has (subst (λ (n : ℕ). n ≤ length Q) (sym i.born_is) l)

  -- a block that wasn't released stands in the extent in which it was, and in no other
  record StillBorn : Type 0 where
    pub born : ℕ
    pub at : IsBornAt sh R o b born
    pub only : (n : ℕ) → IsBornAt sh R o b n → n ≡ born
    pub early : born ≤ length Q

  still_born : IsRowBlock sh Q o b → is_released_since sh (length Q) R o b ≡ false → StillBorn
  still_born here kept =
      let x : BornOf sh Q o b = row_blocks_are_born sh Q o b (allowed_then sh Q R h e) t here in
      let s = row_blocks_stay_since sh Q R o b h e t here kept in
      let y : BornOf sh R o b = row_blocks_are_born sh R o b h (tables_stay sh Q R o h e t).there s.row_block in
      let i : IsBornAt sh R o b x.born = record { index = x.at.index; extent = x.at.extent; at = s.same_extent x.at.index x.at.extent x.at.at x.at.has; has = x.at.has; born_is = x.at.born_is } in
      record {
        born = x.born;
        at = i;
        only = λ n z. y.only n z ∙ sym (y.only x.born i);
        early = subst (λ (n : ℕ). n ≤ length Q) x.at.born_is ((rising Q o).most x.at.index x.at.extent x.at.at);
      }

  pub released_told : (r : Option ℕ) → IsRowBlock sh Q o b → BornTold sh R o b r → is_later (length Q) r ≡ is_released_since sh (length Q) R o b
  released_told None here told = elim (cases_Bool (is_released_since sh (length Q) R o b)) [
    | inl y ↦ sym y
    | inr n ↦ absurd (let s = still_born here n in told s.born s.at)
  ]
  released_told (Some born) here told = elim (cases_Bool (ltb (length Q) born)) [
    | inl late ↦ late ∙ sym (elim (cases_Bool (is_released_since sh (length Q) R o b)) [
      | inl y ↦ y
      | inr n ↦ absurd (let s = still_born here n in let l = ltb-true (length Q) born late in let is = s.only born told in let k = s.early in omega (arith, l, is, k))
    ])
    | inr early ↦ early ∙ sym (was_there born told (ltb-false (length Q) born early))
  ]

pub table_on : (sh : Shape) (Q R : List Record) (o : ℕ) → AreAllowed sh R → Extends Q R → IsTable Q o → IsTable R o
table_on sh Q R o h e t = (tables_stay sh Q R o h e t).there

-- counted from so many records
pub released_as : (sh : Shape) (Q R : List Record) (o b n : ℕ) (r : Option ℕ) → AreAllowed sh R → Extends Q R → n ≡ length Q → IsTable Q o → IsRowBlock sh Q o b → BornTold sh R o b r → is_later n r ≡ is_released_since sh (length Q) R o b
released_as sh Q R o b n r h e l t here told = subst (λ (m : ℕ). is_later m r ≡ is_released_since sh (length Q) R o b) (sym l) (released_told sh Q R o b h e t r here told)
