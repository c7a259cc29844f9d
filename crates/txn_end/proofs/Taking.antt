-- A step of a rollback.
use Rattle.std.proofs.Common.{◌≡◌, ℕ, zero, suc, ◌+◌, ◌<◌, ◌≤◌, Bool, true, false, cond, List, [], ◌∷◌, ◌++◌, length, take, slice_get, Option, Some, None, refl, sym, ◌∙◌, ap, ap₂, subst, arith}
use Rattle.std.specs.Prelude.{Result, Ok, Err, IfOk, IfErr}
use Rattle.seg_words.specs.Types.{Shape, UndoAddr, UndoPlace, Slot, is_shape}
use Rattle.disk_model.specs.Crash.{Meaning}
use Rattle.redo_model.specs.Records.{Record, Back, RowPart, BackPart, BackRecord}
use Rattle.redo_model.specs.Model.{Step, is_active, standing, newest_of, last_undo, undo_of_step, image, taken_back, undo_sequence, IsTable, has_extent, extents_of, IsLawful}
use Rattle.redo_laws.specs.Apart.{HasExtent}
use Rattle.redo_laws.proofs.space.ApartLaw.{extents_are_apart}
use Rattle.back_laws.specs.Backs.{FirstShows}
use Rattle.version_laws.specs.Types.{as_kept, IsInUse}
use Rattle.end_laws.specs.Types.{table_place, held_of, PartTold, BackTold, back_of, backed, backed_with, blocks_in, blocks_of_step, present_addr, extent_number, IsInExtent}
use Rattle.end_laws.proofs.Allowed.{backs_are_allowed}
use Rattle.end_laws.proofs.Telling.{backs_are_told}
use Rattle.undo_block.specs.declared.part.Part.{Part}
use Rattle.page_set.specs.declared.page.Page.{Page}
use Rattle.page_set.specs.Folded.{page_of}
use Rattle.store_core.specs.Store.{Held, IsTrue, SameLoan, has_page}
use Rattle.store_core.specs.Causes.{HasLooked, IsSoundFault}
use Rattle.store_core.specs.declared.fault.StoreFault.{StoreFault}
use Rattle.txn_end.specs.Reading.{part_in, sequence_in, entry_in, row_with, row_in, header_in, extent_in}
use Rattle.txn_end.specs.Owning.{Owns}
use Rattle.txn_end.specs.Backing.{back_part_of, blocks_of_parts, IsFirst, IsFirstOf}
use Rattle.txn_end.proofs.Given.{part_given, sequence_given, entry_given, row_given, header_given, no_header_given, extent_given, tables_few, rows_there, undo_there}

-- the shape of the store stays
pub told_later : {D : Type 0} (meaning : Meaning D) (a b : Held D) (R : List Record) (t : ℕ) (st : Step) → SameLoan meaning a b → BackTold a.shape R t st → BackTold b.shape R t st
told_later meaning a b R t st l h = subst (λ (s : Shape). BackTold s R t st) (sym l.shape) h

same_part : (x y : Part) → ◌≡◌ {A = Option Part} (Some x) (Some y) → x ≡ y
same_part x y e = cc

same_number : (x y : ℕ) → ◌≡◌ {A = Option ℕ} (Some x) (Some y) → x ≡ y
same_number x y e = cc

-- ---- one part

pub part_found : (sh : Shape) (R : List Record) (t : ℕ) (st : Step) (i : ℕ) (p : RowPart) (at : UndoAddr) → is_shape sh ≡ true → IsLawful sh R → BackTold sh R t st → st.undo ≡ at → slice_get st.parts i ≡ Some p → part_in (page_of sh R at.block) (at.nth + i) ≡ Some (as_kept (held_of st p))
part_found sh R t st i p at s h told u e = subst (λ (y : UndoAddr). part_in (page_of sh R y.block) (y.nth + i) ≡ Some (as_kept (held_of st p))) u (part_given sh R t st i p s h told e)

pub undo_found : (sh : Shape) (R : List Record) (t : ℕ) (st : Step) (at : UndoAddr) → is_shape sh ≡ true → BackTold sh R t st → st.undo ≡ at → has_page sh at.block ≡ true
undo_found sh R t st at s told u = subst (λ (y : UndoAddr). has_page sh y.block ≡ true) u (undo_there sh R st.undo.block s told.in_use)

pub part_is : (sh : Shape) (R : List Record) (t : ℕ) (st : Step) (i : ℕ) (p : RowPart) (at : UndoAddr) (x : Part) → is_shape sh ≡ true → IsLawful sh R → BackTold sh R t st → st.undo ≡ at → slice_get st.parts i ≡ Some p → part_in (page_of sh R at.block) (at.nth + i) ≡ Some x → x ≡ as_kept (held_of st p)
part_is sh R t st i p at x s h told u e f = same_part x _ (sym f ∙ part_found sh R t st i p at s h told u e)

pub entry_found : (sh : Shape) (R : List Record) (t : ℕ) (st : Step) (i : ℕ) (p : RowPart) (x : Part) → is_shape sh ≡ true → IsLawful sh R → (told : BackTold sh R t st) → (e : slice_get st.parts i ≡ Some p) → x ≡ as_kept (held_of st p) → entry_in (page_of sh R x.dba) t ≡ Some (told.part i p e).place
entry_found sh R t st i p x s h told e f = subst (λ (y : Part). entry_in (page_of sh R y.dba) t ≡ Some (told.part i p e).place) (sym f) (entry_given sh R t st i p s h (told.part i p e))

pub rows_found : (sh : Shape) (R : List Record) (t : ℕ) (st : Step) (i : ℕ) (p : RowPart) (x : Part) → is_shape sh ≡ true → IsLawful sh R → BackTold sh R t st → slice_get st.parts i ≡ Some p → x ≡ as_kept (held_of st p) → has_page sh x.dba ≡ true
rows_found sh R t st i p x s h told e f = subst (λ (y : Part). has_page sh y.dba ≡ true) (sym f) (rows_there sh R st.obj p.dba s h (told.part i p e).home)

pub back_part_is : (sh : Shape) (R : List Record) (t : ℕ) (st : Step) (i : ℕ) (p : RowPart) (x : Part) (n : ℕ) → is_shape sh ≡ true → IsLawful sh R → BackTold sh R t st → slice_get st.parts i ≡ Some p → x ≡ as_kept (held_of st p) → entry_in (page_of sh R x.dba) t ≡ Some n → ◌≡◌ {A = BackPart} (record { dba = x.dba; slot = x.slot; entry = Some n; new = x.old }) (back_part_of p)
back_part_is sh R t st i p x n s h told e f g =
    let place : ◌≡◌ {A = Option ℕ} (Some n) p.entry = sym g ∙ entry_found sh R t st i p x s h told e f ∙ sym (told.part i p e).stated in
    ap (λ (y : Part). part_with y (Some n)) f ∙ ap (λ (o : Option ℕ). part_with (as_kept (held_of st p)) o) place
  where
    part_with : Part → Option ℕ → BackPart
    part_with y o = record { dba = y.dba; slot = y.slot; entry = o; new = y.old }

-- ---- the address of the record before

pub address_is : (sh : Shape) (R : List Record) (p : UndoPlace) (n : ℕ) → is_shape sh ≡ true → IsLawful sh R → IsInUse sh R p.block → sequence_in (page_of sh R p.block) ≡ Some n → ◌≡◌ {A = Option UndoAddr} (Some (record { block = p.block; seq = n; nth = p.nth })) (present_addr R (Some p))
address_is sh R p n s h used e =
    let same : n ≡ undo_sequence R p.block = same_number n (undo_sequence R p.block) (sym e ∙ sequence_given sh R p.block s h used) in
    ap (λ (m : ℕ). some_addr (record { block = p.block; seq = m; nth = p.nth })) same
  where
    some_addr : UndoAddr → Option UndoAddr
    some_addr x = Some x
