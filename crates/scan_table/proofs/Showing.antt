-- What slots and pages show to a reader.
use Rattle.std.proofs.Common.{◌≡◌, ℕ, ◌<◌, ◌≤◌, true, false, leb, List, length, Option, Some, None, option_map, refl, sym, ◌∙◌, ap, subst, inl, inr, true≢false, leb-true, leb-false}
use Rattle.seg_words.proofs.Lemmas.{cases_Bool}
use Rattle.seg_words.specs.Types.{Shape, Slot, Block, UndoAddr}
use Rattle.redo_model.specs.Records.{Record}
use Rattle.redo_model.specs.Model.{Made, counts, first_counted, image, slot_count}
use Rattle.redo_model.proofs.Bridge.{count_is}
use Rattle.row_block.specs.Types.{RowPage}
use Rattle.version_laws.specs.Types.{Found, HoldsRows, end_from}
use Rattle.version_laws.proofs.SlotLaw.{slots_past_the_last}
use Rattle.std.specs.Prelude.{Result, Ok, Err, IfOk}
use Rattle.version_read.specs.Walking as walking
use Rattle.version_read.specs.Walking.{IsReader, IsRefusedEntry, SeesRow, SeesNone, StepsTo, txn_or_none}
use Rattle.version_read.specs.declared.version.Version as versions
use Rattle.version_read.specs.declared.version.Version.TheVariants as version
use Rattle.scan_table.specs.declared.reader.Shown as showns
use Rattle.scan_table.specs.declared.reader.Shown.TheVariants as shown
use Rattle.page_set.specs.declared.page.Page.{Page}
use Rattle.page_set.specs.declared.page.Page.TheVariants.{Rows}
use Rattle.page_set.specs.Folded.{page_of}
use Rattle.store_laws.proofs.KindsLaw.{rows_stand, rows_are_held}
use Rattle.history_text.specs.declared.outcome.RowOut.{RowOut}
use Rattle.scan_table.specs.declared.reader.Reader.{Reader}
use Rattle.scan_table.specs.Reading.{IsReading, Shows, ShowsAs, SlotGives, row_of, row_out, rows_of}

pub reader_of : (sh : Shape) (R : List Record) (q : Reader) (o b : ℕ) → IsReading sh R q o b → IsReader q.shape R q.own
reader_of sh R q o b h = record { shape = h.within; allowed = h.lawful.allowed; reader = h.own_is }

-- images

pub gives_row : (R : List Record) (b k s t : ℕ) (i : Slot) → SeesRow R b k s t i → SlotGives R b k s t (Some (row_of i))
gives_row R b k s t i v = record { ends = v.ends ∙ ap Found v.seen; row_is = sym (ap (option_map row_out) v.row) }

pub gives_copy : (R : List Record) (b k s t : ℕ) (i : Slot) (row : RowOut) → SeesRow R b k s t i → row ≡ row_of i → SlotGives R b k s t (Some row)
gives_copy R b k s t i row v e = subst (λ (r : RowOut). SlotGives R b k s t (Some r)) (sym e) (gives_row R b k s t i v)

pub gives_none : (R : List Record) (b k s t : ℕ) → SeesNone R b k s t → SlotGives R b k s t None
gives_none R b k s t v = record { ends = v.ends; row_is = sym (ap (option_map row_out) v.row) }

past_last : (R : List Record) (b k s t : ℕ) → slot_count R b ≤ k → SlotGives R b k s t None
past_last R b k s t l =
    let u = slots_past_the_last R b k l in
    record {
      ends = subst (λ (ms : List Made). end_from R s t (image R b k) ms ≡ Found (first_counted (λ w a. counts R s t w) (image R b k) ms)) (sym u.unmade) refl;
      row_is = sym (ap (option_map row_out) (u.row s t));
    }

pub no_slot : (R : List Record) (b k s t : ℕ) → (k < slot_count R b → false ≡ true) → SlotGives R b k s t None
no_slot R b k s t h = elim (cases_Bool (leb (slot_count R b) k)) [
  | inl y ↦ past_last R b k s t (leb-true (slot_count R b) k y)
  | inr f ↦ absurd (true≢false (sym (h (leb-false (slot_count R b) k f))))
]

pub same_image : (i j : Slot) → ◌≡◌ {A = Option Slot} (Some i) (Some j) → i ≡ j
same_image i j e = cc

shows_as : (R : List Record) (q : Reader) (b k : ℕ) (v : versions.Version) (x : showns.Shown) → walking.Shows q.shape R b k q.at q.own v → ShowsAs v x → Shows R q b k x
shows_as R q b k (version.Row i) (shown.Row row) w e = gives_copy R b k q.at (txn_or_none q.own) i.now row w e
shows_as R q b k version.Nothing shown.Nothing w e = gives_none R b k q.at (txn_or_none q.own) w
shows_as R q b k (version.Step a) (shown.Below c) w e = subst (λ (z : UndoAddr). StepsTo q.shape R b k q.at q.own z) (sym e) w
shows_as R q b k (version.TooOldEntry u) (shown.TooOldEntry y) w e = subst (λ z. IsRefusedEntry R b k q.at (txn_or_none q.own) z) (sym e) w
shows_as R q b k _ _ w e = absurd e

pub shown_told : {E : Type 0} (R : List Record) (q : Reader) (b k : ℕ) (v : versions.Version) (r : Result showns.Shown E) → walking.Shows q.shape R b k q.at q.own v → IfOk r (ShowsAs v) → IfOk r (Shows R q b k)
shown_told R q b k v (Ok x) w e = shows_as R q b k v x w e
shown_told R q b k v (Err f) w e = tt

-- pages

pub rows_held : {A : Type 0} (value : A → RowPage) (sh : Shape) (R : List Record) (b : ℕ) (p : Page) (x : A) → p ≡ page_of sh R b → ◌≡◌ {A = Option RowPage} (Some (value x)) (rows_of p) → HoldsRows R b (value x)
rows_held value sh R b (Rows r) x e t = let same : value x ≡ r = cc in subst (HoldsRows R b) (sym same) (rows_are_held sh R b r (sym e))
rows_held value sh R b _ x e t = absurd cc

pub no_rows : (sh : Shape) (R : List Record) (q : Reader) (o b : ℕ) (p : Page) → IsReading sh R q o b → p ≡ page_of q.shape R b → ◌≡◌ {A = Option RowPage} None (rows_of p) → ⊥
no_rows sh R q o b p h e t =
    let has = rows_stand q.shape R o b h.within h.lawful h.here in
    (let z : ◌≡◌ {A = Option RowPage} None (Some has.rows) = t ∙ ap rows_of (e ∙ has.page) in absurd cc)

pub slots_counted : (R : List Record) (b count : ℕ) (r : RowPage) → HoldsRows R b r → count ≡ length r.block.slots → count ≡ slot_count R b
slots_counted R b count r h c = c ∙ ap (λ (x : Block). length x.slots) h.block ∙ count_is R b
