-- What a row block answers of what is written over.
use Rattle.std.proofs.Common.{◌≡◌, ℕ, ◌<◌, Bool, true, false, List, length, get_or, Option, sym, ◌∙◌, ap, arith}
use Rattle.std.specs.List.{position_or_len}
use Rattle.std.proofs.lemmas.List.Sums.{position_or_len_is}
use Rattle.seg_words.specs.Types.{Slot, new_slot}
use Rattle.row_block.specs.RowPage.{RowPage}
use Rattle.txn_block.specs.Types.{TxnTable}
use Rattle.version_laws.specs.Types.{ended_by}
use Rattle.page_set.specs.declared.page.Page.{Page}
use Rattle.page_set.specs.declared.page.Page.TheVariants.{Rows}
use Rattle.row_change.specs.declared.replaced.Replaced.{Replaced}
use Rattle.row_change.specs.Reading.{slot_or, replaced_at, replaced_in}

pub replaced_same : (q e : TxnTable) (t len slot : ℕ) (k : Option ℕ) (page : Page) (rows : RowPage) (x : Option Replaced) → page ≡ Rows rows → e ≡ q → slot ≡ slot_or (ended_by e) rows.block k → x ≡ replaced_at (ended_by e) rows.block t slot len → x ≡ replaced_in q t k len page
replaced_same q e t len slot k page rows x p s r f =
    f ∙ ap (λ n. replaced_at (ended_by e) rows.block t n len) r
    ∙ ap (λ (y : TxnTable). replaced_at (ended_by y) rows.block t (slot_or (ended_by y) rows.block k) len) s
    ∙ ap (λ (y : Page). replaced_in q t k len y) (sym p)

-- the slot that is used is the first reusable one
pub first_reusable : (p : Slot → Bool) (xs : List Slot) (n end : ℕ) (b : Bool) → n < end → end ≡ length xs → b ≡ p (get_or xs n new_slot) → b ≡ true → ((k : ℕ) → k < n → p (get_or xs k new_slot) ≡ false) → n ≡ position_or_len p xs
first_reusable p xs n end b l e here is below = sym (position_or_len_is p xs n new_slot (omega (arith, l, e)) below (λ _. sym here ∙ is))

-- or there is none
pub none_reusable : (p : Slot → Bool) (xs : List Slot) (n m : ℕ) → n ≡ length xs → m ≡ length xs → ((k : ℕ) → k < n → p (get_or xs k new_slot) ≡ false) → m ≡ position_or_len p xs
none_reusable p xs n m e f below = f ∙ sym e ∙ sym (position_or_len_is p xs n new_slot (omega (arith, e)) below (λ l. absurd (omega (arith, l, e))))
