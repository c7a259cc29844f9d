-- What each cause excludes, and what tells it.
use Rattle.std.proofs.Common.{◌≡◌, ◌≢◌, ◌⊎◌, ℕ, suc, ◌+◌, ◌<◌, Bool, true, false, cond, not, ◌&&◌, ◌||◌, ◌==◌, nat_lt, nat_le, if◌then◌else◌, List, [], ◌∷◌, length, map, is_none, MatchOption, Option, Some, None, refl, sym, ◌∙◌, ap, ap₂, subst, arith, inl, inr, true≢false, ne_eqb, le-ltb, ltb-false, leb-true, leb-false}
use Rattle.seg_words.proofs.Lemmas.{cases_Bool, cond-true, and_left, and_right, or_parts, eqb-false}
use Rattle.seg_words.specs.Types.{Shape, Kind, Row, Body, Rowid, Slot, ListEntry, By, is_spare, names, other_entry, made_entry, position_or_len, LIST_ENTRY_SIZE, MOST_LIST_ENTRIES}
use Rattle.redo_model.specs.Records.{Record, RowBody}
use Rattle.redo_model.specs.Model.{Step, is_active, ended_in, standing, newest_on, holds_row, row_bytes, image, row_in, entries_of, block_of, free_of, at_place, IsFreeFor, MayChangeRow, Enters, UpdateAllowed, MigrateAllowed, MigratePlain, MigrateAgain, ReturnAllowed, DeleteAllowed, number_or_zero, AreAllowed}
use Rattle.redo_model.specs.AllowedRows.{migrates_plain, migrates_again, deletes_plain, deletes_migrated}
use Rattle.redo_model.proofs.Bridge.{entry_count_is}
use Rattle.redo_laws.proofs.lists.Every.{Every}
use Rattle.redo_laws.proofs.numbers.TxnTable.{txn_table}
use Rattle.redo_laws.proofs.room.RoomLaw.{blocks_have_room}
use Rattle.redo_laws.proofs.steps.Facts.{Found}
use Rattle.redo_laws.proofs.spread.Fitting.{now_found}
use Rattle.redo_laws.proofs.spread.Whole.{whole}
use Rattle.version_laws.proofs.Begun.{none_place}
use Rattle.version_laws.proofs.SlotLaw.{begun_from_one}
use Rattle.change_laws.specs.Drafts.{Inserts, Updates, Migrates, Returns, Deletes, Stand, Whole, Apart, holder_of}
use Rattle.change_laws.specs.Ready.{lacks_entry, first_lacking, blocks_at, InPlace, ToHead, ToOther, fits_at, path_past, StandsAt}
use Rattle.change_laws.proofs.ReadyLaw.{holds_at}
use Rattle.change_laws.specs.Causes.{IsBusy, AreOthers, txns_of, IsNoSlot, LackIsNoSlot, ChangeNeeds, ChangesNeed, RowsStandOnce}

-- where a row stands

holds_in : (i : Slot) (n : ℕ) → holds_row i.kind ≡ true → i.row ≡ n → row_in i ≡ Some (n, i.bytes)
holds_in i n h e = cond-true _ _ _ h ∙ ap (λ m. Some (m, i.bytes)) e

same_found : (b k c l : ℕ) (x y : List ℕ) → ◌≡◌ {A = Option Found} (Some (b, k, x)) (Some (c, l, y)) → (b ≡ c) × (k ≡ l)
same_found b k c l x y e = (ap block_in e, ap slot_in e)
  where
    block_in : Option Found → ℕ
    block_in o = elim o as (λ _. ℕ) [ None ↦ 0 | Some f ↦ f.0 ]

    slot_in : Option Found → ℕ
    slot_in o = elim o as (λ _. ℕ) [ None ↦ 0 | Some f ↦ f.1 ]

-- no two slots hold one row
pub held_once : (sh : Shape) (R : List Record) (n : ℕ) (p q : Rowid) → AreAllowed sh R → holds_row (image R p.dba p.slot).kind ≡ true → (image R p.dba p.slot).row ≡ n → holds_row (image R q.dba q.slot).kind ≡ true → (image R q.dba q.slot).row ≡ n → p ≡ q
held_once sh R n p q h a b c d =
    let fit = (whole sh R h).fit in
    let x = now_found sh R p.dba p.slot n (image R p.dba p.slot).bytes fit (holds_in (image R p.dba p.slot) n a b) in
    let y = now_found sh R q.dba q.slot n (image R q.dba q.slot).bytes fit (holds_in (image R q.dba q.slot) n c d) in
    let same = same_found p.dba p.slot q.dba q.slot (image R p.dba p.slot).bytes (image R q.dba q.slot).bytes (sym x ∙ y) in
    ap₂ at_place same.0 same.1

row_not_body : (k : Kind) → k ≡ Row → k ≡ Body → ⊥
row_not_body k a b = let z : Row ≡ Body = sym a ∙ b in cc

same_link : (p q : Rowid) → ◌≡◌ {A = Option Rowid} (Some p) (Some q) → p ≡ q
same_link p q e = cc

same_holder : (sh : Shape) (R : List Record) (n : ℕ) (x y : Stand) → AreAllowed sh R → StandsAt R n x → StandsAt R n y → holder_of x ≡ holder_of y
same_holder sh R n x y h a b = let s = holds_at R n x a in let t = holds_at R n y b in held_once sh R n (holder_of x) (holder_of y) h s.0 s.1 t.0 t.1

apart_clash : (sh : Shape) (R : List Record) (n : ℕ) (p head body : Rowid) → AreAllowed sh R → StandsAt R n (Whole p) → StandsAt R n (Apart head body) → ⊥
apart_clash sh R n p head body h a b =
    let same : p ≡ body = same_holder sh R n (Whole p) (Apart head body) h a b in
    row_not_body (image R body.dba body.slot).kind (ap (λ (q : Rowid). (image R q.dba q.slot).kind) (sym same) ∙ a.kind) b.body_kind

pub rows_stand_once : RowsStandOnce
rows_stand_once sh R n (Whole p) (Whole q) h a b = ap (λ (r : Rowid). Whole r) (same_holder sh R n (Whole p) (Whole q) h a b)
rows_stand_once sh R n (Whole p) (Apart head body) h a b = absurd (apart_clash sh R n p head body h a b)
rows_stand_once sh R n (Apart head body) (Whole q) h a b = absurd (apart_clash sh R n q head body h b a)
rows_stand_once sh R n (Apart head body) (Apart top low) h a b =
    let same : body ≡ low = same_holder sh R n (Apart head body) (Apart top low) h a b in
    let first : head ≡ top = same_link head top (sym a.body_link ∙ ap (λ (q : Rowid). (image R q.dba q.slot).link) same ∙ b.body_link) in
    ap₂ Apart first same

-- a busy row

busy_not : (R : List Record) (t u : ℕ) (o : Option Step) (st : Step) → MatchOption o (Unit {0}) (λ x. IsFreeFor R t x.by) → o ≡ Some st → st.by ≡ By u → is_active R u ≡ true → u ≢ t → ⊥
busy_not R t u None st f e b on other = let z : ◌≡◌ {A = Option Step} None (Some st) = e in cc
busy_not R t u (Some x) st f e b on other =
    let same : x ≡ st = (let z : ◌≡◌ {A = Option Step} (Some x) (Some st) = e in cc) in
    let free : IsFreeFor R t (By u) = subst (IsFreeFor R t) (ap (λ (s : Step). s.by) same ∙ b) f in
    other (free on)

not_busy : (R : List Record) (w : RowBody) → MayChangeRow R w → (u : ℕ) → IsBusy R (Some w.txn) w.row u → ⊥
not_busy R w m u b = busy_not R w.txn u (newest_on (standing R) w.row) b.step m.free b.newest b.by_is b.active b.other

-- entries

has_one : (R : List Record) (t b i : ℕ) → Enters R t b i → lacks_entry R (Some t) b ≡ false
has_one R t b i e = ap (λ (o : Option ℕ). is_none o) e.entry_is

one_had : (R : List Record) (own : Option ℕ) (b : ℕ) → lacks_entry R own b ≡ false → first_lacking R own (b ∷ []) ≡ None
one_had R own b e = ap (λ v. cond v (Some b) None) e

two_had : (R : List Record) (own : Option ℕ) (b c : ℕ) → lacks_entry R own b ≡ false → lacks_entry R own c ≡ false → first_lacking R own (b ∷ c ∷ []) ≡ None
two_had R own b c e f = ap₂ (λ u v. cond u (Some b) (cond v (Some c) None)) e f

-- an update in place

update_needs : (sh : Shape) (R : List Record) (w : RowBody) (x : Stand) → AreAllowed sh R → UpdateAllowed sh R w → StandsAt R w.row x → ChangeNeeds R Updates w x
update_needs sh R w x h a s =
    let own : Option ℕ = Some w.txn in
    let len = length (row_bytes w.parts) in
    let at = holds_at R w.row x s in
    let same : holder_of x ≡ at_place a.block a.slot = held_once sh R w.row (holder_of x) (at_place a.block a.slot) h at.0 at.1 a.holds a.row in
    let bytes : row_bytes w.parts ≡ a.bytes = ap row_bytes a.parts ∙ cond-true _ _ _ a.holds in
    let fits : fits_at R own (holder_of x) len ≡ true = ap₂ (λ (q : Rowid) (bs : List ℕ). fits_at R own q (length bs)) same bytes ∙ a.fits in
    let has : lacks_entry R own (holder_of x).dba ≡ false = ap (λ (q : Rowid). lacks_entry R own q.dba) same ∙ has_one R w.txn a.block a.entry a.enters in
    record {
      not_busy = not_busy R w a.change;
      path = ap (λ v. cond v InPlace (path_past R own x len)) fits;
      entries = ap (λ v. first_lacking R own (cond v ((holder_of x).dba ∷ []) (blocks_at x))) fits ∙ one_had R own (holder_of x).dba has;
    }

-- to another block

plain_needs : (sh : Shape) (R : List Record) (w : RowBody) → (a : MigratePlain sh R w) → ChangeNeeds R Migrates w (Whole (at_place a.block a.slot))
plain_needs sh R w a =
    let own : Option ℕ = Some w.txn in
    let p = at_place a.block a.slot in
    let len = length (row_bytes w.parts) in
    let bytes : row_bytes w.parts ≡ a.bytes = ap row_bytes a.parts in
    let full : fits_at R own p len ≡ false = ap (λ (bs : List ℕ). fits_at R own p (length bs)) bytes ∙ a.no_room in
    record {
      not_busy = not_busy R w a.change;
      path = ap (λ v. cond v InPlace ToOther) full;
      entries = ap (λ v. first_lacking R own (cond v (a.block ∷ []) (a.block ∷ []))) full ∙ one_had R own a.block (has_one R w.txn a.block a.entry a.enters);
    }

again_needs : (sh : Shape) (R : List Record) (w : RowBody) → (a : MigrateAgain sh R w) → ChangeNeeds R Migrates w (Apart (at_place a.head_block a.head_slot) (at_place a.body_block a.body_slot))
again_needs sh R w a =
    let own : Option ℕ = Some w.txn in
    let top = at_place a.head_block a.head_slot in
    let low = at_place a.body_block a.body_slot in
    let len = length (row_bytes w.parts) in
    let bytes : row_bytes w.parts ≡ a.bytes = ap row_bytes a.parts in
    let full : fits_at R own low len ≡ false = ap (λ (bs : List ℕ). fits_at R own low (length bs)) bytes ∙ a.no_room in
    let none : fits_at R own top len ≡ false = ap (λ (bs : List ℕ). fits_at R own top (length bs)) bytes ∙ a.no_room_at_head in
    record {
      not_busy = not_busy R w a.change;
      path = ap₂ (λ u v. cond u InPlace (cond v ToHead ToOther)) full none;
      entries = ap (λ v. first_lacking R own (cond v (a.body_block ∷ []) (a.body_block ∷ a.head_block ∷ []))) full
          ∙ two_had R own a.body_block a.head_block (has_one R w.txn a.body_block a.body_entry a.body_enters) (has_one R w.txn a.head_block a.head_entry a.head_enters);
    }

migrate_needs : (sh : Shape) (R : List Record) (w : RowBody) (x : Stand) → AreAllowed sh R → MigrateAllowed sh R w → StandsAt R w.row x → ChangeNeeds R Migrates w x
migrate_needs sh R w x h (migrates_plain a) s = subst (ChangeNeeds R Migrates w) (rows_stand_once sh R w.row (Whole (at_place a.block a.slot)) x h a.plain s) (plain_needs sh R w a)
migrate_needs sh R w x h (migrates_again a) s = subst (ChangeNeeds R Migrates w) (rows_stand_once sh R w.row (Apart (at_place a.head_block a.head_slot) (at_place a.body_block a.body_slot)) x h a.migrated s) (again_needs sh R w a)

-- back to the head

return_needs : (sh : Shape) (R : List Record) (w : RowBody) (x : Stand) → AreAllowed sh R → ReturnAllowed sh R w → StandsAt R w.row x → ChangeNeeds R Returns w x
return_needs sh R w x h a s =
    let own : Option ℕ = Some w.txn in
    let top = at_place a.head_block a.head_slot in
    let low = at_place a.body_block a.body_slot in
    let len = length (row_bytes w.parts) in
    let bytes : row_bytes w.parts ≡ a.bytes = ap row_bytes a.parts in
    let full : fits_at R own low len ≡ false = ap (λ (bs : List ℕ). fits_at R own low (length bs)) bytes ∙ a.no_room in
    let fits : fits_at R own top len ≡ true = ap (λ (bs : List ℕ). fits_at R own top (length bs)) bytes ∙ a.fits in
    subst (ChangeNeeds R Returns w) (rows_stand_once sh R w.row (Apart top low) x h a.migrated s) (record {
      not_busy = not_busy R w a.change;
      path = ap₂ (λ u v. cond u InPlace (cond v ToHead ToOther)) full fits;
      entries = ap (λ v. first_lacking R own (cond v (a.body_block ∷ []) (a.body_block ∷ a.head_block ∷ []))) full
          ∙ two_had R own a.body_block a.head_block (has_one R w.txn a.body_block a.body_entry a.body_enters) (has_one R w.txn a.head_block a.head_entry a.head_enters);
    })

-- away

delete_needs : (sh : Shape) (R : List Record) (w : RowBody) (x : Stand) → AreAllowed sh R → DeleteAllowed sh R w → StandsAt R w.row x → ChangeNeeds R Deletes w x
delete_needs sh R w x h (deletes_plain a) s = subst (ChangeNeeds R Deletes w) (rows_stand_once sh R w.row (Whole (at_place a.block a.slot)) x h a.plain s) (record {
  not_busy = not_busy R w a.change;
  path = tt;
  entries = one_had R (Some w.txn) a.block (has_one R w.txn a.block a.entry a.enters);
})
delete_needs sh R w x h (deletes_migrated a) s = subst (ChangeNeeds R Deletes w) (rows_stand_once sh R w.row (Apart (at_place a.head_block a.head_slot) (at_place a.body_block a.body_slot)) x h a.migrated s) (record {
  not_busy = not_busy R w a.change;
  path = tt;
  entries = two_had R (Some w.txn) a.body_block a.head_block (has_one R w.txn a.body_block a.body_entry a.body_enters) (has_one R w.txn a.head_block a.head_entry a.head_enters);
})

pub changes_need : ChangesNeed
changes_need sh R Inserts w x h o a s = absurd o
changes_need sh R Updates w x h o a s = update_needs sh R w x h a s
changes_need sh R Migrates w x h o a s = migrate_needs sh R w x h a s
changes_need sh R Returns w x h o a s = return_needs sh R w x h a s
changes_need sh R Deletes w x h o a s = delete_needs sh R w x h a s

-- a block that has no entry

none_found : {A : Type 0} (f : A → Bool) (xs : List A) → nat_lt (position_or_len f xs) (length xs) ≡ false → Every (λ x. f x ≡ false) xs
none_found f [] h = tt
none_found f (x ∷ xs) h =
    (elim (f x) as (λ v. nat_lt (cond (not v) (1 + position_or_len f xs) 0) (suc (length xs)) ≡ false → (v ≡ false) × Every (λ x. f x ≡ false) xs) [
      | true ↦ λ e. absurd (let l = ltb-false 0 (suc (length xs)) e in omega (arith, l))
      | false ↦ λ e. (refl, none_found f xs (let l = ltb-false (1 + position_or_len f xs) (suc (length xs)) e in le-ltb (position_or_len f xs) (length xs) (omega (arith, l))))
    ]) h

some_place : (v : Bool) (n : ℕ) (o : Option ℕ) → is_none (if v then Some n else o) ≡ true → (v ≡ false) × (is_none o ≡ true)
some_place true n o e = absurd (true≢false (sym e))
some_place false n o e = (refl, e)

no_place : (v : Bool) (n : ℕ) → is_none (if v then Some n else None) ≡ true → v ≡ false
no_place true n e = absurd (true≢false (sym e))
no_place false n e = refl

abbrev Spares : List Record → List ListEntry → Type 0
Spares R es = Every (λ (e : ListEntry). is_spare (ended_in R) e ≡ false) es

abbrev Strange : Option ℕ → List ListEntry → Type 0
Strange own es = Every (λ (e : ListEntry). names (number_or_zero own) e ≡ false) es

live_of : (v : Bool) → not v ≡ false → v ≡ true
live_of true e = refl
live_of false e = absurd (true≢false e)

others_of : (R : List Record) (own : Option ℕ) (es : List ListEntry) → Spares R es → Strange own es → AreOthers R own (map (λ (e : ListEntry). e.txn) es)
others_of R own [] s n = tt
others_of R own (e ∷ es) s n = ((live_of (is_active R e.txn) (or_parts (e.txn == 0) (ended_in R e.txn) s.0).1, eqb-false e.txn (number_or_zero own) n.0), others_of R own es s.1 n.1)

zero_strange : (R : List Record) (es : List ListEntry) → Spares R es → Strange None es
zero_strange R [] s = tt
zero_strange R (e ∷ es) s = ((or_parts (e.txn == 0) (ended_in R e.txn) s.0).0, zero_strange R es s.1)

count_is : (es : List ListEntry) → length (map (λ (e : ListEntry). e.txn) es) ≡ length es
count_is [] = refl
count_is (e ∷ es) = ap (λ n. suc n) (count_is es)

no_more_of : (sh : Shape) (R : List Record) (b : ℕ) → AreAllowed sh R → (nat_lt (length (entries_of R b)) MOST_LIST_ENTRIES && nat_le LIST_ENTRY_SIZE (free_of R b)) ≡ false → (length (txns_of R b) ≡ MOST_LIST_ENTRIES) ⊎ (free_of R b < LIST_ENTRY_SIZE)
no_more_of sh R b h e = elim (cases_Bool (nat_lt (length (entries_of R b)) MOST_LIST_ENTRIES)) [
  | inr f ↦
      let l = ltb-false (length (entries_of R b)) MOST_LIST_ENTRIES f in
      let m = (blocks_have_room sh R b h).entries_to in
      let n = entry_count_is R b in
      let c = count_is (entries_of R b) in
      inl (omega (arith, l, m, n, c))
  | inl y ↦ inr (leb-false LIST_ENTRY_SIZE (free_of R b) (sym (ap (λ v. v && nat_le LIST_ENTRY_SIZE (free_of R b)) y) ∙ e))
]

lacks_none : (sh : Shape) (R : List Record) (own : Option ℕ) (b : ℕ) → AreAllowed sh R → Strange own (entries_of R b) → is_none (other_entry (ended_in R) (block_of R b)) ≡ true → IsNoSlot R own b (txns_of R b)
lacks_none sh R own b h n e =
    let x = some_place (nat_lt (position_or_len (is_spare (ended_in R)) (entries_of R b)) (length (entries_of R b))) _ (made_entry (ended_in R) (block_of R b)) e in
    let s = none_found (is_spare (ended_in R)) (entries_of R b) x.0 in
    record {
      named = refl;
      others = others_of R own (entries_of R b) s n;
      no_more = no_more_of sh R b h (no_place (nat_lt (length (entries_of R b)) MOST_LIST_ENTRIES && nat_le LIST_ENTRY_SIZE (free_of R b)) (length (entries_of R b)) x.1);
    }

spare_zero : (sh : Shape) (R : List Record) (b : ℕ) → AreAllowed sh R → is_none (other_entry (ended_in R) (block_of R b)) ≡ true → Strange None (entries_of R b)
spare_zero sh R b h e =
    let x = some_place (nat_lt (position_or_len (is_spare (ended_in R)) (entries_of R b)) (length (entries_of R b))) _ (made_entry (ended_in R) (block_of R b)) e in
    zero_strange R (entries_of R b) (none_found (is_spare (ended_in R)) (entries_of R b) x.0)

lacks_told : (sh : Shape) (R : List Record) (own : Option ℕ) (b : ℕ) → AreAllowed sh R → lacks_entry R own b ≡ true → IsNoSlot R own b (txns_of R b)
lacks_told sh R None b h e = lacks_none sh R None b h (spare_zero sh R b h e) e
lacks_told sh R (Some t) b h e =
    let x = some_place (nat_lt (position_or_len (names t) (entries_of R b)) (length (entries_of R b))) _ (other_entry (ended_in R) (block_of R b)) e in
    lacks_none sh R (Some t) b h (none_found (names t) (entries_of R b) x.0) x.1

-- and the other way

spares_from : (sh : Shape) (R : List Record) (own : Option ℕ) (es : List ListEntry) → AreAllowed sh R → AreOthers R own (map (λ (e : ListEntry). e.txn) es) → Spares R es
spares_from sh R own [] h o = tt
spares_from sh R own (e ∷ es) h o =
    let l = begun_from_one sh R e.txn h ((txn_table sh R h).begun e.txn o.0.0) in
    let z : (e.txn == 0) ≡ false = ne_eqb e.txn 0 (λ q. absurd (omega (arith, l, q))) in
    (ap₂ (λ u v. u || v) z (ap not o.0.0), spares_from sh R own es h o.1)

strange_from : (R : List Record) (own : Option ℕ) (es : List ListEntry) → AreOthers R own (map (λ (e : ListEntry). e.txn) es) → Strange own es
strange_from R own [] o = tt
strange_from R own (e ∷ es) o = (ne_eqb e.txn (number_or_zero own) o.0.1, strange_from R own es o.1)

never : (f : ListEntry → Bool) (es : List ListEntry) → Every (λ x. f x ≡ false) es → nat_lt (position_or_len f es) (length es) ≡ false
never f es h = ap (λ n. nat_lt n (length es)) (none_place f es h) ∙ le-ltb (length es) (length es) (omega arith)

none_made : (R : List Record) (b : ℕ) → (length (txns_of R b) ≡ MOST_LIST_ENTRIES) ⊎ (free_of R b < LIST_ENTRY_SIZE) → (nat_lt (length (entries_of R b)) MOST_LIST_ENTRIES && nat_le LIST_ENTRY_SIZE (free_of R b)) ≡ false
none_made R b (inl e) = and_left (nat_lt (length (entries_of R b)) MOST_LIST_ENTRIES) _ (let c = count_is (entries_of R b) in le-ltb (length (entries_of R b)) MOST_LIST_ENTRIES (omega (arith, e, c)))
none_made R b (inr l) = and_right (nat_lt (length (entries_of R b)) MOST_LIST_ENTRIES) (nat_le LIST_ENTRY_SIZE (free_of R b)) (past LIST_ENTRY_SIZE (free_of R b) l)
  where
    past : (m n : ℕ) → n < m → nat_le m n ≡ false
    past m n l = elim (cases_Bool (nat_le m n)) [ inl y ↦ absurd (let k = leb-true m n y in omega (arith, k, l)) | inr f ↦ f ]

other_none : (R : List Record) (b : ℕ) → Spares R (entries_of R b) → (length (txns_of R b) ≡ MOST_LIST_ENTRIES) ⊎ (free_of R b < LIST_ENTRY_SIZE) → is_none (other_entry (ended_in R) (block_of R b)) ≡ true
other_none R b s m =
    ap (λ v. is_none (if v then Some (position_or_len (is_spare (ended_in R)) (entries_of R b)) else made_entry (ended_in R) (block_of R b))) (never (is_spare (ended_in R)) (entries_of R b) s)
    ∙ ap (λ v. is_none (if v then Some (length (entries_of R b)) else None)) (none_made R b m)

lacks_from : (sh : Shape) (R : List Record) (own : Option ℕ) (b : ℕ) → AreAllowed sh R → IsNoSlot R own b (txns_of R b) → lacks_entry R own b ≡ true
lacks_from sh R None b h n = other_none R b (spares_from sh R None (entries_of R b) h n.others) n.no_more
lacks_from sh R (Some t) b h n =
    ap (λ v. is_none (if v then Some (position_or_len (names t) (entries_of R b)) else other_entry (ended_in R) (block_of R b))) (never (names t) (entries_of R b) (strange_from R (Some t) (entries_of R b) n.others))
    ∙ other_none R b (spares_from sh R (Some t) (entries_of R b) h n.others) n.no_more

pub lack_is_no_slot : LackIsNoSlot
lack_is_no_slot sh R own b h = record {
  lacks = λ e. lacks_told sh R own b h e;
  has = λ txns n. lacks_from sh R own b h (subst (IsNoSlot R own b) n.named n);
}
