-- The forms of the fields of a record.
use Rattle.std.proofs.Common.{◌≡◌, ℕ, zero, suc, ◌^◌, ◌<◌, ◌≤◌, Bool, true, false, cond, eqb, leb, ◌&&◌, List, [], ◌∷◌, ◌++◌, length, Option, Some, None, refl, sym, ap, subst, arith, inl, inr, w32, w64, eqb-true, ne_eqb, leb-true, le-leb}
use Rattle.seg_words.proofs.Lemmas.{cases_Bool, eqb-false}
use Rattle.seg_words.specs.Types.{Slot, Kind, Empty, Row, Head, Body, Writer, By, At, UndoAddr, Rowid, UndoPlace, kind_code, kind_from, writer_tag, writer_number, writer_from, undo_or_zeros, link_or_zeros, MOST_TABLES}
use Rattle.redo_record.specs.Types.{big_endian, address, flag, entry_code, block_or_zero, place_or_zeros, place_bytes, image, IsTableNumber, IsAddress, IsUndo, IsPlace, IsLink, IsBlock, IsEntry, IsImage, is_obj, obj_at, is_code, code_at, flag_from, flag_at, entry_from, entry_at, block_from, block_at, address_of, address_at, undo_from, undo_at, place_from, place_at, link_from, link_at, kind_at, writer_at, slot_of, image_at}
use Rattle.redo_record.proofs.Laws.{Spells, byte_spells, text_spells, spells16, spells32, spells64, both_spell, made_spell, chosen_spell, tested_spell, some_is, test_some}

-- a conjunction of tests
pub and_true : (a b : Bool) → (a && b) ≡ true → (a ≡ true) × (b ≡ true)
and_true true true e = (refl, refl)
and_true true false e = absurd cc
and_true false true e = absurd cc
and_true false false e = absurd cc

pub obj_spells : Spells obj_at (λ n. n ∷ []) IsTableNumber
unfolding obj_at
obj_spells = tested_spell is_obj IsTableNumber byte_spells
    (λ n h t. let p = and_true (leb 1 n) (leb n MOST_TABLES) t in (leb-true 1 n p.0, leb-true n MOST_TABLES p.1))
    (λ n h. rw (le-leb 1 n h.0, le-leb n MOST_TABLES h.1) refl)
    (λ n h. omega (arith, h.1))

pub code_spells : Spells code_at (λ n. n ∷ []) (λ n. n ≤ 5)
unfolding code_at
code_spells = tested_spell is_code (λ n. n ≤ 5) byte_spells (λ n h t. leb-true n 5 t) (λ n h. le-leb n 5 h) (λ n h. omega (arith, h))

flag_only : (n : ℕ) (b : Bool) → flag_from n ≡ Some b → flag b ≡ n
flag_only zero true e = absurd cc
flag_only zero false e = refl
flag_only (suc zero) true e = refl
flag_only (suc zero) false e = absurd cc
flag_only (suc (suc n)) b e = absurd cc

flag_back : (b : Bool) → flag_from (flag b) ≡ Some b
flag_back true = refl
flag_back false = refl

flag_fits : (b : Bool) → flag b < 2 ^ 8
flag_fits true = omega arith
flag_fits false = omega arith

pub flag_spells : Spells flag_at (λ b. flag b ∷ []) (λ b. Unit {0})
unfolding flag_at
flag_spells = chosen_spell flag_from flag (λ b. Unit {0}) byte_spells (λ n b h e. (flag_only n b e, tt)) (λ b h. flag_back b) (λ b h. flag_fits b)

entry_unmade : (n : ℕ) → entry_code (entry_from n) ≡ n
entry_unmade n = elim (cases_Bool (eqb n 255)) [ inl t ↦ rw t (sym (eqb-true n 255 t)) | inr f ↦ rw f refl ]

entry_made : (n : ℕ) → n < 2 ^ 8 → IsEntry (entry_from n)
entry_made n h = elim (cases_Bool (eqb n 255)) [ inl t ↦ rw t tt | inr f ↦ rw f (grind (arith, eqb-false n 255 f)) ]

entry_back : (o : Option ℕ) → IsEntry o → entry_from (entry_code o) ≡ o
entry_back None h = refl
entry_back (Some n) h = rw (ne_eqb n 255 (λ e. omega (arith, e, h))) refl

entry_fits : (o : Option ℕ) → IsEntry o → entry_code o < 2 ^ 8
entry_fits None h = omega arith
entry_fits (Some n) h = omega (arith, h)

pub entry_spells : Spells entry_at (λ o. entry_code o ∷ []) IsEntry
unfolding entry_at
entry_spells = made_spell entry_from entry_code IsEntry byte_spells (λ n h. entry_unmade n) entry_made entry_back entry_fits

pos_of_ne : (n : ℕ) → (n ≡ 0 → ⊥) → 0 < n
pos_of_ne zero h = absurd (h refl)
pos_of_ne (suc n) h = omega arith

not_zero : (n : ℕ) → 0 < n → eqb n 0 ≡ false
not_zero n h = ne_eqb n 0 (λ e. omega (arith, e, h))

block_unmade : (n : ℕ) → block_or_zero (block_from n) ≡ n
block_unmade n = elim (cases_Bool (eqb n 0)) [ inl t ↦ rw t (sym (eqb-true n 0 t)) | inr f ↦ rw f refl ]

block_made : (n : ℕ) → n < 2 ^ 32 → IsBlock (block_from n)
block_made n h = elim (cases_Bool (eqb n 0)) [ inl t ↦ rw t tt | inr f ↦ rw f (pos_of_ne n (eqb-false n 0 f), h) ]

block_back : (o : Option ℕ) → IsBlock o → block_from (block_or_zero o) ≡ o
block_back None h = refl
block_back (Some n) h = rw (not_zero n h.0) refl

block_fits : (o : Option ℕ) → IsBlock o → block_or_zero o < 2 ^ 32
block_fits None h = omega arith
block_fits (Some n) h = h.1

pub block_spells : Spells block_at (λ o. big_endian w32 (block_or_zero o)) IsBlock
unfolding block_at
block_spells = made_spell block_from block_or_zero IsBlock spells32 (λ n h. block_unmade n) block_made block_back block_fits

-- ---- undo

pub address_spells : Spells address_at address IsAddress
unfolding address_at
address_spells = made_spell address_of (λ a. (a.block, (a.seq, a.nth))) IsAddress (both_spell spells32 (λ _. both_spell spells64 (λ _. byte_spells))) (λ x h. refl) (λ x h. h) (λ a h. refl) (λ a h. h)

zeros_are : (a : UndoAddr) → a.block ≡ 0 → a.seq ≡ 0 → a.nth ≡ 0 → undo_or_zeros None ≡ a
zeros_are a b s n = sym (rw (b, s, n) refl)

undo_only : (a : UndoAddr) (o : Option UndoAddr) → IsAddress a → undo_from a ≡ Some o → (undo_or_zeros o ≡ a) × IsUndo o
undo_only a o fits e = elim (cases_Bool (eqb a.block 0)) [
  | inl t ↦ (let inner : cond (eqb a.seq 0 && eqb a.nth 0) (Some None) None ≡ Some o = rw t at e in
      let g = test_some (eqb a.seq 0 && eqb a.nth 0) None o inner in
      let p = and_true (eqb a.seq 0) (eqb a.nth 0) g.0 in
      subst (λ (x : Option UndoAddr). (undo_or_zeros x ≡ a) × IsUndo x) g.1 (zeros_are a (eqb-true a.block 0 t) (eqb-true a.seq 0 p.0) (eqb-true a.nth 0 p.1), tt))
  | inr f ↦ (let inner : Some (Some a) ≡ Some o = rw f at e in
      subst (λ (x : Option UndoAddr). (undo_or_zeros x ≡ a) × IsUndo x) (some_is (Some a) o inner) (refl, (pos_of_ne a.block (eqb-false a.block 0 f), fits)))
]

undo_back : (o : Option UndoAddr) → IsUndo o → undo_from (undo_or_zeros o) ≡ Some o
undo_back None h = refl
undo_back (Some a) h = rw (not_zero a.block h.0) refl

undo_fits : (o : Option UndoAddr) → IsUndo o → IsAddress (undo_or_zeros o)
undo_fits None h = (omega arith, (omega arith, omega arith))
undo_fits (Some a) h = h.1

pub undo_spells : Spells undo_at (λ o. address (undo_or_zeros o)) IsUndo
unfolding undo_at
undo_spells = chosen_spell undo_from undo_or_zeros IsUndo address_spells undo_only undo_back undo_fits

-- ---- places and links

no_place : (p : ℕ × ℕ) → p.0 ≡ 0 → p.1 ≡ 0 → (0, 0) ≡ p
no_place p a b = sym (rw (a, b) refl)

abbrev pair_of_place : Option UndoPlace → ℕ × ℕ
pair_of_place o = ((place_or_zeros o).block, (place_or_zeros o).nth)

place_only : (p : ℕ × ℕ) (o : Option UndoPlace) → ((p.0 < 2 ^ 32) × (p.1 < 2 ^ 8)) → place_from p ≡ Some o → (pair_of_place o ≡ p) × IsPlace o
place_only p o fits e = elim (cases_Bool (eqb p.0 0)) [
  | inl t ↦ (let inner : cond (eqb p.1 0) (Some None) None ≡ Some o = rw t at e in
      let g = test_some (eqb p.1 0) None o inner in
      subst (λ (x : Option UndoPlace). (pair_of_place x ≡ p) × IsPlace x) g.1 (no_place p (eqb-true p.0 0 t) (eqb-true p.1 0 g.0), tt))
  | inr f ↦ (let inner : Some (Some (record { block = p.0; nth = p.1 })) ≡ Some o = rw f at e in
      subst (λ (x : Option UndoPlace). (pair_of_place x ≡ p) × IsPlace x) (some_is (Some (record { block = p.0; nth = p.1 })) o inner) (refl, (pos_of_ne p.0 (eqb-false p.0 0 f), fits)))
]

place_back : (o : Option UndoPlace) → IsPlace o → place_from (pair_of_place o) ≡ Some o
place_back None h = refl
place_back (Some p) h = rw (not_zero p.block h.0) refl

place_fits : (o : Option UndoPlace) → IsPlace o → ((pair_of_place o).0 < 2 ^ 32) × ((pair_of_place o).1 < 2 ^ 8)
place_fits None h = (omega arith, omega arith)
place_fits (Some p) h = h.1

pub place_spells : Spells place_at (λ o. place_bytes (place_or_zeros o)) IsPlace
unfolding place_at
place_spells = chosen_spell place_from pair_of_place IsPlace (both_spell spells32 (λ _. byte_spells)) place_only place_back place_fits

abbrev pair_of_link : Option Rowid → ℕ × ℕ
pair_of_link o = ((link_or_zeros o).dba, (link_or_zeros o).slot)

link_only : (p : ℕ × ℕ) (o : Option Rowid) → ((p.0 < 2 ^ 32) × (p.1 < 2 ^ 8)) → link_from p ≡ Some o → (pair_of_link o ≡ p) × IsLink o
link_only p o fits e = elim (cases_Bool (eqb p.0 0)) [
  | inl t ↦ (let inner : cond (eqb p.1 0) (Some None) None ≡ Some o = rw t at e in
      let g = test_some (eqb p.1 0) None o inner in
      subst (λ (x : Option Rowid). (pair_of_link x ≡ p) × IsLink x) g.1 (no_place p (eqb-true p.0 0 t) (eqb-true p.1 0 g.0), tt))
  | inr f ↦ (let inner : Some (Some (record { dba = p.0; slot = p.1 })) ≡ Some o = rw f at e in
      subst (λ (x : Option Rowid). (pair_of_link x ≡ p) × IsLink x) (some_is (Some (record { dba = p.0; slot = p.1 })) o inner) (refl, (pos_of_ne p.0 (eqb-false p.0 0 f), fits)))
]

link_back : (o : Option Rowid) → IsLink o → link_from (pair_of_link o) ≡ Some o
link_back None h = refl
link_back (Some r) h = rw (not_zero r.dba h.0) refl

link_fits : (o : Option Rowid) → IsLink o → ((pair_of_link o).0 < 2 ^ 32) × ((pair_of_link o).1 < 2 ^ 8)
link_fits None h = (omega arith, omega arith)
link_fits (Some r) h = h.1

link_spells : Spells link_at (λ o. big_endian w32 (link_or_zeros o).dba ++ ((link_or_zeros o).slot ∷ [])) IsLink
unfolding link_at
link_spells = chosen_spell link_from pair_of_link IsLink (both_spell spells32 (λ _. byte_spells)) link_only link_back link_fits

-- ---- images

kind_only : (n : ℕ) (k : Kind) → kind_from n ≡ Some k → kind_code k ≡ n
kind_only zero k e = ap kind_code (sym (some_is Empty k e))
kind_only (suc zero) k e = ap kind_code (sym (some_is Row k e))
kind_only (suc (suc zero)) k e = ap kind_code (sym (some_is Head k e))
kind_only (suc (suc (suc zero))) k e = ap kind_code (sym (some_is Body k e))
kind_only (suc (suc (suc (suc n)))) k e = absurd cc

kind_back : (k : Kind) → kind_from (kind_code k) ≡ Some k
kind_back Empty = refl
kind_back Row = refl
kind_back Head = refl
kind_back Body = refl

kind_fits : (k : Kind) → kind_code k < 2 ^ 8
kind_fits Empty = omega arith
kind_fits Row = omega arith
kind_fits Head = omega arith
kind_fits Body = omega arith

kind_spells : Spells kind_at (λ k. kind_code k ∷ []) (λ k. Unit {0})
unfolding kind_at
kind_spells = chosen_spell kind_from kind_code (λ k. Unit {0}) byte_spells (λ n k h e. (kind_only n k e, tt)) (λ k h. kind_back k) (λ k h. kind_fits k)

abbrev tag_and_number : Writer → ℕ × ℕ
tag_and_number w = (writer_tag w, writer_number w)

writer_only : (tag n : ℕ) (w : Writer) → writer_from tag n ≡ Some w → tag_and_number w ≡ (tag, n)
writer_only zero n w e = ap tag_and_number (sym (some_is (At n) w e))
writer_only (suc zero) n w e = ap tag_and_number (sym (some_is (By n) w e))
writer_only (suc (suc tag)) n w e = absurd cc

writer_back : (w : Writer) → writer_from (writer_tag w) (writer_number w) ≡ Some w
writer_back (By t) = refl
writer_back (At c) = refl

tag_fits : (w : Writer) → writer_tag w < 2 ^ 8
tag_fits (By t) = omega arith
tag_fits (At c) = omega arith

abbrev IsWriter : Writer → Type 0
IsWriter w = writer_number w < 2 ^ 64

writer_number_fits : (p : ℕ × ℕ) (w : Writer) → p.1 < 2 ^ 64 → tag_and_number w ≡ p → writer_number w < 2 ^ 64
writer_number_fits p w h e = subst (λ (x : ℕ). x < 2 ^ 64) (sym (ap (λ (q : ℕ × ℕ). q.1) e)) h

writer_spells : Spells writer_at (λ w. writer_tag w ∷ big_endian w64 (writer_number w)) IsWriter
unfolding writer_at
writer_spells = chosen_spell (λ p. writer_from p.0 p.1) tag_and_number IsWriter (both_spell byte_spells (λ _. spells64))
    (λ p w h e. let is = writer_only p.0 p.1 w e in (is, writer_number_fits p w h.1 is)) (λ w h. writer_back w) (λ w h. (tag_fits w, h))

abbrev fields_of : Slot → Kind × (Writer × (Option UndoAddr × (ℕ × (Option Rowid × ((ℕ × ℕ) × List ℕ)))))
fields_of s = (s.kind, (s.writer, (s.undo, (s.row, (s.link, ((length s.bytes, s.room), s.bytes))))))

abbrev AreFields : Kind × (Writer × (Option UndoAddr × (ℕ × (Option Rowid × ((ℕ × ℕ) × List ℕ))))) → Type 0
AreFields v = Unit {0} × (IsWriter v.1.0 × (IsUndo v.1.1.0 × ((v.1.1.1.0 < 2 ^ 64) × (IsLink v.1.1.1.1.0 × (((v.1.1.1.1.1.0.0 < 2 ^ 16) × (v.1.1.1.1.1.0.1 < 2 ^ 16)) × (length v.1.1.1.1.1.1 ≡ v.1.1.1.1.1.0.0))))))

fields_again : (v : Kind × (Writer × (Option UndoAddr × (ℕ × (Option Rowid × ((ℕ × ℕ) × List ℕ)))))) → AreFields v → fields_of (slot_of v) ≡ v
fields_again v h = ap (λ (n : ℕ). (v.0, (v.1.0, (v.1.1.0, (v.1.1.1.0, (v.1.1.1.1.0, ((n, v.1.1.1.1.1.0.1), v.1.1.1.1.1.1))))))) h.1.1.1.1.1.1

pub image_spells : Spells image_at image IsImage
unfolding image_at image big_endian
image_spells = made_spell slot_of fields_of IsImage
    (both_spell kind_spells (λ _. both_spell writer_spells (λ _. both_spell undo_spells (λ _. both_spell spells64 (λ _. both_spell link_spells (λ _. both_spell (both_spell spells16 (λ _. spells16)) (λ sizes. text_spells sizes.0)))))))
    fields_again
    (λ v h. record { writer = h.1.0; undo = h.1.1.0; row = h.1.1.1.0; link = h.1.1.1.1.0; bytes = omega (arith, h.1.1.1.1.1.0.0, h.1.1.1.1.1.1); room = h.1.1.1.1.1.0.1 })
    (λ s h. refl)
    (λ s h. (tt, (h.writer, (h.undo, (h.row, (h.link, ((h.bytes, h.room), refl)))))))
