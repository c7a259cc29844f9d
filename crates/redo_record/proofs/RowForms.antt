-- The forms of the records that change rows.
use Rattle.std.proofs.Common.{◌≡◌, ℕ, ◌^◌, ◌<◌, ◌≤◌, true, eqb, leb, ◌&&◌, List, [], ◌∷◌, ◌++◌, length, Option, Some, None, refl, sym, ap, subst, ◌∙◌, append_assoc, arith, is_none, w64, eqb-true, leb-true, le-leb}
use Rattle.seg_words.specs.Types.{undo_or_zeros, UndoPlace}
use Rattle.redo_record.specs.Types.{RowBody, MoveRecord, big_endian, address, place_bytes, place_or_zeros, row_head, row_part, back_part, row_parts, back_parts, row_body, back, moved, IsRowPart, IsBackPart, AreParts, IsRowBody, IsBack, IsMove, row_part_of, row_part_at, back_part_of, back_part_at, is_part_count, part_count_at, second, row_parts_at, back_parts_at, row_body_of, row_body_at, back_of, back_at, move_from, move_at}
use Rattle.redo_record.proofs.Laws.{Spells, AreMany, byte_spells, spells32, spells64, both_spell, made_spell, chosen_spell, tested_spell, many_spell, spell_as, test_some}
use Rattle.redo_record.proofs.FieldForms.{and_true, obj_spells, entry_spells, address_spells, undo_spells, place_spells, image_spells}

row_part_spells : Spells row_part_at row_part IsRowPart
unfolding row_part_at
row_part_spells = spell_as row_part (λ p. simp append_assoc refl) (made_spell row_part_of (λ p. (p.dba, (p.slot, (p.entry, (p.new, p.old))))) IsRowPart
    (both_spell spells32 (λ _. both_spell byte_spells (λ _. both_spell entry_spells (λ _. both_spell image_spells (λ _. image_spells)))))
    (λ v h. refl)
    (λ v h. record { dba = h.0; slot = h.1.0; entry = h.1.1.0; new = h.1.1.1.0; old = h.1.1.1.1 })
    (λ p h. refl)
    (λ p h. (h.dba, (h.slot, (h.entry, (h.new, h.old))))))

back_part_spells : Spells back_part_at back_part IsBackPart
unfolding back_part_at
back_part_spells = spell_as back_part (λ p. simp append_assoc refl) (made_spell back_part_of (λ p. (p.dba, (p.slot, (p.entry, p.new)))) IsBackPart
    (both_spell spells32 (λ _. both_spell byte_spells (λ _. both_spell entry_spells (λ _. image_spells))))
    (λ v h. refl)
    (λ v h. record { dba = h.0; slot = h.1.0; entry = h.1.1.0; new = h.1.1.1 })
    (λ p h. refl)
    (λ p h. (h.dba, (h.slot, (h.entry, h.new)))))

abbrev IsPartCount : ℕ → Type 0
IsPartCount n = (1 ≤ n) × (n ≤ 3)

part_count_spells : Spells part_count_at (λ n. n ∷ []) IsPartCount
unfolding part_count_at
part_count_spells = tested_spell is_part_count IsPartCount byte_spells
    (λ n h t. let p = and_true (leb 1 n) (leb n 3) t in (leb-true 1 n p.0, leb-true n 3 p.1))
    (λ n h. rw (le-leb 1 n h.0, le-leb n 3 h.1) refl)
    (λ n h. omega (arith, h.1))

counted : {A : Type 0} (v : ℕ × List A) → length v.1 ≡ v.0 → (length v.1, v.1) ≡ v
counted {A} v h = ap (λ (n : ℕ). (n, v.1)) h

parts_fit : {A : Type 0} (F : A → Type 0) (v : ℕ × List A) → IsPartCount v.0 → AreMany F v.0 v.1 → AreParts F v.1
parts_fit F v count are = record { least = omega (arith, count.0, are.0); most = omega (arith, count.1, are.0); each = are.1 }

row_parts_spell : Spells row_parts_at row_parts (AreParts IsRowPart)
unfolding row_parts_at
row_parts_spell = made_spell second (λ ps. (length ps, ps)) (AreParts IsRowPart) (both_spell part_count_spells (λ n. many_spell row_part_spells n))
    (λ v h. counted v h.1.0) (λ v h. parts_fit IsRowPart v h.0 h.1) (λ ps h. refl) (λ ps h. ((h.least, h.most), (refl, h.each)))

back_parts_spell : Spells back_parts_at back_parts (AreParts IsBackPart)
unfolding back_parts_at
back_parts_spell = made_spell second (λ ps. (length ps, ps)) (AreParts IsBackPart) (both_spell part_count_spells (λ n. many_spell back_part_spells n))
    (λ v h. counted v h.1.0) (λ v h. parts_fit IsBackPart v h.0 h.1) (λ ps h. refl) (λ ps h. ((h.least, h.most), (refl, h.each)))

behind_head : (t : List ℕ) (e o : ℕ) (r a p x : List ℕ) → t ++ (e ∷ o ∷ r ++ (a ++ (p ++ x))) ≡ (t ++ (e ∷ o ∷ r ++ (a ++ p))) ++ x
behind_head t e o r a p x = simp append_assoc refl

pub row_body_spells : Spells row_body_at row_body IsRowBody
unfolding row_body_at
row_body_spells = spell_as row_body (λ b. behind_head (big_endian w64 b.txn) b.entry b.obj (big_endian w64 b.row) (address b.undo) (place_bytes (place_or_zeros b.previous)) (row_parts b.parts)) (made_spell row_body_of (λ b. (b.txn, (b.entry, (b.obj, (b.row, (b.undo, (b.previous, b.parts))))))) IsRowBody
    (both_spell spells64 (λ _. both_spell byte_spells (λ _. both_spell obj_spells (λ _. both_spell spells64 (λ _. both_spell address_spells (λ _. both_spell place_spells (λ _. row_parts_spell)))))))
    (λ v h. refl)
    (λ v h. record { txn = h.0; entry = h.1.0; obj = h.1.1.0; row = h.1.1.1.0; undo = h.1.1.1.1.0; previous = h.1.1.1.1.1.0; parts = h.1.1.1.1.1.1 })
    (λ b h. refl)
    (λ b h. (h.txn, (h.entry, (h.obj, (h.row, (h.undo, (h.previous, h.parts))))))))

pub back_spells : Spells back_at back IsBack
unfolding back_at
back_spells = spell_as back (λ b. behind_head (big_endian w64 b.txn) b.entry b.obj (big_endian w64 b.row) (address b.undo) (place_bytes (place_or_zeros b.previous)) (back_parts b.parts ++ address (undo_or_zeros b.last))) (made_spell back_of (λ b. (b.txn, (b.entry, (b.obj, (b.row, (b.undo, (b.previous, (b.parts, b.last)))))))) IsBack
    (both_spell spells64 (λ _. both_spell byte_spells (λ _. both_spell obj_spells (λ _. both_spell spells64 (λ _. both_spell address_spells (λ _. both_spell place_spells (λ _. both_spell back_parts_spell (λ _. undo_spells))))))))
    (λ v h. refl)
    (λ v h. record { txn = h.0; entry = h.1.0; obj = h.1.1.0; row = h.1.1.1.0; undo = h.1.1.1.1.0; previous = h.1.1.1.1.1.0; parts = h.1.1.1.1.1.1.0; last = h.1.1.1.1.1.1.1 })
    (λ b h. refl)
    (λ b h. (h.txn, (h.entry, (h.obj, (h.row, (h.undo, (h.previous, (h.parts, h.last)))))))))

-- ---- moves

-- the row body that a move is written as
abbrev body_of : MoveRecord → RowBody
body_of m = record { txn = 0; entry = 255; obj = m.obj; row = m.row; undo = m.undo; previous = None; parts = m.parts }

no_previous : (o : Option UndoPlace) → is_none o ≡ true → None ≡ o
no_previous None e = refl
no_previous (Some p) e = absurd cc

abbrev as_move : RowBody × ℕ → MoveRecord
as_move v = record { obj = v.0.obj; row = v.0.row; undo = v.0.undo; parts = v.0.parts; number = v.1 }

body_again : (v : RowBody × ℕ) → v.0.txn ≡ 0 → v.0.entry ≡ 255 → None ≡ v.0.previous → (body_of (as_move v), v.1) ≡ v
body_again v t e p =
    ap (λ (x : ℕ). (record { txn = x; entry = 255; obj = v.0.obj; row = v.0.row; undo = v.0.undo; previous = None; parts = v.0.parts }, v.1)) (sym t)
    ∙ ap (λ (x : ℕ). (record { txn = v.0.txn; entry = x; obj = v.0.obj; row = v.0.row; undo = v.0.undo; previous = None; parts = v.0.parts }, v.1)) (sym e)
    ∙ ap (λ (x : Option UndoPlace). (record { txn = v.0.txn; entry = v.0.entry; obj = v.0.obj; row = v.0.row; undo = v.0.undo; previous = x; parts = v.0.parts }, v.1)) p

move_only : (v : RowBody × ℕ) (m : MoveRecord) → (IsRowBody v.0 × (v.1 < 2 ^ 64)) → move_from v ≡ Some m → ((body_of m, m.number) ≡ v) × IsMove m
move_only v m fits e =
    let g = test_some (eqb v.0.txn 0 && (eqb v.0.entry 255 && is_none v.0.previous)) (as_move v) m e in
    let a = and_true (eqb v.0.txn 0) (eqb v.0.entry 255 && is_none v.0.previous) g.0 in
    let b = and_true (eqb v.0.entry 255) (is_none v.0.previous) a.1 in
    subst (λ (x : MoveRecord). ((body_of x, x.number) ≡ v) × IsMove x) g.1 (
      body_again v (eqb-true v.0.txn 0 a.0) (eqb-true v.0.entry 255 b.0) (no_previous v.0.previous b.1),
      record { obj = fits.0.obj; row = fits.0.row; undo = fits.0.undo; parts = fits.0.parts; number = fits.1 },
    )

pub move_spells : Spells move_at moved IsMove
unfolding move_at
move_spells = spell_as moved (λ m. append_assoc (row_head 0 255 m.obj m.row m.undo None) (row_parts m.parts) (big_endian w64 m.number)) (chosen_spell move_from (λ m. (body_of m, m.number)) IsMove (both_spell row_body_spells (λ _. spells64)) move_only (λ m h. refl)
    (λ m h. (record { txn = omega arith; entry = omega arith; obj = h.obj; row = h.row; undo = h.undo; previous = tt; parts = h.parts }, h.number)))
