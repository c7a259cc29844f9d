-- The forms of the records that change tables and their space.
use Rattle.std.proofs.Common.{◌≡◌, ℕ, zero, suc, ◌^◌, ◌<◌, ◌≤◌, true, leb, ◌&&◌, get_or, List, [], ◌∷◌, length, Some, None, refl, sym, ap, subst, arith, slice_index_or, leb-true, le-leb}
use Rattle.seg_words.proofs.Lemmas.{list_all}
use Rattle.seg_words.specs.Types.{Unformatted, Full, Fs1, Fs2, Fs3, Fs4, class_code, class_from, is_name, is_lower, is_name_byte, MOST_PCTFREE, LONGEST_NAME}
use Rattle.redo_record.specs.Types.{byte, tested, table, movement, extend, format_block, class, advance, three_blocks, three_codes, extents, lower, IsBlock, IsTable, IsMovement, IsExtend, IsFormatBlock, IsClass, IsAdvance, IsThree, AreExtents, IsLower, is_pctfree, name_from, name_at, table_of, table_at, movement_of, movement_at, extend_of, extend_at, format_block_of, format_block_at, class_code_at, class_of, class_at, advance_of, advance_at, three, three_blocks_at, three_codes_at, second, extents_at, lower_of, lower_at}
use Rattle.redo_record.proofs.Laws.{Spells, byte_spells, text_spells, spells16, spells32, spells64, both_spell, made_spell, chosen_spell, tested_spell, many_spell, test_some, some_is}
use Rattle.redo_record.proofs.FieldForms.{and_true, obj_spells, code_spells, flag_spells, block_spells}
use Rattle.seg_base.specs.declared.class.Class as the

pctfree_spells : Spells (tested is_pctfree byte) (λ n. n ∷ []) (λ n. n ≤ MOST_PCTFREE)
pctfree_spells = tested_spell is_pctfree (λ n. n ≤ MOST_PCTFREE) byte_spells (λ n h t. leb-true n MOST_PCTFREE t) (λ n h. le-leb n MOST_PCTFREE h) (λ n h. omega (arith, h))

abbrev IsName : List ℕ → Type 0
IsName t = is_name t ≡ true

abbrev name_bytes : List ℕ → List ℕ
name_bytes t = length t ∷ t

name_is_short : (t : List ℕ) → is_name t ≡ true → length t < 2 ^ 8
name_is_short t h =
    let a = and_true (leb 1 (length t) && leb (length t) LONGEST_NAME && is_lower (get_or t 0 0)) (list_all is_name_byte t) h in
    let b = and_true (leb 1 (length t) && leb (length t) LONGEST_NAME) (is_lower (get_or t 0 0)) a.0 in
    let c = and_true (leb 1 (length t)) (leb (length t) LONGEST_NAME) b.0 in
    omega (arith, leb-true (length t) LONGEST_NAME c.1)

name_only : (v : ℕ × List ℕ) (t : List ℕ) → ((v.0 < 2 ^ 8) × (length v.1 ≡ v.0)) → name_from v ≡ Some t → ((length t, t) ≡ v) × IsName t
name_only v t fits e =
    let g = test_some (is_name v.1) v.1 t e in
    subst (λ (x : List ℕ). ((length x, x) ≡ v) × IsName x) g.1 (ap (λ (n : ℕ). (n, v.1)) fits.1, g.0)

name_back : (t : List ℕ) → IsName t → name_from (length t, t) ≡ Some t
name_back t h = rw h refl

name_spells : Spells name_at name_bytes IsName
unfolding name_at
name_spells = chosen_spell name_from (λ t. (length t, t)) IsName (both_spell byte_spells (λ n. text_spells n)) name_only name_back (λ t h. (name_is_short t h, refl))

pub table_spells : Spells table_at table IsTable
unfolding table_at
table_spells = made_spell table_of (λ t. (t.obj, (t.header, (t.pctfree, t.name)))) IsTable
    (both_spell obj_spells (λ _. both_spell spells32 (λ _. both_spell pctfree_spells (λ _. name_spells))))
    (λ v h. refl)
    (λ v h. record { obj = h.0; header = h.1.0; pctfree = h.1.1.0; name = h.1.1.1 })
    (λ t h. refl)
    (λ t h. (h.obj, (h.header, (h.pctfree, h.name))))

pub movement_spells : Spells movement_at movement IsMovement
unfolding movement_at
movement_spells = made_spell movement_of (λ m. (m.obj, (m.header, m.on))) IsMovement
    (both_spell obj_spells (λ _. both_spell spells32 (λ _. flag_spells)))
    (λ v h. refl) (λ v h. record { obj = h.0; header = h.1.0 }) (λ m h. refl) (λ m h. (h.obj, (h.header, tt)))

pub extend_spells : Spells extend_at extend IsExtend
unfolding extend_at
extend_spells = made_spell extend_of (λ e. (e.obj, (e.header, (e.index, (e.extent, (e.l2, e.l3)))))) IsExtend
    (both_spell obj_spells (λ _. both_spell spells32 (λ _. both_spell spells16 (λ _. both_spell spells32 (λ _. both_spell spells32 (λ _. spells32))))))
    (λ v h. refl)
    (λ v h. record { obj = h.0; header = h.1.0; index = h.1.1.0; extent = h.1.1.1.0; l2 = h.1.1.1.1.0; l3 = h.1.1.1.1.1 })
    (λ e h. refl)
    (λ e h. (h.obj, (h.header, (h.index, (h.extent, (h.l2, h.l3))))))

pub format_block_spells : Spells format_block_at format_block IsFormatBlock
unfolding format_block_at
format_block_spells = made_spell format_block_of (λ f. (f.obj, (f.dba, (f.l2, (f.l3, (f.index, (f.best_of_l1, f.best_of_l2))))))) IsFormatBlock
    (both_spell obj_spells (λ _. both_spell spells32 (λ _. both_spell spells32 (λ _. both_spell spells32 (λ _. both_spell spells16 (λ _. both_spell code_spells (λ _. code_spells)))))))
    (λ v h. refl)
    (λ v h. record { obj = h.0; dba = h.1.0; l2 = h.1.1.0; l3 = h.1.1.1.0; index = h.1.1.1.1.0; best_of_l1 = h.1.1.1.1.1.0; best_of_l2 = h.1.1.1.1.1.1 })
    (λ f h. refl)
    (λ f h. (h.obj, (h.dba, (h.l2, (h.l3, (h.index, (h.best_of_l1, h.best_of_l2)))))))

class_only : (n : ℕ) (c : the.Class) → class_from n ≡ Some c → class_code c ≡ n
class_only zero c e = ap class_code (sym (some_is Unformatted c e))
class_only (suc zero) c e = ap class_code (sym (some_is Full c e))
class_only (suc (suc zero)) c e = ap class_code (sym (some_is Fs1 c e))
class_only (suc (suc (suc zero))) c e = ap class_code (sym (some_is Fs2 c e))
class_only (suc (suc (suc (suc zero)))) c e = ap class_code (sym (some_is Fs3 c e))
class_only (suc (suc (suc (suc (suc zero))))) c e = ap class_code (sym (some_is Fs4 c e))
class_only (suc (suc (suc (suc (suc (suc n)))))) c e = absurd cc

class_back : (c : the.Class) → class_from (class_code c) ≡ Some c
class_back Unformatted = refl
class_back Full = refl
class_back Fs1 = refl
class_back Fs2 = refl
class_back Fs3 = refl
class_back Fs4 = refl

class_fits : (c : the.Class) → class_code c < 2 ^ 8
class_fits Unformatted = omega arith
class_fits Full = omega arith
class_fits Fs1 = omega arith
class_fits Fs2 = omega arith
class_fits Fs3 = omega arith
class_fits Fs4 = omega arith

class_code_spells : Spells class_code_at (λ c. class_code c ∷ []) (λ c. Unit {0})
unfolding class_code_at
class_code_spells = chosen_spell class_from class_code (λ c. Unit {0}) byte_spells (λ n c h e. (class_only n c e, tt)) (λ c h. class_back c) (λ c h. class_fits c)

pub class_spells : Spells class_at class IsClass
unfolding class_at
class_spells = made_spell class_of (λ c. (c.obj, (c.dba, (c.class, (c.l2, (c.l3, (c.index, (c.best_of_l1, c.best_of_l2)))))))) IsClass
    (both_spell obj_spells (λ _. both_spell spells32 (λ _. both_spell class_code_spells (λ _. both_spell spells32 (λ _. both_spell spells32 (λ _. both_spell spells16 (λ _. both_spell code_spells (λ _. code_spells))))))))
    (λ v h. refl)
    (λ v h. record { obj = h.0; dba = h.1.0; l2 = h.1.1.1.0; l3 = h.1.1.1.1.0; index = h.1.1.1.1.1.0; best_of_l1 = h.1.1.1.1.1.1.0; best_of_l2 = h.1.1.1.1.1.1.1 })
    (λ c h. refl)
    (λ c h. (h.obj, (h.dba, (tt, (h.l2, (h.l3, (h.index, (h.best_of_l1, h.best_of_l2))))))))

pub advance_spells : Spells advance_at advance IsAdvance
unfolding advance_at
advance_spells = made_spell advance_of (λ a. (a.obj, (a.header, (a.low, a.high)))) IsAdvance
    (both_spell obj_spells (λ _. both_spell spells32 (λ _. both_spell spells32 (λ _. spells32))))
    (λ v h. refl)
    (λ v h. record { obj = h.0; header = h.1.0; low = h.1.1.0; high = h.1.1.1 })
    (λ a h. refl)
    (λ a h. (h.obj, (h.header, (h.low, h.high))))

-- ---- three of them

abbrev of_three : {A : Type 0} → A → List A → A × (A × A)
of_three d xs = (slice_index_or xs 0 d, (slice_index_or xs 1 d, slice_index_or xs 2 d))

three_again : {A : Type 0} (d : A) (xs : List A) → length xs ≡ 3 → three (of_three d xs) ≡ xs
three_again d [] h = absurd (omega (arith, h))
three_again d (x ∷ []) h = absurd (omega (arith, h))
three_again d (x ∷ y ∷ []) h = absurd (omega (arith, h))
three_again d (x ∷ y ∷ z ∷ []) h = refl
three_again d (x ∷ y ∷ z ∷ w ∷ xs) h = absurd (omega (arith, h))

three_fit : {A : Type 0} (F : A → Type 0) (d : A) (xs : List A) → IsThree F xs → F (of_three d xs).0 × (F (of_three d xs).1.0 × F (of_three d xs).1.1)
three_fit F d [] h = absurd (omega (arith, h.count))
three_fit F d (x ∷ []) h = absurd (omega (arith, h.count))
three_fit F d (x ∷ y ∷ []) h = absurd (omega (arith, h.count))
three_fit F d (x ∷ y ∷ z ∷ xs) h = (h.each.0, (h.each.1.0, h.each.1.1.0))

three_blocks_spell : Spells three_blocks_at three_blocks (IsThree IsBlock)
unfolding three_blocks_at
three_blocks_spell = made_spell three (of_three None) (IsThree IsBlock) (both_spell block_spells (λ _. both_spell block_spells (λ _. block_spells)))
    (λ v h. refl) (λ v h. record { count = refl; each = (h.0, (h.1.0, (h.1.1, tt))) }) (λ xs h. three_again None xs h.count) (λ xs h. three_fit IsBlock None xs h)

three_codes_spell : Spells three_codes_at three_codes (IsThree (λ c. c ≤ 5))
unfolding three_codes_at
three_codes_spell = made_spell three (of_three 0) (IsThree (λ c. c ≤ 5)) (both_spell code_spells (λ _. both_spell code_spells (λ _. code_spells)))
    (λ v h. refl) (λ v h. record { count = refl; each = (h.0, (h.1.0, (h.1.1, tt))) }) (λ xs h. three_again 0 xs h.count) (λ xs h. three_fit (λ c. c ≤ 5) 0 xs h)

extents_spell : Spells extents_at extents AreExtents
unfolding extents_at
extents_spell = made_spell second (λ xs. (length xs, xs)) AreExtents (both_spell spells16 (λ n. many_spell spells32 n))
    (λ v h. ap (λ (n : ℕ). (n, v.1)) h.1.0) (λ v h. record { count = omega (arith, h.0, h.1.0); each = h.1.1 }) (λ xs h. refl) (λ xs h. (h.count, (refl, h.each)))

pub lower_spells : Spells lower_at lower IsLower
unfolding lower_at
lower_spells = made_spell lower_of (λ l. (l.obj, (l.header, (l.lowering, (l.kept, (l.low, (l.high, (l.l2, (l.l3, (l.bests, l.released)))))))))) IsLower
    (both_spell obj_spells (λ _. both_spell spells32 (λ _. both_spell spells64 (λ _. both_spell spells16 (λ _. both_spell spells32 (λ _. both_spell spells32 (λ _. both_spell three_blocks_spell (λ _. both_spell spells32 (λ _. both_spell three_codes_spell (λ _. extents_spell))))))))))
    (λ v h. refl)
    (λ v h. record { obj = h.0; header = h.1.0; lowering = h.1.1.0; kept = h.1.1.1.0; low = h.1.1.1.1.0; high = h.1.1.1.1.1.0; l2 = h.1.1.1.1.1.1.0; l3 = h.1.1.1.1.1.1.1.0; bests = h.1.1.1.1.1.1.1.1.0; released = h.1.1.1.1.1.1.1.1.1 })
    (λ l h. refl)
    (λ l h. (h.obj, (h.header, (h.lowering, (h.kept, (h.low, (h.high, (h.l2, (h.l3, (h.bests, h.released))))))))))
