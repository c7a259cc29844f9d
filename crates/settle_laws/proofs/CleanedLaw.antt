-- What a Clean settles.
use Rattle.std.proofs.Common.{◌≡◌, ℕ, zero, suc, ◌+◌, ◌-◌, ◌*◌, ◌≤◌, ◌<◌, Bool, true, false, cond, not, ◌&&◌, eqb, leb, List, [], ◌∷◌, length, get_or, Option, Some, None, refl, sym, ◌∙◌, ap, arith, inl, inr, true≢false, eq-eqb, leb-true, leb-false}
use Rattle.seg_words.proofs.Lemmas.{cond-true, cond-false, cases_Bool, or_left, or_right, and_from}
use Rattle.seg_words.specs.Types.{Shape, Slot, ListEntry, Writer, By, At, new_slot, new_entry, class_of, number_of, number_of_writer, as_told, clean_slot, entry_as_told, clean_entry, row_size, writer_has_ended, used_of as used_by, BLOCK_ROOM, SLOT_SIZE, LIST_ENTRY_SIZE, LEAST_LIST_ENTRIES}
use Rattle.redo_model.specs.Records.{Record, Clean, Commit, CleanRecord}
use Rattle.redo_model.specs.Model.{commit_count, is_by, is_active, ended_in, has_begun, has_ended, commit_number, is_forgotten, slots_name, entries_name, number_or_zero, stated_number, CleanAllowed, slots_of, entries_of, block_of, image, slot_count, entry, entry_count, AreAllowed}
use Rattle.redo_model.proofs.Bridge.{image_is, count_is, entry_is}
use Rattle.redo_laws.proofs.steps.Beyond.{beyond}
use Rattle.redo_laws.proofs.room.RoomLaw.{used_is, size_at, size_ended}
use Rattle.redo_laws.proofs.lists.Sums.{sum_same}
use Rattle.redo_laws.proofs.numbers.TxnTable.{txn_table}
use Rattle.settle_laws.specs.Cleaned.{CleansSettle}
use Rattle.settle_laws.proofs.NamedLaw.{entry_wrote, wrote_begun}

-- a slot of a block is one that the block names

slot_named : (ss : List Slot) (t k : ℕ) → k < length ss → (get_or ss k new_slot).writer ≡ By t → slots_name ss t ≡ true
slot_named [] t k l e = absurd (omega (arith, l))
slot_named (s ∷ ss) t zero l e = or_left (is_by s.writer t) _ (ap (λ w. is_by w t) e ∙ eq-eqb t t refl)
slot_named (s ∷ ss) t (suc k) l e = or_right (is_by s.writer t) _ (slot_named ss t k (omega (arith, l)) e)

entry_named : (es : List ListEntry) (t i : ℕ) → i < length es → (get_or es i new_entry).txn ≡ t → entries_name es t ≡ true
entry_named [] t i l e = absurd (omega (arith, l))
entry_named (x ∷ es) t zero l e = or_left (eqb x.txn t) _ (eq-eqb x.txn t e)
entry_named (x ∷ es) t (suc i) l e = or_right (eqb x.txn t) _ (entry_named es t i (omega (arith, l)) e)

-- a slot that names a transaction is there
slot_there : (R : List Record) (b k t : ℕ) → (image R b k).writer ≡ By t → k < slot_count R b
slot_there R b k t e = elim (cases_Bool (leb (slot_count R b) k)) [
  | inr f ↦ leb-false (slot_count R b) k f
  | inl y ↦ absurd (let x : At 0 ≡ By t = ap (λ (s : Slot). s.writer) (sym (beyond R b k (leb-true (slot_count R b) k y)).0) ∙ e in cc)
]

entry_there : (es : List ListEntry) (t i : ℕ) → 1 ≤ t → (get_or es i new_entry).txn ≡ t → i < length es
entry_there [] t i l e = absurd (omega (arith, l, e))
entry_there (x ∷ es) t zero l e = omega arith
entry_there (x ∷ es) t (suc i) l e = let k = entry_there es t i l e in omega (arith, k)

-- a transaction that has begun and isn't active is told where it is named

ended_of : (R : List Record) (t : ℕ) → has_begun R t ≡ true → is_active R t ≡ false → has_ended R t ≡ true
ended_of R t b n = and_from (has_begun R t) _ b (ap not n)

told_slot : (sh : Shape) (R : List Record) (c : CleanRecord) (k t : ℕ) → CleanAllowed sh R c → (image R c.dba k).writer ≡ By t → has_ended R t ≡ true → number_of c.ended t ≡ Some (stated_number R t)
told_slot sh R c k t a e d =
    let there = slot_there R c.dba k t e in
    let len = count_is R c.dba in
    a.all t (or_left (slots_name (slots_of R c.dba) t) _ (slot_named (slots_of R c.dba) t k (omega (arith, there, len)) (ap (λ (s : Slot). s.writer) (image_is R c.dba k) ∙ e))) d

told_entry : (sh : Shape) (R : List Record) (c : CleanRecord) (i t : ℕ) → CleanAllowed sh R c → 1 ≤ t → (entry R c.dba i).txn ≡ t → has_ended R t ≡ true → number_of c.ended t ≡ Some (stated_number R t)
told_entry sh R c i t a l e d =
    let at : (get_or (entries_of R c.dba) i new_entry).txn ≡ t = ap (λ (x : ListEntry). x.txn) (entry_is R c.dba i) ∙ e in
    a.all t (or_right (slots_name (slots_of R c.dba) t) _ (entry_named (entries_of R c.dba) t i (entry_there (entries_of R c.dba) t i l at) at)) d

-- commit numbers are from 1
pub number_from : (R : List Record) (t d : ℕ) → commit_number R t ≡ Some d → 1 ≤ d
number_from [] t d e = absurd (let x : ◌≡◌ {A = Option ℕ} None (Some d) = e in cc)
number_from (Commit c ∷ R) t d e =
    (elim (eqb c.txn t) as (λ v. cond v (Some (suc (commit_count R))) (commit_number R t) ≡ Some d → 1 ≤ d) [
      | true ↦ λ x. from (commit_count R) d x
      | false ↦ λ x. number_from R t d x
    ]) e
  where
    from : (n d : ℕ) → ◌≡◌ {A = Option ℕ} (Some (suc n)) (Some d) → 1 ≤ d
    from n d x = let same : suc n ≡ d = cc in omega (arith, same)
number_from (_ ∷ R) t d e = number_from R t d e

pub stated_is : (R : List Record) (t d : ℕ) → commit_number R t ≡ Some d → is_forgotten R t ≡ false → stated_number R t ≡ d
stated_is R t d e f = cond-false _ _ _ f ∙ ap number_or_zero e

-- a slot that was cleaned

told_writer : (s : Slot) (o : Option ℕ) (u t d : ℕ) → s.writer ≡ By u → (as_told s o).writer ≡ By t → 1 ≤ d → (u ≡ t → o ≡ Some d) → ⊥
told_writer s None u t d w e l h =
    let same : u ≡ t = (let x : By u ≡ By t = sym w ∙ e in cc) in
    let x : ◌≡◌ {A = Option ℕ} None (Some d) = h same in cc
told_writer s (Some zero) u t d w e l h =
    let same : u ≡ t = (let x : By u ≡ By t = sym w ∙ e in cc) in
    let z : 0 ≡ d = (let x : ◌≡◌ {A = Option ℕ} (Some 0) (Some d) = h same in cc) in
    omega (arith, l, z)
told_writer s (Some (suc c)) u t d w e l h = let x : At (suc c) ≡ By t = e in cc

clean_slots : (sh : Shape) (R : List Record) (c : CleanRecord) (k t d : ℕ) → AreAllowed sh (Clean c ∷ R) → (clean_slot c.ended (image R c.dba k)).writer ≡ By t → commit_number R t ≡ Some d → is_forgotten R t ≡ false → ⊥
clean_slots sh R c k t d h e n f = go (image R c.dba k).writer refl
  where
    done : has_ended R t ≡ true
    done = let x = (txn_table sh R h.0).done t d n in ended_of R t x.1 x.0

    told : (u : ℕ) → (image R c.dba k).writer ≡ By u → u ≡ t → number_of_writer c.ended (image R c.dba k).writer ≡ Some d
    told u w same =
        ap (number_of_writer c.ended) (w ∙ ap By same) ∙ told_slot sh R c k t h.1.kind (w ∙ ap By same) done ∙ ap (λ (x : ℕ). Some x) (stated_is R t d n f)

    go : (w : Writer) → (image R c.dba k).writer ≡ w → ⊥
    go (At m) w = let x : At m ≡ By t = sym w ∙ ap (λ o. (as_told (image R c.dba k) o).writer) (sym (ap (number_of_writer c.ended) w)) ∙ e in cc
    go (By u) w = told_writer (image R c.dba k) (number_of_writer c.ended (image R c.dba k).writer) u t d w e (number_from R t d n) (told u w)

clean_entries : (sh : Shape) (R : List Record) (c : CleanRecord) (i t : ℕ) → AreAllowed sh (Clean c ∷ R) → 1 ≤ t → (clean_entry c.ended (entry R c.dba i)).txn ≡ t → is_active R t ≡ true
clean_entries sh R c i t h l e = elim (cases_Bool (is_active R t)) [
  | inl y ↦ y
  | inr n ↦ absurd (go (number_of c.ended (entry R c.dba i).txn) refl n)
]
  where
    gone : (entry R c.dba i).txn ≡ t → is_active R t ≡ false → number_of c.ended (entry R c.dba i).txn ≡ None → ⊥
    gone x n o =
        let done = ended_of R t (wrote_begun sh R c.dba t h.0 (entry_wrote R c.dba i t l x)) n in
        let y : ◌≡◌ {A = Option ℕ} None (Some (stated_number R t)) = sym o ∙ ap (number_of c.ended) x ∙ told_entry sh R c i t h.1.kind l x done in cc

    go : (o : Option ℕ) → number_of c.ended (entry R c.dba i).txn ≡ o → is_active R t ≡ false → ⊥
    go None o n = gone (ap (λ z. (entry_as_told (entry R c.dba i) z).txn) (sym o) ∙ e) n o
    go (Some m) o n = (let x : 0 ≡ t = ap (λ z. (entry_as_told (entry R c.dba i) z).txn) (sym o) ∙ e in omega (arith, l, x))

-- what it counts

told_counts : (e : ℕ → Bool) (s : Slot) (o : Option ℕ) → ((n : ℕ) → o ≡ Some n → writer_has_ended e s.writer ≡ true) → row_size e (as_told s o) ≡ row_size e s
told_counts e s None h = refl
told_counts e s (Some zero) h = elim (writer_has_ended e s.writer) as (λ v. cond v (length s.bytes) (length s.bytes) ≡ length s.bytes) [ true ↦ refl | false ↦ refl ] ∙ sym (size_ended e s (h 0 refl))
told_counts e s (Some (suc c)) h = sym (size_ended e s (h (suc c) refl))

over : (sh : Shape) (R : List Record) (c : CleanRecord) (w : Writer) (n : ℕ) → CleanAllowed sh R c → number_of_writer c.ended w ≡ Some n → writer_has_ended (ended_in R) w ≡ true
over sh R c (By t) n a e = ended_not R t (a.each t n e).ended
  where
    ended_not : (R : List Record) (t : ℕ) → has_ended R t ≡ true → ended_in R t ≡ true
    ended_not R t h = (elim (has_begun R t) as (λ v. (v && not (is_active R t)) ≡ true → not (is_active R t) ≡ true) [ true ↦ λ x. x | false ↦ λ x. absurd (true≢false (sym x)) ]) h
over sh R c (At m) n a e = refl

clean_used : (sh : Shape) (R : List Record) (c : CleanRecord) (b : ℕ) → CleanAllowed sh R c → used_by (ended_in R) (block_of (Clean c ∷ R) b) ≡ used_by (ended_in R) (block_of R b)
clean_used sh R c b a =
    used_is (ended_in R) (Clean c ∷ R) b
    ∙ ap (λ n. n + LIST_ENTRY_SIZE * (entry_count R b - LEAST_LIST_ENTRIES)) (sum_same (slot_count R b) (size_at (ended_in R) (image (Clean c ∷ R) b)) (size_at (ended_in R) (image R b)) (λ k. ap (λ n. SLOT_SIZE + n) (each k)))
    ∙ sym (used_is (ended_in R) R b)
  where
    each : (k : ℕ) → row_size (ended_in R) (image (Clean c ∷ R) b k) ≡ row_size (ended_in R) (image R b k)
    each k = elim (eqb c.dba b) as (λ v. row_size (ended_in R) (cond v (clean_slot c.ended (image R b k)) (image R b k)) ≡ row_size (ended_in R) (image R b k)) [
      | true ↦ told_counts (ended_in R) (image R b k) (number_of_writer c.ended (image R b k).writer) (λ n e. over sh R c (image R b k).writer n a e)
      | false ↦ refl
    ]

pub cleans_settle : CleansSettle
cleans_settle sh R c h =
    let here = eq-eqb c.dba c.dba refl in
    record {
      slots = λ k t d e n f. clean_slots sh R c k t d h (ap (λ (s : Slot). s.writer) (sym (cond-true _ _ _ here)) ∙ e) n f;
      entries = λ i t l e. clean_entries sh R c i t h l (ap (λ (x : ListEntry). x.txn) (sym (cond-true _ _ _ here)) ∙ e);
      used = λ b. clean_used sh R c b h.1.kind;
      class = λ p b. ap (λ x. class_of (BLOCK_ROOM - x) p) (clean_used sh R c b h.1.kind);
    }
