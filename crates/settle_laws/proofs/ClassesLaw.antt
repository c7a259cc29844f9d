-- What a block counts stays.
use Rattle.std.proofs.Common.{◌≡◌, ℕ, zero, suc, ◌+◌, ◌-◌, ◌*◌, ◌≤◌, Bool, false, cond, not, ◌&&◌, ◌||◌, eqb, List, [], ◌∷◌, length, get_or, refl, sym, ◌∙◌, ap, arith, ne_eqb, eq-eqb}
use Rattle.seg_words.proofs.Lemmas.{or_parts}
use Rattle.seg_words.specs.Types.{Shape, Slot, Writer, By, At, new_slot, class_of, writer_has_ended, used_of as used_by, BLOCK_ROOM, SLOT_SIZE, LIST_ENTRY_SIZE, LEAST_LIST_ENTRIES}
use Rattle.redo_model.specs.Records.{Record, Begin, Commit, Ended}
use Rattle.redo_model.specs.Model.{txn_effect, txn_count, is_active, ended_in, is_by, standing, slots_name, slots_of, block_of, image, slot_count, entry_count, Made, makers, AreAllowed}
use Rattle.redo_model.proofs.Bridge.{image_is}
use Rattle.redo_laws.proofs.steps.Adding.{others_are_left}
use Rattle.redo_laws.proofs.lists.Bools.{clash}
use Rattle.redo_laws.proofs.steps.Facts.{BegunBy}
use Rattle.redo_laws.proofs.links.Links.{Linked}
use Rattle.redo_laws.proofs.room.RoomLaw.{used_is, size_at}
use Rattle.redo_laws.proofs.lists.Sums.{sum_same}
use Rattle.redo_laws.proofs.spread.Whole.{whole}
use Rattle.settle_laws.specs.Classes.{ends_named, ClassesStay}

-- where each slot's writer has ended or not as before, the block counts what it did
pub same_used : (e f : ℕ → Bool) (R : List Record) (b : ℕ) → ((k : ℕ) → writer_has_ended e (image R b k).writer ≡ writer_has_ended f (image R b k).writer) → used_by e (block_of R b) ≡ used_by f (block_of R b)
same_used e f R b h =
    used_is e R b
    ∙ ap (λ n. n + LIST_ENTRY_SIZE * (entry_count R b - LEAST_LIST_ENTRIES)) (sum_same (slot_count R b) (size_at e (image R b)) (size_at f (image R b)) (λ k. ap (λ v. SLOT_SIZE + cond v (length (image R b k).bytes) (image R b k).room) (h k)))
    ∙ sym (used_is f R b)

-- whom a block names has begun

begun_by : (active : ℕ → Bool) (n u : ℕ) (w : Writer) → BegunBy n w → w ≡ By u → u ≤ n
begun_by active n u (By v) h e = let same : v ≡ u = (let x : By v ≡ By u = e in cc) in omega (arith, h, same)
begun_by active n u (At c) h e = absurd (let x : At c ≡ By u = e in cc)

pub writer_begun : (sh : Shape) (R : List Record) (b k u : ℕ) → AreAllowed sh R → (image R b k).writer ≡ By u → u ≤ txn_count R
writer_begun sh R b k u h e = go (image R b k) (makers R b k) ((whole sh R h).links b k) e
  where
    go : (i : Slot) (ms : List Made) → Linked (is_active R) (txn_count R) (standing R) i ms → i.writer ≡ By u → u ≤ txn_count R
    go i [] l e = absurd (let x : At 0 ≡ By u = sym l.writer ∙ e in cc)
    go i (m ∷ ms) l e = begun_by (is_active R) (txn_count R) u i.writer l.0.begun e

-- a block that doesn't name a transaction has no slot of it

named_not : (ss : List Slot) (t k : ℕ) → slots_name ss t ≡ false → is_by (get_or ss k new_slot).writer t ≡ false
named_not [] t k h = refl
named_not (s ∷ ss) t zero h = (or_parts (is_by s.writer t) (slots_name ss t) h).0
named_not (s ∷ ss) t (suc k) h = named_not ss t k (or_parts (is_by s.writer t) (slots_name ss t) h).1

not_by : (R : List Record) (b k t : ℕ) → slots_name (slots_of R b) t ≡ false → is_by (image R b k).writer t ≡ false
not_by R b k t h = ap (λ (s : Slot). is_by s.writer t) (sym (image_is R b k)) ∙ named_not (slots_of R b) t k h

-- who has ended after a record, among the writers of a block

begin_same : (R : List Record) (g : ℕ) (w : Writer) → g ≡ suc (txn_count R) → ((u : ℕ) → w ≡ By u → u ≤ txn_count R) → writer_has_ended (λ t. not (eqb g t || is_active R t)) w ≡ writer_has_ended (ended_in R) w
begin_same R g (By u) n h = ap (λ v. not (v || is_active R u)) (ne_eqb g u (λ e. let l = h u refl in omega (arith, l, e, n)))
begin_same R g (At c) n h = refl

end_same : (R : List Record) (t : ℕ) (w : Writer) → is_by w t ≡ false → writer_has_ended (λ u. not (not (eqb t u) && is_active R u)) w ≡ writer_has_ended (ended_in R) w
end_same R t (By u) h = ap (λ v. not (not v && is_active R u)) (ne_eqb t u (λ e. other t u e h))
  where
    other : (t u : ℕ) → t ≡ u → eqb u t ≡ false → ⊥
    other t u e h = clash (eqb u t) (eq-eqb u t (sym e)) h
end_same R t (At c) h = refl

writers_same : (sh : Shape) (R : List Record) (r : Record) (b k : ℕ) → AreAllowed sh (r ∷ R) → ends_named (txn_effect r) (block_of R b) ≡ false → writer_has_ended (ended_in (r ∷ R)) (image R b k).writer ≡ writer_has_ended (ended_in R) (image R b k).writer
writers_same sh R (Begin g) b k h n = begin_same R g.txn (image R b k).writer h.1.kind.number (λ u e. writer_begun sh R b k u h.0 e)
writers_same sh R (Commit c) b k h n = end_same R c.txn (image R b k).writer (not_by R b k c.txn n)
writers_same sh R (Ended e) b k h n = end_same R e.txn (image R b k).writer (not_by R b k e.txn n)
writers_same sh R _ b k h n = refl

pub classes_stay : ClassesStay
classes_stay sh R r b h c n =
    let same = (others_are_left R r b c).value in
    let used : used_by (ended_in (r ∷ R)) (block_of (r ∷ R) b) ≡ used_by (ended_in R) (block_of R b) =
    ap (used_by (ended_in (r ∷ R))) same ∙ same_used (ended_in (r ∷ R)) (ended_in R) R b (λ k. writers_same sh R r b k h n) in
    record {
      used = used;
      free = ap (λ x. BLOCK_ROOM - x) used;
      class = λ p. ap (λ x. class_of (BLOCK_ROOM - x) p) used;
    }
