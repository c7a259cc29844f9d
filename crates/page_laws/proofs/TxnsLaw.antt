-- The transaction table of a lawful list.
use Rattle.std.proofs.Common.{◌≡◌, ℕ, zero, suc, ◌+◌, ◌<◌, ◌≤◌, true, List, [], ◌∷◌, length, Option, Some, None, refl, sym, ◌∙◌, subst, arith}
use Rattle.seg_words.specs.Types.{Shape, UndoAddr, TXN_ENTRIES, OWN_BLOCKS, LEAST_UNDO_BLOCKS}
use Rattle.redo_model.specs.Records.{Record}
use Rattle.redo_model.specs.Model.{Step, Effect, effect_of, is_active, entry_of, standing_steps, standing, newest_of, undo_of_step, last_undo, HeldPart, held_at, undo_held, AreAllowed}
use Rattle.redo_model.specs.Effects.{Still, Formats, Adds, TakesBack, Cleans}
use Rattle.redo_laws.proofs.steps.Held.{newest_has, newest_each, newest_is_by}
use Rattle.redo_laws.specs.Reads.{StandAt, IsThere}
use Rattle.redo_laws.proofs.lists.Every.{Every, every-filter}
use Rattle.redo_laws.proofs.allowed.Basics.{EffectBasics, basics}
use Rattle.redo_laws.proofs.numbers.Bounds.{current_bound}
use Rattle.redo_laws.proofs.undo.ReadsLaw.{undo_is_read}
use Rattle.redo_laws.proofs.spread.Whole.{whole}
use Rattle.redo_laws.proofs.numbers.TxnTable.{TxnTable, txn_table}
use Rattle.page_laws.specs.Txns.{ActiveOf, IsPlaced, TxnsAreInTable}

-- the undo of standing records lies in the ring

abbrev pub InRing : Shape → Step → Type 0
InRing sh st = (OWN_BLOCKS ≤ st.undo.block) × (st.undo.block < OWN_BLOCKS + sh.undo)

ring_effect : (sh : Shape) (R : List Record) (e : Effect) → LEAST_UNDO_BLOCKS ≤ sh.undo → AreAllowed sh R → EffectBasics R e → Every (InRing sh) (standing R) → Every (InRing sh) (standing_steps e (standing R))
ring_effect sh R Still l h b k = k
ring_effect sh R (Formats d) l h b k = k
ring_effect sh R (Adds st) l h b k = (current_bound sh R st.undo.block l h b.undo.current, k)
ring_effect sh R (TakesBack t) l h b k = every-filter _ _ (standing R) k
ring_effect sh R (Cleans d cs) l h b k = k

pub in_ring : (sh : Shape) (R : List Record) → LEAST_UNDO_BLOCKS ≤ sh.undo → AreAllowed sh R → Every (InRing sh) (standing R)
in_ring sh [] l h = tt
in_ring sh (r ∷ R) l h = ring_effect sh R (effect_of r) l h.0 (basics sh R r h.1.kind) (in_ring sh R l h.0)

pub held_below : (hs : List HeldPart) (n : ℕ) (h : HeldPart) → held_at hs n ≡ Some h → n < length hs
held_below [] n h e = absurd (let x : ◌≡◌ {A = Option HeldPart} None (Some h) = e in cc)
held_below (x ∷ hs) zero h e = omega arith
held_below (x ∷ hs) (suc n) h e = let l = held_below hs n h e in omega (arith, l)

stands_below : (hs : List HeldPart) (st : Step) (n : ℕ) (ps : List _) → StandAt hs st n ps → 1 ≤ length ps → n < length hs
stands_below hs st n [] h l = absurd (omega arith)
stands_below hs st n (p ∷ ps) h l = held_below hs n _ h.0

last_placed : (sh : Shape) (R : List Record) (t : ℕ) (st : Step) → LEAST_UNDO_BLOCKS ≤ sh.undo → AreAllowed sh R → is_active R t ≡ true → newest_of (standing R) t ≡ Some st → IsPlaced sh R st.undo
last_placed sh R t st l h on e =
    let ring = newest_has (InRing sh) (standing R) t st e (in_ring sh R l h) in
    let there = newest_each (IsThere R) (standing R) t st e (undo_is_read sh R h).there t (newest_is_by (standing R) t st e) on in
    let least = newest_has (λ (s : Step). 1 ≤ length s.parts) (standing R) t st e (whole sh R h).undo.least in
    record { from = ring.0; to = ring.1; sequence = there.0; place = stands_below (undo_held R st.undo.block) st st.undo.nth st.parts there.1 least }

last_is : (sh : Shape) (R : List Record) (t : ℕ) (a : UndoAddr) → LEAST_UNDO_BLOCKS ≤ sh.undo → AreAllowed sh R → is_active R t ≡ true → last_undo R t ≡ Some a → IsPlaced sh R a
last_is sh R t a l h on e = go (newest_of (standing R) t) refl e
  where
    go : (o : Option Step) → newest_of (standing R) t ≡ o → undo_of_step o ≡ Some a → IsPlaced sh R a
    go None f x = absurd (let y : ◌≡◌ {A = Option UndoAddr} None (Some a) = x in cc)
    go (Some st) f x = let same : st.undo ≡ a = cc in subst (IsPlaced sh R) same (last_placed sh R t st l h on f)

within_is : (i j : ℕ) (o : Option ℕ) → o ≡ Some i → o ≡ Some j → j < TXN_ENTRIES → i < TXN_ENTRIES
within_is i j o e f l = let x : ◌≡◌ {A = Option ℕ} (Some i) (Some j) = sym e ∙ f in let same : i ≡ j = cc in omega (arith, same, l)

active_is : (sh : Shape) (R : List Record) (t : ℕ) → TxnTable R → is_active R t ≡ true → ActiveOf sh R t
active_is sh R t w on =
    let b = w.begun t on in
    let e = w.entered t b in
    let k = w.kept t on in
    record { entry = (e.0, e.1, w.user t e.0 e.1 k, e.2); not_forgotten = k; number = w.most t b }

pub txns_are_in_table : TxnsAreInTable
txns_are_in_table sh R l h =
    let w = txn_table sh R h in
    record {
      entries = λ i t. record {
        used = w.last t i;
        own = w.user t i;
        few = λ e. let x = w.entered t (w.entry_begun t i e) in within_is i x.0 (entry_of R t) e x.1 x.2;
        begun = w.entry_begun t i;
      };
      control = w.control;
      active = λ t on. active_is sh R t w on;
      last = λ t a on e. last_is sh R t a l h on e;
    }
