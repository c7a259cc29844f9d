-- A search through the ring of undo blocks of a store.
use Rattle.std.proofs.Common.{◌≡◌, ℕ, true, ◌+◌, ◌<◌, ◌≤◌, List, [], ◌∷◌, ◌++◌, length, Some, None, sym, ◌∙◌, ap, subst, arith}
use Rattle.std.specs.Prelude.{Ok}
use Rattle.seg_words.specs.Types.{Shape, is_shape}
use Rattle.disk_model.specs.Crash.{Meaning}
use Rattle.redo_model.specs.Records.{Record, ReuseRecord}
use Rattle.redo_model.specs.Model.{IsTable, current_undo, undo_parts, AreAllowed}
use Rattle.redo_laws.proofs.numbers.Bounds.{limits, current_bound, places_bound}
use Rattle.redo_laws.proofs.undo.EconomyLaw.{undo_is_enough}
use Rattle.txn_block.specs.Types.{TxnTable}
use Rattle.version_laws.specs.Types.{HoldsTable, IsInRing}
use Rattle.change_laws.specs.Types.{Next, Full}
use Rattle.store_core.specs.Store.{Held, IsTrue}
use Rattle.store_core.specs.Causes.{HasLooked, IsSoundFault}
use Rattle.store_core.specs.declared.fault.StoreFault.{StoreFault}
use Rattle.store_core.proofs.Lookups.{looked_on, looked_ok, looked_same}
use Rattle.row_change.specs.declared.spot.Behind.{Behind}
use Rattle.row_change.specs.declared.spot.Behind.TheVariants.{Free, Held as HeldBy}
use Rattle.row_change.specs.Spots.{IsBehind, nth_of_ring, spot_behind}
use Rattle.row_change.proofs.RingLaw.{Searched, searched_none, searched_held, searched_free, searched_all}

pub record Searching {D : Type 0} (meaning : Meaning D) (a b : Held D) (q : TxnTable) (sh : Shape) (u n : ℕ) (hs : List (ℕ × ℕ)) : Type 0 where
  pub looked : HasLooked {T = Unit {0}} meaning a b (Ok tt)
  pub shape : sh ≡ a.shape
  pub ring : IsInRing sh u
  pub searched : (R : List Record) → IsTrue meaning R a → HoldsTable R q → Searched sh R u n hs

pub searching_none : {D : Type 0} (meaning : Meaning D) (a : Held D) (q : TxnTable) (sh : Shape) (u : ℕ) → a.fault ≡ None → sh ≡ a.shape → IsInRing sh u → Searching meaning a a q sh u 0 []
searching_none meaning a q sh u n e i = record { looked = looked_same meaning a tt n; shape = e; ring = i; searched = λ R t k. searched_none sh R u }

-- what the next block says, in the words of the list
abbrev pub Says : {D : Type 0} → Meaning D → Held D → TxnTable → ℕ → Behind → Type 0
Says meaning b q block x = (R : List Record) → IsTrue meaning R b → HoldsTable R q → IsInRing b.shape block → IsBehind R block x

in_ring : (s t : Shape) (u : ℕ) → s ≡ t → IsInRing s u → IsInRing t u
in_ring s t u e i = subst (λ (x : Shape). IsInRing x u) e i

said : {D : Type 0} (meaning : Meaning D) (a b : Held D) (q : TxnTable) (sh : Shape) (u n block : ℕ) (hs : List (ℕ × ℕ)) (x : Behind) (R : List Record) → block ≡ nth_of_ring sh u n → Searching meaning a b q sh u n hs → IsInRing sh block → Says meaning b q block x → IsTrue meaning R a → HoldsTable R q
    → IsBehind R (nth_of_ring sh u n) x
said meaning a b q sh u n block hs x R e s i says t k = subst (λ d. IsBehind R d x) e (says R (s.looked.stays_true R t) k (in_ring sh b.shape block (s.shape ∙ sym s.looked.loan.shape) i))

-- it has a holder
pub searching_held : {D : Type 0} (meaning : Meaning D) (a b c : Held D) (q : TxnTable) (sh : Shape) (u n block t : ℕ) (hs gs : List (ℕ × ℕ)) → n + 1 < sh.undo → block ≡ nth_of_ring sh u n → IsInRing sh block → Searching meaning a b q sh u n hs
    → HasLooked {T = Behind} meaning b c (Ok (HeldBy t)) → Says meaning b q block (HeldBy t) → gs ≡ hs ++ (block, t) ∷ [] → Searching meaning a c q sh u (n + 1) gs
searching_held meaning a b c q sh u n block t hs gs l e i s p says g = record {
  looked = looked_ok meaning a c (HeldBy t) tt (looked_on meaning a b c tt (Ok (HeldBy t)) s.looked p);
  shape = s.shape;
  ring = s.ring;
  searched = λ R h k. searched_held sh R u n t hs gs s.ring.from s.ring.to l (said meaning a b q sh u n block hs (HeldBy t) R e s i says h k) (g ∙ ap (λ d. hs ++ (d, t) ∷ []) e) (s.searched R h k);
}

-- it is free
pub searching_free : {D : Type 0} (meaning : Meaning D) (a b : Held D) (q : TxnTable) (sh : Shape) (u n block : ℕ) (hs : List (ℕ × ℕ)) (y : ReuseRecord) (R : List Record) → n + 1 < sh.undo → block ≡ nth_of_ring sh u n → IsInRing sh block → Searching meaning a b q sh u n hs
    → Says meaning b q block (Free y) → IsTrue meaning R a → HoldsTable R q → current_undo R ≡ Some u → Next y ≡ spot_behind a.shape R u
searching_free meaning a b q sh u n block hs y R l e i s says h k c =
    let x = said meaning a b q sh u n block hs (Free y) R e s i says h k in
    ap Next x.1 ∙ searched_free sh R u n hs s.ring.from s.ring.to l c x.0 (s.searched R h k) ∙ ap (λ (z : Shape). spot_behind z R u) s.shape

pub searching_all : {D : Type 0} (meaning : Meaning D) (a b : Held D) (q : TxnTable) (sh : Shape) (u n : ℕ) (hs : List (ℕ × ℕ)) (R : List Record) → sh.undo ≤ n + 1 → Searching meaning a b q sh u n hs → IsTrue meaning R a → HoldsTable R q → current_undo R ≡ Some u → Full hs ≡ spot_behind a.shape R u
searching_all meaning a b q sh u n hs R l s h k c = searched_all sh R u n hs s.ring.from s.ring.to l c (s.searched R h k) ∙ ap (λ (y : Shape). spot_behind y R u) s.shape

-- ---- faults

-- the next block is read without a fault of the page
pub searching_sound : {D : Type 0} (meaning : Meaning D) (a b : Held D) (q : TxnTable) (sh : Shape) (u n block o : ℕ) (hs : List (ℕ × ℕ)) (f : StoreFault) (R : List Record) → IsInRing sh block → Searching meaning a b q sh u n hs
    → ((Q : List Record) (p : ℕ) → IsTrue meaning Q b → HoldsTable Q q → IsTable Q p → IsInRing b.shape block → b.fault ≡ None → IsSoundFault f) → IsTrue meaning R a → HoldsTable R q → IsTable R o → IsSoundFault f
searching_sound meaning a b q sh u n block o hs f R i s sound h k t = sound R o (s.looked.stays_true R h) k t (in_ring sh b.shape block (s.shape ∙ sym s.looked.loan.shape) i) (s.looked.cause.kept s.looked.cause.goes_on)

-- ---- the current block

pub current_ring : (sh : Shape) (R : List Record) (u : ℕ) → is_shape sh ≡ true → AreAllowed sh R → current_undo R ≡ Some u → IsInRing sh u
current_ring sh R u s h c = (let b = current_bound sh R u (limits sh s).undo_from h c in record { from = b.0; to = b.1 })

pub few_parts : (sh : Shape) (R : List Record) (u : ℕ) → AreAllowed sh R → length (undo_parts R u) ≤ 63
few_parts sh R u h = (let l = (undo_is_enough sh R h).full u in let b = places_bound R u [] (omega (arith, l)) in omega (arith, b))
