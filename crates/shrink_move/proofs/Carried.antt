-- How a move went, after calls that only looked.
use Rattle.std.proofs.Common.{◌≡◌, ℕ, List, ◌∷◌, None, sym, subst}
use Rattle.std.specs.Prelude.{Result, Ok, Err}
use Rattle.seg_words.specs.Types.{Shape}
use Rattle.disk_model.specs.Crash.{Meaning}
use Rattle.redo_model.specs.Records.{Record}
use Rattle.change_laws.specs.Types.{Fill, Full, fills_size, spot_for}
use Rattle.row_change.specs.Adding.{Stands, reused}
use Rattle.row_change.proofs.Made.{stays}
use Rattle.store_core.specs.Store.{Held, IsTrue}
use Rattle.store_core.specs.Adding.{Adds}
use Rattle.store_core.specs.Causes.{HasLooked, IsSoundFault}
use Rattle.store_core.specs.declared.fault.StoreFault.{StoreFault}
use Rattle.shrink_move.specs.declared.draft.Addition.{Addition}
use Rattle.shrink_move.specs.declared.fault.ShrinkFault.{ShrinkFault}
use Rattle.shrink_move.specs.declared.fault.ShrinkFault.TheVariants as faults
use Rattle.shrink_move.specs.Drafting.{PlanMade}
use Rattle.shrink_move.specs.Stepping.{HasFailed, HasMoved, IsMoved, IsSpent}

-- ---- adding

pub move_added : {D : Type 0} (meaning : Meaning D) (sh : Shape) (R : List Record) (o n : ℕ) (gs : List Fill) (a b : Held D) (x : Addition) (u : Unit {0}) → PlanMade sh R o n gs x → Adds {T = Unit {0}} meaning R (x.moved ∷ reused x.reuse R) a b (Ok u) → HasMoved meaning sh R o n gs a b x.blocks
move_added meaning sh R o n gs a b x u p m = record {
  next = x.moved ∷ reused x.reuse R;
  list_is = p.list_is;
  stands = record { list = m.added; survives = λ since needed s. m.survives since needed s };
  blocks_are = p.blocks;
}

pub move_failed : {D : Type 0} (meaning : Meaning D) (R next : List Record) (a b : Held D) (f : StoreFault) → Adds {T = Unit {0}} meaning R next a b (Err f) → HasFailed meaning R a b f
move_failed meaning R next a b f m = record { sound = m.sound; stands = record { list = m.refused; survives = λ since needed s. m.survives_refused since needed s } }

pub move_spent : {D : Type 0} (meaning : Meaning D) (sh : Shape) (R : List Record) (gs : List Fill) (a : Held D) (hs : List (ℕ × ℕ)) → IsTrue meaning R a → spot_for sh R (fills_size R gs) ≡ Full hs → IsSpent meaning sh R gs a a hs
move_spent meaning sh R gs a hs t e = record { full = e; stands = stays meaning a R t }

-- ---- after a look

pub stands_on : {D A : Type 0} (meaning : Meaning D) (R L : List Record) (a b c : Held D) (x : A) → IsTrue meaning R a → HasLooked {T = A} meaning a b (Ok x) → Stands meaning R L b c → Stands meaning R L a c
stands_on meaning R L a b c x t p s = record { list = s.list; survives = λ since needed h. s.survives since needed (p.survives since needed R t h) }

pub failed_on : {D A : Type 0} (meaning : Meaning D) (R : List Record) (a b c : Held D) (x : A) (f : StoreFault) → IsTrue meaning R a → HasLooked {T = A} meaning a b (Ok x) → HasFailed meaning R b c f → HasFailed meaning R a c f
failed_on meaning R a b c x f t p m = record { sound = λ n. m.sound (p.cause.kept n); stands = stands_on meaning R R a b c x t p m.stands }

pub spent_on : {D A : Type 0} (meaning : Meaning D) (sh : Shape) (R : List Record) (gs : List Fill) (a b c : Held D) (x : A) (hs : List (ℕ × ℕ)) → IsTrue meaning R a → HasLooked {T = A} meaning a b (Ok x) → IsSpent meaning sh R gs b c hs → IsSpent meaning sh R gs a c hs
spent_on meaning sh R gs a b c x hs t p m = record { full = m.full; stands = stands_on meaning R R a b c x t p m.stands }

pub moved_on : {D A : Type 0} (meaning : Meaning D) (sh : Shape) (R : List Record) (o n : ℕ) (gs : List Fill) (a b c : Held D) (x : A) (r : Result (List ℕ) ShrinkFault) → IsTrue meaning R a → HasLooked {T = A} meaning a b (Ok x) → IsMoved meaning sh R o n gs b c r → IsMoved meaning sh R o n gs a c r
moved_on meaning sh R o n gs a b c x (Ok blocks) t p m = record { next = m.next; list_is = m.list_is; stands = stands_on meaning R m.next a b c x t p m.stands; blocks_are = m.blocks_are }
moved_on meaning sh R o n gs a b c x (Err faults.MovementOff) t p m = m
moved_on meaning sh R o n gs a b c x (Err (faults.ShrinkBusy session)) t p m = m
moved_on meaning sh R o n gs a b c x (Err (faults.UndoFull hs)) t p m = spent_on meaning sh R gs a b c x hs t p m
moved_on meaning sh R o n gs a b c x (Err (faults.Store f)) t p m = failed_on meaning R a b c x f t p m

-- the look failed
pub look_failed : {D A : Type 0} (meaning : Meaning D) (R : List Record) (a b : Held D) (f : StoreFault) → IsTrue meaning R a → HasLooked {T = A} meaning a b (Err f) → (a.fault ≡ None → IsSoundFault f) → HasFailed meaning R a b f
look_failed meaning R a b f t p h = record { sound = h; stands = record { list = p.stays_true R t; survives = λ since needed s. p.survives since needed R t s } }

-- in the shape that was read
pub moved_in : {D : Type 0} (meaning : Meaning D) (sh k : Shape) (R : List Record) (o n : ℕ) (gs : List Fill) (a b : Held D) (r : Result (List ℕ) ShrinkFault) → k ≡ sh → IsMoved meaning k R o n gs a b r → IsMoved meaning sh R o n gs a b r
moved_in meaning sh k R o n gs a b r e m = subst (λ (z : Shape). IsMoved meaning z R o n gs a b r) e m
