-- A step, by what the next one is.
use Rattle.std.proofs.Common.{◌≡◌, ℕ, List, Option, Some, None, refl, sym, ◌∙◌, ap, subst}
use Rattle.std.specs.Prelude.{Result, Ok, Err, OnOk, OnErr, IfOk, IfErr}
use Rattle.seg_words.specs.Types.{Shape}
use Rattle.disk_model.specs.Crash.{Meaning}
use Rattle.redo_model.specs.Records.{Record}
use Rattle.change_laws.specs.Types.{Fill}
use Rattle.history_text.specs.declared.outcome.Stop.TheVariants as stops
use Rattle.row_change.specs.Adding.{Stands}
use Rattle.row_change.proofs.Made.{stays}
use Rattle.mark_move.proofs.Tabling.{tried_same}
use Rattle.store_core.specs.Store.{Held, IsTrue}
use Rattle.store_core.specs.Adding.{HasTried}
use Rattle.store_core.specs.Causes.{HasLooked}
use Rattle.store_core.specs.declared.fault.StoreFault.{StoreFault}
use Rattle.store_core.specs.declared.fault.StoreFault.TheVariants as store_faults
use Rattle.store_core.proofs.Lookups.{looked_memory, looked_same}
use Rattle.store_core.proofs.Additions.{tried_none}
use Rattle.shrink_move.specs.declared.come.Come.{Come}
use Rattle.shrink_move.specs.declared.fault.ShrinkFault.{ShrinkFault}
use Rattle.shrink_move.specs.declared.fault.ShrinkFault.TheVariants as faults
use Rattle.shrink_move.specs.declared.next.Next.{Next}
use Rattle.shrink_move.specs.declared.next.Next.TheVariants.{Bottom, Skips, NoFit}
use Rattle.shrink_move.specs.declared.shrink.Shrink.{Shrink}
use Rattle.shrink_move.specs.declared.stepping.ShrinkStep.{ShrinkStep}
use Rattle.shrink_move.specs.declared.stepping.ShrinkStep.TheVariants.{Moved, Skipped, Stopped}
use Rattle.shrink_move.specs.Drafting.{blocks_of}
use Rattle.shrink_move.specs.Moves.{list_moved}
use Rattle.shrink_move.specs.Nexts.{NextIs}
use Rattle.shrink_move.specs.Starts.{store_part}
use Rattle.shrink_move.specs.Stepping.{HasMoved, HasStepped, IsMoved, StepIs, step_answer, step_fills, step_list, step_shrink, with_cursor, with_skip}
use Rattle.shrink_move.proofs.Carried.{failed_on, spent_on, stands_on}

-- ---- where nothing is added

pub stops_at_bottom : {D : Type 0} (meaning : Meaning D) (sh : Shape) (R : List Record) (a : Held D) (x : Shrink) → IsTrue meaning R a → NextIs sh R x.obj x.skips x.cursor Bottom → HasStepped meaning sh R a a x x (Stopped stops.Bottom)
stops_at_bottom meaning sh R a x t w = record { next = Bottom; next_is = w; answer_is = refl; shrink_is = refl; list = R; list_is = refl; stands = stays meaning a R t }

pub stops_at_row : {D : Type 0} (meaning : Meaning D) (sh : Shape) (R : List Record) (a : Held D) (x : Shrink) (come : Come) → IsTrue meaning R a → NextIs sh R x.obj x.skips x.cursor (NoFit come) → HasStepped meaning sh R a a x x (Stopped (stops.NoFit come.at))
stops_at_row meaning sh R a x come t w = record { next = NoFit come; next_is = w; answer_is = refl; shrink_is = refl; list = R; list_is = refl; stands = stays meaning a R t }

pub skips_slot : {D : Type 0} (meaning : Meaning D) (sh : Shape) (R : List Record) (a : Held D) (x y : Shrink) (come : Come) (txn : ℕ) (r : Result ShrinkStep ShrinkFault) → IsTrue meaning R a → NextIs sh R x.obj x.skips x.cursor (Skips come txn)
    → OnOk r (y ≡ with_skip R x come txn) → IfOk r (λ z. z ≡ Skipped come.at txn) → OnErr r (y ≡ x) → IfErr r (λ f. f ≡ faults.Store store_faults.NoMemory) → StepIs meaning sh R a a x y r
skips_slot meaning sh R a x y come txn (Ok z) t w s e n m = record { next = Skips come txn; next_is = w; answer_is = e; shrink_is = s; list = R; list_is = refl; stands = stays meaning a R t }
skips_slot meaning sh R a x y come txn (Err f) t w s e n m = subst (λ (g : ShrinkFault). StepIs meaning sh R a a x y (Err g)) (sym m) (record { failed = record { sound = λ u. tt; stands = stays meaning a R t }; shrink_is = n })

-- a store that is left as it was
pub tried_nothing : {D : Type 0} (meaning : Meaning D) (a : Held D) → a.fault ≡ None → HasTried {T = Unit {0}} meaning a a (Ok tt)
tried_nothing meaning a n = tried_same {A = Unit {0}} meaning a a tt tt (looked_same {T = Unit {0}} meaning a tt n)

pub skip_tried : {D : Type 0} (meaning : Meaning D) (a : Held D) (r : Result ShrinkStep ShrinkFault) → a.fault ≡ None → IfErr r (λ f. f ≡ faults.Store store_faults.NoMemory) → HasTried {T = Unit {0}} meaning a a (store_part r)
skip_tried meaning a (Ok z) n m = tried_nothing meaning a n
skip_tried meaning a (Err f) n m = subst (λ (g : ShrinkFault). HasTried {T = Unit {0}} meaning a a (store_part {T = ShrinkStep} (Err g))) (sym m) (tried_none {A = Unit {0}} meaning a a store_faults.NoMemory (looked_memory {A = Unit {0}} meaning a a tt (looked_same {T = Unit {0}} meaning a tt n)))

-- ---- where a row is moved

pub moves_row : {D : Type 0} (meaning : Meaning D) (sh : Shape) (R : List Record) (a b : Held D) (x y : Shrink) (next : Next) (n place : ℕ) (gs : List Fill) (blocks : List ℕ) → NextIs sh R x.obj x.skips x.cursor next → step_list sh R x.obj next ≡ list_moved sh R x.obj n gs → step_answer R next ≡ Moved (blocks_of gs) → step_shrink R x next ≡ with_cursor x place
    → y ≡ with_cursor x place → HasMoved meaning sh R x.obj n gs a b blocks → HasStepped meaning sh R a b x y (Moved blocks)
moves_row meaning sh R a b x y next n place gs blocks w list answer after s m = record {
  next = next;
  next_is = w;
  answer_is = ap (λ (bs : List ℕ). Moved bs) m.blocks_are ∙ sym answer;
  shrink_is = s ∙ sym after;
  list = m.next;
  list_is = list ∙ m.list_is;
  stands = m.stands;
}

pub move_refused : {D : Type 0} (meaning : Meaning D) (sh : Shape) (R : List Record) (a b : Held D) (x y : Shrink) (next : Next) (n : ℕ) (gs : List Fill) (f : ShrinkFault) → NextIs sh R x.obj x.skips x.cursor next → step_fills R next ≡ Some gs → y ≡ x → IsMoved meaning sh R x.obj n gs a b (Err f) → StepIs meaning sh R a b x y (Err f)
move_refused meaning sh R a b x y next n gs faults.MovementOff w fills s m = m
move_refused meaning sh R a b x y next n gs (faults.ShrinkBusy session) w fills s m = m
move_refused meaning sh R a b x y next n gs (faults.UndoFull holders) w fills s m = record { next = next; next_is = w; fills = gs; fills_are = fills; spent = m; shrink_is = s }
move_refused meaning sh R a b x y next n gs (faults.Store fault) w fills s m = record { failed = m; shrink_is = s }

pub refusal_tried : {D : Type 0} (meaning : Meaning D) (a b : Held D) (f : ShrinkFault) → HasTried {T = Unit {0}} meaning a b (store_part {T = List ℕ} (Err f)) → HasTried {T = Unit {0}} meaning a b (store_part {T = ShrinkStep} (Err f))
refusal_tried meaning a b faults.MovementOff h = h
refusal_tried meaning a b (faults.ShrinkBusy session) h = h
refusal_tried meaning a b (faults.UndoFull holders) h = h
refusal_tried meaning a b (faults.Store fault) h = h

-- ---- after a look

pub step_on : {D A : Type 0} (meaning : Meaning D) (sh : Shape) (R : List Record) (a b c : Held D) (look : A) (x y : Shrink) (r : Result ShrinkStep ShrinkFault) → IsTrue meaning R a → HasLooked {T = A} meaning a b (Ok look) → StepIs meaning sh R b c x y r → StepIs meaning sh R a c x y r
step_on meaning sh R a b c look x y (Ok answer) t p m = record { next = m.next; next_is = m.next_is; answer_is = m.answer_is; shrink_is = m.shrink_is; list = m.list; list_is = m.list_is; stands = stands_on meaning R m.list a b c look t p m.stands }
step_on meaning sh R a b c look x y (Err faults.MovementOff) t p m = m
step_on meaning sh R a b c look x y (Err (faults.ShrinkBusy session)) t p m = m
step_on meaning sh R a b c look x y (Err (faults.UndoFull holders)) t p m = record { next = m.next; next_is = m.next_is; fills = m.fills; fills_are = m.fills_are; spent = spent_on meaning sh R m.fills a b c look holders t p m.spent; shrink_is = m.shrink_is }
step_on meaning sh R a b c look x y (Err (faults.Store fault)) t p m = record { failed = failed_on meaning R a b c look fault t p m.failed; shrink_is = m.shrink_is }

-- in the shape that the store has
pub step_in : {D : Type 0} (meaning : Meaning D) (sh k : Shape) (R : List Record) (a b : Held D) (x y : Shrink) (r : Result ShrinkStep ShrinkFault) → k ≡ sh → StepIs meaning k R a b x y r → StepIs meaning sh R a b x y r
step_in meaning sh k R a b x y r e m = subst (λ (z : Shape). StepIs meaning z R a b x y r) e m
