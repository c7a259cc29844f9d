-- The records of a change added, and what its call answers.
use Rattle.std.proofs.Common.{◌≡◌, ◌⊎◌, ℕ, ◌≤◌, List, Option, None, sym, ap, subst, inl, inr, arith, le_trans}
use Rattle.std.specs.Prelude.{Result, Ok, Err}
use Rattle.seg_words.specs.Types.{Shape}
use Rattle.disk_model.specs.Crash.{Meaning}
use Rattle.redo_model.specs.Records.{Record}
use Rattle.redo_model.specs.Model.{IsLawful}
use Rattle.store_core.specs.Store.{Held, IsTrue}
use Rattle.store_core.specs.Survives.{Survives}
use Rattle.store_core.specs.Causes.{HasLooked, IsSoundFault}
use Rattle.store_core.specs.declared.fault.StoreFault.{StoreFault}
use Rattle.store_core.specs.Adding.{Adds as Added}
use Rattle.change_laws.specs.Types.{Change, change_size, Answer, by_spot, spot_for}
use Rattle.row_change.specs.declared.answer.Done.{Done}
use Rattle.row_change.specs.declared.answer.ChangeFault.{ChangeFault}
use Rattle.row_change.specs.declared.answer.ChangeFault.TheVariants.{Busy, Changed, NoSlot, NeedsBlock, UndoFull, Store}
use Rattle.row_change.specs.declared.draft.Additions.{Additions}
use Rattle.row_change.specs.declared.plan.Planned.TheVariants.{Spent}
use Rattle.row_change.specs.Adding.{begun, added, AreLawful, Stands, AddsAll}
use Rattle.row_change.specs.Answering.{IsRefused, BegunStands, HasFailed, IsFaultOf, Answers}
use Rattle.row_change.specs.Planning.{IsNext, PlanMade, PlanMeans}

-- ---- adding

-- the Begin was refused
pub begin_refused : {D : Type 0} (meaning : Meaning D) (a b : Held D) (f : StoreFault) (R : List Record) (x : Additions) → a.fault ≡ None → Added {T = Unit {0}} meaning R (begun x.begin R) a b (Err f) → AddsAll {T = Unit {0}} meaning R x a b (Err f)
begin_refused meaning a b f R x n m = record { all = tt; left = inl (record { list = m.refused; survives = λ since needed s. m.survives_refused since needed s }); sound = m.sound n; stable = m.stable }

-- the Begin stands, and then the other records were added or not
pub adds_all : {D : Type 0} (meaning : Meaning D) (a b c : Held D) (u : Unit {0}) (r : Result (Unit {0}) StoreFault) (R : List Record) (x : Additions) → b.fault ≡ None → Added {T = Unit {0}} meaning R (begun x.begin R) a b (Ok u) → Added meaning (begun x.begin R) (added R x) b c r → AddsAll meaning R x a c r
adds_all meaning a b c u (Ok y) R x n p q = record {
  all = record { list = q.added; survives = λ since needed s. q.survives since needed (p.survives since needed s) };
  left = tt;
  sound = tt;
  stable = le_trans p.stable q.stable;
}
adds_all meaning a b c u (Err f) R x n p q = record {
  all = tt;
  left = inr (record { list = q.refused; survives = λ since needed s. q.survives_refused since needed (p.survives since needed s) });
  sound = q.sound n;
  stable = le_trans p.stable q.stable;
}

-- the records after the Begin are lawful in the shape that the store has by then
pub lawful_later : {D : Type 0} (a b : Held D) (R : List Record) (x : Additions) → b.shape ≡ a.shape → AreLawful a.shape R x → IsLawful b.shape (added R x)
lawful_later a b R x e l = subst (λ (s : Shape). IsLawful s (added R x)) (sym e) l.all

-- nothing is to be begun
pub begun_none : {D : Type 0} (meaning : Meaning D) (a : Held D) (R : List Record) → IsTrue meaning R a → Added {T = Unit {0}} meaning R R a a (Ok tt)
begun_none meaning a R t = record { added = t; refused = tt; sound = λ n. tt; stable = omega arith; survives = λ since needed s. s; survives_refused = λ since needed s. tt }

-- a Begin was added
pub begin_added : {D : Type 0} (meaning : Meaning D) (a b : Held D) (R next : List Record) → IsTrue meaning next b → a.log.stable ≤ b.log.stable → ((since : ℕ) (needed : ℕ → ℕ) → Survives meaning since needed R a → Survives meaning since needed next b) → Added {T = Unit {0}} meaning R next a b (Ok tt)
begin_added meaning a b R next t l s = record { added = t; refused = tt; sound = λ n. tt; stable = l; survives = s; survives_refused = λ since needed h. tt }

-- or refused
pub begin_kept : {D : Type 0} (meaning : Meaning D) (a b : Held D) (R next : List Record) (f : StoreFault) → IsTrue meaning R b → (a.fault ≡ None → IsSoundFault f) → a.log.stable ≤ b.log.stable → ((since : ℕ) (needed : ℕ → ℕ) → Survives meaning since needed R a → Survives meaning since needed R b) → Added {T = Unit {0}} meaning R next a b (Err f)
begin_kept meaning a b R next f t n l s = record { added = tt; refused = t; sound = n; stable = l; survives = λ since needed h. tt; survives_refused = s }

-- ---- answering

pub stays : {D : Type 0} (meaning : Meaning D) (a : Held D) (R : List Record) → IsTrue meaning R a → Stands meaning R R a a
stays meaning a R t = record { list = t; survives = λ since needed s. s }

-- undo is full
pub spent_answers : {D : Type 0} (meaning : Meaning D) (a : Held D) (R : List Record) (who : ℕ) (own : Option ℕ) (c : Change) (hs : List (ℕ × ℕ)) → IsTrue meaning R a → PlanMeans a.shape R who own c (Spent hs) → Answers meaning R who own (by_spot c (spot_for a.shape R (change_size R c))) a a (Err (UndoFull hs))
spent_answers meaning a R who own c hs t p = record { is = record { answer_is = ap (by_spot c) p; stands = stays meaning a R t }; stable = omega arith }

-- its records were added
pub added_answers : {D : Type 0} (meaning : Meaning D) (a b : Held D) (R : List Record) (who : ℕ) (own : Option ℕ) (c : Change) (x : Additions) (y : Unit {0}) → PlanMade a.shape R who own c x → AddsAll {T = Unit {0}} meaning R x a b (Ok y) → Answers meaning R who own (by_spot c (spot_for a.shape R (change_size R c))) a b (Ok x.done)
added_answers meaning a b R who own c x y p m = record {
  is = record { change = c; answer_is = p.made; done_is = p.done; next = added R x; next_is = p.next; stands = m.all };
  stable = m.stable;
}

-- or not
pub failed_answers : {D : Type 0} (meaning : Meaning D) (a b : Held D) (R : List Record) (who : ℕ) (own : Option ℕ) (c : Change) (x : Additions) (f : StoreFault) (answer : Answer) → PlanMade a.shape R who own c x → AddsAll {T = Unit {0}} meaning R x a b (Err f) → Answers meaning R who own answer a b (Err (Store f))
failed_answers meaning a b R who own c x f answer p m = record { is = record { sound = λ n. m.sound; left = left m.left }; stable = m.stable }
  where
    left : Stands meaning R R a b ⊎ Stands meaning R (begun x.begin R) a b → Stands meaning R R a b ⊎ BegunStands meaning R who own a b
    left (inl s) = inl s
    left (inr s) = inr (record { next = begun x.begin R; begins = p.begins; stands = s })

looked_stands : {D A : Type 0} (meaning : Meaning D) (a b : Held D) (R : List Record) (r : Result A StoreFault) → IsTrue meaning R a → HasLooked meaning a b r → Stands meaning R R a b
looked_stands meaning a b R r t p = record { list = p.stays_true R t; survives = λ since needed s. p.survives since needed R t s }

-- a call that looked failed
pub looked_failed : {D A : Type 0} (meaning : Meaning D) (a b : Held D) (R : List Record) (who : ℕ) (own : Option ℕ) (answer : Answer) (f : StoreFault) → IsTrue meaning R a → HasLooked {T = A} meaning a b (Err f) → (a.fault ≡ None → IsSoundFault f) → Answers meaning R who own answer a b (Err (Store f))
looked_failed meaning a b R who own answer f t p s = record { is = record { sound = s; left = inl (looked_stands meaning a b R (Err f) t p) }; stable = p.stable R t.list }

-- ---- after a call that looked

stands_on : {D A : Type 0} (meaning : Meaning D) (a b c : Held D) (R L : List Record) (x : A) → IsTrue meaning R a → HasLooked {T = A} meaning a b (Ok x) → Stands meaning R L b c → Stands meaning R L a c
stands_on meaning a b c R L x t p s = record { list = s.list; survives = λ since needed h. s.survives since needed (p.survives since needed R t h) }

refused_on : {D A : Type 0} (meaning : Meaning D) (a b c : Held D) (R : List Record) (x : A) (answer cause : Answer) → IsTrue meaning R a → HasLooked {T = A} meaning a b (Ok x) → IsRefused meaning R answer cause b c → IsRefused meaning R answer cause a c
refused_on meaning a b c R x answer cause t p r = record { answer_is = r.answer_is; stands = stands_on meaning a b c R R x t p r.stands }

failed_on : {D A : Type 0} (meaning : Meaning D) (a b c : Held D) (R : List Record) (who : ℕ) (own : Option ℕ) (x : A) (f : StoreFault) → IsTrue meaning R a → HasLooked {T = A} meaning a b (Ok x) → HasFailed meaning R who own b c f → HasFailed meaning R who own a c f
failed_on meaning a b c R who own x f t p r = record { sound = λ n. r.sound (p.cause.kept n); left = left r.left }
  where
    left : Stands meaning R R b c ⊎ BegunStands meaning R who own b c → Stands meaning R R a c ⊎ BegunStands meaning R who own a c
    left (inl s) = inl (stands_on meaning a b c R R x t p s)
    left (inr s) = inr (record { next = s.next; begins = s.begins; stands = stands_on meaning a b c R s.next x t p s.stands })

fault_on : {D A : Type 0} (meaning : Meaning D) (a b c : Held D) (R : List Record) (who : ℕ) (own : Option ℕ) (x : A) (answer : Answer) (f : ChangeFault) → IsTrue meaning R a → HasLooked {T = A} meaning a b (Ok x) → IsFaultOf meaning R who own answer b c f → IsFaultOf meaning R who own answer a c f
fault_on meaning a b c R who own x answer (Busy u) t p r = refused_on meaning a b c R x answer _ t p r
fault_on meaning a b c R who own x answer (Changed s) t p r = refused_on meaning a b c R x answer _ t p r
fault_on meaning a b c R who own x answer (NoSlot ts) t p r = refused_on meaning a b c R x answer _ t p r
fault_on meaning a b c R who own x answer (NeedsBlock len) t p r = refused_on meaning a b c R x answer _ t p r
fault_on meaning a b c R who own x answer (UndoFull hs) t p r = refused_on meaning a b c R x answer _ t p r
fault_on meaning a b c R who own x answer (Store f) t p r = failed_on meaning a b c R who own x f t p r

pub answers_on : {D A : Type 0} (meaning : Meaning D) (a b c : Held D) (R : List Record) (who : ℕ) (own : Option ℕ) (x : A) (answer : Answer) (r : Result Done ChangeFault) → IsTrue meaning R a → HasLooked {T = A} meaning a b (Ok x) → Answers meaning R who own answer b c r → Answers meaning R who own answer a c r
answers_on meaning a b c R who own x answer (Ok done) t p r = record {
  is = record {
    change = r.is.change;
    answer_is = r.is.answer_is;
    done_is = r.is.done_is;
    next = r.is.next;
    next_is = subst (λ (s : Shape). IsNext s R who own r.is.change r.is.next) p.loan.shape r.is.next_is;
    stands = stands_on meaning a b c R r.is.next x t p r.is.stands;
  };
  stable = le_trans (p.stable R t.list) r.stable;
}
answers_on meaning a b c R who own x answer (Err f) t p r = record { is = fault_on meaning a b c R who own x answer f t p r.is; stable = le_trans (p.stable R t.list) r.stable }
