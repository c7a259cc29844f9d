-- Records that were added to a store, one call after the other.
use Rattle.std.proofs.Common.{◌≡◌, ◌⊎◌, ℕ, ◌≤◌, Bool, true, false, cond, not, eqb, List, ◌∷◌, None, sym, ◌∙◌, ap, ap₂, subst, inl, inr, le_trans}
use Rattle.std.specs.Prelude.{Result, Ok, Err, OnOk, IfOk}
use Rattle.seg_words.specs.Types.{Shape, class_code}
use Rattle.disk_model.specs.Crash.{Meaning}
use Rattle.redo_model.specs.Records.{Record, Clean}
use Rattle.redo_model.specs.Model.{IsTable, IsRowBlock, IsLawful}
use Rattle.usage_laws.specs.Types.{drafted_clean, calls_for_clean, with_clean, with_class, settled, calls_for_class}
use Rattle.usage_laws.proofs.SettledLaw.{ruled_same, kept_same}
use Rattle.txn_block.specs.Types.{TxnTable}
use Rattle.version_laws.specs.Types.{HoldsTable}
use Rattle.store_core.specs.Store.{Held, HasList, IsTrue, SameLoan}
use Rattle.store_core.specs.Survives.{Survives}
use Rattle.store_core.specs.Causes.{HasCause, HasLooked, IsSoundFault}
use Rattle.store_core.specs.Adding.{Adds, HasTried}
use Rattle.store_core.specs.declared.fault.StoreFault.{StoreFault}
use Rattle.store_core.proofs.Lookups.{cause_ok, cause_err}
use Rattle.segment_read.specs.declared.segment.Segment.{Segment}
use Rattle.segment_read.specs.Segments.{IsSegment}
use Rattle.space_usage.specs.declared.levels.Levels.{Levels}
use Rattle.space_usage.specs.Keeping.{levels_of}
use Rattle.space_usage.specs.Settles.{HasBlock, HasSomeList, Stands, Settles}

-- one record was added, or not
pub was_added : {D : Type 0} (meaning : Meaning D) (a b : Held D) (R next : List Record) → IsTrue meaning next b → a.log.stable ≤ b.log.stable → ((since : ℕ) (needed : ℕ → ℕ) → Survives meaning since needed R a → Survives meaning since needed next b) → Adds {T = Unit {0}} meaning R next a b (Ok tt)
was_added meaning a b R next t l s = record { added = t; refused = tt; sound = λ n. tt; stable = l; survives = s; survives_refused = λ since needed h. tt }

pub not_added : {D : Type 0} (meaning : Meaning D) (a b : Held D) (R next : List Record) (f : StoreFault) → IsTrue meaning R b → (a.fault ≡ None → IsSoundFault f) → a.log.stable ≤ b.log.stable → ((since : ℕ) (needed : ℕ → ℕ) → Survives meaning since needed R a → Survives meaning since needed R b) → Adds {T = Unit {0}} meaning R next a b (Err f)
not_added meaning a b R next f t n l s = record { added = tt; refused = t; sound = n; stable = l; survives = λ since needed h. tt; survives_refused = s }

pub tried_added : {D A : Type 0} (meaning : Meaning D) (a b : Held D) (x : A) → ((R : List Record) → HasList meaning R a → a.log.stable ≤ b.log.stable) → SameLoan meaning a b → HasCause {T = A} meaning a b (Ok x) → HasTried {T = Unit {0}} meaning a b (Ok tt)
tried_added meaning a b x l s c = record { refused = λ R t. tt; survives_refused = λ since needed R t h. tt; stable = l; loan = s; cause = cause_ok meaning a b x tt c }

pub tried_refused : {D A : Type 0} (meaning : Meaning D) (a b : Held D) (f : StoreFault) → ((R : List Record) → IsTrue meaning R a → IsTrue meaning R b) → ((since : ℕ) (needed : ℕ → ℕ) (R : List Record) → IsTrue meaning R a → Survives meaning since needed R a → Survives meaning since needed R b) → ((R : List Record) → HasList meaning R a → a.log.stable ≤ b.log.stable) → SameLoan meaning a b → HasCause {T = A} meaning a b (Err f) → HasTried {T = Unit {0}} meaning a b (Err f)
tried_refused {A = A} meaning a b f r v l s c = record { refused = r; survives_refused = v; stable = l; loan = s; cause = cause_err {A = A} meaning a b f c }

-- a call that only looked
pub tried_looked : {D A T : Type 0} (meaning : Meaning D) (a b : Held D) (x : A) (y : T) → HasLooked {T = A} meaning a b (Ok x) → HasTried {T = T} meaning a b (Ok y)
tried_looked meaning a b x y p = record { refused = λ R t. tt; survives_refused = λ since needed R t s. tt; stable = p.stable; loan = p.loan; cause = cause_ok meaning a b x y p.cause }

pub some_list : {D : Type 0} (meaning : Meaning D) (b : Held D) (Q : List Record) (r : Result (Unit {0}) StoreFault) → OnOk r (HasList meaning Q b) → OnOk r (HasSomeList meaning b)
some_list meaning b Q (Ok x) h = record { records = Q; list = h }
some_list meaning b Q (Err f) h = tt

-- the block is still there after calls that only looked

pub block_later : {D A : Type 0} (meaning : Meaning D) (a b : Held D) (R : List Record) (o d : ℕ) (r : Result A StoreFault) → HasLooked meaning a b r → HasBlock meaning R o d a → HasBlock meaning R o d b
block_later meaning a b R o d r p h = record {
  holds = p.stays_true R h.holds;
  table = h.table;
  here = subst (λ (sh : Shape). IsRowBlock sh R o d) (sym p.loan.shape) h.here;
}

-- and after its Clean

table_after : (R : List Record) (o b : ℕ) → IsTable R o → IsTable (with_clean R b) o
table_after R o b t = elim (calls_for_clean R b) as (λ v. IsTable (cond v (Clean (drafted_clean R b) ∷ R) R) o) [ true ↦ record { least = t.least; most = t.most } | false ↦ t ]

here_after : (sh : Shape) (R : List Record) (o b : ℕ) → IsRowBlock sh R o b → IsRowBlock sh (with_clean R b) o b
here_after sh R o b here = elim (calls_for_clean R b) as (λ v. IsRowBlock sh (cond v (Clean (drafted_clean R b) ∷ R) R) o b) [ true ↦ record { here = here.here; formatted = here.formatted } | false ↦ here ]

pub holds_after : (R : List Record) (b : ℕ) (q : TxnTable) → HoldsTable R q → HoldsTable (with_clean R b) q
holds_after R b q h = elim (calls_for_clean R b) as (λ v. HoldsTable (cond v (Clean (drafted_clean R b) ∷ R) R) q) [
  | true ↦ record { control = h.control; last_txn = h.last_txn; last_row = h.last_row; current = h.current; count = h.count; entries = h.entries }
  | false ↦ h
]

pub block_cleaned : {D : Type 0} (meaning : Meaning D) (a b : Held D) (R : List Record) (o d : ℕ) → SameLoan meaning a b → IsTrue meaning (with_clean R d) b → HasBlock meaning R o d a → HasBlock meaning (with_clean R d) o d b
block_cleaned meaning a b R o d p t h = record {
  holds = t;
  table = table_after R o d h.table;
  here = here_after b.shape R o d (subst (λ (sh : Shape). IsRowBlock sh R o d) (sym p.shape) h.here);
}

-- a call after one that may have added records
pub loan_after : {D : Type 0} (meaning : Meaning D) (a b c : Held D) → ((R : List Record) → HasList meaning R a → HasSomeList meaning b) → SameLoan meaning a b → SameLoan meaning b c → SameLoan meaning a c
loan_after meaning a b c list p q = record {
  loan = q.loan ∙ p.loan;
  first = q.first ∙ p.first;
  shape = q.shape ∙ p.shape;
  told = (λ h. p.told.0 (q.told.0 h), λ h. q.told.1 (p.told.1 h));
  time = λ R h. (let s = list R h in le_trans (p.time R h) (q.time s.records s.list));
  faults = le_trans p.faults q.faults;
  reads = q.reads ∙ p.reads;
}

-- ---- both records of a settling

-- the Clean was refused, or before it the table
pub settle_none : {D A : Type 0} (meaning : Meaning D) (a b : Held D) (R next : List Record) (o d : ℕ) (f : StoreFault) → Adds {T = A} meaning R next a b (Err f) → Settles meaning R o d a b (Err f)
settle_none meaning a b R next o d f m = record {
  settles = tt;
  changed = tt;
  left = inl (record { list = m.refused; survives = λ since needed s. m.survives_refused since needed s });
  sound = m.sound;
  stable = m.stable;
}

-- the Clean is there where it is called for, and then the Class or not
pub settle_both : {D : Type 0} (meaning : Meaning D) (a b c : Held D) (R : List Record) (o d : ℕ) (x : Unit {0}) (r : Result Bool StoreFault) → b.fault ≡ None → b.shape ≡ a.shape → calls_for_class (with_clean R d) o d ≡ calls_for_class R o d
    → Adds {T = Unit {0}} meaning R (with_clean R d) a b (Ok x) → Adds meaning (with_clean R d) (with_class b.shape (with_clean R d) o d) b c r → IfOk r (λ y. y ≡ calls_for_class (with_clean R d) o d) → Settles meaning R o d a c r
settle_both meaning a b c R o d x (Ok y) n e same p m z = record {
  settles = subst (λ (sh : Shape). Stands meaning R (settled sh R o d) a c) e (record { list = m.added; survives = λ since needed s. m.survives since needed (p.survives since needed s) });
  changed = z ∙ same;
  left = tt;
  sound = λ u. tt;
  stable = le_trans p.stable m.stable;
}
settle_both meaning a b c R o d x (Err f) n e same p m z = record {
  settles = tt;
  changed = tt;
  left = inr (record { list = m.refused; survives = λ since needed s. m.survives_refused since needed (p.survives since needed s) });
  sound = λ u. m.sound n;
  stable = le_trans p.stable m.stable;
}

-- after a call that only looked
pub settles_on : {D A : Type 0} (meaning : Meaning D) (a b c : Held D) (R : List Record) (o d : ℕ) (x : A) (r : Result Bool StoreFault) → IsTrue meaning R a → HasLooked {T = A} meaning a b (Ok x) → Settles meaning R o d b c r → Settles meaning R o d a c r
settles_on meaning a b c R o d x (Ok y) t p m = record {
  settles = subst (λ (sh : Shape). Stands meaning R (settled sh R o d) a c) p.loan.shape (record { list = m.settles.list; survives = λ since needed s. m.settles.survives since needed (p.survives since needed R t s) });
  changed = m.changed;
  left = tt;
  sound = λ n. tt;
  stable = le_trans (p.stable R t.list) m.stable;
}
settles_on meaning a b c R o d x (Err f) t p m = record {
  settles = tt;
  changed = tt;
  left = left m.left;
  sound = λ n. m.sound (p.cause.kept n);
  stable = le_trans (p.stable R t.list) m.stable;
}
  where
    left : Stands meaning R R b c ⊎ Stands meaning R (with_clean R d) b c → Stands meaning R R a c ⊎ Stands meaning R (with_clean R d) a c
    left (inl s) = inl (record { list = s.list; survives = λ since needed h. s.survives since needed (p.survives since needed R t h) })
    left (inr s) = inr (record { list = s.list; survives = λ since needed h. s.survives since needed (p.survives since needed R t h) })

-- a call that only looked was refused
pub settles_none : {D A : Type 0} (meaning : Meaning D) (a b : Held D) (R : List Record) (o d : ℕ) (f : StoreFault) → IsTrue meaning R a → HasLooked {T = A} meaning a b (Err f) → (a.fault ≡ None → IsSoundFault f) → Settles meaning R o d a b (Err f)
settles_none meaning a b R o d f t p h = record {
  settles = tt;
  changed = tt;
  left = inl (record { list = p.stays_true R t; survives = λ since needed s. p.survives since needed R t s });
  sound = h;
  stable = p.stable R t.list;
}

pub segment_later : {D : Type 0} (meaning : Meaning D) (a b : Held D) (R : List Record) (o : ℕ) (g : Segment) → SameLoan meaning a b → IsSegment a.shape R o g → IsSegment b.shape R o g
segment_later meaning a b R o g p is = subst (λ (sh : Shape). IsSegment sh R o g) (sym p.shape) is

pub levels_later : {D : Type 0} (meaning : Meaning D) (a b : Held D) (R : List Record) (o d : ℕ) (l : Levels) → SameLoan meaning a b → l ≡ levels_of a.shape R o d → l ≡ levels_of b.shape R o d
levels_later meaning a b R o d l p is = is ∙ ap (λ (sh : Shape). levels_of sh R o d) (sym p.shape)

-- a Clean changes nothing in whether a Class is called for
pub class_call_same : (sh : Shape) (R : List Record) (o b : ℕ) → IsLawful sh R → IsRowBlock sh R o b → calls_for_class (with_clean R b) o b ≡ calls_for_class R o b
class_call_same sh R o b h here = ap₂ (λ k l. not (eqb (class_code k) (class_code l))) (ruled_same sh R o b h here) (kept_same R b)
