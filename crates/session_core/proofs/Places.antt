-- What an event leaves in its session's place.
use Rattle.std.proofs.Common.{◌≡◌, ℕ, List, Option, Some, None, sym, subst, arith, le_trans, le_refl}
use Rattle.std.specs.Prelude.{Result, Ok, Err, IfOk}
use Rattle.seg_words.specs.Types.{Shape}
use Rattle.disk_model.specs.Crash.{Meaning}
use Rattle.redo_model.specs.Records.{Record}
use Rattle.script_text.specs.declared.statement.Statement.{Statement}
use Rattle.history_model.specs.Spans.{Span}
use Rattle.history_laws.specs.Working.{later, Scanning}
use Rattle.session_model.specs.Doings.{DoingFits, Working}
use Rattle.session_model.specs.Worlds.{Acts}
use Rattle.store_core.specs.Store.{Held}
use Rattle.store_core.specs.Causes.{HasLooked, IsSoundFault}
use Rattle.store_core.specs.declared.fault.StoreFault.{StoreFault}
use Rattle.store_core.specs.declared.fault.StoreFault.TheVariants.{NoMemory}
use Rattle.scan_table.specs.declared.scan.OpenScan.{OpenScan}
use Rattle.script_text.specs.declared.statement.Statement.TheVariants as asked
use Rattle.session_core.specs.declared.session.Doing.TheVariants as told
use Rattle.session_core.specs.declared.turned.Turned.{Turned}
use Rattle.session_core.specs.declared.turned.Turned.TheVariants as turned
use Rattle.session_core.specs.declared.turned.Acted.{Acted}
use Rattle.session_core.specs.Acting.{IsAt, TurnsTo, Turns, HasActed}
use Rattle.session_core.specs.Doings.{no_scan}
use Rattle.session_core.specs.Scanned.{IsShaped, TurnsAt, TurnsWith, HasActedAt}
use Rattle.session_core.proofs.Calls.{acts_none, HasStayed}

-- ---- the place alone

pub shaped : (sh : Shape) (p : Option OpenScan) (s : OpenScan) → p ≡ Some s → s.shape ≡ sh → IsShaped sh p
shaped sh p s e h = subst (IsShaped sh) (sym e) h

pub closed : (sh : Shape) (p : Option OpenScan) → p ≡ None → IsShaped sh p
closed sh p e = subst (IsShaped sh) (sym e) tt

-- ---- events of other statements

-- a scan without blocks is never under way
never_scans : (sh : Shape) (x : Span) (st : Option Statement) → DoingFits sh x st (Working (Scanning no_scan)) → ⊥
never_scans sh x (Some (asked.Scan name)) h = let l = h.within in absurd (omega (arith, l))
never_scans sh x None h = h
never_scans sh x (Some st) h = h

turns_at : (p : Option OpenScan) (sh : Shape) (x : Span) (st : Option Statement) (v : Turned) → TurnsTo sh x st v → TurnsAt p sh x st v
turns_at p sh x st (turned.Over outcome k) h = h
turns_at p sh x st (turned.On told.Scanning) h = absurd (never_scans sh x st h.fits)
turns_at p sh x st (turned.On d) h = h

pub turns_with : (p : Option OpenScan) (sh : Shape) (x : Span) (st : Option Statement) (R : List Record) (r : Result Acted StoreFault) → IfOk r (Turns sh x st R) → IfOk r (TurnsWith p sh x st R)
turns_with p sh x st R (Ok a) h = record { turns = turns_at p sh (later x R) st a.turned h.turns; own = h.own; kept = h.kept }
turns_with p sh x st R (Err f) h = tt

abbrev pub acted_at : {D : Type 0} (meaning : Meaning D) (x : Span) (st : Option Statement) (p : Option OpenScan) (a b : Held D) (r : Result Acted StoreFault) → IsShaped a.shape p → HasActed meaning x st a b r → HasActedAt meaning x st p a b r
acted_at meaning x st p a b r shaped h = record {
  records = h.records;
  stands = h.stands;
  acts = h.acts;
  stable = h.stable;
  survives = h.survives;
  time = h.time;
  turns = turns_with p a.shape x st h.records r h.turns;
  placed = shaped;
  sound = h.sound;
}

-- ---- looks

pub told_at : {D A : Type 0} (meaning : Meaning D) (x : Span) (st : Option Statement) (own : Option ℕ) (p : Option OpenScan) (a b : Held D) (y : A) (z : Acted) → IsAt meaning x own a → HasLooked {T = A} meaning a b (Ok y) → IsShaped a.shape p → TurnsWith p a.shape x st x.ended z
    → HasActedAt meaning x st p a b (Ok z)
told_at meaning x st own p a b y z at h shaped t = record {
  records = x.ended;
  stands = h.stays_true x.ended at.stands;
  acts = acts_none a.shape x st;
  stable = h.stable x.ended at.stands.list;
  survives = λ since needed s. h.survives since needed x.ended at.stands s;
  time = h.loan.time x.ended at.stands.list;
  turns = t;
  placed = shaped;
  sound = tt;
}

pub looked_at : {D A : Type 0} (meaning : Meaning D) (x : Span) (st : Option Statement) (own : Option ℕ) (p : Option OpenScan) (a b : Held D) (f : StoreFault) → IsAt meaning x own a → HasLooked {T = A} meaning a b (Err f) → IsShaped a.shape p → IsSoundFault f → HasActedAt meaning x st p a b (Err f)
looked_at meaning x st own p a b f at h shaped sound = record {
  records = x.ended;
  stands = h.stays_true x.ended at.stands;
  acts = acts_none a.shape x st;
  stable = h.stable x.ended at.stands.list;
  survives = λ since needed s. h.survives since needed x.ended at.stands s;
  time = h.loan.time x.ended at.stands.list;
  turns = tt;
  placed = shaped;
  sound = sound;
}

pub memory_at : {D : Type 0} (meaning : Meaning D) (x : Span) (st : Option Statement) (own : Option ℕ) (p : Option OpenScan) (s : Held D) → IsAt meaning x own s → IsShaped s.shape p → HasActedAt meaning x st p s s (Err NoMemory)
memory_at meaning x st own p s at shaped = record {
  records = x.ended;
  stands = at.stands;
  acts = acts_none s.shape x st;
  stable = le_refl _;
  survives = λ since needed h. h;
  time = le_refl _;
  turns = tt;
  placed = shaped;
  sound = tt;
}

-- a look, and then another call
pub after_at : {D : Type 0} (meaning : Meaning D) (x : Span) (st : Option Statement) (p : Option OpenScan) (a b c : Held D) (r : Result Acted StoreFault) → HasStayed meaning x a b → HasActedAt meaning x st p b c r → HasActedAt meaning x st p a c r
after_at meaning x st p a b c r s q = record {
  records = q.records;
  stands = q.stands;
  acts = subst (λ (z : Shape). Acts z x st q.records) s.shape q.acts;
  stable = le_trans s.stable q.stable;
  survives = λ since needed v. q.survives since needed (s.survives since needed v);
  time = le_trans s.time q.time;
  turns = subst (λ (z : Shape). IfOk r (TurnsWith p z x st q.records)) s.shape q.turns;
  placed = subst (λ (z : Shape). IsShaped z p) s.shape q.placed;
  sound = q.sound;
}

-- of this answer
pub answer_at : {D : Type 0} (meaning : Meaning D) (x : Span) (st : Option Statement) (p : Option OpenScan) (a b : Held D) (r q : Result Acted StoreFault) → r ≡ q → HasActedAt meaning x st p a b q → HasActedAt meaning x st p a b r
answer_at meaning x st p a b r q e h = subst (λ (z : Result Acted StoreFault). HasActedAt meaning x st p a b z) (sym e) h
