-- The events of a repair.
use Rattle.std.proofs.Common.{◌≡◌, ℕ, zero, suc, ◌<◌, ◌≤◌, Bool, true, false, cond, eqb, eq-eqb, ltb, lt-ltb, List, [], ◌∷◌, ◌++◌, length, drop, slice_get, Option, Some, None, refl, sym, ◌∙◌, ap, ap₂, subst, arith, inl, inr, true≢false, le_refl}
use Rattle.std.specs.Prelude.{Result, Ok, Err, IfOk, IfErr, IsErrOf}
use Rattle.std.proofs.lemmas.Bool.{ltb-false}
use Rattle.std.proofs.lemmas.Option.{slice_get_within}
use Rattle.seg_words.proofs.Lemmas.{cases_Bool, cond-true, cond-false, or_left}
use Rattle.seg_words.specs.Types.{Shape}
use Rattle.disk_model.specs.Crash.{Meaning}
use Rattle.redo_record.specs.declared.record.Record.TheVariants as made
use Rattle.redo_model.specs.Records.{Record, ClassRecord, CleanRecord}
use Rattle.redo_model.specs.Model.{table_named, Extends, IsRowBlock, IsTable, AreAllowed}
use Rattle.redo_laws.specs.Among.{is_in}
use Rattle.redo_laws.specs.Scan.{scan_list}
use Rattle.scan_laws.specs.Staying.{is_released_since}
use Rattle.scan_laws.proofs.StayingLaw.{row_blocks_stay_since}
use Rattle.session_laws.specs.Sessions.{own_of, own_backed, backed_of}
use Rattle.script_text.specs.declared.statement.Statement.{Statement}
use Rattle.script_text.specs.declared.statement.Statement.TheVariants as asked
use Rattle.history_text.specs.declared.outcome.Outcome.TheVariants as outcome
use Rattle.history_text.specs.declared.refusal.Refusal.TheVariants as why
use Rattle.history_model.specs.declared.limit.TheConstants.{NEW_WORK_RECORDS}
use Rattle.history_model.specs.declared.history.HistoryItem.{HistoryItem}
use Rattle.history_model.specs.declared.history.Kept.TheVariants as kept
use Rattle.history_model.specs.declared.history.Settled.{Settled}
use Rattle.history_model.specs.Spans.{Span}
use Rattle.history_model.specs.Passing.{FirstPass}
use Rattle.history_laws.specs.Working.{later}
use Rattle.history_laws.proofs.Owned.{none_some}
use Rattle.history_laws.proofs.Passes.{accepted_passes}
use Rattle.history_laws.proofs.Scans.{listed, named_table}
use Rattle.session_model.specs.Done.{IsTidied, tidy_none, tidy_one, IsDoneBy, done_none, done_one}
use Rattle.session_model.specs.Repairs.{RepairWork, RepairStands, SettlesNext, settled_now, is_changed, counted}
use Rattle.session_model.proofs.Repairing.{repairs_begin, repairs_settle, repairs_pass, repairs_mean, left_are_listed}
use Rattle.store_core.specs.Store.{Held}
use Rattle.store_core.specs.Causes.{IsSoundFault}
use Rattle.store_core.specs.declared.fault.StoreFault.{StoreFault}
use Rattle.store_core.specs.declared.fault.StoreFault.TheVariants.{DeviceFault, NoMemory}
use Rattle.space_usage.specs.Settles.{HasBlock}
use Rattle.session_core.specs.declared.session.RepairWork.{RepairWork as Told}
use Rattle.session_core.specs.declared.session.Doing.TheVariants as told
use Rattle.session_core.specs.declared.repairing.Repaired.{Repaired}
use Rattle.session_core.specs.declared.turned.Turned.TheVariants as turned
use Rattle.session_core.specs.declared.turned.Acted.{Acted}
use Rattle.session_core.specs.Acting.{IsAt, IsStarting, Turns, HasActed, HasCalled}
use Rattle.session_core.specs.RepairWorks.{repair_of}
use Rattle.session_core.specs.Repairing.{TellsRepair, HasRepaired}
use Rattle.session_core.specs.RepairEvents.{IsRepairing, IsNext, begun_work, next_done, past_next, with_settled, repair_turned}
use Rattle.session_core.specs.Starting.{IsRefusedFirst}
use Rattle.session_core.proofs.Checks.{pass_before}
use Rattle.session_core.proofs.MakingTables.{begun_named}
use Rattle.session_core.proofs.Incarnations.{allowed_then, table_on}
use Rattle.session_core.proofs.Settlings.{tidied_own}

-- ---- the tests of its beginning

yes : (e : ◌≡◌ {A = Bool} false true) → ⊥
yes e = absurd (true≢false (sym e))

pub repair_passes : (sh : Shape) (x : Span) (name : List ℕ) (o : ℕ) → table_named x.begun name ≡ Some o → (NEW_WORK_RECORDS ≤ length x.begun → ⊥) → FirstPass sh x (asked.Repair name)
repair_passes sh x name o t few = record {
  table = λ h. none_some o ⊥ (sym h ∙ t);
  new_name = λ h. h;
  few_tables = λ h. h;
  movement = λ h. h;
  no_transaction = λ h. h;
  unshrunk = λ v h. h;
  log = few;
  data_block = λ b h. h;
  value = λ v h. h;
  label = λ l h. none_some _ _ h.0;
}

-- no table of that name
pub no_repair_table : (sh : Shape) (x : Span) (name : List ℕ) → table_named x.begun name ≡ None → IsRefusedFirst sh x (asked.Repair name) why.NoTable
no_repair_table sh x name e = record {
  first = refl;
  cause = e;
  before = pass_before sh x (asked.Repair name) 0 (omega arith) (record {
    table = λ b h. yes b;
    new_name = λ b h. yes b;
    few_tables = λ b h. yes b;
    movement = λ b h. yes b;
    no_transaction = λ b h. yes b;
    unshrunk = λ b v h. yes b;
    log = λ b h. yes b;
    data_block = λ b c h. yes b;
    value = λ b c h. yes b;
    label = λ b c h. yes b;
  });
}

-- the log is full
pub repair_full : (sh : Shape) (x : Span) (name : List ℕ) (o : ℕ) → table_named x.begun name ≡ Some o → NEW_WORK_RECORDS ≤ length x.begun → IsRefusedFirst sh x (asked.Repair name) why.LogFull
repair_full sh x name o there full = record {
  first = refl;
  cause = full;
  before = pass_before sh x (asked.Repair name) 6 (omega arith) (record {
    table = λ _ h. none_some o _ (sym h ∙ there);
    new_name = λ _ h. h;
    few_tables = λ _ h. h;
    movement = λ _ h. h;
    no_transaction = λ _ h. h;
    unshrunk = λ _ v h. h;
    log = λ b h. yes b;
    data_block = λ b c h. yes b;
    value = λ b c h. yes b;
    label = λ b c h. yes b;
  });
}

-- that it passed them stays as records are added
passes_later : (sh : Shape) (x : Span) (R : List Record) (name : List ℕ) → FirstPass sh x (asked.Repair name) → FirstPass sh (later x R) (asked.Repair name)
passes_later sh x R name f = record {
  table = λ h. f.table h;
  new_name = λ h. h;
  few_tables = λ h. h;
  movement = λ h. h;
  no_transaction = λ h. h;
  unshrunk = λ v h. h;
  log = λ h. f.log h;
  data_block = λ b h. h;
  value = λ v h. h;
  label = λ l h. none_some _ _ h.0;
}

-- ---- it goes on, or is over

on_turns : (sh : Shape) (x : Span) (R : List Record) (name : List ℕ) (own : Option ℕ) (w : Told) → FirstPass sh (later x R) (asked.Repair name) → RepairStands sh (later x R) name (repair_of w) → own_backed R x.session ≡ false → own_of R x.session ≡ own
    → Turns sh x (Some (asked.Repair name)) R (record { turned = turned.On (told.Repairing w); own = own })
on_turns sh x R name own w f s whole o = record {
  turns = record { passed = f; fits = s; whole = λ z. whole };
  own = o;
  kept = tt;
}

over_turns : (sh : Shape) (x : Span) (R : List Record) (name : List ℕ) (own : Option ℕ) (w : Told) → FirstPass sh (later x R) (asked.Repair name) → RepairStands sh (later x R) name (repair_of w) → own_backed R x.session ≡ false → own_of R x.session ≡ own → drop w.done w.blocks ≡ []
    → Turns sh x (Some (asked.Repair name)) R (record { turned = turned.Over (outcome.Repaired name w.changed) (kept.Repaired w.settled); own = own })
over_turns sh x R name own w f s whole o none = record {
  turns = record {
    means = (refl, repairs_mean sh (later x R) name (repair_of w) none s);
    passes = accepted_passes sh (later x R) (asked.Repair name) (outcome.Repaired name w.changed) (kept.Repaired w.settled) refl f;
    whole = whole;
    closed = λ z. none_some _ _ (sym z);
  };
  own = o;
  kept = tt;
}

none_left : (xs : List ℕ) (n : ℕ) → length xs ≤ n → drop n xs ≡ []
none_left [] zero l = refl
none_left [] (suc n) l = refl
none_left (x ∷ xs) zero l = absurd (omega (arith, l))
none_left (x ∷ xs) (suc n) l = none_left xs n (omega (arith, l))

pub repair_turns : (sh : Shape) (x : Span) (R : List Record) (name : List ℕ) (own : Option ℕ) (w : Told) → FirstPass sh (later x R) (asked.Repair name) → RepairStands sh (later x R) name (repair_of w) → own_backed R x.session ≡ false → own_of R x.session ≡ own
    → Turns sh x (Some (asked.Repair name)) R (repair_turned w name own)
repair_turns sh x R name own w f s whole o = elim (cases_Bool (ltb w.done (length w.blocks))) [
  | inl y ↦ subst (Turns sh x (Some (asked.Repair name)) R) (sym (cond-true _ _ _ y)) (on_turns sh x R name own w f s whole o)
  | inr n ↦ subst (Turns sh x (Some (asked.Repair name)) R) (sym (cond-false _ _ _ n)) (over_turns sh x R name own w f s whole o (none_left w.blocks w.done (ltb-false w.done (length w.blocks) n)))
]

-- ---- its first event

begun_stands : (sh : Shape) (x : Span) (name : List ℕ) (o : ℕ) (bs : List ℕ) → IsStarting x → table_named x.begun name ≡ Some o → bs ≡ scan_list sh x.ended o → RepairStands sh x name (repair_of (begun_work o bs))
begun_stands sh x name o bs st t e =
    subst (λ (z : List ℕ). RepairStands sh x name (record { obj = o; left = z; settled = []; changed = 0 })) (sym (e ∙ ap (λ (R : List Record). scan_list sh R o) st.at_once)) (repairs_begin sh x name o st.at_once t)

pub begun_turns : (sh : Shape) (x : Span) (name : List ℕ) (own : Option ℕ) (o : ℕ) (bs : List ℕ) (w : Told) → w ≡ begun_work o bs → IsStarting x → table_named x.ended name ≡ Some o → (NEW_WORK_RECORDS ≤ length x.ended → ⊥) → own_of x.ended x.session ≡ own → bs ≡ scan_list sh x.ended o
    → Turns sh x (Some (asked.Repair name)) x.ended (repair_turned w name own)
begun_turns sh x name own o bs w is st t few mine e =
    let there = begun_named x name (Some o) st t in
    subst (λ (z : Told). Turns sh x (Some (asked.Repair name)) x.ended (repair_turned z name own)) (sym is)
    (repair_turns sh x x.ended name own (begun_work o bs) (repair_passes sh x name o there (λ l. few (subst (λ (R : List Record). NEW_WORK_RECORDS ≤ length R) (sym st.at_once) l))) (begun_stands sh x name o bs st there e) st.whole mine)

-- ---- its next block

drop_next : (xs : List ℕ) (n b : ℕ) → slice_get xs n ≡ Some b → drop n xs ≡ b ∷ drop (suc n) xs
drop_next [] n b e = absurd (let z : ◌≡◌ {A = Option ℕ} None (Some b) = e in cc)
drop_next (x ∷ xs) zero b e = ap (λ (z : ℕ). z ∷ xs) (let z : ◌≡◌ {A = Option ℕ} (Some x) (Some b) = e in let y : x ≡ b = cc in y)
drop_next (x ∷ xs) (suc n) b e = drop_next xs n b e

first_in : (b : ℕ) (bs : List ℕ) → is_in b (b ∷ bs) ≡ true
first_in b bs = or_left (eqb b b) _ (eq-eqb b b refl)

-- what is left after it
left_next : (w : Told) (b : ℕ) → slice_get w.blocks w.done ≡ Some b → drop w.done w.blocks ≡ b ∷ drop (next_done w) w.blocks
left_next w b e =
    drop_next w.blocks w.done b e ∙ ap (λ (n : ℕ). b ∷ drop n w.blocks) (sym (cond-true _ _ _ (lt-ltb w.done (length w.blocks) (slice_get_within w.blocks w.done b e))))

-- it was a row block as the repair began
pub next_was : (sh : Shape) (x : Span) (name : List ℕ) (w : Told) (b : ℕ) → slice_get w.blocks w.done ≡ Some b → RepairStands sh x name (repair_of w) → IsRowBlock sh x.begun w.obj b
next_was sh x name w b e s =
    listed sh x.begun w.obj b (left_are_listed sh x.begun x.ended w.obj (scan_list sh x.begun w.obj) s.reached (drop w.done w.blocks) w.settled s.each b (subst (λ (z : List ℕ). is_in b z ≡ true) (sym (left_next w b e)) (first_in b (drop (next_done w) w.blocks))))

pub table_was : (sh : Shape) (x : Span) (name : List ℕ) (w : Told) → AreAllowed sh x.ended → Extends x.begun x.ended → RepairStands sh x name (repair_of w) → IsTable x.begun w.obj
table_was sh x name w h e s = named_table sh x.begun name w.obj (allowed_then sh x.begun x.ended h e) s.table

pub table_now : (sh : Shape) (x : Span) (name : List ℕ) (w : Told) → AreAllowed sh x.ended → Extends x.begun x.ended → RepairStands sh x name (repair_of w) → IsTable x.ended w.obj
table_now sh x name w h e s = table_on sh x.begun x.ended w.obj h e (table_was sh x name w h e s)

-- and is one still, where it wasn't released
pub next_there : {D : Type 0} (meaning : Meaning D) (x : Span) (name : List ℕ) (own : Option ℕ) (begins b : ℕ) (w : Told) (a : Held D) → IsAt meaning x own a → IsRepairing a.shape x name begins w → IsNext a.shape x w b → HasBlock meaning x.ended w.obj b a
next_there meaning x name own begins b w a at r n =
    let h = at.stands.lawful.allowed in
    record {
      holds = at.stands;
      table = table_now a.shape x name w h r.extends r.stands;
      here = (row_blocks_stay_since a.shape x.begun x.ended w.obj b h r.extends (table_was a.shape x name w h r.extends r.stands) (next_was a.shape x name w b n.next r.stands) n.there).row_block;
    }

-- ---- it had been released

pub past_turns : (sh : Shape) (x : Span) (name : List ℕ) (own : Option ℕ) (begins b : ℕ) (w : Told) (v : Told) → v ≡ past_next w → IsRepairing sh x name begins w → own_of x.ended x.session ≡ own → slice_get w.blocks w.done ≡ Some b → is_released_since sh (length x.begun) x.ended w.obj b ≡ true
    → Turns sh x (Some (asked.Repair name)) x.ended (repair_turned v name own)
past_turns sh x name own begins b w v is r o e gone =
    subst (λ (z : Told). Turns sh x (Some (asked.Repair name)) x.ended (repair_turned z name own)) (sym is)
    (repair_turns sh x x.ended name own (past_next w) r.passed (repairs_pass sh x name (repair_of w) b (drop (next_done w) w.blocks) (left_next w b e) gone r.stands) r.whole o)

-- ---- it is settled

-- what is added is of its statement
pub tidied_done : (sh : Shape) (scripts : List (List Statement)) (past : List HistoryItem) (w : ℕ) (st : Option Statement) (Q R : List Record) → IsTidied Q R → IsDoneBy sh scripts past w st Q R
tidied_done sh scripts past w st Q _ tidy_none = done_none
tidied_done sh scripts past w st Q _ (tidy_one {R} (made.Class k) t m) = done_one (made.Class k) (tidied_done sh scripts past w st Q R t) (inl m)
tidied_done sh scripts past w st Q _ (tidy_one {R} (made.Clean c) t m) = done_one (made.Clean c) (tidied_done sh scripts past w st Q R t) m
tidied_done sh scripts past w st Q _ (tidy_one other t m) = absurd m

-- and takes nothing back
class_backed : (k : ClassRecord) (R : List Record) (o : Option ℕ) → backed_of (made.Class k ∷ R) o ≡ backed_of R o
class_backed k R None = refl
class_backed k R (Some t) = refl

clean_backed : (c : CleanRecord) (R : List Record) (o : Option ℕ) → backed_of (made.Clean c ∷ R) o ≡ backed_of R o
clean_backed c R None = refl
clean_backed c R (Some t) = refl

pub tidied_backed : (Q R : List Record) (w : ℕ) → IsTidied Q R → own_backed R w ≡ own_backed Q w
tidied_backed Q _ w tidy_none = refl
tidied_backed Q _ w (tidy_one {R} (made.Class k) t m) = class_backed k R (own_of R w) ∙ tidied_backed Q R w t
tidied_backed Q _ w (tidy_one {R} (made.Clean c) t m) = clean_backed c R (own_of R w) ∙ tidied_backed Q R w t
tidied_backed Q _ w (tidy_one other t m) = absurd m

-- a settled block is told by its fields
same_settled : (s : Settled) (b m n : ℕ) → s.block ≡ b → s.before ≡ m → s.after ≡ n → s ≡ record { block = b; before = m; after = n }
same_settled s b m n p q r = ap (λ (z : ℕ). settled z s.before s.after) p ∙ (ap (λ (z : ℕ). settled b z s.after) q ∙ ap (λ (z : ℕ). settled b m z) r)
  where
    settled : ℕ → ℕ → ℕ → Settled
    settled b m n = record { block = b; before = m; after = n }

settled_stands : {D : Type 0} (meaning : Meaning D) (x : Span) (name : List ℕ) (begins b : ℕ) (w : Told) (m : Repaired) (a c : Held D) → IsRepairing a.shape x name begins w → IsNext a.shape x w b → (h : HasRepaired meaning x.ended w.obj b a c (Ok m))
    → RepairStands a.shape (later x h.tidies.records) name (repair_of (with_settled w m))
settled_stands meaning x name begins b w m a c r n h =
    let R = h.tidies.records in
    let one : m.settled ≡ settled_now x.ended R b = same_settled m.settled b (length x.ended) (length R) h.told.block h.told.before h.told.after in
    let s = repairs_settle a.shape x name (repair_of w) b (drop (next_done w) w.blocks) R (left_next w b n.next) (record { there = n.there; adds = h.settles; exact = h.exact }) r.stands in
    subst (λ (z : Settled). RepairStands a.shape (later x R) name (record { obj = w.obj; left = drop (next_done w) w.blocks; settled = w.settled ++ z ∷ []; changed = counted m.changed w.changed })) (sym one)
    (subst (λ (v : Bool). RepairStands a.shape (later x R) name (record { obj = w.obj; left = drop (next_done w) w.blocks; settled = w.settled ++ settled_now x.ended R b ∷ []; changed = counted v w.changed })) (sym h.told.changed) s)

settled_turns : {D : Type 0} (meaning : Meaning D) (x : Span) (name : List ℕ) (own : Option ℕ) (begins b : ℕ) (w : Told) (m : Repaired) (a c : Held D) → IsAt meaning x own a → IsRepairing a.shape x name begins w → IsNext a.shape x w b → (h : HasRepaired meaning x.ended w.obj b a c (Ok m))
    → Turns a.shape x (Some (asked.Repair name)) h.tidies.records (repair_turned (with_settled w m) name own)
settled_turns meaning x name own begins b w m a c at r n h =
    let R = h.tidies.records in
    repair_turns a.shape x R name own (with_settled w m) (passes_later a.shape x R name r.passed) (settled_stands meaning x name begins b w m a c r n h) (tidied_backed x.ended R x.session h.tidies.tidied ∙ r.whole) (tidied_own x.ended R x.session h.tidies.tidied ∙ at.own_is)

acted_tidies : {D : Type 0} (meaning : Meaning D) (x : Span) (name : List ℕ) (begins b : ℕ) (w : Told) (a c : Held D) (r : Result Repaired StoreFault) (q : Result Acted StoreFault) → IsRepairing a.shape x name begins w → (h : HasRepaired meaning x.ended w.obj b a c r)
    → IfOk q (Turns a.shape x (Some (asked.Repair name)) h.tidies.records) → IfErr q IsSoundFault → HasActed meaning x (Some (asked.Repair name)) a c q
acted_tidies meaning x name begins b w a c r q i h turns sound = record {
  records = h.tidies.records;
  stands = h.tidies.stands;
  acts = record { done = tidied_done a.shape x.scripts x.past x.session (Some (asked.Repair name)) x.ended h.tidies.records h.tidies.tidied; passed = inr i.passed };
  stable = h.tidies.stable;
  survives = λ since needed s. h.tidies.survives since needed s;
  time = h.tidies.time;
  turns = turns;
  sound = sound;
}

settled_ok : {D : Type 0} (meaning : Meaning D) (x : Span) (name : List ℕ) (own : Option ℕ) (begins b : ℕ) (w : Told) (m : Repaired) (a c : Held D) (q : Result Acted StoreFault) → IsAt meaning x own a → IsRepairing a.shape x name begins w → IsNext a.shape x w b → (h : HasRepaired meaning x.ended w.obj b a c (Ok m))
    → IfOk q (λ z. z ≡ repair_turned (with_settled w m) name own) → IfOk q (Turns a.shape x (Some (asked.Repair name)) h.tidies.records)
settled_ok meaning x name own begins b w m a c (Ok z) at r n h is = subst (Turns a.shape x (Some (asked.Repair name)) h.tidies.records) (sym is) (settled_turns meaning x name own begins b w m a c at r n h)
settled_ok meaning x name own begins b w m a c (Err f) at r n h is = tt

memory_sound : (q : Result Acted StoreFault) → IfErr q (λ f. f ≡ NoMemory) → IfErr q IsSoundFault
memory_sound (Ok z) h = tt
memory_sound (Err f) h = subst IsSoundFault (sym h) tt

pub settled_acted : {D : Type 0} (meaning : Meaning D) (x : Span) (name : List ℕ) (own : Option ℕ) (begins b : ℕ) (w : Told) (m : Repaired) (a c : Held D) (q : Result Acted StoreFault) → IsAt meaning x own a → IsRepairing a.shape x name begins w → IsNext a.shape x w b
    → HasRepaired meaning x.ended w.obj b a c (Ok m) → IfOk q (λ z. z ≡ repair_turned (with_settled w m) name own) → IfErr q (λ f. f ≡ NoMemory) → HasActed meaning x (Some (asked.Repair name)) a c q
settled_acted meaning x name own begins b w m a c q at r n h is cause = acted_tidies meaning x name begins b w a c (Ok m) q r h (settled_ok meaning x name own begins b w m a c q at r n h is) (memory_sound q cause)

pub unsettled_acted : {D : Type 0} (meaning : Meaning D) (x : Span) (name : List ℕ) (begins b : ℕ) (w : Told) (f : StoreFault) (a c : Held D) → IsRepairing a.shape x name begins w → HasRepaired meaning x.ended w.obj b a c (Err f) → HasActed meaning x (Some (asked.Repair name)) a c (Err f)
unsettled_acted meaning x name begins b w f a c r h = acted_tidies meaning x name begins b w a c (Err f) (Err f) r h tt h.sound

-- a call that went well, and then want of memory or an answer
pub called_either : {D A : Type 0} (meaning : Meaning D) (a c : Held D) (y : A) (q : Result Acted StoreFault) → IfErr q (λ f. f ≡ NoMemory) → HasCalled {T = A} meaning a c (Ok y) → HasCalled {T = Acted} meaning a c q
called_either meaning a c y (Ok z) cause h = record { loan = h.loan; device = λ e. absurd (cc e); kept = h.kept }
called_either meaning a c y (Err f) cause h = subst (λ (g : StoreFault). HasCalled {T = Acted} meaning a c (Err g)) (sym cause) (record { loan = h.loan; device = λ e. absurd (cc e); kept = h.kept })

same_fault : {A : Type 0} (f g : StoreFault) → ◌≡◌ {A = Result A StoreFault} (Err f) (Err g) → f ≡ g
same_fault f g e = cc

pub called_failed : {D A T : Type 0} (meaning : Meaning D) (a c : Held D) (f : StoreFault) → HasCalled {T = A} meaning a c (Err f) → HasCalled {T = T} meaning a c (Err f)
called_failed {D} {A} {T} meaning a c f h = record { loan = h.loan; device = λ e. h.device (subst (λ (g : StoreFault). IsErrOf {T = A} (Err f) g) (same_fault {A = T} f DeviceFault e) refl); kept = h.kept }

-- ---- after a look

pub repairing_as : (sh sh' : Shape) (x : Span) (name : List ℕ) (begins : ℕ) (w : Told) → sh' ≡ sh → IsRepairing sh x name begins w → IsRepairing sh' x name begins w
repairing_as sh sh' x name begins w e h = subst (λ (z : Shape). IsRepairing z x name begins w) (sym e) h

pub next_as : (sh sh' : Shape) (x : Span) (w : Told) (b : ℕ) (v : Bool) → sh' ≡ sh → slice_get w.blocks w.done ≡ Some b → v ≡ is_released_since sh (length x.begun) x.ended w.obj b → v ≡ false → IsNext sh' x w b
next_as sh sh' x w b v e next is kept = subst (λ (z : Shape). IsNext z x w b) (sym e) (record { next = next; there = sym is ∙ kept })
