-- Which row blocks the records of an event change.
use Rattle.std.proofs.Common.{◌≡◌, ℕ, zero, suc, ◌≤◌, Bool, true, false, eqb, ◌||◌, List, [], ◌∷◌, ◌++◌, length, Option, Some, None, refl, sym, ◌∙◌, ap, ap₂, subst, inl, inr, arith}
use Rattle.std.specs.Prelude.{Result, Ok, Err, slice_get}
use Rattle.seg_words.specs.Types.{Shape, Rowid, UndoAddr}
use Rattle.disk_model.specs.Crash.{Meaning}
use Rattle.redo_record.specs.declared.record.Record.TheVariants as made
use Rattle.redo_model.specs.Records.{Record, RowBody, RowPart}
use Rattle.redo_model.specs.Model.{Step, effect_of, standing, newest_of, taken_back, is_active, AreAllowed}
use Rattle.mark_laws.specs.declared.step.MarkStep.{MarkStep}
use Rattle.mark_laws.specs.declared.step.MarkStep.TheVariants as step
use Rattle.mark_laws.specs.Drafts.{mark_record}
use Rattle.version_laws.specs.Types.{begin_of}
use Rattle.change_laws.specs.Drafts.{RowKind, Inserts, Updates, Migrates, Returns, Deletes, as_record, Change, Fill, parts_of, body_at, record_of, insert_of, return_of, delete_of}
use Rattle.change_laws.specs.Spots.{Spot, Here, Next, Full, undo_start, spot_for, list_at}
use Rattle.change_laws.specs.Ready.{IsOwn, ToHead, blocks_at}
use Rattle.change_laws.specs.Looks.{WasFound}
use Rattle.change_laws.specs.Answers.{Answer, Makes, by_spot, insert_answer, delete_answer, stand_at, Means as AnswerMeans}
use Rattle.change_laws.proofs.AnswerLaw.{answers_mean}
use Rattle.head_laws.specs.Heads.{stand_by}
use Rattle.head_laws.proofs.HeadLaw.{heads_stay}
use Rattle.end_laws.specs.Types.{back_of, backed, backed_with, blocks_in, blocks_of_step, ended_of}
use Rattle.end_laws.proofs.Telling.{backs_are_told}
use Rattle.txn_end.specs.Backing.{blocks_of_parts}
use Rattle.txn_end.proofs.Backing.{blocks_same}
use Rattle.script_text.specs.declared.statement.Statement.TheVariants as asked
use Rattle.script_text.specs.declared.statement.Target.{Target}
use Rattle.history_model.specs.Spans.{Span}
use Rattle.history_laws.proofs.Owned.{none_some, same_some}
use Rattle.store_core.specs.Store.{Held, IsTrue}
use Rattle.store_core.specs.Adding.{Adds as HasAdded}
use Rattle.store_core.specs.Causes.{HasLooked}
use Rattle.store_core.specs.declared.fault.StoreFault.{StoreFault}
use Rattle.row_change.specs.declared.answer.Done.{Done}
use Rattle.row_change.specs.declared.answer.ChangeFault.{ChangeFault}
use Rattle.row_change.specs.declared.answer.ChangeFault.TheVariants as changes
use Rattle.row_change.specs.declared.place.Place.{Place}
use Rattle.row_change.specs.Acting.{txn_of}
use Rattle.row_change.specs.Planning.{IsBegun, IsNext}
use Rattle.row_change.specs.Answering.{Answers, IsAnswer, IsFaultOf, IsRefused, HasFailed}
use Rattle.session_core.specs.declared.changed.Changed.{Changed}
use Rattle.session_core.specs.declared.session.RowWork.{RowWork as ToldWork}
use Rattle.session_core.specs.Acting.{IsAt}
use Rattle.session_core.specs.Blocks.{is_among, row_blocks, changes_block, ChangesJust, HasNoted}
use Rattle.session_core.specs.Changed.{changed_if, in_table, of_blocks}
use Rattle.session_core.specs.Changes.{IsChanging}
use Rattle.session_core.specs.Leaving.{no_blocks, one_block, home_blocks, is_noted, is_filled}
use Rattle.session_core.specs.Located.{WasAt, KeepsPlace}
use Rattle.session_core.specs.RowWorks.{work_of}
use Rattle.session_core.proofs.Deletes.{was_found}
use Rattle.session_core.proofs.Ends.{active_own}
use Rattle.session_core.proofs.NewRows.{own_acts}
use Rattle.session_core.proofs.Noting.{stayed_noted}
use Rattle.session_core.proofs.Updates.{located_at}

pub or_false : (p : Bool) → p || false ≡ p
or_false true = refl
or_false false = refl

-- ---- what is added

-- records that change no row block
pub record AddsNone (R next : List Record) : Type 0 where
  pub newer : List Record
  pub is : next ≡ newer ++ R
  pub none : (b : ℕ) → changes_block newer b ≡ false

-- records that change the blocks into which something is put
pub record AddsBlocks (R next : List Record) (fs : List Fill) : Type 0 where
  pub newer : List Record
  pub is : next ≡ newer ++ R
  pub just : (b : ℕ) → changes_block newer b ≡ is_filled fs b

adds_none : (R : List Record) → AddsNone R R
adds_none R = record { newer = []; is = refl; none = λ b. refl }

pub noted_none : {D : Type 0} (meaning : Meaning D) (R next : List Record) (s : Held D) → IsTrue meaning next s → AddsNone R next → HasNoted meaning R s no_blocks
noted_none meaning R next s t a = record { records = next; stands = t; changes = record { newer = a.newer; is = a.is; just = λ b. sym (a.none b) } }

pub noted_same : {D : Type 0} (meaning : Meaning D) (R : List Record) (s : Held D) → IsTrue meaning R s → HasNoted meaning R s no_blocks
noted_same meaning R s t = noted_none meaning R R s t (adds_none R)

pub noted_looked : {D A : Type 0} (meaning : Meaning D) (R : List Record) (a b : Held D) (r : Result A StoreFault) → IsTrue meaning R a → HasLooked {T = A} meaning a b r → HasNoted meaning R b no_blocks
noted_looked meaning R a b r t h = noted_same meaning R b (h.stays_true R t)

pub noted_blocks : {D : Type 0} (meaning : Meaning D) (R next : List Record) (fs : List Fill) (s : Held D) (c : Changed) → IsTrue meaning next s → AddsBlocks R next fs → ((b : ℕ) → is_noted c b ≡ is_filled fs b) → HasNoted meaning R s c
noted_blocks meaning R next fs s c t a e = record { records = next; stands = t; changes = record { newer = a.newer; is = a.is; just = λ b. e b ∙ sym (a.just b) } }

-- what is noted is none
pub noted_as : {D : Type 0} (meaning : Meaning D) (R : List Record) (s : Held D) (c d : Changed) → c ≡ d → HasNoted meaning R s d → HasNoted meaning R s c
noted_as meaning R s c d e h = subst (λ (z : Changed). HasNoted meaning R s z) (sym e) h

-- ---- a change of a row

fills_blocks : (R : List Record) (t : ℕ) (a : UndoAddr) (i : ℕ) (fs : List Fill) (b : ℕ) → is_among (blocks_in (parts_of R t a i fs)) b ≡ is_filled fs b
fills_blocks R t a i [] b = refl
fills_blocks R t a i (f ∷ fs) b = ap (λ (v : Bool). eqb f.at.dba b || v) (fills_blocks R t a (suc i) fs b)

record_blocks : (k : RowKind) (w : RowBody) → row_blocks (effect_of (as_record k w)) ≡ blocks_in w.parts
record_blocks Inserts w = refl
record_blocks Updates w = refl
record_blocks Migrates w = refl
record_blocks Returns w = refl
record_blocks Deletes w = refl

change_blocks : (L : List Record) (t : ℕ) (a : UndoAddr) (c : Change) (newer : List Record) (b : ℕ) → changes_block newer b ≡ false → changes_block (record_of L t a c ∷ newer) b ≡ is_filled c.fills b
change_blocks L t a c newer b h =
    ap₂ (λ (u v : Bool). u || v) (ap (λ (ds : List ℕ). is_among ds b) (record_blocks c.kind (body_at L t a c)) ∙ fills_blocks L t a 0 c.fills b) h
    ∙ or_false (is_filled c.fills b)

begun_none : (R : List Record) (who : ℕ) (own : Option ℕ) (before : List Record) → IsBegun R who own before → AddsNone R before
begun_none R who None before g = record { newer = made.Begin (begin_of R who g.entry g.control) ∷ []; is = g.is; none = λ b. refl }
begun_none R who (Some t) before g = record { newer = []; is = g; none = λ b. refl }

listed : (R before next : List Record) (t : ℕ) (c : Change) (s : Spot) → AddsNone R before → list_at before t c s ≡ Some next → AddsBlocks R next c.fills
listed R before next t c (Here a) n e = record {
  newer = record_of before t a c ∷ n.newer;
  is = sym (same_some (record_of before t a c ∷ before) next e) ∙ ap (λ (Q : List Record). record_of before t a c ∷ Q) n.is;
  just = λ b. change_blocks before t a c n.newer b (n.none b);
}
listed R before next t c (Next q) n e = record {
  newer = record_of (made.Reuse q ∷ before) t (undo_start q) c ∷ made.Reuse q ∷ n.newer;
  is = sym (same_some (record_of (made.Reuse q ∷ before) t (undo_start q) c ∷ made.Reuse q ∷ before) next e) ∙ ap (λ (Q : List Record). record_of (made.Reuse q ∷ before) t (undo_start q) c ∷ made.Reuse q ∷ Q) n.is;
  just = λ b. change_blocks (made.Reuse q ∷ before) t (undo_start q) c (made.Reuse q ∷ n.newer) b (n.none b);
}
listed R before next t c (Full hs) n e = none_some next _ e

next_blocks : (sh : Shape) (R : List Record) (who : ℕ) (own : Option ℕ) (c : Change) (next : List Record) → IsNext sh R who own c next → AddsBlocks R next c.fills
next_blocks sh R who own c next n = listed R n.before next (txn_of R own) c _ (begun_none R who own n.before n.begins) n.list_is

refused_notes : {D : Type 0} (meaning : Meaning D) (R : List Record) (answer cause : Answer) (a b : Held D) → IsRefused meaning R answer cause a b → HasNoted meaning R b no_blocks
refused_notes meaning R answer cause a b h = noted_same meaning R b h.stands.list

failed_notes : {D : Type 0} (meaning : Meaning D) (R : List Record) (who : ℕ) (own : Option ℕ) (a b : Held D) (f : StoreFault) → HasFailed meaning R who own a b f → HasNoted meaning R b no_blocks
failed_notes meaning R who own a b f h = elim h.left [
  | inl s ↦ noted_same meaning R b s.list
  | inr s ↦ noted_none meaning R s.next b s.stands.list (begun_none R who own s.next s.begins)
]

fault_notes : {D : Type 0} (meaning : Meaning D) (R : List Record) (who : ℕ) (own : Option ℕ) (answer : Answer) (a b : Held D) (f : ChangeFault) → IsFaultOf meaning R who own answer a b f → HasNoted meaning R b no_blocks
fault_notes meaning R who own answer a b (changes.Busy txn) h = refused_notes meaning R answer _ a b h
fault_notes meaning R who own answer a b (changes.Changed commits) h = refused_notes meaning R answer _ a b h
fault_notes meaning R who own answer a b (changes.NoSlot txns) h = refused_notes meaning R answer _ a b h
fault_notes meaning R who own answer a b (changes.NeedsBlock len) h = refused_notes meaning R answer _ a b h
fault_notes meaning R who own answer a b (changes.UndoFull holders) h = refused_notes meaning R answer _ a b h
fault_notes meaning R who own answer a b (changes.Store fault) h = failed_notes meaning R who own a b fault h

answer_notes : {D : Type 0} (meaning : Meaning D) (R : List Record) (who : ℕ) (own : Option ℕ) (answer : Answer) (a b : Held D) (r : Result Done ChangeFault) (blocks old : Changed) → old ≡ no_blocks → IsAnswer meaning R who own answer a b r → ((c : Change) → answer ≡ Makes c → (d : ℕ) → is_noted blocks d ≡ is_filled c.fills d)
    → HasNoted meaning R b (changed_if r blocks old)
answer_notes meaning R who own answer a b (Ok done) blocks old e h each = noted_blocks meaning R h.next h.change.fills b blocks h.stands.list (next_blocks a.shape R who own h.change h.next h.next_is) (each h.change h.answer_is)
answer_notes meaning R who own answer a b (Err f) blocks old e h each = noted_as meaning R b old no_blocks e (fault_notes meaning R who own answer a b f h)

-- a change that is made is noted, and none that isn't
pub change_notes : {D : Type 0} (meaning : Meaning D) (R : List Record) (who : ℕ) (own : Option ℕ) (answer : Answer) (a b : Held D) (r : Result Done ChangeFault) (blocks old new : Changed) → new ≡ changed_if r blocks old → old ≡ no_blocks → Answers meaning R who own answer a b r
    → ((c : Change) → answer ≡ Makes c → (d : ℕ) → is_noted blocks d ≡ is_filled c.fills d) → HasNoted meaning R b new
change_notes meaning R who own answer a b r blocks old new n e h each = noted_as meaning R b new (changed_if r blocks old) n (answer_notes meaning R who own answer a b r blocks old e h.is each)

-- ---- an insert

spot_makes : (c d : Change) (s : Spot) → by_spot c s ≡ Makes d → c ≡ d
spot_makes c d (Here a) e = cc
spot_makes c d (Next q) e = cc
spot_makes c d (Full hs) e = absurd (cc e)

pub insert_blocks : (sh : Shape) (R : List Record) (o b : ℕ) (text : List ℕ) (blocks : Changed) → blocks ≡ in_table o (one_block b) → (c : Change) → insert_answer sh R o b text ≡ Makes c → (d : ℕ) → is_noted blocks d ≡ is_filled c.fills d
insert_blocks sh R o b text blocks e c h d =
    subst (λ (z : Changed). is_noted z d ≡ is_filled c.fills d) (sym e)
    (subst (λ (z : Change). is_noted (one_block b) d ≡ is_filled z.fills d) (spot_makes (insert_of R o b text) c _ h) refl)

-- ---- a delete

home_deleted : (R : List Record) (o n : ℕ) (head : Option Rowid) (p : Rowid) (d : ℕ) → is_noted (home_blocks head p) d ≡ is_filled (delete_of o n (stand_by head p)).fills d
home_deleted R o n None p d = refl
home_deleted R o n (Some head) p d = stayed_noted R o n (Some head) p [] ToHead (return_of o n head p []) d refl

delete_fills : (sh : Shape) (R : List Record) (own : Option ℕ) (o n : ℕ) (p : Place) (c : Change) → AreAllowed sh R → IsOwn R own → WasFound sh R own o n p.at p.born p.undo p.start → WasAt sh R own o n p → delete_answer sh R own o n p.at p.start ≡ Makes c → delete_of o n (stand_by p.head p.at) ≡ c
delete_fills sh R own o n p c allowed active found was h =
    let m = subst (λ (y : Answer). AnswerMeans sh R own o n p.at p.start (blocks_at (stand_at R p.at)) 0 (Some (delete_of o n (stand_at R p.at))) y) h (answers_mean sh R own o n p.at p.born p.undo p.start (blocks_at (stand_at R p.at)) 0 (Some (delete_of o n (stand_at R p.at))) allowed active found) in
    ap (delete_of o n) (sym (heads_stay sh R own o n p.at p.born p.undo p.start p.head allowed active was m.past.free)) ∙ same_some _ c m.change_is

pub delete_blocks : {D : Type 0} (meaning : Meaning D) (x : Span) (name : List ℕ) (target : Target) (w : ToldWork) (own : Option ℕ) (a : Held D) (p : Place) (blocks : Changed) → blocks ≡ in_table w.obj (home_blocks p.head p.at) → IsAt meaning x own a → IsChanging a.shape x (asked.Delete name target) (work_of w) → w.place ≡ Some p
    → KeepsPlace a.shape x.ended own w → (c : Change) → delete_answer a.shape x.ended own w.obj w.row p.at p.start ≡ Makes c → (d : ℕ) → is_noted blocks d ≡ is_filled c.fills d
delete_blocks meaning x name target w own a p blocks e at k place kept c h d =
    let allowed = at.stands.lawful.allowed in
    let is = delete_fills a.shape x.ended own w.obj w.row p c allowed (own_acts a.shape x.ended x.session own allowed at.own_is) (was_found meaning x (asked.Delete name target) w own a p at k place) (located_at a.shape x.ended own w p place kept) h in
    subst (λ (z : Changed). is_noted z d ≡ is_filled c.fills d) (sym e)
    (subst (λ (z : Change). is_noted (home_blocks p.head p.at) d ≡ is_filled z.fills d) is (home_deleted x.ended w.obj w.row p.head p.at d))

-- ---- a movement of the marks

mark_none : (sh : Shape) (R Q : List Record) (o : ℕ) (m : MarkStep) → AddsNone R (mark_record sh Q o m ∷ R)
mark_none sh R Q o (step.Format b) = record { newer = mark_record sh Q o (step.Format b) ∷ []; is = refl; none = λ d. refl }
mark_none sh R Q o step.Advance = record { newer = mark_record sh Q o step.Advance ∷ []; is = refl; none = λ d. refl }
mark_none sh R Q o (step.Extend e) = record { newer = mark_record sh Q o (step.Extend e) ∷ []; is = refl; none = λ d. refl }

pub mark_notes : {D T : Type 0} (meaning : Meaning D) (sh : Shape) (R : List Record) (o : ℕ) (m : MarkStep) (a b : Held D) (y : T) → HasAdded {T = T} meaning R (mark_record sh R o m ∷ R) a b (Ok y) → HasNoted meaning R b no_blocks
mark_notes meaning sh R o m a b y h = noted_none meaning R (mark_record sh R o m ∷ R) b h.added (mark_none sh R R o m)

-- a call that was to add records failed
pub unadded_notes : {D T : Type 0} (meaning : Meaning D) (R next : List Record) (a b : Held D) (f : StoreFault) → HasAdded {T = T} meaning R next a b (Err f) → HasNoted meaning R b no_blocks
unadded_notes meaning R next a b f h = noted_same meaning R b h.refused

-- ---- a record that is taken back

pub listed_noted : (bs : List ℕ) (d : ℕ) → length bs ≤ 3 → is_noted (of_blocks bs) d ≡ is_among bs d
listed_noted [] d l = refl
listed_noted (x ∷ []) d l = refl
listed_noted (x ∷ y ∷ []) d l = refl
listed_noted (x ∷ y ∷ z ∷ []) d l = ap (λ (v : Bool). eqb x d || (eqb y d || v)) (sym (or_false (eqb z d)))
listed_noted (x ∷ y ∷ z ∷ w ∷ ws) d l = absurd (omega (arith, l))

as_many : (ps : List RowPart) → length (blocks_in ps) ≡ length ps
as_many [] = refl
as_many (p ∷ ps) = ap suc (as_many ps)

-- its parts give the blocks
record IsTaken (R : List Record) (t : ℕ) (bs : List ℕ) : Type 0 where
  pub step : Step
  pub newest : newest_of (standing R) t ≡ Some step
  pub blocks : bs ≡ blocks_in step.parts

taken_step : (R : List Record) (t : ℕ) (bs : List ℕ) (n : Option Step) → newest_of (standing R) t ≡ n → Some bs ≡ blocks_of_step n → IsTaken R t bs
taken_step R t bs None e h = none_some bs _ (sym h)
taken_step R t bs (Some st) e h = record { step = st; newest = e; blocks = same_some bs (blocks_in st.parts) h }

back_blocks : (R : List Record) (t : ℕ) (st : Step) (b : ℕ) → changes_block (made.Back (back_of R t st) ∷ []) b ≡ is_among (blocks_in st.parts) b
back_blocks R t st b = or_false (is_among (blocks_of_parts (taken_back st.parts)) b) ∙ ap (λ (ds : List ℕ). is_among ds b) (blocks_same st.parts)

pub taken_notes : {D : Type 0} (meaning : Meaning D) (x : Span) (t : ℕ) (bs told : List ℕ) (y : Option (List ℕ)) (a b : Held D) (new : Changed) → IsAt meaning x (Some t) a → HasAdded {T = Option (List ℕ)} meaning x.ended (backed x.ended t) a b (Ok y) → Some bs ≡ blocks_of_step (newest_of (standing x.ended) t)
    → told ≡ bs → new ≡ of_blocks told → HasNoted meaning x.ended b new
taken_notes meaning x t bs told y a b new at h answer same e =
    let R = x.ended in
    let k = taken_step R t bs (newest_of (standing R) t) refl answer in
    let on = active_own a.shape R x.session t at.stands.lawful.allowed at.own_is in
    let most = (backs_are_told a.shape R t k.step at.stands.list.within at.stands.lawful.allowed on k.newest).most in
    let few : length bs ≤ 3 = subst (λ (n : ℕ). n ≤ 3) (sym (ap length k.blocks ∙ as_many k.step.parts)) most in
    noted_as meaning R b new (of_blocks bs) (e ∙ ap of_blocks same) (record {
      records = made.Back (back_of R t k.step) ∷ R;
      stands = subst (λ (Q : List Record). IsTrue meaning Q b) (ap (backed_with R t) k.newest) h.added;
      changes = record {
        newer = made.Back (back_of R t k.step) ∷ [];
        is = refl;
        just = λ d. listed_noted bs d few ∙ (ap (λ (ds : List ℕ). is_among ds d) k.blocks ∙ sym (back_blocks R t k.step d));
      };
    })

-- the end of a rollback
pub ended_notes : {D T : Type 0} (meaning : Meaning D) (R : List Record) (t : ℕ) (a b : Held D) (y : T) → HasAdded {T = T} meaning R (made.Ended (ended_of R t) ∷ R) a b (Ok y) → HasNoted meaning R b no_blocks
ended_notes meaning R t a b y h = noted_none meaning R (made.Ended (ended_of R t) ∷ R) b h.added (record { newer = made.Ended (ended_of R t) ∷ []; is = refl; none = λ d. refl })
