-- The record that takes back the newest one, and what a step of a rollback adds.
use Rattle.std.proofs.Common.{◌≡◌, ℕ, zero, suc, ◌+◌, ◌<◌, ◌≤◌, true, List, [], ◌∷◌, length, slice_get, Option, Some, None, refl, sym, ◌∙◌, ap, subst, arith}
use Rattle.std.specs.Prelude.{Result, Ok, Err, IfOk, IfErr}
use Rattle.seg_words.specs.Types.{Shape, UndoAddr, UndoPlace, is_shape}
use Rattle.disk_model.specs.Crash.{Meaning}
use Rattle.redo_model.specs.Records.{Record, Back, RowPart, BackPart, BackRecord}
use Rattle.redo_model.specs.Model.{Step, is_active, standing, newest_of, last_undo, undo_of_step, without_step, taken_back, IsLawful}
use Rattle.version_laws.specs.Types.{as_kept, IsInUse}
use Rattle.end_laws.specs.Types.{table_place, held_of, BackTold, back_of, backed, backed_with, blocks_in, blocks_of_step, present_addr}
use Rattle.end_laws.proofs.Allowed.{backs_are_allowed}
use Rattle.end_laws.proofs.Telling.{backs_are_told}
use Rattle.undo_block.specs.declared.part.Part.{Part}
use Rattle.page_set.specs.Folded.{page_of}
use Rattle.store_core.specs.Store.{Held, IsTrue, has_page}
use Rattle.store_core.specs.Causes.{HasLooked, IsSoundFault}
use Rattle.store_core.specs.declared.fault.StoreFault.{StoreFault}
use Rattle.txn_end.specs.declared.standing.Standing.{Standing}
use Rattle.txn_end.specs.Reading.{standing_in, part_in}
use Rattle.store_core.specs.Adding.{Adds}
use Rattle.txn_end.specs.Backing.{blocks_of_parts, IsFirst, IsFirstOf}
use Rattle.txn_end.proofs.Given.{part_given}
use Rattle.txn_end.proofs.EndBack.{standing_is}
use Rattle.store_core.proofs.Additions.{adds_on, adds_same, adds_told}
use Rattle.txn_end.proofs.Taking.{part_is}

-- ---- the first part

-- what the first part says of its record
pub record SaysRecord (st : Step) (x : Part) : Type 0 where
  pub previous : x.previous ≡ st.previous
  pub count : length st.parts ≡ x.parts

pub says_record : (st : Step) (x : Part) → IsFirst st x → SaysRecord st x
says_record st x f = go st.parts refl f
  where
    go : (ps : List RowPart) → st.parts ≡ ps → IsFirstOf st ps x → SaysRecord st x
    go [] e h = absurd h
    go (p ∷ ps) e h = subst (λ (y : Part). SaysRecord st y) (sym h) (record { previous = refl; count = refl })

pub before_used : (sh : Shape) (R : List Record) (t : ℕ) (st : Step) (x : Part) → BackTold sh R t st → IsFirst st x → (a : UndoPlace) → x.previous ≡ Some a → IsInUse sh R a.block
before_used sh R t st x told f a e = told.before a (sym (says_record st x f).previous ∙ e)

pub first_is : (sh : Shape) (R : List Record) (t : ℕ) (st : Step) (at : UndoAddr) (x : Part) → is_shape sh ≡ true → IsLawful sh R → BackTold sh R t st → st.undo ≡ at → part_in (page_of sh R at.block) at.nth ≡ Some x → IsFirst st x
first_is sh R t st at x s h told u e = go st.parts refl
  where
    go : (ps : List RowPart) → st.parts ≡ ps → IsFirstOf st ps x
    go [] w = absurd (let l = told.least in let m = ap length w in omega (arith, l, m))
    go (p ∷ ps) w = part_is sh R t st 0 p at x s h told u (ap (λ (qs : List RowPart). slice_get qs 0) w) (subst (λ n. part_in (page_of sh R at.block) n ≡ Some x) (let z : at.nth ≡ at.nth + 0 = omega arith in z) e)

-- its page gives it
pub first_given : (sh : Shape) (R : List Record) (t : ℕ) (st : Step) (at : UndoAddr) → is_shape sh ≡ true → IsLawful sh R → BackTold sh R t st → st.undo ≡ at → (x : Part) × (part_in (page_of sh R at.block) at.nth ≡ Some x)
first_given sh R t st at s h told u = go st.parts refl
  where
    go : (ps : List RowPart) → st.parts ≡ ps → (x : Part) × (part_in (page_of sh R at.block) at.nth ≡ Some x)
    go [] w = absurd (let l = told.least in let m = ap length w in omega (arith, l, m))
    go (p ∷ ps) w =
        let e = part_given sh R t st 0 p s h told (ap (λ (qs : List RowPart). slice_get qs 0) w) in
        let z : st.undo.nth + 0 ≡ st.undo.nth = omega arith in
        (as_kept (held_of st p), subst (λ (y : UndoAddr). part_in (page_of sh R y.block) y.nth ≡ Some (as_kept (held_of st p))) u (subst (λ n. part_in (page_of sh R st.undo.block) n ≡ Some (as_kept (held_of st p))) z e))

-- ---- the record

abbrev drawn : ℕ → ℕ → ℕ → ℕ → UndoAddr → Option UndoPlace → List BackPart → Option UndoAddr → BackRecord
drawn t entry obj row undo previous parts last = record { txn = t; entry = entry; obj = obj; row = row; undo = undo; previous = previous; parts = parts; last = last }

pub back_is : (sh : Shape) (R : List Record) (t : ℕ) (st : Step) (at : UndoAddr) (x : Part) (entry obj row : ℕ) (parts : List BackPart) (last : Option UndoAddr) → BackTold sh R t st → IsFirst st x → st.undo ≡ at → entry ≡ table_place R t → obj ≡ st.obj → row ≡ st.row → last ≡ present_addr R x.previous → parts ≡ taken_back st.parts
    → ◌≡◌ {A = BackRecord} (record { txn = t; entry = entry; obj = obj; row = row; undo = at; previous = x.previous; parts = parts; last = last }) (back_of R t st)
back_is sh R t st at x entry obj row parts last told f u e o n l p =
    let before = (says_record st x f).previous in
    let newer : last ≡ undo_of_step (newest_of (without_step st.undo (standing R)) t) = l ∙ ap (present_addr R) before ∙ told.last in
    chain entry obj row at x.previous parts last e o n (sym u) before p newer
  where
    chain : (entry obj row : ℕ) (at : UndoAddr) (previous : Option UndoPlace) (parts : List BackPart) (last : Option UndoAddr) → entry ≡ table_place R t → obj ≡ st.obj → row ≡ st.row → at ≡ st.undo → previous ≡ st.previous → parts ≡ taken_back st.parts → last ≡ (back_of R t st).last
        → ◌≡◌ {A = BackRecord} (record { txn = t; entry = entry; obj = obj; row = row; undo = at; previous = previous; parts = parts; last = last }) (back_of R t st)
    chain entry obj row at previous parts last e o n u b p l =
        ap (λ (x : ℕ). drawn t x obj row at previous parts last) e
        ∙ ap (λ (x : ℕ). drawn t (table_place R t) x row at previous parts last) o
        ∙ ap (λ (x : ℕ). drawn t (table_place R t) st.obj x at previous parts last) n
        ∙ ap (λ (x : UndoAddr). drawn t (table_place R t) st.obj st.row x previous parts last) u
        ∙ ap (λ (x : Option UndoPlace). drawn t (table_place R t) st.obj st.row st.undo x parts last) b
        ∙ ap (λ (x : List BackPart). drawn t (table_place R t) st.obj st.row st.undo st.previous x last) p
        ∙ ap (λ (x : Option UndoAddr). drawn t (table_place R t) st.obj st.row st.undo st.previous (taken_back st.parts) x) l

-- ---- what a step adds

pub blocks_same : (ps : List RowPart) → blocks_of_parts (taken_back ps) ≡ blocks_in ps
blocks_same [] = refl
blocks_same (p ∷ ps) = ap (λ (bs : List ℕ). p.dba ∷ bs) (blocks_same ps)

pub back_lawful : (sh : Shape) (R : List Record) (t : ℕ) (st : Step) → IsLawful sh R → is_active R t ≡ true → newest_of (standing R) t ≡ Some st → IsLawful sh (Back (back_of R t st) ∷ R)
back_lawful sh R t st h on e = subst (λ (o : Option Step). IsLawful sh (backed_with R t o)) e (backs_are_allowed sh R t h on)

pub told : {D : Type 0} (meaning : Meaning D) (a : Held D) (R : List Record) (t : ℕ) (st : Step) → IsTrue meaning R a → is_active R t ≡ true → newest_of (standing R) t ≡ Some st → BackTold a.shape R t st
told meaning a R t st h on e = backs_are_told a.shape R t st h.list.within h.lawful.allowed on e

pub take_makes : {D : Type 0} (meaning : Meaning D) (a b c : Held D) (k : BackRecord) (r : Result (Unit {0}) StoreFault) (R : List Record) (t : ℕ) (st : Step) → IsTrue meaning R a → is_active R t ≡ true → newest_of (standing R) t ≡ Some st → HasLooked {T = BackRecord} meaning a b (Ok k) → k ≡ back_of R t st
    → ((Q : List Record) → IsTrue meaning Q b → IsLawful b.shape (Back k ∷ Q) → Adds meaning Q (Back k ∷ Q) b c r)
    → Adds meaning R (Back (back_of R t st) ∷ R) a c r
take_makes meaning a b c k r R t st h on e p same adds =
    adds_told meaning a b c k r (Back (back_of R t st)) (Back k) R h p (ap (λ (x : BackRecord). Back x) same) (back_lawful a.shape R t st h.lawful on e) adds

-- ---- the step

none_newest : (o : Option Step) → undo_of_step o ≡ None → o ≡ None
none_newest None e = refl
none_newest (Some st) e = absurd (let z : ◌≡◌ {A = Option UndoAddr} (Some st.undo) None = e in cc)

pub record Newest (R : List Record) (t : ℕ) (at : UndoAddr) : Type 0 where
  pub step : Step
  pub is : newest_of (standing R) t ≡ Some step
  pub undo : step.undo ≡ at

newest_with : (R : List Record) (t : ℕ) (at : UndoAddr) (o : Option Step) → newest_of (standing R) t ≡ o → undo_of_step o ≡ Some at → Newest R t at
newest_with R t at None e f = absurd (let z : ◌≡◌ {A = Option UndoAddr} None (Some at) = f in cc)
newest_with R t at (Some st) e f = record { step = st; is = e; undo = (let z : ◌≡◌ {A = Option UndoAddr} (Some st.undo) (Some at) = f in cc) }

pub none_left : {D : Type 0} (meaning : Meaning D) (a : Held D) (R : List Record) (t : ℕ) (x : Standing) → IsTrue meaning R a → is_active R t ≡ true → standing_in (page_of a.shape R 1) t ≡ Some x → x.last ≡ None → newest_of (standing R) t ≡ None
none_left meaning a R t x h on e n = none_newest (newest_of (standing R) t) (ap (λ (s : Standing). s.last) (sym (standing_is meaning a R t x h on e)) ∙ n)

pub newest_is : {D : Type 0} (meaning : Meaning D) (a : Held D) (R : List Record) (t : ℕ) (at : UndoAddr) (x : Standing) → IsTrue meaning R a → is_active R t ≡ true → standing_in (page_of a.shape R 1) t ≡ Some x → x.last ≡ Some at → Newest R t at
newest_is meaning a R t at x h on e n = newest_with R t at (newest_of (standing R) t) refl (ap (λ (s : Standing). s.last) (sym (standing_is meaning a R t x h on e)) ∙ n)

pub entry_is : {D : Type 0} (meaning : Meaning D) (a : Held D) (R : List Record) (t : ℕ) (x : Standing) → IsTrue meaning R a → is_active R t ≡ true → standing_in (page_of a.shape R 1) t ≡ Some x → x.entry ≡ table_place R t
entry_is meaning a R t x h on e = ap (λ (s : Standing). s.entry) (standing_is meaning a R t x h on e)

pub step_none : {D T : Type 0} (meaning : Meaning D) (a b : Held D) (x : Standing) (y : T) (R : List Record) (t : ℕ) → IsTrue meaning R a → HasLooked {T = Standing} meaning a b (Ok x) → newest_of (standing R) t ≡ None → Adds {T = T} meaning R (backed R t) a b (Ok y)
step_none meaning a b x y R t h p e = subst (λ (o : Option Step). Adds meaning R (backed_with R t o) a b (Ok y)) (sym e) (adds_same meaning a b x y R h p)

pub step_some : {D T : Type 0} (meaning : Meaning D) (a b c : Held D) (x : Standing) (r : Result T StoreFault) (R : List Record) (t : ℕ) (at : UndoAddr) → IsTrue meaning R a → is_active R t ≡ true → HasLooked {T = Standing} meaning a b (Ok x) → standing_in (page_of a.shape R 1) t ≡ Some x → x.last ≡ Some at
    → ((Q : List Record) (st : Step) → IsTrue meaning Q b → is_active Q t ≡ true → newest_of (standing Q) t ≡ Some st → st.undo ≡ at → x.entry ≡ table_place Q t → Adds meaning Q (Back (back_of Q t st) ∷ Q) b c r)
    → Adds meaning R (backed R t) a c r
step_some meaning a b c x r R t at h on p e n takes =
    let w = newest_is meaning a R t at x h on e n in
    let m = takes R w.step (p.stays_true R h) on w.is w.undo (entry_is meaning a R t x h on e) in
    subst (λ (o : Option Step). Adds meaning R (backed_with R t o) a c r) (sym w.is) (adds_on meaning a b c x r R _ h p m)

pub step_blocks : {D : Type 0} (meaning : Meaning D) (a b : Held D) (x : Standing) (bs : List ℕ) (R : List Record) (t : ℕ) (at : UndoAddr) → IsTrue meaning R a → is_active R t ≡ true → HasLooked {T = Standing} meaning a b (Ok x) → standing_in (page_of a.shape R 1) t ≡ Some x → x.last ≡ Some at
    → ((Q : List Record) (st : Step) → IsTrue meaning Q b → is_active Q t ≡ true → newest_of (standing Q) t ≡ Some st → st.undo ≡ at → x.entry ≡ table_place Q t → bs ≡ blocks_in st.parts)
    → ◌≡◌ {A = Option (List ℕ)} (Some bs) (blocks_of_step (newest_of (standing R) t))
step_blocks meaning a b x bs R t at h on p e n takes =
    let w = newest_is meaning a R t at x h on e n in
    ap (λ (cs : List ℕ). Some cs) (takes R w.step (p.stays_true R h) on w.is w.undo (entry_is meaning a R t x h on e)) ∙ ap blocks_of_step (sym w.is)
