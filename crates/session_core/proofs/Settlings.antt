-- Settlings of owed blocks.
use Rattle.std.proofs.Common.{◌≡◌, ℕ, zero, suc, ◌<◌, ◌≤◌, ltb, leb, Bool, true, false, cond, List, [], ◌∷◌, length, get_or, Option, Some, None, refl, sym, ◌∙◌, ap, ap₂, subst, arith, inl, inr, ltb-true, lt-ltb, leb-true, le-leb, le_trans, le_refl, true≢false}
use Rattle.std.specs.Prelude.{Result, Ok, Err, OnOk, IfOk, ◌||◌}
use Rattle.seg_words.proofs.Lemmas.{cases_Bool, cases_lt, or_parts}
use Rattle.seg_words.specs.Types.{Class as BlockClass, Shape, Slot, Writer, By, At, new_slot}
use Rattle.disk_model.specs.Crash.{Meaning}
use Rattle.redo_record.specs.declared.record.Record.TheVariants as made
use Rattle.redo_model.specs.Records.{Record}
use Rattle.redo_model.specs.Model.{IsRowBlock, IsTable, table_count, IsLawful, image, slot_count, slots_of}
use Rattle.redo_model.proofs.Bridge.{image_is, count_is}
use Rattle.session_laws.specs.Sessions.{own_of}
use Rattle.usage_laws.specs.Types.{drafted_clean, calls_for_clean, with_clean, drafted_class, calls_for_class, with_class, settled}
use Rattle.usage_laws.proofs.CallsLaw.{calls_for}
use Rattle.usage_laws.proofs.SettledLaw.{settled_adds_what}
use Rattle.history_model.specs.Legal.{IsCleaning}
use Rattle.session_model.specs.Done.{IsTidied, tidy_none, tidy_one}
use Rattle.store_core.specs.Store.{Held, HasList, IsTrue, SameLoan}
use Rattle.store_core.specs.Survives.{Survives}
use Rattle.store_core.specs.declared.fault.StoreFault.{StoreFault}
use Rattle.store_core.specs.Adding.{HasTried}
use Rattle.store_core.specs.Causes.{HasCause, HasLooked, IsSoundFault}
use Rattle.space_usage.specs.Fixing.{IsFixed, class_of_value, store_part}
use Rattle.space_usage.specs.declared.fault.FixFault.{FixFault}
use Rattle.space_usage.specs.declared.fault.FixFault.TheVariants as fixes
use Rattle.space_usage.specs.Settles.{HasBlock, Stands, Settles}
use Rattle.session_core.specs.Acting.{HasCalled}
use Rattle.session_core.specs.declared.owed.OwedBlock.{OwedBlock}
use Rattle.session_core.specs.Owing.{first_owed, rest_owed, calls_for_any, HasTidied, HasSettled, IsThere, is_numbered, StaysTrue, told_block, Tells, HasTold, NeedsNothing, SettlesIt, HasSettledIt, AreDropped, dropped_none, dropped_one, HasSettledFirst}
use Rattle.session_core.proofs.Calls.{called_on, called_ok, called_err}

-- ---- what a settling adds is of nobody's statement

past_end : (ss : List Slot) (k : ℕ) → length ss ≤ k → get_or ss k new_slot ≡ new_slot
past_end [] k l = refl
past_end (s ∷ ss) zero l = absurd (omega (arith, l))
past_end (s ∷ ss) (suc k) l = past_end ss k (omega (arith, l))

abbrev by_someone : Writer → Bool
by_someone (By t) = true
by_someone (At c) = false

written_there : (R : List Record) (b k t : ℕ) → (image R b k).writer ≡ By t → k < slot_count R b
written_there R b k t w = elim (cases_lt k (slot_count R b)) [
  | inl l ↦ l
  | inr l ↦ absurd (true≢false (sym (ap by_someone w) ∙ ap (λ (s : Slot). by_someone s.writer) (sym (image_is R b k) ∙ past_end (slots_of R b) k (subst (λ (n : ℕ). n ≤ k) (sym (count_is R b)) l))))
]

is_cleaning : (R : List Record) (b : ℕ) → calls_for_clean R b ≡ true → IsCleaning R (drafted_clean R b)
is_cleaning R b e =
    let y = calls_for R b e in
    record { slot = y.slot; there = written_there R b y.slot y.txn y.writer; txn = y.txn; names = y.writer; number = y.number; committed = y.committed; known = y.known }

pub clean_tidies : (R : List Record) (b : ℕ) → IsTidied R (with_clean R b)
clean_tidies R b = (elim (calls_for_clean R b) as (λ v. calls_for_clean R b ≡ v → IsTidied R (cond v (made.Clean (drafted_clean R b) ∷ R) R)) [
  | true ↦ λ e. tidy_one (made.Clean (drafted_clean R b)) tidy_none (is_cleaning R b e)
  | false ↦ λ e. tidy_none
]) refl

class_tidies : (sh : Shape) (Q R : List Record) (o b : ℕ) → IsTidied Q R → IsTidied Q (with_class sh R o b)
class_tidies sh Q R o b h = elim (calls_for_class R o b) as (λ v. IsTidied Q (cond v (made.Class (drafted_class sh R o b) ∷ R) R)) [
  | true ↦ tidy_one (made.Class (drafted_class sh R o b)) h refl
  | false ↦ h
]

pub settled_tidies : (sh : Shape) (R : List Record) (o b : ℕ) → IsTidied R (settled sh R o b)
settled_tidies sh R o b = class_tidies sh R (with_clean R b) o b (clean_tidies R b)

-- and leaves each session's transaction
pub tidied_own : (Q R : List Record) (w : ℕ) → IsTidied Q R → own_of R w ≡ own_of Q w
tidied_own Q _ w tidy_none = refl
tidied_own Q _ w (tidy_one {R} (made.Class k) h m) = tidied_own Q R w h
tidied_own Q _ w (tidy_one {R} (made.Clean c) h m) = tidied_own Q R w h
tidied_own Q _ w (tidy_one other h m) = absurd m

-- ---- whether it adds anything

not_less : (n : ℕ) → ltb n n ≡ false
not_less n = elim (cases_Bool (ltb n n)) [ inl y ↦ absurd (let l = ltb-true n n y in omega (arith, l)) | inr f ↦ f ]

one_more : (n : ℕ) → ltb n (suc n) ≡ true
one_more n = lt-ltb n (suc n) (omega arith)

two_more : (n : ℕ) → ltb n (suc (suc n)) ≡ true
two_more n = lt-ltb n (suc (suc n)) (omega arith)

grown_by : (R S : List Record) (v : Bool) → S ≡ R → v ≡ false → ltb (length R) (length S) ≡ v
grown_by R S v e f = ap (λ (z : List Record). ltb (length R) (length z)) e ∙ (not_less (length R) ∙ sym f)

settling_grows : (sh : Shape) (R : List Record) (o b : ℕ) → IsLawful sh R → IsRowBlock sh R o b → ltb (length R) (length (settled sh R o b)) ≡ calls_for_any R o b
settling_grows sh R o b h here =
    let a = settled_adds_what sh R o b h here in
    elim (cases_Bool (calls_for_clean R b)) [
      | inl c ↦ elim (cases_Bool (calls_for_class R o b)) [
        | inl k ↦ ap (λ (z : List Record). ltb (length R) (length z)) (a.both c k) ∙ (two_more (length R) ∙ sym (ap (λ (v : Bool). v || calls_for_class R o b) c))
        | inr k ↦ ap (λ (z : List Record). ltb (length R) (length z)) (a.clean c k) ∙ (one_more (length R) ∙ sym (ap (λ (v : Bool). v || calls_for_class R o b) c))
      ]
      | inr c ↦ elim (cases_Bool (calls_for_class R o b)) [
        | inl k ↦ ap (λ (z : List Record). ltb (length R) (length z)) (a.class c k) ∙ (one_more (length R) ∙ sym (ap₂ (λ (v w : Bool). v || w) c k))
        | inr k ↦ grown_by R (settled sh R o b) (calls_for_any R o b) (a.none c k) (ap₂ (λ (v w : Bool). v || w) c k)
      ]
    ]

nothing_settled : (sh : Shape) (R : List Record) (o b : ℕ) → IsLawful sh R → IsRowBlock sh R o b → calls_for_any R o b ≡ false → settled sh R o b ≡ R
nothing_settled sh R o b h here f = let p = or_parts (calls_for_clean R b) (calls_for_class R o b) f in (settled_adds_what sh R o b h here).none p.0 p.1

-- ---- one block

abbrev pub stands_tidied : {D : Type 0} (meaning : Meaning D) (R S : List Record) (a b : Held D) → IsTrue meaning R a → SameLoan meaning a b → Stands meaning R S a b → IsTidied R S → a.log.stable ≤ b.log.stable → HasTidied meaning R a b
stands_tidied meaning R S a b t loan s h stable = record { records = S; stands = s.list; tidied = h; stable = stable; survives = λ since needed v. s.survives since needed v; time = loan.time R t.list }

pub settled_block : {D : Type 0} (meaning : Meaning D) (R : List Record) (o d before after : ℕ) (y : Bool) (a b : Held D) → HasBlock meaning R o d a → SameLoan meaning a b → before ≡ length R → ((S : List Record) → HasList meaning S b → after ≡ length S) → Settles meaning R o d a b (Ok y)
    → HasSettled meaning R o d a b (Ok (ltb before after))
settled_block meaning R o d before after y a b h loan e f s = record {
  tidies = stands_tidied meaning R (settled a.shape R o d) a b h.holds loan s.settles (settled_tidies a.shape R o d) s.stable;
  settles = refl;
  needed = ap₂ (λ (m n : ℕ). ltb m n) e (f (settled a.shape R o d) s.settles.list.list) ∙ settling_grows a.shape R o d h.holds.lawful h.here;
  sound = tt;
}

pub unsettled_block : {D : Type 0} (meaning : Meaning D) (R : List Record) (o d : ℕ) (f : StoreFault) (a b : Held D) → a.fault ≡ None → HasBlock meaning R o d a → SameLoan meaning a b → Settles meaning R o d a b (Err f) → HasSettled meaning R o d a b (Err f)
unsettled_block meaning R o d f a b n h loan s = elim s.left [
  | inl q ↦ record { tidies = stands_tidied meaning R R a b h.holds loan q tidy_none s.stable; settles = tt; needed = tt; sound = s.sound n }
  | inr q ↦ record { tidies = stands_tidied meaning R (with_clean R d) a b h.holds loan q (clean_tidies R d) s.stable; settles = tt; needed = tt; sound = s.sound n }
]

-- ---- questions that add nothing

pub stays_on : {D : Type 0} (meaning : Meaning D) (R : List Record) (a b c : Held D) → StaysTrue meaning R a b → StaysTrue meaning R b c → StaysTrue meaning R a c
stays_on meaning R a b c p q = record { stands = q.stands; stable = le_trans p.stable q.stable; survives = λ since needed v. q.survives since needed (p.survives since needed v); time = le_trans p.time q.time }

stays_same : {D : Type 0} (meaning : Meaning D) (R : List Record) (a : Held D) → IsTrue meaning R a → StaysTrue meaning R a a
stays_same meaning R a t = record { stands = t; stable = le_refl _; survives = λ since needed v. v; time = le_refl _ }

stays_looked : {D A : Type 0} (meaning : Meaning D) (R : List Record) (a b : Held D) (r : Result A StoreFault) → IsTrue meaning R a → HasLooked {T = A} meaning a b r → StaysTrue meaning R a b
stays_looked meaning R a b r t h = record { stands = h.stays_true R t; stable = h.stable R t.list; survives = λ since needed v. h.survives since needed R t v; time = h.loan.time R t.list }

numbered : (R : List Record) (o n : ℕ) → n ≡ table_count R → Tells (IsTable R o) (is_numbered n o)
numbered R o n e = tells (leb 1 o) (leb o n) refl refl
  where
    tells : (p q : Bool) → leb 1 o ≡ p → leb o n ≡ q → Tells (IsTable R o) (cond p q false)
    tells true true p q = record { least = leb-true 1 o p; most = subst (λ (m : ℕ). o ≤ m) e (leb-true o n q) }
    tells true false p q = λ t. true≢false (sym (le-leb o n (subst (λ (m : ℕ). o ≤ m) (sym e) t.most)) ∙ q)
    tells false q p r = λ t. true≢false (sym (le-leb 1 o t.least) ∙ p)

pub table_told : {D : Type 0} (meaning : Meaning D) (R : List Record) (o n : ℕ) (y : Bool) (a b : Held D) → IsTrue meaning R a → HasLooked {T = ℕ} meaning a b (Ok n) → n ≡ table_count R → y ≡ is_numbered n o → HasTold meaning R (IsTable R o) a b (Ok y)
table_told meaning R o n y a b t h e i = record { stays = stays_looked {A = ℕ} meaning R a b (Ok n) t h; told = subst (λ (z : Bool). Tells (IsTable R o) z) (sym i) (numbered R o n e); sound = tt }

pub table_untold : {D : Type 0} (meaning : Meaning D) (R : List Record) (o : ℕ) (f : StoreFault) (a b : Held D) → IsTrue meaning R a → HasLooked {T = ℕ} meaning a b (Err f) → IsSoundFault f → HasTold meaning R (IsTable R o) a b (Err f)
table_untold meaning R o f a b t h s = record { stays = stays_looked {A = ℕ} meaning R a b (Err f) t h; told = tt; sound = s }

stays_stood : {D : Type 0} (meaning : Meaning D) (R : List Record) (a b : Held D) → IsTrue meaning R a → SameLoan meaning a b → a.log.stable ≤ b.log.stable → Stands meaning R R a b → StaysTrue meaning R a b
stays_stood meaning R a b t loan stable s = record { stands = s.list; stable = stable; survives = λ since needed v. s.survives since needed v; time = loan.time R t.list }

no_value : {P : Type 0} (c : BlockClass) → class_of_value 0 ≡ Some c → P
no_value c e = absurd (cc e)

fix_told : {D : Type 0} (meaning : Meaning D) (R : List Record) (o d : ℕ) (a b : Held D) (r : Result BlockClass FixFault) → a.fault ≡ None → IsTrue meaning R a → SameLoan meaning a b → a.log.stable ≤ b.log.stable → IsFixed meaning a.shape R o d (Some 0) a b r
    → HasTold meaning R (IsRowBlock a.shape R o d) a b (told_block r)
fix_told meaning R o d a b (Ok c) n t loan stable h = no_value c h.wanted
fix_told meaning R o d a b (Err (fixes.BadValue v)) n t loan stable h = record { stays = stays_stood meaning R a b t loan stable h.stands; told = h.here; sound = tt }
fix_told meaning R o d a b (Err (fixes.NotDataBlock e)) n t loan stable h = record { stays = stays_stood meaning R a b t loan stable h.stands; told = h.no_row_block; sound = tt }
fix_told meaning R o d a b (Err (fixes.Store f)) n t loan stable h = record { stays = stays_stood meaning R a b t loan stable h.stands; told = tt; sound = h.sound n }

pub block_told : {D : Type 0} (meaning : Meaning D) (R : List Record) (o d : ℕ) (a b : Held D) (r : Result BlockClass FixFault) (z : Result Bool StoreFault) → z ≡ told_block r → a.fault ≡ None → IsTrue meaning R a → HasTried {T = Unit {0}} meaning a b (store_part r) → IsFixed meaning a.shape R o d (Some 0) a b r
    → HasTold meaning R (IsRowBlock a.shape R o d) a b z
block_told meaning R o d a b r z e n t h f = subst (λ (y : Result Bool StoreFault). HasTold meaning R (IsRowBlock a.shape R o d) a b y) (sym e) (fix_told meaning R o d a b r n t h.loan (h.stable R t.list) f)

told_called : {D : Type 0} (meaning : Meaning D) (a b : Held D) (r : Result BlockClass FixFault) → a.fault ≡ None → SameLoan meaning a b → HasCause {T = Unit {0}} meaning a b (store_part r) → HasCalled {T = Bool} meaning a b (told_block r)
told_called meaning a b (Ok c) n loan cause = called_ok {A = Unit {0}} meaning a b tt true n loan cause
told_called meaning a b (Err (fixes.BadValue v)) n loan cause = called_ok {A = Unit {0}} meaning a b tt true n loan cause
told_called meaning a b (Err (fixes.NotDataBlock d)) n loan cause = called_ok {A = Unit {0}} meaning a b tt false n loan cause
told_called meaning a b (Err (fixes.Store f)) n loan cause = called_err {A = Unit {0}} meaning a b f n loan cause

pub block_called : {D : Type 0} (meaning : Meaning D) (a b : Held D) (r : Result BlockClass FixFault) (z : Result Bool StoreFault) → z ≡ told_block r → a.fault ≡ None → HasTried {T = Unit {0}} meaning a b (store_part r) → HasCalled {T = Bool} meaning a b z
block_called meaning a b r z e n h = subst (λ (y : Result Bool StoreFault). HasCalled {T = Bool} meaning a b y) (sym e) (told_called meaning a b r n h.loan h.cause)

-- ---- whether an owed block is there

there_so : (sh sh' : Shape) (R : List Record) (o d : ℕ) (r : Result Bool StoreFault) → sh' ≡ sh → IsTable R o → IfOk r (Tells (IsRowBlock sh' R o d)) → IfOk r (Tells (IsThere sh R o d))
there_so sh sh' R o d (Ok true) e t h = record { table = t; here = subst (λ (z : Shape). IsRowBlock z R o d) e h }
there_so sh sh' R o d (Ok false) e t h = λ i. h (subst (λ (z : Shape). IsRowBlock z R o d) (sym e) i.here)
there_so sh sh' R o d (Err f) e t h = tt

pub there_told : {D : Type 0} (meaning : Meaning D) (R : List Record) (o d : ℕ) (y : Bool) (a b c : Held D) (r : Result Bool StoreFault) → y ≡ true → b.shape ≡ a.shape → HasTold meaning R (IsTable R o) a b (Ok y) → (IsTrue meaning R b → IsTable R o → HasTold meaning R (IsRowBlock b.shape R o d) b c r)
    → HasTold meaning R (IsThere a.shape R o d) a c r
there_told meaning R o d false a b c r f e p q = absurd (true≢false (sym f))
there_told meaning R o d true a b c r f e p q =
    let n = q p.stays.stands p.told in
    record { stays = stays_on meaning R a b c p.stays n.stays; told = there_so a.shape b.shape R o d r e p.told n.told; sound = n.sound }

pub not_there_told : {D : Type 0} (meaning : Meaning D) (R : List Record) (o d : ℕ) (y : Bool) (a b : Held D) → y ≡ false → HasTold meaning R (IsTable R o) a b (Ok y) → HasTold meaning R (IsThere a.shape R o d) a b (Ok false)
not_there_told meaning R o d true a b f p = absurd (true≢false f)
not_there_told meaning R o d false a b f p = record { stays = p.stays; told = λ i. p.told i.table; sound = tt }

pub there_untold : {D : Type 0} {P : Type 0} (meaning : Meaning D) (R : List Record) (o d : ℕ) (f : StoreFault) (a b : Held D) → HasTold meaning R P a b (Err f) → HasTold meaning R (IsThere a.shape R o d) a b (Err f)
there_untold meaning R o d f a b p = record { stays = p.stays; told = tt; sound = p.sound }

-- ---- an owed block settled

abbrev tidied_by : {D : Type 0} (meaning : Meaning D) (R : List Record) (a b c : Held D) → StaysTrue meaning R a b → HasTidied meaning R b c → HasTidied meaning R a c
tidied_by meaning R a b c p h = record { records = h.records; stands = h.stands; tidied = h.tidied; stable = le_trans p.stable h.stable; survives = λ since needed v. h.survives since needed (p.survives since needed v); time = le_trans p.time h.time }

abbrev tidied_none : {D : Type 0} (meaning : Meaning D) (R : List Record) (a b : Held D) → StaysTrue meaning R a b → HasTidied meaning R a b
tidied_none meaning R a b p = record { records = R; stands = p.stands; tidied = tidy_none; stable = p.stable; survives = p.survives; time = p.time }

settles_so : (sh sh' : Shape) (R S : List Record) (o d : ℕ) (r : Result Bool StoreFault) → sh' ≡ sh → IsLawful sh R → IsThere sh R o d → OnOk r (S ≡ settled sh' R o d) → IfOk r (λ y. y ≡ calls_for_any R o d) → IfOk r (SettlesIt sh R S o d)
settles_so sh sh' R S o d (Ok true) e l i s n = (record { there = i; calls = sym n }, s ∙ ap (λ (z : Shape). settled z R o d) e)
settles_so sh sh' R S o d (Ok false) e l i s n = (inr (sym n), s ∙ (ap (λ (z : Shape). settled z R o d) e ∙ nothing_settled sh R o d l i.here (sym n)))
settles_so sh sh' R S o d (Err f) e l i s n = tt

pub it_settled : {D : Type 0} (meaning : Meaning D) (R : List Record) (o d : ℕ) (y : Bool) (a b c : Held D) (r : Result Bool StoreFault) → y ≡ true → b.shape ≡ a.shape → IsTrue meaning R a → HasTold meaning R (IsThere a.shape R o d) a b (Ok y)
    → (HasBlock meaning R o d b → HasSettled meaning R o d b c r) → HasSettledIt meaning R o d a c r
it_settled meaning R o d false a b c r f e t p q = absurd (true≢false (sym f))
it_settled meaning R o d true a b c r f e t p q =
    let i : IsThere a.shape R o d = p.told in
    let s = q (record { holds = p.stays.stands; table = i.table; here = subst (λ (z : Shape). IsRowBlock z R o d) (sym e) i.here }) in
    record {
      tidies = tidied_by meaning R a b c p.stays s.tidies;
      settles = settles_so a.shape b.shape R s.tidies.records o d r e t.lawful i s.settles s.needed;
      sound = s.sound;
    }

pub it_released : {D : Type 0} (meaning : Meaning D) (R : List Record) (o d : ℕ) (y : Bool) (a b : Held D) → y ≡ false → HasTold meaning R (IsThere a.shape R o d) a b (Ok y) → HasSettledIt meaning R o d a b (Ok false)
it_released meaning R o d true a b f p = absurd (true≢false f)
it_released meaning R o d false a b f p = record { tidies = tidied_none meaning R a b p.stays; settles = (inl p.told, refl); sound = tt }

pub it_failed : {D : Type 0} {P : Type 0} (meaning : Meaning D) (R : List Record) (o d : ℕ) (f : StoreFault) (a b : Held D) → HasTold meaning R P a b (Err f) → HasSettledIt meaning R o d a b (Err f)
it_failed meaning R o d f a b p = record { tidies = tidied_none meaning R a b p.stays; settles = tt; sound = p.sound }

-- ---- the first that calls for something

-- those before what is left were released or called for nothing, and nothing was added
pub record IsIdle {D : Type 0} (meaning : Meaning D) (R : List Record) (was left : List (ℕ × ℕ)) (a b : Held D) : Type 0 where
  pub stays : StaysTrue meaning R a b
  pub drops : (more : List (ℕ × ℕ)) → AreDropped a.shape R left more → AreDropped a.shape R was more

pub record HasIdled {D : Type 0} (meaning : Meaning D) (was left : List (ℕ × ℕ)) (a b : Held D) : Type 0 where
  pub called : HasCalled {T = Bool} meaning a b (Ok false)
  pub idle : (R : List Record) → IsTrue meaning R a → IsIdle meaning R was left a b

pub idle_begun : {D : Type 0} (meaning : Meaning D) (was : List (ℕ × ℕ)) (a : Held D) → HasCalled {T = Bool} meaning a a (Ok false) → HasIdled meaning was was a a
idle_begun meaning was a n = record { called = n; idle = λ R t. record { stays = stays_same meaning R a t; drops = λ more d. d } }

abbrev dba_of : Option OwedBlock → ℕ
dba_of None = 0
dba_of (Some b) = b.dba

abbrev obj_of : Option OwedBlock → ℕ
obj_of None = 0
obj_of (Some b) = b.obj

-- the block that is settled is the first one
first_settled : {D : Type 0} (meaning : Meaning D) (x : ℕ × ℕ) (es : List (ℕ × ℕ)) (block : OwedBlock) (r : Result Bool StoreFault) (b c : Held D) → first_owed (x ∷ es) ≡ Some block
    → ((R : List Record) → IsTrue meaning R b → HasSettledIt meaning R block.obj block.dba b c r) → (R : List Record) → IsTrue meaning R b → HasSettledIt meaning R x.1 x.0 b c r
first_settled meaning x es block r b c e f =
    subst (λ (d : ℕ). (R : List Record) → IsTrue meaning R b → HasSettledIt meaning R x.1 d b c r) (sym (ap dba_of e))
    (subst (λ (o : ℕ). (R : List Record) → IsTrue meaning R b → HasSettledIt meaning R o block.dba b c r) (sym (ap obj_of e)) f)

idle_next : {D : Type 0} (meaning : Meaning D) (R : List Record) (was es : List (ℕ × ℕ)) (x : ℕ × ℕ) (a b c : Held D) → IsIdle meaning R was (x ∷ es) a b → b.shape ≡ a.shape → HasSettledIt meaning R x.1 x.0 b c (Ok false) → IsIdle meaning R was es a c
idle_next meaning R was es x a b c i e s = record {
  stays = stays_on meaning R a b c i.stays (record {
    stands = subst (λ (S : List Record). IsTrue meaning S c) s.settles.1 s.tidies.stands;
    stable = s.tidies.stable;
    survives = λ since needed v. subst (λ (S : List Record). Survives meaning since needed S c) s.settles.1 (s.tidies.survives since needed v);
    time = s.tidies.time;
  });
  drops = λ more d. i.drops more (dropped_one x es more (subst (λ (z : Shape). NeedsNothing z R x.1 x.0) e s.settles.0) d);
}

pub idle_step : {D : Type 0} (meaning : Meaning D) (was left rest : List (ℕ × ℕ)) (block : OwedBlock) (y : Bool) (a b c : Held D) → y ≡ false → HasIdled meaning was left a b → first_owed left ≡ Some block → rest ≡ rest_owed left → HasCalled {T = Bool} meaning b c (Ok y)
    → ((R : List Record) → IsTrue meaning R b → HasSettledIt meaning R block.obj block.dba b c (Ok y)) → HasIdled meaning was rest a c
idle_step meaning was left rest block true a b c o i e d k f = absurd (true≢false o)
idle_step meaning was [] rest block false a b c o i e d k f = absurd (cc e)
idle_step meaning was (x ∷ es) rest block false a b c o i e d k f = subst (λ (z : List (ℕ × ℕ)). HasIdled meaning was z a c) (sym d) (record {
  called = called_on {A = Bool} {T = Bool} meaning a b c false (Ok false) i.called k;
  idle = λ R t. (let p = i.idle R t in idle_next meaning R was es x a b c p i.called.loan.shape (first_settled meaning x es block (Ok false) b c e f R p.stays.stands));
})

first_done : {D : Type 0} (meaning : Meaning D) (R : List Record) (was es : List (ℕ × ℕ)) (x : ℕ × ℕ) (a b c : Held D) → IsIdle meaning R was (x ∷ es) a b → b.shape ≡ a.shape → HasSettledIt meaning R x.1 x.0 b c (Ok true) → HasSettledFirst meaning R was (x ∷ es) a c (Ok true)
first_done meaning R was es x a b c i e s = record {
  tidies = tidied_by meaning R a b c i.stays s.tidies;
  dropped = i.drops (x ∷ es) (dropped_none (x ∷ es));
  first = subst (λ (z : Shape). SettlesIt z R s.tidies.records x.1 x.0 true) e s.settles;
  sound = tt;
}

pub first_found : {D : Type 0} (meaning : Meaning D) (was left : List (ℕ × ℕ)) (block : OwedBlock) (y : Bool) (a b c : Held D) → y ≡ true → HasIdled meaning was left a b → first_owed left ≡ Some block
    → ((R : List Record) → IsTrue meaning R b → HasSettledIt meaning R block.obj block.dba b c (Ok y)) → (R : List Record) → IsTrue meaning R a → HasSettledFirst meaning R was left a c (Ok true)
first_found meaning was left block false a b c o i e f R t = absurd (true≢false (sym o))
first_found meaning was [] block true a b c o i e f R t = absurd (cc e)
first_found meaning was (x ∷ es) block true a b c o i e f R t =
    let p = i.idle R t in
    first_done meaning R was es x a b c p i.called.loan.shape (first_settled meaning x es block (Ok true) b c e f R p.stays.stands)

pub first_fails : {D : Type 0} (meaning : Meaning D) (was left : List (ℕ × ℕ)) (block : OwedBlock) (fault : StoreFault) (a b c : Held D) → HasIdled meaning was left a b → first_owed left ≡ Some block
    → ((R : List Record) → IsTrue meaning R b → HasSettledIt meaning R block.obj block.dba b c (Err fault)) → (R : List Record) → IsTrue meaning R a → HasSettledFirst meaning R was left a c (Err fault)
first_fails meaning was [] block fault a b c i e f R t = absurd (cc e)
first_fails meaning was (x ∷ es) block fault a b c i e f R t =
    let p = i.idle R t in
    let s = first_settled meaning x es block (Err fault) b c e f R p.stays.stands in
    record { tidies = tidied_by meaning R a b c p.stays s.tidies; dropped = p.drops (x ∷ es) (dropped_none (x ∷ es)); first = tt; sound = s.sound }

none_left : (left : List (ℕ × ℕ)) → first_owed left ≡ None → left ≡ []
none_left [] e = refl
none_left (x ∷ es) e = absurd (cc e)

pub none_found : {D : Type 0} (meaning : Meaning D) (was left : List (ℕ × ℕ)) (a b : Held D) → HasIdled meaning was left a b → first_owed left ≡ None → (R : List Record) → IsTrue meaning R a → HasSettledFirst meaning R was left a b (Ok false)
none_found meaning was left a b i e R t =
    let p = i.idle R t in
    record { tidies = tidied_none meaning R a b p.stays; dropped = p.drops left (dropped_none left); first = (none_left left e, refl); sound = tt }

-- one that is left out makes the list shorter
pub rest_shorter : (left : List (ℕ × ℕ)) (block : OwedBlock) → first_owed left ≡ Some block → length (rest_owed left) < length left
rest_shorter [] block e = absurd (cc e)
rest_shorter (x ∷ es) block e = omega arith
