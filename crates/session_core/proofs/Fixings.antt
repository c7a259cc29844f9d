-- Kept classes that a statement sets.
use Rattle.std.proofs.Common.{◌≡◌, ◌⊎◌, ℕ, zero, suc, ◌≤◌, ◌<◌, Bool, true, false, cond, not, eqb, leb, eqb-true, leb-true, le-leb, List, ◌∷◌, length, Option, Some, None, refl, sym, ◌∙◌, ap, subst, arith, inl, inr, true≢false}
use Rattle.std.specs.Prelude.{Result, Ok, Err}
use Rattle.seg_words.proofs.Lemmas.{cond-true, cond-false, cases_Bool, cases_lt}
use Rattle.seg_words.specs.Types.{Class as BlockClass, Unformatted, Full, Fs1, Fs2, Fs3, Fs4, Shape, class_code, class_from}
use Rattle.disk_model.specs.Crash.{Meaning}
use Rattle.redo_record.specs.declared.record.Record.TheVariants as made
use Rattle.redo_model.specs.Records.{Record, ClassRecord}
use Rattle.redo_model.specs.Model.{table_named, kept_class, IsRowBlock}
use Rattle.session_laws.specs.Sessions.{own_of, backed_of}
use Rattle.usage_laws.specs.Types.{class_to}
use Rattle.script_text.specs.declared.statement.Statement.TheVariants as asked
use Rattle.history_text.specs.declared.outcome.Outcome.TheVariants as outcome
use Rattle.history_text.specs.declared.refusal.Refusal.TheVariants as why
use Rattle.history_model.specs.declared.history.Kept.TheVariants as kept
use Rattle.history_model.specs.declared.limit.TheConstants.{NEW_WORK_RECORDS}
use Rattle.history_model.specs.Spans.{Span}
use Rattle.history_model.specs.Causes.{IsBadValue}
use Rattle.history_model.specs.Passing.{FirstPass}
use Rattle.history_model.specs.TableMeans.{IsFixedTo}
use Rattle.history_laws.specs.Working.{later}
use Rattle.history_laws.proofs.OneEvent.{fixes_tell, fixed_tell}
use Rattle.history_laws.proofs.Owned.{none_some}
use Rattle.history_laws.proofs.Passes.{accepted_passes}
use Rattle.session_model.specs.Done.{done_none, done_one}
use Rattle.session_model.specs.Worlds.{Acts}
use Rattle.store_core.specs.Store.{Held, SameLoan}
use Rattle.store_core.specs.Adding.{HasTried}
use Rattle.store_core.specs.Causes.{HasCause}
use Rattle.store_core.specs.declared.fault.StoreFault.{StoreFault}
use Rattle.space_usage.specs.Settles.{Stands}
use Rattle.space_usage.specs.Keeping.{is_other, with_kept}
use Rattle.space_usage.specs.Fixing.{class_of_value, IsWanted, IsFixed, store_part}
use Rattle.space_usage.specs.declared.fault.FixFault.{FixFault}
use Rattle.space_usage.specs.declared.fault.FixFault.TheVariants as faults
use Rattle.session_core.specs.declared.turned.Turned.TheVariants as turned
use Rattle.session_core.specs.declared.turned.Acted.{Acted}
use Rattle.session_core.specs.Acting.{IsAt, IsStarting, Turns, HasActed, HasCalled}
use Rattle.session_core.specs.Fixing.{not_fixed}
use Rattle.session_core.specs.Starting.{IsRefusedFirst}
use Rattle.session_core.proofs.Calls.{acts_none, called_ok, called_err}
use Rattle.session_core.proofs.Checks.{pass_before}
use Rattle.session_core.proofs.MakingTables.{first_turns}

-- ---- values

some_class : (x y : BlockClass) → ◌≡◌ {A = Option BlockClass} (Some x) (Some y) → x ≡ y
some_class x y e = cc

code_back : (c : BlockClass) → class_from (class_code c) ≡ Some c
code_back Unformatted = refl
code_back Full = refl
code_back Fs1 = refl
code_back Fs2 = refl
code_back Fs3 = refl
code_back Fs4 = refl

pub same_class : (c d : BlockClass) → class_code c ≡ class_code d → c ≡ d
same_class c d e = some_class c d (sym (code_back c) ∙ (ap class_from e ∙ code_back d))

from_code : (v : ℕ) (c : BlockClass) → class_from v ≡ Some c → class_code c ≡ v
from_code zero c h = ap class_code (sym (some_class Unformatted c h))
from_code (suc zero) c h = ap class_code (sym (some_class Full c h))
from_code (suc (suc zero)) c h = ap class_code (sym (some_class Fs1 c h))
from_code (suc (suc (suc zero))) c h = ap class_code (sym (some_class Fs2 c h))
from_code (suc (suc (suc (suc zero)))) c h = ap class_code (sym (some_class Fs3 c h))
from_code (suc (suc (suc (suc (suc zero))))) c h = ap class_code (sym (some_class Fs4 c h))
from_code (suc (suc (suc (suc (suc (suc n)))))) c h = none_some c _ h

record IsInside (v : ℕ) (c : BlockClass) : Type 0 where
  pub least : 1 ≤ v
  pub most : v ≤ 5
  pub code : class_code c ≡ v

inside : (v : ℕ) (c : BlockClass) (a b : Bool) → leb 1 v ≡ a → leb v 5 ≡ b → cond a (cond b (class_from v) None) None ≡ Some c → IsInside v c
inside v c true true p q h = record { least = leb-true 1 v p; most = leb-true v 5 q; code = from_code v c h }
inside v c true false p q h = none_some c _ h
inside v c false b p q h = none_some c _ h

value_inside : (v : ℕ) (c : BlockClass) → class_of_value v ≡ Some c → IsInside v c
value_inside v c h = inside v c (leb 1 v) (leb v 5) refl refl h

from_some : (v : ℕ) → v ≤ 5 → class_from v ≡ None → ⊥
from_some zero l h = none_some Unformatted _ (sym h)
from_some (suc zero) l h = none_some Full _ (sym h)
from_some (suc (suc zero)) l h = none_some Fs1 _ (sym h)
from_some (suc (suc (suc zero))) l h = none_some Fs2 _ (sym h)
from_some (suc (suc (suc (suc zero)))) l h = none_some Fs3 _ (sym h)
from_some (suc (suc (suc (suc (suc zero))))) l h = none_some Fs4 _ (sym h)
from_some (suc (suc (suc (suc (suc (suc n)))))) l h = absurd (omega (arith, l))

not_leb : (m n : ℕ) → leb m n ≡ false → n < m
not_leb m n h = elim (cases_lt n m) [ inl l ↦ l | inr l ↦ absurd (true≢false (sym (le-leb m n l) ∙ h)) ]

outside : (v : ℕ) (a b : Bool) → leb 1 v ≡ a → leb v 5 ≡ b → cond a (cond b (class_from v) None) None ≡ None → (v < 1) ⊎ (5 < v)
outside v true true p q h = absurd (from_some v (leb-true v 5 q) h)
outside v true false p q h = inr (not_leb v 5 q)
outside v false b p q h = inl (not_leb 1 v p)

bad_value : (name : List ℕ) (block v : ℕ) (value : Option ℕ) → value ≡ Some v → class_of_value v ≡ None → IsBadValue (asked.Fix name block value) v
bad_value name block v value e n = subst (λ (o : Option ℕ). IsBadValue (asked.Fix name block o) v) (sym e) (refl, outside v (leb 1 v) (leb v 5) refl refl n)

good_value : (R : List Record) (o b : ℕ) (name : List ℕ) (block : ℕ) (value : Option ℕ) (c : BlockClass) → IsWanted R o b value c → (v : ℕ) → IsBadValue (asked.Fix name block value) v → ⊥
good_value R o b name block None c w v h = h
good_value R o b name block (Some u) c w v h =
    let i = value_inside u c w in
    elim h.1 [ inl l ↦ (let k : u < 1 = l in let m = i.least in absurd (omega (arith, k, m))) | inr l ↦ (let k : 5 < u = l in let m = i.most in absurd (omega (arith, k, m))) ]

wanted_fixed : (R : List Record) (o b : ℕ) (value : Option ℕ) (c : BlockClass) → IsWanted R o b value c → IsFixedTo R o b value c
wanted_fixed R o b None c w = w
wanted_fixed R o b (Some v) c w = (value_inside v c w).code

-- ---- first tests

-- no cause applies
fix_passes : (sh : Shape) (x : Span) (name : List ℕ) (o block : ℕ) (value : Option ℕ) → table_named x.begun name ≡ Some o → (NEW_WORK_RECORDS ≤ length x.begun → ⊥) → IsRowBlock sh x.begun o block → ((v : ℕ) → IsBadValue (asked.Fix name block value) v → ⊥)
    → FirstPass sh x (asked.Fix name block value)
fix_passes sh x name o block value there few here good = record {
  table = λ h. none_some o _ (sym h ∙ there);
  new_name = λ h. h;
  few_tables = λ h. h;
  movement = λ h. h;
  no_transaction = λ h. h;
  unshrunk = λ v h. h;
  log = few;
  data_block = λ b h. h.1.2 (subst (λ (q : ℕ). IsRowBlock sh x.begun q block) (same_obj o h.1.0 (sym there ∙ h.1.1)) here);
  value = good;
  label = λ l h. none_some _ _ h.0;
}
  where
    same_obj : (p q : ℕ) → ◌≡◌ {A = Option ℕ} (Some p) (Some q) → p ≡ q
    same_obj p q e = cc

yes : (e : ◌≡◌ {A = Bool} false true) → ⊥
yes e = absurd (true≢false (sym e))

-- no table of that name
pub fix_untold : (sh : Shape) (x : Span) (name : List ℕ) (block : ℕ) (value : Option ℕ) → table_named x.begun name ≡ None → IsRefusedFirst sh x (asked.Fix name block value) why.NoTable
fix_untold sh x name block value e = record {
  first = refl;
  cause = e;
  before = pass_before sh x (asked.Fix name block value) 0 (omega arith) (record {
    table = λ b h. yes b;
    new_name = λ b h. yes b;
    few_tables = λ b h. yes b;
    movement = λ b h. yes b;
    no_transaction = λ b h. yes b;
    unshrunk = λ b v h. yes b;
    log = λ b h. yes b;
    data_block = λ b c h. yes b;
    value = λ b c h. yes b;
    label = λ b c h. yes b;
  });
}

-- the log is full
pub fix_full : (sh : Shape) (x : Span) (name : List ℕ) (o block : ℕ) (value : Option ℕ) → table_named x.begun name ≡ Some o → NEW_WORK_RECORDS ≤ length x.begun → IsRefusedFirst sh x (asked.Fix name block value) why.LogFull
fix_full sh x name o block value there full = record {
  first = refl;
  cause = full;
  before = pass_before sh x (asked.Fix name block value) 6 (omega arith) (record {
    table = λ _ h. none_some o _ (sym h ∙ there);
    new_name = λ _ h. h;
    few_tables = λ _ h. h;
    movement = λ _ h. h;
    no_transaction = λ _ h. h;
    unshrunk = λ _ v h. h;
    log = λ b h. yes b;
    data_block = λ b c h. yes b;
    value = λ b c h. yes b;
    label = λ b c h. yes b;
  });
}

-- the block is none of the table's
fix_nowhere : (sh : Shape) (x : Span) (name : List ℕ) (o block : ℕ) (value : Option ℕ) → table_named x.begun name ≡ Some o → (NEW_WORK_RECORDS ≤ length x.begun → ⊥) → (IsRowBlock sh x.begun o block → ⊥) → IsRefusedFirst sh x (asked.Fix name block value) (why.NotDataBlock block)
fix_nowhere sh x name o block value there few away = record {
  first = refl;
  cause = (refl, (o, there, away));
  before = pass_before sh x (asked.Fix name block value) 7 (omega arith) (record {
    table = λ _ h. none_some o _ (sym h ∙ there);
    new_name = λ _ h. h;
    few_tables = λ _ h. h;
    movement = λ _ h. h;
    no_transaction = λ _ h. h;
    unshrunk = λ _ v h. h;
    log = λ _ h. few h;
    data_block = λ b c h. yes b;
    value = λ b c h. yes b;
    label = λ b c h. yes b;
  });
}

-- the value is none of a class
fix_valueless : (sh : Shape) (x : Span) (name : List ℕ) (o block v : ℕ) (value : Option ℕ) → FirstPass sh x (asked.Fix name block None) → IsBadValue (asked.Fix name block value) v → IsRefusedFirst sh x (asked.Fix name block value) (why.BadValue v)
fix_valueless sh x name o block v value f bad = record {
  first = refl;
  cause = bad;
  before = pass_before sh x (asked.Fix name block value) 8 (omega arith) (record {
    table = λ _ h. f.table h;
    new_name = λ _ h. h;
    few_tables = λ _ h. h;
    movement = λ _ h. h;
    no_transaction = λ _ h. h;
    unshrunk = λ _ u h. h;
    log = λ _ h. f.log h;
    data_block = λ _ b h. f.data_block b h;
    value = λ b c h. yes b;
    label = λ b c h. yes b;
  });
}

-- ---- the event

acted_stands : {D : Type 0} (meaning : Meaning D) (x : Span) (name : List ℕ) (block : ℕ) (value own : Option ℕ) (a b : Held D) (next : List Record) (z : Acted) → IsAt meaning x own a → SameLoan meaning a b → a.log.stable ≤ b.log.stable → Stands meaning x.ended next a b
    → Acts a.shape x (Some (asked.Fix name block value)) next → Turns a.shape x (Some (asked.Fix name block value)) next z → HasActed meaning x (Some (asked.Fix name block value)) a b (Ok z)
acted_stands meaning x name block value own a b next z at loan stable s acts t = record {
  records = next;
  stands = s.list;
  acts = acts;
  stable = stable;
  survives = λ since needed v. s.survives since needed v;
  time = loan.time x.ended at.stands.list;
  turns = t;
  sound = tt;
}

backed_still : (k : ClassRecord) (R : List Record) (o : Option ℕ) → backed_of (made.Class k ∷ R) o ≡ backed_of R o
backed_still k R None = refl
backed_still k R (Some t) = refl

later_passes : (sh : Shape) (x : Span) (E : List Record) (name : List ℕ) (block : ℕ) (value : Option ℕ) → FirstPass sh x (asked.Fix name block value) → FirstPass sh (later x E) (asked.Fix name block value)
later_passes sh x E name block value f = record {
  table = λ h. f.table h;
  new_name = λ h. h;
  few_tables = λ h. h;
  movement = λ h. h;
  no_transaction = λ h. h;
  unshrunk = λ v h. h;
  log = λ h. f.log h;
  data_block = λ b h. f.data_block b h;
  value = λ v h. f.value v h;
  label = λ l h. none_some _ _ h.0;
}

-- the class is kept already
fixed_same : {D : Type 0} (meaning : Meaning D) (x : Span) (name : List ℕ) (o block : ℕ) (value own : Option ℕ) (c : BlockClass) (a b : Held D) → IsAt meaning x own a → IsStarting x → table_named x.ended name ≡ Some o → FirstPass a.shape x (asked.Fix name block value) → c ≡ kept_class x.ended block
    → IsFixedTo x.ended o block value c → SameLoan meaning a b → a.log.stable ≤ b.log.stable → Stands meaning x.ended x.ended a b → HasActed meaning x (Some (asked.Fix name block value)) a b (Ok (record { turned = turned.Over (outcome.Fixed block c) kept.Nothing; own = own }))
fixed_same meaning x name o block value own c a b at h there f e to loan stable s =
    acted_stands meaning x name block value own a b x.ended (record { turned = turned.Over (outcome.Fixed block c) kept.Nothing; own = own }) at loan stable s (acts_none a.shape x (Some (asked.Fix name block value))) (record {
      turns = record {
        means = fixed_tell a.shape (later x x.ended) name block value o c h.at_once there e to;
        passes = accepted_passes a.shape (later x x.ended) (asked.Fix name block value) (outcome.Fixed block c) kept.Nothing refl (later_passes a.shape x x.ended name block value f);
        whole = h.whole;
        closed = λ z. none_some _ _ (sym z);
      };
      own = at.own_is;
      kept = tt;
    })

-- a Class keeps it
fixed_new : {D : Type 0} (meaning : Meaning D) (x : Span) (name : List ℕ) (block : ℕ) (value own : Option ℕ) (k : ClassRecord) (a b : Held D) → IsAt meaning x own a → IsStarting x → table_named x.ended name ≡ Some k.obj → FirstPass a.shape x (asked.Fix name block value) → k.dba ≡ block
    → IsFixedTo x.ended k.obj block value k.class → SameLoan meaning a b → a.log.stable ≤ b.log.stable → Stands meaning x.ended (made.Class k ∷ x.ended) a b
    → HasActed meaning x (Some (asked.Fix name block value)) a b (Ok (record { turned = turned.Over (outcome.Fixed block k.class) kept.Nothing; own = own }))
fixed_new meaning x name block value own k a b at h there f d to loan stable s =
    let t = fixes_tell a.shape x name block value k h.at_once there d to in
    acted_stands meaning x name block value own a b (made.Class k ∷ x.ended) (record { turned = turned.Over (outcome.Fixed block k.class) kept.Nothing; own = own }) at loan stable s (record { done = done_one (made.Class k) done_none (inr t.makes); passed = inr f }) (record {
      turns = record {
        means = t.means;
        passes = accepted_passes a.shape (later x (made.Class k ∷ x.ended)) (asked.Fix name block value) (outcome.Fixed block k.class) kept.Nothing refl (later_passes a.shape x (made.Class k ∷ x.ended) name block value f);
        whole = backed_still k x.ended (own_of x.ended x.session) ∙ h.whole;
        closed = λ z. none_some _ _ (sym z);
      };
      own = at.own_is;
      kept = tt;
    })

not_false : (v : Bool) → not v ≡ false → v ≡ true
not_false true h = refl
not_false false h = absurd (true≢false h)

kept_already : (R : List Record) (b : ℕ) (c : BlockClass) → is_other R b c ≡ false → c ≡ kept_class R b
kept_already R b c h = same_class c (kept_class R b) (eqb-true _ _ (not_false _ h))

begun_row : (sh : Shape) (x : Span) (o block : ℕ) → IsStarting x → IsRowBlock sh x.ended o block → IsRowBlock sh x.begun o block
begun_row sh x o block h here = subst (λ (R : List Record). IsRowBlock sh R o block) h.at_once here

begun_table : (x : Span) (name : List ℕ) (o : ℕ) → IsStarting x → table_named x.ended name ≡ Some o → table_named x.begun name ≡ Some o
begun_table x name o h e = subst (λ (R : List Record). table_named R name ≡ Some o) h.at_once e

begun_few : (x : Span) → IsStarting x → (NEW_WORK_RECORDS ≤ length x.ended → ⊥) → NEW_WORK_RECORDS ≤ length x.begun → ⊥
begun_few x h few l = few (subst (λ (R : List Record). NEW_WORK_RECORDS ≤ length R) (sym h.at_once) l)

pub fixed_acted : {D : Type 0} (meaning : Meaning D) (x : Span) (name : List ℕ) (o block : ℕ) (value own : Option ℕ) (c : BlockClass) (a b : Held D) → IsAt meaning x own a → IsStarting x → table_named x.ended name ≡ Some o → (NEW_WORK_RECORDS ≤ length x.ended → ⊥) → SameLoan meaning a b
    → a.log.stable ≤ b.log.stable → IsFixed meaning a.shape x.ended o block value a b (Ok c) → HasActed meaning x (Some (asked.Fix name block value)) a b (Ok (record { turned = turned.Over (outcome.Fixed block c) kept.Nothing; own = own }))
fixed_acted {D} meaning x name o block value own c a b at h there few loan stable k = elim (cases_Bool (is_other x.ended block c)) [
  | inl y ↦ fixed_new meaning x name block value own (class_to a.shape x.ended o block c) a b at h there pass refl to loan stable (subst (λ (R : List Record). Stands meaning x.ended R a b) (cond-true _ _ _ y) k.stands)
  | inr n ↦ fixed_same meaning x name o block value own c a b at h there pass (kept_already x.ended block c n) to loan stable (subst (λ (R : List Record). Stands meaning x.ended R a b) (cond-false _ _ _ n) k.stands)
]
  where
    pass : FirstPass a.shape x (asked.Fix name block value)
    pass = fix_passes a.shape x name o block value (begun_table x name o h there) (begun_few x h few) (begun_row a.shape x o block h k.here) (good_value x.ended o block name block value c k.wanted)

    to : IsFixedTo x.ended o block value c
    to = wanted_fixed x.ended o block value c k.wanted

refused_acted : {D : Type 0} (meaning : Meaning D) (x : Span) (name : List ℕ) (o block : ℕ) (value own : Option ℕ) (f : FixFault) (a b : Held D) → IsAt meaning x own a → IsStarting x → table_named x.ended name ≡ Some o → (NEW_WORK_RECORDS ≤ length x.ended → ⊥) → SameLoan meaning a b
    → a.log.stable ≤ b.log.stable → IsFixed meaning a.shape x.ended o block value a b (Err f) → HasActed meaning x (Some (asked.Fix name block value)) a b (not_fixed f own)
refused_acted meaning x name o block value own (faults.NotDataBlock d) a b at h there few loan stable k =
    subst (λ (n : ℕ). HasActed meaning x (Some (asked.Fix name block value)) a b (Ok (record { turned = turned.Over (outcome.Refused (why.NotDataBlock n)) kept.Nothing; own = own }))) (sym k.block)
    (acted_stands meaning x name block value own a b x.ended (record { turned = turned.Over (outcome.Refused (why.NotDataBlock block)) kept.Nothing; own = own }) at loan stable k.stands (acts_none a.shape x (Some (asked.Fix name block value)))
    (first_turns a.shape x (asked.Fix name block value) (why.NotDataBlock block) own h
    (fix_nowhere a.shape x name o block value (begun_table x name o h there) (begun_few x h few) (λ w. k.no_row_block (subst (λ (R : List Record). IsRowBlock a.shape R o block) (sym h.at_once) w))) at.own_is))
refused_acted meaning x name o block value own (faults.BadValue v) a b at h there few loan stable k =
    acted_stands meaning x name block value own a b x.ended (record { turned = turned.Over (outcome.Refused (why.BadValue v)) kept.Nothing; own = own }) at loan stable k.stands (acts_none a.shape x (Some (asked.Fix name block value)))
    (first_turns a.shape x (asked.Fix name block value) (why.BadValue v) own h
    (fix_valueless a.shape x name o block v value (fix_passes a.shape x name o block None (begun_table x name o h there) (begun_few x h few) (begun_row a.shape x o block h k.here) (λ u w. w)) (bad_value name block v value k.is k.no_class)) at.own_is)
refused_acted meaning x name o block value own (faults.Store f) a b at h there few loan stable k = record {
  records = x.ended;
  stands = k.stands.list;
  acts = acts_none a.shape x (Some (asked.Fix name block value));
  stable = stable;
  survives = λ since needed v. k.stands.survives since needed v;
  time = loan.time x.ended at.stands.list;
  turns = tt;
  sound = k.sound at.unspent;
}

pub fix_refused : {D : Type 0} (meaning : Meaning D) (x : Span) (name : List ℕ) (o block : ℕ) (value own : Option ℕ) (f : FixFault) (a b : Held D) (r : Result Acted StoreFault) → r ≡ not_fixed f own → IsAt meaning x own a → IsStarting x → table_named x.ended name ≡ Some o
    → (NEW_WORK_RECORDS ≤ length x.ended → ⊥) → SameLoan meaning a b → a.log.stable ≤ b.log.stable → IsFixed meaning a.shape x.ended o block value a b (Err f) → HasActed meaning x (Some (asked.Fix name block value)) a b r
fix_refused meaning x name o block value own f a b r e at h there few loan stable k = subst (λ (z : Result Acted StoreFault). HasActed meaning x (Some (asked.Fix name block value)) a b z) (sym e) (refused_acted meaning x name o block value own f a b at h there few loan stable k)

-- ---- of any store

refused_called : {D : Type 0} (meaning : Meaning D) (own : Option ℕ) (a b : Held D) (f : FixFault) → a.fault ≡ None → SameLoan meaning a b → HasCause {T = Unit {0}} meaning a b (store_part (Err f)) → HasCalled meaning a b (not_fixed f own)
refused_called meaning own a b (faults.NotDataBlock d) n loan cause = called_ok {A = Unit {0}} meaning a b tt (record { turned = turned.Over (outcome.Refused (why.NotDataBlock d)) kept.Nothing; own = own }) n loan cause
refused_called meaning own a b (faults.BadValue v) n loan cause = called_ok {A = Unit {0}} meaning a b tt (record { turned = turned.Over (outcome.Refused (why.BadValue v)) kept.Nothing; own = own }) n loan cause
refused_called meaning own a b (faults.Store f) n loan cause = called_err {A = Unit {0}} meaning a b f n loan cause

pub fix_called : {D : Type 0} (meaning : Meaning D) (own : Option ℕ) (a b : Held D) (f : FixFault) (r : Result Acted StoreFault) → r ≡ not_fixed f own → a.fault ≡ None → HasTried {T = Unit {0}} meaning a b (store_part (Err f)) → HasCalled meaning a b r
fix_called meaning own a b f r e n t = subst (λ (z : Result Acted StoreFault). HasCalled meaning a b z) (sym e) (refused_called meaning own a b f n t.loan t.cause)
