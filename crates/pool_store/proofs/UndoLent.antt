-- Undo pages and the transaction table of a true store.
use Rattle.std.proofs.Common.{◌≡◌, ℕ, zero, suc, ◌+◌, ◌<◌, ◌≤◌, true, not, nat_lt, eqb, List, Option, Some, None, option_map, IfSome, IsSome, refl, sym, ◌∙◌, ap, subst, arith, inl, inr, lt-ltb, ne_eqb}
use Rattle.std.specs.Prelude.{Result, Ok, Err, OnOk, IfOk, IfErr}
use Rattle.seg_words.proofs.Lemmas.{and_from, or_left, or_right}
use Rattle.seg_words.specs.Types.{Shape, is_shape}
use Rattle.disk_model.specs.Crash.{Meaning}
use Rattle.txn_block.specs.Tables.{TxnTable}
use Rattle.undo_block.specs.UndoPage.{UndoPage}
use Rattle.redo_model.specs.Records.{Record}
use Rattle.redo_model.specs.Model.{txn_count, IsLawful}
use Rattle.redo_laws.proofs.numbers.Bounds.{limits}
use Rattle.version_laws.specs.Types.{HoldsTable, HoldsUndo, IsInUse}
use Rattle.page_set.specs.declared.page.Page.{Page}
use Rattle.page_set.specs.declared.page.Page.TheVariants.{Zero, Txns, Undo}
use Rattle.page_set.specs.Folded.{page_of}
use Rattle.store_laws.specs.Kinds.{HasTable, HasNoTable}
use Rattle.store_laws.proofs.KindsLaw.{tables_stand, tables_are_new, undo_stands, undo_is_held}
use Rattle.pool_store.specs.Store.{Held, has_page}
use Rattle.pool_store.specs.Causes.{HasLooked}
use Rattle.pool_store.specs.Undo.{undo_of, table_of, Looks, looks_none, looks_more, LooksAndFails}
use Rattle.pool_store.specs.declared.fault.StoreFault.{StoreFault}
use Rattle.pool_store.proofs.Lookups.{looked_on, looked_same, refused_after}

-- blocks that have pages

pub page_when : (sh : Shape) (d : ℕ) → 37 ≤ d → d < sh.blocks → has_page sh d ≡ true
page_when sh d l u = and_from _ _ (ap not (ne_eqb d 0 (λ e. omega (arith, e, l)))) (and_from _ _ (lt-ltb d sh.blocks u) (or_right (nat_lt d 4) _ (lt-ltb 36 d (omega (arith, l)))))

pub undo_has : (sh : Shape) (R : List Record) (u : ℕ) → is_shape sh ≡ true → IsInUse sh R u → has_page sh u ≡ true
undo_has sh R u s h =
    let lim = limits sh s in
    let all = lim.all in
    let from = h.ring.from in
    let to = h.ring.to in
    page_when sh u (omega (arith, from)) (omega (arith, to, all))

pub table_has : (sh : Shape) → is_shape sh ≡ true → has_page sh 1 ≡ true
table_has sh s =
    let lim = limits sh s in
    let all = lim.all in
    and_from _ _ refl (and_from _ _ (lt-ltb 1 sh.blocks (omega (arith, all))) refl)

-- one call

pub one_look : {D : Type 0} (meaning : Meaning D) (a b : Held D) (r : Result (Unit {0}) StoreFault) → HasLooked {T = Unit {0}} meaning a b r → OnOk r (Looks meaning a b)
one_look meaning a b (Ok x) h = looks_more looks_none h
one_look meaning a b (Err f) h = tt

pub one_fault : {D : Type 0} (meaning : Meaning D) (a b : Held D) (r : Result (Unit {0}) StoreFault) → HasLooked {T = Unit {0}} meaning a b r → IfErr r (LooksAndFails meaning a b)
one_fault meaning a b (Ok x) h = tt
one_fault meaning a b (Err f) h = record { before = a; looks = looks_none; fails = h }

-- several calls are as one

pub all_looked : {D : Type 0} (meaning : Meaning D) (a b : Held D) → a.fault ≡ None → Looks meaning a b → HasLooked {T = Unit {0}} meaning a b (Ok tt)
all_looked meaning a b n looks_none = looked_same meaning a tt n
all_looked meaning a b n (looks_more {b = x} q h) = looked_on meaning a x b tt (Ok tt) (all_looked meaning a x n q) h

pub all_failed : {D T : Type 0} (meaning : Meaning D) (a c : Held D) (f : StoreFault) → a.fault ≡ None → LooksAndFails meaning a c f → HasLooked {T = T} meaning a c (Err f)
all_failed meaning a c f n q = refused_after meaning a q.before c tt f (all_looked meaning a q.before n q.looks) q.fails

-- pages

pub undo_told : {A : Type 0} (value : A → UndoPage) (sh : Shape) (R : List Record) (u : ℕ) (p : Page) (r : Option A) → IsLawful sh R → p ≡ page_of sh R u → option_map value r ≡ undo_of p → IfSome r (λ x. HoldsUndo R u (value x))
undo_told value sh R u p None h e t = tt
undo_told value sh R u (Undo v) (Some x) h e t = let same : value x ≡ v = cc in subst (HoldsUndo R u) (sym same) (undo_is_held sh R u v h.allowed (sym e))
undo_told value sh R u _ (Some x) h e t = absurd cc

pub undo_there : {A : Type 0} (value : A → UndoPage) (sh : Shape) (R : List Record) (u : ℕ) (p : Page) (r : Option A) → is_shape sh ≡ true → IsLawful sh R → IsInUse sh R u → p ≡ page_of sh R u → option_map value r ≡ undo_of p → IsSome r
undo_there value sh R u p (Some x) s h w e t = refl
undo_there value sh R u p None s h w e t =
    let has = undo_stands sh R u s h.allowed w in
    let z : ◌≡◌ {A = Option UndoPage} None (Some has.undo) = t ∙ ap undo_of (e ∙ has.page) in absurd cc

record TableHeld (sh : Shape) (R : List Record) : Type 0 where
  table : TxnTable
  told : table_of (page_of sh R 1) ≡ Some table
  holds : HoldsTable R table

table_held : (sh : Shape) (R : List Record) → is_shape sh ≡ true → IsLawful sh R → TableHeld sh R
table_held sh R s h = by_count (txn_count R) refl
  where
    by_count : (n : ℕ) → txn_count R ≡ n → TableHeld sh R
    by_count zero e = let t = tables_are_new sh R s h e in record { table = _; told = ap table_of t.page; holds = t.holds }
    by_count (suc n) e = let t = tables_stand sh R s h.allowed (omega (arith, e)) in record { table = t.table; told = ap table_of t.page; holds = t.holds }

pub table_told : (sh : Shape) (R : List Record) (t : TxnTable) → is_shape sh ≡ true → IsLawful sh R → ◌≡◌ {A = Option TxnTable} (Some t) (table_of (page_of sh R 1)) → HoldsTable R t
table_told sh R t s h e =
    let held = table_held sh R s h in
    let same : held.table ≡ t = (let z : ◌≡◌ {A = Option TxnTable} (Some t) (Some held.table) = e ∙ held.told in cc) in
    subst (HoldsTable R) same held.holds

pub table_there : (sh : Shape) (R : List Record) → is_shape sh ≡ true → IsLawful sh R → ◌≡◌ {A = Option TxnTable} None (table_of (page_of sh R 1)) → ⊥
table_there sh R s h e = let held = table_held sh R s h in (let z : ◌≡◌ {A = Option TxnTable} None (Some held.table) = e ∙ held.told in cc)
