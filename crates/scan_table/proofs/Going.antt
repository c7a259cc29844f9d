-- A block that is read slot by slot: of the store it was only looked at, and the rows so far are those of the slots so far.
use Rattle.std.proofs.Common.{◌≡◌, ℕ, suc, ◌+◌, ◌<◌, ◌≤◌, true, leb, List, [], ◌∷◌, ◌++◌, map, option_map, option_to_list, Option, Some, None, refl, sym, ◌∙◌, ap, subst, arith, inl, inr, leb-true, leb-false}
use Rattle.std.specs.Prelude.{Result, Ok, Err, Contains, take}
use Rattle.seg_words.proofs.Lemmas.{cases_Bool}
use Rattle.seg_words.specs.Types.{Shape, UndoAddr}
use Rattle.disk_model.specs.Crash.{Meaning}
use Rattle.redo_model.specs.Records.{Record}
use Rattle.redo_model.specs.Model.{found_below, high_mark, data_blocks, image_at, row_at, slot_count}
use Rattle.redo_laws.proofs.space.ApartLaw.{extents_are_apart}
use Rattle.redo_laws.proofs.space.Places.{contains_in, in_contains, in_take}
use Rattle.version_laws.specs.Types.{Found, chain_end}
use Rattle.version_read.specs.Walking.{IsWalk, StepsTo, txn_or_none}
use Rattle.store_core.specs.Store.{Held, IsTrue, has_page}
use Rattle.store_core.specs.Causes.{HasLooked}
use Rattle.store_core.specs.Undo.{IsWorking, Looks}
use Rattle.store_core.specs.declared.fault.StoreFault.{StoreFault}
use Rattle.store_core.proofs.Lookups.{looked_on, looked_ok, refused_after}
use Rattle.store_core.proofs.UndoLent.{all_looked, page_when}
use Rattle.history_text.specs.declared.outcome.RowOut.{RowOut}
use Rattle.scan_table.specs.declared.answer.ScanFault.{ScanFault}
use Rattle.scan_table.specs.declared.answer.ScanFault.TheVariants as faults
use Rattle.scan_table.specs.declared.reader.Reader.{Reader}
use Rattle.scan_table.specs.Reading.{AllEnd, BlockRefuses, IsRead, IsReading, SlotAdded, SlotRefuses, row_out, store_part}
use Rattle.scan_table.proofs.Showing.{reader_of}

-- the store after a call, for the same reader

pub reading_at : (a b : Shape) (R : List Record) (q : Reader) (o d : ℕ) → b ≡ a → IsReading a R q o d → IsReading b R q o d
reading_at a b R q o d e h = subst (λ (z : Shape). IsReading z R q o d) (sym e) h

pub reading_on : {D T : Type 0} (meaning : Meaning D) (a b : Held D) (r : Result T StoreFault) (R : List Record) (q : Reader) (o d : ℕ) → HasLooked {T = T} meaning a b r → IsReading a.shape R q o d → IsReading b.shape R q o d
reading_on meaning a b r R q o d l h = reading_at a.shape b.shape R q o d l.loan.shape h

pub still_unspent : {D T : Type 0} (meaning : Meaning D) (a b : Held D) (x : T) → HasLooked {T = T} meaning a b (Ok x) → b.fault ≡ None
still_unspent meaning a b x l = l.cause.kept l.cause.goes_on

pub working : {D : Type 0} (meaning : Meaning D) (s : Held D) (R : List Record) (q : Reader) (o d : ℕ) → s.fault ≡ None → IsTrue meaning R s → IsReading s.shape R q o d → IsWorking meaning q.shape R s
working meaning s R q o d n t h = record { list = t; shape_is = sym h.shape_is; unspent = n }

pub works : {D : Type 0} (meaning : Meaning D) (a b : Held D) (R : List Record) (q : Reader) (o d : ℕ) → HasLooked {T = Unit {0}} meaning a b (Ok tt) → IsTrue meaning R a → IsReading a.shape R q o d → IsWorking meaning q.shape R b
works meaning a b R q o d l t h = record { list = l.stays_true R t; shape_is = l.loan.shape ∙ sym h.shape_is; unspent = still_unspent meaning a b tt l }

-- a walk down from a slot

pub is_walk : (sh : Shape) (R : List Record) (q : Reader) (o b k : ℕ) (from : UndoAddr) → IsReading sh R q o b → StepsTo q.shape R b k q.at q.own from → IsWalk q.shape R b k q.at q.own q.shape.undo from
is_walk sh R q o b k from h s = record { reader = reader_of sh R q o b h; undo_blocks = refl; steps = s }

pub walked : {D T : Type 0} (meaning : Meaning D) (a b : Held D) (x : T) → a.fault ≡ None → Looks meaning a b → HasLooked {T = T} meaning a b (Ok x)
walked meaning a b x n l = looked_ok meaning a b tt x (all_looked meaning a b n l)

pub walk_refused : {D A T : Type 0} (meaning : Meaning D) (a b c : Held D) (f : StoreFault) → a.fault ≡ None → Looks meaning a b → HasLooked {T = A} meaning b c (Err f) → HasLooked {T = T} meaning a c (Err f)
walk_refused meaning a b c f n l h = refused_after meaning a b c tt f (all_looked meaning a b n l) h

-- a row block has a page

in_data : (b n : ℕ) (xs : List ℕ) → Contains (take n xs) b → Contains xs b
in_data b n xs c = contains_in xs b (in_take b n xs (in_contains (take n xs) b c.0 c.1 c.2))

pub data_has : (sh : Shape) (R : List Record) (q : Reader) (o b : ℕ) → IsReading sh R q o b → has_page sh b ≡ true
data_has sh R q o b h =
    let apart = (extents_are_apart q.shape R h.lawful.allowed).blocks in
    let has = in_data b (high_mark R o) (data_blocks q.shape R o) h.here.here in
    let from = apart.from o b h.there has in
    subst (λ (z : Shape). has_page z b ≡ true) h.shape_is (page_when q.shape b (omega (arith, from)) (apart.to o b h.there has))

-- slots of a block

pub record ReadUpTo (R : List Record) (b s t n : ℕ) (rows : List RowOut) : Type 0 where
  pub ends : AllEnd R b s t n
  pub rows_are : rows ≡ map row_out (found_below (λ k. row_at R b k s t) n)

pub record SlotsRead {D : Type 0} (meaning : Meaning D) (start now : Held D) (q : Reader) (b n : ℕ) (rows : List RowOut) : Type 0 where
  pub looked : HasLooked {T = Unit {0}} meaning start now (Ok tt)
  pub read : (R : List Record) (o : ℕ) → IsTrue meaning R start → IsReading start.shape R q o b → ReadUpTo R b q.at (txn_or_none q.own) n rows

none_yet : (R : List Record) (b s t : ℕ) → ReadUpTo R b s t 0 []
none_yet R b s t = record { ends = λ k l. absurd (omega (arith, l)); rows_are = refl }

pub none_read : {D : Type 0} (meaning : Meaning D) (start now : Held D) (q : Reader) (b : ℕ) (rows : List RowOut) → HasLooked {T = Unit {0}} meaning start now (Ok tt) → rows ≡ [] → SlotsRead meaning start now q b 0 rows
none_read meaning start now q b rows l e = record { looked = l; read = λ R o t h. subst (λ (xs : List RowOut). ReadUpTo R b q.at (txn_or_none q.own) 0 xs) (sym e) (none_yet R b q.at (txn_or_none q.own)) }

map_append : {A B : Type 0} (f : A → B) (xs ys : List A) → map f (xs ++ ys) ≡ map f xs ++ map f ys
map_append f [] ys = refl
map_append {A} {B} f (x ∷ xs) ys = ap (λ (zs : List B). f x ∷ zs) (map_append f xs ys)

pub append_none : {A : Type 0} (xs : List A) → xs ++ [] ≡ xs
append_none [] = refl
append_none {A} (x ∷ xs) = ap (λ (zs : List A). x ∷ zs) (append_none xs)

found_one : (f : ℕ → Option (ℕ × List ℕ)) (n : ℕ) (o : Option (ℕ × List ℕ)) → f n ≡ o → map row_out (found_below f (suc n)) ≡ map row_out (found_below f n) ++ option_to_list (option_map row_out o)
found_one f n None e = ap (λ (o : Option (ℕ × List ℕ)). map row_out (elim o as (λ _. List (ℕ × List ℕ)) [ None ↦ found_below f n | Some x ↦ found_below f n ++ x ∷ [] ])) e ∙ sym (append_none (map row_out (found_below f n)))
found_one f n (Some p) e = ap (λ (o : Option (ℕ × List ℕ)). map row_out (elim o as (λ _. List (ℕ × List ℕ)) [ None ↦ found_below f n | Some x ↦ found_below f n ++ x ∷ [] ])) e ∙ map_append row_out (found_below f n) (p ∷ [])

all_more : (R : List Record) (b s t n : ℕ) → AllEnd R b s t n → chain_end R b n s t ≡ Found (image_at R b n s t) → AllEnd R b s t (n + 1)
all_more R b s t n h e = λ k l. elim (cases_Bool (leb n k)) [
  | inr f ↦ h k (leb-false n k f)
  | inl y ↦ (let m = leb-true n k y in let same : n ≡ k = omega (arith, l, m) in subst (λ j. chain_end R b j s t ≡ Found (image_at R b j s t)) same e)
]

one_more : (R : List Record) (b s t n : ℕ) (old new : List RowOut) → ReadUpTo R b s t n old → SlotAdded R b n s t old new → ReadUpTo R b s t (n + 1) new
one_more R b s t n old new h a =
    let next : suc n ≡ n + 1 = omega arith in
    record {
      ends = all_more R b s t n h.ends a.ends;
      rows_are = a.rows_are
          ∙ (ap (λ (xs : List RowOut). xs ++ option_to_list (option_map row_out (row_at R b n s t))) h.rows_are
          ∙ (sym (found_one (λ k. row_at R b k s t) n (row_at R b n s t) refl) ∙ ap (λ m. map row_out (found_below (λ k. row_at R b k s t) m)) next));
    }

pub slots_next : {D : Type 0} (meaning : Meaning D) (start mid now : Held D) (q : Reader) (b n : ℕ) (old new : List RowOut) → SlotsRead meaning start mid q b n old → HasLooked {T = Unit {0}} meaning mid now (Ok tt)
    → ((R : List Record) (o : ℕ) → IsTrue meaning R mid → IsReading mid.shape R q o b → SlotAdded R b n q.at (txn_or_none q.own) old new) → SlotsRead meaning start now q b (n + 1) new
slots_next meaning start mid now q b n old new s l says = record {
  looked = looked_on meaning start mid now tt (Ok tt) s.looked l;
  read = λ R o t h. one_more R b q.at (txn_or_none q.own) n old new (s.read R o t h) (says R o (s.looked.stays_true R t) (reading_on meaning start mid (Ok tt) R q o b s.looked h));
}

-- all slots were read

pub all_slots : (R : List Record) (b s t n end : ℕ) (rows : List RowOut) → ReadUpTo R b s t n rows → end ≡ slot_count R b → end ≤ n → n ≤ end → IsRead R b s t rows
all_slots R b s t n end rows h e l m =
    let same : n ≡ slot_count R b = omega (arith, l, m, e) in
    record { ends = subst (AllEnd R b s t) same h.ends; rows_are = h.rows_are ∙ ap (λ j. map row_out (found_below (λ k. row_at R b k s t) j)) same }

-- or one that fails

pub slot_fails : (R : List Record) (q : Reader) (b n end : ℕ) (rows : List RowOut) (e : ScanFault) → ReadUpTo R b q.at (txn_or_none q.own) n rows → end ≡ slot_count R b → n < end → SlotRefuses R q b n e → BlockRefuses R b q.at (txn_or_none q.own) e
slot_fails R q b n end rows (faults.TooOld a) h c l r = record { slot = n; there = (omega (arith, l, c)); before = h.ends; ends = r.ends; means = r.means }
slot_fails R q b n end rows (faults.TooOldEntry u) h c l r = record { slot = n; there = (omega (arith, l, c)); before = h.ends; ends = r.ends; means = r.means }
slot_fails R q b n end rows (faults.Gone x m) h c l r = r
slot_fails R q b n end rows (faults.Store f) h c l r = r

-- answers of the store in those of a scan

pub part_on : {D A T : Type 0} (meaning : Meaning D) (a b c : Held D) (x : A) (r : Result T ScanFault) → HasLooked {T = A} meaning a b (Ok x) → HasLooked {T = Unit {0}} meaning b c (store_part r) → HasLooked {T = Unit {0}} meaning a c (store_part r)
part_on meaning a b c x r p q = looked_on meaning a b c x (store_part r) p q
