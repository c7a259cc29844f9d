-- One event of a scan.
use Rattle.std.proofs.Common.{◌≡◌, ℕ, zero, suc, ◌+◌, ◌≤◌, ◌<◌, true, List, [], ◌∷◌, ◌++◌, length, take, drop, map, option_map, Option, Some, None, sym, ◌∙◌, ap, subst, arith}
use Rattle.std.specs.Prelude.{Result, Ok, Err, slice_get}
use Rattle.disk_model.specs.Crash.{Meaning}
use Rattle.seg_words.specs.Types.{Shape, is_shape}
use Rattle.redo_model.specs.Records.{Record}
use Rattle.redo_model.specs.Model.{commit_count, rows_at, AreAllowed, IsLawful, IsRowBlock, IsTable, slot_count}
use Rattle.redo_laws.specs.Scan.{scan_list, scanned}
use Rattle.redo_laws.specs.Stays.{not_later}
use Rattle.version_laws.specs.Types.{HoldsTable}
use Rattle.version_read.specs.Walking.{IsOwn, txn_or_none}
use Rattle.history_text.specs.declared.outcome.RowOut.{RowOut}
use Rattle.history_model.specs.Released.{first_gone}
use Rattle.history_laws.specs.Scans.{Sorts}
use Rattle.history_laws.proofs.Marks.{drop_fewer, fewer_gone, none_since}
use Rattle.store_core.specs.Store.{Held, IsTrue}
use Rattle.store_core.specs.Causes.{HasLooked}
use Rattle.store_core.specs.declared.fault.StoreFault.{StoreFault}
use Rattle.scan_table.specs.declared.answer.ScanFault.{ScanFault}
use Rattle.scan_table.specs.declared.answer.ScanFault.TheVariants as faults
use Rattle.scan_table.specs.declared.answer.ScanStep.{ScanStep}
use Rattle.scan_table.specs.declared.answer.ScanStep.TheVariants as steps
use Rattle.scan_table.specs.declared.reader.Reader.{Reader}
use Rattle.scan_table.specs.declared.scan.Gone.{Gone}
use Rattle.scan_table.specs.declared.scan.OpenScan.{OpenScan}
use Rattle.scan_table.specs.Reading.{AllEnd, BlockRefuses, IsOfBlock, IsReading, row_out}
use Rattle.scan_table.specs.Standing.{Advances, HoldsScan, IsBlockRead, IsOpened, IsReadOn, IsScanning, IsSettled, LeavesOff, ReadsOn, Refuses, gone_of, unread, with_rows}
use Rattle.scan_table.proofs.Staying.{NextBlock, all_gathered, gathered_next, next_block, none_marked}

-- as whom a block is read

pub reads_as : {D T : Type 0} (meaning : Meaning D) (a b : Held D) (x : T) (R : List Record) (o d : ℕ) (s : OpenScan) (q : Reader) → HasLooked {T = T} meaning a b (Ok x) → IsTrue meaning R a → IsScanning a.shape R o s d → HoldsTable R q.table → q.shape ≡ s.shape → q.own ≡ s.own → IsReading b.shape R q o d
reads_as meaning a b x R o d s q l t h k given own =
    let same : q.shape ≡ a.shape = given ∙ h.shape_is in
    record {
      shape_is = same ∙ sym l.loan.shape;
      within = subst (λ (z : Shape). is_shape z ≡ true) (sym same) t.list.within;
      lawful = subst (λ (z : Shape). IsLawful z R) (sym same) t.lawful;
      own_is = subst (IsOwn R) (sym own) h.own_is;
      txns = k;
      there = h.there;
      here = subst (λ (z : Shape). IsRowBlock z R o d) (sym given) h.here;
    }

pub on_scan : {D T : Type 0} (meaning : Meaning D) (a b : Held D) (r : Result T StoreFault) (R : List Record) (o d : ℕ) (s : OpenScan) → HasLooked {T = T} meaning a b r → IsScanning a.shape R o s d → IsScanning b.shape R o s d
on_scan meaning a b r R o d s l h = record { shape_is = h.shape_is ∙ sym l.loan.shape; own_is = h.own_is; there = h.there; here = h.here }

-- it is marked

pub marked_gone : (sh : Shape) (B R : List Record) (s : OpenScan) (g : Gone) → HoldsScan sh B R s → s.mark ≡ Some g → Refuses B R s (faults.Gone g.extent g.lowering)
marked_gone sh B R s g h m = subst (λ (z : Shape). first_gone z s.obj (unread s) (length B) R ≡ Some (record { extent = g.extent; lowering = g.lowering })) (sym h.shape_is) (sym h.marked ∙ ap (option_map gone_of) m)

-- no block is left

none_past : (xs : List ℕ) (n : ℕ) → n < length xs → ◌≡◌ {A = Option ℕ} None (slice_get xs n) → ⊥
none_past [] n l e = absurd (omega (arith, l))
none_past (x ∷ xs) zero l e = absurd (let z : ◌≡◌ {A = Option ℕ} None (Some x) = e in cc)
none_past (x ∷ xs) (suc n) l e = none_past xs n (omega (arith, l)) e

pub none_left : (sh : Shape) (B R : List Record) (s : OpenScan) → HoldsScan sh B R s → ◌≡◌ {A = Option ℕ} None (slice_get s.blocks s.read) → ⊥
none_left sh B R s h e = none_past s.blocks s.read h.within e

pub some_within : (xs : List ℕ) (n b : ℕ) → ◌≡◌ {A = Option ℕ} (Some b) (slice_get xs n) → n < length xs
some_within [] n b e = absurd (let z : ◌≡◌ {A = Option ℕ} (Some b) None = e in cc)
some_within (x ∷ xs) zero b e = omega arith
some_within (x ∷ xs) (suc n) b e = (let k = some_within xs n b e in omega (arith, k))

-- the next block is refused

pub block_refused : (sh : Shape) (B R : List Record) (s : OpenScan) (b : ℕ) (e : ScanFault) → HoldsScan sh B R s → slice_get s.blocks s.read ≡ Some b → BlockRefuses R b s.at (txn_or_none s.own) e → Refuses B R s e
block_refused sh B R s b (faults.TooOld a) h n r = record { block = b; next = n; first = subst (λ c. BlockRefuses R b c (txn_or_none s.own) (faults.TooOld a)) h.number r }
block_refused sh B R s b (faults.TooOldEntry u) h n r = record { block = b; next = n; first = subst (λ c. BlockRefuses R b c (txn_or_none s.own) (faults.TooOldEntry u)) h.number r }
block_refused sh B R s b (faults.Gone x m) h n r = absurd r
block_refused sh B R s b (faults.Store f) h n r = r

pub reads_on_err : (R : List Record) (s u : OpenScan) (b : ℕ) (e : ScanFault) → ReadsOn R s u b (Err e) → BlockRefuses R b s.at (txn_or_none s.own) e
reads_on_err R s u b e h = h

pub block_settled : (s u : OpenScan) (e : ScanFault) → s.mark ≡ None → u ≡ s → IsOfBlock e → IsSettled s u (Err e)
block_settled s u (faults.TooOld a) m k o = (m, k)
block_settled s u (faults.TooOldEntry t) m k o = (m, k)
block_settled s u (faults.Gone x n) m k o = absurd o
block_settled s u (faults.Store f) m k o = (m, k)

-- it was read

rows_then : (sh : Shape) (B R : List Record) (s u : OpenScan) (b : ℕ) → HoldsScan sh B R s → NextBlock sh B R s b → slice_get s.blocks s.read ≡ Some b → (r : IsReadOn R s u b)
    → s.rows ++ r.rows ≡ map row_out (scanned (λ b. B) (take (s.read + 1) s.blocks) (commit_count B) (txn_or_none s.own))
rows_then sh B R s u b h k n r =
    let t = txn_or_none s.own in
    let now : r.rows ≡ map row_out (rows_at B b (commit_count B) t) = r.read.rows_are ∙ ap (map row_out) (ap (λ c. rows_at R b c t) h.number ∙ k.rows_same) in
    ap (λ (xs : List RowOut). s.rows ++ xs) now ∙ gathered_next B s.blocks s.read b (commit_count B) t s.rows n h.gathered

unmarked_then : (sh : Shape) (B R : List Record) (s : OpenScan) → s.mark ≡ None → HoldsScan sh B R s → first_gone sh s.obj (drop (s.read + 1) s.blocks) (length B) R ≡ None
unmarked_then sh B R s m h =
    let after : suc s.read ≡ s.read + 1 = omega arith in
    subst (λ n. first_gone sh s.obj (drop n s.blocks) (length B) R ≡ None) after
    (fewer_gone sh s.obj (length B) (drop (suc s.read) s.blocks) (drop s.read s.blocks) R (drop_fewer sh s.read s.blocks) (none_marked sh B R s m h))

goes_on : (sh : Shape) (B R : List Record) (s : OpenScan) (rows : List RowOut) → s.mark ≡ None → HoldsScan sh B R s → s.rows ++ rows ≡ map row_out (scanned (λ b. B) (take (s.read + 1) s.blocks) (commit_count B) (txn_or_none s.own)) → s.read + 1 < length s.blocks → HoldsScan sh B R (with_rows s rows)
goes_on sh B R s rows m h e l = record {
  shape_is = h.shape_is;
  table = h.table;
  number = h.number;
  own_then = h.own_then;
  own_now = h.own_now;
  quiet = h.quiet;
  list = h.list;
  within = l;
  marked = ap (option_map gone_of) m ∙ sym (unmarked_then sh B R s m h);
  gathered = e;
}

block_is : (sh : Shape) (R B : List Record) (s u : OpenScan) (b : ℕ) → HoldsScan sh B R s → slice_get s.blocks s.read ≡ Some b → IsReadOn R s u b → IsBlockRead B R s
block_is sh R B s u b h n r = record { block = b; next = n; ends = subst (λ c. AllEnd R b c (txn_or_none s.own) (slot_count R b)) h.number r.read.ends }

pub block_read : (sh : Shape) (B R : List Record) (s u v : OpenScan) (b : ℕ) (x : ScanStep) → AreAllowed sh R → HoldsScan sh B R s → s.mark ≡ None → slice_get s.blocks s.read ≡ Some b → IsReadOn R s u b → LeavesOff u v x → Advances B R s v (Ok x)
block_read sh B R s u v b steps.More a h m n r o =
    let k = next_block sh B R s b a m n h in
    let same : v ≡ with_rows s r.rows = o.0 ∙ r.new in
    let l : s.read + 1 < length s.blocks = subst (λ (z : OpenScan). z.read < length z.blocks) r.new o.1 in
    record {
      block_is = block_is sh R B s u b h n r;
      obj_is = ap (λ (z : OpenScan). z.obj) same;
      own_is = ap (λ (z : OpenScan). z.own) same;
      one_read = ap (λ (z : OpenScan). z.read) same ∙ (let e : s.read + 1 ≡ suc s.read = omega arith in e);
      stands = subst (λ (z : Shape). HoldsScan z B R v) (sym h.shape_is) (subst (λ (z : OpenScan). HoldsScan sh B R z) (sym same) (goes_on sh B R s r.rows m h (rows_then sh B R s u b h k n r) l));
    }
block_read sh B R s u v b (steps.Done d) a h m n r o =
    let k = next_block sh B R s b a m n h in
    let l : length s.blocks ≤ s.read + 1 = subst (λ (z : OpenScan). length z.blocks ≤ z.read) r.new o.1 in
    let w = h.within in
    record {
      block_is = block_is sh R B s u b h n r;
      last = omega (arith, l, w);
      at_is = o.0 ∙ (ap (λ (z : OpenScan). z.at) r.new ∙ h.number);
      rows_are = all_gathered sh B s.obj s.own s.blocks (s.read + 1) (s.rows ++ r.rows) d.rows k.began h.table h.own_then h.list l (rows_then sh B R s u b h k n r) (subst (λ (z : OpenScan). Sorts z.rows d.rows) r.new o.2);
    }

-- as it begins

pub opened_stands : (sh : Shape) (R : List Record) (o : ℕ) (own : Option ℕ) (s : OpenScan) → IsOpened sh R o own s → IsTable R o → IsOwn R own → s.read < length s.blocks → HoldsScan sh R R s
opened_stands sh R o own s h i w l =
    let owned : IsOwn R s.own = subst (IsOwn R) (sym h.own_is) w in
    record {
      shape_is = h.shape_is;
      table = subst (IsTable R) (sym h.obj_is) i;
      number = h.number;
      own_then = owned;
      own_now = owned;
      quiet = not_later;
      list = h.list ∙ ap (scan_list sh R) (sym h.obj_is);
      within = l;
      marked = ap (option_map gone_of) h.no_mark ∙ sym (none_since sh s.obj (unread s) R);
      gathered = h.no_rows ∙ ap (λ n. map row_out (scanned (λ b. R) (take n s.blocks) (commit_count R) (txn_or_none s.own))) (sym h.none_read);
    }
