-- What records of others leave of an open scan, and what its next block is now.
use Rattle.std.proofs.Common.{◌≡◌, ℕ, zero, suc, ◌+◌, ◌≤◌, true, cond, eqb, eq-eqb, List, [], ◌∷◌, ◌++◌, length, take, drop, map, option_map, Option, Some, None, refl, sym, ◌∙◌, ap, ap₂, subst, arith, inl, inr, le_refl, append_assoc, true, false}
use Rattle.std.specs.Prelude.{slice_get, option_to_list}
use Rattle.seg_words.proofs.Lemmas.{or_left, or_right}
use Rattle.seg_words.specs.Types.{Shape}
use Rattle.redo_model.specs.Records.{Record, Lower, LowerRecord}
use Rattle.redo_model.specs.Lists.{same, more}
use Rattle.redo_model.specs.Model.{Effect, Extends, commit_count, effect_of, is_formatted, rows_at, under_high, view, view_rows, IsTable, IsRowBlock, AreAllowed}
use Rattle.redo_laws.specs.Among.{is_in}
use Rattle.redo_laws.specs.Scan.{scan_list, scanned, numbered, IsReadAfter}
use Rattle.redo_laws.specs.Stays.{Later, IsNotOf, not_later, one_later}
use Rattle.redo_laws.specs.Views.{IsOpen}
use Rattle.redo_laws.proofs.space.Places.{contains_in}
use Rattle.redo_laws.proofs.space.Apart.{in_filter}
use Rattle.redo_laws.proofs.spread.StaysLaw.{later_allowed}
use Rattle.redo_laws.proofs.spread.ScanLaw.{scans_are_whole}
use Rattle.space_laws.proofs.TablesLaw.{tables_stay}
use Rattle.scan_laws.specs.Staying.{is_released_since}
use Rattle.scan_laws.proofs.RowsStayLaw.{rows_of_blocks_stay}
use Rattle.scan_laws.proofs.StayingLaw.{row_blocks_stay_since, unreleased_are_read}
use Rattle.version_read.specs.Walking.{IsOwn, txn_or_none}
use Rattle.history_text.specs.declared.outcome.RowOut.{RowOut}
use Rattle.history_model.specs.Released.{first_gone, gone_by, gone_with, least_having, or_else}
use Rattle.history_laws.specs.Scans.{IsSorted, Sorts}
use Rattle.history_laws.proofs.Marks.{first_more, none_released, or_none}
use Rattle.scan_table.specs.declared.scan.Gone.{Gone}
use Rattle.scan_table.specs.declared.scan.OpenScan.{OpenScan}
use Rattle.scan_table.specs.Reading.{row_out}
use Rattle.scan_table.specs.Standing.{HoldsScan, IsScanning, MarksAreLowerings, ScansStay, gone_of, mark_with, marked_after, or_mark, unread}

-- marks

pub mark_is : (m g : Option Gone) → option_map gone_of (or_mark m g) ≡ or_else (option_map gone_of m) (option_map gone_of g)
mark_is None g = refl
mark_is (Some x) g = refl

with_is : (n : ℕ) (o : Option ℕ) → option_map gone_of (mark_with n o) ≡ gone_with n o
with_is n None = refl
with_is n (Some x) = refl

pub lowered_is : (sh : Shape) (l : LowerRecord) (o : ℕ) (bs : List ℕ) → option_map gone_of (cond (eqb l.obj o) (mark_with l.lowering (least_having sh bs l.released)) None) ≡ gone_by sh (Lower l) o bs
lowered_is sh l o bs = elim (eqb l.obj o) as (λ v. option_map gone_of (cond v (mark_with l.lowering (least_having sh bs l.released)) None) ≡ cond v (gone_with l.lowering (least_having sh bs l.released)) None) [
  | true ↦ with_is l.lowering (least_having sh bs l.released)
  | false ↦ refl
]

longer : (P : Effect → Type 0) (Q R : List Record) → Later P Q R → length Q ≤ length R
longer P Q R not_later = omega arith
longer P Q R (one_later {R = S} r h f) = (let k = longer P Q S h in omega (arith, k))

extends_by : (P : Effect → Type 0) (Q R : List Record) → Later P Q R → Extends Q R
extends_by P Q R not_later = same
extends_by P Q R (one_later {R = S} r h f) = more r (extends_by P Q S h)

abbrev Marked : Shape → List Record → List Record → OpenScan → Option Gone → Type 0
Marked sh B R s m = option_map gone_of m ≡ first_gone sh s.obj (unread s) (length B) R

-- no mark more
unmarked : (sh : Shape) (B R : List Record) (r : Record) (s : OpenScan) → length B ≤ length R → gone_by sh r s.obj (unread s) ≡ None → Marked sh B R s s.mark → Marked sh B (r ∷ R) s s.mark
unmarked sh B R r s l e m =
    m ∙ sym (first_more sh s.obj (unread s) (length B) R r l ∙ (ap (or_else (first_gone sh s.obj (unread s) (length B) R)) e ∙ or_none (first_gone sh s.obj (unread s) (length B) R)))

lowered : (sh : Shape) (B R : List Record) (l : LowerRecord) (s : OpenScan) → s.shape ≡ sh → length B ≤ length R → Marked sh B R s s.mark → Marked sh B (Lower l ∷ R) s (marked_after (Lower l) s).mark
lowered sh B R l s given far m =
    mark_is s.mark _
    ∙ (ap₂ or_else m (ap (λ (z : Shape). option_map gone_of (cond (eqb l.obj s.obj) (mark_with l.lowering (least_having z (unread s) l.released)) None)) given ∙ lowered_is sh l s.obj (unread s))
    ∙ sym (first_more sh s.obj (unread s) (length B) R (Lower l) far))

others : (sh : Shape) (B R : List Record) (r : Record) (s : OpenScan) → IsNotOf (effect_of r) (txn_or_none s.own) → IsOwn (r ∷ R) s.own → gone_by sh r s.obj (unread s) ≡ None → HoldsScan sh B R s → HoldsScan sh B (r ∷ R) s
others sh B R r s quiet own e h = record {
  shape_is = h.shape_is;
  table = h.table;
  number = h.number;
  own_then = h.own_then;
  own_now = own;
  quiet = one_later r h.quiet quiet;
  list = h.list;
  within = h.within;
  marked = unmarked sh B R r s (longer _ B R h.quiet) e h.marked;
  gathered = h.gathered;
}

pub scans_stay : ScansStay
scans_stay sh B R (Lower l) s quiet own h = record {
  shape_is = h.shape_is;
  table = h.table;
  number = h.number;
  own_then = h.own_then;
  own_now = own;
  quiet = one_later (Lower l) h.quiet quiet;
  list = h.list;
  within = h.within;
  marked = lowered sh B R l s h.shape_is (longer _ B R h.quiet) h.marked;
  gathered = h.gathered;
}
scans_stay sh B R r s quiet own h = others sh B R r s quiet own refl h

pub marks_are_lowerings : MarksAreLowerings
marks_are_lowerings x l s e n = ap₂ (λ (xs : List ℕ) k. record s { mark = or_mark s.mark (cond (eqb l.obj s.obj) (mark_with k (least_having s.shape (unread s) xs)) None) }) e n

-- the next block

next_in : (xs : List ℕ) (n b : ℕ) → slice_get xs n ≡ Some b → is_in b (drop n xs) ≡ true
next_in [] n b e = absurd (let z : ◌≡◌ {A = Option ℕ} None (Some b) = e in cc)
next_in (x ∷ xs) zero b e = or_left (eqb x b) _ (eq-eqb x b (let z : ◌≡◌ {A = Option ℕ} (Some x) (Some b) = e in let y : x ≡ b = cc in y))
next_in (x ∷ xs) (suc n) b e = next_in xs n b e

in_drop : (b n : ℕ) (xs : List ℕ) → is_in b (drop n xs) ≡ true → is_in b xs ≡ true
in_drop b zero xs h = h
in_drop b (suc n) [] h = h
in_drop b (suc n) (y ∷ ys) h = or_right (eqb y b) _ (in_drop b n ys h)

listed : (sh : Shape) (B : List Record) (o b : ℕ) → is_in b (scan_list sh B o) ≡ true → IsRowBlock sh B o b
listed sh B o b h = let q = in_filter (λ c. is_formatted sh B c) b (under_high sh B o) h in record { here = contains_in (under_high sh B o) b q.0; formatted = q.1 }

pub record NextBlock (sh : Shape) (B R : List Record) (s : OpenScan) (b : ℕ) : Type 0 where
  pub began : AreAllowed sh B
  pub scanning : IsScanning sh R s.obj s b
  pub rows_same : rows_at R b (commit_count B) (txn_or_none s.own) ≡ rows_at B b (commit_count B) (txn_or_none s.own)

pub none_marked : (sh : Shape) (B R : List Record) (s : OpenScan) → s.mark ≡ None → HoldsScan sh B R s → first_gone sh s.obj (unread s) (length B) R ≡ None
none_marked sh B R s m h = sym h.marked ∙ ap (option_map gone_of) m

pub next_block : (sh : Shape) (B R : List Record) (s : OpenScan) (b : ℕ) → AreAllowed sh R → s.mark ≡ None → slice_get s.blocks s.read ≡ Some b → HoldsScan sh B R s → NextBlock sh B R s b
next_block sh B R s b a m n h =
    let t = txn_or_none s.own in
    let later = extends_by _ B R h.quiet in
    let left : is_in b (unread s) ≡ true = next_in s.blocks s.read b n in
    let row = listed sh B s.obj b (subst (λ (xs : List ℕ). is_in b xs ≡ true) h.list (in_drop b s.read s.blocks left)) in
    let kept : is_released_since sh (length B) R s.obj b ≡ false = none_released sh s.obj (length B) b (unread s) R (none_marked sh B R s m h) left in
    let after : IsReadAfter sh B R t b = unreleased_are_read sh B R s.obj t b a later h.table row kept h.quiet in
    record {
      began = later_allowed sh _ B R h.quiet a;
      scanning = record {
        shape_is = h.shape_is;
        own_is = h.own_now;
        there = (tables_stay sh B R s.obj a later h.table).there;
        here = subst (λ (z : Shape). IsRowBlock z R s.obj b) (sym h.shape_is) (row_blocks_stay_since sh B R s.obj b a later h.table row kept).row_block;
      };
      rows_same = rows_of_blocks_stay sh B R b (commit_count B) t a (le_refl (commit_count B)) after.later;
    }

-- rows gathered

take_one : (xs : List ℕ) (n b : ℕ) → slice_get xs n ≡ Some b → take (suc n) xs ≡ take n xs ++ b ∷ []
take_one [] n b e = absurd (let z : ◌≡◌ {A = Option ℕ} None (Some b) = e in cc)
take_one (x ∷ xs) zero b e = ap (λ (z : ℕ). z ∷ []) (let z : ◌≡◌ {A = Option ℕ} (Some x) (Some b) = e in let y : x ≡ b = cc in y)
take_one (x ∷ xs) (suc n) b e = ap (λ (ys : List ℕ). x ∷ ys) (take_one xs n b e)

take_whole : (xs : List ℕ) (n : ℕ) → length xs ≤ n → take n xs ≡ xs
take_whole [] zero l = refl
take_whole [] (suc n) l = refl
take_whole (x ∷ xs) zero l = absurd (omega (arith, l))
take_whole (x ∷ xs) (suc n) l = ap (λ (ys : List ℕ). x ∷ ys) (take_whole xs n (omega (arith, l)))

scanned_append : (read : ℕ → List Record) (xs ys : List ℕ) (s t : ℕ) → scanned read (xs ++ ys) s t ≡ scanned read xs s t ++ scanned read ys s t
scanned_append read [] ys s t = refl
scanned_append read (x ∷ xs) ys s t = ap (λ (zs : List (ℕ × List ℕ)). rows_at (read x) x s t ++ zs) (scanned_append read xs ys s t) ∙ sym (append_assoc (rows_at (read x) x s t) (scanned read xs s t) (scanned read ys s t))

rows_append : (xs ys : List (ℕ × List ℕ)) → map row_out (xs ++ ys) ≡ map row_out xs ++ map row_out ys
rows_append [] ys = refl
rows_append (x ∷ xs) ys = ap (λ (zs : List RowOut). row_out x ∷ zs) (rows_append xs ys)

append_nothing : (xs : List (ℕ × List ℕ)) → xs ++ [] ≡ xs
append_nothing [] = refl
append_nothing (x ∷ xs) = ap (λ (zs : List (ℕ × List ℕ)). x ∷ zs) (append_nothing xs)

pub gathered_next : (B : List Record) (blocks : List ℕ) (n b c t : ℕ) (old : List RowOut) → slice_get blocks n ≡ Some b → old ≡ map row_out (scanned (λ b. B) (take n blocks) c t) → old ++ map row_out (rows_at B b c t) ≡ map row_out (scanned (λ b. B) (take (n + 1) blocks) c t)
gathered_next B blocks n b c t old at e =
    let read = λ (b : ℕ). B in
    let after : suc n ≡ n + 1 = omega arith in
    let all : scanned read (take (suc n) blocks) c t ≡ scanned read (take n blocks) c t ++ rows_at B b c t
    = ap (λ (z : List ℕ). scanned read z c t) (take_one blocks n b at) ∙ (scanned_append read (take n blocks) (b ∷ []) c t ∙ ap (λ (zs : List (ℕ × List ℕ)). scanned read (take n blocks) c t ++ zs) (append_nothing (rows_at B b c t))) in
    ap (λ (xs : List RowOut). xs ++ map row_out (rows_at B b c t)) e ∙ (sym (rows_append (scanned read (take n blocks) c t) (rows_at B b c t)) ∙ (ap (map row_out) (sym all) ∙ ap (λ m. map row_out (scanned read (take m blocks) c t)) after))

-- all blocks were read: in order the rows are those of the view

few : (o : Option (List ℕ)) (xs : List (List ℕ)) → xs ≡ option_to_list o → length xs ≤ 1
few None xs e = subst (λ (z : List (List ℕ)). length z ≤ 1) (sym e) (omega arith)
few (Some x) xs e = subst (λ (z : List (List ℕ)). length z ≤ 1) (sym e) (omega arith)

is_open : (R : List Record) (own : Option ℕ) → IsOwn R own → IsOpen R (txn_or_none own)
is_open R None h = inl refl
is_open R (Some t) h = inr h

pub all_gathered : (sh : Shape) (B : List Record) (o : ℕ) (own : Option ℕ) (blocks : List ℕ) (n : ℕ) (rows sorted : List RowOut) → AreAllowed sh B → IsTable B o → IsOwn B own → blocks ≡ scan_list sh B o → length blocks ≤ n
    → rows ≡ map row_out (scanned (λ b. B) (take n blocks) (commit_count B) (txn_or_none own)) → Sorts rows sorted → sorted ≡ map row_out (view_rows B o (commit_count B) (txn_or_none own))
all_gathered sh B o own blocks n rows sorted a i w list l e sorts =
    let t = txn_or_none own in
    let found = scanned (λ b. B) (scan_list sh B o) (commit_count B) t in
    let all : rows ≡ map row_out found = e ∙ ap (λ (z : List ℕ). map row_out (scanned (λ b. B) z (commit_count B) t)) (take_whole blocks n l ∙ list) in
    let whole = scans_are_whole sh B o t (λ b. B) a i (is_open B own w) (λ b x. record { allowed = a; later = not_later }) in
    let s : IsSorted found sorted = sorts found all (λ n. few (view B o (commit_count B) t n) (numbered n found) (whole.each n)) in
    s.same_rows ∙ ap (map row_out) (whole.in_order s.rows s.in_order s.same)
