-- What an open scan gathers, and what it has at its end.
use Rattle.std.proofs.Common.{◌≡◌, ℕ, zero, suc, ◌-◌, ◌≤◌, ◌<◌, true, false, cond, eqb, eq-eqb, List, [], ◌∷◌, ◌++◌, Option, Some, None, refl, sym, ◌∙◌, ap, ap₂, subst, arith, le_refl, length, take, drop, map, get_or, append_assoc}
use Rattle.std.specs.Prelude.{option_to_list, slice_get}
use Rattle.std.proofs.lemmas.Option.{slice_get-get_or}
use Rattle.seg_words.proofs.Lemmas.{or_left, or_right}
use Rattle.seg_words.specs.Types.{Shape}
use Rattle.redo_model.specs.Records.{Record, Table}
use Rattle.redo_model.specs.Lists.{same, more}
use Rattle.redo_model.specs.Model.{Effect, Extends, commit_count, view, view_rows, rows_at, IsTable, table_count, table_named, is_byte_list, IsRowBlock, is_formatted, under_high, AreAllowed}
use Rattle.redo_laws.specs.Among.{is_in}
use Rattle.redo_laws.specs.Scan.{scan_list, scanned, numbered, IsReadAfter}
use Rattle.redo_laws.specs.Stays.{Later, IsNotOf, not_later, one_later}
use Rattle.redo_laws.proofs.space.Places.{contains_in}
use Rattle.redo_laws.proofs.space.Apart.{in_filter}
use Rattle.redo_laws.proofs.spread.StaysLaw.{later_allowed}
use Rattle.redo_laws.proofs.spread.ScanLaw.{scans_are_whole}
use Rattle.session_laws.specs.Sessions.{own_of, txn_or_zero, own_number, own_rows, own_begins}
use Rattle.session_laws.proofs.OwnersLaw.{sessions_own_transactions}
use Rattle.scan_laws.proofs.RowsStayLaw.{rows_of_blocks_stay}
use Rattle.scan_laws.proofs.StayingLaw.{unreleased_are_read}
use Rattle.history_text.specs.declared.outcome.RowOut.{RowOut}
use Rattle.history_model.specs.Spans.{Span}
use Rattle.history_model.specs.Released.{first_gone}
use Rattle.history_model.specs.TableMeans.{row_out, last_of}
use Rattle.history_laws.specs.Working.{OpenScan, ScanStands}
use Rattle.history_laws.specs.Scans.{ScansOpen, EmptyScansMean, Reads, ScansRead, IsSorted, Sorts, ScansMean, MarksMean}
use Rattle.history_laws.proofs.Marks.{none_since, none_released, fewer_gone, drop_fewer}

-- lists

take_one : (xs : List ℕ) (n b : ℕ) → slice_get xs n ≡ Some b → take (suc n) xs ≡ take n xs ++ b ∷ []
take_one [] n b e = absurd (let z : ◌≡◌ {A = Option ℕ} None (Some b) = e in cc)
take_one (x ∷ xs) zero b e = ap (λ (z : ℕ). z ∷ []) (let z : ◌≡◌ {A = Option ℕ} (Some x) (Some b) = e in let y : x ≡ b = cc in y)
take_one (x ∷ xs) (suc n) b e = ap (λ (ys : List ℕ). x ∷ ys) (take_one xs n b e)

take_whole : (xs : List ℕ) → take (length xs) xs ≡ xs
take_whole [] = refl
take_whole (x ∷ xs) = ap (λ (ys : List ℕ). x ∷ ys) (take_whole xs)

next_in : (xs : List ℕ) (n b : ℕ) → slice_get xs n ≡ Some b → is_in b (drop n xs) ≡ true
next_in [] n b e = absurd (let z : ◌≡◌ {A = Option ℕ} None (Some b) = e in cc)
next_in (x ∷ xs) zero b e = or_left (eqb x b) _ (eq-eqb x b (let z : ◌≡◌ {A = Option ℕ} (Some x) (Some b) = e in let y : x ≡ b = cc in y))
next_in (x ∷ xs) (suc n) b e = next_in xs n b e

in_drop : (b n : ℕ) (xs : List ℕ) → is_in b (drop n xs) ≡ true → is_in b xs ≡ true
in_drop b zero xs h = h
in_drop b (suc n) [] h = h
in_drop b (suc n) (y ∷ ys) h = or_right (eqb y b) _ (in_drop b n ys h)

scanned_append : (read : ℕ → List Record) (xs ys : List ℕ) (s t : ℕ) → scanned read (xs ++ ys) s t ≡ scanned read xs s t ++ scanned read ys s t
scanned_append read [] ys s t = refl
scanned_append read (x ∷ xs) ys s t = ap (λ (zs : List (ℕ × List ℕ)). rows_at (read x) x s t ++ zs) (scanned_append read xs ys s t) ∙ sym (append_assoc (rows_at (read x) x s t) (scanned read xs s t) (scanned read ys s t))

rows_append : (xs ys : List (ℕ × List ℕ)) → map row_out (xs ++ ys) ≡ map row_out xs ++ map row_out ys
rows_append [] ys = refl
rows_append (x ∷ xs) ys = ap (λ (zs : List RowOut). row_out x ∷ zs) (rows_append xs ys)

append_none : (xs : List (ℕ × List ℕ)) → xs ++ [] ≡ xs
append_none [] = refl
append_none (x ∷ xs) = ap (λ (zs : List (ℕ × List ℕ)). x ∷ zs) (append_none xs)

extends_by : (P : Effect → Type 0) (Q R : List Record) → Later P Q R → Extends Q R
extends_by P Q R not_later = same
extends_by P Q R (one_later {R = S} r h f) = more r (extends_by P Q S h)

-- a name is of a table that is there
named_within : (sh : Shape) (R : List Record) (name : List ℕ) (o : ℕ) → AreAllowed sh R → table_named R name ≡ Some o → (1 ≤ o) × (o ≤ table_count R)
named_within sh [] name o h e = absurd (let x : ◌≡◌ {A = Option ℕ} None (Some o) = e in cc)
named_within sh (Table t ∷ R) name o h e =
    (elim (is_byte_list t.name name) as (λ v. cond v (Some t.obj) (table_named R name) ≡ Some o → (1 ≤ o) × (o ≤ suc (table_count R))) [
      | true ↦ λ f. let is : t.obj ≡ o = cc in let n : t.obj ≡ suc (table_count R) = h.1.kind.number in (omega (arith, is, n), omega (arith, is, n))
      | false ↦ λ f. let q = named_within sh R name o h.0 f in (q.0, omega (arith, q.1))
    ]) e
named_within sh (_ ∷ R) name o h e = named_within sh R name o h.0 e

pub named_table : (sh : Shape) (R : List Record) (name : List ℕ) (o : ℕ) → AreAllowed sh R → table_named R name ≡ Some o → IsTable R o
named_table sh R name o h e = let q = named_within sh R name o h e in record { least = q.0; most = q.1 }

-- a block of the list is a row block
pub listed : (sh : Shape) (B : List Record) (o b : ℕ) → is_in b (scan_list sh B o) ≡ true → IsRowBlock sh B o b
listed sh B o b h = let q = in_filter (λ c. is_formatted sh B c) b (under_high sh B o) h in record { here = contains_in (under_high sh B o) b q.0; formatted = q.1 }

-- the records as a scan began were allowed too
began_allowed : (sh : Shape) (x : Span) (name : List ℕ) (s : OpenScan) → AreAllowed sh x.ended → ScanStands sh x name s → AreAllowed sh x.begun
began_allowed sh x name s a h = later_allowed sh _ x.begun x.ended h.quiet a

-- an unread block of a scan that isn't marked gives what it gave as the scan began
block_stays : (sh : Shape) (x : Span) (name : List ℕ) (s : OpenScan) (b : ℕ) → AreAllowed sh x.ended → s.mark ≡ None → ScanStands sh x name s → slice_get s.blocks s.read ≡ Some b
    → rows_at x.ended b (commit_count x.begun) (own_number x.begun x.session) ≡ rows_at x.begun b (commit_count x.begun) (own_number x.begun x.session)
block_stays sh x name s b a m h n =
    let L = scan_list sh x.begun s.obj in
    let unread : is_in b (drop s.read L) ≡ true = next_in L s.read b (subst (λ (z : List ℕ). slice_get z s.read ≡ Some b) h.list n) in
    let table = named_table sh x.begun name s.obj (began_allowed sh x name s a h) h.table in
    let kept = none_released sh s.obj (length x.begun) b (drop s.read L) x.ended (sym h.marked ∙ m) unread in
    let after : IsReadAfter sh x.begun x.ended (own_number x.begun x.session) b = unreleased_are_read sh x.begun x.ended s.obj (own_number x.begun x.session) b a (extends_by _ x.begun x.ended h.quiet) table (listed sh x.begun s.obj b (in_drop b s.read L unread)) kept h.quiet in
    rows_of_blocks_stay sh x.begun x.ended b (commit_count x.begun) (own_number x.begun x.session) a (le_refl (commit_count x.begun)) after.later

-- the rows with one block more
abbrev pub Gathered : Shape → Span → ℕ → ℕ → List RowOut → Type 0
Gathered sh x o n rows = rows ≡ map row_out (scanned (λ b. x.begun) (take n (scan_list sh x.begun o)) (commit_count x.begun) (own_number x.begun x.session))

read_one : (sh : Shape) (x : Span) (name : List ℕ) (s u : OpenScan) → AreAllowed sh x.ended → s.mark ≡ None → Reads x s u → ScanStands sh x name s → Gathered sh x s.obj (suc s.read) u.rows
read_one sh x name s u a m r h =
    let L = scan_list sh x.begun s.obj in
    let c = commit_count x.begun in
    let t = own_number x.begun x.session in
    let next : slice_get L s.read ≡ Some r.block = subst (λ (z : List ℕ). slice_get z s.read ≡ Some r.block) h.list r.next in
    let now : rows_at x.ended r.block s.at (txn_or_zero s.own) ≡ rows_at x.begun r.block c t = ap₂ (λ (n : ℕ) (o : Option ℕ). rows_at x.ended r.block n (txn_or_zero o)) h.number h.own_is ∙ block_stays sh x name s r.block a m h r.next in
    let all : scanned (λ b. x.begun) (take (suc s.read) L) c t ≡ scanned (λ b. x.begun) (take s.read L) c t ++ rows_at x.begun r.block c t
    = ap (λ (z : List ℕ). scanned (λ b. x.begun) z c t) (take_one L s.read r.block next) ∙ (scanned_append (λ b. x.begun) (take s.read L) (r.block ∷ []) c t ∙ ap (λ (zs : List (ℕ × List ℕ)). scanned (λ b. x.begun) (take s.read L) c t ++ zs) (append_none (rows_at x.begun r.block c t))) in
    r.rows ∙ (ap₂ (λ (xs : List RowOut) (ys : List (ℕ × List ℕ)). xs ++ map row_out ys) h.gathered now
    ∙ (sym (rows_append (scanned (λ b. x.begun) (take s.read L) c t) (rows_at x.begun r.block c t)) ∙ ap (map row_out) (sym all)))

-- all blocks were read: in order the rows are those of the view

few : (o : Option (List ℕ)) (xs : List (List ℕ)) → xs ≡ option_to_list o → length xs ≤ 1
few None xs e = subst (λ (z : List (List ℕ)). length z ≤ 1) (sym e) (omega arith)
few (Some x) xs e = subst (λ (z : List (List ℕ)). length z ≤ 1) (sym e) (omega arith)

all_read : (sh : Shape) (B : List Record) (w o : ℕ) (rows sorted : List RowOut) → AreAllowed sh B → IsTable B o → Sorts rows sorted → rows ≡ map row_out (scanned (λ b. B) (scan_list sh B o) (commit_count B) (own_number B w))
    → sorted ≡ map row_out (view_rows B o (commit_count B) (own_number B w))
all_read sh B w o rows sorted h table sorts e =
    let t = own_number B w in
    let found = scanned (λ b. B) (scan_list sh B o) (commit_count B) t in
    let whole = scans_are_whole sh B o t (λ b. B) h table ((sessions_own_transactions sh B h).each w).is_open (λ b x. record { allowed = h; later = not_later }) in
    let s : IsSorted found sorted = sorts found e (λ n. few (view B o (commit_count B) t n) (numbered n found) (whole.each n)) in
    s.same_rows ∙ ap (map row_out) (whole.in_order s.rows s.in_order s.same)

-- the laws

pub scans_open : ScansOpen
scans_open sh x name s o l = record {
  table = o.table;
  number = o.number;
  own_is = o.own;
  list = o.list;
  within = subst (λ n. n < length s.blocks) (sym o.none_read) l;
  idle = record { own = ap (λ (R : List Record). own_of R x.session) (sym o.at_once); rows = ap (λ (R : List Record). own_rows R x.session) (sym o.at_once); begins = ap (λ (R : List Record). own_begins R x.session) (sym o.at_once) };
  quiet = subst (λ (R : List Record). Later (λ (e : Effect). IsNotOf e (own_number x.begun x.session)) x.begun R) o.at_once not_later;
  marked = o.no_mark ∙ sym (subst (λ (R : List Record). first_gone sh s.obj (drop s.read (scan_list sh x.begun s.obj)) (length x.begun) R ≡ None) o.at_once (none_since sh s.obj (drop s.read (scan_list sh x.begun s.obj)) x.begun));
  gathered = o.no_rows ∙ ap (λ n. map row_out (scanned (λ b. x.begun) (take n (scan_list sh x.begun s.obj)) (commit_count x.begun) (own_number x.begun x.session))) (sym o.none_read);
}

nothing : (xs : List ℕ) → length xs ≡ 0 → xs ≡ []
nothing [] l = refl
nothing (x ∷ xs) l = absurd (omega (arith, l))

pub empty_scans_mean : EmptyScansMean
empty_scans_mean sh x name s a o l =
    let B = x.begun in
    let t = own_number B x.session in
    let none : scan_list sh B s.obj ≡ [] = sym o.list ∙ nothing s.blocks l in
    let whole = scans_are_whole sh B s.obj t (λ b. B) a (named_table sh B name s.obj a o.table) ((sessions_own_transactions sh B a).each x.session).is_open (λ b y. record { allowed = a; later = not_later }) in
    record {
      obj = s.obj;
      table = o.table;
      number = o.number;
      each = ap (map row_out) (whole.in_order [] tt (λ n. ap (λ (z : List ℕ). numbered n (scanned (λ b. B) z (commit_count B) t)) (sym none)));
      there = subst (λ (R : List Record). first_gone sh s.obj (last_of (scan_list sh B s.obj)) (length B) R ≡ None) o.at_once (none_since sh s.obj (last_of (scan_list sh B s.obj)) B);
    }

pub scans_read : ScansRead
scans_read sh x name s u a m r l h = record {
  table = h.table ∙ ap (λ (z : ℕ). Some z) (sym r.obj);
  number = r.at ∙ h.number;
  own_is = r.own ∙ h.own_is;
  list = r.blocks ∙ (h.list ∙ ap (scan_list sh x.begun) (sym r.obj));
  within = l;
  idle = h.idle;
  quiet = h.quiet;
  marked = r.mark ∙ (m ∙ sym (ap₂ (λ (n o : ℕ). first_gone sh o (drop n (scan_list sh x.begun o)) (length x.begun) x.ended) r.read r.obj
      ∙ fewer_gone sh s.obj (length x.begun) (drop (suc s.read) (scan_list sh x.begun s.obj)) (drop s.read (scan_list sh x.begun s.obj)) x.ended (drop_fewer sh s.read (scan_list sh x.begun s.obj)) (sym h.marked ∙ m)));
  gathered = read_one sh x name s u a m r h ∙ ap₂ (λ (n o : ℕ). map row_out (scanned (λ b. x.begun) (take n (scan_list sh x.begun o)) (commit_count x.begun) (own_number x.begun x.session))) (sym r.read) (sym r.obj);
}

pub scans_mean : ScansMean
scans_mean sh x name s u sorted a m r full sorts h =
    let L = scan_list sh x.begun s.obj in
    let size : suc s.read ≡ length L = sym r.read ∙ (full ∙ ap (λ (z : List ℕ). length z) (r.blocks ∙ h.list)) in
    let began = began_allowed sh x name s a h in
    let all : u.rows ≡ map row_out (scanned (λ b. x.begun) L (commit_count x.begun) (own_number x.begun x.session))
    = read_one sh x name s u a m r h ∙ ap (λ (z : List ℕ). map row_out (scanned (λ b. x.begun) z (commit_count x.begun) (own_number x.begun x.session))) (ap (λ n. take n L) size ∙ take_whole L) in
    record {
      obj = s.obj;
      table = h.table;
      number = r.at ∙ h.number;
      each = all_read sh x.begun x.session s.obj u.rows sorted began (named_table sh x.begun name s.obj began h.table) sorts all;
      there = ap (λ n. first_gone sh s.obj (drop n L) (length x.begun) x.ended) (one_less s.read (length L) size) ∙ (sym h.marked ∙ m);
    }
  where
    one_less : (n k : ℕ) → suc n ≡ k → k - 1 ≡ n
    one_less n k e = omega (arith, e)

pub marks_mean : MarksMean
marks_mean sh x name s g m h =
    let L = scan_list sh x.begun s.obj in
    let l : s.read < length L = subst (λ (z : List ℕ). s.read < length z) h.list h.within in
    record {
      obj = s.obj;
      block = get_or L s.read 0;
      next = record { name = name; statement = refl; table = h.table; block = slice_get-get_or L s.read 0 l };
      gone = sym h.marked ∙ m;
    }
