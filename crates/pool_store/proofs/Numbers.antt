-- A record takes at least two bytes of the log. So where the log's length is below 2^64, and that of what waits, one more record
-- has a number.
use Rattle.std.proofs.Common.{◌≡◌, ℕ, suc, ◌+◌, ◌*◌, ◌^◌, ◌<◌, ◌≤◌, List, [], ◌∷◌, ◌++◌, length, ap, arith, None}
use Rattle.std.proofs.lemmas.List.{length-append}
use Rattle.seg_words.specs.Types.{w32, w64, FIRST_GATE}
use Rattle.redo_record.specs.Spelling.{spelling, fields, big_endian, row_head, row_parts}
use Rattle.log_frame.specs.Types.{frame, frames}
use Rattle.disk_model.specs.Crash.{Meaning}
use Rattle.redo_model.specs.Records.{Record, Table, Movement, Extend, FormatBlock, Class, Advance, Lower, Begin, Reuse, Insert, Update, Migrate, Return, Delete, Commit, Back, Ended, Move, Clean, RowBody}
use Rattle.redo_log.specs.Kept.{Kept, spelled, Holds, HasList as HasLogList}
use Rattle.pool_store.specs.Store.{Held, HasList, waits}

front : (xs ys : List ℕ) → 1 ≤ length xs → 1 ≤ length (xs ++ ys)
front xs ys h = omega (arith, length-append xs ys, h)

wide_32 : (n : ℕ) → 1 ≤ length (big_endian w32 n)
unfolding big_endian
wide_32 n = omega arith

wide_64 : (n : ℕ) → 1 ≤ length (big_endian w64 n)
unfolding big_endian
wide_64 n = omega arith

begun_32 : (n : ℕ) (rest : List ℕ) → 1 ≤ length (big_endian w32 n ++ rest)
begun_32 n rest = front (big_endian w32 n) rest (wide_32 n)

begun_64 : (n : ℕ) (rest : List ℕ) → 1 ≤ length (big_endian w64 n ++ rest)
begun_64 n rest = front (big_endian w64 n) rest (wide_64 n)

row_headed : (b : RowBody) (rest : List ℕ) → 1 ≤ length (row_head b.txn b.entry b.obj b.row b.undo b.previous ++ rest)
row_headed b rest = front (row_head b.txn b.entry b.obj b.row b.undo b.previous) rest (begun_64 b.txn _)

-- what stands behind a record's kind is something
has_fields : (r : Record) → 1 ≤ length (fields r)
has_fields (Table t) = omega arith
has_fields (Movement m) = omega arith
has_fields (Extend e) = omega arith
has_fields (FormatBlock f) = omega arith
has_fields (Class c) = omega arith
has_fields (Advance a) = omega arith
has_fields (Lower l) = omega arith
has_fields (Begin b) = begun_64 b.txn _
has_fields (Reuse r) = begun_32 r.block _
has_fields (Insert b) = row_headed b (row_parts b.parts)
has_fields (Update b) = row_headed b (row_parts b.parts)
has_fields (Migrate b) = row_headed b (row_parts b.parts)
has_fields (Return b) = row_headed b (row_parts b.parts)
has_fields (Delete b) = row_headed b (row_parts b.parts)
has_fields (Commit c) = begun_64 c.txn _
has_fields (Back b) = front (row_head b.txn b.entry b.obj b.row b.undo b.previous) _ (begun_64 b.txn _)
has_fields (Ended e) = begun_64 e.txn _
has_fields (Move m) = front (row_head 0 255 m.obj m.row m.undo None) _ (begun_64 0 _)
has_fields (Clean c) = begun_32 c.dba _

two_bytes : (r : Record) → 2 ≤ length (spelling r)
two_bytes r = omega (arith, has_fields r)

spelled_long : (R : List Record) → 2 * length R ≤ length (spelled R)
spelled_long [] = omega arith
spelled_long (r ∷ R) = omega (arith, spelled_long R, two_bytes r, length-append (spelled R) (spelling r))

framed_long : (payload : List ℕ) (groups : List (List ℕ)) → length payload + length (frames groups) ≤ length (frames (payload ∷ groups))
framed_long payload groups = omega (arith, length-append (frame payload) (frames groups))

held_long : (groups : List (List ℕ)) (R0 R : List Record) → Holds groups R0 R → 2 * length R ≤ 2 * length R0 + length (frames groups)
held_long [] R0 R same = omega (arith, ap length same)
held_long (payload ∷ groups) R0 R (newer, is, spelled_so, rest) =
    omega (arith, held_long groups (newer ++ R0) R rest, length-append newer R0, spelled_long newer, ap length is, framed_long payload groups)

-- the log of a list, with its groups up to the end
pub few_records : (groups : List (List ℕ)) (R : List Record) (log : Kept) → HasLogList groups [] R log → FIRST_GATE + length (frames groups) ≡ log.end → log.end < 2 ^ 64
    → length log.waiting.bytes < 2 ^ 64 → suc (length R) < 2 ^ 64
few_records groups R log list at_end small waiting =
    omega (arith, ap length list.has.split, length-append list.has.newer list.has.older, spelled_long list.has.newer, ap length list.has.bytes, held_long groups [] list.has.older list.holds, at_end, small, waiting)

pub few_of : {D : Type 0} (meaning : Meaning D) (R : List Record) (s : Held D) → HasList meaning R s → s.fault ≡ None → s.log.end < 2 ^ 64 → waits s < 2 ^ 64 → suc (length R) < 2 ^ 64
few_of meaning R s list unspent small waiting = few_records list.groups R s.log list.list (list.ready unspent).at_end small waiting
