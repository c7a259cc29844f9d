-- A list of changes, and one more.
use Rattle.std.proofs.Common.{◌≡◌, ℕ, ◌+◌, ◌-◌, ◌^◌, ◌<◌, ◌≤◌, Bool, true, false, ◌&&◌, length, List, [], ◌∷◌, ◌++◌, refl, sym, ◌∙◌, ap, arith, filter, append-nil, leb-true, le-leb}
use Rattle.seg_words.proofs.Lemmas.{list_all, filter-append, list_all-append, nat_tests}
use Rattle.disk_model.specs.Types.{File, Data, Log, Write, Files, written, both, seen_step, seen_after, IsLeftBy, IsLeftAfter, is_by, fits, is_in_range, CanWrite, DatedChange, Memory, first_files, memory_files}

both_true : (a b : Bool) → (a && b) ≡ true → (a ≡ true) × (b ≡ true)
both_true true b h = (refl, h)
both_true false b h = absurd cc

and_true : (a b : Bool) → a ≡ true → b ≡ true → (a && b) ≡ true
and_true a b p q = ap (λ (x : Bool). x && b) p ∙ q

is_by_later : (n m : ℕ) (e : DatedChange) → n ≤ m → is_by n e ≡ true → is_by m e ≡ true
is_by_later n m e le was = le-leb e.moment m (omega (arith, leb-true e.moment n was))

-- the changes so far are changes so far later on
pub so_far_later : (n m : ℕ) (es : List DatedChange) → n ≤ m → list_all (is_by n) es ≡ true → list_all (is_by m) es ≡ true
so_far_later n m [] le was = refl
so_far_later n m (e ∷ es) le was =
    let h = both_true (is_by n e) (list_all (is_by n) es) was in
    and_true (is_by m e) (list_all (is_by m) es) (is_by_later n m e le h.0) (so_far_later n m es le h.1)

pub so_far_push : (n m : ℕ) (es : List DatedChange) (e : DatedChange) → n ≤ m → e.moment ≤ m → list_all (is_by n) es ≡ true → list_all (is_by m) (es ++ e ∷ []) ≡ true
so_far_push n m es e le now was =
    list_all-append (is_by m) es (e ∷ []) ∙ and_true (list_all (is_by m) es) (is_by m e && true) (so_far_later n m es le was) (and_true (is_by m e) true (le-leb e.moment m now) refl)

pub seen_after-push : (seen : Files) (es : List DatedChange) (e : DatedChange) → seen_after seen (es ++ e ∷ []) ≡ seen_step e.change (seen_after seen es)
seen_after-push seen [] e = refl
seen_after-push seen (x ∷ es) e = seen_after-push (seen_step x.change seen) es e

-- an image after one more change is one that the change makes, and each such is one
pub left_push : (seen : Files) (left : Files → Type 0) (es : List DatedChange) (e : DatedChange) (image : Files) → IsLeftBy e.change (seen_after seen es) (IsLeftAfter seen left es) image → IsLeftAfter seen left (es ++ e ∷ []) image
left_push seen left [] e image is = is
left_push seen left (x ∷ es) e image is = left_push (seen_step x.change seen) (IsLeftBy x.change seen left) es e image is

pub left_pop : (seen : Files) (left : Files → Type 0) (es : List DatedChange) (e : DatedChange) (image : Files) → IsLeftAfter seen left (es ++ e ∷ []) image → IsLeftBy e.change (seen_after seen es) (IsLeftAfter seen left es) image
left_pop seen left [] e image is = is
left_pop seen left (x ∷ es) e image is = left_pop (seen_step x.change seen) (IsLeftBy x.change seen left) es e image is

filter_all : (p : DatedChange → Bool) (es : List DatedChange) → list_all p es ≡ true → filter p es ≡ es
filter_all p [] all = refl
filter_all p (e ∷ es) all =
    let h = both_true (p e) (list_all p es) all in
    let rest = filter_all p es h.1 in
    grind (arith, h.0, rest)

-- after the last call all of them count
pub all_by : (n m : ℕ) (es : List DatedChange) → n ≤ m → list_all (is_by n) es ≡ true → filter (is_by m) es ≡ es
all_by n m es le all = filter_all (is_by m) es (so_far_later n m es le all)

-- at a moment before a new one it doesn't count
pub push_later : (m : ℕ) (es : List DatedChange) (e : DatedChange) → m < e.moment → filter (is_by m) (es ++ e ∷ []) ≡ filter (is_by m) es
push_later m es e later =
    filter-append (is_by m) es (e ∷ []) ∙ ap (λ (l : List DatedChange). filter (is_by m) es ++ l) none ∙ append-nil (filter (is_by m) es)
  where
    none : filter (is_by m) (e ∷ []) ≡ []
    none = grind (arith, nat_tests)

-- what a read gives after the list with one more
pub seen_later : (first seen : Files) (es later : List DatedChange) (e : DatedChange) → later ≡ es ++ e ∷ [] → seen ≡ seen_after first es → seen_after first later ≡ seen_step e.change seen
seen_later first seen es later e same is =
    ap (seen_after first) same ∙ seen_after-push first es e ∙ ap (seen_step e.change) (sym is)

pub so_far_later_push : (n : ℕ) (es later : List DatedChange) (e : DatedChange) → e.moment ≡ n + 1 → later ≡ es ++ e ∷ [] → list_all (is_by n) es ≡ true → list_all (is_by (n + 1)) later ≡ true
so_far_later_push n es later e at same was =
    ap (list_all (is_by (n + 1))) same ∙ so_far_push n (n + 1) es e (omega arith) (omega arith) was

-- two files are the same where their contents are
pub same_files : (a b : Files) → a.data_bytes ≡ b.data_bytes → a.log_bytes ≡ b.log_bytes → a ≡ b
same_files a b p q = ap (λ (x : List ℕ). both x a.log_bytes) p ∙ ap (λ (y : List ℕ). both b.data_bytes y) q

-- what is there is what the changes made
pub is_seen : (m : Memory) → memory_files m ≡ seen_after (first_files m) m.changes.items
is_seen m = same_files _ _ m.data_is m.log_is

-- a change in its range, after others in theirs
pub in_range_push : (changes later : List DatedChange) (dated : DatedChange) → later ≡ changes ++ dated ∷ [] → fits dated.change ≡ true → list_all is_in_range changes ≡ true → list_all is_in_range later ≡ true
in_range_push changes later dated same fit was =
    ap (list_all is_in_range) same ∙ list_all-append is_in_range changes (dated ∷ []) ∙ and_true (list_all is_in_range changes) (fits dated.change && true) was (and_true (fits dated.change) true fit refl)

pub write_fits : (file : File) (clock offset : ℕ) (bytes : List ℕ) → CanWrite clock offset (length bytes) → fits (Write file offset bytes) ≡ true
write_fits file clock offset bytes can = le-leb (offset + length bytes) (2 ^ 64 - 1) can.fits

-- a write into the one file, and what it leaves of the other
data_written : (file : File) (offset : ℕ) (bytes next : List ℕ) (files : Files) → file ≡ Data → next ≡ written files.data_bytes offset bytes → both next files.log_bytes ≡ seen_step (Write file offset bytes) files
data_written Data offset bytes next files is made = ap (λ (l : List ℕ). both l files.log_bytes) made
data_written Log offset bytes next files is made = absurd cc

log_written : (file : File) (offset : ℕ) (bytes next : List ℕ) (files : Files) → file ≡ Log → next ≡ written files.log_bytes offset bytes → both files.data_bytes next ≡ seen_step (Write file offset bytes) files
log_written Log offset bytes next files is made = ap (λ (l : List ℕ). both files.data_bytes l) made
log_written Data offset bytes next files is made = absurd cc

-- what stays true of files in memory at a write that is kept
module _ (m : Memory) (file : File) (offset : ℕ) (bytes kept next : List ℕ) (later : List DatedChange) (same : kept ≡ bytes) (more : later ≡ m.changes.items ++ record { moment = m.clock + 1; change = Write file offset kept } ∷ []) where
  pub write_so_far : list_all (is_by (m.clock + 1)) later ≡ true
  write_so_far = so_far_later_push m.clock m.changes.items later (record { moment = m.clock + 1; change = Write file offset kept }) refl more m.so_far

  pub write_in_range : CanWrite m.clock offset (length bytes) → list_all is_in_range later ≡ true
  write_in_range can = in_range_push m.changes.items later (record { moment = m.clock + 1; change = Write file offset kept }) more (ap (λ (l : List ℕ). fits (Write file offset l)) same ∙ write_fits file m.clock offset bytes can) m.in_range

  seen_is : seen_after (first_files m) later ≡ seen_step (Write file offset bytes) (memory_files m)
  seen_is = seen_later (first_files m) (memory_files m) m.changes.items later (record { moment = m.clock + 1; change = Write file offset kept }) more (is_seen m) ∙ ap (λ (l : List ℕ). seen_step (Write file offset l) (memory_files m)) same

  pub write_data : file ≡ Data → next ≡ written m.data_bytes.items offset bytes → both next m.log_bytes.items ≡ seen_after (first_files m) later
  write_data is made = data_written file offset bytes next (memory_files m) is made ∙ sym seen_is

  pub write_log : file ≡ Log → next ≡ written m.log_bytes.items offset bytes → both m.data_bytes.items next ≡ seen_after (first_files m) later
  write_log is made = log_written file offset bytes next (memory_files m) is made ∙ sym seen_is

  -- the call's own words
  pub write_more : later ≡ m.changes.items ++ record { moment = m.clock + 1; change = Write file offset bytes } ∷ []
  write_more = more ∙ ap (λ (l : List ℕ). m.changes.items ++ record { moment = m.clock + 1; change = Write file offset l } ∷ []) same

  pub data_step : file ≡ Data → next ≡ written m.data_bytes.items offset bytes → both next m.log_bytes.items ≡ seen_step (Write file offset bytes) (memory_files m)
  data_step is made = data_written file offset bytes next (memory_files m) is made

  pub log_step : file ≡ Log → next ≡ written m.log_bytes.items offset bytes → both m.data_bytes.items next ≡ seen_step (Write file offset bytes) (memory_files m)
  log_step is made = log_written file offset bytes next (memory_files m) is made
