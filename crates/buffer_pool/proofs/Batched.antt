-- What a batch takes, and what it leaves.
use Rattle.std.proofs.Common.{◌≤◌, ◌≡◌, ℕ, zero, suc, ◌+◌, ◌<◌, Bool, true, false, not, ◌&&◌, List, [], ◌∷◌, ◌++◌, Option, Some, None, IsSome, is_some, refl, sym, ap, subst, arith, cond, nat_eq, nat_le, length, map, take, ◌∙◌, get_or, ◌||◌, option_map, append_assoc, add-one, IfSome}
use Rattle.std.specs.List.{All, AllByRecursion, list_all, list_any, IsDistinct}
use Rattle.std.specs.List.Sorted.{IsPermutation}
use Rattle.std.specs.Map.{keys_of, set_value, values_of}
use Rattle.std.specs.Cmp.{nat_eq_equiv}
use Rattle.std.proofs.lemmas.Map.{lookup-set_value}
use Rattle.std.proofs.lemmas.Map.Entries.{lookup_from_place, sum_by-set_value}
use Rattle.std.proofs.lemmas.Map.Keys.{IsDistinct-tail, IsDistinct-cons, IsDistinct-IsPermutation, apart_from_distinct}
use Rattle.std.proofs.lemmas.Map.Made.{IsDistinct-keys_filter}
use Rattle.std.proofs.lemmas.Map.Views.{All-values_from_lookup}
use Rattle.std.proofs.lemmas.List.{map_more}
use Rattle.std.proofs.lemmas.List.Elements.{All-from_recursion}
use Rattle.std.proofs.lemmas.List.Sorted.{All-permutation, length_permutation}
use Rattle.std.proofs.lemmas.Bool.{true≢false, le-leb, leb-true}
use Rattle.std.proofs.lemmas.Bool.Decides.{nat_tests}
use Rattle.std.proofs.lemmas.Grind.{common_steps}
use Rattle.lru.proofs.Pairs.{slice_get-cut}
use Rattle.seg_words.specs.Types.{Shape, DOUBLE_WRITE_PAGES}
use Rattle.page_store.specs.declared.page.RawPage.{RawPage}
use Rattle.page_store.specs.Types.{after, are_apart, blocks_of, is_batch, is_place, page_in}
use Rattle.page_set.specs.declared.page.Page.{Page}
use Rattle.page_set.specs.declared.page.Page.TheVariants.{Zero}
use Rattle.page_set.specs.Pages.{dba_of, lsn_of}
use Rattle.page_set.specs.Spelled.{HasSpelling, meaning_of, spelling_of}
use Rattle.page_set.proofs.ReadAgain.{meaning_again}
use Rattle.buffer_pool.specs.declared.frame.Frame.{Frame}
use Rattle.buffer_pool.specs.Frames.{dirty_count, frame_at, framed, has_page, page_over, weight, HasOnlyPages, IsDirty, IsShown, Shows}
use Rattle.buffer_pool.specs.Batches.{cleaned, due_blocks, is_due, raw_page, AreDirtyUpTo, AreUpTo, IsDueIn, ReadBack, Settled}
use Rattle.buffer_pool.proofs.Drops.{one_number}

-- which frames are due

pub due_more : (upto : ℕ) (numbers : List ℕ) (k : ℕ) (f : Frame) (rest : List (ℕ × Frame)) → is_due upto f ≡ true → (numbers ++ k ∷ []) ++ due_blocks upto rest ≡ numbers ++ due_blocks upto ((k, f) ∷ rest)
due_more upto numbers k f rest h = rw h (append_assoc numbers (k ∷ []) (due_blocks upto rest))

pub due_less : (upto : ℕ) (numbers : List ℕ) (k : ℕ) (f : Frame) (rest : List (ℕ × Frame)) → is_due upto f ≡ false → numbers ++ due_blocks upto rest ≡ numbers ++ due_blocks upto ((k, f) ∷ rest)
due_less upto numbers k f rest h = rw h refl

none_keys : (k : ℕ) (es : List (ℕ × Frame)) → frame_at es k ≡ None → AllByRecursion (λ y. nat_eq k y ≡ false) (keys_of es)
none_keys k [] h = tt
none_keys k (e ∷ es) h =
    let no : nat_eq k e.0 ≡ false = grind (arith, nat_tests) in
    let rest : frame_at es k ≡ None = rw no at h in
    (no, none_keys k es rest)

all_apart : (n : ℕ) (f : Frame) (es : List (ℕ × Frame)) → IsDistinct nat_eq (keys_of es) → frame_at es n ≡ None → IsDistinct nat_eq (keys_of ((n, f) ∷ es))
all_apart n f es apart none = IsDistinct-cons nat_eq n (keys_of es) (none_keys n es none) apart

pub due_apart : (upto n : ℕ) (f : Frame) (es : List (ℕ × Frame)) (numbers : List ℕ) → IsDistinct nat_eq (keys_of es) → frame_at es n ≡ None → IsPermutation (due_blocks upto ((n, f) ∷ es)) numbers → IsDistinct nat_eq numbers
due_apart upto n f es numbers apart none same =
    let flips : (x y : ℕ) → nat_eq x y ≡ nat_eq y x = λ x y. grind (arith, nat_tests) in
    IsDistinct-IsPermutation nat_eq flips (due_blocks upto ((n, f) ∷ es)) numbers same (IsDistinct-keys_filter nat_eq (λ e. is_due upto e.1) ((n, f) ∷ es) (all_apart n f es apart none))

-- an entry is found by its key
found_from : (front es all : List (ℕ × Frame)) → all ≡ front ++ es → IsDistinct nat_eq (keys_of all) → AllByRecursion (λ (e : ℕ × Frame). frame_at all e.0 ≡ Some e.1) es
found_from front [] all is apart = tt
found_from front (e ∷ es) all is apart =
    (lookup_from_place nat_eq_equiv all (length front) e.0 e.1 apart (rw is (slice_get-cut front e es)), found_from (front ++ e ∷ []) es all (is ∙ sym (append_assoc front (e ∷ []) es)) apart)

due_frame : (upto : ℕ) (f : Frame) (o : Option Frame) → is_due upto f ≡ true → o ≡ Some f → IsDueIn upto o
due_frame upto f o due is = subst (IsDueIn upto) (sym is) (both f.dirty (nat_le (lsn_of f.page) upto) due refl refl)
  where
    both : (a b : Bool) → (a && b) ≡ true → f.dirty ≡ a → nat_le (lsn_of f.page) upto ≡ b → (f.dirty ≡ true) × (lsn_of f.page ≤ upto)
    both true true h dirty few = (dirty, leb-true (lsn_of f.page) upto few)
    both true false h dirty few = absurd (true≢false (sym h))
    both false b h dirty few = absurd (true≢false (sym h))

due_from : (upto : ℕ) (es all : List (ℕ × Frame)) → AllByRecursion (λ (e : ℕ × Frame). frame_at all e.0 ≡ Some e.1) es → AllByRecursion (λ d. IsDueIn upto (frame_at all d)) (due_blocks upto es)
due_from upto [] all found = tt
due_from upto (e ∷ es) all found = decide (is_due upto e.1) refl (due_from upto es all found.1)
  where
    decide : (t : Bool) → is_due upto e.1 ≡ t → AllByRecursion (λ d. IsDueIn upto (frame_at all d)) (due_blocks upto es) → AllByRecursion (λ d. IsDueIn upto (frame_at all d)) (due_blocks upto (e ∷ es))
    decide true h rest = rw h (due_frame upto e.1 (frame_at all e.0) h found.0, rest)
    decide false h rest = rw h rest

pub due_in : (upto n : ℕ) (f : Frame) (es : List (ℕ × Frame)) (numbers : List ℕ) → IsDistinct nat_eq (keys_of es) → frame_at es n ≡ None → IsPermutation (due_blocks upto ((n, f) ∷ es)) numbers
    → All (λ d. IsDueIn upto (frame_at ((n, f) ∷ es) d)) numbers
due_in upto n f es numbers apart none same =
    let held : List (ℕ × Frame) = (n, f) ∷ es in
    let found = found_from [] held held refl (all_apart n f es apart none) in
    All-permutation (λ d. IsDueIn upto (frame_at held d)) (due_blocks upto held) numbers same (All-from_recursion (λ d. IsDueIn upto (frame_at held d)) (due_blocks upto held) (due_from upto held held found))

dirty_of : (upto : ℕ) (o : Option Frame) → IsDueIn upto o → IsDirty o
dirty_of upto None h = absurd h
dirty_of upto (Some f) h = h.0

pub due_dirty : (upto : ℕ) (held : List (ℕ × Frame)) (numbers : List ℕ) → All (λ d. IsDueIn upto (frame_at held d)) numbers → All (λ d. IsDirty (frame_at held d)) numbers
due_dirty upto held numbers due = λ i d less. dirty_of upto (frame_at held (get_or numbers i d)) (due i d less)

count_due : (upto : ℕ) (es : List (ℕ × Frame)) → All (λ (f : Frame). f.dirty ≡ true → lsn_of f.page ≤ upto) (values_of es) → length (due_blocks upto es) ≡ dirty_count es
count_due upto [] h = refl
count_due upto (e ∷ es) h =
    let here : e.1.dirty ≡ true → lsn_of e.1.page ≤ upto = h 0 e.1 (omega arith) in
    let rest = count_due upto es (λ k d less. h (suc k) d (omega arith)) in
    counted e.1.dirty refl (λ d. le-leb (lsn_of e.1.page) upto (here d)) rest
  where
    counted : (t : Bool) → e.1.dirty ≡ t → (e.1.dirty ≡ true → nat_le (lsn_of e.1.page) upto ≡ true) → length (due_blocks upto es) ≡ dirty_count es → length (due_blocks upto (e ∷ es)) ≡ dirty_count (e ∷ es)
    counted true d test rest = let few : nat_le (lsn_of e.1.page) upto ≡ true = test d in grind (arith, common_steps, d, few, rest)
    counted false d test rest = grind (arith, common_steps, d, rest)

pub many_due : (upto n : ℕ) (f : Frame) (es : List (ℕ × Frame)) (numbers : List ℕ) → IsDistinct nat_eq (keys_of es) → frame_at es n ≡ None → AreDirtyUpTo upto ((n, f) ∷ es) → IsPermutation (due_blocks upto ((n, f) ∷ es)) numbers → length numbers ≡ weight f + dirty_count es
many_due upto n f es numbers apart none up same =
    let each = All-values_from_lookup nat_eq_equiv (λ (g : Frame). g.dirty ≡ true → lsn_of g.page ≤ upto) ((n, f) ∷ es) (all_apart n f es apart none) up.at in
    let count = count_due upto ((n, f) ∷ es) each in
    let long = length_permutation (due_blocks upto ((n, f) ∷ es)) numbers same in
    grind (arith, common_steps, count, long)

-- where no page was changed after `upto`, none in a dirty frame was
pub dirty_too : (upto : ℕ) (held : List (ℕ × Frame)) → AreUpTo upto held → AreDirtyUpTo upto held
dirty_too upto held up = record { at = λ d. of_some (frame_at held d) (up.at d) }
  where
    of_some : (o : Option Frame) → IfSome o (λ f. lsn_of f.page ≤ upto) → IfSome o (λ f. f.dirty ≡ true → lsn_of f.page ≤ upto)
    of_some None h = tt
    of_some (Some f) h = λ dirty. h

-- the first of them

pub all_take : (P : ℕ → Type 0) (n : ℕ) (xs : List ℕ) → All P xs → All P (take n xs)
all_take P zero xs h = λ i d lt. absurd (omega (arith, lt))
all_take P (suc n) [] h = λ i d lt. absurd (omega (arith, lt))
all_take P (suc n) (x ∷ xs) h = All-from_recursion P (x ∷ take n xs) (h 0 x (omega arith), by_index n xs (λ k d less. h (suc k) d (omega arith)))
  where
    by_index : (n : ℕ) (xs : List ℕ) → All P xs → AllByRecursion P (take n xs)
    by_index zero xs h = tt
    by_index (suc n) [] h = tt
    by_index (suc n) (x ∷ xs) h = (h 0 x (omega arith), by_index n xs (λ k d less. h (suc k) d (omega arith)))

recursion_take : (P : ℕ → Type 0) (n : ℕ) (xs : List ℕ) → AllByRecursion P xs → AllByRecursion P (take n xs)
recursion_take P zero xs h = tt
recursion_take P (suc n) [] h = tt
recursion_take P (suc n) (x ∷ xs) h = (h.0, recursion_take P n xs h.1)

pub apart_take : (n : ℕ) (xs : List ℕ) → IsDistinct nat_eq xs → IsDistinct nat_eq (take n xs)
unfolding IsDistinct
apart_take zero xs h = tt
apart_take (suc n) [] h = tt
apart_take (suc n) (x ∷ xs) h = (recursion_take (λ y. nat_eq x y ≡ false) n xs h.0, apart_take n xs h.1)

pub dirty_some : (o : Option Frame) → IsDirty o → IsSome o
dirty_some None h = absurd h
dirty_some (Some f) h = refl

pub blocks_raw : (held : List (ℕ × Frame)) (ns : List ℕ) → blocks_of (map (raw_page held) ns) ≡ ns
blocks_raw held [] = refl
blocks_raw held (n ∷ ns) = ap (λ (xs : List ℕ). n ∷ xs) (blocks_raw held ns)

pub copied_more : (held : List (ℕ × Frame)) (ns : List ℕ) (i : ℕ) (batch : List RawPage) (r : RawPage) → i < length ns → batch ≡ map (raw_page held) (take i ns) → r ≡ raw_page held (get_or ns i 0)
    → batch ++ r ∷ [] ≡ map (raw_page held) (take (i + 1) ns)
copied_more held ns i batch r lt e is =
    ap (λ (bs : List RawPage). bs ++ r ∷ []) e ∙ ap (λ (x : RawPage). map (raw_page held) (take i ns) ++ x ∷ []) is ∙ sym (map_more (raw_page held) ns i 0 lt)

-- they may be written in one batch

not_any : (x : ℕ) (xs : List ℕ) → AllByRecursion (λ y. nat_eq x y ≡ false) xs → list_any (λ d. nat_eq d x) xs ≡ false
not_any x [] h = refl
not_any x (y ∷ ys) h = let no : nat_eq y x ≡ false = grind (arith, nat_tests, h.0) in rw no (not_any x ys h.1)

apart_test : (xs : List ℕ) → IsDistinct nat_eq xs → are_apart xs ≡ true
unfolding IsDistinct
apart_test [] h = refl
apart_test (x ∷ xs) h = rw (not_any x xs h.0) (apart_test xs h.1)

place_of_page : (sh : Shape) (d : ℕ) → has_page sh d ≡ true → is_place sh d ≡ true
place_of_page sh d h = second (not (nat_eq d 0)) (is_place sh d) h
  where
    second : (a b : Bool) → (a && b) ≡ true → b ≡ true
    second true b h = h
    second false b h = absurd (true≢false (sym h))

places_test : (sh : Shape) (held : List (ℕ × Frame)) (ns : List ℕ) → HasOnlyPages sh held → All (λ d. IsDirty (frame_at held d)) ns → list_all (is_place sh) ns ≡ true
places_test sh held [] only dirty = refl
places_test sh held (n ∷ ns) only dirty =
    rw (place_of_page sh n (only.at n (dirty_some (frame_at held n) (dirty 0 n (omega arith))))) (places_test sh held ns only (λ k d less. dirty (suc k) d (omega arith)))

length-take-le : (n : ℕ) (xs : List ℕ) → length (take n xs) ≤ n
length-take-le zero xs = omega arith
length-take-le (suc n) [] = omega arith
length-take-le (suc n) (x ∷ xs) = omega (arith, length-take-le n xs)

pub writable : (sh : Shape) (held : List (ℕ × Frame)) (most : ℕ) (numbers : List ℕ) (batch : List RawPage) → HasOnlyPages sh held → IsDistinct nat_eq (take most numbers) → All (λ d. IsDirty (frame_at held d)) (take most numbers)
    → batch ≡ map (raw_page held) (take most numbers) → most ≤ DOUBLE_WRITE_PAGES → 1 ≤ length batch → is_batch sh (blocks_of batch) ≡ true
writable sh held most numbers batch only apart dirty is few some =
    let ns : List ℕ = take most numbers in
    let blocks : blocks_of batch ≡ ns = ap blocks_of is ∙ blocks_raw held ns in
    let long : length batch ≡ length (blocks_of batch) = sym (length_blocks batch) in
    let one : nat_le 1 (length ns) ≡ true = le-leb 1 (length ns) (subst (λ (xs : List ℕ). 1 ≤ length xs) blocks (subst (λ (n : ℕ). 1 ≤ n) long some)) in
    let most : nat_le (length ns) DOUBLE_WRITE_PAGES ≡ true = le-leb (length ns) DOUBLE_WRITE_PAGES (omega (arith, length-take-le most numbers, few)) in
    ap (is_batch sh) blocks ∙ rw (one, most, places_test sh held ns only dirty) (apart_test ns apart)
  where
    length_blocks : (ps : List RawPage) → length (blocks_of ps) ≡ length ps
    length_blocks [] = refl
    length_blocks (p ∷ ps) = omega (arith, length_blocks ps)

-- frames that are clean from now on

pub clean_entries : (k : ℕ) (f : Frame) (es : List (ℕ × Frame)) → frame_at es k ≡ Some f → Settled (k ∷ []) es (set_value (nat_eq k) es (cleaned f))
clean_entries k f es h = record {
  at = λ q. let has : IsSome (frame_at es k) = rw h refl in
      lookup-set_value nat_eq_equiv (nat_eq k) (one_number k) q (cleaned f) es has ∙ decide q (nat_eq k q) refl;
}
  where
    decide : (q : ℕ) (t : Bool) → nat_eq k q ≡ t → cond t (Some (cleaned f)) (frame_at es q) ≡ cond (t || false) (option_map cleaned (frame_at es q)) (frame_at es q)
    decide q true t = let same : k ≡ q = grind (arith, nat_tests) in let here : frame_at es q ≡ Some f = subst (λ (j : ℕ). frame_at es j ≡ Some f) same h in rw here refl
    decide q false t = refl

pub clean_count : (k : ℕ) (f : Frame) (es : List (ℕ × Frame)) → frame_at es k ≡ Some f → f.dirty ≡ true → dirty_count (set_value (nat_eq k) es (cleaned f)) + 1 ≡ dirty_count es
clean_count k f es h d = let sums = sum_by-set_value weight (nat_eq k) es f (cleaned f) h in grind (arith, common_steps, sums, d)

not_among : (xs : List ℕ) (i : ℕ) → IsDistinct nat_eq xs → i < length xs → list_any (λ b. nat_eq b (get_or xs i 0)) (take i xs) ≡ false
not_among [] i apart h = absurd (omega arith)
not_among (x ∷ xs) zero apart h = refl
not_among (x ∷ xs) (suc i) apart h =
    let first = apart_from_distinct nat_eq (x ∷ xs) 0 (suc i) 0 apart (omega arith) h in
    rw first (not_among xs i (IsDistinct-tail nat_eq x xs apart) (omega arith))

among_more : (test : ℕ → Bool) (xs : List ℕ) (i : ℕ) → i < length xs → list_any test (take (suc i) xs) ≡ (list_any test (take i xs) || test (get_or xs i 0))
among_more test [] i h = absurd (omega arith)
among_more test (x ∷ xs) zero h = grind (arith, nat_tests)
among_more test (x ∷ xs) (suc i) h = grind (arith, nat_tests, among_more test xs i)

twice : (a b : Bool) (o now : Option Frame) → now ≡ cond a (option_map cleaned o) o → cond (b || false) (option_map cleaned now) now ≡ cond (a || b) (option_map cleaned o) o
twice true true None now h = rw h refl
twice true true (Some f) now h = rw h refl
twice true false o now h = rw h refl
twice false true o now h = rw h refl
twice false false o now h = rw h refl

pub settled_none : (a : List (ℕ × Frame)) → Settled [] a a
settled_none a = record { at = λ d. refl }

pub settled_more : (xs : List ℕ) (i : ℕ) (a b c : List (ℕ × Frame)) → i < length xs → Settled (take i xs) a b → Settled (get_or xs i 0 ∷ []) b c → Settled (take (i + 1) xs) a c
settled_more xs i a b c h p q = record {
  at = λ k. rw (add-one, among_more (λ b. nat_eq b k) xs i h) (q.at k ∙ twice (list_any (λ b. nat_eq b k) (take i xs)) (nat_eq (get_or xs i 0) k) (frame_at a k) (frame_at b k) (p.at k));
}

pub still_dirty : (xs : List ℕ) (i : ℕ) (a b : List (ℕ × Frame)) → IsDistinct nat_eq xs → i < length xs → Settled (take i xs) a b → IsDirty (frame_at a (get_or xs i 0)) → IsDirty (frame_at b (get_or xs i 0))
still_dirty xs i a b apart h p dirty = rw (p.at (get_or xs i 0), not_among xs i apart h) dirty

some_kept : (t : Bool) (o : Option Frame) → is_some (cond t (option_map cleaned o) o) ≡ is_some o
some_kept true None = refl
some_kept true (Some f) = refl
some_kept false o = refl

pub settled_pages : (sh : Shape) (xs : List ℕ) (a b : List (ℕ × Frame)) → Settled xs a b → HasOnlyPages sh a → HasOnlyPages sh b
settled_pages sh xs a b s only = record { at = λ d h. only.at d (sym (some_kept (list_any (λ x. nat_eq x d) xs) (frame_at a d)) ∙ ap is_some (sym (s.at d)) ∙ h) }

pub settled_absent : (xs : List ℕ) (n : ℕ) (a b : List (ℕ × Frame)) → Settled xs a b → frame_at a n ≡ None → frame_at b n ≡ None
settled_absent xs n a b s none = rw (s.at n, none) (either (list_any (λ x. nat_eq x n) xs))
  where
    either : (t : Bool) → cond t (option_map cleaned None) None ≡ None
    either true = refl
    either false = refl

-- behind the frame of another block
pub settled_behind : (n : ℕ) (f : Frame) (k : ℕ) (a b : List (ℕ × Frame)) → nat_eq k n ≡ false → Settled (k ∷ []) a b → Settled (k ∷ []) ((n, f) ∷ a) ((n, f) ∷ b)
settled_behind n f k a b other s = record { at = λ d. decide d (nat_eq d n) refl }
  where
    decide : (d : ℕ) (t : Bool) → nat_eq d n ≡ t → cond t (Some f) (frame_at b d) ≡ cond (nat_eq k d || false) (option_map cleaned (cond t (Some f) (frame_at a d))) (cond t (Some f) (frame_at a d))
    decide d true e = let no : nat_eq k d ≡ false = grind (arith, nat_tests) in rw no refl
    decide d false e = s.at d

-- the frame in front itself
pub settled_front : (n : ℕ) (f : Frame) (a : List (ℕ × Frame)) → Settled (n ∷ []) ((n, f) ∷ a) ((n, cleaned f) ∷ a)
settled_front n f a = record { at = λ d. rw (flips d) (decide d (nat_eq d n)) }
  where
    flips : (d : ℕ) → nat_eq n d ≡ nat_eq d n
    flips d = grind (arith, nat_tests)

    decide : (d : ℕ) (t : Bool) → cond t (Some (cleaned f)) (frame_at a d) ≡ cond (t || false) (option_map cleaned (cond t (Some f) (frame_at a d))) (cond t (Some f) (frame_at a d))
    decide d true = refl
    decide d false = refl

-- once the batch is written, each block shows what it showed

pub page_in_raw : (held : List (ℕ × Frame)) (ns : List ℕ) (d : ℕ) (bytes : List ℕ) → page_in (map (raw_page held) ns) d bytes ≡ cond (list_any (λ b. nat_eq b d) ns) (spelling_of (framed held d)) bytes
page_in_raw held [] d bytes = refl
page_in_raw held (n ∷ ns) d bytes = decide (nat_eq n d) refl (page_in_raw held ns d bytes)
  where
    decide : (t : Bool) → nat_eq n d ≡ t → page_in (map (raw_page held) ns) d bytes ≡ cond (list_any (λ b. nat_eq b d) ns) (spelling_of (framed held d)) bytes
        → cond t (spelling_of (framed held n)) (page_in (map (raw_page held) ns) d bytes) ≡ cond (t || list_any (λ b. nat_eq b d) ns) (spelling_of (framed held d)) bytes
    decide true e rest = let same : n ≡ d = grind (arith, nat_tests) in ap (λ (j : ℕ). spelling_of (framed held j)) same
    decide false e rest = rest

written_shown : (d : ℕ) (o : Option Frame) (p : Page) (bytes : List ℕ) → IsDirty o → IsShown d o bytes p → HasSpelling p → dba_of p ≡ d → page_over o (Zero d) ≡ p → IsShown d (option_map cleaned o) (spelling_of (page_over o (Zero d))) p
written_shown d None p bytes dirty h fits at is = absurd dirty
written_shown d (Some f) p bytes dirty h fits at is = (
  h.0,
  λ c. record {
    spells = ap spelling_of is;
    dba = at;
    reads = ap (meaning_of d) (ap spelling_of is) ∙ ap (λ (n : ℕ). meaning_of n (spelling_of p)) (sym at) ∙ meaning_again p fits;
  },
)

any_dirty : (held : List (ℕ × Frame)) (ns : List ℕ) (d : ℕ) → All (λ j. IsDirty (frame_at held j)) ns → list_any (λ b. nat_eq b d) ns ≡ true → IsDirty (frame_at held d)
any_dirty held [] d all y = absurd (true≢false (sym y))
any_dirty held (n ∷ ns) d all y = decide (nat_eq n d) refl (any_dirty held ns d (λ k i less. all (suc k) i (omega arith))) y
  where
    decide : (t : Bool) → nat_eq n d ≡ t → (list_any (λ b. nat_eq b d) ns ≡ true → IsDirty (frame_at held d)) → (t || list_any (λ b. nat_eq b d) ns) ≡ true → IsDirty (frame_at held d)
    decide true e rest h = let same : n ≡ d = grind (arith, nat_tests) in subst (λ (j : ℕ). IsDirty (frame_at held j)) same (all 0 n (omega arith))
    decide false e rest h = rest h

dirty_framed : (d : ℕ) (o : Option Frame) (p : Page) (bytes : List ℕ) → IsDirty o → IsShown d o bytes p → page_over o (Zero d) ≡ p
dirty_framed d None p bytes dirty h = absurd dirty
dirty_framed d (Some f) p bytes dirty h = h.0

pub shows_put : (sh : Shape) (pages : ℕ → List ℕ) (image : ℕ → Page) (ns : List ℕ) (batch : List RawPage) (old new : List (ℕ × Frame)) → All (λ d. IsDirty (frame_at old d)) ns → batch ≡ map (raw_page old) ns
    → Settled ns old new → ReadBack sh image → Shows sh pages image old → Shows sh (after batch pages) image new
shows_put sh pages image ns batch old new dirty is settled back s = record {
  at = λ d has. rw (is, settled.at d, page_in_raw old ns d (pages d)) (decide d has (list_any (λ b. nat_eq b d) ns) refl);
}
  where
    decide : (d : ℕ) → has_page sh d ≡ true → (t : Bool) → list_any (λ b. nat_eq b d) ns ≡ t
        → IsShown d (cond t (option_map cleaned (frame_at old d)) (frame_at old d)) (cond t (spelling_of (framed old d)) (pages d)) (image d)
    decide d has true e =
        let here : IsDirty (frame_at old d) = any_dirty old ns d dirty e in
        written_shown d (frame_at old d) (image d) (pages d) here (s.at d has) (back.spelled d has) (back.dba d has) (dirty_framed d (frame_at old d) (image d) (pages d) here (s.at d has))
    decide d has false e = s.at d has

pub settled_blocks : (ns : List ℕ) (batch : List RawPage) (held old new : List (ℕ × Frame)) → batch ≡ map (raw_page held) ns → Settled ns old new → Settled (blocks_of batch) old new
settled_blocks ns batch held old new is s = subst (λ (xs : List ℕ). Settled xs old new) (sym (ap blocks_of is ∙ blocks_raw held ns)) s

pub dirty_there : (n : ℕ) (f : Frame) (k : ℕ) (es : List (ℕ × Frame)) → nat_eq k n ≡ false → IsDirty (frame_at ((n, f) ∷ es) k) → IsDirty (frame_at es k)
dirty_there n f k es other h = rw other at h

pub batch_length : (held : List (ℕ × Frame)) (ns : List ℕ) (batch : List RawPage) → batch ≡ map (raw_page held) ns → length batch ≡ length ns
batch_length held ns batch is = ap (λ (ps : List RawPage). length ps) is ∙ each ns
  where
    each : (ns : List ℕ) → length (map (raw_page held) ns) ≡ length ns
    each [] = refl
    each (n ∷ ns) = omega (arith, each ns)

pub batch_due : (upto : ℕ) (held : List (ℕ × Frame)) (ns : List ℕ) (batch : List RawPage) → batch ≡ map (raw_page held) ns → All (λ d. IsDueIn upto (frame_at held d)) ns → All (λ d. IsDueIn upto (frame_at held d)) (blocks_of batch)
batch_due upto held ns batch is due = subst (All (λ d. IsDueIn upto (frame_at held d))) (sym (ap blocks_of is ∙ blocks_raw held ns)) due
