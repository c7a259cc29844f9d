-- The frame that is given away is the least recently used clean one.
use Rattle.std.proofs.Common.{◌≡◌, ℕ, zero, suc, ◌+◌, ◌<◌, Bool, true, false, not, ◌||◌, nat_eq, List, [], ◌∷◌, ◌++◌, length, append_assoc, Option, Some, None, IsSome, refl, sym, ap, subst, arith, ◌∙◌, Result, Ok, Err, OnOk}
use Rattle.std.specs.List.{AllByRecursion, IsDistinct}
use Rattle.std.specs.Map.{keys_of, remove_entry}
use Rattle.std.specs.Option.{option_map_or}
use Rattle.std.proofs.lemmas.Bool.{true≢false, eq-eqb}
use Rattle.std.proofs.lemmas.Bool.Decides.{nat_tests}
use Rattle.lru.specs.LruCache.{promoted}
use Rattle.seg_words.specs.Types.{TXN_TABLE_BLOCK}
use Rattle.buffer_pool.specs.declared.frame.Frame.{Frame}
use Rattle.buffer_pool.specs.declared.frame.TheConstants.{FRAMES}
use Rattle.buffer_pool.specs.Frames.{dirty_count, frame_at, weight}
use Rattle.buffer_pool.specs.Recent.{has_clean, without_oldest, Brought, Gives, Moves}
use Rattle.buffer_pool.proofs.Entries.{no_entry}
use Rattle.buffer_pool.proofs.Installs.{count_front, dirty_count-le-length, weight_le}
use Rattle.buffer_pool.proofs.Scans.{Scanned}

weight_one : (f : Frame) → weight f ≡ 1 → f.dirty ≡ true
weight_one f h = decide f.dirty refl
  where
    apart : (n : ℕ) → n ≡ 0 → n ≡ 1 → ⊥
    apart n none one = omega (arith, none, one)

    decide : (t : Bool) → f.dirty ≡ t → f.dirty ≡ true
    decide true is = is
    decide false is = absurd (apart (weight f) (rw is refl) h)

all_dirty : (es : List (ℕ × Frame)) → dirty_count es ≡ length es → has_clean es ≡ false
all_dirty [] h = refl
all_dirty (e ∷ es) h =
    let sum : weight e.1 + dirty_count es ≡ dirty_count (e ∷ es) = count_front e.0 e.1 es in
    let least = weight_le e.1 in
    let most = dirty_count-le-length es in
    let dirty : e.1.dirty ≡ true = weight_one e.1 (omega (arith, sum, least, most, h)) in
    rw dirty (all_dirty es (omega (arith, sum, least, most, h)))

or_true : (a b : Bool) → b ≡ true → (a || b) ≡ true
or_true true b h = refl
or_true false b h = h

clean_within : (front : List (ℕ × Frame)) (e : ℕ × Frame) (rest : List (ℕ × Frame)) → e.1.dirty ≡ false → has_clean (front ++ e ∷ rest) ≡ true
clean_within [] e rest clean = rw clean refl
clean_within (x ∷ front) e rest clean = or_true (not x.1.dirty) (has_clean (front ++ e ∷ rest)) (clean_within front e rest clean)

without_last : (front : List (ℕ × Frame)) (e : ℕ × Frame) (rest : List (ℕ × Frame)) → e.1.dirty ≡ false → has_clean rest ≡ false → without_oldest (front ++ e ∷ rest) ≡ front ++ rest
without_last [] e rest clean none = rw (none, clean) refl
without_last (x ∷ front) e rest clean none = rw (clean_within front e rest clean) (ap (λ (es : List (ℕ × Frame)). x ∷ es) (without_last front e rest clean none))

another : (front : List (ℕ × Frame)) (e : ℕ × Frame) (rest : List (ℕ × Frame)) (k : ℕ) → AllByRecursion (λ y. nat_eq k y ≡ false) (keys_of (front ++ e ∷ rest)) → nat_eq e.0 k ≡ false
another [] e rest k h = let no : nat_eq k e.0 ≡ false = h.0 in grind (arith, nat_tests, no)
another (x ∷ front) e rest k h = another front e rest k h.1

remove_within : (front : List (ℕ × Frame)) (e : ℕ × Frame) (rest : List (ℕ × Frame)) → IsDistinct nat_eq (keys_of (front ++ e ∷ rest)) → remove_entry (nat_eq e.0) (front ++ e ∷ rest) ≡ front ++ rest
unfolding IsDistinct
remove_within [] e rest apart = let same : nat_eq e.0 e.0 ≡ true = grind (arith, nat_tests) in rw same refl
remove_within (x ∷ front) e rest apart = rw (another front e rest x.0 apart.0) (ap (λ (es : List (ℕ × Frame)). x ∷ es) (remove_within front e rest apart.1))

pub scanned_oldest : (es front new : List (ℕ × Frame)) (e : ℕ × Frame) → Scanned es front → front ≡ new ++ e ∷ [] → IsDistinct nat_eq (keys_of es) → e.1.dirty ≡ false → remove_entry (nat_eq e.0) es ≡ without_oldest es
scanned_oldest es front new e s is apart clean =
    let whole : es ≡ new ++ (e ∷ s.rest) = s.whole ∙ (rw is (append_assoc new (e ∷ []) s.rest)) in
    let apart2 = subst (λ (xs : List (ℕ × Frame)). IsDistinct nat_eq (keys_of xs)) whole apart in
    subst (λ (xs : List (ℕ × Frame)). remove_entry (nat_eq e.0) xs ≡ without_oldest xs) (sym whole) (remove_within new e s.rest apart2 ∙ sym (without_last new e s.rest clean (all_dirty s.rest s.dirty)))

-- one more goes, where there was no room
pub gives_more : (more cap : ℕ) (old now new : List (ℕ × Frame)) → Gives more cap old now → cap < length now + more → length new + 1 ≡ length now → new ≡ without_oldest now → Gives more cap old new
gives_more more cap old now new g full shorter is = record {
  gone = suc g.gone;
  left = is ∙ ap without_oldest g.left;
  count = omega (arith, g.count, shorter);
  must = λ h. omega (arith, full, shorter);
}

pub gives_none : (more cap : ℕ) (es : List (ℕ × Frame)) → Gives more cap es es
gives_none more cap es = record { gone = zero; left = refl; count = omega arith; must = λ h. absurd (omega (arith, h)) }

-- a block without a frame isn't moved
pub promoted_none : (k : ℕ) (es : List (ℕ × Frame)) → frame_at es k ≡ None → promoted (nat_eq k) es ≡ es
promoted_none k es h = ap (λ (o : Option (ℕ × Frame)). option_map_or (λ f. f ∷ remove_entry (nat_eq k) es) o es) (no_entry k es h)

pub brought_from : (cap cap2 d : ℕ) (es es2 new : List (ℕ × Frame)) → cap2 ≡ cap → es2 ≡ es → Brought cap2 d es2 new → Brought cap d es new
brought_from cap cap2 d es es2 new same is b = subst (λ (n : ℕ). Brought n d es new) same (subst (λ (xs : List (ℕ × Frame)). Brought cap2 d xs new) is b)

pub gives_from : (cap cap2 : ℕ) (es es2 new : List (ℕ × Frame)) → cap2 ≡ cap → es2 ≡ es → Gives 1 cap2 es2 new → Gives 1 cap es new
gives_from cap cap2 es es2 new same is g = subst (λ (n : ℕ). Gives 1 n es new) same (subst (λ (xs : List (ℕ × Frame)). Gives 1 cap2 xs new) is g)

pub no_both : (o : Option Frame) → IsSome o → o ≡ None → ⊥
no_both None h e = true≢false (sym h)
no_both (Some f) h e = apart e
  where
    apart : Some f ≡ None → ⊥
    apart e = cc

-- behind the frame of the transaction table

module _ (d : ℕ) (f : Frame) (old new : List (ℕ × Frame)) where
  pub moves_behind : nat_eq d TXN_TABLE_BLOCK ≡ false → (IsSome (frame_at old d) → new ≡ promoted (nat_eq d) old) → (frame_at old d ≡ None → Brought FRAMES d old new) → Moves d ((TXN_TABLE_BLOCK, f) ∷ old) ((TXN_TABLE_BLOCK, f) ∷ new)
  moves_behind other hit miss = record {
    table = refl;
    itself = λ is. absurd (differs is other);
    hit = λ no has. hit (rw other at has);
    miss = λ none. miss (rw other at none);
  }
    where
      differs : d ≡ TXN_TABLE_BLOCK → nat_eq d TXN_TABLE_BLOCK ≡ false → ⊥
      differs is other = true≢false (sym (eq-eqb d TXN_TABLE_BLOCK is) ∙ other)

pub moves_first : (d : ℕ) (held : List (ℕ × Frame)) → d ≡ TXN_TABLE_BLOCK → IsSome (frame_at held d) → Moves d held held
moves_first d held is has = record {
  table = refl;
  itself = λ e. refl;
  hit = λ other has2. absurd (differs other);
  miss = λ none. absurd (no_both (frame_at held d) has none);
}
  where
    differs : nat_eq d TXN_TABLE_BLOCK ≡ false → ⊥
    differs other = true≢false (sym (eq-eqb d TXN_TABLE_BLOCK is) ∙ other)

pub moves_fetched : {A E : Type 0} (r : Result A E) (d : ℕ) (f : Frame) (old new : List (ℕ × Frame)) → nat_eq d TXN_TABLE_BLOCK ≡ false → (IsSome (frame_at old d) → new ≡ promoted (nat_eq d) old)
    → (frame_at old d ≡ None → OnOk r (Brought FRAMES d old new)) → OnOk r (Moves d ((TXN_TABLE_BLOCK, f) ∷ old) ((TXN_TABLE_BLOCK, f) ∷ new))
moves_fetched (Ok a) d f old new other hit miss = moves_behind d f old new other hit miss
moves_fetched (Err e) d f old new other hit miss = tt
