-- A Clean names few transactions, each of a number that can be written.
use Rattle.std.proofs.Common.{◌≡◌, ℕ, suc, ◌<◌, ◌≤◌, Bool, true, false, cond, not, eqb, List, [], ◌∷◌, ◌++◌, length, map, filter, Option, Some, None, refl, sym, ◌∙◌, ap, subst, arith, inl, inr, length-append, true≢false, eqb-true, ne_eqb, eq-eqb}
use Rattle.seg_words.proofs.Lemmas.{cond_both, cond-true, cond-false, cases_Bool, and_parts, or_cases, or_left, or_right}
use Rattle.seg_words.specs.Types.{AllByRecursion, Shape, ListEntry, Slot, Writer, By, At, Block, number_of, writer_number}
use Rattle.redo_model.specs.Records.{Record, CleanRecord, IsClean}
use Rattle.redo_model.specs.Model.{commit_count, is_commit, is_begin, is_active, has_begun, commit_number, is_forgotten, is_by, slots_of, entries_of, block_of, slots_name, entries_name, is_named_in, number_or_zero, stated_number, IsRising, CleanAllowed, under_high, high_mark, data_blocks}
use Rattle.redo_model.proofs.Bridge.{count_is, entry_count_is}
use Rattle.redo_laws.proofs.space.Apart.{filter_has}
use Rattle.redo_laws.proofs.numbers.Bounds.{count_short, data_bound}
use Rattle.redo_laws.proofs.space.Places.{in_left, in_right, in_contains, in_take}
use Rattle.redo_laws.proofs.room.RoomLaw.{RoomIn}
use Rattle.redo_laws.proofs.spelled.SpelledRows.{AreNumbers, Before}
use Rattle.redo_laws.proofs.numbers.TxnTable.{TxnTable, txn_table}
use Rattle.redo_laws.specs.Among.{is_in}

-- transactions in rising order

above : (c : ℕ × ℕ) (cs : List (ℕ × ℕ)) (t n : ℕ) → IsRising (c ∷ cs) → number_of cs t ≡ Some n → c.0 < t
above c [] t n r e = absurd (let x : ◌≡◌ {A = Option ℕ} None (Some n) = e in cc)
above c (d ∷ cs) t n r e =
    elim (cases_Bool (eqb d.0 t)) [
      | inl y ↦ subst (λ k. c.0 < k) (eqb-true d.0 t y) r.0
      | inr f ↦ let l = r.0 in let u = above d cs t n r.1 (sym (cond-false _ _ _ f) ∙ e) in omega (arith, l, u)
    ]

rest_rises : (c : ℕ × ℕ) (cs : List (ℕ × ℕ)) → IsRising (c ∷ cs) → IsRising cs
rest_rises c [] r = tt
rest_rises c (d ∷ cs) r = r.1

head_number : (c : ℕ × ℕ) (cs : List (ℕ × ℕ)) → number_of (c ∷ cs) c.0 ≡ Some c.1
head_number c cs = cond-true _ _ _ (eq-eqb c.0 c.0 refl)

rest_number : (c : ℕ × ℕ) (cs : List (ℕ × ℕ)) (t n : ℕ) → IsRising (c ∷ cs) → number_of cs t ≡ Some n → number_of (c ∷ cs) t ≡ Some n
rest_number c cs t n r e = cond-false _ _ _ (ne_eqb c.0 t (λ s. let l = above c cs t n r e in absurd (omega (arith, l, s)))) ∙ e

each_number : (cs : List (ℕ × ℕ)) → IsRising cs → ((t n : ℕ) → number_of cs t ≡ Some n → AreNumbers (t, n)) → AllByRecursion AreNumbers cs
each_number [] r f = tt
each_number (c ∷ cs) r f = (f c.0 c.1 (head_number c cs), each_number cs (rest_rises c cs r) (λ t n e. f t n (rest_number c cs t n r e)))

-- as many as there are in a list that has each of them, at most

filter_short : (p : ℕ → Bool) (xs : List ℕ) → length (filter p xs) ≤ length xs
filter_short p [] = omega arith
filter_short p (x ∷ xs) = let k = filter_short p xs in elim (p x) as (λ v. length (cond v (x ∷ filter p xs) (filter p xs)) ≤ suc (length xs)) [ true ↦ omega (arith, k) | false ↦ omega (arith, k) ]

abbrev other : ℕ → ℕ → Bool
other d x = not (eqb x d)

fewer : (d : ℕ) (xs : List ℕ) → is_in d xs ≡ true → suc (length (filter (other d) xs)) ≤ length xs
fewer d [] h = absurd (true≢false (sym h))
fewer d (x ∷ xs) h =
    (elim (eqb x d) as (λ v. eqb x d ≡ v → suc (length (cond (not v) (x ∷ filter (other d) xs) (filter (other d) xs))) ≤ suc (length xs)) [
      | true ↦ λ e. let k = filter_short (other d) xs in omega (arith, k)
      | false ↦ λ e. let k = fewer d xs (elim (or_cases (eqb x d) (is_in d xs) h) [ inl y ↦ absurd (true≢false (sym y ∙ e)) | inr y ↦ y ]) in omega (arith, k)
    ]) refl

rising_few : (cs : List (ℕ × ℕ)) (xs : List ℕ) → IsRising cs → ((t n : ℕ) → number_of cs t ≡ Some n → is_in t xs ≡ true) → length cs ≤ length xs
rising_few [] xs r f = omega arith
rising_few (c ∷ cs) xs r f =
    let l = fewer c.0 xs (f c.0 c.1 (head_number c cs)) in
    let k = rising_few cs (filter (other c.0) xs) (rest_rises c cs r) (λ t n e. filter_has (other c.0) t xs (f t n (rest_number c cs t n r e)) (ap not (ne_eqb t c.0 (λ s. let u = above c cs t n r e in absurd (omega (arith, u, s)))))) in
    omega (arith, l, k)

-- the numbers that a block names

abbrev slot_numbers : List Slot → List ℕ
slot_numbers ss = map (λ (s : Slot). writer_number s.writer) ss

abbrev entry_numbers : List ListEntry → List ℕ
entry_numbers es = map (λ (e : ListEntry). e.txn) es

by_number : (w : Writer) (t : ℕ) → is_by w t ≡ true → eqb (writer_number w) t ≡ true
by_number (By u) t h = h
by_number (At m) t h = absurd (true≢false (sym h))

slots_have : (ss : List Slot) (t : ℕ) → slots_name ss t ≡ true → is_in t (slot_numbers ss) ≡ true
slots_have [] t h = absurd (true≢false (sym h))
slots_have (s ∷ ss) t h = elim (or_cases (is_by s.writer t) (slots_name ss t) h) [ inl y ↦ or_left _ _ (by_number s.writer t y) | inr y ↦ or_right (eqb (writer_number s.writer) t) _ (slots_have ss t y) ]

entries_have : (es : List ListEntry) (t : ℕ) → entries_name es t ≡ true → is_in t (entry_numbers es) ≡ true
entries_have [] t h = absurd (true≢false (sym h))
entries_have (e ∷ es) t h = elim (or_cases (eqb e.txn t) (entries_name es t) h) [ inl y ↦ or_left _ _ y | inr y ↦ or_right (eqb e.txn t) _ (entries_have es t y) ]

abbrev block_numbers : Block → List ℕ
block_numbers b = slot_numbers b.slots ++ entry_numbers b.entries

block_has : (b : Block) (t : ℕ) → is_named_in b t ≡ true → is_in t (block_numbers b) ≡ true
block_has b t h = elim (or_cases (slots_name b.slots t) (entries_name b.entries t) h) [ inl y ↦ in_left t _ _ (slots_have b.slots t y) | inr y ↦ in_right t (slot_numbers b.slots) _ (entries_have b.entries t y) ]

map_length : {A : Type 0} (f : A → ℕ) (xs : List A) → length (map f xs) ≡ length xs
map_length f [] = refl
map_length f (x ∷ xs) = ap (λ n. suc n) (map_length f xs)

block_few : (R : List Record) (b : ℕ) → RoomIn R b → length (block_numbers (block_of R b)) ≤ 108
block_few R b r =
    let l = length-append (slot_numbers (slots_of R b)) (entry_numbers (entries_of R b)) in
    let s = map_length (λ (x : Slot). writer_number x.writer) (slots_of R b) in
    let e = map_length (λ (x : ListEntry). x.txn) (entries_of R b) in
    let c = count_is R b in
    let d = entry_count_is R b in
    let m = r.slots in
    let n = r.entries_to in
    omega (arith, l, s, e, c, d, m, n)

number_low : (R : List Record) (t : ℕ) (o : Option ℕ) → TxnTable R → commit_number R t ≡ o → number_or_zero o ≤ commit_count R
number_low R t None h e = omega arith
number_low R t (Some c) h e = (h.done t c e).2

pub clean_numbers : (sh : Shape) (R : List Record) (c : CleanRecord) → Before sh R → CleanAllowed sh R c → AllByRecursion AreNumbers c.ended
clean_numbers sh R c q a = each_number c.ended a.rising (λ t n e.
    let x = a.each t n e in
    let h = txn_table sh R q.allowed in
    let begun = h.most t (and_parts (has_begun R t) (not (is_active R t)) x.ended).0 in
    let least = count_short is_begin R in
    let most = count_short is_commit R in
    let number : stated_number R t ≤ commit_count R = cond_both (is_forgotten R t) 0 (number_or_zero (commit_number R t)) (λ k. k ≤ commit_count R) (λ y. omega arith) (λ f. number_low R t (commit_number R t) h refl) in
    let same = x.number in
    let short = q.short in
    (omega (arith, begun, least, short), omega (arith, number, most, same, short)))

pub clean_spelled : (sh : Shape) (R : List Record) (c : CleanRecord) → Before sh R → CleanAllowed sh R c → IsClean c
clean_spelled sh R c q a =
    let here = a.here.here in
    let d = data_bound sh R a.obj c.dba q.allowed (in_take c.dba (high_mark R a.obj) (data_blocks sh R a.obj) (in_contains (under_high sh R a.obj) c.dba here.0 here.1 here.2)) in
    let to = d.1 in
    let most = q.limits.most in
    let few = rising_few c.ended (block_numbers (block_of R c.dba)) a.rising (λ t n e. block_has (block_of R c.dba) t (a.each t n e).named) in
    let all = block_few R c.dba (q.room c.dba) in
    record { dba = omega (arith, to, most); count = omega (arith, few, all); each = clean_numbers sh R c q a }
