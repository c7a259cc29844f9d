-- What is spelled is read, and what is read has a spelling: the words of a line.
use Rattle.std.proofs.Common.{◌≡◌, ℕ, zero, suc, ◌^◌, ◌≤◌, ◌<◌, ◌==◌, ◌&&◌, ◌⊎◌, not, Bool, true, false, cond, List, [], ◌∷◌, ◌++◌, length, fold, get_or, slice_index, nat_lt, nat_le, refl, ap, sym, ◌∙◌, arith, rules, Option, Some, None, Ok, Err, eq-eqb, codes, inl, inr, ne_eqb, lt-ltb, ltb-true, ltb-false, leb-true, le-leb, true≢false, decimal, bytes_eq}
use Rattle.std.proofs.lemmas.Str.Parse.{IsNumeralModel, numerals_by_fold}
use Rattle.std.proofs.lemmas.Fmt.{digits_decimal, digits_value-decimal, decimal_nonempty, first_decimal, decimal_digit, decimal-digits_value}
use Rattle.seg_words.specs.Types.{list_all, is_name, is_name_byte}
use Rattle.script_text.specs.Pieces.{cut, number_of, is_number, is_digit, value_of, value_within, with_digit}
use Rattle.script_text.specs.Spelled.{IsText}
use Rattle.script_text.specs.OwnTypes.{RowTooLong}
use Rattle.script_text.specs.Rows.{text_of}

-- ---- tests
pub both_true : (a b : Bool) → (a && b) ≡ true → (a ≡ true) × (b ≡ true)
both_true true b h = (refl, h)
both_true false b h = cc

pub only_if : {A : Type 0} (b : Bool) (x y : A) → cond b (Some x) None ≡ Some y → (b ≡ true) × (x ≡ y)
only_if true x y h = (refl, cc)
only_if false x y h = cc

apart_from : (p : ℕ → Bool) (b c : ℕ) → p b ≡ true → p c ≡ false → b ≡ c → ⊥
apart_from p b c holds fails e = true≢false (sym holds ∙ ap p e ∙ fails)

-- ---- cutting
abbrev Cut : Type 0
Cut = List ℕ × Option (List ℕ)

-- where no byte of the front is c, the cut is behind it
pub cut_front : (p : ℕ → Bool) (c : ℕ) (front rest : List ℕ) → list_all p front ≡ true → p c ≡ false → cut c (front ++ c ∷ rest) ≡ (front, Some rest)
cut_front p c [] rest all apart = ap (λ t. cond {A = Cut} t ([], Some rest) (c ∷ (cut c rest).0, (cut c rest).1)) (eq-eqb c c refl)
cut_front p c (b ∷ bs) rest all apart =
    let each = both_true (p b) (list_all p bs) all in
    let differs = ne_eqb b c (apart_from p b c each.0 apart) in
    ap (λ t. cond {A = Cut} t ([], Some (bs ++ c ∷ rest)) (b ∷ (cut c (bs ++ c ∷ rest)).0, (cut c (bs ++ c ∷ rest)).1)) differs
    ∙ ap (λ (q : Cut). (b ∷ q.0, q.1)) (cut_front p c bs rest each.1 apart)

-- where no byte is c, nothing is cut
pub cut_nowhere : (p : ℕ → Bool) (c : ℕ) (bytes : List ℕ) → list_all p bytes ≡ true → p c ≡ false → cut c bytes ≡ (bytes, None)
cut_nowhere p c [] all apart = refl
cut_nowhere p c (b ∷ bs) all apart =
    let each = both_true (p b) (list_all p bs) all in
    let differs = ne_eqb b c (apart_from p b c each.0 apart) in
    ap (λ t. cond {A = Cut} t ([], Some bs) (b ∷ (cut c bs).0, (cut c bs).1)) differs
    ∙ ap (λ (q : Cut). (b ∷ q.0, q.1)) (cut_nowhere p c bs each.1 apart)

-- ---- names
pub name_bytes : (name : List ℕ) → is_name name ≡ true → list_all is_name_byte name ≡ true
name_bytes name h = (both_true _ _ h).1

pub cut_name : (name rest : List ℕ) → is_name name ≡ true → cut 32 (name ++ 32 ∷ rest) ≡ (name, Some rest)
cut_name name rest h = cut_front is_name_byte 32 name rest (name_bytes name h) refl

pub name_is_word : (name : List ℕ) → is_name name ≡ true → cut 32 name ≡ (name, None)
name_is_word name h = cut_nowhere is_name_byte 32 name (name_bytes name h) refl

-- ---- numbers
own : IsNumeralModel (λ ds. list_all is_digit ds ≡ true) value_of
own = numerals_by_fold (λ ds. list_all is_digit ds ≡ true) (search rules) (λ n ds. fold with_digit n ds) (search rules)

pub decimal_digits : (n : ℕ) → n < 2 ^ 64 → list_all is_digit (decimal n) ≡ true
decimal_digits n big = digits_decimal own n big

pub cut_decimal : (n : ℕ) (rest : List ℕ) → n < 2 ^ 64 → cut 32 (decimal n ++ 32 ∷ rest) ≡ (decimal n, Some rest)
cut_decimal n rest big = cut_front is_digit 32 (decimal n) rest (decimal_digits n big) refl

pub decimal_is_word : (n : ℕ) → n < 2 ^ 64 → cut 32 (decimal n) ≡ (decimal n, None)
decimal_is_word n big = cut_nowhere is_digit 32 (decimal n) (decimal_digits n big) refl

not_both : (a b : Bool) → b ≡ false → not (a && b) ≡ true
not_both true b h = ap not h
not_both false b h = refl

abbrev leads : List ℕ → Bool
leads ds = not (nat_lt 1 (length ds) && (slice_index ds 0 == 48))

decimal_leads : (n : ℕ) → n < 2 ^ 64 → (n < 10) ⊎ (0 < n) → leads (decimal n) ≡ true
decimal_leads n big (inl h) = ap leads (decimal_digit n h)
decimal_leads n big (inr h) =
    let first = first_decimal n h big in
    let differs : get_or (decimal n) 0 0 ≡ 48 → ⊥ = λ e. absurd (omega arith) in
    not_both (nat_lt 1 (length (decimal n))) _ (ne_eqb _ 48 differs)

small_or_more : (n : ℕ) → (n < 10) ⊎ (0 < n)
small_or_more zero = inl (omega arith)
small_or_more (suc n) = inr (omega arith)

three : (a b c : Bool) → a ≡ true → b ≡ true → c ≡ true → (a && b && c) ≡ true
three a b c x y z = ap (λ t. t && b && c) x ∙ ap (λ t. t && c) y ∙ z

pub decimal_is_number : (n : ℕ) → n < 2 ^ 64 → is_number (decimal n) ≡ true
decimal_is_number n big = three (nat_lt 0 (length (decimal n))) (leads (decimal n)) (list_all is_digit (decimal n)) (lt-ltb 0 _ (decimal_nonempty n big)) (decimal_leads n big (small_or_more n)) (decimal_digits n big)

pub number_says : (most n : ℕ) → n ≤ most → n < 2 ^ 64 → number_of most (decimal n) ≡ Some n
unfolding number_of
number_says most n small big =
    let value = digits_value-decimal own n big in
    ap (λ b. cond b (value_within most (decimal n)) None) (decimal_is_number n big) ∙ ap (λ v. cond (nat_le v most) (Some v) None) value ∙ ap (λ b. cond b (Some n) None) (le-leb n most small)

one_digit : (k : ℕ) → 0 < k → nat_lt 1 k ≡ false → k ≡ 1
one_digit k some h = let r = ltb-false 1 k h in omega (arith, r)

not_first : (a b : Bool) → not (a && b) ≡ true → b ≡ true → a ≡ false
not_first true b h k = absurd (true≢false (sym h ∙ ap not k))
not_first false b h k = refl

-- a number has one spelling
pub number_spells : (most n : ℕ) (bytes : List ℕ) → most < 2 ^ 64 → number_of most bytes ≡ Some n → bytes ≡ decimal n
unfolding number_of
number_spells most n bytes big h = within (is_number bytes) refl h
  where
    within : (b : Bool) → is_number bytes ≡ b → cond b (value_within most bytes) None ≡ Some n → bytes ≡ decimal n
    within true is k =
        let v = only_if (nat_le (value_of bytes) most) (value_of bytes) n k in
        let parts = both_true _ _ is in
        let front = both_true _ _ parts.0 in
        let some : 0 < length bytes = ltb-true 0 _ front.0 in
        let small : value_of bytes ≤ most = leb-true _ most v.0 in
        let one : get_or bytes 0 0 ≡ 48 → length bytes ≡ 1 = λ e. one_digit (length bytes) some (not_first _ _ front.1 (eq-eqb _ 48 e)) in
        sym (decimal-digits_value own bytes parts.1 some one (omega arith)) ∙ ap decimal v.1
    within false is k = cc

-- 0 is spelled `0`
pub number_zero : (most : ℕ) (bytes : List ℕ) → most < 2 ^ 64 → number_of most bytes ≡ Some 0 → bytes_eq bytes (codes "0") ≡ true
number_zero most bytes big h = ap (λ z. bytes_eq z (codes "0")) (number_spells most 0 bytes big h ∙ decimal_digit 0 (omega arith))

-- ---- rows
pub text_says : (text : List ℕ) → IsText text → text_of text ≡ Ok text
text_says [] h = absurd (omega (arith, h.0))
text_says (b ∷ bs) h = ap (λ t. cond t (Ok (b ∷ bs)) (Err RowTooLong)) (le-leb (suc (length bs)) 1800 h.1)
