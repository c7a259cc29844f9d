-- Where bytes are cut, and the first part of a split.
use Rattle.std.proofs.Common.{◌≡◌, ℕ, zero, suc, ◌+◌, ◌-◌, ◌<◌, ◌≤◌, Bool, true, false, cond, List, [], ◌∷◌, ◌++◌, length, get_or, take, drop, refl, ap, sym, ◌∙◌, arith, Option, Some, None, eqb, eq-eqb, add-one, ne_eqb, eqb-true, unwrap_or}
use Rattle.seg_words.proofs.Lemmas.{take_rest}
use Rattle.std.proofs.lemmas.List.Splits.{length-slice_split}
use Rattle.std.proofs.lemmas.List.Sums.{count_by-le-length}
use Rattle.seg_words.specs.Types.{onto_first}
use Rattle.std.specs.List.{slice_split}
use Rattle.std.specs.Str.Lines.{lines, lines_of_parts, strip_carriage_return}
use Rattle.script_text.specs.Pieces.{cut, words, words_left}

abbrev Cut : Type 0
Cut = List ℕ × Option (List ℕ)

cut_here : (c b : ℕ) (bs : List ℕ) → b ≡ c → cut c (b ∷ bs) ≡ ([], Some bs)
cut_here c b bs e = ap (λ t. cond {A = Cut} t ([], Some bs) (b ∷ (cut c bs).0, (cut c bs).1)) (eq-eqb b c e)

cut_past : (c b : ℕ) (bs : List ℕ) → (b ≡ c → ⊥) → cut c (b ∷ bs) ≡ (b ∷ (cut c bs).0, (cut c bs).1)
cut_past c b bs ne = ap (λ t. cond {A = Cut} t ([], Some bs) (b ∷ (cut c bs).0, (cut c bs).1)) (ne_eqb b c ne)

abbrev NotBelow : ℕ → List ℕ → ℕ → Type 0
NotBelow c xs i = (k : ℕ) → k < i → get_or xs k 0 ≡ c → ⊥

cut_at : (c : ℕ) (xs : List ℕ) (i : ℕ) → i < length xs → NotBelow c xs i → get_or xs i 0 ≡ c → cut c xs ≡ (take i xs, Some (drop (suc i) xs))
cut_at c [] i lt other at = absurd (omega arith)
cut_at c (b ∷ bs) zero lt other at = cut_here c b bs at
cut_at c (b ∷ bs) (suc i) lt other at =
    let rest : cut c bs ≡ (take i bs, Some (drop (suc i) bs)) = cut_at c bs i (omega arith) (λ k h. other (suc k) (omega arith)) at in
    cut_past c b bs (other 0 (omega arith)) ∙ ap (λ (p : Cut). (b ∷ p.0, p.1)) rest

cut_whole : (c : ℕ) (xs : List ℕ) → NotBelow c xs (length xs) → cut c xs ≡ (xs, None)
cut_whole c [] other = refl
cut_whole c (b ∷ bs) other =
    cut_past c b bs (other 0 (omega arith)) ∙ ap (λ (p : Cut). (b ∷ p.0, p.1)) (cut_whole c bs (λ k h. other (suc k) (omega arith)))

pub cut_before : (c : ℕ) (xs : List ℕ) (i : ℕ) → i < length xs → ((k : ℕ) → k < i → get_or xs k 0 ≡ c → ⊥) → get_or xs i 0 ≡ c → (cut c xs).0 ≡ take i xs
cut_before c xs i lt other at = ap (λ (p : Cut). p.0) (cut_at c xs i lt other at)

pub cut_after : (c : ℕ) (xs : List ℕ) (i : ℕ) → i < length xs → ((k : ℕ) → k < i → get_or xs k 0 ≡ c → ⊥) → get_or xs i 0 ≡ c → (cut c xs).1 ≡ Some (take (length xs - (i + 1)) (drop (i + 1) xs))
cut_after c xs i lt other at = ap (λ (p : Cut). p.1) (cut_at c xs i lt other at) ∙ ap (λ n. Some (drop n xs)) (sym (add-one i)) ∙ ap Some (sym (take_rest xs (i + 1)))

pub cut_none : (c : ℕ) (xs : List ℕ) → ((k : ℕ) → k < length xs → get_or xs k 0 ≡ c → ⊥) → cut c xs ≡ (xs, None)
cut_none c xs other = cut_whole c xs other

-- ---- splitting is cutting again and again
abbrev parts_of : ℕ → Cut → List (List ℕ)
parts_of c (part, None) = part ∷ []
parts_of c (part, Some rest) = part ∷ slice_split (λ b. eqb b c) rest

parts_cons : (c b : ℕ) (p : Cut) → onto_first b (parts_of c p) ≡ parts_of c (b ∷ p.0, p.1)
parts_cons c b (part, None) = refl
parts_cons c b (part, Some rest) = refl

parts_test : (c b : ℕ) (bs : List ℕ) (p : Cut) (t : Bool) → slice_split (λ b. eqb b c) bs ≡ parts_of c p → cond t ([] ∷ slice_split (λ b. eqb b c) bs) (onto_first b (slice_split (λ b. eqb b c) bs)) ≡ parts_of c (cond {A = Cut} t ([], Some bs) (b ∷ p.0, p.1))
parts_test c b bs p true h = refl
parts_test c b bs p false h = ap (onto_first b) h ∙ parts_cons c b p

pub split_cut : (c : ℕ) (bs : List ℕ) → slice_split (λ b. eqb b c) bs ≡ parts_of c (cut c bs)
split_cut c [] = refl
split_cut c (b ∷ bs) = parts_test c b bs (cut c bs) (eqb b c) (split_cut c bs)

pub split_at : (c : ℕ) (bs part rest : List ℕ) → cut c bs ≡ (part, Some rest) → slice_split (λ b. eqb b c) bs ≡ part ∷ slice_split (λ b. eqb b c) rest
split_at c bs part rest h = split_cut c bs ∙ ap (parts_of c) h

pub split_end : (c : ℕ) (bs part : List ℕ) → cut c bs ≡ (part, None) → slice_split (λ b. eqb b c) bs ≡ part ∷ []
split_end c bs part h = split_cut c bs ∙ ap (parts_of c) h

-- ---- lines
-- a part that another follows is a line
lines_more : (part : List ℕ) (p : Cut) → lines_of_parts (part ∷ parts_of 10 p) ≡ strip_carriage_return part ∷ lines_of_parts (parts_of 10 p)
lines_more part (next, None) = refl
lines_more part (next, Some rest) = refl

pub lines_at : (text line rest : List ℕ) → cut 10 text ≡ (line, Some rest) → lines text ≡ strip_carriage_return line ∷ lines rest
lines_at text line rest h =
    ap lines_of_parts (split_at 10 text line rest h ∙ ap (λ (z : List (List ℕ)). line ∷ z) (split_cut 10 rest))
    ∙ lines_more line (cut 10 rest)
    ∙ ap (λ (z : List (List ℕ)). strip_carriage_return line ∷ lines_of_parts z) (sym (split_cut 10 rest))

last_line : (x : List ℕ) → 0 < length x → lines_of_parts (x ∷ []) ≡ x ∷ []
last_line [] h = absurd (omega arith)
last_line (b ∷ bs) h = ap (λ t. cond {A = List (List ℕ)} t [] ((b ∷ bs) ∷ [])) (ne_eqb (suc (length bs)) 0 (λ e. absurd (omega (arith, e))))

pub lines_end : (text line : List ℕ) → cut 10 text ≡ (line, None) → 0 < length line → lines text ≡ line ∷ []
lines_end text line h some = ap lines_of_parts (split_end 10 text line h) ∙ last_line line some

-- ---- both, as the code finds them
abbrev pub joined : ℕ → Cut → List ℕ
joined c (w, None) = w
joined c (w, Some r) = w ++ c ∷ r

joins_cons : (c b : ℕ) (p : Cut) → joined c (b ∷ p.0, p.1) ≡ b ∷ joined c p
joins_cons c b (w, None) = refl
joins_cons c b (w, Some r) = refl

joins_test : (c b : ℕ) (bs : List ℕ) (p : Cut) (t : Bool) → eqb b c ≡ t → joined c p ≡ bs → joined c (cond {A = Cut} t ([], Some bs) (b ∷ p.0, p.1)) ≡ b ∷ bs
joins_test c b bs p true e ih = ap (λ z. z ∷ bs) (sym (eqb-true b c e))
joins_test c b bs p false e ih = joins_cons c b p ∙ ap (λ z. b ∷ z) ih

-- a cut gives the bytes back
pub cut_joins : (c : ℕ) (xs : List ℕ) → joined c (cut c xs) ≡ xs
cut_joins c [] = refl
cut_joins c (b ∷ bs) = joins_test c b bs (cut c bs) (eqb b c) refl (cut_joins c bs)

-- what follows is shorter
cut_shorter : (c : ℕ) (text : List ℕ) → 0 < length text → length (unwrap_or (cut c text).1 []) < length text
cut_shorter c [] h = absurd (omega arith)
cut_shorter c (b ∷ []) h = elim (eqb b c) as (λ t. length (unwrap_or (cond {A = Cut} t ([], Some []) (b ∷ [], None)).1 []) < 1) [ true ↦ omega arith | false ↦ omega arith ]
cut_shorter c (b ∷ d ∷ ds) h =
    let r = cut_shorter c (d ∷ ds) (omega arith) in
    let p : Cut = cut c (d ∷ ds) in
    elim (eqb b c) as (λ t. length (unwrap_or (cond {A = Cut} t ([], Some (d ∷ ds)) (b ∷ p.0, p.1)).1 []) < suc (suc (length ds))) [
      | true ↦ omega arith
      | false ↦ omega arith
    ]

pub rest_shorter : (c : ℕ) (text rest : List ℕ) → Some rest ≡ (cut c text).1 → 0 < length text → length rest < length text
rest_shorter c text rest e h =
    let r = cut_shorter c text h in
    let same : rest ≡ unwrap_or (cut c text).1 [] = ap (λ o. unwrap_or o []) e in
    omega (arith, ap length same)

-- ---- words
-- the first word, and the words that are left
words_of_parts : (p : Cut) → parts_of 32 p ≡ p.0 ∷ words_left p.1
words_of_parts (word, None) = refl
words_of_parts (word, Some rest) = refl

pub words_cut : (bytes : List ℕ) → words bytes ≡ (cut 32 bytes).0 ∷ words_left (cut 32 bytes).1
words_cut bytes = split_cut 32 bytes ∙ words_of_parts (cut 32 bytes)

abbrev pub left_length : Option (List ℕ) → ℕ
left_length None = 0
left_length (Some bytes) = suc (length bytes)

-- a cut leaves less
pub left_shorter : (c : ℕ) (bytes : List ℕ) → left_length (cut c bytes).1 < suc (length bytes)
left_shorter c [] = omega arith
left_shorter c (b ∷ bs) =
    let r = left_shorter c bs in
    elim (eqb b c) as (λ t. left_length (cond {A = Cut} t ([], Some bs) (b ∷ (cut c bs).0, (cut c bs).1)).1 < suc (suc (length bs))) [
      | true ↦ omega arith
      | false ↦ omega arith
    ]

-- ---- how many lines
parts_few : (parts : List (List ℕ)) → length (lines_of_parts parts) ≤ length parts
parts_few [] = omega arith
parts_few (x ∷ []) = elim (eqb (length x) 0) as (λ t. length (cond {A = List (List ℕ)} t [] (x ∷ [])) ≤ 1) [ true ↦ omega arith | false ↦ omega arith ]
parts_few (x ∷ y ∷ more) = let r = parts_few (y ∷ more) in omega (arith, r)

pub few_lines : (text : List ℕ) → length (lines text) ≤ length text + 1
few_lines text =
    let a = parts_few (slice_split (λ b. eqb b 10) text) in
    let b = length-slice_split (λ b. eqb b 10) text in
    let d = count_by-le-length (λ b. eqb b 10) text in
    omega (arith, a, b, d)
