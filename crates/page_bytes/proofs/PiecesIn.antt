-- Pieces read one behind the other.
use Rattle.std.proofs.Common.{◌≡◌, ℕ, zero, suc, ◌+◌, ◌-◌, ◌*◌, ◌<◌, ◌≤◌, List, [], ◌∷◌, ◌++◌, length, take, drop, refl, sym, ap, ◌∙◌, append_assoc, arith, flat_map, append-nil, length-append, length-drop}
use Rattle.seg_words.proofs.Lemmas.{AllByRecursion, flat_map-cons}
use Rattle.page_bytes.specs.Types.{pieces_in}
use Rattle.page_bytes.proofs.Fronts.{take_front, drop_front}

pub length-pieces_in : {A : Type 0} (meaning : List ℕ → A) (size n : ℕ) (bytes : List ℕ) → length (pieces_in meaning size n bytes) ≡ n
unfolding pieces_in
length-pieces_in meaning size zero bytes = refl
length-pieces_in meaning size (suc n) bytes = ap suc (length-pieces_in meaning size n (drop size bytes))

pub length-spelled : {A : Type 0} (spelling : A → List ℕ) (size : ℕ) (xs : List A) → ((x : A) → length (spelling x) ≡ size) → length (flat_map spelling xs) ≡ length xs * size
length-spelled spelling size [] each = omega arith
length-spelled spelling size (x ∷ xs) each =
    let one : length (flat_map spelling (x ∷ xs)) ≡ length (spelling x) + length (flat_map spelling xs) = ap (λ (y : List ℕ). length y) (flat_map-cons spelling x xs) ∙ length-append (spelling x) (flat_map spelling xs) in
    let more : suc (length xs) * size ≡ size + length xs * size = grind arith in
    omega (arith, one, more, each x, length-spelled spelling size xs each)

-- what is spelled is read, whatever follows
pub pieces_again : {A : Type 0} (spelling : A → List ℕ) (meaning : List ℕ → A) (Has : A → Type 0) (size : ℕ) (xs : List A) (rest : List ℕ) → ((x : A) → length (spelling x) ≡ size) → ((x : A) → Has x → meaning (spelling x) ≡ x) → AllByRecursion Has xs
    → pieces_in meaning size (length xs) (flat_map spelling xs ++ rest) ≡ xs
unfolding pieces_in
pieces_again spelling meaning Has size [] rest each again has = refl
pieces_again {A = A} spelling meaning Has size (x ∷ xs) rest each again has =
    let bytes : flat_map spelling (x ∷ xs) ++ rest ≡ spelling x ++ (flat_map spelling xs ++ rest) = ap (λ (y : List ℕ). y ++ rest) (flat_map-cons spelling x xs) ∙ append_assoc (spelling x) (flat_map spelling xs) rest in
    ap (pieces_in meaning size (suc (length xs))) bytes
    ∙ ap (λ (y : List ℕ). meaning y ∷ pieces_in meaning size (length xs) (drop size (spelling x ++ (flat_map spelling xs ++ rest)))) (take_front (spelling x) (flat_map spelling xs ++ rest) size (each x))
    ∙ ap (λ (y : List ℕ). meaning (spelling x) ∷ pieces_in meaning size (length xs) y) (drop_front (spelling x) (flat_map spelling xs ++ rest) size (each x))
    ∙ ap (λ (y : A). y ∷ pieces_in meaning size (length xs) (flat_map spelling xs ++ rest)) (again x has.0)
    ∙ ap (λ (ys : List A). x ∷ ys) (pieces_again spelling meaning Has size xs rest each again has.1)

-- a loop that has read the first i pieces
pub record Reads {A : Type 0} (meaning : List ℕ → A) (size count i : ℕ) (front : List A) (bytes : List ℕ) (all : List A) : Type 0 where
  pub long : (count - i) * size ≤ length bytes
  pub same : front ++ pieces_in meaning size (count - i) bytes ≡ all

pub none_read : {A : Type 0} (meaning : List ℕ → A) (size count : ℕ) (bytes : List ℕ) → count * size ≤ length bytes → Reads meaning size count 0 [] bytes (pieces_in meaning size count bytes)
none_read meaning size count bytes long =
    let z : count - 0 ≡ count = omega arith in
    record { long = rw z long; same = ap (λ (n : ℕ). pieces_in meaning size n bytes) z }

step : {A : Type 0} (meaning : List ℕ → A) (size n k : ℕ) (bytes : List ℕ) → k ≡ suc n → pieces_in meaning size k bytes ≡ meaning (take size bytes) ∷ pieces_in meaning size n (drop size bytes)
unfolding pieces_in
step meaning size n k bytes e = rw e refl

pub piece_fits : (count i size : ℕ) (bytes : List ℕ) → i < count → (count - i) * size ≤ length bytes → size ≤ length bytes
piece_fits count i size bytes lt long =
    let n : ℕ = count - (i + 1) in
    let more : suc n * size ≡ size + n * size = grind arith in
    let k : count - i ≡ suc n = omega arith in
    let l : suc n * size ≤ length bytes = rw k at long in
    omega arith

rest_fits : (count i size : ℕ) (bytes : List ℕ) → i < count → (count - i) * size ≤ length bytes → (count - (i + 1)) * size ≤ length (drop size bytes)
rest_fits count i size bytes lt long =
    let n : ℕ = count - (i + 1) in
    let more : suc n * size ≡ size + n * size = grind arith in
    let k : count - i ≡ suc n = omega arith in
    let l : suc n * size ≤ length bytes = rw k at long in
    omega (arith, length-drop size bytes)

pub one_read : {A : Type 0} (meaning : List ℕ → A) (size count i : ℕ) (front front' : List A) (bytes piece more : List ℕ) (x : A) (all : List A) → i < count → piece ≡ take size bytes → more ≡ drop size bytes → x ≡ meaning piece → front' ≡ front ++ x ∷ []
    → Reads meaning size count i front bytes all → Reads meaning size count (i + 1) front' more all
one_read {A = A} meaning size count i front front' bytes piece more x all lt p m is f r =
    rw (f, m) (record {
      long = rest_fits count i size bytes lt r.long;
      same = append_assoc front (x ∷ []) (pieces_in meaning size (count - (i + 1)) (drop size bytes))
          ∙ ap (λ (y : A). front ++ y ∷ pieces_in meaning size (count - (i + 1)) (drop size bytes)) (is ∙ ap meaning p)
          ∙ ap (λ (ys : List A). front ++ ys) (sym (step meaning size (count - (i + 1)) (count - i) bytes (omega arith))) ∙ r.same;
    })

pub all_read : {A : Type 0} (meaning : List ℕ → A) (size count i : ℕ) (front : List A) (bytes : List ℕ) (all : List A) → count ≤ i → Reads meaning size count i front bytes all → front ≡ all
unfolding pieces_in
all_read meaning size count i front bytes all le r =
    let none : count - i ≡ 0 = omega arith in
    sym (append-nil front) ∙ sym (ap (λ (n : ℕ). front ++ pieces_in meaning size n bytes) none) ∙ r.same
