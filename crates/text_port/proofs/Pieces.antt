-- Reading and writing piece by piece.
use Rattle.std.proofs.Common.{◌≡◌, ℕ, ◌+◌, ◌-◌, ◌≤◌, ◌<◌, List, [], ◌++◌, length, take, drop, refl, ap, sym, ◌∙◌, append_assoc, subst, arith, length-append, append-nil, take_at, length-take-le, take-append-drop, drop-drop, Option, Some, None}
use Rattle.seg_words.proofs.Lemmas.{take_rest, drop_all}
use Rattle.std.proofs.Math.Seq.{take-add}
use Rattle.std.specs.Io.KnownBytes.{Consumes, Appends, Keeps, IsAtEnd}
use Rattle.text_port.specs.Whole.{AppendsPrefix, WereAll, WasLonger}

pub consumes_none : (a : Option (List ℕ)) → Consumes a a []
consumes_none None = tt
consumes_none (Some s) = refl

pub consumes_more : (a b c : Option (List ℕ)) (xs ys : List ℕ) → Consumes a b xs → Consumes b c ys → Consumes a c (xs ++ ys)
consumes_more None b c xs ys h k = tt
consumes_more (Some s) None c xs ys h k = absurd h
consumes_more (Some s) (Some t) None xs ys h k = absurd k
consumes_more (Some s) (Some t) (Some u) xs ys h k = h ∙ ap (λ z. xs ++ z) k ∙ sym (append_assoc xs ys u)

pub were_all : (a b : Option (List ℕ)) (xs : List ℕ) → Consumes a b xs → IsAtEnd b → WereAll a xs
were_all None b xs h k = tt
were_all (Some s) None xs h k = absurd h
were_all (Some s) (Some t) xs h k = h ∙ ap (λ z. xs ++ z) k ∙ append-nil xs

pub was_longer : (a b : Option (List ℕ)) (xs : List ℕ) (most : ℕ) → Consumes a b xs → most < length xs → WasLonger a most
was_longer None b xs most h k = tt
was_longer (Some s) None xs most h k = absurd h
was_longer (Some s) (Some t) xs most h k = omega (arith, length-append xs t, ap length h)

pub appends_none : (a : Option (List ℕ)) → Appends a a []
appends_none None = tt
appends_none (Some s) = sym (append-nil s)

pub appends_more : (a b c : Option (List ℕ)) (xs ys : List ℕ) → Appends a b xs → Appends b c ys → Appends a c (xs ++ ys)
appends_more None b c xs ys h k = tt
appends_more (Some s) None c xs ys h k = absurd h
appends_more (Some s) (Some t) None xs ys h k = absurd k
appends_more (Some s) (Some t) (Some u) xs ys h k = k ∙ ap (λ z. z ++ ys) h ∙ append_assoc s xs ys

pub prefix_at : (a b c : Option (List ℕ)) (bytes : List ℕ) (n : ℕ) → n ≤ length bytes → Appends a b (take n bytes) → Keeps b c → AppendsPrefix a c bytes
prefix_at None b c bytes n small h k = tt
prefix_at (Some s) None c bytes n small h k = absurd h
prefix_at (Some s) (Some t) None bytes n small h k = absurd k
prefix_at (Some s) (Some t) (Some u) bytes n small h k = (n, small, k ∙ h)

pub taken_more : (a b c : Option (List ℕ)) (bytes : List ℕ) (n m : ℕ) → Appends a b (take n bytes) → Appends b c (take m (take (length bytes - n) (drop n bytes))) → Appends a c (take (n + m) bytes)
taken_more a b c bytes n m h k =
    let e : take n bytes ++ take m (take (length bytes - n) (drop n bytes)) ≡ take (n + m) bytes = ap (λ z. take n bytes ++ take m z) (take_rest bytes n) ∙ sym (take-add n m bytes) in
    let P : List ℕ → Type 0 = λ z. Appends a c z in
    subst P e (appends_more a b c _ _ h k)

-- a piece of n bytes from a place on, at the front of a buffer
pub piece_at : (xs front buf : List ℕ) (at n : ℕ) → front ≡ take n (drop at xs) → n ≤ length (drop at xs) → drop at xs ≡ take n (front ++ buf) ++ drop (at + n) xs
piece_at xs front buf at n e small =
    let len : length front ≡ n = ap length e ∙ length-take-le n (drop at xs) small in
    sym (take-append-drop n (drop at xs)) ∙ ap (λ z. z ++ drop n (drop at xs)) (sym e) ∙ ap (λ z. z ++ drop n (drop at xs)) (sym (take_at front buf n len)) ∙ ap (λ z. take n (front ++ buf) ++ z) (drop-drop n at xs)

-- a piece of no bytes where some fit is at the end
pub empty_at : (xs : List ℕ) (at n : ℕ) → n ≡ 0 → length xs ≤ at → drop (at + n) xs ≡ []
empty_at xs at n z small = grind (arith, drop_all)
