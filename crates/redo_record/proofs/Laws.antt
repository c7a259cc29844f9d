-- A form: what a reader takes is spelled so, and what is spelled so is read, whatever follows.
use Rattle.std.proofs.Common.{◌≡◌, ℕ, zero, suc, ◌+◌, ◌^◌, ◌<◌, ◌≤◌, Bool, true, false, cond, ltb, List, [], ◌∷◌, ◌++◌, length, get_or, take, drop, Option, Some, None, refl, sym, ap, subst, ◌∙◌, append_assoc, arith, inl, inr, w16, w32, w64, flat_map, ltb-false, le-ltb, take_at, drop_at, take-append-drop, length-append, length-take, get_or-drop, get_or-take}
use Rattle.seg_words.proofs.Lemmas.{Width, byte_len, from_be_bytes, to_be_bytes, AllByRecursion, cases_lt, get_or_past, flat_map-cons, be_bytes_2, be_bytes_4, be_bytes_8, from_be_bytes-to_be_bytes_2, from_be_bytes-to_be_bytes_4, from_be_bytes-to_be_bytes_8}
use Rattle.redo_record.specs.Types.{big_endian, Reader, ◌>>=◌, byte, number, text, both, chosen, made, tested, many}

abbrev pub IsBytes : List ℕ → Type 0
IsBytes bytes = (i : ℕ) → get_or bytes i 0 < 256

IsBytes-drop : (n : ℕ) (bytes : List ℕ) → IsBytes bytes → IsBytes (drop n bytes)
IsBytes-drop n bytes h i = rw get_or-drop (h (n + i))

IsBytes-take : (n : ℕ) (bytes : List ℕ) → IsBytes bytes → IsBytes (take n bytes)
IsBytes-take n bytes h i =
    elim (cases_lt i n) [
      | inl lt ↦ rw (get_or-take n bytes i 0 lt) (h i)
      | inr le ↦ rw (get_or_past (take n bytes) i 0 (omega (arith, length-take n bytes))) (omega arith)
    ]

-- the value of a step that found one
pub bind_some : {A B : Type 0} (o : Option A) (f : A → Option B) (y : B) → (o >>= f) ≡ Some y → (x : A) × (o ≡ Some x) × (f x ≡ Some y)
bind_some (Some x) f y e = (x, refl, e)
bind_some None f y e = absurd cc

-- a test that was passed
pub test_some : {A : Type 0} (b : Bool) (x y : A) → cond b (Some x) None ≡ Some y → (b ≡ true) × (x ≡ y)
test_some true x y e = (refl, cc)
test_some false x y e = absurd cc

pub refused_some : {A : Type 0} (b : Bool) (x y : A) → cond b None (Some x) ≡ Some y → (b ≡ false) × (x ≡ y)
refused_some true x y e = absurd cc
refused_some false x y e = (refl, cc)

abbrev found : {A : Type 0} → A → Option A
found x = Some x

pub some_is : {A : Type 0} (x y : A) → found x ≡ found y → x ≡ y
some_is x y e = cc

-- what a reader took from the front
pub record Takes (bytes front rest : List ℕ) : Type 0 where
  pub parts : bytes ≡ front ++ rest
  pub rest_fits : IsBytes rest

pub Takes-then : (a x b y c : List ℕ) → Takes a x b → Takes b y c → Takes a (x ++ y) c
Takes-then a x b y c p q = record { parts = p.parts ∙ ap (λ (t : List ℕ). x ++ t) q.parts ∙ sym (append_assoc x y c); rest_fits = q.rest_fits }

pub record Spells {A : Type 0} (r : Reader A) (s : A → List ℕ) (F : A → Type 0) : Type 0 where
  pub takes : (bytes : List ℕ) (x : A) (rest : List ℕ) → IsBytes bytes → r bytes ≡ Some (x, rest) → Takes bytes (s x) rest × F x
  pub again : (x : A) (rest : List ℕ) → F x → r (s x ++ rest) ≡ Some (x, rest)

-- the same with the spelling put otherwise
pub spell_as : {A : Type 0} {r : Reader A} {s : A → List ℕ} {F : A → Type 0} (t : A → List ℕ) → ((x : A) → s x ≡ t x) → Spells r s F → Spells r t F
spell_as {A} {r} {s} {F} t same spells = record {
  takes = λ bytes x rest are e. let taken = spells.takes bytes x rest are e in (rw (← same x) taken.0, taken.1);
  again = λ x rest h. ap (λ (bytes : List ℕ). r (bytes ++ rest)) (sym (same x)) ∙ spells.again x rest h;
}

-- ---- bytes

IsBytes-rest : (b : ℕ) (bytes : List ℕ) → IsBytes (b ∷ bytes) → IsBytes bytes
IsBytes-rest b bytes h i = h (suc i)

byte_takes : (bytes : List ℕ) (x : ℕ) (rest : List ℕ) → IsBytes bytes → byte bytes ≡ Some (x, rest) → Takes bytes (x ∷ []) rest × (x < 2 ^ 8)
byte_takes [] x rest fits e = absurd cc
byte_takes (b ∷ bs) x rest fits e =
    let P : ℕ × List ℕ → Type 0 = λ p. Takes (b ∷ bs) (p.0 ∷ []) p.1 × (p.0 < 2 ^ 8) in
    subst P (some_is (b, bs) (x, rest) e) (record { parts = refl; rest_fits = IsBytes-rest b bs fits }, fits 0)

pub byte_spells : Spells byte (λ b. b ∷ []) (λ b. b < 2 ^ 8)
byte_spells = record { takes = byte_takes; again = λ x rest h. refl }

-- ---- texts

text_takes : (n : ℕ) (bytes : List ℕ) (x : List ℕ) (rest : List ℕ) → IsBytes bytes → text n bytes ≡ Some (x, rest) → Takes bytes x rest × (length x ≡ n)
text_takes n bytes x rest fits e =
    let g = refused_some (ltb (length bytes) n) (take n bytes, drop n bytes) (x, rest) e in
    let long : n ≤ length bytes = ltb-false _ _ g.0 in
    let P : List ℕ × List ℕ → Type 0 = λ p. Takes bytes p.0 p.1 × (length p.0 ≡ n) in
    subst P g.1 (record { parts = sym (take-append-drop n bytes); rest_fits = IsBytes-drop n bytes fits }, omega (arith, length-take n bytes))

text_again : (n : ℕ) (x rest : List ℕ) → length x ≡ n → text n (x ++ rest) ≡ Some (x, rest)
text_again n x rest len =
    let long : ltb (length (x ++ rest)) n ≡ false = le-ltb _ _ (omega (arith, length-append x rest)) in
    rw (long, take_at x rest n len, drop_at x rest n len) refl

pub text_spells : (n : ℕ) → Spells (text n) (λ t. t) (λ t. length t ≡ n)
text_spells n = record { takes = text_takes n; again = text_again n }

-- ---- numbers

pub record IsWide (w : Width) (limit : ℕ) : Type 0 where
  pub len : (n : ℕ) → length (to_be_bytes w n) ≡ byte_len w
  pub back : (bytes : List ℕ) → length bytes ≡ byte_len w → IsBytes bytes → to_be_bytes w (from_be_bytes w bytes) ≡ bytes
  pub again : (n : ℕ) → n < limit → from_be_bytes w (to_be_bytes w n) ≡ n
  pub below : (bytes : List ℕ) → IsBytes bytes → from_be_bytes w bytes < limit

wide16 : IsWide w16 (2 ^ 16)
wide16 = record {
  len = λ n. refl;
  back = λ bytes len fits. be_bytes_2 bytes _ len fits refl;
  again = λ n lt. from_be_bytes-to_be_bytes_2 n lt;
  below = λ bytes fits. omega (arith, fits 0, fits 1);
}

wide32 : IsWide w32 (2 ^ 32)
wide32 = record {
  len = λ n. refl;
  back = λ bytes len fits. be_bytes_4 bytes _ len fits refl;
  again = λ n lt. from_be_bytes-to_be_bytes_4 n lt;
  below = λ bytes fits. omega (arith, fits 0, fits 1, fits 2, fits 3);
}

wide64 : IsWide w64 (2 ^ 64)
wide64 = record {
  len = λ n. refl;
  back = λ bytes len fits. be_bytes_8 bytes _ len fits refl;
  again = λ n lt. from_be_bytes-to_be_bytes_8 n lt;
  below = λ bytes fits. omega (arith, fits 0, fits 1, fits 2, fits 3, fits 4, fits 5, fits 6, fits 7);
}

number_takes : (w : Width) (limit : ℕ) (wide : IsWide w limit) (bytes : List ℕ) (n : ℕ) (rest : List ℕ) → IsBytes bytes → number w bytes ≡ Some (n, rest) → Takes bytes (to_be_bytes w n) rest × (n < limit)
number_takes w limit wide bytes n rest fits e =
    let g = refused_some (ltb (length bytes) (byte_len w)) (from_be_bytes w (take (byte_len w) bytes), drop (byte_len w) bytes) (n, rest) e in
    let long : byte_len w ≤ length bytes = ltb-false _ _ g.0 in
    let n-is : from_be_bytes w (take (byte_len w) bytes) ≡ n = ap (λ (p : ℕ × List ℕ). p.0) g.1 in
    let rest-is : drop (byte_len w) bytes ≡ rest = ap (λ (p : ℕ × List ℕ). p.1) g.1 in
    let front : to_be_bytes w n ≡ take (byte_len w) bytes = rw (← n-is) (wide.back (take (byte_len w) bytes) (omega (arith, length-take (byte_len w) bytes)) (IsBytes-take (byte_len w) bytes fits)) in
    (record { parts = rw (front, ← rest-is) (sym (take-append-drop (byte_len w) bytes)); rest_fits = rw (← rest-is) (IsBytes-drop (byte_len w) bytes fits) }, rw (← n-is) (wide.below (take (byte_len w) bytes) (IsBytes-take (byte_len w) bytes fits)))

number_again : (w : Width) (limit : ℕ) (wide : IsWide w limit) (n : ℕ) (rest : List ℕ) → n < limit → number w (to_be_bytes w n ++ rest) ≡ Some (n, rest)
number_again w limit wide n rest lt =
    let len = wide.len n in
    let long : ltb (length (to_be_bytes w n ++ rest)) (byte_len w) ≡ false = le-ltb _ _ (omega (arith, length-append (to_be_bytes w n) rest)) in
    rw (long, take_at (to_be_bytes w n) rest (byte_len w) len, drop_at (to_be_bytes w n) rest (byte_len w) len, wide.again n lt) refl

pub spells16 : Spells (number w16) (big_endian w16) (λ n. n < 2 ^ 16)
unfolding big_endian
spells16 = record { takes = number_takes w16 (2 ^ 16) wide16; again = number_again w16 (2 ^ 16) wide16 }

pub spells32 : Spells (number w32) (big_endian w32) (λ n. n < 2 ^ 32)
unfolding big_endian
spells32 = record { takes = number_takes w32 (2 ^ 32) wide32; again = number_again w32 (2 ^ 32) wide32 }

pub spells64 : Spells (number w64) (big_endian w64) (λ n. n < 2 ^ 64)
unfolding big_endian
spells64 = record { takes = number_takes w64 (2 ^ 64) wide64; again = number_again w64 (2 ^ 64) wide64 }

-- ---- one behind the other

both_takes : {A B : Type 0} (r : Reader A) (s : A → Reader B) (a : A → List ℕ) (b : B → List ℕ) (F : A → Type 0) (G : A → B → Type 0) → Spells r a F → ((x : A) → Spells (s x) b (G x))
    → (bytes : List ℕ) (p : A × B) (rest : List ℕ) → IsBytes bytes → both r s bytes ≡ Some (p, rest) → Takes bytes (a p.0 ++ b p.1) rest × (F p.0 × G p.0 p.1)
both_takes {A} {B} r s a b F G one other bytes p rest fits e =
    let x = bind_some (r bytes) (λ x. s x.0 x.1 >>= λ y. Some ((x.0, y.0), y.1)) (p, rest) e in
    let y = bind_some (s x.0.0 x.0.1) (λ y. Some ((x.0.0, y.0), y.1)) (p, rest) x.2 in
    let first = one.takes bytes x.0.0 x.0.1 fits x.1 in
    let second = (other x.0.0).takes x.0.1 y.0.0 y.0.1 first.0.rest_fits y.1 in
    let P : (A × B) × List ℕ → Type 0 = λ q. Takes bytes (a q.0.0 ++ b q.0.1) q.1 × (F q.0.0 × G q.0.0 q.0.1) in
    subst P (some_is ((x.0.0, y.0.0), y.0.1) (p, rest) y.2) (Takes-then bytes (a x.0.0) x.0.1 (b y.0.0) y.0.1 first.0 second.0, (first.1, second.1))

both_again : {A B : Type 0} (r : Reader A) (s : A → Reader B) (a : A → List ℕ) (b : B → List ℕ) (F : A → Type 0) (G : A → B → Type 0) → Spells r a F → ((x : A) → Spells (s x) b (G x))
    → (p : A × B) (rest : List ℕ) → (F p.0 × G p.0 p.1) → both r s ((a p.0 ++ b p.1) ++ rest) ≡ Some (p, rest)
both_again r s a b F G one other p rest fits =
    ap (both r s) (append_assoc (a p.0) (b p.1) rest) ∙ rw (one.again p.0 (b p.1 ++ rest) fits.0, (other p.0).again p.1 rest fits.1) refl

pub both_spell : {A B : Type 0} {r : Reader A} {s : A → Reader B} {a : A → List ℕ} {b : B → List ℕ} {F : A → Type 0} {G : A → B → Type 0} → Spells r a F → ((x : A) → Spells (s x) b (G x))
    → Spells (both r s) (λ p. a p.0 ++ b p.1) (λ p. F p.0 × G p.0 p.1)
both_spell {A} {B} {r} {s} {a} {b} {F} {G} one other = record { takes = both_takes r s a b F G one other; again = both_again r s a b F G one other }

-- ---- values made of others

made_takes : {A B : Type 0} (r : Reader A) (a : A → List ℕ) (F : A → Type 0) (f : A → B) (g : B → A) (G : B → Type 0) → Spells r a F → ((x : A) → F x → g (f x) ≡ x) → ((x : A) → F x → G (f x))
    → (bytes : List ℕ) (y : B) (rest : List ℕ) → IsBytes bytes → made f r bytes ≡ Some (y, rest) → Takes bytes (a (g y)) rest × G y
made_takes {A} {B} r a F f g G spells unmade fits bytes y rest are e =
    let x = bind_some (r bytes) (λ x. Some (f x.0, x.1)) (y, rest) e in
    let taken = spells.takes bytes x.0.0 x.0.1 are x.1 in
    let P : B × List ℕ → Type 0 = λ q. Takes bytes (a (g q.0)) q.1 × G q.0 in
    subst P (some_is (f x.0.0, x.0.1) (y, rest) x.2) (rw (unmade x.0.0 taken.1) taken.0, fits x.0.0 taken.1)

made_again : {A B : Type 0} (r : Reader A) (a : A → List ℕ) (F : A → Type 0) (f : A → B) (g : B → A) (G : B → Type 0) → Spells r a F → ((y : B) → G y → f (g y) ≡ y) → ((y : B) → G y → F (g y))
    → (y : B) (rest : List ℕ) → G y → made f r (a (g y) ++ rest) ≡ Some (y, rest)
made_again {A} {B} r a F f g G spells remade fits y rest h = rw (spells.again (g y) rest (fits y h)) (ap (λ (z : B). Some (z, rest)) (remade y h))

pub made_spell : {A B : Type 0} {r : Reader A} {a : A → List ℕ} {F : A → Type 0} (f : A → B) (g : B → A) (G : B → Type 0) → Spells r a F
    → ((x : A) → F x → g (f x) ≡ x) → ((x : A) → F x → G (f x)) → ((y : B) → G y → f (g y) ≡ y) → ((y : B) → G y → F (g y)) → Spells (made f r) (λ y. a (g y)) G
made_spell {A} {B} {r} {a} {F} f g G spells unmade fits remade fits' = record { takes = made_takes r a F f g G spells unmade fits; again = made_again r a F f g G spells remade fits' }

chosen_takes : {A B : Type 0} (r : Reader A) (a : A → List ℕ) (F : A → Type 0) (f : A → Option B) (g : B → A) (G : B → Type 0) → Spells r a F → ((x : A) (y : B) → F x → f x ≡ Some y → (g y ≡ x) × G y)
    → (bytes : List ℕ) (y : B) (rest : List ℕ) → IsBytes bytes → chosen f r bytes ≡ Some (y, rest) → Takes bytes (a (g y)) rest × G y
chosen_takes {A} {B} r a F f g G spells only bytes y rest are e =
    let x = bind_some (r bytes) (λ x. f x.0 >>= λ v. Some (v, x.1)) (y, rest) e in
    let v = bind_some (f x.0.0) (λ v. Some (v, x.0.1)) (y, rest) x.2 in
    let taken = spells.takes bytes x.0.0 x.0.1 are x.1 in
    let is = only x.0.0 v.0 taken.1 v.1 in
    let P : B × List ℕ → Type 0 = λ q. Takes bytes (a (g q.0)) q.1 × G q.0 in
    subst P (some_is (v.0, x.0.1) (y, rest) v.2) (rw is.0 taken.0, is.1)

chosen_again : {A B : Type 0} (r : Reader A) (a : A → List ℕ) (F : A → Type 0) (f : A → Option B) (g : B → A) (G : B → Type 0) → Spells r a F → ((y : B) → G y → f (g y) ≡ Some y) → ((y : B) → G y → F (g y))
    → (y : B) (rest : List ℕ) → G y → chosen f r (a (g y) ++ rest) ≡ Some (y, rest)
chosen_again r a F f g G spells back fits y rest h = rw (spells.again (g y) rest (fits y h), back y h) refl

pub chosen_spell : {A B : Type 0} {r : Reader A} {a : A → List ℕ} {F : A → Type 0} (f : A → Option B) (g : B → A) (G : B → Type 0) → Spells r a F
    → ((x : A) (y : B) → F x → f x ≡ Some y → (g y ≡ x) × G y) → ((y : B) → G y → f (g y) ≡ Some y) → ((y : B) → G y → F (g y)) → Spells (chosen f r) (λ y. a (g y)) G
chosen_spell {A} {B} {r} {a} {F} f g G spells only back fits = record { takes = chosen_takes r a F f g G spells only; again = chosen_again r a F f g G spells back fits }

tested_takes : {A : Type 0} (r : Reader A) (a : A → List ℕ) (F : A → Type 0) (test : A → Bool) (G : A → Type 0) → Spells r a F → ((x : A) → F x → test x ≡ true → G x)
    → (bytes : List ℕ) (x : A) (rest : List ℕ) → IsBytes bytes → tested test r bytes ≡ Some (x, rest) → Takes bytes (a x) rest × G x
tested_takes {A} r a F test G spells fits bytes y rest are e =
    let x = bind_some (r bytes) (λ x. cond (test x.0) (Some x) None) (y, rest) e in
    let t = test_some (test x.0.0) x.0 (y, rest) x.2 in
    let taken = spells.takes bytes x.0.0 x.0.1 are x.1 in
    let P : A × List ℕ → Type 0 = λ q. Takes bytes (a q.0) q.1 × G q.0 in
    subst P t.1 (taken.0, fits x.0.0 taken.1 t.0)

tested_again : {A : Type 0} (r : Reader A) (a : A → List ℕ) (F : A → Type 0) (test : A → Bool) (G : A → Type 0) → Spells r a F → ((x : A) → G x → test x ≡ true) → ((x : A) → G x → F x)
    → (x : A) (rest : List ℕ) → G x → tested test r (a x ++ rest) ≡ Some (x, rest)
tested_again r a F test G spells passes fits x rest h = rw (spells.again x rest (fits x h), passes x h) refl

pub tested_spell : {A : Type 0} {r : Reader A} {a : A → List ℕ} {F : A → Type 0} (test : A → Bool) (G : A → Type 0) → Spells r a F
    → ((x : A) → F x → test x ≡ true → G x) → ((x : A) → G x → test x ≡ true) → ((x : A) → G x → F x) → Spells (tested test r) a G
tested_spell {A} {r} {a} {F} test G spells fits passes fits' = record { takes = tested_takes r a F test G spells fits; again = tested_again r a F test G spells passes fits' }

-- ---- so many

abbrev pub AreMany : {A : Type 0} → (A → Type 0) → ℕ → List A → Type 0
AreMany F n xs = (length xs ≡ n) × AllByRecursion F xs

many_takes : {A : Type 0} (r : Reader A) (a : A → List ℕ) (F : A → Type 0) → Spells r a F → (n : ℕ) (bytes : List ℕ) (xs : List A) (rest : List ℕ) → IsBytes bytes → many r n bytes ≡ Some (xs, rest) → Takes bytes (flat_map a xs) rest × AreMany F n xs
many_takes {A} r a F spells zero bytes xs rest are e =
    let P : List A × List ℕ → Type 0 = λ q. Takes bytes (flat_map a q.0) q.1 × AreMany F 0 q.0 in
    subst P (some_is ([], bytes) (xs, rest) e) (record { parts = refl; rest_fits = are }, (refl, tt))
many_takes {A} r a F spells (suc n) bytes xs rest are e =
    let x = bind_some (r bytes) (λ x. many r n x.1 >>= λ xs. Some (x.0 ∷ xs.0, xs.1)) (xs, rest) e in
    let y = bind_some (many r n x.0.1) (λ xs. Some (x.0.0 ∷ xs.0, xs.1)) (xs, rest) x.2 in
    let first = spells.takes bytes x.0.0 x.0.1 are x.1 in
    let second = many_takes r a F spells n x.0.1 y.0.0 y.0.1 first.0.rest_fits y.1 in
    let P : List A × List ℕ → Type 0 = λ q. Takes bytes (flat_map a q.0) q.1 × AreMany F (suc n) q.0 in
    subst P (some_is (x.0.0 ∷ y.0.0, y.0.1) (xs, rest) y.2) (rw flat_map-cons (Takes-then bytes (a x.0.0) x.0.1 (flat_map a y.0.0) y.0.1 first.0 second.0), (ap suc second.1.0, (first.1, second.1.1)))

many_again : {A : Type 0} (r : Reader A) (a : A → List ℕ) (F : A → Type 0) → Spells r a F → (xs : List A) (rest : List ℕ) → AllByRecursion F xs → many r (length xs) (flat_map a xs ++ rest) ≡ Some (xs, rest)
many_again r a F spells [] rest fits = refl
many_again r a F spells (x ∷ xs) rest fits =
    let regrouped : flat_map a (x ∷ xs) ++ rest ≡ a x ++ (flat_map a xs ++ rest) = ap (λ (t : List ℕ). t ++ rest) (flat_map-cons a x xs) ∙ append_assoc (a x) (flat_map a xs) rest in
    ap (many r (suc (length xs))) regrouped ∙ rw (spells.again x (flat_map a xs ++ rest) fits.0, many_again r a F spells xs rest fits.1) refl

many_again' : {A : Type 0} (r : Reader A) (a : A → List ℕ) (F : A → Type 0) → Spells r a F → (n : ℕ) (xs : List A) (rest : List ℕ) → AreMany F n xs → many r n (flat_map a xs ++ rest) ≡ Some (xs, rest)
many_again' r a F spells n xs rest fits = rw (← fits.0) (many_again r a F spells xs rest fits.1)

pub many_spell : {A : Type 0} {r : Reader A} {a : A → List ℕ} {F : A → Type 0} → Spells r a F → (n : ℕ) → Spells (many r n) (flat_map a) (AreMany F n)
many_spell {A} {r} {a} {F} spells n = record { takes = many_takes r a F spells n; again = many_again' r a F spells n }
