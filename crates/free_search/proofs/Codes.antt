-- What a block's code says of whether it is what is wanted.
use Rattle.std.proofs.Common.{◌≡◌, ℕ, zero, suc, ◌+◌, ◌<◌, ◌≤◌, Bool, true, false, not, ◌&&◌, ◌||◌, eqb, leb, List, [], ◌∷◌, length, take, get_or, Option, Some, None, refl, sym, ◌∙◌, ap, subst, arith, inl, inr, le-leb, leb-true, true≢false}
use Rattle.seg_words.proofs.Lemmas.{cond-true, cond-false, cases_Bool, or_cases, or_left, or_right}
use Rattle.seg_words.specs.Types.{Shape, class_code}
use Rattle.redo_model.specs.Records.{Record}
use Rattle.redo_model.specs.Model.{is_formatted, kept_class, code_of, takes_row, pctfree_of, AreAllowed}
use Rattle.mark_laws.specs.Searches.{Sought, is_left_out}
use Rattle.mark_laws.proofs.ThereLaw.{codes_tell}
use Rattle.free_search.specs.declared.look.Wanted.{Wanted}
use Rattle.free_search.specs.declared.look.Wanted.TheVariants as wanted
use Rattle.free_search.specs.Looks.{passes, found_if}
use Rattle.free_search.specs.Codes.{has_code, room_for}

and_false : (a : Bool) → (a && false) ≡ false
and_false true = refl
and_false false = refl

formatted_told : (sh : Shape) (R : List Record) (q : Sought) (w : Wanted) (b : ℕ) → is_formatted sh R b ≡ true → 1 ≤ code_of sh R b → code_of sh R b ≡ class_code (kept_class R b) → passes sh R q w b ≡ (has_code w (code_of sh R b) && room_for R q b)
formatted_told sh R q wanted.Usable b y l e =
    ap (λ v. (v && not (is_left_out q.but b)) && takes_row R (pctfree_of R q.obj) b q.len q.taker) y
    ∙ sym (ap (λ v. v && room_for R q b) (le-leb 1 (code_of sh R b) l))
formatted_told sh R q wanted.Good b y l e =
    ap (λ v. leb 2 (class_code (kept_class R b)) && ((v && not (is_left_out q.but b)) && takes_row R (pctfree_of R q.obj) b q.len q.taker)) y
    ∙ ap (λ n. leb 2 n && room_for R q b) (sym e)

unformatted_told : (sh : Shape) (R : List Record) (q : Sought) (w : Wanted) (b : ℕ) → is_formatted sh R b ≡ false → code_of sh R b ≡ 0 → passes sh R q w b ≡ (has_code w (code_of sh R b) && room_for R q b)
unformatted_told sh R q wanted.Usable b f z =
    ap (λ v. (v && not (is_left_out q.but b)) && takes_row R (pctfree_of R q.obj) b q.len q.taker) f
    ∙ sym (ap (λ n. leb 1 n && room_for R q b) z)
unformatted_told sh R q wanted.Good b f z =
    ap (λ v. leb 2 (class_code (kept_class R b)) && ((v && not (is_left_out q.but b)) && takes_row R (pctfree_of R q.obj) b q.len q.taker)) f
    ∙ and_false (leb 2 (class_code (kept_class R b)))
    ∙ sym (ap (λ n. leb 2 n && room_for R q b) z)

pub passes_told : (sh : Shape) (R : List Record) (q : Sought) (w : Wanted) (b : ℕ) → AreAllowed sh R → passes sh R q w b ≡ (has_code w (code_of sh R b) && room_for R q b)
passes_told sh R q w b h = elim (cases_Bool (is_formatted sh R b)) [
  | inl y ↦ (let k = (codes_tell sh R b h).formatted y in formatted_told sh R q w b y k.0 k.1)
  | inr n ↦ unformatted_told sh R q w b n ((codes_tell sh R b h).unformatted n)
]

-- another code
pub fails_code : (sh : Shape) (R : List Record) (q : Sought) (w : Wanted) (b : ℕ) → AreAllowed sh R → has_code w (code_of sh R b) ≡ false → passes sh R q w b ≡ false
fails_code sh R q w b h f = passes_told sh R q w b h ∙ ap (λ v. v && room_for R q b) f

pub no_code : (sh : Shape) (R : List Record) (q : Sought) (w : Wanted) (b c : ℕ) → AreAllowed sh R → c ≡ code_of sh R b → has_code w c ≡ false → None ≡ found_if (passes sh R q w b) b
no_code sh R q w b c h e f = sym (cond-false _ _ _ (fails_code sh R q w b h (ap (has_code w) (sym e) ∙ f)))

-- the block has to say the rest
pub with_room : (sh : Shape) (R : List Record) (q : Sought) (w : Wanted) (b c : ℕ) → AreAllowed sh R → c ≡ code_of sh R b → has_code w c ≡ true → found_if (room_for R q b) b ≡ found_if (passes sh R q w b) b
with_room sh R q w b c h e y = ap (λ v. found_if v b) (sym (passes_told sh R q w b h ∙ ap (λ v. v && room_for R q b) (ap (has_code w) (sym e) ∙ y)))

coded : (w : Wanted) (c : ℕ) → has_code w c ≡ true → 1 ≤ c
coded wanted.Usable c y = leb-true 1 c y
coded wanted.Good c y = (let k = leb-true 2 c y in omega (arith, k))

pub code_formatted : (sh : Shape) (R : List Record) (w : Wanted) (b c : ℕ) → AreAllowed sh R → c ≡ code_of sh R b → has_code w c ≡ true → is_formatted sh R b ≡ true
code_formatted sh R w b c h e y = elim (cases_Bool (is_formatted sh R b)) [
  | inl t ↦ t
  | inr f ↦ (let z = (codes_tell sh R b h).unformatted f in let k = coded w c y in absurd (omega (arith, e, z, k)))
]

-- the block itself

pub room_left : (R : List Record) (q : Sought) (b : ℕ) → is_left_out q.but b ≡ true → None ≡ found_if (room_for R q b) b
room_left R q b y = sym (cond-false _ _ _ (ap (λ v. not v && takes_row R (pctfree_of R q.obj) b q.len q.taker) y))

room_is : (R : List Record) (q : Sought) (b : ℕ) (t : Bool) → is_left_out q.but b ≡ false → t ≡ takes_row R (pctfree_of R q.obj) b q.len q.taker → room_for R q b ≡ t
room_is R q b t f e = ap (λ v. not v && takes_row R (pctfree_of R q.obj) b q.len q.taker) f ∙ sym e

pub room_taken : (R : List Record) (q : Sought) (b : ℕ) (t : Bool) → is_left_out q.but b ≡ false → t ≡ takes_row R (pctfree_of R q.obj) b q.len q.taker → t ≡ true → Some b ≡ found_if (room_for R q b) b
room_taken R q b t f e y = sym (cond-true _ _ _ (room_is R q b t f e ∙ y))

pub room_wanting : (R : List Record) (q : Sought) (b : ℕ) (t : Bool) → is_left_out q.but b ≡ false → t ≡ takes_row R (pctfree_of R q.obj) b q.len q.taker → t ≡ false → None ≡ found_if (room_for R q b) b
room_wanting R q b t f e n = sym (cond-false _ _ _ (room_is R q b t f e ∙ n))

-- blocks that are left out

left_one : (d : Option ℕ) (xs : List (Option ℕ)) (b : ℕ) → is_left_out (d ∷ []) b ≡ true → is_left_out (d ∷ xs) b ≡ true
left_one None xs b h = absurd (true≢false (sym h))
left_one (Some d) xs b h = elim (or_cases (eqb d b) false h) [ inl y ↦ or_left (eqb d b) _ y | inr z ↦ absurd (true≢false (sym z)) ]

left_rest : (d : Option ℕ) (xs : List (Option ℕ)) (b : ℕ) → is_left_out xs b ≡ true → is_left_out (d ∷ xs) b ≡ true
left_rest None xs b h = h
left_rest (Some d) xs b h = or_right (eqb d b) _ h

left_both : (d : Option ℕ) (xs : List (Option ℕ)) (b : ℕ) → is_left_out (d ∷ []) b ≡ false → is_left_out xs b ≡ false → is_left_out (d ∷ xs) b ≡ false
left_both None xs b h k = k
left_both (Some d) xs b h k = ap (λ v. v || is_left_out xs b) (first_part (eqb d b) h) ∙ k
  where
    first_part : (v : Bool) → (v || false) ≡ false → v ≡ false
    first_part true e = absurd (true≢false e)
    first_part false e = refl

pub left_here : (xs : List (Option ℕ)) (i b : ℕ) (x : Option ℕ) → i < length xs → x ≡ get_or xs i x → is_left_out (x ∷ []) b ≡ true → is_left_out xs b ≡ true
left_here [] i b x l e h = absurd (omega (arith, l))
left_here (y ∷ ys) zero b x l e h = left_one y ys b (subst (λ (d : Option ℕ). is_left_out (d ∷ []) b ≡ true) e h)
left_here (y ∷ ys) (suc i) b x l e h = left_rest y ys b (left_here ys i b x (omega (arith, l)) e h)

pub left_next : (xs : List (Option ℕ)) (i b : ℕ) (x : Option ℕ) → i < length xs → x ≡ get_or xs i x → is_left_out (x ∷ []) b ≡ false → is_left_out (take i xs) b ≡ false → is_left_out (take (i + 1) xs) b ≡ false
left_next xs i b x l e h k = subst (λ n. is_left_out (take n xs) b ≡ false) (let z : suc i ≡ i + 1 = omega arith in z) (go xs i l e k)
  where
    or_first : (u v : Bool) → (u || v) ≡ false → u ≡ false
    or_first true v z = absurd (true≢false z)
    or_first false v z = refl

    or_second : (u v : Bool) → (u || v) ≡ false → v ≡ false
    or_second true v z = absurd (true≢false z)
    or_second false v z = z

    go : (xs : List (Option ℕ)) (i : ℕ) → i < length xs → x ≡ get_or xs i x → is_left_out (take i xs) b ≡ false → is_left_out (take (suc i) xs) b ≡ false
    go [] i l e k = absurd (omega (arith, l))
    go (y ∷ ys) zero l e k = subst (λ (d : Option ℕ). is_left_out (d ∷ []) b ≡ false) e h
    go (None ∷ ys) (suc i) l e k = go ys i (omega (arith, l)) e k
    go (Some d ∷ ys) (suc i) l e k = ap (λ v. v || is_left_out (take (suc i) ys) b) (or_first (eqb d b) _ k) ∙ go ys i (omega (arith, l)) e (or_second (eqb d b) _ k)

pub left_none : (xs : List (Option ℕ)) (i b : ℕ) → length xs ≤ i → is_left_out (take i xs) b ≡ false → is_left_out xs b ≡ false
left_none xs i b l k = subst (λ (ys : List (Option ℕ)). is_left_out ys b ≡ false) (whole xs i l) k
  where
    whole : (xs : List (Option ℕ)) (i : ℕ) → length xs ≤ i → take i xs ≡ xs
    whole [] zero l = refl
    whole [] (suc i) l = refl
    whole (x ∷ xs) zero l = absurd (omega (arith, l))
    whole (x ∷ xs) (suc i) l = ap (λ (ys : List (Option ℕ)). x ∷ ys) (whole xs i (omega (arith, l)))
