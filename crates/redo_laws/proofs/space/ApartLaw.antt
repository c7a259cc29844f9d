-- Extents and data blocks are apart.
use Rattle.std.proofs.Common.{◌≡◌, ℕ, zero, suc, ◌+◌, ◌≤◌, true, false, cond, not, ◌||◌, eqb, List, [], ◌∷◌, ◌++◌, length, map, take, refl, sym, ◌∙◌, ap, subst, arith, inl, inr, length-append, eqb-true, true≢false, leb-true, Contains}
use Rattle.seg_words.proofs.Lemmas.{and_parts}
use Rattle.seg_words.specs.Types.{Shape, first_block, is_extent, MOST_TABLES, MOST_EXTENTS}
use Rattle.redo_model.specs.Records.{Record, Extend, Lower}
use Rattle.redo_model.specs.Model.{Extent, extents_of, data_blocks, has_extent, is_taken, IsKindAllowed, AreAllowed}
use Rattle.redo_laws.specs.Among.{is_in, MembershipIsTold}
use Rattle.redo_laws.specs.Apart.{AreDistinct, ExtentsAreApart}
use Rattle.redo_laws.proofs.space.Places.{in_contains, contains_in, in_data, has_added, has_taken, segments, same_table, a_table}
use Rattle.redo_laws.proofs.space.Apart.{Apart, apart_extents, Distinct, distinct_data}

-- each extent is a whole one, and there are at most 900
pub record Placed (sh : Shape) (R : List Record) (o : ℕ) : Type 0 where
  pub whole : (x : ℕ) → has_extent (extents_of R o) x ≡ true → is_extent sh x ≡ true
  pub few : length (extents_of R o) ≤ MOST_EXTENTS

pub take_short : (n : ℕ) (es : List Extent) → length (take n es) ≤ length es
take_short zero es = omega arith
take_short (suc n) [] = omega arith
take_short (suc n) (e ∷ es) = let l = take_short n es in omega (arith, l)

placed_step : (sh : Shape) (R : List Record) (r : Record) (o : ℕ) → IsKindAllowed sh R r → Placed sh R o → Placed sh (r ∷ R) o
placed_step sh R (Extend e) o a h =
    let new : Extent = record { number = e.extent; incarnation = suc (length R) } in
    let free : is_extent sh e.extent ≡ true = (and_parts (is_extent sh e.extent) (not (is_taken R MOST_TABLES e.extent)) a.extent.free).0 in
    record {
      whole = λ x. (elim (eqb e.obj o) as (λ v. has_extent (cond v (extents_of R o ++ new ∷ []) (extents_of R o)) x ≡ true → is_extent sh x ≡ true) [
        | true ↦ λ k. elim (has_added (extents_of R o) new x k) [ inl w ↦ h.whole x w | inr w ↦ subst (λ z. is_extent sh z ≡ true) w free ]
        | false ↦ h.whole x
      ]);
      few = (elim (eqb e.obj o) as (λ v. eqb e.obj o ≡ v → length (cond v (extents_of R o ++ new ∷ []) (extents_of R o)) ≤ MOST_EXTENTS) [
        | true ↦ λ t.
            let index : e.index ≡ length (extents_of R o) = subst (λ z. e.index ≡ length (extents_of R z)) (eqb-true e.obj o t) a.index in
            let longer : length (extents_of R o ++ new ∷ []) ≡ length (extents_of R o) + 1 = length-append (extents_of R o) (new ∷ []) in
            let few = a.few in omega (arith, longer, index, few)
        | false ↦ λ t. h.few
      ]) refl;
    }
placed_step sh R (Lower l) o a h =
    record {
      whole = λ x. (elim (eqb l.obj o) as (λ v. has_extent (cond v (take l.kept (extents_of R o)) (extents_of R o)) x ≡ true → is_extent sh x ≡ true) [
        | true ↦ λ k. h.whole x (has_taken l.kept (extents_of R o) x k)
        | false ↦ h.whole x
      ]);
      few = elim (eqb l.obj o) as (λ v. length (cond v (take l.kept (extents_of R o)) (extents_of R o)) ≤ MOST_EXTENTS) [
        | true ↦ let s = take_short l.kept (extents_of R o) in let f = h.few in omega (arith, s, f)
        | false ↦ h.few
      ];
    }
placed_step sh R _ o a h = record { whole = h.whole; few = h.few }

pub placed : (sh : Shape) (R : List Record) (o : ℕ) → AreAllowed sh R → Placed sh R o
placed sh [] o h = record { whole = λ x k. absurd (true≢false (sym k)); few = omega arith }
placed sh (r ∷ R) o h = placed_step sh R r o h.1.kind (placed sh R o h.0)

pub is_listed : (bs : List ℕ) (b : ℕ) → Contains bs b → is_in b bs ≡ true
is_listed bs b c = in_contains bs b c.0 c.1 c.2

are_distinct : (bs : List ℕ) → Distinct bs → AreDistinct bs
are_distinct [] h = tt
are_distinct (b ∷ bs) h = ((λ c. true≢false (sym (is_listed bs b c) ∙ h.0)), are_distinct bs h.1)

-- the numbers of extents
abbrev pub numbers : List Extent → List ℕ
numbers es = map (λ (e : Extent). e.number) es

pub number_in : (es : List Extent) (x : ℕ) → is_in x (numbers es) ≡ has_extent es x
number_in [] x = refl
number_in (e ∷ es) x = ap (λ v. eqb e.number x || v) (number_in es x)

distinct_numbers : (es : List Extent) → Apart es → AreDistinct (numbers es)
distinct_numbers [] h = tt
distinct_numbers (e ∷ es) h = ((λ c. true≢false (sym (is_listed (numbers es) e.number c) ∙ number_in es e.number ∙ h.0)), distinct_numbers es h.1)

pub extents_are_apart : ExtentsAreApart
extents_are_apart sh R h =
    let s = segments sh R h in
    record {
      extents = record {
        whole = λ o x t k. (placed sh R o h).whole x k;
        one_table = λ o p x t u j k. s.distinct o p x (a_table sh R o s t) (a_table sh R p s u) j k;
        once = λ o t. distinct_numbers (extents_of R o) (apart_extents sh R o h (a_table sh R o s t));
        few = λ o t. (placed sh R o h).few;
      };
      blocks = record {
        from = λ o b t c. let y = in_data sh 0 (extents_of R o) b (is_listed (data_blocks sh R o) b c) in let l = y.from in omega (arith, l);
        to = λ o b t c.
            let y = in_data sh 0 (extents_of R o) b (is_listed (data_blocks sh R o) b c) in
            let l = leb-true (first_block sh y.extent + sh.extent) sh.blocks ((placed sh R o h).whole y.extent y.has) in
            let u = y.to in omega (arith, l, u);
        one_table = λ o p b t u j k. same_table sh R o p b s (a_table sh R o s t) (a_table sh R p s u) (is_listed (data_blocks sh R o) b j) (is_listed (data_blocks sh R p) b k);
        once = λ o t. are_distinct (data_blocks sh R o) (distinct_data sh 0 (extents_of R o) (apart_extents sh R o h (a_table sh R o s t)));
      };
    }

pub membership_is_told : MembershipIsTold
membership_is_told b bs = record { contains = λ h. contains_in bs b h; is_there = λ c. is_listed bs b c }
