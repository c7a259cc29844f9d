-- The Class of a settling is allowed.
use Rattle.std.proofs.Common.{◌≡◌, ℕ, zero, suc, ◌≤◌, ◌*◌, ◌/◌, max, true, false, cond, eqb, ltb, List, [], ◌∷◌, Option, Some, None, refl, ◌∙◌, ap, ap₂, arith}
use Rattle.seg_words.proofs.Lemmas.{not-true}
use Rattle.seg_words.specs.Types.{Class as BlockClass, Full, Shape, class_code, class_of, of_quarters, BLOCK_ROOM}
use Rattle.redo_model.specs.Records.{Record, Class, Clean, CleanRecord, ClassRecord}
use Rattle.redo_model.specs.Model.{Extent, extents_of, extent_data, extent_at, index_of, group_start, l2_of, l3_of, is_formatted, IsTable, IsRowBlock, pctfree_of, free_of, kept_class, code_of, good_code, best_of, best_in_group, best_in_l2, best_of_found, best_in_l1, StatesBests, ClassAllowed}
use Rattle.end_laws.proofs.Allowed.{called}
use Rattle.usage_laws.specs.Drafts.{ruled_class, class_with, reclassed, class_to, drafted_class, calls_for_class}
use Rattle.usage_laws.specs.Settling.{ClassesAreAllowed, ClassesAreOne}

-- lists with the same codes have the same bests

best_same : (sh : Shape) (S T : List Record) (bs : List ℕ) → ((d : ℕ) → code_of sh S d ≡ code_of sh T d) → best_of sh S bs ≡ best_of sh T bs
best_same sh S T [] h = refl
best_same sh S T (b ∷ bs) h = ap₂ (λ x y. max (good_code x) y) (h b) (best_same sh S T bs h)

found_same : (sh : Shape) (S T : List Record) (i : ℕ) (x : Option Extent) → ((d : ℕ) → code_of sh S d ≡ code_of sh T d) → best_of_found sh S i x ≡ best_of_found sh T i x
found_same sh S T i None h = refl
found_same sh S T i (Some e) h = best_same sh S T (extent_data sh i e.number) h

group_same : (sh : Shape) (S T : List Record) (s i : ℕ) (es : List Extent) → ((d : ℕ) → code_of sh S d ≡ code_of sh T d) → best_in_group sh S s i es ≡ best_in_group sh T s i es
group_same sh S T s i [] h = refl
group_same sh S T s i (e ∷ es) h = ap₂ (λ (x y : ℕ). max (cond (eqb (group_start i) s) x 0) y) (best_same sh S T (extent_data sh i e.number) h) (group_same sh S T s (suc i) es h)

pub same_l1 : (sh : Shape) (S T : List Record) (o i : ℕ) → extents_of S o ≡ extents_of T o → ((d : ℕ) → code_of sh S d ≡ code_of sh T d) → best_in_l1 sh S o i ≡ best_in_l1 sh T o i
same_l1 sh S T o i e h = ap (λ (es : List Extent). best_of_found sh S i (extent_at es i)) e ∙ found_same sh S T i (extent_at (extents_of T o) i) h

pub same_l2 : (sh : Shape) (S T : List Record) (o s : ℕ) → extents_of S o ≡ extents_of T o → ((d : ℕ) → code_of sh S d ≡ code_of sh T d) → best_in_l2 sh S o s ≡ best_in_l2 sh T o s
same_l2 sh S T o s e h = ap (best_in_group sh S s 0) e ∙ group_same sh S T s 0 (extents_of T o) h

-- the class of a formatted block

quarters_from : (n : ℕ) → 1 ≤ class_code (of_quarters n)
quarters_from zero = omega arith
quarters_from (suc zero) = omega arith
quarters_from (suc (suc zero)) = omega arith
quarters_from (suc (suc (suc n))) = omega arith

class_from_one : (free pctfree : ℕ) → 1 ≤ class_code (class_of free pctfree)
class_from_one free pctfree = elim (ltb (free * 100) (pctfree * BLOCK_ROOM)) as (λ v. 1 ≤ class_code (cond v Full (of_quarters (4 * free / BLOCK_ROOM)))) [ true ↦ omega arith | false ↦ quarters_from (4 * free / BLOCK_ROOM) ]

-- the drafted record states the bests after it, also where it isn't called for
pub drafted_states : (sh : Shape) (R : List Record) (o b : ℕ) → StatesBests sh (Class (drafted_class sh R o b) ∷ R) o (index_of sh (extents_of R o) b) (drafted_class sh R o b).best_of_l1 (drafted_class sh R o b).best_of_l2
drafted_states sh R o b =
    let i = index_of sh (extents_of R o) b in
    let before = reclassed sh R o b (ruled_class R o b) in
    let after : List Record = Class (drafted_class sh R o b) ∷ R in
    record { l1 = same_l1 sh before after o i refl (λ d. refl); l2 = same_l2 sh before after o (group_start i) refl (λ d. refl) }

class_allowed : (sh : Shape) (R : List Record) (o b : ℕ) → IsTable R o → IsRowBlock sh R o b → calls_for_class R o b ≡ true → ClassAllowed sh R (drafted_class sh R o b)
class_allowed sh R o b t here h = record {
  table = t;
  here = here;
  formatted_class = class_from_one (free_of R b) (pctfree_of R o);
  another = not-true (eqb (class_code (ruled_class R o b)) (class_code (kept_class R b))) h;
  bitmaps = record { index_is = refl; l2_is = refl; l3_is = refl };
  bests = drafted_states sh R o b;
}

pub classes_are_allowed : ClassesAreAllowed
classes_are_allowed sh R o b h t here y = record { allowed = (h.allowed, record { called_for = called R _ h.whole; kind = class_allowed sh R o b t here y }); whole = refl }

-- records with the same fields

fields_same : (o b : ℕ) (c d : BlockClass) (l2 m2 l3 m3 i j v w x y : ℕ) → c ≡ d → l2 ≡ m2 → l3 ≡ m3 → i ≡ j → v ≡ w → x ≡ y
    → ◌≡◌ {A = ClassRecord} (record { obj = o; dba = b; class = c; l2 = l2; l3 = l3; index = i; best_of_l1 = v; best_of_l2 = x }) (record { obj = o; dba = b; class = d; l2 = m2; l3 = m3; index = j; best_of_l1 = w; best_of_l2 = y })
fields_same o b c d l2 m2 l3 m3 i j v w x y p q r s t u =
    ap₂ (λ (e : BlockClass) (n : ℕ). record { obj = o; dba = b; class = e; l2 = n; l3 = l3; index = i; best_of_l1 = v; best_of_l2 = x }) p q
    ∙ ap₂ (λ (n m : ℕ). record { obj = o; dba = b; class = d; l2 = m2; l3 = n; index = m; best_of_l1 = v; best_of_l2 = x }) r s
    ∙ ap₂ (λ (n m : ℕ). record { obj = o; dba = b; class = d; l2 = m2; l3 = m3; index = j; best_of_l1 = n; best_of_l2 = m }) t u

pub classes_are_one : ClassesAreOne
classes_are_one sh R k a e =
    let o : ℕ = k.obj in
    let b : ℕ = k.dba in
    let i : ℕ = index_of sh (extents_of R o) b in
    let S : List Record = Class k ∷ R in
    let T : List Record = reclassed sh R o b (ruled_class R o b) in
    let is : k.index ≡ i = a.bitmaps.index_is in
    let codes : (d : ℕ) → code_of sh S d ≡ code_of sh T d = λ d. ap (λ c. cond (is_formatted sh R d) (class_code (cond (eqb b d) c (kept_class R d))) 0) e in
    let l1 : k.best_of_l1 ≡ best_in_l1 sh T o i = a.bests.l1 ∙ ap (best_in_l1 sh S o) is ∙ same_l1 sh S T o i refl codes in
    let l2 : k.best_of_l2 ≡ best_in_l2 sh T o (group_start i) = a.bests.l2 ∙ ap (λ n. best_in_l2 sh S o (group_start n)) is ∙ same_l2 sh S T o (group_start i) refl codes in
    fields_same o b k.class (ruled_class R o b) k.l2 (l2_of sh (extents_of R o) i) k.l3 (l3_of sh (extents_of R o)) k.index i k.best_of_l1 (best_in_l1 sh T o i) k.best_of_l2 (best_in_l2 sh T o (group_start i)) e
    (a.bitmaps.l2_is ∙ ap (l2_of sh (extents_of R o)) is) a.bitmaps.l3_is is l1 l2

-- a Clean before it changes nothing that the Class states
pub class_after_clean : (sh : Shape) (R : List Record) (c : CleanRecord) (o b : ℕ) → ruled_class (Clean c ∷ R) o b ≡ ruled_class R o b → drafted_class sh (Clean c ∷ R) o b ≡ drafted_class sh R o b
class_after_clean sh R c o b e = ap (class_to sh (Clean c ∷ R) o b) e ∙ go (ruled_class R o b)
  where
    go : (k : BlockClass) → class_to sh (Clean c ∷ R) o b k ≡ class_to sh R o b k
    go k =
        let i = index_of sh (extents_of R o) b in
        ap₂ (λ (x y : ℕ). class_with sh R o b k x y)
        (same_l1 sh (reclassed sh (Clean c ∷ R) o b k) (reclassed sh R o b k) o i refl (λ d. refl))
        (same_l2 sh (reclassed sh (Clean c ∷ R) o b k) (reclassed sh R o b k) o (group_start i) refl (λ d. refl))
