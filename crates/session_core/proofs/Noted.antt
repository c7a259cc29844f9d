-- What is owed and what is noted: lists of blocks by number, into which blocks are put.
use Rattle.std.proofs.Common.{◌≡◌, ℕ, Bool, true, false, cond, Less, Equal, Greater, List, [], ◌∷◌, length, ◌<◌, Option, Some, None, refl, sym, ◌∙◌, ap, subst, arith, true≢false}
use Rattle.std.specs.Prelude.{is_some, ◌||◌, Result, Ok, Err, OnErr}
use Rattle.std.specs.BTreeMap.{insert_entry, is_at}
use Rattle.std.specs.Map.{lookup}
use Rattle.std.specs.Ordering.{nat_cmp, is_eq, match_ordering}
use Rattle.std.specs.Cmp.{nat_cmp_is}
use Rattle.seg_words.proofs.Lemmas.{cases_Bool}
use Rattle.session_core.specs.Owing.{table_in, is_in, with_all, rest_owed, first_owed, AreKept}
use Rattle.session_core.specs.declared.owed.OwedBlock.{OwedBlock}
use Rattle.session_core.specs.declared.changed.Changed.{Changed}
use Rattle.session_core.specs.declared.dues.Dues.{Dues}
use Rattle.session_core.specs.Dues.{of_table, of_some_table, table_of, with_block, with_blocks, all_owed, LosesNone}

-- ---- one block put in

front_in : (es : List (ℕ × ℕ)) (k v b : ℕ) → is_in es b ≡ true → is_some (cond (is_at (nat_cmp b) k) (Some v) (table_in es b)) ≡ true
front_in es k v b h = elim (is_at (nat_cmp b) k) as (λ t. is_some (cond t (Some v) (table_in es b)) ≡ true) [ true ↦ refl | false ↦ h ]

same_front : (es : List (ℕ × ℕ)) (k v w b : ℕ) → is_some (cond (is_at (nat_cmp b) k) (Some w) (table_in es b)) ≡ true → is_some (cond (is_at (nat_cmp b) k) (Some v) (table_in es b)) ≡ true
same_front es k v w b = elim (is_at (nat_cmp b) k) as (λ t. is_some (cond t (Some w) (table_in es b)) ≡ true → is_some (cond t (Some v) (table_in es b)) ≡ true) [ true ↦ λ h. refl | false ↦ λ h. h ]

behind_in : (es fs : List (ℕ × ℕ)) (k v b : ℕ) → (is_in es b ≡ true → is_in fs b ≡ true) → is_some (cond (is_at (nat_cmp b) k) (Some v) (table_in es b)) ≡ true → is_some (cond (is_at (nat_cmp b) k) (Some v) (table_in fs b)) ≡ true
behind_in es fs k v b f = elim (is_at (nat_cmp b) k) as (λ t. is_some (cond t (Some v) (table_in es b)) ≡ true → is_some (cond t (Some v) (table_in fs b)) ≡ true) [ true ↦ λ h. refl | false ↦ f ]

-- each block that was there still is
pub stays_in : (es : List (ℕ × ℕ)) (k v b : ℕ) → is_in es b ≡ true → is_in (insert_entry nat_cmp es k v) b ≡ true
stays_in [] k v b h = absurd (true≢false (sym h))
stays_in (e ∷ es) k v b h = elim (nat_cmp k e.0) as (λ o. is_in (match_ordering o ((k, v) ∷ e ∷ es) ((e.0, v) ∷ es) (e ∷ insert_entry nat_cmp es k v)) b ≡ true) [
  | Less ↦ front_in (e ∷ es) k v b h
  | Equal ↦ same_front es e.0 v e.1 b h
  | Greater ↦ behind_in es (insert_entry nat_cmp es k v) e.0 e.1 b (stays_in es k v b) h
]

at_itself : (k : ℕ) → is_at (nat_cmp k) k ≡ true
at_itself k = ap is_eq (sym (nat_cmp_is k k Equal refl))

front_at : (es : List (ℕ × ℕ)) (k v : ℕ) → is_in ((k, v) ∷ es) k ≡ true
front_at es k v = ap (λ t. is_some (cond t (Some v) (table_in es k))) (at_itself k)

-- and it is there
pub put_in : (es : List (ℕ × ℕ)) (k v : ℕ) → is_in (insert_entry nat_cmp es k v) k ≡ true
put_in [] k v = front_at [] k v
put_in (e ∷ es) k v = elim (nat_cmp k e.0) as (λ o. is_eq o ≡ is_at (nat_cmp k) e.0 → is_in (match_ordering o ((k, v) ∷ e ∷ es) ((e.0, v) ∷ es) (e ∷ insert_entry nat_cmp es k v)) k ≡ true) [
  | Less ↦ λ i. front_at (e ∷ es) k v
  | Equal ↦ λ i. ap (λ t. is_some (cond t (Some v) (table_in es k))) (sym i)
  | Greater ↦ λ i. front_in (insert_entry nat_cmp es k v) e.0 e.1 k (put_in es k v)
] refl

-- ---- two lists

left_kept : (p q r s : Bool) → (p ≡ true → r ≡ true) → (q ≡ true → s ≡ true) → p || q ≡ true → r || s ≡ true
left_kept true q r s f g h = ap (λ t. t || s) (f refl)
left_kept false q true s f g h = refl
left_kept false q false s f g h = g h

or_right : (p q : Bool) → q ≡ true → p || q ≡ true
or_right true q h = refl
or_right false q h = h

pub kept_same : (es fs : List (ℕ × ℕ)) → AreKept es fs es fs
kept_same es fs b h = h

pub kept_on : (es fs gs hs is js : List (ℕ × ℕ)) → AreKept es fs gs hs → AreKept gs hs is js → AreKept es fs is js
kept_on es fs gs hs is js p q b h = q b (p b h)

pub put_first : (es fs : List (ℕ × ℕ)) (k v : ℕ) → AreKept es fs (insert_entry nat_cmp es k v) fs
put_first es fs k v b = left_kept (is_in es b) (is_in fs b) (is_in (insert_entry nat_cmp es k v) b) (is_in fs b) (stays_in es k v b) (λ h. h)

pub put_second : (es fs : List (ℕ × ℕ)) (k v : ℕ) → AreKept es fs es (insert_entry nat_cmp fs k v)
put_second es fs k v b = left_kept (is_in es b) (is_in fs b) (is_in es b) (is_in (insert_entry nat_cmp fs k v) b) (λ h. h) (stays_in fs k v b)

-- ---- all of one list go over to the other

at_equal : (b k : ℕ) → is_at (nat_cmp b) k ≡ true → b ≡ k
at_equal b k h = grind (arith, h)

pub moved_one : (to rest : List (ℕ × ℕ)) (k v : ℕ) → AreKept to ((k, v) ∷ rest) (insert_entry nat_cmp to k v) rest
moved_one to rest k v b = moved (is_at (nat_cmp b) k) refl
  where
    moved : (t : Bool) → is_at (nat_cmp b) k ≡ t → is_in to b || is_some (cond t (Some v) (table_in rest b)) ≡ true → is_in (insert_entry nat_cmp to k v) b || is_in rest b ≡ true
    moved true e h = ap (λ t. t || is_in rest b) (subst (λ (c : ℕ). is_in (insert_entry nat_cmp to k v) c ≡ true) (sym (at_equal b k e)) (put_in to k v))
    moved false e h = left_kept (is_in to b) (is_in rest b) (is_in (insert_entry nat_cmp to k v) b) (is_in rest b) (stays_in to k v b) (λ x. x) h

abbrev dba_of : Option OwedBlock → ℕ
dba_of None = 0
dba_of (Some b) = b.dba

abbrev obj_of : Option OwedBlock → ℕ
obj_of None = 0
obj_of (Some b) = b.obj

-- so many went over
pub record HasMoved (from to left put : List (ℕ × ℕ)) : Type 0 where
  pub all : with_all put left ≡ with_all to from
  pub kept : AreKept to from put left

pub none_moved : (from to : List (ℕ × ℕ)) → HasMoved from to from to
none_moved from to = record { all = refl; kept = kept_same to from }

one_moved : (from to rest put : List (ℕ × ℕ)) (x : ℕ × ℕ) → HasMoved from to (x ∷ rest) put → HasMoved from to rest (insert_entry nat_cmp put x.0 x.1)
one_moved from to rest put x h = record { all = h.all; kept = kept_on to from put (x ∷ rest) (insert_entry nat_cmp put x.0 x.1) rest h.kept (moved_one put rest x.0 x.1) }

pub more_moved : (from to left put rest more : List (ℕ × ℕ)) (block : OwedBlock) → HasMoved from to left put → first_owed left ≡ Some block → more ≡ insert_entry nat_cmp put block.dba block.obj → rest ≡ rest_owed left → HasMoved from to rest more
more_moved from to [] put rest more block h e p d = absurd (cc e)
more_moved from to (x ∷ left) put rest more block h e p d =
    subst (λ (z : List (ℕ × ℕ)). HasMoved from to z more) (sym d)
    (subst (λ (z : List (ℕ × ℕ)). HasMoved from to left z) (sym (p ∙ (ap (λ (k : ℕ). insert_entry nat_cmp put k block.obj) (sym (ap dba_of e)) ∙ ap (λ (v : ℕ). insert_entry nat_cmp put x.0 v) (sym (ap obj_of e)))))
    (one_moved from to left put x h))

none_owed : (es : List (ℕ × ℕ)) → first_owed es ≡ None → es ≡ []
none_owed [] e = refl
none_owed (x ∷ es) e = absurd (cc e)

pub all_moved : (from to left put : List (ℕ × ℕ)) → HasMoved from to left put → first_owed left ≡ None → put ≡ with_all to from
all_moved from to left put h e = ap (λ (z : List (ℕ × ℕ)). with_all put z) (sym (none_owed left e)) ∙ h.all

pub none_stays : (left : List (ℕ × ℕ)) → first_owed left ≡ None → left ≡ []
none_stays left e = none_owed left e

pub rest_less : (left rest : List (ℕ × ℕ)) (block : OwedBlock) → first_owed left ≡ Some block → rest ≡ rest_owed left → length rest < length left
rest_less [] rest block e d = absurd (cc e)
rest_less (x ∷ es) rest block e d = subst (λ (z : List (ℕ × ℕ)). length z < length (x ∷ es)) (sym d) (omega arith)

pub moving_failed : (from to left put more : List (ℕ × ℕ)) → HasMoved from to left put → more ≡ put → AreKept to from more left
moving_failed from to left put more h e = subst (λ (z : List (ℕ × ℕ)). AreKept to from z left) (sym e) h.kept

-- ---- what is owed and noted

pub err_so : {A E : Type 0} (r : Result A E) (P Q : Type 0) → (P → Q) → OnErr r P → OnErr r Q
err_so (Ok x) P Q f h = h
err_so (Err e) P Q f h = f h

pub on_err : {A E : Type 0} (r : Result A E) (P : Type 0) → P → OnErr r P
on_err (Ok x) P h = tt
on_err (Err e) P h = h

pub second_failed : (es fs gs hs : List (ℕ × ℕ)) (k v : ℕ) → gs ≡ insert_entry nat_cmp es k v → hs ≡ fs → AreKept es fs gs hs
second_failed es fs gs hs k v e h = subst (λ (z : List (ℕ × ℕ)). AreKept es fs z hs) (sym e) (subst (λ (z : List (ℕ × ℕ)). AreKept es fs (insert_entry nat_cmp es k v) z) (sym h) (put_first es fs k v))

of_table_kept : (d : Dues) (b o : ℕ) → LosesNone d (of_table d b o)
of_table_kept d b o = kept_on d.owed d.noted (insert_entry nat_cmp d.owed b o) d.noted (insert_entry nat_cmp d.owed b o) (insert_entry nat_cmp d.noted b o) (put_first d.owed d.noted b o) (put_second (insert_entry nat_cmp d.owed b o) d.noted b o)

of_some_kept : (d : Dues) (b : ℕ) (t : Option ℕ) → LosesNone d (of_some_table d b t)
of_some_kept d b None = kept_same d.owed d.noted
of_some_kept d b (Some o) = of_table_kept d b o

block_kept : (o : Option ℕ) (d : Dues) (b : Option ℕ) → LosesNone d (with_block o d b)
block_kept o d None = kept_same d.owed d.noted
block_kept o d (Some b) = of_some_kept d b (table_of d o b)

loses_on : (d e f : Dues) → LosesNone d e → LosesNone e f → LosesNone d f
loses_on d e f p q = kept_on d.owed d.noted e.owed e.noted f.owed f.noted p q

-- a block was noted, and then the next call failed
pub one_kept : (o : Option ℕ) (d e f : Dues) (b : Option ℕ) → e ≡ with_block o d b → LosesNone e f → LosesNone d f
one_kept o d e f b h l = loses_on d e f (subst (λ (z : Dues). LosesNone d z) (sym h) (block_kept o d b)) l

pub two_kept : (o : Option ℕ) (d e f g : Dues) (b c : Option ℕ) → e ≡ with_block o d b → f ≡ with_block o e c → LosesNone f g → LosesNone d g
two_kept o d e f g b c p q l = one_kept o d e g b p (one_kept o e f g c q l)

pub three_kept : (d e f : Dues) (c : Changed) → e ≡ with_blocks c d → LosesNone e f → LosesNone d f
three_kept d e f c h l =
    let one = with_block c.obj d c.first in
    let two = with_block c.obj one c.second in
    two_kept c.obj d one two f c.first c.second refl refl (one_kept c.obj two e f c.third h l)
