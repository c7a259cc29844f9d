-- Walks up over the data blocks of a table: whether a block stands there, and which is the first that takes a row.
use Rattle.std.proofs.Common.{◌≡◌, ℕ, zero, suc, ◌+◌, ◌<◌, ◌≤◌, Bool, true, false, cond, ◌&&◌, eqb, leb, List, [], ◌∷◌, take, find, slice_get, Option, Some, None, Ok, refl, sym, ◌∙◌, ap, subst, arith, inl, inr, true≢false, eq-eqb, eqb-true, le-leb}
use Rattle.seg_words.proofs.Lemmas.{cond-true, cond-false, cases_Bool}
use Rattle.seg_words.specs.Types.{Shape, Block, MOST_PCTFREE, Shrink, takes}
use Rattle.disk_model.specs.Crash.{Meaning}
use Rattle.redo_model.specs.Records.{Record}
use Rattle.redo_model.specs.Model.{IsRowBlock, data_blocks, ended_in, first_taker, is_formatted, pctfree_of, takes_row}
use Rattle.version_laws.specs.Types.{ended_by}
use Rattle.page_set.specs.Folded.{page_of}
use Rattle.store_laws.proofs.KindsLaw.{rows_stand}
use Rattle.store_core.specs.Store.{Held, has_page}
use Rattle.store_core.specs.Causes.{HasLooked}
use Rattle.store_core.proofs.Lookups.{looked_on, looked_ok, looked_same}
use Rattle.shrink_laws.specs.Stops.{IsAt}
use Rattle.shrink_move.specs.declared.ground.Ground.{Ground}
use Rattle.shrink_move.specs.declared.walking.Coded.{Coded}
use Rattle.shrink_move.specs.Asked.{takes_in}
use Rattle.shrink_move.specs.Known.{Knows}
use Rattle.shrink_move.specs.Walks.{IsBelow, IsCoded, IsThere, TakerAt, is_taker}
use Rattle.shrink_move.proofs.Knowing.{allowed_here, knows_later}
use Rattle.shrink_move.proofs.Placing.{at_same, block_inside, no_block}
use Rattle.shrink_move.proofs.Opening.{row_has}
use Rattle.shrink_move.proofs.Coming.{coded_formatted, coded_free, row_block}

-- ---- what is known of the list after calls that only looked

pub record Passed {D : Type 0} (meaning : Meaning D) (start now : Held D) (g : Ground) (holds_of : List Record → ℕ → Type 0) : Type 0 where
  pub looked : HasLooked {T = Unit {0}} meaning start now (Ok tt)
  pub holds : (R : List Record) (o : ℕ) → Knows meaning R o start g → holds_of R o

pub passed_same : {D : Type 0} (meaning : Meaning D) (s : Held D) (g : Ground) (P : List Record → ℕ → Type 0) → s.fault ≡ None → ((R : List Record) (o : ℕ) → P R o) → Passed meaning s s g P
passed_same meaning s g P n h = record { looked = looked_same meaning s tt n; holds = λ R o k. h R o }

pub passed_when : {D : Type 0} (meaning : Meaning D) (s : Held D) (g : Ground) (P : List Record → ℕ → Type 0) → s.fault ≡ None → ((R : List Record) (o : ℕ) → Knows meaning R o s g → P R o) → Passed meaning s s g P
passed_when meaning s g P n h = record { looked = looked_same meaning s tt n; holds = h }

pub passed_more : {D A : Type 0} (meaning : Meaning D) (start mid now : Held D) (g : Ground) (P Q : List Record → ℕ → Type 0) (x : A) → Passed meaning start mid g P → HasLooked {T = A} meaning mid now (Ok x) → ((R : List Record) (o : ℕ) → Knows meaning R o mid g → P R o → Q R o) → Passed meaning start now g Q
passed_more meaning start mid now g P Q x d p goes = record {
  looked = looked_on meaning start mid now tt (Ok tt) d.looked (looked_ok meaning mid now x tt p);
  holds = λ R o k. goes R o (knows_later meaning start mid R o g (Ok tt) d.looked k) (d.holds R o k);
}

pub passed_known : {D : Type 0} (meaning : Meaning D) (start mid : Held D) (R : List Record) (o : ℕ) (g : Ground) (P : List Record → ℕ → Type 0) → Passed meaning start mid g P → Knows meaning R o start g → Knows meaning R o mid g
passed_known meaning start mid R o g P d k = knows_later meaning start mid R o g (Ok tt) d.looked k

pub passed_unspent : {D : Type 0} (meaning : Meaning D) (start mid : Held D) (g : Ground) (P : List Record → ℕ → Type 0) → Passed meaning start mid g P → mid.fault ≡ None
passed_unspent meaning start mid g P d = d.looked.cause.kept d.looked.cause.goes_on

-- ---- whether a block stands below

abbrev pub NoneBelow : Ground → ℕ → ℕ → List Record → ℕ → Type 0
NoneBelow g b n R o = (i : ℕ) → i < n → IsAt g.shape R o i b → ⊥

pub there_told : (sh : Shape) (R : List Record) (o n b : ℕ) (c : Coded) (y : Bool) → y ≡ eqb c.dba b → IsCoded sh R o n c → IsThere sh R o n b y
there_told sh R o n b c true e k = subst (λ d. IsAt sh R o n d) (eqb-true c.dba b (sym e)) k.here
there_told sh R o n b c false e k = λ at. true≢false (sym (eq-eqb c.dba b (at_same _ n c.dba b k.here at)) ∙ sym e)

pub none_below : (g : Ground) (b n : ℕ) (y : Bool) (R : List Record) (o : ℕ) → y ≡ false → IsThere g.shape R o n b y → NoneBelow g b n R o → NoneBelow g b (n + 1) R o
none_below g b n y R o f t h i l at = elim (cases_Bool (eqb i n)) [
  | inl z ↦ (let no : IsThere g.shape R o n b false = subst (IsThere g.shape R o n b) f t in no (subst (λ m. IsAt g.shape R o m b) (eqb-true i n z) at))
  | inr z ↦ h i (below (λ e. true≢false (sym (eq-eqb i n e) ∙ z))) at
]
  where
    below : (i ≡ n → ⊥) → i < n
    below z = omega (arith, l, z)

pub one_below : (sh : Shape) (R : List Record) (o b n place : ℕ) (y : Bool) → y ≡ true → n < place → IsThere sh R o n b y → IsBelow sh R o place b true
one_below sh R o b n place y e l t = record { lower = n; there = (let z : IsThere sh R o n b true = subst (IsThere sh R o n b) e t in z); below = l }

pub all_below : (g : Ground) (R : List Record) (o b n place : ℕ) → place ≤ n → NoneBelow g b n R o → IsBelow g.shape R o place b false
all_below g R o b n place l h i m at = h i (omega (arith, l, m)) at

-- ---- the first that takes a row

-- of a list whose first ones don't pass
first_fails : (p : ℕ → Bool) (x : ℕ) (r : Option ℕ) → cond (p x) (Some x) r ≡ None → (p x ≡ false) × (r ≡ None)
first_fails p x r e = elim (cases_Bool (p x)) [
  | inl y ↦ no_block x (sym e ∙ cond-true _ _ _ y)
  | inr f ↦ (f, sym (cond-false _ _ _ f) ∙ e)
]

find_none : (p : ℕ → Bool) (bs : List ℕ) (n b : ℕ) → find p (take n bs) ≡ None → slice_get bs n ≡ Some b → p b ≡ false → find p (take (suc n) bs) ≡ None
find_none p [] n b e h f = no_block b h
find_none p (x ∷ bs) zero b e h f = cond-false (p x) (Some x) None (ap p (block_inside x b h) ∙ f)
find_none p (x ∷ bs) (suc n) b e h f = let k = first_fails p x (find p (take n bs)) e in cond-false _ _ _ k.0 ∙ find_none p bs n b k.1 h f

find_one : (p : ℕ → Bool) (bs : List ℕ) (n m b : ℕ) → n < m → find p (take n bs) ≡ None → slice_get bs n ≡ Some b → p b ≡ true → find p (take m bs) ≡ Some b
find_one p [] n m b l e h y = no_block b h
find_one p (x ∷ bs) n zero b l e h y = absurd (omega (arith, l))
find_one p (x ∷ bs) zero (suc m) b l e h y = let same = block_inside x b h in cond-true (p x) (Some x) _ (ap p same ∙ y) ∙ ap (λ (z : ℕ). Some z) same
find_one p (x ∷ bs) (suc n) (suc m) b l e h y = let k = first_fails p x (find p (take n bs)) e in cond-false _ _ _ k.0 ∙ find_one p bs n m b (omega (arith, l)) k.1 h y

abbrev pub NoneTakes : Ground → ℕ → ℕ → List Record → ℕ → Type 0
NoneTakes g len n R o = find (λ b. is_taker g.shape R o len b) (take n (data_blocks g.shape R o)) ≡ None

-- one block

pub takes_read : {D : Type 0} (meaning : Meaning D) (s : Held D) (R : List Record) (o b len : ℕ) (g : Ground) → Knows meaning R o s g → IsRowBlock g.shape R o b → takes_in g.table g.segment.pctfree len (page_of s.shape R b) ≡ Some (takes_row R (pctfree_of R o) b len Shrink)
takes_read meaning s R o b len g k x =
    let p = rows_stand s.shape R o b k.holds.list.within k.holds.lawful (subst (λ (sh : Shape). IsRowBlock sh R o b) k.shape x) in
    ap (takes_in g.table g.segment.pctfree len) p.page
    ∙ cond-true (leb g.segment.pctfree MOST_PCTFREE) (Some (takes (ended_by g.table) g.segment.pctfree p.rows.block len Shrink)) None (le-leb g.segment.pctfree MOST_PCTFREE k.percent)
    ∙ ap (λ (f : ℕ → Bool). Some (takes f g.segment.pctfree p.rows.block len Shrink)) k.ended
    ∙ ap (λ n. Some (takes (ended_in R) n p.rows.block len Shrink)) k.segment.pctfree
    ∙ ap (λ (y : Block). Some (takes (ended_in R) (pctfree_of R o) y len Shrink)) p.holds.block

test_inside : (a b : Bool) → ◌≡◌ {A = Option Bool} (Some a) (Some b) → a ≡ b
test_inside a b e = cc

pub takes_told : {D : Type 0} (meaning : Meaning D) (s : Held D) (R : List Record) (o b len : ℕ) (g : Ground) (y : Bool) → Knows meaning R o s g → IsRowBlock g.shape R o b → takes_in g.table g.segment.pctfree len (page_of s.shape R b) ≡ Some y → y ≡ takes_row R (pctfree_of R o) b len Shrink
takes_told meaning s R o b len g y k x e = test_inside y _ (sym e ∙ takes_read meaning s R o b len g k x)

pub takes_has : {D : Type 0} (meaning : Meaning D) (s : Held D) (R : List Record) (o b : ℕ) (g : Ground) → Knows meaning R o s g → IsRowBlock g.shape R o b → has_page s.shape b ≡ true
takes_has meaning s R o b g k x = row_has s.shape R o b k.holds.lawful.allowed (subst (λ (sh : Shape). IsRowBlock sh R o b) k.shape x)

pub taker_row : {D : Type 0} (meaning : Meaning D) (s : Held D) (R : List Record) (o n : ℕ) (g : Ground) (c : Coded) → Knows meaning R o s g → IsCoded g.shape R o n c → (c.code ≡ 0 → ⊥) → IsRowBlock g.shape R o c.dba
taker_row meaning s R o n g c k w z = row_block g.shape R o n c (allowed_here meaning s R o g k) k.table w z

not_taker : (sh : Shape) (R : List Record) (o len b : ℕ) → is_formatted sh R b ≡ false → is_taker sh R o len b ≡ false
not_taker sh R o len b f = ap (λ v. v && takes_row R (pctfree_of R o) b len Shrink) f

pub taker_free : {D : Type 0} (meaning : Meaning D) (s : Held D) (R : List Record) (o n len : ℕ) (g : Ground) (c : Coded) → Knows meaning R o s g → IsCoded g.shape R o n c → c.code ≡ 0 → TakerAt g.shape R o n len None
taker_free meaning s R o n len g c k w z = record { block = c.dba; here = w.here; told = sym (cond-false (is_taker g.shape R o len c.dba) (Some c.dba) None (not_taker g.shape R o len c.dba (coded_free g.shape R o n c (allowed_here meaning s R o g k) w z))) }

taker_is : (sh : Shape) (R : List Record) (o len b : ℕ) (y : Bool) → is_formatted sh R b ≡ true → y ≡ takes_row R (pctfree_of R o) b len Shrink → is_taker sh R o len b ≡ y
taker_is sh R o len b y f e = ap (λ v. v && takes_row R (pctfree_of R o) b len Shrink) f ∙ sym e

pub taker_yes : {D : Type 0} (meaning : Meaning D) (s : Held D) (R : List Record) (o n len : ℕ) (g : Ground) (c : Coded) (y : Bool) → Knows meaning R o s g → IsCoded g.shape R o n c → (c.code ≡ 0 → ⊥) → y ≡ true → y ≡ takes_row R (pctfree_of R o) c.dba len Shrink → TakerAt g.shape R o n len (Some c.dba)
taker_yes meaning s R o n len g c y k w z e t = record { block = c.dba; here = w.here; told = sym (cond-true (is_taker g.shape R o len c.dba) (Some c.dba) None (taker_is g.shape R o len c.dba y (coded_formatted g.shape R o n c (allowed_here meaning s R o g k) w z) t ∙ e)) }

pub taker_no : {D : Type 0} (meaning : Meaning D) (s : Held D) (R : List Record) (o n len : ℕ) (g : Ground) (c : Coded) (y : Bool) → Knows meaning R o s g → IsCoded g.shape R o n c → (c.code ≡ 0 → ⊥) → y ≡ false → y ≡ takes_row R (pctfree_of R o) c.dba len Shrink → TakerAt g.shape R o n len None
taker_no meaning s R o n len g c y k w z e t = record { block = c.dba; here = w.here; told = sym (cond-false (is_taker g.shape R o len c.dba) (Some c.dba) None (taker_is g.shape R o len c.dba y (coded_formatted g.shape R o n c (allowed_here meaning s R o g k) w z) t ∙ e)) }

-- the walk

fails_there : (v : Bool) (b : ℕ) → ◌≡◌ {A = Option ℕ} None (cond v (Some b) None) → v ≡ false
fails_there true b e = no_block b e
fails_there false b e = refl

passes_there : (v : Bool) (b d : ℕ) → ◌≡◌ {A = Option ℕ} (Some d) (cond v (Some b) None) → (v ≡ true) × (d ≡ b)
passes_there true b d e = (refl, block_inside d b e)
passes_there false b d e = no_block d (sym e)

pub none_takes : (g : Ground) (len n : ℕ) (x : Option ℕ) (R : List Record) (o : ℕ) → x ≡ None → TakerAt g.shape R o n len x → NoneTakes g len n R o → NoneTakes g len (n + 1) R o
none_takes g len n x R o e t h =
    subst (λ m. NoneTakes g len m R o) (let z : suc n ≡ n + 1 = omega arith in z)
    (find_none (λ b. is_taker g.shape R o len b) (data_blocks g.shape R o) n t.block h t.here (fails_there (is_taker g.shape R o len t.block) t.block (sym e ∙ t.told)))

pub one_takes : (g : Ground) (len n place d : ℕ) (x : Option ℕ) (R : List Record) (o : ℕ) → x ≡ Some d → n < place → TakerAt g.shape R o n len x → NoneTakes g len n R o → Some d ≡ first_taker g.shape R o place len
one_takes g len n place d x R o e l t h =
    let y = passes_there (is_taker g.shape R o len t.block) t.block d (sym e ∙ t.told) in
    sym (find_one (λ b. is_taker g.shape R o len b) (data_blocks g.shape R o) n place t.block l h t.here y.0 ∙ ap (λ (b : ℕ). Some b) (sym y.1))

pub all_taken : (g : Ground) (len n place : ℕ) (R : List Record) (o : ℕ) → n ≡ place → NoneTakes g len n R o → ◌≡◌ {A = Option ℕ} None (first_taker g.shape R o place len)
all_taken g len n place R o e h = sym (subst (λ m. NoneTakes g len m R o) e h)
