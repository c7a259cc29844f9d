-- Whether the data blocks of an extent are free, one after the other.
use Rattle.std.proofs.Common.{◌≡◌, ℕ, zero, suc, ◌+◌, ◌-◌, ◌<◌, ◌≤◌, Bool, true, false, not, ◌&&◌, ◌||◌, leb, List, Option, Some, None, Ok, refl, sym, ◌∙◌, ap, subst, arith, inl, inr, leb-true, leb-false}
use Rattle.seg_words.proofs.Lemmas.{cases_Bool, and_from}
use Rattle.seg_words.specs.Types.{Shape, first_block, head_blocks, list_all}
use Rattle.disk_model.specs.Crash.{Meaning}
use Rattle.redo_model.specs.Records.{Record}
use Rattle.redo_model.specs.Model.{Extent, IsRowBlock, AreAllowed, blocks_from, block_in, code_of, data_blocks, extent_at, extents_of, extent_data, is_formatted, is_vacant, is_vacant_block}
use Rattle.redo_laws.specs.Among.{is_in}
use Rattle.redo_laws.proofs.space.Places.{contains_in}
use Rattle.space_laws.proofs.MarksLaw.{formatted_are_under_mark}
use Rattle.mark_laws.proofs.ThereLaw.{codes_tell}
use Rattle.store_core.specs.Store.{Held}
use Rattle.store_core.specs.Causes.{HasLooked, IsSoundFault}
use Rattle.store_core.specs.declared.fault.StoreFault.{StoreFault}
use Rattle.store_core.proofs.Lookups.{looked_on, looked_ok, looked_same}
use Rattle.lowering.specs.declared.ground.Ground.{Ground}
use Rattle.lowering.specs.Known.{Knows}
use Rattle.lowering.specs.Walks.{AreData, BeginsAt, DoPass, IsData, is_free}
use Rattle.lowering.proofs.Knowing.{allowed_here, knows_later}
use Rattle.lowering.proofs.Places.{data_in, data_there}

-- ---- one block

formatted_when : (sh : Shape) (R : List Record) (b code : ℕ) → AreAllowed sh R → code ≡ code_of sh R b → (code ≡ 0 → ⊥) → is_formatted sh R b ≡ true
formatted_when sh R b code h e z = elim (cases_Bool (is_formatted sh R b)) [ inl y ↦ y | inr f ↦ absurd (z (e ∙ (codes_tell sh R b h).unformatted f)) ]

unformatted_when : (sh : Shape) (R : List Record) (b code : ℕ) → AreAllowed sh R → code ≡ code_of sh R b → code ≡ 0 → is_formatted sh R b ≡ false
unformatted_when sh R b code h e z = elim (cases_Bool (is_formatted sh R b)) [ inl y ↦ (let l = ((codes_tell sh R b h).formatted y).0 in absurd (omega (arith, l, e, z))) | inr f ↦ f ]

pub free_unformatted : {D : Type 0} (meaning : Meaning D) (s : Held D) (R : List Record) (o b code : ℕ) (g : Ground) → Knows meaning R o s g → code ≡ code_of g.shape R b → code ≡ 0 → true ≡ is_free g.shape R b
free_unformatted meaning s R o b code g k e z = sym (ap (λ (v : Bool). not v || is_vacant_block R b) (unformatted_when g.shape R b code (allowed_here meaning s R o g k) e z))

pub row_here : {D : Type 0} (meaning : Meaning D) (s : Held D) (R : List Record) (o b code : ℕ) (g : Ground) → Knows meaning R o s g → is_in b (data_blocks g.shape R o) ≡ true → code ≡ code_of g.shape R b → (code ≡ 0 → ⊥) → IsRowBlock g.shape R o b
row_here meaning s R o b code g k m e z =
    let h = allowed_here meaning s R o g k in
    formatted_are_under_mark g.shape R o b h k.table (contains_in (data_blocks g.shape R o) b m) (formatted_when g.shape R b code h e z)

pub free_vacant : {D : Type 0} (meaning : Meaning D) (s : Held D) (R : List Record) (o b code : ℕ) (g : Ground) (y : Bool) → Knows meaning R o s g → code ≡ code_of g.shape R b → (code ≡ 0 → ⊥) → y ≡ is_vacant_block R b → y ≡ is_free g.shape R b
free_vacant meaning s R o b code g y k e z h = h ∙ sym (ap (λ (v : Bool). not v || is_vacant_block R b) (formatted_when g.shape R b code (allowed_here meaning s R o g k) e z))

-- the nth of its extent
pub begin_there : (sh k : Shape) (R : List Record) (o index first : ℕ) (e : Extent) → sh ≡ k → BeginsAt sh R o index e first → first ≡ first_block k e.number
begin_there sh k R o index first e same b = b.block ∙ ap (λ (s : Shape). first_block s e.number) same

pub at_nth : {D : Type 0} (meaning : Meaning D) (a b : Held D) (R : List Record) (o index first nth dba code : ℕ) (e : Extent) (g : Ground) (P : ℕ → Type 0) → Knows meaning R o a g → BeginsAt g.shape R o index e first → IsData g.shape index nth → dba ≡ first + nth → HasLooked {T = ℕ} meaning a b (Ok code)
    → (first ≡ first_block a.shape e.number → is_in (first + nth) (extent_data a.shape index e.number) ≡ true → code ≡ code_of a.shape R (first + nth))
    → (Knows meaning R o b g → is_in dba (data_blocks g.shape R o) ≡ true → code ≡ code_of g.shape R dba → P dba) → P (first + nth)
at_nth meaning a b R o index first nth dba code e g P k x d same p says h =
    let there : is_in (first + nth) (extent_data a.shape index e.number) ≡ true = subst (λ (s : Shape). is_in (first + nth) (extent_data s index e.number) ≡ true) k.shape (data_in g.shape index e.number first nth x.block d) in
    let value : code ≡ code_of g.shape R (first + nth) = says (begin_there g.shape a.shape R o index first e k.shape x) there ∙ ap (λ (s : Shape). code_of s R (first + nth)) (sym k.shape) in
    subst P same (h (knows_later meaning a b R o g (Ok code) p k) (subst (λ n. is_in n (data_blocks g.shape R o) ≡ true) (sym same) (data_there g.shape R o index first nth e x d)) (value ∙ ap (code_of g.shape R) (sym same)))

-- ---- those of an extent

-- each before this number is free
pub record Freed {D : Type 0} (meaning : Meaning D) (start now : Held D) (g : Ground) (first from to nth : ℕ) : Type 0 where
  pub looked : HasLooked {T = Unit {0}} meaning start now (Ok tt)
  pub least : from ≤ nth
  pub free : (R : List Record) (o index : ℕ) (e : Extent) → Knows meaning R o start g → BeginsAt g.shape R o index e first → AreData g.shape index from to → (k : ℕ) → from ≤ k → k < nth → is_free g.shape R (first + k) ≡ true

pub freed_none : {D : Type 0} (meaning : Meaning D) (s : Held D) (g : Ground) (first from to : ℕ) → s.fault ≡ None → Freed meaning s s g first from to from
freed_none meaning s g first from to n = record { looked = looked_same meaning s tt n; least = omega arith; free = λ R o index e k b d i l m. absurd (omega (arith, l, m)) }

-- it is a data block
pub nth_data : (sh : Shape) (index from to nth : ℕ) → from ≤ nth → nth < to → AreData sh index from to → IsData sh index nth
nth_data sh index from to nth l m d = (let p = d.past in let w = d.within in record { past = omega (arith, l, p); within = omega (arith, m, w) })

-- what the code says of one block
abbrev pub Says : {D : Type 0} → Meaning D → Held D → Ground → ℕ → ℕ → Bool → Type 0
Says meaning s g first nth y = (R : List Record) (o index : ℕ) (e : Extent) → Knows meaning R o s g → BeginsAt g.shape R o index e first → IsData g.shape index nth → y ≡ is_free g.shape R (first + nth)

pub freed_more : {D : Type 0} (meaning : Meaning D) (start mid now : Held D) (g : Ground) (first from to nth : ℕ) (y : Bool) → nth < to → Freed meaning start mid g first from to nth → HasLooked {T = Bool} meaning mid now (Ok y) → y ≡ true → Says meaning mid g first nth y → Freed meaning start now g first from to (nth + 1)
freed_more meaning start mid now g first from to nth y less f p is says = record {
  looked = looked_on meaning start mid now tt (Ok tt) f.looked (looked_ok meaning mid now y tt p);
  least = (let l = f.least in omega (arith, l));
  free = λ R o index e k b d i l m. elim (cases_Bool (leb nth i)) [
    | inl t ↦
        let up = leb-true nth i t in
        let same : nth ≡ i = omega (arith, up, m) in
        subst (λ n. is_free g.shape R (first + n) ≡ true) same (sym (says R o index e (knows_later meaning start mid R o g (Ok tt) f.looked k) b (nth_data g.shape index from to nth f.least less d)) ∙ is)
    | inr t ↦ f.free R o index e k b d i l (leb-false nth i t)
  ];
}

pub freed_found : {D : Type 0} (meaning : Meaning D) (start mid : Held D) (R : List Record) (o index : ℕ) (e : Extent) (g : Ground) (first from to nth : ℕ) (y : Bool) → nth < to → Freed meaning start mid g first from to nth → y ≡ false → Says meaning mid g first nth y
    → Knows meaning R o start g → BeginsAt g.shape R o index e first → AreData g.shape index from to → DoPass (is_free g.shape R) first from to false
freed_found meaning start mid R o index e g first from to nth y less f is says k b d = record {
  nth = nth;
  past = f.least;
  below = less;
  fails = sym (says R o index e (knows_later meaning start mid R o g (Ok tt) f.looked k) b (nth_data g.shape index from to nth f.least less d)) ∙ is;
}

pub freed_all : {D : Type 0} (meaning : Meaning D) (start mid : Held D) (R : List Record) (o index : ℕ) (e : Extent) (g : Ground) (first from to nth : ℕ) → to ≤ nth → Freed meaning start mid g first from to nth → Knows meaning R o start g → BeginsAt g.shape R o index e first → AreData g.shape index from to → DoPass (is_free g.shape R) first from to true
freed_all meaning start mid R o index e g first from to nth end f k b d i l m = f.free R o index e k b d i l (omega (arith, m, end))

pub freed_fails : {D : Type 0} (meaning : Meaning D) (start mid : Held D) (R : List Record) (o index : ℕ) (e : Extent) (g : Ground) (first from to nth : ℕ) (fault : StoreFault) → nth < to → Freed meaning start mid g first from to nth
    → ((Q : List Record) (p i : ℕ) (x : Extent) → Knows meaning Q p mid g → BeginsAt g.shape Q p i x first → IsData g.shape i nth → mid.fault ≡ None → IsSoundFault fault)
    → Knows meaning R o start g → BeginsAt g.shape R o index e first → AreData g.shape index from to → IsSoundFault fault
freed_fails meaning start mid R o index e g first from to nth fault less f sound k b d = sound R o index e (knows_later meaning start mid R o g (Ok tt) f.looked k) b (nth_data g.shape index from to nth f.least less d) (f.looked.cause.kept f.looked.cause.goes_on)

-- ---- the extent

all_from : (p : ℕ → Bool) (b n : ℕ) → ((k : ℕ) → k < n → p (b + k) ≡ true) → list_all p (blocks_from b n) ≡ true
all_from p b zero h = refl
all_from p b (suc n) h = and_from (p b) (list_all p (blocks_from (suc b) n))
    (subst (λ c. p c ≡ true) (let z : b + 0 ≡ b = omega arith in z) (h 0 (omega arith)))
    (all_from p (suc b) n (λ k l. subst (λ c. p c ≡ true) (let z : b + suc k ≡ suc b + k = omega arith in z) (h (suc k) (omega (arith, l)))))

one_from : (p : ℕ → Bool) (b n k : ℕ) → k < n → p (b + k) ≡ false → list_all p (blocks_from b n) ≡ false
one_from p b zero k l f = absurd (omega (arith, l))
one_from p b (suc n) zero l f = ap (λ (v : Bool). v && list_all p (blocks_from (suc b) n)) (subst (λ c. p c ≡ false) (let z : b + 0 ≡ b = omega arith in z) f)
one_from p b (suc n) (suc k) l f = and_off (p b) (list_all p (blocks_from (suc b) n)) (one_from p (suc b) n k (omega (arith, l)) (subst (λ c. p c ≡ false) (let z : b + suc k ≡ suc b + k = omega arith in z) f))
  where
    and_off : (v w : Bool) → w ≡ false → (v && w) ≡ false
    and_off true w e = e
    and_off false w e = refl

-- the first block of an extent
pub begins : (sh : Shape) (R : List Record) (o index first : ℕ) (e : Extent) → first ≡ block_in sh (extent_at (extents_of R o) index) 0 → extent_at (extents_of R o) index ≡ Some e → BeginsAt sh R o index e first
begins sh R o index first e is at = record { at = at; block = is ∙ ap (λ (x : Option Extent). block_in sh x 0) at ∙ (let z : first_block sh e.number + 0 ≡ first_block sh e.number = omega arith in z) }

pub vacant_extent : (sh : Shape) (R : List Record) (index x first head count : ℕ) (y : Bool) → first ≡ first_block sh x → head ≡ head_blocks index → count ≡ sh.extent → DoPass (is_free sh R) first head count y → y ≡ is_vacant sh R index x
vacant_extent sh R index x first head count true f h c pass =
    sym (all_from (is_free sh R) (first_block sh x + head_blocks index) (sh.extent - head_blocks index) (λ k l.
    subst (λ n. is_free sh R n ≡ true) (let z : first + (head + k) ≡ first_block sh x + head_blocks index + k = omega (arith, f, h) in z)
    (pass (head + k) (omega arith) (omega (arith, l, h, c)))))
vacant_extent sh R index x first head count false f h c one =
    let past = one.past in
    let below = one.below in
    sym (one_from (is_free sh R) (first_block sh x + head_blocks index) (sh.extent - head_blocks index) (one.nth - head) (omega (arith, past, below, h, c))
    (subst (λ n. is_free sh R n ≡ false) (let z : first + one.nth ≡ first_block sh x + head_blocks index + (one.nth - head) = omega (arith, f, h, past) in z) one.fails))

-- its data blocks are all past its bitmaps and header
pub all_data : (sh : Shape) (index head count : ℕ) → head ≡ head_blocks index → count ≡ sh.extent → AreData sh index head count
all_data sh index head count h c = record { past = omega (arith, h); within = omega (arith, c) }
