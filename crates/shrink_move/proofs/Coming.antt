-- The cursor going down.
use Rattle.std.proofs.Common.{◌≡◌, ℕ, ◌+◌, ◌-◌, ◌<◌, ◌≤◌, true, false, eqb, List, length, Option, Some, None, Ok, refl, sym, ◌∙◌, subst, arith, inl, inr, true≢false, eq-eqb, eqb-true}
use Rattle.seg_words.proofs.Lemmas.{cases_Bool}
use Rattle.seg_words.specs.Types.{Shape}
use Rattle.disk_model.specs.Crash.{Meaning}
use Rattle.redo_model.specs.Records.{Record}
use Rattle.redo_model.specs.Model.{IsTable, IsRowBlock, AreAllowed, data_blocks, is_formatted}
use Rattle.redo_laws.proofs.space.Places.{contains_in}
use Rattle.space_laws.proofs.MarksLaw.{formatted_are_under_mark}
use Rattle.mark_laws.proofs.ThereLaw.{codes_tell}
use Rattle.page_set.specs.Folded.{page_of}
use Rattle.store_core.specs.Store.{Held, has_page}
use Rattle.store_core.specs.Causes.{HasLooked, IsSoundFault}
use Rattle.store_core.specs.declared.fault.StoreFault.{StoreFault}
use Rattle.store_core.proofs.Lookups.{looked_on, looked_ok, looked_same}
use Rattle.shrink_laws.specs.declared.skip.Skip.{Skip}
use Rattle.shrink_laws.specs.Stops.{IsAt, IsFull, is_skipped}
use Rattle.shrink_laws.specs.Cursor.{Cleared}
use Rattle.shrink_move.specs.declared.ground.Ground.{Ground}
use Rattle.shrink_move.specs.declared.walking.Coded.{Coded}
use Rattle.shrink_move.specs.declared.come.Come.{Come}
use Rattle.shrink_move.specs.Asked.{open_in}
use Rattle.shrink_move.specs.Known.{Knows}
use Rattle.shrink_move.specs.Walks.{ComesAt, ComesDown, IsCoded, StandsAt}
use Rattle.shrink_move.proofs.Knowing.{allowed_here, knows_later}
use Rattle.shrink_move.proofs.Placing.{at_in, at_same}
use Rattle.shrink_move.proofs.Opening.{greatest_of, none_of, open_read, row_has, row_home}

-- ---- one block

pub coded_formatted : (sh : Shape) (R : List Record) (o n : ℕ) (c : Coded) → AreAllowed sh R → IsCoded sh R o n c → (c.code ≡ 0 → ⊥) → is_formatted sh R c.dba ≡ true
coded_formatted sh R o n c h k z = elim (cases_Bool (is_formatted sh R c.dba)) [ inl y ↦ y | inr f ↦ absurd (z (k.code ∙ (codes_tell sh R c.dba h).unformatted f)) ]

pub coded_free : (sh : Shape) (R : List Record) (o n : ℕ) (c : Coded) → AreAllowed sh R → IsCoded sh R o n c → c.code ≡ 0 → is_formatted sh R c.dba ≡ false
coded_free sh R o n c h k z = elim (cases_Bool (is_formatted sh R c.dba)) [ inl y ↦ (let l = ((codes_tell sh R c.dba h).formatted y).0 in let e = k.code in absurd (omega (arith, l, e, z))) | inr f ↦ f ]

pub row_block : (sh : Shape) (R : List Record) (o n : ℕ) (c : Coded) → AreAllowed sh R → IsTable R o → IsCoded sh R o n c → (c.code ≡ 0 → ⊥) → IsRowBlock sh R o c.dba
row_block sh R o n c h t k z = formatted_are_under_mark sh R o c.dba h t (contains_in (data_blocks sh R o) c.dba (at_in (data_blocks sh R o) n c.dba k.here)) (coded_formatted sh R o n c h k z)

-- where it isn't formatted, it holds nothing
pub comes_free : {D : Type 0} (meaning : Meaning D) (s : Held D) (R : List Record) (o n : ℕ) (g : Ground) (skips : List Skip) (c : Coded) → Knows meaning R o s g → IsCoded g.shape R o n c → c.code ≡ 0 → ComesAt g.shape R o skips n None
comes_free meaning s R o n g skips c k w z b i at full =
    let h = allowed_here meaning s R o g k in
    let same : c.dba ≡ b = at_same (data_blocks g.shape R o) n c.dba b w.here at in
    absurd (true≢false (sym (row_home g.shape R b i h full).formatted ∙ subst (λ d. is_formatted g.shape R d ≡ false) same (coded_free g.shape R o n c h w z)))

-- by the shape of the store, as it answers
row_here : {D : Type 0} (meaning : Meaning D) (s : Held D) (R : List Record) (o n : ℕ) (g : Ground) (c : Coded) → Knows meaning R o s g → IsCoded g.shape R o n c → (c.code ≡ 0 → ⊥) → IsRowBlock s.shape R o c.dba
row_here meaning s R o n g c k w z = subst (λ (sh : Shape). IsRowBlock sh R o c.dba) k.shape (row_block g.shape R o n c (allowed_here meaning s R o g k) k.table w z)

pub comes_some : {D : Type 0} (meaning : Meaning D) (s : Held D) (R : List Record) (o n slot : ℕ) (g : Ground) (skips : List Skip) (c : Coded) (r : Option ℕ) (x : Come) → Knows meaning R o s g → IsCoded g.shape R o n c → (c.code ≡ 0 → ⊥) → open_in skips c.dba (page_of s.shape R c.dba) ≡ Some r → r ≡ Some slot
    → x ≡ record { place = n; at = record { dba = c.dba; slot = slot } } → ComesAt g.shape R o skips n (Some x)
comes_some meaning s R o n slot g skips c r x k w z e is same =
    let p = greatest_of s.shape R o c.dba slot skips r k.holds.list.within k.holds.lawful (row_here meaning s R o n g c k w z) e is in
    subst (StandsAt g.shape R o skips n) (sym same) (record { place = refl; here = w.here; full = p.full; fresh = p.fresh; greater = p.greater })

pub comes_none : {D : Type 0} (meaning : Meaning D) (s : Held D) (R : List Record) (o n : ℕ) (g : Ground) (skips : List Skip) (c : Coded) (r : Option ℕ) → Knows meaning R o s g → IsCoded g.shape R o n c → (c.code ≡ 0 → ⊥) → open_in skips c.dba (page_of s.shape R c.dba) ≡ Some r → r ≡ None → ComesAt g.shape R o skips n None
comes_none meaning s R o n g skips c r k w z e is b i at full =
    let same : c.dba ≡ b = at_same (data_blocks g.shape R o) n c.dba b w.here at in
    subst (λ d. IsFull R d i → is_skipped skips d i ≡ true) same (none_of s.shape R o c.dba skips r k.holds.list.within k.holds.lawful (row_here meaning s R o n g c k w z) e is i) full

-- the block can be asked
pub comes_sound : {D : Type 0} (meaning : Meaning D) (s : Held D) (R : List Record) (o n : ℕ) (g : Ground) (skips : List Skip) (c : Coded) (f : StoreFault) → Knows meaning R o s g → IsCoded g.shape R o n c → (c.code ≡ 0 → ⊥)
    → ((x : Option ℕ) → has_page s.shape c.dba ≡ true → open_in skips c.dba (page_of s.shape R c.dba) ≡ Some x → IsSoundFault f) → IsSoundFault f
comes_sound meaning s R o n g skips c f k w z says =
    let x = row_here meaning s R o n g c k w z in
    says _ (row_has s.shape R o c.dba k.holds.lawful.allowed x) (open_read s.shape R o c.dba skips k.holds.list.within k.holds.lawful x)

-- ---- the walk

pub record Descends {D : Type 0} (meaning : Meaning D) (start now : Held D) (g : Ground) (skips : List Skip) (cursor passed : ℕ) : Type 0 where
  pub looked : HasLooked {T = Unit {0}} meaning start now (Ok tt)
  pub cleared : (R : List Record) (o : ℕ) → Knows meaning R o start g → Cleared g.shape R o skips (cursor - passed) cursor

pub descends_none : {D : Type 0} (meaning : Meaning D) (s : Held D) (g : Ground) (skips : List Skip) (cursor : ℕ) → s.fault ≡ None → Descends meaning s s g skips cursor 0
descends_none meaning s g skips cursor n = record { looked = looked_same meaning s tt n; cleared = λ R o k i b j l m at full. absurd (omega (arith, l, m)) }

pub descends_more : {D : Type 0} (meaning : Meaning D) (start mid now : Held D) (g : Ground) (skips : List Skip) (cursor passed : ℕ) (x : Option Come) → Descends meaning start mid g skips cursor passed → passed < cursor → HasLooked {T = Option Come} meaning mid now (Ok x) → x ≡ None
    → ((R : List Record) (o : ℕ) → Knows meaning R o mid g → ComesAt g.shape R o skips (cursor - passed) x) → Descends meaning start now g skips cursor (passed + 1)
descends_more meaning start mid now g skips cursor passed x d l p none says = record {
  looked = looked_on meaning start mid now tt (Ok tt) d.looked (looked_ok meaning mid now x tt p);
  cleared = λ R o k. more R o (d.cleared R o k) (subst (ComesAt g.shape R o skips (cursor - passed)) none (says R o (knows_later meaning start mid R o g (Ok tt) d.looked k)));
}
  where
    more : (R : List Record) (o : ℕ) → Cleared g.shape R o skips (cursor - passed) cursor → ComesAt g.shape R o skips (cursor - passed) None → Cleared g.shape R o skips (cursor - (passed + 1)) cursor
    more R o c here i b j least most at full = elim (cases_Bool (eqb i (cursor - passed))) [
      | inl y ↦ (let same : i ≡ cursor - passed = eqb-true i (cursor - passed) y in here b j (subst (λ n. IsAt g.shape R o n b) same at) full)
      | inr f ↦ c i b j (above (λ e. true≢false (sym (eq-eqb i (cursor - passed) e) ∙ f))) most at full
    ]
      where
        above : (i ≡ cursor - passed → ⊥) → cursor - passed < i
        above z = omega (arith, least, z, l)

pub descends_found : {D : Type 0} (meaning : Meaning D) (start mid : Held D) (R : List Record) (o : ℕ) (g : Ground) (skips : List Skip) (cursor passed : ℕ) (r : Option Come) (x : Come) → Descends meaning start mid g skips cursor passed → passed < cursor → r ≡ Some x
    → ((R : List Record) (o : ℕ) → Knows meaning R o mid g → ComesAt g.shape R o skips (cursor - passed) r) → Knows meaning R o start g → ComesDown g.shape R o skips cursor (Some x)
descends_found meaning start mid R o g skips cursor passed r x d l is says k =
    let s : StandsAt g.shape R o skips (cursor - passed) x = subst (ComesAt g.shape R o skips (cursor - passed)) is (says R o (knows_later meaning start mid R o g (Ok tt) d.looked k)) in
    let place = s.place in
    record {
      down = omega (arith, place);
      not_first = omega (arith, place, l);
      cleared = subst (λ n. Cleared g.shape R o skips n cursor) (sym place) (d.cleared R o k);
      here = subst (λ n. IsAt g.shape R o n x.at.dba) (sym place) s.here;
      full = s.full;
      fresh = s.fresh;
      greater = s.greater;
    }

pub descends_all : {D : Type 0} (meaning : Meaning D) (start mid : Held D) (R : List Record) (o : ℕ) (g : Ground) (skips : List Skip) (cursor passed : ℕ) → Descends meaning start mid g skips cursor passed → cursor ≤ passed → Knows meaning R o start g → ComesDown g.shape R o skips cursor None
descends_all meaning start mid R o g skips cursor passed d l k = subst (λ n. Cleared g.shape R o skips n cursor) (let z : cursor - passed ≡ 0 = omega (arith, l) in z) (d.cleared R o k)

pub descends_fails : {D : Type 0} (meaning : Meaning D) (start mid : Held D) (R : List Record) (o : ℕ) (g : Ground) (skips : List Skip) (cursor passed : ℕ) (f : StoreFault) → Descends meaning start mid g skips cursor passed → cursor < length (data_blocks g.shape R o)
    → ((R : List Record) (o : ℕ) → Knows meaning R o mid g → cursor - passed < length (data_blocks g.shape R o) → mid.fault ≡ None → IsSoundFault f) → Knows meaning R o start g → IsSoundFault f
descends_fails meaning start mid R o g skips cursor passed f d l says k = says R o (knows_later meaning start mid R o g (Ok tt) d.looked k) (omega (arith, l)) (d.looked.cause.kept d.looked.cause.goes_on)
