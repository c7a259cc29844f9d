-- The Clean of a settling is allowed, and the only one of its block.
use Rattle.std.proofs.Common.{◌≡◌, ℕ, Bool, true, false, cond, not, ◌&&◌, eqb, List, Option, Some, None, refl, sym, ◌∙◌, ap, arith, ne_eqb}
use Rattle.seg_words.proofs.Lemmas.{cond-true, eqb-false, and_from, and_parts, not-true}
use Rattle.seg_words.specs.Types.{Shape, number_of}
use Rattle.redo_model.specs.Records.{Record, CleanRecord}
use Rattle.redo_model.specs.Model.{is_active, ended_in, has_begun, has_ended, is_named_in, stated_number, CleanAllowed, IsRowBlock, block_of, AreAllowed}
use Rattle.settle_laws.proofs.NamedLaw.{named_have_written}
use Rattle.version_laws.proofs.SlotLaw.{begun_from_one}
use Rattle.end_laws.proofs.Allowed.{called}
use Rattle.usage_laws.specs.Named.{is_over}
use Rattle.usage_laws.specs.Drafts.{drafted_clean}
use Rattle.usage_laws.specs.Settling.{CleansAreAllowed, CleansAreOne}
use Rattle.usage_laws.proofs.Names.{ended_rise, ended_number, rising_same}

-- an ended transaction is over, and one that a block names and that is over has ended

over_of : (sh : Shape) (R : List Record) (t : ℕ) → AreAllowed sh R → has_ended R t ≡ true → is_over (ended_in R) t ≡ true
over_of sh R t h e =
    let p = and_parts (has_begun R t) (not (is_active R t)) e in
    let least = begun_from_one sh R t h p.0 in
    and_from (not (eqb t 0)) (ended_in R t) (ap not (ne_eqb t 0 (λ z. absurd (omega (arith, least, z))))) p.1

ended_of : (sh : Shape) (R : List Record) (b t : ℕ) → AreAllowed sh R → is_named_in (block_of R b) t ≡ true → is_over (ended_in R) t ≡ true → has_ended R t ≡ true
ended_of sh R b t h n o =
    let p = and_parts (not (eqb t 0)) (ended_in R t) o in
    let other : t ≡ 0 → ⊥ = eqb-false t 0 (not-true (eqb t 0) p.0) in
    let names = named_have_written sh R b h in
    and_from (has_begun R t) (not (is_active R t)) (names.begun t (names.named t (omega (arith, other)) n)) p.1

found : (v : Bool) (m n : ℕ) → cond v (Some m) None ≡ Some n → (v ≡ true) × (n ≡ m)
found true m n e = (refl, (let x : ◌≡◌ {A = Option ℕ} (Some m) (Some n) = e in cc))
found false m n e = absurd (let x : ◌≡◌ {A = Option ℕ} None (Some n) = e in cc)

pub clean_allowed : (sh : Shape) (R : List Record) (o b : ℕ) → AreAllowed sh R → IsRowBlock sh R o b → CleanAllowed sh R (drafted_clean R b)
clean_allowed sh R o b h here = record {
  obj = o;
  here = here;
  rising = ended_rise (ended_in R) (stated_number R) (block_of R b);
  each = λ t n e.
      let q = found (is_over (ended_in R) t && is_named_in (block_of R b) t) (stated_number R t) n (sym (ended_number (ended_in R) (stated_number R) (block_of R b) t) ∙ e) in
      let p = and_parts (is_over (ended_in R) t) (is_named_in (block_of R b) t) q.0 in
      record { named = p.1; ended = ended_of sh R b t h p.1 p.0; number = q.1 };
  all = λ t n e. ended_number (ended_in R) (stated_number R) (block_of R b) t ∙ cond-true _ _ _ (and_from (is_over (ended_in R) t) (is_named_in (block_of R b) t) (over_of sh R t h e) n);
}

pub cleans_are_allowed : CleansAreAllowed
cleans_are_allowed sh R o b h here = record { allowed = (h.allowed, record { called_for = called R _ h.whole; kind = clean_allowed sh R o b h.allowed here }); whole = refl }

-- two Cleans of a block that are allowed name the same

same_numbers : (sh : Shape) (R : List Record) (c d : CleanRecord) → c.dba ≡ d.dba → CleanAllowed sh R c → CleanAllowed sh R d → (t n : ℕ) → number_of c.ended t ≡ Some n → number_of d.ended t ≡ Some n
same_numbers sh R c d same a k t n e =
    let x = a.each t n e in
    k.all t (ap (λ b. is_named_in (block_of R b) t) (sym same) ∙ x.named) x.ended ∙ ap (λ (m : ℕ). Some m) (sym x.number)

both_ways : (p q : Option ℕ) → ((n : ℕ) → p ≡ Some n → q ≡ Some n) → ((n : ℕ) → q ≡ Some n → p ≡ Some n) → p ≡ q
both_ways None None f g = refl
both_ways None (Some n) f g = g n refl
both_ways (Some n) q f g = sym (f n refl)

pub cleans_are_one : CleansAreOne
cleans_are_one sh R c h a =
    let d = clean_allowed sh R a.obj c.dba h a.here in
    ap (λ (cs : List (ℕ × ℕ)). record { dba = c.dba; ended = cs })
    (rising_same c.ended (drafted_clean R c.dba).ended a.rising d.rising (λ t. both_ways (number_of c.ended t) (number_of (drafted_clean R c.dba).ended t) (same_numbers sh R c (drafted_clean R c.dba) refl a d t) (same_numbers sh R (drafted_clean R c.dba) c refl d a t)))
